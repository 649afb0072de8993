-- What one word alone asks of the program itself: the options in short, or the version.
use Rattle.std.specs.Prelude.{ℕ, ◌||◌, Bool, List, [], ◌∷◌, cond, codes, Some, None}
use Rattle.std.specs.declared.option.Option.{Option}
use Rattle.std.specs.Str.{bytes_eq}
use Rattle.host_ports.specs.declared.program_text.ProgramText.{ProgramText}
use Rattle.host_ports.specs.declared.program_text.ProgramText.TheVariants.{Help, Version}

abbrev pub asks_for_help : List ℕ → Bool
asks_for_help word = bytes_eq word (codes "-h") || bytes_eq word (codes "--help")

abbrev pub asks_for_version : List ℕ → Bool
asks_for_version word = bytes_eq word (codes "-v") || bytes_eq word (codes "--version")

abbrev pub program_text : List (List ℕ) → Option ProgramText
program_text (word ∷ []) = cond (asks_for_help word) (Some Help) (cond (asks_for_version word) (Some Version) None)
program_text words = None
