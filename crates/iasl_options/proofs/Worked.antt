-- Words and names worked out by computation.
use Rattle.std.proofs.Common.{◌≡◌, ℕ, false, true, List, [], ◌∷◌, Some, None, Ok, Err, inr, codes, refl, arith}
use Rattle.iasl_options.specs.declared.words.Key.TheVariants as key
use Rattle.iasl_options.specs.Words.{Setting, Prefix, Definition, File}
use Rattle.iasl_options.specs.Switches.{no_switch}
use Rattle.iasl_options.specs.Asking.{define_of, asked_by}
use Rattle.iasl_options.specs.CommandLine.{AskFor, no_word, rest_of_word, next_word, source_file, IsGood, IsCommandLine}
use Rattle.iasl_options.specs.Names.{output_name}

-- a definition, and a file
one_definition : asked_by (codes "-D" ∷ codes "A=7" ∷ codes "t.asl" ∷ []) ≡ Ok (record { file = Some (codes "t.asl"); prefix = None; directories = []; definitions = define_of (codes "A") (codes "7") ∷ []; only = false; enabled = true; switches = no_switch; ignored = [] })
one_definition = refl

-- a text with `=`, an option behind the file, and a value that looks like an option
all_options : asked_by (codes "-DB=C=D" ∷ codes "t" ∷ codes "-P" ∷ codes "-I" ∷ codes "-P" ∷ codes "-pout" ∷ codes "-DE" ∷ [])
    ≡ Ok (record { file = Some (codes "t"); prefix = Some (codes "out"); directories = codes "-P" ∷ []; definitions = define_of (codes "B") (codes "C=D") ∷ define_of (codes "E") [] ∷ []; only = true; enabled = true; switches = no_switch; ignored = [] })
all_options = refl

-- short messages and no warnings, one of them asked for twice
quiet_options : asked_by (codes "-we" ∷ codes "t" ∷ codes "-vi" ∷ codes "-we" ∷ [])
    ≡ Ok (record { file = Some (codes "t"); prefix = None; directories = []; definitions = []; only = false; enabled = true; switches = record { brief = true; strict = true; c_text = false; listing = false; generic = false; fold = true; short = true; shorten = true; wrap = false; acpica = false; remarks = true; warnings = true; errors = true }; ignored = [] })
quiet_options = refl

-- outputs as ACPICA's compiler names them: the prefix loses its extension
acpica_options : asked_by (codes "-p" ∷ codes "build/dsdt.aml" ∷ codes "--acpica" ∷ codes "-vs" ∷ codes "t" ∷ [])
    ≡ Ok (record { file = Some (codes "t"); prefix = Some (codes "build/dsdt"); directories = []; definitions = []; only = false; enabled = true; switches = record { brief = false; strict = false; c_text = false; listing = false; generic = false; fold = true; short = true; shorten = true; wrap = true; acpica = true; remarks = true; warnings = true; errors = true }; ignored = [] })
acpica_options = refl

-- messages that are not told, two of them by their numbers
hidden_options : asked_by (codes "-vr" ∷ codes "-vw" ∷ codes "3003" ∷ codes "t" ∷ codes "-vw2001" ∷ [])
    ≡ Ok (record { file = Some (codes "t"); prefix = None; directories = []; definitions = []; only = false; enabled = true; switches = record { brief = false; strict = false; c_text = false; listing = false; generic = false; fold = true; short = true; shorten = true; wrap = false; acpica = false; remarks = false; warnings = true; errors = true }; ignored = codes "3003" ∷ codes "2001" ∷ [] })
hidden_options = refl

-- the words that spoil others: a second prefix, `-Pn` behind `-P`, a second file, an unknown option; a value or a file is missing
second_prefix : asked_by (codes "-p" ∷ codes "a" ∷ codes "-p" ∷ codes "b" ∷ codes "t" ∷ []) ≡ Err 2
second_prefix = refl

both_ways : asked_by (codes "-P" ∷ codes "t" ∷ codes "-Pn" ∷ []) ≡ Err 2
both_ways = refl

second_file : asked_by (codes "t" ∷ codes "u" ∷ codes "v" ∷ []) ≡ Err 1
second_file = refl

unknown_option : asked_by (codes "-Pfoo" ∷ codes "t" ∷ []) ≡ Err 0
unknown_option = refl

no_value : asked_by (codes "t" ∷ codes "-D" ∷ []) ≡ Err 2
no_value = refl

no_file : asked_by (codes "-P" ∷ []) ≡ Err 1
no_file = refl

-- a command line by the forms of its words
abbrev words : List (List ℕ)
words = codes "-D" ∷ codes "A=7" ∷ codes "-pout" ∷ codes "t.asl" ∷ []

abbrev settings : List Setting
settings = Definition (codes "A") (codes "7") ∷ Prefix (codes "out") ∷ File (codes "t.asl") ∷ []

forms : AskFor words settings
forms = next_word key.Definition _ _ _ _ _ refl (codes "A", codes "7", (refl, inr refl), refl) (rest_of_word key.Prefix 111 (117 ∷ 116 ∷ []) _ _ _ _ refl refl (source_file _ _ _ refl no_word))

good : IsGood settings
good = record { file = (116, _, refl); prefix = omega arith; preprocessor = refl }

line : IsCommandLine words (record { file = Some (codes "t.asl"); prefix = Some (codes "out"); directories = []; definitions = define_of (codes "A") (codes "7") ∷ []; only = false; enabled = true; switches = no_switch; ignored = [] })
line = (settings, forms, good, refl)

-- names: the extension is replaced, a dot before a slash begins none, a prefix is whole
replaced : output_name None (codes "d.x/a.b.c") (codes ".aml") ≡ codes "d.x/a.b.aml"
replaced = refl

none_there : output_name None (codes "d.x/t") (codes ".aml") ≡ codes "d.x/t.aml"
none_there = refl

whole_prefix : output_name (Some (codes "o.u")) (codes "t.asl") (codes ".i") ≡ codes "o.u.i"
whole_prefix = refl
