-- The code's words and answers as the definition's.
use Rattle.std.specs.Prelude.{◌≡◌, ℕ, ⊤, List, Some, None, Result, Ok, Err}
use Rattle.std.specs.declared.option.Option.{Option}
use Rattle.iasl_options.specs.declared.words.Setting as code
use Rattle.iasl_options.specs.declared.words.Setting.TheVariants as c
use Rattle.iasl_options.specs.declared.words.Word as code_word
use Rattle.iasl_options.specs.declared.words.Word.TheVariants as w
use Rattle.std.specs.Str.{IsUtf8}
use Rattle.iasl_options.specs.declared.draft.Draft.{Draft}
use Rattle.iasl_options.specs.declared.draft.Step.{Step}
use Rattle.iasl_options.specs.declared.draft.Step.TheVariants as s
use Rattle.iasl_options.specs.declared.request.Options.{Options}
use Rattle.iasl_options.specs.declared.request.WordsStop.{WordsStop}
use Rattle.iasl_options.specs.declared.request.WordsStop.TheVariants as stop
use Rattle.iasl_options.specs.Asking.{Asked, Behind}
use Rattle.iasl_options.specs.Words.{Setting, PreprocessOnly, NoPreprocessor, Turned, Prefix, Directory, Definition, Ignored, File, Word, Asks}
use Rattle.iasl_options.specs.Words.{Opens, Unknown}

abbrev pub shown_setting : code.Setting → Setting
shown_setting c.PreprocessOnly = PreprocessOnly
shown_setting c.NoPreprocessor = NoPreprocessor
shown_setting (c.Turned switch) = Turned switch
shown_setting (c.Prefix value) = Prefix value.now
shown_setting (c.Directory value) = Directory value.now
shown_setting (c.Definition name text) = Definition name.now text.now
shown_setting (c.Ignored number) = Ignored number.now
shown_setting (c.File file) = File file.now

abbrev pub shown_word : code_word.Word → Word
shown_word (w.Asks setting) = Asks (shown_setting setting)
shown_word (w.Opens key) = Opens key
shown_word w.Unknown = Unknown

-- what a draft has
abbrev pub asked_in : Draft → Asked
asked_in draft = record {
  file = draft.file;
  prefix = draft.prefix;
  directories = draft.dirs;
  definitions = draft.defines;
  only =
      draft.only;
  enabled = draft.enabled;
  switches = draft.switches;
  ignored = draft.ignored;
}

-- what a step through the words comes to
abbrev pub stepped : Step → Asked → Option Behind
stepped (s.Next waiting) asked = Some (record { asked = asked; waiting = waiting })
stepped s.Spoilt asked = None

-- what options ask for
abbrev pub asked_of : Options → Asked
asked_of options = record {
  file = Some options.file;
  prefix = options.prefix;
  directories = options.dirs;
  definitions =
      options.defines;
  only = options.only;
  enabled = options.enabled;
  switches = options.switches;
  ignored = options.ignored;
}

-- what a call answers, unless memory runs out
abbrev pub Answers : Result Options WordsStop → Result Asked ℕ → Type 0
Answers (Ok options) asked = asked ≡ Ok (asked_of options)
Answers (Err (stop.Bad word)) asked = asked ≡ Err word
Answers (Err stop.Memory) asked = ⊤

-- a text that is there is UTF-8
abbrev pub IsText : Option (List ℕ) → Type 0
IsText None = ⊤
IsText (Some text) = IsUtf8 text

-- the file and the prefix are UTF-8
pub record AreTexts (options : Options) : Type 0 where
  pub file : IsUtf8 options.file
  pub prefix : IsText options.prefix

-- P of the word that a call tells to spoil the words, where it tells one
abbrev pub IfBad : {T : Type 0} → Result T WordsStop → (ℕ → Type 0) → Type 0
IfBad (Err (stop.Bad word)) P = P word
IfBad (Err stop.Memory) P = ⊤
IfBad (Ok answer) P = ⊤
