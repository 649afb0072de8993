-- What a word of a command line is.
use Rattle.std.specs.Prelude.{ℕ, ◌+◌, ◌==◌, Bool, false, cond, List, [], ◌∷◌, length, take, drop, codes, position, Some, None}
use Rattle.std.specs.declared.option.Option.{Option}
use Rattle.std.specs.Option.{unwrap_or}
use Rattle.std.specs.Str.{bytes_eq}
use Rattle.iasl_options.specs.declared.words.Key.{Key}
use Rattle.iasl_options.specs.declared.words.Key.TheVariants as key
use Rattle.iasl_options.specs.declared.switches.Switch.{Switch}
use Rattle.iasl_options.specs.Switches.{switch_of}

-- one thing that is asked for
pub data Setting : Type 0 where
  PreprocessOnly : Setting
  NoPreprocessor : Setting
  -- an option without value that may stand together with every other
  Turned : Switch → Setting
  -- the front of the output names
  Prefix : List ℕ → Setting
  -- a further directory for includes
  Directory : List ℕ → Setting
  -- a definition: a name and its text
  Definition : List ℕ → List ℕ → Setting
  -- the number of a message that is neither told nor counted
  Ignored : List ℕ → Setting
  File : List ℕ → Setting

-- A word asks for a setting, or it is an option whose value is the next word, or an option that is not known.
pub data Word : Type 0 where
  Asks : Setting → Word
  Opens : Key → Word
  Unknown : Word

-- where the text of a definition begins in its value: behind the first `=` (61)
abbrev pub equals_at : List ℕ → ℕ
equals_at value = unwrap_or (position (λ c. c == 61) value) (length value)

-- what an option with this value asks for; a definition without `=` has an empty text
abbrev pub with_value : Key → List ℕ → Setting
with_value key.Prefix value = Prefix value
with_value key.Directory value = Directory value
with_value key.Message value = Ignored value
with_value key.Definition value = Definition (take (equals_at value) value) (drop (equals_at value + 1) value)

-- an option whose value is the rest of its word, or the next word where nothing is left
abbrev pub valued : Key → List ℕ → Word
valued key [] = Opens key
valued key (c ∷ cs) = Asks (with_value key (c ∷ cs))

-- what stands behind a mark, where a word begins with it
abbrev pub behind : List ℕ → List ℕ → Option (List ℕ)
behind mark word = cond (bytes_eq (take (length mark) word) mark) (Some (drop (length mark) word)) None

abbrev pub begins_with_hyphen : List ℕ → Bool
begins_with_hyphen [] = false
begins_with_hyphen (c ∷ cs) = c == 45

-- a word that is no option that is known
abbrev pub other : List ℕ → Word
other word = cond (begins_with_hyphen word) Unknown (Asks (File word))

abbrev pub or_turned : Option Switch → Word → Word
or_turned (Some switch) rest = Asks (Turned switch)
or_turned None rest = rest

abbrev pub or_valued : Key → Option (List ℕ) → Word → Word
or_valued key (Some value) rest = valued key value
or_valued key None rest = rest

-- a word by itself
abbrev pub word_of : List ℕ → Word
word_of word =
    cond (bytes_eq word (codes "-P")) (Asks PreprocessOnly) (
    cond (bytes_eq word (codes "-Pn")) (Asks NoPreprocessor) (
    or_turned (switch_of word) (
    or_valued key.Prefix (behind (codes "-p") word) (
    or_valued key.Directory (behind (codes "-I") word) (
    or_valued key.Definition (behind (codes "-D") word) (
    or_valued key.Message (behind (codes "-vw") word) (
    other word)))))))
