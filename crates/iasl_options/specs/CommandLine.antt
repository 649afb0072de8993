-- Which words are a command line and what it asks for, and which word spoils words that are none.
use Rattle.std.specs.Prelude.{◌≡◌, ℕ, ◌+◌, ◌<◌, ◌≤◌, ◌==◌, ◌&&◌, ◌⊎◌, Bool, true, false, not, List, [], ◌∷◌, ◌++◌, length, take, codes}
use Rattle.std.specs.Prelude.{flat_map, Some, None}
use Rattle.std.specs.declared.option.Option.{Option}
use Rattle.std.specs.List.{list_any}
use Rattle.asl_preprocess.specs.declared.define.Define.{Define}
use Rattle.iasl_options.specs.declared.words.Key.{Key}
use Rattle.iasl_options.specs.declared.words.Key.TheVariants as key
use Rattle.iasl_options.specs.declared.switches.Switch.{Switch}
use Rattle.iasl_options.specs.declared.switches.Switches.{Switches}
use Rattle.iasl_options.specs.Switches.{switch_word, is_brief, is_strict, is_c_text, is_listing, is_generic, keeps_constants}
use Rattle.iasl_options.specs.Switches.{keeps_integers, keeps_names, wraps_externals, is_acpica, hides_remarks, hides_warnings, hides_errors}
use Rattle.iasl_options.specs.Words.{Setting, PreprocessOnly, NoPreprocessor, Turned, Prefix, Directory, Definition, Ignored, File}
use Rattle.iasl_options.specs.Words.{begins_with_hyphen}
use Rattle.iasl_options.specs.Asking.{Asked, define_of, as_asked}

-- ---- words and settings

abbrev pub has_equals : List ℕ → Bool
has_equals name = list_any (λ c. c == 61) name

-- the value of a definition: a name alone, whose text is empty, or a name, `=` (61) and a text; no name has a `=`
abbrev pub IsNameAndText : List ℕ → List ℕ → List ℕ → Type 0
IsNameAndText value name text = (has_equals name ≡ false) × (((value ≡ name) × (text ≡ [])) ⊎ (value ≡ name ++ 61 ∷ text))

-- an option with this value asks for this setting
abbrev pub IsValue : Key → List ℕ → Setting → Type 0
IsValue key.Prefix value setting = setting ≡ Prefix value
IsValue key.Directory value setting = setting ≡ Directory value
IsValue key.Message value setting = setting ≡ Ignored value
IsValue key.Definition value setting = (name : List ℕ) × (text : List ℕ) × IsNameAndText value name text × (setting ≡ Definition name text)

-- what an option that has a value begins with
abbrev pub mark : Key → List ℕ
mark key.Prefix = codes "-p"
mark key.Directory = codes "-I"
mark key.Definition = codes "-D"
mark key.Message = codes "-vw"

-- These words ask for these settings, one after another.
pub data AskFor : List (List ℕ) → List Setting → Type 0 where
  -- no word is left
  no_word : AskFor [] []
  -- an option without value
  preprocess_only : (word : List ℕ) (words : List (List ℕ)) (settings : List Setting) → word ≡ codes "-P" → AskFor words settings →
      AskFor (word ∷ words) (PreprocessOnly ∷ settings)
  no_preprocessor : (word : List ℕ) (words : List (List ℕ)) (settings : List Setting) → word ≡ codes "-Pn" → AskFor words settings →
      AskFor (word ∷ words) (NoPreprocessor ∷ settings)
  switched : (switch : Switch) (word : List ℕ) (words : List (List ℕ)) (settings : List Setting) → word ≡ switch_word switch →
      AskFor words settings → AskFor (word ∷ words) (Turned switch ∷ settings)
  -- an option whose value is the rest of its word, where something is left
  rest_of_word : (key : Key) (c : ℕ) (cs word : List ℕ) (setting : Setting) (words : List (List ℕ)) (settings : List Setting) →
      word ≡ mark key ++ c ∷ cs → IsValue key (c ∷ cs) setting → AskFor words settings → AskFor (word ∷ words) (setting ∷ settings)
  -- an option whose value is the next word
  next_word : (key : Key) (word value : List ℕ) (setting : Setting) (words : List (List ℕ)) (settings : List Setting) → word ≡ mark key →
      IsValue key value setting → AskFor words settings → AskFor (word ∷ value ∷ words) (setting ∷ settings)
  -- a file, which does not begin with a hyphen
  source_file : (word : List ℕ) (words : List (List ℕ)) (settings : List Setting) → begins_with_hyphen word ≡ false → AskFor words settings
      → AskFor (word ∷ words) (File word ∷ settings)

-- ---- what settings are together

abbrev pub file_of : Setting → List (List ℕ)
file_of (File file) = file ∷ []
file_of _ = []

abbrev pub prefix_of : Setting → List (List ℕ)
prefix_of (Prefix prefix) = prefix ∷ []
prefix_of _ = []

abbrev pub directory_of : Setting → List (List ℕ)
directory_of (Directory directory) = directory ∷ []
directory_of _ = []

abbrev pub definition_of : Setting → List Define
definition_of (Definition name text) = define_of name text ∷ []
definition_of _ = []

abbrev pub ignored_of : Setting → List (List ℕ)
ignored_of (Ignored number) = number ∷ []
ignored_of _ = []

abbrev pub is_preprocess_only : Setting → Bool
is_preprocess_only PreprocessOnly = true
is_preprocess_only _ = false

abbrev pub is_no_preprocessor : Setting → Bool
is_no_preprocessor NoPreprocessor = true
is_no_preprocessor _ = false

-- a switch of some kind
abbrev pub turns : (Switch → Bool) → Setting → Bool
turns kind (Turned switch) = kind switch
turns kind _ = false

-- Exactly one file, whose name is not empty; at most one prefix; not both to preprocess only and no preprocessor.
pub record IsGood (settings : List Setting) : Type 0 where
  pub file : (c : ℕ) × (cs : List ℕ) × (flat_map file_of settings ≡ (c ∷ cs) ∷ [])
  pub prefix : length (flat_map prefix_of settings) ≤ 1
  pub preprocessor : (list_any is_preprocess_only settings && list_any is_no_preprocessor settings) ≡ false

abbrev pub first : List (List ℕ) → Option (List ℕ)
first [] = None
first (text ∷ texts) = Some text

-- what the switches among settings ask for
abbrev pub switches_in : List Setting → Switches
switches_in settings = record {
  brief = list_any (turns is_brief) settings;
  strict = list_any (turns is_strict) settings;
  c_text = list_any (turns is_c_text) settings;
  listing = list_any (turns is_listing) settings;
  generic = list_any (turns is_generic) settings;
  fold = not (list_any (turns keeps_constants) settings);
  short = not (list_any (turns keeps_integers) settings);
  shorten = not (list_any (turns keeps_names) settings);
  wrap = list_any (turns wraps_externals) settings;
  acpica = list_any (turns is_acpica) settings;
  remarks = not (list_any (turns hides_remarks) settings);
  warnings = not (list_any (turns hides_warnings) settings);
  errors = not (list_any (turns hides_errors) settings);
}

-- all that settings say; directories, definitions and numbers are in the order of the words
abbrev pub said : List Setting → Asked
said settings = record {
  file = first (flat_map file_of settings);
  prefix = first (flat_map prefix_of settings);
  directories = flat_map directory_of settings;
  definitions = flat_map definition_of settings;
  only = list_any is_preprocess_only settings;
  enabled = not (list_any is_no_preprocessor settings);
  switches = switches_in settings;
  ignored = flat_map ignored_of settings;
}

-- all that settings ask for
abbrev pub gathered : List Setting → Asked
gathered settings = as_asked (said settings)

-- ---- command lines

-- These words are a command line, and ask for this.
abbrev pub IsCommandLine : List (List ℕ) → Asked → Type 0
IsCommandLine words asked = (settings : List Setting) × AskFor words settings × IsGood settings × (asked ≡ gathered settings)

-- ---- words that are spoilt, where this says which words are good and what they ask for

-- some further words, which may be none, make them good
abbrev pub HasHope : {R : Type 0} → (List (List ℕ) → R → Type 0) → List (List ℕ) → Type 0
HasHope {R = R} IsLine words = (more : List (List ℕ)) × (asked : R) × IsLine (words ++ more) asked

-- no further words make them good
abbrev pub IsHopeless : {R : Type 0} → (List (List ℕ) → R → Type 0) → List (List ℕ) → Type 0
IsHopeless {R = R} IsLine words = (more : List (List ℕ)) (asked : R) → IsLine (words ++ more) asked → ⊥

-- The word with this number, from 0, spoils the words.
pub data IsOffending {R : Type 0} (IsLine : List (List ℕ) → R → Type 0) (words : List (List ℕ)) (number : ℕ) : Type 0 where
  -- it is the first after which there is no hope
  hopeless : number < length words → HasHope IsLine (take number words) → IsHopeless IsLine (take (number + 1) words) →
      IsOffending IsLine words number
  -- there is hope after the last word, but the words are not good: the number is how many there are
  ended : number ≡ length words → HasHope IsLine words → ((asked : R) → IsLine words asked → ⊥) → IsOffending IsLine words number
