-- What words ask for.
use Rattle.std.specs.Prelude.{ℕ, suc, Bool, true, false, not, is_some, if◌then◌else◌, List, [], ◌∷◌, ◌++◌, Some, None, Result, Ok, Err}
use Rattle.std.specs.declared.option.Option.{Option}
use Rattle.asl_preprocess.specs.declared.define.Define.{Define}
use Rattle.iasl_options.specs.declared.words.Key.{Key}
use Rattle.iasl_options.specs.declared.words.Key.TheVariants as key
use Rattle.iasl_options.specs.declared.switches.Switches.{Switches}
use Rattle.iasl_options.specs.Names.{stem_of}
use Rattle.iasl_options.specs.Switches.{no_switch, with_switch}
use Rattle.iasl_options.specs.Words.{Setting, PreprocessOnly, NoPreprocessor, Turned, Prefix, Directory, Definition, Ignored, File, Word, Asks}
use Rattle.iasl_options.specs.Words.{Opens, Unknown, with_value, word_of}

-- what some first words ask for
pub record Asked : Type 0 where
  pub file : Option (List ℕ)
  pub prefix : Option (List ℕ)
  pub directories : List (List ℕ)
  pub definitions : List Define
  pub only : Bool
  pub enabled : Bool
  pub switches : Switches
  -- the numbers of warnings and remarks that are neither told nor counted, as they are written
  pub ignored : List (List ℕ)

abbrev pub nothing : Asked
nothing = record { file = None; prefix = None; directories = []; definitions = []; only = false; enabled = true; switches = no_switch; ignored = [] }

abbrev pub define_of : List ℕ → List ℕ → Define
define_of name text = record { name = name; text = text }

-- one more setting; none where it may not come any more: there is one file, which has a name, and at most one prefix, and
-- to preprocess only needs the preprocessor
abbrev pub with_setting : Asked → Setting → Option Asked
with_setting asked (Prefix prefix) =
    if is_some asked.prefix then None else
    Some
    (record {
      file = asked.file;
      prefix = Some prefix;
      directories = asked.directories;
      definitions = asked.definitions;
      only =
          asked.only;
      enabled = asked.enabled;
      switches = asked.switches;
      ignored = asked.ignored;
    })
with_setting asked (Directory directory) =
    Some
    (record {
      file = asked.file;
      prefix = asked.prefix;
      directories = asked.directories ++ directory ∷ [];
      definitions =
          asked.definitions;
      only = asked.only;
      enabled = asked.enabled;
      switches = asked.switches;
      ignored = asked.ignored;
    })
with_setting asked (Definition name text) =
    Some
    (record {
      file = asked.file;
      prefix = asked.prefix;
      directories = asked.directories;
      definitions = asked.definitions
          ++ define_of name text ∷ [];
      only = asked.only;
      enabled = asked.enabled;
      switches = asked.switches;
      ignored = asked.ignored;
    })
with_setting asked PreprocessOnly =
    if asked.enabled then
    Some
    (record {
      file = asked.file;
      prefix = asked.prefix;
      directories = asked.directories;
      definitions = asked.definitions;
      only =
          true;
      enabled = true;
      switches = asked.switches;
      ignored = asked.ignored;
    }) else None
with_setting asked NoPreprocessor =
    if asked.only then None else
    Some
    (record {
      file = asked.file;
      prefix = asked.prefix;
      directories = asked.directories;
      definitions = asked.definitions;
      only =
          asked.only;
      enabled = false;
      switches = asked.switches;
      ignored = asked.ignored;
    })
with_setting asked (Turned switch) =
    Some
    (record {
      file = asked.file;
      prefix = asked.prefix;
      directories = asked.directories;
      definitions = asked.definitions;
      only =
          asked.only;
      enabled = asked.enabled;
      switches = with_switch asked.switches switch;
      ignored = asked.ignored;
    })
with_setting asked (Ignored number) =
    Some
    (record {
      file = asked.file;
      prefix = asked.prefix;
      directories = asked.directories;
      definitions = asked.definitions;
      only =
          asked.only;
      enabled = asked.enabled;
      switches = asked.switches;
      ignored = asked.ignored ++ number ∷ [];
    })
with_setting asked (File []) = None
with_setting asked (File (c ∷ cs)) =
    if is_some asked.file then None else
    Some
    (record {
      file = Some (c ∷ cs);
      prefix = asked.prefix;
      directories = asked.directories;
      definitions = asked.definitions;
      only =
          asked.only;
      enabled = asked.enabled;
      switches = asked.switches;
      ignored = asked.ignored;
    })

-- an option that waits for its value may stand here: none where its value may not come any more
abbrev pub may_open : Asked → Key → Bool
may_open asked key.Prefix = not (is_some asked.prefix)
may_open asked _ = true

-- what is known behind some first words: what they ask for, and the option that waits for its value
pub record Behind : Type 0 where
  pub asked : Asked
  pub waiting : Option Key

abbrev pub settled : Option Asked → Option Behind
settled None = None
settled (Some asked) = Some (record { asked = asked; waiting = None })

abbrev pub behind_word : Asked → Word → Option Behind
behind_word asked (Asks setting) = settled (with_setting asked setting)
behind_word asked (Opens key) = if may_open asked key then Some (record { asked = asked; waiting = Some key }) else None
behind_word asked Unknown = None

-- one more word: it is a value, or stands by itself
abbrev pub one_more : Behind → Option Key → List ℕ → Option Behind
one_more behind None word = behind_word behind.asked (word_of word)
one_more behind (Some key) value = settled (with_setting behind.asked (with_value key value))

-- the front of the output names: with `--acpica` a prefix without its extension, as ACPICA's compiler has it
abbrev pub front_of : Bool → Option (List ℕ) → Option (List ℕ)
front_of true (Some prefix) = Some (stem_of prefix)
front_of true None = None
front_of false prefix = prefix

-- what is asked for by all that the words say
abbrev pub as_asked : Asked → Asked
as_asked asked = record {
  file = asked.file;
  prefix = front_of asked.switches.acpica asked.prefix;
  directories = asked.directories;
  definitions = asked.definitions;
  only = asked.only;
  enabled = asked.enabled;
  switches = asked.switches;
  ignored = asked.ignored;
}

-- the words are used up: no option waits, and there is a file
abbrev pub at_end : Asked → Option Key → Option (List ℕ) → ℕ → Result Asked ℕ
at_end asked None (Some file) n = Ok (as_asked asked)
at_end asked _ _ n = Err n

abbrev pub or_spoilt : ℕ → Option Behind → (Behind → Result Asked ℕ) → Result Asked ℕ
or_spoilt n None go = Err n
or_spoilt n (Some next) go = go next

-- What words ask for, from the word with this number on; or the number of the first after which no words make them good,
-- or how many there are.
abbrev pub asked_from : ℕ → Behind → List (List ℕ) → Result Asked ℕ
asked_from n behind [] = at_end behind.asked behind.waiting behind.asked.file n
asked_from n behind (word ∷ words) = or_spoilt n (one_more behind behind.waiting word) (λ next. asked_from (suc n) next words)

abbrev pub begin : Behind
begin = record { asked = nothing; waiting = None }

-- what the words of a call ask for
abbrev pub asked_by : List (List ℕ) → Result Asked ℕ
asked_by words = asked_from 0 begin words
