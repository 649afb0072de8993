-- What a call is asked for: to compile a file, or devices that are generated, or to write the template of a table.
use Rattle.std.specs.Prelude.{◌≡◌, ℕ, ◌≤◌, nat_le, Bool, ◌&&◌, true, false, cond, map, List, [], ◌∷◌, codes, decimal, Some, None, Result}
use Rattle.std.specs.Prelude.{Ok, Err}
use Rattle.std.specs.declared.option.Option.{Option}
use Rattle.std.specs.Str.{bytes_eq, all_ascii_digits}
use Rattle.std.specs.Str.Parse.{digits_value}
use Rattle.std.specs.Char.{to_ascii_uppercase}
use Rattle.data_layout.specs.declared.table.Table.{Table}
use Rattle.data_layout.specs.Layout.{table_of}
use Rattle.iasl_options.specs.Switches.{no_switch}
use Rattle.iasl_options.specs.Asking.{Asked, asked_by}
use Rattle.iasl_options.specs.CommandLine.{IsCommandLine}

pub data Task : Type 0 where
  Compiles : Asked → Task
  -- to compile the source of so many devices
  Generates : ℕ → Task
  -- to write the template of a table
  Templates : Table → Task

-- the most devices that are generated
abbrev pub most_devices : ℕ
most_devices = 4096

-- the option of generated devices
abbrev pub generate_word : List ℕ
generate_word = codes "--generate"

-- the option of templates
abbrev pub template_word : List ℕ
template_word = codes "-T"

-- the table whose signature a word is, in letters of either case
abbrev pub table_in : List ℕ → Option Table
table_in word = table_of (map to_ascii_uppercase word)

-- ---- which words ask for a task

-- These words ask for this: they are a command line, or the option and a number from 1 to 4096 in decimal, alone, or the option and the
-- signature of a table, alone.
abbrev pub IsTask : List (List ℕ) → Task → Type 0
IsTask words (Compiles asked) = IsCommandLine words asked
IsTask words (Generates count) = (1 ≤ count) × (count ≤ most_devices) × (words ≡ generate_word ∷ decimal count ∷ [])
IsTask words (Templates table) = (word : List ℕ) × (table_in word ≡ Some table) × (words ≡ template_word ∷ word ∷ [])

-- ---- the same as a function

-- whether a word begins with a digit from 1 (49) to 9 (57)
abbrev pub begins_number : List ℕ → Bool
begins_number [] = false
begins_number (c ∷ cs) = nat_le 49 c && nat_le c 57

-- the number of devices that a word writes: digits alone, the first of which is not 0, and not more than the most
abbrev pub count_in : List ℕ → Option ℕ
count_in word = cond (begins_number word && (all_ascii_digits word && nat_le (digits_value 10 word) most_devices))
    (Some (digits_value 10 word)) None

-- a number of devices and the words behind it, of which there may be none
abbrev pub counted_by : Option ℕ → List (List ℕ) → Result Task ℕ
counted_by None words = Err 1
counted_by (Some count) [] = Ok (Generates count)
counted_by (Some count) (word ∷ words) = Err 2

-- what stands behind the option
abbrev pub generated_by : List (List ℕ) → Result Task ℕ
generated_by [] = Err 1
generated_by (word ∷ words) = counted_by (count_in word) words

-- a table and the words behind it, of which there may be none
abbrev pub templated_by : Option Table → List (List ℕ) → Result Task ℕ
templated_by None words = Err 1
templated_by (Some table) [] = Ok (Templates table)
templated_by (Some table) (word ∷ words) = Err 2

-- what stands behind the option of templates
abbrev pub template_by : List (List ℕ) → Result Task ℕ
template_by [] = Err 1
template_by (word ∷ words) = templated_by (table_in word) words

abbrev pub compiled_by : Result Asked ℕ → Result Task ℕ
compiled_by (Ok asked) = Ok (Compiles asked)
compiled_by (Err word) = Err word

-- what the words of a call ask for, or the number of the word that spoils them
abbrev pub task_by : List (List ℕ) → Result Task ℕ
task_by [] = compiled_by (asked_by [])
task_by (word ∷ words) =
    cond (bytes_eq word generate_word) (generated_by words)
    (cond (bytes_eq word template_word) (template_by words) (compiled_by (asked_by (word ∷ words))))

-- what is asked of the compilation of generated devices: nothing but the name of its output
abbrev pub generated_settings : Asked
generated_settings = record {
  file = Some (codes "generated");
  prefix = None;
  directories = [];
  definitions = [];
  only = false;
  enabled =
      true;
  switches = no_switch;
  ignored = [];
}

-- a template is no compilation; nothing is asked of it
abbrev pub template_settings : Asked
template_settings = record {
  file = None;
  prefix = None;
  directories = [];
  definitions = [];
  only = false;
  enabled = true;
  switches = no_switch;
  ignored = [];
}

abbrev pub settings_in : Result Task ℕ → Result Asked ℕ
settings_in (Ok (Compiles asked)) = Ok asked
settings_in (Ok (Generates count)) = Ok generated_settings
settings_in (Ok (Templates table)) = Ok template_settings
settings_in (Err word) = Err word

-- what the words of a call ask of its compilation
abbrev pub settings_by : List (List ℕ) → Result Asked ℕ
settings_by words = settings_in (task_by words)
