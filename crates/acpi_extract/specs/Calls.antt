-- What a call is to end with, in relations, and that it ended so.
use Rattle.std.specs.Prelude.{◌≡◌, ◌⊎◌, ℕ, ◌<◌, ◌≤◌, List, [], ◌∷◌, length, Some, None, IsSomeAnd}
use Rattle.std.specs.declared.option.Option.{Option}
use Rattle.std.specs.Option.{ForSome}
use Rattle.iasl_ports.specs.Gained.{Named, Gains}
use Rattle.iasl_ports.specs.Fetched.{find_file, most_bytes}
use Rattle.iasl_ports.specs.Delivery.{Answer, status_of, due_of}
use Rattle.iasl_messages.specs.Cut.{lines_of}
use Rattle.iasl_runs.specs.Ends.{World, IsQuiet, Ends}
use Rattle.acpi_extract.specs.Dump.{Dumped, Fault}
use Rattle.acpi_extract.specs.Grammar.{IsDump, HasFault}
use Rattle.acpi_extract.specs.Table.{message_of}
use Rattle.acpi_extract.specs.Words.{Asked, Listing, request_of, IsCommandLine}
use Rattle.acpi_extract.specs.Due.{success, refusal, usage, answer_for, fault_text, memory_text}

-- The words ask for these tables of this file, and this text stands under its name.
pub record ReadsText (words : List (List ℕ)) (told : List Named) (asked : Asked) (file text : List ℕ) : Type 0 where
  pub asks : IsCommandLine words asked file
  pub stands : find_file told file ≡ Some text

-- What a call with these words is to end with, where these are the files. Words that are no command line have status 2,
-- and a file that is absent has no answer, which is status 3. A text of more than 16 MiB, which is not read, and one
-- whose lines have a fault have status 1, with the one message of the first fault; and the lines of a dump have status
-- 0, with the files and the lines of those of its tables that are asked for.
pub data IsAnswer (words : List (List ℕ)) (told : List Named) : Option Answer → Type 0 where
  bad_words : ((asked : Asked) (file : List ℕ) → IsCommandLine words asked file → ⊥) → IsAnswer words told (Some usage)
  absent : (asked : Asked) (file : List ℕ) → IsCommandLine words asked file → find_file told file ≡ None → IsAnswer words told None
  too_large : (asked : Asked) (file text : List ℕ) → ReadsText words told asked file text → most_bytes < length text →
      IsAnswer words told (Some (refusal file (message_of (6007, 1) ∷ [])))
  faulty : (asked : Asked) (file text : List ℕ) (fault : Fault) → ReadsText words told asked file text → length text ≤ most_bytes →
      HasFault 1 (lines_of text) fault → IsAnswer words told (Some (refusal file (message_of fault ∷ [])))
  a_dump : (asked : Asked) (file text : List ℕ) (tables : List Dumped) → ReadsText words told asked file text → length text ≤ most_bytes →
      IsDump (lines_of text) tables → IsAnswer words told (Some (success asked tables))

-- the text of the console: where there is no answer, that of a fault
abbrev pub text_told : Option Answer → List ℕ
text_told None = fault_text
text_told (Some answer) = answer.text

-- The call ended with this answer: its status is the answer's, the outputs gained its files and nothing else, and the console its text.
pub record EndsWith (answer : Option Answer) (status : ℕ) (before after : World) : Type 0 where
  pub is : status ≡ status_of answer
  pub files : Gains before.outputs.written after.outputs.written (due_of answer)
  pub text : Gains before.console.told after.console.told (text_told answer)

-- The call carries out these words: it had this status, and the outside was so before it and is so after it. What is
-- said of files is said where their contents are told.
pub record CarriesOut (words : List (List ℕ)) (status : ℕ) (before after : World) : Type 0 where
  -- The status, the files that are put and the console are those of the answer, or what is left of them after a fault.
  pub ends : Ends (answer_for words) fault_text memory_text status before after
  -- 0, 1 and 2 come only of what the words and the file call for: words that are no command line, a text that is too
  -- large or has a first fault, or the tables of a dump. Then the outputs gained the files of that and nothing else,
  -- and the console its text.
  pub sound : status ≤ 2 →
      ForSome before.files.contents (λ told. (answer : Option Answer) × IsAnswer words told answer × EndsWith answer status before after)
  -- And where no count rose, the call ends with whatever these call for, 3 for a file that is absent among that, or with 4.
  pub complete : ForSome before.files.contents (λ told. (answer : Option Answer) → IsAnswer words told answer → IsQuiet before after →
      EndsWith answer status before after ⊎ (status ≡ 4))
  -- A list puts no file, whatever the status.
  pub list : IsSomeAnd (request_of words) (λ request. request.asked ≡ Listing) →
      ForSome before.files.contents (λ told. Gains before.outputs.written after.outputs.written [])
