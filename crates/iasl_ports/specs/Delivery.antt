-- What a run delivers: a status, the text of the console, and the files to put.
use Rattle.std.specs.Prelude.{◌≡◌, ◌⊎◌, ℕ, ◌≤◌, List, [], ◌++◌, map, take, string_bytes, None, Some}
use Rattle.std.specs.declared.option.Option.{Option}
use Rattle.std.specs.Cow.{cow_slice_items}
use Rattle.iasl_ports.specs.Gained.{Named, Gains, GainsSome}
use Rattle.iasl_ports.specs.declared.delivery.OutFile.{OutFile}
use Rattle.iasl_ports.specs.declared.delivery.Due.{Due}

-- a file as its name and its bytes
abbrev pub name_and_bytes : OutFile → Named
name_and_bytes file = (string_bytes file.name, cow_slice_items file.bytes)

-- what a run is to end with: its status, the text of the console, and the files in the order of their putting
pub record Answer : Type 0 where
  pub status : ℕ
  pub text : List ℕ
  pub due : List Named

-- what is due, as an answer
abbrev pub answer_of : Due → Answer
answer_of due = record { status = due.status; text = due.text; due = map name_and_bytes due.files.items }

-- the status of a run: 3 where it has no answer, since its file is absent
abbrev pub status_of : Option Answer → ℕ
status_of None = 3
status_of (Some answer) = answer.status

-- the text of the console: none where there is no answer
abbrev pub text_of : Option Answer → List ℕ
text_of None = []
text_of (Some answer) = answer.text

-- the files to put: none where there is no answer
abbrev pub due_of : Option Answer → List Named
due_of None = []
due_of (Some answer) = answer.due

-- its status is 0, 1 or 2, and there are files only with 0
pub record IsSettled (due : Due) : Type 0 where
  pub range : due.status ≤ 2
  pub files : 1 ≤ due.status → due.files.items ≡ []

-- a file was read, put or told with a fault, or the file to read was absent
abbrev pub FaultCause : (read put told absent : Type 0) → Type 0
FaultCause read put told absent = read ⊎ (put ⊎ (told ⊎ absent))

-- What the outputs gained by the status. `rose` says that the count of their faults rose, `calm` that neither
-- it nor that of the files read did.
pub record OutsGained (answer : Option Answer) (status : ℕ) (rose calm : Type 0) (old new : Option (List Named)) : Type 0 where
  -- after 0, 1 and 2 all that is due
  pub ended : status ≤ 2 → Gains old new (due_of answer)
  -- after 3 and 4 the first files that are due, and a part of the next only after 3 and where their count rose
  pub stopped : 3 ≤ status → GainsSome (rose × (status ≡ 3)) old new (due_of answer)
  -- after 3, where only the console's count rose, all that is due
  pub all_but_told : status ≡ 3 → calm → Gains old new (due_of answer)

-- What the console gained by the status, whatever is known of the files. `quiet` says that the count of its
-- faults did not rise; `fault` and `memory` are the texts of statuses 3 and 4.
pub record FaultTold (fault memory : List ℕ) (status : ℕ) (quiet : Type 0) (old new : Option (List ℕ)) : Type 0 where
  -- after 3 the text of a fault
  pub fault_whole : status ≡ 3 → quiet → Gains old new fault
  -- after 4 the text of want of memory
  pub memory_whole : status ≡ 4 → quiet → Gains old new memory
  -- after 4, where the count rose too, some first bytes of that text
  pub memory_torn : status ≡ 4 → (n : ℕ) × Gains old new (take n memory)

-- What the console gained by the status, where the answer is known. `fault` is the text of status 3.
pub record ConsoleGained (fault : List ℕ) (answer : Option Answer) (status : ℕ) (old new : Option (List ℕ)) : Type 0 where
  -- after 0, 1 and 2 the answer's text
  pub ended : status ≤ 2 → Gains old new (text_of answer)
  -- after 3 some first bytes of it, and then some first bytes of the text of a fault
  pub torn : status ≡ 3 → (n : ℕ) × (m : ℕ) × Gains old new (take n (text_of answer) ++ take m fault)
