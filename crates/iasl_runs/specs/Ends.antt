-- How a run of either program ends.
use Rattle.std.specs.Prelude.{◌≡◌, ◌⊎◌, ℕ, ◌≤◌, List, [], take, IfOk, OnOk, IsErrOf, None, Result}
use Rattle.std.specs.declared.option.Option.{Option}
use Rattle.std.specs.Option.{ForSome}
use Rattle.iasl_ports.specs.Counts.{Rose, Quiet}
use Rattle.iasl_ports.specs.Gained.{Named, Gains}
use Rattle.iasl_ports.specs.Delivery.{Answer, answer_of, status_of, IsSettled, FaultCause, OutsGained, FaultTold, ConsoleGained}
use Rattle.iasl_ports.specs.declared.delivery.Due.{Due}
use Rattle.iasl_ports.specs.declared.delivery.Stop.{Stop}
use Rattle.iasl_ports.specs.declared.delivery.Stop.TheVariants.{Fault, Memory}

-- what is known of the files: what they are, where they are told, and the counts of faults and of absent files
pub record FilesSeen : Type 0 where
  pub contents : Option (List Named)
  pub faults : ℕ
  pub absents : ℕ

-- what is known of the outputs: the files that were put, where they are told, and the count of faults
pub record OutputsSeen : Type 0 where
  pub written : Option (List Named)
  pub faults : ℕ

-- what is known of the console: its text, where it is told, and the count of faults
pub record ConsoleSeen : Type 0 where
  pub told : Option (List ℕ)
  pub faults : ℕ

-- the outside at one moment
pub record World : Type 0 where
  pub files : FilesSeen
  pub outputs : OutputsSeen
  pub console : ConsoleSeen

abbrev pub files_seen : Option (List Named) → ℕ → ℕ → FilesSeen
files_seen contents faults absents = record { contents = contents; faults = faults; absents = absents }

abbrev pub outputs_seen : Option (List Named) → ℕ → OutputsSeen
outputs_seen written faults = record { written = written; faults = faults }

abbrev pub console_seen : Option (List ℕ) → ℕ → ConsoleSeen
console_seen told faults = record { told = told; faults = faults }

abbrev pub world : FilesSeen → OutputsSeen → ConsoleSeen → World
world files outputs console = record { files = files; outputs = outputs; console = console }

-- no count of faults rose
pub record IsQuiet (old new : World) : Type 0 where
  pub files : Quiet old.files.faults new.files.faults
  pub outputs : Quiet old.outputs.faults new.outputs.faults
  pub console : Quiet old.console.faults new.console.faults

-- What a run decides by its files alone, where `answer` says what it is to decide. It has no answer only where a file was
-- absent or a fetch failed, or where memory is wanted.
pub record Decides (answer : List Named → Option Answer) (decided : Result Due Stop) (old new : FilesSeen) : Type 0 where
  -- what is due is the answer
  pub due : IfOk decided (λ due. ForSome old.contents (λ told. answer told ≡ Option.Some (answer_of due)))
  -- with a status of 0, 1 or 2, and files only with 0
  pub settled : IfOk decided IsSettled
  -- a fault has a cause: a count that rose, or a file that is absent, of which there is no answer
  pub fault : IsErrOf decided Fault → Rose old.faults new.faults
      ⊎ (Rose old.absents new.absents × ForSome old.contents (λ told. answer told ≡ None))
  -- an answer comes only where no fetch failed, and so does want of memory
  pub calm : OnOk decided (new.faults ≡ old.faults)
  pub memory_calm : IsErrOf decided Memory → new.faults ≡ old.faults
  -- the files stay what they are, and their count does not fall
  pub contents : new.contents ≡ old.contents
  pub later : old.faults ≤ new.faults

-- The end of a run that was to end with `answer`, by its status: 0, 1 and 2 are the answer's, 3 is a fault of the outside, and
-- 4 want of memory. `fault` and `memory` are the texts of statuses 3 and 4.
pub record Ends (answer : List Named → Option Answer) (fault memory : List ℕ) (status : ℕ) (old new : World) : Type 0 where
  pub range : status ≤ 4
  -- the files stay what they are, and no count falls
  pub contents : new.files.contents ≡ old.files.contents
  pub read_later : old.files.faults ≤ new.files.faults
  pub put_later : old.outputs.faults ≤ new.outputs.faults
  pub told_later : old.console.faults ≤ new.console.faults
  -- where the files are told and no count rose, the status is the answer's, or 4
  pub quiet : ForSome old.files.contents (λ told. IsQuiet old new → (status ≡ status_of (answer told)) ⊎ (status ≡ 4))
  -- 0, 1 and 2 are the answer's status, whatever the counts say
  pub settled : status ≤ 2 → ForSome old.files.contents (λ told. status_of (answer told) ≡ status)
  -- and come only where no count rose
  pub read_calm : status ≤ 2 → new.files.faults ≡ old.files.faults
  pub put_calm : status ≤ 2 → new.outputs.faults ≡ old.outputs.faults
  pub told_calm : status ≤ 2 → new.console.faults ≡ old.console.faults
  -- 4 does not take the place of another's fault: no file was read or put with one
  pub memory_read_calm : status ≡ 4 → new.files.faults ≡ old.files.faults
  pub memory_put_calm : status ≡ 4 → new.outputs.faults ≡ old.outputs.faults
  -- 3 has a cause: a count that rose, or a file that is absent
  pub cause : status ≡ 3 → FaultCause (Rose old.files.faults new.files.faults) (Rose old.outputs.faults new.outputs.faults)
      (Rose old.console.faults new.console.faults)
      (Rose old.files.absents new.files.absents × ForSome old.files.contents (λ told. answer told ≡ None))
  -- 1 and 2 put no file, whatever is known of the files
  pub no_files : 1 ≤ status → status ≤ 2 → Gains old.outputs.written new.outputs.written []
  -- the files that were put
  pub outs : ForSome old.files.contents (λ told. OutsGained (answer told) status (Rose old.outputs.faults new.outputs.faults)
      (Quiet old.files.faults new.files.faults × Quiet old.outputs.faults new.outputs.faults) old.outputs.written new.outputs.written)
  -- what the console was told
  pub console : ForSome old.files.contents (λ told. ConsoleGained fault (answer told) status old.console.told new.console.told)
  pub fault_told : FaultTold fault memory status (Quiet old.console.faults new.console.faults) old.console.told new.console.told

-- the status of a run that stops without an answer
abbrev pub stop_status : Stop → ℕ
stop_status Fault = 3
stop_status Memory = 4

-- the text of that status
abbrev pub stop_text : List ℕ → List ℕ → Stop → List ℕ
stop_text fault memory Fault = fault
stop_text fault memory Memory = memory

-- What the outputs and the console are told of a due end.
pub record Delivers (fault memory : List ℕ) (due : Due) (status : ℕ) (put now_put : OutputsSeen) (told now_told : ConsoleSeen) : Type 0
  where
    -- the status that is due; 3 where a count rose, or 4
    pub is : (status ≡ due.status) ⊎ (((status ≡ 3) × (Rose put.faults now_put.faults ⊎ Rose told.faults now_told.faults)) ⊎ (status ≡ 4))
    pub outs : OutsGained (Option.Some (answer_of due)) status (Rose put.faults now_put.faults)
        (Quiet put.faults now_put.faults) put.written now_put.written
    pub console : ConsoleGained fault (Option.Some (answer_of due)) status told.told now_told.told
    pub fault_told : FaultTold fault memory status (Quiet told.faults now_told.faults) told.told now_told.told
    -- 0, 1 and 2 come only where no count rose, and no count falls
    pub put_calm : status ≤ 2 → now_put.faults ≡ put.faults
    pub told_calm : status ≤ 2 → now_told.faults ≡ told.faults
    -- 4 comes only where that of the outputs did not rise
    pub memory_calm : status ≡ 4 → now_put.faults ≡ put.faults
    pub put_later : put.faults ≤ now_put.faults
    pub told_later : told.faults ≤ now_told.faults

-- What the outputs and the console are told of a run that stops.
pub record Fails (fault memory : List ℕ) (stop : Stop) (status : ℕ) (told now_told : ConsoleSeen) : Type 0 where
  pub is : status ≡ stop_status stop
  -- its text, and some first bytes of it where the console fails too
  pub whole : Quiet told.faults now_told.faults → Gains told.told now_told.told (stop_text fault memory stop)
  pub torn : (n : ℕ) × Gains told.told now_told.told (take n (stop_text fault memory stop))
  pub later : told.faults ≤ now_told.faults

-- what the outputs and the console are told of what is decided; a run that stops puts nothing
abbrev pub Finishes : List ℕ → List ℕ → Result Due Stop → ℕ → OutputsSeen → OutputsSeen → ConsoleSeen → ConsoleSeen → Type 0
Finishes fault memory (Result.Ok due) status put now_put told now_told = Delivers fault memory due status put now_put told now_told
Finishes fault memory (Result.Err stop) status put now_put told now_told = (now_put ≡ put) × Fails fault memory stop status told now_told
