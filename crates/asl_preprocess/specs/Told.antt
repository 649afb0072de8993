-- What the code's state and answers tell of the definition's.
use Rattle.std.specs.Prelude.{◌≡◌, ℕ, ◌+◌, ◌≤◌, Bool, true, false, List, [], ⊤, Option, Some, None, Result, Ok, Err}
use Rattle.std.specs.Result.{IsOkAnd}
use Rattle.iasl_ports.specs.Fetched.{most_bytes}
use Rattle.iasl_ports.specs.Gained.{Named}
use Rattle.iasl_messages.specs.declared.place.Place.{Place}
use Rattle.iasl_messages.specs.declared.message.Message.{Message}
use Rattle.asl_macros.specs.Table.{Tells}
use Rattle.asl_directives.specs.declared.branches.Branch.{Branch}
use Rattle.asl_directives.specs.Forms.{IncludedFile, file_name_of}
use Rattle.asl_preprocess.specs.declared.work.Work.{Work}
use Rattle.asl_preprocess.specs.declared.stop.ReadingStop.{ReadingStop}
use Rattle.asl_preprocess.specs.declared.stop.ReadingStop.TheVariants.{At, ReadFault, Memory}
use Rattle.asl_preprocess.specs.declared.directives.Wanted.{Wanted}
use Rattle.asl_preprocess.specs.declared.reading.Setting.{Setting as SettingOfCode}
use Rattle.asl_preprocess.specs.OwnName.{IsAlone}
use Rattle.asl_preprocess.specs.State.{State, Outcome, message_at, total_size}
use Rattle.asl_preprocess.specs.Lines.{RowEffect, Goes, Asks}
use Rattle.asl_preprocess.specs.Preprocess.{Setting, setting_of}

-- the code's state is the definition's
pub record Shows (work : Work) (state : State) : Type 0 where
  pub macros : Tells work.macros state.history
  pub lines : work.lines ≡ state.lines
  pub notes : work.notes ≡ state.notes
  pub files : work.files ≡ state.files
  pub size : work.size ≡ total_size state.lines
  pub room : work.size ≤ most_bytes + 1
  pub alone : work.others ≡ false → IsAlone state.history

-- the code's setting, where these are the files that there are
abbrev pub setting_by : List Named → SettingOfCode → Setting
setting_by told setting = setting_of told setting.directories.now setting.enabled

-- a refusal with this message, or want of memory
abbrev pub Refuses : ReadingStop → Message → Type 0
Refuses (At message) wanted = message ≡ wanted
Refuses ReadFault wanted = ⊥
Refuses Memory wanted = ⊤

-- the first stop with these files, or want of memory
abbrev pub StopsWith : {X : Type 0} → ReadingStop → List (List ℕ) → Outcome X → Type 0
StopsWith (At message) files outcome = outcome ≡ Err (message, files)
StopsWith ReadFault files outcome = ⊥
StopsWith Memory files outcome = ⊤

-- this message, where there is no value
abbrev pub Lacks : {X : Type 0} → ReadingStop → Message → Option X → Type 0
Lacks (At told) message value = (value ≡ None) × (told ≡ message)
Lacks ReadFault message value = ⊥
Lacks Memory message value = ⊤

-- the value of a condition, or a refusal where it has none
abbrev pub Tests : Result Bool ReadingStop → Message → Option Bool → Type 0
Tests (Ok value) message truth = truth ≡ Some value
Tests (Err stop) message truth = Lacks stop message truth

-- nothing is asked for, and this is known
abbrev pub ShowsGoing : Work → List Branch → RowEffect → Type 0
ShowsGoing work branches (Goes pass) = Shows work pass.state × (branches ≡ pass.branches)
ShowsGoing work branches (Asks asked place pass) = ⊥

-- what the code asks for
abbrev pub asked_for : Wanted → IncludedFile
asked_for wanted = record { quoted = wanted.quoted; name = wanted.name }

-- a file that is asked for, or a wrong form where there is none
abbrev pub Includes : Result Wanted ReadingStop → Place → Option IncludedFile → Type 0
Includes (Ok wanted) place asked = (asked ≡ Some (asked_for wanted)) × (wanted.place ≡ place)
Includes (Err stop) place asked = Lacks stop (message_at 6003 place []) asked

-- the same of a name in quotes
abbrev pub IncludesName : Result Wanted ReadingStop → Place → Option (List ℕ) → Type 0
IncludesName (Ok wanted) place name = (name ≡ Some wanted.name) × (wanted.quoted ≡ true) × (wanted.place ≡ place)
IncludesName (Err stop) place name = Lacks stop (message_at 6003 place []) name

-- a line's stop: it asks for a file in a wrong form; or want of memory
abbrev pub LacksFile : ReadingStop → Place → Option (List ℕ) → Type 0
LacksFile (At message) place asked = (name : List ℕ) × (asked ≡ Some name) × (file_name_of name ≡ None)
    × (message ≡ message_at 6003 place [])
LacksFile ReadFault place asked = ⊥
LacksFile Memory place asked = ⊤

-- the file that a line asks for in quotes, if it asks for one
abbrev pub AsksByLine : Result (Option Wanted) ReadingStop → Place → Option (List ℕ) → Type 0
AsksByLine (Ok None) place asked = asked ≡ None
AsksByLine (Ok (Some wanted)) place asked = (name : List ℕ) × (asked ≡ Some name) × (file_name_of name ≡ Some wanted.name)
    × (wanted.quoted ≡ true) × (wanted.place ≡ place)
AsksByLine (Err stop) place asked = LacksFile stop place asked

-- a file is asked for
abbrev pub ShowsAsking : Wanted → Work → List Branch → RowEffect → Type 0
ShowsAsking wanted work branches (Goes pass) = ⊥
ShowsAsking wanted work branches (Asks asked place pass) =
    (asked_for wanted ≡ asked) × (wanted.place ≡ place) × Shows work pass.state × (branches ≡ pass.branches)

-- what a step that asks for no file comes to
abbrev pub Steps : Result (Unit {0}) ReadingStop → Work → List Branch → Outcome RowEffect → Type 0
Steps (Ok u) work branches outcome = IsOkAnd outcome (ShowsGoing work branches)
Steps (Err stop) work branches outcome = StopsWith stop work.files outcome

-- what a row comes to
abbrev pub Does : Result (Option Wanted) ReadingStop → Work → List Branch → Outcome RowEffect → Type 0
Does (Ok None) work branches outcome = IsOkAnd outcome (ShowsGoing work branches)
Does (Ok (Some wanted)) work branches outcome = IsOkAnd outcome (ShowsAsking wanted work branches)
Does (Err stop) work branches outcome = StopsWith stop work.files outcome
