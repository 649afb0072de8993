-- What is known between two rows.
use Rattle.std.specs.Prelude.{ℕ, ◌+◌, cond, List, [], ◌∷◌, ◌++◌, sum_by, length, Result, Ok, Err}
use Rattle.std.specs.List.{list_any, position_or_len}
use Rattle.iasl_ports.specs.Fetched.{same_name}
use Rattle.iasl_messages.specs.declared.place.Place.{Place}
use Rattle.iasl_messages.specs.declared.place.Line.{Line}
use Rattle.iasl_messages.specs.declared.message.Message.{Message}
use Rattle.asl_macros.specs.History.{History}
use Rattle.asl_directives.specs.declared.branches.Branch.{Branch}

-- the definitions, the latest first; the lines and the notes so far; and the names of the files that were fetched
pub record State : Type 0 where
  pub history : History
  pub lines : List Line
  pub notes : List Message
  pub files : List (List ℕ)

-- nothing is known
abbrev pub blank : State
blank = record { history = []; lines = []; notes = []; files = [] }

-- a state with another history, other lines, notes or files
abbrev pub with_history : State → History → State
with_history state history = record { history = history; lines = state.lines; notes = state.notes; files = state.files }

abbrev pub with_lines : State → List Line → State
with_lines state lines = record { history = state.history; lines = lines; notes = state.notes; files = state.files }

abbrev pub with_notes : State → List Message → State
with_notes state notes = record { history = state.history; lines = state.lines; notes = notes; files = state.files }

abbrev pub with_files : State → List (List ℕ) → State
with_files state files = record { history = state.history; lines = state.lines; notes = state.notes; files = files }

-- the same within a file, with the branches that enclose the next line there
pub record Pass : Type 0 where
  pub state : State
  pub branches : List Branch

-- a first stop: its message, and the names of the files that were fetched so far
abbrev pub FirstStop : Type 0
FirstStop = Message × List (List ℕ)

abbrev pub Outcome : Type 0 → Type 0
Outcome X = Result X FirstStop

-- one thing and then another, up to the first stop
abbrev pub then : {X Y : Type 0} → Outcome X → (X → Outcome Y) → Outcome Y
then (Ok x) f = f x
then (Err stop) f = Err stop

abbrev pub at : ℕ → ℕ → ℕ → Place
at file line column = record { file = file; line = line; column = column }

abbrev pub message_at : ℕ → Place → List ℕ → Message
message_at number place name = record { number = number; place = place; name = name }

-- stopped by this message
abbrev pub stopped : {X : Type 0} → State → ℕ → Place → List ℕ → Outcome X
stopped state number place name = Err (message_at number place name, state.files)

-- the number of a file, and the files with this one, each once, in the order of first fetch
abbrev pub number_of : List ℕ → List (List ℕ) → ℕ
number_of name files = position_or_len (same_name name) files

abbrev pub with_file : List ℕ → List (List ℕ) → List (List ℕ)
with_file name files = cond (list_any (same_name name) files) files (files ++ name ∷ [])

-- how many bytes the lines have with an LF behind each
abbrev pub total_size : List Line → ℕ
total_size lines = sum_by (λ line. length line.text + 1) lines
