-- What a main file comes to.
use Rattle.std.specs.Prelude.{ℕ, zero, suc, Bool, cond, nat_lt, List, [], ◌∷◌, ◌++◌, length, map, reverse, codes, Option, Some, None, Ok}
use Rattle.std.specs.Prelude.{Err}
use Rattle.iasl_ports.specs.Gained.{Named}
use Rattle.iasl_ports.specs.Fetched.{find_file, most_bytes}
use Rattle.iasl_messages.specs.declared.place.Place.{Place}
use Rattle.iasl_messages.specs.declared.place.Line.{Line}
use Rattle.iasl_messages.specs.declared.message.Message.{Message}
use Rattle.asl_macros.specs.History.{History, Definition, Defines}
use Rattle.asl_directives.specs.Forms.{IncludedFile}
use Rattle.asl_directives.specs.Branches.{outermost}
use Rattle.asl_directives.specs.declared.branches.Branch.{Branch}
use Rattle.asl_preprocess.specs.declared.define.Define.{Define}
use Rattle.asl_preprocess.specs.Rows.{Row, Directive, Ordinary, rows_of}
use Rattle.asl_preprocess.specs.Search.{SearchResult, Missing, Large, Whole, names_for, search}
use Rattle.asl_preprocess.specs.State.{State, Pass, Outcome, then, at, message_at, stopped, number_of, with_file, with_files}
use Rattle.asl_preprocess.specs.Lines.{RowEffect, Goes, Asks, of_line}
use Rattle.asl_preprocess.specs.Directives.{of_directive}

-- the files that there are, the further directories, and whether the preprocessor is enabled
pub record Setting : Type 0 where
  pub told : List Named
  pub directories : List (List ℕ)
  pub enabled : Bool

-- how a file of this name and these bytes is read; none where that would be too deep
abbrev pub Reading : Type 0
Reading = Option (State → List ℕ → List ℕ → Outcome State)

-- what a row of the file with this number does
abbrev pub of_row : Bool → ℕ → Row → Pass → Outcome RowEffect
of_row enabled file (Directive n text) pass = of_directive file n text pass
of_row enabled file (Ordinary n in_comment text) pass = of_line enabled file n in_comment text pass

-- a file that was found is read in place of the line that asks for it
abbrev pub read_found : (State → List ℕ → List ℕ → Outcome State) → IncludedFile → Place → State → SearchResult → Outcome State
read_found read asked place state Missing = stopped state 6001 place asked.name
read_found read asked place state Large = stopped state 6007 (at place.file place.line 1) []
read_found read asked place state (Whole name bytes) =
    read (with_files state (with_file name state.files)) name bytes

-- the file that the file of the name `own` asks for; too deep a one is not looked for
abbrev pub included : Reading → Setting → List ℕ → IncludedFile → Place → State → Outcome State
included None setting own asked place state = stopped state 6002 place asked.name
included (Some read) setting own asked place state =
    read_found read asked place state (search setting.told (names_for setting.directories own asked))

abbrev pub in_pass : Pass → Outcome State → Outcome Pass
in_pass pass (Ok state) = Ok (record { state = state; branches = pass.branches })
in_pass pass (Err stop) = Err stop

abbrev pub done : Reading → Setting → List ℕ → RowEffect → Outcome Pass
done reading setting own (Goes pass) = Ok pass
done reading setting own (Asks asked place pass) = in_pass pass (included reading setting own asked place pass.state)

-- rows one after another
abbrev pub of_rows : Reading → Setting → ℕ → List ℕ → List Row → Pass → Outcome Pass
of_rows reading setting file own [] pass = Ok pass
of_rows reading setting file own (row ∷ rows) pass =
    then (then (of_row setting.enabled file row pass) (done reading setting own)) (of_rows reading setting file own rows)

-- at a file's end no `#if` may be open
abbrev pub closed : ℕ → State → Option Branch → Outcome State
closed file state None = Ok state
closed file state (Some branch) = stopped state 6004 (at file branch.line branch.column) []

abbrev pub at_end : ℕ → Pass → Outcome State
at_end file pass = closed file pass.state (outermost pass.branches)

abbrev pub of_text : Reading → Setting → State → List ℕ → List ℕ → Outcome State
of_text reading setting state name bytes =
    let file = number_of name state.files in
    then (of_rows reading setting file name (rows_of setting.enabled bytes) (record { state = state; branches = [] })) (at_end file)

-- how the files below a file are read, where there may be this many levels of them
abbrev pub reading_at : Setting → ℕ → Reading
reading_at setting zero = None
reading_at setting (suc levels) = Some (of_text (reading_at setting levels) setting)

-- a file with so many levels of files below it
abbrev pub of_file : Setting → ℕ → State → List ℕ → List ℕ → Outcome State
of_file setting levels = of_text (reading_at setting levels) setting

-- 32 levels below the main file
abbrev pub most_levels : ℕ
most_levels = 32

-- a definition of the words, which counts from the start on
abbrev pub definition_of : Define → Definition
definition_of define = Defines define.name define.text

-- the definitions before the first line: the last of the words' counts first, and `__IASL__` stands before them
abbrev pub first_history : List Define → History
first_history defines = reverse (map definition_of defines) ++ Defines (codes "__IASL__") (codes "1") ∷ []

abbrev pub first_state : List ℕ → List Define → State
first_state name defines = record { history = first_history defines; lines = []; notes = []; files = name ∷ [] }

-- What a main file comes to: the names of the files that were fetched, the lines and the notes; or the first stop, with
-- the names of the files that were fetched before it; or it is missing.
pub data Preprocessed : Type 0 where
  Given : List (List ℕ) → List Line → List Message → Preprocessed
  Stopped : Message → List (List ℕ) → Preprocessed
  Absent : Preprocessed

abbrev pub given : Outcome State → Preprocessed
given (Ok state) = Given state.files state.lines state.notes
given (Err stop) = Stopped stop.0 stop.1

-- a main file of more than 16 MiB is stopped at its first line
abbrev pub too_large_main : Message
too_large_main = message_at 6007 (at 0 1 1) []

abbrev pub of_main : Setting → List ℕ → List Define → List ℕ → Preprocessed
of_main setting name defines bytes =
    cond (nat_lt most_bytes (length bytes)) (Stopped too_large_main (name ∷ []))
    (given (of_file setting most_levels (first_state name defines) name bytes))

abbrev pub of_found : Setting → List ℕ → List Define → Option (List ℕ) → Preprocessed
of_found setting name defines None = Absent
of_found setting name defines (Some bytes) = of_main setting name defines bytes

abbrev pub setting_of : List Named → List (List ℕ) → Bool → Setting
setting_of told directories enabled = record { told = told; directories = directories; enabled = enabled }

-- what the main file of this name comes to, where these are the files, the further directories and the definitions of
-- the words, and the preprocessor is enabled or not
abbrev pub preprocessed : List Named → List ℕ → List (List ℕ) → List Define → Bool → Preprocessed
preprocessed told name directories defines enabled = of_found (setting_of told directories enabled) name defines (find_file told name)
