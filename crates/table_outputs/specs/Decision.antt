-- What a call has decided before it makes its outputs.
use Rattle.std.specs.Prelude.{◌≡◌, ◌⊎◌, ℕ, ◌≤◌, Bool, true, false, is_some, List, [], ◌∷◌, ◌++◌, map, string_bytes, Some, None, ⊤, IfOk}
use Rattle.std.specs.Prelude.{OnOk, IsErrOf, Result, Ok, Err}
use Rattle.std.specs.declared.option.Option.{Option}
use Rattle.std.specs.Option.{ForSome}
use Rattle.iasl_ports.specs.Counts.{Rose}
use Rattle.iasl_ports.specs.Gained.{Named}
use Rattle.iasl_ports.specs.Delivery.{Answer, answer_of, name_and_bytes, IsSettled}
use Rattle.iasl_ports.specs.declared.delivery.Due.{Due}
use Rattle.iasl_ports.specs.declared.delivery.Stop.{Stop}
use Rattle.iasl_ports.specs.declared.delivery.Stop.TheVariants.{Fault, Memory}
use Rattle.iasl_runs.specs.Ends.{FilesSeen}
use Rattle.iasl_messages.specs.declared.place.Piece.{Piece}
use Rattle.iasl_backends.specs.declared.asked.Asked.{Asked as Kinds}
use Rattle.iasl_backends.specs.declared.backend.Kind.TheVariants.{RawAml, CHex, Listing, Template}
use Rattle.iasl_backends.specs.Rendering.{rendering}
use Rattle.iasl_options.specs.Asking.{Asked}
use Rattle.iasl_options.specs.Task.{Task, Compiles, Generates, Templates, generated_settings, settings_by, task_by}
use Rattle.table_outputs.specs.declared.decision.TableNames.{TableNames}
use Rattle.table_outputs.specs.declared.decision.OutputNames.{OutputNames}
use Rattle.table_outputs.specs.declared.decision.OutputNames.TheVariants.{OfTable, OfTemplate}
use Rattle.table_outputs.specs.declared.decision.TableOutputs.{TableOutputs}
use Rattle.table_outputs.specs.declared.decision.Decision.{Decision}
use Rattle.table_outputs.specs.declared.decision.Decision.TheVariants.{Ends, Makes}
use Rattle.table_outputs.specs.declared.outputs.Rendered.{Rendered}
use Rattle.table_outputs.specs.declared.outputs.Rendered.TheVariants.{Ended, Made}

-- a file of this text, where it has a name
abbrev pub file_under : {S : Type 0} → (S → List ℕ) → Option S → List ℕ → List Named
file_under name_of None text = []
file_under name_of (Some name) text = (name_of name, text) ∷ []

-- the files of a table in pieces, in the order of their putting
abbrev pub table_files_under : TableNames → List Piece → List Named
table_files_under names pieces =
    (string_bytes names.table, rendering RawAml pieces)
    ∷ file_under string_bytes names.c_text (rendering CHex pieces) ++ file_under string_bytes names.listing (rendering Listing pieces)

-- the files of tables, those of each in turn
abbrev pub all_files : List TableOutputs → List Named
all_files [] = []
all_files (table ∷ tables) = table_files_under table.names table.pieces ++ all_files tables

-- those of a table, or the one of a template
abbrev pub files_under : OutputNames → List Piece → List Named
files_under (OfTable names) pieces = table_files_under names pieces
files_under (OfTemplate name) pieces = (string_bytes name, rendering Template pieces) ∷ []

-- what a decision is to end with
abbrev pub end_of : Decision → Answer
end_of (Ends due) = answer_of due
end_of (Makes making) = record { status = 0; text = making.text; due = all_files making.earlier ++ files_under making.names making.pieces }

-- the kinds of a table's outputs that have names
abbrev pub table_kinds : TableNames → Kinds
table_kinds names = record { template = false; c_text = is_some names.c_text; listing = is_some names.listing }

-- a template alone
abbrev pub template_kinds : Kinds
template_kinds = record { template = true; c_text = false; listing = false }

-- the kinds of outputs that have names
abbrev pub kinds_of : OutputNames → Kinds
kinds_of (OfTable names) = table_kinds names
kinds_of (OfTemplate name) = template_kinds

-- the kinds of outputs that a compilation is asked for
abbrev pub kinds_in : Asked → Kinds
kinds_in asked = record { template = false; c_text = asked.switches.c_text; listing = asked.switches.listing }

-- of each table, the outputs of these kinds have names
abbrev pub HaveKinds : Kinds → List TableOutputs → Type 0
HaveKinds kinds [] = ⊤
HaveKinds kinds (table ∷ tables) = (table_kinds table.names ≡ kinds) × HaveKinds kinds tables

-- each table of a decision has outputs of the same kinds
abbrev pub SameKinds : Decision → Type 0
SameKinds (Ends due) = ⊤
SameKinds (Makes making) = HaveKinds (kinds_of making.names) making.earlier

-- An end is settled, and has status 0 only where preprocessed text alone is asked for; else the outputs of the kinds that are asked for
-- are made, of each table.
abbrev pub IsDecidedBy : Asked → Decision → Type 0
IsDecidedBy asked (Ends due) = IsSettled due × (due.status ≡ 0 → asked.only ≡ true)
IsDecidedBy asked (Makes making) = (asked.only ≡ false) × (kinds_of making.names ≡ kinds_in asked)
    × HaveKinds (kinds_in asked) making.earlier

-- of a template nothing but its text is made
abbrev pub IsTemplate : Decision → Type 0
IsTemplate (Ends due) = ⊥
IsTemplate (Makes making) = (kinds_of making.names ≡ template_kinds) × (making.earlier ≡ [])

-- the same of words, where they are good
abbrev pub IsDecidedFor : Result Task ℕ → Decision → Type 0
IsDecidedFor (Ok (Compiles asked)) decision = IsDecidedBy asked decision
IsDecidedFor (Ok (Generates count)) decision = IsDecidedBy generated_settings decision
IsDecidedFor (Ok (Templates table)) decision = IsTemplate decision
IsDecidedFor (Err word) (Ends due) = IsSettled due × (due.status ≡ 0 → ⊥)
IsDecidedFor (Err word) (Makes making) = ⊥

-- where outputs are to be made, the last are of these pieces
abbrev pub IsMadeOf : List Piece → Decision → Type 0
IsMadeOf pieces (Ends due) = ⊤
IsMadeOf pieces (Makes making) = making.pieces ≡ pieces

-- What a run decides by its files alone, where `answer` says what it is to end with and `pieces` of which pieces its
-- last outputs are. It decides nothing only where a file was absent or a fetch failed, or where memory is wanted.
pub record Settles (answer : List Named → Option Answer) (pieces : List Named → List Piece) (is_decided : Decision → Type 0)
    (decided : Result Decision Stop) (old new : FilesSeen) : Type 0 where
  pub due : IfOk decided (λ decision. ForSome old.contents (λ told. answer told ≡ Option.Some (end_of decision)))
  pub made : IfOk decided (λ decision. ForSome old.contents (λ told. IsMadeOf (pieces told) decision))
  pub settled : IfOk decided is_decided
  -- a fault has a cause: a count that rose, or a file that is absent, of which there is no answer
  pub fault : IsErrOf decided Fault → Rose old.faults new.faults
      ⊎ (Rose old.absents new.absents × ForSome old.contents (λ told. answer told ≡ None))
  -- a decision comes only where no fetch failed, and so does want of memory
  pub calm : OnOk decided (new.faults ≡ old.faults)
  pub memory_calm : IsErrOf decided Memory → new.faults ≡ old.faults
  -- the files stay what they are, and their count does not fall
  pub contents : new.contents ≡ old.contents
  pub later : old.faults ≤ new.faults

-- The texts of the outputs of a decision are made, those of the tables before the last in files of their own, unless
-- memory is wanted; an end stays the same.
abbrev pub IsRendered : Result Decision Stop → Result Rendered Stop → Type 0
IsRendered (Ok (Makes making)) (Ok (Made text earlier names pieces)) =
    (text ≡ making.text) × (names ≡ making.names) × (pieces ≡ making.pieces) × (map name_and_bytes earlier.items ≡ all_files making.earlier)
IsRendered (Ok (Makes making)) (Ok (Ended due)) = ⊥
IsRendered (Ok (Makes making)) (Err stop) = stop ≡ Memory
IsRendered (Ok (Ends due)) (Ok (Ended rendered)) = rendered ≡ due
IsRendered (Ok (Ends due)) (Ok (Made text earlier names pieces)) = ⊥
IsRendered (Ok (Ends due)) (Err stop) = ⊥
IsRendered (Err stop) (Ok rendered) = ⊥
IsRendered (Err stop) (Err later) = later ≡ stop

-- What is due is the end of a decision, unless memory is wanted for the list of its outputs.
abbrev pub IsDueOf : Result Decision Stop → Result Due Stop → Type 0
IsDueOf (Ok (Makes making)) (Ok due) = (answer_of due ≡ end_of (Makes making)) × IsSettled due
IsDueOf (Ok (Makes making)) (Err stop) = stop ≡ Memory
IsDueOf (Ok (Ends decided)) (Ok due) = due ≡ decided
IsDueOf (Ok (Ends decided)) (Err stop) = ⊥
IsDueOf (Err stop) (Ok due) = ⊥
IsDueOf (Err stop) (Err later) = later ≡ stop

-- the same of what was rendered
abbrev pub IsDueOfRendered : Result Rendered Stop → Result Due Stop → Type 0
IsDueOfRendered (Ok (Made text earlier names pieces)) (Ok due) =
    (answer_of due ≡ record { status = 0; text = text; due = map name_and_bytes earlier.items ++ files_under names pieces }) × IsSettled due
IsDueOfRendered (Ok (Made text earlier names pieces)) (Err stop) = stop ≡ Memory
IsDueOfRendered (Ok (Ended rendered)) (Ok due) = due ≡ rendered
IsDueOfRendered (Ok (Ended rendered)) (Err stop) = ⊥
IsDueOfRendered (Err stop) (Ok due) = ⊥
IsDueOfRendered (Err stop) (Err later) = later ≡ stop

-- whether words ask for preprocessed text alone
abbrev pub only_by : Result Asked ℕ → Bool
only_by (Ok asked) = asked.only
only_by (Err word) = false

abbrev pub asks_for_text : List (List ℕ) → Bool
asks_for_text words = only_by (settings_by words)

-- whether words ask for a template
abbrev pub wants_template : Result Task ℕ → Bool
wants_template (Ok (Compiles asked)) = false
wants_template (Ok (Generates count)) = false
wants_template (Ok (Templates table)) = true
wants_template (Err word) = false

abbrev pub asks_for_template : List (List ℕ) → Bool
asks_for_template words = wants_template (task_by words)
