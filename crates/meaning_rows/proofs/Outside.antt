-- The words of rows whose values another implementation gives: bytes as hexadecimal text, what a session is asked,
-- what is told of it, and the terms of sources.
use Prim.Native.String.{String}
use Rattle.std.proofs.Common.{ℕ, ◌+◌, ◌-◌, ◌*◌, Bool, true, false, List, [], ◌∷◌, ◌++◌, Option}
use Rattle.std.specs.Prelude.{codes, nat_lt, if◌then◌else◌}
use Rattle.acpi_values.specs.declared.width.Width.{Width}
use Rattle.acpi_values.specs.declared.width.Width.TheVariants.{W64}
use Rattle.acpi_values.specs.declared.fault.Fault.{Fault}
use Rattle.acpi_values.specs.declared.operator.IntOp.{IntOp}
use Rattle.acpi_values.specs.declared.operator.DataOp.{DataOp}
use Rattle.acpi_values.specs.declared.operator.EventOp.{EventOp}
use Rattle.acpi_values.specs.declared.operator.Plain.TheVariants as Plain
use Rattle.acpi_values.specs.Paths.{AbsolutePath, NameSeg}
use Rattle.acpi_values.specs.Values as V
use Rattle.acpi_values.specs.Values.{Value, Data, Reference, Elements, no_elements, element, Place}
use Rattle.acpi_state.specs.Objects as E
use Rattle.acpi_state.specs.Objects.{Names, lookup}
use Rattle.acpi_state.specs.Forms.{LocalSlot, ArgSlot}
use Rattle.acpi_state.specs.Outcomes.{Flow, Gives, Result, Done, Stopped, Faulted}
use Rattle.acpi_state.specs.Sessions.{Report, Request}
use Rattle.asl_tree.specs.declared.path.Path.{Path}
use Rattle.asl_tree.specs.FieldItems.{FieldItem, UnitItem}
use Rattle.asl_tree.specs.Tree.{UnitName, Tree, InSlot, Use, Apply, Operated, Trees, no_trees, tree}
use Rattle.asl_meaning.specs.Declarations.{known_of}
use Rattle.asl_meaning.specs.SourceSession.{source_session}
use Rattle.asl_lower.specs.Nodes.{named_all}
use Rattle.asl_prints.specs.Forms.{formed_all}
use Rattle.hidden_locals.specs.Switches.{without_switches}
use Rattle.aml_code.specs.Header.{HeaderFields, table_bytes}
use Rattle.aml_meaning.specs.Encoded.{encoded_terms}
use Rattle.aml_meaning.specs.ByteSession.{byte_session}
use Rattle.named_sessions.specs.Core.{core_of}
use Rattle.meaning_rows.proofs.Rows.{at, fields}

-- Bytes

abbrev digit : ℕ → ℕ
digit code = if nat_lt code 0x3A then code - 0x30 else code - 0x37

abbrev digits : List ℕ → List ℕ
digits (high ∷ low ∷ blank ∷ rest) = (16 * digit high + digit low) ∷ digits rest
digits (high ∷ low ∷ []) = (16 * digit high + digit low) ∷ []
digits _ = []

-- two hexadecimal digits in upper case for each byte, with blanks between
abbrev pub hex : String → List ℕ
hex line = digits (codes line)

-- a table behind its signature: its length, revision and checksum, then what is the same in each of them, then its terms
abbrev pub table : String → List ℕ → List ℕ
table start terms = codes "SSDT" ++ hex start ++ codes "OEMX00TABLE001" ++ hex "01 00 00 00" ++ codes "INTL" ++ hex "05 01 21 20" ++ terms

-- Values

abbrev pub at_root : String → AbsolutePath
at_root segment = codes segment ∷ []

abbrev pub number : ℕ → Value
number n = Data (V.Integer n)

abbrev pub text : String → Value
text characters = Data (V.String (codes characters))

abbrev pub buffer : String → Value
buffer line = Data (V.Buffer (hex line))

abbrev elements : List Value → Elements
elements [] = no_elements
elements (v ∷ vs) = element v (elements vs)

abbrev pub packaged : List Value → Value
packaged vs = V.Package (elements vs)

abbrev pub reference : Place → Value
reference place = Reference place

-- Sessions

abbrev pub call : AbsolutePath → List Value → Request
call path args = record { path = path; args = args }

-- the objects of other tables that are there, the bound, the answers, the calls, and the paths whose values are told
pub record Asked : Type 0 where
  pub there : Names
  pub bound : ℕ
  pub answers : List Value
  pub calls : List Request
  pub paths : List AbsolutePath

-- how the load and each call ended, all events, the answers that are left, and the values at the end
pub record Told : Type 0 where
  pub results : List (Result Flow)
  pub events : List E.Event
  pub left : List Value
  pub values : List (Option Value)

abbrev pub gives : Value → Result Flow
gives v = Done (Gives v)

abbrev pub faults : Fault → Result Flow
faults fault = Stopped (Faulted fault)

abbrev pub results_of : List Report → List (Result Flow)
results_of [] = []
results_of (r ∷ rs) = r.result ∷ results_of rs

abbrev values_at : List (AbsolutePath × Value) → List AbsolutePath → List (Option Value)
values_at values [] = []
values_at values (path ∷ paths) = lookup values path ∷ values_at values paths

-- what is told of the last of some reports, after some results
abbrev told_last : List (Result Flow) → List AbsolutePath → List Report → Told
told_last results paths [] = record { results = results; events = []; left = []; values = [] }
told_last results paths (r ∷ []) = record { results = results; events = r.events; left = r.answers; values = values_at r.values paths }
told_last results paths (r ∷ q ∷ rs) = told_last results paths (q ∷ rs)

abbrev told : List AbsolutePath → List Report → Told
told paths reports = told_last (results_of reports) paths reports

-- what is told by the meaning of a table's bytes
abbrev pub of_bytes : List ℕ → Asked → Told
of_bytes bytes asked = told asked.paths (byte_session bytes asked.there asked.bound asked.answers asked.calls)

-- and by the meaning of a source
abbrev pub of_source : Width → Trees → Asked → Told
of_source width terms asked = told asked.paths (source_session width (known_of terms) terms asked.there asked.bound asked.answers asked.calls)

-- Terms

abbrev pub terms : List Tree → Trees
terms [] = no_trees
terms (t ∷ ts) = tree t (terms ts)

-- the table of a source: what stands for its forms and its Switches, its symbols named, its names spelled
abbrev pub written_whole : Width → HeaderFields → Trees → List ℕ
written_whole width header source = table_bytes header (encoded_terms width true (core_of false (named_all (without_switches (formed_all source)))))

-- the table of a source of revision 2
abbrev pub written : Trees → List ℕ
written source = table_bytes fields (encoded_terms W64 true (core_of false (named_all source)))

abbrev pub path : Bool → ℕ → List NameSeg → Path
path root up segs = record { root = root; up = up; segs = segs }

-- a path of one segment
abbrev pub one : String → Path
one segment = path false 0 (codes segment ∷ [])

abbrev pub name : String → Tree
name segment = Use at (one segment)

abbrev pub local : ℕ → Tree
local i = InSlot (LocalSlot i)

abbrev pub arg : ℕ → Tree
arg i = InSlot (ArgSlot i)

-- an operator on integers that is written as a symbol
abbrev pub symbol : IntOp → List Tree → Tree
symbol op args = Operated (Plain.Number op) (terms args)

-- an operator that is written as a word
abbrev pub data_op : DataOp → List Tree → List Tree → Tree
data_op op args targets = Apply (Plain.Data op) (terms args) (terms targets)

abbrev pub event_op : EventOp → List Tree → Tree
event_op op args = Apply (Plain.Event op) (terms args) no_trees

abbrev pub deref_of : Tree → Tree
deref_of t = data_op DataOp.DerefOf (t ∷ []) []

abbrev pub ref_of : Tree → Tree
ref_of t = data_op DataOp.RefOf (t ∷ []) []

abbrev pub type_of : Tree → Tree
type_of t = data_op DataOp.ObjectType (t ∷ []) []

-- X [I], and X++
abbrev pub element_of : Tree → Tree → Tree
element_of t i = Operated (Plain.Data DataOp.Index) (terms (t ∷ i ∷ []))

abbrev pub increment : Tree → Tree
increment t = Operated (Plain.Data DataOp.Increment) (terms (t ∷ []))

abbrev pub unit : String → ℕ → FieldItem UnitName
unit segment bits = UnitItem (record { at = at; segment = codes segment }) bits
