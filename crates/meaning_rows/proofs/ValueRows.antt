-- Worked sessions of operators, computed from the definitions alone.
use Rattle.std.proofs.Common.{◌≡◌, ℕ, ◌+◌, true, false, List, [], ◌∷◌, ◌++◌, refl}
use Rattle.std.specs.Prelude.{codes}
use Rattle.acpi_values.specs.declared.width.Width.TheVariants.{W32, W64}
use Rattle.acpi_values.specs.declared.operator.IntOp.{IntOp}
use Rattle.acpi_values.specs.declared.operator.DataOp.{DataOp}
use Rattle.acpi_values.specs.declared.operator.EventOp.{EventOp}
use Rattle.acpi_values.specs.declared.operator.Plain.{Plain}
use Rattle.acpi_values.specs.declared.fault.Fault.TheVariants as Fault
use Rattle.acpi_values.specs.Values as V
use Rattle.acpi_values.specs.Values.{Value, Data}
use Rattle.acpi_state.specs.Objects.{Event, Debug, Timer, Sleep}
use Rattle.acpi_state.specs.Outcomes.{Flow, Normal, Gives, Result, Done, Stopped, Faulted}
use Rattle.acpi_state.specs.Forms.{LocalSlot, ArgSlot}
use Rattle.acpi_state.specs.Sessions.{Report, Request}
use Rattle.asl_tree.specs.declared.path.Path.{Path}
use Rattle.asl_tree.specs.declared.term.Literal.TheVariants as Literal
use Rattle.asl_tree.specs.Tree.{Tree, Integer, Constant, String, InSlot, Debug as DebugTerm, Omitted, Raw, Use, Apply, Buffer, Package, CondRefOf, Return, Name, Method, Mutex, Event as EventTerm, Trees, no_trees, tree}
use Rattle.asl_meaning.specs.Declarations.{known_of}
use Rattle.asl_meaning.specs.SourceSession.{source_session}
use Rattle.aml_meaning.specs.Encoded.{encoded, encoded_terms}
use Rattle.aml_code.specs.Header.{table_bytes}
use Rattle.aml_meaning.specs.ByteSession.{byte_session}
use Rattle.aml_meaning.specs.Codes.{code_front}
use Rattle.meaning_rows.proofs.Rows.{one_segment, at, fields, results}

abbrev call_of : ℕ → List Value → Request
call_of letter args = record { path = (letter ∷ 0x5F ∷ 0x5F ∷ 0x5F ∷ []) ∷ []; args = args }

abbrev list_of : List Tree → Trees
list_of [] = no_trees
list_of (t ∷ ts) = tree t (list_of ts)

abbrev number_op : IntOp → List Tree → List Tree → Tree
number_op op args targets = Apply (Plain.Number op) (list_of args) (list_of targets)

abbrev data_op : DataOp → List Tree → List Tree → Tree
data_op op args targets = Apply (Plain.Data op) (list_of args) (list_of targets)

abbrev local : ℕ → Tree
local i = InSlot (LocalSlot i)

abbrev arg : ℕ → Tree
arg i = InSlot (ArgSlot i)

abbrev name : ℕ → Tree
name letter = Use at (one_segment letter)

abbrev method : ℕ → ℕ → List Tree → Tree
method letter arity body = Method at (one_segment letter) arity (list_of body)

abbrev bytes_of : Tree → List ℕ
bytes_of t = encoded W64 true t

abbrev table_of : Trees → List ℕ
table_of terms = table_bytes fields (encoded_terms W64 true terms)

abbrev run_bytes : Trees → List Value → List Request → List Report
run_bytes terms answers requests = byte_session (table_of terms) [] 1 answers requests

abbrev run_source : Trees → List Value → List Request → List Report
run_source terms answers requests = source_session W64 (known_of terms) terms [] 1 answers requests

abbrev number : ℕ → Result Flow
number n = Done (Gives (Data (V.Integer n)))

abbrev text : List ℕ → Result Flow
text t = Done (Gives (Data (V.String t)))

abbrev last_events : List Report → List Event
last_events [] = []
last_events (r ∷ []) = r.events
last_events (r ∷ s ∷ rs) = last_events (s ∷ rs)

-- Method (M, 1) {Return (Add (Arg0, 1))}
abbrev add_one : Trees
add_one = list_of (method 0x4D 1 (Return (number_op IntOp.Add (arg 0 ∷ Integer 1 ∷ []) (Omitted ∷ [])) ∷ []) ∷ [])

add_one_bytes : encoded_terms W64 true add_one ≡ 0x14 ∷ 0x0B ∷ 0x4D ∷ 0x5F ∷ 0x5F ∷ 0x5F ∷ 0x01 ∷ 0xA4 ∷ 0x72 ∷ 0x68 ∷ 0x01 ∷ 0x00 ∷ []
add_one_bytes = refl

abbrev add_calls : List Request
add_calls =
    call_of 0x4D (Data (V.Integer 0xFFFFFFFFFFFFFFFF) ∷ []) ∷ call_of 0x4D (Data (V.String (codes "1F")) ∷ []) ∷ call_of 0x4D (V.Package V.no_elements ∷ []) ∷ []

add_results : results (run_bytes add_one [] add_calls) ≡ Done (Normal false) ∷ number 0 ∷ number 0x20 ∷ Stopped (Faulted Fault.WrongType) ∷ []
unfolding code_front
add_results = refl

add_same : run_bytes add_one [] add_calls ≡ run_source add_one [] add_calls
unfolding code_front
add_same = refl

-- Local0 = (Arg0 + 1) * 2
product_bytes : bytes_of (number_op IntOp.Multiply (number_op IntOp.Add (arg 0 ∷ Integer 1 ∷ []) (Omitted ∷ []) ∷ Integer 2 ∷ []) (local 0 ∷ []))
    ≡ 0x77 ∷ 0x72 ∷ 0x68 ∷ 0x01 ∷ 0x00 ∷ 0x0A ∷ 0x02 ∷ 0x60 ∷ []
product_bytes = refl

-- Local0 = 1 / 0
abbrev quotient : Tree
quotient = number_op IntOp.Divide (Integer 1 ∷ Integer 0 ∷ []) (Omitted ∷ local 0 ∷ [])

quotient_bytes : bytes_of quotient ≡ 0x78 ∷ 0x01 ∷ 0x00 ∷ 0x00 ∷ 0x60 ∷ []
quotient_bytes = refl

-- Local0 = Local1 - Local2 - Local3, and Local0 = Local1 = Local2
differences : bytes_of (number_op IntOp.Subtract (number_op IntOp.Subtract (local 1 ∷ local 2 ∷ []) (Omitted ∷ []) ∷ local 3 ∷ []) (local 0 ∷ []))
    ≡ 0x74 ∷ 0x74 ∷ 0x61 ∷ 0x62 ∷ 0x00 ∷ 0x63 ∷ 0x60 ∷ []
differences = refl

stores : bytes_of (data_op DataOp.Store (data_op DataOp.Store (local 2 ∷ local 1 ∷ []) [] ∷ local 0 ∷ []) []) ≡ 0x70 ∷ 0x70 ∷ 0x62 ∷ 0x61 ∷ 0x60 ∷ []
stores = refl

-- Name (S, "AB"), and Name (P, Package () {})
text_bytes : bytes_of (Name at (one_segment 0x53) (String (codes "AB"))) ≡ 0x08 ∷ 0x53 ∷ 0x5F ∷ 0x5F ∷ 0x5F ∷ 0x0D ∷ 0x41 ∷ 0x42 ∷ 0x00 ∷ []
text_bytes = refl

package_bytes : bytes_of (Name at (one_segment 0x50) (Package 0 no_trees)) ≡ 0x08 ∷ 0x50 ∷ 0x5F ∷ 0x5F ∷ 0x5F ∷ 0x12 ∷ 0x02 ∷ 0x00 ∷ []
package_bytes = refl

-- Method (M) {Name (X, 7) Return (\M.X)}, whose name goes away with each call
abbrev inner_name : Trees
inner_name =
    list_of (method 0x4D 0 (Name at (one_segment 0x58) (Integer 7) ∷ Return (Use at (record { root = true; up = 0; segs = (0x4D ∷ 0x5F ∷ 0x5F ∷ 0x5F ∷ []) ∷ (0x58 ∷ 0x5F ∷ 0x5F ∷ 0x5F ∷ []) ∷ [] })) ∷ []) ∷ [])

inner_bytes : encoded_terms W64 true inner_name
    ≡ 0x14 ∷ 0x18 ∷ 0x4D ∷ 0x5F ∷ 0x5F ∷ 0x5F ∷ 0x00 ∷ 0x08 ∷ 0x58 ∷ 0x5F ∷ 0x5F ∷ 0x5F ∷ 0x0A ∷ 0x07 ∷ 0xA4 ∷ 0x5C ∷ 0x2E ∷ 0x4D ∷ 0x5F ∷ 0x5F ∷ 0x5F ∷ 0x58 ∷ 0x5F ∷ 0x5F ∷ 0x5F ∷ []
inner_bytes = refl

inner_results : results (run_bytes inner_name [] (call_of 0x4D [] ∷ call_of 0x4D [] ∷ [])) ≡ Done (Normal false) ∷ number 7 ∷ number 7 ∷ []
unfolding code_front
inner_results = refl

-- methods A, B, .. without arguments, each of which returns an expression, and calls of them all
abbrev returning : ℕ → List Tree → List Tree
returning letter [] = []
returning letter (t ∷ ts) = method letter 0 (Return t ∷ []) ∷ returning (letter + 1) ts

abbrev calls_of : ℕ → List Tree → List Request
calls_of letter [] = []
calls_of letter (t ∷ ts) = call_of letter [] ∷ calls_of (letter + 1) ts

abbrev values_of : List Tree → List (Result Flow)
values_of ts = results (run_source (list_of (returning 0x41 ts)) [] (calls_of 0x41 ts))

abbrev bytes_values_of : List Tree → List (Result Flow)
bytes_values_of ts = results (run_bytes (list_of (returning 0x41 ts)) [] (calls_of 0x41 ts))

abbrev numbers : List Tree
numbers =
    number_op IntOp.LEqual (String (codes "abc") ∷ String (codes "abd") ∷ []) []
    ∷ number_op IntOp.LLess (String (codes "ab") ∷ String (codes "abc") ∷ []) []
    ∷ number_op IntOp.ShiftLeft (Integer 1 ∷ Integer 64 ∷ []) (Omitted ∷ [])
    ∷ number_op IntOp.FromBcd (Integer 0x1234 ∷ []) (Omitted ∷ [])
    ∷ number_op IntOp.ToBcd (Integer 1234 ∷ []) (Omitted ∷ [])
    ∷ number_op IntOp.FromBcd (Integer 0x1A ∷ []) (Omitted ∷ [])
    ∷ number_op IntOp.FindSetLeftBit (Integer 0x90 ∷ []) (Omitted ∷ [])
    ∷ number_op IntOp.FindSetRightBit (Integer 0x90 ∷ []) (Omitted ∷ [])
    ∷ number_op IntOp.LNot (Constant Literal.Zero ∷ []) []
    ∷ number_op IntOp.Mod (Integer 7 ∷ Integer 0 ∷ []) (Omitted ∷ [])
    ∷ []

number_values : values_of numbers
    ≡ Done (Normal false) ∷ number 0 ∷ number 0xFFFFFFFFFFFFFFFF ∷ number 0 ∷ number 1234 ∷ number 0x1234 ∷ Stopped (Faulted Fault.BadDigit) ∷ number 8 ∷ number 5 ∷ number 0xFFFFFFFFFFFFFFFF
    ∷ Stopped (Faulted Fault.DivideByZero) ∷ []
number_values = refl

number_bytes_same : bytes_values_of numbers ≡ values_of numbers
unfolding code_front
number_bytes_same = refl

-- Method (M) {Local0 = 1 / 0}, and one that stores both results of a division
abbrev dividing : Trees
dividing =
    list_of (method 0x4D 0 (quotient ∷ [])
    ∷ method 0x4E 0 (number_op IntOp.Divide (Integer 17 ∷ Integer 5 ∷ []) (local 0 ∷ local 1 ∷ []) ∷ Return (number_op IntOp.Subtract (local 1 ∷ local 0 ∷ []) (Omitted ∷ [])) ∷ []) ∷ [])

divided : results (run_bytes dividing [] (call_of 0x4D [] ∷ call_of 0x4E [] ∷ [])) ≡ Done (Normal false) ∷ Stopped (Faulted Fault.DivideByZero) ∷ number 1 ∷ []
unfolding code_front
divided = refl

divided_same : run_bytes dividing [] (call_of 0x4D [] ∷ call_of 0x4E [] ∷ []) ≡ run_source dividing [] (call_of 0x4D [] ∷ call_of 0x4E [] ∷ [])
unfolding code_front
divided_same = refl

abbrev texts : List Tree
texts =
    data_op DataOp.Concatenate (String (codes "AB") ∷ Integer 0x1F ∷ []) (Omitted ∷ [])
    ∷ data_op DataOp.ToHexString (Integer 255 ∷ []) (Omitted ∷ [])
    ∷ data_op DataOp.ToDecimalString (Buffer (Integer 3) (1 ∷ 20 ∷ 255 ∷ []) ∷ []) (Omitted ∷ [])
    ∷ data_op DataOp.ToInteger (String (codes "0x1F") ∷ []) (Omitted ∷ [])
    ∷ data_op DataOp.Mid (String (codes "ABCDE") ∷ Integer 1 ∷ Integer 3 ∷ []) (Omitted ∷ [])
    ∷ data_op DataOp.ToString (Buffer (Integer 4) (0x41 ∷ 0x42 ∷ 0x00 ∷ 0x43 ∷ []) ∷ Constant Literal.Ones ∷ []) (Omitted ∷ [])
    ∷ data_op DataOp.DerefOf (data_op DataOp.Index (Package 2 (list_of (Integer 1 ∷ String (codes "X") ∷ [])) ∷ Integer 1 ∷ []) (Omitted ∷ []) ∷ []) []
    ∷ data_op DataOp.Match (Package 3 (list_of (Integer 1 ∷ Integer 5 ∷ Integer 9 ∷ [])) ∷ Raw 1 5 ∷ Integer 4 ∷ Raw 1 0 ∷ Integer 0 ∷ Integer 0 ∷ []) []
    ∷ data_op DataOp.ConcatenateResTemplate (Buffer (Integer 3) (1 ∷ 0x79 ∷ 0 ∷ []) ∷ Buffer (Integer 3) (2 ∷ 0x79 ∷ 9 ∷ []) ∷ []) (Omitted ∷ [])
    ∷ []

text_values : values_of texts
    ≡ Done (Normal false) ∷ text (codes "AB000000000000001F") ∷ text (codes "0x00000000000000FF") ∷ text (codes "1,20,255") ∷ number 31 ∷ text (codes "BCD") ∷ text (codes "AB") ∷ text (codes "X") ∷ number 1
    ∷ Done (Gives (Data (V.Buffer (1 ∷ 2 ∷ 0x79 ∷ 0 ∷ [])))) ∷ []
text_values = refl

text_bytes_same : bytes_values_of texts ≡ values_of texts
unfolding code_front
text_bytes_same = refl

-- Name (X, "AB")  Name (B, Buffer (3) {1, 2, 3})  Name (P, Package () {\X, 7})
abbrev root_name : ℕ → Path
root_name letter = record { root = true; up = 0; segs = (letter ∷ 0x5F ∷ 0x5F ∷ 0x5F ∷ []) ∷ [] }

abbrev objects : List Tree
objects =
    Name at (one_segment 0x58) (String (codes "AB"))
    ∷ Name at (one_segment 0x42) (Buffer (Integer 3) (1 ∷ 2 ∷ 3 ∷ []))
    ∷ Name at (one_segment 0x50) (Package 2 (list_of (Use at (root_name 0x58) ∷ Integer 7 ∷ [])))
    ∷ []

abbrev store_into : Tree → Tree → Tree
store_into value place = data_op DataOp.Store (value ∷ place ∷ []) []

abbrev index_of : Tree → ℕ → Tree
index_of data_ i = data_op DataOp.Index (data_ ∷ Integer i ∷ []) (Omitted ∷ [])

abbrev deref_of : Tree → Tree
deref_of t = data_op DataOp.DerefOf (t ∷ []) []

-- a store to a String, one through an index, a reference out of a Package, and one to a Local
abbrev using_objects : Trees
using_objects =
    list_of (objects ++
    method 0x45 0 (deref_of (deref_of (index_of (name 0x50) 0)) ∷ Return (deref_of (deref_of (index_of (name 0x50) 0))) ∷ [])
    ∷ method 0x41 0 (store_into (Integer 0x1234) (name 0x58) ∷ Return (name 0x58) ∷ [])
    ∷ method 0x43 0 (store_into (Integer 0x155) (index_of (name 0x42) 1) ∷ Return (name 0x42) ∷ [])
    ∷ method 0x46 0 (store_into (Integer 4) (local 1) ∷ store_into (data_op DataOp.RefOf (local 1 ∷ []) []) (local 0) ∷ data_op DataOp.Increment (deref_of (local 0) ∷ []) [] ∷ Return (number_op IntOp.Add (local 0 ∷ local 1 ∷ []) (Omitted ∷ [])) ∷ [])
    ∷ [])

abbrev object_calls : List Request
object_calls = call_of 0x45 [] ∷ call_of 0x41 [] ∷ call_of 0x43 [] ∷ call_of 0x46 [] ∷ []

object_values : results (run_source using_objects [] object_calls)
    ≡ Done (Normal false) ∷ text (codes "AB") ∷ text (codes "0000000000001234") ∷ Done (Gives (Data (V.Buffer (1 ∷ 0x55 ∷ 3 ∷ [])))) ∷ number 10 ∷ []
object_values = refl

object_same : run_bytes using_objects [] object_calls ≡ run_source using_objects [] object_calls
unfolding code_front
object_same = refl

-- what is asked and told
abbrev telling : Trees
telling =
    list_of (method 0x4D 0 (CondRefOf (name 0x51) (local 0) ∷ store_into (CondRefOf (name 0x51) Omitted) DebugTerm ∷ Apply (Plain.Event EventOp.Sleep) (list_of (Integer 5 ∷ [])) no_trees ∷ Return (Apply (Plain.Event EventOp.Timer) no_trees no_trees) ∷ [])
    ∷ method 0x4E 0 (data_op DataOp.Increment (local 0 ∷ []) [] ∷ [])
    ∷ method 0x4F 0 (store_into (data_op DataOp.ObjectType (DebugTerm ∷ []) []) (local 0) ∷ Return (local 0) ∷ []) ∷ [])

telling_results : results (run_bytes telling (Data (V.Integer 9) ∷ []) (call_of 0x4D [] ∷ call_of 0x4E [] ∷ call_of 0x4F [] ∷ []))
    ≡ Done (Normal false) ∷ number 9 ∷ Stopped (Faulted Fault.Uninitialized) ∷ number 0x10 ∷ []
unfolding code_front
telling_results = refl

telling_events : last_events (run_bytes telling (Data (V.Integer 9) ∷ []) (call_of 0x4D [] ∷ []))
    ≡ Debug (Data (V.Integer 0)) ∷ Sleep 5 ∷ Timer ∷ []
unfolding code_front
telling_events = refl

-- Mutex (L, 0)  Event (V)  Method (M) {Return (Acquire (L, 0xFFFF))}  Method (N) {Release (L) Signal (V) Return (Wait (V, 5))}
abbrev event_op : EventOp → List Tree → Tree
event_op op args = Apply (Plain.Event op) (list_of args) no_trees

abbrev locking : Trees
locking =
    list_of (Mutex at (one_segment 0x4C) 0 ∷ EventTerm at (one_segment 0x56)
    ∷ method 0x4D 0 (Return (event_op EventOp.Acquire (name 0x4C ∷ Raw 2 0xFFFF ∷ [])) ∷ [])
    ∷ method 0x4E 0 (event_op EventOp.Release (name 0x4C ∷ []) ∷ event_op EventOp.Signal (name 0x56 ∷ []) ∷ Return (event_op EventOp.Wait (name 0x56 ∷ Integer 5 ∷ [])) ∷ [])
    ∷ [])

acquire_bytes : bytes_of (event_op EventOp.Acquire (name 0x4C ∷ Raw 2 0xFFFF ∷ [])) ≡ 0x5B ∷ 0x23 ∷ 0x4C ∷ 0x5F ∷ 0x5F ∷ 0x5F ∷ 0xFF ∷ 0xFF ∷ []
acquire_bytes = refl

abbrev locking_calls : List Request
locking_calls = call_of 0x4D [] ∷ call_of 0x4E [] ∷ []

locking_results : results (run_source locking (Data (V.Integer 0) ∷ Data (V.Integer 1) ∷ []) locking_calls) ≡ Done (Normal false) ∷ number 0 ∷ number 0xFFFFFFFFFFFFFFFF ∷ []
locking_results = refl

locking_same : run_bytes locking (Data (V.Integer 0) ∷ Data (V.Integer 1) ∷ []) locking_calls ≡ run_source locking (Data (V.Integer 0) ∷ Data (V.Integer 1) ∷ []) locking_calls
unfolding code_front
locking_same = refl

-- at 32 bits
abbrev narrow : List Tree
narrow =
    number_op IntOp.Add (Integer 0xFFFFFFFF ∷ Integer 2 ∷ []) (Omitted ∷ [])
    ∷ number_op IntOp.Not (Integer 0 ∷ []) (Omitted ∷ [])
    ∷ data_op DataOp.ToBuffer (Integer 0x01020304 ∷ []) (Omitted ∷ [])
    ∷ number_op IntOp.ToBcd (Integer 100000000 ∷ []) (Omitted ∷ [])
    ∷ Constant Literal.Ones ∷ []

narrow_values : results (source_session W32 (known_of (list_of (returning 0x41 narrow))) (list_of (returning 0x41 narrow)) [] 1 [] (calls_of 0x41 narrow))
    ≡ Done (Normal false) ∷ number 1 ∷ number 0xFFFFFFFF ∷ Done (Gives (Data (V.Buffer (4 ∷ 3 ∷ 2 ∷ 1 ∷ [])))) ∷ Stopped (Faulted Fault.BadDigit) ∷ number 0xFFFFFFFF ∷ []
narrow_values = refl
