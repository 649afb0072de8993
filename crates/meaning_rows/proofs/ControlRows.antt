-- Worked sessions of control flow, computed from the definitions alone.
use Rattle.std.proofs.Common.{◌≡◌, ℕ, true, false, List, [], ◌∷◌, ◌++◌, refl}
use Rattle.acpi_values.specs.declared.width.Width.TheVariants.{W64}
use Rattle.acpi_values.specs.declared.operator.IntOp.TheVariants as IntOp
use Rattle.acpi_values.specs.declared.operator.DataOp.TheVariants as DataOp
use Rattle.acpi_values.specs.declared.operator.Plain.TheVariants as Plain
use Rattle.acpi_values.specs.declared.fault.Fault.TheVariants as Fault
use Rattle.acpi_values.specs.Values as V
use Rattle.acpi_values.specs.Values.{Value, Data}
use Rattle.acpi_state.specs.Outcomes.{Normal, Gives, Unfinished, Done, Stopped, Faulted}
use Rattle.acpi_state.specs.Forms.{LocalSlot, ArgSlot}
use Rattle.acpi_state.specs.Sessions.{Report, Request}
use Rattle.asl_tree.specs.Tree.{Tree, Integer, InSlot, Omitted, Use, Call, Apply, Name, Return, Method, If, While, Break, Continue, Trees, no_trees, tree}
use Rattle.asl_meaning.specs.Declarations.{known_of}
use Rattle.asl_meaning.specs.SourceSession.{source_session}
use Rattle.aml_meaning.specs.Encoded.{encoded_terms}
use Rattle.aml_code.specs.Header.{table_bytes}
use Rattle.aml_meaning.specs.ByteSession.{byte_session}
use Rattle.aml_meaning.specs.Codes.{code_front}
use Rattle.meaning_rows.proofs.Rows.{one_segment, at, fields, results}

abbrev list_of : List Tree → Trees
list_of [] = no_trees
list_of (t ∷ ts) = tree t (list_of ts)

abbrev local : ℕ → Tree
local i = InSlot (LocalSlot i)

abbrev store : Tree → Tree → Tree
store value place = Apply (Plain.Data DataOp.Store) (list_of (value ∷ place ∷ [])) no_trees

abbrev is_equal : Tree → Tree → Tree
is_equal a b = Apply (Plain.Number IntOp.LEqual) (list_of (a ∷ b ∷ [])) no_trees

-- Method (R, 1) {If (Arg0 == 0) {Return (0)} Return (R (Arg0 - 1))}
abbrev recursive : Trees
recursive =
    list_of (Method at (one_segment 0x52) 1
    (list_of (If (is_equal (InSlot (ArgSlot 0)) (Integer 0)) (list_of (Return (Integer 0) ∷ []))
    ∷ Return (Call at (one_segment 0x52) (list_of (Apply (Plain.Number IntOp.Subtract) (list_of (InSlot (ArgSlot 0) ∷ Integer 1 ∷ [])) (list_of (Omitted ∷ [])) ∷ []))) ∷ [])) ∷ [])

recursive_bytes : encoded_terms W64 true recursive
    ≡ 0x14 ∷ 0x16 ∷ 0x52 ∷ 0x5F ∷ 0x5F ∷ 0x5F ∷ 0x01 ∷ 0xA0 ∷ 0x06 ∷ 0x93 ∷ 0x68 ∷ 0x00 ∷ 0xA4 ∷ 0x00 ∷ 0xA4 ∷ 0x52 ∷ 0x5F ∷ 0x5F ∷ 0x5F ∷ 0x74 ∷ 0x68 ∷ 0x01 ∷ 0x00 ∷ []
recursive_bytes = refl

abbrev number : ℕ → Value
number n = Data (V.Integer n)

abbrev call_with : ℕ → List Value → List Request
call_with letter args = record { path = (letter ∷ 0x5F ∷ 0x5F ∷ 0x5F ∷ []) ∷ []; args = args } ∷ []

abbrev by_bytes : Trees → ℕ → List Request → List Report
by_bytes terms n calls = byte_session (table_bytes fields (encoded_terms W64 true terms)) [] n [] calls

abbrev by_source : Trees → ℕ → List Request → List Report
by_source terms n calls = source_session W64 (known_of terms) terms [] n [] calls

too_deep : results (by_bytes recursive 2 (call_with 0x52 (number 2 ∷ []))) ≡ Done (Normal false) ∷ Stopped Unfinished ∷ []
unfolding code_front
too_deep = refl

too_deep_same : by_bytes recursive 2 (call_with 0x52 (number 2 ∷ [])) ≡ by_source recursive 2 (call_with 0x52 (number 2 ∷ []))
unfolding code_front
too_deep_same = refl

deep_enough : results (by_bytes recursive 3 (call_with 0x52 (number 2 ∷ []))) ≡ Done (Normal false) ∷ Done (Gives (number 0)) ∷ []
unfolding code_front
deep_enough = refl

deep_enough_same : by_bytes recursive 3 (call_with 0x52 (number 2 ∷ [])) ≡ by_source recursive 3 (call_with 0x52 (number 2 ∷ []))
unfolding code_front
deep_enough_same = refl

-- a loop that holds another one, which it leaves with a flag for Continue
abbrev nested : Trees
nested =
    list_of (Method at (one_segment 0x57) 0
    (list_of (store (Integer 0) (local 0)
    ∷ While (Apply (Plain.Number IntOp.LLess) (list_of (local 0 ∷ Integer 2 ∷ [])) no_trees)
    (list_of (Apply (Plain.Data DataOp.Increment) (list_of (local 0 ∷ [])) no_trees
    ∷ store (Integer 0) (local 3)
    ∷ While (Integer 1) (list_of (store (local 0) (local 2) ∷ If (is_equal (local 2) (Integer 1)) (list_of (store (Integer 1) (local 3) ∷ Break ∷ [])) ∷ Break ∷ []))
    ∷ If (local 3) (list_of (store (Integer 0) (local 3) ∷ Continue ∷ []))
    ∷ store (local 0) (local 1) ∷ []))
    ∷ Return (local 1) ∷ [])) ∷ [])

nested_bytes : encoded_terms W64 true nested
    ≡ 0x14 ∷ 0x30 ∷ 0x57 ∷ 0x5F ∷ 0x5F ∷ 0x5F ∷ 0x00 ∷ 0x70 ∷ 0x00 ∷ 0x60 ∷ 0xA2 ∷ 0x24 ∷ 0x95 ∷ 0x60 ∷ 0x0A ∷ 0x02 ∷ 0x75 ∷ 0x60 ∷ 0x70 ∷ 0x00 ∷ 0x63 ∷ 0xA2 ∷ 0x0F ∷ 0x01 ∷ 0x70 ∷ 0x60 ∷ 0x62 ∷ 0xA0 ∷ 0x08
    ∷ 0x93 ∷ 0x62 ∷ 0x01 ∷ 0x70 ∷ 0x01 ∷ 0x63 ∷ 0xA5 ∷ 0xA5 ∷ 0xA0 ∷ 0x06 ∷ 0x63 ∷ 0x70 ∷ 0x00 ∷ 0x63 ∷ 0x9F ∷ 0x70 ∷ 0x60 ∷ 0x61 ∷ 0xA4 ∷ 0x61 ∷ []
nested_bytes = refl

one_turn : results (by_bytes nested 1 (call_with 0x57 [])) ≡ Done (Normal false) ∷ Stopped Unfinished ∷ []
unfolding code_front
one_turn = refl

two_turns : results (by_bytes nested 2 (call_with 0x57 [])) ≡ Done (Normal false) ∷ Done (Gives (number 2)) ∷ []
unfolding code_front
two_turns = refl

three_turns : by_bytes nested 3 (call_with 0x57 []) ≡ by_source nested 3 (call_with 0x57 [])
unfolding code_front
three_turns = refl

-- Name (X, 0)  Method (S, 2) {Arg0 = Arg1}  Method (G) {Return (X)}
-- Method (M) {Local0 = 0 While (Local0 < 3) {Local0++ S (RefOf (X), Local0)} Local1 = 1 / 0}: what stands at X outlives the fault
abbrev stored_through : Trees
stored_through =
    list_of (Name at (one_segment 0x58) (Integer 0)
    ∷ Method at (one_segment 0x53) 2 (list_of (store (InSlot (ArgSlot 1)) (InSlot (ArgSlot 0)) ∷ []))
    ∷ Method at (one_segment 0x47) 0 (list_of (Return (Use at (one_segment 0x58)) ∷ []))
    ∷ Method at (one_segment 0x4D) 0
    (list_of (store (Integer 0) (local 0)
    ∷ While (Apply (Plain.Number IntOp.LLess) (list_of (local 0 ∷ Integer 3 ∷ [])) no_trees)
    (list_of (Apply (Plain.Data DataOp.Increment) (list_of (local 0 ∷ [])) no_trees
    ∷ Call at (one_segment 0x53) (list_of (Apply (Plain.Data DataOp.RefOf) (list_of (Use at (one_segment 0x58) ∷ [])) no_trees ∷ local 0 ∷ [])) ∷ []))
    ∷ Apply (Plain.Number IntOp.Divide) (list_of (Integer 1 ∷ Integer 0 ∷ [])) (list_of (Omitted ∷ local 1 ∷ [])) ∷ [])) ∷ [])

abbrev stores_and_reads : List Request
stores_and_reads = call_with 0x4D [] ++ call_with 0x47 []

loop_and_fault : results (by_bytes stored_through 3 stores_and_reads) ≡ Done (Normal false) ∷ Stopped (Faulted Fault.DivideByZero) ∷ Done (Gives (number 3)) ∷ []
unfolding code_front
loop_and_fault = refl

loop_and_fault_in_source : results (by_source stored_through 3 stores_and_reads) ≡ Done (Normal false) ∷ Stopped (Faulted Fault.DivideByZero) ∷ Done (Gives (number 3)) ∷ []
loop_and_fault_in_source = refl
