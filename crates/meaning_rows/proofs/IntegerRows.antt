-- Sessions of operators on Integers, of BCD, of conversions and comparisons, at both widths. Another implementation gives the values.
use Rattle.std.proofs.Common.{◌≡◌, ℕ, false, List, [], ◌∷◌, ◌++◌, refl}
use Rattle.std.specs.Prelude.{codes}
use Rattle.acpi_values.specs.declared.width.Width.TheVariants.{W32, W64}
use Rattle.acpi_values.specs.declared.fault.Fault.TheVariants as Fault
use Rattle.acpi_values.specs.declared.operator.IntOp.TheVariants as IntOp
use Rattle.acpi_values.specs.declared.operator.DataOp.TheVariants as DataOp
use Rattle.acpi_values.specs.declared.operator.Plain.TheVariants as Plain
use Rattle.acpi_values.specs.Values as V
use Rattle.acpi_values.specs.Values.{Value, Data, no_elements, uninitialized, element, Named, LocalOf, ArgOf, ElementAt, ElementOf}
use Rattle.acpi_state.specs.Objects as E
use Rattle.acpi_state.specs.Objects.{Device, ThermalZone, PowerResource, Processor}
use Rattle.acpi_state.specs.Outcomes.{Normal, NoValue, Done}
use Rattle.acpi_state.specs.Sessions.{present_ones}
use Rattle.asl_tree.specs.Tree.{Integer, String, Debug as DebugTerm, Omitted, Apply, Operated, Assigned}
use Rattle.asl_tree.specs.Tree.{Buffer, Return, Method}
use Rattle.asl_tree.specs.Tree.{Trees, no_trees}
use Rattle.asl_meaning.specs.Declarations.{externals}
use Rattle.aml_meaning.specs.Codes.{code_front}
use Rattle.aml_code.specs.Header.{table_bytes}
use Rattle.acpi_names.specs.Errors.{name_errors, type_errors}
use Rattle.meaning_rows.proofs.Rows.{at, fields, narrow_fields}
use Rattle.meaning_rows.proofs.Outside.{hex, number, call, Asked, Told, gives, faults, of_bytes, of_source, written_whole, terms, one, local, arg}

-- ints rev1
-- Method (M, 2) { Debug = Arg0 + Arg1 Debug = Arg0 - Arg1 Debug = Arg0 * Arg1 Debug = Arg0 << Arg1 Debug = Arg0 >> Arg1 Debug = Arg0 &
-- Arg1 Debug = Nand (Arg0, Arg1) Debug = Arg0 | Arg1 Debug = Nor (Arg0, Arg1) Debug = Arg0 ^ Arg1 Debug = ~Arg0 Debug = FindSetLeftBit
-- (Arg0) Debug = FindSetRightBit (Arg0) Debug = (Arg0 && Arg1) Debug = (Arg0 || Arg1) Debug = !Arg0 Debug = (Arg0 == Arg1) Debug = (Arg0 <
-- Arg1) Debug = (Arg0 > Arg1) Debug = (Arg0 <= Arg1) Debug = (Arg0 >= Arg1) Debug = (Arg0 != Arg1) Divide (Arg0, Arg1, Local0, Local1)
-- Debug = Local0 Debug = Local1 Debug = Arg0 % Arg1 }
abbrev ints_rev1 : Trees
ints_rev1 = (terms ((Method at (one "M___") 2 (terms ((Assigned DebugTerm (Operated (Plain.Number IntOp.Add) (terms ((arg 0) ∷ (arg 1) ∷ [])))) ∷ (Assigned DebugTerm (Operated (Plain.Number IntOp.Subtract) (terms ((arg 0) ∷ (arg 1) ∷ [])))) ∷ (Assigned DebugTerm (Operated (Plain.Number IntOp.Multiply) (terms ((arg 0) ∷ (arg 1) ∷ [])))) ∷ (Assigned DebugTerm (Operated (Plain.Number IntOp.ShiftLeft) (terms ((arg 0) ∷ (arg 1) ∷ [])))) ∷ (Assigned DebugTerm (Operated (Plain.Number IntOp.ShiftRight) (terms ((arg 0) ∷ (arg 1) ∷ [])))) ∷ (Assigned DebugTerm (Operated (Plain.Number IntOp.And) (terms ((arg 0) ∷ (arg 1) ∷ [])))) ∷ (Assigned DebugTerm (Apply (Plain.Number IntOp.Nand) (terms ((arg 0) ∷ (arg 1) ∷ [])) (terms (Omitted ∷ [])))) ∷ (Assigned DebugTerm (Operated (Plain.Number IntOp.Or) (terms ((arg 0) ∷ (arg 1) ∷ [])))) ∷ (Assigned DebugTerm (Apply (Plain.Number IntOp.Nor) (terms ((arg 0) ∷ (arg 1) ∷ [])) (terms (Omitted ∷ [])))) ∷ (Assigned DebugTerm (Operated (Plain.Number IntOp.Xor) (terms ((arg 0) ∷ (arg 1) ∷ [])))) ∷ (Assigned DebugTerm (Operated (Plain.Number IntOp.Not) (terms ((arg 0) ∷ [])))) ∷ (Assigned DebugTerm (Apply (Plain.Number IntOp.FindSetLeftBit) (terms ((arg 0) ∷ [])) (terms (Omitted ∷ [])))) ∷ (Assigned DebugTerm (Apply (Plain.Number IntOp.FindSetRightBit) (terms ((arg 0) ∷ [])) (terms (Omitted ∷ [])))) ∷ (Assigned DebugTerm (Operated (Plain.Number IntOp.LAnd) (terms ((arg 0) ∷ (arg 1) ∷ [])))) ∷ (Assigned DebugTerm (Operated (Plain.Number IntOp.LOr) (terms ((arg 0) ∷ (arg 1) ∷ [])))) ∷ (Assigned DebugTerm (Operated (Plain.Number IntOp.LNot) (terms ((arg 0) ∷ [])))) ∷ (Assigned DebugTerm (Operated (Plain.Number IntOp.LEqual) (terms ((arg 0) ∷ (arg 1) ∷ [])))) ∷ (Assigned DebugTerm (Operated (Plain.Number IntOp.LLess) (terms ((arg 0) ∷ (arg 1) ∷ [])))) ∷ (Assigned DebugTerm (Operated (Plain.Number IntOp.LGreater) (terms ((arg 0) ∷ (arg 1) ∷ [])))) ∷ (Assigned DebugTerm (Operated (Plain.Number IntOp.LNot) (terms ((Operated (Plain.Number IntOp.LGreater) (terms ((arg 0) ∷ (arg 1) ∷ []))) ∷ [])))) ∷ (Assigned DebugTerm (Operated (Plain.Number IntOp.LNot) (terms ((Operated (Plain.Number IntOp.LLess) (terms ((arg 0) ∷ (arg 1) ∷ []))) ∷ [])))) ∷ (Assigned DebugTerm (Operated (Plain.Number IntOp.LNot) (terms ((Operated (Plain.Number IntOp.LEqual) (terms ((arg 0) ∷ (arg 1) ∷ []))) ∷ [])))) ∷ (Apply (Plain.Number IntOp.Divide) (terms ((arg 0) ∷ (arg 1) ∷ [])) (terms ((local 0) ∷ (local 1) ∷ []))) ∷ (Assigned DebugTerm (local 0)) ∷ (Assigned DebugTerm (local 1)) ∷ (Assigned DebugTerm (Operated (Plain.Number IntOp.Mod) (terms ((arg 0) ∷ (arg 1) ∷ [])))) ∷ []))) ∷ []))

abbrev ints_rev1_table : List ℕ
ints_rev1_table =
    table_bytes narrow_fields (hex "14 47 09 4D 5F 5F 5F 02 72 68 69 5B 31 74 68 69 5B 31 77 68 69 5B 31 79 68 69 5B 31 7A 68 69 5B 31 7B 68 69 5B 31 70 7C"
    ++ hex "68 69 00 5B 31 7D 68 69 5B 31 70 7E 68 69 00 5B 31 7F 68 69 5B 31 80 68 5B 31 70 81 68 00 5B 31 70 82 68 00 5B 31 70 90"
    ++ hex "68 69 5B 31 70 91 68 69 5B 31 70 92 68 5B 31 70 93 68 69 5B 31 70 95 68 69 5B 31 70 94 68 69 5B 31 70 92 94 68 69 5B 31"
    ++ hex "70 92 95 68 69 5B 31 70 92 93 68 69 5B 31 78 68 69 60 61 70 60 5B 31 70 61 5B 31 85 68 69 5B 31")

abbrev ints_rev1_asked : Asked
ints_rev1_asked = record {
  there = present_ones (externals ints_rev1) ([]);
  bound = 8;
  answers = ([]);
  calls = (call (codes "M___" ∷ []) ((number 0) ∷ (number 0) ∷ []) ∷ call (codes "M___" ∷ []) ((number 1) ∷ (number 2) ∷ []) ∷ call (codes "M___" ∷ []) ((number 0xFFFFFFFF) ∷ (number 31) ∷ []) ∷ call (codes "M___" ∷ []) ((number 0xFFFFFFFF) ∷ (number 32) ∷ []) ∷ call (codes "M___" ∷ []) ((number 0x80000000) ∷ (number 1) ∷ []) ∷ call (codes "M___" ∷ []) ((number 5) ∷ (number 0) ∷ []) ∷ call (codes "M___" ∷ []) ((number 0xFFFFFFFF) ∷ (number 0xFFFFFFFF) ∷ []) ∷ []);
  paths = ([]);
}

abbrev ints_rev1_told : Told
ints_rev1_told = record {
  results = ((Done (Normal false)) ∷ (faults Fault.DivideByZero) ∷ (Done NoValue) ∷ (Done NoValue) ∷ (Done NoValue) ∷ (Done NoValue) ∷ (faults Fault.DivideByZero) ∷ (Done NoValue) ∷ []);
  events = ((E.Debug (number 0)) ∷ (E.Debug (number 0)) ∷ (E.Debug (number 0)) ∷ (E.Debug (number 0)) ∷ (E.Debug (number 0)) ∷ (E.Debug (number 0)) ∷ (E.Debug (number 0xFFFFFFFF)) ∷ (E.Debug (number 0)) ∷ (E.Debug (number 0xFFFFFFFF)) ∷ (E.Debug (number 0)) ∷ (E.Debug (number 0xFFFFFFFF)) ∷ (E.Debug (number 0)) ∷ (E.Debug (number 0)) ∷ (E.Debug (number 0)) ∷ (E.Debug (number 0)) ∷ (E.Debug (number 0xFFFFFFFF)) ∷ (E.Debug (number 0xFFFFFFFF)) ∷ (E.Debug (number 0)) ∷ (E.Debug (number 0)) ∷ (E.Debug (number 0xFFFFFFFF)) ∷ (E.Debug (number 0xFFFFFFFF)) ∷ (E.Debug (number 0)) ∷ (E.Debug (number 3)) ∷ (E.Debug (number 0xFFFFFFFF)) ∷ (E.Debug (number 2)) ∷ (E.Debug (number 4)) ∷ (E.Debug (number 0)) ∷ (E.Debug (number 0)) ∷ (E.Debug (number 0xFFFFFFFF)) ∷ (E.Debug (number 3)) ∷ (E.Debug (number 0xFFFFFFFC)) ∷ (E.Debug (number 3)) ∷ (E.Debug (number 0xFFFFFFFE)) ∷ (E.Debug (number 1)) ∷ (E.Debug (number 1)) ∷ (E.Debug (number 0xFFFFFFFF)) ∷ (E.Debug (number 0xFFFFFFFF)) ∷ (E.Debug (number 0)) ∷ (E.Debug (number 0)) ∷ (E.Debug (number 0xFFFFFFFF)) ∷ (E.Debug (number 0)) ∷ (E.Debug (number 0xFFFFFFFF)) ∷ (E.Debug (number 0)) ∷ (E.Debug (number 0xFFFFFFFF)) ∷ (E.Debug (number 1)) ∷ (E.Debug (number 0)) ∷ (E.Debug (number 1)) ∷ (E.Debug (number 30)) ∷ (E.Debug (number 0xFFFFFFE0)) ∷ (E.Debug (number 0xFFFFFFE1)) ∷ (E.Debug (number 0x80000000)) ∷ (E.Debug (number 1)) ∷ (E.Debug (number 31)) ∷ (E.Debug (number 0xFFFFFFE0)) ∷ (E.Debug (number 0xFFFFFFFF)) ∷ (E.Debug (number 0)) ∷ (E.Debug (number 0xFFFFFFE0)) ∷ (E.Debug (number 0)) ∷ (E.Debug (number 32)) ∷ (E.Debug (number 1)) ∷ (E.Debug (number 0xFFFFFFFF)) ∷ (E.Debug (number 0xFFFFFFFF)) ∷ (E.Debug (number 0)) ∷ (E.Debug (number 0)) ∷ (E.Debug (number 0)) ∷ (E.Debug (number 0xFFFFFFFF)) ∷ (E.Debug (number 0)) ∷ (E.Debug (number 0xFFFFFFFF)) ∷ (E.Debug (number 0xFFFFFFFF)) ∷ (E.Debug (number 3)) ∷ (E.Debug (number 0x8421084)) ∷ (E.Debug (number 3)) ∷ (E.Debug (number 31)) ∷ (E.Debug (number 0xFFFFFFDF)) ∷ (E.Debug (number 0xFFFFFFE0)) ∷ (E.Debug (number 0)) ∷ (E.Debug (number 0)) ∷ (E.Debug (number 32)) ∷ (E.Debug (number 0xFFFFFFDF)) ∷ (E.Debug (number 0xFFFFFFFF)) ∷ (E.Debug (number 0)) ∷ (E.Debug (number 0xFFFFFFDF)) ∷ (E.Debug (number 0)) ∷ (E.Debug (number 32)) ∷ (E.Debug (number 1)) ∷ (E.Debug (number 0xFFFFFFFF)) ∷ (E.Debug (number 0xFFFFFFFF)) ∷ (E.Debug (number 0)) ∷ (E.Debug (number 0)) ∷ (E.Debug (number 0)) ∷ (E.Debug (number 0xFFFFFFFF)) ∷ (E.Debug (number 0)) ∷ (E.Debug (number 0xFFFFFFFF)) ∷ (E.Debug (number 0xFFFFFFFF)) ∷ (E.Debug (number 31)) ∷ (E.Debug (number 0x7FFFFFF)) ∷ (E.Debug (number 31)) ∷ (E.Debug (number 0x80000001)) ∷ (E.Debug (number 0x7FFFFFFF)) ∷ (E.Debug (number 0x80000000)) ∷ (E.Debug (number 0)) ∷ (E.Debug (number 0x40000000)) ∷ (E.Debug (number 0)) ∷ (E.Debug (number 0xFFFFFFFF)) ∷ (E.Debug (number 0x80000001)) ∷ (E.Debug (number 0x7FFFFFFE)) ∷ (E.Debug (number 0x80000001)) ∷ (E.Debug (number 0x7FFFFFFF)) ∷ (E.Debug (number 32)) ∷ (E.Debug (number 32)) ∷ (E.Debug (number 0xFFFFFFFF)) ∷ (E.Debug (number 0xFFFFFFFF)) ∷ (E.Debug (number 0)) ∷ (E.Debug (number 0)) ∷ (E.Debug (number 0)) ∷ (E.Debug (number 0xFFFFFFFF)) ∷ (E.Debug (number 0)) ∷ (E.Debug (number 0xFFFFFFFF)) ∷ (E.Debug (number 0xFFFFFFFF)) ∷ (E.Debug (number 0)) ∷ (E.Debug (number 0x80000000)) ∷ (E.Debug (number 0)) ∷ (E.Debug (number 5)) ∷ (E.Debug (number 5)) ∷ (E.Debug (number 0)) ∷ (E.Debug (number 5)) ∷ (E.Debug (number 5)) ∷ (E.Debug (number 0)) ∷ (E.Debug (number 0xFFFFFFFF)) ∷ (E.Debug (number 5)) ∷ (E.Debug (number 0xFFFFFFFA)) ∷ (E.Debug (number 5)) ∷ (E.Debug (number 0xFFFFFFFA)) ∷ (E.Debug (number 3)) ∷ (E.Debug (number 1)) ∷ (E.Debug (number 0)) ∷ (E.Debug (number 0xFFFFFFFF)) ∷ (E.Debug (number 0)) ∷ (E.Debug (number 0)) ∷ (E.Debug (number 0)) ∷ (E.Debug (number 0xFFFFFFFF)) ∷ (E.Debug (number 0)) ∷ (E.Debug (number 0xFFFFFFFF)) ∷ (E.Debug (number 0xFFFFFFFF)) ∷ (E.Debug (number 0xFFFFFFFE)) ∷ (E.Debug (number 0)) ∷ (E.Debug (number 1)) ∷ (E.Debug (number 0)) ∷ (E.Debug (number 0)) ∷ (E.Debug (number 0xFFFFFFFF)) ∷ (E.Debug (number 0)) ∷ (E.Debug (number 0xFFFFFFFF)) ∷ (E.Debug (number 0)) ∷ (E.Debug (number 0)) ∷ (E.Debug (number 0)) ∷ (E.Debug (number 32)) ∷ (E.Debug (number 1)) ∷ (E.Debug (number 0xFFFFFFFF)) ∷ (E.Debug (number 0xFFFFFFFF)) ∷ (E.Debug (number 0)) ∷ (E.Debug (number 0xFFFFFFFF)) ∷ (E.Debug (number 0)) ∷ (E.Debug (number 0)) ∷ (E.Debug (number 0xFFFFFFFF)) ∷ (E.Debug (number 0xFFFFFFFF)) ∷ (E.Debug (number 0)) ∷ (E.Debug (number 0)) ∷ (E.Debug (number 1)) ∷ (E.Debug (number 0)) ∷ []);
  left = ([]);
  values = ([]);
}

ints_rev1_encoded : written_whole W32 narrow_fields ints_rev1 ≡ ints_rev1_table
ints_rev1_encoded = refl

ints_rev1_right : name_errors ints_rev1 ++ type_errors ints_rev1 ≡ []
ints_rev1_right = refl

ints_rev1_by_source : of_source W32 ints_rev1 ints_rev1_asked ≡ ints_rev1_told
ints_rev1_by_source = refl

ints_rev1_by_bytes : of_bytes ints_rev1_table ints_rev1_asked ≡ ints_rev1_told
unfolding code_front
ints_rev1_by_bytes = refl

-- ints rev2
-- Method (M, 2) { Debug = Arg0 + Arg1 Debug = Arg0 - Arg1 Debug = Arg0 * Arg1 Debug = Arg0 << Arg1 Debug = Arg0 >> Arg1 Debug = Arg0 &
-- Arg1 Debug = Nand (Arg0, Arg1) Debug = Arg0 | Arg1 Debug = Nor (Arg0, Arg1) Debug = Arg0 ^ Arg1 Debug = ~Arg0 Debug = FindSetLeftBit
-- (Arg0) Debug = FindSetRightBit (Arg0) Debug = (Arg0 && Arg1) Debug = (Arg0 || Arg1) Debug = !Arg0 Debug = (Arg0 == Arg1) Debug = (Arg0 <
-- Arg1) Debug = (Arg0 > Arg1) Debug = (Arg0 <= Arg1) Debug = (Arg0 >= Arg1) Debug = (Arg0 != Arg1) Divide (Arg0, Arg1, Local0, Local1)
-- Debug = Local0 Debug = Local1 Debug = Arg0 % Arg1 }
abbrev ints_rev2 : Trees
ints_rev2 = (terms ((Method at (one "M___") 2 (terms ((Assigned DebugTerm (Operated (Plain.Number IntOp.Add) (terms ((arg 0) ∷ (arg 1) ∷ [])))) ∷ (Assigned DebugTerm (Operated (Plain.Number IntOp.Subtract) (terms ((arg 0) ∷ (arg 1) ∷ [])))) ∷ (Assigned DebugTerm (Operated (Plain.Number IntOp.Multiply) (terms ((arg 0) ∷ (arg 1) ∷ [])))) ∷ (Assigned DebugTerm (Operated (Plain.Number IntOp.ShiftLeft) (terms ((arg 0) ∷ (arg 1) ∷ [])))) ∷ (Assigned DebugTerm (Operated (Plain.Number IntOp.ShiftRight) (terms ((arg 0) ∷ (arg 1) ∷ [])))) ∷ (Assigned DebugTerm (Operated (Plain.Number IntOp.And) (terms ((arg 0) ∷ (arg 1) ∷ [])))) ∷ (Assigned DebugTerm (Apply (Plain.Number IntOp.Nand) (terms ((arg 0) ∷ (arg 1) ∷ [])) (terms (Omitted ∷ [])))) ∷ (Assigned DebugTerm (Operated (Plain.Number IntOp.Or) (terms ((arg 0) ∷ (arg 1) ∷ [])))) ∷ (Assigned DebugTerm (Apply (Plain.Number IntOp.Nor) (terms ((arg 0) ∷ (arg 1) ∷ [])) (terms (Omitted ∷ [])))) ∷ (Assigned DebugTerm (Operated (Plain.Number IntOp.Xor) (terms ((arg 0) ∷ (arg 1) ∷ [])))) ∷ (Assigned DebugTerm (Operated (Plain.Number IntOp.Not) (terms ((arg 0) ∷ [])))) ∷ (Assigned DebugTerm (Apply (Plain.Number IntOp.FindSetLeftBit) (terms ((arg 0) ∷ [])) (terms (Omitted ∷ [])))) ∷ (Assigned DebugTerm (Apply (Plain.Number IntOp.FindSetRightBit) (terms ((arg 0) ∷ [])) (terms (Omitted ∷ [])))) ∷ (Assigned DebugTerm (Operated (Plain.Number IntOp.LAnd) (terms ((arg 0) ∷ (arg 1) ∷ [])))) ∷ (Assigned DebugTerm (Operated (Plain.Number IntOp.LOr) (terms ((arg 0) ∷ (arg 1) ∷ [])))) ∷ (Assigned DebugTerm (Operated (Plain.Number IntOp.LNot) (terms ((arg 0) ∷ [])))) ∷ (Assigned DebugTerm (Operated (Plain.Number IntOp.LEqual) (terms ((arg 0) ∷ (arg 1) ∷ [])))) ∷ (Assigned DebugTerm (Operated (Plain.Number IntOp.LLess) (terms ((arg 0) ∷ (arg 1) ∷ [])))) ∷ (Assigned DebugTerm (Operated (Plain.Number IntOp.LGreater) (terms ((arg 0) ∷ (arg 1) ∷ [])))) ∷ (Assigned DebugTerm (Operated (Plain.Number IntOp.LNot) (terms ((Operated (Plain.Number IntOp.LGreater) (terms ((arg 0) ∷ (arg 1) ∷ []))) ∷ [])))) ∷ (Assigned DebugTerm (Operated (Plain.Number IntOp.LNot) (terms ((Operated (Plain.Number IntOp.LLess) (terms ((arg 0) ∷ (arg 1) ∷ []))) ∷ [])))) ∷ (Assigned DebugTerm (Operated (Plain.Number IntOp.LNot) (terms ((Operated (Plain.Number IntOp.LEqual) (terms ((arg 0) ∷ (arg 1) ∷ []))) ∷ [])))) ∷ (Apply (Plain.Number IntOp.Divide) (terms ((arg 0) ∷ (arg 1) ∷ [])) (terms ((local 0) ∷ (local 1) ∷ []))) ∷ (Assigned DebugTerm (local 0)) ∷ (Assigned DebugTerm (local 1)) ∷ (Assigned DebugTerm (Operated (Plain.Number IntOp.Mod) (terms ((arg 0) ∷ (arg 1) ∷ [])))) ∷ []))) ∷ []))

abbrev ints_rev2_table : List ℕ
ints_rev2_table =
    table_bytes fields (hex "14 47 09 4D 5F 5F 5F 02 72 68 69 5B 31 74 68 69 5B 31 77 68 69 5B 31 79 68 69 5B 31 7A 68 69 5B 31 7B 68 69 5B 31 70 7C"
    ++ hex "68 69 00 5B 31 7D 68 69 5B 31 70 7E 68 69 00 5B 31 7F 68 69 5B 31 80 68 5B 31 70 81 68 00 5B 31 70 82 68 00 5B 31 70 90"
    ++ hex "68 69 5B 31 70 91 68 69 5B 31 70 92 68 5B 31 70 93 68 69 5B 31 70 95 68 69 5B 31 70 94 68 69 5B 31 70 92 94 68 69 5B 31"
    ++ hex "70 92 95 68 69 5B 31 70 92 93 68 69 5B 31 78 68 69 60 61 70 60 5B 31 70 61 5B 31 85 68 69 5B 31")

abbrev ints_rev2_asked : Asked
ints_rev2_asked = record {
  there = present_ones (externals ints_rev2) ([]);
  bound = 8;
  answers = ([]);
  calls = (call (codes "M___" ∷ []) ((number 0) ∷ (number 0) ∷ []) ∷ call (codes "M___" ∷ []) ((number 1) ∷ (number 2) ∷ []) ∷ call (codes "M___" ∷ []) ((number 0xFFFFFFFF) ∷ (number 31) ∷ []) ∷ call (codes "M___" ∷ []) ((number 0xFFFFFFFF) ∷ (number 32) ∷ []) ∷ call (codes "M___" ∷ []) ((number 0x80000000) ∷ (number 1) ∷ []) ∷ call (codes "M___" ∷ []) ((number 5) ∷ (number 0) ∷ []) ∷ call (codes "M___" ∷ []) ((number 0xFFFFFFFF) ∷ (number 0xFFFFFFFF) ∷ []) ∷ call (codes "M___" ∷ []) ((number 0xFFFFFFFFFFFFFFFF) ∷ (number 63) ∷ []) ∷ call (codes "M___" ∷ []) ((number 0xFFFFFFFFFFFFFFFF) ∷ (number 64) ∷ []) ∷ call (codes "M___" ∷ []) ((number 0x8000000000000000) ∷ (number 2) ∷ []) ∷ []);
  paths = ([]);
}

abbrev ints_rev2_told : Told
ints_rev2_told = record {
  results = ((Done (Normal false)) ∷ (faults Fault.DivideByZero) ∷ (Done NoValue) ∷ (Done NoValue) ∷ (Done NoValue) ∷ (Done NoValue) ∷ (faults Fault.DivideByZero) ∷ (Done NoValue) ∷ (Done NoValue) ∷ (Done NoValue) ∷ (Done NoValue) ∷ []);
  events = ((E.Debug (number 0)) ∷ (E.Debug (number 0)) ∷ (E.Debug (number 0)) ∷ (E.Debug (number 0)) ∷ (E.Debug (number 0)) ∷ (E.Debug (number 0)) ∷ (E.Debug (number 0xFFFFFFFFFFFFFFFF)) ∷ (E.Debug (number 0)) ∷ (E.Debug (number 0xFFFFFFFFFFFFFFFF)) ∷ (E.Debug (number 0)) ∷ (E.Debug (number 0xFFFFFFFFFFFFFFFF)) ∷ (E.Debug (number 0)) ∷ (E.Debug (number 0)) ∷ (E.Debug (number 0)) ∷ (E.Debug (number 0)) ∷ (E.Debug (number 0xFFFFFFFFFFFFFFFF)) ∷ (E.Debug (number 0xFFFFFFFFFFFFFFFF)) ∷ (E.Debug (number 0)) ∷ (E.Debug (number 0)) ∷ (E.Debug (number 0xFFFFFFFFFFFFFFFF)) ∷ (E.Debug (number 0xFFFFFFFFFFFFFFFF)) ∷ (E.Debug (number 0)) ∷ (E.Debug (number 3)) ∷ (E.Debug (number 0xFFFFFFFFFFFFFFFF)) ∷ (E.Debug (number 2)) ∷ (E.Debug (number 4)) ∷ (E.Debug (number 0)) ∷ (E.Debug (number 0)) ∷ (E.Debug (number 0xFFFFFFFFFFFFFFFF)) ∷ (E.Debug (number 3)) ∷ (E.Debug (number 0xFFFFFFFFFFFFFFFC)) ∷ (E.Debug (number 3)) ∷ (E.Debug (number 0xFFFFFFFFFFFFFFFE)) ∷ (E.Debug (number 1)) ∷ (E.Debug (number 1)) ∷ (E.Debug (number 0xFFFFFFFFFFFFFFFF)) ∷ (E.Debug (number 0xFFFFFFFFFFFFFFFF)) ∷ (E.Debug (number 0)) ∷ (E.Debug (number 0)) ∷ (E.Debug (number 0xFFFFFFFFFFFFFFFF)) ∷ (E.Debug (number 0)) ∷ (E.Debug (number 0xFFFFFFFFFFFFFFFF)) ∷ (E.Debug (number 0)) ∷ (E.Debug (number 0xFFFFFFFFFFFFFFFF)) ∷ (E.Debug (number 1)) ∷ (E.Debug (number 0)) ∷ (E.Debug (number 1)) ∷ (E.Debug (number 0x10000001E)) ∷ (E.Debug (number 0xFFFFFFE0)) ∷ (E.Debug (number 0x1EFFFFFFE1)) ∷ (E.Debug (number 0x7FFFFFFF80000000)) ∷ (E.Debug (number 1)) ∷ (E.Debug (number 31)) ∷ (E.Debug (number 0xFFFFFFFFFFFFFFE0)) ∷ (E.Debug (number 0xFFFFFFFF)) ∷ (E.Debug (number 0xFFFFFFFF00000000)) ∷ (E.Debug (number 0xFFFFFFE0)) ∷ (E.Debug (number 0xFFFFFFFF00000000)) ∷ (E.Debug (number 32)) ∷ (E.Debug (number 1)) ∷ (E.Debug (number 0xFFFFFFFFFFFFFFFF)) ∷ (E.Debug (number 0xFFFFFFFFFFFFFFFF)) ∷ (E.Debug (number 0)) ∷ (E.Debug (number 0)) ∷ (E.Debug (number 0)) ∷ (E.Debug (number 0xFFFFFFFFFFFFFFFF)) ∷ (E.Debug (number 0)) ∷ (E.Debug (number 0xFFFFFFFFFFFFFFFF)) ∷ (E.Debug (number 0xFFFFFFFFFFFFFFFF)) ∷ (E.Debug (number 3)) ∷ (E.Debug (number 0x8421084)) ∷ (E.Debug (number 3)) ∷ (E.Debug (number 0x10000001F)) ∷ (E.Debug (number 0xFFFFFFDF)) ∷ (E.Debug (number 0x1FFFFFFFE0)) ∷ (E.Debug (number 0xFFFFFFFF00000000)) ∷ (E.Debug (number 0)) ∷ (E.Debug (number 32)) ∷ (E.Debug (number 0xFFFFFFFFFFFFFFDF)) ∷ (E.Debug (number 0xFFFFFFFF)) ∷ (E.Debug (number 0xFFFFFFFF00000000)) ∷ (E.Debug (number 0xFFFFFFDF)) ∷ (E.Debug (number 0xFFFFFFFF00000000)) ∷ (E.Debug (number 32)) ∷ (E.Debug (number 1)) ∷ (E.Debug (number 0xFFFFFFFFFFFFFFFF)) ∷ (E.Debug (number 0xFFFFFFFFFFFFFFFF)) ∷ (E.Debug (number 0)) ∷ (E.Debug (number 0)) ∷ (E.Debug (number 0)) ∷ (E.Debug (number 0xFFFFFFFFFFFFFFFF)) ∷ (E.Debug (number 0)) ∷ (E.Debug (number 0xFFFFFFFFFFFFFFFF)) ∷ (E.Debug (number 0xFFFFFFFFFFFFFFFF)) ∷ (E.Debug (number 31)) ∷ (E.Debug (number 0x7FFFFFF)) ∷ (E.Debug (number 31)) ∷ (E.Debug (number 0x80000001)) ∷ (E.Debug (number 0x7FFFFFFF)) ∷ (E.Debug (number 0x80000000)) ∷ (E.Debug (number 0x100000000)) ∷ (E.Debug (number 0x40000000)) ∷ (E.Debug (number 0)) ∷ (E.Debug (number 0xFFFFFFFFFFFFFFFF)) ∷ (E.Debug (number 0x80000001)) ∷ (E.Debug (number 0xFFFFFFFF7FFFFFFE)) ∷ (E.Debug (number 0x80000001)) ∷ (E.Debug (number 0xFFFFFFFF7FFFFFFF)) ∷ (E.Debug (number 32)) ∷ (E.Debug (number 32)) ∷ (E.Debug (number 0xFFFFFFFFFFFFFFFF)) ∷ (E.Debug (number 0xFFFFFFFFFFFFFFFF)) ∷ (E.Debug (number 0)) ∷ (E.Debug (number 0)) ∷ (E.Debug (number 0)) ∷ (E.Debug (number 0xFFFFFFFFFFFFFFFF)) ∷ (E.Debug (number 0)) ∷ (E.Debug (number 0xFFFFFFFFFFFFFFFF)) ∷ (E.Debug (number 0xFFFFFFFFFFFFFFFF)) ∷ (E.Debug (number 0)) ∷ (E.Debug (number 0x80000000)) ∷ (E.Debug (number 0)) ∷ (E.Debug (number 5)) ∷ (E.Debug (number 5)) ∷ (E.Debug (number 0)) ∷ (E.Debug (number 5)) ∷ (E.Debug (number 5)) ∷ (E.Debug (number 0)) ∷ (E.Debug (number 0xFFFFFFFFFFFFFFFF)) ∷ (E.Debug (number 5)) ∷ (E.Debug (number 0xFFFFFFFFFFFFFFFA)) ∷ (E.Debug (number 5)) ∷ (E.Debug (number 0xFFFFFFFFFFFFFFFA)) ∷ (E.Debug (number 3)) ∷ (E.Debug (number 1)) ∷ (E.Debug (number 0)) ∷ (E.Debug (number 0xFFFFFFFFFFFFFFFF)) ∷ (E.Debug (number 0)) ∷ (E.Debug (number 0)) ∷ (E.Debug (number 0)) ∷ (E.Debug (number 0xFFFFFFFFFFFFFFFF)) ∷ (E.Debug (number 0)) ∷ (E.Debug (number 0xFFFFFFFFFFFFFFFF)) ∷ (E.Debug (number 0xFFFFFFFFFFFFFFFF)) ∷ (E.Debug (number 0x1FFFFFFFE)) ∷ (E.Debug (number 0)) ∷ (E.Debug (number 0xFFFFFFFE00000001)) ∷ (E.Debug (number 0)) ∷ (E.Debug (number 0)) ∷ (E.Debug (number 0xFFFFFFFF)) ∷ (E.Debug (number 0xFFFFFFFF00000000)) ∷ (E.Debug (number 0xFFFFFFFF)) ∷ (E.Debug (number 0xFFFFFFFF00000000)) ∷ (E.Debug (number 0)) ∷ (E.Debug (number 0xFFFFFFFF00000000)) ∷ (E.Debug (number 32)) ∷ (E.Debug (number 1)) ∷ (E.Debug (number 0xFFFFFFFFFFFFFFFF)) ∷ (E.Debug (number 0xFFFFFFFFFFFFFFFF)) ∷ (E.Debug (number 0)) ∷ (E.Debug (number 0xFFFFFFFFFFFFFFFF)) ∷ (E.Debug (number 0)) ∷ (E.Debug (number 0)) ∷ (E.Debug (number 0xFFFFFFFFFFFFFFFF)) ∷ (E.Debug (number 0xFFFFFFFFFFFFFFFF)) ∷ (E.Debug (number 0)) ∷ (E.Debug (number 0)) ∷ (E.Debug (number 1)) ∷ (E.Debug (number 0)) ∷ (E.Debug (number 62)) ∷ (E.Debug (number 0xFFFFFFFFFFFFFFC0)) ∷ (E.Debug (number 0xFFFFFFFFFFFFFFC1)) ∷ (E.Debug (number 0x8000000000000000)) ∷ (E.Debug (number 1)) ∷ (E.Debug (number 63)) ∷ (E.Debug (number 0xFFFFFFFFFFFFFFC0)) ∷ (E.Debug (number 0xFFFFFFFFFFFFFFFF)) ∷ (E.Debug (number 0)) ∷ (E.Debug (number 0xFFFFFFFFFFFFFFC0)) ∷ (E.Debug (number 0)) ∷ (E.Debug (number 64)) ∷ (E.Debug (number 1)) ∷ (E.Debug (number 0xFFFFFFFFFFFFFFFF)) ∷ (E.Debug (number 0xFFFFFFFFFFFFFFFF)) ∷ (E.Debug (number 0)) ∷ (E.Debug (number 0)) ∷ (E.Debug (number 0)) ∷ (E.Debug (number 0xFFFFFFFFFFFFFFFF)) ∷ (E.Debug (number 0)) ∷ (E.Debug (number 0xFFFFFFFFFFFFFFFF)) ∷ (E.Debug (number 0xFFFFFFFFFFFFFFFF)) ∷ (E.Debug (number 15)) ∷ (E.Debug (number 0x410410410410410)) ∷ (E.Debug (number 15)) ∷ (E.Debug (number 63)) ∷ (E.Debug (number 0xFFFFFFFFFFFFFFBF)) ∷ (E.Debug (number 0xFFFFFFFFFFFFFFC0)) ∷ (E.Debug (number 0)) ∷ (E.Debug (number 0)) ∷ (E.Debug (number 64)) ∷ (E.Debug (number 0xFFFFFFFFFFFFFFBF)) ∷ (E.Debug (number 0xFFFFFFFFFFFFFFFF)) ∷ (E.Debug (number 0)) ∷ (E.Debug (number 0xFFFFFFFFFFFFFFBF)) ∷ (E.Debug (number 0)) ∷ (E.Debug (number 64)) ∷ (E.Debug (number 1)) ∷ (E.Debug (number 0xFFFFFFFFFFFFFFFF)) ∷ (E.Debug (number 0xFFFFFFFFFFFFFFFF)) ∷ (E.Debug (number 0)) ∷ (E.Debug (number 0)) ∷ (E.Debug (number 0)) ∷ (E.Debug (number 0xFFFFFFFFFFFFFFFF)) ∷ (E.Debug (number 0)) ∷ (E.Debug (number 0xFFFFFFFFFFFFFFFF)) ∷ (E.Debug (number 0xFFFFFFFFFFFFFFFF)) ∷ (E.Debug (number 63)) ∷ (E.Debug (number 0x3FFFFFFFFFFFFFF)) ∷ (E.Debug (number 63)) ∷ (E.Debug (number 0x8000000000000002)) ∷ (E.Debug (number 0x7FFFFFFFFFFFFFFE)) ∷ (E.Debug (number 0)) ∷ (E.Debug (number 0)) ∷ (E.Debug (number 0x2000000000000000)) ∷ (E.Debug (number 0)) ∷ (E.Debug (number 0xFFFFFFFFFFFFFFFF)) ∷ (E.Debug (number 0x8000000000000002)) ∷ (E.Debug (number 0x7FFFFFFFFFFFFFFD)) ∷ (E.Debug (number 0x8000000000000002)) ∷ (E.Debug (number 0x7FFFFFFFFFFFFFFF)) ∷ (E.Debug (number 64)) ∷ (E.Debug (number 64)) ∷ (E.Debug (number 0xFFFFFFFFFFFFFFFF)) ∷ (E.Debug (number 0xFFFFFFFFFFFFFFFF)) ∷ (E.Debug (number 0)) ∷ (E.Debug (number 0)) ∷ (E.Debug (number 0)) ∷ (E.Debug (number 0xFFFFFFFFFFFFFFFF)) ∷ (E.Debug (number 0)) ∷ (E.Debug (number 0xFFFFFFFFFFFFFFFF)) ∷ (E.Debug (number 0xFFFFFFFFFFFFFFFF)) ∷ (E.Debug (number 0)) ∷ (E.Debug (number 0x4000000000000000)) ∷ (E.Debug (number 0)) ∷ []);
  left = ([]);
  values = ([]);
}

ints_rev2_encoded : written_whole W64 fields ints_rev2 ≡ ints_rev2_table
ints_rev2_encoded = refl

ints_rev2_right : name_errors ints_rev2 ++ type_errors ints_rev2 ≡ []
ints_rev2_right = refl

ints_rev2_by_source : of_source W64 ints_rev2 ints_rev2_asked ≡ ints_rev2_told
ints_rev2_by_source = refl

ints_rev2_by_bytes : of_bytes ints_rev2_table ints_rev2_asked ≡ ints_rev2_told
unfolding code_front
ints_rev2_by_bytes = refl

-- bcd rev1
-- Method (M, 1) { Return (ToBCD (Arg0)) } Method (N, 1) { Return (FromBCD (Arg0)) }
abbrev bcd_rev1 : Trees
bcd_rev1 = (terms ((Method at (one "M___") 1 (terms ((Return (Apply (Plain.Number IntOp.ToBcd) (terms ((arg 0) ∷ [])) (terms (Omitted ∷ [])))) ∷ []))) ∷ (Method at (one "N___") 1 (terms ((Return (Apply (Plain.Number IntOp.FromBcd) (terms ((arg 0) ∷ [])) (terms (Omitted ∷ [])))) ∷ []))) ∷ []))

abbrev bcd_rev1_table : List ℕ
bcd_rev1_table =
    table_bytes narrow_fields (hex "14 0B 4D 5F 5F 5F 01 A4 5B 29 68 00 14 0B 4E 5F 5F 5F 01 A4 5B 28 68 00")

abbrev bcd_rev1_asked : Asked
bcd_rev1_asked = record {
  there = present_ones (externals bcd_rev1) ([]);
  bound = 8;
  answers = ([]);
  calls = (call (codes "M___" ∷ []) ((number 0) ∷ []) ∷ call (codes "M___" ∷ []) ((number 0x5F5E0FF) ∷ []) ∷ call (codes "M___" ∷ []) ((number 0x5F5E100) ∷ []) ∷ call (codes "M___" ∷ []) ((number 10) ∷ []) ∷ call (codes "N___" ∷ []) ((number 0x99999999) ∷ []) ∷ call (codes "N___" ∷ []) ((number 10) ∷ []) ∷ call (codes "N___" ∷ []) ((number 0x1A0) ∷ []) ∷ call (codes "N___" ∷ []) ((number 0x12345678) ∷ []) ∷ []);
  paths = ([]);
}

abbrev bcd_rev1_told : Told
bcd_rev1_told = record {
  results = ((Done (Normal false)) ∷ (gives (number 0)) ∷ (gives (number 0x99999999)) ∷ (faults Fault.BadDigit) ∷ (gives (number 16)) ∷ (gives (number 0x5F5E0FF)) ∷ (faults Fault.BadDigit) ∷ (faults Fault.BadDigit) ∷ (gives (number 0xBC614E)) ∷ []);
  events = ([]);
  left = ([]);
  values = ([]);
}

bcd_rev1_encoded : written_whole W32 narrow_fields bcd_rev1 ≡ bcd_rev1_table
bcd_rev1_encoded = refl

bcd_rev1_right : name_errors bcd_rev1 ++ type_errors bcd_rev1 ≡ []
bcd_rev1_right = refl

bcd_rev1_by_source : of_source W32 bcd_rev1 bcd_rev1_asked ≡ bcd_rev1_told
bcd_rev1_by_source = refl

bcd_rev1_by_bytes : of_bytes bcd_rev1_table bcd_rev1_asked ≡ bcd_rev1_told
unfolding code_front
bcd_rev1_by_bytes = refl

-- bcd rev2
-- Method (M, 1) { Return (ToBCD (Arg0)) } Method (N, 1) { Return (FromBCD (Arg0)) }
abbrev bcd_rev2 : Trees
bcd_rev2 = (terms ((Method at (one "M___") 1 (terms ((Return (Apply (Plain.Number IntOp.ToBcd) (terms ((arg 0) ∷ [])) (terms (Omitted ∷ [])))) ∷ []))) ∷ (Method at (one "N___") 1 (terms ((Return (Apply (Plain.Number IntOp.FromBcd) (terms ((arg 0) ∷ [])) (terms (Omitted ∷ [])))) ∷ []))) ∷ []))

abbrev bcd_rev2_table : List ℕ
bcd_rev2_table =
    table_bytes fields (hex "14 0B 4D 5F 5F 5F 01 A4 5B 29 68 00 14 0B 4E 5F 5F 5F 01 A4 5B 28 68 00")

abbrev bcd_rev2_asked : Asked
bcd_rev2_asked = record {
  there = present_ones (externals bcd_rev2) ([]);
  bound = 8;
  answers = ([]);
  calls = (call (codes "M___" ∷ []) ((number 0) ∷ []) ∷ call (codes "M___" ∷ []) ((number 0x5F5E0FF) ∷ []) ∷ call (codes "M___" ∷ []) ((number 0x5F5E100) ∷ []) ∷ call (codes "M___" ∷ []) ((number 10) ∷ []) ∷ call (codes "M___" ∷ []) ((number 0x2386F26FC0FFFF) ∷ []) ∷ call (codes "M___" ∷ []) ((number 0x2386F26FC10000) ∷ []) ∷ call (codes "N___" ∷ []) ((number 0x99999999) ∷ []) ∷ call (codes "N___" ∷ []) ((number 10) ∷ []) ∷ call (codes "N___" ∷ []) ((number 0x1A0) ∷ []) ∷ call (codes "N___" ∷ []) ((number 0x12345678) ∷ []) ∷ call (codes "N___" ∷ []) ((number 0x9999999999999999) ∷ []) ∷ call (codes "N___" ∷ []) ((number 0xA000000000000000) ∷ []) ∷ []);
  paths = ([]);
}

abbrev bcd_rev2_told : Told
bcd_rev2_told = record {
  results = ((Done (Normal false)) ∷ (gives (number 0)) ∷ (gives (number 0x99999999)) ∷ (gives (number 0x100000000)) ∷ (gives (number 16)) ∷ (gives (number 0x9999999999999999)) ∷ (faults Fault.BadDigit) ∷ (gives (number 0x5F5E0FF)) ∷ (faults Fault.BadDigit) ∷ (faults Fault.BadDigit) ∷ (gives (number 0xBC614E)) ∷ (gives (number 0x2386F26FC0FFFF)) ∷ (faults Fault.BadDigit) ∷ []);
  events = ([]);
  left = ([]);
  values = ([]);
}

bcd_rev2_encoded : written_whole W64 fields bcd_rev2 ≡ bcd_rev2_table
bcd_rev2_encoded = refl

bcd_rev2_right : name_errors bcd_rev2 ++ type_errors bcd_rev2 ≡ []
bcd_rev2_right = refl

bcd_rev2_by_source : of_source W64 bcd_rev2 bcd_rev2_asked ≡ bcd_rev2_told
bcd_rev2_by_source = refl

bcd_rev2_by_bytes : of_bytes bcd_rev2_table bcd_rev2_asked ≡ bcd_rev2_told
unfolding code_front
bcd_rev2_by_bytes = refl

-- conversions rev1
-- Method (M, 1) { Debug = ToBuffer (Arg0) Debug = ToHexString (Arg0) Debug = ToDecimalString (Arg0) Debug = Concatenate (Arg0, Arg0) Debug
-- = Concatenate ("", Arg0) Debug = Concatenate (Buffer () {}, Arg0) Debug = Arg0 + 0 Debug = ToInteger (Arg0) }
abbrev conversions_rev1 : Trees
conversions_rev1 = (terms ((Method at (one "M___") 1 (terms ((Assigned DebugTerm (Apply (Plain.Data DataOp.ToBuffer) (terms ((arg 0) ∷ [])) (terms (Omitted ∷ [])))) ∷ (Assigned DebugTerm (Apply (Plain.Data DataOp.ToHexString) (terms ((arg 0) ∷ [])) (terms (Omitted ∷ [])))) ∷ (Assigned DebugTerm (Apply (Plain.Data DataOp.ToDecimalString) (terms ((arg 0) ∷ [])) (terms (Omitted ∷ [])))) ∷ (Assigned DebugTerm (Apply (Plain.Data DataOp.Concatenate) (terms ((arg 0) ∷ (arg 0) ∷ [])) (terms (Omitted ∷ [])))) ∷ (Assigned DebugTerm (Apply (Plain.Data DataOp.Concatenate) (terms ((String (codes "")) ∷ (arg 0) ∷ [])) (terms (Omitted ∷ [])))) ∷ (Assigned DebugTerm (Apply (Plain.Data DataOp.Concatenate) (terms ((Buffer (Integer 0) ([])) ∷ (arg 0) ∷ [])) (terms (Omitted ∷ [])))) ∷ (Assigned DebugTerm (Operated (Plain.Number IntOp.Add) (terms ((arg 0) ∷ (Integer 0) ∷ [])))) ∷ (Assigned DebugTerm (Apply (Plain.Data DataOp.ToInteger) (terms ((arg 0) ∷ [])) (terms (Omitted ∷ [])))) ∷ []))) ∷ []))

abbrev conversions_rev1_table : List ℕ
conversions_rev1_table =
    table_bytes narrow_fields (hex "14 3B 4D 5F 5F 5F 01 70 96 68 00 5B 31 70 98 68 00 5B 31 70 97 68 00 5B 31 70 73 68 68 00 5B 31 70 73 0D 00 68 00 5B 31"
    ++ hex "70 73 11 02 00 68 00 5B 31 72 68 00 5B 31 70 99 68 00 5B 31")

abbrev conversions_rev1_asked : Asked
conversions_rev1_asked = record {
  there = present_ones (externals conversions_rev1) ([]);
  bound = 8;
  answers = ([]);
  calls = (call (codes "M___" ∷ []) ((number 0) ∷ []) ∷ call (codes "M___" ∷ []) ((number 10) ∷ []) ∷ call (codes "M___" ∷ []) ((number 0xFFFFFFFF) ∷ []) ∷ call (codes "M___" ∷ []) ((Data (V.String ([]))) ∷ []) ∷ call (codes "M___" ∷ []) ((Data (V.String (48 ∷ 120 ∷ 49 ∷ 70 ∷ []))) ∷ []) ∷ call (codes "M___" ∷ []) ((Data (V.String (49 ∷ 70 ∷ []))) ∷ []) ∷ call (codes "M___" ∷ []) ((Data (V.String (48 ∷ 120 ∷ []))) ∷ []) ∷ call (codes "M___" ∷ []) ((Data (V.String (57 ∷ 57 ∷ 57 ∷ 57 ∷ 57 ∷ 57 ∷ 57 ∷ 57 ∷ []))) ∷ []) ∷ call (codes "M___" ∷ []) ((Data (V.String (49 ∷ 50 ∷ 51 ∷ 52 ∷ 53 ∷ 54 ∷ 55 ∷ 56 ∷ 57 ∷ 65 ∷ 66 ∷ 67 ∷ 68 ∷ 69 ∷ 70 ∷ 48 ∷ 49 ∷ []))) ∷ []) ∷ call (codes "M___" ∷ []) ((Data (V.String (48 ∷ 120 ∷ 103 ∷ []))) ∷ []) ∷ call (codes "M___" ∷ []) ((Data (V.String (52 ∷ 50 ∷ 57 ∷ 52 ∷ 57 ∷ 54 ∷ 55 ∷ 50 ∷ 57 ∷ 54 ∷ []))) ∷ []) ∷ call (codes "M___" ∷ []) ((Data (V.String (32 ∷ 49 ∷ []))) ∷ []) ∷ call (codes "M___" ∷ []) ((Data (V.String (48 ∷ 88 ∷ 49 ∷ 70 ∷ []))) ∷ []) ∷ call (codes "M___" ∷ []) ((Data (V.Buffer ([]))) ∷ []) ∷ call (codes "M___" ∷ []) ((Data (V.Buffer (1 ∷ []))) ∷ []) ∷ call (codes "M___" ∷ []) ((Data (V.Buffer (1 ∷ 2 ∷ 3 ∷ 4 ∷ 5 ∷ []))) ∷ []) ∷ call (codes "M___" ∷ []) ((Data (V.Buffer (0 ∷ 1 ∷ 2 ∷ 3 ∷ 4 ∷ 5 ∷ 6 ∷ 7 ∷ 8 ∷ []))) ∷ []) ∷ call (codes "M___" ∷ []) ((V.Package no_elements) ∷ []) ∷ []);
  paths = ([]);
}

abbrev conversions_rev1_told : Told
conversions_rev1_told = record {
  results = ((Done (Normal false)) ∷ (Done NoValue) ∷ (Done NoValue) ∷ (Done NoValue) ∷ (faults Fault.EmptyValue) ∷ (Done NoValue) ∷ (Done NoValue) ∷ (Done NoValue) ∷ (Done NoValue) ∷ (Done NoValue) ∷ (Done NoValue) ∷ (faults Fault.Size) ∷ (Done NoValue) ∷ (Done NoValue) ∷ (faults Fault.EmptyValue) ∷ (Done NoValue) ∷ (Done NoValue) ∷ (Done NoValue) ∷ (faults Fault.WrongType) ∷ []);
  events = ((E.Debug (Data (V.Buffer (0 ∷ 0 ∷ 0 ∷ 0 ∷ [])))) ∷ (E.Debug (Data (V.String (48 ∷ 120 ∷ 48 ∷ 48 ∷ 48 ∷ 48 ∷ 48 ∷ 48 ∷ 48 ∷ 48 ∷ [])))) ∷ (E.Debug (Data (V.String (48 ∷ [])))) ∷ (E.Debug (Data (V.Buffer (0 ∷ 0 ∷ 0 ∷ 0 ∷ 0 ∷ 0 ∷ 0 ∷ 0 ∷ [])))) ∷ (E.Debug (Data (V.String (48 ∷ 48 ∷ 48 ∷ 48 ∷ 48 ∷ 48 ∷ 48 ∷ 48 ∷ [])))) ∷ (E.Debug (Data (V.Buffer (0 ∷ 0 ∷ 0 ∷ 0 ∷ [])))) ∷ (E.Debug (number 0)) ∷ (E.Debug (number 0)) ∷ (E.Debug (Data (V.Buffer (10 ∷ 0 ∷ 0 ∷ 0 ∷ [])))) ∷ (E.Debug (Data (V.String (48 ∷ 120 ∷ 48 ∷ 48 ∷ 48 ∷ 48 ∷ 48 ∷ 48 ∷ 48 ∷ 65 ∷ [])))) ∷ (E.Debug (Data (V.String (49 ∷ 48 ∷ [])))) ∷ (E.Debug (Data (V.Buffer (10 ∷ 0 ∷ 0 ∷ 0 ∷ 10 ∷ 0 ∷ 0 ∷ 0 ∷ [])))) ∷ (E.Debug (Data (V.String (48 ∷ 48 ∷ 48 ∷ 48 ∷ 48 ∷ 48 ∷ 48 ∷ 65 ∷ [])))) ∷ (E.Debug (Data (V.Buffer (10 ∷ 0 ∷ 0 ∷ 0 ∷ [])))) ∷ (E.Debug (number 10)) ∷ (E.Debug (number 10)) ∷ (E.Debug (Data (V.Buffer (255 ∷ 255 ∷ 255 ∷ 255 ∷ [])))) ∷ (E.Debug (Data (V.String (48 ∷ 120 ∷ 70 ∷ 70 ∷ 70 ∷ 70 ∷ 70 ∷ 70 ∷ 70 ∷ 70 ∷ [])))) ∷ (E.Debug (Data (V.String (52 ∷ 50 ∷ 57 ∷ 52 ∷ 57 ∷ 54 ∷ 55 ∷ 50 ∷ 57 ∷ 53 ∷ [])))) ∷ (E.Debug (Data (V.Buffer (255 ∷ 255 ∷ 255 ∷ 255 ∷ 255 ∷ 255 ∷ 255 ∷ 255 ∷ [])))) ∷ (E.Debug (Data (V.String (70 ∷ 70 ∷ 70 ∷ 70 ∷ 70 ∷ 70 ∷ 70 ∷ 70 ∷ [])))) ∷ (E.Debug (Data (V.Buffer (255 ∷ 255 ∷ 255 ∷ 255 ∷ [])))) ∷ (E.Debug (number 0xFFFFFFFF)) ∷ (E.Debug (number 0xFFFFFFFF)) ∷ (E.Debug (Data (V.Buffer ([])))) ∷ (E.Debug (Data (V.String ([])))) ∷ (E.Debug (Data (V.String ([])))) ∷ (E.Debug (Data (V.String ([])))) ∷ (E.Debug (Data (V.String ([])))) ∷ (E.Debug (Data (V.Buffer ([])))) ∷ (E.Debug (number 0)) ∷ (E.Debug (Data (V.Buffer (48 ∷ 120 ∷ 49 ∷ 70 ∷ 0 ∷ [])))) ∷ (E.Debug (Data (V.String (48 ∷ 120 ∷ 49 ∷ 70 ∷ [])))) ∷ (E.Debug (Data (V.String (48 ∷ 120 ∷ 49 ∷ 70 ∷ [])))) ∷ (E.Debug (Data (V.String (48 ∷ 120 ∷ 49 ∷ 70 ∷ 48 ∷ 120 ∷ 49 ∷ 70 ∷ [])))) ∷ (E.Debug (Data (V.String (48 ∷ 120 ∷ 49 ∷ 70 ∷ [])))) ∷ (E.Debug (Data (V.Buffer (48 ∷ 120 ∷ 49 ∷ 70 ∷ 0 ∷ [])))) ∷ (E.Debug (number 0)) ∷ (E.Debug (number 31)) ∷ (E.Debug (Data (V.Buffer (49 ∷ 70 ∷ 0 ∷ [])))) ∷ (E.Debug (Data (V.String (49 ∷ 70 ∷ [])))) ∷ (E.Debug (Data (V.String (49 ∷ 70 ∷ [])))) ∷ (E.Debug (Data (V.String (49 ∷ 70 ∷ 49 ∷ 70 ∷ [])))) ∷ (E.Debug (Data (V.String (49 ∷ 70 ∷ [])))) ∷ (E.Debug (Data (V.Buffer (49 ∷ 70 ∷ 0 ∷ [])))) ∷ (E.Debug (number 31)) ∷ (E.Debug (number 1)) ∷ (E.Debug (Data (V.Buffer (48 ∷ 120 ∷ 0 ∷ [])))) ∷ (E.Debug (Data (V.String (48 ∷ 120 ∷ [])))) ∷ (E.Debug (Data (V.String (48 ∷ 120 ∷ [])))) ∷ (E.Debug (Data (V.String (48 ∷ 120 ∷ 48 ∷ 120 ∷ [])))) ∷ (E.Debug (Data (V.String (48 ∷ 120 ∷ [])))) ∷ (E.Debug (Data (V.Buffer (48 ∷ 120 ∷ 0 ∷ [])))) ∷ (E.Debug (number 0)) ∷ (E.Debug (number 0)) ∷ (E.Debug (Data (V.Buffer (57 ∷ 57 ∷ 57 ∷ 57 ∷ 57 ∷ 57 ∷ 57 ∷ 57 ∷ 0 ∷ [])))) ∷ (E.Debug (Data (V.String (57 ∷ 57 ∷ 57 ∷ 57 ∷ 57 ∷ 57 ∷ 57 ∷ 57 ∷ [])))) ∷ (E.Debug (Data (V.String (57 ∷ 57 ∷ 57 ∷ 57 ∷ 57 ∷ 57 ∷ 57 ∷ 57 ∷ [])))) ∷ (E.Debug (Data (V.String (57 ∷ 57 ∷ 57 ∷ 57 ∷ 57 ∷ 57 ∷ 57 ∷ 57 ∷ 57 ∷ 57 ∷ 57 ∷ 57 ∷ 57 ∷ 57 ∷ 57 ∷ 57 ∷ [])))) ∷ (E.Debug (Data (V.String (57 ∷ 57 ∷ 57 ∷ 57 ∷ 57 ∷ 57 ∷ 57 ∷ 57 ∷ [])))) ∷ (E.Debug (Data (V.Buffer (57 ∷ 57 ∷ 57 ∷ 57 ∷ 57 ∷ 57 ∷ 57 ∷ 57 ∷ 0 ∷ [])))) ∷ (E.Debug (number 0x99999999)) ∷ (E.Debug (number 0x5F5E0FF)) ∷ (E.Debug (Data (V.Buffer (49 ∷ 50 ∷ 51 ∷ 52 ∷ 53 ∷ 54 ∷ 55 ∷ 56 ∷ 57 ∷ 65 ∷ 66 ∷ 67 ∷ 68 ∷ 69 ∷ 70 ∷ 48 ∷ 49 ∷ 0 ∷ [])))) ∷ (E.Debug (Data (V.String (49 ∷ 50 ∷ 51 ∷ 52 ∷ 53 ∷ 54 ∷ 55 ∷ 56 ∷ 57 ∷ 65 ∷ 66 ∷ 67 ∷ 68 ∷ 69 ∷ 70 ∷ 48 ∷ 49 ∷ [])))) ∷ (E.Debug (Data (V.String (49 ∷ 50 ∷ 51 ∷ 52 ∷ 53 ∷ 54 ∷ 55 ∷ 56 ∷ 57 ∷ 65 ∷ 66 ∷ 67 ∷ 68 ∷ 69 ∷ 70 ∷ 48 ∷ 49 ∷ [])))) ∷ (E.Debug (Data (V.String (49 ∷ 50 ∷ 51 ∷ 52 ∷ 53 ∷ 54 ∷ 55 ∷ 56 ∷ 57 ∷ 65 ∷ 66 ∷ 67 ∷ 68 ∷ 69 ∷ 70 ∷ 48 ∷ 49 ∷ 49 ∷ 50 ∷ 51 ∷ 52 ∷ 53 ∷ 54 ∷ 55 ∷ 56 ∷ 57 ∷ 65 ∷ 66 ∷ 67 ∷ 68 ∷ 69 ∷ 70 ∷ 48 ∷ 49 ∷ [])))) ∷ (E.Debug (Data (V.String (49 ∷ 50 ∷ 51 ∷ 52 ∷ 53 ∷ 54 ∷ 55 ∷ 56 ∷ 57 ∷ 65 ∷ 66 ∷ 67 ∷ 68 ∷ 69 ∷ 70 ∷ 48 ∷ 49 ∷ [])))) ∷ (E.Debug (Data (V.Buffer (49 ∷ 50 ∷ 51 ∷ 52 ∷ 53 ∷ 54 ∷ 55 ∷ 56 ∷ 57 ∷ 65 ∷ 66 ∷ 67 ∷ 68 ∷ 69 ∷ 70 ∷ 48 ∷ 49 ∷ 0 ∷ [])))) ∷ (E.Debug (number 0x12345678)) ∷ (E.Debug (number 0x75BCD15)) ∷ (E.Debug (Data (V.Buffer (48 ∷ 120 ∷ 103 ∷ 0 ∷ [])))) ∷ (E.Debug (Data (V.String (48 ∷ 120 ∷ 103 ∷ [])))) ∷ (E.Debug (Data (V.String (48 ∷ 120 ∷ 103 ∷ [])))) ∷ (E.Debug (Data (V.String (48 ∷ 120 ∷ 103 ∷ 48 ∷ 120 ∷ 103 ∷ [])))) ∷ (E.Debug (Data (V.String (48 ∷ 120 ∷ 103 ∷ [])))) ∷ (E.Debug (Data (V.Buffer (48 ∷ 120 ∷ 103 ∷ 0 ∷ [])))) ∷ (E.Debug (number 0)) ∷ (E.Debug (number 0)) ∷ (E.Debug (Data (V.Buffer (52 ∷ 50 ∷ 57 ∷ 52 ∷ 57 ∷ 54 ∷ 55 ∷ 50 ∷ 57 ∷ 54 ∷ 0 ∷ [])))) ∷ (E.Debug (Data (V.String (52 ∷ 50 ∷ 57 ∷ 52 ∷ 57 ∷ 54 ∷ 55 ∷ 50 ∷ 57 ∷ 54 ∷ [])))) ∷ (E.Debug (Data (V.String (52 ∷ 50 ∷ 57 ∷ 52 ∷ 57 ∷ 54 ∷ 55 ∷ 50 ∷ 57 ∷ 54 ∷ [])))) ∷ (E.Debug (Data (V.String (52 ∷ 50 ∷ 57 ∷ 52 ∷ 57 ∷ 54 ∷ 55 ∷ 50 ∷ 57 ∷ 54 ∷ 52 ∷ 50 ∷ 57 ∷ 52 ∷ 57 ∷ 54 ∷ 55 ∷ 50 ∷ 57 ∷ 54 ∷ [])))) ∷ (E.Debug (Data (V.String (52 ∷ 50 ∷ 57 ∷ 52 ∷ 57 ∷ 54 ∷ 55 ∷ 50 ∷ 57 ∷ 54 ∷ [])))) ∷ (E.Debug (Data (V.Buffer (52 ∷ 50 ∷ 57 ∷ 52 ∷ 57 ∷ 54 ∷ 55 ∷ 50 ∷ 57 ∷ 54 ∷ 0 ∷ [])))) ∷ (E.Debug (number 0x42949672)) ∷ (E.Debug (Data (V.Buffer (32 ∷ 49 ∷ 0 ∷ [])))) ∷ (E.Debug (Data (V.String (32 ∷ 49 ∷ [])))) ∷ (E.Debug (Data (V.String (32 ∷ 49 ∷ [])))) ∷ (E.Debug (Data (V.String (32 ∷ 49 ∷ 32 ∷ 49 ∷ [])))) ∷ (E.Debug (Data (V.String (32 ∷ 49 ∷ [])))) ∷ (E.Debug (Data (V.Buffer (32 ∷ 49 ∷ 0 ∷ [])))) ∷ (E.Debug (number 0)) ∷ (E.Debug (number 0)) ∷ (E.Debug (Data (V.Buffer (48 ∷ 88 ∷ 49 ∷ 70 ∷ 0 ∷ [])))) ∷ (E.Debug (Data (V.String (48 ∷ 88 ∷ 49 ∷ 70 ∷ [])))) ∷ (E.Debug (Data (V.String (48 ∷ 88 ∷ 49 ∷ 70 ∷ [])))) ∷ (E.Debug (Data (V.String (48 ∷ 88 ∷ 49 ∷ 70 ∷ 48 ∷ 88 ∷ 49 ∷ 70 ∷ [])))) ∷ (E.Debug (Data (V.String (48 ∷ 88 ∷ 49 ∷ 70 ∷ [])))) ∷ (E.Debug (Data (V.Buffer (48 ∷ 88 ∷ 49 ∷ 70 ∷ 0 ∷ [])))) ∷ (E.Debug (number 0)) ∷ (E.Debug (number 0)) ∷ (E.Debug (Data (V.Buffer ([])))) ∷ (E.Debug (Data (V.String ([])))) ∷ (E.Debug (Data (V.String ([])))) ∷ (E.Debug (Data (V.Buffer ([])))) ∷ (E.Debug (Data (V.String ([])))) ∷ (E.Debug (Data (V.Buffer ([])))) ∷ (E.Debug (Data (V.Buffer (1 ∷ [])))) ∷ (E.Debug (Data (V.String (48 ∷ 120 ∷ 48 ∷ 49 ∷ [])))) ∷ (E.Debug (Data (V.String (49 ∷ [])))) ∷ (E.Debug (Data (V.Buffer (1 ∷ 1 ∷ [])))) ∷ (E.Debug (Data (V.String (48 ∷ 49 ∷ [])))) ∷ (E.Debug (Data (V.Buffer (1 ∷ [])))) ∷ (E.Debug (number 1)) ∷ (E.Debug (number 1)) ∷ (E.Debug (Data (V.Buffer (1 ∷ 2 ∷ 3 ∷ 4 ∷ 5 ∷ [])))) ∷ (E.Debug (Data (V.String (48 ∷ 120 ∷ 48 ∷ 49 ∷ 44 ∷ 48 ∷ 120 ∷ 48 ∷ 50 ∷ 44 ∷ 48 ∷ 120 ∷ 48 ∷ 51 ∷ 44 ∷ 48 ∷ 120 ∷ 48 ∷ 52 ∷ 44 ∷ 48 ∷ 120 ∷ 48 ∷ 53 ∷ [])))) ∷ (E.Debug (Data (V.String (49 ∷ 44 ∷ 50 ∷ 44 ∷ 51 ∷ 44 ∷ 52 ∷ 44 ∷ 53 ∷ [])))) ∷ (E.Debug (Data (V.Buffer (1 ∷ 2 ∷ 3 ∷ 4 ∷ 5 ∷ 1 ∷ 2 ∷ 3 ∷ 4 ∷ 5 ∷ [])))) ∷ (E.Debug (Data (V.String (48 ∷ 49 ∷ 32 ∷ 48 ∷ 50 ∷ 32 ∷ 48 ∷ 51 ∷ 32 ∷ 48 ∷ 52 ∷ 32 ∷ 48 ∷ 53 ∷ [])))) ∷ (E.Debug (Data (V.Buffer (1 ∷ 2 ∷ 3 ∷ 4 ∷ 5 ∷ [])))) ∷ (E.Debug (number 0x4030201)) ∷ (E.Debug (number 0x4030201)) ∷ (E.Debug (Data (V.Buffer (0 ∷ 1 ∷ 2 ∷ 3 ∷ 4 ∷ 5 ∷ 6 ∷ 7 ∷ 8 ∷ [])))) ∷ (E.Debug (Data (V.String (48 ∷ 120 ∷ 48 ∷ 48 ∷ 44 ∷ 48 ∷ 120 ∷ 48 ∷ 49 ∷ 44 ∷ 48 ∷ 120 ∷ 48 ∷ 50 ∷ 44 ∷ 48 ∷ 120 ∷ 48 ∷ 51 ∷ 44 ∷ 48 ∷ 120 ∷ 48 ∷ 52 ∷ 44 ∷ 48 ∷ 120 ∷ 48 ∷ 53 ∷ 44 ∷ 48 ∷ 120 ∷ 48 ∷ 54 ∷ 44 ∷ 48 ∷ 120 ∷ 48 ∷ 55 ∷ 44 ∷ 48 ∷ 120 ∷ 48 ∷ 56 ∷ [])))) ∷ (E.Debug (Data (V.String (48 ∷ 44 ∷ 49 ∷ 44 ∷ 50 ∷ 44 ∷ 51 ∷ 44 ∷ 52 ∷ 44 ∷ 53 ∷ 44 ∷ 54 ∷ 44 ∷ 55 ∷ 44 ∷ 56 ∷ [])))) ∷ (E.Debug (Data (V.Buffer (0 ∷ 1 ∷ 2 ∷ 3 ∷ 4 ∷ 5 ∷ 6 ∷ 7 ∷ 8 ∷ 0 ∷ 1 ∷ 2 ∷ 3 ∷ 4 ∷ 5 ∷ 6 ∷ 7 ∷ 8 ∷ [])))) ∷ (E.Debug (Data (V.String (48 ∷ 48 ∷ 32 ∷ 48 ∷ 49 ∷ 32 ∷ 48 ∷ 50 ∷ 32 ∷ 48 ∷ 51 ∷ 32 ∷ 48 ∷ 52 ∷ 32 ∷ 48 ∷ 53 ∷ 32 ∷ 48 ∷ 54 ∷ 32 ∷ 48 ∷ 55 ∷ 32 ∷ 48 ∷ 56 ∷ [])))) ∷ (E.Debug (Data (V.Buffer (0 ∷ 1 ∷ 2 ∷ 3 ∷ 4 ∷ 5 ∷ 6 ∷ 7 ∷ 8 ∷ [])))) ∷ (E.Debug (number 0x3020100)) ∷ (E.Debug (number 0x3020100)) ∷ []);
  left = ([]);
  values = ([]);
}

conversions_rev1_encoded : written_whole W32 narrow_fields conversions_rev1 ≡ conversions_rev1_table
conversions_rev1_encoded = refl

conversions_rev1_right : name_errors conversions_rev1 ++ type_errors conversions_rev1 ≡ []
conversions_rev1_right = refl

conversions_rev1_by_source : of_source W32 conversions_rev1 conversions_rev1_asked ≡ conversions_rev1_told
conversions_rev1_by_source = refl

conversions_rev1_by_bytes : of_bytes conversions_rev1_table conversions_rev1_asked ≡ conversions_rev1_told
unfolding code_front
conversions_rev1_by_bytes = refl

-- conversions rev2
-- Method (M, 1) { Debug = ToBuffer (Arg0) Debug = ToHexString (Arg0) Debug = ToDecimalString (Arg0) Debug = Concatenate (Arg0, Arg0) Debug
-- = Concatenate ("", Arg0) Debug = Concatenate (Buffer () {}, Arg0) Debug = Arg0 + 0 Debug = ToInteger (Arg0) }
abbrev conversions_rev2 : Trees
conversions_rev2 = (terms ((Method at (one "M___") 1 (terms ((Assigned DebugTerm (Apply (Plain.Data DataOp.ToBuffer) (terms ((arg 0) ∷ [])) (terms (Omitted ∷ [])))) ∷ (Assigned DebugTerm (Apply (Plain.Data DataOp.ToHexString) (terms ((arg 0) ∷ [])) (terms (Omitted ∷ [])))) ∷ (Assigned DebugTerm (Apply (Plain.Data DataOp.ToDecimalString) (terms ((arg 0) ∷ [])) (terms (Omitted ∷ [])))) ∷ (Assigned DebugTerm (Apply (Plain.Data DataOp.Concatenate) (terms ((arg 0) ∷ (arg 0) ∷ [])) (terms (Omitted ∷ [])))) ∷ (Assigned DebugTerm (Apply (Plain.Data DataOp.Concatenate) (terms ((String (codes "")) ∷ (arg 0) ∷ [])) (terms (Omitted ∷ [])))) ∷ (Assigned DebugTerm (Apply (Plain.Data DataOp.Concatenate) (terms ((Buffer (Integer 0) ([])) ∷ (arg 0) ∷ [])) (terms (Omitted ∷ [])))) ∷ (Assigned DebugTerm (Operated (Plain.Number IntOp.Add) (terms ((arg 0) ∷ (Integer 0) ∷ [])))) ∷ (Assigned DebugTerm (Apply (Plain.Data DataOp.ToInteger) (terms ((arg 0) ∷ [])) (terms (Omitted ∷ [])))) ∷ []))) ∷ []))

abbrev conversions_rev2_table : List ℕ
conversions_rev2_table =
    table_bytes fields (hex "14 3B 4D 5F 5F 5F 01 70 96 68 00 5B 31 70 98 68 00 5B 31 70 97 68 00 5B 31 70 73 68 68 00 5B 31 70 73 0D 00 68 00 5B 31"
    ++ hex "70 73 11 02 00 68 00 5B 31 72 68 00 5B 31 70 99 68 00 5B 31")

abbrev conversions_rev2_asked : Asked
conversions_rev2_asked = record {
  there = present_ones (externals conversions_rev2) ([]);
  bound = 8;
  answers = ([]);
  calls = (call (codes "M___" ∷ []) ((number 0) ∷ []) ∷ call (codes "M___" ∷ []) ((number 10) ∷ []) ∷ call (codes "M___" ∷ []) ((number 0xFFFFFFFF) ∷ []) ∷ call (codes "M___" ∷ []) ((Data (V.String ([]))) ∷ []) ∷ call (codes "M___" ∷ []) ((Data (V.String (48 ∷ 120 ∷ 49 ∷ 70 ∷ []))) ∷ []) ∷ call (codes "M___" ∷ []) ((Data (V.String (49 ∷ 70 ∷ []))) ∷ []) ∷ call (codes "M___" ∷ []) ((Data (V.String (48 ∷ 120 ∷ []))) ∷ []) ∷ call (codes "M___" ∷ []) ((Data (V.String (57 ∷ 57 ∷ 57 ∷ 57 ∷ 57 ∷ 57 ∷ 57 ∷ 57 ∷ []))) ∷ []) ∷ call (codes "M___" ∷ []) ((Data (V.String (49 ∷ 50 ∷ 51 ∷ 52 ∷ 53 ∷ 54 ∷ 55 ∷ 56 ∷ 57 ∷ 65 ∷ 66 ∷ 67 ∷ 68 ∷ 69 ∷ 70 ∷ 48 ∷ 49 ∷ []))) ∷ []) ∷ call (codes "M___" ∷ []) ((Data (V.String (48 ∷ 120 ∷ 103 ∷ []))) ∷ []) ∷ call (codes "M___" ∷ []) ((Data (V.String (52 ∷ 50 ∷ 57 ∷ 52 ∷ 57 ∷ 54 ∷ 55 ∷ 50 ∷ 57 ∷ 54 ∷ []))) ∷ []) ∷ call (codes "M___" ∷ []) ((Data (V.String (32 ∷ 49 ∷ []))) ∷ []) ∷ call (codes "M___" ∷ []) ((Data (V.String (48 ∷ 88 ∷ 49 ∷ 70 ∷ []))) ∷ []) ∷ call (codes "M___" ∷ []) ((Data (V.Buffer ([]))) ∷ []) ∷ call (codes "M___" ∷ []) ((Data (V.Buffer (1 ∷ []))) ∷ []) ∷ call (codes "M___" ∷ []) ((Data (V.Buffer (1 ∷ 2 ∷ 3 ∷ 4 ∷ 5 ∷ []))) ∷ []) ∷ call (codes "M___" ∷ []) ((Data (V.Buffer (0 ∷ 1 ∷ 2 ∷ 3 ∷ 4 ∷ 5 ∷ 6 ∷ 7 ∷ 8 ∷ []))) ∷ []) ∷ call (codes "M___" ∷ []) ((V.Package no_elements) ∷ []) ∷ []);
  paths = ([]);
}

abbrev conversions_rev2_told : Told
conversions_rev2_told = record {
  results = ((Done (Normal false)) ∷ (Done NoValue) ∷ (Done NoValue) ∷ (Done NoValue) ∷ (faults Fault.EmptyValue) ∷ (Done NoValue) ∷ (Done NoValue) ∷ (Done NoValue) ∷ (Done NoValue) ∷ (Done NoValue) ∷ (Done NoValue) ∷ (Done NoValue) ∷ (Done NoValue) ∷ (Done NoValue) ∷ (faults Fault.EmptyValue) ∷ (Done NoValue) ∷ (Done NoValue) ∷ (Done NoValue) ∷ (faults Fault.WrongType) ∷ []);
  events = ((E.Debug (Data (V.Buffer (0 ∷ 0 ∷ 0 ∷ 0 ∷ 0 ∷ 0 ∷ 0 ∷ 0 ∷ [])))) ∷ (E.Debug (Data (V.String (48 ∷ 120 ∷ 48 ∷ 48 ∷ 48 ∷ 48 ∷ 48 ∷ 48 ∷ 48 ∷ 48 ∷ 48 ∷ 48 ∷ 48 ∷ 48 ∷ 48 ∷ 48 ∷ 48 ∷ 48 ∷ [])))) ∷ (E.Debug (Data (V.String (48 ∷ [])))) ∷ (E.Debug (Data (V.Buffer (0 ∷ 0 ∷ 0 ∷ 0 ∷ 0 ∷ 0 ∷ 0 ∷ 0 ∷ 0 ∷ 0 ∷ 0 ∷ 0 ∷ 0 ∷ 0 ∷ 0 ∷ 0 ∷ [])))) ∷ (E.Debug (Data (V.String (48 ∷ 48 ∷ 48 ∷ 48 ∷ 48 ∷ 48 ∷ 48 ∷ 48 ∷ 48 ∷ 48 ∷ 48 ∷ 48 ∷ 48 ∷ 48 ∷ 48 ∷ 48 ∷ [])))) ∷ (E.Debug (Data (V.Buffer (0 ∷ 0 ∷ 0 ∷ 0 ∷ 0 ∷ 0 ∷ 0 ∷ 0 ∷ [])))) ∷ (E.Debug (number 0)) ∷ (E.Debug (number 0)) ∷ (E.Debug (Data (V.Buffer (10 ∷ 0 ∷ 0 ∷ 0 ∷ 0 ∷ 0 ∷ 0 ∷ 0 ∷ [])))) ∷ (E.Debug (Data (V.String (48 ∷ 120 ∷ 48 ∷ 48 ∷ 48 ∷ 48 ∷ 48 ∷ 48 ∷ 48 ∷ 48 ∷ 48 ∷ 48 ∷ 48 ∷ 48 ∷ 48 ∷ 48 ∷ 48 ∷ 65 ∷ [])))) ∷ (E.Debug (Data (V.String (49 ∷ 48 ∷ [])))) ∷ (E.Debug (Data (V.Buffer (10 ∷ 0 ∷ 0 ∷ 0 ∷ 0 ∷ 0 ∷ 0 ∷ 0 ∷ 10 ∷ 0 ∷ 0 ∷ 0 ∷ 0 ∷ 0 ∷ 0 ∷ 0 ∷ [])))) ∷ (E.Debug (Data (V.String (48 ∷ 48 ∷ 48 ∷ 48 ∷ 48 ∷ 48 ∷ 48 ∷ 48 ∷ 48 ∷ 48 ∷ 48 ∷ 48 ∷ 48 ∷ 48 ∷ 48 ∷ 65 ∷ [])))) ∷ (E.Debug (Data (V.Buffer (10 ∷ 0 ∷ 0 ∷ 0 ∷ 0 ∷ 0 ∷ 0 ∷ 0 ∷ [])))) ∷ (E.Debug (number 10)) ∷ (E.Debug (number 10)) ∷ (E.Debug (Data (V.Buffer (255 ∷ 255 ∷ 255 ∷ 255 ∷ 0 ∷ 0 ∷ 0 ∷ 0 ∷ [])))) ∷ (E.Debug (Data (V.String (48 ∷ 120 ∷ 48 ∷ 48 ∷ 48 ∷ 48 ∷ 48 ∷ 48 ∷ 48 ∷ 48 ∷ 70 ∷ 70 ∷ 70 ∷ 70 ∷ 70 ∷ 70 ∷ 70 ∷ 70 ∷ [])))) ∷ (E.Debug (Data (V.String (52 ∷ 50 ∷ 57 ∷ 52 ∷ 57 ∷ 54 ∷ 55 ∷ 50 ∷ 57 ∷ 53 ∷ [])))) ∷ (E.Debug (Data (V.Buffer (255 ∷ 255 ∷ 255 ∷ 255 ∷ 0 ∷ 0 ∷ 0 ∷ 0 ∷ 255 ∷ 255 ∷ 255 ∷ 255 ∷ 0 ∷ 0 ∷ 0 ∷ 0 ∷ [])))) ∷ (E.Debug (Data (V.String (48 ∷ 48 ∷ 48 ∷ 48 ∷ 48 ∷ 48 ∷ 48 ∷ 48 ∷ 70 ∷ 70 ∷ 70 ∷ 70 ∷ 70 ∷ 70 ∷ 70 ∷ 70 ∷ [])))) ∷ (E.Debug (Data (V.Buffer (255 ∷ 255 ∷ 255 ∷ 255 ∷ 0 ∷ 0 ∷ 0 ∷ 0 ∷ [])))) ∷ (E.Debug (number 0xFFFFFFFF)) ∷ (E.Debug (number 0xFFFFFFFF)) ∷ (E.Debug (Data (V.Buffer ([])))) ∷ (E.Debug (Data (V.String ([])))) ∷ (E.Debug (Data (V.String ([])))) ∷ (E.Debug (Data (V.String ([])))) ∷ (E.Debug (Data (V.String ([])))) ∷ (E.Debug (Data (V.Buffer ([])))) ∷ (E.Debug (number 0)) ∷ (E.Debug (Data (V.Buffer (48 ∷ 120 ∷ 49 ∷ 70 ∷ 0 ∷ [])))) ∷ (E.Debug (Data (V.String (48 ∷ 120 ∷ 49 ∷ 70 ∷ [])))) ∷ (E.Debug (Data (V.String (48 ∷ 120 ∷ 49 ∷ 70 ∷ [])))) ∷ (E.Debug (Data (V.String (48 ∷ 120 ∷ 49 ∷ 70 ∷ 48 ∷ 120 ∷ 49 ∷ 70 ∷ [])))) ∷ (E.Debug (Data (V.String (48 ∷ 120 ∷ 49 ∷ 70 ∷ [])))) ∷ (E.Debug (Data (V.Buffer (48 ∷ 120 ∷ 49 ∷ 70 ∷ 0 ∷ [])))) ∷ (E.Debug (number 0)) ∷ (E.Debug (number 31)) ∷ (E.Debug (Data (V.Buffer (49 ∷ 70 ∷ 0 ∷ [])))) ∷ (E.Debug (Data (V.String (49 ∷ 70 ∷ [])))) ∷ (E.Debug (Data (V.String (49 ∷ 70 ∷ [])))) ∷ (E.Debug (Data (V.String (49 ∷ 70 ∷ 49 ∷ 70 ∷ [])))) ∷ (E.Debug (Data (V.String (49 ∷ 70 ∷ [])))) ∷ (E.Debug (Data (V.Buffer (49 ∷ 70 ∷ 0 ∷ [])))) ∷ (E.Debug (number 31)) ∷ (E.Debug (number 1)) ∷ (E.Debug (Data (V.Buffer (48 ∷ 120 ∷ 0 ∷ [])))) ∷ (E.Debug (Data (V.String (48 ∷ 120 ∷ [])))) ∷ (E.Debug (Data (V.String (48 ∷ 120 ∷ [])))) ∷ (E.Debug (Data (V.String (48 ∷ 120 ∷ 48 ∷ 120 ∷ [])))) ∷ (E.Debug (Data (V.String (48 ∷ 120 ∷ [])))) ∷ (E.Debug (Data (V.Buffer (48 ∷ 120 ∷ 0 ∷ [])))) ∷ (E.Debug (number 0)) ∷ (E.Debug (number 0)) ∷ (E.Debug (Data (V.Buffer (57 ∷ 57 ∷ 57 ∷ 57 ∷ 57 ∷ 57 ∷ 57 ∷ 57 ∷ 0 ∷ [])))) ∷ (E.Debug (Data (V.String (57 ∷ 57 ∷ 57 ∷ 57 ∷ 57 ∷ 57 ∷ 57 ∷ 57 ∷ [])))) ∷ (E.Debug (Data (V.String (57 ∷ 57 ∷ 57 ∷ 57 ∷ 57 ∷ 57 ∷ 57 ∷ 57 ∷ [])))) ∷ (E.Debug (Data (V.String (57 ∷ 57 ∷ 57 ∷ 57 ∷ 57 ∷ 57 ∷ 57 ∷ 57 ∷ 57 ∷ 57 ∷ 57 ∷ 57 ∷ 57 ∷ 57 ∷ 57 ∷ 57 ∷ [])))) ∷ (E.Debug (Data (V.String (57 ∷ 57 ∷ 57 ∷ 57 ∷ 57 ∷ 57 ∷ 57 ∷ 57 ∷ [])))) ∷ (E.Debug (Data (V.Buffer (57 ∷ 57 ∷ 57 ∷ 57 ∷ 57 ∷ 57 ∷ 57 ∷ 57 ∷ 0 ∷ [])))) ∷ (E.Debug (number 0x99999999)) ∷ (E.Debug (number 0x5F5E0FF)) ∷ (E.Debug (Data (V.Buffer (49 ∷ 50 ∷ 51 ∷ 52 ∷ 53 ∷ 54 ∷ 55 ∷ 56 ∷ 57 ∷ 65 ∷ 66 ∷ 67 ∷ 68 ∷ 69 ∷ 70 ∷ 48 ∷ 49 ∷ 0 ∷ [])))) ∷ (E.Debug (Data (V.String (49 ∷ 50 ∷ 51 ∷ 52 ∷ 53 ∷ 54 ∷ 55 ∷ 56 ∷ 57 ∷ 65 ∷ 66 ∷ 67 ∷ 68 ∷ 69 ∷ 70 ∷ 48 ∷ 49 ∷ [])))) ∷ (E.Debug (Data (V.String (49 ∷ 50 ∷ 51 ∷ 52 ∷ 53 ∷ 54 ∷ 55 ∷ 56 ∷ 57 ∷ 65 ∷ 66 ∷ 67 ∷ 68 ∷ 69 ∷ 70 ∷ 48 ∷ 49 ∷ [])))) ∷ (E.Debug (Data (V.String (49 ∷ 50 ∷ 51 ∷ 52 ∷ 53 ∷ 54 ∷ 55 ∷ 56 ∷ 57 ∷ 65 ∷ 66 ∷ 67 ∷ 68 ∷ 69 ∷ 70 ∷ 48 ∷ 49 ∷ 49 ∷ 50 ∷ 51 ∷ 52 ∷ 53 ∷ 54 ∷ 55 ∷ 56 ∷ 57 ∷ 65 ∷ 66 ∷ 67 ∷ 68 ∷ 69 ∷ 70 ∷ 48 ∷ 49 ∷ [])))) ∷ (E.Debug (Data (V.String (49 ∷ 50 ∷ 51 ∷ 52 ∷ 53 ∷ 54 ∷ 55 ∷ 56 ∷ 57 ∷ 65 ∷ 66 ∷ 67 ∷ 68 ∷ 69 ∷ 70 ∷ 48 ∷ 49 ∷ [])))) ∷ (E.Debug (Data (V.Buffer (49 ∷ 50 ∷ 51 ∷ 52 ∷ 53 ∷ 54 ∷ 55 ∷ 56 ∷ 57 ∷ 65 ∷ 66 ∷ 67 ∷ 68 ∷ 69 ∷ 70 ∷ 48 ∷ 49 ∷ 0 ∷ [])))) ∷ (E.Debug (number 0x123456789ABCDEF0)) ∷ (E.Debug (number 0x75BCD15)) ∷ (E.Debug (Data (V.Buffer (48 ∷ 120 ∷ 103 ∷ 0 ∷ [])))) ∷ (E.Debug (Data (V.String (48 ∷ 120 ∷ 103 ∷ [])))) ∷ (E.Debug (Data (V.String (48 ∷ 120 ∷ 103 ∷ [])))) ∷ (E.Debug (Data (V.String (48 ∷ 120 ∷ 103 ∷ 48 ∷ 120 ∷ 103 ∷ [])))) ∷ (E.Debug (Data (V.String (48 ∷ 120 ∷ 103 ∷ [])))) ∷ (E.Debug (Data (V.Buffer (48 ∷ 120 ∷ 103 ∷ 0 ∷ [])))) ∷ (E.Debug (number 0)) ∷ (E.Debug (number 0)) ∷ (E.Debug (Data (V.Buffer (52 ∷ 50 ∷ 57 ∷ 52 ∷ 57 ∷ 54 ∷ 55 ∷ 50 ∷ 57 ∷ 54 ∷ 0 ∷ [])))) ∷ (E.Debug (Data (V.String (52 ∷ 50 ∷ 57 ∷ 52 ∷ 57 ∷ 54 ∷ 55 ∷ 50 ∷ 57 ∷ 54 ∷ [])))) ∷ (E.Debug (Data (V.String (52 ∷ 50 ∷ 57 ∷ 52 ∷ 57 ∷ 54 ∷ 55 ∷ 50 ∷ 57 ∷ 54 ∷ [])))) ∷ (E.Debug (Data (V.String (52 ∷ 50 ∷ 57 ∷ 52 ∷ 57 ∷ 54 ∷ 55 ∷ 50 ∷ 57 ∷ 54 ∷ 52 ∷ 50 ∷ 57 ∷ 52 ∷ 57 ∷ 54 ∷ 55 ∷ 50 ∷ 57 ∷ 54 ∷ [])))) ∷ (E.Debug (Data (V.String (52 ∷ 50 ∷ 57 ∷ 52 ∷ 57 ∷ 54 ∷ 55 ∷ 50 ∷ 57 ∷ 54 ∷ [])))) ∷ (E.Debug (Data (V.Buffer (52 ∷ 50 ∷ 57 ∷ 52 ∷ 57 ∷ 54 ∷ 55 ∷ 50 ∷ 57 ∷ 54 ∷ 0 ∷ [])))) ∷ (E.Debug (number 0x4294967296)) ∷ (E.Debug (number 0x100000000)) ∷ (E.Debug (Data (V.Buffer (32 ∷ 49 ∷ 0 ∷ [])))) ∷ (E.Debug (Data (V.String (32 ∷ 49 ∷ [])))) ∷ (E.Debug (Data (V.String (32 ∷ 49 ∷ [])))) ∷ (E.Debug (Data (V.String (32 ∷ 49 ∷ 32 ∷ 49 ∷ [])))) ∷ (E.Debug (Data (V.String (32 ∷ 49 ∷ [])))) ∷ (E.Debug (Data (V.Buffer (32 ∷ 49 ∷ 0 ∷ [])))) ∷ (E.Debug (number 0)) ∷ (E.Debug (number 0)) ∷ (E.Debug (Data (V.Buffer (48 ∷ 88 ∷ 49 ∷ 70 ∷ 0 ∷ [])))) ∷ (E.Debug (Data (V.String (48 ∷ 88 ∷ 49 ∷ 70 ∷ [])))) ∷ (E.Debug (Data (V.String (48 ∷ 88 ∷ 49 ∷ 70 ∷ [])))) ∷ (E.Debug (Data (V.String (48 ∷ 88 ∷ 49 ∷ 70 ∷ 48 ∷ 88 ∷ 49 ∷ 70 ∷ [])))) ∷ (E.Debug (Data (V.String (48 ∷ 88 ∷ 49 ∷ 70 ∷ [])))) ∷ (E.Debug (Data (V.Buffer (48 ∷ 88 ∷ 49 ∷ 70 ∷ 0 ∷ [])))) ∷ (E.Debug (number 0)) ∷ (E.Debug (number 0)) ∷ (E.Debug (Data (V.Buffer ([])))) ∷ (E.Debug (Data (V.String ([])))) ∷ (E.Debug (Data (V.String ([])))) ∷ (E.Debug (Data (V.Buffer ([])))) ∷ (E.Debug (Data (V.String ([])))) ∷ (E.Debug (Data (V.Buffer ([])))) ∷ (E.Debug (Data (V.Buffer (1 ∷ [])))) ∷ (E.Debug (Data (V.String (48 ∷ 120 ∷ 48 ∷ 49 ∷ [])))) ∷ (E.Debug (Data (V.String (49 ∷ [])))) ∷ (E.Debug (Data (V.Buffer (1 ∷ 1 ∷ [])))) ∷ (E.Debug (Data (V.String (48 ∷ 49 ∷ [])))) ∷ (E.Debug (Data (V.Buffer (1 ∷ [])))) ∷ (E.Debug (number 1)) ∷ (E.Debug (number 1)) ∷ (E.Debug (Data (V.Buffer (1 ∷ 2 ∷ 3 ∷ 4 ∷ 5 ∷ [])))) ∷ (E.Debug (Data (V.String (48 ∷ 120 ∷ 48 ∷ 49 ∷ 44 ∷ 48 ∷ 120 ∷ 48 ∷ 50 ∷ 44 ∷ 48 ∷ 120 ∷ 48 ∷ 51 ∷ 44 ∷ 48 ∷ 120 ∷ 48 ∷ 52 ∷ 44 ∷ 48 ∷ 120 ∷ 48 ∷ 53 ∷ [])))) ∷ (E.Debug (Data (V.String (49 ∷ 44 ∷ 50 ∷ 44 ∷ 51 ∷ 44 ∷ 52 ∷ 44 ∷ 53 ∷ [])))) ∷ (E.Debug (Data (V.Buffer (1 ∷ 2 ∷ 3 ∷ 4 ∷ 5 ∷ 1 ∷ 2 ∷ 3 ∷ 4 ∷ 5 ∷ [])))) ∷ (E.Debug (Data (V.String (48 ∷ 49 ∷ 32 ∷ 48 ∷ 50 ∷ 32 ∷ 48 ∷ 51 ∷ 32 ∷ 48 ∷ 52 ∷ 32 ∷ 48 ∷ 53 ∷ [])))) ∷ (E.Debug (Data (V.Buffer (1 ∷ 2 ∷ 3 ∷ 4 ∷ 5 ∷ [])))) ∷ (E.Debug (number 0x504030201)) ∷ (E.Debug (number 0x504030201)) ∷ (E.Debug (Data (V.Buffer (0 ∷ 1 ∷ 2 ∷ 3 ∷ 4 ∷ 5 ∷ 6 ∷ 7 ∷ 8 ∷ [])))) ∷ (E.Debug (Data (V.String (48 ∷ 120 ∷ 48 ∷ 48 ∷ 44 ∷ 48 ∷ 120 ∷ 48 ∷ 49 ∷ 44 ∷ 48 ∷ 120 ∷ 48 ∷ 50 ∷ 44 ∷ 48 ∷ 120 ∷ 48 ∷ 51 ∷ 44 ∷ 48 ∷ 120 ∷ 48 ∷ 52 ∷ 44 ∷ 48 ∷ 120 ∷ 48 ∷ 53 ∷ 44 ∷ 48 ∷ 120 ∷ 48 ∷ 54 ∷ 44 ∷ 48 ∷ 120 ∷ 48 ∷ 55 ∷ 44 ∷ 48 ∷ 120 ∷ 48 ∷ 56 ∷ [])))) ∷ (E.Debug (Data (V.String (48 ∷ 44 ∷ 49 ∷ 44 ∷ 50 ∷ 44 ∷ 51 ∷ 44 ∷ 52 ∷ 44 ∷ 53 ∷ 44 ∷ 54 ∷ 44 ∷ 55 ∷ 44 ∷ 56 ∷ [])))) ∷ (E.Debug (Data (V.Buffer (0 ∷ 1 ∷ 2 ∷ 3 ∷ 4 ∷ 5 ∷ 6 ∷ 7 ∷ 8 ∷ 0 ∷ 1 ∷ 2 ∷ 3 ∷ 4 ∷ 5 ∷ 6 ∷ 7 ∷ 8 ∷ [])))) ∷ (E.Debug (Data (V.String (48 ∷ 48 ∷ 32 ∷ 48 ∷ 49 ∷ 32 ∷ 48 ∷ 50 ∷ 32 ∷ 48 ∷ 51 ∷ 32 ∷ 48 ∷ 52 ∷ 32 ∷ 48 ∷ 53 ∷ 32 ∷ 48 ∷ 54 ∷ 32 ∷ 48 ∷ 55 ∷ 32 ∷ 48 ∷ 56 ∷ [])))) ∷ (E.Debug (Data (V.Buffer (0 ∷ 1 ∷ 2 ∷ 3 ∷ 4 ∷ 5 ∷ 6 ∷ 7 ∷ 8 ∷ [])))) ∷ (E.Debug (number 0x706050403020100)) ∷ (E.Debug (number 0x706050403020100)) ∷ []);
  left = ([]);
  values = ([]);
}

conversions_rev2_encoded : written_whole W64 fields conversions_rev2 ≡ conversions_rev2_table
conversions_rev2_encoded = refl

conversions_rev2_right : name_errors conversions_rev2 ++ type_errors conversions_rev2 ≡ []
conversions_rev2_right = refl

conversions_rev2_by_source : of_source W64 conversions_rev2 conversions_rev2_asked ≡ conversions_rev2_told
conversions_rev2_by_source = refl

conversions_rev2_by_bytes : of_bytes conversions_rev2_table conversions_rev2_asked ≡ conversions_rev2_told
unfolding code_front
conversions_rev2_by_bytes = refl

-- tointeger size
-- Method (M, 1) { Return (ToInteger (Arg0)) }
abbrev tointeger_size : Trees
tointeger_size = (terms ((Method at (one "M___") 1 (terms ((Return (Apply (Plain.Data DataOp.ToInteger) (terms ((arg 0) ∷ [])) (terms (Omitted ∷ [])))) ∷ []))) ∷ []))

abbrev tointeger_size_table : List ℕ
tointeger_size_table =
    table_bytes fields (hex "14 0A 4D 5F 5F 5F 01 A4 99 68 00")

abbrev tointeger_size_asked : Asked
tointeger_size_asked = record {
  there = present_ones (externals tointeger_size) ([]);
  bound = 8;
  answers = ([]);
  calls = (call (codes "M___" ∷ []) ((Data (V.String (49 ∷ 56 ∷ 52 ∷ 52 ∷ 54 ∷ 55 ∷ 52 ∷ 52 ∷ 48 ∷ 55 ∷ 51 ∷ 55 ∷ 48 ∷ 57 ∷ 53 ∷ 53 ∷ 49 ∷ 54 ∷ 49 ∷ 53 ∷ []))) ∷ []) ∷ call (codes "M___" ∷ []) ((Data (V.String (49 ∷ 56 ∷ 52 ∷ 52 ∷ 54 ∷ 55 ∷ 52 ∷ 52 ∷ 48 ∷ 55 ∷ 51 ∷ 55 ∷ 48 ∷ 57 ∷ 53 ∷ 53 ∷ 49 ∷ 54 ∷ 49 ∷ 54 ∷ []))) ∷ []) ∷ call (codes "M___" ∷ []) ((Data (V.String (48 ∷ 120 ∷ 70 ∷ 70 ∷ 70 ∷ 70 ∷ 70 ∷ 70 ∷ 70 ∷ 70 ∷ 70 ∷ 70 ∷ 70 ∷ 70 ∷ 70 ∷ 70 ∷ 70 ∷ 70 ∷ []))) ∷ []) ∷ call (codes "M___" ∷ []) ((Data (V.String (48 ∷ 120 ∷ 49 ∷ 48 ∷ 48 ∷ 48 ∷ 48 ∷ 48 ∷ 48 ∷ 48 ∷ 48 ∷ 48 ∷ 48 ∷ 48 ∷ 48 ∷ 48 ∷ 48 ∷ 48 ∷ 48 ∷ []))) ∷ []) ∷ call (codes "M___" ∷ []) ((Data (V.String (48 ∷ 48 ∷ 48 ∷ 48 ∷ 48 ∷ 48 ∷ 48 ∷ 48 ∷ 48 ∷ 48 ∷ 48 ∷ 48 ∷ 48 ∷ 48 ∷ 48 ∷ 48 ∷ 48 ∷ 48 ∷ 48 ∷ 48 ∷ 48 ∷ 48 ∷ 48 ∷ 48 ∷ 48 ∷ 48 ∷ 48 ∷ 48 ∷ 49 ∷ []))) ∷ []) ∷ call (codes "M___" ∷ []) ((Data (V.String (48 ∷ 120 ∷ 48 ∷ 48 ∷ 48 ∷ 48 ∷ 48 ∷ 48 ∷ 48 ∷ 48 ∷ 48 ∷ 48 ∷ 48 ∷ 48 ∷ 48 ∷ 48 ∷ 48 ∷ 48 ∷ 48 ∷ 48 ∷ 48 ∷ 48 ∷ 48 ∷ 48 ∷ 48 ∷ 48 ∷ 48 ∷ 48 ∷ 48 ∷ 48 ∷ 48 ∷ 48 ∷ 48 ∷ 49 ∷ []))) ∷ []) ∷ call (codes "M___" ∷ []) ((Data (V.String (57 ∷ 122 ∷ []))) ∷ []) ∷ call (codes "M___" ∷ []) ((Data (V.String (122 ∷ []))) ∷ []) ∷ call (codes "M___" ∷ []) ((Data (V.String (48 ∷ []))) ∷ []) ∷ []);
  paths = ([]);
}

abbrev tointeger_size_told : Told
tointeger_size_told = record {
  results = ((Done (Normal false)) ∷ (gives (number 0xFFFFFFFFFFFFFFFF)) ∷ (faults Fault.Size) ∷ (gives (number 0xFFFFFFFFFFFFFFFF)) ∷ (faults Fault.Size) ∷ (gives (number 1)) ∷ (gives (number 1)) ∷ (gives (number 9)) ∷ (gives (number 0)) ∷ (gives (number 0)) ∷ []);
  events = ([]);
  left = ([]);
  values = ([]);
}

tointeger_size_encoded : written_whole W64 fields tointeger_size ≡ tointeger_size_table
tointeger_size_encoded = refl

tointeger_size_right : name_errors tointeger_size ++ type_errors tointeger_size ≡ []
tointeger_size_right = refl

tointeger_size_by_source : of_source W64 tointeger_size tointeger_size_asked ≡ tointeger_size_told
tointeger_size_by_source = refl

tointeger_size_by_bytes : of_bytes tointeger_size_table tointeger_size_asked ≡ tointeger_size_told
unfolding code_front
tointeger_size_by_bytes = refl

-- comparisons of kinds
-- Method (M, 2) { Debug = (Arg0 == Arg1) Debug = (Arg0 < Arg1) Debug = (Arg0 > Arg1) Debug = (Arg0 <= Arg1) Debug = LGreaterEqual (Arg0,
-- Arg1) Debug = LNotEqual (Arg0, Arg1) }
abbrev comparisons_of_kinds : Trees
comparisons_of_kinds = (terms ((Method at (one "M___") 2 (terms ((Assigned DebugTerm (Operated (Plain.Number IntOp.LEqual) (terms ((arg 0) ∷ (arg 1) ∷ [])))) ∷ (Assigned DebugTerm (Operated (Plain.Number IntOp.LLess) (terms ((arg 0) ∷ (arg 1) ∷ [])))) ∷ (Assigned DebugTerm (Operated (Plain.Number IntOp.LGreater) (terms ((arg 0) ∷ (arg 1) ∷ [])))) ∷ (Assigned DebugTerm (Operated (Plain.Number IntOp.LNot) (terms ((Operated (Plain.Number IntOp.LGreater) (terms ((arg 0) ∷ (arg 1) ∷ []))) ∷ [])))) ∷ (Assigned DebugTerm (Apply (Plain.Number IntOp.LNot) (terms ((Apply (Plain.Number IntOp.LLess) (terms ((arg 0) ∷ (arg 1) ∷ [])) no_trees) ∷ [])) no_trees)) ∷ (Assigned DebugTerm (Apply (Plain.Number IntOp.LNot) (terms ((Apply (Plain.Number IntOp.LEqual) (terms ((arg 0) ∷ (arg 1) ∷ [])) no_trees) ∷ [])) no_trees)) ∷ []))) ∷ []))

abbrev comparisons_of_kinds_table : List ℕ
comparisons_of_kinds_table =
    table_bytes fields (hex "14 2D 4D 5F 5F 5F 02 70 93 68 69 5B 31 70 95 68 69 5B 31 70 94 68 69 5B 31 70 92 94 68 69 5B 31 70 92 95 68 69 5B 31 70"
    ++ hex "92 93 68 69 5B 31")

abbrev comparisons_of_kinds_asked : Asked
comparisons_of_kinds_asked = record {
  there = present_ones (externals comparisons_of_kinds) ([]);
  bound = 8;
  answers = ([]);
  calls = (call (codes "M___" ∷ []) ((Data (V.String (97 ∷ 98 ∷ 99 ∷ []))) ∷ (Data (V.String (97 ∷ 98 ∷ 100 ∷ []))) ∷ []) ∷ call (codes "M___" ∷ []) ((Data (V.String (97 ∷ 98 ∷ []))) ∷ (Data (V.String (97 ∷ 98 ∷ 99 ∷ []))) ∷ []) ∷ call (codes "M___" ∷ []) ((Data (V.String (97 ∷ 98 ∷ 99 ∷ []))) ∷ (Data (V.String (97 ∷ 98 ∷ []))) ∷ []) ∷ call (codes "M___" ∷ []) ((Data (V.String ([]))) ∷ (Data (V.String ([]))) ∷ []) ∷ call (codes "M___" ∷ []) ((Data (V.Buffer (1 ∷ []))) ∷ (Data (V.Buffer (1 ∷ 0 ∷ []))) ∷ []) ∷ call (codes "M___" ∷ []) ((Data (V.Buffer (1 ∷ 2 ∷ []))) ∷ (Data (V.Buffer (1 ∷ 3 ∷ []))) ∷ []) ∷ call (codes "M___" ∷ []) ((number 5) ∷ (Data (V.String (53 ∷ []))) ∷ []) ∷ call (codes "M___" ∷ []) ((Data (V.String (48 ∷ 48 ∷ 48 ∷ 48 ∷ 48 ∷ 48 ∷ 48 ∷ 48 ∷ 48 ∷ 48 ∷ 48 ∷ 48 ∷ 48 ∷ 48 ∷ 48 ∷ 53 ∷ []))) ∷ (number 5) ∷ []) ∷ call (codes "M___" ∷ []) ((Data (V.Buffer (5 ∷ 0 ∷ 0 ∷ 0 ∷ 0 ∷ 0 ∷ 0 ∷ 0 ∷ []))) ∷ (number 5) ∷ []) ∷ call (codes "M___" ∷ []) ((Data (V.String (48 ∷ 49 ∷ 32 ∷ 48 ∷ 50 ∷ []))) ∷ (Data (V.Buffer (1 ∷ 2 ∷ []))) ∷ []) ∷ call (codes "M___" ∷ []) ((Data (V.Buffer (65 ∷ 0 ∷ []))) ∷ (Data (V.String (65 ∷ []))) ∷ []) ∷ call (codes "M___" ∷ []) ((number 5) ∷ (Data (V.Buffer ([]))) ∷ []) ∷ call (codes "M___" ∷ []) ((Data (V.Buffer ([]))) ∷ (number 5) ∷ []) ∷ call (codes "M___" ∷ []) ((Data (V.Buffer ([]))) ∷ (Data (V.String ([]))) ∷ []) ∷ call (codes "M___" ∷ []) ((number 5) ∷ (V.Package no_elements) ∷ []) ∷ call (codes "M___" ∷ []) ((V.Package no_elements) ∷ (number 5) ∷ []) ∷ []);
  paths = ([]);
}

abbrev comparisons_of_kinds_told : Told
comparisons_of_kinds_told = record {
  results = ((Done (Normal false)) ∷ (Done NoValue) ∷ (Done NoValue) ∷ (Done NoValue) ∷ (Done NoValue) ∷ (Done NoValue) ∷ (Done NoValue) ∷ (Done NoValue) ∷ (Done NoValue) ∷ (Done NoValue) ∷ (Done NoValue) ∷ (Done NoValue) ∷ (faults Fault.EmptyValue) ∷ (Done NoValue) ∷ (Done NoValue) ∷ (faults Fault.WrongType) ∷ (faults Fault.WrongType) ∷ []);
  events = ((E.Debug (number 0)) ∷ (E.Debug (number 0xFFFFFFFFFFFFFFFF)) ∷ (E.Debug (number 0)) ∷ (E.Debug (number 0xFFFFFFFFFFFFFFFF)) ∷ (E.Debug (number 0)) ∷ (E.Debug (number 0xFFFFFFFFFFFFFFFF)) ∷ (E.Debug (number 0)) ∷ (E.Debug (number 0xFFFFFFFFFFFFFFFF)) ∷ (E.Debug (number 0)) ∷ (E.Debug (number 0xFFFFFFFFFFFFFFFF)) ∷ (E.Debug (number 0)) ∷ (E.Debug (number 0xFFFFFFFFFFFFFFFF)) ∷ (E.Debug (number 0)) ∷ (E.Debug (number 0)) ∷ (E.Debug (number 0xFFFFFFFFFFFFFFFF)) ∷ (E.Debug (number 0)) ∷ (E.Debug (number 0xFFFFFFFFFFFFFFFF)) ∷ (E.Debug (number 0xFFFFFFFFFFFFFFFF)) ∷ (E.Debug (number 0xFFFFFFFFFFFFFFFF)) ∷ (E.Debug (number 0)) ∷ (E.Debug (number 0)) ∷ (E.Debug (number 0xFFFFFFFFFFFFFFFF)) ∷ (E.Debug (number 0xFFFFFFFFFFFFFFFF)) ∷ (E.Debug (number 0)) ∷ (E.Debug (number 0)) ∷ (E.Debug (number 0xFFFFFFFFFFFFFFFF)) ∷ (E.Debug (number 0)) ∷ (E.Debug (number 0xFFFFFFFFFFFFFFFF)) ∷ (E.Debug (number 0)) ∷ (E.Debug (number 0xFFFFFFFFFFFFFFFF)) ∷ (E.Debug (number 0)) ∷ (E.Debug (number 0xFFFFFFFFFFFFFFFF)) ∷ (E.Debug (number 0)) ∷ (E.Debug (number 0xFFFFFFFFFFFFFFFF)) ∷ (E.Debug (number 0)) ∷ (E.Debug (number 0xFFFFFFFFFFFFFFFF)) ∷ (E.Debug (number 0xFFFFFFFFFFFFFFFF)) ∷ (E.Debug (number 0)) ∷ (E.Debug (number 0)) ∷ (E.Debug (number 0xFFFFFFFFFFFFFFFF)) ∷ (E.Debug (number 0xFFFFFFFFFFFFFFFF)) ∷ (E.Debug (number 0)) ∷ (E.Debug (number 0xFFFFFFFFFFFFFFFF)) ∷ (E.Debug (number 0)) ∷ (E.Debug (number 0)) ∷ (E.Debug (number 0xFFFFFFFFFFFFFFFF)) ∷ (E.Debug (number 0xFFFFFFFFFFFFFFFF)) ∷ (E.Debug (number 0)) ∷ (E.Debug (number 0xFFFFFFFFFFFFFFFF)) ∷ (E.Debug (number 0)) ∷ (E.Debug (number 0)) ∷ (E.Debug (number 0xFFFFFFFFFFFFFFFF)) ∷ (E.Debug (number 0xFFFFFFFFFFFFFFFF)) ∷ (E.Debug (number 0)) ∷ (E.Debug (number 0xFFFFFFFFFFFFFFFF)) ∷ (E.Debug (number 0)) ∷ (E.Debug (number 0)) ∷ (E.Debug (number 0xFFFFFFFFFFFFFFFF)) ∷ (E.Debug (number 0xFFFFFFFFFFFFFFFF)) ∷ (E.Debug (number 0)) ∷ (E.Debug (number 0xFFFFFFFFFFFFFFFF)) ∷ (E.Debug (number 0)) ∷ (E.Debug (number 0)) ∷ (E.Debug (number 0xFFFFFFFFFFFFFFFF)) ∷ (E.Debug (number 0xFFFFFFFFFFFFFFFF)) ∷ (E.Debug (number 0)) ∷ (E.Debug (number 0)) ∷ (E.Debug (number 0xFFFFFFFFFFFFFFFF)) ∷ (E.Debug (number 0)) ∷ (E.Debug (number 0xFFFFFFFFFFFFFFFF)) ∷ (E.Debug (number 0)) ∷ (E.Debug (number 0xFFFFFFFFFFFFFFFF)) ∷ (E.Debug (number 0xFFFFFFFFFFFFFFFF)) ∷ (E.Debug (number 0)) ∷ (E.Debug (number 0)) ∷ (E.Debug (number 0xFFFFFFFFFFFFFFFF)) ∷ (E.Debug (number 0xFFFFFFFFFFFFFFFF)) ∷ (E.Debug (number 0)) ∷ []);
  left = ([]);
  values = ([]);
}

comparisons_of_kinds_encoded : written_whole W64 fields comparisons_of_kinds ≡ comparisons_of_kinds_table
comparisons_of_kinds_encoded = refl

comparisons_of_kinds_right : name_errors comparisons_of_kinds ++ type_errors comparisons_of_kinds ≡ []
comparisons_of_kinds_right = refl

comparisons_of_kinds_by_source : of_source W64 comparisons_of_kinds comparisons_of_kinds_asked ≡ comparisons_of_kinds_told
comparisons_of_kinds_by_source = refl

comparisons_of_kinds_by_bytes : of_bytes comparisons_of_kinds_table comparisons_of_kinds_asked ≡ comparisons_of_kinds_told
unfolding code_front
comparisons_of_kinds_by_bytes = refl
