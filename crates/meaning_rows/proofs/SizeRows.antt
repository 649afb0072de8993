-- Sessions of SizeOf and others through References, and of Debug where there is no value. Worked by hand from the ACPI Specification
-- 6.4, 19.3.5 and 19.6 (SizeOf, RefOf, Debug).
use Rattle.std.proofs.Common.{◌≡◌, ℕ, false, List, [], ◌∷◌, ◌++◌, refl}
use Rattle.std.specs.Prelude.{codes}
use Rattle.acpi_values.specs.declared.width.Width.TheVariants.{W64}
use Rattle.acpi_values.specs.declared.fault.Fault.TheVariants as Fault
use Rattle.acpi_values.specs.declared.operator.IntOp.TheVariants as IntOp
use Rattle.acpi_values.specs.declared.operator.DataOp.TheVariants as DataOp
use Rattle.acpi_values.specs.declared.operator.Plain.TheVariants as Plain
use Rattle.acpi_state.specs.Objects as E
use Rattle.acpi_state.specs.Outcomes.{Normal, NoValue, Done}
use Rattle.acpi_state.specs.Sessions.{present_ones}
use Rattle.asl_tree.specs.Tree.{Integer, String, Debug as DebugTerm, Use, Apply, Operated, Assigned, Package, Return, Name, Method, Trees}
use Rattle.asl_tree.specs.Tree.{no_trees}
use Rattle.asl_meaning.specs.Declarations.{externals}
use Rattle.aml_meaning.specs.Codes.{code_front}
use Rattle.aml_code.specs.Header.{table_bytes}
use Rattle.acpi_names.specs.Errors.{name_errors, type_errors}
use Rattle.meaning_rows.proofs.Rows.{at, fields}
use Rattle.meaning_rows.proofs.Outside.{hex, number, at_root, call, Asked, Told, gives, faults, of_bytes, of_source, written_whole, terms}
use Rattle.meaning_rows.proofs.Outside.{one, local}

-- One Reference is followed, and a second one is not
-- Name (S, "abc") Method (M) { Local0 = RefOf (S) Debug = SizeOf (Local0) Local1 = Package (4) { 1 } Local0 = RefOf (Local1) Debug =
-- SizeOf (Local0) } Method (A) { Local1 = RefOf (S) Local0 = RefOf (Local1) Return (SizeOf (Local0)) } Method (B) { Local0 = RefOf
-- (Local1) Return (SizeOf (Local0)) } Method (C) { Local1 = RefOf (S) Local0 = RefOf (Local1) Return (Local0 + 0) }
abbrev sizes_through_references : Trees
sizes_through_references = (terms ((Name at (one "S___") (String (codes "abc"))) ∷ (Method at (one "M___") 0 (terms ((Assigned (local 0) (Apply (Plain.Data DataOp.RefOf) (terms ((Use at (one "S___")) ∷ [])) no_trees)) ∷ (Assigned DebugTerm (Apply (Plain.Data DataOp.SizeOf) (terms ((local 0) ∷ [])) no_trees)) ∷ (Assigned (local 1) (Package 4 (terms ((Integer 1) ∷ [])))) ∷ (Assigned (local 0) (Apply (Plain.Data DataOp.RefOf) (terms ((local 1) ∷ [])) no_trees)) ∷ (Assigned DebugTerm (Apply (Plain.Data DataOp.SizeOf) (terms ((local 0) ∷ [])) no_trees)) ∷ []))) ∷ (Method at (one "A___") 0 (terms ((Assigned (local 1) (Apply (Plain.Data DataOp.RefOf) (terms ((Use at (one "S___")) ∷ [])) no_trees)) ∷ (Assigned (local 0) (Apply (Plain.Data DataOp.RefOf) (terms ((local 1) ∷ [])) no_trees)) ∷ (Return (Apply (Plain.Data DataOp.SizeOf) (terms ((local 0) ∷ [])) no_trees)) ∷ []))) ∷ (Method at (one "B___") 0 (terms ((Assigned (local 0) (Apply (Plain.Data DataOp.RefOf) (terms ((local 1) ∷ [])) no_trees)) ∷ (Return (Apply (Plain.Data DataOp.SizeOf) (terms ((local 0) ∷ [])) no_trees)) ∷ []))) ∷ (Method at (one "C___") 0 (terms ((Assigned (local 1) (Apply (Plain.Data DataOp.RefOf) (terms ((Use at (one "S___")) ∷ [])) no_trees)) ∷ (Assigned (local 0) (Apply (Plain.Data DataOp.RefOf) (terms ((local 1) ∷ [])) no_trees)) ∷ (Return (Operated (Plain.Number IntOp.Add) (terms ((local 0) ∷ (Integer 0) ∷ [])))) ∷ []))) ∷ []))

abbrev sizes_through_references_table : List ℕ
sizes_through_references_table =
    table_bytes fields (hex "08 53 5F 5F 5F 0D 61 62 63 00 14 21 4D 5F 5F 5F 00 70 71 53 5F 5F 5F 60 70 87 60 5B 31 70 12 03 04 01 61 70 71 61 60 70"
    ++ hex "87 60 5B 31 14 14 41 5F 5F 5F 00 70 71 53 5F 5F 5F 61 70 71 61 60 A4 87 60 14 0D 42 5F 5F 5F 00 70 71 61 60 A4 87 60 14"
    ++ hex "16 43 5F 5F 5F 00 70 71 53 5F 5F 5F 61 70 71 61 60 A4 72 60 00 00")

abbrev sizes_through_references_asked : Asked
sizes_through_references_asked = record {
  there = present_ones (externals sizes_through_references) ([]);
  bound = 8;
  answers = ([]);
  calls = (call (at_root "M___") [] ∷ call (at_root "A___") [] ∷ call (at_root "B___") [] ∷ call (at_root "C___") [] ∷ []);
  paths = ([]);
}

abbrev sizes_through_references_told : Told
sizes_through_references_told = record {
  results = ((Done (Normal false)) ∷ (Done NoValue) ∷ (faults Fault.WrongType) ∷ (faults Fault.WrongType) ∷ (faults Fault.WrongType) ∷ []);
  events = ((E.Debug (number 3)) ∷ (E.Debug (number 4)) ∷ []);
  left = ([]);
  values = ([]);
}

sizes_through_references_encoded : written_whole W64 fields sizes_through_references ≡ sizes_through_references_table
sizes_through_references_encoded = refl

sizes_through_references_right : name_errors sizes_through_references ++ type_errors sizes_through_references ≡ []
sizes_through_references_right = refl

sizes_through_references_by_source : of_source W64 sizes_through_references sizes_through_references_asked ≡ sizes_through_references_told
sizes_through_references_by_source = refl

sizes_through_references_by_bytes : of_bytes sizes_through_references_table sizes_through_references_asked ≡ sizes_through_references_told
unfolding code_front
sizes_through_references_by_bytes = refl

-- debug has no value
-- Method (A) { Return (SizeOf (Debug)) } Method (B) { Return (RefOf (Debug)) } Method (C) { Debug++ } Method (D) { Return (Debug) }
-- Method (E) { Return (ObjectType (Debug)) }
abbrev debug_has_no_value : Trees
debug_has_no_value = (terms ((Method at (one "A___") 0 (terms ((Return (Apply (Plain.Data DataOp.SizeOf) (terms ((DebugTerm) ∷ [])) no_trees)) ∷ []))) ∷ (Method at (one "B___") 0 (terms ((Return (Apply (Plain.Data DataOp.RefOf) (terms ((DebugTerm) ∷ [])) no_trees)) ∷ []))) ∷ (Method at (one "C___") 0 (terms ((Operated (Plain.Data DataOp.Increment) (terms ((DebugTerm) ∷ []))) ∷ []))) ∷ (Method at (one "D___") 0 (terms ((Return DebugTerm) ∷ []))) ∷ (Method at (one "E___") 0 (terms ((Return (Apply (Plain.Data DataOp.ObjectType) (terms ((DebugTerm) ∷ [])) no_trees)) ∷ []))) ∷ []))

abbrev debug_has_no_value_table : List ℕ
debug_has_no_value_table =
    table_bytes fields (hex "14 0A 41 5F 5F 5F 00 A4 87 5B 31 14 0A 42 5F 5F 5F 00 A4 71 5B 31 14 09 43 5F 5F 5F 00 75 5B 31 14 09 44 5F 5F 5F 00 A4"
    ++ hex "5B 31 14 0A 45 5F 5F 5F 00 A4 8E 5B 31")

abbrev debug_has_no_value_asked : Asked
debug_has_no_value_asked = record {
  there = present_ones (externals debug_has_no_value) ([]);
  bound = 8;
  answers = ([]);
  calls = (call (at_root "A___") [] ∷ call (at_root "B___") [] ∷ call (at_root "C___") [] ∷ call (at_root "D___") [] ∷ call (at_root "E___") [] ∷ []);
  paths = ([]);
}

abbrev debug_has_no_value_told : Told
debug_has_no_value_told = record {
  results = ((Done (Normal false)) ∷ (faults Fault.WrongType) ∷ (faults Fault.WrongType) ∷ (faults Fault.WrongType) ∷ (faults Fault.WrongType) ∷ (gives (number 16)) ∷ []);
  events = ([]);
  left = ([]);
  values = ([]);
}

debug_has_no_value_encoded : written_whole W64 fields debug_has_no_value ≡ debug_has_no_value_table
debug_has_no_value_encoded = refl

debug_has_no_value_right : name_errors debug_has_no_value ++ type_errors debug_has_no_value ≡ []
debug_has_no_value_right = refl

debug_has_no_value_by_source : of_source W64 debug_has_no_value debug_has_no_value_asked ≡ debug_has_no_value_told
debug_has_no_value_by_source = refl

debug_has_no_value_by_bytes : of_bytes debug_has_no_value_table debug_has_no_value_asked ≡ debug_has_no_value_told
unfolding code_front
debug_has_no_value_by_bytes = refl
