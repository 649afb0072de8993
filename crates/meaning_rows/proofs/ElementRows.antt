-- Sessions of elements: of a container that is not initialized, or no longer of a kind that has elements, and of elements that were not
-- initialized. Worked by hand from the ACPI Specification 6.4, 19.3.5 and 19.6 (DerefOf, Index).
use Rattle.std.proofs.Common.{◌≡◌, ℕ, false, List, [], ◌∷◌, ◌++◌, Some, refl}
use Rattle.std.specs.Prelude.{codes}
use Rattle.acpi_values.specs.declared.width.Width.TheVariants.{W64}
use Rattle.acpi_values.specs.declared.fault.Fault.TheVariants as Fault
use Rattle.acpi_values.specs.declared.operator.DataOp.TheVariants as DataOp
use Rattle.acpi_values.specs.declared.operator.Plain.TheVariants as Plain
use Rattle.acpi_values.specs.Values as V
use Rattle.acpi_values.specs.Values.{Data, no_elements, uninitialized, element, Named}
use Rattle.acpi_state.specs.Objects as E
use Rattle.acpi_state.specs.Outcomes.{Normal, Done}
use Rattle.acpi_state.specs.Sessions.{present_ones}
use Rattle.asl_tree.specs.Tree.{Integer, String, Debug as DebugTerm, Use, Call, Apply, Operated, Assigned, Buffer, Package, Return, Name}
use Rattle.asl_tree.specs.Tree.{Method, If, Trees, no_trees}
use Rattle.asl_meaning.specs.Declarations.{externals}
use Rattle.aml_meaning.specs.Codes.{code_front}
use Rattle.aml_code.specs.Header.{table_bytes}
use Rattle.acpi_names.specs.Errors.{name_errors, type_errors}
use Rattle.meaning_rows.proofs.Rows.{at, fields}
use Rattle.meaning_rows.proofs.Outside.{hex, number, text, buffer, packaged, at_root, reference, call, Asked, Told, gives, faults}
use Rattle.meaning_rows.proofs.Outside.{of_bytes, of_source, written_whole, terms, one, local, arg}

-- A Reference to an element is followed when it is used: then its container may be of another kind, or not initialized
-- Name (X, 7) Name (P, 0) Method (M, 2) { CopyObject (Package () { Package () { 1 } }, P) Local0 = P [0] [0] CopyObject (Arg0, P) If
-- (Arg1) { DerefOf (Local0) = 5 Return (P) } Return (DerefOf (Local0)) }
abbrev container_changed : Trees
container_changed = (terms ((Name at (one "X___") (Integer 7)) ∷ (Name at (one "P___") (Integer 0)) ∷ (Method at (one "M___") 2 (terms ((Apply (Plain.Data DataOp.CopyObject) (terms ((Package 1 (terms ((Package 1 (terms ((Integer 1) ∷ []))) ∷ []))) ∷ (Use at (one "P___")) ∷ [])) no_trees) ∷ (Assigned (local 0) (Operated (Plain.Data DataOp.Index) (terms ((Operated (Plain.Data DataOp.Index) (terms ((Use at (one "P___")) ∷ (Integer 0) ∷ []))) ∷ (Integer 0) ∷ [])))) ∷ (Apply (Plain.Data DataOp.CopyObject) (terms ((arg 0) ∷ (Use at (one "P___")) ∷ [])) no_trees) ∷ (If (arg 1) (terms ((Assigned (Apply (Plain.Data DataOp.DerefOf) (terms ((local 0) ∷ [])) no_trees) (Integer 5)) ∷ (Return (Use at (one "P___"))) ∷ []))) ∷ (Return (Apply (Plain.Data DataOp.DerefOf) (terms ((local 0) ∷ [])) no_trees)) ∷ []))) ∷ []))

abbrev container_changed_table : List ℕ
container_changed_table =
    table_bytes fields (hex "08 58 5F 5F 5F 0A 07 08 50 5F 5F 5F 00 14 34 4D 5F 5F 5F 02 9D 12 06 01 12 03 01 01 50 5F 5F 5F 70 88 88 50 5F 5F 5F 00"
    ++ hex "00 00 00 60 9D 68 50 5F 5F 5F A0 0C 69 70 0A 05 83 60 A4 50 5F 5F 5F A4 83 60")

abbrev container_changed_asked : Asked
container_changed_asked = record {
  there = present_ones (externals container_changed) ([]);
  bound = 8;
  answers = ([]);
  calls = (call (at_root "M___") ((packaged ((packaged ((number 9) ∷ [])) ∷ [])) ∷ (number 0) ∷ []) ∷ call (at_root "M___") ((packaged ((number 3) ∷ [])) ∷ (number 0) ∷ []) ∷ call (at_root "M___") ((V.Package (uninitialized no_elements)) ∷ (number 0) ∷ []) ∷ call (at_root "M___") ((packaged ((reference (Named (at_root "X___"))) ∷ [])) ∷ (number 0) ∷ []) ∷ call (at_root "M___") ((packaged ((text "A") ∷ [])) ∷ (number 0) ∷ []) ∷ call (at_root "M___") ((packaged ((buffer "07") ∷ [])) ∷ (number 0) ∷ []) ∷ call (at_root "M___") ((number 5) ∷ (number 0) ∷ []) ∷ call (at_root "M___") ((packaged ((packaged ((number 9) ∷ [])) ∷ [])) ∷ (number 1) ∷ []) ∷ call (at_root "M___") ((packaged ((number 3) ∷ [])) ∷ (number 1) ∷ []) ∷ call (at_root "M___") ((V.Package (uninitialized no_elements)) ∷ (number 1) ∷ []) ∷ call (at_root "M___") ((packaged ((reference (Named (at_root "X___"))) ∷ [])) ∷ (number 1) ∷ []) ∷ call (at_root "M___") ((packaged ((text "A") ∷ [])) ∷ (number 1) ∷ []) ∷ call (at_root "M___") ((packaged ((buffer "07") ∷ [])) ∷ (number 1) ∷ []) ∷ call (at_root "M___") ((number 5) ∷ (number 1) ∷ []) ∷ []);
  paths = ([]);
}

abbrev container_changed_told : Told
container_changed_told = record {
  results = ((Done (Normal false)) ∷ (gives (number 9)) ∷ (faults Fault.WrongType) ∷ (faults Fault.Uninitialized) ∷ (faults Fault.WrongType) ∷ (gives (number 65)) ∷ (gives (number 7)) ∷ (faults Fault.WrongType) ∷ (gives (packaged ((packaged ((number 5) ∷ [])) ∷ []))) ∷ (faults Fault.WrongType) ∷ (faults Fault.Uninitialized) ∷ (faults Fault.WrongType) ∷ (gives (packaged ((Data (V.String (5 ∷ []))) ∷ []))) ∷ (gives (packaged ((buffer "05") ∷ []))) ∷ (faults Fault.WrongType) ∷ []);
  events = ([]);
  left = ([]);
  values = ([]);
}

container_changed_encoded : written_whole W64 fields container_changed ≡ container_changed_table
container_changed_encoded = refl

container_changed_right : name_errors container_changed ++ type_errors container_changed ≡ []
container_changed_right = refl

container_changed_by_source : of_source W64 container_changed container_changed_asked ≡ container_changed_told
container_changed_by_source = refl

container_changed_by_bytes : of_bytes container_changed_table container_changed_asked ≡ container_changed_told
unfolding code_front
container_changed_by_bytes = refl

-- A byte of a Buffer; elements that get their first value; and one that has none
-- Name (B, Buffer () { 7, 8 }) Name (Q, Package (4) { 1 }) Method (M) { Local0 = B [1] Debug = DerefOf (Local0) Q [2] = "x" Q [1] = 6
-- Debug = Q Debug = SizeOf (Q) Return (DerefOf (Q [3])) }
abbrev first_values : Trees
first_values = (terms ((Name at (one "B___") (Buffer (Integer 2) (7 ∷ 8 ∷ []))) ∷ (Name at (one "Q___") (Package 4 (terms ((Integer 1) ∷ [])))) ∷ (Method at (one "M___") 0 (terms ((Assigned (local 0) (Operated (Plain.Data DataOp.Index) (terms ((Use at (one "B___")) ∷ (Integer 1) ∷ [])))) ∷ (Assigned DebugTerm (Apply (Plain.Data DataOp.DerefOf) (terms ((local 0) ∷ [])) no_trees)) ∷ (Assigned (Operated (Plain.Data DataOp.Index) (terms ((Use at (one "Q___")) ∷ (Integer 2) ∷ []))) (String (codes "x"))) ∷ (Assigned (Operated (Plain.Data DataOp.Index) (terms ((Use at (one "Q___")) ∷ (Integer 1) ∷ []))) (Integer 6)) ∷ (Assigned DebugTerm (Use at (one "Q___"))) ∷ (Assigned DebugTerm (Apply (Plain.Data DataOp.SizeOf) (terms ((Use at (one "Q___")) ∷ [])) no_trees)) ∷ (Return (Apply (Plain.Data DataOp.DerefOf) (terms ((Operated (Plain.Data DataOp.Index) (terms ((Use at (one "Q___")) ∷ (Integer 3) ∷ []))) ∷ [])) no_trees)) ∷ []))) ∷ []))

abbrev first_values_table : List ℕ
first_values_table =
    table_bytes fields (hex "08 42 5F 5F 5F 11 05 0A 02 07 08 08 51 5F 5F 5F 12 03 04 01 14 44 04 4D 5F 5F 5F 00 70 88 42 5F 5F 5F 01 00 60 70 83 60"
    ++ hex "5B 31 70 0D 78 00 88 51 5F 5F 5F 0A 02 00 70 0A 06 88 51 5F 5F 5F 01 00 70 51 5F 5F 5F 5B 31 70 87 51 5F 5F 5F 5B 31 A4"
    ++ hex "83 88 51 5F 5F 5F 0A 03 00")

abbrev first_values_asked : Asked
first_values_asked = record {
  there = present_ones (externals first_values) ([]);
  bound = 8;
  answers = ([]);
  calls = (call (at_root "M___") [] ∷ []);
  paths = ((at_root "Q___") ∷ []);
}

abbrev first_values_told : Told
first_values_told = record {
  results = ((Done (Normal false)) ∷ (faults Fault.Uninitialized) ∷ []);
  events = ((E.Debug (number 8)) ∷ (E.Debug (V.Package (element (number 1) (element (number 6) (element (text "x") (uninitialized no_elements)))))) ∷ (E.Debug (number 4)) ∷ []);
  left = ([]);
  values = (Some (V.Package (element (number 1) (element (number 6) (element (text "x") (uninitialized no_elements))))) ∷ []);
}

first_values_encoded : written_whole W64 fields first_values ≡ first_values_table
first_values_encoded = refl

first_values_right : name_errors first_values ++ type_errors first_values ≡ []
first_values_right = refl

first_values_by_source : of_source W64 first_values first_values_asked ≡ first_values_told
first_values_by_source = refl

first_values_by_bytes : of_bytes first_values_table first_values_asked ≡ first_values_told
unfolding code_front
first_values_by_bytes = refl

-- An element of what a call gives: its Package stands nowhere, so a store into it changes nothing
-- Method (F, 1) { Local0 = Package (2) { 1, 2 } Local0 [0] = Arg0 Return (Local0) } Method (M) { Local0 = F (9) [1] DerefOf (Local0) = 3
-- Debug = DerefOf (Local0) Return (DerefOf (F (9) [0])) }
abbrev elements_of_results : Trees
elements_of_results = (terms ((Method at (one "F___") 1 (terms ((Assigned (local 0) (Package 2 (terms ((Integer 1) ∷ (Integer 2) ∷ [])))) ∷ (Assigned (Operated (Plain.Data DataOp.Index) (terms ((local 0) ∷ (Integer 0) ∷ []))) (arg 0)) ∷ (Return (local 0)) ∷ []))) ∷ (Method at (one "M___") 0 (terms ((Assigned (local 0) (Operated (Plain.Data DataOp.Index) (terms ((Call at (one "F___") (terms ((Integer 9) ∷ []))) ∷ (Integer 1) ∷ [])))) ∷ (Assigned (Apply (Plain.Data DataOp.DerefOf) (terms ((local 0) ∷ [])) no_trees) (Integer 3)) ∷ (Assigned DebugTerm (Apply (Plain.Data DataOp.DerefOf) (terms ((local 0) ∷ [])) no_trees)) ∷ (Return (Apply (Plain.Data DataOp.DerefOf) (terms ((Operated (Plain.Data DataOp.Index) (terms ((Call at (one "F___") (terms ((Integer 9) ∷ []))) ∷ (Integer 0) ∷ []))) ∷ [])) no_trees)) ∷ []))) ∷ []))

abbrev elements_of_results_table : List ℕ
elements_of_results_table =
    table_bytes fields (hex "14 16 46 5F 5F 5F 01 70 12 05 02 01 0A 02 60 70 68 88 60 00 00 A4 60 14 26 4D 5F 5F 5F 00 70 88 46 5F 5F 5F 0A 09 01 00"
    ++ hex "60 70 0A 03 83 60 70 83 60 5B 31 A4 83 88 46 5F 5F 5F 0A 09 00 00")

abbrev elements_of_results_asked : Asked
elements_of_results_asked = record {
  there = present_ones (externals elements_of_results) ([]);
  bound = 8;
  answers = ([]);
  calls = (call (at_root "M___") [] ∷ []);
  paths = ([]);
}

abbrev elements_of_results_told : Told
elements_of_results_told = record {
  results = ((Done (Normal false)) ∷ (gives (number 9)) ∷ []);
  events = ((E.Debug (number 2)) ∷ []);
  left = ([]);
  values = ([]);
}

elements_of_results_encoded : written_whole W64 fields elements_of_results ≡ elements_of_results_table
elements_of_results_encoded = refl

elements_of_results_right : name_errors elements_of_results ++ type_errors elements_of_results ≡ []
elements_of_results_right = refl

elements_of_results_by_source : of_source W64 elements_of_results elements_of_results_asked ≡ elements_of_results_told
elements_of_results_by_source = refl

elements_of_results_by_bytes : of_bytes elements_of_results_table elements_of_results_asked ≡ elements_of_results_told
unfolding code_front
elements_of_results_by_bytes = refl
