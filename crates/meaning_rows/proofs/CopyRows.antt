-- Sessions of CopyObject: it replaces data of any kind, and what is no data is not replaced. Worked by hand from the ACPI Specification
-- 6.4, 19.6 (CopyObject).
use Rattle.std.proofs.Common.{◌≡◌, ℕ, false, List, [], ◌∷◌, ◌++◌, Some, refl}
use Rattle.acpi_values.specs.declared.width.Width.TheVariants.{W64}
use Rattle.acpi_values.specs.declared.fault.Fault.TheVariants as Fault
use Rattle.acpi_values.specs.declared.operator.DataOp.TheVariants as DataOp
use Rattle.acpi_values.specs.declared.operator.Plain.TheVariants as Plain
use Rattle.acpi_state.specs.Objects.{Device}
use Rattle.acpi_state.specs.Outcomes.{Normal, NoValue, Done}
use Rattle.acpi_state.specs.Sessions.{present_ones}
use Rattle.asl_tree.specs.Tree.{Integer, Use, Apply, Name, Method, Container', OperationRegion, Field, Trees, no_trees}
use Rattle.asl_meaning.specs.Declarations.{externals}
use Rattle.aml_meaning.specs.Codes.{code_front}
use Rattle.aml_code.specs.Header.{table_bytes}
use Rattle.acpi_names.specs.Errors.{name_errors, type_errors}
use Rattle.meaning_rows.proofs.Rows.{at, fields}
use Rattle.meaning_rows.proofs.Outside.{hex, text, at_root, call, Asked, Told, faults, of_bytes, of_source, written_whole, terms, one}
use Rattle.meaning_rows.proofs.Outside.{arg, unit}

-- copies
-- Name (X, 5) OperationRegion (R, SystemIO, 0, 8) Field (R, ByteAcc, NoLock, Preserve) { FU, 8 } Device (DV) {} Method (A, 1) {
-- CopyObject (Arg0, X) } Method (B) { CopyObject (5, FU) } Method (C) { CopyObject (5, DV) }
abbrev copies : Trees
copies = (terms ((Name at (one "X___") (Integer 5)) ∷ (OperationRegion at (one "R___") 1 (terms ((Integer 0) ∷ (Integer 8) ∷ []))) ∷ (Field at at (one "R___") 1 ((unit "FU__" 8) ∷ [])) ∷ (Container' Device at (one "DV__") no_trees) ∷ (Method at (one "A___") 1 (terms ((Apply (Plain.Data DataOp.CopyObject) (terms ((arg 0) ∷ (Use at (one "X___")) ∷ [])) no_trees) ∷ []))) ∷ (Method at (one "B___") 0 (terms ((Apply (Plain.Data DataOp.CopyObject) (terms ((Integer 5) ∷ (Use at (one "FU__")) ∷ [])) no_trees) ∷ []))) ∷ (Method at (one "C___") 0 (terms ((Apply (Plain.Data DataOp.CopyObject) (terms ((Integer 5) ∷ (Use at (one "DV__")) ∷ [])) no_trees) ∷ []))) ∷ []))

abbrev copies_table : List ℕ
copies_table =
    table_bytes fields (hex "08 58 5F 5F 5F 0A 05 5B 80 52 5F 5F 5F 01 00 0A 08 5B 81 0B 52 5F 5F 5F 01 46 55 5F 5F 08 5B 82 05 44 56 5F 5F 14 0C 41"
    ++ hex "5F 5F 5F 01 9D 68 58 5F 5F 5F 14 0D 42 5F 5F 5F 00 9D 0A 05 46 55 5F 5F 14 0D 43 5F 5F 5F 00 9D 0A 05 44 56 5F 5F")

abbrev copies_asked : Asked
copies_asked = record {
  there = present_ones (externals copies) ([]);
  bound = 8;
  answers = ([]);
  calls = (call (at_root "A___") ((text "ab") ∷ []) ∷ call (at_root "B___") [] ∷ call (at_root "C___") [] ∷ []);
  paths = ((at_root "X___") ∷ []);
}

abbrev copies_told : Told
copies_told = record {
  results = ((Done (Normal false)) ∷ (Done NoValue) ∷ (faults Fault.WrongType) ∷ (faults Fault.WrongType) ∷ []);
  events = ([]);
  left = ([]);
  values = (Some (text "ab") ∷ []);
}

copies_encoded : written_whole W64 fields copies ≡ copies_table
copies_encoded = refl

copies_right : name_errors copies ++ type_errors copies ≡ []
copies_right = refl

copies_by_source : of_source W64 copies copies_asked ≡ copies_told
copies_by_source = refl

copies_by_bytes : of_bytes copies_table copies_asked ≡ copies_told
unfolding code_front
copies_by_bytes = refl
