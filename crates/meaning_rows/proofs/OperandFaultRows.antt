-- Sessions with two operands that are wrong in different ways: the first one's fault is told. Operands convert in their order when all
-- are evaluated (ACPI Specification 6.4, 19.3.5); worked by hand.
use Rattle.std.proofs.Common.{◌≡◌, ℕ, false, List, [], ◌∷◌, ◌++◌, refl}
use Rattle.std.specs.Prelude.{codes}
use Rattle.acpi_values.specs.declared.width.Width.TheVariants.{W64}
use Rattle.acpi_values.specs.declared.fault.Fault.TheVariants as Fault
use Rattle.acpi_values.specs.declared.operator.IntOp.TheVariants as IntOp
use Rattle.acpi_values.specs.declared.operator.DataOp.TheVariants as DataOp
use Rattle.acpi_values.specs.declared.operator.Plain.TheVariants as Plain
use Rattle.acpi_values.specs.Values.{Named}
use Rattle.acpi_state.specs.FieldActs.{SomeBits}
use Rattle.acpi_state.specs.Outcomes.{Normal, Done}
use Rattle.acpi_state.specs.Sessions.{present_ones}
use Rattle.asl_tree.specs.Tree.{Integer, String, Omitted, Raw, Use, Apply, Operated, Assigned, Buffer, Package, Return, Name, Method}
use Rattle.asl_tree.specs.Tree.{CreateField, Trees, no_trees}
use Rattle.asl_meaning.specs.Declarations.{externals}
use Rattle.aml_meaning.specs.Codes.{code_front}
use Rattle.aml_code.specs.Header.{table_bytes}
use Rattle.acpi_names.specs.Errors.{name_errors, type_errors}
use Rattle.meaning_rows.proofs.Rows.{at, fields}
use Rattle.meaning_rows.proofs.Outside.{hex, number, buffer, packaged, at_root, reference, call, Asked, Told, faults, of_bytes, of_source}
use Rattle.meaning_rows.proofs.Outside.{written_whole, terms, one, arg}

-- A Package converts to nothing, and a Reference to a path at which nothing stands cannot be read; what no end tag ends is asked when
-- both are Buffers
-- Method (A, 2) { Return (Arg0 + Arg1) } Method (B, 2) { Return (Arg0 / Arg1) } Method (C, 2) { Return (Arg0 == Arg1) } Method (D, 2) {
-- Return (Concatenate (Arg0, Arg1)) } Method (E, 2) { Return (ConcatenateResTemplate (Arg0, Arg1)) } Method (F, 2) { Return (ToString
-- (Arg0, Arg1)) } Method (G, 2) { Return (Mid ("abc", Arg0, Arg1)) }
abbrev two_faults : Trees
two_faults = (terms ((Method at (one "A___") 2 (terms ((Return (Operated (Plain.Number IntOp.Add) (terms ((arg 0) ∷ (arg 1) ∷ [])))) ∷ []))) ∷ (Method at (one "B___") 2 (terms ((Return (Operated (Plain.Number IntOp.Divide) (terms ((arg 0) ∷ (arg 1) ∷ [])))) ∷ []))) ∷ (Method at (one "C___") 2 (terms ((Return (Operated (Plain.Number IntOp.LEqual) (terms ((arg 0) ∷ (arg 1) ∷ [])))) ∷ []))) ∷ (Method at (one "D___") 2 (terms ((Return (Apply (Plain.Data DataOp.Concatenate) (terms ((arg 0) ∷ (arg 1) ∷ [])) (terms ((Omitted) ∷ [])))) ∷ []))) ∷ (Method at (one "E___") 2 (terms ((Return (Apply (Plain.Data DataOp.ConcatenateResTemplate) (terms ((arg 0) ∷ (arg 1) ∷ [])) (terms ((Omitted) ∷ [])))) ∷ []))) ∷ (Method at (one "F___") 2 (terms ((Return (Apply (Plain.Data DataOp.ToString) (terms ((arg 0) ∷ (arg 1) ∷ [])) (terms ((Omitted) ∷ [])))) ∷ []))) ∷ (Method at (one "G___") 2 (terms ((Return (Apply (Plain.Data DataOp.Mid) (terms ((String (codes "abc")) ∷ (arg 0) ∷ (arg 1) ∷ [])) (terms ((Omitted) ∷ [])))) ∷ []))) ∷ []))

abbrev two_faults_table : List ℕ
two_faults_table =
    table_bytes fields (hex "14 0B 41 5F 5F 5F 02 A4 72 68 69 00 14 0C 42 5F 5F 5F 02 A4 78 68 69 00 00 14 0A 43 5F 5F 5F 02 A4 93 68 69 14 0B 44 5F"
    ++ hex "5F 5F 02 A4 73 68 69 00 14 0B 45 5F 5F 5F 02 A4 84 68 69 00 14 0B 46 5F 5F 5F 02 A4 9C 68 69 00 14 10 47 5F 5F 5F 02 A4"
    ++ hex "9E 0D 61 62 63 00 68 69 00")

abbrev two_faults_asked : Asked
two_faults_asked = record {
  there = present_ones (externals two_faults) ([]);
  bound = 8;
  answers = ([]);
  calls = (call (at_root "A___") ((packaged ((number 1) ∷ [])) ∷ (reference (Named (at_root "NONE"))) ∷ []) ∷ call (at_root "B___") ((packaged ((number 1) ∷ [])) ∷ (reference (Named (at_root "NONE"))) ∷ []) ∷ call (at_root "C___") ((packaged ((number 1) ∷ [])) ∷ (reference (Named (at_root "NONE"))) ∷ []) ∷ call (at_root "D___") ((packaged ((number 1) ∷ [])) ∷ (reference (Named (at_root "NONE"))) ∷ []) ∷ call (at_root "E___") ((packaged ((number 1) ∷ [])) ∷ (reference (Named (at_root "NONE"))) ∷ []) ∷ call (at_root "F___") ((packaged ((number 1) ∷ [])) ∷ (reference (Named (at_root "NONE"))) ∷ []) ∷ call (at_root "G___") ((packaged ((number 1) ∷ [])) ∷ (reference (Named (at_root "NONE"))) ∷ []) ∷ call (at_root "A___") ((reference (Named (at_root "NONE"))) ∷ (packaged ((number 1) ∷ [])) ∷ []) ∷ call (at_root "B___") ((reference (Named (at_root "NONE"))) ∷ (packaged ((number 1) ∷ [])) ∷ []) ∷ call (at_root "C___") ((reference (Named (at_root "NONE"))) ∷ (packaged ((number 1) ∷ [])) ∷ []) ∷ call (at_root "D___") ((reference (Named (at_root "NONE"))) ∷ (packaged ((number 1) ∷ [])) ∷ []) ∷ call (at_root "E___") ((reference (Named (at_root "NONE"))) ∷ (packaged ((number 1) ∷ [])) ∷ []) ∷ call (at_root "F___") ((reference (Named (at_root "NONE"))) ∷ (packaged ((number 1) ∷ [])) ∷ []) ∷ call (at_root "G___") ((reference (Named (at_root "NONE"))) ∷ (packaged ((number 1) ∷ [])) ∷ []) ∷ call (at_root "E___") ((buffer "01 02") ∷ (reference (Named (at_root "NONE"))) ∷ []) ∷ call (at_root "E___") ((buffer "01 02") ∷ (buffer "79 00") ∷ []) ∷ []);
  paths = ([]);
}

abbrev two_faults_told : Told
two_faults_told = record {
  results = ((Done (Normal false)) ∷ (faults Fault.WrongType) ∷ (faults Fault.WrongType) ∷ (faults Fault.WrongType) ∷ (faults Fault.WrongType) ∷ (faults Fault.WrongType) ∷ (faults Fault.WrongType) ∷ (faults Fault.WrongType) ∷ (faults Fault.NotFound) ∷ (faults Fault.NotFound) ∷ (faults Fault.NotFound) ∷ (faults Fault.NotFound) ∷ (faults Fault.NotFound) ∷ (faults Fault.NotFound) ∷ (faults Fault.NotFound) ∷ (faults Fault.NotFound) ∷ (faults Fault.WrongType) ∷ []);
  events = ([]);
  left = ([]);
  values = ([]);
}

two_faults_encoded : written_whole W64 fields two_faults ≡ two_faults_table
two_faults_encoded = refl

two_faults_right : name_errors two_faults ++ type_errors two_faults ≡ []
two_faults_right = refl

two_faults_by_source : of_source W64 two_faults two_faults_asked ≡ two_faults_told
two_faults_by_source = refl

two_faults_by_bytes : of_bytes two_faults_table two_faults_asked ≡ two_faults_told
unfolding code_front
two_faults_by_bytes = refl

-- faults in match
-- Name (P, Package () { 1 }) Method (M, 3) { Return (Match (P, MEQ, Arg0, MEQ, Arg1, Arg2)) }
abbrev faults_in_match : Trees
faults_in_match = (terms ((Name at (one "P___") (Package 1 (terms ((Integer 1) ∷ [])))) ∷ (Method at (one "M___") 3 (terms ((Return (Apply (Plain.Data DataOp.Match) (terms ((Use at (one "P___")) ∷ (Raw 1 1) ∷ (arg 0) ∷ (Raw 1 1) ∷ (arg 1) ∷ (arg 2) ∷ [])) no_trees)) ∷ []))) ∷ []))

abbrev faults_in_match_table : List ℕ
faults_in_match_table =
    table_bytes fields (hex "08 50 5F 5F 5F 12 03 01 01 14 11 4D 5F 5F 5F 03 A4 89 50 5F 5F 5F 01 68 01 69 6A")

abbrev faults_in_match_asked : Asked
faults_in_match_asked = record {
  there = present_ones (externals faults_in_match) ([]);
  bound = 8;
  answers = ([]);
  calls = (call (at_root "M___") ((packaged ((number 1) ∷ [])) ∷ (reference (Named (at_root "NONE"))) ∷ (number 0) ∷ []) ∷ call (at_root "M___") ((reference (Named (at_root "NONE"))) ∷ (packaged ((number 1) ∷ [])) ∷ (number 0) ∷ []) ∷ call (at_root "M___") ((number 1) ∷ (packaged ((number 1) ∷ [])) ∷ (reference (Named (at_root "NONE"))) ∷ []) ∷ call (at_root "M___") ((number 1) ∷ (reference (Named (at_root "NONE"))) ∷ (packaged ((number 1) ∷ [])) ∷ []) ∷ call (at_root "M___") ((reference (Named (at_root "NONE"))) ∷ (number 1) ∷ (packaged ((number 1) ∷ [])) ∷ []) ∷ call (at_root "M___") ((packaged ((number 1) ∷ [])) ∷ (number 1) ∷ (reference (Named (at_root "NONE"))) ∷ []) ∷ []);
  paths = ([]);
}

abbrev faults_in_match_told : Told
faults_in_match_told = record {
  results = ((Done (Normal false)) ∷ (faults Fault.WrongType) ∷ (faults Fault.NotFound) ∷ (faults Fault.WrongType) ∷ (faults Fault.NotFound) ∷ (faults Fault.NotFound) ∷ (faults Fault.WrongType) ∷ []);
  events = ([]);
  left = ([]);
  values = ([]);
}

faults_in_match_encoded : written_whole W64 fields faults_in_match ≡ faults_in_match_table
faults_in_match_encoded = refl

faults_in_match_right : name_errors faults_in_match ++ type_errors faults_in_match ≡ []
faults_in_match_right = refl

faults_in_match_by_source : of_source W64 faults_in_match faults_in_match_asked ≡ faults_in_match_told
faults_in_match_by_source = refl

faults_in_match_by_bytes : of_bytes faults_in_match_table faults_in_match_asked ≡ faults_in_match_told
unfolding code_front
faults_in_match_by_bytes = refl

-- A value that is no bits, and a field past the end of its Buffer
-- Name (B, Buffer (2) {}) CreateField (B, 4, 12, F) Method (M, 1) { CopyObject (Buffer (1) { 1 }, B) F = Arg0 }
abbrev faults_in_fields : Trees
faults_in_fields = (terms ((Name at (one "B___") (Buffer (Integer 2) ([]))) ∷ (CreateField SomeBits (terms ((Use at (one "B___")) ∷ (Integer 4) ∷ (Integer 12) ∷ [])) at (one "F___")) ∷ (Method at (one "M___") 1 (terms ((Apply (Plain.Data DataOp.CopyObject) (terms ((Buffer (Integer 1) (1 ∷ [])) ∷ (Use at (one "B___")) ∷ [])) no_trees) ∷ (Assigned (Use at (one "F___")) (arg 0)) ∷ []))) ∷ []))

abbrev faults_in_fields_table : List ℕ
faults_in_fields_table =
    table_bytes fields (hex "08 42 5F 5F 5F 11 03 0A 02 5B 13 42 5F 5F 5F 0A 04 0A 0C 46 5F 5F 5F 14 15 4D 5F 5F 5F 01 9D 11 03 01 01 42 5F 5F 5F 70"
    ++ hex "68 46 5F 5F 5F")

abbrev faults_in_fields_asked : Asked
faults_in_fields_asked = record {
  there = present_ones (externals faults_in_fields) ([]);
  bound = 8;
  answers = ([]);
  calls = (call (at_root "M___") ((packaged ((number 1) ∷ [])) ∷ []) ∷ call (at_root "M___") ((number 1) ∷ []) ∷ []);
  paths = ([]);
}

abbrev faults_in_fields_told : Told
faults_in_fields_told = record {
  results = ((Done (Normal false)) ∷ (faults Fault.WrongType) ∷ (faults Fault.OutOfRange) ∷ []);
  events = ([]);
  left = ([]);
  values = ([]);
}

faults_in_fields_encoded : written_whole W64 fields faults_in_fields ≡ faults_in_fields_table
faults_in_fields_encoded = refl

faults_in_fields_right : name_errors faults_in_fields ++ type_errors faults_in_fields ≡ []
faults_in_fields_right = refl

faults_in_fields_by_source : of_source W64 faults_in_fields faults_in_fields_asked ≡ faults_in_fields_told
faults_in_fields_by_source = refl

faults_in_fields_by_bytes : of_bytes faults_in_fields_table faults_in_fields_asked ≡ faults_in_fields_told
unfolding code_front
faults_in_fields_by_bytes = refl
