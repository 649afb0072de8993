-- Sessions of Match over elements that match nothing: Packages, References, and those that are not initialized. The ACPI Specification
-- 6.4, 19.6, gives the values: such elements are ignored.
use Rattle.std.proofs.Common.{◌≡◌, ℕ, true, false, List, [], ◌∷◌, ◌++◌, refl}
use Rattle.std.specs.Prelude.{codes}
use Rattle.acpi_values.specs.declared.width.Width.TheVariants.{W64}
use Rattle.acpi_values.specs.declared.operator.DataOp.TheVariants as DataOp
use Rattle.acpi_values.specs.declared.operator.Plain.TheVariants as Plain
use Rattle.acpi_state.specs.Outcomes.{Normal, Done}
use Rattle.acpi_state.specs.Sessions.{present_ones}
use Rattle.asl_tree.specs.Tree.{Integer, Raw, Use, Apply, Operated, Assigned, Package, Return, Name, Method, Trees, no_trees}
use Rattle.asl_meaning.specs.Declarations.{externals}
use Rattle.aml_meaning.specs.Codes.{code_front}
use Rattle.aml_code.specs.Header.{table_bytes}
use Rattle.acpi_names.specs.Errors.{name_errors, type_errors}
use Rattle.meaning_rows.proofs.Rows.{at, fields}
use Rattle.meaning_rows.proofs.Outside.{hex, number, at_root, call, Asked, Told, gives, of_bytes, of_source, written_whole, terms, path}
use Rattle.meaning_rows.proofs.Outside.{one, arg}

-- A Package, a Reference and an element that is not initialized match nothing, and count nevertheless
-- Name (X, 1) Name (P, Package (6) { Package () { 1 }, \X, 2, 1 }) Method (M, 1) { Return (Match (P, MEQ, 1, MTR, 0, Arg0)) }
abbrev other_elements : Trees
other_elements = (terms ((Name at (one "X___") (Integer 1)) ∷ (Name at (one "P___") (Package 6 (terms ((Package 1 (terms ((Integer 1) ∷ []))) ∷ (Use at (path true 0 (codes "X___" ∷ []))) ∷ (Integer 2) ∷ (Integer 1) ∷ [])))) ∷ (Method at (one "M___") 1 (terms ((Return (Apply (Plain.Data DataOp.Match) (terms ((Use at (one "P___")) ∷ (Raw 1 1) ∷ (Integer 1) ∷ (Raw 1 0) ∷ (Integer 0) ∷ (arg 0) ∷ [])) no_trees)) ∷ []))) ∷ []))

abbrev other_elements_table : List ℕ
other_elements_table =
    table_bytes fields (hex "08 58 5F 5F 5F 01 08 50 5F 5F 5F 12 0E 06 12 03 01 01 5C 58 5F 5F 5F 0A 02 01 14 11 4D 5F 5F 5F 01 A4 89 50 5F 5F 5F 01"
    ++ hex "01 00 00 68")

abbrev other_elements_asked : Asked
other_elements_asked = record {
  there = present_ones (externals other_elements) ([]);
  bound = 8;
  answers = ([]);
  calls = (call (at_root "M___") ((number 0) ∷ []) ∷ call (at_root "M___") ((number 1) ∷ []) ∷ call (at_root "M___") ((number 2) ∷ []) ∷ call (at_root "M___") ((number 3) ∷ []) ∷ call (at_root "M___") ((number 4) ∷ []) ∷ call (at_root "M___") ((number 5) ∷ []) ∷ []);
  paths = ([]);
}

abbrev other_elements_told : Told
other_elements_told = record {
  results = ((Done (Normal false)) ∷ (gives (number 3)) ∷ (gives (number 3)) ∷ (gives (number 3)) ∷ (gives (number 3)) ∷ (gives (number 0xFFFFFFFFFFFFFFFF)) ∷ (gives (number 0xFFFFFFFFFFFFFFFF)) ∷ []);
  events = ([]);
  left = ([]);
  values = ([]);
}

other_elements_encoded : written_whole W64 fields other_elements ≡ other_elements_table
other_elements_encoded = refl

other_elements_right : name_errors other_elements ++ type_errors other_elements ≡ []
other_elements_right = refl

other_elements_by_source : of_source W64 other_elements other_elements_asked ≡ other_elements_told
other_elements_by_source = refl

other_elements_by_bytes : of_bytes other_elements_table other_elements_asked ≡ other_elements_told
unfolding code_front
other_elements_by_bytes = refl

-- An element behind some that are not initialized
-- Name (P, Package (4) {}) Method (M, 1) { P [2] = 1 Return (Match (P, MEQ, 1, MTR, 0, Arg0)) }
abbrev behind_gaps : Trees
behind_gaps = (terms ((Name at (one "P___") (Package 4 no_trees)) ∷ (Method at (one "M___") 1 (terms ((Assigned (Operated (Plain.Data DataOp.Index) (terms ((Use at (one "P___")) ∷ (Integer 2) ∷ []))) (Integer 1)) ∷ (Return (Apply (Plain.Data DataOp.Match) (terms ((Use at (one "P___")) ∷ (Raw 1 1) ∷ (Integer 1) ∷ (Raw 1 0) ∷ (Integer 0) ∷ (arg 0) ∷ [])) no_trees)) ∷ []))) ∷ []))

abbrev behind_gaps_table : List ℕ
behind_gaps_table =
    table_bytes fields (hex "08 50 5F 5F 5F 12 02 04 14 1B 4D 5F 5F 5F 01 70 01 88 50 5F 5F 5F 0A 02 00 A4 89 50 5F 5F 5F 01 01 00 00 68")

abbrev behind_gaps_asked : Asked
behind_gaps_asked = record {
  there = present_ones (externals behind_gaps) ([]);
  bound = 8;
  answers = ([]);
  calls = (call (at_root "M___") ((number 0) ∷ []) ∷ call (at_root "M___") ((number 1) ∷ []) ∷ call (at_root "M___") ((number 2) ∷ []) ∷ call (at_root "M___") ((number 3) ∷ []) ∷ []);
  paths = ([]);
}

abbrev behind_gaps_told : Told
behind_gaps_told = record {
  results = ((Done (Normal false)) ∷ (gives (number 2)) ∷ (gives (number 2)) ∷ (gives (number 2)) ∷ (gives (number 0xFFFFFFFFFFFFFFFF)) ∷ []);
  events = ([]);
  left = ([]);
  values = ([]);
}

behind_gaps_encoded : written_whole W64 fields behind_gaps ≡ behind_gaps_table
behind_gaps_encoded = refl

behind_gaps_right : name_errors behind_gaps ++ type_errors behind_gaps ≡ []
behind_gaps_right = refl

behind_gaps_by_source : of_source W64 behind_gaps behind_gaps_asked ≡ behind_gaps_told
behind_gaps_by_source = refl

behind_gaps_by_bytes : of_bytes behind_gaps_table behind_gaps_asked ≡ behind_gaps_told
unfolding code_front
behind_gaps_by_bytes = refl
