-- Names in Packages: as they are written, and one without a prefix from the root. Worked by hand: such a name is a Reference, whether
-- its object is there yet or not (ACPI Specification 6.4, 19.6, Package).
use Rattle.std.proofs.Common.{◌≡◌, ℕ, true, false, List, [], ◌∷◌, ◌++◌, Some, refl}
use Rattle.std.specs.Prelude.{codes}
use Rattle.acpi_values.specs.declared.width.Width.TheVariants.{W64}
use Rattle.acpi_values.specs.declared.fault.Fault.TheVariants as Fault
use Rattle.acpi_values.specs.declared.operator.DataOp.TheVariants as DataOp
use Rattle.acpi_values.specs.declared.operator.Plain.TheVariants as Plain
use Rattle.acpi_values.specs.Values.{Named}
use Rattle.acpi_state.specs.Objects.{Device}
use Rattle.acpi_state.specs.Outcomes.{Normal, Done}
use Rattle.acpi_state.specs.Sessions.{present_ones}
use Rattle.asl_tree.specs.Tree.{Integer, Use, Apply, Operated, Package, Return, Name, Method, Container', Trees, no_trees}
use Rattle.asl_meaning.specs.Declarations.{externals}
use Rattle.aml_meaning.specs.Codes.{code_front}
use Rattle.aml_code.specs.Header.{table_bytes}
use Rattle.acpi_names.specs.Errors.{name_errors, type_errors}
use Rattle.meaning_rows.proofs.Rows.{at, fields}
use Rattle.meaning_rows.proofs.Outside.{hex, number, packaged, reference, call, Asked, Told, gives, faults, of_bytes, of_source}
use Rattle.meaning_rows.proofs.Outside.{written_whole, terms, path, one, arg}

-- names in packages
-- Device (D) { Name (P, Package () { ^D.X, X, \D.X, LATE }) Name (X, 7) Method (M, 1) { Return (DerefOf (DerefOf (P [Arg0]))) } } Method
-- (D.LATE) { Return (1) }
abbrev names_in_packages : Trees
names_in_packages = (terms ((Container' Device at (one "D___") (terms ((Name at (one "P___") (Package 4 (terms ((Use at (path false 1 (codes "D___" ∷ codes "X___" ∷ []))) ∷ (Use at (one "X___")) ∷ (Use at (path true 0 (codes "D___" ∷ codes "X___" ∷ []))) ∷ (Use at (one "LATE")) ∷ [])))) ∷ (Name at (one "X___") (Integer 7)) ∷ (Method at (one "M___") 1 (terms ((Return (Apply (Plain.Data DataOp.DerefOf) (terms ((Apply (Plain.Data DataOp.DerefOf) (terms ((Operated (Plain.Data DataOp.Index) (terms ((Use at (one "P___")) ∷ (arg 0) ∷ []))) ∷ [])) no_trees) ∷ [])) no_trees)) ∷ []))) ∷ []))) ∷ (Method at (path false 0 (codes "D___" ∷ codes "LATE" ∷ [])) 0 (terms ((Return (Integer 1)) ∷ []))) ∷ []))

abbrev names_in_packages_table : List ℕ
names_in_packages_table =
    table_bytes fields (hex "5B 82 4E 04 44 5F 5F 5F 08 50 5F 5F 5F 12 2A 04 5E 2E 44 5F 5F 5F 58 5F 5F 5F 5C 2E 44 5F 5F 5F 58 5F 5F 5F 5C 2E 44 5F"
    ++ hex "5F 5F 58 5F 5F 5F 5C 2E 44 5F 5F 5F 4C 41 54 45 08 58 5F 5F 5F 0A 07 14 10 4D 5F 5F 5F 01 A4 83 83 88 50 5F 5F 5F 68 00"
    ++ hex "14 0D 2E 44 5F 5F 5F 4C 41 54 45 00 A4 01")

abbrev names_in_packages_asked : Asked
names_in_packages_asked = record {
  there = present_ones (externals names_in_packages) ([]);
  bound = 8;
  answers = ([]);
  calls = (call (codes "M___" ∷ codes "D___" ∷ []) ((number 0) ∷ []) ∷ call (codes "M___" ∷ codes "D___" ∷ []) ((number 1) ∷ []) ∷ call (codes "M___" ∷ codes "D___" ∷ []) ((number 2) ∷ []) ∷ call (codes "M___" ∷ codes "D___" ∷ []) ((number 3) ∷ []) ∷ []);
  paths = ((codes "P___" ∷ codes "D___" ∷ []) ∷ []);
}

abbrev names_in_packages_told : Told
names_in_packages_told = record {
  results = ((Done (Normal false)) ∷ (gives (number 7)) ∷ (gives (number 7)) ∷ (gives (number 7)) ∷ (faults Fault.WrongType) ∷ []);
  events = ([]);
  left = ([]);
  values = (Some (packaged ((reference (Named (codes "X___" ∷ codes "D___" ∷ []))) ∷ (reference (Named (codes "X___" ∷ codes "D___" ∷ []))) ∷ (reference (Named (codes "X___" ∷ codes "D___" ∷ []))) ∷ (reference (Named (codes "LATE" ∷ codes "D___" ∷ []))) ∷ [])) ∷ []);
}

names_in_packages_encoded : written_whole W64 fields names_in_packages ≡ names_in_packages_table
names_in_packages_encoded = refl

names_in_packages_right : name_errors names_in_packages ++ type_errors names_in_packages ≡ []
names_in_packages_right = refl

names_in_packages_by_source : of_source W64 names_in_packages names_in_packages_asked ≡ names_in_packages_told
names_in_packages_by_source = refl

names_in_packages_by_bytes : of_bytes names_in_packages_table names_in_packages_asked ≡ names_in_packages_told
unfolding code_front
names_in_packages_by_bytes = refl
