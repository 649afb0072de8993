-- Sessions of scopes and calls: a parent that is not there, the root as a scope, what is called from outside, and Args that are no
-- References. ACPICA's interpreter gives the values.
use Rattle.std.proofs.Common.{◌≡◌, ℕ, true, false, List, [], ◌∷◌, ◌++◌, refl}
use Rattle.std.specs.Prelude.{codes}
use Rattle.acpi_values.specs.declared.width.Width.TheVariants.{W64}
use Rattle.acpi_values.specs.declared.fault.Fault.TheVariants as Fault
use Rattle.acpi_values.specs.declared.operator.IntOp.TheVariants as IntOp
use Rattle.acpi_values.specs.declared.operator.Plain.TheVariants as Plain
use Rattle.acpi_state.specs.Objects.{Device}
use Rattle.acpi_state.specs.Outcomes.{Normal, Done}
use Rattle.acpi_state.specs.Sessions.{present_ones}
use Rattle.asl_tree.specs.Tree.{Integer, Use, Operated, Assigned, Return, Name, Method, Container', Scope, Trees, no_trees}
use Rattle.asl_meaning.specs.Declarations.{externals}
use Rattle.aml_meaning.specs.Codes.{code_front}
use Rattle.aml_code.specs.Header.{table_bytes}
use Rattle.acpi_names.specs.Errors.{name_errors, type_errors}
use Rattle.meaning_rows.proofs.Rows.{at, fields}
use Rattle.meaning_rows.proofs.Outside.{hex, number, at_root, call, Asked, Told, gives, faults, of_bytes, of_source, written_whole, terms}
use Rattle.meaning_rows.proofs.Outside.{path, one, arg}

-- parents
-- Scope (\) { Name (X, 3) } Method (K) { Device (\NO__) {} } Method (M) { Name (\NO__.X, 1) } Method (N) { Device (\DV__) {} Name
-- (\DV__.X, 1) Return (\DV__.X + \X) } Method (T, 1) { Arg0 = 7 Return (Arg0) }
abbrev parents : Trees
parents = (terms ((Scope at at (path true 0 ([])) (terms ((Name at (one "X___") (Integer 3)) ∷ []))) ∷ (Method at (one "K___") 0 (terms ((Container' Device at (path true 0 (codes "NO__" ∷ [])) no_trees) ∷ []))) ∷ (Method at (one "M___") 0 (terms ((Name at (path true 0 (codes "NO__" ∷ codes "X___" ∷ [])) (Integer 1)) ∷ []))) ∷ (Method at (one "N___") 0 (terms ((Container' Device at (path true 0 (codes "DV__" ∷ [])) no_trees) ∷ (Name at (path true 0 (codes "DV__" ∷ codes "X___" ∷ [])) (Integer 1)) ∷ (Return (Operated (Plain.Number IntOp.Add) (terms ((Use at (path true 0 (codes "DV__" ∷ codes "X___" ∷ []))) ∷ (Use at (path true 0 (codes "X___" ∷ []))) ∷ [])))) ∷ []))) ∷ (Method at (one "T___") 1 (terms ((Assigned (arg 0) (Integer 7)) ∷ (Return (arg 0)) ∷ []))) ∷ []))

abbrev parents_table : List ℕ
parents_table =
    table_bytes fields (hex "10 0A 5C 00 08 58 5F 5F 5F 0A 03 14 0E 4B 5F 5F 5F 00 5B 82 06 5C 4E 4F 5F 5F 14 12 4D 5F 5F 5F 00 08 5C 2E 4E 4F 5F 5F"
    ++ hex "58 5F 5F 5F 01 14 2C 4E 5F 5F 5F 00 5B 82 06 5C 44 56 5F 5F 08 5C 2E 44 56 5F 5F 58 5F 5F 5F 01 A4 72 5C 2E 44 56 5F 5F"
    ++ hex "58 5F 5F 5F 5C 58 5F 5F 5F 00 14 0C 54 5F 5F 5F 01 70 0A 07 68 A4 68")

abbrev parents_asked : Asked
parents_asked = record {
  there = present_ones (externals parents) ([]);
  bound = 8;
  answers = ([]);
  calls = (call (at_root "M___") [] ∷ call (at_root "N___") [] ∷ call (at_root "T___") ((number 5) ∷ []) ∷ call (at_root "X___") [] ∷ []);
  paths = ([]);
}

abbrev parents_told : Told
parents_told = record {
  results = ((Done (Normal false)) ∷ (faults Fault.NotFound) ∷ (gives (number 4)) ∷ (gives (number 7)) ∷ (faults Fault.WrongType) ∷ []);
  events = ([]);
  left = ([]);
  values = ([]);
}

parents_encoded : written_whole W64 fields parents ≡ parents_table
parents_encoded = refl

parents_right : name_errors parents ++ type_errors parents ≡ []
parents_right = refl

parents_by_source : of_source W64 parents parents_asked ≡ parents_told
parents_by_source = refl

parents_by_bytes : of_bytes parents_table parents_asked ≡ parents_told
unfolding code_front
parents_by_bytes = refl
