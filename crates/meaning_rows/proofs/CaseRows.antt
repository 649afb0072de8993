-- A Switch whose Case has a Package with an expression as its size. Worked by hand: the size says nothing of the members that are
-- compared (ACPI Specification 6.4, 19.6).
use Rattle.std.proofs.Common.{◌≡◌, ℕ, false, List, [], ◌∷◌, ◌++◌, refl}
use Rattle.std.specs.Prelude.{codes}
use Rattle.acpi_values.specs.declared.width.Width.TheVariants.{W64}
use Rattle.acpi_values.specs.declared.operator.IntOp.TheVariants as IntOp
use Rattle.acpi_values.specs.declared.operator.Plain.TheVariants as Plain
use Rattle.acpi_state.specs.Outcomes.{Normal, Done}
use Rattle.acpi_state.specs.Sessions.{present_ones}
use Rattle.asl_tree.specs.declared.term.Literal.TheVariants as Literal
use Rattle.asl_tree.specs.Tree.{Integer, Constant, String, Operated, VarPackage, Return, Method, Switch, Case, Default, Trees}
use Rattle.asl_meaning.specs.Declarations.{externals}
use Rattle.aml_meaning.specs.Codes.{code_front}
use Rattle.aml_code.specs.Header.{table_bytes}
use Rattle.acpi_names.specs.Errors.{name_errors, type_errors}
use Rattle.meaning_rows.proofs.Rows.{at, fields}
use Rattle.meaning_rows.proofs.Outside.{hex, number, text, at_root, call, Asked, Told, gives, of_bytes, of_source, written_whole, terms}
use Rattle.meaning_rows.proofs.Outside.{one, arg}

-- sized case
-- Method (M, 1) { Switch (Arg0) { Case (Package (One + One) { 1, 2 }) { Return ("few") } Case (3) { Return ("three") } Default { Return
-- ("many") } } Return (0) }
abbrev sized_case : Trees
sized_case = (terms ((Method at (one "M___") 1 (terms ((Switch (arg 0) (terms ((Case (VarPackage (Operated (Plain.Number IntOp.Add) (terms ((Constant Literal.One) ∷ (Constant Literal.One) ∷ []))) (terms ((Integer 1) ∷ (Integer 2) ∷ []))) (terms ((Return (String (codes "few"))) ∷ []))) ∷ (Case (Integer 3) (terms ((Return (String (codes "three"))) ∷ []))) ∷ (Default (terms ((Return (String (codes "many"))) ∷ []))) ∷ []))) ∷ (Return (Integer 0)) ∷ []))) ∷ []))

abbrev sized_case_table : List ℕ
sized_case_table =
    table_bytes fields (hex "14 38 4D 5F 5F 5F 01 A2 2F 01 70 68 60 A0 0F 91 93 60 01 93 60 0A 02 A4 0D 66 65 77 00 A1 18 A0 0D 93 60 0A 03 A4 0D 74"
    ++ hex "68 72 65 65 00 A1 08 A4 0D 6D 61 6E 79 00 A5 A4 00")

abbrev sized_case_asked : Asked
sized_case_asked = record {
  there = present_ones (externals sized_case) ([]);
  bound = 8;
  answers = ([]);
  calls = (call (at_root "M___") ((number 1) ∷ []) ∷ call (at_root "M___") ((number 2) ∷ []) ∷ call (at_root "M___") ((number 3) ∷ []) ∷ call (at_root "M___") ((number 4) ∷ []) ∷ []);
  paths = ([]);
}

abbrev sized_case_told : Told
sized_case_told = record {
  results = ((Done (Normal false)) ∷ (gives (text "few")) ∷ (gives (text "few")) ∷ (gives (text "three")) ∷ (gives (text "many")) ∷ []);
  events = ([]);
  left = ([]);
  values = ([]);
}

sized_case_encoded : written_whole W64 fields sized_case ≡ sized_case_table
sized_case_encoded = refl

sized_case_right : name_errors sized_case ++ type_errors sized_case ≡ []
sized_case_right = refl

sized_case_by_source : of_source W64 sized_case sized_case_asked ≡ sized_case_told
sized_case_by_source = refl

sized_case_by_bytes : of_bytes sized_case_table sized_case_asked ≡ sized_case_told
unfolding code_front
sized_case_by_bytes = refl
