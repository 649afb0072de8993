-- Sessions of Increment, Decrement and Noop. ACPICA's interpreter gives the values.
use Rattle.std.proofs.Common.{◌≡◌, ℕ, false, List, [], ◌∷◌, ◌++◌, Some, refl}
use Rattle.std.specs.Prelude.{codes}
use Rattle.acpi_values.specs.declared.width.Width.TheVariants.{W64}
use Rattle.acpi_values.specs.declared.operator.DataOp.TheVariants as DataOp
use Rattle.acpi_values.specs.declared.operator.EventOp.TheVariants as EventOp
use Rattle.acpi_values.specs.declared.operator.Plain.TheVariants as Plain
use Rattle.acpi_state.specs.Objects as E
use Rattle.acpi_state.specs.Outcomes.{Normal, Done}
use Rattle.acpi_state.specs.Sessions.{present_ones}
use Rattle.asl_tree.specs.declared.term.Literal.TheVariants as Literal
use Rattle.asl_tree.specs.Tree.{Integer, Constant, String, Debug as DebugTerm, Use, Apply, Operated, Assigned, Return, Name, Method}
use Rattle.asl_tree.specs.Tree.{Trees, no_trees}
use Rattle.asl_meaning.specs.Declarations.{externals}
use Rattle.aml_meaning.specs.Codes.{code_front}
use Rattle.aml_code.specs.Header.{table_bytes}
use Rattle.acpi_names.specs.Errors.{name_errors, type_errors}
use Rattle.meaning_rows.proofs.Rows.{at, fields}
use Rattle.meaning_rows.proofs.Outside.{hex, number, text, at_root, call, Asked, Told, gives, of_bytes, of_source, written_whole, terms}
use Rattle.meaning_rows.proofs.Outside.{one, local}

-- steps
-- Name (S, "10") Name (X, 0) Method (M) { Noop Local0 = 5 Debug = Local0-- Debug = Local0 X-- Debug = X S-- Debug = S S++ Debug = S
-- Local0 = Ones Local0++ Return (Local0) }
abbrev steps : Trees
steps = (terms ((Name at (one "S___") (String (codes "10"))) ∷ (Name at (one "X___") (Integer 0)) ∷ (Method at (one "M___") 0 (terms ((Apply (Plain.Event EventOp.Noop) no_trees no_trees) ∷ (Assigned (local 0) (Integer 5)) ∷ (Assigned DebugTerm (Operated (Plain.Data DataOp.Decrement) (terms ((local 0) ∷ [])))) ∷ (Assigned DebugTerm (local 0)) ∷ (Operated (Plain.Data DataOp.Decrement) (terms ((Use at (one "X___")) ∷ []))) ∷ (Assigned DebugTerm (Use at (one "X___"))) ∷ (Operated (Plain.Data DataOp.Decrement) (terms ((Use at (one "S___")) ∷ []))) ∷ (Assigned DebugTerm (Use at (one "S___"))) ∷ (Operated (Plain.Data DataOp.Increment) (terms ((Use at (one "S___")) ∷ []))) ∷ (Assigned DebugTerm (Use at (one "S___"))) ∷ (Assigned (local 0) (Constant Literal.Ones)) ∷ (Operated (Plain.Data DataOp.Increment) (terms ((local 0) ∷ []))) ∷ (Return (local 0)) ∷ []))) ∷ []))

abbrev steps_table : List ℕ
steps_table =
    table_bytes fields (hex "08 53 5F 5F 5F 0D 31 30 00 08 58 5F 5F 5F 00 14 3F 4D 5F 5F 5F 00 A3 70 0A 05 60 70 76 60 5B 31 70 60 5B 31 76 58 5F 5F"
    ++ hex "5F 70 58 5F 5F 5F 5B 31 76 53 5F 5F 5F 70 53 5F 5F 5F 5B 31 75 53 5F 5F 5F 70 53 5F 5F 5F 5B 31 70 FF 60 75 60 A4 60")

abbrev steps_asked : Asked
steps_asked = record {
  there = present_ones (externals steps) ([]);
  bound = 8;
  answers = ([]);
  calls = (call (at_root "M___") [] ∷ []);
  paths = ((at_root "X___") ∷ (at_root "S___") ∷ []);
}

abbrev steps_told : Told
steps_told = record {
  results = ((Done (Normal false)) ∷ (gives (number 0)) ∷ []);
  events = ((E.Debug (number 4)) ∷ (E.Debug (number 4)) ∷ (E.Debug (number 0xFFFFFFFFFFFFFFFF)) ∷ (E.Debug (text "000000000000000F")) ∷ (E.Debug (text "0000000000000010")) ∷ []);
  left = ([]);
  values = (Some (number 0xFFFFFFFFFFFFFFFF) ∷ Some (text "0000000000000010") ∷ []);
}

steps_encoded : written_whole W64 fields steps ≡ steps_table
steps_encoded = refl

steps_right : name_errors steps ++ type_errors steps ≡ []
steps_right = refl

steps_by_source : of_source W64 steps steps_asked ≡ steps_told
steps_by_source = refl

steps_by_bytes : of_bytes steps_table steps_asked ≡ steps_told
unfolding code_front
steps_by_bytes = refl
