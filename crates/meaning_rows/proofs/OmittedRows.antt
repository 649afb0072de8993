-- Sessions of Fors with parts that are left out, and with Break and Return. Worked by hand: a For is its start, and then a While of its
-- test, whose body ends with its step (ACPI Specification 6.4, 19.6).
use Rattle.std.proofs.Common.{◌≡◌, ℕ, false, List, [], ◌∷◌, ◌++◌, refl}
use Rattle.acpi_values.specs.declared.width.Width.TheVariants.{W64}
use Rattle.acpi_values.specs.declared.operator.IntOp.TheVariants as IntOp
use Rattle.acpi_values.specs.declared.operator.DataOp.TheVariants as DataOp
use Rattle.acpi_values.specs.declared.operator.Plain.TheVariants as Plain
use Rattle.acpi_state.specs.Objects as E
use Rattle.acpi_state.specs.Outcomes.{Normal, Done}
use Rattle.acpi_state.specs.Sessions.{present_ones}
use Rattle.asl_tree.specs.declared.term.Literal.TheVariants as Literal
use Rattle.asl_tree.specs.declared.term.Compound.TheVariants as Compound
use Rattle.asl_tree.specs.Tree.{Integer, Constant, Debug as DebugTerm, Omitted, Operated, Assigned, AssignedBy, Return, Method, If, For}
use Rattle.asl_tree.specs.Tree.{Break, Trees, no_trees}
use Rattle.asl_meaning.specs.Declarations.{externals}
use Rattle.aml_meaning.specs.Codes.{code_front}
use Rattle.aml_code.specs.Header.{table_bytes}
use Rattle.acpi_names.specs.Errors.{name_errors, type_errors}
use Rattle.meaning_rows.proofs.Rows.{at, fields}
use Rattle.meaning_rows.proofs.Outside.{hex, number, at_root, call, Asked, Told, gives, of_bytes, of_source, written_whole, terms, one}
use Rattle.meaning_rows.proofs.Outside.{local}

-- parts left out
-- Method (M) { For (Local0 = 0, Local0 < 5, ) { Local0 += 2 } Debug = Local0 For (, Local0 < 8, Local0++) {} Debug = Local0 For (, , ) {
-- Local0++ If (Local0 == 11) { Break } } Debug = Local0 For (Local0 = 1, , ) { Return (Local0) } } Method (N) { For (Local0 = 0, Local0
-- < 5, Local0++) { If (Local0 == 2) { Break } } Return (Local0) } Method (K) { For (Local0 = 7, Local0 < 9, Debug = Local0) { Return
-- (Local0) } }
abbrev parts_left_out : Trees
parts_left_out = (terms ((Method at (one "M___") 0 (terms ((For (Assigned (local 0) (Integer 0)) (Operated (Plain.Number IntOp.LLess) (terms ((local 0) ∷ (Integer 5) ∷ []))) Omitted (terms ((AssignedBy Compound.Add (local 0) (Integer 2)) ∷ []))) ∷ (Assigned DebugTerm (local 0)) ∷ (For Omitted (Operated (Plain.Number IntOp.LLess) (terms ((local 0) ∷ (Integer 8) ∷ []))) (Operated (Plain.Data DataOp.Increment) (terms ((local 0) ∷ []))) no_trees) ∷ (Assigned DebugTerm (local 0)) ∷ (For Omitted (Constant Literal.One) Omitted (terms ((Operated (Plain.Data DataOp.Increment) (terms ((local 0) ∷ []))) ∷ (If (Operated (Plain.Number IntOp.LEqual) (terms ((local 0) ∷ (Integer 11) ∷ []))) (terms ((Break) ∷ []))) ∷ []))) ∷ (Assigned DebugTerm (local 0)) ∷ (For (Assigned (local 0) (Integer 1)) (Constant Literal.One) Omitted (terms ((Return (local 0)) ∷ []))) ∷ []))) ∷ (Method at (one "N___") 0 (terms ((For (Assigned (local 0) (Integer 0)) (Operated (Plain.Number IntOp.LLess) (terms ((local 0) ∷ (Integer 5) ∷ []))) (Operated (Plain.Data DataOp.Increment) (terms ((local 0) ∷ []))) (terms ((If (Operated (Plain.Number IntOp.LEqual) (terms ((local 0) ∷ (Integer 2) ∷ []))) (terms ((Break) ∷ []))) ∷ []))) ∷ (Return (local 0)) ∷ []))) ∷ (Method at (one "K___") 0 (terms ((For (Assigned (local 0) (Integer 7)) (Operated (Plain.Number IntOp.LLess) (terms ((local 0) ∷ (Integer 9) ∷ []))) (Assigned DebugTerm (local 0)) (terms ((Return (local 0)) ∷ []))) ∷ []))) ∷ []))

abbrev parts_left_out_table : List ℕ
parts_left_out_table =
    table_bytes fields (hex "14 3C 4D 5F 5F 5F 00 70 00 60 A2 0A 95 60 0A 05 72 60 0A 02 60 70 60 5B 31 A2 07 95 60 0A 08 75 60 70 60 5B 31 A2 0B 01"
    ++ hex "75 60 A0 06 93 60 0A 0B A5 70 60 5B 31 70 01 60 A2 04 01 A4 60 14 1A 4E 5F 5F 5F 00 70 00 60 A2 0E 95 60 0A 05 A0 06 93"
    ++ hex "60 0A 02 A5 75 60 A4 60 14 16 4B 5F 5F 5F 00 70 0A 07 60 A2 0B 95 60 0A 09 A4 60 70 60 5B 31")

abbrev parts_left_out_asked : Asked
parts_left_out_asked = record {
  there = present_ones (externals parts_left_out) ([]);
  bound = 8;
  answers = ([]);
  calls = (call (at_root "M___") [] ∷ call (at_root "N___") [] ∷ call (at_root "K___") [] ∷ []);
  paths = ([]);
}

abbrev parts_left_out_told : Told
parts_left_out_told = record {
  results = ((Done (Normal false)) ∷ (gives (number 1)) ∷ (gives (number 2)) ∷ (gives (number 7)) ∷ []);
  events = ((E.Debug (number 6)) ∷ (E.Debug (number 8)) ∷ (E.Debug (number 11)) ∷ []);
  left = ([]);
  values = ([]);
}

parts_left_out_encoded : written_whole W64 fields parts_left_out ≡ parts_left_out_table
parts_left_out_encoded = refl

parts_left_out_right : name_errors parts_left_out ++ type_errors parts_left_out ≡ []
parts_left_out_right = refl

parts_left_out_by_source : of_source W64 parts_left_out parts_left_out_asked ≡ parts_left_out_told
parts_left_out_by_source = refl

parts_left_out_by_bytes : of_bytes parts_left_out_table parts_left_out_asked ≡ parts_left_out_told
unfolding code_front
parts_left_out_by_bytes = refl
