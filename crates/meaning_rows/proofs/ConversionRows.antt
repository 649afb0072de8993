-- Sessions of conversions at their bounds: the characters that are digits, and numbers as texts. ACPICA's interpreter gives the values.
use Rattle.std.proofs.Common.{◌≡◌, ℕ, false, List, [], ◌∷◌, ◌++◌, refl}
use Rattle.std.specs.Prelude.{codes}
use Rattle.acpi_values.specs.declared.width.Width.TheVariants.{W64}
use Rattle.acpi_values.specs.declared.operator.IntOp.TheVariants as IntOp
use Rattle.acpi_values.specs.declared.operator.DataOp.TheVariants as DataOp
use Rattle.acpi_values.specs.declared.operator.Plain.TheVariants as Plain
use Rattle.acpi_state.specs.Objects as E
use Rattle.acpi_state.specs.Outcomes.{Normal, NoValue, Done}
use Rattle.acpi_state.specs.Sessions.{present_ones}
use Rattle.asl_tree.specs.declared.term.Literal.TheVariants as Literal
use Rattle.asl_tree.specs.Tree.{Integer, Constant, String, Debug as DebugTerm, Omitted, Apply, Operated, Assigned, Buffer, Method, Trees}
use Rattle.asl_meaning.specs.Declarations.{externals}
use Rattle.aml_meaning.specs.Codes.{code_front}
use Rattle.aml_code.specs.Header.{table_bytes}
use Rattle.acpi_names.specs.Errors.{name_errors, type_errors}
use Rattle.meaning_rows.proofs.Rows.{at, fields}
use Rattle.meaning_rows.proofs.Outside.{hex, number, text, at_root, call, Asked, Told, of_bytes, of_source, written_whole, terms, one}

-- The digits that an operand which is a String has at its begin, and the characters next to them (19.3.5)
-- Method (M) { Debug = "09AFaf" + 0 Debug = "1/2" + 0 Debug = "1:2" + 0 Debug = "1@2" + 0 Debug = "1G2" + 0 Debug = "1`2" + 0 Debug =
-- "1g2" + 0 }
abbrev hexadecimal_digits : Trees
hexadecimal_digits = (terms ((Method at (one "M___") 0 (terms ((Assigned DebugTerm (Operated (Plain.Number IntOp.Add) (terms ((String (codes "09AFaf")) ∷ (Integer 0) ∷ [])))) ∷ (Assigned DebugTerm (Operated (Plain.Number IntOp.Add) (terms ((String (codes "1/2")) ∷ (Integer 0) ∷ [])))) ∷ (Assigned DebugTerm (Operated (Plain.Number IntOp.Add) (terms ((String (codes "1:2")) ∷ (Integer 0) ∷ [])))) ∷ (Assigned DebugTerm (Operated (Plain.Number IntOp.Add) (terms ((String (codes "1@2")) ∷ (Integer 0) ∷ [])))) ∷ (Assigned DebugTerm (Operated (Plain.Number IntOp.Add) (terms ((String (codes "1G2")) ∷ (Integer 0) ∷ [])))) ∷ (Assigned DebugTerm (Operated (Plain.Number IntOp.Add) (terms ((String (codes "1`2")) ∷ (Integer 0) ∷ [])))) ∷ (Assigned DebugTerm (Operated (Plain.Number IntOp.Add) (terms ((String (codes "1g2")) ∷ (Integer 0) ∷ [])))) ∷ []))) ∷ []))

abbrev hexadecimal_digits_table : List ℕ
hexadecimal_digits_table =
    table_bytes fields (hex "14 49 04 4D 5F 5F 5F 00 72 0D 30 39 41 46 61 66 00 00 5B 31 72 0D 31 2F 32 00 00 5B 31 72 0D 31 3A 32 00 00 5B 31 72 0D"
    ++ hex "31 40 32 00 00 5B 31 72 0D 31 47 32 00 00 5B 31 72 0D 31 60 32 00 00 5B 31 72 0D 31 67 32 00 00 5B 31")

abbrev hexadecimal_digits_asked : Asked
hexadecimal_digits_asked = record {
  there = present_ones (externals hexadecimal_digits) ([]);
  bound = 8;
  answers = ([]);
  calls = (call (at_root "M___") [] ∷ []);
  paths = ([]);
}

abbrev hexadecimal_digits_told : Told
hexadecimal_digits_told = record {
  results = ((Done (Normal false)) ∷ (Done NoValue) ∷ []);
  events = ((E.Debug (number 0x9AFAF)) ∷ (E.Debug (number 1)) ∷ (E.Debug (number 1)) ∷ (E.Debug (number 1)) ∷ (E.Debug (number 1)) ∷ (E.Debug (number 1)) ∷ (E.Debug (number 1)) ∷ []);
  left = ([]);
  values = ([]);
}

hexadecimal_digits_encoded : written_whole W64 fields hexadecimal_digits ≡ hexadecimal_digits_table
hexadecimal_digits_encoded = refl

hexadecimal_digits_right : name_errors hexadecimal_digits ++ type_errors hexadecimal_digits ≡ []
hexadecimal_digits_right = refl

hexadecimal_digits_by_source : of_source W64 hexadecimal_digits hexadecimal_digits_asked ≡ hexadecimal_digits_told
hexadecimal_digits_by_source = refl

hexadecimal_digits_by_bytes : of_bytes hexadecimal_digits_table hexadecimal_digits_asked ≡ hexadecimal_digits_told
unfolding code_front
hexadecimal_digits_by_bytes = refl

-- ToInteger: one character, and an x that no 0 stands before
-- Method (M) { Debug = ToInteger ("9") Debug = ToInteger ("A") Debug = ToInteger ("9x1") Debug = ToInteger ("-x12") Debug = ToInteger
-- ("0x1g") Debug = ToInteger ("12:3") }
abbrev numbers_in_strings : Trees
numbers_in_strings = (terms ((Method at (one "M___") 0 (terms ((Assigned DebugTerm (Apply (Plain.Data DataOp.ToInteger) (terms ((String (codes "9")) ∷ [])) (terms ((Omitted) ∷ [])))) ∷ (Assigned DebugTerm (Apply (Plain.Data DataOp.ToInteger) (terms ((String (codes "A")) ∷ [])) (terms ((Omitted) ∷ [])))) ∷ (Assigned DebugTerm (Apply (Plain.Data DataOp.ToInteger) (terms ((String (codes "9x1")) ∷ [])) (terms ((Omitted) ∷ [])))) ∷ (Assigned DebugTerm (Apply (Plain.Data DataOp.ToInteger) (terms ((String (codes "-x12")) ∷ [])) (terms ((Omitted) ∷ [])))) ∷ (Assigned DebugTerm (Apply (Plain.Data DataOp.ToInteger) (terms ((String (codes "0x1g")) ∷ [])) (terms ((Omitted) ∷ [])))) ∷ (Assigned DebugTerm (Apply (Plain.Data DataOp.ToInteger) (terms ((String (codes "12:3")) ∷ [])) (terms ((Omitted) ∷ [])))) ∷ []))) ∷ []))

abbrev numbers_in_strings_table : List ℕ
numbers_in_strings_table =
    table_bytes fields (hex "14 42 04 4D 5F 5F 5F 00 70 99 0D 39 00 00 5B 31 70 99 0D 41 00 00 5B 31 70 99 0D 39 78 31 00 00 5B 31 70 99 0D 2D 78 31"
    ++ hex "32 00 00 5B 31 70 99 0D 30 78 31 67 00 00 5B 31 70 99 0D 31 32 3A 33 00 00 5B 31")

abbrev numbers_in_strings_asked : Asked
numbers_in_strings_asked = record {
  there = present_ones (externals numbers_in_strings) ([]);
  bound = 8;
  answers = ([]);
  calls = (call (at_root "M___") [] ∷ []);
  paths = ([]);
}

abbrev numbers_in_strings_told : Told
numbers_in_strings_told = record {
  results = ((Done (Normal false)) ∷ (Done NoValue) ∷ []);
  events = ((E.Debug (number 9)) ∷ (E.Debug (number 0)) ∷ (E.Debug (number 9)) ∷ (E.Debug (number 0)) ∷ (E.Debug (number 1)) ∷ (E.Debug (number 12)) ∷ []);
  left = ([]);
  values = ([]);
}

numbers_in_strings_encoded : written_whole W64 fields numbers_in_strings ≡ numbers_in_strings_table
numbers_in_strings_encoded = refl

numbers_in_strings_right : name_errors numbers_in_strings ++ type_errors numbers_in_strings ≡ []
numbers_in_strings_right = refl

numbers_in_strings_by_source : of_source W64 numbers_in_strings numbers_in_strings_asked ≡ numbers_in_strings_told
numbers_in_strings_by_source = refl

numbers_in_strings_by_bytes : of_bytes numbers_in_strings_table numbers_in_strings_asked ≡ numbers_in_strings_told
unfolding code_front
numbers_in_strings_by_bytes = refl

-- The digit 9, and the most decimal digits
-- Method (M) { Debug = Concatenate ("", 0x9A) Debug = ToDecimalString (9) Debug = ToDecimalString (Ones) Debug = ToDecimalString (Buffer
-- () {9, 10, 99, 100, 255}) Debug = ToDecimalString ("x9") }
abbrev numbers_as_strings : Trees
numbers_as_strings = (terms ((Method at (one "M___") 0 (terms ((Assigned DebugTerm (Apply (Plain.Data DataOp.Concatenate) (terms ((String ([])) ∷ (Integer 154) ∷ [])) (terms ((Omitted) ∷ [])))) ∷ (Assigned DebugTerm (Apply (Plain.Data DataOp.ToDecimalString) (terms ((Integer 9) ∷ [])) (terms ((Omitted) ∷ [])))) ∷ (Assigned DebugTerm (Apply (Plain.Data DataOp.ToDecimalString) (terms ((Constant Literal.Ones) ∷ [])) (terms ((Omitted) ∷ [])))) ∷ (Assigned DebugTerm (Apply (Plain.Data DataOp.ToDecimalString) (terms ((Buffer (Integer 5) (9 ∷ 10 ∷ 99 ∷ 100 ∷ 255 ∷ [])) ∷ [])) (terms ((Omitted) ∷ [])))) ∷ (Assigned DebugTerm (Apply (Plain.Data DataOp.ToDecimalString) (terms ((String (codes "x9")) ∷ [])) (terms ((Omitted) ∷ [])))) ∷ []))) ∷ []))

abbrev numbers_as_strings_table : List ℕ
numbers_as_strings_table =
    table_bytes fields (hex "14 33 4D 5F 5F 5F 00 70 73 0D 00 0A 9A 00 5B 31 70 97 0A 09 00 5B 31 70 97 FF 00 5B 31 70 97 11 08 0A 05 09 0A 63 64 FF"
    ++ hex "00 5B 31 70 97 0D 78 39 00 00 5B 31")

abbrev numbers_as_strings_asked : Asked
numbers_as_strings_asked = record {
  there = present_ones (externals numbers_as_strings) ([]);
  bound = 8;
  answers = ([]);
  calls = (call (at_root "M___") [] ∷ []);
  paths = ([]);
}

abbrev numbers_as_strings_told : Told
numbers_as_strings_told = record {
  results = ((Done (Normal false)) ∷ (Done NoValue) ∷ []);
  events = ((E.Debug (text "000000000000009A")) ∷ (E.Debug (text "9")) ∷ (E.Debug (text "18446744073709551615")) ∷ (E.Debug (text "9,10,99,100,255")) ∷ (E.Debug (text "x9")) ∷ []);
  left = ([]);
  values = ([]);
}

numbers_as_strings_encoded : written_whole W64 fields numbers_as_strings ≡ numbers_as_strings_table
numbers_as_strings_encoded = refl

numbers_as_strings_right : name_errors numbers_as_strings ++ type_errors numbers_as_strings ≡ []
numbers_as_strings_right = refl

numbers_as_strings_by_source : of_source W64 numbers_as_strings numbers_as_strings_asked ≡ numbers_as_strings_told
numbers_as_strings_by_source = refl

numbers_as_strings_by_bytes : of_bytes numbers_as_strings_table numbers_as_strings_asked ≡ numbers_as_strings_told
unfolding code_front
numbers_as_strings_by_bytes = refl
