-- Sessions of fields that are as wide as an Integer, and one bit wider. ACPICA's interpreter gives the values.
use Rattle.std.proofs.Common.{◌≡◌, ℕ, false, List, [], ◌∷◌, ◌++◌, refl}
use Rattle.acpi_values.specs.declared.width.Width.TheVariants.{W32, W64}
use Rattle.acpi_state.specs.Objects as E
use Rattle.acpi_state.specs.FieldActs.{OneDWord, OneQWord, SomeBits}
use Rattle.acpi_state.specs.Outcomes.{Normal, NoValue, Done}
use Rattle.acpi_state.specs.Sessions.{present_ones}
use Rattle.asl_tree.specs.Tree.{Integer, Debug as DebugTerm, Use, Assigned, Buffer, Name, Method, CreateField, Trees}
use Rattle.asl_meaning.specs.Declarations.{externals}
use Rattle.aml_meaning.specs.Codes.{code_front}
use Rattle.aml_code.specs.Header.{table_bytes}
use Rattle.acpi_names.specs.Errors.{name_errors, type_errors}
use Rattle.meaning_rows.proofs.Rows.{at, fields, narrow_fields}
use Rattle.meaning_rows.proofs.Outside.{hex, number, buffer, at_root, call, Asked, Told, of_bytes, of_source, written_whole, terms, one}

-- fields of 64 bits
-- Name (B, Buffer () { 1, 2, 3, 4, 5, 6, 7, 8, 9 }) CreateQWordField (B, 0, FI) CreateField (B, 0, 65, FB) Method (M) { Debug = FI Debug
-- = FB }
abbrev fields_of_64_bits : Trees
fields_of_64_bits = (terms ((Name at (one "B___") (Buffer (Integer 9) (1 ∷ 2 ∷ 3 ∷ 4 ∷ 5 ∷ 6 ∷ 7 ∷ 8 ∷ 9 ∷ []))) ∷ (CreateField OneQWord (terms ((Use at (one "B___")) ∷ (Integer 0) ∷ [])) at (one "FI__")) ∷ (CreateField SomeBits (terms ((Use at (one "B___")) ∷ (Integer 0) ∷ (Integer 65) ∷ [])) at (one "FB__")) ∷ (Method at (one "M___") 0 (terms ((Assigned DebugTerm (Use at (one "FI__"))) ∷ (Assigned DebugTerm (Use at (one "FB__"))) ∷ []))) ∷ []))

abbrev fields_of_64_bits_table : List ℕ
fields_of_64_bits_table =
    table_bytes fields (hex "08 42 5F 5F 5F 11 0C 0A 09 01 02 03 04 05 06 07 08 09 8F 42 5F 5F 5F 00 46 49 5F 5F 5B 13 42 5F 5F 5F 00 0A 41 46 42 5F"
    ++ hex "5F 14 14 4D 5F 5F 5F 00 70 46 49 5F 5F 5B 31 70 46 42 5F 5F 5B 31")

abbrev fields_of_64_bits_asked : Asked
fields_of_64_bits_asked = record {
  there = present_ones (externals fields_of_64_bits) ([]);
  bound = 8;
  answers = ([]);
  calls = (call (at_root "M___") [] ∷ []);
  paths = ([]);
}

abbrev fields_of_64_bits_told : Told
fields_of_64_bits_told = record {
  results = ((Done (Normal false)) ∷ (Done NoValue) ∷ []);
  events = ((E.Debug (number 0x807060504030201)) ∷ (E.Debug (buffer "01 02 03 04 05 06 07 08 01")) ∷ []);
  left = ([]);
  values = ([]);
}

fields_of_64_bits_encoded : written_whole W64 fields fields_of_64_bits ≡ fields_of_64_bits_table
fields_of_64_bits_encoded = refl

fields_of_64_bits_right : name_errors fields_of_64_bits ++ type_errors fields_of_64_bits ≡ []
fields_of_64_bits_right = refl

fields_of_64_bits_by_source : of_source W64 fields_of_64_bits fields_of_64_bits_asked ≡ fields_of_64_bits_told
fields_of_64_bits_by_source = refl

fields_of_64_bits_by_bytes : of_bytes fields_of_64_bits_table fields_of_64_bits_asked ≡ fields_of_64_bits_told
unfolding code_front
fields_of_64_bits_by_bytes = refl

-- fields of 32 bits
-- Name (B, Buffer () { 1, 2, 3, 4, 5 }) CreateDWordField (B, 0, FI) CreateField (B, 0, 33, FB) Method (M) { Debug = FI Debug = FB }
abbrev fields_of_32_bits : Trees
fields_of_32_bits = (terms ((Name at (one "B___") (Buffer (Integer 5) (1 ∷ 2 ∷ 3 ∷ 4 ∷ 5 ∷ []))) ∷ (CreateField OneDWord (terms ((Use at (one "B___")) ∷ (Integer 0) ∷ [])) at (one "FI__")) ∷ (CreateField SomeBits (terms ((Use at (one "B___")) ∷ (Integer 0) ∷ (Integer 33) ∷ [])) at (one "FB__")) ∷ (Method at (one "M___") 0 (terms ((Assigned DebugTerm (Use at (one "FI__"))) ∷ (Assigned DebugTerm (Use at (one "FB__"))) ∷ []))) ∷ []))

abbrev fields_of_32_bits_table : List ℕ
fields_of_32_bits_table =
    table_bytes narrow_fields (hex "08 42 5F 5F 5F 11 08 0A 05 01 02 03 04 05 8A 42 5F 5F 5F 00 46 49 5F 5F 5B 13 42 5F 5F 5F 00 0A 21 46 42 5F 5F 14 14 4D"
    ++ hex "5F 5F 5F 00 70 46 49 5F 5F 5B 31 70 46 42 5F 5F 5B 31")

abbrev fields_of_32_bits_asked : Asked
fields_of_32_bits_asked = record {
  there = present_ones (externals fields_of_32_bits) ([]);
  bound = 8;
  answers = ([]);
  calls = (call (at_root "M___") [] ∷ []);
  paths = ([]);
}

abbrev fields_of_32_bits_told : Told
fields_of_32_bits_told = record {
  results = ((Done (Normal false)) ∷ (Done NoValue) ∷ []);
  events = ((E.Debug (number 0x4030201)) ∷ (E.Debug (buffer "01 02 03 04 01")) ∷ []);
  left = ([]);
  values = ([]);
}

fields_of_32_bits_encoded : written_whole W32 narrow_fields fields_of_32_bits ≡ fields_of_32_bits_table
fields_of_32_bits_encoded = refl

fields_of_32_bits_right : name_errors fields_of_32_bits ++ type_errors fields_of_32_bits ≡ []
fields_of_32_bits_right = refl

fields_of_32_bits_by_source : of_source W32 fields_of_32_bits fields_of_32_bits_asked ≡ fields_of_32_bits_told
fields_of_32_bits_by_source = refl

fields_of_32_bits_by_bytes : of_bytes fields_of_32_bits_table fields_of_32_bits_asked ≡ fields_of_32_bits_told
unfolding code_front
fields_of_32_bits_by_bytes = refl
