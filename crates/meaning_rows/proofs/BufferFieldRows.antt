-- Sessions over fields of Buffers: each size, their ends, and what becomes of them when the Buffer changes. Another implementation gives
-- the values.
use Rattle.std.proofs.Common.{◌≡◌, ℕ, false, List, [], ◌∷◌, ◌++◌, Some, refl}
use Rattle.std.specs.Prelude.{codes}
use Rattle.acpi_values.specs.declared.width.Width.TheVariants.{W32, W64}
use Rattle.acpi_values.specs.declared.fault.Fault.TheVariants as Fault
use Rattle.acpi_values.specs.declared.operator.DataOp.TheVariants as DataOp
use Rattle.acpi_values.specs.declared.operator.EventOp.TheVariants as EventOp
use Rattle.acpi_values.specs.declared.operator.Plain.TheVariants as Plain
use Rattle.acpi_values.specs.Values as V
use Rattle.acpi_values.specs.Values.{Value, Data, no_elements, uninitialized, element, Named, LocalOf, ArgOf, ElementAt, ElementOf}
use Rattle.acpi_state.specs.Objects as E
use Rattle.acpi_state.specs.Objects.{Device, ThermalZone, PowerResource, Processor}
use Rattle.acpi_state.specs.FieldActs.{OneBit, OneByte, OneWord, OneDWord, OneQWord, SomeBits}
use Rattle.acpi_state.specs.Outcomes.{Normal, NoValue, Done}
use Rattle.acpi_state.specs.Sessions.{present_ones}
use Rattle.asl_tree.specs.Tree.{Integer, String, Debug as DebugTerm, Use, Apply, Operated, Assigned}
use Rattle.asl_tree.specs.Tree.{Buffer, Package, Return, Name, Method}
use Rattle.asl_tree.specs.Tree.{CreateField, Trees, no_trees}
use Rattle.asl_meaning.specs.Declarations.{externals}
use Rattle.aml_meaning.specs.Codes.{code_front}
use Rattle.aml_code.specs.Header.{table_bytes}
use Rattle.acpi_names.specs.Errors.{name_errors, type_errors}
use Rattle.meaning_rows.proofs.Rows.{at, fields, narrow_fields}
use Rattle.meaning_rows.proofs.Outside.{hex, number, reference, call, Asked, Told, gives, faults, of_bytes, of_source, written_whole, terms, one, local, arg}

-- create fields bits
-- Name (B, Buffer (4) {0x12, 0x34, 0x56, 0x78}) CreateBitField (B, 9, T1) CreateByteField (B, 1, T2) CreateWordField (B, 2, T3)
-- CreateDWordField (B, 0, T4) CreateField (B, 4, 12, T5) Method (M) { Debug = T1 Debug = T2 Debug = T3 Debug = T4 Debug = T5 T1 = 3 Debug
-- = B T5 = 0xABC Debug = B T2 = "zz" Debug = B T3 = Buffer () {1} Debug = B T4 = Buffer () {1,2,3,4,5} Debug = B }
abbrev create_fields_bits : Trees
create_fields_bits = (terms ((Name at (one "B___") (Buffer (Integer 4) (18 ∷ 52 ∷ 86 ∷ 120 ∷ []))) ∷ (CreateField OneBit (terms ((Use at (one "B___")) ∷ (Integer 9) ∷ [])) at (one "T1__")) ∷ (CreateField OneByte (terms ((Use at (one "B___")) ∷ (Integer 1) ∷ [])) at (one "T2__")) ∷ (CreateField OneWord (terms ((Use at (one "B___")) ∷ (Integer 2) ∷ [])) at (one "T3__")) ∷ (CreateField OneDWord (terms ((Use at (one "B___")) ∷ (Integer 0) ∷ [])) at (one "T4__")) ∷ (CreateField SomeBits (terms ((Use at (one "B___")) ∷ (Integer 4) ∷ (Integer 12) ∷ [])) at (one "T5__")) ∷ (Method at (one "M___") 0 (terms ((Assigned DebugTerm (Use at (one "T1__"))) ∷ (Assigned DebugTerm (Use at (one "T2__"))) ∷ (Assigned DebugTerm (Use at (one "T3__"))) ∷ (Assigned DebugTerm (Use at (one "T4__"))) ∷ (Assigned DebugTerm (Use at (one "T5__"))) ∷ (Assigned (Use at (one "T1__")) (Integer 3)) ∷ (Assigned DebugTerm (Use at (one "B___"))) ∷ (Assigned (Use at (one "T5__")) (Integer 0xABC)) ∷ (Assigned DebugTerm (Use at (one "B___"))) ∷ (Assigned (Use at (one "T2__")) (String (codes "zz"))) ∷ (Assigned DebugTerm (Use at (one "B___"))) ∷ (Assigned (Use at (one "T3__")) (Buffer (Integer 1) (1 ∷ []))) ∷ (Assigned DebugTerm (Use at (one "B___"))) ∷ (Assigned (Use at (one "T4__")) (Buffer (Integer 5) (1 ∷ 2 ∷ 3 ∷ 4 ∷ 5 ∷ []))) ∷ (Assigned DebugTerm (Use at (one "B___"))) ∷ []))) ∷ []))

abbrev create_fields_bits_table : List ℕ
create_fields_bits_table =
    table_bytes fields (hex "08 42 5F 5F 5F 11 07 0A 04 12 34 56 78 8D 42 5F 5F 5F 0A 09 54 31 5F 5F 8C 42 5F 5F 5F 01 54 32 5F 5F 8B 42 5F 5F 5F 0A"
    ++ hex "02 54 33 5F 5F 8A 42 5F 5F 5F 00 54 34 5F 5F 5B 13 42 5F 5F 5F 0A 04 0A 0C 54 35 5F 5F 14 4C 07 4D 5F 5F 5F 00 70 54 31"
    ++ hex "5F 5F 5B 31 70 54 32 5F 5F 5B 31 70 54 33 5F 5F 5B 31 70 54 34 5F 5F 5B 31 70 54 35 5F 5F 5B 31 70 0A 03 54 31 5F 5F 70"
    ++ hex "42 5F 5F 5F 5B 31 70 0B BC 0A 54 35 5F 5F 70 42 5F 5F 5F 5B 31 70 0D 7A 7A 00 54 32 5F 5F 70 42 5F 5F 5F 5B 31 70 11 03"
    ++ hex "01 01 54 33 5F 5F 70 42 5F 5F 5F 5B 31 70 11 08 0A 05 01 02 03 04 05 54 34 5F 5F 70 42 5F 5F 5F 5B 31")

abbrev create_fields_bits_asked : Asked
create_fields_bits_asked = record {
  there = present_ones (externals create_fields_bits) ([]);
  bound = 8;
  answers = ([]);
  calls = (call (codes "M___" ∷ []) ([]) ∷ []);
  paths = ((codes "B___" ∷ []) ∷ []);
}

abbrev create_fields_bits_told : Told
create_fields_bits_told = record {
  results = ((Done (Normal false)) ∷ (Done NoValue) ∷ []);
  events = ((E.Debug (number 0)) ∷ (E.Debug (number 52)) ∷ (E.Debug (number 0x7856)) ∷ (E.Debug (number 0x78563412)) ∷ (E.Debug (number 0x341)) ∷ (E.Debug (Data (V.Buffer (18 ∷ 54 ∷ 86 ∷ 120 ∷ [])))) ∷ (E.Debug (Data (V.Buffer (194 ∷ 171 ∷ 86 ∷ 120 ∷ [])))) ∷ (E.Debug (Data (V.Buffer (194 ∷ 122 ∷ 86 ∷ 120 ∷ [])))) ∷ (E.Debug (Data (V.Buffer (194 ∷ 122 ∷ 1 ∷ 0 ∷ [])))) ∷ (E.Debug (Data (V.Buffer (1 ∷ 2 ∷ 3 ∷ 4 ∷ [])))) ∷ []);
  left = ([]);
  values = (Some (Data (V.Buffer (1 ∷ 2 ∷ 3 ∷ 4 ∷ []))) ∷ []);
}

create_fields_bits_encoded : written_whole W64 fields create_fields_bits ≡ create_fields_bits_table
create_fields_bits_encoded = refl

create_fields_bits_right : name_errors create_fields_bits ++ type_errors create_fields_bits ≡ []
create_fields_bits_right = refl

create_fields_bits_by_source : of_source W64 create_fields_bits create_fields_bits_asked ≡ create_fields_bits_told
create_fields_bits_by_source = refl

create_fields_bits_by_bytes : of_bytes create_fields_bits_table create_fields_bits_asked ≡ create_fields_bits_told
unfolding code_front
create_fields_bits_by_bytes = refl

-- create field end
-- Name (B, Buffer (2) {1, 2}) Method (M, 2) { CreateField (B, Arg0, Arg1, F) Return (F) }
abbrev create_field_end : Trees
create_field_end = (terms ((Name at (one "B___") (Buffer (Integer 2) (1 ∷ 2 ∷ []))) ∷ (Method at (one "M___") 2 (terms ((CreateField SomeBits (terms ((Use at (one "B___")) ∷ (arg 0) ∷ (arg 1) ∷ [])) at (one "F___")) ∷ (Return (Use at (one "F___"))) ∷ []))) ∷ []))

abbrev create_field_end_table : List ℕ
create_field_end_table =
    table_bytes fields (hex "08 42 5F 5F 5F 11 05 0A 02 01 02 14 17 4D 5F 5F 5F 02 5B 13 42 5F 5F 5F 68 69 46 5F 5F 5F A4 46 5F 5F 5F")

abbrev create_field_end_asked : Asked
create_field_end_asked = record {
  there = present_ones (externals create_field_end) ([]);
  bound = 8;
  answers = ([]);
  calls = (call (codes "M___" ∷ []) ((number 0) ∷ (number 16) ∷ []) ∷ call (codes "M___" ∷ []) ((number 1) ∷ (number 16) ∷ []) ∷ call (codes "M___" ∷ []) ((number 16) ∷ (number 0) ∷ []) ∷ call (codes "M___" ∷ []) ((number 17) ∷ (number 0) ∷ []) ∷ call (codes "M___" ∷ []) ((number 8) ∷ (number 8) ∷ []) ∷ call (codes "M___" ∷ []) ((number 9) ∷ (number 8) ∷ []) ∷ call (codes "M___" ∷ []) ((number 0) ∷ (number 0) ∷ []) ∷ []);
  paths = ((codes "B___" ∷ []) ∷ []);
}

abbrev create_field_end_told : Told
create_field_end_told = record {
  results = ((Done (Normal false)) ∷ (gives (number 0x201)) ∷ (faults Fault.OutOfRange) ∷ (gives (number 0)) ∷ (faults Fault.OutOfRange) ∷ (gives (number 2)) ∷ (faults Fault.OutOfRange) ∷ (gives (number 0)) ∷ []);
  events = ([]);
  left = ([]);
  values = (Some (Data (V.Buffer (1 ∷ 2 ∷ []))) ∷ []);
}

create_field_end_encoded : written_whole W64 fields create_field_end ≡ create_field_end_table
create_field_end_encoded = refl

create_field_end_right : name_errors create_field_end ++ type_errors create_field_end ≡ []
create_field_end_right = refl

create_field_end_by_source : of_source W64 create_field_end create_field_end_asked ≡ create_field_end_told
create_field_end_by_source = refl

create_field_end_by_bytes : of_bytes create_field_end_table create_field_end_asked ≡ create_field_end_told
unfolding code_front
create_field_end_by_bytes = refl

-- create qword rev1
-- Name (B, Buffer (9) {1,2,3,4,5,6,7,8,9}) CreateQWordField (B, 1, Q) CreateField (B, 4, 32, T) CreateField (B,4, 33, U) Method (M) {
-- Debug = Q Debug = T Debug = U Q = 0x11223344 Return (B) }
abbrev create_qword_rev1 : Trees
create_qword_rev1 = (terms ((Name at (one "B___") (Buffer (Integer 9) (1 ∷ 2 ∷ 3 ∷ 4 ∷ 5 ∷ 6 ∷ 7 ∷ 8 ∷ 9 ∷ []))) ∷ (CreateField OneQWord (terms ((Use at (one "B___")) ∷ (Integer 1) ∷ [])) at (one "Q___")) ∷ (CreateField SomeBits (terms ((Use at (one "B___")) ∷ (Integer 4) ∷ (Integer 32) ∷ [])) at (one "T___")) ∷ (CreateField SomeBits (terms ((Use at (one "B___")) ∷ (Integer 4) ∷ (Integer 33) ∷ [])) at (one "U___")) ∷ (Method at (one "M___") 0 (terms ((Assigned DebugTerm (Use at (one "Q___"))) ∷ (Assigned DebugTerm (Use at (one "T___"))) ∷ (Assigned DebugTerm (Use at (one "U___"))) ∷ (Assigned (Use at (one "Q___")) (Integer 0x11223344)) ∷ (Return (Use at (one "B___"))) ∷ []))) ∷ []))

abbrev create_qword_rev1_table : List ℕ
create_qword_rev1_table =
    table_bytes narrow_fields (hex "08 42 5F 5F 5F 11 0C 0A 09 01 02 03 04 05 06 07 08 09 8F 42 5F 5F 5F 01 51 5F 5F 5F 5B 13 42 5F 5F 5F 0A 04 0A 20 54 5F"
    ++ hex "5F 5F 5B 13 42 5F 5F 5F 0A 04 0A 21 55 5F 5F 5F 14 2A 4D 5F 5F 5F 00 70 51 5F 5F 5F 5B 31 70 54 5F 5F 5F 5B 31 70 55 5F"
    ++ hex "5F 5F 5B 31 70 0C 44 33 22 11 51 5F 5F 5F A4 42 5F 5F 5F")

abbrev create_qword_rev1_asked : Asked
create_qword_rev1_asked = record {
  there = present_ones (externals create_qword_rev1) ([]);
  bound = 8;
  answers = ([]);
  calls = (call (codes "M___" ∷ []) ([]) ∷ []);
  paths = ((codes "B___" ∷ []) ∷ []);
}

abbrev create_qword_rev1_told : Told
create_qword_rev1_told = record {
  results = ((Done (Normal false)) ∷ (gives (Data (V.Buffer (1 ∷ 68 ∷ 51 ∷ 34 ∷ 17 ∷ 0 ∷ 0 ∷ 0 ∷ 0 ∷ [])))) ∷ []);
  events = ((E.Debug (Data (V.Buffer (2 ∷ 3 ∷ 4 ∷ 5 ∷ 6 ∷ 7 ∷ 8 ∷ 9 ∷ [])))) ∷ (E.Debug (number 0x50403020)) ∷ (E.Debug (Data (V.Buffer (32 ∷ 48 ∷ 64 ∷ 80 ∷ 0 ∷ [])))) ∷ []);
  left = ([]);
  values = (Some (Data (V.Buffer (1 ∷ 68 ∷ 51 ∷ 34 ∷ 17 ∷ 0 ∷ 0 ∷ 0 ∷ 0 ∷ []))) ∷ []);
}

create_qword_rev1_encoded : written_whole W32 narrow_fields create_qword_rev1 ≡ create_qword_rev1_table
create_qword_rev1_encoded = refl

create_qword_rev1_right : name_errors create_qword_rev1 ++ type_errors create_qword_rev1 ≡ []
create_qword_rev1_right = refl

create_qword_rev1_by_source : of_source W32 create_qword_rev1 create_qword_rev1_asked ≡ create_qword_rev1_told
create_qword_rev1_by_source = refl

create_qword_rev1_by_bytes : of_bytes create_qword_rev1_table create_qword_rev1_asked ≡ create_qword_rev1_told
unfolding code_front
create_qword_rev1_by_bytes = refl

-- buffer field over kinds
-- Name (S, "abcd") Name (P1, Package () {1, Buffer (3) {7, 8, 9}}) Method (M) { CreateByteField (S, 0, F) } Method (N) { CreateByteField
-- (P1 [1], 2, F) F = 5 Return (P1) } Method (O) { Local0 = Buffer (2) {} CreateByteField (Local0, 1, F) F = 0xAA Return (Local0) } Method
-- (Q, 1) { CreateByteField (Arg0, 0, F) F = 0xBB Return (Arg0) } Method (T) { CreateByteField (DerefOf (P1 [1]), 0, F) F = 1 Debug = F
-- Return (P1) } Method (U) { CreateByteField (Local3, 0, F) }
abbrev buffer_field_over_kinds : Trees
buffer_field_over_kinds = (terms ((Name at (one "S___") (String (codes "abcd"))) ∷ (Name at (one "P1__") (Package 2 (terms ((Integer 1) ∷ (Buffer (Integer 3) (7 ∷ 8 ∷ 9 ∷ [])) ∷ [])))) ∷ (Method at (one "M___") 0 (terms ((CreateField OneByte (terms ((Use at (one "S___")) ∷ (Integer 0) ∷ [])) at (one "F___")) ∷ []))) ∷ (Method at (one "N___") 0 (terms ((CreateField OneByte (terms ((Operated (Plain.Data DataOp.Index) (terms ((Use at (one "P1__")) ∷ (Integer 1) ∷ []))) ∷ (Integer 2) ∷ [])) at (one "F___")) ∷ (Assigned (Use at (one "F___")) (Integer 5)) ∷ (Return (Use at (one "P1__"))) ∷ []))) ∷ (Method at (one "O___") 0 (terms ((Assigned (local 0) (Buffer (Integer 2) ([]))) ∷ (CreateField OneByte (terms ((local 0) ∷ (Integer 1) ∷ [])) at (one "F___")) ∷ (Assigned (Use at (one "F___")) (Integer 170)) ∷ (Return (local 0)) ∷ []))) ∷ (Method at (one "Q___") 1 (terms ((CreateField OneByte (terms ((arg 0) ∷ (Integer 0) ∷ [])) at (one "F___")) ∷ (Assigned (Use at (one "F___")) (Integer 187)) ∷ (Return (arg 0)) ∷ []))) ∷ (Method at (one "T___") 0 (terms ((CreateField OneByte (terms ((Apply (Plain.Data DataOp.DerefOf) (terms ((Operated (Plain.Data DataOp.Index) (terms ((Use at (one "P1__")) ∷ (Integer 1) ∷ []))) ∷ [])) no_trees) ∷ (Integer 0) ∷ [])) at (one "F___")) ∷ (Assigned (Use at (one "F___")) (Integer 1)) ∷ (Assigned DebugTerm (Use at (one "F___"))) ∷ (Return (Use at (one "P1__"))) ∷ []))) ∷ (Method at (one "U___") 0 (terms ((CreateField OneByte (terms ((local 3) ∷ (Integer 0) ∷ [])) at (one "F___")) ∷ []))) ∷ []))

abbrev buffer_field_over_kinds_table : List ℕ
buffer_field_over_kinds_table =
    table_bytes fields (hex "08 53 5F 5F 5F 0D 61 62 63 64 00 08 50 31 5F 5F 12 0A 02 01 11 06 0A 03 07 08 09 14 10 4D 5F 5F 5F 00 8C 53 5F 5F 5F 00"
    ++ hex "46 5F 5F 5F 14 20 4E 5F 5F 5F 00 8C 88 50 31 5F 5F 01 00 0A 02 46 5F 5F 5F 70 0A 05 46 5F 5F 5F A4 50 31 5F 5F 14 1C 4F"
    ++ hex "5F 5F 5F 00 70 11 03 0A 02 60 8C 60 01 46 5F 5F 5F 70 0A AA 46 5F 5F 5F A4 60 14 16 51 5F 5F 5F 01 8C 68 00 46 5F 5F 5F"
    ++ hex "70 0A BB 46 5F 5F 5F A4 68 14 26 54 5F 5F 5F 00 8C 83 88 50 31 5F 5F 01 00 00 46 5F 5F 5F 70 01 46 5F 5F 5F 70 46 5F 5F"
    ++ hex "5F 5B 31 A4 50 31 5F 5F 14 0D 55 5F 5F 5F 00 8C 63 00 46 5F 5F 5F")

abbrev buffer_field_over_kinds_asked : Asked
buffer_field_over_kinds_asked = record {
  there = present_ones (externals buffer_field_over_kinds) ([]);
  bound = 8;
  answers = ([]);
  calls = (call (codes "M___" ∷ []) ([]) ∷ call (codes "N___" ∷ []) ([]) ∷ call (codes "O___" ∷ []) ([]) ∷ call (codes "Q___" ∷ []) ((Data (V.Buffer (1 ∷ []))) ∷ []) ∷ call (codes "Q___" ∷ []) ((reference (Named (codes "P1__" ∷ []))) ∷ []) ∷ call (codes "Q___" ∷ []) ((number 5) ∷ []) ∷ call (codes "T___" ∷ []) ([]) ∷ call (codes "U___" ∷ []) ([]) ∷ []);
  paths = ((codes "P1__" ∷ []) ∷ (codes "S___" ∷ []) ∷ []);
}

abbrev buffer_field_over_kinds_told : Told
buffer_field_over_kinds_told = record {
  results = ((Done (Normal false)) ∷ (faults Fault.WrongType) ∷ (gives (V.Package (element (number 1) (element (Data (V.Buffer (7 ∷ 8 ∷ 5 ∷ []))) no_elements)))) ∷ (gives (Data (V.Buffer (0 ∷ 170 ∷ [])))) ∷ (gives (Data (V.Buffer (187 ∷ [])))) ∷ (faults Fault.WrongType) ∷ (faults Fault.WrongType) ∷ (gives (V.Package (element (number 1) (element (Data (V.Buffer (7 ∷ 8 ∷ 5 ∷ []))) no_elements)))) ∷ (faults Fault.Uninitialized) ∷ []);
  events = ((E.Debug (number 1)) ∷ []);
  left = ([]);
  values = (Some (V.Package (element (number 1) (element (Data (V.Buffer (7 ∷ 8 ∷ 5 ∷ []))) no_elements))) ∷ Some (Data (V.String (97 ∷ 98 ∷ 99 ∷ 100 ∷ []))) ∷ []);
}

buffer_field_over_kinds_encoded : written_whole W64 fields buffer_field_over_kinds ≡ buffer_field_over_kinds_table
buffer_field_over_kinds_encoded = refl

buffer_field_over_kinds_right : name_errors buffer_field_over_kinds ++ type_errors buffer_field_over_kinds ≡ []
buffer_field_over_kinds_right = refl

buffer_field_over_kinds_by_source : of_source W64 buffer_field_over_kinds buffer_field_over_kinds_asked ≡ buffer_field_over_kinds_told
buffer_field_over_kinds_by_source = refl

buffer_field_over_kinds_by_bytes : of_bytes buffer_field_over_kinds_table buffer_field_over_kinds_asked ≡ buffer_field_over_kinds_told
unfolding code_front
buffer_field_over_kinds_by_bytes = refl

-- buffer field after change
-- Name (B, Buffer (4) {1,2,3,4}) CreateDWordField (B, 0, F) Method (M) { CopyObject (Buffer (2) {}, B) Return (F) } Method (N) { F = 1 }
-- Method (O) { CopyObject ("abcdef", B) Return (F) } Method (Q) { CopyObject (Buffer (5) {9}, B) F = 0x01020304 Return (B) }
abbrev buffer_field_after_change : Trees
buffer_field_after_change = (terms ((Name at (one "B___") (Buffer (Integer 4) (1 ∷ 2 ∷ 3 ∷ 4 ∷ []))) ∷ (CreateField OneDWord (terms ((Use at (one "B___")) ∷ (Integer 0) ∷ [])) at (one "F___")) ∷ (Method at (one "M___") 0 (terms ((Apply (Plain.Data DataOp.CopyObject) (terms ((Buffer (Integer 2) ([])) ∷ (Use at (one "B___")) ∷ [])) no_trees) ∷ (Return (Use at (one "F___"))) ∷ []))) ∷ (Method at (one "N___") 0 (terms ((Assigned (Use at (one "F___")) (Integer 1)) ∷ []))) ∷ (Method at (one "O___") 0 (terms ((Apply (Plain.Data DataOp.CopyObject) (terms ((String (codes "abcdef")) ∷ (Use at (one "B___")) ∷ [])) no_trees) ∷ (Return (Use at (one "F___"))) ∷ []))) ∷ (Method at (one "Q___") 0 (terms ((Apply (Plain.Data DataOp.CopyObject) (terms ((Buffer (Integer 5) (9 ∷ [])) ∷ (Use at (one "B___")) ∷ [])) no_trees) ∷ (Assigned (Use at (one "F___")) (Integer 0x1020304)) ∷ (Return (Use at (one "B___"))) ∷ []))) ∷ []))

abbrev buffer_field_after_change_table : List ℕ
buffer_field_after_change_table =
    table_bytes fields (hex "08 42 5F 5F 5F 11 07 0A 04 01 02 03 04 8A 42 5F 5F 5F 00 46 5F 5F 5F 14 14 4D 5F 5F 5F 00 9D 11 03 0A 02 42 5F 5F 5F A4"
    ++ hex "46 5F 5F 5F 14 0C 4E 5F 5F 5F 00 70 01 46 5F 5F 5F 14 18 4F 5F 5F 5F 00 9D 0D 61 62 63 64 65 66 00 42 5F 5F 5F A4 46 5F"
    ++ hex "5F 5F 14 1F 51 5F 5F 5F 00 9D 11 04 0A 05 09 42 5F 5F 5F 70 0C 04 03 02 01 46 5F 5F 5F A4 42 5F 5F 5F")

abbrev buffer_field_after_change_asked : Asked
buffer_field_after_change_asked = record {
  there = present_ones (externals buffer_field_after_change) ([]);
  bound = 8;
  answers = ([]);
  calls = (call (codes "M___" ∷ []) ([]) ∷ call (codes "N___" ∷ []) ([]) ∷ call (codes "O___" ∷ []) ([]) ∷ call (codes "N___" ∷ []) ([]) ∷ call (codes "Q___" ∷ []) ([]) ∷ []);
  paths = ((codes "B___" ∷ []) ∷ []);
}

abbrev buffer_field_after_change_told : Told
buffer_field_after_change_told = record {
  results = ((Done (Normal false)) ∷ (faults Fault.OutOfRange) ∷ (faults Fault.OutOfRange) ∷ (faults Fault.WrongType) ∷ (faults Fault.WrongType) ∷ (gives (Data (V.Buffer (4 ∷ 3 ∷ 2 ∷ 1 ∷ 0 ∷ [])))) ∷ []);
  events = ([]);
  left = ([]);
  values = (Some (Data (V.Buffer (4 ∷ 3 ∷ 2 ∷ 1 ∷ 0 ∷ []))) ∷ []);
}

buffer_field_after_change_encoded : written_whole W64 fields buffer_field_after_change ≡ buffer_field_after_change_table
buffer_field_after_change_encoded = refl

buffer_field_after_change_right : name_errors buffer_field_after_change ++ type_errors buffer_field_after_change ≡ []
buffer_field_after_change_right = refl

buffer_field_after_change_by_source : of_source W64 buffer_field_after_change buffer_field_after_change_asked ≡ buffer_field_after_change_told
buffer_field_after_change_by_source = refl

buffer_field_after_change_by_bytes : of_bytes buffer_field_after_change_table buffer_field_after_change_asked ≡ buffer_field_after_change_told
unfolding code_front
buffer_field_after_change_by_bytes = refl

-- buffer field order of operands
-- Name (B, Buffer (4) {1,2,3,4}) Method (M) { CreateField (B, Timer, Timer, F) Return (F) } Method (N) { CreateField (5, Timer, "", F) }
-- Method (O) { CreateField (5, Buffer () {}, Timer, F) }
abbrev buffer_field_order_of_operands : Trees
buffer_field_order_of_operands = (terms ((Name at (one "B___") (Buffer (Integer 4) (1 ∷ 2 ∷ 3 ∷ 4 ∷ []))) ∷ (Method at (one "M___") 0 (terms ((CreateField SomeBits (terms ((Use at (one "B___")) ∷ (Apply (Plain.Event EventOp.Timer) no_trees no_trees) ∷ (Apply (Plain.Event EventOp.Timer) no_trees no_trees) ∷ [])) at (one "F___")) ∷ (Return (Use at (one "F___"))) ∷ []))) ∷ (Method at (one "N___") 0 (terms ((CreateField SomeBits (terms ((Integer 5) ∷ (Apply (Plain.Event EventOp.Timer) no_trees no_trees) ∷ (String (codes "")) ∷ [])) at (one "F___")) ∷ []))) ∷ (Method at (one "O___") 0 (terms ((CreateField SomeBits (terms ((Integer 5) ∷ (Buffer (Integer 0) ([])) ∷ (Apply (Plain.Event EventOp.Timer) no_trees no_trees) ∷ [])) at (one "F___")) ∷ []))) ∷ []))

abbrev buffer_field_order_of_operands_table : List ℕ
buffer_field_order_of_operands_table =
    table_bytes fields (hex "08 42 5F 5F 5F 11 07 0A 04 01 02 03 04 14 19 4D 5F 5F 5F 00 5B 13 42 5F 5F 5F 5B 33 5B 33 46 5F 5F 5F A4 46 5F 5F 5F 14"
    ++ hex "12 4E 5F 5F 5F 00 5B 13 0A 05 5B 33 0D 00 46 5F 5F 5F 14 13 4F 5F 5F 5F 00 5B 13 0A 05 11 02 00 5B 33 46 5F 5F 5F")

abbrev buffer_field_order_of_operands_asked : Asked
buffer_field_order_of_operands_asked = record {
  there = present_ones (externals buffer_field_order_of_operands) ([]);
  bound = 8;
  answers = ((number 4) ∷ (number 12) ∷ (number 7) ∷ (number 8) ∷ []);
  calls = (call (codes "M___" ∷ []) ([]) ∷ call (codes "N___" ∷ []) ([]) ∷ call (codes "O___" ∷ []) ([]) ∷ []);
  paths = ((codes "B___" ∷ []) ∷ []);
}

abbrev buffer_field_order_of_operands_told : Told
buffer_field_order_of_operands_told = record {
  results = ((Done (Normal false)) ∷ (gives (number 32)) ∷ (faults Fault.WrongType) ∷ (faults Fault.EmptyValue) ∷ []);
  events = (E.Timer ∷ E.Timer ∷ E.Timer ∷ E.Timer ∷ []);
  left = ([]);
  values = (Some (Data (V.Buffer (1 ∷ 2 ∷ 3 ∷ 4 ∷ []))) ∷ []);
}

buffer_field_order_of_operands_encoded : written_whole W64 fields buffer_field_order_of_operands ≡ buffer_field_order_of_operands_table
buffer_field_order_of_operands_encoded = refl

buffer_field_order_of_operands_right : name_errors buffer_field_order_of_operands ++ type_errors buffer_field_order_of_operands ≡ []
buffer_field_order_of_operands_right = refl

buffer_field_order_of_operands_by_source : of_source W64 buffer_field_order_of_operands buffer_field_order_of_operands_asked ≡ buffer_field_order_of_operands_told
buffer_field_order_of_operands_by_source = refl

buffer_field_order_of_operands_by_bytes : of_bytes buffer_field_order_of_operands_table buffer_field_order_of_operands_asked ≡ buffer_field_order_of_operands_told
unfolding code_front
buffer_field_order_of_operands_by_bytes = refl
