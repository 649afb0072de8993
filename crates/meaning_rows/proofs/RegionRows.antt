-- Sessions over plain fields, index and bank fields: accesses, update rules, and their limits. Another implementation gives the values.
use Rattle.std.proofs.Common.{◌≡◌, ℕ, false, List, [], ◌∷◌, ◌++◌, Some, None, refl}
use Rattle.std.specs.Prelude.{codes}
use Rattle.acpi_values.specs.declared.width.Width.TheVariants.{W32, W64}
use Rattle.acpi_values.specs.declared.fault.Fault.TheVariants as Fault
use Rattle.acpi_values.specs.declared.operator.EventOp.TheVariants as EventOp
use Rattle.acpi_values.specs.declared.operator.Plain.TheVariants as Plain
use Rattle.acpi_values.specs.Values as V
use Rattle.acpi_values.specs.Values.{Value, Data, no_elements, uninitialized, element, Named, LocalOf, ArgOf, ElementAt, ElementOf}
use Rattle.acpi_state.specs.Objects as E
use Rattle.acpi_state.specs.Objects.{Device, ThermalZone, PowerResource, Processor}
use Rattle.acpi_state.specs.Outcomes.{Normal, NoValue, Done}
use Rattle.acpi_state.specs.Sessions.{present_ones}
use Rattle.asl_tree.specs.FieldItems.{SkipItem, OffsetItem, AccessItem}
use Rattle.asl_tree.specs.Tree.{Integer, String, Debug as DebugTerm, Raw, Use, Apply, Assigned}
use Rattle.asl_tree.specs.Tree.{Buffer, Return, Name, External, Method, Mutex}
use Rattle.asl_tree.specs.Tree.{OperationRegion, Field, IndexField, BankField, Trees, no_trees}
use Rattle.asl_meaning.specs.Declarations.{externals}
use Rattle.aml_meaning.specs.Codes.{code_front}
use Rattle.aml_code.specs.Header.{table_bytes}
use Rattle.acpi_names.specs.Errors.{name_errors, type_errors}
use Rattle.meaning_rows.proofs.Rows.{at, fields, narrow_fields}
use Rattle.meaning_rows.proofs.Outside.{hex, number, call, Asked, Told, gives, faults, of_bytes, of_source, written_whole, terms, one, unit}

-- accessas in plain field
-- OperationRegion (R, SystemMemory, 0x1000, 16) Field (R, ByteAcc, NoLock, WriteAsZeros) { A, 4, AccessAs (DWordAcc), B1, 4, AccessAs
-- (QWordAcc, 3), C, 8, AccessAs (WordAcc), D, 20, AccessAs (AnyAcc), E, 4 } Method (M) { A = 15 B1 = 15 C = 0xFF D = 0xFFFFF E = 15 Debug
-- = A Debug = B1 Debug = C Debug = D Debug = E }
abbrev accessas_in_plain_field : Trees
accessas_in_plain_field = (terms ((OperationRegion at (one "R___") 0 (terms ((Integer 0x1000) ∷ (Integer 16) ∷ []))) ∷ (Field at at (one "R___") 65 ((unit "A___" 4) ∷ (AccessItem 3 0 None) ∷ (unit "B1__" 4) ∷ (AccessItem 4 3 None) ∷ (unit "C___" 8) ∷ (AccessItem 2 0 None) ∷ (unit "D___" 20) ∷ (AccessItem 0 0 None) ∷ (unit "E___" 4) ∷ [])) ∷ (Method at (one "M___") 0 (terms ((Assigned (Use at (one "A___")) (Integer 15)) ∷ (Assigned (Use at (one "B1__")) (Integer 15)) ∷ (Assigned (Use at (one "C___")) (Integer 255)) ∷ (Assigned (Use at (one "D___")) (Integer 0xFFFFF)) ∷ (Assigned (Use at (one "E___")) (Integer 15)) ∷ (Assigned DebugTerm (Use at (one "A___"))) ∷ (Assigned DebugTerm (Use at (one "B1__"))) ∷ (Assigned DebugTerm (Use at (one "C___"))) ∷ (Assigned DebugTerm (Use at (one "D___"))) ∷ (Assigned DebugTerm (Use at (one "E___"))) ∷ []))) ∷ []))

abbrev accessas_in_plain_field_table : List ℕ
accessas_in_plain_field_table =
    table_bytes fields (hex "5B 80 52 5F 5F 5F 00 0B 00 10 0A 10 5B 81 2B 52 5F 5F 5F 41 41 5F 5F 5F 04 01 03 00 42 31 5F 5F 04 01 04 03 43 5F 5F 5F"
    ++ hex "08 01 02 00 44 5F 5F 5F 14 01 00 00 45 5F 5F 5F 04 14 40 05 4D 5F 5F 5F 00 70 0A 0F 41 5F 5F 5F 70 0A 0F 42 31 5F 5F 70"
    ++ hex "0A FF 43 5F 5F 5F 70 0C FF FF 0F 00 44 5F 5F 5F 70 0A 0F 45 5F 5F 5F 70 41 5F 5F 5F 5B 31 70 42 31 5F 5F 5B 31 70 43 5F"
    ++ hex "5F 5F 5B 31 70 44 5F 5F 5F 5B 31 70 45 5F 5F 5F 5B 31")

abbrev accessas_in_plain_field_asked : Asked
accessas_in_plain_field_asked = record {
  there = present_ones (externals accessas_in_plain_field) ([]);
  bound = 8;
  answers = ((number 255) ∷ (number 0xFFFFFFFF) ∷ (number 0xFFFFFFFFFFFFFFFF) ∷ (number 0xFFFF) ∷ (number 0xFFFF) ∷ (number 0xFFFF) ∷ (number 255) ∷ []);
  calls = (call (codes "M___" ∷ []) ([]) ∷ []);
  paths = ([]);
}

abbrev accessas_in_plain_field_told : Told
accessas_in_plain_field_told = record {
  results = ((Done (Normal false)) ∷ (Done NoValue) ∷ []);
  events = ((E.Write (codes "R___" ∷ []) 0 0x1000 1 15) ∷ (E.Write (codes "R___" ∷ []) 0 0x1000 4 240) ∷ (E.Write (codes "R___" ∷ []) 0 0x1000 8 0xFF00) ∷ (E.Write (codes "R___" ∷ []) 0 0x1002 2 0xFFFF) ∷ (E.Write (codes "R___" ∷ []) 0 0x1004 2 15) ∷ (E.Write (codes "R___" ∷ []) 0 0x1004 1 240) ∷ (E.Read (codes "R___" ∷ []) 0 0x1000 1) ∷ (E.Debug (number 15)) ∷ (E.Read (codes "R___" ∷ []) 0 0x1000 4) ∷ (E.Debug (number 15)) ∷ (E.Read (codes "R___" ∷ []) 0 0x1000 8) ∷ (E.Debug (number 255)) ∷ (E.Read (codes "R___" ∷ []) 0 0x1002 2) ∷ (E.Read (codes "R___" ∷ []) 0 0x1004 2) ∷ (E.Debug (number 0xFFFFF)) ∷ (E.Read (codes "R___" ∷ []) 0 0x1004 1) ∷ (E.Debug (number 15)) ∷ []);
  left = ((number 255) ∷ []);
  values = ([]);
}

accessas_in_plain_field_encoded : written_whole W64 fields accessas_in_plain_field ≡ accessas_in_plain_field_table
accessas_in_plain_field_encoded = refl

accessas_in_plain_field_right : name_errors accessas_in_plain_field ++ type_errors accessas_in_plain_field ≡ []
accessas_in_plain_field_right = refl

accessas_in_plain_field_by_source : of_source W64 accessas_in_plain_field accessas_in_plain_field_asked ≡ accessas_in_plain_field_told
accessas_in_plain_field_by_source = refl

accessas_in_plain_field_by_bytes : of_bytes accessas_in_plain_field_table accessas_in_plain_field_asked ≡ accessas_in_plain_field_told
unfolding code_front
accessas_in_plain_field_by_bytes = refl

-- accessas past the region
-- OperationRegion (R, SystemMemory, 0, 3) Field (R, ByteAcc, NoLock, Preserve) { A, 8, AccessAs (DWordAcc), B1,8 } Method (M) { Return
-- (B1) } Method (N) { Return (A) } Method (O) { B1 = 1 }
abbrev accessas_past_the_region : Trees
accessas_past_the_region = (terms ((OperationRegion at (one "R___") 0 (terms ((Integer 0) ∷ (Integer 3) ∷ []))) ∷ (Field at at (one "R___") 1 ((unit "A___" 8) ∷ (AccessItem 3 0 None) ∷ (unit "B1__" 8) ∷ [])) ∷ (Method at (one "M___") 0 (terms ((Return (Use at (one "B1__"))) ∷ []))) ∷ (Method at (one "N___") 0 (terms ((Return (Use at (one "A___"))) ∷ []))) ∷ (Method at (one "O___") 0 (terms ((Assigned (Use at (one "B1__")) (Integer 1)) ∷ []))) ∷ []))

abbrev accessas_past_the_region_table : List ℕ
accessas_past_the_region_table =
    table_bytes fields (hex "5B 80 52 5F 5F 5F 00 00 0A 03 5B 81 13 52 5F 5F 5F 01 41 5F 5F 5F 08 01 03 00 42 31 5F 5F 08 14 0B 4D 5F 5F 5F 00 A4 42"
    ++ hex "31 5F 5F 14 0B 4E 5F 5F 5F 00 A4 41 5F 5F 5F 14 0C 4F 5F 5F 5F 00 70 01 42 31 5F 5F")

abbrev accessas_past_the_region_asked : Asked
accessas_past_the_region_asked = record {
  there = present_ones (externals accessas_past_the_region) ([]);
  bound = 8;
  answers = ((number 1) ∷ (number 2) ∷ []);
  calls = (call (codes "M___" ∷ []) ([]) ∷ call (codes "N___" ∷ []) ([]) ∷ call (codes "O___" ∷ []) ([]) ∷ []);
  paths = ([]);
}

abbrev accessas_past_the_region_told : Told
accessas_past_the_region_told = record {
  results = ((Done (Normal false)) ∷ (faults Fault.Limit) ∷ (gives (number 1)) ∷ (faults Fault.Limit) ∷ []);
  events = ((E.Read (codes "R___" ∷ []) 0 0 1) ∷ []);
  left = ((number 2) ∷ []);
  values = ([]);
}

accessas_past_the_region_encoded : written_whole W64 fields accessas_past_the_region ≡ accessas_past_the_region_table
accessas_past_the_region_encoded = refl

accessas_past_the_region_right : name_errors accessas_past_the_region ++ type_errors accessas_past_the_region ≡ []
accessas_past_the_region_right = refl

accessas_past_the_region_by_source : of_source W64 accessas_past_the_region accessas_past_the_region_asked ≡ accessas_past_the_region_told
accessas_past_the_region_by_source = refl

accessas_past_the_region_by_bytes : of_bytes accessas_past_the_region_table accessas_past_the_region_asked ≡ accessas_past_the_region_told
unfolding code_front
accessas_past_the_region_by_bytes = refl

-- index field with accessas
-- OperationRegion (R, SystemIO, 0, 8) Field (R, ByteAcc, NoLock, Preserve) { IX, 8, DT, 16 } IndexField (IX, DT, ByteAcc, NoLock,
-- WriteAsOnes) { A, 4, AccessAs (WordAcc), B1, 12, C, 12 } Method (M) { A = 0 B1 = 0 C = 0 Debug = B1 Debug = C }
abbrev index_field_with_accessas : Trees
index_field_with_accessas = (terms ((OperationRegion at (one "R___") 1 (terms ((Integer 0) ∷ (Integer 8) ∷ []))) ∷ (Field at at (one "R___") 1 ((unit "IX__" 8) ∷ (unit "DT__" 16) ∷ [])) ∷ (IndexField at at (one "IX__") at (one "DT__") 33 ((unit "A___" 4) ∷ (AccessItem 2 0 None) ∷ (unit "B1__" 12) ∷ (unit "C___" 12) ∷ [])) ∷ (Method at (one "M___") 0 (terms ((Assigned (Use at (one "A___")) (Integer 0)) ∷ (Assigned (Use at (one "B1__")) (Integer 0)) ∷ (Assigned (Use at (one "C___")) (Integer 0)) ∷ (Assigned DebugTerm (Use at (one "B1__"))) ∷ (Assigned DebugTerm (Use at (one "C___"))) ∷ []))) ∷ []))

abbrev index_field_with_accessas_table : List ℕ
index_field_with_accessas_table =
    table_bytes fields (hex "5B 80 52 5F 5F 5F 01 00 0A 08 5B 81 10 52 5F 5F 5F 01 49 58 5F 5F 08 44 54 5F 5F 10 5B 86 1C 49 58 5F 5F 44 54 5F 5F 21"
    ++ hex "41 5F 5F 5F 04 01 02 00 42 31 5F 5F 0C 43 5F 5F 5F 0C 14 26 4D 5F 5F 5F 00 70 00 41 5F 5F 5F 70 00 42 31 5F 5F 70 00 43"
    ++ hex "5F 5F 5F 70 42 31 5F 5F 5B 31 70 43 5F 5F 5F 5B 31")

abbrev index_field_with_accessas_asked : Asked
index_field_with_accessas_asked = record {
  there = present_ones (externals index_field_with_accessas) ([]);
  bound = 8;
  answers = ((number 1) ∷ (number 2) ∷ (number 3) ∷ (number 4) ∷ (number 5) ∷ (number 6) ∷ (number 7) ∷ (number 8) ∷ (number 9) ∷ (number 10) ∷ (number 11) ∷ (number 12) ∷ (number 13) ∷ (number 14) ∷ (number 15) ∷ (number 16) ∷ (number 17) ∷ (number 18) ∷ (number 19) ∷ (number 20) ∷ (number 21) ∷ (number 22) ∷ (number 23) ∷ (number 24) ∷ (number 25) ∷ (number 26) ∷ (number 27) ∷ (number 28) ∷ (number 29) ∷ []);
  calls = (call (codes "M___" ∷ []) ([]) ∷ []);
  paths = ([]);
}

abbrev index_field_with_accessas_told : Told
index_field_with_accessas_told = record {
  results = ((Done (Normal false)) ∷ (Done NoValue) ∷ []);
  events = ((E.Write (codes "R___" ∷ []) 1 0 1 0) ∷ (E.Write (codes "R___" ∷ []) 1 1 1 240) ∷ (E.Write (codes "R___" ∷ []) 1 2 1 0) ∷ (E.Write (codes "R___" ∷ []) 1 0 1 0) ∷ (E.Write (codes "R___" ∷ []) 1 1 1 15) ∷ (E.Write (codes "R___" ∷ []) 1 2 1 0) ∷ (E.Write (codes "R___" ∷ []) 1 0 1 2) ∷ (E.Write (codes "R___" ∷ []) 1 1 1 0) ∷ (E.Write (codes "R___" ∷ []) 1 2 1 240) ∷ (E.Write (codes "R___" ∷ []) 1 0 1 0) ∷ (E.Read (codes "R___" ∷ []) 1 1 1) ∷ (E.Read (codes "R___" ∷ []) 1 2 1) ∷ (E.Debug (number 32)) ∷ (E.Write (codes "R___" ∷ []) 1 0 1 2) ∷ (E.Read (codes "R___" ∷ []) 1 1 1) ∷ (E.Read (codes "R___" ∷ []) 1 2 1) ∷ (E.Debug (number 0x403)) ∷ []);
  left = ((number 5) ∷ (number 6) ∷ (number 7) ∷ (number 8) ∷ (number 9) ∷ (number 10) ∷ (number 11) ∷ (number 12) ∷ (number 13) ∷ (number 14) ∷ (number 15) ∷ (number 16) ∷ (number 17) ∷ (number 18) ∷ (number 19) ∷ (number 20) ∷ (number 21) ∷ (number 22) ∷ (number 23) ∷ (number 24) ∷ (number 25) ∷ (number 26) ∷ (number 27) ∷ (number 28) ∷ (number 29) ∷ []);
  values = ([]);
}

index_field_with_accessas_encoded : written_whole W64 fields index_field_with_accessas ≡ index_field_with_accessas_table
index_field_with_accessas_encoded = refl

index_field_with_accessas_right : name_errors index_field_with_accessas ++ type_errors index_field_with_accessas ≡ []
index_field_with_accessas_right = refl

index_field_with_accessas_by_source : of_source W64 index_field_with_accessas index_field_with_accessas_asked ≡ index_field_with_accessas_told
index_field_with_accessas_by_source = refl

index_field_with_accessas_by_bytes : of_bytes index_field_with_accessas_table index_field_with_accessas_asked ≡ index_field_with_accessas_told
unfolding code_front
index_field_with_accessas_by_bytes = refl

-- field WordAcc WriteAsOnes
-- OperationRegion (R, PCI_Config, 4, 32) Field (R, WordAcc, NoLock, WriteAsOnes) { , 5, A, 6, B1, 13, C, 40, D, 64, E, 72 } Method (M) { A
-- = 0x2A B1 = 0x1555 C = 0xA5A5A5A5A5 D = 0x0123456789ABCDEF E = Buffer () {1,2,3,4,5,6,7,8,9} } Method (N) { Debug = A Debug = B1 Debug =
-- C Debug = D Debug = E }
abbrev field_wordacc_writeasones : Trees
field_wordacc_writeasones = (terms ((OperationRegion at (one "R___") 2 (terms ((Integer 4) ∷ (Integer 32) ∷ []))) ∷ (Field at at (one "R___") 34 ((SkipItem 5) ∷ (unit "A___" 6) ∷ (unit "B1__" 13) ∷ (unit "C___" 40) ∷ (unit "D___" 64) ∷ (unit "E___" 72) ∷ [])) ∷ (Method at (one "M___") 0 (terms ((Assigned (Use at (one "A___")) (Integer 42)) ∷ (Assigned (Use at (one "B1__")) (Integer 0x1555)) ∷ (Assigned (Use at (one "C___")) (Integer 0xA5A5A5A5A5)) ∷ (Assigned (Use at (one "D___")) (Integer 0x123456789ABCDEF)) ∷ (Assigned (Use at (one "E___")) (Buffer (Integer 9) (1 ∷ 2 ∷ 3 ∷ 4 ∷ 5 ∷ 6 ∷ 7 ∷ 8 ∷ 9 ∷ []))) ∷ []))) ∷ (Method at (one "N___") 0 (terms ((Assigned DebugTerm (Use at (one "A___"))) ∷ (Assigned DebugTerm (Use at (one "B1__"))) ∷ (Assigned DebugTerm (Use at (one "C___"))) ∷ (Assigned DebugTerm (Use at (one "D___"))) ∷ (Assigned DebugTerm (Use at (one "E___"))) ∷ []))) ∷ []))

abbrev field_wordacc_writeasones_table : List ℕ
field_wordacc_writeasones_table =
    table_bytes fields (hex "5B 80 52 5F 5F 5F 02 0A 04 0A 20 5B 81 23 52 5F 5F 5F 22 00 05 41 5F 5F 5F 06 42 31 5F 5F 0D 43 5F 5F 5F 28 44 5F 5F 5F"
    ++ hex "40 04 45 5F 5F 5F 48 04 14 44 04 4D 5F 5F 5F 00 70 0A 2A 41 5F 5F 5F 70 0B 55 15 42 31 5F 5F 70 0E A5 A5 A5 A5 A5 00 00"
    ++ hex "00 43 5F 5F 5F 70 0E EF CD AB 89 67 45 23 01 44 5F 5F 5F 70 11 0C 0A 09 01 02 03 04 05 06 07 08 09 45 5F 5F 5F 14 29 4E"
    ++ hex "5F 5F 5F 00 70 41 5F 5F 5F 5B 31 70 42 31 5F 5F 5B 31 70 43 5F 5F 5F 5B 31 70 44 5F 5F 5F 5B 31 70 45 5F 5F 5F 5B 31")

abbrev field_wordacc_writeasones_asked : Asked
field_wordacc_writeasones_asked = record {
  there = present_ones (externals field_wordacc_writeasones) ([]);
  bound = 8;
  answers = ((number 0x1122334455667788) ∷ (number 0x22446688AACCEF10) ∷ (number 0x336699CD00336698) ∷ (number 0x4488CD115599DE20) ∷ (number 0x55AB0055AB0055A8) ∷ (number 0x66CD339A0066CD30) ∷ (number 0x77EF66DE55CD44B8) ∷ (number 0x89119A22AB33BC40) ∷ (number 0x9A33CD67009A33C8) ∷ (number 0xAB5600AB5600AB50) ∷ (number 0xBC7833EFAB6722D8) ∷ (number 0xCD9A673400CD9A60) ∷ (number 0xDEBC9A78563411E8) ∷ (number 0xEFDECDBCAB9A8970) ∷ (number 0x1010101010100F8) ∷ (number 0x1223344556677880) ∷ (number 0x23456789ABCDF008) ∷ (number 0x34679ACE01346790) ∷ (number 0x4589CE12569ADF18) ∷ (number 0x56AC0156AC0156A0) ∷ (number 0x67CE349B0167CE28) ∷ (number 0x78F067DF56CE45B0) ∷ (number 0x8A129B23AC34BD38) ∷ (number 0x9B34CE68019B34C0) ∷ (number 0xAC5701AC5701AC48) ∷ (number 0xBD7934F0AC6823D0) ∷ (number 0xCE9B683501CE9B58) ∷ (number 0xDFBD9B79573512E0) ∷ (number 0xF0DFCEBDAC9B8A68) ∷ (number 0x2020202020201F0) ∷ (number 0x1324354657687978) ∷ (number 0x2446688AACCEF100) ∷ (number 0x35689BCF02356888) ∷ (number 0x468ACF13579BE010) ∷ (number 0x57AD0257AD025798) ∷ (number 0x68CF359C0268CF20) ∷ (number 0x79F168E057CF46A8) ∷ (number 0x8B139C24AD35BE30) ∷ (number 0x9C35CF69029C35B8) ∷ (number 0xAD5802AD5802AD40) ∷ (number 0xBE7A35F1AD6924C8) ∷ (number 0xCF9C693602CF9C50) ∷ (number 0xE0BE9C7A583613D8) ∷ (number 0xF1E0CFBEAD9C8B60) ∷ (number 0x3030303030302E8) ∷ (number 0x1425364758697A70) ∷ (number 0x2547698BADCFF1F8) ∷ (number 0x36699CD003366980) ∷ (number 0x478BD014589CE108) ∷ (number 0x58AE0358AE035890) ∷ (number 0x69D0369D0369D018) ∷ (number 0x7AF269E158D047A0) ∷ (number 0x8C149D25AE36BF28) ∷ (number 0x9D36D06A039D36B0) ∷ (number 0xAE5903AE5903AE38) ∷ (number 0xBF7B36F2AE6A25C0) ∷ (number 0xD09D6A3703D09D48) ∷ (number 0xE1BF9D7B593714D0) ∷ (number 0xF2E1D0BFAE9D8C58) ∷ (number 0x4040404040403E0) ∷ (number 0x15263748596A7B68) ∷ (number 0x26486A8CAED0F2F0) ∷ (number 0x376A9DD104376A78) ∷ (number 0x488CD115599DE200) ∷ (number 0x59AF0459AF045988) ∷ (number 0x6AD1379E046AD110) ∷ (number 0x7BF36AE259D14898) ∷ (number 0x8D159E26AF37C020) ∷ (number 0x9E37D16B049E37A8) ∷ (number 0xAF5A04AF5A04AF30) ∷ (number 0xC07C37F3AF6B26B8) ∷ (number 0xD19E6B3804D19E40) ∷ (number 0xE2C09E7C5A3815C8) ∷ (number 0xF3E2D1C0AF9E8D50) ∷ (number 0x5050505050504D8) ∷ (number 0x162738495A6B7C60) ∷ (number 0x27496B8DAFD1F3E8) ∷ (number 0x386B9ED205386B70) ∷ (number 0x498DD2165A9EE2F8) ∷ (number 0x5AB0055AB0055A80) ∷ (number 0x6BD2389F056BD208) ∷ (number 0x7CF46BE35AD24990) ∷ (number 0x8E169F27B038C118) ∷ (number 0x9F38D26C059F38A0) ∷ (number 0xB05B05B05B05B028) ∷ (number 0xC17D38F4B06C27B0) ∷ (number 0xD29F6C3905D29F38) ∷ (number 0xE3C19F7D5B3916C0) ∷ (number 0xF4E3D2C1B09F8E48) ∷ []);
  calls = (call (codes "M___" ∷ []) ([]) ∷ call (codes "N___" ∷ []) ([]) ∷ []);
  paths = ([]);
}

abbrev field_wordacc_writeasones_told : Told
field_wordacc_writeasones_told = record {
  results = ((Done (Normal false)) ∷ (Done NoValue) ∷ (Done NoValue) ∷ []);
  events = ((E.Write (codes "R___" ∷ []) 2 4 2 0xFD5F) ∷ (E.Write (codes "R___" ∷ []) 2 4 2 0xAFFF) ∷ (E.Write (codes "R___" ∷ []) 2 6 2 0xFFAA) ∷ (E.Write (codes "R___" ∷ []) 2 6 2 0xA5FF) ∷ (E.Write (codes "R___" ∷ []) 2 8 2 0xA5A5) ∷ (E.Write (codes "R___" ∷ []) 2 10 2 0xA5A5) ∷ (E.Write (codes "R___" ∷ []) 2 12 2 0xCDEF) ∷ (E.Write (codes "R___" ∷ []) 2 14 2 0x89AB) ∷ (E.Write (codes "R___" ∷ []) 2 16 2 0x4567) ∷ (E.Write (codes "R___" ∷ []) 2 18 2 0x123) ∷ (E.Write (codes "R___" ∷ []) 2 20 2 0x201) ∷ (E.Write (codes "R___" ∷ []) 2 22 2 0x403) ∷ (E.Write (codes "R___" ∷ []) 2 24 2 0x605) ∷ (E.Write (codes "R___" ∷ []) 2 26 2 0x807) ∷ (E.Write (codes "R___" ∷ []) 2 28 2 0xFF09) ∷ (E.Read (codes "R___" ∷ []) 2 4 2) ∷ (E.Debug (number 60)) ∷ (E.Read (codes "R___" ∷ []) 2 4 2) ∷ (E.Read (codes "R___" ∷ []) 2 6 2) ∷ (E.Debug (number 0x131D)) ∷ (E.Read (codes "R___" ∷ []) 2 6 2) ∷ (E.Read (codes "R___" ∷ []) 2 8 2) ∷ (E.Read (codes "R___" ∷ []) 2 10 2) ∷ (E.Debug (number 0xCD3055A8DE)) ∷ (E.Read (codes "R___" ∷ []) 2 12 2) ∷ (E.Read (codes "R___" ∷ []) 2 14 2) ∷ (E.Read (codes "R___" ∷ []) 2 16 2) ∷ (E.Read (codes "R___" ∷ []) 2 18 2) ∷ (E.Debug (number 0xAB5033C8BC4044B8)) ∷ (E.Read (codes "R___" ∷ []) 2 20 2) ∷ (E.Read (codes "R___" ∷ []) 2 22 2) ∷ (E.Read (codes "R___" ∷ []) 2 24 2) ∷ (E.Read (codes "R___" ∷ []) 2 26 2) ∷ (E.Read (codes "R___" ∷ []) 2 28 2) ∷ (E.Debug (Data (V.Buffer (216 ∷ 34 ∷ 96 ∷ 154 ∷ 232 ∷ 17 ∷ 112 ∷ 137 ∷ 248 ∷ [])))) ∷ []);
  left = ((number 0x1223344556677880) ∷ (number 0x23456789ABCDF008) ∷ (number 0x34679ACE01346790) ∷ (number 0x4589CE12569ADF18) ∷ (number 0x56AC0156AC0156A0) ∷ (number 0x67CE349B0167CE28) ∷ (number 0x78F067DF56CE45B0) ∷ (number 0x8A129B23AC34BD38) ∷ (number 0x9B34CE68019B34C0) ∷ (number 0xAC5701AC5701AC48) ∷ (number 0xBD7934F0AC6823D0) ∷ (number 0xCE9B683501CE9B58) ∷ (number 0xDFBD9B79573512E0) ∷ (number 0xF0DFCEBDAC9B8A68) ∷ (number 0x2020202020201F0) ∷ (number 0x1324354657687978) ∷ (number 0x2446688AACCEF100) ∷ (number 0x35689BCF02356888) ∷ (number 0x468ACF13579BE010) ∷ (number 0x57AD0257AD025798) ∷ (number 0x68CF359C0268CF20) ∷ (number 0x79F168E057CF46A8) ∷ (number 0x8B139C24AD35BE30) ∷ (number 0x9C35CF69029C35B8) ∷ (number 0xAD5802AD5802AD40) ∷ (number 0xBE7A35F1AD6924C8) ∷ (number 0xCF9C693602CF9C50) ∷ (number 0xE0BE9C7A583613D8) ∷ (number 0xF1E0CFBEAD9C8B60) ∷ (number 0x3030303030302E8) ∷ (number 0x1425364758697A70) ∷ (number 0x2547698BADCFF1F8) ∷ (number 0x36699CD003366980) ∷ (number 0x478BD014589CE108) ∷ (number 0x58AE0358AE035890) ∷ (number 0x69D0369D0369D018) ∷ (number 0x7AF269E158D047A0) ∷ (number 0x8C149D25AE36BF28) ∷ (number 0x9D36D06A039D36B0) ∷ (number 0xAE5903AE5903AE38) ∷ (number 0xBF7B36F2AE6A25C0) ∷ (number 0xD09D6A3703D09D48) ∷ (number 0xE1BF9D7B593714D0) ∷ (number 0xF2E1D0BFAE9D8C58) ∷ (number 0x4040404040403E0) ∷ (number 0x15263748596A7B68) ∷ (number 0x26486A8CAED0F2F0) ∷ (number 0x376A9DD104376A78) ∷ (number 0x488CD115599DE200) ∷ (number 0x59AF0459AF045988) ∷ (number 0x6AD1379E046AD110) ∷ (number 0x7BF36AE259D14898) ∷ (number 0x8D159E26AF37C020) ∷ (number 0x9E37D16B049E37A8) ∷ (number 0xAF5A04AF5A04AF30) ∷ (number 0xC07C37F3AF6B26B8) ∷ (number 0xD19E6B3804D19E40) ∷ (number 0xE2C09E7C5A3815C8) ∷ (number 0xF3E2D1C0AF9E8D50) ∷ (number 0x5050505050504D8) ∷ (number 0x162738495A6B7C60) ∷ (number 0x27496B8DAFD1F3E8) ∷ (number 0x386B9ED205386B70) ∷ (number 0x498DD2165A9EE2F8) ∷ (number 0x5AB0055AB0055A80) ∷ (number 0x6BD2389F056BD208) ∷ (number 0x7CF46BE35AD24990) ∷ (number 0x8E169F27B038C118) ∷ (number 0x9F38D26C059F38A0) ∷ (number 0xB05B05B05B05B028) ∷ (number 0xC17D38F4B06C27B0) ∷ (number 0xD29F6C3905D29F38) ∷ (number 0xE3C19F7D5B3916C0) ∷ (number 0xF4E3D2C1B09F8E48) ∷ []);
  values = ([]);
}

field_wordacc_writeasones_encoded : written_whole W64 fields field_wordacc_writeasones ≡ field_wordacc_writeasones_table
field_wordacc_writeasones_encoded = refl

field_wordacc_writeasones_right : name_errors field_wordacc_writeasones ++ type_errors field_wordacc_writeasones ≡ []
field_wordacc_writeasones_right = refl

field_wordacc_writeasones_by_source : of_source W64 field_wordacc_writeasones field_wordacc_writeasones_asked ≡ field_wordacc_writeasones_told
field_wordacc_writeasones_by_source = refl

field_wordacc_writeasones_by_bytes : of_bytes field_wordacc_writeasones_table field_wordacc_writeasones_asked ≡ field_wordacc_writeasones_told
unfolding code_front
field_wordacc_writeasones_by_bytes = refl

-- field rev1 40 bits
-- OperationRegion (R, SystemIO, 0, 16) Field (R, DWordAcc, NoLock, Preserve) { A, 32, B1, 33, C, 31 } Method (M) { Debug = A Debug = B1
-- Debug = C B1 = "abcdef" B1 = 0xFFFFFFFF C = B1 }
abbrev field_rev1_40_bits : Trees
field_rev1_40_bits = (terms ((OperationRegion at (one "R___") 1 (terms ((Integer 0) ∷ (Integer 16) ∷ []))) ∷ (Field at at (one "R___") 3 ((unit "A___" 32) ∷ (unit "B1__" 33) ∷ (unit "C___" 31) ∷ [])) ∷ (Method at (one "M___") 0 (terms ((Assigned DebugTerm (Use at (one "A___"))) ∷ (Assigned DebugTerm (Use at (one "B1__"))) ∷ (Assigned DebugTerm (Use at (one "C___"))) ∷ (Assigned (Use at (one "B1__")) (String (codes "abcdef"))) ∷ (Assigned (Use at (one "B1__")) (Integer 0xFFFFFFFF)) ∷ (Assigned (Use at (one "C___")) (Use at (one "B1__"))) ∷ []))) ∷ []))

abbrev field_rev1_40_bits_table : List ℕ
field_rev1_40_bits_table =
    table_bytes narrow_fields (hex "5B 80 52 5F 5F 5F 01 00 0A 10 5B 81 15 52 5F 5F 5F 03 41 5F 5F 5F 20 42 31 5F 5F 21 43 5F 5F 5F 1F 14 37 4D 5F 5F 5F 00"
    ++ hex "70 41 5F 5F 5F 5B 31 70 42 31 5F 5F 5B 31 70 43 5F 5F 5F 5B 31 70 0D 61 62 63 64 65 66 00 42 31 5F 5F 70 FF 42 31 5F 5F"
    ++ hex "70 42 31 5F 5F 43 5F 5F 5F")

abbrev field_rev1_40_bits_asked : Asked
field_rev1_40_bits_asked = record {
  there = present_ones (externals field_rev1_40_bits) ([]);
  bound = 8;
  answers = ((number 0xFFFFFFFF) ∷ (number 0xFFFFFFFF) ∷ (number 0xFFFFFFFF) ∷ (number 0xFFFFFFFF) ∷ (number 0xFFFFFFFF) ∷ (number 0xFFFFFFFF) ∷ (number 0xFFFFFFFF) ∷ (number 0xFFFFFFFF) ∷ (number 0xFFFFFFFF) ∷ (number 0xFFFFFFFF) ∷ (number 0xFFFFFFFF) ∷ (number 0xFFFFFFFF) ∷ []);
  calls = (call (codes "M___" ∷ []) ([]) ∷ []);
  paths = ([]);
}

abbrev field_rev1_40_bits_told : Told
field_rev1_40_bits_told = record {
  results = ((Done (Normal false)) ∷ (Done NoValue) ∷ []);
  events = ((E.Read (codes "R___" ∷ []) 1 0 4) ∷ (E.Debug (number 0xFFFFFFFF)) ∷ (E.Read (codes "R___" ∷ []) 1 4 4) ∷ (E.Read (codes "R___" ∷ []) 1 8 4) ∷ (E.Debug (Data (V.Buffer (255 ∷ 255 ∷ 255 ∷ 255 ∷ 1 ∷ [])))) ∷ (E.Read (codes "R___" ∷ []) 1 8 4) ∷ (E.Debug (number 0x7FFFFFFF)) ∷ (E.Write (codes "R___" ∷ []) 1 4 4 0x64636261) ∷ (E.Read (codes "R___" ∷ []) 1 8 4) ∷ (E.Write (codes "R___" ∷ []) 1 8 4 0xFFFFFFFF) ∷ (E.Write (codes "R___" ∷ []) 1 4 4 0xFFFFFFFF) ∷ (E.Read (codes "R___" ∷ []) 1 8 4) ∷ (E.Write (codes "R___" ∷ []) 1 8 4 0xFFFFFFFE) ∷ (E.Read (codes "R___" ∷ []) 1 4 4) ∷ (E.Read (codes "R___" ∷ []) 1 8 4) ∷ (E.Read (codes "R___" ∷ []) 1 8 4) ∷ (E.Write (codes "R___" ∷ []) 1 8 4 0xFFFFFFFF) ∷ []);
  left = ((number 0xFFFFFFFF) ∷ (number 0xFFFFFFFF) ∷ (number 0xFFFFFFFF) ∷ []);
  values = ([]);
}

field_rev1_40_bits_encoded : written_whole W32 narrow_fields field_rev1_40_bits ≡ field_rev1_40_bits_table
field_rev1_40_bits_encoded = refl

field_rev1_40_bits_right : name_errors field_rev1_40_bits ++ type_errors field_rev1_40_bits ≡ []
field_rev1_40_bits_right = refl

field_rev1_40_bits_by_source : of_source W32 field_rev1_40_bits field_rev1_40_bits_asked ≡ field_rev1_40_bits_told
field_rev1_40_bits_by_source = refl

field_rev1_40_bits_by_bytes : of_bytes field_rev1_40_bits_table field_rev1_40_bits_asked ≡ field_rev1_40_bits_told
unfolding code_front
field_rev1_40_bits_by_bytes = refl

-- field straddle limit write
-- OperationRegion (R, SystemIO, 0x10, 3) Field (R, ByteAcc, NoLock, Preserve) { , 12, A, 16 } Method (M) { A = 0xFFFF } Method (N) {
-- Return (A) }
abbrev field_straddle_limit_write : Trees
field_straddle_limit_write = (terms ((OperationRegion at (one "R___") 1 (terms ((Integer 16) ∷ (Integer 3) ∷ []))) ∷ (Field at at (one "R___") 1 ((SkipItem 12) ∷ (unit "A___" 16) ∷ [])) ∷ (Method at (one "M___") 0 (terms ((Assigned (Use at (one "A___")) (Integer 0xFFFF)) ∷ []))) ∷ (Method at (one "N___") 0 (terms ((Return (Use at (one "A___"))) ∷ []))) ∷ []))

abbrev field_straddle_limit_write_table : List ℕ
field_straddle_limit_write_table =
    table_bytes fields (hex "5B 80 52 5F 5F 5F 01 0A 10 0A 03 5B 81 0D 52 5F 5F 5F 01 00 0C 41 5F 5F 5F 10 14 0E 4D 5F 5F 5F 00 70 0B FF FF 41 5F 5F"
    ++ hex "5F 14 0B 4E 5F 5F 5F 00 A4 41 5F 5F 5F")

abbrev field_straddle_limit_write_asked : Asked
field_straddle_limit_write_asked = record {
  there = present_ones (externals field_straddle_limit_write) ([]);
  bound = 8;
  answers = ((number 0) ∷ (number 0) ∷ (number 1) ∷ (number 2) ∷ []);
  calls = (call (codes "M___" ∷ []) ([]) ∷ call (codes "N___" ∷ []) ([]) ∷ []);
  paths = ([]);
}

abbrev field_straddle_limit_write_told : Told
field_straddle_limit_write_told = record {
  results = ((Done (Normal false)) ∷ (faults Fault.Limit) ∷ (faults Fault.Limit) ∷ []);
  events = ((E.Read (codes "R___" ∷ []) 1 17 1) ∷ (E.Write (codes "R___" ∷ []) 1 17 1 240) ∷ (E.Write (codes "R___" ∷ []) 1 18 1 255) ∷ (E.Read (codes "R___" ∷ []) 1 17 1) ∷ (E.Read (codes "R___" ∷ []) 1 18 1) ∷ []);
  left = ((number 2) ∷ []);
  values = ([]);
}

field_straddle_limit_write_encoded : written_whole W64 fields field_straddle_limit_write ≡ field_straddle_limit_write_table
field_straddle_limit_write_encoded = refl

field_straddle_limit_write_right : name_errors field_straddle_limit_write ++ type_errors field_straddle_limit_write ≡ []
field_straddle_limit_write_right = refl

field_straddle_limit_write_by_source : of_source W64 field_straddle_limit_write field_straddle_limit_write_asked ≡ field_straddle_limit_write_told
field_straddle_limit_write_by_source = refl

field_straddle_limit_write_by_bytes : of_bytes field_straddle_limit_write_table field_straddle_limit_write_asked ≡ field_straddle_limit_write_told
unfolding code_front
field_straddle_limit_write_by_bytes = refl

-- index of index
-- OperationRegion (R, SystemIO, 0, 8) Field (R, ByteAcc, NoLock, Preserve) { IX, 8, DT, 8 } IndexField (IX, DT, ByteAcc, NoLock, Preserve)
-- { I2, 8, D2, 8 } IndexField (I2, D2, ByteAcc, NoLock, WriteAsZeros) { , 4, V, 8 } Method (M) { Debug = V V = 0x5A }
abbrev index_of_index : Trees
index_of_index = (terms ((OperationRegion at (one "R___") 1 (terms ((Integer 0) ∷ (Integer 8) ∷ []))) ∷ (Field at at (one "R___") 1 ((unit "IX__" 8) ∷ (unit "DT__" 8) ∷ [])) ∷ (IndexField at at (one "IX__") at (one "DT__") 1 ((unit "I2__" 8) ∷ (unit "D2__" 8) ∷ [])) ∷ (IndexField at at (one "I2__") at (one "D2__") 65 ((SkipItem 4) ∷ (unit "V___" 8) ∷ [])) ∷ (Method at (one "M___") 0 (terms ((Assigned DebugTerm (Use at (one "V___"))) ∷ (Assigned (Use at (one "V___")) (Integer 90)) ∷ []))) ∷ []))

abbrev index_of_index_table : List ℕ
index_of_index_table =
    table_bytes fields (hex "5B 80 52 5F 5F 5F 01 00 0A 08 5B 81 10 52 5F 5F 5F 01 49 58 5F 5F 08 44 54 5F 5F 08 5B 86 14 49 58 5F 5F 44 54 5F 5F 01"
    ++ hex "49 32 5F 5F 08 44 32 5F 5F 08 5B 86 11 49 32 5F 5F 44 32 5F 5F 41 00 04 56 5F 5F 5F 08 14 14 4D 5F 5F 5F 00 70 56 5F 5F"
    ++ hex "5F 5B 31 70 0A 5A 56 5F 5F 5F")

abbrev index_of_index_asked : Asked
index_of_index_asked = record {
  there = present_ones (externals index_of_index) ([]);
  bound = 8;
  answers = ((number 18) ∷ (number 52) ∷ (number 86) ∷ []);
  calls = (call (codes "M___" ∷ []) ([]) ∷ []);
  paths = ([]);
}

abbrev index_of_index_told : Told
index_of_index_told = record {
  results = ((Done (Normal false)) ∷ (Done NoValue) ∷ []);
  events = ((E.Write (codes "R___" ∷ []) 1 0 1 0) ∷ (E.Write (codes "R___" ∷ []) 1 1 1 0) ∷ (E.Write (codes "R___" ∷ []) 1 0 1 1) ∷ (E.Read (codes "R___" ∷ []) 1 1 1) ∷ (E.Write (codes "R___" ∷ []) 1 0 1 0) ∷ (E.Write (codes "R___" ∷ []) 1 1 1 1) ∷ (E.Write (codes "R___" ∷ []) 1 0 1 1) ∷ (E.Read (codes "R___" ∷ []) 1 1 1) ∷ (E.Debug (number 65)) ∷ (E.Write (codes "R___" ∷ []) 1 0 1 0) ∷ (E.Write (codes "R___" ∷ []) 1 1 1 0) ∷ (E.Write (codes "R___" ∷ []) 1 0 1 1) ∷ (E.Write (codes "R___" ∷ []) 1 1 1 160) ∷ (E.Write (codes "R___" ∷ []) 1 0 1 0) ∷ (E.Write (codes "R___" ∷ []) 1 1 1 1) ∷ (E.Write (codes "R___" ∷ []) 1 0 1 1) ∷ (E.Write (codes "R___" ∷ []) 1 1 1 5) ∷ []);
  left = ((number 86) ∷ []);
  values = ([]);
}

index_of_index_encoded : written_whole W64 fields index_of_index ≡ index_of_index_table
index_of_index_encoded = refl

index_of_index_right : name_errors index_of_index ++ type_errors index_of_index ≡ []
index_of_index_right = refl

index_of_index_by_source : of_source W64 index_of_index index_of_index_asked ≡ index_of_index_told
index_of_index_by_source = refl

index_of_index_by_bytes : of_bytes index_of_index_table index_of_index_asked ≡ index_of_index_told
unfolding code_front
index_of_index_by_bytes = refl

-- bank in bank
-- OperationRegion (R, SystemIO, 0, 8) Field (R, ByteAcc, NoLock, WriteAsZeros) { B0, 8 } BankField (R, B0, 1, ByteAcc, NoLock,
-- WriteAsZeros) { , 8, B1, 8 } BankField (R, B1, 2, ByteAcc, NoLock, WriteAsZeros) { , 16, V, 8 } IndexField (B1, V, ByteAcc, NoLock,
-- WriteAsZeros) { , 8, Z, 8 } Method (M) { Debug = V V = 3 Debug = Z Z = 7 }
abbrev bank_in_bank : Trees
bank_in_bank = (terms ((OperationRegion at (one "R___") 1 (terms ((Integer 0) ∷ (Integer 8) ∷ []))) ∷ (Field at at (one "R___") 65 ((unit "B0__" 8) ∷ [])) ∷ (BankField at at (one "R___") at (one "B0__") (Integer 1) 65 ((SkipItem 8) ∷ (unit "B1__" 8) ∷ [])) ∷ (BankField at at (one "R___") at (one "B1__") (Integer 2) 65 ((SkipItem 16) ∷ (unit "V___" 8) ∷ [])) ∷ (IndexField at at (one "B1__") at (one "V___") 65 ((SkipItem 8) ∷ (unit "Z___" 8) ∷ [])) ∷ (Method at (one "M___") 0 (terms ((Assigned DebugTerm (Use at (one "V___"))) ∷ (Assigned (Use at (one "V___")) (Integer 3)) ∷ (Assigned DebugTerm (Use at (one "Z___"))) ∷ (Assigned (Use at (one "Z___")) (Integer 7)) ∷ []))) ∷ []))

abbrev bank_in_bank_table : List ℕ
bank_in_bank_table =
    table_bytes fields (hex "5B 80 52 5F 5F 5F 01 00 0A 08 5B 81 0B 52 5F 5F 5F 41 42 30 5F 5F 08 5B 87 12 52 5F 5F 5F 42 30 5F 5F 01 41 00 08 42 31"
    ++ hex "5F 5F 08 5B 87 13 52 5F 5F 5F 42 31 5F 5F 0A 02 41 00 10 56 5F 5F 5F 08 5B 86 11 42 31 5F 5F 56 5F 5F 5F 41 00 08 5A 5F"
    ++ hex "5F 5F 08 14 22 4D 5F 5F 5F 00 70 56 5F 5F 5F 5B 31 70 0A 03 56 5F 5F 5F 70 5A 5F 5F 5F 5B 31 70 0A 07 5A 5F 5F 5F")

abbrev bank_in_bank_asked : Asked
bank_in_bank_asked = record {
  there = present_ones (externals bank_in_bank) ([]);
  bound = 8;
  answers = ((number 33) ∷ (number 34) ∷ []);
  calls = (call (codes "M___" ∷ []) ([]) ∷ []);
  paths = ([]);
}

abbrev bank_in_bank_told : Told
bank_in_bank_told = record {
  results = ((Done (Normal false)) ∷ (Done NoValue) ∷ []);
  events = ((E.Write (codes "R___" ∷ []) 1 0 1 1) ∷ (E.Write (codes "R___" ∷ []) 1 1 1 2) ∷ (E.Read (codes "R___" ∷ []) 1 2 1) ∷ (E.Debug (number 33)) ∷ (E.Write (codes "R___" ∷ []) 1 0 1 1) ∷ (E.Write (codes "R___" ∷ []) 1 1 1 2) ∷ (E.Write (codes "R___" ∷ []) 1 2 1 3) ∷ (E.Write (codes "R___" ∷ []) 1 0 1 1) ∷ (E.Write (codes "R___" ∷ []) 1 1 1 1) ∷ (E.Write (codes "R___" ∷ []) 1 0 1 1) ∷ (E.Write (codes "R___" ∷ []) 1 1 1 2) ∷ (E.Read (codes "R___" ∷ []) 1 2 1) ∷ (E.Debug (number 34)) ∷ (E.Write (codes "R___" ∷ []) 1 0 1 1) ∷ (E.Write (codes "R___" ∷ []) 1 1 1 1) ∷ (E.Write (codes "R___" ∷ []) 1 0 1 1) ∷ (E.Write (codes "R___" ∷ []) 1 1 1 2) ∷ (E.Write (codes "R___" ∷ []) 1 2 1 7) ∷ []);
  left = ([]);
  values = ([]);
}

bank_in_bank_encoded : written_whole W64 fields bank_in_bank ≡ bank_in_bank_table
bank_in_bank_encoded = refl

bank_in_bank_right : name_errors bank_in_bank ++ type_errors bank_in_bank ≡ []
bank_in_bank_right = refl

bank_in_bank_by_source : of_source W64 bank_in_bank bank_in_bank_asked ≡ bank_in_bank_told
bank_in_bank_by_source = refl

bank_in_bank_by_bytes : of_bytes bank_in_bank_table bank_in_bank_asked ≡ bank_in_bank_told
unfolding code_front
bank_in_bank_by_bytes = refl

-- external registers
-- External (IX, FieldUnitObj) External (DT, FieldUnitObj) IndexField (IX, DT, WordAcc, NoLock, Preserve) { , 4, V, 16 } OperationRegion
-- (R, SystemIO, 0, 8) BankField (R, IX, 0x123456789, ByteAcc, NoLock, Preserve) { W, 4 } Method (M) { Debug = V V = 0xFFFF W = 1 }
abbrev external_registers : Trees
external_registers = (terms ((External at at (one "IX__") 5 None) ∷ (External at at (one "DT__") 5 None) ∷ (IndexField at at (one "IX__") at (one "DT__") 2 ((SkipItem 4) ∷ (unit "V___" 16) ∷ [])) ∷ (OperationRegion at (one "R___") 1 (terms ((Integer 0) ∷ (Integer 8) ∷ []))) ∷ (BankField at at (one "R___") at (one "IX__") (Integer 0x123456789) 1 ((unit "W___" 4) ∷ [])) ∷ (Method at (one "M___") 0 (terms ((Assigned DebugTerm (Use at (one "V___"))) ∷ (Assigned (Use at (one "V___")) (Integer 0xFFFF)) ∷ (Assigned (Use at (one "W___")) (Integer 1)) ∷ []))) ∷ []))

abbrev external_registers_table : List ℕ
external_registers_table =
    table_bytes fields (hex "15 49 58 5F 5F 05 00 15 44 54 5F 5F 05 00 5B 86 11 49 58 5F 5F 44 54 5F 5F 02 00 04 56 5F 5F 5F 10 5B 80 52 5F 5F 5F 01"
    ++ hex "00 0A 08 5B 87 18 52 5F 5F 5F 49 58 5F 5F 0E 89 67 45 23 01 00 00 00 01 57 5F 5F 5F 04 14 1B 4D 5F 5F 5F 00 70 56 5F 5F"
    ++ hex "5F 5B 31 70 0B FF FF 56 5F 5F 5F 70 01 57 5F 5F 5F")

abbrev external_registers_asked : Asked
external_registers_asked = record {
  there = present_ones (externals external_registers) ((codes "IX__" ∷ []) ∷ (codes "DT__" ∷ []) ∷ []);
  bound = 8;
  answers = ((number 0x123456) ∷ (Data (V.String (49 ∷ 50 ∷ []))) ∷ (number 1) ∷ (number 2) ∷ (number 3) ∷ (Data (V.Buffer (9 ∷ []))) ∷ (number 5) ∷ (number 6) ∷ (number 7) ∷ (number 8) ∷ []);
  calls = (call (codes "M___" ∷ []) ([]) ∷ call (codes "M___" ∷ []) ([]) ∷ []);
  paths = ([]);
}

abbrev external_registers_told : Told
external_registers_told = record {
  results = ((Done (Normal false)) ∷ (Done NoValue) ∷ (Done NoValue) ∷ []);
  events = ((E.WriteExternal (codes "IX__" ∷ []) (number 0)) ∷ (E.ReadExternal (codes "DT__" ∷ [])) ∷ (E.WriteExternal (codes "IX__" ∷ []) (number 2)) ∷ (E.ReadExternal (codes "DT__" ∷ [])) ∷ (E.Debug (number 0x345)) ∷ (E.WriteExternal (codes "IX__" ∷ []) (number 0)) ∷ (E.ReadExternal (codes "DT__" ∷ [])) ∷ (E.WriteExternal (codes "IX__" ∷ []) (number 0)) ∷ (E.WriteExternal (codes "DT__" ∷ []) (number 0xFFF1)) ∷ (E.WriteExternal (codes "IX__" ∷ []) (number 2)) ∷ (E.ReadExternal (codes "DT__" ∷ [])) ∷ (E.WriteExternal (codes "IX__" ∷ []) (number 2)) ∷ (E.WriteExternal (codes "DT__" ∷ []) (number 15)) ∷ (E.WriteExternal (codes "IX__" ∷ []) (number 0x123456789)) ∷ (E.Read (codes "R___" ∷ []) 1 0 1) ∷ (E.Write (codes "R___" ∷ []) 1 0 1 1) ∷ (E.WriteExternal (codes "IX__" ∷ []) (number 0)) ∷ (E.ReadExternal (codes "DT__" ∷ [])) ∷ (E.WriteExternal (codes "IX__" ∷ []) (number 2)) ∷ (E.ReadExternal (codes "DT__" ∷ [])) ∷ (E.Debug (number 0x5000)) ∷ (E.WriteExternal (codes "IX__" ∷ []) (number 0)) ∷ (E.ReadExternal (codes "DT__" ∷ [])) ∷ (E.WriteExternal (codes "IX__" ∷ []) (number 0)) ∷ (E.WriteExternal (codes "DT__" ∷ []) (number 0xFFF6)) ∷ (E.WriteExternal (codes "IX__" ∷ []) (number 2)) ∷ (E.ReadExternal (codes "DT__" ∷ [])) ∷ (E.WriteExternal (codes "IX__" ∷ []) (number 2)) ∷ (E.WriteExternal (codes "DT__" ∷ []) (number 15)) ∷ (E.WriteExternal (codes "IX__" ∷ []) (number 0x123456789)) ∷ (E.Read (codes "R___" ∷ []) 1 0 1) ∷ (E.Write (codes "R___" ∷ []) 1 0 1 1) ∷ []);
  left = ([]);
  values = ([]);
}

external_registers_encoded : written_whole W64 fields external_registers ≡ external_registers_table
external_registers_encoded = refl

external_registers_right : name_errors external_registers ++ type_errors external_registers ≡ []
external_registers_right = refl

external_registers_by_source : of_source W64 external_registers external_registers_asked ≡ external_registers_told
external_registers_by_source = refl

external_registers_by_bytes : of_bytes external_registers_table external_registers_asked ≡ external_registers_told
unfolding code_front
external_registers_by_bytes = refl

-- accessas k8 access
-- OperationRegion (R, SystemMemory, 0, 32) Field (R, ByteAcc, NoLock, Preserve) { AccessAs (3, 0xFF), F, 8, AccessAs (AnyAcc, 1), G, 8,
-- AccessAs (4), H, 8 } Method (M) { Debug = F Debug = G Debug = H F = 1 }
abbrev accessas_k8_access : Trees
accessas_k8_access = (terms ((OperationRegion at (one "R___") 0 (terms ((Integer 0) ∷ (Integer 32) ∷ []))) ∷ (Field at at (one "R___") 1 ((AccessItem 3 255 None) ∷ (unit "F___" 8) ∷ (AccessItem 0 1 None) ∷ (unit "G___" 8) ∷ (AccessItem 4 0 None) ∷ (unit "H___" 8) ∷ [])) ∷ (Method at (one "M___") 0 (terms ((Assigned DebugTerm (Use at (one "F___"))) ∷ (Assigned DebugTerm (Use at (one "G___"))) ∷ (Assigned DebugTerm (Use at (one "H___"))) ∷ (Assigned (Use at (one "F___")) (Integer 1)) ∷ []))) ∷ []))

abbrev accessas_k8_access_table : List ℕ
accessas_k8_access_table =
    table_bytes fields (hex "5B 80 52 5F 5F 5F 00 00 0A 20 5B 81 1E 52 5F 5F 5F 01 01 03 FF 46 5F 5F 5F 08 01 00 01 47 5F 5F 5F 08 01 04 00 48 5F 5F"
    ++ hex "5F 08 14 21 4D 5F 5F 5F 00 70 46 5F 5F 5F 5B 31 70 47 5F 5F 5F 5B 31 70 48 5F 5F 5F 5B 31 70 01 46 5F 5F 5F")

abbrev accessas_k8_access_asked : Asked
accessas_k8_access_asked = record {
  there = present_ones (externals accessas_k8_access) ([]);
  bound = 8;
  answers = ((number 1) ∷ (number 2) ∷ (number 3) ∷ (number 4) ∷ (number 5) ∷ (number 6) ∷ (number 7) ∷ (number 8) ∷ (number 9) ∷ (number 10) ∷ (number 11) ∷ (number 12) ∷ (number 13) ∷ (number 14) ∷ (number 15) ∷ (number 16) ∷ (number 17) ∷ (number 18) ∷ (number 19) ∷ (number 20) ∷ (number 21) ∷ (number 22) ∷ (number 23) ∷ (number 24) ∷ (number 25) ∷ (number 26) ∷ (number 27) ∷ (number 28) ∷ (number 29) ∷ []);
  calls = (call (codes "M___" ∷ []) ([]) ∷ []);
  paths = ([]);
}

abbrev accessas_k8_access_told : Told
accessas_k8_access_told = record {
  results = ((Done (Normal false)) ∷ (Done NoValue) ∷ []);
  events = ((E.Read (codes "R___" ∷ []) 0 0 4) ∷ (E.Debug (number 1)) ∷ (E.Read (codes "R___" ∷ []) 0 1 1) ∷ (E.Debug (number 2)) ∷ (E.Read (codes "R___" ∷ []) 0 0 8) ∷ (E.Debug (number 0)) ∷ (E.Read (codes "R___" ∷ []) 0 0 4) ∷ (E.Write (codes "R___" ∷ []) 0 0 4 1) ∷ []);
  left = ((number 5) ∷ (number 6) ∷ (number 7) ∷ (number 8) ∷ (number 9) ∷ (number 10) ∷ (number 11) ∷ (number 12) ∷ (number 13) ∷ (number 14) ∷ (number 15) ∷ (number 16) ∷ (number 17) ∷ (number 18) ∷ (number 19) ∷ (number 20) ∷ (number 21) ∷ (number 22) ∷ (number 23) ∷ (number 24) ∷ (number 25) ∷ (number 26) ∷ (number 27) ∷ (number 28) ∷ (number 29) ∷ []);
  values = ([]);
}

accessas_k8_access_encoded : written_whole W64 fields accessas_k8_access ≡ accessas_k8_access_table
accessas_k8_access_encoded = refl

accessas_k8_access_right : name_errors accessas_k8_access ++ type_errors accessas_k8_access ≡ []
accessas_k8_access_right = refl

accessas_k8_access_by_source : of_source W64 accessas_k8_access accessas_k8_access_asked ≡ accessas_k8_access_told
accessas_k8_access_by_source = refl

accessas_k8_access_by_bytes : of_bytes accessas_k8_access_table accessas_k8_access_asked ≡ accessas_k8_access_told
unfolding code_front
accessas_k8_access_by_bytes = refl

-- read modulo access
-- OperationRegion (R, SystemIO, 0, 8) Field (R, WordAcc, NoLock, Preserve) { A, 16, B1, 4 } Method (M) { Debug = A Debug = B1 B1 = 5 }
abbrev read_modulo_access : Trees
read_modulo_access = (terms ((OperationRegion at (one "R___") 1 (terms ((Integer 0) ∷ (Integer 8) ∷ []))) ∷ (Field at at (one "R___") 2 ((unit "A___" 16) ∷ (unit "B1__" 4) ∷ [])) ∷ (Method at (one "M___") 0 (terms ((Assigned DebugTerm (Use at (one "A___"))) ∷ (Assigned DebugTerm (Use at (one "B1__"))) ∷ (Assigned (Use at (one "B1__")) (Integer 5)) ∷ []))) ∷ []))

abbrev read_modulo_access_table : List ℕ
read_modulo_access_table =
    table_bytes fields (hex "5B 80 52 5F 5F 5F 01 00 0A 08 5B 81 10 52 5F 5F 5F 02 41 5F 5F 5F 10 42 31 5F 5F 04 14 1B 4D 5F 5F 5F 00 70 41 5F 5F 5F"
    ++ hex "5B 31 70 42 31 5F 5F 5B 31 70 0A 05 42 31 5F 5F")

abbrev read_modulo_access_asked : Asked
read_modulo_access_asked = record {
  there = present_ones (externals read_modulo_access) ([]);
  bound = 8;
  answers = ((number 0x12345678) ∷ (number 0xFFFFFFFFFFFFFFFF) ∷ (number 0xABCD1234) ∷ []);
  calls = (call (codes "M___" ∷ []) ([]) ∷ []);
  paths = ([]);
}

abbrev read_modulo_access_told : Told
read_modulo_access_told = record {
  results = ((Done (Normal false)) ∷ (Done NoValue) ∷ []);
  events = ((E.Read (codes "R___" ∷ []) 1 0 2) ∷ (E.Debug (number 0x5678)) ∷ (E.Read (codes "R___" ∷ []) 1 2 2) ∷ (E.Debug (number 15)) ∷ (E.Read (codes "R___" ∷ []) 1 2 2) ∷ (E.Write (codes "R___" ∷ []) 1 2 2 0x1235) ∷ []);
  left = ([]);
  values = ([]);
}

read_modulo_access_encoded : written_whole W64 fields read_modulo_access ≡ read_modulo_access_table
read_modulo_access_encoded = refl

read_modulo_access_right : name_errors read_modulo_access ++ type_errors read_modulo_access ≡ []
read_modulo_access_right = refl

read_modulo_access_by_source : of_source W64 read_modulo_access read_modulo_access_asked ≡ read_modulo_access_told
read_modulo_access_by_source = refl

read_modulo_access_by_bytes : of_bytes read_modulo_access_table read_modulo_access_asked ≡ read_modulo_access_told
unfolding code_front
read_modulo_access_by_bytes = refl

-- answers of other kinds for reads
-- OperationRegion (R, SystemIO, 0, 8) Field (R, ByteAcc, NoLock, Preserve) { A, 8 } Mutex (X, 0) Method (M) { Debug = A Debug = Timer
-- Debug = Acquire (X, 0) Debug = Revision }
abbrev answers_of_other_kinds_for_reads : Trees
answers_of_other_kinds_for_reads = (terms ((OperationRegion at (one "R___") 1 (terms ((Integer 0) ∷ (Integer 8) ∷ []))) ∷ (Field at at (one "R___") 1 ((unit "A___" 8) ∷ [])) ∷ (Mutex at (one "X___") 0) ∷ (Method at (one "M___") 0 (terms ((Assigned DebugTerm (Use at (one "A___"))) ∷ (Assigned DebugTerm (Apply (Plain.Event EventOp.Timer) no_trees no_trees)) ∷ (Assigned DebugTerm (Apply (Plain.Event EventOp.Acquire) (terms ((Use at (one "X___")) ∷ (Raw 2 0) ∷ [])) no_trees)) ∷ (Assigned DebugTerm (Apply (Plain.Event EventOp.Revision) no_trees no_trees)) ∷ []))) ∷ []))

abbrev answers_of_other_kinds_for_reads_table : List ℕ
answers_of_other_kinds_for_reads_table =
    table_bytes fields (hex "5B 80 52 5F 5F 5F 01 00 0A 08 5B 81 0B 52 5F 5F 5F 01 41 5F 5F 5F 08 5B 01 58 5F 5F 5F 00 14 22 4D 5F 5F 5F 00 70 41 5F"
    ++ hex "5F 5F 5B 31 70 5B 33 5B 31 70 5B 23 58 5F 5F 5F 00 00 5B 31 70 5B 30 5B 31")

abbrev answers_of_other_kinds_for_reads_asked : Asked
answers_of_other_kinds_for_reads_asked = record {
  there = present_ones (externals answers_of_other_kinds_for_reads) ([]);
  bound = 8;
  answers = ((Data (V.String (53 ∷ []))) ∷ (Data (V.Buffer (5 ∷ []))) ∷ (V.Package no_elements) ∷ (Data (V.String (53 ∷ []))) ∷ []);
  calls = (call (codes "M___" ∷ []) ([]) ∷ []);
  paths = ([]);
}

abbrev answers_of_other_kinds_for_reads_told : Told
answers_of_other_kinds_for_reads_told = record {
  results = ((Done (Normal false)) ∷ (Done NoValue) ∷ []);
  events = ((E.Read (codes "R___" ∷ []) 1 0 1) ∷ (E.Debug (number 0)) ∷ E.Timer ∷ (E.Debug (number 0)) ∷ (E.Acquire (codes "X___" ∷ []) 0) ∷ (E.Debug (number 0)) ∷ E.Revision ∷ (E.Debug (number 0)) ∷ []);
  left = ([]);
  values = ([]);
}

answers_of_other_kinds_for_reads_encoded : written_whole W64 fields answers_of_other_kinds_for_reads ≡ answers_of_other_kinds_for_reads_table
answers_of_other_kinds_for_reads_encoded = refl

answers_of_other_kinds_for_reads_right : name_errors answers_of_other_kinds_for_reads ++ type_errors answers_of_other_kinds_for_reads ≡ []
answers_of_other_kinds_for_reads_right = refl

answers_of_other_kinds_for_reads_by_source : of_source W64 answers_of_other_kinds_for_reads answers_of_other_kinds_for_reads_asked ≡ answers_of_other_kinds_for_reads_told
answers_of_other_kinds_for_reads_by_source = refl

answers_of_other_kinds_for_reads_by_bytes : of_bytes answers_of_other_kinds_for_reads_table answers_of_other_kinds_for_reads_asked ≡ answers_of_other_kinds_for_reads_told
unfolding code_front
answers_of_other_kinds_for_reads_by_bytes = refl

-- region from operands
-- Name (L, 8) OperationRegion (R, 0x80, Timer, "10") Field (R, ByteAcc, NoLock, Preserve) { Offset (15), A, 8, B1, 8 } Method (M) { Return
-- (A) } Method (N) { Return (B1) }
abbrev region_from_operands : Trees
region_from_operands = (terms ((Name at (one "L___") (Integer 8)) ∷ (OperationRegion at (one "R___") 128 (terms ((Apply (Plain.Event EventOp.Timer) no_trees no_trees) ∷ (String (codes "10")) ∷ []))) ∷ (Field at at (one "R___") 1 ((OffsetItem 15) ∷ (unit "A___" 8) ∷ (unit "B1__" 8) ∷ [])) ∷ (Method at (one "M___") 0 (terms ((Return (Use at (one "A___"))) ∷ []))) ∷ (Method at (one "N___") 0 (terms ((Return (Use at (one "B1__"))) ∷ []))) ∷ []))

abbrev region_from_operands_table : List ℕ
region_from_operands_table =
    table_bytes fields (hex "08 4C 5F 5F 5F 0A 08 5B 80 52 5F 5F 5F 80 5B 33 0D 31 30 00 5B 81 13 52 5F 5F 5F 01 00 48 07 41 5F 5F 5F 08 42 31 5F 5F"
    ++ hex "08 14 0B 4D 5F 5F 5F 00 A4 41 5F 5F 5F 14 0B 4E 5F 5F 5F 00 A4 42 31 5F 5F")

abbrev region_from_operands_asked : Asked
region_from_operands_asked = record {
  there = present_ones (externals region_from_operands) ([]);
  bound = 8;
  answers = ((number 0x100) ∷ (number 7) ∷ []);
  calls = (call (codes "M___" ∷ []) ([]) ∷ call (codes "N___" ∷ []) ([]) ∷ []);
  paths = ((codes "L___" ∷ []) ∷ []);
}

abbrev region_from_operands_told : Told
region_from_operands_told = record {
  results = ((Done (Normal false)) ∷ (gives (number 7)) ∷ (faults Fault.Limit) ∷ []);
  events = (E.Timer ∷ (E.Read (codes "R___" ∷ []) 128 0x10F 1) ∷ []);
  left = ([]);
  values = (Some (number 8) ∷ []);
}

region_from_operands_encoded : written_whole W64 fields region_from_operands ≡ region_from_operands_table
region_from_operands_encoded = refl

region_from_operands_right : name_errors region_from_operands ++ type_errors region_from_operands ≡ []
region_from_operands_right = refl

region_from_operands_by_source : of_source W64 region_from_operands region_from_operands_asked ≡ region_from_operands_told
region_from_operands_by_source = refl

region_from_operands_by_bytes : of_bytes region_from_operands_table region_from_operands_asked ≡ region_from_operands_told
unfolding code_front
region_from_operands_by_bytes = refl
