-- Sessions over fields of serial buses and pins: their connections, accesses, and what is sent and answered. Another implementation gives
-- the values.
use Rattle.std.proofs.Common.{◌≡◌, ℕ, true, false, List, [], ◌∷◌, ◌++◌, Some, None, refl}
use Rattle.std.specs.Prelude.{codes}
use Rattle.acpi_values.specs.declared.width.Width.TheVariants.{W64}
use Rattle.acpi_values.specs.declared.fault.Fault.TheVariants as Fault
use Rattle.acpi_values.specs.declared.operator.DataOp.TheVariants as DataOp
use Rattle.acpi_values.specs.declared.operator.Plain.TheVariants as Plain
use Rattle.acpi_values.specs.Values as V
use Rattle.acpi_values.specs.Values.{Value, Data, no_elements, uninitialized, element, Named, LocalOf, ArgOf, ElementAt, ElementOf}
use Rattle.acpi_state.specs.Objects as E
use Rattle.acpi_state.specs.Objects.{Device, ThermalZone, PowerResource, Processor}
use Rattle.acpi_state.specs.FieldUnits.{Unconnected, ToObject, ToResource}
use Rattle.acpi_state.specs.Outcomes.{Normal, NoValue, Done}
use Rattle.acpi_state.specs.Sessions.{present_ones}
use Rattle.asl_tree.specs.declared.term.Compound.TheVariants as Compound
use Rattle.asl_tree.specs.FieldItems.{SkipItem, OffsetItem, AccessItem, ConnectionItem, ToName, ToBytes}
use Rattle.asl_tree.specs.Tree.{Integer, String, Debug as DebugTerm, Omitted, Use, Apply, Operated, Assigned}
use Rattle.asl_tree.specs.Tree.{AssignedBy, Buffer, Package, CondRefOf, Return, Name, Alias, Method}
use Rattle.asl_tree.specs.Tree.{Container', If}
use Rattle.asl_tree.specs.Tree.{OperationRegion, Field, Trees, no_trees}
use Rattle.asl_meaning.specs.Declarations.{externals}
use Rattle.aml_meaning.specs.Codes.{code_front}
use Rattle.aml_code.specs.Header.{table_bytes}
use Rattle.acpi_names.specs.Errors.{name_errors, type_errors}
use Rattle.meaning_rows.proofs.Rows.{at, fields}
use Rattle.meaning_rows.proofs.Outside.{hex, number, call, Asked, Told, gives, faults, of_bytes, of_source, written_whole, terms, path, one, local, arg, unit}

-- accessas, AttribBytes (7)
-- OperationRegion (R, GenericSerialBus, 0, 0x100) Field (R, BufferAcc, NoLock, Preserve) { Connection (I2cSerialBusV2 (0x50,
-- ControllerInitiated, 400000, AddressingMode7Bit, "\\A")), AccessAs (BufferAcc, AttribBytes (7)), F, 8, G, 24, Offset (0x20), H, 8 }
-- Method (M) { Local0 = F Local1 = (F = Buffer () {1, 2}) Local2 = (G = "ab") Local3 = (H = 5) Return (Package () {1}) } Method (N) {
-- Return (H) }
abbrev accessas_attribbytes_7 : Trees
accessas_attribbytes_7 = (terms ((OperationRegion at (one "R___") 9 (terms ((Integer 0) ∷ (Integer 0x100) ∷ []))) ∷ (Field at at (one "R___") 5 ((ConnectionItem (ToBytes (142 ∷ 18 ∷ 0 ∷ 2 ∷ 0 ∷ 1 ∷ 2 ∷ 0 ∷ 0 ∷ 1 ∷ 6 ∷ 0 ∷ 128 ∷ 26 ∷ 6 ∷ 0 ∷ 80 ∷ 0 ∷ 92 ∷ 65 ∷ 0 ∷ 121 ∷ 0 ∷ []))) ∷ (AccessItem 5 11 (Some 7)) ∷ (unit "F___" 8) ∷ (unit "G___" 24) ∷ (OffsetItem 32) ∷ (unit "H___" 8) ∷ [])) ∷ (Method at (one "M___") 0 (terms ((Assigned (local 0) (Use at (one "F___"))) ∷ (Assigned (local 1) (Assigned (Use at (one "F___")) (Buffer (Integer 2) (1 ∷ 2 ∷ [])))) ∷ (Assigned (local 2) (Assigned (Use at (one "G___")) (String (codes "ab")))) ∷ (Assigned (local 3) (Assigned (Use at (one "H___")) (Integer 5))) ∷ (Return (Package 1 (terms ((Integer 1) ∷ [])))) ∷ []))) ∷ (Method at (one "N___") 0 (terms ((Return (Use at (one "H___"))) ∷ []))) ∷ []))

abbrev accessas_attribbytes_7_table : List ℕ
accessas_attribbytes_7_table =
    table_bytes fields (hex "5B 80 52 5F 5F 5F 09 00 0B 00 01 5B 81 38 52 5F 5F 5F 05 02 11 1A 0A 17 8E 12 00 02 00 01 02 00 00 01 06 00 80 1A 06 00"
    ++ hex "50 00 5C 41 00 79 00 03 05 0B 07 46 5F 5F 5F 08 47 5F 5F 5F 18 00 40 0E 48 5F 5F 5F 08 14 32 4D 5F 5F 5F 00 70 46 5F 5F"
    ++ hex "5F 60 70 70 11 05 0A 02 01 02 46 5F 5F 5F 61 70 70 0D 61 62 00 47 5F 5F 5F 62 70 70 0A 05 48 5F 5F 5F 63 A4 12 03 01 01"
    ++ hex "14 0B 4E 5F 5F 5F 00 A4 48 5F 5F 5F")

abbrev accessas_attribbytes_7_asked : Asked
accessas_attribbytes_7_asked = record {
  there = present_ones (externals accessas_attribbytes_7) ([]);
  bound = 8;
  answers = ((Data (V.Buffer (1 ∷ []))) ∷ (Data (V.Buffer (2 ∷ 3 ∷ []))) ∷ (number 7) ∷ (Data (V.String (120 ∷ []))) ∷ (Data (V.Buffer ([]))) ∷ []);
  calls = (call (codes "M___" ∷ []) ([]) ∷ call (codes "N___" ∷ []) ([]) ∷ []);
  paths = ([]);
}

abbrev accessas_attribbytes_7_told : Told
accessas_attribbytes_7_told = record {
  results = ((Done (Normal false)) ∷ (gives (V.Package (element (number 1) no_elements))) ∷ (gives (Data (V.Buffer ([])))) ∷ []);
  events = ((E.Receive (codes "R___" ∷ []) 9 0 11 7 (ToResource (142 ∷ 18 ∷ 0 ∷ 2 ∷ 0 ∷ 1 ∷ 2 ∷ 0 ∷ 0 ∷ 1 ∷ 6 ∷ 0 ∷ 128 ∷ 26 ∷ 6 ∷ 0 ∷ 80 ∷ 0 ∷ 92 ∷ 65 ∷ 0 ∷ 121 ∷ 0 ∷ []))) ∷ (E.Transfer (codes "R___" ∷ []) 9 0 11 7 (ToResource (142 ∷ 18 ∷ 0 ∷ 2 ∷ 0 ∷ 1 ∷ 2 ∷ 0 ∷ 0 ∷ 1 ∷ 6 ∷ 0 ∷ 128 ∷ 26 ∷ 6 ∷ 0 ∷ 80 ∷ 0 ∷ 92 ∷ 65 ∷ 0 ∷ 121 ∷ 0 ∷ [])) (1 ∷ 2 ∷ [])) ∷ (E.Transfer (codes "R___" ∷ []) 9 1 11 7 (ToResource (142 ∷ 18 ∷ 0 ∷ 2 ∷ 0 ∷ 1 ∷ 2 ∷ 0 ∷ 0 ∷ 1 ∷ 6 ∷ 0 ∷ 128 ∷ 26 ∷ 6 ∷ 0 ∷ 80 ∷ 0 ∷ 92 ∷ 65 ∷ 0 ∷ 121 ∷ 0 ∷ [])) (97 ∷ 98 ∷ 0 ∷ [])) ∷ (E.Transfer (codes "R___" ∷ []) 9 32 11 7 (ToResource (142 ∷ 18 ∷ 0 ∷ 2 ∷ 0 ∷ 1 ∷ 2 ∷ 0 ∷ 0 ∷ 1 ∷ 6 ∷ 0 ∷ 128 ∷ 26 ∷ 6 ∷ 0 ∷ 80 ∷ 0 ∷ 92 ∷ 65 ∷ 0 ∷ 121 ∷ 0 ∷ [])) (5 ∷ 0 ∷ 0 ∷ 0 ∷ 0 ∷ 0 ∷ 0 ∷ 0 ∷ [])) ∷ (E.Receive (codes "R___" ∷ []) 9 32 11 7 (ToResource (142 ∷ 18 ∷ 0 ∷ 2 ∷ 0 ∷ 1 ∷ 2 ∷ 0 ∷ 0 ∷ 1 ∷ 6 ∷ 0 ∷ 128 ∷ 26 ∷ 6 ∷ 0 ∷ 80 ∷ 0 ∷ 92 ∷ 65 ∷ 0 ∷ 121 ∷ 0 ∷ []))) ∷ []);
  left = ([]);
  values = ([]);
}

accessas_attribbytes_7_encoded : written_whole W64 fields accessas_attribbytes_7 ≡ accessas_attribbytes_7_table
accessas_attribbytes_7_encoded = refl

accessas_attribbytes_7_right : name_errors accessas_attribbytes_7 ++ type_errors accessas_attribbytes_7 ≡ []
accessas_attribbytes_7_right = refl

accessas_attribbytes_7_by_source : of_source W64 accessas_attribbytes_7 accessas_attribbytes_7_asked ≡ accessas_attribbytes_7_told
accessas_attribbytes_7_by_source = refl

accessas_attribbytes_7_by_bytes : of_bytes accessas_attribbytes_7_table accessas_attribbytes_7_asked ≡ accessas_attribbytes_7_told
unfolding code_front
accessas_attribbytes_7_by_bytes = refl

-- accessas twice and connection twice
-- OperationRegion (R, GenericSerialBus, 0, 0x100) Name (C0, 1) Device (D) { Name (C1, 2) } Field (R, BufferAcc, NoLock, Preserve) {
-- Connection (C0), AccessAs (BufferAcc, AttribBytes (3)), A, 8, AccessAs (BufferAcc, AttribWord), Connection (D.C1), B1, 16, Connection
-- (\C0), C, 8 } Method (M) { Return (Package () { 1 }) } Method (N) { Debug = A Debug = B1 Debug = C }
abbrev accessas_twice_and_connection_twice : Trees
accessas_twice_and_connection_twice = (terms ((OperationRegion at (one "R___") 9 (terms ((Integer 0) ∷ (Integer 0x100) ∷ []))) ∷ (Name at (one "C0__") (Integer 1)) ∷ (Container' Device at (one "D___") (terms ((Name at (one "C1__") (Integer 2)) ∷ []))) ∷ (Field at at (one "R___") 5 ((ConnectionItem (ToName at (one "C0__"))) ∷ (AccessItem 5 11 (Some 3)) ∷ (unit "A___" 8) ∷ (AccessItem 5 8 None) ∷ (ConnectionItem (ToName at (path false 0 (codes "D___" ∷ codes "C1__" ∷ [])))) ∷ (unit "B1__" 16) ∷ (ConnectionItem (ToName at (path true 0 (codes "C0__" ∷ [])))) ∷ (unit "C___" 8) ∷ [])) ∷ (Method at (one "M___") 0 (terms ((Return (Package 1 (terms ((Integer 1) ∷ [])))) ∷ []))) ∷ (Method at (one "N___") 0 (terms ((Assigned DebugTerm (Use at (one "A___"))) ∷ (Assigned DebugTerm (Use at (one "B1__"))) ∷ (Assigned DebugTerm (Use at (one "C___"))) ∷ []))) ∷ []))

abbrev accessas_twice_and_connection_twice_table : List ℕ
accessas_twice_and_connection_twice_table =
    table_bytes fields (hex "5B 80 52 5F 5F 5F 09 00 0B 00 01 08 43 30 5F 5F 01 5B 82 0C 44 5F 5F 5F 08 43 31 5F 5F 0A 02 5B 81 31 52 5F 5F 5F 05 02"
    ++ hex "43 30 5F 5F 03 05 0B 03 41 5F 5F 5F 08 01 05 08 02 2E 44 5F 5F 5F 43 31 5F 5F 42 31 5F 5F 10 02 5C 43 30 5F 5F 43 5F 5F"
    ++ hex "5F 08 14 0B 4D 5F 5F 5F 00 A4 12 03 01 01 14 1B 4E 5F 5F 5F 00 70 41 5F 5F 5F 5B 31 70 42 31 5F 5F 5B 31 70 43 5F 5F 5F"
    ++ hex "5B 31")

abbrev accessas_twice_and_connection_twice_asked : Asked
accessas_twice_and_connection_twice_asked = record {
  there = present_ones (externals accessas_twice_and_connection_twice) ([]);
  bound = 8;
  answers = ((Data (V.Buffer (1 ∷ []))) ∷ (Data (V.Buffer (2 ∷ []))) ∷ (Data (V.Buffer (3 ∷ []))) ∷ []);
  calls = (call (codes "N___" ∷ []) ([]) ∷ []);
  paths = ((codes "C1__" ∷ codes "D___" ∷ []) ∷ (codes "C0__" ∷ []) ∷ []);
}

abbrev accessas_twice_and_connection_twice_told : Told
accessas_twice_and_connection_twice_told = record {
  results = ((Done (Normal false)) ∷ (Done NoValue) ∷ []);
  events = ((E.Receive (codes "R___" ∷ []) 9 0 11 3 (ToObject (codes "C0__" ∷ []))) ∷ (E.Debug (Data (V.Buffer (1 ∷ [])))) ∷ (E.Receive (codes "R___" ∷ []) 9 1 8 0 (ToObject (codes "C1__" ∷ codes "D___" ∷ []))) ∷ (E.Debug (Data (V.Buffer (2 ∷ [])))) ∷ (E.Receive (codes "R___" ∷ []) 9 3 8 0 (ToObject (codes "C0__" ∷ []))) ∷ (E.Debug (Data (V.Buffer (3 ∷ [])))) ∷ []);
  left = ([]);
  values = (Some (number 2) ∷ Some (number 1) ∷ []);
}

accessas_twice_and_connection_twice_encoded : written_whole W64 fields accessas_twice_and_connection_twice ≡ accessas_twice_and_connection_twice_table
accessas_twice_and_connection_twice_encoded = refl

accessas_twice_and_connection_twice_right : name_errors accessas_twice_and_connection_twice ++ type_errors accessas_twice_and_connection_twice ≡ []
accessas_twice_and_connection_twice_right = refl

accessas_twice_and_connection_twice_by_source : of_source W64 accessas_twice_and_connection_twice accessas_twice_and_connection_twice_asked ≡ accessas_twice_and_connection_twice_told
accessas_twice_and_connection_twice_by_source = refl

accessas_twice_and_connection_twice_by_bytes : of_bytes accessas_twice_and_connection_twice_table accessas_twice_and_connection_twice_asked ≡ accessas_twice_and_connection_twice_told
unfolding code_front
accessas_twice_and_connection_twice_by_bytes = refl

-- connection alias gone
-- OperationRegion (R, GenericSerialBus, 0, 0x100) Method (M) { Name (CC, 1) Alias (CC, AA) Field (R, BufferAcc,NoLock, Preserve) {
-- Connection (AA), F, 8 } Debug = F Return (F) }
abbrev connection_alias_gone : Trees
connection_alias_gone = (terms ((OperationRegion at (one "R___") 9 (terms ((Integer 0) ∷ (Integer 0x100) ∷ []))) ∷ (Method at (one "M___") 0 (terms ((Name at (one "CC__") (Integer 1)) ∷ (Alias at (one "CC__") at (one "AA__")) ∷ (Field at at (one "R___") 5 ((ConnectionItem (ToName at (one "AA__"))) ∷ (unit "F___" 8) ∷ [])) ∷ (Assigned DebugTerm (Use at (one "F___"))) ∷ (Return (Use at (one "F___"))) ∷ []))) ∷ []))

abbrev connection_alias_gone_table : List ℕ
connection_alias_gone_table =
    table_bytes fields (hex "5B 80 52 5F 5F 5F 09 00 0B 00 01 14 33 4D 5F 5F 5F 00 08 43 43 5F 5F 01 06 43 43 5F 5F 41 41 5F 5F 5B 81 10 52 5F 5F 5F"
    ++ hex "05 02 41 41 5F 5F 46 5F 5F 5F 08 70 46 5F 5F 5F 5B 31 A4 46 5F 5F 5F")

abbrev connection_alias_gone_asked : Asked
connection_alias_gone_asked = record {
  there = present_ones (externals connection_alias_gone) ([]);
  bound = 8;
  answers = ((Data (V.Buffer (1 ∷ []))) ∷ (Data (V.Buffer (2 ∷ []))) ∷ []);
  calls = (call (codes "M___" ∷ []) ([]) ∷ []);
  paths = ([]);
}

abbrev connection_alias_gone_told : Told
connection_alias_gone_told = record {
  results = ((Done (Normal false)) ∷ (gives (Data (V.Buffer (2 ∷ [])))) ∷ []);
  events = ((E.Receive (codes "R___" ∷ []) 9 0 0 0 (ToObject (codes "CC__" ∷ codes "M___" ∷ []))) ∷ (E.Debug (Data (V.Buffer (1 ∷ [])))) ∷ (E.Receive (codes "R___" ∷ []) 9 0 0 0 (ToObject (codes "CC__" ∷ codes "M___" ∷ []))) ∷ []);
  left = ([]);
  values = ([]);
}

connection_alias_gone_encoded : written_whole W64 fields connection_alias_gone ≡ connection_alias_gone_table
connection_alias_gone_encoded = refl

connection_alias_gone_right : name_errors connection_alias_gone ++ type_errors connection_alias_gone ≡ []
connection_alias_gone_right = refl

connection_alias_gone_by_source : of_source W64 connection_alias_gone connection_alias_gone_asked ≡ connection_alias_gone_told
connection_alias_gone_by_source = refl

connection_alias_gone_by_bytes : of_bytes connection_alias_gone_table connection_alias_gone_asked ≡ connection_alias_gone_told
unfolding code_front
connection_alias_gone_by_bytes = refl

-- connection missing at run
-- OperationRegion (R, GenericSerialBus, 0, 0x100) Method (M, 1) { If (Arg0) { Name (CC, 1) } Field (R, BufferAcc, NoLock, Preserve) { , 8
-- , Connection (CC), F, 8 } Return (CondRefOf (F)) }
abbrev connection_missing_at_run : Trees
connection_missing_at_run = (terms ((OperationRegion at (one "R___") 9 (terms ((Integer 0) ∷ (Integer 0x100) ∷ []))) ∷ (Method at (one "M___") 1 (terms ((If (arg 0) (terms ((Name at (one "CC__") (Integer 1)) ∷ []))) ∷ (Field at at (one "R___") 5 ((SkipItem 8) ∷ (ConnectionItem (ToName at (one "CC__"))) ∷ (unit "F___" 8) ∷ [])) ∷ (Return (CondRefOf (Use at (one "F___")) Omitted)) ∷ []))) ∷ []))

abbrev connection_missing_at_run_table : List ℕ
connection_missing_at_run_table =
    table_bytes fields (hex "5B 80 52 5F 5F 5F 09 00 0B 00 01 14 2B 4D 5F 5F 5F 01 A0 08 68 08 43 43 5F 5F 01 5B 81 12 52 5F 5F 5F 05 00 08 02 43 43"
    ++ hex "5F 5F 46 5F 5F 5F 08 A4 5B 12 46 5F 5F 5F 00")

abbrev connection_missing_at_run_asked : Asked
connection_missing_at_run_asked = record {
  there = present_ones (externals connection_missing_at_run) ([]);
  bound = 8;
  answers = ([]);
  calls = (call (codes "M___" ∷ []) ((number 0) ∷ []) ∷ call (codes "M___" ∷ []) ((number 1) ∷ []) ∷ []);
  paths = ([]);
}

abbrev connection_missing_at_run_told : Told
connection_missing_at_run_told = record {
  results = ((Done (Normal false)) ∷ (faults Fault.NotFound) ∷ (gives (number 0xFFFFFFFFFFFFFFFF)) ∷ []);
  events = ([]);
  left = ([]);
  values = ([]);
}

connection_missing_at_run_encoded : written_whole W64 fields connection_missing_at_run ≡ connection_missing_at_run_table
connection_missing_at_run_encoded = refl

connection_missing_at_run_right : name_errors connection_missing_at_run ++ type_errors connection_missing_at_run ≡ []
connection_missing_at_run_right = refl

connection_missing_at_run_by_source : of_source W64 connection_missing_at_run connection_missing_at_run_asked ≡ connection_missing_at_run_told
connection_missing_at_run_by_source = refl

connection_missing_at_run_by_bytes : of_bytes connection_missing_at_run_table connection_missing_at_run_asked ≡ connection_missing_at_run_told
unfolding code_front
connection_missing_at_run_by_bytes = refl

-- connection resets length
-- OperationRegion (R, GenericSerialBus, 0, 0x100) Name (C0, 0) Name (C1, 0) Field (R, BufferAcc, NoLock, Preserve) { AccessAs (BufferAcc,
-- AttribBytes (9)), Connection (C0), F, 8, Connection (C1), G, 8, AccessAs (BufferAcc), H, 8 } Method (M) { Debug = F Debug = G Debug = H
-- }
abbrev connection_resets_length : Trees
connection_resets_length = (terms ((OperationRegion at (one "R___") 9 (terms ((Integer 0) ∷ (Integer 0x100) ∷ []))) ∷ (Name at (one "C0__") (Integer 0)) ∷ (Name at (one "C1__") (Integer 0)) ∷ (Field at at (one "R___") 5 ((AccessItem 5 11 (Some 9)) ∷ (ConnectionItem (ToName at (one "C0__"))) ∷ (unit "F___" 8) ∷ (ConnectionItem (ToName at (one "C1__"))) ∷ (unit "G___" 8) ∷ (AccessItem 5 0 None) ∷ (unit "H___" 8) ∷ [])) ∷ (Method at (one "M___") 0 (terms ((Assigned DebugTerm (Use at (one "F___"))) ∷ (Assigned DebugTerm (Use at (one "G___"))) ∷ (Assigned DebugTerm (Use at (one "H___"))) ∷ []))) ∷ []))

abbrev connection_resets_length_table : List ℕ
connection_resets_length_table =
    table_bytes fields (hex "5B 80 52 5F 5F 5F 09 00 0B 00 01 08 43 30 5F 5F 00 08 43 31 5F 5F 00 5B 81 26 52 5F 5F 5F 05 03 05 0B 09 02 43 30 5F 5F"
    ++ hex "46 5F 5F 5F 08 02 43 31 5F 5F 47 5F 5F 5F 08 01 05 00 48 5F 5F 5F 08 14 1B 4D 5F 5F 5F 00 70 46 5F 5F 5F 5B 31 70 47 5F"
    ++ hex "5F 5F 5B 31 70 48 5F 5F 5F 5B 31")

abbrev connection_resets_length_asked : Asked
connection_resets_length_asked = record {
  there = present_ones (externals connection_resets_length) ([]);
  bound = 8;
  answers = ((Data (V.Buffer (1 ∷ []))) ∷ (Data (V.Buffer (2 ∷ []))) ∷ (Data (V.Buffer (3 ∷ []))) ∷ []);
  calls = (call (codes "M___" ∷ []) ([]) ∷ []);
  paths = ((codes "C1__" ∷ []) ∷ (codes "C0__" ∷ []) ∷ []);
}

abbrev connection_resets_length_told : Told
connection_resets_length_told = record {
  results = ((Done (Normal false)) ∷ (Done NoValue) ∷ []);
  events = ((E.Receive (codes "R___" ∷ []) 9 0 11 9 (ToObject (codes "C0__" ∷ []))) ∷ (E.Debug (Data (V.Buffer (1 ∷ [])))) ∷ (E.Receive (codes "R___" ∷ []) 9 1 11 9 (ToObject (codes "C1__" ∷ []))) ∷ (E.Debug (Data (V.Buffer (2 ∷ [])))) ∷ (E.Receive (codes "R___" ∷ []) 9 2 0 0 (ToObject (codes "C1__" ∷ []))) ∷ (E.Debug (Data (V.Buffer (3 ∷ [])))) ∷ []);
  left = ([]);
  values = (Some (number 0) ∷ Some (number 0) ∷ []);
}

connection_resets_length_encoded : written_whole W64 fields connection_resets_length ≡ connection_resets_length_table
connection_resets_length_encoded = refl

connection_resets_length_right : name_errors connection_resets_length ++ type_errors connection_resets_length ≡ []
connection_resets_length_right = refl

connection_resets_length_by_source : of_source W64 connection_resets_length connection_resets_length_asked ≡ connection_resets_length_told
connection_resets_length_by_source = refl

connection_resets_length_by_bytes : of_bytes connection_resets_length_table connection_resets_length_asked ≡ connection_resets_length_told
unfolding code_front
connection_resets_length_by_bytes = refl

-- smbus ipmi
-- OperationRegion (R, SMBus, 0x4200, 0x100) Field (R, BufferAcc, NoLock, Preserve) { AccessAs (BufferAcc, AttribByte), F, 8, Offset (5),
-- G, 8 } OperationRegion (I, IPMI, 0, 2) Field (I, BufferAcc, NoLock, Preserve) { , 8, H, 8 } Method (M) { Debug = F Debug = (G = 0x1234)
-- H++ Debug = SizeOf (H) Debug = ObjectType (G) }
abbrev smbus_ipmi : Trees
smbus_ipmi = (terms ((OperationRegion at (one "R___") 4 (terms ((Integer 0x4200) ∷ (Integer 0x100) ∷ []))) ∷ (Field at at (one "R___") 5 ((AccessItem 5 6 None) ∷ (unit "F___" 8) ∷ (OffsetItem 5) ∷ (unit "G___" 8) ∷ [])) ∷ (OperationRegion at (one "I___") 7 (terms ((Integer 0) ∷ (Integer 2) ∷ []))) ∷ (Field at at (one "I___") 5 ((SkipItem 8) ∷ (unit "H___" 8) ∷ [])) ∷ (Method at (one "M___") 0 (terms ((Assigned DebugTerm (Use at (one "F___"))) ∷ (Assigned DebugTerm (Assigned (Use at (one "G___")) (Integer 0x1234))) ∷ (Operated (Plain.Data DataOp.Increment) (terms ((Use at (one "H___")) ∷ []))) ∷ (Assigned DebugTerm (Apply (Plain.Data DataOp.SizeOf) (terms ((Use at (one "H___")) ∷ [])) no_trees)) ∷ (Assigned DebugTerm (Apply (Plain.Data DataOp.ObjectType) (terms ((Use at (one "G___")) ∷ [])) no_trees)) ∷ []))) ∷ []))

abbrev smbus_ipmi_table : List ℕ
smbus_ipmi_table =
    table_bytes fields (hex "5B 80 52 5F 5F 5F 04 0B 00 42 0B 00 01 5B 81 15 52 5F 5F 5F 05 01 05 06 46 5F 5F 5F 08 00 20 47 5F 5F 5F 08 5B 80 49 5F"
    ++ hex "5F 5F 07 00 0A 02 5B 81 0D 49 5F 5F 5F 05 00 08 48 5F 5F 5F 08 14 2D 4D 5F 5F 5F 00 70 46 5F 5F 5F 5B 31 70 70 0B 34 12"
    ++ hex "47 5F 5F 5F 5B 31 75 48 5F 5F 5F 70 87 48 5F 5F 5F 5B 31 70 8E 47 5F 5F 5F 5B 31")

abbrev smbus_ipmi_asked : Asked
smbus_ipmi_asked = record {
  there = present_ones (externals smbus_ipmi) ([]);
  bound = 8;
  answers = ((Data (V.Buffer (1 ∷ 2 ∷ []))) ∷ (Data (V.Buffer ([]))) ∷ (Data (V.Buffer (4 ∷ 0 ∷ []))) ∷ (Data (V.Buffer (8 ∷ []))) ∷ (Data (V.Buffer (1 ∷ 2 ∷ 3 ∷ []))) ∷ []);
  calls = (call (codes "M___" ∷ []) ([]) ∷ []);
  paths = ([]);
}

abbrev smbus_ipmi_told : Told
smbus_ipmi_told = record {
  results = ((Done (Normal false)) ∷ (Done NoValue) ∷ []);
  events = ((E.Receive (codes "R___" ∷ []) 4 0 6 0 Unconnected) ∷ (E.Debug (Data (V.Buffer (1 ∷ 2 ∷ [])))) ∷ (E.Transfer (codes "R___" ∷ []) 4 5 6 0 Unconnected (52 ∷ 18 ∷ 0 ∷ 0 ∷ 0 ∷ 0 ∷ 0 ∷ 0 ∷ [])) ∷ (E.Debug (Data (V.Buffer ([])))) ∷ (E.Receive (codes "I___" ∷ []) 7 1 0 0 Unconnected) ∷ (E.Transfer (codes "I___" ∷ []) 7 1 0 0 Unconnected (5 ∷ 0 ∷ 0 ∷ 0 ∷ 0 ∷ 0 ∷ 0 ∷ 0 ∷ [])) ∷ (E.Receive (codes "I___" ∷ []) 7 1 0 0 Unconnected) ∷ (E.Debug (number 3)) ∷ (E.Debug (number 5)) ∷ []);
  left = ([]);
  values = ([]);
}

smbus_ipmi_encoded : written_whole W64 fields smbus_ipmi ≡ smbus_ipmi_table
smbus_ipmi_encoded = refl

smbus_ipmi_right : name_errors smbus_ipmi ++ type_errors smbus_ipmi ≡ []
smbus_ipmi_right = refl

smbus_ipmi_by_source : of_source W64 smbus_ipmi smbus_ipmi_asked ≡ smbus_ipmi_told
smbus_ipmi_by_source = refl

smbus_ipmi_by_bytes : of_bytes smbus_ipmi_table smbus_ipmi_asked ≡ smbus_ipmi_told
unfolding code_front
smbus_ipmi_by_bytes = refl

-- offset units byte of receive
-- OperationRegion (R, SMBus, 0, 0x100) Field (R, BufferAcc, NoLock, Preserve) { , 5, F, 3, G, 13, Offset (0x30), H, 1 } Method (M) { Debug
-- = F Debug = G Debug = H }
abbrev offset_units_byte_of_receive : Trees
offset_units_byte_of_receive = (terms ((OperationRegion at (one "R___") 4 (terms ((Integer 0) ∷ (Integer 0x100) ∷ []))) ∷ (Field at at (one "R___") 5 ((SkipItem 5) ∷ (unit "F___" 3) ∷ (unit "G___" 13) ∷ (OffsetItem 48) ∷ (unit "H___" 1) ∷ [])) ∷ (Method at (one "M___") 0 (terms ((Assigned DebugTerm (Use at (one "F___"))) ∷ (Assigned DebugTerm (Use at (one "G___"))) ∷ (Assigned DebugTerm (Use at (one "H___"))) ∷ []))) ∷ []))

abbrev offset_units_byte_of_receive_table : List ℕ
offset_units_byte_of_receive_table =
    table_bytes fields (hex "5B 80 52 5F 5F 5F 04 00 0B 00 01 5B 81 1A 52 5F 5F 5F 05 00 05 46 5F 5F 5F 03 47 5F 5F 5F 0D 00 4B 16 48 5F 5F 5F 01 14"
    ++ hex "1B 4D 5F 5F 5F 00 70 46 5F 5F 5F 5B 31 70 47 5F 5F 5F 5B 31 70 48 5F 5F 5F 5B 31")

abbrev offset_units_byte_of_receive_asked : Asked
offset_units_byte_of_receive_asked = record {
  there = present_ones (externals offset_units_byte_of_receive) ([]);
  bound = 8;
  answers = ((Data (V.Buffer (1 ∷ []))) ∷ (Data (V.Buffer (2 ∷ []))) ∷ (Data (V.Buffer (3 ∷ []))) ∷ []);
  calls = (call (codes "M___" ∷ []) ([]) ∷ []);
  paths = ([]);
}

abbrev offset_units_byte_of_receive_told : Told
offset_units_byte_of_receive_told = record {
  results = ((Done (Normal false)) ∷ (Done NoValue) ∷ []);
  events = ((E.Receive (codes "R___" ∷ []) 4 0 0 0 Unconnected) ∷ (E.Debug (Data (V.Buffer (1 ∷ [])))) ∷ (E.Receive (codes "R___" ∷ []) 4 1 0 0 Unconnected) ∷ (E.Debug (Data (V.Buffer (2 ∷ [])))) ∷ (E.Receive (codes "R___" ∷ []) 4 48 0 0 Unconnected) ∷ (E.Debug (Data (V.Buffer (3 ∷ [])))) ∷ []);
  left = ([]);
  values = ([]);
}

offset_units_byte_of_receive_encoded : written_whole W64 fields offset_units_byte_of_receive ≡ offset_units_byte_of_receive_table
offset_units_byte_of_receive_encoded = refl

offset_units_byte_of_receive_right : name_errors offset_units_byte_of_receive ++ type_errors offset_units_byte_of_receive ≡ []
offset_units_byte_of_receive_right = refl

offset_units_byte_of_receive_by_source : of_source W64 offset_units_byte_of_receive offset_units_byte_of_receive_asked ≡ offset_units_byte_of_receive_told
offset_units_byte_of_receive_by_source = refl

offset_units_byte_of_receive_by_bytes : of_bytes offset_units_byte_of_receive_table offset_units_byte_of_receive_asked ≡ offset_units_byte_of_receive_told
unfolding code_front
offset_units_byte_of_receive_by_bytes = refl

-- pins read write
-- OperationRegion (R, GeneralPurposeIO, 0, 0x10) Field (R, ByteAcc, NoLock, Preserve) { Connection (GpioIo (Exclusive, PullUp, 0, 0,
-- IoRestrictionNone, "\\G") {5, 6}), A, 1, B1, 3, , 4, C, 70 } Method (M) { Debug = A Debug = B1 Debug = C A = 3 B1 = 0xFF C = Buffer ()
-- {1,2,3,4,5,6,7,8,0xFF,0xFF} C = "abcdefghijkl" B1 += 9 } Method (N) { A = Package () {} }
abbrev pins_read_write : Trees
pins_read_write = (terms ((OperationRegion at (one "R___") 8 (terms ((Integer 0) ∷ (Integer 16) ∷ []))) ∷ (Field at at (one "R___") 1 ((ConnectionItem (ToBytes (140 ∷ 27 ∷ 0 ∷ 1 ∷ 1 ∷ 1 ∷ 0 ∷ 0 ∷ 0 ∷ 1 ∷ 0 ∷ 0 ∷ 0 ∷ 0 ∷ 23 ∷ 0 ∷ 0 ∷ 27 ∷ 0 ∷ 30 ∷ 0 ∷ 0 ∷ 0 ∷ 5 ∷ 0 ∷ 6 ∷ 0 ∷ 92 ∷ 71 ∷ 0 ∷ 121 ∷ 0 ∷ []))) ∷ (unit "A___" 1) ∷ (unit "B1__" 3) ∷ (SkipItem 4) ∷ (unit "C___" 70) ∷ [])) ∷ (Method at (one "M___") 0 (terms ((Assigned DebugTerm (Use at (one "A___"))) ∷ (Assigned DebugTerm (Use at (one "B1__"))) ∷ (Assigned DebugTerm (Use at (one "C___"))) ∷ (Assigned (Use at (one "A___")) (Integer 3)) ∷ (Assigned (Use at (one "B1__")) (Integer 255)) ∷ (Assigned (Use at (one "C___")) (Buffer (Integer 10) (1 ∷ 2 ∷ 3 ∷ 4 ∷ 5 ∷ 6 ∷ 7 ∷ 8 ∷ 255 ∷ 255 ∷ []))) ∷ (Assigned (Use at (one "C___")) (String (codes "abcdefghijkl"))) ∷ (AssignedBy Compound.Add (Use at (one "B1__")) (Integer 9)) ∷ []))) ∷ (Method at (one "N___") 0 (terms ((Assigned (Use at (one "A___")) (Package 0 no_trees)) ∷ []))) ∷ []))

abbrev pins_read_write_table : List ℕ
pins_read_write_table =
    table_bytes fields (hex "5B 80 52 5F 5F 5F 08 00 0A 10 5B 81 3D 52 5F 5F 5F 01 02 11 23 0A 20 8C 1B 00 01 01 01 00 00 00 01 00 00 00 00 17 00 00"
    ++ hex "1B 00 1E 00 00 00 05 00 06 00 5C 47 00 79 00 41 5F 5F 5F 01 42 31 5F 5F 03 00 04 43 5F 5F 5F 46 04 14 4B 05 4D 5F 5F 5F"
    ++ hex "00 70 41 5F 5F 5F 5B 31 70 42 31 5F 5F 5B 31 70 43 5F 5F 5F 5B 31 70 0A 03 41 5F 5F 5F 70 0A FF 42 31 5F 5F 70 11 0D 0A"
    ++ hex "0A 01 02 03 04 05 06 07 08 FF FF 43 5F 5F 5F 70 0D 61 62 63 64 65 66 67 68 69 6A 6B 6C 00 43 5F 5F 5F 72 42 31 5F 5F 0A"
    ++ hex "09 42 31 5F 5F 14 0E 4E 5F 5F 5F 00 70 12 02 00 41 5F 5F 5F")

abbrev pins_read_write_asked : Asked
pins_read_write_asked = record {
  there = present_ones (externals pins_read_write) ([]);
  bound = 8;
  answers = ((number 3) ∷ (number 253) ∷ (number 0xFFFFFFFFFFFFFFFF) ∷ (number 6) ∷ []);
  calls = (call (codes "M___" ∷ []) ([]) ∷ call (codes "N___" ∷ []) ([]) ∷ []);
  paths = ([]);
}

abbrev pins_read_write_told : Told
pins_read_write_told = record {
  results = ((Done (Normal false)) ∷ (Done NoValue) ∷ (faults Fault.WrongType) ∷ []);
  events = ((E.ReadPins (codes "R___" ∷ []) 0 1 (ToResource (140 ∷ 27 ∷ 0 ∷ 1 ∷ 1 ∷ 1 ∷ 0 ∷ 0 ∷ 0 ∷ 1 ∷ 0 ∷ 0 ∷ 0 ∷ 0 ∷ 23 ∷ 0 ∷ 0 ∷ 27 ∷ 0 ∷ 30 ∷ 0 ∷ 0 ∷ 0 ∷ 5 ∷ 0 ∷ 6 ∷ 0 ∷ 92 ∷ 71 ∷ 0 ∷ 121 ∷ 0 ∷ []))) ∷ (E.Debug (number 1)) ∷ (E.ReadPins (codes "R___" ∷ []) 1 3 (ToResource (140 ∷ 27 ∷ 0 ∷ 1 ∷ 1 ∷ 1 ∷ 0 ∷ 0 ∷ 0 ∷ 1 ∷ 0 ∷ 0 ∷ 0 ∷ 0 ∷ 23 ∷ 0 ∷ 0 ∷ 27 ∷ 0 ∷ 30 ∷ 0 ∷ 0 ∷ 0 ∷ 5 ∷ 0 ∷ 6 ∷ 0 ∷ 92 ∷ 71 ∷ 0 ∷ 121 ∷ 0 ∷ []))) ∷ (E.Debug (number 5)) ∷ (E.ReadPins (codes "R___" ∷ []) 8 70 (ToResource (140 ∷ 27 ∷ 0 ∷ 1 ∷ 1 ∷ 1 ∷ 0 ∷ 0 ∷ 0 ∷ 1 ∷ 0 ∷ 0 ∷ 0 ∷ 0 ∷ 23 ∷ 0 ∷ 0 ∷ 27 ∷ 0 ∷ 30 ∷ 0 ∷ 0 ∷ 0 ∷ 5 ∷ 0 ∷ 6 ∷ 0 ∷ 92 ∷ 71 ∷ 0 ∷ 121 ∷ 0 ∷ []))) ∷ (E.Debug (Data (V.Buffer (255 ∷ 255 ∷ 255 ∷ 255 ∷ 255 ∷ 255 ∷ 255 ∷ 255 ∷ 0 ∷ [])))) ∷ (E.WritePins (codes "R___" ∷ []) 0 1 (ToResource (140 ∷ 27 ∷ 0 ∷ 1 ∷ 1 ∷ 1 ∷ 0 ∷ 0 ∷ 0 ∷ 1 ∷ 0 ∷ 0 ∷ 0 ∷ 0 ∷ 23 ∷ 0 ∷ 0 ∷ 27 ∷ 0 ∷ 30 ∷ 0 ∷ 0 ∷ 0 ∷ 5 ∷ 0 ∷ 6 ∷ 0 ∷ 92 ∷ 71 ∷ 0 ∷ 121 ∷ 0 ∷ [])) 1) ∷ (E.WritePins (codes "R___" ∷ []) 1 3 (ToResource (140 ∷ 27 ∷ 0 ∷ 1 ∷ 1 ∷ 1 ∷ 0 ∷ 0 ∷ 0 ∷ 1 ∷ 0 ∷ 0 ∷ 0 ∷ 0 ∷ 23 ∷ 0 ∷ 0 ∷ 27 ∷ 0 ∷ 30 ∷ 0 ∷ 0 ∷ 0 ∷ 5 ∷ 0 ∷ 6 ∷ 0 ∷ 92 ∷ 71 ∷ 0 ∷ 121 ∷ 0 ∷ [])) 7) ∷ (E.WritePins (codes "R___" ∷ []) 8 70 (ToResource (140 ∷ 27 ∷ 0 ∷ 1 ∷ 1 ∷ 1 ∷ 0 ∷ 0 ∷ 0 ∷ 1 ∷ 0 ∷ 0 ∷ 0 ∷ 0 ∷ 23 ∷ 0 ∷ 0 ∷ 27 ∷ 0 ∷ 30 ∷ 0 ∷ 0 ∷ 0 ∷ 5 ∷ 0 ∷ 6 ∷ 0 ∷ 92 ∷ 71 ∷ 0 ∷ 121 ∷ 0 ∷ [])) 0x3F0807060504030201) ∷ (E.WritePins (codes "R___" ∷ []) 8 70 (ToResource (140 ∷ 27 ∷ 0 ∷ 1 ∷ 1 ∷ 1 ∷ 0 ∷ 0 ∷ 0 ∷ 1 ∷ 0 ∷ 0 ∷ 0 ∷ 0 ∷ 23 ∷ 0 ∷ 0 ∷ 27 ∷ 0 ∷ 30 ∷ 0 ∷ 0 ∷ 0 ∷ 5 ∷ 0 ∷ 6 ∷ 0 ∷ 92 ∷ 71 ∷ 0 ∷ 121 ∷ 0 ∷ [])) 0x296867666564636261) ∷ (E.ReadPins (codes "R___" ∷ []) 1 3 (ToResource (140 ∷ 27 ∷ 0 ∷ 1 ∷ 1 ∷ 1 ∷ 0 ∷ 0 ∷ 0 ∷ 1 ∷ 0 ∷ 0 ∷ 0 ∷ 0 ∷ 23 ∷ 0 ∷ 0 ∷ 27 ∷ 0 ∷ 30 ∷ 0 ∷ 0 ∷ 0 ∷ 5 ∷ 0 ∷ 6 ∷ 0 ∷ 92 ∷ 71 ∷ 0 ∷ 121 ∷ 0 ∷ []))) ∷ (E.WritePins (codes "R___" ∷ []) 1 3 (ToResource (140 ∷ 27 ∷ 0 ∷ 1 ∷ 1 ∷ 1 ∷ 0 ∷ 0 ∷ 0 ∷ 1 ∷ 0 ∷ 0 ∷ 0 ∷ 0 ∷ 23 ∷ 0 ∷ 0 ∷ 27 ∷ 0 ∷ 30 ∷ 0 ∷ 0 ∷ 0 ∷ 5 ∷ 0 ∷ 6 ∷ 0 ∷ 92 ∷ 71 ∷ 0 ∷ 121 ∷ 0 ∷ [])) 7) ∷ []);
  left = ([]);
  values = ([]);
}

pins_read_write_encoded : written_whole W64 fields pins_read_write ≡ pins_read_write_table
pins_read_write_encoded = refl

pins_read_write_right : name_errors pins_read_write ++ type_errors pins_read_write ≡ []
pins_read_write_right = refl

pins_read_write_by_source : of_source W64 pins_read_write pins_read_write_asked ≡ pins_read_write_told
pins_read_write_by_source = refl

pins_read_write_by_bytes : of_bytes pins_read_write_table pins_read_write_asked ≡ pins_read_write_told
unfolding code_front
pins_read_write_by_bytes = refl

-- pins answers of other kinds
-- OperationRegion (R, GeneralPurposeIO, 0, 0x10) Field (R, AnyAcc, NoLock, Preserve) { Connection (GpioInt (Edge, ActiveBoth, Shared, 3,
-- 10, "\\G") {1}), A, 2 } Method (M) { Return (A) }
abbrev pins_answers_of_other_kinds : Trees
pins_answers_of_other_kinds = (terms ((OperationRegion at (one "R___") 8 (terms ((Integer 0) ∷ (Integer 16) ∷ []))) ∷ (Field at at (one "R___") 0 ((ConnectionItem (ToBytes (140 ∷ 25 ∷ 0 ∷ 1 ∷ 0 ∷ 1 ∷ 0 ∷ 13 ∷ 0 ∷ 3 ∷ 0 ∷ 0 ∷ 10 ∷ 0 ∷ 23 ∷ 0 ∷ 0 ∷ 25 ∷ 0 ∷ 28 ∷ 0 ∷ 0 ∷ 0 ∷ 1 ∷ 0 ∷ 92 ∷ 71 ∷ 0 ∷ 121 ∷ 0 ∷ []))) ∷ (unit "A___" 2) ∷ [])) ∷ (Method at (one "M___") 0 (terms ((Return (Use at (one "A___"))) ∷ []))) ∷ []))

abbrev pins_answers_of_other_kinds_table : List ℕ
pins_answers_of_other_kinds_table =
    table_bytes fields (hex "5B 80 52 5F 5F 5F 08 00 0A 10 5B 81 2E 52 5F 5F 5F 00 02 11 21 0A 1E 8C 19 00 01 00 01 00 0D 00 03 00 00 0A 00 17 00 00"
    ++ hex "19 00 1C 00 00 00 01 00 5C 47 00 79 00 41 5F 5F 5F 02 14 0B 4D 5F 5F 5F 00 A4 41 5F 5F 5F")

abbrev pins_answers_of_other_kinds_asked : Asked
pins_answers_of_other_kinds_asked = record {
  there = present_ones (externals pins_answers_of_other_kinds) ([]);
  bound = 8;
  answers = ((Data (V.String (49 ∷ []))) ∷ (Data (V.Buffer (3 ∷ []))) ∷ (number 7) ∷ []);
  calls = (call (codes "M___" ∷ []) ([]) ∷ call (codes "M___" ∷ []) ([]) ∷ call (codes "M___" ∷ []) ([]) ∷ []);
  paths = ([]);
}

abbrev pins_answers_of_other_kinds_told : Told
pins_answers_of_other_kinds_told = record {
  results = ((Done (Normal false)) ∷ (gives (number 0)) ∷ (gives (number 0)) ∷ (gives (number 3)) ∷ []);
  events = ((E.ReadPins (codes "R___" ∷ []) 0 2 (ToResource (140 ∷ 25 ∷ 0 ∷ 1 ∷ 0 ∷ 1 ∷ 0 ∷ 13 ∷ 0 ∷ 3 ∷ 0 ∷ 0 ∷ 10 ∷ 0 ∷ 23 ∷ 0 ∷ 0 ∷ 25 ∷ 0 ∷ 28 ∷ 0 ∷ 0 ∷ 0 ∷ 1 ∷ 0 ∷ 92 ∷ 71 ∷ 0 ∷ 121 ∷ 0 ∷ []))) ∷ (E.ReadPins (codes "R___" ∷ []) 0 2 (ToResource (140 ∷ 25 ∷ 0 ∷ 1 ∷ 0 ∷ 1 ∷ 0 ∷ 13 ∷ 0 ∷ 3 ∷ 0 ∷ 0 ∷ 10 ∷ 0 ∷ 23 ∷ 0 ∷ 0 ∷ 25 ∷ 0 ∷ 28 ∷ 0 ∷ 0 ∷ 0 ∷ 1 ∷ 0 ∷ 92 ∷ 71 ∷ 0 ∷ 121 ∷ 0 ∷ []))) ∷ (E.ReadPins (codes "R___" ∷ []) 0 2 (ToResource (140 ∷ 25 ∷ 0 ∷ 1 ∷ 0 ∷ 1 ∷ 0 ∷ 13 ∷ 0 ∷ 3 ∷ 0 ∷ 0 ∷ 10 ∷ 0 ∷ 23 ∷ 0 ∷ 0 ∷ 25 ∷ 0 ∷ 28 ∷ 0 ∷ 0 ∷ 0 ∷ 1 ∷ 0 ∷ 92 ∷ 71 ∷ 0 ∷ 121 ∷ 0 ∷ []))) ∷ []);
  left = ([]);
  values = ([]);
}

pins_answers_of_other_kinds_encoded : written_whole W64 fields pins_answers_of_other_kinds ≡ pins_answers_of_other_kinds_table
pins_answers_of_other_kinds_encoded = refl

pins_answers_of_other_kinds_right : name_errors pins_answers_of_other_kinds ++ type_errors pins_answers_of_other_kinds ≡ []
pins_answers_of_other_kinds_right = refl

pins_answers_of_other_kinds_by_source : of_source W64 pins_answers_of_other_kinds pins_answers_of_other_kinds_asked ≡ pins_answers_of_other_kinds_told
pins_answers_of_other_kinds_by_source = refl

pins_answers_of_other_kinds_by_bytes : of_bytes pins_answers_of_other_kinds_table pins_answers_of_other_kinds_asked ≡ pins_answers_of_other_kinds_told
unfolding code_front
pins_answers_of_other_kinds_by_bytes = refl
