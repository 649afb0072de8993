-- Sessions over units that are Buffers: as operands and registers, through References, and of external regions. Another implementation
-- gives the values.
use Rattle.std.proofs.Common.{◌≡◌, ℕ, true, false, List, [], ◌∷◌, ◌++◌, None, refl}
use Rattle.std.specs.Prelude.{codes}
use Rattle.acpi_values.specs.declared.width.Width.TheVariants.{W64}
use Rattle.acpi_values.specs.declared.fault.Fault.TheVariants as Fault
use Rattle.acpi_values.specs.declared.operator.IntOp.TheVariants as IntOp
use Rattle.acpi_values.specs.declared.operator.DataOp.TheVariants as DataOp
use Rattle.acpi_values.specs.declared.operator.EventOp.TheVariants as EventOp
use Rattle.acpi_values.specs.declared.operator.Plain.TheVariants as Plain
use Rattle.acpi_values.specs.Values as V
use Rattle.acpi_values.specs.Values.{Value, Data, no_elements, uninitialized, element, Named, LocalOf, ArgOf, ElementAt, ElementOf}
use Rattle.acpi_state.specs.Objects as E
use Rattle.acpi_state.specs.Objects.{Device, ThermalZone, PowerResource, Processor}
use Rattle.acpi_state.specs.FieldUnits.{Unconnected, ToResource}
use Rattle.acpi_state.specs.Outcomes.{Normal, NoValue, Unfinished, Done, Stopped}
use Rattle.acpi_state.specs.Sessions.{present_ones}
use Rattle.asl_tree.specs.declared.term.Compound.TheVariants as Compound
use Rattle.asl_tree.specs.FieldItems.{SkipItem, AccessItem, ConnectionItem, ToName, ToBytes}
use Rattle.asl_tree.specs.Tree.{Integer, String, Debug as DebugTerm, Omitted, Use, Call, Apply, Operated, Assigned}
use Rattle.asl_tree.specs.Tree.{AssignedBy, Return, External, Method}
use Rattle.asl_tree.specs.Tree.{OperationRegion, Field, IndexField, BankField, Trees, no_trees}
use Rattle.asl_meaning.specs.Declarations.{externals}
use Rattle.aml_meaning.specs.Codes.{code_front}
use Rattle.aml_code.specs.Header.{table_bytes}
use Rattle.acpi_names.specs.Errors.{name_errors, type_errors}
use Rattle.meaning_rows.proofs.Rows.{at, fields}
use Rattle.meaning_rows.proofs.Outside.{hex, number, reference, call, Asked, Told, gives, faults, of_bytes, of_source, written_whole, terms, path, one, local, arg, unit}

-- buffer unit as operand
-- OperationRegion (R, SMBus, 0, 0x100) Field (R, BufferAcc, NoLock, Preserve) { F, 8 } Method (M) { Return (F + 1) } Method (N) { Return
-- (F [1]) } Method (O) { Return (Concatenate ("x", F)) } Method (Q) { F += 3 } Method (W) { Local0 = (Local1 = (F = 3)) Return (Local0) }
abbrev buffer_unit_as_operand : Trees
buffer_unit_as_operand = (terms ((OperationRegion at (one "R___") 4 (terms ((Integer 0) ∷ (Integer 0x100) ∷ []))) ∷ (Field at at (one "R___") 5 ((unit "F___" 8) ∷ [])) ∷ (Method at (one "M___") 0 (terms ((Return (Operated (Plain.Number IntOp.Add) (terms ((Use at (one "F___")) ∷ (Integer 1) ∷ [])))) ∷ []))) ∷ (Method at (one "N___") 0 (terms ((Return (Operated (Plain.Data DataOp.Index) (terms ((Use at (one "F___")) ∷ (Integer 1) ∷ [])))) ∷ []))) ∷ (Method at (one "O___") 0 (terms ((Return (Apply (Plain.Data DataOp.Concatenate) (terms ((String (codes "x")) ∷ (Use at (one "F___")) ∷ [])) (terms (Omitted ∷ [])))) ∷ []))) ∷ (Method at (one "Q___") 0 (terms ((AssignedBy Compound.Add (Use at (one "F___")) (Integer 3)) ∷ []))) ∷ (Method at (one "W___") 0 (terms ((Assigned (local 0) (Assigned (local 1) (Assigned (Use at (one "F___")) (Integer 3)))) ∷ (Return (local 0)) ∷ []))) ∷ []))

abbrev buffer_unit_as_operand_table : List ℕ
buffer_unit_as_operand_table =
    table_bytes fields (hex "5B 80 52 5F 5F 5F 04 00 0B 00 01 5B 81 0B 52 5F 5F 5F 05 46 5F 5F 5F 08 14 0E 4D 5F 5F 5F 00 A4 72 46 5F 5F 5F 01 00 14"
    ++ hex "0E 4E 5F 5F 5F 00 A4 88 46 5F 5F 5F 01 00 14 10 4F 5F 5F 5F 00 A4 73 0D 78 00 46 5F 5F 5F 00 14 11 51 5F 5F 5F 00 72 46"
    ++ hex "5F 5F 5F 0A 03 46 5F 5F 5F 14 13 57 5F 5F 5F 00 70 70 70 0A 03 46 5F 5F 5F 61 60 A4 60")

abbrev buffer_unit_as_operand_asked : Asked
buffer_unit_as_operand_asked = record {
  there = present_ones (externals buffer_unit_as_operand) ([]);
  bound = 8;
  answers = ((Data (V.Buffer (9 ∷ 1 ∷ []))) ∷ (Data (V.Buffer (5 ∷ 6 ∷ []))) ∷ (Data (V.Buffer (7 ∷ []))) ∷ (Data (V.Buffer (1 ∷ []))) ∷ (Data (V.Buffer (238 ∷ []))) ∷ (Data (V.Buffer (3 ∷ 3 ∷ []))) ∷ (Data (V.Buffer ([]))) ∷ (Data (V.String (97 ∷ []))) ∷ []);
  calls = (call (codes "M___" ∷ []) ([]) ∷ call (codes "N___" ∷ []) ([]) ∷ call (codes "O___" ∷ []) ([]) ∷ call (codes "Q___" ∷ []) ([]) ∷ call (codes "W___" ∷ []) ([]) ∷ call (codes "M___" ∷ []) ([]) ∷ call (codes "M___" ∷ []) ([]) ∷ []);
  paths = ([]);
}

abbrev buffer_unit_as_operand_told : Told
buffer_unit_as_operand_told = record {
  results = ((Done (Normal false)) ∷ (gives (number 0x10A)) ∷ (gives (reference (ElementOf (Data (V.Buffer (5 ∷ 6 ∷ []))) 1))) ∷ (gives (Data (V.String (120 ∷ 48 ∷ 55 ∷ [])))) ∷ (Done NoValue) ∷ (gives (Data (V.Buffer (3 ∷ 3 ∷ [])))) ∷ (faults Fault.EmptyValue) ∷ (faults Fault.EmptyValue) ∷ []);
  events = ((E.Receive (codes "R___" ∷ []) 4 0 0 0 Unconnected) ∷ (E.Receive (codes "R___" ∷ []) 4 0 0 0 Unconnected) ∷ (E.Receive (codes "R___" ∷ []) 4 0 0 0 Unconnected) ∷ (E.Receive (codes "R___" ∷ []) 4 0 0 0 Unconnected) ∷ (E.Transfer (codes "R___" ∷ []) 4 0 0 0 Unconnected (4 ∷ 0 ∷ 0 ∷ 0 ∷ 0 ∷ 0 ∷ 0 ∷ 0 ∷ [])) ∷ (E.Transfer (codes "R___" ∷ []) 4 0 0 0 Unconnected (3 ∷ 0 ∷ 0 ∷ 0 ∷ 0 ∷ 0 ∷ 0 ∷ 0 ∷ [])) ∷ (E.Receive (codes "R___" ∷ []) 4 0 0 0 Unconnected) ∷ (E.Receive (codes "R___" ∷ []) 4 0 0 0 Unconnected) ∷ []);
  left = ([]);
  values = ([]);
}

buffer_unit_as_operand_encoded : written_whole W64 fields buffer_unit_as_operand ≡ buffer_unit_as_operand_table
buffer_unit_as_operand_encoded = refl

buffer_unit_as_operand_right : name_errors buffer_unit_as_operand ++ type_errors buffer_unit_as_operand ≡ []
buffer_unit_as_operand_right = refl

buffer_unit_as_operand_by_source : of_source W64 buffer_unit_as_operand buffer_unit_as_operand_asked ≡ buffer_unit_as_operand_told
buffer_unit_as_operand_by_source = refl

buffer_unit_as_operand_by_bytes : of_bytes buffer_unit_as_operand_table buffer_unit_as_operand_asked ≡ buffer_unit_as_operand_told
unfolding code_front
buffer_unit_as_operand_by_bytes = refl

-- buffer unit write kinds
-- OperationRegion (R, SMBus, 0, 0x100) Field (R, BufferAcc, NoLock, Preserve) { F, 8 } Method (M, 1) { Return (F = Arg0) } Method (N, 1) {
-- Return (Store (Arg0, F)) } Method (Q, 1) { Return (Add (Arg0, 1, F)) }
abbrev buffer_unit_write_kinds : Trees
buffer_unit_write_kinds = (terms ((OperationRegion at (one "R___") 4 (terms ((Integer 0) ∷ (Integer 0x100) ∷ []))) ∷ (Field at at (one "R___") 5 ((unit "F___" 8) ∷ [])) ∷ (Method at (one "M___") 1 (terms ((Return (Assigned (Use at (one "F___")) (arg 0))) ∷ []))) ∷ (Method at (one "N___") 1 (terms ((Return (Apply (Plain.Data DataOp.Store) (terms ((arg 0) ∷ (Use at (one "F___")) ∷ [])) no_trees)) ∷ []))) ∷ (Method at (one "Q___") 1 (terms ((Return (Apply (Plain.Number IntOp.Add) (terms ((arg 0) ∷ (Integer 1) ∷ [])) (terms ((Use at (one "F___")) ∷ [])))) ∷ []))) ∷ []))

abbrev buffer_unit_write_kinds_table : List ℕ
buffer_unit_write_kinds_table =
    table_bytes fields (hex "5B 80 52 5F 5F 5F 04 00 0B 00 01 5B 81 0B 52 5F 5F 5F 05 46 5F 5F 5F 08 14 0D 4D 5F 5F 5F 01 A4 70 68 46 5F 5F 5F 14 0D"
    ++ hex "4E 5F 5F 5F 01 A4 70 68 46 5F 5F 5F 14 0E 51 5F 5F 5F 01 A4 72 68 01 46 5F 5F 5F")

abbrev buffer_unit_write_kinds_asked : Asked
buffer_unit_write_kinds_asked = record {
  there = present_ones (externals buffer_unit_write_kinds) ([]);
  bound = 8;
  answers = ((Data (V.Buffer (1 ∷ []))) ∷ (number 2) ∷ (Data (V.String (113 ∷ []))) ∷ (Data (V.Buffer (4 ∷ []))) ∷ (Data (V.Buffer (5 ∷ []))) ∷ (Data (V.Buffer (6 ∷ []))) ∷ (Data (V.Buffer (7 ∷ []))) ∷ []);
  calls = (call (codes "M___" ∷ []) ((Data (V.String (97 ∷ 98 ∷ []))) ∷ []) ∷ call (codes "M___" ∷ []) ((Data (V.String ([]))) ∷ []) ∷ call (codes "M___" ∷ []) ((Data (V.Buffer ([]))) ∷ []) ∷ call (codes "M___" ∷ []) ((number 3) ∷ []) ∷ call (codes "M___" ∷ []) ((V.Package no_elements) ∷ []) ∷ call (codes "N___" ∷ []) ((reference (Named (codes "F___" ∷ []))) ∷ []) ∷ call (codes "N___" ∷ []) ((reference (Named (codes "M___" ∷ []))) ∷ []) ∷ call (codes "Q___" ∷ []) ((number 1) ∷ []) ∷ call (codes "M___" ∷ []) ((number 1) ∷ []) ∷ []);
  paths = ([]);
}

abbrev buffer_unit_write_kinds_told : Told
buffer_unit_write_kinds_told = record {
  results = ((Done (Normal false)) ∷ (gives (Data (V.Buffer (1 ∷ [])))) ∷ (gives (Data (V.Buffer ([])))) ∷ (gives (Data (V.Buffer ([])))) ∷ (gives (Data (V.Buffer (4 ∷ [])))) ∷ (faults Fault.WrongType) ∷ (gives (Data (V.Buffer (6 ∷ [])))) ∷ (faults Fault.WrongType) ∷ (gives (number 2)) ∷ (Stopped Unfinished) ∷ []);
  events = ((E.Transfer (codes "R___" ∷ []) 4 0 0 0 Unconnected (97 ∷ 98 ∷ 0 ∷ [])) ∷ (E.Transfer (codes "R___" ∷ []) 4 0 0 0 Unconnected ([])) ∷ (E.Transfer (codes "R___" ∷ []) 4 0 0 0 Unconnected ([])) ∷ (E.Transfer (codes "R___" ∷ []) 4 0 0 0 Unconnected (3 ∷ 0 ∷ 0 ∷ 0 ∷ 0 ∷ 0 ∷ 0 ∷ 0 ∷ [])) ∷ (E.Receive (codes "R___" ∷ []) 4 0 0 0 Unconnected) ∷ (E.Transfer (codes "R___" ∷ []) 4 0 0 0 Unconnected (5 ∷ [])) ∷ (E.Transfer (codes "R___" ∷ []) 4 0 0 0 Unconnected (2 ∷ 0 ∷ 0 ∷ 0 ∷ 0 ∷ 0 ∷ 0 ∷ 0 ∷ [])) ∷ (E.Transfer (codes "R___" ∷ []) 4 0 0 0 Unconnected (1 ∷ 0 ∷ 0 ∷ 0 ∷ 0 ∷ 0 ∷ 0 ∷ 0 ∷ [])) ∷ []);
  left = ([]);
  values = ([]);
}

buffer_unit_write_kinds_encoded : written_whole W64 fields buffer_unit_write_kinds ≡ buffer_unit_write_kinds_table
buffer_unit_write_kinds_encoded = refl

buffer_unit_write_kinds_right : name_errors buffer_unit_write_kinds ++ type_errors buffer_unit_write_kinds ≡ []
buffer_unit_write_kinds_right = refl

buffer_unit_write_kinds_by_source : of_source W64 buffer_unit_write_kinds buffer_unit_write_kinds_asked ≡ buffer_unit_write_kinds_told
buffer_unit_write_kinds_by_source = refl

buffer_unit_write_kinds_by_bytes : of_bytes buffer_unit_write_kinds_table buffer_unit_write_kinds_asked ≡ buffer_unit_write_kinds_told
unfolding code_front
buffer_unit_write_kinds_by_bytes = refl

-- ref to buffer unit
-- OperationRegion (R, SMBus, 0, 0x100) Field (R, BufferAcc, NoLock, Preserve) { F, 8 } Method (T, 1) { Return (Arg0 = 5) } Method (M) {
-- Local0 = RefOf (F) Debug = DerefOf (Local0) DerefOf (Local0) = 7 Return (T (Local0)) } Method (N) { Local0 = RefOf (F) Return (Local0
-- [0]) }
abbrev ref_to_buffer_unit : Trees
ref_to_buffer_unit = (terms ((OperationRegion at (one "R___") 4 (terms ((Integer 0) ∷ (Integer 0x100) ∷ []))) ∷ (Field at at (one "R___") 5 ((unit "F___" 8) ∷ [])) ∷ (Method at (one "T___") 1 (terms ((Return (Assigned (arg 0) (Integer 5))) ∷ []))) ∷ (Method at (one "M___") 0 (terms ((Assigned (local 0) (Apply (Plain.Data DataOp.RefOf) (terms ((Use at (one "F___")) ∷ [])) no_trees)) ∷ (Assigned DebugTerm (Apply (Plain.Data DataOp.DerefOf) (terms ((local 0) ∷ [])) no_trees)) ∷ (Assigned (Apply (Plain.Data DataOp.DerefOf) (terms ((local 0) ∷ [])) no_trees) (Integer 7)) ∷ (Return (Call at (one "T___") (terms ((local 0) ∷ [])))) ∷ []))) ∷ (Method at (one "N___") 0 (terms ((Assigned (local 0) (Apply (Plain.Data DataOp.RefOf) (terms ((Use at (one "F___")) ∷ [])) no_trees)) ∷ (Return (Operated (Plain.Data DataOp.Index) (terms ((local 0) ∷ (Integer 0) ∷ [])))) ∷ []))) ∷ []))

abbrev ref_to_buffer_unit_table : List ℕ
ref_to_buffer_unit_table =
    table_bytes fields (hex "5B 80 52 5F 5F 5F 04 00 0B 00 01 5B 81 0B 52 5F 5F 5F 05 46 5F 5F 5F 08 14 0B 54 5F 5F 5F 01 A4 70 0A 05 68 14 1D 4D 5F"
    ++ hex "5F 5F 00 70 71 46 5F 5F 5F 60 70 83 60 5B 31 70 0A 07 83 60 A4 54 5F 5F 5F 60 14 12 4E 5F 5F 5F 00 70 71 46 5F 5F 5F 60"
    ++ hex "A4 88 60 00 00")

abbrev ref_to_buffer_unit_asked : Asked
ref_to_buffer_unit_asked = record {
  there = present_ones (externals ref_to_buffer_unit) ([]);
  bound = 8;
  answers = ((Data (V.Buffer (1 ∷ []))) ∷ (Data (V.Buffer (2 ∷ []))) ∷ (Data (V.Buffer (3 ∷ []))) ∷ (Data (V.Buffer (4 ∷ []))) ∷ []);
  calls = (call (codes "M___" ∷ []) ([]) ∷ call (codes "N___" ∷ []) ([]) ∷ []);
  paths = ([]);
}

abbrev ref_to_buffer_unit_told : Told
ref_to_buffer_unit_told = record {
  results = ((Done (Normal false)) ∷ (gives (Data (V.Buffer (3 ∷ [])))) ∷ (gives (reference (ElementOf (Data (V.Buffer (4 ∷ []))) 0))) ∷ []);
  events = ((E.Receive (codes "R___" ∷ []) 4 0 0 0 Unconnected) ∷ (E.Debug (Data (V.Buffer (1 ∷ [])))) ∷ (E.Transfer (codes "R___" ∷ []) 4 0 0 0 Unconnected (7 ∷ 0 ∷ 0 ∷ 0 ∷ 0 ∷ 0 ∷ 0 ∷ 0 ∷ [])) ∷ (E.Transfer (codes "R___" ∷ []) 4 0 0 0 Unconnected (5 ∷ 0 ∷ 0 ∷ 0 ∷ 0 ∷ 0 ∷ 0 ∷ 0 ∷ [])) ∷ (E.Receive (codes "R___" ∷ []) 4 0 0 0 Unconnected) ∷ []);
  left = ([]);
  values = ([]);
}

ref_to_buffer_unit_encoded : written_whole W64 fields ref_to_buffer_unit ≡ ref_to_buffer_unit_table
ref_to_buffer_unit_encoded = refl

ref_to_buffer_unit_right : name_errors ref_to_buffer_unit ++ type_errors ref_to_buffer_unit ≡ []
ref_to_buffer_unit_right = refl

ref_to_buffer_unit_by_source : of_source W64 ref_to_buffer_unit ref_to_buffer_unit_asked ≡ ref_to_buffer_unit_told
ref_to_buffer_unit_by_source = refl

ref_to_buffer_unit_by_bytes : of_bytes ref_to_buffer_unit_table ref_to_buffer_unit_asked ≡ ref_to_buffer_unit_told
unfolding code_front
ref_to_buffer_unit_by_bytes = refl

-- bank over serial
-- OperationRegion (I, SystemIO, 0, 8) Field (I, ByteAcc, NoLock, Preserve) { BK, 8 } OperationRegion (R, GenericSerialBus, 0, 0x100)
-- BankField (R, BK, Timer, BufferAcc, NoLock, Preserve) { Connection (I2cSerialBusV2 (0x50, ControllerInitiated, 400000,
-- AddressingMode7Bit, "\\A")), AccessAs (BufferAcc, AttribWord), F, 16 } OperationRegion (G, GeneralPurposeIO, 0, 4) BankField (G, BK, 4,
-- ByteAcc, NoLock, Preserve) { Connection (GpioIo (Exclusive, PullUp, 0, 0, IoRestrictionNone, "\\G") {5, 6}), Q, 3 } Method (M) { Debug =
-- F F = 1 Debug = Q Q = 9 }
abbrev bank_over_serial : Trees
bank_over_serial = (terms ((OperationRegion at (one "I___") 1 (terms ((Integer 0) ∷ (Integer 8) ∷ []))) ∷ (Field at at (one "I___") 1 ((unit "BK__" 8) ∷ [])) ∷ (OperationRegion at (one "R___") 9 (terms ((Integer 0) ∷ (Integer 0x100) ∷ []))) ∷ (BankField at at (one "R___") at (one "BK__") (Apply (Plain.Event EventOp.Timer) no_trees no_trees) 5 ((ConnectionItem (ToBytes (142 ∷ 18 ∷ 0 ∷ 2 ∷ 0 ∷ 1 ∷ 2 ∷ 0 ∷ 0 ∷ 1 ∷ 6 ∷ 0 ∷ 128 ∷ 26 ∷ 6 ∷ 0 ∷ 80 ∷ 0 ∷ 92 ∷ 65 ∷ 0 ∷ 121 ∷ 0 ∷ []))) ∷ (AccessItem 5 8 None) ∷ (unit "F___" 16) ∷ [])) ∷ (OperationRegion at (one "G___") 8 (terms ((Integer 0) ∷ (Integer 4) ∷ []))) ∷ (BankField at at (one "G___") at (one "BK__") (Integer 4) 1 ((ConnectionItem (ToBytes (140 ∷ 27 ∷ 0 ∷ 1 ∷ 1 ∷ 1 ∷ 0 ∷ 0 ∷ 0 ∷ 1 ∷ 0 ∷ 0 ∷ 0 ∷ 0 ∷ 23 ∷ 0 ∷ 0 ∷ 27 ∷ 0 ∷ 30 ∷ 0 ∷ 0 ∷ 0 ∷ 5 ∷ 0 ∷ 6 ∷ 0 ∷ 92 ∷ 71 ∷ 0 ∷ 121 ∷ 0 ∷ []))) ∷ (unit "Q___" 3) ∷ [])) ∷ (Method at (one "M___") 0 (terms ((Assigned DebugTerm (Use at (one "F___"))) ∷ (Assigned (Use at (one "F___")) (Integer 1)) ∷ (Assigned DebugTerm (Use at (one "Q___"))) ∷ (Assigned (Use at (one "Q___")) (Integer 9)) ∷ []))) ∷ []))

abbrev bank_over_serial_table : List ℕ
bank_over_serial_table =
    table_bytes fields (hex "5B 80 49 5F 5F 5F 01 00 0A 08 5B 81 0B 49 5F 5F 5F 01 42 4B 5F 5F 08 5B 80 52 5F 5F 5F 09 00 0B 00 01 5B 87 30 52 5F 5F"
    ++ hex "5F 42 4B 5F 5F 5B 33 05 02 11 1A 0A 17 8E 12 00 02 00 01 02 00 00 01 06 00 80 1A 06 00 50 00 5C 41 00 79 00 01 05 08 46"
    ++ hex "5F 5F 5F 10 5B 80 47 5F 5F 5F 08 00 0A 04 5B 87 36 47 5F 5F 5F 42 4B 5F 5F 0A 04 01 02 11 23 0A 20 8C 1B 00 01 01 01 00"
    ++ hex "00 00 01 00 00 00 00 17 00 00 1B 00 1E 00 00 00 05 00 06 00 5C 47 00 79 00 51 5F 5F 5F 03 14 21 4D 5F 5F 5F 00 70 46 5F"
    ++ hex "5F 5F 5B 31 70 01 46 5F 5F 5F 70 51 5F 5F 5F 5B 31 70 0A 09 51 5F 5F 5F")

abbrev bank_over_serial_asked : Asked
bank_over_serial_asked = record {
  there = present_ones (externals bank_over_serial) ([]);
  bound = 8;
  answers = ((number 3) ∷ (Data (V.Buffer (1 ∷ []))) ∷ (Data (V.Buffer (2 ∷ []))) ∷ (number 15) ∷ []);
  calls = (call (codes "M___" ∷ []) ([]) ∷ []);
  paths = ([]);
}

abbrev bank_over_serial_told : Told
bank_over_serial_told = record {
  results = ((Done (Normal false)) ∷ (Done NoValue) ∷ []);
  events = (E.Timer ∷ (E.Receive (codes "R___" ∷ []) 9 0 8 0 (ToResource (142 ∷ 18 ∷ 0 ∷ 2 ∷ 0 ∷ 1 ∷ 2 ∷ 0 ∷ 0 ∷ 1 ∷ 6 ∷ 0 ∷ 128 ∷ 26 ∷ 6 ∷ 0 ∷ 80 ∷ 0 ∷ 92 ∷ 65 ∷ 0 ∷ 121 ∷ 0 ∷ []))) ∷ (E.Debug (Data (V.Buffer (1 ∷ [])))) ∷ (E.Transfer (codes "R___" ∷ []) 9 0 8 0 (ToResource (142 ∷ 18 ∷ 0 ∷ 2 ∷ 0 ∷ 1 ∷ 2 ∷ 0 ∷ 0 ∷ 1 ∷ 6 ∷ 0 ∷ 128 ∷ 26 ∷ 6 ∷ 0 ∷ 80 ∷ 0 ∷ 92 ∷ 65 ∷ 0 ∷ 121 ∷ 0 ∷ [])) (1 ∷ 0 ∷ 0 ∷ 0 ∷ 0 ∷ 0 ∷ 0 ∷ 0 ∷ [])) ∷ (E.ReadPins (codes "G___" ∷ []) 0 3 (ToResource (140 ∷ 27 ∷ 0 ∷ 1 ∷ 1 ∷ 1 ∷ 0 ∷ 0 ∷ 0 ∷ 1 ∷ 0 ∷ 0 ∷ 0 ∷ 0 ∷ 23 ∷ 0 ∷ 0 ∷ 27 ∷ 0 ∷ 30 ∷ 0 ∷ 0 ∷ 0 ∷ 5 ∷ 0 ∷ 6 ∷ 0 ∷ 92 ∷ 71 ∷ 0 ∷ 121 ∷ 0 ∷ []))) ∷ (E.Debug (number 7)) ∷ (E.WritePins (codes "G___" ∷ []) 0 3 (ToResource (140 ∷ 27 ∷ 0 ∷ 1 ∷ 1 ∷ 1 ∷ 0 ∷ 0 ∷ 0 ∷ 1 ∷ 0 ∷ 0 ∷ 0 ∷ 0 ∷ 23 ∷ 0 ∷ 0 ∷ 27 ∷ 0 ∷ 30 ∷ 0 ∷ 0 ∷ 0 ∷ 5 ∷ 0 ∷ 6 ∷ 0 ∷ 92 ∷ 71 ∷ 0 ∷ 121 ∷ 0 ∷ [])) 1) ∷ []);
  left = ([]);
  values = ([]);
}

bank_over_serial_encoded : written_whole W64 fields bank_over_serial ≡ bank_over_serial_table
bank_over_serial_encoded = refl

bank_over_serial_right : name_errors bank_over_serial ++ type_errors bank_over_serial ≡ []
bank_over_serial_right = refl

bank_over_serial_by_source : of_source W64 bank_over_serial bank_over_serial_asked ≡ bank_over_serial_told
bank_over_serial_by_source = refl

bank_over_serial_by_bytes : of_bytes bank_over_serial_table bank_over_serial_asked ≡ bank_over_serial_told
unfolding code_front
bank_over_serial_by_bytes = refl

-- index over serial registers
-- OperationRegion (R, GenericSerialBus, 0, 0x100) Field (R, BufferAcc, NoLock, Preserve) { Connection (I2cSerialBusV2 (0x50,
-- ControllerInitiated, 400000, AddressingMode7Bit, "\\A")), IX, 8, AccessAs (BufferAcc, AttribByte), DT, 8 } IndexField (IX, DT, ByteAcc,
-- NoLock, Preserve) { , 8, V, 4 } Method (M) { Return (V) } Method (N) { V = 5 }
abbrev index_over_serial_registers : Trees
index_over_serial_registers = (terms ((OperationRegion at (one "R___") 9 (terms ((Integer 0) ∷ (Integer 0x100) ∷ []))) ∷ (Field at at (one "R___") 5 ((ConnectionItem (ToBytes (142 ∷ 18 ∷ 0 ∷ 2 ∷ 0 ∷ 1 ∷ 2 ∷ 0 ∷ 0 ∷ 1 ∷ 6 ∷ 0 ∷ 128 ∷ 26 ∷ 6 ∷ 0 ∷ 80 ∷ 0 ∷ 92 ∷ 65 ∷ 0 ∷ 121 ∷ 0 ∷ []))) ∷ (unit "IX__" 8) ∷ (AccessItem 5 6 None) ∷ (unit "DT__" 8) ∷ [])) ∷ (IndexField at at (one "IX__") at (one "DT__") 1 ((SkipItem 8) ∷ (unit "V___" 4) ∷ [])) ∷ (Method at (one "M___") 0 (terms ((Return (Use at (one "V___"))) ∷ []))) ∷ (Method at (one "N___") 0 (terms ((Assigned (Use at (one "V___")) (Integer 5)) ∷ []))) ∷ []))

abbrev index_over_serial_registers_table : List ℕ
index_over_serial_registers_table =
    table_bytes fields (hex "5B 80 52 5F 5F 5F 09 00 0B 00 01 5B 81 2F 52 5F 5F 5F 05 02 11 1A 0A 17 8E 12 00 02 00 01 02 00 00 01 06 00 80 1A 06 00"
    ++ hex "50 00 5C 41 00 79 00 49 58 5F 5F 08 01 05 06 44 54 5F 5F 08 5B 86 11 49 58 5F 5F 44 54 5F 5F 01 00 08 56 5F 5F 5F 04 14"
    ++ hex "0B 4D 5F 5F 5F 00 A4 56 5F 5F 5F 14 0D 4E 5F 5F 5F 00 70 0A 05 56 5F 5F 5F")

abbrev index_over_serial_registers_asked : Asked
index_over_serial_registers_asked = record {
  there = present_ones (externals index_over_serial_registers) ([]);
  bound = 8;
  answers = ((Data (V.Buffer ([]))) ∷ (Data (V.Buffer (171 ∷ []))) ∷ (Data (V.Buffer ([]))) ∷ (Data (V.Buffer (205 ∷ 1 ∷ []))) ∷ (Data (V.Buffer ([]))) ∷ (Data (V.Buffer ([]))) ∷ (Data (V.Buffer ([]))) ∷ (Data (V.Buffer ([]))) ∷ []);
  calls = (call (codes "M___" ∷ []) ([]) ∷ call (codes "N___" ∷ []) ([]) ∷ call (codes "M___" ∷ []) ([]) ∷ []);
  paths = ([]);
}

abbrev index_over_serial_registers_told : Told
index_over_serial_registers_told = record {
  results = ((Done (Normal false)) ∷ (gives (number 11)) ∷ (Done NoValue) ∷ (faults Fault.EmptyValue) ∷ []);
  events = ((E.Transfer (codes "R___" ∷ []) 9 0 0 0 (ToResource (142 ∷ 18 ∷ 0 ∷ 2 ∷ 0 ∷ 1 ∷ 2 ∷ 0 ∷ 0 ∷ 1 ∷ 6 ∷ 0 ∷ 128 ∷ 26 ∷ 6 ∷ 0 ∷ 80 ∷ 0 ∷ 92 ∷ 65 ∷ 0 ∷ 121 ∷ 0 ∷ [])) (1 ∷ 0 ∷ 0 ∷ 0 ∷ 0 ∷ 0 ∷ 0 ∷ 0 ∷ [])) ∷ (E.Receive (codes "R___" ∷ []) 9 1 6 0 (ToResource (142 ∷ 18 ∷ 0 ∷ 2 ∷ 0 ∷ 1 ∷ 2 ∷ 0 ∷ 0 ∷ 1 ∷ 6 ∷ 0 ∷ 128 ∷ 26 ∷ 6 ∷ 0 ∷ 80 ∷ 0 ∷ 92 ∷ 65 ∷ 0 ∷ 121 ∷ 0 ∷ []))) ∷ (E.Transfer (codes "R___" ∷ []) 9 0 0 0 (ToResource (142 ∷ 18 ∷ 0 ∷ 2 ∷ 0 ∷ 1 ∷ 2 ∷ 0 ∷ 0 ∷ 1 ∷ 6 ∷ 0 ∷ 128 ∷ 26 ∷ 6 ∷ 0 ∷ 80 ∷ 0 ∷ 92 ∷ 65 ∷ 0 ∷ 121 ∷ 0 ∷ [])) (1 ∷ 0 ∷ 0 ∷ 0 ∷ 0 ∷ 0 ∷ 0 ∷ 0 ∷ [])) ∷ (E.Receive (codes "R___" ∷ []) 9 1 6 0 (ToResource (142 ∷ 18 ∷ 0 ∷ 2 ∷ 0 ∷ 1 ∷ 2 ∷ 0 ∷ 0 ∷ 1 ∷ 6 ∷ 0 ∷ 128 ∷ 26 ∷ 6 ∷ 0 ∷ 80 ∷ 0 ∷ 92 ∷ 65 ∷ 0 ∷ 121 ∷ 0 ∷ []))) ∷ (E.Transfer (codes "R___" ∷ []) 9 0 0 0 (ToResource (142 ∷ 18 ∷ 0 ∷ 2 ∷ 0 ∷ 1 ∷ 2 ∷ 0 ∷ 0 ∷ 1 ∷ 6 ∷ 0 ∷ 128 ∷ 26 ∷ 6 ∷ 0 ∷ 80 ∷ 0 ∷ 92 ∷ 65 ∷ 0 ∷ 121 ∷ 0 ∷ [])) (1 ∷ 0 ∷ 0 ∷ 0 ∷ 0 ∷ 0 ∷ 0 ∷ 0 ∷ [])) ∷ (E.Transfer (codes "R___" ∷ []) 9 1 6 0 (ToResource (142 ∷ 18 ∷ 0 ∷ 2 ∷ 0 ∷ 1 ∷ 2 ∷ 0 ∷ 0 ∷ 1 ∷ 6 ∷ 0 ∷ 128 ∷ 26 ∷ 6 ∷ 0 ∷ 80 ∷ 0 ∷ 92 ∷ 65 ∷ 0 ∷ 121 ∷ 0 ∷ [])) (197 ∷ 0 ∷ 0 ∷ 0 ∷ 0 ∷ 0 ∷ 0 ∷ 0 ∷ [])) ∷ (E.Transfer (codes "R___" ∷ []) 9 0 0 0 (ToResource (142 ∷ 18 ∷ 0 ∷ 2 ∷ 0 ∷ 1 ∷ 2 ∷ 0 ∷ 0 ∷ 1 ∷ 6 ∷ 0 ∷ 128 ∷ 26 ∷ 6 ∷ 0 ∷ 80 ∷ 0 ∷ 92 ∷ 65 ∷ 0 ∷ 121 ∷ 0 ∷ [])) (1 ∷ 0 ∷ 0 ∷ 0 ∷ 0 ∷ 0 ∷ 0 ∷ 0 ∷ [])) ∷ (E.Receive (codes "R___" ∷ []) 9 1 6 0 (ToResource (142 ∷ 18 ∷ 0 ∷ 2 ∷ 0 ∷ 1 ∷ 2 ∷ 0 ∷ 0 ∷ 1 ∷ 6 ∷ 0 ∷ 128 ∷ 26 ∷ 6 ∷ 0 ∷ 80 ∷ 0 ∷ 92 ∷ 65 ∷ 0 ∷ 121 ∷ 0 ∷ []))) ∷ []);
  left = ([]);
  values = ([]);
}

index_over_serial_registers_encoded : written_whole W64 fields index_over_serial_registers ≡ index_over_serial_registers_table
index_over_serial_registers_encoded = refl

index_over_serial_registers_right : name_errors index_over_serial_registers ++ type_errors index_over_serial_registers ≡ []
index_over_serial_registers_right = refl

index_over_serial_registers_by_source : of_source W64 index_over_serial_registers index_over_serial_registers_asked ≡ index_over_serial_registers_told
index_over_serial_registers_by_source = refl

index_over_serial_registers_by_bytes : of_bytes index_over_serial_registers_table index_over_serial_registers_asked ≡ index_over_serial_registers_told
unfolding code_front
index_over_serial_registers_by_bytes = refl

-- external region bufferacc
-- External (RX, OpRegionObj) Field (RX, BufferAcc, NoLock, Preserve) { A, 8, AccessAs (BufferAcc, AttribBlock), B1, 8, AccessAs (ByteAcc),
-- C, 8, Connection (\_SB), D, 8 } Field (RX, WordAcc, NoLock, WriteAsOnes) { E, 4, AccessAs (BufferAcc, 2), F, 4 } Method (M) { Debug = A
-- B1 = 1 Debug = C D = 2 E = 1 Debug = F }
abbrev external_region_bufferacc : Trees
external_region_bufferacc = (terms ((External at at (one "RX__") 10 None) ∷ (Field at at (one "RX__") 5 ((unit "A___" 8) ∷ (AccessItem 5 10 None) ∷ (unit "B1__" 8) ∷ (AccessItem 1 0 None) ∷ (unit "C___" 8) ∷ (ConnectionItem (ToName at (path true 0 (codes "_SB_" ∷ [])))) ∷ (unit "D___" 8) ∷ [])) ∷ (Field at at (one "RX__") 34 ((unit "E___" 4) ∷ (AccessItem 5 2 None) ∷ (unit "F___" 4) ∷ [])) ∷ (Method at (one "M___") 0 (terms ((Assigned DebugTerm (Use at (one "A___"))) ∷ (Assigned (Use at (one "B1__")) (Integer 1)) ∷ (Assigned DebugTerm (Use at (one "C___"))) ∷ (Assigned (Use at (one "D___")) (Integer 2)) ∷ (Assigned (Use at (one "E___")) (Integer 1)) ∷ (Assigned DebugTerm (Use at (one "F___"))) ∷ []))) ∷ []))

abbrev external_region_bufferacc_table : List ℕ
external_region_bufferacc_table =
    table_bytes fields (hex "15 52 58 5F 5F 0A 00 5B 81 26 52 58 5F 5F 05 41 5F 5F 5F 08 01 05 0A 42 31 5F 5F 08 01 01 00 43 5F 5F 5F 08 02 5C 5F 53"
    ++ hex "42 5F 44 5F 5F 5F 08 5B 81 13 52 58 5F 5F 22 45 5F 5F 5F 04 01 05 02 46 5F 5F 5F 04 14 2E 4D 5F 5F 5F 00 70 41 5F 5F 5F"
    ++ hex "5B 31 70 01 42 31 5F 5F 70 43 5F 5F 5F 5B 31 70 0A 02 44 5F 5F 5F 70 01 45 5F 5F 5F 70 46 5F 5F 5F 5B 31")

abbrev external_region_bufferacc_asked : Asked
external_region_bufferacc_asked = record {
  there = present_ones (externals external_region_bufferacc) ((codes "RX__" ∷ []) ∷ []);
  bound = 8;
  answers = ((Data (V.Buffer (1 ∷ []))) ∷ (Data (V.Buffer (2 ∷ []))) ∷ (number 3) ∷ (number 4) ∷ (Data (V.Buffer (6 ∷ []))) ∷ []);
  calls = (call (codes "M___" ∷ []) ([]) ∷ call (codes "M___" ∷ []) ([]) ∷ []);
  paths = ([]);
}

abbrev external_region_bufferacc_told : Told
external_region_bufferacc_told = record {
  results = ((Done (Normal false)) ∷ (Done NoValue) ∷ (Stopped Unfinished) ∷ []);
  events = ((E.Receive (codes "RX__" ∷ []) 255 0 0 0 Unconnected) ∷ (E.Debug (Data (V.Buffer (1 ∷ [])))) ∷ (E.Transfer (codes "RX__" ∷ []) 255 1 10 0 Unconnected (1 ∷ 0 ∷ 0 ∷ 0 ∷ 0 ∷ 0 ∷ 0 ∷ 0 ∷ [])) ∷ (E.Read (codes "RX__" ∷ []) 255 2 1) ∷ (E.Debug (number 3)) ∷ (E.Write (codes "RX__" ∷ []) 255 3 1 2) ∷ (E.Write (codes "RX__" ∷ []) 255 0 2 0xFFF1) ∷ (E.Receive (codes "RX__" ∷ []) 255 0 2 0 Unconnected) ∷ (E.Debug (Data (V.Buffer ([])))) ∷ (E.Receive (codes "RX__" ∷ []) 255 0 0 0 Unconnected) ∷ (E.Debug (Data (V.Buffer (6 ∷ [])))) ∷ (E.Transfer (codes "RX__" ∷ []) 255 1 10 0 Unconnected (1 ∷ 0 ∷ 0 ∷ 0 ∷ 0 ∷ 0 ∷ 0 ∷ 0 ∷ [])) ∷ []);
  left = ([]);
  values = ([]);
}

external_region_bufferacc_encoded : written_whole W64 fields external_region_bufferacc ≡ external_region_bufferacc_table
external_region_bufferacc_encoded = refl

external_region_bufferacc_right : name_errors external_region_bufferacc ++ type_errors external_region_bufferacc ≡ []
external_region_bufferacc_right = refl

external_region_bufferacc_by_source : of_source W64 external_region_bufferacc external_region_bufferacc_asked ≡ external_region_bufferacc_told
external_region_bufferacc_by_source = refl

external_region_bufferacc_by_bytes : of_bytes external_region_bufferacc_table external_region_bufferacc_asked ≡ external_region_bufferacc_told
unfolding code_front
external_region_bufferacc_by_bytes = refl
