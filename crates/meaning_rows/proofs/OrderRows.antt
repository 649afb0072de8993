-- Sessions that show in which order operands and targets are evaluated, converted and stored, and of which kinds they are. Another
-- implementation gives the values.
use Rattle.std.proofs.Common.{◌≡◌, ℕ, false, List, [], ◌∷◌, ◌++◌, Some, refl}
use Rattle.std.specs.Prelude.{codes}
use Rattle.acpi_values.specs.declared.width.Width.TheVariants.{W64}
use Rattle.acpi_values.specs.declared.fault.Fault.TheVariants as Fault
use Rattle.acpi_values.specs.declared.operator.IntOp.TheVariants as IntOp
use Rattle.acpi_values.specs.declared.operator.DataOp.TheVariants as DataOp
use Rattle.acpi_values.specs.declared.operator.EventOp.TheVariants as EventOp
use Rattle.acpi_values.specs.declared.operator.Plain.TheVariants as Plain
use Rattle.acpi_values.specs.Values as V
use Rattle.acpi_values.specs.Values.{Value, Data, no_elements, uninitialized, element, Named, LocalOf, ArgOf, ElementAt, ElementOf}
use Rattle.acpi_state.specs.Objects as E
use Rattle.acpi_state.specs.Objects.{Device, ThermalZone, PowerResource, Processor}
use Rattle.acpi_state.specs.Outcomes.{Normal, NoValue, Done}
use Rattle.acpi_state.specs.Sessions.{present_ones}
use Rattle.asl_tree.specs.declared.term.Compound.TheVariants as Compound
use Rattle.asl_tree.specs.Tree.{Integer, String, Debug as DebugTerm, Omitted, Use, Call, Apply, Operated, Assigned}
use Rattle.asl_tree.specs.Tree.{AssignedBy, Buffer, Package, Return, Name, Method}
use Rattle.asl_tree.specs.Tree.{Container'}
use Rattle.asl_tree.specs.Tree.{Trees, no_trees}
use Rattle.asl_meaning.specs.Declarations.{externals}
use Rattle.aml_meaning.specs.Codes.{code_front}
use Rattle.aml_code.specs.Header.{table_bytes}
use Rattle.acpi_names.specs.Errors.{name_errors, type_errors}
use Rattle.meaning_rows.proofs.Rows.{at, fields}
use Rattle.meaning_rows.proofs.Outside.{hex, number, reference, call, Asked, Told, gives, faults, of_bytes, of_source, written_whole, terms, one, local, arg}

-- compound evaluates twice
-- Name (P1, Package () {1,2,3}) Method (I) { Debug = "i" Return (1) } Method (M) { Local0 = 1 Local0 += Local0 += 3 Debug = Local0 Local1
-- = Local0 = 7 Debug = Local1 Local2 = 5 Local2 -= 3 Local2 <<= 4 Local2 |= 1 Local2 ^= 0xFF Local2 &= 0xF0 Local2 >>= 2 Local2 *= 3
-- Local2 /= 5 Local2 %= 7 Return (Local2) }
abbrev compound_evaluates_twice : Trees
compound_evaluates_twice = (terms ((Name at (one "P1__") (Package 3 (terms ((Integer 1) ∷ (Integer 2) ∷ (Integer 3) ∷ [])))) ∷ (Method at (one "I___") 0 (terms ((Assigned DebugTerm (String (codes "i"))) ∷ (Return (Integer 1)) ∷ []))) ∷ (Method at (one "M___") 0 (terms ((Assigned (local 0) (Integer 1)) ∷ (AssignedBy Compound.Add (local 0) (AssignedBy Compound.Add (local 0) (Integer 3))) ∷ (Assigned DebugTerm (local 0)) ∷ (Assigned (local 1) (Assigned (local 0) (Integer 7))) ∷ (Assigned DebugTerm (local 1)) ∷ (Assigned (local 2) (Integer 5)) ∷ (AssignedBy Compound.Subtract (local 2) (Integer 3)) ∷ (AssignedBy Compound.ShiftLeft (local 2) (Integer 4)) ∷ (AssignedBy Compound.Or (local 2) (Integer 1)) ∷ (AssignedBy Compound.Xor (local 2) (Integer 255)) ∷ (AssignedBy Compound.And (local 2) (Integer 240)) ∷ (AssignedBy Compound.ShiftRight (local 2) (Integer 2)) ∷ (AssignedBy Compound.Multiply (local 2) (Integer 3)) ∷ (AssignedBy Compound.Divide (local 2) (Integer 5)) ∷ (AssignedBy Compound.Mod (local 2) (Integer 7)) ∷ (Return (local 2)) ∷ []))) ∷ []))

abbrev compound_evaluates_twice_table : List ℕ
compound_evaluates_twice_table =
    table_bytes fields (hex "08 50 31 5F 5F 12 07 03 01 0A 02 0A 03 14 0E 49 5F 5F 5F 00 70 0D 69 00 5B 31 A4 01 14 43 05 4D 5F 5F 5F 00 70 01 60 72"
    ++ hex "60 72 60 0A 03 60 60 70 60 5B 31 70 70 0A 07 60 61 70 61 5B 31 70 0A 05 62 74 62 0A 03 62 79 62 0A 04 62 7D 62 01 62 7F"
    ++ hex "62 0A FF 62 7B 62 0A F0 62 7A 62 0A 02 62 77 62 0A 03 62 78 62 0A 05 00 62 85 62 0A 07 62 A4 62")

abbrev compound_evaluates_twice_asked : Asked
compound_evaluates_twice_asked = record {
  there = present_ones (externals compound_evaluates_twice) ([]);
  bound = 8;
  answers = ([]);
  calls = (call (codes "M___" ∷ []) ([]) ∷ []);
  paths = ((codes "P1__" ∷ []) ∷ []);
}

abbrev compound_evaluates_twice_told : Told
compound_evaluates_twice_told = record {
  results = ((Done (Normal false)) ∷ (gives (number 3)) ∷ []);
  events = ((E.Debug (number 5)) ∷ (E.Debug (number 7)) ∷ []);
  left = ([]);
  values = (Some (V.Package (element (number 1) (element (number 2) (element (number 3) no_elements)))) ∷ []);
}

compound_evaluates_twice_encoded : written_whole W64 fields compound_evaluates_twice ≡ compound_evaluates_twice_table
compound_evaluates_twice_encoded = refl

compound_evaluates_twice_right : name_errors compound_evaluates_twice ++ type_errors compound_evaluates_twice ≡ []
compound_evaluates_twice_right = refl

compound_evaluates_twice_by_source : of_source W64 compound_evaluates_twice compound_evaluates_twice_asked ≡ compound_evaluates_twice_told
compound_evaluates_twice_by_source = refl

compound_evaluates_twice_by_bytes : of_bytes compound_evaluates_twice_table compound_evaluates_twice_asked ≡ compound_evaluates_twice_told
unfolding code_front
compound_evaluates_twice_by_bytes = refl

-- divide targets
-- Name (P1, Package () {0, 0}) Method (I, 1) { Debug = Arg0 Return (Arg0) } Method (M) { Return (Divide (17, 5,P1 [I (0)], P1 [I (1)])) }
-- Method (N) { Return (P1) } Method (O) { Divide (1, 0, P1 [I (0)], ) }
abbrev divide_targets : Trees
divide_targets = (terms ((Name at (one "P1__") (Package 2 (terms ((Integer 0) ∷ (Integer 0) ∷ [])))) ∷ (Method at (one "I___") 1 (terms ((Assigned DebugTerm (arg 0)) ∷ (Return (arg 0)) ∷ []))) ∷ (Method at (one "M___") 0 (terms ((Return (Apply (Plain.Number IntOp.Divide) (terms ((Integer 17) ∷ (Integer 5) ∷ [])) (terms ((Operated (Plain.Data DataOp.Index) (terms ((Use at (one "P1__")) ∷ (Call at (one "I___") (terms ((Integer 0) ∷ []))) ∷ []))) ∷ (Operated (Plain.Data DataOp.Index) (terms ((Use at (one "P1__")) ∷ (Call at (one "I___") (terms ((Integer 1) ∷ []))) ∷ []))) ∷ [])))) ∷ []))) ∷ (Method at (one "N___") 0 (terms ((Return (Use at (one "P1__"))) ∷ []))) ∷ (Method at (one "O___") 0 (terms ((Apply (Plain.Number IntOp.Divide) (terms ((Integer 1) ∷ (Integer 0) ∷ [])) (terms ((Operated (Plain.Data DataOp.Index) (terms ((Use at (one "P1__")) ∷ (Call at (one "I___") (terms ((Integer 0) ∷ []))) ∷ []))) ∷ Omitted ∷ []))) ∷ []))) ∷ []))

abbrev divide_targets_table : List ℕ
divide_targets_table =
    table_bytes fields (hex "08 50 31 5F 5F 12 04 02 00 00 14 0C 49 5F 5F 5F 01 70 68 5B 31 A4 68 14 22 4D 5F 5F 5F 00 A4 78 0A 11 0A 05 88 50 31 5F"
    ++ hex "5F 49 5F 5F 5F 00 00 88 50 31 5F 5F 49 5F 5F 5F 01 00 14 0B 4E 5F 5F 5F 00 A4 50 31 5F 5F 14 15 4F 5F 5F 5F 00 78 01 00"
    ++ hex "88 50 31 5F 5F 49 5F 5F 5F 00 00 00")

abbrev divide_targets_asked : Asked
divide_targets_asked = record {
  there = present_ones (externals divide_targets) ([]);
  bound = 8;
  answers = ([]);
  calls = (call (codes "M___" ∷ []) ([]) ∷ call (codes "N___" ∷ []) ([]) ∷ call (codes "O___" ∷ []) ([]) ∷ []);
  paths = ((codes "P1__" ∷ []) ∷ []);
}

abbrev divide_targets_told : Told
divide_targets_told = record {
  results = ((Done (Normal false)) ∷ (gives (number 3)) ∷ (gives (V.Package (element (number 2) (element (number 3) no_elements)))) ∷ (faults Fault.DivideByZero) ∷ []);
  events = ((E.Debug (number 0)) ∷ (E.Debug (number 1)) ∷ []);
  left = ([]);
  values = (Some (V.Package (element (number 2) (element (number 3) no_elements))) ∷ []);
}

divide_targets_encoded : written_whole W64 fields divide_targets ≡ divide_targets_table
divide_targets_encoded = refl

divide_targets_right : name_errors divide_targets ++ type_errors divide_targets ≡ []
divide_targets_right = refl

divide_targets_by_source : of_source W64 divide_targets divide_targets_asked ≡ divide_targets_told
divide_targets_by_source = refl

divide_targets_by_bytes : of_bytes divide_targets_table divide_targets_asked ≡ divide_targets_told
unfolding code_front
divide_targets_by_bytes = refl

-- order target after compute
-- Name (P1, Package () {1,2,3}) Method (I) { Debug = "i" Return (1) } Method (M) { Add (Timer, Timer, P1 [I ()]) P1 [I ()] = 5 P1 [I ()]
-- += Timer Return (P1) }
abbrev order_target_after_compute : Trees
order_target_after_compute = (terms ((Name at (one "P1__") (Package 3 (terms ((Integer 1) ∷ (Integer 2) ∷ (Integer 3) ∷ [])))) ∷ (Method at (one "I___") 0 (terms ((Assigned DebugTerm (String (codes "i"))) ∷ (Return (Integer 1)) ∷ []))) ∷ (Method at (one "M___") 0 (terms ((Apply (Plain.Number IntOp.Add) (terms ((Apply (Plain.Event EventOp.Timer) no_trees no_trees) ∷ (Apply (Plain.Event EventOp.Timer) no_trees no_trees) ∷ [])) (terms ((Operated (Plain.Data DataOp.Index) (terms ((Use at (one "P1__")) ∷ (Call at (one "I___") no_trees) ∷ []))) ∷ []))) ∷ (Assigned (Operated (Plain.Data DataOp.Index) (terms ((Use at (one "P1__")) ∷ (Call at (one "I___") no_trees) ∷ []))) (Integer 5)) ∷ (AssignedBy Compound.Add (Operated (Plain.Data DataOp.Index) (terms ((Use at (one "P1__")) ∷ (Call at (one "I___") no_trees) ∷ []))) (Apply (Plain.Event EventOp.Timer) no_trees no_trees)) ∷ (Return (Use at (one "P1__"))) ∷ []))) ∷ []))

abbrev order_target_after_compute_table : List ℕ
order_target_after_compute_table =
    table_bytes fields (hex "08 50 31 5F 5F 12 07 03 01 0A 02 0A 03 14 0E 49 5F 5F 5F 00 70 0D 69 00 5B 31 A4 01 14 3E 4D 5F 5F 5F 00 72 5B 33 5B 33"
    ++ hex "88 50 31 5F 5F 49 5F 5F 5F 00 70 0A 05 88 50 31 5F 5F 49 5F 5F 5F 00 72 88 50 31 5F 5F 49 5F 5F 5F 00 5B 33 88 50 31 5F"
    ++ hex "5F 49 5F 5F 5F 00 A4 50 31 5F 5F")

abbrev order_target_after_compute_asked : Asked
order_target_after_compute_asked = record {
  there = present_ones (externals order_target_after_compute) ([]);
  bound = 8;
  answers = ((number 1) ∷ (number 2) ∷ (number 3) ∷ []);
  calls = (call (codes "M___" ∷ []) ([]) ∷ []);
  paths = ((codes "P1__" ∷ []) ∷ []);
}

abbrev order_target_after_compute_told : Told
order_target_after_compute_told = record {
  results = ((Done (Normal false)) ∷ (gives (V.Package (element (number 1) (element (number 8) (element (number 3) no_elements))))) ∷ []);
  events = (E.Timer ∷ E.Timer ∷ (E.Debug (Data (V.String (105 ∷ [])))) ∷ (E.Debug (Data (V.String (105 ∷ [])))) ∷ (E.Debug (Data (V.String (105 ∷ [])))) ∷ E.Timer ∷ (E.Debug (Data (V.String (105 ∷ [])))) ∷ []);
  left = ([]);
  values = (Some (V.Package (element (number 1) (element (number 8) (element (number 3) no_elements)))) ∷ []);
}

order_target_after_compute_encoded : written_whole W64 fields order_target_after_compute ≡ order_target_after_compute_table
order_target_after_compute_encoded = refl

order_target_after_compute_right : name_errors order_target_after_compute ++ type_errors order_target_after_compute ≡ []
order_target_after_compute_right = refl

order_target_after_compute_by_source : of_source W64 order_target_after_compute order_target_after_compute_asked ≡ order_target_after_compute_told
order_target_after_compute_by_source = refl

order_target_after_compute_by_bytes : of_bytes order_target_after_compute_table order_target_after_compute_asked ≡ order_target_after_compute_told
unfolding code_front
order_target_after_compute_by_bytes = refl

-- conversion after all operands
-- Method (M, 1) { Return (Arg0 + Timer) } Method (N, 2) { Return (Arg0 == Arg1) } Method (O, 1) { Return (Buffer (Arg0) {1}) }
abbrev conversion_after_all_operands : Trees
conversion_after_all_operands = (terms ((Method at (one "M___") 1 (terms ((Return (Operated (Plain.Number IntOp.Add) (terms ((arg 0) ∷ (Apply (Plain.Event EventOp.Timer) no_trees no_trees) ∷ [])))) ∷ []))) ∷ (Method at (one "N___") 2 (terms ((Return (Operated (Plain.Number IntOp.LEqual) (terms ((arg 0) ∷ (arg 1) ∷ [])))) ∷ []))) ∷ (Method at (one "O___") 1 (terms ((Return (Buffer (arg 0) (1 ∷ []))) ∷ []))) ∷ []))

abbrev conversion_after_all_operands_table : List ℕ
conversion_after_all_operands_table =
    table_bytes fields (hex "14 0C 4D 5F 5F 5F 01 A4 72 68 5B 33 00 14 0A 4E 5F 5F 5F 02 A4 93 68 69 14 0B 4F 5F 5F 5F 01 A4 11 03 68 01")

abbrev conversion_after_all_operands_asked : Asked
conversion_after_all_operands_asked = record {
  there = present_ones (externals conversion_after_all_operands) ([]);
  bound = 8;
  answers = ((number 1) ∷ (number 2) ∷ (number 3) ∷ []);
  calls = (call (codes "M___" ∷ []) ((V.Package no_elements) ∷ []) ∷ call (codes "M___" ∷ []) ((Data (V.Buffer ([]))) ∷ []) ∷ call (codes "N___" ∷ []) ((V.Package no_elements) ∷ (Data (V.Buffer ([]))) ∷ []) ∷ []);
  paths = ([]);
}

abbrev conversion_after_all_operands_told : Told
conversion_after_all_operands_told = record {
  results = ((Done (Normal false)) ∷ (faults Fault.WrongType) ∷ (faults Fault.EmptyValue) ∷ (faults Fault.WrongType) ∷ []);
  events = (E.Timer ∷ E.Timer ∷ []);
  left = ((number 3) ∷ []);
  values = ([]);
}

conversion_after_all_operands_encoded : written_whole W64 fields conversion_after_all_operands ≡ conversion_after_all_operands_table
conversion_after_all_operands_encoded = refl

conversion_after_all_operands_right : name_errors conversion_after_all_operands ++ type_errors conversion_after_all_operands ≡ []
conversion_after_all_operands_right = refl

conversion_after_all_operands_by_source : of_source W64 conversion_after_all_operands conversion_after_all_operands_asked ≡ conversion_after_all_operands_told
conversion_after_all_operands_by_source = refl

conversion_after_all_operands_by_bytes : of_bytes conversion_after_all_operands_table conversion_after_all_operands_asked ≡ conversion_after_all_operands_told
unfolding code_front
conversion_after_all_operands_by_bytes = refl

-- store to method/device
-- Device (D) {} Method (F) { Return (1) } Method (M, 1) { Arg0 = 5 } Method (N, 1) { DerefOf (Arg0) = 5 }
abbrev store_to_method_device : Trees
store_to_method_device = (terms ((Container' Device at (one "D___") no_trees) ∷ (Method at (one "F___") 0 (terms ((Return (Integer 1)) ∷ []))) ∷ (Method at (one "M___") 1 (terms ((Assigned (arg 0) (Integer 5)) ∷ []))) ∷ (Method at (one "N___") 1 (terms ((Assigned (Apply (Plain.Data DataOp.DerefOf) (terms ((arg 0) ∷ [])) no_trees) (Integer 5)) ∷ []))) ∷ []))

abbrev store_to_method_device_table : List ℕ
store_to_method_device_table =
    table_bytes fields (hex "5B 82 05 44 5F 5F 5F 14 08 46 5F 5F 5F 00 A4 01 14 0A 4D 5F 5F 5F 01 70 0A 05 68 14 0B 4E 5F 5F 5F 01 70 0A 05 83 68")

abbrev store_to_method_device_asked : Asked
store_to_method_device_asked = record {
  there = present_ones (externals store_to_method_device) ([]);
  bound = 8;
  answers = ([]);
  calls = (call (codes "M___" ∷ []) ((reference (Named (codes "D___" ∷ []))) ∷ []) ∷ call (codes "M___" ∷ []) ((reference (Named (codes "F___" ∷ []))) ∷ []) ∷ call (codes "N___" ∷ []) ((reference (Named (codes "D___" ∷ []))) ∷ []) ∷ call (codes "M___" ∷ []) ((reference (Named (codes "NO__" ∷ []))) ∷ []) ∷ call (codes "N___" ∷ []) ((reference (Named (codes "NO__" ∷ []))) ∷ []) ∷ call (codes "N___" ∷ []) ((number 5) ∷ []) ∷ []);
  paths = ([]);
}

abbrev store_to_method_device_told : Told
store_to_method_device_told = record {
  results = ((Done (Normal false)) ∷ (faults Fault.WrongType) ∷ (faults Fault.WrongType) ∷ (faults Fault.WrongType) ∷ (faults Fault.NotFound) ∷ (faults Fault.NotFound) ∷ (faults Fault.WrongType) ∷ []);
  events = ([]);
  left = ([]);
  values = ([]);
}

store_to_method_device_encoded : written_whole W64 fields store_to_method_device ≡ store_to_method_device_table
store_to_method_device_encoded = refl

store_to_method_device_right : name_errors store_to_method_device ++ type_errors store_to_method_device ≡ []
store_to_method_device_right = refl

store_to_method_device_by_source : of_source W64 store_to_method_device store_to_method_device_asked ≡ store_to_method_device_told
store_to_method_device_by_source = refl

store_to_method_device_by_bytes : of_bytes store_to_method_device_table store_to_method_device_asked ≡ store_to_method_device_told
unfolding code_front
store_to_method_device_by_bytes = refl

-- objecttype all data
-- Name (I, 1) Name (S, "") Name (B, Buffer () {}) Name (P1, Package (2) {1}) Device (D) {} Method (M) { Debug = ObjectType (I) Debug =
-- ObjectType (S) Debug = ObjectType (B) Debug = ObjectType (P1) Debug = ObjectType (D) Debug = ObjectType (P1 [1]) Debug = ObjectType (P1
-- [0]) Local0 = RefOf (S) Debug = ObjectType (Local0) Debug = ObjectType (DerefOf (Local0)) } Method (N) { Return (ObjectType (DerefOf
-- (5))) } Method (O, 1) { Return (ObjectType (Arg0)) }
abbrev objecttype_all_data : Trees
objecttype_all_data = (terms ((Name at (one "I___") (Integer 1)) ∷ (Name at (one "S___") (String (codes ""))) ∷ (Name at (one "B___") (Buffer (Integer 0) ([]))) ∷ (Name at (one "P1__") (Package 2 (terms ((Integer 1) ∷ [])))) ∷ (Container' Device at (one "D___") no_trees) ∷ (Method at (one "M___") 0 (terms ((Assigned DebugTerm (Apply (Plain.Data DataOp.ObjectType) (terms ((Use at (one "I___")) ∷ [])) no_trees)) ∷ (Assigned DebugTerm (Apply (Plain.Data DataOp.ObjectType) (terms ((Use at (one "S___")) ∷ [])) no_trees)) ∷ (Assigned DebugTerm (Apply (Plain.Data DataOp.ObjectType) (terms ((Use at (one "B___")) ∷ [])) no_trees)) ∷ (Assigned DebugTerm (Apply (Plain.Data DataOp.ObjectType) (terms ((Use at (one "P1__")) ∷ [])) no_trees)) ∷ (Assigned DebugTerm (Apply (Plain.Data DataOp.ObjectType) (terms ((Use at (one "D___")) ∷ [])) no_trees)) ∷ (Assigned DebugTerm (Apply (Plain.Data DataOp.ObjectType) (terms ((Operated (Plain.Data DataOp.Index) (terms ((Use at (one "P1__")) ∷ (Integer 1) ∷ []))) ∷ [])) no_trees)) ∷ (Assigned DebugTerm (Apply (Plain.Data DataOp.ObjectType) (terms ((Operated (Plain.Data DataOp.Index) (terms ((Use at (one "P1__")) ∷ (Integer 0) ∷ []))) ∷ [])) no_trees)) ∷ (Assigned (local 0) (Apply (Plain.Data DataOp.RefOf) (terms ((Use at (one "S___")) ∷ [])) no_trees)) ∷ (Assigned DebugTerm (Apply (Plain.Data DataOp.ObjectType) (terms ((local 0) ∷ [])) no_trees)) ∷ (Assigned DebugTerm (Apply (Plain.Data DataOp.ObjectType) (terms ((Apply (Plain.Data DataOp.DerefOf) (terms ((local 0) ∷ [])) no_trees) ∷ [])) no_trees)) ∷ []))) ∷ (Method at (one "N___") 0 (terms ((Return (Apply (Plain.Data DataOp.ObjectType) (terms ((Apply (Plain.Data DataOp.DerefOf) (terms ((Integer 5) ∷ [])) no_trees) ∷ [])) no_trees)) ∷ []))) ∷ (Method at (one "O___") 1 (terms ((Return (Apply (Plain.Data DataOp.ObjectType) (terms ((arg 0) ∷ [])) no_trees)) ∷ []))) ∷ []))

abbrev objecttype_all_data_table : List ℕ
objecttype_all_data_table =
    table_bytes fields (hex "08 49 5F 5F 5F 01 08 53 5F 5F 5F 0D 00 08 42 5F 5F 5F 11 02 00 08 50 31 5F 5F 12 03 02 01 5B 82 05 44 5F 5F 5F 14 47 05"
    ++ hex "4D 5F 5F 5F 00 70 8E 49 5F 5F 5F 5B 31 70 8E 53 5F 5F 5F 5B 31 70 8E 42 5F 5F 5F 5B 31 70 8E 50 31 5F 5F 5B 31 70 8E 44"
    ++ hex "5F 5F 5F 5B 31 70 8E 88 50 31 5F 5F 01 00 5B 31 70 8E 88 50 31 5F 5F 00 00 5B 31 70 71 53 5F 5F 5F 60 70 8E 60 5B 31 70"
    ++ hex "8E 83 60 5B 31 14 0B 4E 5F 5F 5F 00 A4 8E 83 0A 05 14 09 4F 5F 5F 5F 01 A4 8E 68")

abbrev objecttype_all_data_asked : Asked
objecttype_all_data_asked = record {
  there = present_ones (externals objecttype_all_data) ([]);
  bound = 8;
  answers = ([]);
  calls = (call (codes "M___" ∷ []) ([]) ∷ call (codes "O___" ∷ []) ((reference (Named (codes "NONE" ∷ []))) ∷ []) ∷ call (codes "O___" ∷ []) ((reference (Named (codes "P1__" ∷ []))) ∷ []) ∷ call (codes "O___" ∷ []) ((V.Package no_elements) ∷ []) ∷ call (codes "O___" ∷ []) ((reference (Named (codes "_SB_" ∷ []))) ∷ []) ∷ []);
  paths = ((codes "P1__" ∷ []) ∷ (codes "B___" ∷ []) ∷ (codes "S___" ∷ []) ∷ (codes "I___" ∷ []) ∷ []);
}

abbrev objecttype_all_data_told : Told
objecttype_all_data_told = record {
  results = ((Done (Normal false)) ∷ (Done NoValue) ∷ (faults Fault.NotFound) ∷ (gives (number 4)) ∷ (gives (number 4)) ∷ (gives (number 0)) ∷ []);
  events = ((E.Debug (number 1)) ∷ (E.Debug (number 2)) ∷ (E.Debug (number 3)) ∷ (E.Debug (number 4)) ∷ (E.Debug (number 6)) ∷ (E.Debug (number 0)) ∷ (E.Debug (number 1)) ∷ (E.Debug (number 2)) ∷ (E.Debug (number 2)) ∷ []);
  left = ([]);
  values = (Some (V.Package (element (number 1) (uninitialized no_elements))) ∷ Some (Data (V.Buffer ([]))) ∷ Some (Data (V.String ([]))) ∷ Some (number 1) ∷ []);
}

objecttype_all_data_encoded : written_whole W64 fields objecttype_all_data ≡ objecttype_all_data_table
objecttype_all_data_encoded = refl

objecttype_all_data_right : name_errors objecttype_all_data ++ type_errors objecttype_all_data ≡ []
objecttype_all_data_right = refl

objecttype_all_data_by_source : of_source W64 objecttype_all_data objecttype_all_data_asked ≡ objecttype_all_data_told
objecttype_all_data_by_source = refl

objecttype_all_data_by_bytes : of_bytes objecttype_all_data_table objecttype_all_data_asked ≡ objecttype_all_data_told
unfolding code_front
objecttype_all_data_by_bytes = refl
