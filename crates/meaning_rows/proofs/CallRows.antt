-- Sessions of calls, of external methods, of names that a method makes, and of events. Another implementation gives the values.
use Rattle.std.proofs.Common.{◌≡◌, ℕ, true, false, List, [], ◌∷◌, ◌++◌, None, refl}
use Rattle.std.specs.Prelude.{codes}
use Rattle.acpi_values.specs.declared.width.Width.TheVariants.{W64}
use Rattle.acpi_values.specs.declared.fault.Fault.TheVariants as Fault
use Rattle.acpi_values.specs.declared.operator.IntOp.TheVariants as IntOp
use Rattle.acpi_values.specs.declared.operator.DataOp.TheVariants as DataOp
use Rattle.acpi_values.specs.declared.operator.EventOp.TheVariants as EventOp
use Rattle.acpi_values.specs.declared.operator.Plain.TheVariants as Plain
use Rattle.acpi_values.specs.Values as V
use Rattle.acpi_values.specs.Values.{Value, Data, no_elements, uninitialized, element, Named, LocalOf, ArgOf, ElementAt, ElementOf}
use Rattle.acpi_state.specs.Objects as E
use Rattle.acpi_state.specs.Objects.{Device, ThermalZone, PowerResource, Processor}
use Rattle.acpi_state.specs.Outcomes.{Normal, NoValue, Done}
use Rattle.acpi_state.specs.Sessions.{present_ones}
use Rattle.asl_tree.specs.Tree.{Integer, String, Debug as DebugTerm, Omitted, Raw, Use, Call, Apply, Operated, Assigned}
use Rattle.asl_tree.specs.Tree.{Buffer, CondRefOf, Return, Name, External, Method, Mutex}
use Rattle.asl_tree.specs.Tree.{Event as EventTerm, Container'}
use Rattle.asl_tree.specs.Tree.{Trees, no_trees}
use Rattle.asl_meaning.specs.Declarations.{externals}
use Rattle.aml_meaning.specs.Codes.{code_front}
use Rattle.aml_code.specs.Header.{table_bytes}
use Rattle.acpi_names.specs.Errors.{name_errors, type_errors}
use Rattle.meaning_rows.proofs.Rows.{at, fields}
use Rattle.meaning_rows.proofs.Outside.{hex, number, reference, call, Asked, Told, gives, faults, of_bytes, of_source, written_whole, terms, path, one, local, arg}

-- serialized flags
-- Method (M, 2, Serialized, 5) { Return (Arg0) } Method (N) { Return (ObjectType (M)) }
abbrev serialized_flags : Trees
serialized_flags = (terms ((Method at (one "M___") 90 (terms ((Return (arg 0)) ∷ []))) ∷ (Method at (one "N___") 0 (terms ((Return (Apply (Plain.Data DataOp.ObjectType) (terms ((Use at (one "M___")) ∷ [])) no_trees)) ∷ []))) ∷ []))

abbrev serialized_flags_table : List ℕ
serialized_flags_table =
    table_bytes fields (hex "14 08 4D 5F 5F 5F 5A A4 68 14 0C 4E 5F 5F 5F 00 A4 8E 4D 5F 5F 5F")

abbrev serialized_flags_asked : Asked
serialized_flags_asked = record {
  there = present_ones (externals serialized_flags) ([]);
  bound = 8;
  answers = ([]);
  calls = (call (codes "M___" ∷ []) ((number 1) ∷ (number 2) ∷ []) ∷ call (codes "N___" ∷ []) ([]) ∷ []);
  paths = ([]);
}

abbrev serialized_flags_told : Told
serialized_flags_told = record {
  results = ((Done (Normal false)) ∷ (gives (number 1)) ∷ (gives (number 8)) ∷ []);
  events = ([]);
  left = ([]);
  values = ([]);
}

serialized_flags_encoded : written_whole W64 fields serialized_flags ≡ serialized_flags_table
serialized_flags_encoded = refl

serialized_flags_right : name_errors serialized_flags ++ type_errors serialized_flags ≡ []
serialized_flags_right = refl

serialized_flags_by_source : of_source W64 serialized_flags serialized_flags_asked ≡ serialized_flags_told
serialized_flags_by_source = refl

serialized_flags_by_bytes : of_bytes serialized_flags_table serialized_flags_asked ≡ serialized_flags_told
unfolding code_front
serialized_flags_by_bytes = refl

-- events
-- Mutex (MX, 3) Event (EV) Device (D) {} Processor (CP, 1, 2, 6) {} ThermalZone (TZ) {} PowerResource (PR, 1, 2) {} Method (M) { Debug =
-- Acquire (MX, 0xFFFF) Release (MX) Signal (EV) Debug = Wait (EV, "10") Reset (EV) Notify (D, 1) Notify (CP, 2) Notify (TZ, Buffer () {3})
-- Sleep (4) Stall (5) Fatal (1, 2, 3) BreakPoint Noop Debug = Timer Debug = Revision } Method (N, 1) { Notify (Arg0, 1) }
abbrev events : Trees
events = (terms ((Mutex at (one "MX__") 3) ∷ (EventTerm at (one "EV__")) ∷ (Container' Device at (one "D___") no_trees) ∷ (Container' (Processor 1 2 6) at (one "CP__") no_trees) ∷ (Container' ThermalZone at (one "TZ__") no_trees) ∷ (Container' (PowerResource 1 2) at (one "PR__") no_trees) ∷ (Method at (one "M___") 0 (terms ((Assigned DebugTerm (Apply (Plain.Event EventOp.Acquire) (terms ((Use at (one "MX__")) ∷ (Raw 2 0xFFFF) ∷ [])) no_trees)) ∷ (Apply (Plain.Event EventOp.Release) (terms ((Use at (one "MX__")) ∷ [])) no_trees) ∷ (Apply (Plain.Event EventOp.Signal) (terms ((Use at (one "EV__")) ∷ [])) no_trees) ∷ (Assigned DebugTerm (Apply (Plain.Event EventOp.Wait) (terms ((Use at (one "EV__")) ∷ (String (codes "10")) ∷ [])) no_trees)) ∷ (Apply (Plain.Event EventOp.Reset) (terms ((Use at (one "EV__")) ∷ [])) no_trees) ∷ (Apply (Plain.Event EventOp.Notify) (terms ((Use at (one "D___")) ∷ (Integer 1) ∷ [])) no_trees) ∷ (Apply (Plain.Event EventOp.Notify) (terms ((Use at (one "CP__")) ∷ (Integer 2) ∷ [])) no_trees) ∷ (Apply (Plain.Event EventOp.Notify) (terms ((Use at (one "TZ__")) ∷ (Buffer (Integer 1) (3 ∷ [])) ∷ [])) no_trees) ∷ (Apply (Plain.Event EventOp.Sleep) (terms ((Integer 4) ∷ [])) no_trees) ∷ (Apply (Plain.Event EventOp.Stall) (terms ((Integer 5) ∷ [])) no_trees) ∷ (Apply (Plain.Event EventOp.Fatal) (terms ((Raw 1 1) ∷ (Raw 4 2) ∷ (Integer 3) ∷ [])) no_trees) ∷ (Apply (Plain.Event EventOp.BreakPoint) no_trees no_trees) ∷ (Apply (Plain.Event EventOp.Noop) no_trees no_trees) ∷ (Assigned DebugTerm (Apply (Plain.Event EventOp.Timer) no_trees no_trees)) ∷ (Assigned DebugTerm (Apply (Plain.Event EventOp.Revision) no_trees no_trees)) ∷ []))) ∷ (Method at (one "N___") 1 (terms ((Apply (Plain.Event EventOp.Notify) (terms ((arg 0) ∷ (Integer 1) ∷ [])) no_trees) ∷ []))) ∷ []))

abbrev events_table : List ℕ
events_table =
    table_bytes fields (hex "5B 01 4D 58 5F 5F 03 5B 02 45 56 5F 5F 5B 82 05 44 5F 5F 5F 5B 83 0B 43 50 5F 5F 01 02 00 00 00 06 5B 85 05 54 5A 5F 5F"
    ++ hex "5B 84 08 50 52 5F 5F 01 02 00 14 44 06 4D 5F 5F 5F 00 70 5B 23 4D 58 5F 5F FF FF 5B 31 5B 27 4D 58 5F 5F 5B 24 45 56 5F"
    ++ hex "5F 70 5B 25 45 56 5F 5F 0D 31 30 00 5B 31 5B 26 45 56 5F 5F 86 44 5F 5F 5F 01 86 43 50 5F 5F 0A 02 86 54 5A 5F 5F 11 03"
    ++ hex "01 03 5B 22 0A 04 5B 21 0A 05 5B 32 01 02 00 00 00 0A 03 CC A3 70 5B 33 5B 31 70 5B 30 5B 31 14 09 4E 5F 5F 5F 01 86 68"
    ++ hex "01")

abbrev events_asked : Asked
events_asked = record {
  there = present_ones (externals events) ([]);
  bound = 8;
  answers = ((number 0) ∷ (number 5) ∷ (Data (V.String (120 ∷ []))) ∷ (number 4) ∷ []);
  calls = (call (codes "M___" ∷ []) ([]) ∷ call (codes "N___" ∷ []) ((reference (Named (codes "D___" ∷ []))) ∷ []) ∷ call (codes "N___" ∷ []) ((reference (Named (codes "PR__" ∷ []))) ∷ []) ∷ call (codes "N___" ∷ []) ((reference (Named (codes "MX__" ∷ []))) ∷ []) ∷ call (codes "N___" ∷ []) ((reference (Named (codes "NO__" ∷ []))) ∷ []) ∷ call (codes "N___" ∷ []) ((number 5) ∷ []) ∷ call (codes "N___" ∷ []) ((reference (Named (codes "_SB_" ∷ []))) ∷ []) ∷ []);
  paths = ([]);
}

abbrev events_told : Told
events_told = record {
  results = ((Done (Normal false)) ∷ (Done NoValue) ∷ (Done NoValue) ∷ (faults Fault.WrongType) ∷ (faults Fault.WrongType) ∷ (faults Fault.NotFound) ∷ (faults Fault.WrongType) ∷ (faults Fault.WrongType) ∷ []);
  events = ((E.Acquire (codes "MX__" ∷ []) 0xFFFF) ∷ (E.Debug (number 0)) ∷ (E.Release (codes "MX__" ∷ [])) ∷ (E.Signal (codes "EV__" ∷ [])) ∷ (E.Wait (codes "EV__" ∷ []) 16) ∷ (E.Debug (number 0xFFFFFFFFFFFFFFFF)) ∷ (E.Reset (codes "EV__" ∷ [])) ∷ (E.Notify (codes "D___" ∷ []) 1) ∷ (E.Notify (codes "CP__" ∷ []) 2) ∷ (E.Notify (codes "TZ__" ∷ []) 3) ∷ (E.Sleep 4) ∷ (E.Stall 5) ∷ (E.Fatal 1 2 3) ∷ E.BreakPoint ∷ E.Timer ∷ (E.Debug (number 0)) ∷ E.Revision ∷ (E.Debug (number 4)) ∷ (E.Notify (codes "D___" ∷ []) 1) ∷ []);
  left = ([]);
  values = ([]);
}

events_encoded : written_whole W64 fields events ≡ events_table
events_encoded = refl

events_right : name_errors events ++ type_errors events ≡ []
events_right = refl

events_by_source : of_source W64 events events_asked ≡ events_told
events_by_source = refl

events_by_bytes : of_bytes events_table events_asked ≡ events_told
unfolding code_front
events_by_bytes = refl

-- external method
-- External (XM, MethodObj) Method (M) { Return (XM (Timer, Timer)) } Method (N) { XM (1, RefOf (M)) } Method (O) { Return (XM (Local0,
-- Timer)) }
abbrev external_method : Trees
external_method = (terms ((External at at (one "XM__") 8 None) ∷ (Method at (one "M___") 0 (terms ((Return (Call at (one "XM__") (terms ((Apply (Plain.Event EventOp.Timer) no_trees no_trees) ∷ (Apply (Plain.Event EventOp.Timer) no_trees no_trees) ∷ [])))) ∷ []))) ∷ (Method at (one "N___") 0 (terms ((Call at (one "XM__") (terms ((Integer 1) ∷ (Apply (Plain.Data DataOp.RefOf) (terms ((Use at (one "M___")) ∷ [])) no_trees) ∷ []))) ∷ []))) ∷ (Method at (one "O___") 0 (terms ((Return (Call at (one "XM__") (terms ((local 0) ∷ (Apply (Plain.Event EventOp.Timer) no_trees no_trees) ∷ [])))) ∷ []))) ∷ []))

abbrev external_method_table : List ℕ
external_method_table =
    table_bytes fields (hex "15 58 4D 5F 5F 08 02 14 0F 4D 5F 5F 5F 00 A4 58 4D 5F 5F 5B 33 5B 33 14 10 4E 5F 5F 5F 00 58 4D 5F 5F 01 71 4D 5F 5F 5F"
    ++ hex "14 0E 4F 5F 5F 5F 00 A4 58 4D 5F 5F 60 5B 33")

abbrev external_method_asked : Asked
external_method_asked = record {
  there = present_ones (externals external_method) ((codes "XM__" ∷ []) ∷ []);
  bound = 8;
  answers = ((number 1) ∷ (number 2) ∷ (V.Package (element (number 1) no_elements)) ∷ (number 5) ∷ (number 6) ∷ (number 7) ∷ []);
  calls = (call (codes "M___" ∷ []) ([]) ∷ call (codes "N___" ∷ []) ([]) ∷ call (codes "O___" ∷ []) ([]) ∷ call (codes "XM__" ∷ []) ((number 1) ∷ (number 2) ∷ []) ∷ call (codes "XM__" ∷ []) ((number 1) ∷ []) ∷ []);
  paths = ([]);
}

abbrev external_method_told : Told
external_method_told = record {
  results = ((Done (Normal false)) ∷ (gives (V.Package (element (number 1) no_elements))) ∷ (Done NoValue) ∷ (faults Fault.Uninitialized) ∷ (gives (number 6)) ∷ (faults Fault.WrongType) ∷ []);
  events = (E.Timer ∷ E.Timer ∷ (E.Call (codes "XM__" ∷ []) ((number 1) ∷ (number 2) ∷ [])) ∷ (E.Call (codes "XM__" ∷ []) ((number 1) ∷ (reference (Named (codes "M___" ∷ []))) ∷ [])) ∷ (E.Call (codes "XM__" ∷ []) ((number 1) ∷ (number 2) ∷ [])) ∷ []);
  left = ((number 7) ∷ []);
  values = ([]);
}

external_method_encoded : written_whole W64 fields external_method ≡ external_method_table
external_method_encoded = refl

external_method_right : name_errors external_method ++ type_errors external_method ≡ []
external_method_right = refl

external_method_by_source : of_source W64 external_method external_method_asked ≡ external_method_told
external_method_by_source = refl

external_method_by_bytes : of_bytes external_method_table external_method_asked ≡ external_method_told
unfolding code_front
external_method_by_bytes = refl

-- method-created names go away after fault
-- Method (M) { Name (X, 1) Name (X2, 1 / Local0) } Method (N) { Local0 = 0 Name (X, 1) Name (X2, 1 / Local0) } Method (O) { Return
-- (CondRefOf (\M.X)) }
abbrev method_created_names_go_away_after_fault : Trees
method_created_names_go_away_after_fault = (terms ((Method at (one "M___") 0 (terms ((Name at (one "X___") (Integer 1)) ∷ (Name at (one "X2__") (Operated (Plain.Number IntOp.Divide) (terms ((Integer 1) ∷ (local 0) ∷ [])))) ∷ []))) ∷ (Method at (one "N___") 0 (terms ((Assigned (local 0) (Integer 0)) ∷ (Name at (one "X___") (Integer 1)) ∷ (Name at (one "X2__") (Operated (Plain.Number IntOp.Divide) (terms ((Integer 1) ∷ (local 0) ∷ [])))) ∷ []))) ∷ (Method at (one "O___") 0 (terms ((Return (CondRefOf (Use at (path true 0 (codes "M___" ∷ codes "X___" ∷ []))) Omitted)) ∷ []))) ∷ []))

abbrev method_created_names_go_away_after_fault_table : List ℕ
method_created_names_go_away_after_fault_table =
    table_bytes fields (hex "14 16 4D 5F 5F 5F 00 08 58 5F 5F 5F 01 08 58 32 5F 5F 78 01 60 00 00 14 19 4E 5F 5F 5F 00 70 00 60 08 58 5F 5F 5F 01 08"
    ++ hex "58 32 5F 5F 78 01 60 00 00 14 14 4F 5F 5F 5F 00 A4 5B 12 5C 2E 4D 5F 5F 5F 58 5F 5F 5F 00")

abbrev method_created_names_go_away_after_fault_asked : Asked
method_created_names_go_away_after_fault_asked = record {
  there = present_ones (externals method_created_names_go_away_after_fault) ([]);
  bound = 8;
  answers = ([]);
  calls = (call (codes "M___" ∷ []) ([]) ∷ call (codes "N___" ∷ []) ([]) ∷ call (codes "O___" ∷ []) ([]) ∷ call (codes "M___" ∷ []) ([]) ∷ []);
  paths = ([]);
}

abbrev method_created_names_go_away_after_fault_told : Told
method_created_names_go_away_after_fault_told = record {
  results = ((Done (Normal false)) ∷ (faults Fault.Uninitialized) ∷ (faults Fault.DivideByZero) ∷ (gives (number 0)) ∷ (faults Fault.Uninitialized) ∷ []);
  events = ([]);
  left = ([]);
  values = ([]);
}

method_created_names_go_away_after_fault_encoded : written_whole W64 fields method_created_names_go_away_after_fault ≡ method_created_names_go_away_after_fault_table
method_created_names_go_away_after_fault_encoded = refl

method_created_names_go_away_after_fault_right : name_errors method_created_names_go_away_after_fault ++ type_errors method_created_names_go_away_after_fault ≡ []
method_created_names_go_away_after_fault_right = refl

method_created_names_go_away_after_fault_by_source : of_source W64 method_created_names_go_away_after_fault method_created_names_go_away_after_fault_asked ≡ method_created_names_go_away_after_fault_told
method_created_names_go_away_after_fault_by_source = refl

method_created_names_go_away_after_fault_by_bytes : of_bytes method_created_names_go_away_after_fault_table method_created_names_go_away_after_fault_asked ≡ method_created_names_go_away_after_fault_told
unfolding code_front
method_created_names_go_away_after_fault_by_bytes = refl

-- wait/notify conversions
-- Event (EV) Device (D) {} Method (M, 1) { Return (Wait (EV, Arg0)) } Method (N, 1) { Notify (D, Arg0) } Method(O, 2) { Notify (Arg0,
-- Arg1) }
abbrev wait_notify_conversions : Trees
wait_notify_conversions = (terms ((EventTerm at (one "EV__")) ∷ (Container' Device at (one "D___") no_trees) ∷ (Method at (one "M___") 1 (terms ((Return (Apply (Plain.Event EventOp.Wait) (terms ((Use at (one "EV__")) ∷ (arg 0) ∷ [])) no_trees)) ∷ []))) ∷ (Method at (one "N___") 1 (terms ((Apply (Plain.Event EventOp.Notify) (terms ((Use at (one "D___")) ∷ (arg 0) ∷ [])) no_trees) ∷ []))) ∷ (Method at (one "O___") 2 (terms ((Apply (Plain.Event EventOp.Notify) (terms ((arg 0) ∷ (arg 1) ∷ [])) no_trees) ∷ []))) ∷ []))

abbrev wait_notify_conversions_table : List ℕ
wait_notify_conversions_table =
    table_bytes fields (hex "5B 02 45 56 5F 5F 5B 82 05 44 5F 5F 5F 14 0E 4D 5F 5F 5F 01 A4 5B 25 45 56 5F 5F 68 14 0C 4E 5F 5F 5F 01 86 44 5F 5F 5F"
    ++ hex "68 14 09 4F 5F 5F 5F 02 86 68 69")

abbrev wait_notify_conversions_asked : Asked
wait_notify_conversions_asked = record {
  there = present_ones (externals wait_notify_conversions) ([]);
  bound = 8;
  answers = ((number 1) ∷ []);
  calls = (call (codes "M___" ∷ []) ((Data (V.Buffer ([]))) ∷ []) ∷ call (codes "M___" ∷ []) ((V.Package no_elements) ∷ []) ∷ call (codes "M___" ∷ []) ((Data (V.Buffer (1 ∷ 2 ∷ []))) ∷ []) ∷ call (codes "N___" ∷ []) ((Data (V.Buffer ([]))) ∷ []) ∷ call (codes "N___" ∷ []) ((Data (V.String (70 ∷ []))) ∷ []) ∷ call (codes "O___" ∷ []) ((number 5) ∷ (Data (V.Buffer ([]))) ∷ []) ∷ call (codes "O___" ∷ []) ((reference (Named (codes "NO__" ∷ []))) ∷ (Data (V.Buffer ([]))) ∷ []) ∷ []);
  paths = ([]);
}

abbrev wait_notify_conversions_told : Told
wait_notify_conversions_told = record {
  results = ((Done (Normal false)) ∷ (faults Fault.EmptyValue) ∷ (faults Fault.WrongType) ∷ (gives (number 0xFFFFFFFFFFFFFFFF)) ∷ (faults Fault.EmptyValue) ∷ (Done NoValue) ∷ (faults Fault.EmptyValue) ∷ (faults Fault.EmptyValue) ∷ []);
  events = ((E.Wait (codes "EV__" ∷ []) 0x201) ∷ (E.Notify (codes "D___" ∷ []) 15) ∷ []);
  left = ([]);
  values = ([]);
}

wait_notify_conversions_encoded : written_whole W64 fields wait_notify_conversions ≡ wait_notify_conversions_table
wait_notify_conversions_encoded = refl

wait_notify_conversions_right : name_errors wait_notify_conversions ++ type_errors wait_notify_conversions ≡ []
wait_notify_conversions_right = refl

wait_notify_conversions_by_source : of_source W64 wait_notify_conversions wait_notify_conversions_asked ≡ wait_notify_conversions_told
wait_notify_conversions_by_source = refl

wait_notify_conversions_by_bytes : of_bytes wait_notify_conversions_table wait_notify_conversions_asked ≡ wait_notify_conversions_told
unfolding code_front
wait_notify_conversions_by_bytes = refl
