-- Sessions that show what comes before what: values before places, a method before its arguments, operands before the object that is
-- made. Worked by hand: operands are evaluated from left to right (ACPI Specification 6.4, 19.2.5 and 19.6).
use Rattle.std.proofs.Common.{◌≡◌, ℕ, true, false, List, [], ◌∷◌, ◌++◌, Some, refl}
use Rattle.std.specs.Prelude.{codes}
use Rattle.acpi_values.specs.declared.width.Width.TheVariants.{W64}
use Rattle.acpi_values.specs.declared.fault.Fault.TheVariants as Fault
use Rattle.acpi_values.specs.declared.operator.IntOp.TheVariants as IntOp
use Rattle.acpi_values.specs.declared.operator.DataOp.TheVariants as DataOp
use Rattle.acpi_values.specs.declared.operator.EventOp.TheVariants as EventOp
use Rattle.acpi_values.specs.declared.operator.Plain.TheVariants as Plain
use Rattle.acpi_state.specs.Objects as E
use Rattle.acpi_state.specs.Outcomes.{Normal, NoValue, Done}
use Rattle.acpi_state.specs.Sessions.{present_ones}
use Rattle.asl_tree.specs.Tree.{Integer, String, Debug as DebugTerm, Use, Call, Apply, Operated, Assigned, Buffer, Package, CondRefOf}
use Rattle.asl_tree.specs.Tree.{Return, Name, Method, While, OperationRegion, Field, BankField, Trees, no_trees}
use Rattle.asl_meaning.specs.Declarations.{externals}
use Rattle.aml_meaning.specs.Codes.{code_front}
use Rattle.aml_code.specs.Header.{table_bytes}
use Rattle.acpi_names.specs.Errors.{name_errors, type_errors}
use Rattle.meaning_rows.proofs.Rows.{at, fields}
use Rattle.meaning_rows.proofs.Outside.{hex, number, text, packaged, at_root, call, Asked, Told, gives, faults, of_bytes, of_source}
use Rattle.meaning_rows.proofs.Outside.{written_whole, terms, path, one, local, arg, unit}

-- values before places
-- Method (A, 1) { Debug = Arg0 Return (0) } Name (P, Package () { 1 }) Name (Q, Package () { 2 }) Method (M) { P [A ("place")] = A
-- ("value") Debug = CondRefOf (P [A ("first")], Q [A ("second")]) Local0 = Package () { Buffer (A ("left")) {}, Buffer (A ("right")) {}
-- } }
abbrev values_before_places : Trees
values_before_places = (terms ((Method at (one "A___") 1 (terms ((Assigned DebugTerm (arg 0)) ∷ (Return (Integer 0)) ∷ []))) ∷ (Name at (one "P___") (Package 1 (terms ((Integer 1) ∷ [])))) ∷ (Name at (one "Q___") (Package 1 (terms ((Integer 2) ∷ [])))) ∷ (Method at (one "M___") 0 (terms ((Assigned (Operated (Plain.Data DataOp.Index) (terms ((Use at (one "P___")) ∷ (Call at (one "A___") (terms ((String (codes "place")) ∷ []))) ∷ []))) (Call at (one "A___") (terms ((String (codes "value")) ∷ [])))) ∷ (Assigned DebugTerm (CondRefOf (Operated (Plain.Data DataOp.Index) (terms ((Use at (one "P___")) ∷ (Call at (one "A___") (terms ((String (codes "first")) ∷ []))) ∷ []))) (Operated (Plain.Data DataOp.Index) (terms ((Use at (one "Q___")) ∷ (Call at (one "A___") (terms ((String (codes "second")) ∷ []))) ∷ []))))) ∷ (Assigned (local 0) (Package 2 (terms ((Buffer (Call at (one "A___") (terms ((String (codes "left")) ∷ []))) ([])) ∷ (Buffer (Call at (one "A___") (terms ((String (codes "right")) ∷ []))) ([])) ∷ [])))) ∷ []))) ∷ []))

abbrev values_before_places_table : List ℕ
values_before_places_table =
    table_bytes fields (hex "14 0C 41 5F 5F 5F 01 70 68 5B 31 A4 00 08 50 5F 5F 5F 12 03 01 01 08 51 5F 5F 5F 12 04 01 0A 02 14 4A 06 4D 5F 5F 5F 00"
    ++ hex "70 41 5F 5F 5F 0D 76 61 6C 75 65 00 88 50 5F 5F 5F 41 5F 5F 5F 0D 70 6C 61 63 65 00 00 70 5B 12 88 50 5F 5F 5F 41 5F 5F"
    ++ hex "5F 0D 66 69 72 73 74 00 00 88 51 5F 5F 5F 41 5F 5F 5F 0D 73 65 63 6F 6E 64 00 00 5B 31 70 12 1B 02 11 0B 41 5F 5F 5F 0D"
    ++ hex "6C 65 66 74 00 11 0C 41 5F 5F 5F 0D 72 69 67 68 74 00 60")

abbrev values_before_places_asked : Asked
values_before_places_asked = record {
  there = present_ones (externals values_before_places) ([]);
  bound = 8;
  answers = ([]);
  calls = (call (at_root "M___") [] ∷ []);
  paths = ((at_root "P___") ∷ (at_root "Q___") ∷ []);
}

abbrev values_before_places_told : Told
values_before_places_told = record {
  results = ((Done (Normal false)) ∷ (Done NoValue) ∷ []);
  events = ((E.Debug (text "value")) ∷ (E.Debug (text "place")) ∷ (E.Debug (text "first")) ∷ (E.Debug (text "second")) ∷ (E.Debug (number 0xFFFFFFFFFFFFFFFF)) ∷ (E.Debug (text "left")) ∷ (E.Debug (text "right")) ∷ []);
  left = ([]);
  values = (Some (packaged ((number 0) ∷ [])) ∷ Some (packaged ((number 0) ∷ [])) ∷ []);
}

values_before_places_encoded : written_whole W64 fields values_before_places ≡ values_before_places_table
values_before_places_encoded = refl

values_before_places_right : name_errors values_before_places ++ type_errors values_before_places ≡ []
values_before_places_right = refl

values_before_places_by_source : of_source W64 values_before_places values_before_places_asked ≡ values_before_places_told
values_before_places_by_source = refl

values_before_places_by_bytes : of_bytes values_before_places_table values_before_places_asked ≡ values_before_places_told
unfolding code_front
values_before_places_by_bytes = refl

-- What is missing is told before what stands behind it is evaluated; a path that is taken, after its value is
-- OperationRegion (R, SystemIO, 0, 8) Method (K) { Method (\F, 1) { Return (Arg0) } Field (\R, ByteAcc, NoLock, Preserve) { BK, 8 }
-- Return (\F (Timer)) } Method (A) { Return (\F (Timer)) } Method (B) { BankField (R, \K.BK, Timer, ByteAcc, NoLock, Preserve) { BU, 8 }
-- } Method (C) { Local0 = 0 While (Local0 < 2) { Name (X, Timer) Local0 = X } }
abbrev faults_before_events : Trees
faults_before_events = (terms ((OperationRegion at (one "R___") 1 (terms ((Integer 0) ∷ (Integer 8) ∷ []))) ∷ (Method at (one "K___") 0 (terms ((Method at (path true 0 (codes "F___" ∷ [])) 1 (terms ((Return (arg 0)) ∷ []))) ∷ (Field at at (path true 0 (codes "R___" ∷ [])) 1 ((unit "BK__" 8) ∷ [])) ∷ (Return (Call at (path true 0 (codes "F___" ∷ [])) (terms ((Apply (Plain.Event EventOp.Timer) no_trees no_trees) ∷ [])))) ∷ []))) ∷ (Method at (one "A___") 0 (terms ((Return (Call at (path true 0 (codes "F___" ∷ [])) (terms ((Apply (Plain.Event EventOp.Timer) no_trees no_trees) ∷ [])))) ∷ []))) ∷ (Method at (one "B___") 0 (terms ((BankField at at (one "R___") at (path true 0 (codes "K___" ∷ codes "BK__" ∷ [])) (Apply (Plain.Event EventOp.Timer) no_trees no_trees) 1 ((unit "BU__" 8) ∷ [])) ∷ []))) ∷ (Method at (one "C___") 0 (terms ((Assigned (local 0) (Integer 0)) ∷ (While (Operated (Plain.Number IntOp.LLess) (terms ((local 0) ∷ (Integer 2) ∷ []))) (terms ((Name at (one "X___") (Apply (Plain.Event EventOp.Timer) no_trees no_trees)) ∷ (Assigned (local 0) (Use at (one "X___"))) ∷ []))) ∷ []))) ∷ []))

abbrev faults_before_events_table : List ℕ
faults_before_events_table =
    table_bytes fields (hex "5B 80 52 5F 5F 5F 01 00 0A 08 14 26 4B 5F 5F 5F 00 14 09 5C 46 5F 5F 5F 01 A4 68 5B 81 0C 5C 52 5F 5F 5F 01 42 4B 5F 5F"
    ++ hex "08 A4 5C 46 5F 5F 5F 5B 33 14 0E 41 5F 5F 5F 00 A4 5C 46 5F 5F 5F 5B 33 14 1F 42 5F 5F 5F 00 5B 87 17 52 5F 5F 5F 5C 2E"
    ++ hex "4B 5F 5F 5F 42 4B 5F 5F 5B 33 01 42 55 5F 5F 08 14 1C 43 5F 5F 5F 00 70 00 60 A2 12 95 60 0A 02 08 58 5F 5F 5F 5B 33 70"
    ++ hex "58 5F 5F 5F 60")

abbrev faults_before_events_asked : Asked
faults_before_events_asked = record {
  there = present_ones (externals faults_before_events) ([]);
  bound = 8;
  answers = ((number 1) ∷ (number 1) ∷ (number 2) ∷ (number 3) ∷ []);
  calls = (call (at_root "K___") [] ∷ call (at_root "A___") [] ∷ call (at_root "B___") [] ∷ call (at_root "C___") [] ∷ []);
  paths = ([]);
}

abbrev faults_before_events_told : Told
faults_before_events_told = record {
  results = ((Done (Normal false)) ∷ (gives (number 1)) ∷ (faults Fault.NotFound) ∷ (faults Fault.NotFound) ∷ (faults Fault.AlreadyExists) ∷ []);
  events = (E.Timer ∷ E.Timer ∷ E.Timer ∷ []);
  left = ((number 3) ∷ []);
  values = ([]);
}

faults_before_events_encoded : written_whole W64 fields faults_before_events ≡ faults_before_events_table
faults_before_events_encoded = refl

faults_before_events_right : name_errors faults_before_events ++ type_errors faults_before_events ≡ []
faults_before_events_right = refl

faults_before_events_by_source : of_source W64 faults_before_events faults_before_events_asked ≡ faults_before_events_told
faults_before_events_by_source = refl

faults_before_events_by_bytes : of_bytes faults_before_events_table faults_before_events_asked ≡ faults_before_events_told
unfolding code_front
faults_before_events_by_bytes = refl
