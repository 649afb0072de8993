-- Sessions that ask for the kind of objects of other tables, and of what a name of an object is in an expression. The ACPI Specification
-- 6.4, 19.6 (ObjectType), gives the values.
use Rattle.std.proofs.Common.{◌≡◌, ℕ, false, List, [], ◌∷◌, ◌++◌, None, refl}
use Rattle.acpi_values.specs.declared.width.Width.TheVariants.{W64}
use Rattle.acpi_values.specs.declared.operator.DataOp.TheVariants as DataOp
use Rattle.acpi_values.specs.declared.operator.Plain.TheVariants as Plain
use Rattle.acpi_values.specs.Values.{Named}
use Rattle.acpi_state.specs.Objects as E
use Rattle.acpi_state.specs.Objects.{Device}
use Rattle.acpi_state.specs.Outcomes.{Normal, NoValue, Done}
use Rattle.acpi_state.specs.Sessions.{present_ones}
use Rattle.asl_tree.specs.Tree.{Integer, Debug as DebugTerm, Use, Apply, Assigned, Return, Name, External, Method, Event as EventTerm}
use Rattle.asl_tree.specs.Tree.{Container', Trees, no_trees}
use Rattle.asl_meaning.specs.Declarations.{externals}
use Rattle.aml_meaning.specs.Codes.{code_front}
use Rattle.aml_code.specs.Header.{table_bytes}
use Rattle.acpi_names.specs.Errors.{name_errors, type_errors}
use Rattle.meaning_rows.proofs.Rows.{at, fields}
use Rattle.meaning_rows.proofs.Outside.{hex, number, at_root, reference, call, Asked, Told, gives, of_bytes, of_source, written_whole}
use Rattle.meaning_rows.proofs.Outside.{terms, one, local}

-- kinds of others
-- External (XI, IntObj) External (XF, FieldUnitObj) External (XD, DeviceObj) External (XE, EventObj) External (XM, MethodObj) External
-- (XX, MutexObj) External (XR, OpRegionObj) External (XW, PowerResObj) External (XP, ProcessorObj) External (XT, ThermalZoneObj)
-- External (XB, BuffFieldObj) Method (M) { Debug = ObjectType (XI) Debug = ObjectType (XF) Debug = ObjectType (XD) Debug = ObjectType
-- (XE) Debug = ObjectType (XM) Debug = ObjectType (XX) Debug = ObjectType (XR) Debug = ObjectType (XW) Debug = ObjectType (XP) Debug =
-- ObjectType (XT) Debug = ObjectType (XB) }
abbrev kinds_of_others : Trees
kinds_of_others = (terms ((External at at (one "XI__") 1 None) ∷ (External at at (one "XF__") 5 None) ∷ (External at at (one "XD__") 6 None) ∷ (External at at (one "XE__") 7 None) ∷ (External at at (one "XM__") 8 None) ∷ (External at at (one "XX__") 9 None) ∷ (External at at (one "XR__") 10 None) ∷ (External at at (one "XW__") 11 None) ∷ (External at at (one "XP__") 12 None) ∷ (External at at (one "XT__") 13 None) ∷ (External at at (one "XB__") 14 None) ∷ (Method at (one "M___") 0 (terms ((Assigned DebugTerm (Apply (Plain.Data DataOp.ObjectType) (terms ((Use at (one "XI__")) ∷ [])) no_trees)) ∷ (Assigned DebugTerm (Apply (Plain.Data DataOp.ObjectType) (terms ((Use at (one "XF__")) ∷ [])) no_trees)) ∷ (Assigned DebugTerm (Apply (Plain.Data DataOp.ObjectType) (terms ((Use at (one "XD__")) ∷ [])) no_trees)) ∷ (Assigned DebugTerm (Apply (Plain.Data DataOp.ObjectType) (terms ((Use at (one "XE__")) ∷ [])) no_trees)) ∷ (Assigned DebugTerm (Apply (Plain.Data DataOp.ObjectType) (terms ((Use at (one "XM__")) ∷ [])) no_trees)) ∷ (Assigned DebugTerm (Apply (Plain.Data DataOp.ObjectType) (terms ((Use at (one "XX__")) ∷ [])) no_trees)) ∷ (Assigned DebugTerm (Apply (Plain.Data DataOp.ObjectType) (terms ((Use at (one "XR__")) ∷ [])) no_trees)) ∷ (Assigned DebugTerm (Apply (Plain.Data DataOp.ObjectType) (terms ((Use at (one "XW__")) ∷ [])) no_trees)) ∷ (Assigned DebugTerm (Apply (Plain.Data DataOp.ObjectType) (terms ((Use at (one "XP__")) ∷ [])) no_trees)) ∷ (Assigned DebugTerm (Apply (Plain.Data DataOp.ObjectType) (terms ((Use at (one "XT__")) ∷ [])) no_trees)) ∷ (Assigned DebugTerm (Apply (Plain.Data DataOp.ObjectType) (terms ((Use at (one "XB__")) ∷ [])) no_trees)) ∷ []))) ∷ []))

abbrev kinds_of_others_table : List ℕ
kinds_of_others_table =
    table_bytes fields (hex "15 58 49 5F 5F 01 00 15 58 46 5F 5F 05 00 15 58 44 5F 5F 06 00 15 58 45 5F 5F 07 00 15 58 4D 5F 5F 08 00 15 58 58 5F 5F"
    ++ hex "09 00 15 58 52 5F 5F 0A 00 15 58 57 5F 5F 0B 00 15 58 50 5F 5F 0C 00 15 58 54 5F 5F 0D 00 15 58 42 5F 5F 0E 00 14 4F 05"
    ++ hex "4D 5F 5F 5F 00 70 8E 58 49 5F 5F 5B 31 70 8E 58 46 5F 5F 5B 31 70 8E 58 44 5F 5F 5B 31 70 8E 58 45 5F 5F 5B 31 70 8E 58"
    ++ hex "4D 5F 5F 5B 31 70 8E 58 58 5F 5F 5B 31 70 8E 58 52 5F 5F 5B 31 70 8E 58 57 5F 5F 5B 31 70 8E 58 50 5F 5F 5B 31 70 8E 58"
    ++ hex "54 5F 5F 5B 31 70 8E 58 42 5F 5F 5B 31")

abbrev kinds_of_others_asked : Asked
kinds_of_others_asked = record {
  there = present_ones (externals kinds_of_others) ((at_root "XI__") ∷ (at_root "XF__") ∷ (at_root "XD__") ∷ (at_root "XE__") ∷ (at_root "XM__") ∷ (at_root "XX__") ∷ (at_root "XR__") ∷ (at_root "XW__") ∷ (at_root "XP__") ∷ (at_root "XT__") ∷ (at_root "XB__") ∷ []);
  bound = 8;
  answers = ([]);
  calls = (call (at_root "M___") [] ∷ []);
  paths = ([]);
}

abbrev kinds_of_others_told : Told
kinds_of_others_told = record {
  results = ((Done (Normal false)) ∷ (Done NoValue) ∷ []);
  events = ((E.Debug (number 1)) ∷ (E.Debug (number 5)) ∷ (E.Debug (number 6)) ∷ (E.Debug (number 7)) ∷ (E.Debug (number 8)) ∷ (E.Debug (number 9)) ∷ (E.Debug (number 10)) ∷ (E.Debug (number 11)) ∷ (E.Debug (number 12)) ∷ (E.Debug (number 13)) ∷ (E.Debug (number 14)) ∷ []);
  left = ([]);
  values = ([]);
}

kinds_of_others_encoded : written_whole W64 fields kinds_of_others ≡ kinds_of_others_table
kinds_of_others_encoded = refl

kinds_of_others_right : name_errors kinds_of_others ++ type_errors kinds_of_others ≡ []
kinds_of_others_right = refl

kinds_of_others_by_source : of_source W64 kinds_of_others kinds_of_others_asked ≡ kinds_of_others_told
kinds_of_others_by_source = refl

kinds_of_others_by_bytes : of_bytes kinds_of_others_table kinds_of_others_asked ≡ kinds_of_others_told
unfolding code_front
kinds_of_others_by_bytes = refl

-- A name of an object that is no data is a Reference to it
-- Device (DV) { Name (X, 1) } Event (EV) Method (M) { Local0 = DV Debug = ObjectType (Local0) Return (EV) }
abbrev names_as_values : Trees
names_as_values = (terms ((Container' Device at (one "DV__") (terms ((Name at (one "X___") (Integer 1)) ∷ []))) ∷ (EventTerm at (one "EV__")) ∷ (Method at (one "M___") 0 (terms ((Assigned (local 0) (Use at (one "DV__"))) ∷ (Assigned DebugTerm (Apply (Plain.Data DataOp.ObjectType) (terms ((local 0) ∷ [])) no_trees)) ∷ (Return (Use at (one "EV__"))) ∷ []))) ∷ []))

abbrev names_as_values_table : List ℕ
names_as_values_table =
    table_bytes fields (hex "5B 82 0B 44 56 5F 5F 08 58 5F 5F 5F 01 5B 02 45 56 5F 5F 14 16 4D 5F 5F 5F 00 70 44 56 5F 5F 60 70 8E 60 5B 31 A4 45 56"
    ++ hex "5F 5F")

abbrev names_as_values_asked : Asked
names_as_values_asked = record {
  there = present_ones (externals names_as_values) ([]);
  bound = 8;
  answers = ([]);
  calls = (call (at_root "M___") [] ∷ []);
  paths = ([]);
}

abbrev names_as_values_told : Told
names_as_values_told = record {
  results = ((Done (Normal false)) ∷ (gives (reference (Named (at_root "EV__")))) ∷ []);
  events = ((E.Debug (number 6)) ∷ []);
  left = ([]);
  values = ([]);
}

names_as_values_encoded : written_whole W64 fields names_as_values ≡ names_as_values_table
names_as_values_encoded = refl

names_as_values_right : name_errors names_as_values ++ type_errors names_as_values ≡ []
names_as_values_right = refl

names_as_values_by_source : of_source W64 names_as_values names_as_values_asked ≡ names_as_values_told
names_as_values_by_source = refl

names_as_values_by_bytes : of_bytes names_as_values_table names_as_values_asked ≡ names_as_values_told
unfolding code_front
names_as_values_by_bytes = refl
