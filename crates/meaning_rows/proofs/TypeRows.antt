-- Sessions that ask for the type of each kind of object, and that use objects of other tables. Another implementation gives the values.
use Rattle.std.proofs.Common.{◌≡◌, ℕ, false, List, [], ◌∷◌, ◌++◌, Some, None, refl}
use Rattle.std.specs.Prelude.{codes}
use Rattle.acpi_values.specs.declared.width.Width.TheVariants.{W64}
use Rattle.acpi_values.specs.declared.operator.IntOp.TheVariants as IntOp
use Rattle.acpi_values.specs.Values.{ElementOf}
use Rattle.acpi_state.specs.Objects.{ExternalObject, ExternalMethod, ExternalData, ExternalOther, ThermalZone, PowerResource, Processor}
use Rattle.acpi_state.specs.Objects as E
use Rattle.acpi_state.specs.FieldActs.{OneByte}
use Rattle.acpi_state.specs.Outcomes.{NoValue, Normal, Done}
use Rattle.acpi_state.specs.Sessions.{present_ones}
use Rattle.asl_tree.specs.FieldItems.{SkipItem}
use Rattle.asl_tree.specs.Tree.{Integer, String, Debug, Call, Buffer, CondRefOf, Return, Name, External, Method, Mutex, Event, Container', OperationRegion, Field, IndexField, CreateField, Assigned, Trees, no_trees}
use Rattle.asl_meaning.specs.Declarations.{externals}
use Rattle.aml_meaning.specs.Codes.{code_front}
use Rattle.acpi_names.specs.Errors.{name_errors, type_errors}
use Rattle.meaning_rows.proofs.Rows.{at}
use Rattle.meaning_rows.proofs.Outside.{hex, table, at_root, number, text, buffer, packaged, reference, call, gives, Asked, Told, of_bytes, of_source, written, one, terms, name, local, symbol, deref_of, ref_of, type_of, element_of, increment, unit}

-- ObjectType of each kind, of Debug, of a Local without a value and of a Reference
-- External (X1, PkgObj)
-- External (M1, MethodObj)
-- Name (I, 1)
-- Processor (CPU0, 1, 0x10, 6) {}
-- PowerResource (PR, 1, 2) {}
-- ThermalZone (TZ) {}
-- Mutex (MX, 0)
-- Event (EV)
-- OperationRegion (RG, SystemIO, 0, 4)
-- Field (RG, ByteAcc, NoLock, Preserve) { FU, 8 }
-- CreateByteField (Buffer () {1}, 0, BF)
-- Method (A) { Local0 = "" Local1 = 0 Debug = ObjectType (CPU0) Debug = ObjectType (PR) Debug = ObjectType (TZ) Debug = ObjectType (MX)
--     Debug = ObjectType (EV) Debug = ObjectType (RG) Debug = ObjectType (FU) Debug = ObjectType (BF) Debug = ObjectType (A) Debug =
--     ObjectType (X1) Debug = ObjectType (M1) Debug = ObjectType (_SB) Debug = ObjectType (Debug) Debug = ObjectType (Local7) Local2 =
--     RefOf (FU) Debug = ObjectType (Local2) Debug = ObjectType (_OS) }
abbrev typed : Trees
typed =
    terms
    (External at at (one "X1__") 4 None
    ∷ External at at (one "M1__") 8 None
    ∷ Name at (one "I___") (Integer 1)
    ∷ Container' (Processor 1 16 6) at (one "CPU0") no_trees
    ∷ Container' (PowerResource 1 2) at (one "PR__") no_trees
    ∷ Container' ThermalZone at (one "TZ__") no_trees
    ∷ Mutex at (one "MX__") 0
    ∷ Event at (one "EV__")
    ∷ OperationRegion at (one "RG__") 1 (terms (Integer 0 ∷ Integer 4 ∷ []))
    ∷ Field at at (one "RG__") 0x01 (unit "FU__" 8 ∷ [])
    ∷ CreateField OneByte (terms (Buffer (Integer 1) (1 ∷ []) ∷ Integer 0 ∷ [])) at (one "BF__")
    ∷ Method at (one "A___") 0
    (terms
    (Assigned (local 0) (String [])
    ∷ Assigned (local 1) (Integer 0)
    ∷ Assigned Debug (type_of (name "CPU0"))
    ∷ Assigned Debug (type_of (name "PR__"))
    ∷ Assigned Debug (type_of (name "TZ__"))
    ∷ Assigned Debug (type_of (name "MX__"))
    ∷ Assigned Debug (type_of (name "EV__"))
    ∷ Assigned Debug (type_of (name "RG__"))
    ∷ Assigned Debug (type_of (name "FU__"))
    ∷ Assigned Debug (type_of (name "BF__"))
    ∷ Assigned Debug (type_of (name "A___"))
    ∷ Assigned Debug (type_of (name "X1__"))
    ∷ Assigned Debug (type_of (name "M1__"))
    ∷ Assigned Debug (type_of (name "_SB_"))
    ∷ Assigned Debug (type_of Debug)
    ∷ Assigned Debug (type_of (local 7))
    ∷ Assigned (local 2) (ref_of (name "FU__"))
    ∷ Assigned Debug (type_of (local 2))
    ∷ Assigned Debug (type_of (name "_OS_")) ∷ [])) ∷ [])

abbrev typed_table : List ℕ
typed_table =
    table "12 01 00 00 02 53"
    (hex "15 58 31 5F 5F 04 00"
    ++ hex "15 4D 31 5F 5F 08 00"
    ++ hex "08 49 5F 5F 5F 01"
    ++ hex "5B 83 0B 43 50 55 30 01 10 00 00 00 06"
    ++ hex "5B 84 08 50 52 5F 5F 01 02 00"
    ++ hex "5B 85 05 54 5A 5F 5F"
    ++ hex "5B 01 4D 58 5F 5F 00"
    ++ hex "5B 02 45 56 5F 5F"
    ++ hex "5B 80 52 47 5F 5F 01 00 0A 04"
    ++ hex "5B 81 0B 52 47 5F 5F 01 46 55 5F 5F 08"
    ++ hex "8C 11 03 01 01 00 42 46 5F 5F"
    ++ hex "14 4D 08 41 5F 5F 5F 00 70 0D 00 60 70 00 61 70 8E 43 50 55 30 5B 31 70 8E 50 52 5F 5F 5B 31 70 8E 54 5A 5F 5F 5B 31 70"
    ++ hex "8E 4D 58 5F 5F 5B 31 70 8E 45 56 5F 5F 5B 31 70 8E 52 47 5F 5F 5B 31 70 8E 46 55 5F 5F 5B 31 70 8E 42 46 5F 5F 5B 31 70"
    ++ hex "8E 41 5F 5F 5F 5B 31 70 8E 58 31 5F 5F 5B 31 70 8E 4D 31 5F 5F 5B 31 70 8E 5F 53 42 5F 5B 31 70 8E 5B 31 5B 31 70 8E 67"
    ++ hex "5B 31 70 71 46 55 5F 5F 62 70 8E 62 5B 31 70 8E 5F 4F 53 5F 5B 31")

abbrev typed_asked : Asked
typed_asked = record {
  there = (at_root "X1__", ExternalObject (ExternalData 1)) ∷ (at_root "M1__", ExternalObject (ExternalMethod 0)) ∷ [];
  bound = 8;
  answers = [];
  calls = call (at_root "A___") [] ∷ [];
  paths = at_root "I___" ∷ [];
}

-- _OS, which is asked last, is a String (ACPI Specification 6.4, 5.7.3)
abbrev typed_told : Told
typed_told = record {
  results = Done (Normal false) ∷ Done NoValue ∷ [];
  events = E.Debug (number 12) ∷ E.Debug (number 11) ∷ E.Debug (number 13) ∷ E.Debug (number 9) ∷ E.Debug (number 7)
      ∷ E.Debug (number 10) ∷ E.Debug (number 5) ∷ E.Debug (number 14) ∷ E.Debug (number 8) ∷ E.Debug (number 1)
      ∷ E.Debug (number 8) ∷ E.Debug (number 0) ∷ E.Debug (number 16) ∷ E.Debug (number 0) ∷ E.Debug (number 5) ∷ E.Debug (number 2) ∷ [];
  left = [];
  values = Some (number 1) ∷ [];
}

typed_encoded : written typed ≡ typed_table
typed_encoded = refl

typed_right : name_errors typed ++ type_errors typed ≡ []
typed_right = refl

typed_present : present_ones (externals typed) (at_root "X1__" ∷ at_root "M1__" ∷ [])
    ≡ (at_root "M1__", ExternalObject (ExternalMethod 0)) ∷ (at_root "X1__", ExternalObject (ExternalData 4)) ∷ []
typed_present = refl

typed_by_source : of_source W64 typed typed_asked ≡ typed_told
typed_by_source = refl

typed_by_bytes : of_bytes typed_table typed_asked ≡ typed_told
unfolding code_front
typed_by_bytes = refl

-- Data, a method, a field unit and a region of other tables; DX is not there
-- External (E1, IntObj)
-- External (E2, MethodObj, , {IntObj, IntObj})
-- External (E3, FieldUnitObj)
-- External (RX, OpRegionObj)
-- External (DX, DeviceObj)
-- OperationRegion (R, SystemIO, 0, 8)
-- Field (R, ByteAcc, NoLock, Preserve) { IX, 8 }
-- Field (RX, WordAcc, NoLock, WriteAsOnes) { FX, 4 }
-- IndexField (IX, E3, ByteAcc, NoLock, Preserve) { , 8, V, 4 }
-- Method (A) { E1 = E1 + 1 E1++ Local0 = E2 (E1, "x") Debug = Local0 V = 3 FX = 2 Return (CondRefOf (DX, Local1)) }
-- Method (B) { Return (E1 [1]) }
-- Method (C) { Return (DerefOf (RefOf (E1))) }
abbrev elsewhere : Trees
elsewhere =
    terms
    (External at at (one "E1__") 1 None
    ∷ External at at (one "E2__") 8 (Some 2)
    ∷ External at at (one "E3__") 5 None
    ∷ External at at (one "RX__") 10 None
    ∷ External at at (one "DX__") 6 None
    ∷ OperationRegion at (one "R___") 1 (terms (Integer 0 ∷ Integer 8 ∷ []))
    ∷ Field at at (one "R___") 0x01 (unit "IX__" 8 ∷ [])
    ∷ Field at at (one "RX__") 0x22 (unit "FX__" 4 ∷ [])
    ∷ IndexField at at (one "IX__") at (one "E3__") 0x01 (SkipItem 8 ∷ unit "V___" 4 ∷ [])
    ∷ Method at (one "A___") 0
    (terms
    (Assigned (name "E1__") (symbol IntOp.Add (name "E1__" ∷ Integer 1 ∷ []))
    ∷ increment (name "E1__")
    ∷ Assigned (local 0) (Call at (one "E2__") (terms (name "E1__" ∷ String (codes "x") ∷ [])))
    ∷ Assigned Debug (local 0)
    ∷ Assigned (name "V___") (Integer 3)
    ∷ Assigned (name "FX__") (Integer 2)
    ∷ Return (CondRefOf (name "DX__") (local 1)) ∷ []))
    ∷ Method at (one "B___") 0 (terms (Return (element_of (name "E1__") (Integer 1)) ∷ []))
    ∷ Method at (one "C___") 0 (terms (Return (deref_of (ref_of (name "E1__"))) ∷ [])) ∷ [])

abbrev elsewhere_table : List ℕ
elsewhere_table =
    table "D8 00 00 00 02 EB"
    (hex "15 45 31 5F 5F 01 00"
    ++ hex "15 45 32 5F 5F 08 02"
    ++ hex "15 45 33 5F 5F 05 00"
    ++ hex "15 52 58 5F 5F 0A 00"
    ++ hex "15 44 58 5F 5F 06 00"
    ++ hex "5B 80 52 5F 5F 5F 01 00 0A 08"
    ++ hex "5B 81 0B 52 5F 5F 5F 01 49 58 5F 5F 08"
    ++ hex "5B 81 0B 52 58 5F 5F 22 46 58 5F 5F 04"
    ++ hex "5B 86 11 49 58 5F 5F 45 33 5F 5F 01 00 08 56 5F 5F 5F 04"
    ++ hex "14 3C 41 5F 5F 5F 00 72 45 31 5F 5F 01 45 31 5F 5F 75 45 31 5F 5F 70 45 32 5F 5F 45 31 5F 5F 0D 78 00 60 70 60 5B 31 70"
    ++ hex "0A 03 56 5F 5F 5F 70 0A 02 46 58 5F 5F A4 5B 12 44 58 5F 5F 61"
    ++ hex "14 0E 42 5F 5F 5F 00 A4 88 45 31 5F 5F 01 00"
    ++ hex "14 0D 43 5F 5F 5F 00 A4 83 71 45 31 5F 5F")

abbrev elsewhere_asked : Asked
elsewhere_asked = record {
  there = (at_root "E1__", ExternalObject (ExternalData 1)) ∷ (at_root "E2__", ExternalObject (ExternalMethod 2))
      ∷ (at_root "E3__", ExternalObject (ExternalData 5)) ∷ (at_root "RX__", ExternalObject (ExternalOther 10)) ∷ [];
  bound = 8;
  answers = number 7 ∷ number 8 ∷ number 9 ∷ text "r" ∷ buffer "61 62" ∷ buffer "78 79 7A" ∷ packaged (number 1 ∷ []) ∷ [];
  calls = call (at_root "A___") [] ∷ call (at_root "B___") [] ∷ call (at_root "C___") [] ∷ [];
  paths = [];
}

abbrev elsewhere_told : Told
elsewhere_told = record {
  results = Done (Normal false) ∷ gives (number 0) ∷ gives (reference (ElementOf (buffer "78 79 7A") 1))
      ∷ gives (packaged (number 1 ∷ [])) ∷ [];
  events = E.ReadExternal (at_root "E1__") ∷ E.WriteExternal (at_root "E1__") (number 8) ∷ E.ReadExternal (at_root "E1__")
      ∷ E.WriteExternal (at_root "E1__") (number 9) ∷ E.ReadExternal (at_root "E1__")
      ∷ E.Call (at_root "E2__") (number 9 ∷ text "x" ∷ []) ∷ E.Debug (text "r") ∷ E.Write (at_root "R___") 1 0 1 1
      ∷ E.ReadExternal (at_root "E3__") ∷ E.Write (at_root "R___") 1 0 1 1 ∷ E.WriteExternal (at_root "E3__") (number 3)
      ∷ E.Write (at_root "RX__") 255 0 2 0xFFF2 ∷ E.ReadExternal (at_root "E1__") ∷ E.ReadExternal (at_root "E1__") ∷ [];
  left = [];
  values = [];
}

elsewhere_encoded : written elsewhere ≡ elsewhere_table
elsewhere_encoded = refl

elsewhere_right : name_errors elsewhere ++ type_errors elsewhere ≡ []
elsewhere_right = refl

elsewhere_present : present_ones (externals elsewhere) (at_root "E1__" ∷ at_root "E2__" ∷ at_root "E3__" ∷ at_root "RX__" ∷ [])
    ≡ (at_root "RX__", ExternalObject (ExternalOther 10)) ∷ (at_root "E3__", ExternalObject (ExternalData 5)) ∷ (at_root "E2__", ExternalObject (ExternalMethod 2)) ∷ (at_root "E1__", ExternalObject (ExternalData 1)) ∷ []
elsewhere_present = refl

elsewhere_by_source : of_source W64 elsewhere elsewhere_asked ≡ elsewhere_told
elsewhere_by_source = refl

elsewhere_by_bytes : of_bytes elsewhere_table elsewhere_asked ≡ elsewhere_told
unfolding code_front
elsewhere_by_bytes = refl
