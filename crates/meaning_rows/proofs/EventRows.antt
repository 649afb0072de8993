-- Sessions that tell the outside something: Notify, and the other events in order. Another implementation gives the values.
use Rattle.std.proofs.Common.{◌≡◌, ℕ, false, true, List, [], ◌∷◌, ◌++◌, Some, None, refl}
use Rattle.std.specs.Prelude.{codes}
use Rattle.acpi_values.specs.declared.width.Width.TheVariants.{W64}
use Rattle.acpi_values.specs.declared.operator.IntOp.TheVariants as IntOp
use Rattle.acpi_values.specs.declared.operator.DataOp.TheVariants as DataOp
use Rattle.acpi_values.specs.declared.operator.EventOp.TheVariants as EventOp
use Rattle.acpi_values.specs.declared.fault.Fault.TheVariants as Fault
use Rattle.acpi_values.specs.Values.{Named}
use Rattle.acpi_state.specs.Objects.{ExternalObject, ExternalData, Device}
use Rattle.acpi_state.specs.Objects as E
use Rattle.acpi_state.specs.Outcomes.{NoValue, Normal, Done}
use Rattle.acpi_state.specs.Sessions.{present_ones}
use Rattle.asl_tree.specs.Tree.{Integer, String, Raw, Use, Package, Return, Name, Alias, External, Method, Mutex, Event, Container', Assigned, Trees, no_trees}
use Rattle.asl_meaning.specs.Declarations.{externals}
use Rattle.aml_meaning.specs.Codes.{code_front}
use Rattle.acpi_names.specs.Errors.{name_errors, type_errors}
use Rattle.meaning_rows.proofs.Rows.{at}
use Rattle.meaning_rows.proofs.Outside.{hex, table, at_root, number, text, packaged, reference, call, gives, faults, Asked, Told, of_bytes, of_source, written, one, path, terms, name, local, arg, symbol, data_op, event_op, deref_of, ref_of, element_of}

-- Notify of a path that is not there, of a Device by its name, an alias and a Reference in a Name, a Local and an Arg, of an object of
--     unknown type, of a number
-- External (\DEV1, DeviceObj)
-- External (U)
-- Name (P, Package () { \DEV1, \D })
-- Device (D) {}
-- Alias (D, E)
-- Name (N, 0)
-- Method (A) { Local0 = DerefOf (P [0]) Notify (Local0, 1) }
-- Method (B) { Notify (D, 1) Notify (E, "12") CopyObject (RefOf (D), N) Notify (N, 2) Local0 = DerefOf (P [1]) Notify (Local0, 0x80)
--     Notify (U, 4) }
-- Method (C, 1) { Notify (Arg0, 3) }
abbrev notified : Trees
notified =
    terms
    (External at at (path true 0 (codes "DEV1" ∷ [])) 6 None
    ∷ External at at (one "U___") 0 None
    ∷ Name at (one "P___")
    (Package 2 (terms (Use at (path true 0 (codes "DEV1" ∷ [])) ∷ Use at (path true 0 (codes "D___" ∷ [])) ∷ [])))
    ∷ Container' Device at (one "D___") no_trees
    ∷ Alias at (one "D___") at (one "E___")
    ∷ Name at (one "N___") (Integer 0)
    ∷ Method at (one "A___") 0
    (terms
    (Assigned (local 0) (deref_of (element_of (name "P___") (Integer 0)))
    ∷ event_op EventOp.Notify (local 0 ∷ Integer 1 ∷ []) ∷ []))
    ∷ Method at (one "B___") 0
    (terms
    (event_op EventOp.Notify (name "D___" ∷ Integer 1 ∷ [])
    ∷ event_op EventOp.Notify (name "E___" ∷ String (codes "12") ∷ [])
    ∷ data_op DataOp.CopyObject (ref_of (name "D___") ∷ name "N___" ∷ []) []
    ∷ event_op EventOp.Notify (name "N___" ∷ Integer 2 ∷ [])
    ∷ Assigned (local 0) (deref_of (element_of (name "P___") (Integer 1)))
    ∷ event_op EventOp.Notify (local 0 ∷ Integer 128 ∷ [])
    ∷ event_op EventOp.Notify (name "U___" ∷ Integer 4 ∷ []) ∷ []))
    ∷ Method at (one "C___") 1 (terms (event_op EventOp.Notify (arg 0 ∷ Integer 3 ∷ []) ∷ [])) ∷ [])

abbrev notified_table : List ℕ
notified_table =
    table "B6 00 00 00 02 FC"
    (hex "15 5C 44 45 56 31 06 00"
    ++ hex "15 55 5F 5F 5F 00 00"
    ++ hex "08 50 5F 5F 5F 12 0C 02 5C 44 45 56 31 5C 44 5F 5F 5F"
    ++ hex "5B 82 05 44 5F 5F 5F"
    ++ hex "06 44 5F 5F 5F 45 5F 5F 5F"
    ++ hex "08 4E 5F 5F 5F 00"
    ++ hex "14 13 41 5F 5F 5F 00 70 83 88 50 5F 5F 5F 00 00 60 86 60 01"
    ++ hex "14 3B 42 5F 5F 5F 00 86 44 5F 5F 5F 01 86 45 5F 5F 5F 0D 31 32 00 9D 71 44 5F 5F 5F 4E 5F 5F 5F 86 4E 5F 5F 5F 0A 02 70"
    ++ hex "83 88 50 5F 5F 5F 01 00 60 86 60 0A 80 86 55 5F 5F 5F 0A 04"
    ++ hex "14 0A 43 5F 5F 5F 01 86 68 0A 03")

abbrev notified_asked : Asked
notified_asked = record {
  there = (at_root "U___", ExternalObject (ExternalData 0)) ∷ [];
  bound = 8;
  answers = [];
  calls = call (at_root "A___") [] ∷ call (at_root "B___") []
      ∷ call (at_root "C___") (reference (Named (at_root "D___")) ∷ []) ∷ call (at_root "C___") (number 5 ∷ [])
      ∷ call (at_root "C___") (reference (Named (at_root "NONE")) ∷ []) ∷ [];
  paths = at_root "N___" ∷ at_root "P___" ∷ [];
}

abbrev notified_told : Told
notified_told = record {
  results = Done (Normal false) ∷ faults Fault.NotFound ∷ Done NoValue ∷ Done NoValue ∷ faults Fault.WrongType
      ∷ faults Fault.NotFound ∷ [];
  events = E.Notify (at_root "D___") 1 ∷ E.Notify (at_root "D___") 18 ∷ E.Notify (at_root "D___") 2
      ∷ E.Notify (at_root "D___") 128 ∷ E.Notify (at_root "U___") 4 ∷ E.Notify (at_root "D___") 3 ∷ [];
  left = [];
  values = Some (reference (Named (at_root "D___")))
      ∷ Some (packaged (reference (Named (at_root "DEV1")) ∷ reference (Named (at_root "D___")) ∷ [])) ∷ [];
}

notified_encoded : written notified ≡ notified_table
notified_encoded = refl

notified_right : name_errors notified ++ type_errors notified ≡ []
notified_right = refl

notified_present : present_ones (externals notified) (at_root "U___" ∷ []) ≡ (at_root "U___", ExternalObject (ExternalData 0)) ∷ []
notified_present = refl

notified_by_source : of_source W64 notified notified_asked ≡ notified_told
notified_by_source = refl

notified_by_bytes : of_bytes notified_table notified_asked ≡ notified_told
unfolding code_front
notified_by_bytes = refl

-- The other events; an answer may be a String
-- Event (V)
-- Mutex (L, 3)
-- Method (A) { Stall (5) Sleep ("10") Reset (V) Signal (V) BreakPoint Fatal (1, 0x12345678, "ff") Local0 = Revision Local1 = Timer Return
--     (Local0 + Local1) }
abbrev in_order : Trees
in_order =
    terms
    (Event at (one "V___")
    ∷ Mutex at (one "L___") 3
    ∷ Method at (one "A___") 0
    (terms
    (event_op EventOp.Stall (Integer 5 ∷ [])
    ∷ event_op EventOp.Sleep (String (codes "10") ∷ [])
    ∷ event_op EventOp.Reset (name "V___" ∷ [])
    ∷ event_op EventOp.Signal (name "V___" ∷ [])
    ∷ event_op EventOp.BreakPoint []
    ∷ event_op EventOp.Fatal (Raw 1 1 ∷ Raw 4 0x12345678 ∷ String (codes "ff") ∷ [])
    ∷ Assigned (local 0) (event_op EventOp.Revision [])
    ∷ Assigned (local 1) (event_op EventOp.Timer [])
    ∷ Return (symbol IntOp.Add (local 0 ∷ local 1 ∷ [])) ∷ [])) ∷ [])

abbrev in_order_table : List ℕ
in_order_table =
    table "67 00 00 00 02 D5"
    (hex "5B 02 56 5F 5F 5F"
    ++ hex "5B 01 4C 5F 5F 5F 03"
    ++ hex "14 35 41 5F 5F 5F 00 5B 21 0A 05 5B 22 0D 31 30 00 5B 26 56 5F 5F 5F 5B 24 56 5F 5F 5F CC 5B 32 01 78 56 34 12 0D 66 66"
    ++ hex "00 70 5B 30 60 70 5B 33 61 A4 72 60 61 00")

abbrev in_order_asked : Asked
in_order_asked = record {
  there = [];
  bound = 8;
  answers = number 3 ∷ text "5" ∷ [];
  calls = call (at_root "A___") [] ∷ [];
  paths = [];
}

abbrev in_order_told : Told
in_order_told = record {
  results = Done (Normal false) ∷ gives (number 3) ∷ [];
  events = E.Stall 5 ∷ E.Sleep 16 ∷ E.Reset (at_root "V___") ∷ E.Signal (at_root "V___") ∷ E.BreakPoint
      ∷ E.Fatal 1 0x12345678 255 ∷ E.Revision ∷ E.Timer ∷ [];
  left = [];
  values = [];
}

in_order_encoded : written in_order ≡ in_order_table
in_order_encoded = refl

in_order_right : name_errors in_order ++ type_errors in_order ≡ []
in_order_right = refl

in_order_by_source : of_source W64 in_order in_order_asked ≡ in_order_told
in_order_by_source = refl

in_order_by_bytes : of_bytes in_order_table in_order_asked ≡ in_order_told
unfolding code_front
in_order_by_bytes = refl
