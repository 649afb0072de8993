-- Sessions that store to names of each kind, through References, and to elements of elements. Another implementation gives the values.
use Rattle.std.proofs.Common.{◌≡◌, ℕ, false, List, [], ◌∷◌, ◌++◌, Some, refl}
use Rattle.std.specs.Prelude.{codes}
use Rattle.acpi_values.specs.declared.width.Width.TheVariants.{W64}
use Rattle.acpi_values.specs.declared.operator.DataOp.TheVariants as DataOp
use Rattle.acpi_values.specs.declared.fault.Fault.TheVariants as Fault
use Rattle.acpi_values.specs.Values.{Named}
use Rattle.acpi_state.specs.Objects as E
use Rattle.acpi_state.specs.Outcomes.{NoValue, Normal, Done}
use Rattle.asl_tree.specs.Tree.{Integer, String, Debug, Call, Buffer, Package, Return, Name, Method, Assigned, Trees}
use Rattle.aml_meaning.specs.Codes.{code_front}
use Rattle.acpi_names.specs.Errors.{name_errors, type_errors}
use Rattle.meaning_rows.proofs.Rows.{at}
use Rattle.meaning_rows.proofs.Outside.{hex, table, at_root, number, text, buffer, packaged, reference, call, gives, faults, Asked, Told, of_bytes, of_source, written, one, terms, name, local, arg, data_op, deref_of, ref_of, element_of}

-- A store converts to the kind of what is named, through the Reference in an Arg too; CopyObject replaces it
-- Name (I, 5)
-- Name (S, "q")
-- Name (B, Buffer (3) {1, 2, 3})
-- Name (P, Package () {1})
-- Method (A) { I = "1F" S = Buffer () {1, 0xAB} B = "abcdef" B = 0x41 }
-- Method (T, 2) { Arg0 = Arg1 }
-- Method (C) { T (RefOf (I), "2G") T (RefOf (S), 0x12) Local0 = 1 T (RefOf (Local0), "zz") Return (Local0) }
-- Method (D) { P = 5 }
-- Method (E) { CopyObject (Package () {7}, I) CopyObject (RefOf (S), B) P = Package () {I, "x"} }
-- Method (F) { S = RefOf (I) }
abbrev stored : Trees
stored =
    terms
    (Name at (one "I___") (Integer 5)
    ∷ Name at (one "S___") (String (codes "q"))
    ∷ Name at (one "B___") (Buffer (Integer 3) (1 ∷ 2 ∷ 3 ∷ []))
    ∷ Name at (one "P___") (Package 1 (terms (Integer 1 ∷ [])))
    ∷ Method at (one "A___") 0
    (terms
    (Assigned (name "I___") (String (codes "1F"))
    ∷ Assigned (name "S___") (Buffer (Integer 2) (1 ∷ 171 ∷ []))
    ∷ Assigned (name "B___") (String (codes "abcdef"))
    ∷ Assigned (name "B___") (Integer 65) ∷ []))
    ∷ Method at (one "T___") 2 (terms (Assigned (arg 0) (arg 1) ∷ []))
    ∷ Method at (one "C___") 0
    (terms
    (Call at (one "T___") (terms (ref_of (name "I___") ∷ String (codes "2G") ∷ []))
    ∷ Call at (one "T___") (terms (ref_of (name "S___") ∷ Integer 18 ∷ []))
    ∷ Assigned (local 0) (Integer 1)
    ∷ Call at (one "T___") (terms (ref_of (local 0) ∷ String (codes "zz") ∷ []))
    ∷ Return (local 0) ∷ []))
    ∷ Method at (one "D___") 0 (terms (Assigned (name "P___") (Integer 5) ∷ []))
    ∷ Method at (one "E___") 0
    (terms
    (data_op DataOp.CopyObject (Package 1 (terms (Integer 7 ∷ [])) ∷ name "I___" ∷ []) []
    ∷ data_op DataOp.CopyObject (ref_of (name "S___") ∷ name "B___" ∷ []) []
    ∷ Assigned (name "P___") (Package 2 (terms (name "I___" ∷ String (codes "x") ∷ []))) ∷ []))
    ∷ Method at (one "F___") 0 (terms (Assigned (name "S___") (ref_of (name "I___")) ∷ [])) ∷ [])

abbrev stored_table : List ℕ
stored_table =
    table "F9 00 00 00 02 D7"
    (hex "08 49 5F 5F 5F 0A 05"
    ++ hex "08 53 5F 5F 5F 0D 71 00"
    ++ hex "08 42 5F 5F 5F 11 06 0A 03 01 02 03"
    ++ hex "08 50 5F 5F 5F 12 03 01 01"
    ++ hex "14 2E 41 5F 5F 5F 00 70 0D 31 46 00 49 5F 5F 5F 70 11 05 0A 02 01 AB 53 5F 5F 5F 70 0D 61 62 63 64 65 66 00 42 5F 5F 5F"
    ++ hex "70 0A 41 42 5F 5F 5F"
    ++ hex "14 09 54 5F 5F 5F 02 70 69 68"
    ++ hex "14 2D 43 5F 5F 5F 00 54 5F 5F 5F 71 49 5F 5F 5F 0D 32 47 00 54 5F 5F 5F 71 53 5F 5F 5F 0A 12 70 01 60 54 5F 5F 5F 71 60"
    ++ hex "0D 7A 7A 00 A4 60"
    ++ hex "14 0D 44 5F 5F 5F 00 70 0A 05 50 5F 5F 5F"
    ++ hex "14 2A 45 5F 5F 5F 00 9D 12 04 01 0A 07 49 5F 5F 5F 9D 71 53 5F 5F 5F 42 5F 5F 5F 70 12 0A 02 5C 49 5F 5F 5F 0D 78 00 50"
    ++ hex "5F 5F 5F"
    ++ hex "14 10 46 5F 5F 5F 00 70 71 49 5F 5F 5F 53 5F 5F 5F")

abbrev stored_asked : Asked
stored_asked = record {
  there = [];
  bound = 8;
  answers = [];
  calls = call (at_root "A___") [] ∷ call (at_root "C___") [] ∷ call (at_root "D___") [] ∷ call (at_root "E___") []
      ∷ call (at_root "F___") [] ∷ [];
  paths = at_root "B___" ∷ at_root "I___" ∷ at_root "P___" ∷ at_root "S___" ∷ [];
}

abbrev stored_told : Told
stored_told = record {
  results = Done (Normal false) ∷ Done NoValue ∷ gives (text "zz") ∷ faults Fault.WrongType ∷ Done NoValue
      ∷ faults Fault.WrongType ∷ [];
  events = [];
  left = [];
  values = Some (reference (Named (at_root "S___"))) ∷ Some (packaged (number 7 ∷ []))
      ∷ Some (packaged (reference (Named (at_root "I___")) ∷ text "x" ∷ [])) ∷ Some (text "0000000000000012") ∷ [];
}

stored_encoded : written stored ≡ stored_table
stored_encoded = refl

stored_right : name_errors stored ++ type_errors stored ≡ []
stored_right = refl

stored_by_source : of_source W64 stored stored_asked ≡ stored_told
stored_by_source = refl

stored_by_bytes : of_bytes stored_table stored_asked ≡ stored_told
unfolding code_front
stored_by_bytes = refl

-- Elements of elements, of a String and of a Buffer inside a Package, too; a Local has a copy
-- Name (P, Package () {1, "ab", Buffer () {7, 8}, Package () {3, "x"}})
-- Method (A) { P [3] [1] = 9 P [1] [0] = 0x141 P [2] [1] = "1F" Local0 = P Local0 [0] = 6 Debug = Local0 DerefOf (P [3]) [0] = 0 Return
--     (SizeOf (P [2])) }
-- Method (B) { Return (P [4]) }
-- Method (C) { Return (P [0] [0]) }
abbrev nested : Trees
nested =
    terms
    (Name at (one "P___")
    (Package 4
    (terms
    (Integer 1
    ∷ String (codes "ab")
    ∷ Buffer (Integer 2) (7 ∷ 8 ∷ [])
    ∷ Package 2 (terms (Integer 3 ∷ String (codes "x") ∷ [])) ∷ [])))
    ∷ Method at (one "A___") 0
    (terms
    (Assigned (element_of (element_of (name "P___") (Integer 3)) (Integer 1)) (Integer 9)
    ∷ Assigned (element_of (element_of (name "P___") (Integer 1)) (Integer 0)) (Integer 0x141)
    ∷ Assigned (element_of (element_of (name "P___") (Integer 2)) (Integer 1)) (String (codes "1F"))
    ∷ Assigned (local 0) (name "P___")
    ∷ Assigned (element_of (local 0) (Integer 0)) (Integer 6)
    ∷ Assigned Debug (local 0)
    ∷ Assigned (element_of (deref_of (element_of (name "P___") (Integer 3))) (Integer 0)) (Integer 0)
    ∷ Return (data_op DataOp.SizeOf (element_of (name "P___") (Integer 2) ∷ []) []) ∷ []))
    ∷ Method at (one "B___") 0 (terms (Return (element_of (name "P___") (Integer 4)) ∷ []))
    ∷ Method at (one "C___") 0 (terms (Return (element_of (element_of (name "P___") (Integer 0)) (Integer 0)) ∷ [])) ∷ [])

abbrev nested_table : List ℕ
nested_table =
    table "BE 00 00 00 02 9F"
    (hex "08 50 5F 5F 5F 12 15 04 01 0D 61 62 00 11 05 0A 02 07 08 12 07 02 0A 03 0D 78 00"
    ++ hex "14 4C 05 41 5F 5F 5F 00 70 0A 09 88 88 50 5F 5F 5F 0A 03 00 01 00 70 0B 41 01 88 88 50 5F 5F 5F 01 00 00 00 70 0D 31 46"
    ++ hex "00 88 88 50 5F 5F 5F 0A 02 00 01 00 70 50 5F 5F 5F 60 70 0A 06 88 60 00 00 70 60 5B 31 70 00 88 83 88 50 5F 5F 5F 0A 03"
    ++ hex "00 00 00 A4 87 88 50 5F 5F 5F 0A 02 00"
    ++ hex "14 0F 42 5F 5F 5F 00 A4 88 50 5F 5F 5F 0A 04 00"
    ++ hex "14 11 43 5F 5F 5F 00 A4 88 88 50 5F 5F 5F 00 00 00 00")

abbrev nested_asked : Asked
nested_asked = record {
  there = [];
  bound = 8;
  answers = [];
  calls = call (at_root "A___") [] ∷ call (at_root "B___") [] ∷ call (at_root "C___") [] ∷ [];
  paths = at_root "P___" ∷ [];
}

abbrev nested_told : Told
nested_told = record {
  results = Done (Normal false) ∷ gives (number 2) ∷ faults Fault.OutOfRange ∷ faults Fault.WrongType ∷ [];
  events = E.Debug (packaged (number 6 ∷ text "Ab" ∷ buffer "07 1F" ∷ packaged (number 3 ∷ number 9 ∷ []) ∷ [])) ∷ [];
  left = [];
  values = Some (packaged (number 1 ∷ text "Ab" ∷ buffer "07 1F" ∷ packaged (number 3 ∷ number 9 ∷ []) ∷ [])) ∷ [];
}

nested_encoded : written nested ≡ nested_table
nested_encoded = refl

nested_right : name_errors nested ++ type_errors nested ≡ []
nested_right = refl

nested_by_source : of_source W64 nested nested_asked ≡ nested_told
nested_by_source = refl

nested_by_bytes : of_bytes nested_table nested_asked ≡ nested_told
unfolding code_front
nested_by_bytes = refl
