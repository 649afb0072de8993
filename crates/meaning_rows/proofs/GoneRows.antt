-- Sessions in which a place is gone when it is read or written: its container has become shorter, or its activation has ended. Another
--     implementation gives the values.
use Rattle.std.proofs.Common.{◌≡◌, ℕ, false, List, [], ◌∷◌, ◌++◌, Some, refl}
use Rattle.std.specs.Prelude.{codes}
use Rattle.acpi_values.specs.declared.width.Width.TheVariants.{W64}
use Rattle.acpi_values.specs.declared.operator.DataOp.TheVariants as DataOp
use Rattle.acpi_values.specs.declared.fault.Fault.TheVariants as Fault
use Rattle.acpi_state.specs.FieldActs.{OneByte, SomeBits}
use Rattle.acpi_state.specs.Outcomes.{Normal, Done}
use Rattle.asl_tree.specs.Tree.{Integer, String, Buffer, Package, Return, Name, Method, CreateField, Assigned, Trees}
use Rattle.aml_meaning.specs.Codes.{code_front}
use Rattle.acpi_names.specs.Errors.{name_errors, type_errors}
use Rattle.meaning_rows.proofs.Rows.{at}
use Rattle.meaning_rows.proofs.Outside.{hex, table, at_root, number, text, buffer, packaged, call, gives, faults, Asked, Told, of_bytes, of_source, written, one, terms, name, local, data_op, deref_of, ref_of, element_of}

-- Elements of a Package, of a Buffer and of a String that are shorter when they are followed
-- Name (P, Package (3) {1, 2, 3})
-- Name (B, Buffer (3) {1, 2, 3})
-- Name (S, "abc")
-- Method (A) { Local0 = P [2] CopyObject (Package (1) {1}, P) Return (DerefOf (Local0)) }
-- Method (C) { Local0 = B [2] CopyObject (Buffer (1) {1}, B) DerefOf (Local0) = 5 }
-- Method (D) { Local0 = S [2] S = "" Return (DerefOf (Local0)) }
abbrev shorter : Trees
shorter =
    terms
    (Name at (one "P___") (Package 3 (terms (Integer 1 ∷ Integer 2 ∷ Integer 3 ∷ [])))
    ∷ Name at (one "B___") (Buffer (Integer 3) (1 ∷ 2 ∷ 3 ∷ []))
    ∷ Name at (one "S___") (String (codes "abc"))
    ∷ Method at (one "A___") 0
    (terms
    (Assigned (local 0) (element_of (name "P___") (Integer 2))
    ∷ data_op DataOp.CopyObject (Package 1 (terms (Integer 1 ∷ [])) ∷ name "P___" ∷ []) []
    ∷ Return (deref_of (local 0)) ∷ []))
    ∷ Method at (one "C___") 0
    (terms
    (Assigned (local 0) (element_of (name "B___") (Integer 2))
    ∷ data_op DataOp.CopyObject (Buffer (Integer 1) (1 ∷ []) ∷ name "B___" ∷ []) []
    ∷ Assigned (deref_of (local 0)) (Integer 5) ∷ []))
    ∷ Method at (one "D___") 0
    (terms
    (Assigned (local 0) (element_of (name "S___") (Integer 2))
    ∷ Assigned (name "S___") (String [])
    ∷ Return (deref_of (local 0)) ∷ [])) ∷ [])

abbrev shorter_table : List ℕ
shorter_table =
    table "9E 00 00 00 02 83"
    (hex "08 50 5F 5F 5F 12 07 03 01 0A 02 0A 03"
    ++ hex "08 42 5F 5F 5F 11 06 0A 03 01 02 03"
    ++ hex "08 53 5F 5F 5F 0D 61 62 63 00"
    ++ hex "14 1C 41 5F 5F 5F 00 70 88 50 5F 5F 5F 0A 02 00 60 9D 12 03 01 01 50 5F 5F 5F A4 83 60"
    ++ hex "14 1E 43 5F 5F 5F 00 70 88 42 5F 5F 5F 0A 02 00 60 9D 11 03 01 01 42 5F 5F 5F 70 0A 05 83 60"
    ++ hex "14 1A 44 5F 5F 5F 00 70 88 53 5F 5F 5F 0A 02 00 60 70 0D 00 53 5F 5F 5F A4 83 60")

abbrev shorter_asked : Asked
shorter_asked = record {
  there = [];
  bound = 8;
  answers = [];
  calls = call (at_root "A___") [] ∷ call (at_root "C___") [] ∷ call (at_root "D___") [] ∷ [];
  paths = at_root "B___" ∷ at_root "P___" ∷ at_root "S___" ∷ [];
}

abbrev shorter_told : Told
shorter_told = record {
  results = Done (Normal false) ∷ faults Fault.NotFound ∷ faults Fault.NotFound ∷ faults Fault.NotFound ∷ [];
  events = [];
  left = [];
  values = Some (buffer "01") ∷ Some (packaged (number 1 ∷ [])) ∷ Some (text "") ∷ [];
}

shorter_encoded : written shorter ≡ shorter_table
shorter_encoded = refl

shorter_right : name_errors shorter ++ type_errors shorter ≡ []
shorter_right = refl

shorter_by_source : of_source W64 shorter shorter_asked ≡ shorter_told
shorter_by_source = refl

shorter_by_bytes : of_bytes shorter_table shorter_asked ≡ shorter_told
unfolding code_front
shorter_by_bytes = refl

-- A store to an element that is gone
-- Name (P, Package (3) {1, 2, 3})
-- Method (A) { Local0 = P [2] CopyObject (Package (1) {1}, P) DerefOf (Local0) = 5 }
abbrev stored_past : Trees
stored_past =
    terms
    (Name at (one "P___") (Package 3 (terms (Integer 1 ∷ Integer 2 ∷ Integer 3 ∷ [])))
    ∷ Method at (one "A___") 0
    (terms
    (Assigned (local 0) (element_of (name "P___") (Integer 2))
    ∷ data_op DataOp.CopyObject (Package 1 (terms (Integer 1 ∷ [])) ∷ name "P___" ∷ []) []
    ∷ Assigned (deref_of (local 0)) (Integer 5) ∷ [])) ∷ [])

abbrev stored_past_table : List ℕ
stored_past_table =
    table "50 00 00 00 02 D0"
    (hex "08 50 5F 5F 5F 12 07 03 01 0A 02 0A 03"
    ++ hex "14 1E 41 5F 5F 5F 00 70 88 50 5F 5F 5F 0A 02 00 60 9D 12 03 01 01 50 5F 5F 5F 70 0A 05 83 60")

abbrev stored_past_asked : Asked
stored_past_asked = record {
  there = [];
  bound = 8;
  answers = [];
  calls = call (at_root "A___") [] ∷ [];
  paths = at_root "P___" ∷ [];
}

abbrev stored_past_told : Told
stored_past_told = record {
  results = Done (Normal false) ∷ faults Fault.NotFound ∷ [];
  events = [];
  left = [];
  values = Some (packaged (number 1 ∷ [])) ∷ [];
}

stored_past_encoded : written stored_past ≡ stored_past_table
stored_past_encoded = refl

stored_past_right : name_errors stored_past ++ type_errors stored_past ≡ []
stored_past_right = refl

stored_past_by_source : of_source W64 stored_past stored_past_asked ≡ stored_past_told
stored_past_by_source = refl

stored_past_by_bytes : of_bytes stored_past_table stored_past_asked ≡ stored_past_told
unfolding code_front
stored_past_by_bytes = refl

-- Buffer fields, over a Buffer that is shorter or no Buffer any more, too; a Reference to a Local in a Name
-- Name (L, 0)
-- CreateByteField (Buffer () {1, 2}, 1, BF)
-- Method (A) { BF = 0x1FF Return (BF) }
-- Method (C) { Local0 = Buffer () {1, 2, 3} CreateField (Local0, 4, 12, F) F = 0xABC Return (Local0) }
-- Method (D) { Local0 = Buffer () {1, 2, 3} CreateField (Local0, 4, 12, F) Local0 = 5 Return (F) }
-- Method (E) { Local0 = Buffer () {1, 2, 3} CreateField (RefOf (Local0), 4, 20, F) Local0 = Buffer (2) {} Return (F) }
-- Method (G) { CreateField (Buffer (2) {}, 9, 8, F) }
-- Method (H) { L = RefOf (Local0) CopyObject (RefOf (Local0), L) Return (1) }
-- Method (I) { Return (DerefOf (L)) }
abbrev ended : Trees
ended =
    terms
    (Name at (one "L___") (Integer 0)
    ∷ CreateField OneByte (terms (Buffer (Integer 2) (1 ∷ 2 ∷ []) ∷ Integer 1 ∷ [])) at (one "BF__")
    ∷ Method at (one "A___") 0 (terms (Assigned (name "BF__") (Integer 0x1FF) ∷ Return (name "BF__") ∷ []))
    ∷ Method at (one "C___") 0
    (terms
    (Assigned (local 0) (Buffer (Integer 3) (1 ∷ 2 ∷ 3 ∷ []))
    ∷ CreateField SomeBits (terms (local 0 ∷ Integer 4 ∷ Integer 12 ∷ [])) at (one "F___")
    ∷ Assigned (name "F___") (Integer 0xABC)
    ∷ Return (local 0) ∷ []))
    ∷ Method at (one "D___") 0
    (terms
    (Assigned (local 0) (Buffer (Integer 3) (1 ∷ 2 ∷ 3 ∷ []))
    ∷ CreateField SomeBits (terms (local 0 ∷ Integer 4 ∷ Integer 12 ∷ [])) at (one "F___")
    ∷ Assigned (local 0) (Integer 5)
    ∷ Return (name "F___") ∷ []))
    ∷ Method at (one "E___") 0
    (terms
    (Assigned (local 0) (Buffer (Integer 3) (1 ∷ 2 ∷ 3 ∷ []))
    ∷ CreateField SomeBits (terms (ref_of (local 0) ∷ Integer 4 ∷ Integer 20 ∷ [])) at (one "F___")
    ∷ Assigned (local 0) (Buffer (Integer 2) [])
    ∷ Return (name "F___") ∷ []))
    ∷ Method at (one "G___") 0
    (terms (CreateField SomeBits (terms (Buffer (Integer 2) [] ∷ Integer 9 ∷ Integer 8 ∷ [])) at (one "F___") ∷ []))
    ∷ Method at (one "H___") 0
    (terms
    (Assigned (name "L___") (ref_of (local 0))
    ∷ data_op DataOp.CopyObject (ref_of (local 0) ∷ name "L___" ∷ []) []
    ∷ Return (Integer 1) ∷ []))
    ∷ Method at (one "I___") 0 (terms (Return (deref_of (name "L___")) ∷ [])) ∷ [])

abbrev ended_table : List ℕ
ended_table =
    table "F3 00 00 00 02 FF"
    (hex "08 4C 5F 5F 5F 00"
    ++ hex "8C 11 05 0A 02 01 02 01 42 46 5F 5F"
    ++ hex "14 13 41 5F 5F 5F 00 70 0B FF 01 42 46 5F 5F A4 42 46 5F 5F"
    ++ hex "14 24 43 5F 5F 5F 00 70 11 06 0A 03 01 02 03 60 5B 13 60 0A 04 0A 0C 46 5F 5F 5F 70 0B BC 0A 46 5F 5F 5F A4 60"
    ++ hex "14 23 44 5F 5F 5F 00 70 11 06 0A 03 01 02 03 60 5B 13 60 0A 04 0A 0C 46 5F 5F 5F 70 0A 05 60 A4 46 5F 5F 5F"
    ++ hex "14 26 45 5F 5F 5F 00 70 11 06 0A 03 01 02 03 60 5B 13 71 60 0A 04 0A 14 46 5F 5F 5F 70 11 03 0A 02 60 A4 46 5F 5F 5F"
    ++ hex "14 14 47 5F 5F 5F 00 5B 13 11 03 0A 02 0A 09 0A 08 46 5F 5F 5F"
    ++ hex "14 16 48 5F 5F 5F 00 70 71 60 4C 5F 5F 5F 9D 71 60 4C 5F 5F 5F A4 01"
    ++ hex "14 0C 49 5F 5F 5F 00 A4 83 4C 5F 5F 5F")

abbrev ended_asked : Asked
ended_asked = record {
  there = [];
  bound = 8;
  answers = [];
  calls = call (at_root "A___") [] ∷ call (at_root "C___") [] ∷ call (at_root "D___") [] ∷ call (at_root "E___") []
      ∷ call (at_root "G___") [] ∷ call (at_root "H___") [] ∷ call (at_root "I___") [] ∷ [];
  paths = at_root "L___" ∷ [];
}

abbrev ended_told : Told
ended_told = record {
  results = Done (Normal false) ∷ gives (number 255) ∷ gives (buffer "C1 AB 03") ∷ faults Fault.WrongType
      ∷ faults Fault.OutOfRange ∷ faults Fault.OutOfRange ∷ faults Fault.Uninitialized ∷ faults Fault.WrongType ∷ [];
  events = [];
  left = [];
  values = Some (number 0) ∷ [];
}

ended_encoded : written ended ≡ ended_table
ended_encoded = refl

ended_right : name_errors ended ++ type_errors ended ≡ []
ended_right = refl

ended_by_source : of_source W64 ended ended_asked ≡ ended_told
ended_by_source = refl

ended_by_bytes : of_bytes ended_table ended_asked ≡ ended_told
unfolding code_front
ended_by_bytes = refl
