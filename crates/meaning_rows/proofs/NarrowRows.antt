-- Sessions of a table of revision 1, whose integers have 32 bits. Another implementation gives the values.
use Rattle.std.proofs.Common.{◌≡◌, ℕ, false, List, [], ◌∷◌, ◌++◌, refl}
use Rattle.std.specs.Prelude.{codes}
use Rattle.acpi_values.specs.declared.width.Width.TheVariants.{W32}
use Rattle.acpi_values.specs.declared.operator.IntOp.TheVariants as IntOp
use Rattle.acpi_values.specs.declared.operator.DataOp.TheVariants as DataOp
use Rattle.acpi_values.specs.declared.fault.Fault.TheVariants as Fault
use Rattle.acpi_state.specs.Objects as E
use Rattle.acpi_state.specs.Outcomes.{Normal, Unfinished, Done, Stopped}
use Rattle.asl_tree.specs.Tree.{Integer, String, Omitted, Buffer, Return, Method, OperationRegion, Field, Trees}
use Rattle.aml_meaning.specs.Codes.{code_front}
use Rattle.acpi_names.specs.Errors.{name_errors, type_errors}
use Rattle.meaning_rows.proofs.Rows.{at}
use Rattle.meaning_rows.proofs.Outside.{hex, table, at_root, number, text, buffer, call, gives, faults, Asked, Told, of_bytes, of_source, one, terms, name, symbol, data_op, unit}

-- Sums of a String and of a Buffer, ToHexString, Concatenate, and fields of 40 and of 32 bits, of which the last one lacks an answer
-- OperationRegion (R, SystemMemory, 0, 16)
-- Field (R, DWordAcc, NoLock, Preserve) { F, 40, G, 32 }
-- Method (A) { Return ("123456789" + 0) }
-- Method (B) { Return (Buffer () {1, 2, 3, 4, 5} + 0) }
-- Method (C) { Return (ToHexString (0xAB)) }
-- Method (D) { Return (Concatenate (1, "12")) }
-- Method (E) { Return (F) }
-- Method (G1) { Return (G) }
-- Method (H) { Return (Concatenate ("x", 0x1F)) }
-- Method (I) { Return (ToInteger ("4294967296")) }
-- Method (J) { Return (0 - 1) }
-- Method (K) { Return (1 << 32) }
-- Method (L) { Return (ToBuffer (1)) }
abbrev narrow : Trees
narrow =
    terms
    (OperationRegion at (one "R___") 0 (terms (Integer 0 ∷ Integer 16 ∷ []))
    ∷ Field at at (one "R___") 0x03 (unit "F___" 40 ∷ unit "G___" 32 ∷ [])
    ∷ Method at (one "A___") 0 (terms (Return (symbol IntOp.Add (String (codes "123456789") ∷ Integer 0 ∷ [])) ∷ []))
    ∷ Method at (one "B___") 0
    (terms (Return (symbol IntOp.Add (Buffer (Integer 5) (1 ∷ 2 ∷ 3 ∷ 4 ∷ 5 ∷ []) ∷ Integer 0 ∷ [])) ∷ []))
    ∷ Method at (one "C___") 0 (terms (Return (data_op DataOp.ToHexString (Integer 171 ∷ []) (Omitted ∷ [])) ∷ []))
    ∷ Method at (one "D___") 0
    (terms (Return (data_op DataOp.Concatenate (Integer 1 ∷ String (codes "12") ∷ []) (Omitted ∷ [])) ∷ []))
    ∷ Method at (one "E___") 0 (terms (Return (name "F___") ∷ []))
    ∷ Method at (one "G1__") 0 (terms (Return (name "G___") ∷ []))
    ∷ Method at (one "H___") 0
    (terms (Return (data_op DataOp.Concatenate (String (codes "x") ∷ Integer 31 ∷ []) (Omitted ∷ [])) ∷ []))
    ∷ Method at (one "I___") 0 (terms (Return (data_op DataOp.ToInteger (String (codes "4294967296") ∷ []) (Omitted ∷ [])) ∷ []))
    ∷ Method at (one "J___") 0 (terms (Return (symbol IntOp.Subtract (Integer 0 ∷ Integer 1 ∷ [])) ∷ []))
    ∷ Method at (one "K___") 0 (terms (Return (symbol IntOp.ShiftLeft (Integer 1 ∷ Integer 32 ∷ [])) ∷ []))
    ∷ Method at (one "L___") 0 (terms (Return (data_op DataOp.ToBuffer (Integer 1 ∷ []) (Omitted ∷ [])) ∷ [])) ∷ [])

abbrev narrow_table : List ℕ
narrow_table =
    table "DF 00 00 00 01 F7"
    (hex "5B 80 52 5F 5F 5F 00 00 0A 10"
    ++ hex "5B 81 10 52 5F 5F 5F 03 46 5F 5F 5F 28 47 5F 5F 5F 20"
    ++ hex "14 15 41 5F 5F 5F 00 A4 72 0D 31 32 33 34 35 36 37 38 39 00 00 00"
    ++ hex "14 13 42 5F 5F 5F 00 A4 72 11 08 0A 05 01 02 03 04 05 00 00"
    ++ hex "14 0B 43 5F 5F 5F 00 A4 98 0A AB 00"
    ++ hex "14 0E 44 5F 5F 5F 00 A4 73 01 0D 31 32 00 00"
    ++ hex "14 0B 45 5F 5F 5F 00 A4 46 5F 5F 5F"
    ++ hex "14 0B 47 31 5F 5F 00 A4 47 5F 5F 5F"
    ++ hex "14 0E 48 5F 5F 5F 00 A4 73 0D 78 00 0A 1F 00"
    ++ hex "14 15 49 5F 5F 5F 00 A4 99 0D 34 32 39 34 39 36 37 32 39 36 00 00"
    ++ hex "14 08 4A 5F 5F 5F 00 A4 FF"
    ++ hex "14 08 4B 5F 5F 5F 00 A4 00"
    ++ hex "14 0A 4C 5F 5F 5F 00 A4 96 01 00")

abbrev narrow_asked : Asked
narrow_asked = record {
  there = [];
  bound = 8;
  answers = number 0x11223344 ∷ number 0xFF55 ∷ number 0xFFFFFFFF ∷ [];
  calls = call (at_root "A___") [] ∷ call (at_root "B___") [] ∷ call (at_root "C___") [] ∷ call (at_root "D___") []
      ∷ call (at_root "E___") [] ∷ call (at_root "G1__") [] ∷ call (at_root "H___") [] ∷ call (at_root "I___") []
      ∷ call (at_root "J___") [] ∷ call (at_root "K___") [] ∷ call (at_root "L___") [] ∷ [];
  paths = [];
}

abbrev narrow_told : Told
narrow_told = record {
  results = Done (Normal false) ∷ gives (number 0x12345678) ∷ gives (number 0x4030201) ∷ gives (text "0x000000AB")
      ∷ gives (buffer "01 00 00 00 12 00 00 00") ∷ gives (buffer "44 33 22 11 55") ∷ Stopped Unfinished ∷ [];
  events = E.Read (at_root "R___") 0 0 4 ∷ E.Read (at_root "R___") 0 4 4 ∷ E.Read (at_root "R___") 0 4 4
      ∷ E.Read (at_root "R___") 0 8 4 ∷ [];
  left = [];
  values = [];
}

narrow_right : name_errors narrow ++ type_errors narrow ≡ []
narrow_right = refl

narrow_by_source : of_source W32 narrow narrow_asked ≡ narrow_told
narrow_by_source = refl

narrow_by_bytes : of_bytes narrow_table narrow_asked ≡ narrow_told
unfolding code_front
narrow_by_bytes = refl

-- The other calls, whose values are worked by hand: ToInteger of 2 ^ 32 passes the width
abbrev narrower_asked : Asked
narrower_asked = record narrow_asked {
  answers = [];
  calls = call (at_root "H___") [] ∷ call (at_root "I___") [] ∷ call (at_root "J___") [] ∷ call (at_root "K___") []
      ∷ call (at_root "L___") [] ∷ [];
}

abbrev narrower_told : Told
narrower_told = record {
  results = Done (Normal false) ∷ gives (text "x0000001F") ∷ faults Fault.Size ∷ gives (number 0xFFFFFFFF) ∷ gives (number 0)
      ∷ gives (buffer "01 00 00 00") ∷ [];
  events = [];
  left = [];
  values = [];
}

narrower_by_source : of_source W32 narrow narrower_asked ≡ narrower_told
narrower_by_source = refl

narrower_by_bytes : of_bytes narrow_table narrower_asked ≡ narrower_told
unfolding code_front
narrower_by_bytes = refl
