-- A session of field units behind registers. Another implementation gives the values.
use Rattle.std.proofs.Common.{◌≡◌, ℕ, false, List, [], ◌∷◌, ◌++◌, refl}
use Rattle.acpi_values.specs.declared.width.Width.TheVariants.{W64}
use Rattle.acpi_values.specs.declared.fault.Fault.TheVariants as Fault
use Rattle.acpi_state.specs.Objects as E
use Rattle.acpi_state.specs.Outcomes.{NoValue, Normal, Done}
use Rattle.asl_tree.specs.FieldItems.{SkipItem, OffsetItem}
use Rattle.asl_tree.specs.Tree.{Integer, Return, Method, OperationRegion, Field, IndexField, BankField, Assigned, Trees}
use Rattle.aml_meaning.specs.Codes.{code_front}
use Rattle.acpi_names.specs.Errors.{name_errors, type_errors}
use Rattle.meaning_rows.proofs.Rows.{at}
use Rattle.meaning_rows.proofs.Outside.{hex, table, at_root, number, call, gives, faults, Asked, Told, of_bytes, of_source, written, one, terms, name, increment, unit}

-- A unit of an IndexField that lies in two words, and units of a BankField, of which one passes the end of the region
-- OperationRegion (R, SystemIO, 0x70, 8)
-- Field (R, ByteAcc, NoLock, Preserve) { IX, 8, DT, 8, BK, 4, , 4, H, 12 }
-- IndexField (IX, DT, WordAcc, NoLock, Preserve) { , 5, V, 14 }
-- BankField (R, BK, 0x1A, ByteAcc, NoLock, Preserve) { Offset (6), W, 12, Z, 8 }
-- Method (A) { V = 0x2AAA Return (V) }
-- Method (B) { W = 0xFFF Return (W) }
-- Method (C) { H++ }
-- Method (D) { Z = 1 }
abbrev straddling : Trees
straddling =
    terms
    (OperationRegion at (one "R___") 1 (terms (Integer 112 ∷ Integer 8 ∷ []))
    ∷ Field at at (one "R___") 0x01 (unit "IX__" 8 ∷ unit "DT__" 8 ∷ unit "BK__" 4 ∷ SkipItem 4 ∷ unit "H___" 12 ∷ [])
    ∷ IndexField at at (one "IX__") at (one "DT__") 0x02 (SkipItem 5 ∷ unit "V___" 14 ∷ [])
    ∷ BankField at at (one "R___") at (one "BK__") (Integer 26) 0x01 (OffsetItem 6 ∷ unit "W___" 12 ∷ unit "Z___" 8 ∷ [])
    ∷ Method at (one "A___") 0 (terms (Assigned (name "V___") (Integer 0x2AAA) ∷ Return (name "V___") ∷ []))
    ∷ Method at (one "B___") 0 (terms (Assigned (name "W___") (Integer 0xFFF) ∷ Return (name "W___") ∷ []))
    ∷ Method at (one "C___") 0 (terms (increment (name "H___") ∷ []))
    ∷ Method at (one "D___") 0 (terms (Assigned (name "Z___") (Integer 1) ∷ [])) ∷ [])

abbrev straddling_table : List ℕ
straddling_table =
    table "BB 00 00 00 02 3A"
    (hex "5B 80 52 5F 5F 5F 01 0A 70 0A 08"
    ++ hex "5B 81 1C 52 5F 5F 5F 01 49 58 5F 5F 08 44 54 5F 5F 08 42 4B 5F 5F 04 00 04 48 5F 5F 5F 0C"
    ++ hex "5B 86 11 49 58 5F 5F 44 54 5F 5F 02 00 05 56 5F 5F 5F 0E"
    ++ hex "5B 87 18 52 5F 5F 5F 42 4B 5F 5F 0A 1A 01 00 30 57 5F 5F 5F 0C 5A 5F 5F 5F 08"
    ++ hex "14 13 41 5F 5F 5F 00 70 0B AA 2A 56 5F 5F 5F A4 56 5F 5F 5F"
    ++ hex "14 13 42 5F 5F 5F 00 70 0B FF 0F 57 5F 5F 5F A4 57 5F 5F 5F"
    ++ hex "14 0B 43 5F 5F 5F 00 75 48 5F 5F 5F"
    ++ hex "14 0C 44 5F 5F 5F 00 70 01 5A 5F 5F 5F")

abbrev straddling_asked : Asked
straddling_asked = record {
  there = [];
  bound = 8;
  answers = number 17 ∷ number 34 ∷ number 51 ∷ number 68 ∷ number 85 ∷ number 102 ∷ number 119 ∷ number 136 ∷ number 153
      ∷ number 170 ∷ number 187 ∷ number 204 ∷ number 221 ∷ number 238 ∷ number 31 ∷ number 47 ∷ number 63 ∷ number 79 ∷ number 95 ∷ [];
  calls = call (at_root "A___") [] ∷ call (at_root "B___") [] ∷ call (at_root "C___") [] ∷ call (at_root "D___") [] ∷ [];
  paths = [];
}

abbrev straddling_told : Told
straddling_told = record {
  results = Done (Normal false) ∷ gives (number 0x2001) ∷ gives (number 0x988) ∷ Done NoValue ∷ faults Fault.Limit ∷ [];
  events = E.Write (at_root "R___") 1 112 1 0 ∷ E.Read (at_root "R___") 1 113 1 ∷ E.Write (at_root "R___") 1 112 1 0
      ∷ E.Write (at_root "R___") 1 113 1 81 ∷ E.Write (at_root "R___") 1 112 1 2 ∷ E.Read (at_root "R___") 1 113 1
      ∷ E.Write (at_root "R___") 1 112 1 2 ∷ E.Write (at_root "R___") 1 113 1 37 ∷ E.Write (at_root "R___") 1 112 1 0
      ∷ E.Read (at_root "R___") 1 113 1 ∷ E.Write (at_root "R___") 1 112 1 2 ∷ E.Read (at_root "R___") 1 113 1
      ∷ E.Read (at_root "R___") 1 114 1 ∷ E.Write (at_root "R___") 1 114 1 90 ∷ E.Write (at_root "R___") 1 118 1 255
      ∷ E.Read (at_root "R___") 1 119 1 ∷ E.Write (at_root "R___") 1 119 1 111 ∷ E.Read (at_root "R___") 1 114 1
      ∷ E.Write (at_root "R___") 1 114 1 122 ∷ E.Read (at_root "R___") 1 118 1 ∷ E.Read (at_root "R___") 1 119 1
      ∷ E.Read (at_root "R___") 1 115 1 ∷ E.Read (at_root "R___") 1 116 1 ∷ E.Write (at_root "R___") 1 115 1 171
      ∷ E.Read (at_root "R___") 1 116 1 ∷ E.Write (at_root "R___") 1 116 1 203 ∷ E.Read (at_root "R___") 1 114 1
      ∷ E.Write (at_root "R___") 1 114 1 218 ∷ E.Read (at_root "R___") 1 119 1 ∷ E.Write (at_root "R___") 1 119 1 30 ∷ [];
  left = number 31 ∷ number 47 ∷ number 63 ∷ number 79 ∷ number 95 ∷ [];
  values = [];
}

straddling_encoded : written straddling ≡ straddling_table
straddling_encoded = refl

straddling_right : name_errors straddling ++ type_errors straddling ≡ []
straddling_right = refl

straddling_by_source : of_source W64 straddling straddling_asked ≡ straddling_told
straddling_by_source = refl

straddling_by_bytes : of_bytes straddling_table straddling_asked ≡ straddling_told
unfolding code_front
straddling_by_bytes = refl
