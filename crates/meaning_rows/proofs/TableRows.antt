-- Tables whose bytes were made by hand: names and lengths in longer forms, and bytes that are no terms. Another implementation gives the
--     values.
use Rattle.std.proofs.Common.{◌≡◌, false, [], ◌∷◌, ◌++◌, refl}
use Rattle.acpi_values.specs.declared.fault.Fault.TheVariants as Fault
use Rattle.acpi_state.specs.Outcomes.{Normal, Broken, Done, Stopped}
use Rattle.aml_meaning.specs.Codes.{code_front}
use Rattle.aml_meaning.specs.ByteSession.{byte_session}
use Rattle.meaning_rows.proofs.Outside.{hex, table, at_root, number, call, gives, faults, results_of}

-- Scope (\) {Name (X, 1)}, whose name has no segment. Method (M) {Return (X)}
null_name : results_of (byte_session
    (table "3A 00 00 00 02 E0"
    (hex "10 09 5C 00 08 58 5F 5F 5F 01" ++ hex "14 0B 4D 5F 5F 5F 00 A4 58 5F 5F 5F"))
    [] 4 [] (call (at_root "M___") [] ∷ []))
    ≡ Done (Normal false) ∷ gives (number 1) ∷ []
unfolding code_front
null_name = refl

-- The same with a PkgLength of two bytes where one would do, and Return (\X)
longer_length : results_of (byte_session
    (table "3C 00 00 00 02 40"
    (hex "10 4A 00 5C 00 08 58 5F 5F 5F 01" ++ hex "14 0C 4D 5F 5F 5F 00 A4 5C 58 5F 5F 5F"))
    [] 4 [] (call (at_root "M___") [] ∷ []))
    ≡ Done (Normal false) ∷ gives (number 1) ∷ []
unfolding code_front
longer_length = refl

-- The same, but bit 4 of the first byte of that PkgLength is set: no term
set_bits : results_of (byte_session (table "2F 00 00 00 02 3C" (hex "10 5A 00 5C 00 08 58 5F 5F 5F 01")) [] 4 [] [])
    ≡ Stopped Broken ∷ []
unfolding code_front
set_bits = refl

-- Device (A) {Device (B) {}}. Name (2F 02 A.X, 7). Name (2F 03 A.B.X, 8). Method (M) {Return (\A.X + ^A.B.X)}, with 2E for two segments
multiple_names : results_of (byte_session
    (table "73 00 00 00 02 44"
    (hex "5B 82 0C 41 5F 5F 5F 5B 82 05 42 5F 5F 5F"
    ++ hex "08 2F 02 41 5F 5F 5F 58 5F 5F 5F 0A 07"
    ++ hex "08 2F 03 41 5F 5F 5F 42 5F 5F 5F 58 5F 5F 5F 0A 08"
    ++ hex "14 22 4D 5F 5F 5F 00 A4 72 5C 2E 41 5F 5F 5F 58 5F 5F 5F 5E 2F 03 41 5F 5F 5F 42 5F 5F 5F 58 5F 5F 5F 00"))
    [] 4 [] (call (at_root "M___") [] ∷ []))
    ≡ Done (Normal false) ∷ gives (number 15) ∷ []
unfolding code_front
multiple_names = refl

-- 92 93 is LNot of LEqual. Method (M) {Return (5 != 6)}. Method (K) {Return (!5)}
not_equal : results_of (byte_session
    (table "3D 00 00 00 02 34"
    (hex "14 0D 4D 5F 5F 5F 00 A4 92 93 0A 05 0A 06" ++ hex "14 0A 4B 5F 5F 5F 00 A4 92 0A 05"))
    [] 4 [] (call (at_root "M___") [] ∷ call (at_root "K___") [] ∷ []))
    ≡ Done (Normal false) ∷ gives (number 0xFFFFFFFFFFFFFFFF) ∷ gives (number 0) ∷ []
unfolding code_front
not_equal = refl

-- Method (M) {If (1) ..}, where the PkgLength of If passes the end of the method
length_past_end : results_of (byte_session
    (table "30 00 00 00 02 90"
    (hex "14 0B 4D 5F 5F 5F 00 A0 20 01 A4 01"))
    [] 4 [] (call (at_root "M___") [] ∷ []))
    ≡ Done (Normal false) ∷ Stopped Broken ∷ []
unfolding code_front
length_past_end = refl

-- Method (M) {If (0) {..} Else {Return (9)}}: the bytes 03 03, which start no term, are skipped by their length alone
skipped_bytes : results_of (byte_session
    (table "35 00 00 00 02 E6"
    (hex "14 10 4D 5F 5F 5F 00 A0 04 00 03 03 A1 04 A4 0A 09"))
    [] 4 [] (call (at_root "M___") [] ∷ []))
    ≡ Done (Normal false) ∷ gives (number 9) ∷ []
unfolding code_front
skipped_bytes = refl

-- Method (M) with a byte that starts no term
no_term : results_of (byte_session (table "2C 00 00 00 02 FB" (hex "14 07 4D 5F 5F 5F 00 03")) [] 4 [] (call (at_root "M___") [] ∷ []))
    ≡ Done (Normal false) ∷ Stopped Broken ∷ []
unfolding code_front
no_term = refl

-- Method (M) with 5B before a byte that goes on to no term
no_further_term : results_of (byte_session
    (table "2D 00 00 00 02 22"
    (hex "14 08 4D 5F 5F 5F 00 5B 7F"))
    [] 4 [] (call (at_root "M___") [] ∷ []))
    ≡ Done (Normal false) ∷ Stopped Broken ∷ []
unfolding code_front
no_further_term = refl

-- External (\A.X, MethodObj) with two arguments does nothing. Method (M) {Return (4)}
external : results_of (byte_session
    (table "3B 00 00 00 02 BF"
    (hex "15 5C 2E 41 5F 5F 5F 58 5F 5F 5F 08 02" ++ hex "14 09 4D 5F 5F 5F 00 A4 0A 04"))
    [] 4 [] (call (at_root "M___") [] ∷ []))
    ≡ Done (Normal false) ∷ gives (number 4) ∷ []
unfolding code_front
external = refl

-- Method (M) {Return (Add (1, ..))}, where the second operand and the target are missing
missing_operand : results_of (byte_session
    (table "2E 00 00 00 02 E3"
    (hex "14 09 4D 5F 5F 5F 00 A4 72 01"))
    [] 4 [] (call (at_root "M___") [] ∷ []))
    ≡ Done (Normal false) ∷ Stopped Broken ∷ []
unfolding code_front
missing_operand = refl

-- Method (Q) {Return (SizeOf (Local0))}. Methods M and K, which first store a Package of the count 1 with three elements there, and a
--     Buffer of the size 1 with three bytes
counted_below : results_of (byte_session
    (table "52 00 00 00 02 2B"
    (hex "14 09 51 5F 5F 5F 00 A4 87 60"
    ++ hex "14 11 4D 5F 5F 5F 00 70 12 05 01 01 01 01 60 A4 87 60"
    ++ hex "14 11 4B 5F 5F 5F 00 70 11 05 01 07 08 09 60 A4 87 60"))
    [] 4 [] (call (at_root "M___") [] ∷ call (at_root "K___") [] ∷ call (at_root "Q___") [] ∷ []))
    ≡ Done (Normal false) ∷ gives (number 3) ∷ gives (number 3) ∷ faults Fault.WrongType ∷ []
unfolding code_front
counted_below = refl

-- Name (X, 5). Name (P, Package () {X}). Name (R, Package () {NO}): a name in a Package has to be there when the Package is made
packaged_name : results_of (byte_session
    (table "43 00 00 00 02 F2"
    (hex "08 58 5F 5F 5F 0A 05" ++ hex "08 50 5F 5F 5F 12 06 01 58 5F 5F 5F" ++ hex "08 52 5F 5F 5F 12 06 01 4E 4F 5F 5F"))
    [] 4 [] [])
    ≡ faults Fault.NotFound ∷ []
unfolding code_front
packaged_name = refl

-- Method (M) with a String that has no 00 at its end
open_string : results_of (byte_session
    (table "2E 00 00 00 02 6A"
    (hex "14 09 4D 5F 5F 5F 00 0D 41 42"))
    [] 4 [] (call (at_root "M___") [] ∷ []))
    ≡ Done (Normal false) ∷ Stopped Broken ∷ []
unfolding code_front
open_string = refl

-- Method (M) {Return (..)} of two segments behind 2E, of which the second begins with a digit
no_segment : results_of (byte_session
    (table "35 00 00 00 02 AE"
    (hex "14 10 4D 5F 5F 5F 00 A4 2E 58 5F 5F 5F 31 41 42 43"))
    [] 4 [] (call (at_root "M___") [] ∷ []))
    ≡ Done (Normal false) ∷ Stopped Broken ∷ []
unfolding code_front
no_segment = refl

-- OperationRegion (R, SystemIO, 0x10, 4), and a Field whose list has 01 and a 00 without its length
no_items : results_of (byte_session
    (table "40 00 00 00 02 35"
    (hex "5B 80 52 5F 5F 5F 01 0A 10 0A 04" ++ hex "5B 81 0F 52 5F 5F 5F 01 01 00 00 46 5F 5F 5F 08 00"))
    [] 4 [] [])
    ≡ Stopped Broken ∷ []
unfolding code_front
no_items = refl
