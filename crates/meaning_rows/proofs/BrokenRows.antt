-- Bytes that are no terms, and bytes that are terms which no source has. By the ACPI Specification 6.4, 20.2, each of the former ends before
-- what its opcode asks for, or has no opcode where a term is due.
use Rattle.std.proofs.Common.{◌≡◌, ℕ, false, List, [], ◌∷◌, ◌++◌, refl}
use Rattle.std.specs.Prelude.{replicate}
use Rattle.acpi_values.specs.declared.fault.Fault.TheVariants as Fault
use Rattle.acpi_state.specs.Objects.{ExternalObject, ExternalData, ExternalOther}
use Rattle.acpi_state.specs.Outcomes.{Flow, Normal, Broken, Result, Done, Stopped}
use Rattle.aml_meaning.specs.Codes.{code_front}
use Rattle.aml_meaning.specs.ByteSession.{byte_session}
use Rattle.aml_code.specs.Header.{table_bytes}
use Rattle.meaning_rows.proofs.Rows.{fields}
use Rattle.meaning_rows.proofs.Outside.{hex, at_root, call, faults, gives, number, results_of}

-- how the load of a table ends
abbrev load : List ℕ → List (Result Flow)
load code = results_of (byte_session (table_bytes fields code) [] 4 [] [])

-- Name behind which nothing stands; behind which a root, a caret, a count of segments, or two segments of a name of two stand short; of a
-- segment of three characters; and of one that begins with a digit
names : load (hex "08") ++ load (hex "08 5C") ++ load (hex "08 5E") ++ load (hex "08 2F") ++ load (hex "08 2E 41 5F 5F 5F 42 5F 5F") ++ load (hex "08 41 5F 5F")
    ++ load (hex "08 31 5F 5F 5F 00")
    ≡ replicate 7 (Stopped Broken)
unfolding code_front
names = refl

-- Scope without a PkgLength; with one whose second byte is not there; with one that is less than its own byte
lengths : load (hex "10") ++ load (hex "10 40") ++ load (hex "10 00") ≡ replicate 3 (Stopped Broken)
unfolding code_front
lengths = refl

-- Method without flags; Mutex without a level; External without the number of its parameters; OperationRegion without a space; a Package
-- without its count; PowerResource, Processor and Name without what follows their names
declarations : load (hex "14 05 4D 5F 5F 5F") ++ load (hex "5B 01 4D 5F 5F 5F") ++ load (hex "15 4D 5F 5F 5F 08") ++ load (hex "5B 80 4D 5F 5F 5F")
    ++ load (hex "08 4D 5F 5F 5F 12 01") ++ load (hex "5B 84 06 4D 5F 5F 5F 01") ++ load (hex "5B 83 0A 4D 5F 5F 5F 01 00 00 00") ++ load (hex "08 4D 5F 5F 5F")
    ≡ replicate 8 (Stopped Broken)
unfolding code_front
declarations = refl

-- OperationRegion (R, SystemMemory, 0, 1), and then a Field without flags; with an access of one byte; with an access of three whose length
-- is not there; with a connection to nothing, and (three times) to what is no Buffer; with a unit of three characters; and with a gap without its bits
abbrev field_behind : List ℕ → List (Result Flow)
field_behind code = load (hex "5B 80 52 5F 5F 5F 00 00 01 5B 81" ++ code)

field_lists : field_behind (hex "05 52 5F 5F 5F") ++ field_behind (hex "08 52 5F 5F 5F 00 01 00") ++ field_behind (hex "09 52 5F 5F 5F 00 03 00 00")
    ++ field_behind (hex "07 52 5F 5F 5F 00 02") ++ field_behind (hex "08 52 5F 5F 5F 00 02 0D") ++ field_behind (hex "09 52 5F 5F 5F 00 46 5F 5F")
    ++ field_behind (hex "07 52 5F 5F 5F 00 00") ++ field_behind (hex "0B 52 5F 5F 5F 00 02 0D 03 0A 00") ++ field_behind (hex "0B 52 5F 5F 5F 00 02 12 03 0A 00")
    ≡ replicate 9 (Stopped Broken)
unfolding code_front
field_lists = refl

-- Store (1, Add (1, 1)), Store (1, "A"), Store (Break, Local0), Index of nothing, and a byte that is no opcode
places : load (hex "70 01 72 01 01 00") ++ load (hex "70 01 0D 41 00") ++ load (hex "70 A5 60") ++ load (hex "88") ++ load (hex "02")
    ≡ replicate 5 (Stopped Broken)
unfolding code_front
places = refl

-- Name (\, 5): the root is there already
root_again : load (hex "08 5C 00 0A 05") ≡ faults Fault.AlreadyExists ∷ []
unfolding code_front
root_again = refl

-- Method (M) {Return (1)}, Method (M) {Return (2)}: the first stays
method_again : results_of (byte_session
    (table_bytes fields (hex "14 08 4D 5F 5F 5F 00 A4 01" ++ hex "14 09 4D 5F 5F 5F 00 A4 0A 02")) [] 4 [] (call (at_root "M___") [] ∷ []))
    ≡ faults Fault.AlreadyExists ∷ gives (number 1) ∷ []
unfolding code_front
method_again = refl

-- OperationRegion (R, SystemIO, 0, 8), Field (R, ByteAcc, Lock, Preserve) {an access of 42, F, 32}, Method (M) {Return (F)}: the low bits of
-- an access say that its words have two bytes, so two answers are taken
access_with_high_bits : results_of (byte_session
    (table_bytes fields (hex "5B 80 52 5F 5F 5F 01 00 0A 08" ++ hex "5B 81 0E 52 5F 5F 5F 11 01 42 00 46 5F 5F 5F 20" ++ hex "14 0B 4D 5F 5F 5F 00 A4 46 5F 5F 5F"))
    [] 4 (number 0x1111 ∷ number 0x2222 ∷ []) (call (at_root "M___") [] ∷ []))
    ≡ Done (Normal false) ∷ gives (number 0x22221111) ∷ []
unfolding code_front
access_with_high_bits = refl

-- A Connection to a Buffer of 2 ^ 24 + 1 bytes
resource_too_large : field_behind (hex "0E 52 5F 5F 5F 00 02 11 06 0C 01 00 00 01") ≡ faults Fault.Size ∷ []
unfolding code_front
resource_too_large = refl

-- Name (X, 5), Field (X, AnyAcc, NoLock, Preserve) {F, 8}, Method (M) {Return (F)}: no region stands there
no_region : results_of (byte_session
    (table_bytes fields (hex "08 58 5F 5F 5F 0A 05" ++ hex "5B 81 0B 58 5F 5F 5F 00 46 5F 5F 5F 08" ++ hex "14 0B 4D 5F 5F 5F 00 A4 46 5F 5F 5F")) [] 4 []
    (call (at_root "M___") [] ∷ []))
    ≡ Done (Normal false) ∷ faults Fault.WrongType ∷ []
unfolding code_front
no_region = refl

-- Name (X, 5), IndexField (X, X, AnyAcc, NoLock, Preserve) {F, 8}: no register stands there
no_register : load (hex "08 58 5F 5F 5F 0A 05" ++ hex "5B 86 0F 58 5F 5F 5F 58 5F 5F 5F 00 46 5F 5F 5F 08") ≡ faults Fault.WrongType ∷ []
unfolding code_front
no_register = refl

-- The same over a Device of another table: External (X, DeviceObj), Field (X, AnyAcc or BufferAcc, NoLock, Preserve) {F, 8}
abbrev over_other : List ℕ → List (Result Flow)
over_other access = results_of (byte_session
    (table_bytes fields (hex "5B 81 0B 58 5F 5F 5F" ++ access ++ hex "46 5F 5F 5F 08" ++ hex "14 0B 4D 5F 5F 5F 00 A4 46 5F 5F 5F"))
    ((at_root "X___", ExternalObject (ExternalOther 6)) ∷ []) 4 [] (call (at_root "M___") [] ∷ []))

no_region_there : over_other (hex "00") ++ over_other (hex "05")
    ≡ Done (Normal false) ∷ faults Fault.WrongType ∷ Done (Normal false) ∷ faults Fault.WrongType ∷ []
unfolding code_front
no_region_there = refl

-- The same IndexField over an Integer of another table
no_register_there : results_of (byte_session
    (table_bytes fields (hex "5B 86 0F 58 5F 5F 5F 58 5F 5F 5F 00 46 5F 5F 5F 08")) ((at_root "X___", ExternalObject (ExternalData 1)) ∷ []) 4 [] [])
    ≡ faults Fault.WrongType ∷ []
unfolding code_front
no_register_there = refl

-- Method (M) {Return (Debug)}
debug_as_operand : results_of (byte_session (table_bytes fields (hex "14 09 4D 5F 5F 5F 00 A4 5B 31")) [] 4 [] (call (at_root "M___") [] ∷ []))
    ≡ Done (Normal false) ∷ faults Fault.WrongType ∷ []
unfolding code_front
debug_as_operand = refl
