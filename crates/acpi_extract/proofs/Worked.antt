-- Dumps worked out by computation.
use Rattle.std.proofs.Common.{◌≡◌, ℕ, List, [], ◌∷◌, ◌++◌, codes, Ok, Err, refl}
use Rattle.acpi_extract.specs.Dump.{dump_of}

-- an SSDT of 36 bytes
abbrev ssdt : List ℕ
ssdt =
    codes "SSDT @ 0x0000000000000000\n"
    ++ codes "    0000: 53 53 44 54 24 00 00 00 02 8B 4F 45 4D 58 30 30  SSDT$.....OEMX00\n"
    ++ codes "    0010: 54 41 42 4C 45 30 30 31 01 00 00 00 49 4E 54 4C  TABLE001....INTL\n"
    ++ codes "    0020: 05 01 21 20                                      ..!\n"

abbrev ssdt_bytes : List ℕ
ssdt_bytes =
    83 ∷ 83 ∷ 68 ∷ 84 ∷ 36 ∷ 0 ∷ 0 ∷ 0 ∷ 2 ∷ 139 ∷ 79 ∷ 69 ∷ 77 ∷ 88 ∷ 48 ∷ 48
    ∷ 84 ∷ 65 ∷ 66 ∷ 76 ∷ 69 ∷ 48 ∷ 48 ∷ 49 ∷ 1 ∷ 0 ∷ 0 ∷ 0 ∷ 73 ∷ 78 ∷ 84 ∷ 76
    ∷ 5 ∷ 1 ∷ 33 ∷ 32 ∷ []

ssdt_read : dump_of ssdt ≡ Ok ((codes "SSDT", ssdt_bytes) ∷ [])
ssdt_read = refl

-- a pair that is cut, an offset out of order, a wrong length, a line under no header
cut_pair : dump_of (codes "DSDT @ 0x0\n 0000: 44 53 44 54 09 00 00 00 0") ≡ Err (6101, 2)
cut_pair = refl

wrong_offset : dump_of (codes "SSDT @ 0x0\n 0000: 53 53 44 54\n 0020: 08 00 00 00\n") ≡ Err (6102, 3)
wrong_offset = refl

wrong_length : dump_of (codes "\nSSDT @ 0x0\n 0000: 53 53 44 54 09 00 00 00\n\nstray\n") ≡ Err (6103, 2)
wrong_length = refl

stray_line : dump_of (codes "RSD PTR @ 0x0\r\n 0000: 52\r\n\r\nstray\n") ≡ Err (6100, 4)
stray_line = refl
