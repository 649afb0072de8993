-- How numbers, lengths, names and headers stand in bytes, and what is none of these. Worked by hand from the ACPI Specification 6.4, whose
-- sections are named with the rows.
use Rattle.std.proofs.Common.{◌≡◌, ℕ, true, false, List, [], ◌∷◌, ◌++◌, Some, None, refl}
use Rattle.std.specs.Prelude.{codes, map}
use Rattle.acpi_state.specs.Objects.{PowerResource, Processor}
use Rattle.acpi_state.specs.Forms.{LocalSlot, ArgSlot}
use Rattle.aml_meaning.specs.Codes.{PowerResourceCode, ProcessorCode, slot_front}
use Rattle.aml_meaning.specs.ByteMeaning.{container_front}
use Rattle.aml_meaning.specs.ByteSession.{definition_bytes}
use Rattle.aml_code.specs.Encoding.{package_length_bytes, bit_count_bytes, prefixed_bytes}
use Rattle.aml_code.specs.Header.{filled, checksum_of}
use Rattle.aml_code.specs.Fronts.{package_length_front, bit_count_front, name_front, segment_front, is_lead_character, is_name_character}
use Rattle.aml_code.specs.Fronts.{is_segment, is_name_lead}
use Rattle.meaning_rows.proofs.Outside.{hex}

-- no length, no count of bits and no name stand at the end of bytes (20.2.2 and 20.2.4)
ends : package_length_front [] ≡ None
ends = refl

count_ends : bit_count_front [] ≡ None
count_ends = refl

name_ends : name_front [] ∷ name_front (0x5C ∷ []) ∷ name_front (0x5E ∷ []) ∷ name_front (0x2F ∷ []) ∷ name_front (0x2F ∷ 0x01 ∷ 0x41 ∷ []) ∷ []
    ≡ None ∷ None ∷ None ∷ None ∷ None ∷ []
name_ends = refl

-- the greatest numbers that have no, one and two bytes behind the first, and the next ones: of a PkgLength, which counts its own bytes, and
-- of a count of bits (20.2.4 and 20.2.5.2)
long_lengths : package_length_bytes 1048572 ++ package_length_bytes 1048573 ≡ hex "8F FF FF" ++ hex "C1 00 00 01"
long_lengths = refl

bit_counts : bit_count_bytes 63 ++ bit_count_bytes 64 ++ bit_count_bytes 4095 ++ bit_count_bytes 4096 ++ bit_count_bytes 1048575 ++ bit_count_bytes 1048576
    ≡ hex "3F" ++ hex "40 04" ++ hex "4F FF" ++ hex "80 00 01" ++ hex "8F FF FF" ++ hex "C0 00 00 01"
bit_counts = refl

one_byte_of_bits : bit_count_front (0x3F ∷ 5 ∷ []) ≡ Some (63, 5 ∷ [])
one_byte_of_bits = refl

-- bit 4 of the first of two bytes is set; and a length of two bytes that is 1
no_lengths : package_length_front (0x50 ∷ 0x04 ∷ []) ∷ package_length_front (0x41 ∷ 0x00 ∷ []) ∷ [] ≡ None ∷ None ∷ []
no_lengths = refl

-- the greatest numbers of one, two and four bytes, and the next ones (20.2.3)
integer_constants : prefixed_bytes 255 ++ prefixed_bytes 256 ++ prefixed_bytes 65535 ++ prefixed_bytes 65536 ++ prefixed_bytes 0xFFFFFFFF ++ prefixed_bytes 0x100000000
    ≡ hex "0A FF" ++ hex "0B 00 01" ++ hex "0B FF FF" ++ hex "0C 00 00 01 00" ++ hex "0C FF FF FF FF" ++ hex "0E 00 00 00 00 01 00 00 00"
integer_constants = refl

-- the characters that begin a segment, and those that stand in one, with their neighbours: @ A Z [ _ ` and / 0 9 : (20.2.2)
lead_characters : map is_lead_character (0x40 ∷ 0x41 ∷ 0x5A ∷ 0x5B ∷ 0x5F ∷ 0x60 ∷ 0x30 ∷ []) ≡ false ∷ true ∷ true ∷ false ∷ true ∷ false ∷ false ∷ []
lead_characters = refl

name_characters : map is_name_character (0x2F ∷ 0x30 ∷ 0x39 ∷ 0x3A ∷ 0x40 ∷ 0x41 ∷ 0x5F ∷ 0x60 ∷ []) ≡ false ∷ true ∷ true ∷ false ∷ false ∷ true ∷ true ∷ false ∷ []
name_characters = refl

segments : map is_segment (codes "A0_9" ∷ codes "0AAA" ∷ codes "A/AA" ∷ codes "AA/A" ∷ codes "AAA/" ∷ codes "A/A/" ∷ codes "AA//" ∷ codes "AAA" ∷ codes "AAAAA" ∷ [])
    ≡ true ∷ false ∷ false ∷ false ∷ false ∷ false ∷ false ∷ false ∷ false ∷ []
segments = refl

no_segment : segment_front (codes "A/AA") ≡ None
no_segment = refl

-- what a name in the place of a term begins with: . and / stand for two and more segments (20.2.2)
name_leads : map is_name_lead (0x2D ∷ 0x2E ∷ 0x2F ∷ 0x30 ∷ 0x5B ∷ 0x5C ∷ 0x5D ∷ 0x5E ∷ 0x5F ∷ []) ≡ false ∷ true ∷ true ∷ false ∷ false ∷ true ∷ false ∷ true ∷ true ∷ []
name_leads = refl

no_name_leads : name_front (0x2D ∷ codes "ABCDEFGH") ∷ name_front (0x2D ∷ 0x01 ∷ codes "ABCD") ∷ [] ≡ None ∷ None ∷ []
no_name_leads = refl

-- the numbers behind the names of PowerResource and Processor (20.2.5.2)
power_resource : container_front PowerResourceCode (hex "01 02 03 FF") ≡ Some (PowerResource 1 0x302, 0xFF ∷ [])
power_resource = refl

processor : container_front ProcessorCode (hex "01 10 04 00 00 06 FF") ≡ Some (Processor 1 0x410 6, 0xFF ∷ [])
processor = refl

-- the bytes of Locals and Args, and the byte behind them (20.2.6.1 and 20.2.6.2)
slots : map (λ byte. slot_front (byte ∷ [])) (0x60 ∷ 0x61 ∷ 0x62 ∷ 0x63 ∷ 0x64 ∷ 0x65 ∷ 0x66 ∷ 0x67 ∷ 0x68 ∷ 0x69 ∷ 0x6A ∷ 0x6B ∷ 0x6C ∷ 0x6D ∷ 0x6E ∷ 0x6F ∷ [])
    ≡ map Some (map LocalSlot (0 ∷ 1 ∷ 2 ∷ 3 ∷ 4 ∷ 5 ∷ 6 ∷ 7 ∷ []) ++ map ArgSlot (0 ∷ 1 ∷ 2 ∷ 3 ∷ 4 ∷ 5 ∷ 6 ∷ [])) ++ None ∷ []
slots = refl

-- a header's texts, shorter and longer than their place, its checksum, and what follows it up to the length that it says (5.2.6)
texts : filled 6 (codes "AB") ++ filled 4 (codes "ABCDE") ≡ codes "AB" ++ hex "00 00 00 00" ++ codes "ABCD"
texts = refl

checksums : map checksum_of ([] ∷ (1 ∷ []) ∷ (255 ∷ 2 ∷ []) ∷ (255 ∷ 1 ∷ []) ∷ []) ≡ 0 ∷ 255 ∷ 255 ∷ 0 ∷ []
checksums = refl

abbrev behind_header : List ℕ → List ℕ
behind_header length = definition_bytes (codes "SSDT" ++ length ++ hex "02 00" ++ codes "OEMX00TABLE001" ++ hex "01 00 00 00" ++ codes "INTL" ++ hex "05 01 21 20" ++ hex "08 58 5F 5F 5F 01 A3 A3")

up_to_length : behind_header (hex "2A 00 00 00") ++ behind_header (hex "2B 00 00 01") ≡ hex "08 58 5F 5F 5F 01" ++ hex "08 58 5F 5F 5F 01 A3 A3"
up_to_length = refl
