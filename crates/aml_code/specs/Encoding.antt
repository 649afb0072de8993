-- The bytes of a core tree (ACPI Specification 6.4, 20.2).
use Rattle.std.specs.Prelude.{ℕ, zero, suc, ◌+◌, ◌*◌, ◌/◌, ◌%◌, ◌^◌, Bool, nat_eq, nat_lt, ◌&&◌, if◌then◌else◌, List, [], ◌∷◌, ◌++◌}
use Rattle.std.specs.Prelude.{length, replicate}
use Rattle.byteorder.specs.Endian.{little_bytes}
use Rattle.acpi_values.specs.Paths.{NameSeg}
use Rattle.acpi_values.specs.declared.width.Width.{Width}
use Rattle.acpi_values.specs.Widths.{ones_of}
use Rattle.asl_tree.specs.declared.path.Path.{Path}

-- the PkgLength of a content, where `more` bytes follow the first
abbrev pub package_length_form : ℕ → ℕ → List ℕ
package_length_form zero content = (content + 1) ∷ []
package_length_form (suc k) content =
    let spelled = content + suc (suc k) in (64 * suc k + spelled % 16) ∷ little_bytes (suc k) (spelled / 16)

-- how many bytes must follow the first
abbrev pub package_length_more : ℕ → ℕ
package_length_more content =
    if nat_lt (content + 1) (2 ^ 6) then 0 else if nat_lt (content + 2) (2 ^ 12) then 1 else if nat_lt (content + 3) (2 ^ 20) then 2 else 3

-- the shortest PkgLength
abbrev pub package_length_bytes : ℕ → List ℕ
package_length_bytes content = package_length_form (package_length_more content) content

-- a number spelled as a PkgLength is, where `more` bytes follow the first
abbrev pub bit_count_form : ℕ → ℕ → List ℕ
bit_count_form zero bits = bits ∷ []
bit_count_form (suc k) bits = (64 * suc k + bits % 16) ∷ little_bytes (suc k) (bits / 16)

abbrev pub bit_count_more : ℕ → ℕ
bit_count_more bits = if nat_lt bits (2 ^ 6) then 0 else if nat_lt bits (2 ^ 12) then 1 else if nat_lt bits (2 ^ 20) then 2 else 3

-- the shortest count of bits
abbrev pub bit_count_bytes : ℕ → List ℕ
bit_count_bytes bits = bit_count_form (bit_count_more bits) bits

-- a content as a package
abbrev pub packed : List ℕ → List ℕ
packed content = package_length_bytes (length content) ++ content

-- a number behind the shortest prefix that has room for it
abbrev pub prefixed_bytes : ℕ → List ℕ
prefixed_bytes number =
    if nat_lt number (2 ^ 8) then 0x0A ∷ little_bytes 1 number
    else if nat_lt number (2 ^ 16) then 0x0B ∷ little_bytes 2 number
    else if nat_lt number (2 ^ 32) then 0x0C ∷ little_bytes 4 number
    else 0x0E ∷ little_bytes 8 number

-- an integer constant: 0, 1 and all ones have a byte of their own where the short form is asked for
abbrev pub integer_bytes : Width → Bool → ℕ → List ℕ
integer_bytes width short number =
    if short && nat_eq number 0 then 0x00 ∷ []
    else if short && nat_eq number 1 then 0x01 ∷ []
    else if short && nat_eq number (ones_of width) then 0xFF ∷ []
    else prefixed_bytes number

abbrev pub joined_segments : List NameSeg → List ℕ
joined_segments [] = []
joined_segments (seg ∷ segs) = seg ++ joined_segments segs

abbrev pub prefix_bytes : Path → List ℕ
prefix_bytes name = if name.root then 0x5C ∷ [] else replicate name.up 0x5E

abbrev pub name_path_bytes : List NameSeg → List ℕ
name_path_bytes [] = 0x00 ∷ []
name_path_bytes (a ∷ []) = a
name_path_bytes (a ∷ b ∷ []) = 0x2E ∷ joined_segments (a ∷ b ∷ [])
name_path_bytes segs = 0x2F ∷ length segs ∷ joined_segments segs

-- a NameString
abbrev pub name_bytes : Path → List ℕ
name_bytes name = prefix_bytes name ++ name_path_bytes name.segs
