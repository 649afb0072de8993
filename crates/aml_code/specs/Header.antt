-- A table's header (ACPI Specification 6.4, 5.2.6).
use Rattle.std.specs.Prelude.{◌≡◌, ℕ, ◌+◌, ◌-◌, ◌%◌, List, ◌∷◌, ◌++◌, length, take, replicate, sum, codes, slice_index, slice_range}
use Rattle.byteorder.specs.Endian.{little_bytes, little_number}
use Rattle.asl_tree.specs.declared.program.Block.{Block}

-- what a table's header says of it
pub record HeaderFields : Type 0 where
  pub signature : List ℕ
  pub revision : ℕ
  pub oem_id : List ℕ
  pub table_id : List ℕ
  pub oem_revision : ℕ

abbrev pub header_length : ℕ
header_length = 36

-- a text filled with zeros to so many bytes
abbrev pub filled : ℕ → List ℕ → List ℕ
filled n text = take n text ++ replicate (n - length text) 0

-- the byte that makes the sum 0 modulo 256
abbrev pub checksum_of : List ℕ → ℕ
checksum_of bytes = (256 - sum bytes % 256) % 256

-- the compiler's name, and its revision
abbrev pub compiler_bytes : List ℕ
compiler_bytes = codes "INTL" ++ little_bytes 4 0x20210105

abbrev pub header_with : HeaderFields → ℕ → ℕ → List ℕ
header_with fields length_of checksum =
    filled 4 fields.signature ++ little_bytes 4 length_of ++ fields.revision ∷ checksum ∷ filled 6 fields.oem_id ++ filled 8 fields.table_id
    ++ little_bytes 4 fields.oem_revision ++ compiler_bytes

-- a table: the header and the content
abbrev pub table_bytes : HeaderFields → List ℕ → List ℕ
table_bytes fields content =
    let length_of = header_length + length content in
    header_with fields length_of (checksum_of (header_with fields length_of 0 ++ content)) ++ content

-- what a header says where it stands
pub record IsHeader (bytes : List ℕ) (fields : HeaderFields) : Type 0 where
  pub signature : slice_range bytes 0 4 ≡ fields.signature
  pub whole_length : little_number 4 (slice_range bytes 4 8) ≡ length bytes
  pub revision : slice_index bytes 8 ≡ fields.revision
  pub checksum : sum bytes % 256 ≡ 0
  pub oem_id : slice_range bytes 10 16 ≡ filled 6 fields.oem_id
  pub table_id : slice_range bytes 16 24 ≡ filled 8 fields.table_id
  pub oem_revision : little_number 4 (slice_range bytes 24 28) ≡ fields.oem_revision
  pub compiler : slice_range bytes 28 32 ≡ codes "INTL"
  pub compiler_revision : little_number 4 (slice_range bytes 32 36) ≡ 0x20210105

abbrev pub fields_of : Block → HeaderFields
fields_of block = record {
  signature = block.signature;
  revision = block.revision;
  oem_id = block.oem_id;
  table_id =
      block.table_id;
  oem_revision = block.oem_revision;
}
