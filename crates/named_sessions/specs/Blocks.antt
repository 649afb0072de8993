-- A definition block, what may be wrong with it, and its table.
use Rattle.std.specs.Prelude.{◌≡◌, ℕ, Bool, ◌<◌, ◌≤◌, ◌^◌, List, [], length}
use Rattle.acpi_values.specs.Paths.{AbsolutePath}
use Rattle.acpi_values.specs.Revisions.{width_of}
use Rattle.asl_tree.specs.declared.program.Block.{Block}
use Rattle.asl_tree.specs.Tree.{Trees}
use Rattle.asl_tree.specs.View.{trees_of}
use Rattle.asl_meaning.specs.Declarations.{known_of, externals}
use Rattle.aml_code.specs.Header.{table_bytes, fields_of, IsHeader}
use Rattle.aml_meaning.specs.Encoded.{encoded_terms}
use Rattle.aml_meaning.specs.ByteSession.{IsFaithful}
use Rattle.acpi_names.specs.Errors.{name_errors, type_errors}
use Rattle.named_sessions.specs.Shaped.{AreShaped}
use Rattle.named_sessions.specs.Core.{core_beside}

-- the terms of a block
abbrev pub terms_of : Block → Trees
terms_of block = trees_of block.terms.items

-- The header's texts have room, and the terms are shaped.
pub record IsShapedBlock (block : Block) : Type 0 where
  pub signature : length block.signature ≡ 4
  pub oem_id : length block.oem_id ≤ 6
  pub table_id : length block.table_id ≤ 8
  pub oem_revision : block.oem_revision < 2 ^ 32
  pub terms : AreShaped (terms_of block)

-- nothing is wrong with its names, nor with how many arguments its calls have
pub record IsRightBlock (block : Block) : Type 0 where
  pub names : name_errors (terms_of block) ≡ []
  pub counts : type_errors (terms_of block) ≡ []

-- the table of a block: its header, and the bytes of its terms with their names spelled, at the width that its revision gives;
-- whether 0, 1 and all ones have a byte of their own, whether names are shortened, and what stands in their way besides, is the
-- caller's choice
abbrev pub block_table : Bool → Bool → (also : AbsolutePath → Bool) → Block → List ℕ
block_table short shorten also block =
    table_bytes (fields_of block) (encoded_terms (width_of block.revision) short (core_beside shorten also (terms_of block)))

-- bytes that begin with the header that the block states, and that do what the block does at the width that its revision gives
pub record DoesAs (block : Block) (bytes : List ℕ) : Type 0 where
  pub header : IsHeader bytes (fields_of block)
  pub faithful : IsFaithful (width_of block.revision) (known_of (terms_of block)) (externals (terms_of block)) (terms_of block) bytes
