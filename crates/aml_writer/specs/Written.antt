-- What is written of a block.
use Rattle.std.specs.Prelude.{◌≡◌, ℕ, ◌≤◌, Bool, List, length}
use Rattle.asl_tree.specs.declared.program.Block.{Block}
use Rattle.acpi_values.specs.Revisions.{width_of}
use Rattle.acpi_state.specs.Objects.{Names}
use Rattle.asl_tree.specs.Names.{Known}
use Rattle.asl_meaning.specs.Starts.{IsKnownStart}
use Rattle.aml_sessions.specs.Ready.{IsReadyBlock}
use Rattle.asl_tree.specs.View.{trees_of}
use Rattle.aml_code.specs.Header.{fields_of, IsHeader}
use Rattle.aml_meaning.specs.Encoded.{encoded_block}
use Rattle.aml_meaning.specs.ByteSession.{IsFaithful}
use Rattle.aml_sizes.specs.TableSizes.{most_table_bytes}

-- the table of a ready block: its bytes are the block's encoding, no more than 16 MiB; they begin with the
-- header that the block states; and every session over them, at the width that its
-- revision gives, is the source's
pub record IsTableOf (known : Known) (externals : Names) (block : Block) (short : Bool) (bytes : List ℕ) : Type 0 where
  pub encoded : bytes ≡ encoded_block short block
  pub within : length bytes ≤ most_table_bytes
  pub header : IsHeader bytes (fields_of block)
  pub faithful : IsFaithful (width_of block.revision) known externals (trees_of block.terms.items) bytes

-- whatever is known of the block's paths and of other tables, its table where it is ready
pub record IsTable (block : Block) (short : Bool) (bytes : List ℕ) : Type 0 where
  pub table : (known : Known) (externals : Names) → IsKnownStart known externals → IsReadyBlock known block →
      IsTableOf known externals block short bytes
