-- The table of a block does what the block does.
use Rattle.std.proofs.Common.{◌+◌, ◌≤◌, Bool, length, ◌++◌, arith, length-append}
use Rattle.acpi_values.specs.Paths.{AbsolutePath}
use Rattle.acpi_values.specs.Revisions.{width_of}
use Rattle.asl_tree.specs.declared.program.Block.{Block}
use Rattle.aml_code.specs.Header.{header_length, checksum_of, header_with, fields_of}
use Rattle.aml_meaning.specs.Encoded.{encoded_terms}
use Rattle.aml_sessions.proofs.Tables.{definition_is, width_is, is_header}
use Rattle.named_sessions.specs.Core.{core_beside}
use Rattle.named_sessions.specs.Blocks.{terms_of, IsShapedBlock, IsRightBlock, block_table, DoesAs}
use Rattle.named_sessions.proofs.Main.{is_faithful}

pub does_as : (short shorten : Bool) (also : AbsolutePath → Bool) (block : Block) → IsShapedBlock block → IsRightBlock block → length (block_table short shorten also block) ≤ 16777216 → DoesAs block (block_table short shorten also block)
does_as short shorten also block shaped right within =
    let fields = fields_of block in
    let content = encoded_terms (width_of block.revision) short (core_beside shorten also (terms_of block)) in
    let size = header_length + length content in
    let header = header_with fields size (checksum_of (header_with fields size 0 ++ content)) in
    let small : length content ≤ 16777216 = omega (arith, within, length-append header content) in
    record {
      header = is_header fields content shaped.signature (omega (arith, small)) shaped.oem_revision;
      faithful = is_faithful shorten also (width_of block.revision) short (terms_of block) (block_table short shorten also block) shaped.terms right.names right.counts (width_is fields content shaped.signature) (omega (arith, small)) (definition_is fields content shaped.signature (omega (arith, small)));
    }
