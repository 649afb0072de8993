-- How long the table of a block is, and what is told of one that is too long.
use Rattle.std.specs.Prelude.{◌≡◌, ℕ, ◌+◌, ◌<◌, ◌≤◌, Bool, List, [], length, slice_get}
use Rattle.std.specs.Option.{ForSome}
use Rattle.iasl_messages.specs.declared.message.Message.{Message}
use Rattle.asl_tree.specs.declared.program.Block.{Block}
use Rattle.asl_tree.specs.declared.program.Core.{Core}
use Rattle.asl_tree.specs.Names.{Known}
use Rattle.aml_sessions.specs.Ready.{IsReadyBlock}
use Rattle.aml_meaning.specs.Encoded.{encoded_block}
use Rattle.aml_sizes.specs.Styles.{style_of}
use Rattle.aml_sizes.specs.TermLists.{terms_bytes}
use Rattle.aml_sizes.specs.Pieces.{joined_pieces, table_pieces}
use Rattle.iasl_messages.specs.declared.place.Place.{Place}
use Rattle.iasl_messages.specs.declared.place.Line.{Line}
use Rattle.aml_sizes.specs.declared.stop.WriteStop.{WriteStop}
use Rattle.aml_sizes.specs.declared.stop.WriteStop.TheVariants.{TooLong, Memory}

-- 16 MiB
abbrev pub most_table_bytes : ℕ
most_table_bytes = 16777216

-- of the block with that number
abbrev pub AtBlock : Core → ℕ → (Block → Type 0) → Type 0
AtBlock core number P = ForSome (slice_get core.program.blocks number) P

-- how many bytes the table of a block has: as many as its pieces joined, whatever the lines of these, which is as many
-- as its encoding where the block is ready, and no more than 16 MiB
pub record IsTableSize (block : Block) (short : Bool) (size : ℕ) : Type 0 where
  pub joined : (lines : List Line) → size ≡ length (joined_pieces (table_pieces (style_of block short) lines block))
  pub encoded : (known : Known) → IsReadyBlock known block → size ≡ length (encoded_block short block)
  pub content : size ≡ 36 + length (terms_bytes (style_of block short) block.terms.items)
  pub within : size ≤ most_table_bytes

-- the place of a block whose table is too long
pub record IsOver (block : Block) (short : Bool) (place : Place) : Type 0 where
  pub passes : most_table_bytes < 36 + length (terms_bytes (style_of block short) block.terms.items)
  pub at_block : place ≡ block.place

-- the one message that a table which is too long gets, at its block
pub record IsTooLong (block : Block) (short : Bool) (message : Message) : Type 0 where
  pub passes : most_table_bytes < 36 + length (terms_bytes (style_of block short) block.terms.items)
  pub number : message.number ≡ 6080
  pub place : message.place ≡ block.place
  pub no_name : message.name ≡ []

-- when a block is not written; want of memory says nothing
abbrev pub RefusedFor : Block → Bool → WriteStop → Type 0
RefusedFor block short (TooLong message) = IsTooLong block short message
RefusedFor block short Memory = Unit {0}
