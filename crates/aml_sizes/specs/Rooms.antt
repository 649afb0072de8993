-- The room of a table: its pieces before they have their bytes, and how many bytes there is room for in each.
use Rattle.std.specs.Prelude.{◌≡◌, ℕ, ◌≤◌, Bool, List, [], length, map, reverse}
use Rattle.iasl_messages.specs.declared.place.Line.{Line}
use Rattle.iasl_messages.specs.declared.place.Piece.{Piece}
use Rattle.asl_tree.specs.declared.program.Block.{Block}
use Rattle.aml_sizes.specs.declared.reserve.Room.{Room}
use Rattle.aml_sizes.specs.Sizes.{most_content_bytes}
use Rattle.aml_sizes.specs.Styles.{style_of}
use Rattle.aml_sizes.specs.TermLists.{terms_bytes}
use Rattle.aml_sizes.specs.PackageLengths.{terms_lengths}
use Rattle.aml_sizes.specs.Pieces.{table_pieces}

-- a piece without its bytes
abbrev pub blank : Piece → Piece
blank piece = record { place = piece.place; source = piece.source; bytes = [] }

abbrev pub size_of : Piece → ℕ
size_of piece = length piece.bytes

-- pieces from the last to the first, without their bytes, and how many these are
abbrev pub blanks : List Piece → List Piece
blanks pieces = map blank (reverse pieces)

abbrev pub sizes : List Piece → List ℕ
sizes pieces = map size_of (reverse pieces)

-- the room of a block's table: each piece with its place and source, without bytes, and with room for as many as it
-- will have; and the lengths of the packages
pub record IsRoomOf (lines : List Line) (block : Block) (short : Bool) (room : Room) : Type 0 where
  pub pieces : room.pieces ≡ map blank (table_pieces (style_of block short) lines block)
  pub spaces : room.spaces ≡ map size_of (table_pieces (style_of block short) lines block)
  pub lengths : room.lengths ≡ terms_lengths (style_of block short) block.terms.items
  pub within : length (terms_bytes (style_of block short) block.terms.items) ≤ most_content_bytes
