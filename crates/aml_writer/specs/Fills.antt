-- Pieces that get their bytes, one by one, in the room that was kept for them.
use Rattle.std.specs.Prelude.{◌≡◌, ℕ, ◌+◌, ◌≤◌, Bool, List, [], ◌∷◌, ◌++◌, length, map, drop}
use Rattle.iasl_messages.specs.declared.place.Piece.{Piece}
use Rattle.asl_tree.specs.declared.term.Node.{Node}
use Rattle.aml_code.specs.Header.{header_length, header_with, checksum_of, fields_of}
use Rattle.asl_tree.specs.declared.program.Block.{Block}
use Rattle.aml_sizes.specs.declared.style.IntegerStyle.{IntegerStyle}
use Rattle.aml_sizes.specs.declared.reserve.Room.{Room}
use Rattle.aml_sizes.specs.Sizes.{most_content_bytes}
use Rattle.aml_sizes.specs.Styles.{style_of}
use Rattle.asl_tree.specs.declared.term.Op.{Op}
use Rattle.aml_sizes.specs.Codes.{letters_of}
use Rattle.aml_sizes.specs.TermBytes.{nodes_bytes}
use Rattle.aml_sizes.specs.TermLists.{own_head, terms_bytes}
use Rattle.aml_sizes.specs.PackageLengths.{terms_lengths}
use Rattle.aml_sizes.specs.Rooms.{blank, size_of}
use Rattle.aml_sizes.specs.Pieces.{nodes_pieces, table_pieces}

abbrev pub bytes_of : Piece → List ℕ
bytes_of piece = piece.bytes

-- the bytes of the pieces of some terms
abbrev pub nodes_parts : IntegerStyle → List Node → List (List ℕ)
nodes_parts style nodes = map bytes_of (nodes_pieces style [] nodes)

-- the bytes of the pieces of a form that holds terms, before so many bytes of its run: before its terms, and those of them
abbrev pub own_parts : IntegerStyle → Op → List Node → List Node → ℕ → List (List ℕ)
own_parts style op args body later =
    own_head op (nodes_bytes style (letters_of op) args) (length (terms_bytes style body)) later ∷ nodes_parts style body

-- room for a block's table, whatever the lines of its pieces
pub record HasRoom (block : Block) (short : Bool) (room : Room) : Type 0 where
  pub count : length room.pieces ≡ length room.spaces
  pub spaces : room.spaces ≡ map size_of (table_pieces (style_of block short) [] block)
  pub lengths : room.lengths ≡ terms_lengths (style_of block short) block.terms.items
  pub within : length (terms_bytes (style_of block short) block.terms.items) ≤ most_content_bytes

abbrev pub with_bytes : Piece → List ℕ → Piece
with_bytes piece bytes = record { place = piece.place; source = piece.source; bytes = bytes }

-- pieces with these bytes, one for one
abbrev pub filled : List Piece → List (List ℕ) → List Piece
filled [] parts = []
filled (piece ∷ pieces) [] = piece ∷ pieces
filled (piece ∷ pieces) (part ∷ parts) = with_bytes piece part ∷ filled pieces parts

-- the bytes of a block's pieces
abbrev pub table_parts_of : Block → Bool → List (List ℕ)
table_parts_of block short = map bytes_of (table_pieces (style_of block short) [] block)

abbrev pub joined_parts : List (List ℕ) → List ℕ
joined_parts [] = []
joined_parts (part ∷ parts) = part ++ joined_parts parts

-- a block's header before so many bytes, which are these
abbrev pub header_for : Block → ℕ → List (List ℕ) → List ℕ
header_for block size parts =
    header_with (fields_of block) (header_length + size)
    (checksum_of (header_with (fields_of block) (header_length + size) 0 ++ joined_parts parts))

-- the last rooms are those of some parts
pub record EndsIn (spaces : List ℕ) (parts : List (List ℕ)) : Type 0 where
  pub rest : List ℕ
  pub is : spaces ≡ rest ++ map length parts

-- what is left of the rooms, once the parts of the last are put in, and the pieces that have their bytes then
pub record Fills (parts : List (List ℕ)) (spaces spaces' : List ℕ) (pieces pieces' : List Piece) : Type 0 where
  pub left : (rest : List ℕ) → spaces ≡ rest ++ map length parts → spaces' ≡ rest
  pub full : map bytes_of (drop (length spaces') pieces') ≡ parts ++ map bytes_of (drop (length spaces) pieces)
  pub blanks : map blank pieces' ≡ map blank pieces
