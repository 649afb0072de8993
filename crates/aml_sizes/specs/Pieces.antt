-- The pieces of a table: the header, and for each term of the term lists, in the order of the source, its bytes
-- up to those of the first term inside it. An ElseIf is one piece.
use Rattle.std.specs.Prelude.{ℕ, ◌+◌, Bool, true, false, List, [], ◌∷◌, ◌++◌, length}
use Rattle.iasl_messages.specs.declared.place.Place.{Place}
use Rattle.iasl_messages.specs.declared.place.Line.{Line}
use Rattle.iasl_messages.specs.declared.place.Piece.{Piece}
use Rattle.asl_tree.specs.declared.term.Op.{Op}
use Rattle.asl_tree.specs.declared.term.Node.{Node}
use Rattle.asl_tree.specs.declared.term.Term.{Term}
use Rattle.asl_tree.specs.declared.term.Term as D
use Rattle.asl_tree.specs.declared.program.Block.{Block}
use Rattle.aml_code.specs.Header.{header_length, header_with, checksum_of, fields_of}
use Rattle.source_lines.specs.Text.{line_text}
use Rattle.aml_sizes.specs.declared.style.IntegerStyle.{IntegerStyle}
use Rattle.term_places.specs.Places.{holds_terms}
use Rattle.aml_sizes.specs.Codes.{letters_of}
use Rattle.aml_sizes.specs.TermBytes.{term_bytes, row_bytes, nodes_bytes}
use Rattle.aml_sizes.specs.TermLists.{own_head, row_terms, row_later, terms_bytes, later_of}

-- some bytes with their place and the text of its line
abbrev pub piece_at : List Line → Place → List ℕ → Piece
piece_at lines place bytes = record { place = place; source = line_text lines place; bytes = bytes }

-- the bytes of pieces, one after another
abbrev pub joined_pieces : List Piece → List ℕ
joined_pieces [] = []
joined_pieces (piece ∷ pieces) = piece.bytes ++ joined_pieces pieces

-- whether a term holds a list of terms
abbrev pub is_container : Term → Bool
is_container (D.Form' op shape args shape' body) = holds_terms op
is_container _ = false

module _ (style : IntegerStyle) (lines : List Line) where
  -- a form whose body is a list of terms is cut before each of them
  abbrev pub form_pieces : Bool → Place → List ℕ → List ℕ → List Piece → List Piece
  form_pieces true place head whole inner = piece_at lines place head ∷ inner
  form_pieces false place head whole inner = piece_at lines place whole ∷ []

  unfoldable mutual
    -- of a term before so many bytes of its run
    pub term_pieces : ℕ → Place → Term → List Piece
    term_pieces later place (D.Form' op shape args shape' body) =
        form_pieces (holds_terms op) place (own_head op (row_bytes style (letters_of op) args) (length (row_terms style body)) later)
        (term_bytes style (D.Form' op shape args shape' body)) (row_pieces body)
    term_pieces later place term = piece_at lines place (term_bytes style term) ∷ []

    pub row_pieces : {m : _} → D.Row_of-Node m → List Piece
    row_pieces D.end_of-Node = []
    row_pieces (D.more_of-Node id place term rest) = term_pieces (row_later style rest) place term ++ row_pieces rest

  unfoldable pub nodes_pieces : List Node → List Piece
  nodes_pieces [] = []
  nodes_pieces (node ∷ nodes) = term_pieces (later_of style nodes) node.place node.term ++ nodes_pieces nodes

  abbrev pub container_pieces : Place → Op → List Node → List Node → ℕ → List Piece
  container_pieces place op args body later =
      piece_at lines place (own_head op (nodes_bytes style (letters_of op) args) (length (terms_bytes style body)) later) ∷ nodes_pieces body

  -- the header, and then the terms
  abbrev pub table_pieces : Block → List Piece
  table_pieces block =
      let content = terms_bytes style block.terms.items in
      let size = header_length + length content in
      piece_at lines block.place (header_with (fields_of block) size (checksum_of (header_with (fields_of block) size 0 ++ content))) ∷
      nodes_pieces block.terms.items
