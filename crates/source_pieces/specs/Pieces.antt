-- The pieces of a table: the header at the block, and then each term of the term lists of the core, in preorder, with
-- its encoding up to that of the first term inside it, at the place of the term of the source for which it stands.
use Rattle.std.specs.Prelude.{◌≡◌, ℕ, Bool, List, ◌∷◌}
use Rattle.iasl_messages.specs.declared.place.Place.{Place}
use Rattle.iasl_messages.specs.declared.place.Line.{Line}
use Rattle.iasl_messages.specs.declared.place.Piece.{Piece}
use Rattle.asl_syntax.specs.declared.raw.Raw.{Raw}
use Rattle.asl_syntax.specs.Written.{writtens}
use Rattle.asl_shape.specs.Forms.{block_place}
use Rattle.wrapped_externals.specs.Starts.{placed_where}
use Rattle.program_shapes.specs.Sources.{plans_in, fields_in, lowered_in, spelled_in, table_in}
use Rattle.aml_sizes.specs.Pieces.{joined_pieces}
use Rattle.aml_writer.specs.Cuts.{table_parts, pieces_with}
use Rattle.source_pieces.specs.Places.{core_places}

-- where they stand: an If that is made for Externals stands at the place of the first of them
abbrev pub places_in : (wrap fold : Bool) → List Raw → List Place
places_in wrap fold items = block_place (writtens items) ∷ placed_where wrap (lowered_in fold items) (core_places (plans_in items))

-- their parts; whether Externals stand in Ifs, whether constants are folded, whether 0, 1 and all ones have a byte of
-- their own, and whether names are shortened, is the caller's choice
abbrev pub parts_in : (wrap fold short shorten : Bool) → List Raw → List (List ℕ)
parts_in wrap fold short shorten items = table_parts (fields_in items) short (spelled_in wrap fold shorten items)

-- the pieces of a source's table, with the texts of these lines
abbrev pub pieces_in : List Line → (wrap fold short shorten : Bool) → List Raw → List Piece
pieces_in lines wrap fold short shorten items = pieces_with lines (places_in wrap fold items) (parts_in wrap fold short shorten items)

-- a source's pieces, whose bytes, one after another, are its table
pub record ArePiecesOf (lines : List Line) (wrap fold short shorten : Bool) (items : List Raw) (pieces : List Piece) : Type 0 where
  pub are : pieces ≡ pieces_in lines wrap fold short shorten items
  pub joined : joined_pieces pieces ≡ table_in wrap fold short shorten items
