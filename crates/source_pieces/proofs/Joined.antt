-- The pieces of a source, one after another, are its table.
use Rattle.std.proofs.Common.{◌≡◌, ℕ, suc, Bool, List, [], ◌∷◌, ◌++◌, length, refl, sym, ap, ◌∙◌, arith}
use Rattle.iasl_messages.specs.declared.place.Place.{Place}
use Rattle.iasl_messages.specs.declared.place.Line.{Line}
use Rattle.iasl_messages.specs.declared.place.Piece.{Piece}
use Rattle.asl_syntax.specs.declared.raw.Raw.{Raw}
use Rattle.asl_syntax.specs.Written.{writtens}
use Rattle.asl_shape.specs.Forms.{errors_at}
use Rattle.program_shapes.specs.Kept.{IsKeptSource}
use Rattle.program_shapes.specs.Sources.{plans_in, statements_in, fields_in, width_in, described_in, spelled_in, table_in}
use Rattle.program_shapes.proofs.Tables.{terms_are_formed, terms_are_near}
use Rattle.aml_sizes.specs.Pieces.{joined_pieces}
use Rattle.aml_writer.specs.Cuts.{pieces_with, ArePieces}
use Rattle.aml_writer.proofs.Cuts.{joined_parts, parts_are}
use Rattle.source_pieces.specs.Pieces.{places_in, parts_in, pieces_in, ArePiecesOf}
use Rattle.source_pieces.proofs.Counts.{cut_counts, core_count}

-- where there are as many places as parts, nothing is lost
with_places : (lines : List Line) (places : List Place) (parts : List (List ℕ)) → length places ≡ length parts → joined_pieces (pieces_with lines places parts) ≡ joined_parts parts
with_places lines [] [] e = refl
with_places lines [] (part ∷ parts) e = absurd (omega (arith, e))
with_places lines (place ∷ places) [] e = absurd (omega (arith, e))
with_places lines (place ∷ places) (part ∷ parts) e = ap (λ bs. part ++ bs) (with_places lines places parts (omega (arith, e)))

-- with as many places as parts
joined_with : (lines : List Line) (wrap fold short shorten : Bool) (items : List Raw) → length (places_in wrap fold items) ≡ length (parts_in wrap fold short shorten items) → joined_pieces (pieces_in lines wrap fold short shorten items) ≡ table_in wrap fold short shorten items
joined_with lines wrap fold short shorten items e =
    with_places lines (places_in wrap fold items) (parts_in wrap fold short shorten items) e ∙ parts_are (fields_in items) short (spelled_in wrap fold shorten items)

-- pieces that have the places and the bytes of a source's, one for one
pub are_pieces_of : (lines : List Line) (wrap fold short shorten : Bool) (items : List Raw) (pieces : List Piece) → ArePieces lines (places_in wrap fold items) (parts_in wrap fold short shorten items) pieces → ArePiecesOf lines wrap fold short shorten items pieces
are_pieces_of lines wrap fold short shorten items pieces h = record {
  are = h.are;
  joined = ap joined_pieces h.are ∙ joined_with lines wrap fold short shorten items h.as_many;
}

-- as many places as parts where nothing is wrong with a source's form and its statements
as_many : (wrap fold short shorten : Bool) (items : List Raw) → errors_at items ≡ [] → statements_in items ≡ [] → IsKeptSource (writtens items) → length (places_in wrap fold items) ≡ length (parts_in wrap fold short shorten items)
as_many wrap fold short shorten items e s kept =
    let width = width_in items in
    ap suc (sym (cut_counts width short (spelled_in wrap fold shorten items) ∙ core_count shorten (described_in items) wrap fold width (plans_in items) (terms_are_formed items e kept) (terms_are_near items s)))

-- the pieces of a source with whose form and statements nothing is wrong, one after another, are its table
pub joined_is_table : (lines : List Line) (wrap fold short shorten : Bool) (items : List Raw) → errors_at items ≡ [] → statements_in items ≡ [] → IsKeptSource (writtens items) → joined_pieces (pieces_in lines wrap fold short shorten items) ≡ table_in wrap fold short shorten items
joined_is_table lines wrap fold short shorten items e s kept = joined_with lines wrap fold short shorten items (as_many wrap fold short shorten items e s kept)
