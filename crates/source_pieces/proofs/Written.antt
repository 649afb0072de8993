-- The pieces that are written of a source's core are those of the source.
use Rattle.std.proofs.Common.{◌≡◌, ℕ, Bool, List, [], ◌∷◌, ap, ◌∙◌, subst}
use Rattle.iasl_messages.specs.declared.place.Place.{Place}
use Rattle.iasl_messages.specs.declared.place.Line.{Line}
use Rattle.iasl_messages.specs.declared.place.Piece.{Piece}
use Rattle.asl_tree.specs.declared.program.Block.{Block}
use Rattle.asl_tree.specs.Names.{Known}
use Rattle.asl_tree.specs.View.{trees_of}
use Rattle.term_places.specs.Places.{places_of}
use Rattle.aml_code.specs.Header.{fields_of}
use Rattle.aml_sessions.specs.Ready.{AreReady}
use Rattle.asl_syntax.specs.declared.raw.Raw.{Raw}
use Rattle.asl_syntax.specs.Written.{writtens}
use Rattle.term_plans.specs.Plans.{plans_of}
use Rattle.asl_shape.specs.Forms.{block_place}
use Rattle.wrapped_externals.specs.Starts.{placed_where}
use Rattle.program_shapes.specs.Sources.{plans_in, fields_in, lowered_in, spelled_in}
use Rattle.else_runs.specs.Runs.{nested_all}
use Rattle.aml_writer.specs.Cuts.{table_parts, ArePieces, IsCut}
use Rattle.source_pieces.specs.Places.{core_places}
use Rattle.source_pieces.specs.Pieces.{places_in, parts_in}

-- the same places and the same bytes
same_pieces : (lines : List Line) (places places' : List Place) (parts parts' : List (List ℕ)) (pieces : List Piece) → places ≡ places' → parts ≡ parts' → ArePieces lines places parts pieces → ArePieces lines places' parts' pieces
same_pieces lines places places' parts parts' pieces e f h = subst (λ ps. ArePieces lines places' ps pieces) f (subst (λ ps. ArePieces lines ps parts pieces) e h)

-- what is written of a core: a block in which loops stand for Switches, that was lowered, and whose names were spelled, stands where the source's block stands and has its
-- header, and its terms are ready
pub pieces_of_source : (known : Known) (wrap fold short shorten : Bool) (lines : List Line) (items : List Raw) (block core : Block) (pieces : List Piece) → IsCut lines core short pieces → AreReady ⊥ known (nested_all (trees_of core.terms.items)) []
    → block.place ≡ block_place (writtens items) → core.place ≡ block.place → fields_of core ≡ fields_in items → plans_of block.terms.items ≡ plans_in items → places_of core.terms.items ≡ placed_where wrap (lowered_in fold items) (core_places (plans_of block.terms.items))
    → trees_of core.terms.items ≡ spelled_in wrap fold shorten items → ArePieces lines (places_in wrap fold items) (parts_in wrap fold short shorten items) pieces
pieces_of_source known wrap fold short shorten lines items block core pieces cut ready at place fields plans places terms =
    same_pieces lines (core.place ∷ places_of core.terms.items) (places_in wrap fold items) (table_parts (fields_of core) short (trees_of core.terms.items)) (parts_in wrap fold short shorten items) pieces
    (ap (λ at. at ∷ places_of core.terms.items) (place ∙ at) ∙ ap (λ ps. block_place (writtens items) ∷ ps) (places ∙ ap (λ ps. placed_where wrap (lowered_in fold items) (core_places ps)) plans))
    (ap (λ fields. table_parts fields short (trees_of core.terms.items)) fields ∙ ap (table_parts (fields_in items) short) terms)
    (cut.cut known ready)
