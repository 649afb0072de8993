-- Pieces that are joined.
use Rattle.std.proofs.Common.{◌≡◌, List, [], ◌∷◌, ◌++◌, refl, sym, ap, ◌∙◌, append_assoc}
use Rattle.iasl_messages.specs.declared.place.Piece.{Piece}
use Rattle.aml_sizes.specs.Pieces.{joined_pieces}

pub joined_pieces-append : (xs ys : List Piece) → joined_pieces (xs ++ ys) ≡ joined_pieces xs ++ joined_pieces ys
joined_pieces-append [] ys = refl
joined_pieces-append (x ∷ xs) ys = ap (λ bs. x.bytes ++ bs) (joined_pieces-append xs ys) ∙ sym (append_assoc x.bytes (joined_pieces xs) (joined_pieces ys))
