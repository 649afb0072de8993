-- The lines of the source that pieces come from.
use Rattle.std.specs.Prelude.{ℕ, List, [], ◌∷◌, ◌++◌}
use Rattle.iasl_messages.specs.declared.place.Piece.{Piece}

-- the line of each piece, with an LF (10) behind it
abbrev pub piece_lines : List Piece → List ℕ
piece_lines [] = []
piece_lines (piece ∷ pieces) = piece.source ++ 10 ∷ piece_lines pieces
