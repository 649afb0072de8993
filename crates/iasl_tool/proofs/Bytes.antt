-- The bytes of pieces, one after another, by the words of each crate.
use Rattle.std.proofs.Common.{◌≡◌, ℕ, ◌+◌, ◌<◌, ◌≤◌, zero, suc, List, [], ◌∷◌, ◌++◌, length, take, get_or, refl, ap, ◌∙◌, arith, length-append}
use Rattle.std.proofs.lemmas.List.{take_more}
use Rattle.iasl_messages.specs.declared.place.Piece.{Piece}
use Rattle.iasl_backends.specs.Table.{table_bytes}
use Rattle.iasl_backends.proofs.Steps.{table_bytes_push}
use Rattle.aml_sizes.specs.Pieces.{joined_pieces}
use Rattle.data_tables.specs.Compiling.{joined}

pub as_joined_pieces : (pieces : List Piece) → table_bytes pieces ≡ joined_pieces pieces
as_joined_pieces [] = refl
as_joined_pieces (piece ∷ pieces) = ap (λ bs. piece.bytes ++ bs) (as_joined_pieces pieces)

pub as_joined : (pieces : List Piece) → table_bytes pieces ≡ joined pieces
as_joined [] = refl
as_joined (piece ∷ pieces) = ap (λ bs. piece.bytes ++ bs) (as_joined pieces)

-- a piece more
pub length_more : (pieces : List Piece) (i : ℕ) (d : Piece) → i < length pieces → length (table_bytes (take (i + 1) pieces)) ≡ length (table_bytes (take i pieces)) + length (get_or pieces i d).bytes
length_more pieces i d lt = ap length (ap table_bytes (take_more pieces i d lt) ∙ table_bytes_push (take i pieces) (get_or pieces i d)) ∙ length-append (table_bytes (take i pieces)) (get_or pieces i d).bytes

-- some first pieces have no more bytes than all
pub first_bytes : (pieces : List Piece) (i : ℕ) → length (table_bytes (take i pieces)) ≤ length (table_bytes pieces)
first_bytes [] zero = omega arith
first_bytes [] (suc i) = omega arith
first_bytes (p ∷ ps) zero = omega arith
first_bytes (p ∷ ps) (suc i) = omega (arith, first_bytes ps i, length-append p.bytes (table_bytes (take i ps)), length-append p.bytes (table_bytes ps))
