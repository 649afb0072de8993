-- One more piece, and one more row.
use Rattle.std.proofs.Common.{◌≡◌, ℕ, ◌+◌, ◌<◌, ◌-◌, ◌/◌, List, [], ◌∷◌, ◌++◌, length, take, drop, refl, sym, ap, ◌∙◌, append_assoc, arith, suc}
use Rattle.std.specs.Simd.{first_chunks}
use Rattle.std.proofs.lemmas.List.{append-nil, length-take, length-drop, length-append}
use Rattle.iasl_messages.specs.declared.place.Piece.{Piece}
use Rattle.std.specs.List.{flat_map}
use Rattle.iasl_backends.specs.Table.{table_bytes, rows}
use Rattle.iasl_backends.specs.CText.{c_row}
use Rattle.iasl_backends.specs.Listing.{listed_row, listed_rows, listed_piece, listed_pieces}
use Rattle.iasl_backends.specs.Lines.{piece_lines}

table_bytes-append : (ps qs : List Piece) → table_bytes (ps ++ qs) ≡ table_bytes ps ++ table_bytes qs
table_bytes-append [] qs = refl
table_bytes-append (p ∷ ps) qs = ap (λ bs. p.bytes ++ bs) (table_bytes-append ps qs) ∙ sym (append_assoc p.bytes (table_bytes ps) (table_bytes qs))

-- the bytes with those of one more piece
pub table_bytes_push : (ps : List Piece) (p : Piece) → table_bytes (ps ++ p ∷ []) ≡ table_bytes ps ++ p.bytes
table_bytes_push ps p = table_bytes-append ps (p ∷ []) ∙ ap (λ bs. table_bytes ps ++ bs) (append-nil p.bytes)

-- the listing with one more piece
listed_pieces_push : (at : ℕ) (ps : List Piece) (p : Piece) → listed_pieces at (ps ++ p ∷ []) ≡ listed_pieces at ps ++ listed_piece (at + length (table_bytes ps)) p
listed_pieces_push at [] p = append-nil (listed_piece at p) ∙ ap (λ k. listed_piece k p) (omega arith)
listed_pieces_push at (q ∷ ps) p =
    ap (λ bs. listed_piece at q ++ bs) (listed_pieces_push (at + length q.bytes) ps p)
    ∙ sym (append_assoc (listed_piece at q) (listed_pieces (at + length q.bytes) ps) (listed_piece (at + length q.bytes + length (table_bytes ps)) p))
    ∙ ap (λ k. (listed_piece at q ++ listed_pieces (at + length q.bytes) ps) ++ listed_piece k p) (let e = length-append q.bytes (table_bytes ps) in omega (arith, e))

-- the listing from the start of a table with one more piece
pub listing_push : (ps : List Piece) (p : Piece) → listed_pieces 0 (ps ++ p ∷ []) ≡ listed_pieces 0 ps ++ listed_piece (length (table_bytes ps)) p
listing_push ps p = listed_pieces_push 0 ps p ∙ ap (λ k. listed_pieces 0 ps ++ listed_piece k p) (omega arith)

pub table_size_push : (ps : List Piece) (p : Piece) → length (table_bytes (ps ++ p ∷ [])) ≡ length (table_bytes ps) + length p.bytes
table_size_push ps p = ap length (table_bytes_push ps p) ∙ length-append (table_bytes ps) p.bytes

-- the lines with that of one more piece
pub piece_lines_push : (ps : List Piece) (p : Piece) → piece_lines (ps ++ p ∷ []) ≡ piece_lines ps ++ (p.source ++ 10 ∷ [])
piece_lines_push [] p = refl
piece_lines_push (q ∷ ps) p = ap (λ bs. q.source ++ 10 ∷ bs) (piece_lines_push ps p) ∙ sym (append_assoc q.source (10 ∷ piece_lines ps) (p.source ++ 10 ∷ []))

chunk_more : {X : Type 0} (n k j : ℕ) (xs : List X) → k ≡ suc j → first_chunks n k xs ≡ take n xs ∷ first_chunks n j (drop n xs)
chunk_more n k j xs e = ap (λ m. first_chunks n m xs) e

-- the first row of bytes, of which there are some, and the others
pub eight_more : (xs : List ℕ) → 0 < length xs → rows 8 xs ≡ take 8 xs ∷ rows 8 (drop 8 xs)
eight_more xs some = let e = length-drop 8 xs in chunk_more 8 ((length xs + 8 - 1) / 8) ((length (drop 8 xs) + 8 - 1) / 8) xs (omega (arith, e, some))

pub sixteen_more : (xs : List ℕ) → 0 < length xs → rows 16 xs ≡ take 16 xs ∷ rows 16 (drop 16 xs)
sixteen_more xs some = let e = length-drop 16 xs in chunk_more 16 ((length xs + 16 - 1) / 16) ((length (drop 16 xs) + 16 - 1) / 16) xs (omega (arith, e, some))

-- what was put, and what is still to come
put_next : (out out' first rest rest' all : List ℕ) → rest ≡ first ++ rest' → out' ≡ out ++ first → out ++ rest ≡ all → out' ++ rest' ≡ all
put_next out out' first rest rest' all split put before =
    ap (λ bs. bs ++ rest') put ∙ append_assoc out first rest' ∙ ap (λ bs. out ++ bs) (sym split) ∙ before

-- one more row of the array
pub c_row_next : (out out' xs all : List ℕ) → 0 < length xs → out' ≡ out ++ c_row (take 8 xs) → out ++ flat_map c_row (rows 8 xs) ≡ all → out' ++ flat_map c_row (rows 8 (drop 8 xs)) ≡ all
c_row_next out out' xs all some put before =
    put_next out out' (c_row (take 8 xs)) (flat_map c_row (rows 8 xs)) (flat_map c_row (rows 8 (drop 8 xs))) all (ap (flat_map c_row) (eight_more xs some)) put before

-- one more row of the listing
pub listed_row_next : (at : ℕ) (out out' xs all : List ℕ) → 0 < length xs → out' ≡ out ++ listed_row at (take 16 xs) → out ++ listed_rows at (rows 16 xs) ≡ all → out' ++ listed_rows (at + length (take 16 xs)) (rows 16 (drop 16 xs)) ≡ all
listed_row_next at out out' xs all some put before =
    put_next out out' (listed_row at (take 16 xs)) (listed_rows at (rows 16 xs)) (listed_rows (at + length (take 16 xs)) (rows 16 (drop 16 xs))) all
    (ap (listed_rows at) (sixteen_more xs some)) put before

-- a row and the others have as many bytes as all
pub row_room : (at n : ℕ) (xs : List ℕ) → at + length xs < n → at + length (take 16 xs) + length (drop 16 xs) < n
row_room at n xs room = let t = length-take 16 xs in let d = length-drop 16 xs in omega (arith, t, d, room)
