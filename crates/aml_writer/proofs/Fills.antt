-- Pieces that get their bytes in the room for them.
use Rattle.std.proofs.Common.{◌≡◌, ℕ, suc, ◌+◌, ◌-◌, ◌<◌, Bool, true, false, List, [], ◌∷◌, ◌++◌, length, take, drop, set, get_or, map, refl, sym, ap, ◌∙◌, subst, arith, append_assoc, length-append, length-drop}
use Rattle.std.specs.Prelude.{sum}
use Rattle.std.proofs.lemmas.List.{append-nil, map-append, drop-set, map-set, set-get_or, take_at, take_all}
use Rattle.iasl_messages.specs.declared.place.Place.{Place}
use Rattle.iasl_messages.specs.declared.place.Line.{Line}
use Rattle.iasl_messages.specs.declared.place.Piece.{Piece}
use Rattle.term_places.specs.Places.{holds_terms}
use Rattle.asl_tree.specs.declared.term.Node.{Node}
use Rattle.asl_tree.specs.declared.term.Term.{Term}
use Rattle.asl_tree.specs.declared.term.Term as D
use Rattle.asl_tree.specs.declared.program.Block.{Block}
use Rattle.aml_sizes.specs.declared.style.IntegerStyle.{IntegerStyle}
use Rattle.aml_code.specs.Header.{header_length, header_with, checksum_of, fields_of}
use Rattle.aml_sizes.specs.Codes.{letters_of}
use Rattle.aml_sizes.specs.TermBytes.{term_bytes, row_bytes}
use Rattle.aml_sizes.specs.TermLists.{own_head, row_terms, row_later, terms_bytes, later_of}
use Rattle.aml_sizes.specs.Pieces.{joined_pieces, form_pieces, term_pieces, row_pieces, nodes_pieces, table_pieces}
use Rattle.aml_sizes.specs.Rooms.{blank, size_of, blanks}
use Rattle.aml_writer.specs.Fills.{bytes_of, with_bytes, filled, joined_parts, EndsIn, Fills}
use Rattle.aml_writer.proofs.Sums.{sum-append}

-- what stands from a place on
pub tail_is : (n n' : ℕ) (xs ys : List Piece) → n ≡ n' → xs ≡ ys → take (length xs - n) (drop n xs) ≡ drop n' ys
tail_is n n' xs ys en ex = take_all (length xs - n) (drop n xs) (omega (arith, length-drop n xs)) ∙ ap (λ k. drop k xs) en ∙ ap (drop n') ex

-- the front of a list whose last element is told apart
snoc_front : {X : Type 0} (xs ys : List X) (a b : X) → xs ++ a ∷ [] ≡ ys ++ b ∷ [] → xs ≡ ys
snoc_front xs ys a b e =
    let l1 = length-append xs (a ∷ []) in
    let l2 = length-append ys (b ∷ []) in
    let same : length ys ≡ length xs = omega (arith, l1, l2, ap length e) in
    sym (take_at xs (a ∷ []) (length xs) refl) ∙ ap (take (length xs)) e ∙ take_at ys (b ∷ []) (length xs) same

-- none is put in
pub none_filled : (spaces : List ℕ) (pieces : List Piece) → Fills [] spaces spaces pieces pieces
none_filled spaces pieces = record { left = λ rest e. e ∙ append-nil rest; full = refl; blanks = refl }

-- one is put in
pub one_filled : (part : List ℕ) (spaces spaces' : List ℕ) (space : ℕ) (pieces pieces' : List Piece) (d : Piece) → spaces ≡ spaces' ++ space ∷ [] → length spaces' < length pieces → pieces' ≡ set pieces (length spaces') (with_bytes (get_or pieces (length spaces') d) part) → Fills (part ∷ []) spaces spaces' pieces pieces'
one_filled part spaces spaces' space pieces pieces' d e lt is =
    let n = length spaces' in
    let more : length spaces ≡ n + 1 = ap length e ∙ length-append spaces' (space ∷ []) in
    record {
      left = λ rest h. snoc_front spaces' rest space (length part) (sym e ∙ h);
      full = ap (λ ps. map bytes_of (drop n ps)) is ∙ ap (map bytes_of) (drop-set pieces n (with_bytes (get_or pieces n d) part) lt) ∙ ap (λ k. part ∷ map bytes_of (drop k pieces)) (sym more);
      blanks = ap (map blank) is ∙ map-set blank pieces n (with_bytes (get_or pieces n d) part) ∙ sym (map-set blank pieces n (get_or pieces n d)) ∙ ap (map blank) (set-get_or pieces n d);
    }

nowhere : Piece
nowhere = record { place = record { file = 0; line = 0; column = 0 }; source = []; bytes = [] }

-- the same by what is known of its calls
pub one_put : (part bytes spaces spaces' spaces'' : List ℕ) (space : ℕ) (pieces between pieces' : List Piece) → spaces ≡ spaces' ++ space ∷ [] → between ≡ pieces → spaces'' ≡ spaces' → length spaces' < length between → bytes ≡ part → ((d : Piece) → pieces' ≡ set between (length spaces') (with_bytes (get_or between (length spaces') d) bytes)) → Fills (part ∷ []) spaces spaces'' pieces pieces'
one_put part bytes spaces spaces' spaces'' space pieces between pieces' e ep es lt eb is =
    let put : Fills (part ∷ []) spaces spaces' between pieces' =
    one_filled part spaces spaces' space between pieces' nowhere e lt (is nowhere ∙ ap (λ bs. set between (length spaces') (with_bytes (get_or between (length spaces') nowhere) bs)) eb) in
    subst (λ s. Fills (part ∷ []) spaces s pieces pieces') (sym es) (subst (λ ps. Fills (part ∷ []) spaces spaces' ps pieces') ep put)

parts_append : (front bs : List (List ℕ)) → map length (front ++ bs) ≡ map length front ++ map length bs
parts_append front bs = map-append length front bs

-- the last rooms of some parts
pub ends_last : (front bs : List (List ℕ)) (spaces : List ℕ) → EndsIn spaces (front ++ bs) → EndsIn spaces bs
ends_last front bs spaces h = record {
  rest = h.rest ++ map length front;
  is = h.is ∙ ap (λ ns. h.rest ++ ns) (parts_append front bs) ∙ sym (append_assoc h.rest (map length front) (map length bs));
}

pub ends_first : (front bs : List (List ℕ)) (spaces spaces' : List ℕ) (pieces pieces' : List Piece) → EndsIn spaces (front ++ bs) → Fills bs spaces spaces' pieces pieces' → EndsIn spaces' front
unfolding ends_last
ends_first front bs spaces spaces' pieces pieces' h put = record { rest = h.rest; is = put.left (h.rest ++ map length front) (ends_last front bs spaces h).is }

-- the last parts are put in, and then those before them
pub both_filled : (front bs : List (List ℕ)) (s t u : List ℕ) (p q r : List Piece) → Fills bs s t p q → Fills front t u q r → Fills (front ++ bs) s u p r
both_filled front bs s t u p q r first second = record {
  left = λ rest e. second.left rest (first.left (rest ++ map length front) (e ∙ ap (λ ns. rest ++ ns) (parts_append front bs) ∙ sym (append_assoc rest (map length front) (map length bs))));
  full = second.full ∙ ap (λ xs. front ++ xs) first.full ∙ sym (append_assoc front bs (map bytes_of (drop (length s) p)));
  blanks = second.blanks ∙ first.blanks;
}

-- pieces by what they have without bytes, and by their bytes
blank_cons : (p q : Piece) (ps qs : List Piece) → blank p ∷ ps ≡ blank q ∷ qs → (bytes : List ℕ) → with_bytes p bytes ≡ with_bytes q bytes
blank_cons p q ps qs e bytes = ap (λ (xs : List Piece). with_bytes (get_or xs 0 (blank p)) bytes) e

pub filled_is : (ps qs : List Piece) → map blank ps ≡ map blank qs → ps ≡ filled qs (map bytes_of ps)
filled_is [] [] e = refl
filled_is [] (q ∷ qs) e = absurd (let l : 0 ≡ suc (length (map blank qs)) = ap length e in omega (arith, l))
filled_is (p ∷ ps) [] e = absurd (let l : suc (length (map blank ps)) ≡ 0 = ap length e in omega (arith, l))
filled_is (p ∷ ps) (q ∷ qs) e =
    ap (λ x. x ∷ ps) (blank_cons p q (map blank ps) (map blank qs) e p.bytes)
    ∙ ap (λ xs. with_bytes q p.bytes ∷ xs) (filled_is ps qs (ap (drop 1) e))

pub blank_filled : (ps : List Piece) → filled (map blank ps) (map bytes_of ps) ≡ ps
blank_filled [] = refl
blank_filled (p ∷ ps) = ap (λ xs. p ∷ xs) (blank_filled ps)

pub parts_sizes : (ps : List Piece) → map length (map bytes_of ps) ≡ map size_of ps
parts_sizes [] = refl
parts_sizes (p ∷ ps) = ap (λ ns. length p.bytes ∷ ns) (parts_sizes ps)

pub parts_joined : (ps : List Piece) → joined_parts (map bytes_of ps) ≡ joined_pieces ps
parts_joined [] = refl
parts_joined (p ∷ ps) = ap (λ bs. p.bytes ++ bs) (parts_joined ps)

pub sum_sizes : (ps : List Piece) → sum (map size_of ps) ≡ length (joined_pieces ps)
sum_sizes [] = refl
sum_sizes (p ∷ ps) =
    let one : sum (map size_of (p ∷ ps)) ≡ (0 + length p.bytes) + sum (map size_of ps) = sum-append (length p.bytes ∷ []) (map size_of ps) in
    let l : length (joined_pieces (p ∷ ps)) ≡ length p.bytes + length (joined_pieces ps) = length-append p.bytes (joined_pieces ps) in
    let rest = sum_sizes ps in
    omega (arith, one, l, rest)

-- the bytes of pieces rest on no line
module _ (style : IntegerStyle) (lines lines' : List Line) where
  form_alike : (c : Bool) (place : Place) (head whole : List ℕ) (inner inner' : List Piece) → map bytes_of inner ≡ map bytes_of inner' → map bytes_of (form_pieces style lines c place head whole inner) ≡ map bytes_of (form_pieces style lines' c place head whole inner')
  form_alike true place head whole inner inner' e = ap (λ xs. head ∷ xs) e
  form_alike false place head whole inner inner' e = refl

  mutual
    unfolding term_pieces

    term_alike : (later : ℕ) (place : Place) (t : Term) → map bytes_of (term_pieces style lines later place t) ≡ map bytes_of (term_pieces style lines' later place t)
    term_alike later place (D.Form' op shape args shape' body) =
        form_alike (holds_terms op) place (own_head op (row_bytes style (letters_of op) args) (length (row_terms style body)) later) (term_bytes style (D.Form' op shape args shape' body)) (row_pieces style lines body) (row_pieces style lines' body) (row_alike body)
    term_alike later place _ = refl

    row_alike : {m : _} (row : D.Row_of-Node m) → map bytes_of (row_pieces style lines row) ≡ map bytes_of (row_pieces style lines' row)
    row_alike D.end_of-Node = refl
    row_alike (D.more_of-Node id place term rest) =
        map-append bytes_of (term_pieces style lines (row_later style rest) place term) (row_pieces style lines rest)
        ∙ ap (λ xs. xs ++ map bytes_of (row_pieces style lines rest)) (term_alike (row_later style rest) place term)
        ∙ ap (λ xs. map bytes_of (term_pieces style lines' (row_later style rest) place term) ++ xs) (row_alike rest)
        ∙ sym (map-append bytes_of (term_pieces style lines' (row_later style rest) place term) (row_pieces style lines' rest))

  pub nodes_alike : (ns : List Node) → map bytes_of (nodes_pieces style lines ns) ≡ map bytes_of (nodes_pieces style lines' ns)
  unfolding nodes_pieces
  nodes_alike [] = refl
  nodes_alike (n ∷ ns) =
      map-append bytes_of (term_pieces style lines (later_of style ns) n.place n.term) (nodes_pieces style lines ns)
      ∙ ap (λ xs. xs ++ map bytes_of (nodes_pieces style lines ns)) (term_alike (later_of style ns) n.place n.term)
      ∙ ap (λ xs. map bytes_of (term_pieces style lines' (later_of style ns) n.place n.term) ++ xs) (nodes_alike ns)
      ∙ sym (map-append bytes_of (term_pieces style lines' (later_of style ns) n.place n.term) (nodes_pieces style lines' ns))

  pub table_alike : (block : Block) → map bytes_of (table_pieces style lines block) ≡ map bytes_of (table_pieces style lines' block)
  table_alike block =
      let content = terms_bytes style block.terms.items in
      let size = header_length + length content in
      ap (λ parts. header_with (fields_of block) size (checksum_of (header_with (fields_of block) size 0 ++ content)) ∷ parts) (nodes_alike block.terms.items)

  pub table_sizes_alike : (block : Block) → map size_of (table_pieces style lines block) ≡ map size_of (table_pieces style lines' block)
  table_sizes_alike block = sym (parts_sizes (table_pieces style lines block)) ∙ ap (map length) (table_alike block) ∙ parts_sizes (table_pieces style lines' block)
