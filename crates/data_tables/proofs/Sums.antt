-- Lengths and sums of joined bytes.
use Rattle.std.proofs.Common.{◌≡◌, ℕ, ◌+◌, ◌%◌, ◌<◌, ◌≤◌, zero, suc, List, [], ◌∷◌, ◌++◌, length, take, get_or, refl, sym, ap, ◌∙◌, arith, length-append, append_assoc}
use Rattle.std.specs.Prelude.{sum}
use Rattle.std.proofs.lemmas.List.Sums.{sum_by-append}
use Rattle.std.proofs.lemmas.List.{take_more, append-nil}
use Rattle.iasl_messages.specs.declared.place.Piece.{Piece}
use Rattle.data_tables.specs.Compiling.{joined}

pub joined-append : (ps qs : List Piece) → joined (ps ++ qs) ≡ joined ps ++ joined qs
joined-append [] qs = refl
joined-append (p ∷ ps) qs = ap (λ (bs : List ℕ). p.bytes ++ bs) (joined-append ps qs) ∙ sym (append_assoc p.bytes (joined ps) (joined qs))

pub sum-append : (xs ys : List ℕ) → sum (xs ++ ys) ≡ sum xs + sum ys
sum-append xs ys = sum_by-append (λ (x : ℕ). x) xs ys

pub joined_more : (ps : List Piece) (i : ℕ) (d : Piece) → i < length ps → d ≡ get_or ps i d → joined (take (i + 1) ps) ≡ joined (take i ps) ++ d.bytes
joined_more ps i d lt e =
    ap joined (take_more ps i d lt) ∙ joined-append (take i ps) (get_or ps i d ∷ []) ∙ ap (λ bs. joined (take i ps) ++ bs) (append-nil (get_or ps i d).bytes)
    ∙ ap (λ (p : Piece). joined (take i ps) ++ p.bytes) (sym e)

pub sum_more : (ps : List Piece) (i : ℕ) (d : Piece) → i < length ps → d ≡ get_or ps i d → sum (joined (take (i + 1) ps)) ≡ sum (joined (take i ps)) + sum d.bytes
sum_more ps i d lt e = ap sum (joined_more ps i d lt e) ∙ sum-append (joined (take i ps)) d.bytes

pub length_more : (ps : List Piece) (i : ℕ) (d : Piece) → i < length ps → d ≡ get_or ps i d → length (joined (take (i + 1) ps)) ≡ length (joined (take i ps)) + length d.bytes
length_more ps i d lt e = ap length (joined_more ps i d lt e) ∙ length-append (joined (take i ps)) d.bytes

pub next_sum : (ps : List Piece) (i : ℕ) (d : Piece) (total here : ℕ) → i < length ps → d ≡ get_or ps i d → total ≡ sum (joined (take i ps)) % 256 → here ≡ sum d.bytes % 256 → (total + here) % 256 ≡ sum (joined (take (i + 1) ps)) % 256
next_sum ps i d total here lt e before is = let more = sum_more ps i d lt e in omega (arith, more, before, is)

-- some first pieces have no more bytes than all
pub first_bytes : (ps : List Piece) (i : ℕ) → length (joined (take i ps)) ≤ length (joined ps)
first_bytes [] zero = omega arith
first_bytes [] (suc i) = omega arith
first_bytes (p ∷ ps) zero = omega arith
first_bytes (p ∷ ps) (suc i) = omega (arith, first_bytes ps i, length-append p.bytes (joined (take i ps)), length-append p.bytes (joined ps))
