-- A piece whose bytes are replaced.
use Rattle.std.proofs.Common.{◌≡◌, ◌<◌, ◌≤◌, ℕ, zero, suc, List, [], ◌∷◌, length, set, get_or, refl, ap, arith}
use Rattle.iasl_messages.specs.declared.place.Piece.{Piece}
use Rattle.data_tables.specs.Compiling.{put_at}

pub put_set : (ps : List Piece) (n : ℕ) (d : Piece) (bytes : List ℕ) → n < length ps → d ≡ get_or ps n d → set ps n (record { place = d.place; source = d.source; bytes = bytes }) ≡ put_at n bytes ps
put_set [] n d bytes h e = absurd (omega arith)
put_set (p ∷ ps) zero d bytes h e =
    ap (λ (q : Piece). record { place = q.place; source = q.source; bytes = bytes } ∷ ps) e
put_set (p ∷ ps) (suc n) d bytes h e = ap (λ (qs : List Piece). p ∷ qs) (put_set ps n d bytes (omega arith) e)

pub put_past : (ps : List Piece) (n : ℕ) (bytes : List ℕ) → length ps ≤ n → ps ≡ put_at n bytes ps
put_past [] n bytes h = refl
put_past (p ∷ ps) zero bytes h = absurd (omega arith)
put_past (p ∷ ps) (suc n) bytes h = ap (λ (qs : List Piece). p ∷ qs) (put_past ps n bytes (omega arith))
