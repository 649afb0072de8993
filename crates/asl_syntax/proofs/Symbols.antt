-- No symbol is empty, and none is longer than three characters.
use Rattle.std.proofs.Common.{◌≡◌, ℕ, ◌≤◌, ◌<◌, List, [], ◌∷◌, length, None, refl, arith}
use Rattle.asl_syntax.specs.Signs.{sign_of}

pub none_empty : (text : List ℕ) → length text < 1 → sign_of text ≡ None
unfolding sign_of
none_empty [] h = refl
none_empty (a ∷ text) h = absurd (omega arith)

pub none_long : (text : List ℕ) → 4 ≤ length text → sign_of text ≡ None
unfolding sign_of
none_long [] h = absurd (omega arith)
none_long (a ∷ []) h = absurd (omega arith)
none_long (a ∷ b ∷ []) h = absurd (omega arith)
none_long (a ∷ b ∷ c ∷ []) h = absurd (omega arith)
none_long (a ∷ b ∷ c ∷ d ∷ text) h = refl
