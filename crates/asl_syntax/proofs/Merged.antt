-- The levels of trees behind no tree.
use Rattle.std.proofs.Common.{◌≡◌, ℕ, ◌-◌, List, [], ◌∷◌, length, take, ◌∙◌, arith}
use Rattle.std.proofs.lemmas.List.{append-nil, take_all}
use Rattle.asl_syntax.specs.Grow.{merged}

pub merged_none : (xs ys : List ℕ) → length xs ≡ 0 → merged xs ys ≡ ys
unfolding merged
merged_none [] ys h = append-nil (take (length ys - 0) ys) ∙ take_all (length ys - 0) ys (omega arith)
merged_none (x ∷ xs) ys h = absurd (let e : length (x ∷ xs) ≡ 0 = h in omega (arith, e))
