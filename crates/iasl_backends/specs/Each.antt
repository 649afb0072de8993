-- Each member of a list went over to another in its place.
use Rattle.std.specs.Prelude.{◌≡◌, ℕ, ◌<◌, List, length, get_or}

-- as many members, and each stands in a relation to the one that was in its place
pub record Each {X : Type 0} (R : X → X → Type 0) (old now : List X) : Type 0 where
  pub same_len : length now ≡ length old
  pub at : (k : ℕ) (d : X) → k < length old → R (get_or old k d) (get_or now k d)
