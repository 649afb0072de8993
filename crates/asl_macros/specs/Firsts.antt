-- The first bytes of the names that have a text.
use Rattle.std.specs.Prelude.{◌≡◌, ℕ, false, true, List, ◌∷◌, Bool, get_or, None, Vec}
use Rattle.std.specs.declared.alloc.Global.{Global}
use Rattle.std.specs.Str.{bytes_eq}
use Rattle.std.specs.HashMap.{HashMap, get_by}

-- no name has a text that begins with a byte which is not marked
abbrev pub AreMarked : {S : Type 0} → List Bool → HashMap (Vec ℕ Global) (Vec ℕ Global) S → Type 0
AreMarked marks table = (b : ℕ) (bs : List ℕ) → get_or marks b false ≡ false → get_by (λ key. bytes_eq (b ∷ bs) key.items) table ≡ None

-- the marks that there were, and that of a name's first byte
pub record Marks (old new : List Bool) (name : List ℕ) : Type 0 where
  pub kept : (b : ℕ) → get_or old b false ≡ true → get_or new b false ≡ true
  pub first : (b : ℕ) (bs : List ℕ) → name ≡ b ∷ bs → get_or new b false ≡ true
