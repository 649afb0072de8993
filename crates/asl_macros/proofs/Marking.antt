-- The first bytes of names stay marked.
use Rattle.std.proofs.Common.{◌≡◌, ℕ, ◌<◌, Bool, true, false, cond, List, ◌∷◌, length, get_or, Option, None, Result, Ok, Err, refl, sym, ap, subst, ◌∙◌, Global, Vec, arith}
use Rattle.std.specs.Prelude.{OnOk, OnErr, ◌==◌}
use Rattle.std.specs.Str.{bytes_eq}
use Rattle.std.specs.HashMap.{HashMap, UpdatesBy, IsUnchanged}
use Rattle.std.specs.Map.{lookup}
use Rattle.std.specs.Cmp.Lexicographic.{bytes_decides}
use Rattle.std.proofs.Math.ListN.{set}
use Rattle.std.proofs.lemmas.Bool.{eqb-true}
use Rattle.std.proofs.lemmas.List.{get_or-set_same, get_or-set_other}
use Rattle.asl_macros.specs.Firsts.{AreMarked, Marks}
use Rattle.asl_macros.proofs.TableLaws.{value_at, updates}

one_marked : (old : List Bool) (f b : ℕ) → f < length old → (b == f) ≡ true → get_or (set old f true) b false ≡ true
one_marked old f b h e = subst (λ n. get_or (set old f true) n false ≡ true) (sym (eqb-true b f e)) (get_or-set_same old f true false h)

pub marks_set : (old : List Bool) (f : ℕ) (rest : List ℕ) → f < length old → Marks old (set old f true) (f ∷ rest)
marks_set old f rest h = record {
  kept = λ b e. by b (b == f) refl e;
  first = λ b bs e. subst (λ n. get_or (set old f true) n false ≡ true) (head e) (get_or-set_same old f true false h);
}
  where
    by : (b : ℕ) (t : Bool) → (b == f) ≡ t → get_or old b false ≡ true → get_or (set old f true) b false ≡ true
    by b true e h' = one_marked old f b h e
    by b false e h' = grind (arith, get_or-set_other)

    head : {b : ℕ} {bs : List ℕ} → (f ∷ rest) ≡ (b ∷ bs) → f ≡ b
    head e = cc

-- a name that is not marked is not the one that is marked now, nor was it marked
unmarked : (old new : List Bool) (name : List ℕ) → Marks old new name → (b : ℕ) → get_or new b false ≡ false → get_or old b false ≡ false
unmarked old new name m b e = by (get_or old b false) refl
  where
    by : (t : Bool) → get_or old b false ≡ t → t ≡ false
    by true h = let k = m.kept b h in cc
    by false h = refl

other_name : (old new : List Bool) (name : List ℕ) → Marks old new name → (b : ℕ) (bs : List ℕ) → get_or new b false ≡ false → bytes_eq name (b ∷ bs) ≡ false
other_name old new name m b bs e = by (bytes_eq name (b ∷ bs)) refl
  where
    by : (t : Bool) → bytes_eq name (b ∷ bs) ≡ t → t ≡ false
    by true h = let k = m.first b bs ((bytes_decides name (b ∷ bs)).0 h) in cc
    by false h = refl

-- a table with one more name, or the same
pub marked_more : {X : Type 0} {E : Type 0} {S : Type 0} (old new : List Bool) (m n : HashMap (Vec ℕ Global) (Vec ℕ Global) S) (name : Vec ℕ Global) (w : Option (Vec ℕ Global)) (r : Result X E)
    → Marks old new name.items → AreMarked old m → OnOk r (UpdatesBy (λ x y. bytes_eq x.items y.items) (λ other. bytes_eq name.items other.items) m n w) → OnErr r (IsUnchanged m n) → AreMarked new n
unfolding value_at
marked_more old new m n name w (Ok x) k are u same = λ b bs e.
    updates name.items m n w u (b ∷ bs) ∙ ap (λ t. cond t w (value_at m (b ∷ bs))) (other_name old new name.items k b bs e) ∙ are b bs (unmarked old new name.items k b e)
marked_more old new m n name w (Err y) k are u same = λ b bs e. ap (lookup (λ key. bytes_eq (b ∷ bs) key.items)) same ∙ are b bs (unmarked old new name.items k b e)

-- a table with one name less
pub marked_less : {S : Type 0} (marks : List Bool) (m n : HashMap (Vec ℕ Global) (Vec ℕ Global) S) (name : List ℕ)
    → AreMarked marks m → UpdatesBy (λ x y. bytes_eq x.items y.items) (λ other. bytes_eq name other.items) m n None → AreMarked marks n
unfolding value_at
marked_less marks m n name are u = λ b bs e.
    updates name m n None u (b ∷ bs) ∙ by (bytes_eq name (b ∷ bs)) (are b bs e)
  where
    by : {A : Type 0} {o : Option A} → (t : Bool) → o ≡ None → cond t None o ≡ None
    by true h = refl
    by false h = h
