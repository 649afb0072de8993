-- Names in a set, and the first of some names that is in use.
use Rattle.std.proofs.Common.{◌≡◌, ℕ, ◌+◌, ◌<◌, Bool, true, false, cond, List, [], ◌∷◌, ◌++◌, map, drop, take, length, get_or, Option, Some, refl, sym, ap, ◌∙◌}
use Rattle.std.specs.Prelude.{◌||◌}
use Rattle.std.specs.List.{list_any}
use Rattle.std.proofs.lemmas.Bool.Decides.{Decides-eqb}
use Rattle.std.proofs.lemmas.List.{drop_more}
use Rattle.std.proofs.lemmas.Slice.Eq.{slice_eq-Decides}
use Rattle.std.proofs.lemmas.List.Folds.{list_any-append, list_any_more}
use Rattle.iasl_ports.specs.Fetched.{same_name}
use Rattle.table_outputs.specs.Files.{is_fetched, first_in_use}

-- ---- one key more

one_alone : (a b : Bool) → (a || (b || false)) ≡ (a || b)
one_alone true b = refl
one_alone false true = refl
one_alone false false = refl

-- what is found already is not found more often
found_twice : (a b : Bool) → (b || a) ≡ ((b || a) || b)
found_twice true true = refl
found_twice true false = refl
found_twice false true = refl
found_twice false false = refl

behind : (a b q : Bool) → b ≡ (b || q) → (a || b) ≡ ((a || b) || q)
behind true b q e = refl
behind false b q e = e

module _ {K : Type 0} (shown : K → List ℕ) where
  -- whether a key shows the same name
  abbrev same : K → K → Bool
  same a b = same_name (shown a) (shown b)

  abbrev holds : List K → List ℕ → Bool
  holds keys name = list_any (λ key. same_name (shown key) name) keys

  -- a key that is there is not added
  kept : (key : K) (keys : List K) (name : List ℕ) → list_any (same key) keys ≡ true → holds keys name ≡ (holds keys name || same_name (shown key) name)
  kept key [] name e = absurd cc
  kept key (x ∷ xs) name e = by (same key x) refl e (kept key xs name)
    where
      by : (b : Bool) → same key x ≡ b → (b || list_any (same key) xs) ≡ true → (list_any (same key) xs ≡ true → holds xs name ≡ (holds xs name || same_name (shown key) name))
          → (same_name (shown x) name || holds xs name) ≡ ((same_name (shown x) name || holds xs name) || same_name (shown key) name)
      by true is h more =
          let e : shown key ≡ shown x = (slice_eq-Decides Decides-eqb (shown key) (shown x) _ refl).0 is in
          found_twice (holds xs name) (same_name (shown x) name) ∙ ap (λ n. (same_name (shown x) name || holds xs name) || same_name n name) (sym e)
      by false is h more = behind (same_name (shown x) name) (holds xs name) (same_name (shown key) name) (more h)

  added : (key : K) (keys : List K) (name : List ℕ) → holds (keys ++ key ∷ []) name ≡ (holds keys name || same_name (shown key) name)
  added key keys name = list_any-append (λ k. same_name (shown k) name) keys (key ∷ []) ∙ one_alone (holds keys name) (same_name (shown key) name)

  -- the keys with one more
  pub noted : (key : K) (keys : List K) (name : List ℕ) → holds (cond (list_any (same key) keys) keys (keys ++ key ∷ [])) name ≡ (holds keys name || same_name (shown key) name)
  noted key keys name = by (list_any (same key) keys) refl
    where
      by : (b : Bool) → list_any (same key) keys ≡ b → holds (cond b keys (keys ++ key ∷ [])) name ≡ (holds keys name || same_name (shown key) name)
      by true is = kept key keys name is
      by false is = added key keys name

-- ---- the names of files

module _ (files : List (List ℕ)) where
  -- one file more
  pub file_noted : (i : ℕ) (file : List ℕ) (old new : List ℕ → Bool) → i < length files → file ≡ get_or files i file → ((name : List ℕ) → new name ≡ (old name || same_name file name))
      → ((name : List ℕ) → old name ≡ is_fetched (take i files) name) → (name : List ℕ) → new name ≡ is_fetched (take (i + 1) files) name
  file_noted i file old new lt is more before name =
      more name ∙ ap (λ b. b || same_name file name) (before name) ∙ ap (λ f. is_fetched (take i files) name || same_name f name) is ∙ sym (list_any_more (λ file. same_name file name) files i file lt)

  -- ---- names from the last on

  module _ {X : Type 0} (shown : X → List ℕ) (names : List X) where
    -- whether a file has this name, or one of the names from one on
    abbrev pub met : ℕ → List ℕ → Bool
    met i name = is_fetched files name || list_any (λ other. same_name other name) (map shown (drop i names))

    -- the first name from one on that is in use
    abbrev pub first_from : ℕ → Option (List ℕ)
    first_from i = first_in_use files (map shown (drop i names))

    turned : (a b c : Bool) → ((a || b) || c) ≡ (a || (c || b))
    turned true b c = refl
    turned false true true = refl
    turned false true false = refl
    turned false false true = refl
    turned false false false = refl

    next : (i : ℕ) (x : X) → i < length names → x ≡ get_or names i x → drop i names ≡ x ∷ drop (i + 1) names
    next i x lt is = drop_more names i x lt ∙ ap (λ y. y ∷ drop (i + 1) names) (sym is)

    -- one name more, with those behind it
    pub name_noted : (i j : ℕ) (x : X) (old new : List ℕ → Bool) → j + 1 ≡ i → j < length names → x ≡ get_or names j x → ((name : List ℕ) → new name ≡ (old name || same_name (shown x) name))
        → ((name : List ℕ) → old name ≡ met i name) → (name : List ℕ) → new name ≡ met j name
    name_noted i j x old new step lt is more before name =
        more name ∙ ap (λ b. b || same_name (shown x) name) (before name ∙ ap (λ k. met k name) (sym step))
        ∙ turned (is_fetched files name) (list_any (λ other. same_name other name) (map shown (drop (j + 1) names))) (same_name (shown x) name)
        ∙ ap (λ xs. is_fetched files name || list_any (λ other. same_name other name) (map shown xs)) (sym (next j x lt is))

    by_next : (i j : ℕ) (x : X) (b : Bool) → j + 1 ≡ i → j < length names → x ≡ get_or names j x → met i (shown x) ≡ b → first_from j ≡ cond b (Some (shown x)) (first_from i)
    by_next i j x b step lt is e =
        ap (λ xs. first_in_use files (map shown xs)) (next j x lt is)
        ∙ ap (λ k. cond (met k (shown x)) (Some (shown x)) (first_from k)) step
        ∙ ap (λ b. cond b (Some (shown x)) (first_from i)) e

    -- it is in use, or not
    pub found_here : (i j : ℕ) (x : X) (c : Bool) (old : List ℕ → Bool) → j + 1 ≡ i → j < length names → x ≡ get_or names j x → c ≡ true → c ≡ old (shown x)
        → ((name : List ℕ) → old name ≡ met i name) → Some (shown x) ≡ first_from j
    found_here i j x c old step lt is holds e before = sym (by_next i j x true step lt is (sym (before (shown x)) ∙ sym e ∙ holds))

    pub passed_here : (i j : ℕ) (x : X) (c : Bool) (old : List ℕ → Bool) (found : Option (List ℕ)) → j + 1 ≡ i → j < length names → x ≡ get_or names j x → c ≡ false → c ≡ old (shown x)
        → ((name : List ℕ) → old name ≡ met i name) → found ≡ first_from i → found ≡ first_from j
    passed_here i j x c old found step lt is fails e before h = h ∙ sym (by_next i j x false step lt is (sym (before (shown x)) ∙ sym e ∙ fails))
