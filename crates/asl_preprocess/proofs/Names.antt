-- The names of a set of vectors, as lists.
use Rattle.std.proofs.Common.{◌≡◌, ℕ, ◌+◌, Bool, true, false, not, cond, ◌||◌, List, [], ◌∷◌, ◌++◌, map, refl, ap, sym, ◌∙◌, arith}
use Rattle.std.specs.Prelude.{nat_eq}
use Rattle.std.specs.List.{list_any, position_or_len}
use Rattle.std.proofs.lemmas.List.{map-append}
use Rattle.iasl_ports.specs.Fetched.{same_name}
use Rattle.asl_preprocess.specs.State.{number_of, with_file}

neither : (a b : Bool) → (a || b) ≡ false → b ≡ false
neither true b h = absurd (cc)
neither false b h = h

-- a last element that passes is where none was found before
place_push : (p : List ℕ → Bool) (xs : List (List ℕ)) (y : List ℕ) → p y ≡ true → list_any p xs ≡ false → position_or_len p (xs ++ y ∷ []) ≡ position_or_len p xs
place_push p [] y e h = rw e refl
place_push p (x ∷ xs) y e h = ap (λ n. cond (not (p x)) (1 + n) 0) (place_push p xs y e (neither (p x) (list_any p xs) h))

eq_itself : (n : ℕ) → nat_eq n n ≡ true
eq_itself n = grind arith

pub same_itself : (name : List ℕ) → same_name name name ≡ true
same_itself [] = refl
same_itself (c ∷ cs) = rw (eq_itself c) (same_itself cs)

number_kept : (name : List ℕ) (files : List (List ℕ)) → number_of name (with_file name files) ≡ number_of name files
number_kept name files =
    by_test (list_any (same_name name) files) refl
  where
    by_test : (b : Bool) → list_any (same_name name) files ≡ b → number_of name (with_file name files) ≡ number_of name files
    by_test true e = rw e refl
    by_test false e = rw e (place_push (same_name name) files name (same_itself name) e)

module _ {V : Type 0} (bytes : V → List ℕ) where
  -- whether a vector has the same bytes
  abbrev same : V → V → Bool
  same a b = same_name (bytes a) (bytes b)

  any_named : (v : V) (vs : List V) → list_any (same v) vs ≡ list_any (same_name (bytes v)) (map bytes vs)
  any_named v [] = refl
  any_named v (x ∷ xs) = ap (λ b. same v x || b) (any_named v xs)

  place_named : (v : V) (vs : List V) → position_or_len (same v) vs ≡ position_or_len (same_name (bytes v)) (map bytes vs)
  place_named v [] = refl
  place_named v (x ∷ xs) = ap (λ n. cond (not (same v x)) (1 + n) 0) (place_named v xs)

  pub files_named : (v : V) (vs : List V) → map bytes (cond (list_any (same v) vs) vs (vs ++ v ∷ [])) ≡ with_file (bytes v) (map bytes vs)
  files_named v vs =
      by_test (list_any (same v) vs) refl
    where
      by_test : (b : Bool) → list_any (same v) vs ≡ b → map bytes (cond (list_any (same v) vs) vs (vs ++ v ∷ [])) ≡ with_file (bytes v) (map bytes vs)
      by_test true e = rw (e, (sym (any_named v vs) ∙ e)) refl
      by_test false e = rw (e, (sym (any_named v vs) ∙ e)) (map-append bytes vs (v ∷ []))

  -- a name has its place after it was added too
  pub number_named : (v : V) (vs : List V) → position_or_len (same v) vs ≡ number_of (bytes v) (with_file (bytes v) (map bytes vs))
  number_named v vs = place_named v vs ∙ sym (number_kept (bytes v) (map bytes vs))
