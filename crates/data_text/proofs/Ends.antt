-- Texts by their last byte.
use Rattle.std.proofs.Common.{◌≡◌, ◌&&◌, ◌==◌, ◌+◌, ◌-◌, ◌≤◌, ℕ, true, false, cond, List, [], ◌∷◌, ◌++◌, take, length, get_or, Option, Some, None, refl, sym, ap, ◌∙◌, arith}
use Rattle.std.proofs.lemmas.Grind.{common_steps}
use Rattle.std.proofs.lemmas.List.{take_more, take_all}
use Rattle.hex_text.specs.Blanks.{is_blank, has_blanks_alone}
use Rattle.data_text.specs.Labels.{before_backslash}

alone_push : (xs : List ℕ) (c : ℕ) → has_blanks_alone (xs ++ c ∷ []) ≡ cond (is_blank c) (has_blanks_alone xs) false
alone_push [] c = grind (arith, common_steps)
alone_push (x ∷ xs) c = let h = alone_push xs c in grind (arith, common_steps)

no_backslash : (c : ℕ) → (c ≡ 92 → ⊥) → (c == 92) ≡ false
no_backslash c h = grind (arith, common_steps)

-- a blank at the end changes nothing; a backslash there is found; before any other byte nothing is
blank_push : (xs : List ℕ) (c : ℕ) → (c == 92) ≡ false → is_blank c ≡ true → before_backslash (xs ++ c ∷ []) ≡ before_backslash xs
blank_push [] c e f = rw e refl
blank_push (x ∷ xs) c e f = rw (alone_push xs c, f, blank_push xs c e f) refl

backslash_push : (xs : List ℕ) (c : ℕ) → c ≡ 92 → before_backslash (xs ++ c ∷ []) ≡ Some xs
backslash_push [] c e = rw e refl
backslash_push (x ∷ xs) c e =
    let b : is_blank c ≡ false = rw e refl in
    rw (alone_push xs c, b, backslash_push xs c e) (elim (x == 92) as (λ t. cond (t && false) (Some []) (Some (x ∷ xs)) ≡ Some (x ∷ xs)) [ true ↦ refl | false ↦ refl ])

other_push : (xs : List ℕ) (c : ℕ) → (c == 92) ≡ false → is_blank c ≡ false → before_backslash (xs ++ c ∷ []) ≡ None
other_push [] c e f = rw e refl
other_push (x ∷ xs) c e f =
    rw (alone_push xs c, f, other_push xs c e f) (elim (x == 92) as (λ t. cond {A = Option (List ℕ)} (t && false) (Some []) None ≡ None) [ true ↦ refl | false ↦ refl ])

split : (xs : List ℕ) → 1 ≤ length xs → xs ≡ take (length xs - 1) xs ++ get_or xs (length xs - 1) 0 ∷ []
split xs h =
    let e : length xs - 1 + 1 ≡ length xs = omega arith in
    sym (take_all (length xs - 1 + 1) xs (omega arith)) ∙ take_more xs (length xs - 1) 0 (omega arith)

pub at_blank : (xs : List ℕ) → 1 ≤ length xs → (get_or xs (length xs - 1) 0 ≡ 92 → ⊥) → is_blank (get_or xs (length xs - 1) 0) ≡ true → before_backslash (take (length xs - 1) xs) ≡ before_backslash xs
at_blank xs h e f = sym (ap before_backslash (split xs h) ∙ blank_push (take (length xs - 1) xs) (get_or xs (length xs - 1) 0) (no_backslash (get_or xs (length xs - 1) 0) e) f)

pub at_backslash : (xs : List ℕ) → 1 ≤ length xs → get_or xs (length xs - 1) 0 ≡ 92 → before_backslash xs ≡ Some (take (length xs - 1) xs)
at_backslash xs h e = ap before_backslash (split xs h) ∙ backslash_push (take (length xs - 1) xs) (get_or xs (length xs - 1) 0) e

pub at_other : (xs : List ℕ) → 1 ≤ length xs → (get_or xs (length xs - 1) 0 ≡ 92 → ⊥) → is_blank (get_or xs (length xs - 1) 0) ≡ false → before_backslash xs ≡ None
at_other xs h e f = ap before_backslash (split xs h) ∙ other_push (take (length xs - 1) xs) (get_or xs (length xs - 1) 0) (no_backslash (get_or xs (length xs - 1) 0) e) f

pub at_end : (xs : List ℕ) → length xs ≤ 0 → before_backslash xs ≡ None
at_end [] h = refl
at_end (x ∷ xs) h = absurd (omega arith)
