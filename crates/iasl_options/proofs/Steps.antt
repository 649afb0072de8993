-- A step through the words.
use Rattle.std.proofs.Common.{◌≡◌, ℕ, zero, suc, ◌+◌, ◌<◌, List, [], ◌∷◌, length, map, drop, get_or, string_bytes, Some, None, Result, Err, refl, sym, ap, ◌∙◌, subst, arith}
use Rattle.std.specs.declared.string.String.{String}
use Rattle.iasl_options.specs.Asking.{Asked, Behind, one_more, or_spoilt, asked_from}

front : {Z : Type 0} (n : ℕ) (behind : Behind) (words : List (String Z)) (i : ℕ) (d : String Z) → i < length words
    → asked_from n behind (drop i (map string_bytes words)) ≡ or_spoilt n (one_more behind behind.waiting (string_bytes (get_or words i d))) (λ next. asked_from (suc n) next (drop (i + 1) (map string_bytes words)))
front n behind [] i d lt = absurd (omega arith)
front n behind (word ∷ words) zero d lt = refl
front n behind (word ∷ words) (suc i) d lt =
    let e : suc (i + 1) ≡ suc i + 1 = omega arith in
    subst (λ k. asked_from n behind (drop i (map string_bytes words)) ≡ or_spoilt n (one_more behind behind.waiting (string_bytes (get_or words i d))) (λ next. asked_from (suc n) next (drop k (map string_bytes (word ∷ words))))) e (front n behind words i d (omega arith))

-- a word that spoils those before it
pub spoilt : {Z : Type 0} (n : ℕ) (behind : Behind) (words : List (String Z)) (d : String Z) (whole : Result Asked ℕ) → n < length words → one_more behind behind.waiting (string_bytes (get_or words n d)) ≡ None
    → asked_from n behind (drop n (map string_bytes words)) ≡ whole → whole ≡ Err n
spoilt n behind words d whole lt e h = sym h ∙ front n behind words n d lt ∙ ap (λ o. or_spoilt n o (λ next. asked_from (suc n) next (drop (n + 1) (map string_bytes words)))) e

-- a word that goes on
pub goes_on : {Z : Type 0} (n : ℕ) (behind next : Behind) (words : List (String Z)) (d : String Z) (whole : Result Asked ℕ) → n < length words → one_more behind behind.waiting (string_bytes (get_or words n d)) ≡ Some next
    → asked_from n behind (drop n (map string_bytes words)) ≡ whole → asked_from (n + 1) next (drop (n + 1) (map string_bytes words)) ≡ whole
goes_on n behind next words d whole lt e h =
    let k : n + 1 ≡ suc n = omega arith in
    ap (λ m. asked_from m next (drop (n + 1) (map string_bytes words))) k ∙ sym (ap (λ o. or_spoilt n o (λ next. asked_from (suc n) next (drop (n + 1) (map string_bytes words)))) e) ∙ sym (front n behind words n d lt) ∙ h
