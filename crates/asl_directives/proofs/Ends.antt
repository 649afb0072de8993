-- What stands at the ends of a text.
use Rattle.std.proofs.Common.{◌≡◌, ℕ, suc, ◌+◌, true, false, not, List, [], ◌∷◌, ◌++◌, ◌-◌, ◌<◌, take, get_or, length, reverse, refl, ap, sym, ◌∙◌, arith}
use Rattle.std.proofs.lemmas.List.{reverse-append, reverse-reverse, take_more}
use Rattle.std.proofs.Math.Seq.{take-length}
use Rattle.asl_fragments.specs.Bytes.{is_blank}
use Rattle.asl_directives.specs.Words.{is_no_blank, past_blanks, blanks_before, without_blanks_behind}

-- a blank in front counts for nothing
past_blank : (c : ℕ) (cs : List ℕ) → is_blank c ≡ true → past_blanks (c ∷ cs) ≡ past_blanks cs
past_blank c cs h =
    let n : ℕ = blanks_before cs in
    let e : 1 + n ≡ suc n = omega arith in
    let f : is_no_blank c ≡ false = ap not h in
    rw (h, e) refl

past_other : (c : ℕ) (cs : List ℕ) → is_blank c ≡ false → past_blanks (c ∷ cs) ≡ c ∷ cs
past_other c cs h = rw h refl

-- a blank behind counts for nothing
pub blank_behind : (front : List ℕ) (last : ℕ) → is_blank last ≡ true → without_blanks_behind (front ++ last ∷ []) ≡ without_blanks_behind front
blank_behind front last h =
    ap (λ t. reverse (past_blanks t)) (reverse-append front (last ∷ [])) ∙ ap reverse (past_blank last (reverse front) h)

pub other_behind : (front : List ℕ) (last : ℕ) → is_blank last ≡ false → without_blanks_behind (front ++ last ∷ []) ≡ front ++ last ∷ []
other_behind front last h =
    ap (λ t. reverse (past_blanks t)) (reverse-append front (last ∷ [])) ∙ ap reverse (past_other last (reverse front) h)
    ∙ ap reverse (sym (reverse-append front (last ∷ []))) ∙ reverse-reverse (front ++ last ∷ [])

-- a text is its front and its last byte
pub front_and_last : (xs : List ℕ) → 0 < length xs → take (length xs - 1) xs ++ get_or xs (length xs - 1) 0 ∷ [] ≡ xs
front_and_last xs h =
    let e : length xs - 1 + 1 ≡ length xs = omega arith in
    let lt : length xs - 1 < length xs = omega arith in
    sym (take_more xs (length xs - 1) 0 lt) ∙ ap (λ n. take n xs) e ∙ take-length xs

pub blank_at_end : (xs : List ℕ) → 0 < length xs → is_blank (get_or xs (length xs - 1) 0) ≡ true → without_blanks_behind (take (length xs - 1) xs) ≡ without_blanks_behind xs
blank_at_end xs some h =
    sym (blank_behind (take (length xs - 1) xs) (get_or xs (length xs - 1) 0) h) ∙ ap without_blanks_behind (front_and_last xs some)

pub other_at_end : (xs : List ℕ) → 0 < length xs → is_blank (get_or xs (length xs - 1) 0) ≡ false → without_blanks_behind xs ≡ xs
other_at_end xs some h =
    sym (ap without_blanks_behind (front_and_last xs some)) ∙ other_behind (take (length xs - 1) xs) (get_or xs (length xs - 1) 0) h ∙ front_and_last xs some
