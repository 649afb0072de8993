-- The last `/` of a name.
use Rattle.std.proofs.Common.{◌≡◌, ℕ, suc, ◌+◌, ◌-◌, ◌<◌, ◌==◌, true, false, List, [], ◌∷◌, ◌++◌, length, reverse, drop, take, get_or, refl, ap, sym, ◌∙◌, arith}
use Rattle.std.specs.List.{position_or_len}
use Rattle.std.proofs.lemmas.List.{reverse-append, reverse-reverse}
use Rattle.asl_directives.proofs.Ends.{front_and_last}
use Rattle.asl_preprocess.specs.Search.{is_slash, directory_of, begins_with_slash, is_joined}

abbrev from_slash : List ℕ → List ℕ
from_slash xs = drop (position_or_len is_slash xs) xs

from_slash_here : (c : ℕ) (cs : List ℕ) → (c == 47) ≡ true → from_slash (c ∷ cs) ≡ c ∷ cs
from_slash_here c cs h = rw h refl

from_slash_later : (c : ℕ) (cs : List ℕ) → (c == 47) ≡ false → from_slash (c ∷ cs) ≡ from_slash cs
from_slash_later c cs h =
    let n : ℕ = position_or_len is_slash cs in
    let e : 1 + n ≡ suc n = omega arith in
    rw (h, e) refl

pub slash_at_end : (xs : List ℕ) → 0 < length xs → (get_or xs (length xs - 1) 0 == 47) ≡ true → directory_of xs ≡ xs
slash_at_end xs some h =
    let front : List ℕ = take (length xs - 1) xs in
    let last : ℕ = get_or xs (length xs - 1) 0 in
    let e : reverse (front ++ last ∷ []) ≡ last ∷ reverse front = reverse-append front (last ∷ []) in
    let d : directory_of (front ++ last ∷ []) ≡ front ++ last ∷ [] =
    ap (λ t. reverse (from_slash t)) e ∙ ap reverse (from_slash_here last (reverse front) h) ∙ ap reverse (sym e) ∙ reverse-reverse (front ++ last ∷ []) in
    sym (ap directory_of (front_and_last xs some)) ∙ d ∙ front_and_last xs some

pub other_at_end : (xs : List ℕ) → 0 < length xs → (get_or xs (length xs - 1) 0 == 47) ≡ false → directory_of (take (length xs - 1) xs) ≡ directory_of xs
other_at_end xs some h =
    let front : List ℕ = take (length xs - 1) xs in
    let last : ℕ = get_or xs (length xs - 1) 0 in
    let d : directory_of (front ++ last ∷ []) ≡ directory_of front =
    ap (λ t. reverse (from_slash t)) (reverse-append front (last ∷ [])) ∙ ap reverse (from_slash_later last (reverse front) h) in
    sym d ∙ ap directory_of (front_and_last xs some)

pub joined_by_last : (xs : List ℕ) → 0 < length xs → is_joined xs ≡ (get_or xs (length xs - 1) 0 == 47)
joined_by_last [] some = absurd (omega arith)
joined_by_last (c ∷ cs) some =
    let front : List ℕ = take (length (c ∷ cs) - 1) (c ∷ cs) in
    let last : ℕ = get_or (c ∷ cs) (length (c ∷ cs) - 1) 0 in
    sym (ap (λ t. begins_with_slash (reverse t)) (front_and_last (c ∷ cs) some)) ∙ ap begins_with_slash (reverse-append front (last ∷ []))
