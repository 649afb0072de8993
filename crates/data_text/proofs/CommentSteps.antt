-- One more byte of a line whose comments count as blanks.
use Rattle.std.proofs.Common.{◌≡◌, ◌+◌, ◌<◌, ℕ, zero, suc, List, [], ◌∷◌, ◌++◌, length, drop, get_or, refl, sym, ap, ◌∙◌, append_assoc}
use Rattle.std.proofs.lemmas.List.{at_drop_more}
use Rattle.data_text.specs.declared.comments.Mode.{Mode}
use Rattle.data_text.specs.Comments.{next_mode, shown, first_or_zero, uncommented_from, mode_after}

first_left : (line : List ℕ) (n : ℕ) → first_or_zero (drop n line) ≡ get_or line n 0
first_left [] zero = refl
first_left [] (suc n) = refl
first_left (c ∷ line) zero = refl
first_left (c ∷ line) (suc n) = first_left line n

next_is : (line : List ℕ) (now next : Mode) (i after : ℕ) → after ≡ get_or line (i + 1) 0 → next ≡ next_mode now (get_or line i 0) after → next_mode now (get_or line i 0) (first_or_zero (drop (i + 1) line)) ≡ next
next_is line now next i after e f = rw (first_left line (i + 1)) (sym (f ∙ ap (next_mode now (get_or line i 0)) e))

pub next_text : (out more line all : List ℕ) (now next : Mode) (i after byte : ℕ) → i < length line → after ≡ get_or line (i + 1) 0 → next ≡ next_mode now (get_or line i 0) after → byte ≡ shown now next (get_or line i 0) → more ≡ out ++ byte ∷ [] → out ++ uncommented_from now (drop i line) ≡ all → more ++ uncommented_from next (drop (i + 1) line) ≡ all
next_text out more line all now next i after byte h e f g k inv =
    let is = next_is line now next i after e f in
    let step : uncommented_from now (drop i line) ≡ byte ∷ uncommented_from next (drop (i + 1) line) =
    at_drop_more (uncommented_from now) line i 0 h ∙ ap (λ (m : Mode). shown now m (get_or line i 0) ∷ uncommented_from m (drop (i + 1) line)) is ∙ ap (λ (b : ℕ). b ∷ uncommented_from next (drop (i + 1) line)) (sym g) in
    ap (λ (bs : List ℕ). bs ++ uncommented_from next (drop (i + 1) line)) k ∙ append_assoc out (byte ∷ []) (uncommented_from next (drop (i + 1) line)) ∙ ap (λ (bs : List ℕ). out ++ bs) (sym step) ∙ inv

pub next_after : (line : List ℕ) (now next all : Mode) (i after : ℕ) → i < length line → after ≡ get_or line (i + 1) 0 → next ≡ next_mode now (get_or line i 0) after → mode_after now (drop i line) ≡ all → mode_after next (drop (i + 1) line) ≡ all
next_after line now next all i after h e f inv =
    let is = next_is line now next i after e f in
    sym (at_drop_more (mode_after now) line i 0 h ∙ ap (λ (m : Mode). mode_after m (drop (i + 1) line)) is) ∙ inv
