-- The text of lines.
use Rattle.std.proofs.Common.{◌≡◌, ℕ, zero, suc, ◌+◌, ◌<◌, List, [], ◌∷◌, ◌++◌, length, drop, get_or, refl, sym, ap, ◌∙◌, subst, append_assoc, append-nil, arith}
use Rattle.iasl_messages.specs.declared.place.Line.{Line}
use Rattle.iasl_tool.specs.Due.{text_of_lines}

step : (lines : List Line) (i : ℕ) (d : Line) → i < length lines → text_of_lines (drop i lines) ≡ (get_or lines i d).text ++ 10 ∷ text_of_lines (drop (i + 1) lines)
step [] i d lt = absurd (omega arith)
step (line ∷ lines) zero d lt = refl
step (line ∷ lines) (suc i) d lt =
    let e : suc (i + 1) ≡ suc i + 1 = omega arith in
    subst (λ n. text_of_lines (drop i lines) ≡ (get_or lines i d).text ++ 10 ∷ text_of_lines (drop n (line ∷ lines))) e (step lines i d (omega arith))

-- a line more, and those that are left
pub one_more_line : (lines : List Line) (i : ℕ) (d : Line) (text whole : List ℕ) → i < length lines → text ++ text_of_lines (drop i lines) ≡ whole → ((text ++ (get_or lines i d).text) ++ 10 ∷ []) ++ text_of_lines (drop (i + 1) lines) ≡ whole
one_more_line lines i d text whole lt h =
    append_assoc (text ++ (get_or lines i d).text) (10 ∷ []) (text_of_lines (drop (i + 1) lines))
    ∙ append_assoc text (get_or lines i d).text (10 ∷ text_of_lines (drop (i + 1) lines))
    ∙ ap (λ xs. text ++ xs) (sym (step lines i d lt))
    ∙ h

pub no_line : (text whole : List ℕ) → text ++ [] ≡ whole → text ≡ whole
no_line text whole h = sym (append-nil text) ∙ h
