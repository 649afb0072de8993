-- A table with one more line in front.
use Rattle.std.proofs.Common.{◌≡◌, ℕ, zero, suc, ◌-◌, ◌<◌, ◌≤◌, Bool, true, false, cond, List, [], ◌∷◌, length, drop, get_or, Option, Some, refl, sym, ap, subst, ◌∙◌, arith, Bor}
use Rattle.std.specs.Option.{option_map_or}
use Rattle.std.specs.Map.{lookup}
use Rattle.std.specs.HashMap.{HashMap, IsEmpty, Updates, get}
use Rattle.iasl_messages.specs.declared.place.Line.{Line}
use Rattle.source_lines.specs.declared.lines.LineNumber.{LineNumber}
use Rattle.source_lines.specs.Text.{line_text}
use Rattle.source_lines.specs.Tells.{is_same, Tells}

drop_all : {A : Type 0} (xs : List A) → drop (length xs) xs ≡ []
drop_all [] = refl
drop_all (x ∷ xs) = drop_all xs

drop_one : {A : Type 0} (xs : List A) (n : ℕ) (d : A) → n < length xs → drop n xs ≡ get_or xs n d ∷ drop (suc n) xs
drop_one [] n d h = absurd (omega arith)
drop_one (x ∷ xs) zero d h = refl
drop_one (x ∷ xs) (suc n) d h = drop_one xs n d (omega arith)

pub tells_none : {S : Type 0} (texts : HashMap LineNumber (Bor (List ℕ)) S) (lines : List Line) → IsEmpty texts → Tells texts (drop (length lines) lines)
tells_none texts lines e = record {
  text = λ place. ap (λ entries. option_map_or (λ text. text.now) (lookup (is_same (record { file = place.file; number = place.line })) entries) []) e ∙ ap (λ ls. line_text ls place) (sym (drop_all lines));
}

by_case : (b : Bool) (text : Bor (List ℕ)) (own rest : List ℕ) (found : Option (Bor (List ℕ))) → text.now ≡ own → option_map_or (λ t. t.now) found [] ≡ rest
    → option_map_or (λ t. t.now) (cond b (Some text) found) [] ≡ cond b own rest
by_case true text own rest found e f = e
by_case false text own rest found e f = f

pub tells_more : {S : Type 0} (old new : HashMap LineNumber (Bor (List ℕ)) S) (line : Line) (lines : List Line) (text : Bor (List ℕ)) → text.now ≡ line.text
    → Updates is_same old new (record { file = line.file; number = line.number }) (Some text) → Tells old lines → Tells new (line ∷ lines)
tells_more old new line lines text e u tells = record {
  text = λ place.
      let number : LineNumber = record { file = place.file; number = place.line } in
      ap (λ o. option_map_or (λ t. t.now) o []) (u.0 number)
      ∙ by_case (is_same (record { file = line.file; number = line.number }) number) text line.text (line_text lines place) (get is_same old number) e (tells.text place);
}

pub tells_at : {S : Type 0} (old new : HashMap LineNumber (Bor (List ℕ)) S) (lines : List Line) (left : ℕ) (line : Line) (text : Bor (List ℕ)) → 0 < left → left ≤ length lines → line ≡ get_or lines (left - 1) line → text.now ≡ line.text
    → Updates is_same old new (record { file = line.file; number = line.number }) (Some text) → Tells old (drop left lines) → Tells new (drop (left - 1) lines)
tells_at old new lines left line text h within is e u tells =
    let behind : Tells old (drop (suc (left - 1)) lines) = subst (λ n. Tells old (drop n lines)) {y = suc (left - 1)} (omega arith) tells in
    let at : drop (left - 1) lines ≡ line ∷ drop (suc (left - 1)) lines = drop_one lines (left - 1) line (omega arith) ∙ ap (λ l. l ∷ drop (suc (left - 1)) lines) (sym is) in
    subst (λ ls. Tells new ls) (sym at) (tells_more old new line (drop (suc (left - 1)) lines) text e u behind)

pub tells_all : {S : Type 0} (texts : HashMap LineNumber (Bor (List ℕ)) S) (lines : List Line) (left : ℕ) → left ≤ 0 → Tells texts (drop left lines) → Tells texts lines
tells_all texts lines left h tells = subst (λ n. Tells texts (drop n lines)) {y = 0} (omega arith) tells
