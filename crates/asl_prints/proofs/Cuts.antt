-- How a format is cut, from left to right.
use Rattle.std.proofs.Common.{◌≡◌, ℕ, zero, suc, ◌<◌, ◌≤◌, Bool, true, false, List, [], ◌∷◌, ◌++◌, length, get_or, drop, append_assoc, append-nil, refl, sym, ap, ◌∙◌, arith}
use Rattle.std.specs.Prelude.{if◌then◌else◌}
use Rattle.asl_tree.specs.Formats.{Cut, cut, is_hole, is_percent, with_byte, with_hole}
use Rattle.asl_prints.specs.Texts.{all_texts, mark_of, texts_with}
use Rattle.asl_prints.specs.declared.texts.Mark.{Mark}
use Rattle.asl_prints.specs.declared.texts.Mark.TheVariants as M

pub mark_none : (format : List ℕ) → length format < 1 → M.End ≡ mark_of format
mark_none [] h = refl
mark_none (c ∷ format) h = absurd (omega (arith, h))

pub mark_one : (format : List ℕ) (c : ℕ) → 1 ≤ length format → length format < 2 → c ≡ get_or format 0 c → M.Byte c ≡ mark_of format
mark_one [] c h k e = absurd (omega (arith, h))
mark_one (d ∷ []) c h k e = ap M.Byte e
mark_one (d ∷ d' ∷ format) c h k e = absurd (omega (arith, k))

pub mark_two : (format : List ℕ) (c d : ℕ) → 2 ≤ length format → c ≡ get_or format 0 c → d ≡ get_or format 1 d → (if is_hole c d then M.Hole else if is_percent c d then M.Percent else M.Byte c) ≡ mark_of format
mark_two [] c d h e f = absurd (omega (arith, h))
mark_two (c' ∷ []) c d h e f = absurd (omega (arith, h))
mark_two (c' ∷ d' ∷ format) c d h e f =
    ap (λ c. if is_hole c d then M.Hole else if is_percent c d then M.Percent else M.Byte c) e ∙ ap (λ d. if is_hole c' d then M.Hole else if is_percent c' d then M.Percent else M.Byte c') f

abbrev tag : Mark → ℕ
tag M.End = 0
tag M.Hole = 1
tag M.Percent = 2
tag (M.Byte c) = 3

abbrev byte : Mark → ℕ
byte (M.Byte c) = c
byte m = 0

abbrev pick : Bool → Bool → ℕ → Mark
pick a b c = if a then M.Hole else if b then M.Percent else M.Byte c

abbrev step : Bool → Bool → ℕ → Cut → Cut → Cut
step a b c far near = if a then with_hole far else if b then with_byte 0x25 far else with_byte c near

-- what the mark says of the rest
pub cut_none : (rest : List ℕ) → mark_of rest ≡ M.End → rest ≡ []
cut_none [] e = refl
cut_none (c ∷ []) e = let h : 3 ≡ 0 = ap tag e in absurd (omega (arith, h))
cut_none (c ∷ d ∷ rest) e = no (is_hole c d) (is_percent c d) e
  where
    no : (a b : Bool) → pick a b c ≡ M.End → c ∷ d ∷ rest ≡ []
    no true b e = let h : 1 ≡ 0 = ap tag e in absurd (omega (arith, h))
    no false true e = let h : 2 ≡ 0 = ap tag e in absurd (omega (arith, h))
    no false false e = let h : 3 ≡ 0 = ap tag e in absurd (omega (arith, h))

pub cut_hole : (rest : List ℕ) → mark_of rest ≡ M.Hole → cut rest ≡ with_hole (cut (drop 2 rest))
cut_hole [] e = let h : 0 ≡ 1 = ap tag e in absurd (omega (arith, h))
cut_hole (c ∷ []) e = let h : 3 ≡ 1 = ap tag e in absurd (omega (arith, h))
cut_hole (c ∷ d ∷ rest) e = yes (is_hole c d) (is_percent c d) e
  where
    yes : (a b : Bool) → pick a b c ≡ M.Hole → step a b c (cut rest) (cut (d ∷ rest)) ≡ with_hole (cut rest)
    yes true b e = refl
    yes false true e = let h : 2 ≡ 1 = ap tag e in absurd (omega (arith, h))
    yes false false e = let h : 3 ≡ 1 = ap tag e in absurd (omega (arith, h))

pub cut_percent : (rest : List ℕ) → mark_of rest ≡ M.Percent → cut rest ≡ with_byte 0x25 (cut (drop 2 rest))
cut_percent [] e = let h : 0 ≡ 2 = ap tag e in absurd (omega (arith, h))
cut_percent (c ∷ []) e = let h : 3 ≡ 2 = ap tag e in absurd (omega (arith, h))
cut_percent (c ∷ d ∷ rest) e = yes (is_hole c d) (is_percent c d) e
  where
    yes : (a b : Bool) → pick a b c ≡ M.Percent → step a b c (cut rest) (cut (d ∷ rest)) ≡ with_byte 0x25 (cut rest)
    yes true b e = let h : 1 ≡ 2 = ap tag e in absurd (omega (arith, h))
    yes false true e = refl
    yes false false e = let h : 3 ≡ 2 = ap tag e in absurd (omega (arith, h))

pub cut_byte : (rest : List ℕ) (x : ℕ) → mark_of rest ≡ M.Byte x → cut rest ≡ with_byte x (cut (drop 1 rest))
cut_byte [] x e = let h : 0 ≡ 3 = ap tag e in absurd (omega (arith, h))
cut_byte (c ∷ []) x e = ap (λ c. with_byte c ([], [])) (ap byte e)
cut_byte (c ∷ d ∷ rest) x e = yes (is_hole c d) (is_percent c d) e
  where
    yes : (a b : Bool) → pick a b c ≡ M.Byte x → step a b c (cut rest) (cut (d ∷ rest)) ≡ with_byte x (cut (d ∷ rest))
    yes true b e = let h : 1 ≡ 3 = ap tag e in absurd (omega (arith, h))
    yes false true e = let h : 2 ≡ 3 = ap tag e in absurd (omega (arith, h))
    yes false false e = ap (λ c. with_byte c (cut (d ∷ rest))) (ap byte e)

-- something is left where the mark is not the end
pub shorter : (rest : List ℕ) (n : ℕ) → 1 ≤ n → (rest ≡ [] → ⊥) → length (drop n rest) < length rest
shorter [] n h k = absurd (k refl)
shorter (c ∷ rest) zero h k = absurd (omega (arith, h))
shorter (c ∷ rest) (suc n) h k = less n rest
  where
    less : (n : ℕ) (rest : List ℕ) → length (drop n rest) < suc (length rest)
    less zero rest = omega (arith)
    less (suc n) [] = omega (arith)
    less (suc n) (c ∷ rest) = let h = less n rest in omega (arith, h)

pub hole_left : (rest : List ℕ) → M.Hole ≡ mark_of rest → length (drop 2 rest) < length rest
hole_left rest e = shorter rest 2 (omega (arith)) (λ n. let h : 1 ≡ 0 = ap tag (e ∙ ap mark_of n) in omega (arith, h))

pub percent_left : (rest : List ℕ) → M.Percent ≡ mark_of rest → length (drop 2 rest) < length rest
percent_left rest e = shorter rest 2 (omega (arith)) (λ n. let h : 2 ≡ 0 = ap tag (e ∙ ap mark_of n) in omega (arith, h))

pub byte_left : (rest : List ℕ) (x : ℕ) → M.Byte x ≡ mark_of rest → length (drop 1 rest) < length rest
byte_left rest x e = shorter rest 1 (omega (arith)) (λ n. let h : 3 ≡ 0 = ap tag (e ∙ ap mark_of n) in omega (arith, h))

-- the texts so far, before those of what is left
pub texts_end : (texts new : List (List ℕ)) (text rest format : List ℕ) → M.End ≡ mark_of rest → texts_with texts text (cut rest) ≡ all_texts format → new ≡ texts ++ text ∷ [] → new ≡ all_texts format
texts_end texts new text rest format e i n =
    n ∙ ap (λ t. texts ++ t ∷ []) (sym (append-nil text)) ∙ sym (ap (λ r. texts_with texts text (cut r)) (cut_none rest (sym e))) ∙ i

pub texts_hole : (texts new : List (List ℕ)) (text none rest left format : List ℕ) → M.Hole ≡ mark_of rest → left ≡ drop 2 rest → none ≡ [] → new ≡ texts ++ text ∷ [] → texts_with texts text (cut rest) ≡ all_texts format → texts_with new none (cut left) ≡ all_texts format
texts_hole texts new text none rest left format e l z n i =
    let r = cut (drop 2 rest) in
    ap (λ l. texts_with new none (cut l)) l ∙ ap (λ z. texts_with new z r) z ∙ ap (λ n. texts_with n [] r) n
    ∙ append_assoc texts (text ∷ []) (r.0 ∷ r.1)
    ∙ ap (λ t. texts ++ t ∷ r.0 ∷ r.1) (sym (append-nil text))
    ∙ sym (ap (texts_with texts text) (cut_hole rest (sym e))) ∙ i

onto : (texts : List (List ℕ)) (text : List ℕ) (c : ℕ) (r : Cut) → texts_with texts (text ++ c ∷ []) r ≡ texts_with texts text (with_byte c r)
onto texts text c r = ap (λ t. texts ++ t ∷ r.1) (append_assoc text (c ∷ []) r.0)

pub texts_percent : (texts : List (List ℕ)) (text new rest left format : List ℕ) → M.Percent ≡ mark_of rest → left ≡ drop 2 rest → new ≡ text ++ 0x25 ∷ [] → texts_with texts text (cut rest) ≡ all_texts format → texts_with texts new (cut left) ≡ all_texts format
texts_percent texts text new rest left format e l n i =
    ap (λ l. texts_with texts new (cut l)) l ∙ ap (λ n. texts_with texts n (cut (drop 2 rest))) n ∙ onto texts text 0x25 (cut (drop 2 rest)) ∙ sym (ap (texts_with texts text) (cut_percent rest (sym e))) ∙ i

pub texts_byte : (texts : List (List ℕ)) (text new rest left format : List ℕ) (c : ℕ) → M.Byte c ≡ mark_of rest → left ≡ drop 1 rest → new ≡ text ++ c ∷ [] → texts_with texts text (cut rest) ≡ all_texts format → texts_with texts new (cut left) ≡ all_texts format
texts_byte texts text new rest left format c e l n i =
    ap (λ l. texts_with texts new (cut l)) l ∙ ap (λ n. texts_with texts n (cut (drop 1 rest))) n ∙ onto texts text c (cut (drop 1 rest)) ∙ sym (ap (texts_with texts text) (cut_byte rest c (sym e))) ∙ i
