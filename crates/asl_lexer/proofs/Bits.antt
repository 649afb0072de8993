-- Small facts on tests, digits and lists of marks.
use Rattle.std.proofs.Common.{◌≡◌, ℕ, ◌+◌, ◌*◌, ◌^◌, ◌<◌, ◌≤◌, min, Bool, true, false, List, [], ◌∷◌, ◌++◌, refl, sym, subst, ◌∙◌, arith, leb}
use Rattle.std.specs.Prelude.{◌&&◌, ◌||◌, ◌==◌}
use Rattle.std.specs.Char.{digit_value, is_digit}
use Rattle.std.proofs.lemmas.Bool.{leb-true, eqb-true}
use Rattle.std.proofs.lemmas.Bool.Decides.{nat_tests}
use Rattle.asl_lexer.specs.declared.class.Class.{Class}
use Rattle.asl_lexer.specs.declared.class.Radix.{Radix}
use Rattle.asl_lexer.specs.declared.class.Radix.TheVariants.{Octal, Decimal, Hexadecimal}
use Rattle.asl_lexer.specs.Class.{class_of, base_of, doubles, shifts}
use Rattle.asl_lexer.specs.Scan.{MarkedByte, end_at, more, is_plain}
use Rattle.asl_lexer.specs.Cut.{Each, Stops, end_of, are_three}

pub both : (a b : Bool) → (a && b) ≡ true → (a ≡ true) × (b ≡ true)
both true b e = (refl, e)
both false b e = absurd cc

pub both_true : (a b : Bool) → a ≡ true → b ≡ true → (a && b) ≡ true
both_true true b e f = f
both_true false b e f = absurd cc

pub left_false : (a b : Bool) → a ≡ false → (a && b) ≡ false
left_false true b e = absurd cc
left_false false b e = refl

pub right_false : (a b : Bool) → b ≡ false → (a && b) ≡ false
right_false true b e = e
right_false false b e = refl

pub either_true : (a b : Bool) → b ≡ true → (a || b) ≡ true
either_true true b e = refl
either_true false b e = e

pub left_true : (a b : Bool) → a ≡ true → (a || b) ≡ true
left_true true b e = refl
left_true false b e = absurd cc

pub neither_true : (a b : Bool) → a ≡ false → b ≡ false → (a || b) ≡ false
neither_true true b e f = absurd cc
neither_true false b e f = f

pub never : (k j : Class) (b : ℕ) → class_of b ≡ k → (k ≡ j → ⊥) → class_of b ≡ j → ⊥
never k j b is differ e = differ (sym is ∙ e)

pub Stops-all : (p : MarkedByte → Bool) (rest : List MarkedByte) → ((m : MarkedByte) → p m ≡ false) → Stops p rest
Stops-all p [] h = tt
Stops-all p (m ∷ ms) h = h m

pub Each-snoc : (p : MarkedByte → Bool) (w : List MarkedByte) (m : MarkedByte) → Each p w → p m ≡ true → Each p (w ++ m ∷ [])
Each-snoc p [] m h e = (e, tt)
Each-snoc p (x ∷ w) m h e = (h.0, Each-snoc p w m h.1 e)

pub end_of-snoc : (w : List MarkedByte) (m : MarkedByte) → end_of (w ++ m ∷ []) ≡ end_at m.place
end_of-snoc [] m = refl
end_of-snoc (x ∷ []) m = refl
end_of-snoc (x ∷ y ∷ w) m = end_of-snoc (y ∷ w) m

pub value_small : (b : ℕ) → digit_value b ≤ 36
value_small b = grind (arith, nat_tests)

pub value_fits : (b : ℕ) → digit_value b < 2 ^ 64
value_fits b = omega (arith, value_small b)

pub value_min : (b : ℕ) → digit_value b ≡ min (digit_value b) 255
value_min b = omega (arith, value_small b)

more_min_at : (r : Radix) (v d : ℕ) → min (min v 255 * base_of r + d) 255 ≡ min (v * base_of r + d) 255
more_min_at Octal v d = omega arith
more_min_at Decimal v d = omega arith
more_min_at Hexadecimal v d = omega arith

pub more_min : (r : Radix) (v b : ℕ) → min (more (min v 255) r b) 255 ≡ min (v * base_of r + digit_value b) 255
more_min r v b = more_min_at r v (digit_value b)

plain_cases : (v : ℕ) (s t : Bool) → leb 1 v ≡ s → leb v 127 ≡ t → is_plain (min v 255) ≡ is_plain v
plain_cases v s t e f = grind (arith, nat_tests)

pub plain_min : (v : ℕ) → is_plain (min v 255) ≡ is_plain v
plain_min v = plain_cases v (leb 1 v) (leb v 127) refl refl

pub plain_is : (v : ℕ) → is_plain v ≡ true → min v 255 ≡ v
plain_is v e = let small : v ≤ 127 = leb-true v 127 (both (leb 1 v) (leb v 127) e).1 in omega arith

more_grows_at : (r : Radix) (v d : ℕ) → v ≤ v * base_of r + d
more_grows_at Octal v d = omega arith
more_grows_at Decimal v d = omega arith
more_grows_at Hexadecimal v d = omega arith

pub more_grows : (r : Radix) (v b : ℕ) → v ≤ v * base_of r + digit_value b
more_grows r v b = more_grows_at r v (digit_value b)

equals_no_shift : (first : ℕ) (t : Bool) → (61 == first) ≡ t → (t && shifts first) ≡ false
equals_no_shift first true e = subst (λ n. shifts n ≡ false) (eqb-true 61 first e) refl
equals_no_shift first false e = refl

-- nothing stands behind `=` in a symbol
pub no_three : (first second third : ℕ) → second ≡ 61 → are_three first second third ≡ false
no_three first second third e = right_false (third == 61) (second == first && shifts first) (subst (λ n. (n == first && shifts first) ≡ false) (sym e) (equals_no_shift first (61 == first) refl))

pub no_three_unshifted : (first second third : ℕ) → shifts first ≡ false → are_three first second third ≡ false
no_three_unshifted first second third e = right_false (third == 61) (second == first && shifts first) (right_false (second == first) (shifts first) e)

-- `x` is no digit of a number
pub x_no_digit : (b : ℕ) → (b == 120) ≡ true → is_digit b 8 ≡ false
x_no_digit b e = subst (λ n. is_digit n 8 ≡ false) (sym (eqb-true b 120 e)) refl

pub neither : (a b : Bool) → (a || b) ≡ false → (a ≡ false) × (b ≡ false)
neither true b e = absurd cc
neither false b e = (refl, e)

-- a shift is doubled
shift_doubles_by : (b : ℕ) (t u : Bool) → (b == 60) ≡ t → (b == 62) ≡ u → shifts b ≡ true → doubles b ≡ true
shift_doubles_by b true u e f h = subst (λ n. doubles n ≡ true) (sym (eqb-true b 60 e)) refl
shift_doubles_by b false true e f h = subst (λ n. doubles n ≡ true) (sym (eqb-true b 62 f)) refl
shift_doubles_by b false false e f h = absurd (let none : shifts b ≡ false = neither_true (b == 60) (b == 62 || false) e (neither_true (b == 62) false f refl) in let no : true ≡ false = sym h ∙ none in cc)

pub shift_doubles : (b : ℕ) → shifts b ≡ true → doubles b ≡ true
shift_doubles b h = shift_doubles_by b (b == 60) (b == 62) refl refl h

shift_no_equals_by : (b : ℕ) (t : Bool) → (b == 61) ≡ t → shifts b ≡ true → t ≡ false
shift_no_equals_by b true e h = absurd (let no : true ≡ false = sym h ∙ subst (λ n. shifts n ≡ false) (sym (eqb-true b 61 e)) refl in cc)
shift_no_equals_by b false e h = refl

pub shift_no_equals : (b : ℕ) → shifts b ≡ true → (b == 61) ≡ false
shift_no_equals b h = shift_no_equals_by b (b == 61) refl h
