-- Which bytes some classes have.
use Rattle.std.proofs.Common.{◌≡◌, ℕ, Bool, true, false, refl, sym, subst, ◌∙◌}
use Rattle.std.specs.Prelude.{◌==◌, ◌||◌, if◌then◌else◌, codes}
use Rattle.std.specs.Char.{is_digit}
use Rattle.std.proofs.lemmas.Bool.{eqb-true}
use Rattle.asl_lexer.specs.declared.class.Class.{Class}
use Rattle.asl_lexer.specs.declared.class.Class.TheVariants as c
use Rattle.asl_lexer.specs.Class.{class_of, is_among, is_between, is_letter}

abbrev pub HasByte : Class → ℕ → Type 0
HasByte c.Break b = (b == 10) ≡ true
HasByte c.Backslash b = (b == 92) ≡ true
HasByte c.Quote b = (b == 34) ≡ true
HasByte c.Slash b = (b == 47) ≡ true
HasByte c.Star b = (b == 42) ≡ true
HasByte _ b = Unit {0}

choose : (t : Bool) (k rest : Class) (b : ℕ) → (t ≡ true → HasByte k b) → HasByte rest b → HasByte (if t then k else rest) b
choose true k rest b h r = h refl
choose false k rest b h r = r

alone : (t : Bool) → (t || false) ≡ true → t ≡ true
alone true e = refl
alone false e = e

pub class_byte : (b : ℕ) → HasByte (class_of b) b
unfolding class_of
class_byte b =
    choose (is_among (codes " \t") b) c.Blank _ b (λ e. tt) (
    choose (b == 10) c.Break _ b (λ e. e) (
    choose (is_letter b) c.Letter _ b (λ e. tt) (
    choose (is_among (codes "_") b) c.Underscore _ b (λ e. tt) (
    choose (b == 48) c.Zero _ b (λ e. tt) (
    choose (is_between 49 57 b) c.Digit _ b (λ e. tt) (
    choose (is_among (codes ".") b) c.Dot _ b (λ e. tt) (
    choose (is_among (codes "\\") b) c.Backslash _ b (λ e. alone (b == 92) e) (
    choose (is_among (codes "^") b) c.Caret _ b (λ e. tt) (
    choose (is_among (codes "\"") b) c.Quote _ b (λ e. alone (b == 34) e) (
    choose (is_among (codes "/") b) c.Slash _ b (λ e. alone (b == 47) e) (
    choose (is_among (codes "*") b) c.Star _ b (λ e. alone (b == 42) e) (
    choose (is_among (codes "=") b) c.Equals _ b (λ e. tt) (
    choose (is_among (codes "(){}[],;!~%+-<>&|") b) c.Sign c.Other b (λ e. tt) tt)))))))))))))

-- a byte of a class
pub byte_is : (k : Class) (b : ℕ) → class_of b ≡ k → HasByte k b
byte_is k b e = subst (λ j. HasByte j b) e (class_byte b)

-- and what is of another class is not that byte
pub byte_differs : (n : ℕ) (k : Class) (b : ℕ) → class_of n ≡ k → (class_of b ≡ k → ⊥) → (b == n) ≡ false
byte_differs n k b is other = by (b == n) refl
  where
    by : (t : Bool) → (b == n) ≡ t → t ≡ false
    by true e = absurd (other (subst (λ m. class_of m ≡ k) (sym (eqb-true b n e)) is))
    by false e = refl

pub quote_class : class_of 34 ≡ c.Quote
unfolding class_of
quote_class = refl

pub backslash_class : class_of 92 ≡ c.Backslash
unfolding class_of
backslash_class = refl

pub slash_class : class_of 47 ≡ c.Slash
unfolding class_of
slash_class = refl

pub star_class : class_of 42 ≡ c.Star
unfolding class_of
star_class = refl

pub break_class : class_of 10 ≡ c.Break
unfolding class_of
break_class = refl

-- a digit is no mark
pub no_digit : (n base b : ℕ) → is_digit n base ≡ false → is_digit b base ≡ true → (b == n) ≡ false
no_digit n base b none is = by (b == n) refl
  where
    by : (t : Bool) → (b == n) ≡ t → t ≡ false
    by true e = let no : true ≡ false = sym is ∙ subst (λ m. is_digit m base ≡ false) (sym (eqb-true b n e)) none in absurd cc
    by false e = refl

-- two bytes are not one
pub not_both : (n m b : ℕ) → (m == n) ≡ false → (b == m) ≡ true → (b == n) ≡ false
not_both n m b apart e = subst (λ k. (k == n) ≡ false) (sym (eqb-true b m e)) apart
