-- Operands by their numbers.
use Rattle.std.proofs.Common.{◌≡◌, ℕ, zero, suc, ◌<◌, ◌≤◌, List, [], ◌∷◌, length, get_or, false, refl, ap, arith}
use Rattle.asl_operators.specs.Letters.{letter_as, letters_as}
use Rattle.asl_operators.specs.declared.letter.Letter.{Letter}
use Rattle.descriptor_fields.specs.Values.{has_value, is_operand}

pub letter_some : (letters : List Letter) (n : ℕ) (letter : Letter) → n < length letters → letter ≡ get_or letters n letter → has_value (letter_as letter) ≡ is_operand (letters_as letters) n
letter_some [] n letter lt e = absurd (omega (arith, lt))
letter_some (l ∷ letters) zero letter lt e = ap (λ x. has_value (letter_as x)) e
letter_some (l ∷ letters) (suc n) letter lt e = letter_some letters n letter (omega (arith, lt)) e

pub letter_none : (letters : List Letter) (n : ℕ) → length letters ≤ n → false ≡ is_operand (letters_as letters) n
letter_none [] zero le = refl
letter_none [] (suc n) le = refl
letter_none (l ∷ letters) zero le = absurd (omega (arith, le))
letter_none (l ∷ letters) (suc n) le = letter_none letters n (omega (arith, le))
