-- The letter of an operand.
use Rattle.std.proofs.Common.{◌≡◌, ℕ, zero, suc, ◌<◌, ◌≤◌, List, [], ◌∷◌, length, get_or, refl, arith}
use Rattle.acpi_values.specs.Operators.{Kept}
use Rattle.acpi_values.specs.Operators as L
use Rattle.asl_operators.specs.declared.letter.Letter.{Letter}
use Rattle.asl_operators.specs.Letters.{letter_as, letters_as}
use Rattle.aml_sizes.specs.Leaves.{letter_number, letters_behind}

pub letter_is : (letters : List Letter) (i : ℕ) (d : Letter) → i < length letters → letter_number (letters_as letters) i ≡ letter_as (get_or letters i d)
letter_is [] i d lt = absurd (omega (arith, lt))
letter_is (letter ∷ letters) zero d lt = refl
letter_is (letter ∷ letters) (suc i) d lt = letter_is letters i d (omega (arith, lt))

pub no_letter : (letters : List Letter) (i : ℕ) → length letters ≤ i → letter_number (letters_as letters) i ≡ Kept
no_letter [] i le = refl
no_letter (letter ∷ letters) zero le = absurd (omega (arith, le))
no_letter (letter ∷ letters) (suc i) le = no_letter letters i (omega (arith, le))

pub next_letter : (letters : List L.Letter) (i : ℕ) → letter_number (letters_behind letters) i ≡ letter_number letters (suc i)
next_letter [] i = refl
next_letter (letter ∷ letters) i = refl
