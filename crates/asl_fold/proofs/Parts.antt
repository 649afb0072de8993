-- Which operands are constants of so many bytes, by the letters of the code.
use Rattle.std.proofs.Common.{◌≡◌, ℕ, zero, suc, List, [], ◌∷◌, Option, refl, sym, ap, ◌∙◌}
use Rattle.std.specs.Prelude.{slice_get}
use Rattle.asl_operators.specs.Letters.{letters_as}
use Rattle.asl_operators.specs.declared.letter.Letter.{Letter}
use Rattle.acpi_values.specs.Operators as L
use Rattle.asl_fold.specs.Nodes.{raw_at, raw_code}

pub raw_is : (letters : List Letter) (i : ℕ) → raw_at (letters_as letters) i ≡ raw_code (slice_get letters i)
raw_is [] i = refl
raw_is (letter ∷ letters) zero = refl
raw_is (letter ∷ letters) (suc i) = raw_is letters i

pub raw_found : (letters : List Letter) (row : List L.Letter) (i : ℕ) (found : Option Letter) → letters_as letters ≡ row → found ≡ slice_get letters i → raw_code found ≡ raw_at row i
raw_found letters row i found e f = ap raw_code f ∙ sym (raw_is letters i) ∙ ap (λ ls. raw_at ls i) e
