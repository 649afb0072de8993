-- Letters in code.
use Rattle.std.proofs.Common.{◌≡◌, ℕ, zero, suc, List, [], ◌∷◌, refl}
use Rattle.std.specs.Prelude.{slice_get}
use Rattle.asl_operators.specs.declared.letter.Letter.{Letter}
use Rattle.asl_operators.specs.Letters.{letters_as}
use Rattle.type_checks.specs.Kinds.{by_code, by_letter}

pub code_wanted : (letters : List Letter) (i : ℕ) → by_code (slice_get letters i) ≡ by_letter (slice_get (letters_as letters) i)
code_wanted [] zero = refl
code_wanted [] (suc i) = refl
code_wanted (letter ∷ letters) zero = refl
code_wanted (letter ∷ letters) (suc i) = code_wanted letters i
