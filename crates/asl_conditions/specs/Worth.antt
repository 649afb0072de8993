-- What a row of operands with operators between them is worth: one rule for each level of the operators.
use Rattle.std.specs.Prelude.{◌≡◌, ℕ, suc, List, [], ◌∷◌, ◌++◌, Some}
use Rattle.asl_conditions.specs.declared.operators.ConditionInfix.{ConditionInfix}
use Rattle.asl_conditions.specs.declared.operators.Operand.{Operand}
use Rattle.asl_conditions.specs.Operators.{apply, level_of, operand}

-- These operands, each with the operator behind it, and the last operand are worth the value, where no operator
-- is above the level. An operator of the level has a row of its level on its left, and one of the tighter level
-- on its right: so operators of one level are applied from the left.
pub data IsWorth : ℕ → List Operand → ℕ → ℕ → Type 0 where
  alone : {level x : ℕ} → IsWorth level [] x x
  tighter : {level last value : ℕ} {xs : List Operand} → IsWorth level xs last value → IsWorth (suc level) xs last value
  applied : {level x last u v value : ℕ} (o : ConditionInfix) (xs ys : List Operand) → level_of o ≡ suc level → IsWorth (suc level) xs x u →
      IsWorth level ys last v → apply o u v ≡ Some value
      → IsWorth (suc level) (xs ++ operand x o ∷ ys) last value
