-- The operators of a condition, on unsigned numbers of 64 bits that wrap, and what a row of operands is worth.
use Rattle.std.specs.Prelude.{ℕ, zero, suc, ◌+◌, ◌-◌, ◌*◌, ◌/◌, ◌%◌, ◌^◌, ◌==◌, ◌&&◌, ◌||◌, not, if◌then◌else◌, nat_lt, nat_le, bit_and}
use Rattle.std.specs.Prelude.{bit_or, bit_xor, Bool, List, [], ◌∷◌, Option, Some, None}
use Rattle.std.specs.Option.{option_map, option_and_then}
use Rattle.asl_conditions.specs.declared.operators.ConditionPrefix.{ConditionPrefix}
use Rattle.asl_conditions.specs.declared.operators.ConditionPrefix.TheVariants.{Not, Complement}
use Rattle.asl_conditions.specs.declared.operators.ConditionInfix.{ConditionInfix}
use Rattle.asl_conditions.specs.declared.operators.ConditionInfix.TheVariants as op
use Rattle.asl_conditions.specs.declared.operators.Operand.{Operand}

-- 1 for true, 0 for false
abbrev pub truth : Bool → ℕ
truth b = if b then 1 else 0

abbrev pub apply_prefix : ConditionPrefix → ℕ → ℕ
apply_prefix Not x = truth (x == 0)
apply_prefix Complement x = 2 ^ 64 - 1 - x

-- what an operator gives; none where it divides by 0
abbrev pub apply : ConditionInfix → ℕ → ℕ → Option ℕ
apply op.Multiply x y = Some ((x * y) % 2 ^ 64)
apply op.Divide x y = if y == 0 then None else Some (x / y)
apply op.Remainder x y = if y == 0 then None else Some (x % y)
apply op.Add x y = Some ((x + y) % 2 ^ 64)
apply op.Subtract x y = Some ((x + (2 ^ 64 - y)) % 2 ^ 64)
apply op.ShiftLeft x y = Some (if nat_lt y 64 then (x * 2 ^ y) % 2 ^ 64 else 0)
apply op.ShiftRight x y = Some (if nat_lt y 64 then x / 2 ^ y else 0)
apply op.Less x y = Some (truth (nat_lt x y))
apply op.AtMost x y = Some (truth (nat_le x y))
apply op.Greater x y = Some (truth (nat_lt y x))
apply op.AtLeast x y = Some (truth (nat_le y x))
apply op.Equal x y = Some (truth (x == y))
apply op.Unequal x y = Some (truth (not (x == y)))
apply op.BitAnd x y = Some (bit_and x y)
apply op.BitXor x y = Some (bit_xor x y)
apply op.BitOr x y = Some (bit_or x y)
apply op.Both x y = Some (truth (not (x == 0) && not (y == 0)))
apply op.Either x y = Some (truth (not (x == 0) || not (y == 0)))

-- how tightly an operator holds its operands; 1 is the tightest
abbrev pub level_of : ConditionInfix → ℕ
level_of op.Multiply = 1
level_of op.Divide = 1
level_of op.Remainder = 1
level_of op.Add = 2
level_of op.Subtract = 2
level_of op.ShiftLeft = 3
level_of op.ShiftRight = 3
level_of op.Less = 4
level_of op.AtMost = 4
level_of op.Greater = 4
level_of op.AtLeast = 4
level_of op.Equal = 5
level_of op.Unequal = 5
level_of op.BitAnd = 6
level_of op.BitXor = 7
level_of op.BitOr = 8
level_of op.Both = 9
level_of op.Either = 10

-- ---- a row: operands, each with the operator behind it, and the last operand

abbrev pub operand : ℕ → ConditionInfix → Operand
operand value operator = record { value = value; operator = operator }

-- the operator that still waits for its right operand, where one does, applied to that
abbrev pub with_left : Option Operand → ℕ → Option ℕ
with_left None x = Some x
with_left (Some left) x = apply left.operator left.value x

-- A row in which the operators of one level are applied, from the left.
unfoldable pub pass : ℕ → Option Operand → List Operand → ℕ → Option (List Operand × ℕ)
pass level left [] last = option_map (λ value. ([], value)) (with_left left last)
pass level left (x ∷ row) last =
    option_and_then (λ value.
    if level_of x.operator == level then pass level (Some (operand value x.operator)) row last
    else option_map (λ (r : List Operand × ℕ). (operand value x.operator ∷ r.0, r.1)) (pass level None row last)) (with_left left x.value)

-- so many levels, one after another
unfoldable pub passes : ℕ → ℕ → List Operand → ℕ → Option ℕ
passes zero level row last = Some last
passes (suc levels) level row last = option_and_then (λ (r : List Operand × ℕ). passes levels (level + 1) r.0 r.1)
    (pass level None row last)

-- what a row is worth: the operators of each level are applied from the left, the tightest level first
abbrev pub row_value : List Operand → ℕ → Option ℕ
row_value row last = passes 10 1 row last
