-- The operators that symbols stand for (ACPI Specification 6.4, 19.2.6).
use Rattle.std.specs.Prelude.{Bool, false, not, nat_eq}
use Rattle.acpi_values.specs.declared.operator.IntOp.TheVariants as IntOp
use Rattle.acpi_values.specs.declared.operator.Plain.{Plain}
use Rattle.acpi_values.specs.Operators.{row_of}
use Rattle.asl_tree.specs.declared.term.Compound.{Compound}

-- the operator of `X op= Y`
abbrev pub compound_operator : Compound → Plain
compound_operator Compound.Add = Plain.Number IntOp.Add
compound_operator Compound.Subtract = Plain.Number IntOp.Subtract
compound_operator Compound.Multiply = Plain.Number IntOp.Multiply
compound_operator Compound.Divide = Plain.Number IntOp.Divide
compound_operator Compound.Mod = Plain.Number IntOp.Mod
compound_operator Compound.ShiftLeft = Plain.Number IntOp.ShiftLeft
compound_operator Compound.ShiftRight = Plain.Number IntOp.ShiftRight
compound_operator Compound.And = Plain.Number IntOp.And
compound_operator Compound.Or = Plain.Number IntOp.Or
compound_operator Compound.Xor = Plain.Number IntOp.Xor

-- whether `X = E` gives the operator of E the target X: an operator on integers that has one
abbrev pub takes_target : Plain → Bool
takes_target (Plain.Number op) = not (nat_eq (row_of (Plain.Number op)).targets 0)
takes_target op = false
