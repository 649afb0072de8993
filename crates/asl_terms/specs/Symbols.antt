-- What each symbol stands for (ACPI Specification 6.4, 19.2.6).
use Rattle.acpi_values.specs.declared.operator.IntOp.{IntOp}
use Rattle.acpi_values.specs.declared.operator.DataOp.{DataOp}
use Rattle.acpi_values.specs.declared.operator.Plain.{Plain}
use Rattle.asl_syntax.specs.declared.raw.Infix.{Infix}
use Rattle.asl_tree.specs.declared.term.Compound.TheVariants as Compound
use Rattle.asl_tree.specs.declared.term.Compound.{Compound as CompoundOp}
use Rattle.asl_tree.specs.declared.term.Op.{Op}
use Rattle.asl_tree.specs.declared.term.Symbolic.{Symbolic}

abbrev number : IntOp → Op
number op = Op.Symbolic (Symbolic.Operator (Plain.Number op))

abbrev data' : DataOp → Op
data' op = Op.Symbolic (Symbolic.Operator (Plain.Data op))

abbrev by : CompoundOp → Op
by op = Op.Symbolic (Symbolic.AssignBy op)

abbrev pub symbol_of : Infix → Op
symbol_of Infix.Index = data' DataOp.Index
symbol_of Infix.Increment = data' DataOp.Increment
symbol_of Infix.Decrement = data' DataOp.Decrement
symbol_of Infix.LogicalNot = number IntOp.LNot
symbol_of Infix.Not = number IntOp.Not
symbol_of Infix.Multiply = number IntOp.Multiply
symbol_of Infix.Divide = number IntOp.Divide
symbol_of Infix.Modulo = number IntOp.Mod
symbol_of Infix.Add = number IntOp.Add
symbol_of Infix.Subtract = number IntOp.Subtract
symbol_of Infix.ShiftLeft = number IntOp.ShiftLeft
symbol_of Infix.ShiftRight = number IntOp.ShiftRight
symbol_of Infix.Less = number IntOp.LLess
symbol_of Infix.Greater = number IntOp.LGreater
symbol_of Infix.LessEqual = number IntOp.LLessEqual
symbol_of Infix.GreaterEqual = number IntOp.LGreaterEqual
symbol_of Infix.Equal = number IntOp.LEqual
symbol_of Infix.NotEqual = number IntOp.LNotEqual
symbol_of Infix.And = number IntOp.And
symbol_of Infix.Xor = number IntOp.Xor
symbol_of Infix.Or = number IntOp.Or
symbol_of Infix.LogicalAnd = number IntOp.LAnd
symbol_of Infix.LogicalOr = number IntOp.LOr
symbol_of Infix.Assign = Op.Symbolic Symbolic.Assign
symbol_of Infix.AddAssign = by Compound.Add
symbol_of Infix.SubtractAssign = by Compound.Subtract
symbol_of Infix.MultiplyAssign = by Compound.Multiply
symbol_of Infix.DivideAssign = by Compound.Divide
symbol_of Infix.ModuloAssign = by Compound.Mod
symbol_of Infix.ShiftLeftAssign = by Compound.ShiftLeft
symbol_of Infix.ShiftRightAssign = by Compound.ShiftRight
symbol_of Infix.AndAssign = by Compound.And
symbol_of Infix.OrAssign = by Compound.Or
symbol_of Infix.XorAssign = by Compound.Xor
