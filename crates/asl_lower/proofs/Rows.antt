-- Worked programs with their operators named, computed from the definitions alone.
use Rattle.std.proofs.Common.{◌≡◌, ℕ, refl}
use Rattle.acpi_values.specs.declared.operator.IntOp.{IntOp}
use Rattle.acpi_values.specs.declared.operator.DataOp.TheVariants as DataOp
use Rattle.acpi_values.specs.declared.operator.Plain.{Plain}
use Rattle.acpi_state.specs.Forms.{LocalSlot, ArgSlot}
use Rattle.asl_tree.specs.declared.term.Compound.{Compound}
use Rattle.asl_tree.specs.declared.term.Op.{Op}
use Rattle.asl_tree.specs.declared.term.Symbolic.TheVariants as Symbolic
use Rattle.asl_tree.specs.Tree.{At, Tree, Integer, InSlot, Omitted, Apply, Assigned, AssignedBy, Trees, no_trees, tree}
use Rattle.asl_tree.specs.View.{form}
use Rattle.asl_lower.specs.Nodes.{named}

-- which node a form is makes no difference here
abbrev here : At
here = record { id = 0; place = record { file = 0; line = 0; column = 0 } }

abbrev local : ℕ → Tree
local n = InSlot (LocalSlot n)

abbrev one : Tree → Trees
one t = tree t no_trees

abbrev two : Tree → Tree → Trees
two t u = tree t (tree u no_trees)

abbrev number : IntOp → Plain
number op = Plain.Number op

-- an operator as it is written, and one with its name and a target
abbrev written : IntOp → Tree → Tree → Tree
written op t u = form here (Op.Symbolic (Symbolic.Operator (number op))) (two t u) no_trees

abbrev called : IntOp → Tree → Tree → Tree → Tree
called op t u target = Apply (number op) (two t u) (one target)

abbrev store : Tree → Tree → Tree
store value target = Apply (Plain.Data DataOp.Store) (two value target) no_trees

-- Local0 = (Arg0 + 1) * 2
product : named (Assigned (local 0) (written IntOp.Multiply (written IntOp.Add (InSlot (ArgSlot 0)) (Integer 1)) (Integer 2)))
    ≡ called IntOp.Multiply (called IntOp.Add (InSlot (ArgSlot 0)) (Integer 1) Omitted) (Integer 2) (local 0)
product = refl

-- Local0 = Local1 - Local2 - Local3
difference : named (Assigned (local 0) (written IntOp.Subtract (written IntOp.Subtract (local 1) (local 2)) (local 3)))
    ≡ called IntOp.Subtract (called IntOp.Subtract (local 1) (local 2) Omitted) (local 3) (local 0)
difference = refl

-- Local0 = Local1 = Local2
chain : named (Assigned (local 0) (Assigned (local 1) (local 2))) ≡ store (store (local 2) (local 1)) (local 0)
chain = refl

-- Local0 = 1 / 0, with no target for the remainder
quotient : named (Assigned (local 0) (written IntOp.Divide (Integer 1) (Integer 0))) ≡ Apply (number IntOp.Divide) (two (Integer 1) (Integer 0)) (two Omitted (local 0))
quotient = refl

-- Local0 = Local1 == Local2 is a Store, and Local0 = ~Local1 is not
equality : named (Assigned (local 0) (written IntOp.LEqual (local 1) (local 2))) ≡ store (Apply (number IntOp.LEqual) (two (local 1) (local 2)) no_trees) (local 0)
equality = refl

complement : named (Assigned (local 0) (form here (Op.Symbolic (Symbolic.Operator (number IntOp.Not))) (one (local 1)) no_trees)) ≡ Apply (number IntOp.Not) (one (local 1)) (one (local 0))
complement = refl

-- Local0 != Local1, and the named operator
unequal : named (written IntOp.LNotEqual (local 0) (local 1)) ≡ form here (Op.Plain (number IntOp.LNotEqual)) (two (local 0) (local 1)) no_trees
unequal = refl

-- Local0 <<= Local1, and Local0 /= Local1
shifted : named (AssignedBy Compound.ShiftLeft (local 0) (local 1)) ≡ called IntOp.ShiftLeft (local 0) (local 1) (local 0)
shifted = refl

divided : named (AssignedBy Compound.Divide (local 0) (local 1)) ≡ Apply (number IntOp.Divide) (two (local 0) (local 1)) (two Omitted (local 0))
divided = refl

-- Local0[1] = Local2: a Store into the element
element : named (Assigned (form here (Op.Symbolic (Symbolic.Operator (Plain.Data DataOp.Index))) (two (local 0) (Integer 1)) no_trees) (local 2))
    ≡ store (local 2) (Apply (Plain.Data DataOp.Index) (two (local 0) (Integer 1)) (one Omitted))
element = refl
