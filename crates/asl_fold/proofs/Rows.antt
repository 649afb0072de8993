-- Worked programs with their constants folded, computed from the definitions alone.
use Rattle.std.proofs.Common.{◌≡◌, ℕ, true, false, refl}
use Rattle.acpi_values.specs.declared.width.Width.TheVariants.{W32, W64}
use Rattle.acpi_values.specs.declared.operator.IntOp.{IntOp}
use Rattle.acpi_values.specs.declared.operator.DataOp.TheVariants as DataOp
use Rattle.acpi_values.specs.declared.operator.Plain.{Plain}
use Rattle.acpi_state.specs.Forms.{LocalSlot}
use Rattle.asl_tree.specs.declared.path.Path.{Path}
use Rattle.asl_tree.specs.declared.term.Literal.TheVariants as Literal
use Rattle.asl_tree.specs.Tree.{At, Tree, Integer, Constant, InSlot, Omitted, Use, Apply, Package, VarPackage, Return, Trees, no_trees, tree}
use Rattle.asl_fold.specs.Folds.{folded, folded_all}

-- which node a name is makes no difference here
abbrev here : At
here = record { id = 0; place = record { file = 0; line = 0; column = 0 } }

abbrev local : ℕ → Tree
local n = InSlot (LocalSlot n)

abbrev one : Tree → Trees
one t = tree t no_trees

abbrev two : Tree → Tree → Trees
two t u = tree t (tree u no_trees)

-- an operator with its operands and its targets, and a Store
abbrev called : IntOp → Trees → Trees → Tree
called op args targets = Apply (Plain.Number op) args targets

abbrev store : Tree → Tree → Tree
store value target = Apply (Plain.Data DataOp.Store) (two value target) no_trees

-- Local0 = 2 + 3
sum : folded_all W64 (one (called IntOp.Add (two (Integer 2) (Integer 3)) (one (local 0)))) ≡ one (store (Integer 5) (local 0))
sum = refl

-- Local0 = 0xFFFFFFFF + 1, in a table of 32 bits and in one of 64
short : folded_all W32 (one (called IntOp.Add (two (Integer 0xFFFFFFFF) (Integer 1)) (one (local 0)))) ≡ one (store (Integer 0) (local 0))
short = refl

long : folded_all W64 (one (called IntOp.Add (two (Integer 0xFFFFFFFF) (Integer 1)) (one (local 0)))) ≡ one (store (Integer 0x100000000) (local 0))
long = refl

-- Return ((2 + 3) * One - Ones)
nested : folded W64 true (Return (called IntOp.Subtract (two (called IntOp.Multiply (two (called IntOp.Add (two (Integer 2) (Integer 3)) (one Omitted)) (Constant Literal.One)) (one Omitted)) (Constant Literal.Ones)) (one Omitted)))
    ≡ Return (Integer 6)
nested = refl

-- Store (1 / 0, Local0), and Local0 = 1 / 0
fault : folded W64 true (store (called IntOp.Divide (two (Integer 1) (Integer 0)) (two Omitted Omitted)) (local 0)) ≡ store (called IntOp.Divide (two (Integer 1) (Integer 0)) (two Omitted Omitted)) (local 0)
fault = refl

stored_fault : folded W64 true (called IntOp.Divide (two (Integer 1) (Integer 0)) (two Omitted (local 0))) ≡ called IntOp.Divide (two (Integer 1) (Integer 0)) (two Omitted (local 0))
stored_fault = refl

-- Divide (7, 2, , Local0), and with a target for the remainder
quotient : folded W64 true (called IntOp.Divide (two (Integer 7) (Integer 2)) (two Omitted (local 0))) ≡ store (Integer 3) (local 0)
quotient = refl

remainder : folded W64 true (called IntOp.Divide (two (Integer 7) (Integer 2)) (two (local 1) (local 0))) ≡ called IntOp.Divide (two (Integer 7) (Integer 2)) (two (local 1) (local 0))
remainder = refl

module _ (name : Path) where
  -- Add (2, 3, X) of a named X, which is folded as a statement and stays as an operand
  abbrev into : Tree
  into = called IntOp.Add (two (Integer 2) (Integer 3)) (one (Use here name))

  statement : folded_all W64 (one into) ≡ one (store (Integer 5) (Use here name))
  statement = refl

  operand : folded_all W64 (one (Return into)) ≡ one (Return into)
  operand = refl

  -- one with a Local is folded as an operand too, and is no constant then
  local_operand : folded_all W64 (one (called IntOp.Add (two (called IntOp.Add (two (Integer 2) (Integer 3)) (one (local 1))) (Integer 1)) (one (local 0))))
      ≡ one (called IntOp.Add (two (store (Integer 5) (local 1)) (Integer 1)) (one (local 0)))
  local_operand = refl

-- a constant as a statement
alone : folded_all W64 (one (called IntOp.LNot (one (Integer 0)) no_trees)) ≡ one (Integer 0xFFFFFFFFFFFFFFFF)
alone = refl

-- FromBCD (0x1A) faults
bad_digit : folded W64 true (called IntOp.FromBcd (one (Integer 0x1A)) (one (local 0))) ≡ called IntOp.FromBcd (one (Integer 0x1A)) (one (local 0))
bad_digit = refl

-- Increment (Local0) is no operator on integers
increment : folded W64 true (Apply (Plain.Data DataOp.Increment) (one (local 0)) no_trees) ≡ Apply (Plain.Data DataOp.Increment) (one (local 0)) no_trees
increment = refl

-- Package (1 + 1) {}, and Package (255 + 1) {}
small : folded W64 false (VarPackage (called IntOp.Add (two (Integer 1) (Integer 1)) (one Omitted)) no_trees) ≡ Package 2 no_trees
small = refl

large : folded W64 false (VarPackage (called IntOp.Add (two (Integer 255) (Integer 1)) (one Omitted)) no_trees) ≡ VarPackage (Integer 256) no_trees
large = refl
