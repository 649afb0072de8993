-- A program with its symbolic operators named (ACPI Specification 6.4, 19.2.6 and 19.6).
use Rattle.std.specs.Prelude.{ℕ, zero, suc, Bool, true, false, Option, Some, None}
use Rattle.acpi_values.specs.declared.operator.Plain.{Plain}
use Rattle.acpi_values.specs.declared.operator.DataOp.TheVariants as DataOp
use Rattle.acpi_values.specs.Operators.{row_of}
use Rattle.asl_tree.specs.declared.term.Compound.{Compound}
use Rattle.asl_tree.specs.declared.term.Control.TheVariants as Control
use Rattle.asl_tree.specs.declared.term.Declaration.TheVariants as Declaration
use Rattle.asl_tree.specs.declared.term.Op.{Op}
use Rattle.asl_tree.specs.declared.term.Special.TheVariants as Special
use Rattle.asl_tree.specs.Symbols.{compound_operator}
use Rattle.asl_tree.specs.Tree.{Tree, Omitted, Call, Apply, Buffer, Package, VarPackage, CondRefOf, Return, Name, Method, Container'}
use Rattle.asl_tree.specs.Tree.{Scope, If, ElseIf, Else, While, For, Print, OperationRegion, BankField, CreateField, Operated, Assigned}
use Rattle.asl_tree.specs.Tree.{AssignedBy, Misshapen, Trees, no_trees, tree, Switch, Case, Default}
use Rattle.asl_meaning.specs.Meaning.{target_operator}

-- an operand that is left out has no value
abbrev pub given : Tree → Tree
given Omitted = Misshapen
given term = term

-- so many targets, of which the last one is given
abbrev pub last_target : ℕ → Tree → Trees
last_target zero target = no_trees
last_target (suc zero) target = tree target no_trees
last_target (suc (suc n)) target = tree Omitted (last_target (suc n) target)

-- an operator with a target, which may be left out
abbrev pub applied : Plain → Trees → Tree → Tree
applied op args target = Apply op args (last_target (row_of op).targets target)

-- `X = E`: the operator of E with the target X, or else Store (E, X)
abbrev pub assigned_operator : Option Plain → Plain
assigned_operator (Some op) = op
assigned_operator None = Plain.Data DataOp.Store

abbrev pub assigned_operands : Option Plain → Trees → Tree → Tree → Trees
assigned_operands (Some op) args target value = args
assigned_operands None args target value = tree (given value) (tree target no_trees)

abbrev pub assigned_targets : Option Plain → Tree → Trees
assigned_targets (Some op) target = last_target (row_of op).targets target
assigned_targets None target = no_trees

abbrev pub assigned : Option Plain → Trees → Tree → Tree → Tree
assigned o args target value = Apply (assigned_operator o) (assigned_operands o args target value) (assigned_targets o target)

-- `X op= Y`: the operator on X and Y with the target X
abbrev pub assigned_by : Compound → Tree → Tree → Tree
assigned_by op target value = applied (compound_operator op) (tree (given target) (tree (given value) no_trees)) target

abbrev mutual
  pub named : Tree → Tree
  named (Call at name args) = Call at name (named_all args)
  named (Apply op args targets) = Apply op (named_all args) (named_all targets)
  named (Operated op args) = applied op (named_all args) Omitted
  named (Assigned target value) = assigned (target_operator value) (inner_args value) (named target) (named value)
  named (AssignedBy op target value) = assigned_by op (named target) (named value)
  named (Buffer size bytes) = Buffer (named size) bytes
  named (Package n elements) = Package n (named_all elements)
  named (VarPackage size elements) = VarPackage (named size) (named_all elements)
  named (CondRefOf place target) = CondRefOf (named place) (named target)
  named (Return value) = Return (named value)
  named (Name at name value) = Name at name (named value)
  named (Method at name flags body) = Method at name flags (named_all body)
  named (Container' kind at name body) = Container' kind at name (named_all body)
  named (Scope here at name body) = Scope here at name (named_all body)
  named (If test body) = If (named test) (named_all body)
  named (ElseIf test body) = ElseIf (named test) (named_all body)
  named (Else body) = Else (named_all body)
  named (While test body) = While (named test) (named_all body)
  named (For start test step body) = For (named start) (named test) (named step) (named_all body)
  named (Print place format args) = Print (named place) format (named_all args)
  named (Switch value cases) = Switch (named value) (named_all cases)
  named (Case value body) = Case (named value) (named_all body)
  named (Default body) = Default (named_all body)
  named (OperationRegion at name space args) = OperationRegion at name space (named_all args)
  named (BankField here from region to bank value flags items) = BankField here from region to bank (named value) flags items
  named (CreateField form args at name) = CreateField form (named_all args) at name
  named term = term

  -- the operands of a symbolic operator
  pub inner_args : Tree → Trees
  inner_args (Operated op args) = named_all args
  inner_args _ = no_trees

  -- terms each by itself
  pub named_all : Trees → Trees
  named_all no_trees = no_trees
  named_all (tree term terms) = tree (named term) (named_all terms)

-- what stands in the braces of a form: terms, the elements of a Package, or what is kept as it is
abbrev pub named_body : Op → Trees → Trees
named_body (Op.Special Special.Package) body = named_all body
named_body (Op.Declaration Declaration.Method) body = named_all body
named_body (Op.Declaration Declaration.Device) body = named_all body
named_body (Op.Declaration Declaration.ThermalZone) body = named_all body
named_body (Op.Declaration Declaration.PowerResource) body = named_all body
named_body (Op.Declaration Declaration.Processor) body = named_all body
named_body (Op.Declaration Declaration.Scope) body = named_all body
named_body (Op.Control Control.If) body = named_all body
named_body (Op.Control Control.ElseIf) body = named_all body
named_body (Op.Control Control.Else) body = named_all body
named_body (Op.Control Control.While) body = named_all body
named_body (Op.Control Control.For) body = named_all body
named_body (Op.Control Control.Switch) body = named_all body
named_body (Op.Control Control.Case) body = named_all body
named_body (Op.Control Control.Default) body = named_all body
named_body op body = body

abbrev pub is_symbolic : Op → Bool
is_symbolic (Op.Symbolic symbol) = true
is_symbolic op = false
