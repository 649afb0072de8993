-- Runs of If, ElseIf and Else: in a list they stand side by side, and in bytes, which know no ElseIf, one in another (ACPI
-- Specification 6.4, 19.6 and 20.2.5.3).
use Rattle.asl_tree.specs.Tree.{Tree, Call, Apply, Operated, Assigned, AssignedBy, Buffer, Package, VarPackage, CondRefOf, Return, Name}
use Rattle.asl_tree.specs.Tree.{Method, Container', Scope, If, ElseIf, Else, While, For, Print, OperationRegion, BankField, CreateField}
use Rattle.asl_tree.specs.Tree.{Trees, no_trees, tree, Switch, Case, Default}

-- a term before those behind it: an ElseIf is an If in an Else, into which it takes the Else behind it
abbrev pub before : Tree → Trees → Trees
before (ElseIf test body) (tree (Else other) rest) = tree (Else (tree (If test body) (tree (Else other) no_trees))) rest
before (ElseIf test body) rest = tree (Else (tree (If test body) no_trees)) rest
before term rest = tree term rest

abbrev mutual
  -- a term with the runs in it nested
  pub nested_in : Tree → Tree
  nested_in (Call at name args) = Call at name (nested_args args)
  nested_in (Apply op args targets) = Apply op (nested_args args) (nested_args targets)
  nested_in (Operated op args) = Operated op (nested_args args)
  nested_in (Assigned target value) = Assigned (nested_in target) (nested_in value)
  nested_in (AssignedBy op target value) = AssignedBy op (nested_in target) (nested_in value)
  nested_in (Buffer size bytes) = Buffer (nested_in size) bytes
  nested_in (Package n elements) = Package n (nested_args elements)
  nested_in (VarPackage size elements) = VarPackage (nested_in size) (nested_args elements)
  nested_in (CondRefOf place target) = CondRefOf (nested_in place) (nested_in target)
  nested_in (Return value) = Return (nested_in value)
  nested_in (Name at name value) = Name at name (nested_in value)
  nested_in (Method at name flags body) = Method at name flags (nested_all body)
  nested_in (Container' kind at name body) = Container' kind at name (nested_all body)
  nested_in (Scope here at name body) = Scope here at name (nested_all body)
  nested_in (If test body) = If (nested_in test) (nested_all body)
  nested_in (ElseIf test body) = ElseIf (nested_in test) (nested_all body)
  nested_in (Else body) = Else (nested_all body)
  nested_in (While test body) = While (nested_in test) (nested_all body)
  nested_in (For start test step body) = For (nested_in start) (nested_in test) (nested_in step) (nested_all body)
  nested_in (Print place format args) = Print (nested_in place) format (nested_args args)
  nested_in (Switch value cases) = Switch (nested_in value) (nested_all cases)
  nested_in (Case value body) = Case (nested_in value) (nested_all body)
  nested_in (Default body) = Default (nested_all body)
  nested_in (OperationRegion at name space args) = OperationRegion at name space (nested_args args)
  nested_in (BankField here from region to bank value flags items) = BankField here from region to bank (nested_in value) flags items
  nested_in (CreateField form args at name) = CreateField form (nested_args args) at name
  nested_in term = term

  -- terms each by itself: arguments, and the elements of a Package
  pub nested_args : Trees → Trees
  nested_args no_trees = no_trees
  nested_args (tree term terms) = tree (nested_in term) (nested_args terms)

  -- the terms of a list, from its last on
  pub nested_all : Trees → Trees
  nested_all no_trees = no_trees
  nested_all (tree term terms) = before (nested_in term) (nested_all terms)
