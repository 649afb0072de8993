-- Terms whose forms all fit their arguments.
use Rattle.asl_tree.specs.Tree.{Tree, Call, Apply, Operated, Assigned, AssignedBy, Buffer, Package, VarPackage, CondRefOf, Return, Name}
use Rattle.asl_tree.specs.Tree.{Method, Container', Scope, If, ElseIf, Else, While, For, Print, Switch, Case, Default, OperationRegion}
use Rattle.asl_tree.specs.Tree.{BankField, CreateField, Misshapen, Trees, no_trees, tree}

abbrev mutual
  pub IsWhole : Tree → Type 0
  IsWhole (Call at name args) = AreWhole args
  IsWhole (Apply op args targets) = AreWhole args × AreWhole targets
  IsWhole (Operated op args) = AreWhole args
  IsWhole (Assigned target value) = IsWhole target × IsWhole value
  IsWhole (AssignedBy op target value) = IsWhole target × IsWhole value
  IsWhole (Buffer size bytes) = IsWhole size
  IsWhole (Package n elements) = AreWhole elements
  IsWhole (VarPackage size elements) = IsWhole size × AreWhole elements
  IsWhole (CondRefOf place target) = IsWhole place × IsWhole target
  IsWhole (Return value) = IsWhole value
  IsWhole (Name at name value) = IsWhole value
  IsWhole (Method at name flags body) = AreWhole body
  IsWhole (Container' kind at name body) = AreWhole body
  IsWhole (Scope here at name body) = AreWhole body
  IsWhole (If test body) = IsWhole test × AreWhole body
  IsWhole (ElseIf test body) = IsWhole test × AreWhole body
  IsWhole (Else body) = AreWhole body
  IsWhole (While test body) = IsWhole test × AreWhole body
  IsWhole (For start test step body) = IsWhole start × IsWhole test × IsWhole step × AreWhole body
  IsWhole (Print place format args) = IsWhole place × AreWhole args
  IsWhole (Switch value cases) = IsWhole value × AreWhole cases
  IsWhole (Case value body) = IsWhole value × AreWhole body
  IsWhole (Default body) = AreWhole body
  IsWhole (OperationRegion at name space args) = AreWhole args
  IsWhole (BankField here from region to bank value flags items) = IsWhole value
  IsWhole (CreateField form args at name) = AreWhole args
  IsWhole Misshapen = ⊥
  IsWhole term = Unit {0}

  pub AreWhole : Trees → Type 0
  AreWhole no_trees = Unit {0}
  AreWhole (tree term terms) = IsWhole term × AreWhole terms
