-- Terms in which no value is left out of which a Switch chooses.
use Rattle.asl_tree.specs.Tree.{Tree, Omitted, Package, VarPackage, Method, Container', Scope, If, ElseIf, Else, While, Switch, Case}
use Rattle.asl_tree.specs.Tree.{Default, Trees, no_trees, tree}

abbrev pub HasValue : Tree → Type 0
HasValue Omitted = ⊥
HasValue term = Unit {0}

abbrev pub HaveValues : Trees → Type 0
HaveValues no_trees = Unit {0}
HaveValues (tree term terms) = HasValue term × HaveValues terms

-- a Package stands for its members
abbrev pub HasCaseValue : Tree → Type 0
HasCaseValue (Package count members) = HaveValues members
HasCaseValue (VarPackage count members) = HaveValues members
HasCaseValue term = HasValue term

abbrev mutual
  pub IsGiven : Tree → Type 0
  IsGiven (If test body) = AreGiven body
  IsGiven (ElseIf test body) = AreGiven body
  IsGiven (Else body) = AreGiven body
  IsGiven (While test body) = AreGiven body
  IsGiven (Container' kind at name body) = AreGiven body
  IsGiven (Scope here at name body) = AreGiven body
  IsGiven (Method at name flags body) = AreGiven body
  IsGiven (Switch value cases) = HasValue value × AreGiven cases
  IsGiven (Case value body) = HasCaseValue value × AreGiven body
  IsGiven (Default body) = AreGiven body
  IsGiven term = Unit {0}

  pub AreGiven : Trees → Type 0
  AreGiven no_trees = Unit {0}
  AreGiven (tree term terms) = IsGiven term × AreGiven terms
