-- Trees without the numbers and the places of what the step of a For may hold.
use Rattle.std.specs.Prelude.{Bool, if◌then◌else◌}
use Rattle.asl_tree.specs.Tree.{At, Tree, Use, Call, Apply, Operated, Assigned, AssignedBy, Buffer, Package, VarPackage, CondRefOf, If}
use Rattle.asl_tree.specs.Tree.{ElseIf, Else, While, Switch, Case, Default, Trees, no_trees, tree}

abbrev pub nowhere : At
nowhere = record { id = 0; place = record { file = 0; line = 0; column = 0 } }

abbrev mutual
  -- names in expressions, and in the statements of bodies, that stand nowhere
  pub bare : Tree → Tree
  bare (Use at name) = Use nowhere name
  bare (Call at name args) = Call nowhere name (bare_all args)
  bare (Apply op args targets) = Apply op (bare_all args) (bare_all targets)
  bare (Operated op args) = Operated op (bare_all args)
  bare (Assigned target value) = Assigned (bare target) (bare value)
  bare (AssignedBy op target value) = AssignedBy op (bare target) (bare value)
  bare (Buffer size bytes) = Buffer (bare size) bytes
  bare (Package count elements) = Package count (bare_all elements)
  bare (VarPackage count elements) = VarPackage (bare count) (bare_all elements)
  bare (CondRefOf place target) = CondRefOf (bare place) (bare target)
  bare (If test body) = If test (bare_all body)
  bare (ElseIf test body) = ElseIf test (bare_all body)
  bare (Else body) = Else (bare_all body)
  bare (While test body) = While test (bare_all body)
  bare (Switch value cases) = Switch value (bare_all cases)
  bare (Case value body) = Case value (bare_all body)
  bare (Default body) = Default (bare_all body)
  bare term = term

  pub bare_all : Trees → Trees
  bare_all no_trees = no_trees
  bare_all (tree term terms) = tree (bare term) (bare_all terms)

-- terms as they are, or bare
abbrev pub shown : (whole : Bool) → Trees → Trees
shown whole terms = if whole then terms else bare_all terms

abbrev pub shown_term : (whole : Bool) → Tree → Tree
shown_term whole term = if whole then term else bare term
