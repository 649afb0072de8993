-- Fors whose step may stand before each of their Continues.
use Rattle.std.specs.Prelude.{◌≡◌, false}
use Rattle.asl_tree.specs.Tree.{Tree, Method, Container', Scope, If, ElseIf, Else, While, For, Switch, Case, Default, Trees, no_trees, tree}
use Rattle.asl_prints.specs.Forms.{have_far_continue}

-- no Continue of a For stands in the braces of a Device, a Scope or another container in it, where names lead elsewhere
abbrev mutual
  pub IsNear : Tree → Type 0
  IsNear (For start test step body) = (have_far_continue body ≡ false) × AreNear body
  IsNear (Method at name flags body) = AreNear body
  IsNear (Container' kind at name body) = AreNear body
  IsNear (Scope here at name body) = AreNear body
  IsNear (If test body) = AreNear body
  IsNear (ElseIf test body) = AreNear body
  IsNear (Else body) = AreNear body
  IsNear (While test body) = AreNear body
  IsNear (Switch value cases) = AreNear cases
  IsNear (Case value body) = AreNear body
  IsNear (Default body) = AreNear body
  IsNear term = Unit {0}

  pub AreNear : Trees → Type 0
  AreNear no_trees = Unit {0}
  AreNear (tree term terms) = IsNear term × AreNear terms
