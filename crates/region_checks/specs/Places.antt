-- Where the fields of a block stand.
use Rattle.std.specs.Prelude.{ℕ}
use Rattle.term_plans.specs.Places.{IsIn}
use Rattle.term_plans.specs.Plans.{Plan, a_form, Plans, no_plans, plan}
use Rattle.asl_tree.specs.Tree.{Tree, Method, Container', Scope, Trees, no_trees, tree, Field, BankField, If, ElseIf, Else, While, For}
use Rattle.asl_tree.specs.Tree.{Switch, Case, Default}

-- the node of each field of a region, at any depth, stands in one of so many files
abbrev mutual
  pub IsFieldWithin : ℕ → Tree → Type 0
  IsFieldWithin files (Field here from region flags items) = IsIn files here.place
  IsFieldWithin files (BankField here from region to bank value flags items) = IsIn files here.place
  IsFieldWithin files (Method at name flags body) = AreFieldsWithin files body
  IsFieldWithin files (Container' kind at name body) = AreFieldsWithin files body
  IsFieldWithin files (Scope here at name body) = AreFieldsWithin files body
  IsFieldWithin files (If test body) = AreFieldsWithin files body
  IsFieldWithin files (ElseIf test body) = AreFieldsWithin files body
  IsFieldWithin files (Else body) = AreFieldsWithin files body
  IsFieldWithin files (While test body) = AreFieldsWithin files body
  IsFieldWithin files (For start test step body) = AreFieldsWithin files body
  IsFieldWithin files (Switch value cases) = AreFieldsWithin files cases
  IsFieldWithin files (Case value body) = AreFieldsWithin files body
  IsFieldWithin files (Default body) = AreFieldsWithin files body
  IsFieldWithin files t = Unit {0}

  pub AreFieldsWithin : ℕ → Trees → Type 0
  AreFieldsWithin files no_trees = Unit {0}
  AreFieldsWithin files (tree t ts) = IsFieldWithin files t × AreFieldsWithin files ts

-- each part of a body, at any depth, stands in one of so many files
abbrev mutual
  pub IsBodyWithin : ℕ → Plan → Type 0
  IsBodyWithin files (a_form op args body) = ArePartsWithin files body
  IsBodyWithin files p = Unit {0}

  pub ArePartsWithin : ℕ → Plans → Type 0
  ArePartsWithin files no_plans = Unit {0}
  ArePartsWithin files (plan place p ps) = IsIn files place × IsBodyWithin files p × ArePartsWithin files ps
