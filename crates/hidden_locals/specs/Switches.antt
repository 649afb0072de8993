-- A Switch as a loop of one turn, and where it may stand so.
use Rattle.std.specs.Prelude.{◌≤◌, ◌+◌, ℕ, suc, max, nat_le, Bool, true, false, ◌||◌, if◌then◌else◌, length}
use Rattle.asl_tree.specs.Tree.{Tree, Package, VarPackage, Method, Container', Scope, If, ElseIf, Else, While, For, Switch, Case, Default}
use Rattle.asl_tree.specs.Tree.{Continue, Trees, no_trees, tree}
use Rattle.hidden_locals.specs.Locals.{locals_all}
use Rattle.hidden_locals.specs.Terms.{UsesShown}
use Rattle.hidden_locals.specs.Turns.{others, Plan, value_local, equal, test_of, loop_of, loop_terms, continue_terms}
use Rattle.hidden_locals.specs.Crossing.{have_continue}

-- how deep Switches nest in a term, methods aside
abbrev mutual
  pub depth : Tree → ℕ
  depth (If test body) = depth_all body
  depth (ElseIf test body) = depth_all body
  depth (Else body) = depth_all body
  depth (While test body) = depth_all body
  depth (For start test step body) = depth_all body
  depth (Container' kind at name body) = depth_all body
  depth (Scope here at name body) = depth_all body
  depth (Switch value cases) = suc (depth_all cases)
  depth (Case value body) = depth_all body
  depth (Default body) = depth_all body
  depth _ = 0

  pub depth_all : Trees → ℕ
  depth_all no_trees = 0
  depth_all (tree term terms) = max (depth term) (depth_all terms)

-- whether a Continue leaves a Switch of a term
abbrev mutual
  pub is_crossed : Tree → Bool
  is_crossed (If test body) = are_crossed body
  is_crossed (ElseIf test body) = are_crossed body
  is_crossed (Else body) = are_crossed body
  is_crossed (While test body) = are_crossed body
  is_crossed (For start test step body) = are_crossed body
  is_crossed (Container' kind at name body) = are_crossed body
  is_crossed (Scope here at name body) = are_crossed body
  is_crossed (Switch value cases) = have_continue cases || are_crossed cases
  is_crossed (Case value body) = are_crossed body
  is_crossed (Default body) = are_crossed body
  is_crossed _ = false

  pub are_crossed : Trees → Bool
  are_crossed no_trees = false
  are_crossed (tree term terms) = is_crossed term || are_crossed terms

abbrev pub plan_of : Trees → Plan
plan_of body = record { free = others (locals_all body); levels = depth_all body }

-- there is a Local for each level of Switches, and one for the flag where it is used
abbrev pub IsEnough : Trees → Type 0
IsEnough body = depth_all body + (if are_crossed body then 1 else 0) ≤ length (others (locals_all body))

-- whether there is
abbrev pub is_enough : Trees → Bool
is_enough body = nat_le (depth_all body + (if are_crossed body then 1 else 0)) (length (others (locals_all body)))

-- the test of a Case; of a Package all members are tested
abbrev pub case_test : Tree → Tree → Tree
case_test l (Package count members) = test_of l members
case_test l (VarPackage count members) = test_of l members
case_test l value = equal l value

-- ElseIfs and an Else with no If before them: the first ElseIf is the If, and of an Else alone the terms are left
abbrev pub opened : Trees → Trees
opened (tree (ElseIf test body) rest) = tree (If test body) rest
opened (tree (Else body) no_trees) = body
opened terms = terms

-- `level` is how many Switches of the method are around a term, and `inside` whether one of them stands between it and
-- its loop; a For, which is taken out before, stays as it is
abbrev mutual
  pub unswitched : Plan → ℕ → Bool → Tree → Tree
  unswitched plan level inside (If test body) = If test (unswitched_all plan level inside body)
  unswitched plan level inside (ElseIf test body) = ElseIf test (unswitched_all plan level inside body)
  unswitched plan level inside (Else body) = Else (unswitched_all plan level inside body)
  unswitched plan level inside (While test body) = While test (unswitched_all plan level false body)
  unswitched plan level inside (Container' kind at name body) = Container' kind at name (unswitched_all plan level inside body)
  unswitched plan level inside (Scope here at name body) = Scope here at name (unswitched_all plan level inside body)
  unswitched plan level inside (Method at name flags body) = Method at name flags (unswitched_all (plan_of body) 0 false body)
  unswitched plan level inside term = term

  pub unswitched_all : Plan → ℕ → Bool → Trees → Trees
  unswitched_all plan level inside no_trees = no_trees
  unswitched_all plan level inside (tree (Switch value cases) rest) =
      loop_terms plan (have_continue cases) inside
      (loop_of value (value_local plan level) (opened (links plan level cases (default_link plan level cases))))
      (unswitched_all plan level inside rest)
  unswitched_all plan level inside (tree Continue rest) = continue_terms plan inside (unswitched_all plan level inside rest)
  unswitched_all plan level inside (tree term rest) = tree (unswitched plan level inside term) (unswitched_all plan level inside rest)

  -- the tests of the Cases, an ElseIf each, and behind them the Default
  pub links : Plan → ℕ → Trees → Trees → Trees
  links plan level no_trees default = default
  links plan level (tree (Case value body) rest) default =
      tree (ElseIf (case_test (value_local plan level) value) (unswitched_all plan (suc level) true body)) (links plan level rest default)
  links plan level (tree _ rest) default = links plan level rest default

  -- the Default as an Else, if there is one
  pub default_link : Plan → ℕ → Trees → Trees
  default_link plan level no_trees = no_trees
  default_link plan level (tree (Default body) rest) = tree (Else (unswitched_all plan (suc level) true body)) no_trees
  default_link plan level (tree _ rest) = default_link plan level rest

-- a method's body, or what of a block lies outside methods, with loops for its Switches
abbrev pub without_switches : Trees → Trees
without_switches body = unswitched_all (plan_of body) 0 false body

-- no method stands in a term
abbrev pub HasNoMethod : Tree → Type 0
HasNoMethod term = UsesShown (λ body. ⊥) (λ i. true) term

-- no Else stands directly behind a Switch
abbrev pub StartsNoElse : Trees → Type 0
StartsNoElse (tree (Else body) terms) = ⊥
StartsNoElse (tree (ElseIf test body) terms) = ⊥
StartsNoElse terms = Unit {0}

abbrev pub IsFollowed : Tree → Trees → Type 0
IsFollowed (Switch value cases) terms = StartsNoElse terms
IsFollowed term terms = Unit {0}

-- terms whose Switches become loops: methods stand among statements alone, each with Locals enough, and a Case or a
-- Default stands in a Switch alone
abbrev mutual
  pub IsStatement : Tree → Type 0
  IsStatement (If test body) = HasNoMethod test × AreStatements body
  IsStatement (ElseIf test body) = HasNoMethod test × AreStatements body
  IsStatement (Else body) = AreStatements body
  IsStatement (While test body) = HasNoMethod test × AreStatements body
  IsStatement (Container' kind at name body) = AreStatements body
  IsStatement (Scope here at name body) = AreStatements body
  IsStatement (Method at name flags body) = IsEnough body × AreStatements body
  IsStatement (Switch value cases) = HasNoMethod value × AreCases cases
  IsStatement (Case value body) = ⊥
  IsStatement (Default body) = ⊥
  IsStatement term = HasNoMethod term

  pub AreStatements : Trees → Type 0
  AreStatements no_trees = Unit {0}
  AreStatements (tree term terms) = IsStatement term × IsFollowed term terms × AreStatements terms

  pub AreCases : Trees → Type 0
  AreCases no_trees = Unit {0}
  AreCases (tree (Case value body) cases) = HasNoMethod value × AreStatements body × AreCases cases
  AreCases (tree (Default body) cases) = AreStatements body × AreCases cases
  AreCases (tree term cases) = ⊥

-- a method's body, or the terms of a block
abbrev pub IsUnswitchable : Trees → Type 0
IsUnswitchable body = IsEnough body × AreStatements body

-- each method that stands among statements has Locals enough
abbrev mutual
  pub HasLocals : Tree → Type 0
  HasLocals (If test body) = HaveLocalsInside body
  HasLocals (ElseIf test body) = HaveLocalsInside body
  HasLocals (Else body) = HaveLocalsInside body
  HasLocals (While test body) = HaveLocalsInside body
  HasLocals (For start test step body) = HaveLocalsInside body
  HasLocals (Container' kind at name body) = HaveLocalsInside body
  HasLocals (Scope here at name body) = HaveLocalsInside body
  HasLocals (Method at name flags body) = IsEnough body × HaveLocalsInside body
  HasLocals (Switch value cases) = HaveLocalsInside cases
  HasLocals (Case value body) = HaveLocalsInside body
  HasLocals (Default body) = HaveLocalsInside body
  HasLocals term = Unit {0}

  pub HaveLocalsInside : Trees → Type 0
  HaveLocalsInside no_trees = Unit {0}
  HaveLocalsInside (tree term terms) = HasLocals term × HaveLocalsInside terms

-- and so have the terms themselves
abbrev pub HaveLocals : Trees → Type 0
HaveLocals terms = IsEnough terms × HaveLocalsInside terms

-- each Default stands behind the Cases of its Switch; names that it declares else come later in the loop
abbrev mutual
  pub HasDefaultsLast : Tree → Type 0
  HasDefaultsLast (If test body) = HaveDefaultsLast body
  HasDefaultsLast (ElseIf test body) = HaveDefaultsLast body
  HasDefaultsLast (Else body) = HaveDefaultsLast body
  HasDefaultsLast (While test body) = HaveDefaultsLast body
  HasDefaultsLast (For start test step body) = HaveDefaultsLast body
  HasDefaultsLast (Container' kind at name body) = HaveDefaultsLast body
  HasDefaultsLast (Scope here at name body) = HaveDefaultsLast body
  HasDefaultsLast (Method at name flags body) = HaveDefaultsLast body
  HasDefaultsLast (Switch value cases) = EndWithDefault cases
  HasDefaultsLast term = Unit {0}

  pub HaveDefaultsLast : Trees → Type 0
  HaveDefaultsLast no_trees = Unit {0}
  HaveDefaultsLast (tree term terms) = HasDefaultsLast term × HaveDefaultsLast terms

  pub EndWithDefault : Trees → Type 0
  EndWithDefault no_trees = Unit {0}
  EndWithDefault (tree (Case value body) cases) = HaveDefaultsLast body × EndWithDefault cases
  EndWithDefault (tree (Default body) no_trees) = HaveDefaultsLast body
  EndWithDefault (tree term cases) = ⊥
