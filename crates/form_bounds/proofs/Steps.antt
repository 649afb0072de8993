-- What terms weigh with a step before each of their Continues, and with what stands for a For before them.
use Rattle.std.proofs.Common.{◌≡◌, ℕ, ◌+◌, ◌≤◌, true, refl, sym, subst, arith}
use Rattle.std.specs.Prelude.{if◌then◌else◌}
use Rattle.std.proofs.Math.Nat.{le_refl}
use Rattle.asl_tree.specs.Tree.{Tree, Omitted, Call, Apply, Operated, Assigned, AssignedBy, Method, Container', Scope, If, ElseIf, Else, While, For, Switch, Case, Default, Continue, Trees, no_trees, tree}
use Rattle.asl_prints.specs.Forms.{followed, optional, stepped, stepped_all, for_trees, is_steppable, spread, formed, formed_args}
use Rattle.core_nodes.specs.Weights.{leaves, leaves_in, weight, weights, case_weights, default_weight}

module _ (integer : ℕ) where
  -- ---- expressions

  mutual
    pub leaves_same : (t : Tree) → leaves integer (formed t) ≡ leaves integer t
    leaves_same (Call at name args) = omega (arith, all_leaves_same args)
    leaves_same (Apply op args targets) = omega (arith, all_leaves_same args, all_leaves_same targets)
    leaves_same (Operated op args) = all_leaves_same args
    leaves_same (Assigned target value) = omega (arith, leaves_same target, leaves_same value)
    leaves_same (AssignedBy op target value) = omega (arith, leaves_same target, leaves_same value)
    leaves_same _ = refl

    all_leaves_same : (ts : Trees) → leaves_in integer (formed_args ts) ≡ leaves_in integer ts
    all_leaves_same no_trees = refl
    all_leaves_same (tree t ts) = omega (arith, leaves_same t, all_leaves_same ts)

  -- an expression as a term of a list
  leaves_weigh : (t : Tree) → leaves integer t ≤ weight integer t
  leaves_weigh (Method at name flags body) = omega arith
  leaves_weigh (Container' kind at name body) = omega arith
  leaves_weigh (Scope here at name body) = omega arith
  leaves_weigh (If test body) = omega arith
  leaves_weigh (ElseIf test body) = omega arith
  leaves_weigh (Else body) = omega arith
  leaves_weigh (While test body) = omega arith
  leaves_weigh (Switch value cases) = omega arith
  leaves_weigh t = le_refl (leaves integer t)

  pub optional_weighs : (t : Tree) → leaves integer t ≤ weights integer (optional t)
  optional_weighs Omitted = omega arith
  optional_weighs t = omega (arith, leaves_weigh t)

  -- ---- lists

  pub followed_weighs : (ts us : Trees) → weights integer (followed ts us) ≡ weights integer ts + weights integer us
  followed_weighs no_trees us = omega arith
  followed_weighs (tree t ts) us = omega (arith, followed_weighs ts us)

  -- no step before a Continue
  mutual
    unstepped_weight : (t : Tree) → weight integer (stepped no_trees t) ≡ weight integer t
    unstepped_weight (If test body) = unstepped_weighs body
    unstepped_weight (ElseIf test body) = unstepped_weighs body
    unstepped_weight (Else body) = unstepped_weighs body
    unstepped_weight (Switch value cases) = omega (arith, unstepped_cases cases, unstepped_default cases)
    unstepped_weight _ = refl

    pub unstepped_weighs : (ts : Trees) → weights integer (stepped_all no_trees ts) ≡ weights integer ts
    unstepped_weighs no_trees = refl
    unstepped_weighs (tree Continue ts) = omega (arith, unstepped_weighs ts)
    unstepped_weighs (tree t ts) = omega (arith, unstepped_weight t, unstepped_weighs ts)

    unstepped_cases : (ts : Trees) → case_weights integer (stepped_all no_trees ts) ≡ case_weights integer ts
    unstepped_cases no_trees = refl
    unstepped_cases (tree Continue ts) = unstepped_cases ts
    unstepped_cases (tree (Case value body) ts) = omega (arith, unstepped_weighs body, unstepped_cases ts)
    unstepped_cases (tree t ts) = unstepped_cases ts

    unstepped_default : (ts : Trees) → default_weight integer (stepped_all no_trees ts) ≡ default_weight integer ts
    unstepped_default no_trees = refl
    unstepped_default (tree Continue ts) = unstepped_default ts
    unstepped_default (tree (Default body) ts) = unstepped_weighs body
    unstepped_default (tree t ts) = unstepped_default ts

  module _ (steps : Trees) where
    -- a loop behind some terms, and others behind it
    loop_weighs : (ts : Trees) (test : Tree) (body rest : Trees) → weights integer body + weights integer (stepped_all steps rest) ≤ weights integer (stepped_all steps (followed (followed ts (tree (While test body) no_trees)) rest))
    loop_weighs no_trees test body rest = omega arith
    loop_weighs (tree Continue ts) test body rest =
        let others : Trees = stepped_all steps (followed (followed ts (tree (While test body) no_trees)) rest) in
        omega (arith, loop_weighs ts test body rest, followed_weighs steps (tree Continue others))
    loop_weighs (tree t ts) test body rest = omega (arith, loop_weighs ts test body rest)

    for_weighs : (start test step : Tree) (body rest : Trees) → weights integer (stepped_all (optional step) body) + weights integer (stepped_all steps rest) ≤ weights integer (stepped_all steps (followed (for_trees start test step body) rest))
    for_weighs start test step body rest =
        let turn : Trees = followed (stepped_all (optional step) body) (optional step) in
        omega (arith, loop_weighs (optional start) test turn rest, followed_weighs (stepped_all (optional step) body) (optional step))

    pub spread_weighs : (start test step : Tree) (body rest : Trees) → is_steppable start step body ≡ true
        → weights integer (stepped_all (optional step) body) + weights integer (stepped_all steps rest) ≤ weights integer (stepped_all steps (spread (For start test step body) rest))
    spread_weighs start test step body rest fit =
        subst (λ c. weights integer (stepped_all (optional step) body) + weights integer (stepped_all steps rest) ≤ weights integer (stepped_all steps (if c then followed (for_trees start test step body) rest else tree (For start test step body) rest)))
        (sym fit) (for_weighs start test step body rest)
