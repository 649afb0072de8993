-- Terms weigh no less with loops for their Switches: the chain of a loop keeps the Cases and the Default, and what stands for a Switch and
-- for a Continue keeps the terms behind it.
use Rattle.std.proofs.Common.{◌≡◌, ℕ, suc, ◌+◌, Bool, true, false, ◌≤◌, refl, arith}
use Rattle.std.proofs.Math.Nat.{le_refl}
use Rattle.asl_tree.specs.Tree.{Tree, Method, Container', Scope, If, ElseIf, Else, While, Switch, Case, Default, Break, Continue, Trees, no_trees, tree}
use Rattle.hidden_locals.specs.Turns.{Plan, value_local, then_trees, loop_of, loop_terms, continue_terms}
use Rattle.hidden_locals.specs.Crossing.{have_continue}
use Rattle.hidden_locals.specs.Switches.{plan_of, opened, unswitched, unswitched_all, links, default_link, without_switches}
use Rattle.core_nodes.specs.Weights.{weight, weights, case_weights, default_weight}

module _ (integer : ℕ) where
  -- ---- loops

  then_weighs : (ts us : Trees) → weights integer ts ≤ weights integer (then_trees ts us)
  then_weighs no_trees us = omega arith
  then_weighs (tree t ts) us = omega (arith, then_weighs ts us)

  turn_weighs : (value l : Tree) (chain : Trees) → weights integer chain ≤ weight integer (loop_of value l chain)
  turn_weighs value l chain = omega (arith, then_weighs chain (tree Break no_trees))

  opened_weighs : (ts : Trees) → weights integer (opened ts) ≡ weights integer ts
  opened_weighs (tree (ElseIf test body) rest) = refl
  opened_weighs (tree (Else body) no_trees) = omega arith
  opened_weighs ts = refl

  loop_weighs : (plan : Plan) (crossed inside : Bool) (loop : Tree) (rest : Trees) → weight integer loop + weights integer rest ≤ weights integer (loop_terms plan crossed inside loop rest)
  loop_weighs plan false inside loop rest = omega arith
  loop_weighs plan true false loop rest = omega arith
  loop_weighs plan true true loop rest = omega arith

  continue_weighs : (plan : Plan) (inside : Bool) (rest : Trees) → weights integer rest ≤ weights integer (continue_terms plan inside rest)
  continue_weighs plan false rest = omega arith
  continue_weighs plan true rest = omega arith

  -- ---- terms

  mutual
    term_keeps : (t : Tree) (plan : Plan) (level : ℕ) (inside : Bool) → weight integer t ≤ weight integer (unswitched plan level inside t)
    term_keeps (Method at name flags body) plan level inside = all_keep body (plan_of body) 0 false
    term_keeps (Container' kind at name body) plan level inside = all_keep body plan level inside
    term_keeps (Scope here at name body) plan level inside = all_keep body plan level inside
    term_keeps (If test body) plan level inside = all_keep body plan level inside
    term_keeps (ElseIf test body) plan level inside = all_keep body plan level inside
    term_keeps (Else body) plan level inside = all_keep body plan level inside
    term_keeps (While test body) plan level inside = all_keep body plan level false
    term_keeps t plan level inside = le_refl (weight integer t)

    all_keep : (ts : Trees) (plan : Plan) (level : ℕ) (inside : Bool) → weights integer ts ≤ weights integer (unswitched_all plan level inside ts)
    all_keep no_trees plan level inside = omega arith
    all_keep (tree (Switch value cases) ts) plan level inside =
        let default : Trees = default_link plan level cases in
        let chain : Trees = opened (links plan level cases default) in
        let loop : Tree = loop_of value (value_local plan level) chain in
        omega (
          arith,
          all_keep ts plan level inside,
          loop_weighs plan (have_continue cases) inside loop (unswitched_all plan level inside ts),
          turn_weighs value (value_local plan level) chain,
          opened_weighs (links plan level cases default),
          links_keep cases plan level default,
          default_keeps cases plan level,
        )
    all_keep (tree Continue ts) plan level inside = omega (arith, all_keep ts plan level inside, continue_weighs plan inside (unswitched_all plan level inside ts))
    all_keep (tree t ts) plan level inside = omega (arith, term_keeps t plan level inside, all_keep ts plan level inside)

    -- the Cases of a Switch before what stands for its Default
    links_keep : (ts : Trees) (plan : Plan) (level : ℕ) (default : Trees) → case_weights integer ts + weights integer default ≤ weights integer (links plan level ts default)
    links_keep no_trees plan level default = omega arith
    links_keep (tree (Case value body) ts) plan level default =
        omega (arith, all_keep body plan (suc level) true, links_keep ts plan level default)
    links_keep (tree t ts) plan level default = links_keep ts plan level default

    default_keeps : (ts : Trees) (plan : Plan) (level : ℕ) → default_weight integer ts ≤ weights integer (default_link plan level ts)
    default_keeps no_trees plan level = omega arith
    default_keeps (tree (Default body) ts) plan level = omega (arith, all_keep body plan (suc level) true)
    default_keeps (tree t ts) plan level = default_keeps ts plan level

  pub loops_weigh : (ts : Trees) → weights integer ts ≤ weights integer (without_switches ts)
  loops_weigh ts = all_keep ts (plan_of ts) 0 false
