-- Terms weigh no more than the number of their nodes, where an integer weighs no more than one.
use Rattle.std.proofs.Common.{ℕ, ◌+◌, ◌≤◌, arith}
use Rattle.asl_tree.specs.Tree.{Tree, Integer, Raw, InSlot, Debug, Use, Call, Apply, Operated, Assigned, AssignedBy, Method, Container', Scope, If, ElseIf, Else, While, Switch, Case, Default, Trees, no_trees, tree}
use Rattle.core_nodes.specs.Nodes.{nodes_of, nodes_in}
use Rattle.core_nodes.specs.Weights.{leaves, leaves_in, weight, weights, case_weights, default_weight}

module _ (integer : ℕ) (least : integer ≤ 1) where
  mutual
    leaves_count : (t : Tree) → leaves integer t ≤ nodes_of t
    leaves_count (Integer number) = omega (arith, least)
    leaves_count (Raw size number) = omega (arith, least)
    leaves_count (InSlot slot) = omega arith
    leaves_count Debug = omega arith
    leaves_count (Use at name) = omega arith
    leaves_count (Call at name args) = omega (arith, all_leaves_count args)
    leaves_count (Apply op args targets) = omega (arith, all_leaves_count args, all_leaves_count targets)
    leaves_count (Operated op args) = omega (arith, all_leaves_count args)
    leaves_count (Assigned target value) = omega (arith, leaves_count target, leaves_count value)
    leaves_count (AssignedBy op target value) = omega (arith, leaves_count target, leaves_count value)
    leaves_count _ = omega arith

    all_leaves_count : (ts : Trees) → leaves_in integer ts ≤ nodes_in ts
    all_leaves_count no_trees = omega arith
    all_leaves_count (tree t ts) = omega (arith, leaves_count t, all_leaves_count ts)

  mutual
    weight_counts : (t : Tree) → weight integer t ≤ nodes_of t
    weight_counts (Method at name flags body) = omega (arith, weights_count body)
    weight_counts (Container' kind at name body) = omega (arith, weights_count body)
    weight_counts (Scope here at name body) = omega (arith, weights_count body)
    weight_counts (If test body) = omega (arith, weights_count body)
    weight_counts (ElseIf test body) = omega (arith, weights_count body)
    weight_counts (Else body) = omega (arith, weights_count body)
    weight_counts (While test body) = omega (arith, weights_count body)
    weight_counts (Switch value cases) = omega (arith, cases_count cases)
    weight_counts t = leaves_count t

    pub weights_count : (ts : Trees) → weights integer ts ≤ nodes_in ts
    weights_count no_trees = omega arith
    weights_count (tree t ts) = omega (arith, weight_counts t, weights_count ts)

    -- a Case and a Default are among the nodes of their Switch
    cases_count : (ts : Trees) → case_weights integer ts + default_weight integer ts ≤ nodes_in ts
    cases_count no_trees = omega arith
    cases_count (tree (Case value body) ts) = omega (arith, weights_count body, cases_count ts)
    cases_count (tree (Default body) ts) = omega (arith, weights_count body, cases_count ts)
    cases_count (tree t ts) = omega (arith, cases_count ts)
