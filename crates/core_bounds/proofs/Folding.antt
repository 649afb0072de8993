-- A program whose constants are folded weighs no less than before.
use Rattle.std.proofs.Common.{◌+◌, ◌≤◌, Bool, true, false, arith}
use Rattle.std.proofs.Math.Nat.{le_refl}
use Rattle.acpi_values.specs.declared.operator.Plain.{Plain}
use Rattle.acpi_values.specs.declared.width.Width.{Width}
use Rattle.asl_tree.specs.Tree.{Tree, Integer, Constant, Omitted, Call, Apply, Operated, Assigned, AssignedBy, VarPackage, Method, Container', Scope, If, ElseIf, Else, While, Switch, Case, Default, Trees, no_trees, tree}
use Rattle.asl_fold.specs.Folds.{reduced, folded, folded_args, folded_all}
use Rattle.asl_fold.proofs.Values.{reduced_as, reduced_other, sized_other, IsConstant, AreConstants, Targets, NoTarget, OneTarget, LastTarget}
use Rattle.core_nodes.specs.Weights.{leaves, leaves_in, weight, weights, case_weights, default_weight}

-- constants weigh nothing
constant_none : (t : Tree) → IsConstant t → leaves 0 t ≤ 0
constant_none (Integer number) is = le_refl 0
constant_none (Constant literal) is = le_refl 0
constant_none t is = absurd is

constants_none : (ts : Trees) → AreConstants ts → leaves_in 0 ts ≤ 0
constants_none no_trees are = le_refl 0
constants_none (tree t ts) are = let h = constant_none t are.0 in let k = constants_none ts are.1 in omega (arith, h, k)

-- targets weigh what the one weighs that is given
target_keeps : (ts : Trees) (t : Tree) → Targets ts t → leaves_in 0 ts ≤ leaves 0 t
target_keeps _ _ NoTarget = le_refl 0
target_keeps _ _ (OneTarget t) = omega arith
target_keeps _ _ (LastTarget t) = omega arith

-- what an operator becomes
reduced_keeps : (width : Width) (statement : Bool) (op : Plain) (args targets : Trees) → leaves_in 0 args + leaves_in 0 targets ≤ leaves 0 (reduced width statement op args targets)
reduced_keeps width statement op args targets =
    reduced_as (λ t. leaves_in 0 args + leaves_in 0 targets ≤ leaves 0 t) width statement op args targets
    (le_refl (leaves_in 0 args + leaves_in 0 targets))
    (λ n le all given. let h = constants_none args all in let k = target_keeps targets Omitted given in omega (arith, h, k))
    (λ n target le all given. let h = constants_none args all in let k = target_keeps targets target given in omega (arith, h, k))

reduced_weighs : (width : Width) (statement : Bool) (op : Plain) (args targets : Trees) → leaves 0 (reduced width statement op args targets) ≤ weight 0 (reduced width statement op args targets)
reduced_weighs = reduced_other (λ t. leaves 0 t ≤ weight 0 t) (λ op args targets. le_refl (leaves_in 0 args + leaves_in 0 targets)) (λ n. le_refl 0)

module _ (width : Width) where
  -- ---- expressions

  mutual
    leaves_keep : (statement : Bool) (t : Tree) → leaves 0 t ≤ leaves 0 (folded width statement t)
    leaves_keep statement (Call at name args) = let h = args_keep args in omega (arith, h)
    leaves_keep statement (Apply op args targets) =
        let h = args_keep args in let k = args_keep targets in let l = reduced_keeps width statement op (folded_args width args) (folded_args width targets) in omega (arith, h, k, l)
    leaves_keep statement (Operated op args) = args_keep args
    leaves_keep statement (Assigned target value) = let h = leaves_keep false target in let k = leaves_keep false value in omega (arith, h, k)
    leaves_keep statement (AssignedBy op target value) = let h = leaves_keep false target in let k = leaves_keep false value in omega (arith, h, k)
    leaves_keep statement (VarPackage size elements) = omega arith
    leaves_keep statement t = le_refl (leaves 0 t)

    args_keep : (ts : Trees) → leaves_in 0 ts ≤ leaves_in 0 (folded_args width ts)
    args_keep no_trees = le_refl 0
    args_keep (tree t ts) = let h = leaves_keep false t in let k = args_keep ts in omega (arith, h, k)

  -- ---- lists

  mutual
    weight_keeps : (t : Tree) → weight 0 t ≤ weight 0 (folded width true t)
    weight_keeps (Apply op args targets) =
        let h = leaves_keep true (Apply op args targets) in let k = reduced_weighs width true op (folded_args width args) (folded_args width targets) in omega (arith, h, k)
    weight_keeps (VarPackage size elements) = omega arith
    weight_keeps (Method at name flags body) = weights_keep body
    weight_keeps (Container' kind at name body) = weights_keep body
    weight_keeps (Scope here at name body) = weights_keep body
    weight_keeps (If test body) = weights_keep body
    weight_keeps (ElseIf test body) = weights_keep body
    weight_keeps (Else body) = weights_keep body
    weight_keeps (While test body) = weights_keep body
    weight_keeps (Switch value cases) = let h = cases_keep cases in let k = default_keeps cases in omega (arith, h, k)
    weight_keeps t = leaves_keep true t

    pub weights_keep : (ts : Trees) → weights 0 ts ≤ weights 0 (folded_all width ts)
    weights_keep no_trees = le_refl 0
    weights_keep (tree t ts) = let h = weight_keeps t in let k = weights_keep ts in omega (arith, h, k)

    cases_keep : (ts : Trees) → case_weights 0 ts ≤ case_weights 0 (folded_all width ts)
    cases_keep no_trees = le_refl 0
    cases_keep (tree (Case value body) ts) = let h = weights_keep body in let k = cases_keep ts in omega (arith, h, k)
    cases_keep (tree (Apply op args targets) ts) =
        reduced_other (λ t. case_weights 0 ts ≤ case_weights 0 (tree t (folded_all width ts))) (λ op args targets. cases_keep ts) (λ n. cases_keep ts) width true op (folded_args width args) (folded_args width targets)
    cases_keep (tree (VarPackage size elements) ts) =
        sized_other (λ t. case_weights 0 ts ≤ case_weights 0 (tree t (folded_all width ts))) (λ n elements. cases_keep ts) (λ size elements. cases_keep ts) (folded width false size) (folded_args width elements)
    cases_keep (tree t ts) = cases_keep ts

    default_keeps : (ts : Trees) → default_weight 0 ts ≤ default_weight 0 (folded_all width ts)
    default_keeps no_trees = le_refl 0
    default_keeps (tree (Default body) ts) = weights_keep body
    default_keeps (tree (Apply op args targets) ts) =
        reduced_other (λ t. default_weight 0 ts ≤ default_weight 0 (tree t (folded_all width ts))) (λ op args targets. default_keeps ts) (λ n. default_keeps ts) width true op (folded_args width args) (folded_args width targets)
    default_keeps (tree (VarPackage size elements) ts) =
        sized_other (λ t. default_weight 0 ts ≤ default_weight 0 (tree t (folded_all width ts))) (λ n elements. default_keeps ts) (λ size elements. default_keeps ts) (folded width false size) (folded_args width elements)
    default_keeps (tree t ts) = default_keeps ts
