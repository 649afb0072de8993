-- A program whose operators are named weighs no less than before.
use Rattle.std.proofs.Common.{◌≡◌, ℕ, zero, suc, ◌+◌, ◌<◌, ◌≤◌, Bool, true, false, Some, None, refl, arith}
use Rattle.std.proofs.Math.Nat.{le_refl}
use Rattle.std.specs.Prelude.{if◌then◌else◌, not, nat_eq}
use Rattle.acpi_values.specs.declared.operator.Plain.{Plain}
use Rattle.acpi_values.specs.Operators.{row_of}
use Rattle.asl_tree.specs.declared.term.Compound.{Compound}
use Rattle.asl_tree.specs.Symbols.{takes_target}
use Rattle.asl_tree.specs.Tree.{Tree, Omitted, Call, Apply, Operated, Assigned, AssignedBy, Method, Container', Scope, If, ElseIf, Else, While, Switch, Case, Default, Trees, no_trees, tree}
use Rattle.asl_meaning.specs.Meaning.{target_operator}
use Rattle.asl_lower.specs.Nodes.{given, last_target, assigned, assigned_by, named, inner_args, named_all}
use Rattle.core_nodes.specs.Weights.{leaves, leaves_in, weight, weights, case_weights, default_weight}

module _ (integer : ℕ) where
  -- ---- operators

  given_keeps : (t : Tree) → leaves integer t ≤ leaves integer (given t)
  given_keeps Omitted = le_refl 0
  given_keeps t = le_refl (leaves integer t)

  -- targets that are left out weigh nothing
  omitted_none : (n : ℕ) → leaves_in integer (last_target n Omitted) ≤ 0
  omitted_none zero = le_refl 0
  omitted_none (suc zero) = omega arith
  omitted_none (suc (suc n)) = let h = omitted_none (suc n) in omega (arith, h)

  last_keeps : (n : ℕ) (target : Tree) → 0 < n → leaves integer target ≤ leaves_in integer (last_target n target)
  last_keeps zero target lt = absurd (omega (arith, lt))
  last_keeps (suc zero) target lt = omega arith
  last_keeps (suc (suc n)) target lt = let h : leaves integer target ≤ leaves_in integer (last_target (suc n) target) = last_keeps (suc n) target (omega arith) in omega (arith, h)

  some_targets : (n : ℕ) → not (nat_eq n 0) ≡ true → 0 < n
  some_targets zero e = absurd cc
  some_targets (suc n) e = omega arith

  takes_some : (op : Plain) → takes_target op ≡ true → 0 < (row_of op).targets
  takes_some (Plain.Number op) e = some_targets (row_of (Plain.Number op)).targets e
  takes_some op e = absurd cc

  stored_keeps : (args : Trees) (target value : Tree) → leaves integer target + leaves integer value ≤ leaves integer (assigned None args target value)
  stored_keeps args target value = let h = given_keeps value in omega (arith, h)

  operated_keeps : (op : Plain) (args : Trees) (target value : Tree) → takes_target op ≡ true → leaves integer target + leaves_in integer args ≤ leaves integer (assigned (Some op) args target value)
  operated_keeps op args target value e = let h = last_keeps (row_of op).targets target (takes_some op e) in omega (arith, h)

  by_keeps : (op : Compound) (target value : Tree) → leaves integer target + leaves integer value ≤ leaves integer (assigned_by op target value)
  by_keeps op target value = let h = given_keeps target in let k = given_keeps value in omega (arith, h, k)

  assigned_keeps : (target value : Tree) → leaves integer target ≤ leaves integer (named target) → leaves integer value ≤ leaves integer (named value)
      → leaves integer target + leaves integer value ≤ leaves integer (assigned (target_operator value) (inner_args value) (named target) (named value))
  assigned_keeps target (Operated op args) h k = by_takes (takes_target op) refl
    where
      by_takes : (c : Bool) → takes_target op ≡ c → leaves integer target + leaves_in integer args ≤ leaves integer (assigned (if c then Some op else None) (named_all args) (named target) (named (Operated op args)))
      by_takes true e =
          let l = operated_keeps op (named_all args) (named target) (named (Operated op args)) e in
          let none = omitted_none (row_of op).targets in
          omega (arith, h, k, l, none)
      by_takes false e = let l = stored_keeps (named_all args) (named target) (named (Operated op args)) in omega (arith, h, k, l)
  assigned_keeps target value h k = let l = stored_keeps no_trees (named target) (named value) in omega (arith, h, k, l)

  -- ---- expressions

  mutual
    leaves_keep : (t : Tree) → leaves integer t ≤ leaves integer (named t)
    leaves_keep (Call at name args) = let h = args_keep args in omega (arith, h)
    leaves_keep (Apply op args targets) = let h = args_keep args in let k = args_keep targets in omega (arith, h, k)
    leaves_keep (Operated op args) = let h = args_keep args in omega (arith, h)
    leaves_keep (Assigned target value) = assigned_keeps target value (leaves_keep target) (leaves_keep value)
    leaves_keep (AssignedBy op target value) = let h = leaves_keep target in let k = leaves_keep value in let l = by_keeps op (named target) (named value) in omega (arith, h, k, l)
    leaves_keep t = le_refl (leaves integer t)

    args_keep : (ts : Trees) → leaves_in integer ts ≤ leaves_in integer (named_all ts)
    args_keep no_trees = le_refl 0
    args_keep (tree t ts) = let h = leaves_keep t in let k = args_keep ts in omega (arith, h, k)

  -- ---- lists

  mutual
    weight_keeps : (t : Tree) → weight integer t ≤ weight integer (named t)
    weight_keeps (Method at name flags body) = weights_keep body
    weight_keeps (Container' kind at name body) = weights_keep body
    weight_keeps (Scope here at name body) = weights_keep body
    weight_keeps (If test body) = weights_keep body
    weight_keeps (ElseIf test body) = weights_keep body
    weight_keeps (Else body) = weights_keep body
    weight_keeps (While test body) = weights_keep body
    weight_keeps (Switch value cases) = let h = cases_keep cases in let k = default_keeps cases in omega (arith, h, k)
    weight_keeps t = leaves_keep t

    pub weights_keep : (ts : Trees) → weights integer ts ≤ weights integer (named_all ts)
    weights_keep no_trees = le_refl 0
    weights_keep (tree t ts) = let h = weight_keeps t in let k = weights_keep ts in omega (arith, h, k)

    cases_keep : (ts : Trees) → case_weights integer ts ≤ case_weights integer (named_all ts)
    cases_keep no_trees = le_refl 0
    cases_keep (tree (Case value body) ts) = let h = weights_keep body in let k = cases_keep ts in omega (arith, h, k)
    cases_keep (tree t ts) = cases_keep ts

    default_keeps : (ts : Trees) → default_weight integer ts ≤ default_weight integer (named_all ts)
    default_keeps no_trees = le_refl 0
    default_keeps (tree (Default body) ts) = weights_keep body
    default_keeps (tree t ts) = default_keeps ts
