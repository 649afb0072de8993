-- A step that weighs more than the limit weighs the limit.
use Rattle.std.proofs.Common.{◌≡◌, ℕ, ◌+◌, min, refl, sym, ap, subst, ◌∙◌, arith}
use Rattle.asl_tree.specs.declared.term.Op.{Op}
use Rattle.asl_tree.specs.declared.term.Control.{Control}
use Rattle.asl_tree.specs.declared.term.Control.TheVariants as Control'
use Rattle.asl_tree.specs.Tree.{Tree, If, ElseIf, Else, Switch, Case, Default, Continue, Trees, no_trees, tree}
use Rattle.core_nodes.specs.Weights.{copied, copied_in, copied_cases, copied_default}
use Rattle.core_nodes.specs.Whole.{AreWhole}
use Rattle.core_nodes.specs.Forms.{AreWholeBraces, step_leaves, form_copied}

sum_capped : (limit a b c d : ℕ) → min a limit ≡ min b limit → min c limit ≡ min d limit → min (a + c) limit ≡ min (b + d) limit
sum_capped limit a b c d e f = omega (arith, e, f)

module _ (integer limit : ℕ) where
  mutual
    step_capped : (step : ℕ) (t : Tree) → min (copied integer (min step limit) t) limit ≡ min (copied integer step t) limit
    step_capped step Continue = omega arith
    step_capped step (If test body) = steps_capped step body
    step_capped step (ElseIf test body) = steps_capped step body
    step_capped step (Else body) = steps_capped step body
    step_capped step (Switch value cases) =
        sum_capped limit (copied_cases integer (min step limit) cases) (copied_cases integer step cases) (copied_default integer (min step limit) cases) (copied_default integer step cases)
        (cases_capped step cases) (default_capped step cases)
    step_capped step t = refl

    pub steps_capped : (step : ℕ) (ts : Trees) → min (copied_in integer (min step limit) ts) limit ≡ min (copied_in integer step ts) limit
    steps_capped step no_trees = refl
    steps_capped step (tree t ts) =
        sum_capped limit (copied integer (min step limit) t) (copied integer step t) (copied_in integer (min step limit) ts) (copied_in integer step ts) (step_capped step t) (steps_capped step ts)

    cases_capped : (step : ℕ) (ts : Trees) → min (copied_cases integer (min step limit) ts) limit ≡ min (copied_cases integer step ts) limit
    cases_capped step no_trees = refl
    cases_capped step (tree (Case value body) ts) =
        sum_capped limit (copied_in integer (min step limit) body) (copied_in integer step body) (copied_cases integer (min step limit) ts) (copied_cases integer step ts) (steps_capped step body) (cases_capped step ts)
    cases_capped step (tree t ts) = cases_capped step ts

    default_capped : (step : ℕ) (ts : Trees) → min (copied_default integer (min step limit) ts) limit ≡ min (copied_default integer step ts) limit
    default_capped step no_trees = refl
    default_capped step (tree (Default body) ts) = steps_capped step body
    default_capped step (tree t ts) = default_capped step ts

  -- a For, whose braces have before each Continue what its step weighs
  pub for_weighed : (turn step : ℕ) (op : Op) (control : Control) (args body : Trees) (a : ℕ) → op ≡ Op.Control control → control ≡ Control'.For → (AreWhole args → turn ≡ min (step_leaves integer args) limit)
      → (AreWhole body → a ≡ min (copied_in integer turn body) limit) → AreWhole args → AreWholeBraces op body → a ≡ min (form_copied integer step op args body) limit
  for_weighed turn step op control args body a e f turns all v =
      subst (λ (o : Op). AreWholeBraces o body → a ≡ min (form_copied integer step o args body) limit) (sym (e ∙ ap Op.Control f))
      (λ w. all w ∙ ap (λ s. min (copied_in integer s body) limit) (turns v) ∙ steps_capped (step_leaves integer args) body)

  -- a Switch, with its Cases and its Default
  pub switch_weighed : (step : ℕ) (op : Op) (control : Control) (args body : Trees) (a b sum : ℕ) → op ≡ Op.Control control → control ≡ Control'.Switch → (AreWhole body → a ≡ min (copied_cases integer step body) limit)
      → (AreWhole body → b ≡ min (copied_default integer step body) limit) → sum ≡ min (a + b) limit → AreWholeBraces op body → sum ≡ min (form_copied integer step op args body) limit
  switch_weighed step op control args body a b sum e f cases default s =
      subst (λ (o : Op). AreWholeBraces o body → sum ≡ min (form_copied integer step o args body) limit) (sym (e ∙ ap Op.Control f))
      (λ w. let c = cases w in let d = default w in omega (arith, c, d, s))
