-- What stands for the Fors of formed terms weighs at least as much as the copies of their steps.
use Rattle.std.proofs.Common.{◌≡◌, ℕ, ◌≤◌, Bool, true, false, List, ◌∙◌, arith}
use Rattle.std.specs.Prelude.{if◌then◌else◌}
use Rattle.asl_tree.specs.FieldItems.{FieldItem}
use Rattle.asl_tree.specs.Tree.{Tree, Method, Container', Scope, If, ElseIf, Else, While, For, Print, Switch, Case, Default, Continue, Trees, no_trees, tree, UnitName}
use Rattle.asl_prints.specs.Forms.{print_tree, optional, stepped_all, is_expression, have_far_continue, is_steppable, is_filled, spread, formed, formed_args, formed_all}
use Rattle.asl_formats.proofs.Sources.{steppable_same}
use Rattle.core_nodes.specs.Weights.{leaves, weights, case_weights, default_weight, copied_in, copied_cases, copied_default}
use Rattle.named_sessions.specs.Shaped.{IsFormed, AreFormed, AreFormedCases}
use Rattle.form_shapes.specs.Near.{IsNear, AreNear}
use Rattle.form_shapes.proofs.Formed.{fits_loop, effect_expression}
use Rattle.form_bounds.proofs.Steps.{leaves_same, optional_weighs, followed_weighs, unstepped_weighs, spread_weighs}

module _ (integer : ℕ) where
  print_weighs : (steps : Trees) (place : Tree) (format : List ℕ) (args rest : Trees) → weights integer (stepped_all steps rest) ≤ weights integer (stepped_all steps (spread (Print place format args) rest))
  print_weighs steps place format args rest = by (is_filled format args)
    where
      by : (c : Bool) → weights integer (stepped_all steps rest) ≤ weights integer (stepped_all steps (if c then tree (print_tree place format args) rest else tree (Print place format args) rest))
      by true = omega arith
      by false = omega arith

  module _ (Listed : List (FieldItem UnitName) → Type 0) (Symbols Switches : Type 0) where
    fits : (start test step : Tree) (body : Trees) → IsFormed (Unit {0}) Listed Symbols Switches (For start test step body) → IsNear (For start test step body) → is_steppable (formed start) (formed step) (formed_all body) ≡ true
    fits start test step body h near =
        steppable_same start step body
        ∙ fits_loop (is_expression start) (is_expression step) (have_far_continue body) (effect_expression Listed Symbols Switches start h.1) (effect_expression Listed Symbols Switches step h.4) near.0

    mutual
      -- with steps before their Continues, of which each weighs at least so much
      copies : (ts : Trees) → AreFormed (Unit {0}) Listed Symbols Switches ts → AreNear ts → (steps : Trees) (weight : ℕ) → weight ≤ weights integer steps → copied_in integer weight ts ≤ weights integer (stepped_all steps (formed_all ts))
      copies no_trees h near steps weight least = omega arith
      copies (tree Continue ts) h near steps weight least = omega (arith, least, followed_weighs integer steps (tree Continue (stepped_all steps (formed_all ts))), copies ts h.2 near.1 steps weight least)
      copies (tree (For start test step body) ts) h near steps weight least =
          let turn : leaves integer step ≤ weights integer (optional (formed step)) = omega (arith, leaves_same integer step, optional_weighs integer (formed step)) in
          omega (
            arith,
            copies body h.0.5 near.0.1 (optional (formed step)) (leaves integer step) turn,
            copies ts h.2 near.1 steps weight least,
            spread_weighs integer steps (formed start) (formed test) (formed step) (formed_all body) (formed_all ts) (fits start test step body h.0 near.0),
          )
      copies (tree (Print place format args) ts) h near steps weight least = omega (arith, print_weighs steps (formed place) format (formed_args args) (formed_all ts), copies ts h.2 near.1 steps weight least)
      copies (tree (If test body) ts) h near steps weight least = omega (arith, copies body h.0.2 near.0 steps weight least, copies ts h.2 near.1 steps weight least)
      copies (tree (ElseIf test body) ts) h near steps weight least = omega (arith, copies body h.0.2 near.0 steps weight least, copies ts h.2 near.1 steps weight least)
      copies (tree (Else body) ts) h near steps weight least = omega (arith, copies body h.0 near.0 steps weight least, copies ts h.2 near.1 steps weight least)
      copies (tree (While test body) ts) h near steps weight least =
          omega (arith, copies body h.0.2 near.0 no_trees 0 (omega arith), unstepped_weighs integer (formed_all body), copies ts h.2 near.1 steps weight least)
      copies (tree (Method at name flags body) ts) h near steps weight least =
          omega (arith, copies body h.0.2 near.0 no_trees 0 (omega arith), unstepped_weighs integer (formed_all body), copies ts h.2 near.1 steps weight least)
      copies (tree (Container' kind at name body) ts) h near steps weight least =
          omega (arith, copies body h.0.2 near.0 no_trees 0 (omega arith), unstepped_weighs integer (formed_all body), copies ts h.2 near.1 steps weight least)
      copies (tree (Scope here at name body) ts) h near steps weight least =
          omega (arith, copies body h.0.1 near.0 no_trees 0 (omega arith), unstepped_weighs integer (formed_all body), copies ts h.2 near.1 steps weight least)
      copies (tree (Switch value cases) ts) h near steps weight least =
          omega (arith, case_copies cases h.0.3 near.0 steps weight least, default_copies cases h.0.3 near.0 steps weight least, copies ts h.2 near.1 steps weight least)
      copies (tree t ts) h near steps weight least = omega (arith, copies ts h.2 near.1 steps weight least)

      -- the Cases of a Switch, and its Default
      case_copies : (ts : Trees) → AreFormedCases (Unit {0}) Listed Symbols Switches ts → AreNear ts → (steps : Trees) (weight : ℕ) → weight ≤ weights integer steps → copied_cases integer weight ts ≤ case_weights integer (stepped_all steps (formed_all ts))
      case_copies no_trees h near steps weight least = omega arith
      case_copies (tree (Case value body) ts) h near steps weight least = omega (arith, copies body h.1 near.0 steps weight least, case_copies ts h.2 near.1 steps weight least)
      case_copies (tree (Default body) no_trees) h near steps weight least = omega arith
      case_copies (tree _ _) h near steps weight least = absurd h

      default_copies : (ts : Trees) → AreFormedCases (Unit {0}) Listed Symbols Switches ts → AreNear ts → (steps : Trees) (weight : ℕ) → weight ≤ weights integer steps
          → copied_default integer weight ts ≤ default_weight integer (stepped_all steps (formed_all ts))
      default_copies no_trees h near steps weight least = omega arith
      default_copies (tree (Case value body) ts) h near steps weight least = default_copies ts h.2 near.1 steps weight least
      default_copies (tree (Default body) no_trees) h near steps weight least = copies body h near.0 steps weight least
      default_copies (tree _ _) h near steps weight least = absurd h

    pub all_copies : (ts : Trees) → AreFormed (Unit {0}) Listed Symbols Switches ts → AreNear ts → copied_in integer 0 ts ≤ weights integer (formed_all ts)
    all_copies ts h near = omega (arith, copies ts h near no_trees 0 (omega arith), unstepped_weighs integer (formed_all ts))
