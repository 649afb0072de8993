-- Expressions with nothing but expressions in them, as the step of each For is that is written in a source.
use Rattle.std.specs.Prelude.{◌≡◌, Bool, true, false, not, ◌&&◌, ◌||◌}
use Rattle.asl_tree.specs.declared.term.Special.TheVariants as Special
use Rattle.asl_tree.specs.declared.term.Op.{Op}
use Rattle.term_plans.specs.Plans.{Plan, a_call, a_form, Plans, no_plans, plan}
use Rattle.asl_prints.specs.Plans.{expresses, is_expression}

abbrev pub is_package : Op → Bool
is_package (Op.Special Special.Package) = true
is_package op = false

unfoldable mutual
  -- the bytes of a Buffer aside
  pub is_plain : Plan → Bool
  is_plain (a_call name args) = are_plain args
  is_plain (a_form op args body) = expresses op args body && (are_plain args && (not (is_package op) || are_plain body))
  is_plain p = is_expression p

  pub are_plain : Plans → Bool
  are_plain no_plans = true
  are_plain (plan place p ps) = is_plain p && are_plain ps

-- whether the step of a For, the third of its arguments, is one
abbrev pub is_third_plain : Plans → Bool
is_third_plain (plan a start (plan b test (plan c step no_plans))) = is_plain step
is_third_plain ps = true

abbrev pub has_plain_step : Plan → Bool
has_plain_step (a_form op args body) = is_third_plain args
has_plain_step p = true

-- copies of steps may have numbers of their own
abbrev pub MayRenew : (keep : Bool) → Plans → Type 0
MayRenew keep steps = keep ≡ false → are_plain steps ≡ true
