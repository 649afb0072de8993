-- Whether a For, a Printf or an Fprintf stands among terms, at any depth.
use Rattle.std.specs.Prelude.{Bool, true, false, ◌&&◌, ◌||◌}
use Rattle.asl_tree.specs.declared.term.Control.TheVariants as Control
use Rattle.asl_tree.specs.declared.term.Special.TheVariants as Special
use Rattle.asl_tree.specs.declared.term.Op.{Op}
use Rattle.term_plans.specs.Plans.{Plan, a_call, a_form, Plans, no_plans, plan}
use Rattle.asl_prints.specs.Nodes.{has_terms}

abbrev pub is_form : Op → Bool
is_form (Op.Control Control.For) = true
is_form (Op.Control Control.Printf) = true
is_form (Op.Control Control.Fprintf) = true
is_form op = false

-- whether terms stand in the braces of a form, or the elements of a Package, and not bytes or the units of a field
abbrev pub holds_terms : Op → Bool
holds_terms (Op.Special Special.Package) = true
holds_terms op = has_terms op

unfoldable mutual
  -- a term is one, or one stands in its arguments or in its braces
  pub has_form : Plan → Bool
  has_form (a_call name args) = have_form args
  has_form (a_form op args body) = is_form op || (have_form args || (holds_terms op && have_form body))
  has_form p = false

  pub have_form : Plans → Bool
  have_form no_plans = false
  have_form (plan place p ps) = has_form p || have_form ps
