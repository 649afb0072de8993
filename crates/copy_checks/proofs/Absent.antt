-- Terms in which no For and nothing that prints stands have no first For.
use Rattle.std.proofs.Common.{◌≡◌, Bool, false, refl, ap, ◌∙◌}
use Rattle.std.specs.Prelude.{◌||◌, Option, Some, None, if◌then◌else◌}
use Rattle.std.proofs.lemmas.Bool.{or_parts}
use Rattle.iasl_messages.specs.declared.place.Place.{Place}
use Rattle.asl_tree.specs.declared.term.Control.TheVariants as Control
use Rattle.asl_tree.specs.declared.term.Op.{Op}
use Rattle.term_plans.specs.Plans.{Plan, a_call, a_form, Plans, no_plans, plan}
use Rattle.form_presence.specs.Present.{is_form, has_op, have_op}
use Rattle.copy_checks.specs.Copies.{is_for, earlier, for_at, first_for}

no_for : (op : Op) → is_form op ≡ false → is_for op ≡ false
no_for (Op.Control Control.For) e = e
no_for op e = refl

neither : (a b : Option Place) → a ≡ None → b ≡ None → earlier a b ≡ None
neither a b e f = ap (λ (o : Option Place). earlier o b) e ∙ f

mutual
  none_at : (place : Place) (p : Plan) → has_op is_form p ≡ false → for_at place p ≡ None
  none_at place (a_call name args) e = none_first args e
  none_at place (a_form op args body) e =
      let none = or_parts (is_form op) (have_op is_form args || have_op is_form body) e in
      let inner = or_parts (have_op is_form args) (have_op is_form body) none.1 in
      ap (λ (c : Bool). if c then Some place else earlier (first_for args) (first_for body)) (no_for op none.0)
      ∙ neither (first_for args) (first_for body) (none_first args inner.0) (none_first body inner.1)
  none_at place p e = refl

  pub none_first : (ps : Plans) → have_op is_form ps ≡ false → first_for ps ≡ None
  none_first no_plans e = refl
  none_first (plan place p ps) e =
      let none = or_parts (has_op is_form p) (have_op is_form ps) e in
      neither (for_at place p) (first_for ps) (none_at place p none.0) (none_first ps none.1)
