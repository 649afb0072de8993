-- No For and nothing that prints stands in terms that have none of their operators.
use Rattle.std.proofs.Common.{◌≡◌, Bool, true, false, refl, sym, ap, ◌∙◌}
use Rattle.std.specs.Prelude.{◌&&◌, ◌||◌}
use Rattle.std.proofs.lemmas.Bool.{or_parts}
use Rattle.asl_tree.specs.declared.term.Control.TheVariants as Control
use Rattle.asl_tree.specs.declared.term.Op.{Op}
use Rattle.term_plans.specs.Plans.{Plan, a_call, a_form, Plans, no_plans, plan}
use Rattle.form_presence.specs.Present.{is_form, has_op, have_op}
use Rattle.asl_formats.specs.Present.{holds_terms}
use Rattle.asl_formats.specs.Present as formats

same_op : (op : Op) → is_form op ≡ formats.is_form op
same_op (Op.Control Control.For) = refl
same_op (Op.Control Control.Printf) = refl
same_op (Op.Control Control.Fprintf) = refl
same_op op = refl

neither : (a b : Bool) → a ≡ false → b ≡ false → (a || b) ≡ false
neither a b e f = ap (λ c. c || b) e ∙ f

not_held : (a b : Bool) → b ≡ false → (a && b) ≡ false
not_held true b e = e
not_held false b e = refl

mutual
  unfolding formats.has_form

  none_held_in : (p : Plan) → has_op is_form p ≡ false → formats.has_form p ≡ false
  none_held_in (a_call name args) e = none_held args e
  none_held_in (a_form op args body) e =
      let none = or_parts (is_form op) (have_op is_form args || have_op is_form body) e in
      let inner = or_parts (have_op is_form args) (have_op is_form body) none.1 in
      neither (formats.is_form op) (formats.have_form args || (holds_terms op && formats.have_form body)) (sym (same_op op) ∙ none.0)
      (neither (formats.have_form args) (holds_terms op && formats.have_form body) (none_held args inner.0) (not_held (holds_terms op) (formats.have_form body) (none_held body inner.1)))
  none_held_in p e = refl

  -- none is among them, or in those of their braces that hold terms
  pub none_held : (ps : Plans) → have_op is_form ps ≡ false → formats.have_form ps ≡ false
  none_held no_plans e = refl
  none_held (plan place p ps) e =
      let none = or_parts (has_op is_form p) (have_op is_form ps) e in
      neither (formats.has_form p) (formats.have_form ps) (none_held_in p none.0) (none_held ps none.1)
