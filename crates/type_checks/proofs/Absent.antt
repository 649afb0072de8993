-- Nothing is told of the lengths of lists in terms in which no Buffer and no Package stands.
use Rattle.std.proofs.Common.{◌≡◌, ℕ, ◌++◌, false, [], Result, Ok, Err, None, refl, ap, ◌∙◌}
use Rattle.std.specs.Prelude.{◌||◌}
use Rattle.std.proofs.lemmas.Bool.{or_parts}
use Rattle.iasl_messages.specs.declared.place.Place.{Place}
use Rattle.acpi_values.specs.declared.width.Width.{Width}
use Rattle.asl_tree.specs.declared.constant.NoConstant.{NoConstant}
use Rattle.asl_tree.specs.declared.term.Op.{Op}
use Rattle.asl_tree.specs.declared.term.Special.TheVariants as Special
use Rattle.term_plans.specs.Plans.{Plan, a_call, a_form, Plans, no_plans, plan, plan_at, constant_of}
use Rattle.form_presence.specs.Present.{is_list, has_op, have_op}
use Rattle.type_checks.specs.Sizes.{list_length, is_below, told, size_errors, term_errors, long_lists}

no_length : (op : Op) (body : Plans) → is_list op ≡ false → list_length op body ≡ None
no_length (Op.Special Special.Buffer) body e = absurd cc
no_length (Op.Special Special.Package) body e = absurd cc
no_length op body e = refl

below_none : (size : Result ℕ NoConstant) → is_below size None ≡ false
below_none (Ok size) = refl
below_none (Err e) = refl

module _ (width : Width) where
  fits : (place : Place) (op : Op) (args body : Plans) → is_list op ≡ false → size_errors width place op args body ≡ []
  fits place op args body e =
      let size = constant_of width (plan_at args 0) in
      ap (λ count. told (is_below size count) place) (no_length op body e) ∙ ap (λ wrong. told wrong place) (below_none size)

  mutual
    none_of_term : (place : Place) (p : Plan) → has_op is_list p ≡ false → term_errors width place p ≡ []
    none_of_term place (a_call name args) e = none_long args e
    none_of_term place (a_form op args body) e =
        let none = or_parts (is_list op) (have_op is_list args || have_op is_list body) e in
        let inner = or_parts (have_op is_list args) (have_op is_list body) none.1 in
        ap (λ ms. ms ++ (long_lists width args ++ long_lists width body)) (fits place op args body none.0)
        ∙ ap (λ ms. ms ++ long_lists width body) (none_long args inner.0) ∙ none_long body inner.1
    none_of_term place p e = refl

    pub none_long : (ps : Plans) → have_op is_list ps ≡ false → long_lists width ps ≡ []
    none_long no_plans e = refl
    none_long (plan place p ps) e =
        let none = or_parts (has_op is_list p) (have_op is_list ps) e in
        ap (λ ms. ms ++ long_lists width ps) (none_of_term place p none.0) ∙ none_long ps none.1
