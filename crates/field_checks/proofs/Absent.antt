-- Nothing is told of terms in which no Field, IndexField or BankField stands.
use Rattle.std.proofs.Common.{◌≡◌, ◌++◌, false, [], refl, ap, ◌∙◌}
use Rattle.std.specs.Prelude.{◌||◌}
use Rattle.std.proofs.lemmas.Bool.{or_parts}
use Rattle.asl_tree.specs.declared.term.Declaration.TheVariants as Declaration
use Rattle.asl_tree.specs.declared.term.Op.{Op}
use Rattle.term_plans.specs.Plans.{Plan, a_form, Plans, no_plans, plan}
use Rattle.form_presence.specs.Present.{is_field, has_op, have_op}
use Rattle.field_checks.specs.Lists.{field_errors, term_errors, all_errors}

no_list : (op : Op) (args body : Plans) → is_field op ≡ false → field_errors op args body ≡ []
no_list (Op.Declaration Declaration.Field) args body e = absurd cc
no_list (Op.Declaration Declaration.IndexField) args body e = absurd cc
no_list (Op.Declaration Declaration.BankField) args body e = absurd cc
no_list op args body e = refl

mutual
  none_of_term : (p : Plan) → has_op is_field p ≡ false → term_errors p ≡ []
  none_of_term (a_form op args body) e =
      let none = or_parts (is_field op) (have_op is_field args || have_op is_field body) e in
      let inner = or_parts (have_op is_field args) (have_op is_field body) none.1 in
      ap (λ ms. ms ++ all_errors body) (no_list op args body none.0) ∙ none_told body inner.1
  none_of_term p e = refl

  pub none_told : (ps : Plans) → have_op is_field ps ≡ false → all_errors ps ≡ []
  none_told no_plans e = refl
  none_told (plan place p ps) e =
      let none = or_parts (has_op is_field p) (have_op is_field ps) e in
      ap (λ ms. ms ++ all_errors ps) (none_of_term p none.0) ∙ none_told ps none.1
