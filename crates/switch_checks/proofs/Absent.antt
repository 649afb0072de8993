-- Terms in which no Switch stands, by their operators: nothing is told of their Switches.
use Rattle.std.proofs.Common.{◌≡◌, ◌++◌, Bool, false, List, [], ◌∷◌, refl, ap, ◌∙◌}
use Rattle.std.specs.Prelude.{◌||◌}
use Rattle.std.proofs.lemmas.Bool.{or_parts}
use Rattle.acpi_values.specs.declared.width.Width.{Width}
use Rattle.asl_tree.specs.declared.term.Control.TheVariants as Control
use Rattle.asl_tree.specs.declared.term.Op.{Op}
use Rattle.asl_tree.specs.declared.term.Node.{Node}
use Rattle.asl_tree.specs.declared.term.Term.{Term}
use Rattle.asl_tree.specs.declared.term.Term as D
use Rattle.asl_tree.specs.View.{trees_of}
use Rattle.term_plans.specs.Plans.{Plan, a_form, Plans, no_plans, plan, plan_of, row_plans, plans_of}
use Rattle.form_presence.specs.Present.{has_op, have_op}
use Rattle.form_presence.specs.Present as present
use Rattle.switch_loops.specs.Switched.{is_switch, switches, switches_row, has_switch}
use Rattle.switch_checks.specs.Repeats.{switch_repeats, term_repeats, repeated_values}
use Rattle.switch_checks.specs.Locals.{few_locals}
use Rattle.switch_checks.proofs.Switchless.{none_told}

-- ---- values that occur twice

module _ (width : Width) where
  no_cases : (op : Op) (cases : Plans) → present.is_switch op ≡ false → switch_repeats width op cases ≡ []
  no_cases (Op.Control Control.Switch) cases e = absurd cc
  no_cases op cases e = refl

  mutual
    none_of_term : (p : Plan) → has_op present.is_switch p ≡ false → term_repeats width p ≡ []
    none_of_term (a_form op args body) e =
        let none = or_parts (present.is_switch op) (have_op present.is_switch args || have_op present.is_switch body) e in
        let inner = or_parts (have_op present.is_switch args) (have_op present.is_switch body) none.1 in
        ap (λ ms. ms ++ repeated_values width body) (no_cases op body none.0) ∙ none_repeated body inner.1
    none_of_term p e = refl

    pub none_repeated : (ps : Plans) → have_op present.is_switch ps ≡ false → repeated_values width ps ≡ []
    none_repeated no_plans e = refl
    none_repeated (plan place p ps) e =
        let none = or_parts (has_op present.is_switch p) (have_op present.is_switch ps) e in
        ap (λ ms. ms ++ repeated_values width ps) (none_of_term p none.0) ∙ none_repeated ps none.1

-- ---- methods that leave too few Locals

neither : (a b : Bool) → a ≡ false → b ≡ false → (a || b) ≡ false
neither a b e f = ap (λ c. c || b) e ∙ f

other_op : (op : Op) → present.is_switch op ≡ false → is_switch op ≡ false
other_op (Op.Control Control.Switch) e = absurd cc
other_op op e = refl

mutual
  unfolding plan_of switches

  none_in_term : (t : Term) → has_op present.is_switch (plan_of t) ≡ false → switches t ≡ false
  none_in_term (D.Form' op shape args shape' body) e =
      let none = or_parts (present.is_switch op) (have_op present.is_switch (row_plans args) || have_op present.is_switch (row_plans body)) e in
      let inner = or_parts (have_op present.is_switch (row_plans args)) (have_op present.is_switch (row_plans body)) none.1 in
      neither (is_switch op) (switches_row body) (other_op op none.0) (none_in_row body inner.1)
  none_in_term t e = refl

  none_in_row : {m : _} (row : D.Row_of-Node m) → have_op present.is_switch (row_plans row) ≡ false → switches_row row ≡ false
  none_in_row D.end_of-Node e = refl
  none_in_row (D.more_of-Node id place term rest) e =
      let none = or_parts (has_op present.is_switch (plan_of term)) (have_op present.is_switch (row_plans rest)) e in
      neither (switches term) (switches_row rest) (none_in_term term none.0) (none_in_row rest none.1)

-- no Switch stands in the braces of terms either
pub no_switch : (nodes : List Node) → have_op present.is_switch (plans_of nodes) ≡ false → has_switch nodes ≡ false
unfolding plans_of has_switch
no_switch [] e = refl
no_switch (node ∷ nodes) e =
    let none = or_parts (has_op present.is_switch (plan_of node.term)) (have_op present.is_switch (plans_of nodes)) e in
    neither (switches node.term) (has_switch nodes) (none_in_term node.term none.0) (no_switch nodes none.1)

pub none_few : (nodes : List Node) → have_op present.is_switch (plans_of nodes) ≡ false → few_locals (trees_of nodes) (plans_of nodes) ≡ []
none_few nodes e = none_told nodes (no_switch nodes e)
