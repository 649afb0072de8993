-- Nothing is told of terms in which no Switch stands.
use Rattle.std.proofs.Common.{◌≡◌, ◌++◌, true, false, List, [], ◌∷◌, refl, ap, ◌∙◌}
use Rattle.std.specs.Prelude.{not, unwrap_or}
use Rattle.std.proofs.lemmas.Bool.{or_parts}
use Rattle.asl_tree.specs.declared.term.Op.{}
use Rattle.asl_tree.specs.declared.term.Node.{Node}
use Rattle.asl_tree.specs.declared.term.Term.{Term}
use Rattle.asl_tree.specs.declared.term.Term as D
use Rattle.asl_tree.specs.Tree.{At, Trees}
use Rattle.asl_tree.specs.View.{tree_of, row_trees, trees_of}
use Rattle.acpi_names.specs.declared.part.NameRole.{NameRole}
use Rattle.acpi_names.specs.declared.part.NameRole.TheVariants as P
use Rattle.acpi_names.specs.declared.part.What.TheVariants as W
use Rattle.acpi_names.specs.Parts.{part_of}
use Rattle.term_plans.specs.Plans.{Plans, plan_of, row_plans, plans_of}
use Rattle.term_plans.specs.Places.{nowhere}
use Rattle.hidden_locals.specs.Switches.{is_enough}
use Rattle.switch_loops.specs.Switched.{is_switch, switches, switches_row, has_switch}
use Rattle.switch_loops.proofs.Switchless.{row_enough, nodes_enough}
use Rattle.switch_checks.specs.Told.{told}
use Rattle.switch_checks.specs.Locals.{first_switch, own_error, method_errors, all_method_errors, few_locals, part_errors}
use Rattle.switch_checks.proofs.Forms.{told_form}

own_silent : (terms : Trees) (plans : Plans) → is_enough terms ≡ true → own_error terms plans ≡ []
own_silent terms plans e = ap (λ b. told (not b) 6061 (unwrap_or (first_switch plans) nowhere)) e

few_silent : (terms : Trees) (plans : Plans) → is_enough terms ≡ true → all_method_errors terms plans ≡ [] → few_locals terms plans ≡ []
few_silent terms plans e h = ap (λ ms. ms ++ all_method_errors terms plans) (own_silent terms plans e) ∙ h

part_silent : (p : NameRole) (body : Trees) (plans : Plans) → is_enough body ≡ true → all_method_errors body plans ≡ [] → part_errors p body plans ≡ []
part_silent (P.Declares n (W.Method flags) true) body plans e h = few_silent body plans e h
part_silent (P.Declares n what true) body plans e h = h
part_silent (P.Declares n what false) body plans e h = refl
part_silent P.Scope body plans e h = h
part_silent P.Within body plans e h = h
part_silent p body plans e h = refl

mutual
  unfolding tree_of plan_of switches

  term_silent : (at : At) (t : Term) → switches t ≡ false → method_errors (tree_of at t) (plan_of t) ≡ []
  term_silent at (D.Form' op shape args shape' body) e =
      let none = or_parts (is_switch op) (switches_row body) e in
      told_form at op (row_trees args) (row_trees body) (row_plans args) (row_plans body)
      ∙ part_silent (part_of op (row_trees args) (row_trees body)) (row_trees body) (row_plans body) (row_enough body none.1) (row_silent body none.1)
  term_silent at t e = refl

  row_silent : {m : _} (row : D.Row_of-Node m) → switches_row row ≡ false → all_method_errors (row_trees row) (row_plans row) ≡ []
  row_silent D.end_of-Node e = refl
  row_silent (D.more_of-Node id place term rest) e =
      let at : At = record { id = id; place = place } in
      let none = or_parts (switches term) (switches_row rest) e in
      ap (λ ms. ms ++ all_method_errors (row_trees rest) (row_plans rest)) (term_silent at term none.0) ∙ row_silent rest none.1

nodes_silent : (nodes : List Node) → has_switch nodes ≡ false → all_method_errors (trees_of nodes) (plans_of nodes) ≡ []
unfolding trees_of plans_of has_switch
nodes_silent [] e = refl
nodes_silent (node ∷ nodes) e =
    let at : At = record { id = node.id; place = node.place } in
    let none = or_parts (switches node.term) (has_switch nodes) e in
    ap (λ ms. ms ++ all_method_errors (trees_of nodes) (plans_of nodes)) (term_silent at node.term none.0) ∙ nodes_silent nodes none.1

pub none_told : (nodes : List Node) → has_switch nodes ≡ false → few_locals (trees_of nodes) (plans_of nodes) ≡ []
none_told nodes e = few_silent (trees_of nodes) (plans_of nodes) (nodes_enough nodes e) (nodes_silent nodes e)
