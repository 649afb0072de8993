-- The places of a formed program with loops for its Switches are those of its plans.
use Rattle.std.proofs.Common.{◌≡◌, Bool, true, false, List, [], ◌∷◌, ◌++◌, refl, sym, ap, ◌∙◌, subst}
use Rattle.std.specs.Prelude.{◌||◌}
use Rattle.iasl_messages.specs.declared.place.Place.{Place}
use Rattle.asl_tree.specs.declared.term.Node.{Node}
use Rattle.asl_tree.specs.declared.term.Term.{Term}
use Rattle.asl_tree.specs.declared.term.Term as D
use Rattle.asl_tree.specs.Tree.{At}
use Rattle.asl_tree.specs.View.{tree_of, row_trees, trees_of}
use Rattle.term_plans.specs.Plans.{plan_of, row_plans, plans_of}
use Rattle.hidden_locals.specs.Crossing.{has_continue, have_continue}
use Rattle.switch_loops.specs.Places.{chain_places, body_inside, looped_at, looped_row, cases_row, default_row, looped_places}
use Rattle.named_sessions.specs.Shaped.{AreNamed, AreFormed}
use Rattle.asl_prints.specs.Forms.{formed_all}
use Rattle.asl_prints.specs.Plans.{formed_plans}
use Rattle.form_shapes.specs.Near.{AreNear}
use Rattle.form_shapes.proofs.Formed.{forms_formed}
use Rattle.source_pieces.specs.Places.{is_left, are_left, core_places_at, core_places_in, cases_in, default_in, core_places}
use Rattle.asl_prints.proofs.PlanTrees.{nodes_stand}
use Rattle.source_pieces.proofs.Stepped.{core_formed}
use Rattle.source_pieces.proofs.Forms.{Formed, FormedTerms, FormedCases, form_left, case_left, form_planned, case_planned, default_planned}

mutual
  unfolding tree_of plan_of is_left

  term_left : (at : At) (t : Term) → Formed (tree_of at t) → has_continue (tree_of at t) ≡ is_left (plan_of t)
  term_left at (D.Form' op shape args shape' body) h = form_left at op (row_trees args) (row_trees body) (are_left (row_plans body)) h (λ k. row_left body k) (λ k. cases_left body k)
  term_left at t h = refl

  row_left : {m : _} (row : D.Row_of-Node m) → FormedTerms (row_trees row) → have_continue (row_trees row) ≡ are_left (row_plans row)
  row_left D.end_of-Node h = refl
  row_left (D.more_of-Node id place term rest) h =
      ap (λ b. b || have_continue (row_trees rest)) (term_left (record { id = id; place = place }) term h.0) ∙ ap (λ b. is_left (plan_of term) || b) (row_left rest h.2)

  cases_left : {m : _} (row : D.Row_of-Node m) → FormedCases (row_trees row) → have_continue (row_trees row) ≡ are_left (row_plans row)
  cases_left D.end_of-Node h = refl
  cases_left (D.more_of-Node id place (D.Form' op shape args shape' body) rest) h =
      case_left (record { id = id; place = place }) op (row_trees args) (row_trees body) (row_trees rest) (are_left (row_plans body)) (are_left (row_plans rest)) h (λ k. row_left body k) (λ k. cases_left rest k)
  cases_left (D.more_of-Node id place term rest) h = absurd h

mutual
  unfolding tree_of plan_of looped_at core_places_at

  term_planned : (at : At) (inside : Bool) (place : Place) (t : Term) → Formed (tree_of at t) → looped_at inside place t ≡ core_places_at inside [] place (plan_of t)
  term_planned at inside place (D.Form' op shape args shape' body) h =
      form_planned (row_plans args) inside (are_left (row_plans body)) place (looped_row (body_inside op inside) body) (chain_places (cases_row body) (default_row body))
      (λ inside steps. core_places_in inside steps (row_plans body)) (λ steps. chain_places (cases_in steps (row_plans body)) (default_in steps (row_plans body))) at op (row_trees args) (row_trees body) h
      (λ k. row_planned (body_inside op inside) body k) (λ k. cases_left body k) (λ k. ap (λ ps. chain_places ps (default_row body)) (cases_planned body k) ∙ ap (chain_places (cases_in [] (row_plans body))) (defaults_planned body k))
  term_planned at inside place t h = refl

  row_planned : {m : _} (inside : Bool) (row : D.Row_of-Node m) → FormedTerms (row_trees row) → looped_row inside row ≡ core_places_in inside [] (row_plans row)
  row_planned inside D.end_of-Node h = refl
  row_planned inside (D.more_of-Node id place term rest) h =
      ap (λ ps. ps ++ looped_row inside rest) (term_planned (record { id = id; place = place }) inside place term h.0) ∙ ap (λ ps. core_places_at inside [] place (plan_of term) ++ ps) (row_planned inside rest h.2)

  cases_planned : {m : _} (row : D.Row_of-Node m) → FormedCases (row_trees row) → cases_row row ≡ cases_in [] (row_plans row)
  cases_planned D.end_of-Node h = refl
  cases_planned (D.more_of-Node id place (D.Form' op shape args shape' body) rest) h =
      case_planned (record { id = id; place = place }) op (row_trees args) (row_trees body) (row_trees rest) place (looped_row true body) (core_places_in true [] (row_plans body)) (cases_row rest) (cases_in [] (row_plans rest)) h
      (λ k. row_planned true body k) (λ k. cases_planned rest k)
  cases_planned (D.more_of-Node id place term rest) h = absurd h

  defaults_planned : {m : _} (row : D.Row_of-Node m) → FormedCases (row_trees row) → default_row row ≡ default_in [] (row_plans row)
  defaults_planned D.end_of-Node h = refl
  defaults_planned (D.more_of-Node id place (D.Form' op shape args shape' body) rest) h =
      default_planned (record { id = id; place = place }) op (row_trees args) (row_trees body) (row_trees rest) place (looped_row true body) (core_places_in true [] (row_plans body)) (default_row rest) (default_in [] (row_plans rest)) h
      (λ k. row_planned true body k) (λ k. defaults_planned rest k)
  defaults_planned (D.more_of-Node id place term rest) h = absurd h

all_planned : (inside : Bool) (nodes : List Node) → FormedTerms (trees_of nodes) → looped_places inside nodes ≡ core_places_in inside [] (plans_of nodes)
unfolding looped_places trees_of plans_of core_places_in
all_planned inside [] h = refl
all_planned inside (n ∷ nodes) h =
    ap (λ ps. ps ++ looped_places inside nodes) (term_planned (record { id = n.id; place = n.place }) inside n.place n.term h.0) ∙ ap (λ ps. core_places_at inside [] n.place (plan_of n.term) ++ ps) (all_planned inside nodes h.2)

-- a program with what stands for its Fors and for what prints
pub places_planned : (terms plain : List Node) → AreFormed (Unit {0}) AreNamed (Unit {0}) (Unit {0}) (trees_of terms) → AreNear (trees_of terms) → trees_of plain ≡ formed_all (trees_of terms) → plans_of plain ≡ formed_plans (plans_of terms)
    → looped_places false plain ≡ core_places (plans_of terms)
unfolding core_places
places_planned terms plain h near trees plans =
    all_planned false plain (subst FormedTerms (sym trees) (forms_formed AreNamed (Unit {0}) (Unit {0}) (trees_of terms) h near))
    ∙ ap (core_places_in false []) plans ∙ core_formed (plans_of terms) (trees_of terms) (nodes_stand terms) h near
