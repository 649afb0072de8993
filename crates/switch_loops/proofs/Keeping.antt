-- Terms that keep their places where loops stand for Switches, by their operators and by their kinds.
use Rattle.std.proofs.Common.{◌≡◌, ℕ, Bool, true, false, List, [], ◌∷◌, length, Vec, Global, refl, sym, ap, ◌∙◌}
use Rattle.std.specs.Prelude.{◌&&◌}
use Rattle.iasl_messages.specs.declared.place.Place.{Place}
use Rattle.asl_tree.specs.declared.term.Op.{Op}
use Rattle.asl_tree.specs.declared.term.Control.TheVariants as Control
use Rattle.asl_tree.specs.declared.term.Node.{Node}
use Rattle.asl_tree.specs.declared.term.Term.{Term}
use Rattle.asl_tree.specs.declared.term.Term as D
use Rattle.asl_tree.specs.Tree.{At, Tree, Switch, Continue, Trees}
use Rattle.asl_tree.specs.View.{tree_of, row_trees, trees_of}
use Rattle.acpi_names.specs.declared.part.NameRole.{NameRole}
use Rattle.acpi_names.specs.declared.part.NameRole.TheVariants as P
use Rattle.acpi_names.specs.declared.part.What.TheVariants as W
use Rattle.acpi_names.specs.Parts.{are, part_of}
use Rattle.acpi_names.specs.Walked.{node_tree, term_shape}
use Rattle.acpi_names.proofs.Trees.{form_rows}
use Rattle.hidden_locals.specs.Crossing.{have_continue}
use Rattle.hidden_locals.specs.Turns.{continue_terms}
use Rattle.switch_loops.specs.Kept.{is_kept, op_kept}
use Rattle.switch_loops.specs.Kinds.{flagged, form_kind, part_kind, shape_kind}
use Rattle.switch_loops.specs.Links.{plan_as, put}
use Rattle.switch_loops.specs.Places.{body_inside, cases_places, cases_row, chain_places, continue_places, default_row, first_default_places, form_places, looped_at, looped_places, looped_row, switch_looped}
use Rattle.switch_loops.specs.Switched.{is_switch}
use Rattle.switch_loops.specs.declared.kind.TermRole.{TermRole}
use Rattle.switch_loops.proofs.KindRows.{tree_kind, kind_is}
use Rattle.switch_loops.proofs.LoopPlaces.{flat_kind, form_placed, not_formed}
use Rattle.switch_loops.proofs.Puts.{form_is, part_no_switch, switch_form, switch_is}

-- ---- kinds

flag_differs : (c : Bool) (k l : TermRole) → (k ≡ l → ⊥) → (TermRole.Other ≡ l → ⊥) → flagged c k ≡ l → ⊥
flag_differs true k l never other e = never e
flag_differs false k l never other e = other e

-- what is no Switch by its operator is none by its kind
pub no_switch : (op : Op) (args body : Trees) → is_switch op ≡ false → form_kind op args body ≡ TermRole.Switch → ⊥
no_switch (Op.Control Control.While) args body s = flag_differs (are 1 args) TermRole.Loop TermRole.Switch (λ x. absurd cc) (λ x. absurd cc)
no_switch (Op.Control Control.For) args body s = flag_differs (are 3 args) TermRole.Loop TermRole.Switch (λ x. absurd cc) (λ x. absurd cc)
no_switch (Op.Control Control.Switch) args body s = absurd cc
no_switch (Op.Control Control.Case) args body s = flag_differs (are 1 args) TermRole.Case TermRole.Switch (λ x. absurd cc) (λ x. absurd cc)
no_switch (Op.Control Control.Default) args body s = flag_differs (are 0 args) TermRole.Default TermRole.Switch (λ x. absurd cc) (λ x. absurd cc)
no_switch (Op.Control Control.Continue) args body s = flag_differs (are 0 args && are 0 body) TermRole.Continue TermRole.Switch (λ x. absurd cc) (λ x. absurd cc)
no_switch op args body s = part_no_switch (part_of op args body)

part_no_continue : (p : NameRole) → part_kind p ≡ TermRole.Continue → ⊥
part_no_continue (P.Declares n (W.Method flags) true) e = absurd cc
part_no_continue (P.Declares n what true) e = absurd cc
part_no_continue (P.Declares n what false) e = absurd cc
part_no_continue p e = absurd cc

pub continue_is : (op : Op) (args body : Trees) → form_kind op args body ≡ TermRole.Continue → op ≡ Op.Control Control.Continue
continue_is (Op.Control Control.While) args body e = absurd (flag_differs (are 1 args) TermRole.Loop TermRole.Continue (λ x. absurd cc) (λ x. absurd cc) e)
continue_is (Op.Control Control.For) args body e = absurd (flag_differs (are 3 args) TermRole.Loop TermRole.Continue (λ x. absurd cc) (λ x. absurd cc) e)
continue_is (Op.Control Control.Switch) args body e = absurd (flag_differs (are 1 args) TermRole.Switch TermRole.Continue (λ x. absurd cc) (λ x. absurd cc) e)
continue_is (Op.Control Control.Case) args body e = absurd (flag_differs (are 1 args) TermRole.Case TermRole.Continue (λ x. absurd cc) (λ x. absurd cc) e)
continue_is (Op.Control Control.Default) args body e = absurd (flag_differs (are 0 args) TermRole.Default TermRole.Continue (λ x. absurd cc) (λ x. absurd cc) e)
continue_is (Op.Control Control.Continue) args body e = refl
continue_is op args body e = absurd (part_no_continue (part_of op args body) e)

-- ---- what keeps its place

no_switch_op : (inside : Bool) (op : Op) → op_kept inside op ≡ true → is_switch op ≡ false
no_switch_op inside (Op.Control Control.Switch) e = absurd cc
no_switch_op inside op e = refl

op_keeps : (inside : Bool) (op : Op) (args body : Trees) → op_kept inside op ≡ true → is_kept inside (form_kind op args body) ≡ true
op_keeps inside op args body e = by_kind (form_kind op args body) refl
  where
    by_kind : (k : TermRole) → form_kind op args body ≡ k → is_kept inside k ≡ true
    by_kind TermRole.Switch f = absurd (no_switch op args body (no_switch_op inside op e) f)
    by_kind TermRole.Continue f = sym (ap (op_kept inside) (continue_is op args body f)) ∙ e
    by_kind k f = refl

pub kind_at : (t : Term) (op : Op) (args body : Vec Node Global) → t ≡ D.Form op args body → shape_kind (term_shape t) ≡ form_kind op (trees_of args.items) (trees_of body.items)
kind_at t op args body e = ap (λ t. shape_kind (term_shape t)) e ∙ ap shape_kind (form_rows op args body)

pub form_keeps : (inside : Bool) (t : Term) (op : Op) (args body : Vec Node Global) → t ≡ D.Form op args body → op_kept inside op ≡ true → is_kept inside (shape_kind (term_shape t)) ≡ true
form_keeps inside t op args body e h = ap (is_kept inside) (kind_at t op args body e) ∙ op_keeps inside op (trees_of args.items) (trees_of body.items) h

pub flat_keeps : (inside : Bool) (t : Term) → ((o : Op) (v w : Vec Node Global) → t ≡ D.Form o v w → ⊥) → is_kept inside (shape_kind (term_shape t)) ≡ true
flat_keeps inside t never = ap (is_kept inside) (flat_kind t (not_formed t never))

pub kept_other : (inside : Bool) (k : TermRole) → (k ≡ TermRole.Switch → ⊥) → (k ≡ TermRole.Continue → ⊥) → is_kept inside k ≡ true
kept_other inside TermRole.Switch never nor = absurd (never refl)
kept_other inside TermRole.Continue never nor = absurd (nor refl)
kept_other inside k never nor = refl

pub kept_outside : (inside : Bool) → is_kept inside TermRole.Continue ≡ true → inside ≡ false
kept_outside true e = absurd cc
kept_outside false e = refl

-- ---- what gives way: a Continue, and a Switch

node_continue : (t : Tree) → tree_kind t ≡ TermRole.Continue → t ≡ Continue
node_continue Continue e = refl
node_continue t e = absurd cc

plan_alike : (flag : ℕ) (values : List ℕ) (inside : Bool) (rest : Trees) → continue_terms (plan_as flag []) inside rest ≡ continue_terms (plan_as flag values) inside rest
plan_alike flag values true rest = refl
plan_alike flag values false rest = refl

pub continue_node : (flag : ℕ) (values : List ℕ) (inside : Bool) (node : Node) (rest : Trees) → shape_kind (term_shape node.term) ≡ TermRole.Continue → continue_terms (plan_as flag []) inside rest ≡ put flag values inside (node_tree node) rest
continue_node flag values inside node rest e =
    plan_alike flag values inside rest ∙ ap (λ t. put flag values inside t rest) (sym (node_continue (node_tree node) (kind_is (record { id = node.id; place = node.place }) node.term ∙ e)))

pub continue_at : (inside : Bool) (place : Place) (t : Term) → shape_kind (term_shape t) ≡ TermRole.Continue → continue_places inside place ≡ looped_at inside place t
unfolding looped_at
continue_at inside place (D.Form' op shape args shape' body) e =
    sym (ap (λ k. form_places k op inside (have_continue (row_trees body)) place (looped_row (body_inside op inside) body) (chain_places (cases_row body) (default_row body))) e)
continue_at inside place t e = absurd cc

module _ (at : At) (t : Term) (op : Op) (args body : Vec Node Global) (is : t ≡ D.Form op args body) (kind : shape_kind (term_shape t) ≡ TermRole.Switch) where
  switch_kind : form_kind op (trees_of args.items) (trees_of body.items) ≡ TermRole.Switch
  switch_kind = sym (kind_at t op args body is) ∙ kind

  pub switch_long : length args.items ≡ 1
  switch_long = (switch_is op args.items body.items switch_kind).1

  pub switch_tree : (value : Node) → args.items ≡ value ∷ [] → tree_of at t ≡ Switch (node_tree value) (trees_of body.items)
  switch_tree value e = form_is at t op args body is ∙ switch_form at op args.items body.items value (switch_is op args.items body.items switch_kind).0 e

  pub switch_places : (inside : Bool) (place : Place) → looped_at inside place t ≡ switch_looped inside place body.items
  switch_places inside place =
      sym (form_placed inside place t op args body is)
      ∙ ap (λ k. form_places k op inside (have_continue (trees_of body.items)) place (looped_places (body_inside op inside) body.items) (chain_places (cases_places body.items) (first_default_places body.items))) switch_kind

pub no_switch_here : (t : Term) → ((o : Op) (v w : Vec Node Global) → t ≡ D.Form o v w → ⊥) → shape_kind (term_shape t) ≡ TermRole.Switch → ⊥
no_switch_here t never e = let f : TermRole.Other ≡ TermRole.Switch = sym (flat_kind t (not_formed t never)) ∙ e in absurd cc
