-- Terms in which no For, Printf or Fprintf stands: with what stands for each of these they are the same.
use Rattle.std.proofs.Common.{◌≡◌, Bool, true, false, List, [], ◌∷◌, refl, sym, ap, ◌∙◌}
use Rattle.std.specs.Prelude.{◌&&◌, ◌||◌, if◌then◌else◌}
use Rattle.std.proofs.lemmas.Bool.{or_parts}
use Rattle.iasl_messages.specs.declared.place.Place.{Place}
use Rattle.asl_tree.specs.declared.term.Declaration.TheVariants as Declaration
use Rattle.asl_tree.specs.declared.term.Control.TheVariants as Control
use Rattle.asl_tree.specs.declared.term.Special.TheVariants as Special
use Rattle.asl_tree.specs.declared.term.Op.{Op}
use Rattle.asl_tree.specs.declared.term.Node.{Node}
use Rattle.asl_tree.specs.declared.term.Term.{Term}
use Rattle.asl_tree.specs.declared.term.Term as D
use Rattle.asl_tree.specs.Tree.{At, Call, Trees, tree}
use Rattle.asl_tree.specs.View.{form, tree_of, row_trees, trees_of}
use Rattle.term_plans.specs.Plans.{Plan, a_call, a_form, Plans, no_plans, plan, plan_of, row_plans, plans_of}
use Rattle.asl_prints.specs.Forms.{formed, formed_all, formed_args, spread}
use Rattle.asl_formats.specs.Pass.{formed_body}
use Rattle.asl_prints.specs.Nodes.{has_terms}
use Rattle.asl_prints.specs.Plans as P
use Rattle.asl_prints.specs.Plans.{formed_plan, formed_plans}
use Rattle.asl_formats.specs.Present.{is_form, holds_terms, has_form, have_form}
use Rattle.asl_formats.specs.Stands.{stand_of, form_stand}
use Rattle.asl_formats.specs.declared.stand.Stand.TheVariants as S
use Rattle.asl_formats.proofs.FormedForms.{kept_form}
use Rattle.asl_formats.proofs.StandForms.{stand_form}
use Rattle.asl_formats.proofs.Standing.{itself_spread}

-- none in the braces that hold terms
none_held : (a b : Bool) → (a && b) ≡ false → a ≡ true → b ≡ false
none_held true b e h = e
none_held false b e h = absurd cc

-- ---- their plans

plain_spread : (here : Place) (op : Op) (args body rest : Plans) → is_form op ≡ false → P.spread here (a_form op args body) rest ≡ plan here (a_form op args body) rest
plain_spread here (Op.Control Control.For) args body rest e = absurd cc
plain_spread here (Op.Control Control.Printf) args body rest e = absurd cc
plain_spread here (Op.Control Control.Fprintf) args body rest e = absurd cc
plain_spread here op args body rest e = refl

plan_spread : (here : Place) (p : Plan) (rest : Plans) → has_form p ≡ false → P.spread here p rest ≡ plan here p rest
unfolding has_form
plan_spread here (a_form op args body) rest e = plain_spread here op args body rest (or_parts (is_form op) (have_form args || (holds_terms op && have_form body)) e).0
plan_spread here p rest e = refl

chosen : (c : Bool) (all body : Plans) → (c ≡ true → all ≡ body) → (if c then all else body) ≡ body
chosen true all body h = h refl
chosen false all body h = refl

plan_body_stays : (op : Op) (args all body : Plans) → (holds_terms op ≡ true → args ≡ body) → (holds_terms op ≡ true → all ≡ body) → P.formed_body op args all body ≡ body
plan_body_stays (Op.Special Special.Package) args all body each terms = each refl
plan_body_stays op args all body each terms = chosen (has_terms op) all body terms

mutual
  unfolding formed_plan has_form

  plan_stays : (p : Plan) → has_form p ≡ false → formed_plan p ≡ p
  plan_stays (a_call name args) e = ap (a_call name) (plan_args_stay args e)
  plan_stays (a_form op args body) e =
      let none = or_parts (is_form op) (have_form args || (holds_terms op && have_form body)) e in
      let inner = or_parts (have_form args) (holds_terms op && have_form body) none.1 in
      ap (λ ps. a_form op ps (P.formed_body op (P.formed_args body) (formed_plans body) body)) (plan_args_stay args inner.0)
      ∙ ap (a_form op args) (plan_body_stays op (P.formed_args body) (formed_plans body) body (λ h. plan_args_stay body (none_held (holds_terms op) (have_form body) inner.1 h)) (λ h. plans_stay body (none_held (holds_terms op) (have_form body) inner.1 h)))
  plan_stays p e = refl

  plan_args_stay : (ps : Plans) → have_form ps ≡ false → P.formed_args ps ≡ ps
  plan_args_stay no_plans e = refl
  plan_args_stay (plan place p ps) e =
      let none = or_parts (has_form p) (have_form ps) e in ap (λ q. plan place q (P.formed_args ps)) (plan_stays p none.0) ∙ ap (plan place p) (plan_args_stay ps none.1)

  pub plans_stay : (ps : Plans) → have_form ps ≡ false → formed_plans ps ≡ ps
  plans_stay no_plans e = refl
  plans_stay (plan place p ps) e =
      let none = or_parts (has_form p) (have_form ps) e in
      ap (λ q. P.spread place q (formed_plans ps)) (plan_stays p none.0) ∙ ap (P.spread place p) (plans_stay ps none.1) ∙ plan_spread place p ps none.0

pub same_plans : (nodes : List Node) → have_form (plans_of nodes) ≡ false → plans_of nodes ≡ formed_plans (plans_of nodes)
same_plans nodes e = sym (plans_stay (plans_of nodes) e)

-- ---- their trees

plain_stand : (op : Op) (args body : Trees) → is_form op ≡ false → form_stand op args body ≡ S.Itself
plain_stand (Op.Control Control.For) args body e = absurd cc
plain_stand (Op.Control Control.Printf) args body e = absurd cc
plain_stand (Op.Control Control.Fprintf) args body e = absurd cc
plain_stand op args body e = refl

term_stand : (at : At) (t : Term) → has_form (plan_of t) ≡ false → stand_of (tree_of at t) ≡ S.Itself
unfolding tree_of plan_of has_form
term_stand at (D.Form' op shape args shape' body) e =
    stand_form at op (row_trees args) (row_trees body) ∙ plain_stand op (row_trees args) (row_trees body) (or_parts (is_form op) (have_form (row_plans args) || (holds_terms op && have_form (row_plans body))) e).0
term_stand at t e = refl

body_stays : (op : Op) (body : Trees) → (holds_terms op ≡ true → formed_args body ≡ body) → (holds_terms op ≡ true → formed_all body ≡ body) → formed_body op body ≡ body
body_stays (Op.Special Special.Package) body each all = each refl
body_stays (Op.Declaration Declaration.Method) body each all = all refl
body_stays (Op.Declaration Declaration.Device) body each all = all refl
body_stays (Op.Declaration Declaration.ThermalZone) body each all = all refl
body_stays (Op.Declaration Declaration.PowerResource) body each all = all refl
body_stays (Op.Declaration Declaration.Processor) body each all = all refl
body_stays (Op.Declaration Declaration.Scope) body each all = all refl
body_stays (Op.Control Control.If) body each all = all refl
body_stays (Op.Control Control.ElseIf) body each all = all refl
body_stays (Op.Control Control.Else) body each all = all refl
body_stays (Op.Control Control.While) body each all = all refl
body_stays (Op.Control Control.For) body each all = all refl
body_stays (Op.Control Control.Switch) body each all = all refl
body_stays (Op.Control Control.Case) body each all = all refl
body_stays (Op.Control Control.Default) body each all = all refl
body_stays op body each all = refl

mutual
  unfolding tree_of plan_of has_form

  term_stays : (at : At) (t : Term) → has_form (plan_of t) ≡ false → formed (tree_of at t) ≡ tree_of at t
  term_stays at (D.Call' path shape args) e = ap (Call at path) (args_stay args e)
  term_stays at (D.Form' op shape args shape' body) e =
      let none = or_parts (is_form op) (have_form (row_plans args) || (holds_terms op && have_form (row_plans body))) e in
      let inner = or_parts (have_form (row_plans args)) (holds_terms op && have_form (row_plans body)) none.1 in
      kept_form at op (row_trees args) (row_trees body)
      ∙ ap (λ ts. form at op ts (formed_body op (row_trees body))) (args_stay args inner.0)
      ∙ ap (form at op (row_trees args)) (body_stays op (row_trees body) (λ h. args_stay body (none_held (holds_terms op) (have_form (row_plans body)) inner.1 h)) (λ h. row_stays body (none_held (holds_terms op) (have_form (row_plans body)) inner.1 h)))
  term_stays at t e = refl

  args_stay : {m : _} (row : D.Row_of-Node m) → have_form (row_plans row) ≡ false → formed_args (row_trees row) ≡ row_trees row
  args_stay D.end_of-Node e = refl
  args_stay (D.more_of-Node id place term rest) e =
      let at : At = record { id = id; place = place } in
      let none = or_parts (has_form (plan_of term)) (have_form (row_plans rest)) e in
      ap (λ t. tree t (formed_args (row_trees rest))) (term_stays at term none.0) ∙ ap (tree (tree_of at term)) (args_stay rest none.1)

  row_stays : {m : _} (row : D.Row_of-Node m) → have_form (row_plans row) ≡ false → formed_all (row_trees row) ≡ row_trees row
  row_stays D.end_of-Node e = refl
  row_stays (D.more_of-Node id place term rest) e =
      let at : At = record { id = id; place = place } in
      let none = or_parts (has_form (plan_of term)) (have_form (row_plans rest)) e in
      ap (λ t. spread t (formed_all (row_trees rest))) (term_stays at term none.0) ∙ ap (spread (tree_of at term)) (row_stays rest none.1)
      ∙ sym (itself_spread (tree_of at term) (row_trees rest) (term_stand at term none.0))

pub same_trees : (nodes : List Node) → have_form (plans_of nodes) ≡ false → trees_of nodes ≡ formed_all (trees_of nodes)
unfolding trees_of plans_of has_form
same_trees [] e = refl
same_trees (node ∷ nodes) e =
    let at : At = record { id = node.id; place = node.place } in
    let none = or_parts (has_form (plan_of node.term)) (have_form (plans_of nodes)) e in
    sym (ap (λ t. spread t (formed_all (trees_of nodes))) (term_stays at node.term none.0) ∙ ap (spread (tree_of at node.term)) (sym (same_trees nodes none.1))
    ∙ sym (itself_spread (tree_of at node.term) (trees_of nodes) (term_stand at node.term none.0)))
