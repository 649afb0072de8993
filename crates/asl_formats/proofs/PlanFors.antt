-- The plans of what stands for a For.
use Rattle.std.proofs.Common.{◌≡◌, ℕ, ◌<◌, ◌≤◌, Bool, true, List, [], ◌∷◌, ◌++◌, length, get_or, Vec, Global, refl, sym, ap, ◌∙◌, subst, arith}
use Rattle.std.specs.Prelude.{if◌then◌else◌}
use Rattle.iasl_messages.specs.declared.place.Place.{Place}
use Rattle.asl_tree.specs.declared.term.Control.TheVariants as Control
use Rattle.asl_tree.specs.declared.term.Op.{Op}
use Rattle.asl_tree.specs.declared.term.Node.{Node}
use Rattle.asl_tree.specs.declared.term.Term.{Term}
use Rattle.asl_tree.specs.declared.term.Term as D
use Rattle.asl_tree.specs.Tree.{Trees, no_trees, tree}
use Rattle.asl_tree.specs.View.{trees_of}
use Rattle.term_plans.specs.Plans.{Plan, a_form, Plans, no_plans, plan, join, plan_of, plans_of}
use Rattle.term_plans.proofs.Plans.{plan_form}
use Rattle.asl_formats.specs.Steps.{CanStep, IsLoop}
use Rattle.asl_prints.specs.Plans.{optional, stepped_all, while_plan, is_steppable, spread}
use Rattle.asl_formats.specs.PlanPass.{for_plans}
use Rattle.asl_prints.specs.PlanParts.{placed}
use Rattle.asl_formats.proofs.Fors.{three_items, loop_row, not_loop}
use Rattle.asl_prints.proofs.PlanTrees.{StandAll, nodes_stand, steppable_stands}
use Rattle.asl_prints.proofs.PlanNodes.{no_nodes, one_node, behind, same_place}

-- ---- a term that may be left out

pub optional_none : (node : Node) (nodes : List Node) → node.term ≡ D.Omitted → nodes ≡ [] → plans_of nodes ≡ optional node.place (plan_of node.term)
unfolding plan_of
optional_none node nodes e n = ap plans_of n ∙ no_nodes ∙ sym (ap (λ t. optional node.place (plan_of t)) e)

is_there : (place : Place) (t : Term) → (t ≡ D.Omitted → ⊥) → optional place (plan_of t) ≡ plan place (plan_of t) no_plans
unfolding plan_of
is_there place D.Omitted never = absurd (never refl)
is_there place t never = refl

pub optional_one : (node copy : Node) (old new : List Node) → (node.term ≡ D.Omitted → ⊥) → placed copy ≡ placed node → old ≡ [] → new ≡ old ++ copy ∷ [] → plans_of new ≡ optional node.place (plan_of node.term)
optional_one node copy old new never same n e =
    ap plans_of e ∙ one_node old copy n ∙ same_place copy node.place (plan_of node.term) no_plans same ∙ sym (is_there node.place node.term never)

-- ---- a While

pub while_made : (id : ℕ) (place : Place) (test copy : Node) (old : List Node) (args body : Vec Node Global) → placed copy ≡ placed test → old ≡ [] → args.items ≡ old ++ copy ∷ []
    → placed (record { id = id; place = place; term = D.Form (Op.Control Control.While) args body }) ≡ (place, a_form (Op.Control Control.While) (plan test.place (plan_of test.term) no_plans) (plans_of body.items))
while_made id place test copy old args body same n e =
    ap (λ (p : Plan). (place, p)) (plan_form (Op.Control Control.While) args body
    ∙ ap (λ ps. a_form (Op.Control Control.While) ps (plans_of body.items)) (ap plans_of e ∙ one_node old copy n ∙ same_place copy test.place (plan_of test.term) no_plans same))

-- ---- the parts of a For

three_plans : (a b c : Node) → plans_of (a ∷ b ∷ c ∷ []) ≡ plan a.place (plan_of a.term) (plan b.place (plan_of b.term) (plan c.place (plan_of c.term) no_plans))
unfolding plans_of
three_plans a b c = refl

pub parts_of_three : (here : Place) (start test step turn : Node) (args steps made new : List Node) (body inner : Plans) → 3 ≤ length args → length args < 4 → start ≡ get_or args 0 start → test ≡ get_or args 1 test → step ≡ get_or args 2 step
    → plans_of steps ≡ optional step.place (plan_of step.term) → inner ≡ join (stepped_all (plans_of steps) body) (plans_of steps) → placed turn ≡ (here, a_form (Op.Control Control.While) (plan test.place (plan_of test.term) no_plans) inner)
    → plans_of made ≡ optional start.place (plan_of start.term) → new ≡ made ++ turn ∷ [] → plans_of new ≡ for_plans here (plans_of args) body
parts_of_three here start test step turn args steps made new body inner h k ea eb ec s i w m n =
    let one = λ (ps : Plans). a_form (Op.Control Control.While) (plan test.place (plan_of test.term) no_plans) ps in
    ap plans_of n ∙ behind made turn ∙ ap (λ ps. join ps (plan turn.place (plan_of turn.term) no_plans)) m
    ∙ ap (join (optional start.place (plan_of start.term))) (same_place turn here (one inner) no_plans w)
    ∙ ap (λ ps. join (optional start.place (plan_of start.term)) (plan here (one ps) no_plans)) (i ∙ ap (λ ps. join (stepped_all ps body) ps) s)
    ∙ sym (ap (λ ns. for_plans here (plans_of ns) body) (three_items args start test step h k ea eb ec) ∙ ap (λ ps. for_plans here ps body) (three_plans start test step))

other_parts : (here : Place) (args : List Node) (body : Plans) → (length args ≡ 3 → ⊥) → for_plans here (plans_of args) body ≡ no_plans
unfolding plans_of
other_parts here [] body h = refl
other_parts here (a ∷ []) body h = refl
other_parts here (a ∷ b ∷ []) body h = refl
other_parts here (a ∷ b ∷ c ∷ []) body h = absurd (h refl)
other_parts here (a ∷ b ∷ c ∷ d ∷ ns) body h = refl

pub few_made : (here : Place) (args made : List Node) (body : Plans) → length args < 3 → made ≡ [] → plans_of made ≡ for_plans here (plans_of args) body
few_made here args made body h e = ap plans_of e ∙ no_nodes ∙ sym (other_parts here args body (λ l. omega (arith, h, l)))

pub many_made : (here : Place) (args made : List Node) (body : Plans) → 4 ≤ length args → made ≡ [] → plans_of made ≡ for_plans here (plans_of args) body
many_made here args made body h e = ap plans_of e ∙ no_nodes ∙ sym (other_parts here args body (λ l. omega (arith, h, l)))

-- ---- a For

spread_for : (here : Place) (ps qs : Plans) (ts us : Trees) → StandAll ps ts → StandAll qs us → CanStep ts us → for_plans here ps qs ≡ spread here (a_form (Op.Control Control.For) ps qs) no_plans
spread_for here ps qs no_trees us s r h = absurd h
spread_for here ps qs (tree x no_trees) us s r h = absurd h
spread_for here ps qs (tree x (tree y no_trees)) us s r h = absurd h
spread_for here ps qs (tree x (tree y (tree z (tree w ws)))) us s r h = absurd h
spread_for here no_plans qs (tree x (tree y (tree z no_trees))) us s r h = absurd s
spread_for here (plan a p no_plans) qs (tree x (tree y (tree z no_trees))) us s r h = absurd s.1
spread_for here (plan a p (plan b q no_plans)) qs (tree x (tree y (tree z no_trees))) us s r h = absurd s.1.1
spread_for here (plan a p (plan b q (plan c l (plan d m ps)))) qs (tree x (tree y (tree z no_trees))) us s r h = absurd s.1.1.1
spread_for here (plan a start (plan b test (plan c step no_plans))) qs (tree x (tree y (tree z no_trees))) us s r h =
    let e : is_steppable start step qs ≡ true = steppable_stands start step qs x z us s.0 s.1.1.0 r ∙ h in
    sym (ap (λ (d : Bool). if d then join (optional a start) (plan here (while_plan b test (optional c step) qs) no_plans) else
    plan here (a_form (Op.Control Control.For) (plan a start (plan b test (plan c step no_plans))) qs) no_plans) e)

pub loop_made : (node : Node) (op : Op) (args body : Vec Node Global) (xs ys : List Node) (made : Plans) → node.term ≡ D.Form op args body → xs ≡ args.items → ys ≡ body.items → IsLoop node.term → made ≡ for_plans node.place (plans_of xs) (plans_of ys)
    → made ≡ spread node.place (plan_of node.term) no_plans
loop_made node op args body xs ys made e ex ey h m =
    let is = loop_row op args body (subst IsLoop e h) in
    m ∙ ap (λ ns. for_plans node.place (plans_of ns) (plans_of ys)) ex ∙ ap (λ ns. for_plans node.place (plans_of args.items) (plans_of ns)) ey
    ∙ spread_for node.place (plans_of args.items) (plans_of body.items) (trees_of args.items) (trees_of body.items) (nodes_stand args.items) (nodes_stand body.items) is.1
    ∙ ap (λ o. spread node.place (a_form o (plans_of args.items) (plans_of body.items)) no_plans) (sym is.0)
    ∙ sym (ap (λ t. spread node.place (plan_of t) no_plans) e ∙ ap (λ p. spread node.place p no_plans) (plan_form op args body))

pub no_loop : (node : Node) (made : Plans) → ((o : Op) (v w : Vec Node Global) → node.term ≡ D.Form o v w → ⊥) → IsLoop node.term → made ≡ spread node.place (plan_of node.term) no_plans
no_loop node made not_form h = absurd (not_loop node.term not_form h)
