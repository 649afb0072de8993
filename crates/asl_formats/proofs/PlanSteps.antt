-- The plans of terms with steps before each Continue, one after another.
use Rattle.std.proofs.Common.{◌≡◌, ℕ, ◌+◌, ◌<◌, Bool, true, false, List, [], ◌∷◌, ◌++◌, length, take, get_or, Vec, Global, refl, sym, ap, ◌∙◌}
use Rattle.std.specs.Prelude.{if◌then◌else◌}
use Rattle.iasl_messages.specs.declared.place.Place.{Place}
use Rattle.asl_tree.specs.declared.term.Control.TheVariants as Control
use Rattle.asl_tree.specs.declared.term.Op.{Op}
use Rattle.asl_tree.specs.declared.term.Node.{Node}
use Rattle.asl_tree.specs.declared.term.Term.{Term}
use Rattle.asl_tree.specs.declared.term.Term as D
use Rattle.asl_tree.specs.Tree.{At, Tree, Trees, no_trees, tree}
use Rattle.asl_tree.specs.View.{form, tree_of, trees_of}
use Rattle.term_plans.specs.Plans.{Plan, a_name, a_unit, a_call, a_form, Plans, no_plans, plan, join, plan_of, plans_of}
use Rattle.term_plans.proofs.Plans.{plan_form}
use Rattle.asl_prints.specs.Nodes.{goes_in}
use Rattle.asl_formats.specs.Steps.{is_next}
use Rattle.asl_prints.specs.Plans.{stepped, stepped_all, steps_before}
use Rattle.asl_prints.specs.PlanParts.{is_continue, placed}
use Rattle.asl_prints.proofs.Layers.{is_form, no_form}
use Rattle.asl_formats.proofs.StepForms.{other_form}
use Rattle.asl_prints.proofs.PlanTrees.{Stands, StandAll, nodes_stand}
use Rattle.asl_prints.proofs.PlanNodes.{join_none, join_assoc, no_nodes, behind, no_taken, all_taken, taken_next, same_place}

pub plans_none : (front nodes : List Node) → plans_of front ≡ join (plans_of front) (plans_of (take 0 nodes))
plans_none front nodes = sym (ap (join (plans_of front)) (no_taken nodes) ∙ join_none (plans_of front))

pub plans_next : (front nodes old new : List Node) (i : ℕ) (node copy : Node) → i < length nodes → node ≡ get_or nodes i node → plans_of old ≡ join (plans_of front) (plans_of (take i nodes)) → placed copy ≡ placed node → new ≡ old ++ copy ∷ []
    → plans_of new ≡ join (plans_of front) (plans_of (take (i + 1) nodes))
plans_next front nodes old new i node copy lt is h same e =
    let one = plan node.place (plan_of node.term) no_plans in
    ap plans_of e ∙ behind old copy ∙ ap (λ ps. join ps (plan copy.place (plan_of copy.term) no_plans)) h
    ∙ ap (join (join (plans_of front) (plans_of (take i nodes)))) (same_place copy node.place (plan_of node.term) no_plans same)
    ∙ join_assoc (plans_of front) (plans_of (take i nodes)) one ∙ ap (join (plans_of front)) (sym (taken_next nodes i node lt is))

pub plans_appended : (front nodes all : List Node) (i : ℕ) → (i < length nodes → ⊥) → plans_of all ≡ join (plans_of front) (plans_of (take i nodes)) → plans_of all ≡ join (plans_of front) (plans_of nodes)
plans_appended front nodes all i h e = e ∙ ap (λ ns. join (plans_of front) (plans_of ns)) (all_taken nodes i h)

-- ---- a Continue

before_alone : (steps : Plans) (p : Plan) → steps_before steps p ≡ (if is_continue p then steps else no_plans)
before_alone steps (a_form (Op.Control Control.Continue) no_plans no_plans) = refl
before_alone steps (a_form (Op.Control Control.Continue) no_plans (plan place p ps)) = refl
before_alone steps (a_form (Op.Control Control.Continue) (plan place p ps) body) = refl
before_alone steps p = refl

-- a Continue that is none: it has arguments or braces
next_with : (at : At) (place : Place) (p : Plan) (ps : Plans) (cs bs : Trees) → StandAll (plan place p ps) cs → is_next (form at (Op.Control Control.Continue) cs bs) ≡ false
next_with at place p ps no_trees bs s = absurd s
next_with at place p ps (tree t ts) bs s = refl

next_in : (at : At) (place : Place) (p : Plan) (ps : Plans) (cs bs : Trees) → StandAll (plan place p ps) bs → is_next (form at (Op.Control Control.Continue) cs bs) ≡ false
next_in at place p ps cs no_trees s = absurd s
next_in at place p ps no_trees (tree t ts) s = refl
next_in at place p ps (tree u us) (tree t ts) s = refl

next_none : (at : At) (cs bs : Trees) → StandAll no_plans cs → StandAll no_plans bs → is_next (form at (Op.Control Control.Continue) cs bs) ≡ true
next_none at no_trees no_trees s r = refl
next_none at no_trees (tree t ts) s r = absurd r
next_none at (tree t ts) bs s r = absurd s

next_stands : (p : Plan) (t : Tree) → Stands p t → is_next t ≡ is_continue p
next_stands (a_form (Op.Control Control.Continue) no_plans no_plans) t s = ap is_next s.3 ∙ next_none s.0 s.1 s.2 s.4 s.5
next_stands (a_form (Op.Control Control.Continue) no_plans (plan place p ps)) t s = ap is_next s.3 ∙ next_in s.0 place p ps s.1 s.2 s.5
next_stands (a_form (Op.Control Control.Continue) (plan place p ps) body) t s = ap is_next s.3 ∙ next_with s.0 place p ps s.1 s.2 s.4
next_stands (a_form op args body) t s = ap is_next s.3 ∙ other_form s.0 op s.1 s.2 refl
next_stands (a_call name args) t s = ap is_next s.2
next_stands (a_name name) t s = ap is_next s.1
next_stands (a_unit segment bits) t s = ap is_next s.1
next_stands p t s = ap is_next s

first_stands : (node : Node) → Stands (plan_of node.term) (tree_of (record { id = node.id; place = node.place }) node.term)
unfolding plans_of trees_of
first_stands node = (nodes_stand (node ∷ [])).0

pub node_next : (node : Node) → is_next (tree_of (record { id = node.id; place = node.place }) node.term) ≡ is_continue (plan_of node.term)
node_next node = next_stands (plan_of node.term) (tree_of (record { id = node.id; place = node.place }) node.term) (first_stands node)

steps_by : (steps : Plans) (node : Node) (b c : Bool) → ((at : At) → is_next (tree_of at node.term) ≡ b) → b ≡ c → steps_before steps (plan_of node.term) ≡ (if c then steps else no_plans)
steps_by steps node b c h e =
    before_alone steps (plan_of node.term)
    ∙ ap (λ (d : Bool). if d then steps else no_plans) (sym (node_next node) ∙ h (record { id = node.id; place = node.place }) ∙ e)

pub plans_before : (steps front all : Plans) (node : Node) (b : Bool) → ((at : At) → is_next (tree_of at node.term) ≡ b) → b ≡ true → all ≡ join front steps → all ≡ join front (steps_before steps (plan_of node.term))
plans_before steps front all node b h e a = a ∙ ap (join front) (sym (steps_by steps node b true h e))

pub plans_before_other : (steps front : Plans) (node : Node) (b : Bool) → ((at : At) → is_next (tree_of at node.term) ≡ b) → b ≡ false → front ≡ join front (steps_before steps (plan_of node.term))
plans_before_other steps front node b h e = sym (ap (join front) (steps_by steps node b false h e) ∙ join_none front)

-- ---- terms

stepped_joined : (steps ps qs : Plans) → stepped_all steps (join ps qs) ≡ join (stepped_all steps ps) (stepped_all steps qs)
stepped_joined steps no_plans qs = refl
stepped_joined steps (plan place p ps) qs =
    ap (λ rs. join (steps_before steps p) (plan place (stepped steps p) rs)) (stepped_joined steps ps qs)
    ∙ sym (join_assoc (steps_before steps p) (plan place (stepped steps p) (stepped_all steps ps)) (stepped_all steps qs))

pub plans_stepped_none : (steps : Plans) (nodes made : List Node) → made ≡ [] → plans_of made ≡ stepped_all steps (plans_of (take 0 nodes))
plans_stepped_none steps nodes made e = ap plans_of e ∙ no_nodes ∙ sym (ap (stepped_all steps) (no_taken nodes))

pub plans_stepped_next : (steps : Plans) (nodes old front new : List Node) (i : ℕ) (node copy : Node) → i < length nodes → node ≡ get_or nodes i node → plans_of old ≡ stepped_all steps (plans_of (take i nodes))
    → plans_of front ≡ join (plans_of old) (steps_before steps (plan_of node.term)) → placed copy ≡ (node.place, stepped steps (plan_of node.term)) → new ≡ front ++ copy ∷ [] → plans_of new ≡ stepped_all steps (plans_of (take (i + 1) nodes))
plans_stepped_next steps nodes old front new i node copy lt is h f same e =
    let one = plan node.place (stepped steps (plan_of node.term)) no_plans in
    let before = steps_before steps (plan_of node.term) in
    let ps = plans_of (take i nodes) in
    ap plans_of e ∙ behind front copy ∙ ap (λ qs. join qs (plan copy.place (plan_of copy.term) no_plans)) f
    ∙ ap (join (join (plans_of old) before)) (same_place copy node.place (stepped steps (plan_of node.term)) no_plans same)
    ∙ join_assoc (plans_of old) before one ∙ ap (λ qs. join qs (join before one)) h
    ∙ sym (stepped_joined steps ps (plan node.place (plan_of node.term) no_plans)) ∙ ap (stepped_all steps) (sym (taken_next nodes i node lt is))

pub plans_stepped_last : (steps : Plans) (nodes made : List Node) (i : ℕ) → (i < length nodes → ⊥) → plans_of made ≡ stepped_all steps (plans_of (take i nodes)) → plans_of made ≡ stepped_all steps (plans_of nodes)
plans_stepped_last steps nodes made i h e = e ∙ ap (λ ns. stepped_all steps (plans_of ns)) (all_taken nodes i h)

-- ---- a term

flat_stepped : (steps : Plans) (t : Term) → is_form t ≡ false → plan_of t ≡ stepped steps (plan_of t)
unfolding plan_of
flat_stepped steps (D.Form' op shape args shape' body) e = absurd cc
flat_stepped steps t e = refl

pub other_plan_stepped : (steps : Plans) (t made : Term) → ((o : Op) (v w : Vec Node Global) → t ≡ D.Form o v w → ⊥) → plan_of made ≡ plan_of t → plan_of made ≡ stepped steps (plan_of t)
other_plan_stepped steps t made h e = e ∙ flat_stepped steps t (no_form t h)

pub form_plan_stepped : (steps : Plans) (t : Term) (op : Op) (args body args' body' : Vec Node Global) (xs ys : List Node) → t ≡ D.Form op args body → xs ≡ args.items → ys ≡ body.items → plans_of args'.items ≡ plans_of xs
    → plans_of body'.items ≡ (if goes_in op then stepped_all steps (plans_of ys) else plans_of ys) → plan_of (D.Form op args' body') ≡ stepped steps (plan_of t)
form_plan_stepped steps t op args body args' body' xs ys e x y a b =
    plan_form op args' body' ∙ ap (λ ps. a_form op ps (plans_of body'.items)) (a ∙ ap plans_of x)
    ∙ ap (a_form op (plans_of args.items)) (b ∙ ap (λ ns. if goes_in op then stepped_all steps (plans_of ns) else plans_of ns) y)
    ∙ sym (ap (λ t. stepped steps (plan_of t)) e ∙ ap (stepped steps) (plan_form op args body))
