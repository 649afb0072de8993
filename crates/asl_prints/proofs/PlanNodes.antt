-- The plans of nodes one after another.
use Rattle.std.proofs.Common.{◌≡◌, ℕ, zero, suc, ◌+◌, ◌<◌, List, [], ◌∷◌, ◌++◌, length, take, get_or, refl, ap, ◌∙◌, arith}
use Rattle.iasl_messages.specs.declared.place.Place.{Place}
use Rattle.asl_tree.specs.declared.term.Node.{Node}
use Rattle.term_plans.specs.Plans.{Plan, Plans, no_plans, plan, join, plan_of, plans_of}
use Rattle.asl_prints.specs.PlanParts.{placed}
use Rattle.asl_prints.proofs.Nodes.{take_next}

pub join_none : (ps : Plans) → join ps no_plans ≡ ps
join_none no_plans = refl
join_none (plan place p ps) = ap (plan place p) (join_none ps)

pub join_assoc : (ps qs rs : Plans) → join (join ps qs) rs ≡ join ps (join qs rs)
join_assoc no_plans qs rs = refl
join_assoc (plan place p ps) qs rs = ap (plan place p) (join_assoc ps qs rs)

pub no_nodes : plans_of [] ≡ no_plans
unfolding plans_of
no_nodes = refl

-- a node before others, by its place and its plan
pub node_first : (node : Node) (nodes : List Node) → plans_of (node ∷ nodes) ≡ plan node.place (plan_of node.term) (plans_of nodes)
unfolding plans_of
node_first node nodes = refl

pub behind : (nodes : List Node) (node : Node) → plans_of (nodes ++ node ∷ []) ≡ join (plans_of nodes) (plan node.place (plan_of node.term) no_plans)
unfolding plans_of
behind [] node = refl
behind (n ∷ nodes) node = ap (plan n.place (plan_of n.term)) (behind nodes node)

pub one_node : (nodes : List Node) (node : Node) → nodes ≡ [] → plans_of (nodes ++ node ∷ []) ≡ plan node.place (plan_of node.term) no_plans
one_node nodes node e = ap (λ ns. plans_of (ns ++ node ∷ [])) e ∙ behind [] node ∙ ap (λ ps. join ps (plan node.place (plan_of node.term) no_plans)) no_nodes

none_taken : (nodes : List Node) → take 0 nodes ≡ []
none_taken [] = refl
none_taken (node ∷ nodes) = refl

pub no_taken : (nodes : List Node) → plans_of (take 0 nodes) ≡ no_plans
no_taken nodes = ap plans_of (none_taken nodes) ∙ no_nodes

pub all_taken : (nodes : List Node) (i : ℕ) → (i < length nodes → ⊥) → take i nodes ≡ nodes
all_taken [] zero h = refl
all_taken [] (suc i) h = refl
all_taken (node ∷ nodes) zero h = absurd (h (omega arith))
all_taken (node ∷ nodes) (suc i) h = ap (λ ns. node ∷ ns) (all_taken nodes i (λ lt. h (omega (arith, lt))))

-- the first of some nodes, with the next one
pub taken_next : (nodes : List Node) (i : ℕ) (node : Node) → i < length nodes → node ≡ get_or nodes i node → plans_of (take (i + 1) nodes) ≡ join (plans_of (take i nodes)) (plan node.place (plan_of node.term) no_plans)
taken_next nodes i node lt is =
    let one : i + 1 ≡ suc i = omega arith in
    ap (λ n. plans_of (take n nodes)) one ∙ ap plans_of (take_next nodes i node lt is) ∙ behind (take i nodes) node

-- a node with the place and the plan of another, before others
pub same_place : (node : Node) (place : Place) (p : Plan) (rest : Plans) → placed node ≡ (place, p) → plan node.place (plan_of node.term) rest ≡ plan place p rest
same_place node place p rest e = ap (λ (q : Place × Plan). plan q.0 q.1 rest) e
