-- The plans of lists: one behind another, and by their numbers.
use Rattle.std.proofs.Common.{◌≡◌, ℕ, zero, suc, ◌<◌, ◌≤◌, length, get_or, arith, List, [], ◌∷◌, ◌++◌, refl, ap, ◌∙◌, sym, Vec, Global}
use Rattle.asl_tree.specs.declared.path.Path.{Path}
use Rattle.asl_tree.specs.declared.term.Op.{Op}
use Rattle.asl_tree.specs.declared.term.Node.{Node}
use Rattle.asl_tree.specs.declared.term.Term as D
use Rattle.term_plans.specs.Plans.{Plans, no_plans, plan, omitted, plan_of, plans_of, plan_at, number_of, join, one_plan}
use Rattle.term_plans.proofs.Plans.{plan_form, plan_call}

pub join_assoc : (ps qs rs : Plans) → join (join ps qs) rs ≡ join ps (join qs rs)
join_assoc no_plans qs rs = refl
join_assoc (plan place p ps) qs rs = ap (plan place p) (join_assoc ps qs rs)

pub join_nothing : (ps : Plans) → join ps no_plans ≡ ps
join_nothing no_plans = refl
join_nothing (plan place p ps) = ap (plan place p) (join_nothing ps)

pub join_first : (ps : Plans) → join (plans_of []) ps ≡ ps
unfolding plans_of
join_first ps = refl

pub no_nodes : plans_of [] ≡ no_plans
unfolding plans_of
no_nodes = refl

pub push_is : (nodes : List Node) (node : Node) → plans_of (nodes ++ node ∷ []) ≡ join (plans_of nodes) (one_plan node.place (plan_of node.term))
unfolding plans_of
push_is [] node = refl
push_is (n ∷ ns) node = ap (plan n.place (plan_of n.term)) (push_is ns node)

pub at_some : (nodes : List Node) (i : ℕ) (d : Node) → i < length nodes → plan_at (plans_of nodes) i ≡ plan_of (get_or nodes i d).term
unfolding plans_of
at_some [] i d lt = absurd (omega (arith, lt))
at_some (node ∷ nodes) zero d lt = refl
at_some (node ∷ nodes) (suc i) d lt = at_some nodes i d (omega (arith, lt))

pub at_none : (nodes : List Node) (i : ℕ) → length nodes ≤ i → plan_at (plans_of nodes) i ≡ omitted
unfolding plans_of
at_none [] zero le = refl
at_none [] (suc i) le = refl
at_none (node ∷ nodes) zero le = absurd (omega (arith, le))
at_none (node ∷ nodes) (suc i) le = at_none nodes i (omega (arith, le))

pub number_form : (o : Op) (args body : Vec Node Global) → number_of (plan_of (D.Form o args body)) ≡ 0
number_form o args body = ap number_of (plan_form o args body)

pub number_call : (path : Path) (args : Vec Node Global) → number_of (plan_of (D.Call path args)) ≡ 0
number_call path args = ap number_of (plan_call path args)

pub number_some : (nodes : List Node) (i : ℕ) (d : Node) → i < length nodes → d ≡ get_or nodes i d → number_of (plan_of d.term) ≡ number_of (plan_at (plans_of nodes) i)
number_some nodes i d lt e = ap (λ (n : Node). number_of (plan_of n.term)) e ∙ ap number_of (sym (at_some nodes i d lt))

pub number_none : (nodes : List Node) (i : ℕ) → length nodes ≤ i → number_of (plan_at (plans_of nodes) i) ≡ 0
number_none nodes i le = ap number_of (at_none nodes i le)

pub ruleset at_rules = (number_some, number_none)
