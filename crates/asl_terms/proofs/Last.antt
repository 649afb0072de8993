-- The last node of a list, and its plan.
use Rattle.std.proofs.Common.{◌≡◌, ℕ, zero, suc, ◌+◌, ◌<◌, length, get_or, set, arith, List, [], ◌∷◌, ◌++◌, refl, ap, ◌∙◌, sym}
use Rattle.iasl_messages.specs.declared.place.Place.{Place}
use Rattle.asl_tree.specs.declared.term.Node.{Node}
use Rattle.asl_tree.specs.declared.term.Term as D
use Rattle.term_plans.specs.Plans.{Plan, Plans, no_plans, plan, omitted, plan_of, plans_of, join, last_behind, last_plan, before_end, before_last, with_end, with_last}
use Rattle.term_plans.specs.Plans.{one_plan}
use Rattle.term_plans.proofs.Lists.{push_is}

-- ---- behind others

pub last_join : (ps : Plans) (place : Place) (p : Plan) → last_plan (join ps (one_plan place p)) ≡ p
last_join ps place p = behind omitted ps
  where
    behind : (q : Plan) (qs : Plans) → last_behind q (join qs (one_plan place p)) ≡ p
    behind q no_plans = refl
    behind q (plan at r rs) = behind r rs

pub before_join : (ps : Plans) (place : Place) (p : Plan) → before_last (join ps (one_plan place p)) ≡ ps
before_join no_plans place p = refl
before_join (plan at q qs) place p = behind at q qs
  where
    behind : (at : Place) (q : Plan) (qs : Plans) → before_end at q (join qs (one_plan place p)) ≡ plan at q qs
    behind at q no_plans = refl
    behind at q (plan next r rs) = ap (plan at q) (behind next r rs)

pub with_join : (last : Plan) (ps : Plans) (place : Place) (p : Plan) → with_last last (join ps (one_plan place p)) ≡ join ps (one_plan place last)
with_join last no_plans place p = refl
with_join last (plan at q qs) place p = behind at q qs
  where
    behind : (at : Place) (q : Plan) (qs : Plans) → with_end last at q (join qs (one_plan place p)) ≡ plan at q (join qs (one_plan place last))
    behind at q no_plans = refl
    behind at q (plan next r rs) = ap (plan at q) (behind next r rs)

pub last_stays : (ps : Plans) → with_last (last_plan ps) ps ≡ ps
last_stays no_plans = refl
last_stays (plan place p ps) = behind place p ps
  where
    behind : (at : Place) (q : Plan) (qs : Plans) → with_end (last_behind q qs) at q qs ≡ plan at q qs
    behind at q no_plans = refl
    behind at q (plan next r rs) = ap (plan at q) (behind next r rs)

-- ---- by nodes

pub taken_term : (all rest : List Node) (node : Node) → all ≡ rest ++ node ∷ [] → plan_of node.term ≡ last_plan (plans_of all)
taken_term all rest node e = sym (ap (λ ns. last_plan (plans_of ns)) e ∙ ap last_plan (push_is rest node) ∙ last_join (plans_of rest) node.place (plan_of node.term))

pub taken_rest : (all rest : List Node) (node : Node) → all ≡ rest ++ node ∷ [] → plans_of rest ≡ before_last (plans_of all)
taken_rest all rest node e = sym (ap (λ ns. before_last (plans_of ns)) e ∙ ap before_last (push_is rest node) ∙ before_join (plans_of rest) node.place (plan_of node.term))

pub taken_none : (all : List Node) → length all ≡ 0 → plan_of D.Omitted ≡ last_plan (plans_of all)
unfolding plan_of plans_of
taken_none [] e = refl
taken_none (node ∷ all) e = absurd (omega (arith, e))

pub none_taken : (all rest : List Node) → all ≡ [] → all ≡ rest ++ [] → plans_of rest ≡ before_last (plans_of all)
unfolding plans_of
none_taken [] [] e f = refl
none_taken [] (node ∷ rest) e f = absurd (cc)
none_taken (node ∷ all) rest e f = absurd (cc)

alone : (p : Plan) (nodes : List Node) → length nodes ≡ 0 → last_behind p (plans_of nodes) ≡ p
unfolding plans_of
alone p [] e = refl
alone p (node ∷ nodes) e = absurd (omega (arith, e))

pub last_node : (nodes : List Node) (i : ℕ) (d : Node) → i + 1 ≡ length nodes → last_plan (plans_of nodes) ≡ plan_of (get_or nodes i d).term
unfolding plans_of
last_node nodes i d e = behind omitted nodes i e
  where
    behind : (p : Plan) (ns : List Node) (i : ℕ) → i + 1 ≡ length ns → last_behind p (plans_of ns) ≡ plan_of (get_or ns i d).term
    behind p [] i e = absurd (omega (arith, e))
    behind p (n ∷ ns) zero e = alone (plan_of n.term) ns (omega (arith, e))
    behind p (n ∷ ns) (suc i) e = behind (plan_of n.term) ns i (omega (arith, e))

pub last_put : (nodes : List Node) (i : ℕ) (node d : Node) → i + 1 ≡ length nodes → node.place ≡ (get_or nodes i d).place
    → plans_of (set nodes i node) ≡ with_last (plan_of node.term) (plans_of nodes)
unfolding plans_of
last_put [] i node d e f = absurd (omega (arith, e))
last_put (n ∷ ns) i node d e f = behind n ns i e f
  where
    behind : (n : Node) (ns : List Node) (i : ℕ) → i + 1 ≡ length (n ∷ ns) → node.place ≡ (get_or (n ∷ ns) i d).place
        → plans_of (set (n ∷ ns) i node) ≡ with_end (plan_of node.term) n.place (plan_of n.term) (plans_of ns)
    behind n [] zero e f = ap (λ place. plan place (plan_of node.term) no_plans) f
    behind n [] (suc i) e f = absurd (omega (arith, e))
    behind n (m ∷ ms) zero e f = absurd (omega (arith, e))
    behind n (m ∷ ms) (suc i) e f = ap (plan n.place (plan_of n.term)) (behind m ms i (omega (arith, e)) f)

pub ruleset taken_rules = (taken_term, taken_rest, taken_none, none_taken)

-- where a node was put behind others
pub some_behind : (nodes : List Node) (ps : Plans) (place : Place) (p : Plan) → plans_of nodes ≡ join ps (one_plan place p) → 0 < length nodes
unfolding plans_of
some_behind [] no_plans place p e = absurd (cc)
some_behind [] (plan at q qs) place p e = absurd (cc)
some_behind (node ∷ nodes) ps place p e = omega arith
