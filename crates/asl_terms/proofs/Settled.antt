-- The arguments of forms, by their nodes.
use Rattle.std.proofs.Common.{◌≡◌, ℕ, zero, suc, ◌+◌, ◌<◌, ◌≤◌, length, get_or, set, take, drop, add-one, arith, List, [], ◌∷◌, ◌++◌, refl, ap, ◌∙◌, sym, true, false, if◌then◌else◌, None, Vec, Global}
use Rattle.std.specs.List.{remove}
use Rattle.asl_tree.specs.declared.term.Op.{Op}
use Rattle.asl_tree.specs.declared.term.Literal.{Literal}
use Rattle.asl_tree.specs.declared.term.Node.{Node}
use Rattle.asl_tree.specs.declared.term.Term as D
use Rattle.acpi_values.specs.declared.width.Width.{Width}
use Rattle.term_plans.specs.Plans.{Plans, no_plans, plan, a_form, plan_of, plans_of, plan_at, first_plans, join, constant_of, one_plan}
use Rattle.asl_terms.specs.Terms.{is_stated, zero_plan, one_word, for_settled, few_elements, is_default_plan, default_last}
use Rattle.term_plans.proofs.Plans.{plan_form}
use Rattle.term_plans.proofs.Lists.{push_is, at_some, at_none, no_nodes, join_first}

pub stated_some : (nodes : List Node) (i : ℕ) (d : Node) → i < length nodes → d ≡ get_or nodes i d → is_stated (plan_of d.term) ≡ is_stated (plan_at (plans_of nodes) i)
stated_some nodes i d lt e = ap (λ (n : Node). is_stated (plan_of n.term)) e ∙ ap is_stated (sym (at_some nodes i d lt))

pub stated_none : (nodes : List Node) (i : ℕ) → length nodes ≤ i → is_stated (plan_at (plans_of nodes) i) ≡ false
stated_none nodes i le = ap is_stated (at_none nodes i le)

pub ruleset given_rules = (stated_some, stated_none)

pub few_some : (width : Width) (nodes : List Node) (d : Node) → 0 < length nodes → d ≡ get_or nodes 0 d → constant_of width (plan_of d.term) ≡ constant_of width (plan_at (plans_of nodes) 0)
few_some width nodes d lt e = ap (λ (n : Node). constant_of width (plan_of n.term)) e ∙ ap (constant_of width) (sym (at_some nodes 0 d lt))

pub few_none : (width : Width) (nodes : List Node) → length nodes ≤ 0 → few_elements (constant_of width (plan_at (plans_of nodes) 0)) ≡ None
few_none width nodes le = ap (λ p. few_elements (constant_of width p)) (at_none nodes 0 le)

pub ruleset few_rules = (few_some, few_none)

pub ruleset push_rules = (push_is)

pub first_are : (n : ℕ) (nodes : List Node) → plans_of (take n nodes) ≡ first_plans n (plans_of nodes)
unfolding plans_of
first_are zero nodes = refl
first_are (suc n) [] = refl
first_are (suc n) (node ∷ nodes) = ap (plan node.place (plan_of node.term)) (first_are n nodes)

pub zero_is : (args body : Vec Node Global) → args.items ≡ [] → body.items ≡ [] → plan_of (D.Form (Op.Literal Literal.Zero) args body) ≡ zero_plan
zero_is args body e f = plan_form (Op.Literal Literal.Zero) args body ∙ ap (λ ns. a_form (Op.Literal Literal.Zero) (plans_of ns) (plans_of body.items)) e ∙ ap (λ ns. a_form (Op.Literal Literal.Zero) (plans_of []) (plans_of ns)) f ∙ ap (λ ps. a_form (Op.Literal Literal.Zero) ps ps) no_nodes

pub ruleset zero_rules = (zero_is)

pub one_is : (args body : Vec Node Global) → args.items ≡ [] → body.items ≡ [] → plan_of (D.Form (Op.Literal Literal.One) args body) ≡ one_word
one_is args body e f = plan_form (Op.Literal Literal.One) args body ∙ ap (λ ns. a_form (Op.Literal Literal.One) (plans_of ns) (plans_of body.items)) e ∙ ap (λ ns. a_form (Op.Literal Literal.One) (plans_of []) (plans_of ns)) f ∙ ap (λ ps. a_form (Op.Literal Literal.One) ps ps) no_nodes

pub ruleset one_rules = (one_is)

-- ---- the test of a For

pub no_test : (nodes : List Node) → length nodes ≤ 1 → plans_of nodes ≡ for_settled (plans_of nodes)
unfolding plans_of
no_test [] le = refl
no_test (start ∷ []) le = refl
no_test (start ∷ test ∷ nodes) le = absurd (omega (arith, le))

pub test_stays : (nodes : List Node) → is_stated (plan_at (plans_of nodes) 1) ≡ true → plans_of nodes ≡ for_settled (plans_of nodes)
unfolding plans_of
test_stays [] e = refl
test_stays (start ∷ []) e = refl
test_stays (start ∷ test ∷ nodes) e = ap (λ b. plan start.place (plan_of start.term) (plan test.place (if b then plan_of test.term else one_word) (plans_of nodes))) (sym e)

pub test_put : (nodes : List Node) (node d : Node) → 1 < length nodes → is_stated (plan_at (plans_of nodes) 1) ≡ false → node.place ≡ (get_or nodes 1 d).place → plan_of node.term ≡ one_word
    → plans_of (set nodes 1 node) ≡ for_settled (plans_of nodes)
unfolding plans_of
test_put [] node d lt e f g = absurd (omega (arith, lt))
test_put (start ∷ []) node d lt e f g = absurd (omega (arith, lt))
test_put (start ∷ test ∷ nodes) node d lt e f g =
    ap (λ place. plan start.place (plan_of start.term) (plan place (plan_of node.term) (plans_of nodes))) f
    ∙ ap (λ p. plan start.place (plan_of start.term) (plan test.place p (plans_of nodes))) g
    ∙ ap (λ b. plan start.place (plan_of start.term) (plan test.place (if b then plan_of test.term else one_word) (plans_of nodes))) (sym e)

pub ruleset test_rules = (no_test, test_stays, test_put)

pub ruleset single_rules = (join_first, no_nodes)

-- ---- the Default of a Switch

-- the nodes before one of them are no Default, and it moves behind those that follow it
default_here : (nodes : List Node) (i : ℕ) (d : Node) → i < length nodes → is_default_plan (plan_of (get_or nodes i d).term) ≡ true → plans_of (remove nodes i ++ get_or nodes i d ∷ []) ≡ join (plans_of (take i nodes)) (default_last (plans_of (drop i nodes)))
unfolding plans_of
default_here [] i d lt e = absurd (omega (arith, lt))
default_here (node ∷ nodes) zero d lt e = push_is nodes node ∙ sym (ap (λ b. if b then join (plans_of nodes) (one_plan node.place (plan_of node.term)) else plan node.place (plan_of node.term) (default_last (plans_of nodes))) e)
default_here (node ∷ nodes) (suc i) d lt e = ap (plan node.place (plan_of node.term)) (default_here nodes i d (omega (arith, lt)) e)

default_behind : (nodes : List Node) (i : ℕ) (d : Node) → i < length nodes → is_default_plan (plan_of (get_or nodes i d).term) ≡ false
    → join (plans_of (take (suc i) nodes)) (default_last (plans_of (drop (suc i) nodes))) ≡ join (plans_of (take i nodes)) (default_last (plans_of (drop i nodes)))
unfolding plans_of
default_behind [] i d lt e = absurd (omega (arith, lt))
default_behind (node ∷ nodes) zero d lt e = sym (ap (λ b. if b then join (plans_of nodes) (one_plan node.place (plan_of node.term)) else plan node.place (plan_of node.term) (default_last (plans_of nodes))) e)
default_behind (node ∷ nodes) (suc i) d lt e = ap (plan node.place (plan_of node.term)) (default_behind nodes i d (omega (arith, lt)) e)

default_nowhere : (nodes : List Node) (i : ℕ) → length nodes ≤ i → plans_of nodes ≡ join (plans_of (take i nodes)) (default_last (plans_of (drop i nodes)))
unfolding plans_of
default_nowhere [] zero le = refl
default_nowhere [] (suc i) le = refl
default_nowhere (node ∷ nodes) zero le = absurd (omega (arith, le))
default_nowhere (node ∷ nodes) (suc i) le = ap (plan node.place (plan_of node.term)) (default_nowhere nodes i (omega (arith, le)))

pub default_start : (nodes : List Node) → join (plans_of (take 0 nodes)) (default_last (plans_of (drop 0 nodes))) ≡ default_last (plans_of nodes)
unfolding plans_of
default_start nodes = refl

pub default_next : (nodes : List Node) (i : ℕ) (d : Node) (w : Plans) → i < length nodes → is_default_plan (plan_of (get_or nodes i d).term) ≡ false
    → join (plans_of (take i nodes)) (default_last (plans_of (drop i nodes))) ≡ w → join (plans_of (take (i + 1) nodes)) (default_last (plans_of (drop (i + 1) nodes))) ≡ w
default_next nodes i d w lt e h = ap (λ k. join (plans_of (take k nodes)) (default_last (plans_of (drop k nodes)))) (add-one i) ∙ default_behind nodes i d lt e ∙ h

pub default_moved : (nodes : List Node) (i : ℕ) (d node : Node) (w : Plans) → i < length nodes → is_default_plan (plan_of (get_or nodes i d).term) ≡ true → node ≡ get_or nodes i d
    → join (plans_of (take i nodes)) (default_last (plans_of (drop i nodes))) ≡ w → plans_of (remove nodes i ++ node ∷ []) ≡ w
default_moved nodes i d node w lt e f h = ap (λ n. plans_of (remove nodes i ++ n ∷ [])) f ∙ default_here nodes i d lt e ∙ h

pub default_over : (nodes : List Node) (i : ℕ) (w : Plans) → length nodes ≤ i → join (plans_of (take i nodes)) (default_last (plans_of (drop i nodes))) ≡ w → plans_of nodes ≡ w
default_over nodes i w le h = default_nowhere nodes i le ∙ h

pub ruleset last_rules = (default_start, default_next, default_moved, default_over)
