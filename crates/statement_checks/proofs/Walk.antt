-- The errors of nodes one after another.
use Rattle.std.proofs.Common.{◌≡◌, ℕ, zero, suc, ◌+◌, ◌<◌, ◌≤◌, List, [], ◌∷◌, ◌++◌, length, get_or, drop, append_assoc, append-nil, refl, sym, ap, ◌∙◌, arith}
use Rattle.iasl_messages.specs.declared.message.Message.{Message}
use Rattle.asl_tree.specs.declared.term.Node.{Node}
use Rattle.term_plans.specs.Plans.{no_plans, plan, plan_of, plans_of}
use Rattle.statement_checks.specs.declared.check.Around.{Around}
use Rattle.statement_checks.specs.Statements.{term_errors, statement_errors}

-- some first nodes are checked, and those behind them are not yet
abbrev pub Remains : Around → List Node → ℕ → List Message → List Message → Type 0
Remains around nodes i initial now = now ++ statement_errors around (plans_of (drop i nodes)) ≡ initial ++ statement_errors around (plans_of nodes)

pub plans_at : (nodes : List Node) (i : ℕ) (node : Node) → i < length nodes → node ≡ get_or nodes i node → plans_of (drop i nodes) ≡ plan node.place (plan_of node.term) (plans_of (drop (suc i) nodes))
unfolding plans_of
plans_at [] i node lt e = absurd (omega (arith, lt))
plans_at (n ∷ nodes) zero node lt e = ap (λ (m : Node). plan m.place (plan_of m.term) (plans_of nodes)) (sym e)
plans_at (n ∷ nodes) (suc i) node lt e = plans_at nodes i node (omega (arith, lt)) e

pub next_checked : (around : Around) (nodes : List Node) (i : ℕ) (node : Node) (initial now next : List Message) → i < length nodes → node ≡ get_or nodes i node
    → Remains around nodes i initial now → next ≡ now ++ term_errors around node.place (plan_of node.term) → Remains around nodes (i + 1) initial next
next_checked around nodes i node initial now next lt e before told =
    let more : i + 1 ≡ suc i = omega arith in
    let own = term_errors around node.place (plan_of node.term) in
    ap (λ k. next ++ statement_errors around (plans_of (drop k nodes))) more
    ∙ ap (λ ms. ms ++ statement_errors around (plans_of (drop (suc i) nodes))) told
    ∙ append_assoc now own (statement_errors around (plans_of (drop (suc i) nodes)))
    ∙ ap (λ ps. now ++ statement_errors around ps) (sym (plans_at nodes i node lt e))
    ∙ before

pub no_more : (nodes : List Node) (i : ℕ) → length nodes ≤ i → plans_of (drop i nodes) ≡ no_plans
unfolding plans_of
no_more [] zero le = refl
no_more [] (suc i) le = refl
no_more (n ∷ nodes) zero le = absurd (omega (arith, le))
no_more (n ∷ nodes) (suc i) le = no_more nodes i (omega (arith, le))

pub all_checked : (around : Around) (nodes : List Node) (i : ℕ) (initial now : List Message) → length nodes ≤ i → Remains around nodes i initial now → now ≡ initial ++ statement_errors around (plans_of nodes)
all_checked around nodes i initial now le before =
    sym (append-nil now) ∙ ap (λ ps. now ++ statement_errors around ps) (sym (no_more nodes i le)) ∙ before
