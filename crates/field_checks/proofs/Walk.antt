-- Items and terms one after another.
use Rattle.std.proofs.Common.{◌≡◌, ℕ, zero, suc, ◌+◌, ◌<◌, ◌≤◌, List, [], ◌∷◌, ◌++◌, Some, None, length, get_or, drop, append_assoc, append-nil, refl, sym, ap, ◌∙◌, arith}
use Rattle.iasl_messages.specs.declared.message.Message.{Message}
use Rattle.acpi_state.specs.Outcomes.{choose}
use Rattle.asl_tree.specs.FieldItems.{FieldItem, behind_item}
use Rattle.asl_tree.specs.declared.term.Node.{Node}
use Rattle.term_plans.specs.Plans.{no_plans, plan, plan_of, plans_of}
use Rattle.term_plans.specs.Places.{fault_at}
use Rattle.field_layout.specs.Layout.{item_fault}
use Rattle.field_checks.specs.Lists.{item_in, list_errors, term_errors, all_errors}

pub plans_at : (nodes : List Node) (i : ℕ) (node : Node) → i < length nodes → node ≡ get_or nodes i node → plans_of (drop i nodes) ≡ plan node.place (plan_of node.term) (plans_of (drop (suc i) nodes))
unfolding plans_of
plans_at [] i node lt e = absurd (omega (arith, lt))
plans_at (n ∷ nodes) zero node lt e = ap (λ (m : Node). plan m.place (plan_of m.term) (plans_of nodes)) (sym e)
plans_at (n ∷ nodes) (suc i) node lt e = plans_at nodes i node (omega (arith, lt)) e

pub no_more : (nodes : List Node) (i : ℕ) → length nodes ≤ i → plans_of (drop i nodes) ≡ no_plans
unfolding plans_of
no_more [] zero le = refl
no_more [] (suc i) le = refl
no_more (n ∷ nodes) zero le = absurd (omega (arith, le))
no_more (n ∷ nodes) (suc i) le = no_more nodes i (omega (arith, le))

-- a list goes on, ends, or has a fault
pub next_item : (nodes : List Node) (i at next : ℕ) (node : Node) (item : FieldItem ℕ) → i < length nodes → node ≡ get_or nodes i node → Some item ≡ item_in (plan_of node.term) → item_fault at item ≡ None → next ≡ behind_item at item → list_errors next (plans_of (drop (i + 1) nodes)) ≡ list_errors at (plans_of (drop i nodes))
next_item nodes i at next node item lt e is fine behind =
    let more : i + 1 ≡ suc i = omega arith in
    let rest = plans_of (drop (suc i) nodes) in
    ap (λ k. list_errors next (plans_of (drop k nodes))) more
    ∙ ap (λ n. list_errors n rest) behind
    ∙ sym (ap (λ o. choose o (list_errors (behind_item at item) rest) (λ number. fault_at number node.place ∷ [])) fine)
    ∙ ap (λ o. choose o [] (λ item. choose (item_fault at item) (list_errors (behind_item at item) rest) (λ number. fault_at number node.place ∷ []))) is
    ∙ ap (list_errors at) (sym (plans_at nodes i node lt e))

pub no_item_here : (nodes : List Node) (i at : ℕ) (node : Node) → i < length nodes → node ≡ get_or nodes i node → None ≡ item_in (plan_of node.term) → list_errors at (plans_of (drop i nodes)) ≡ []
no_item_here nodes i at node lt e is =
    let rest = plans_of (drop (suc i) nodes) in
    ap (list_errors at) (plans_at nodes i node lt e)
    ∙ ap (λ o. choose o [] (λ item. choose (item_fault at item) (list_errors (behind_item at item) rest) (λ number. fault_at number node.place ∷ []))) (sym is)

pub fault_here : (nodes : List Node) (i at number : ℕ) (node : Node) (item : FieldItem ℕ) → i < length nodes → node ≡ get_or nodes i node → Some item ≡ item_in (plan_of node.term) → item_fault at item ≡ Some number → list_errors at (plans_of (drop i nodes)) ≡ fault_at number node.place ∷ []
fault_here nodes i at number node item lt e is fault =
    let rest = plans_of (drop (suc i) nodes) in
    ap (list_errors at) (plans_at nodes i node lt e)
    ∙ ap (λ o. choose o [] (λ item. choose (item_fault at item) (list_errors (behind_item at item) rest) (λ number. fault_at number node.place ∷ []))) (sym is)
    ∙ ap (λ o. choose o (list_errors (behind_item at item) rest) (λ number. fault_at number node.place ∷ [])) fault

pub list_end : (nodes : List Node) (i at : ℕ) → length nodes ≤ i → list_errors at (plans_of (drop i nodes)) ≡ []
list_end nodes i at le = ap (list_errors at) (no_more nodes i le)

-- some first terms are checked, and those behind them are not yet
abbrev pub Remains : List Node → ℕ → List Message → List Message → Type 0
Remains nodes i initial now = now ++ all_errors (plans_of (drop i nodes)) ≡ initial ++ all_errors (plans_of nodes)

pub next_checked : (nodes : List Node) (i : ℕ) (node : Node) (initial now next : List Message) → i < length nodes → node ≡ get_or nodes i node → Remains nodes i initial now → next ≡ now ++ term_errors (plan_of node.term) → Remains nodes (i + 1) initial next
next_checked nodes i node initial now next lt e before told =
    let more : i + 1 ≡ suc i = omega arith in
    ap (λ k. next ++ all_errors (plans_of (drop k nodes))) more
    ∙ ap (λ ms. ms ++ all_errors (plans_of (drop (suc i) nodes))) told
    ∙ append_assoc now (term_errors (plan_of node.term)) (all_errors (plans_of (drop (suc i) nodes)))
    ∙ ap (λ ps. now ++ all_errors ps) (sym (plans_at nodes i node lt e))
    ∙ before

pub all_checked : (nodes : List Node) (i : ℕ) (initial now : List Message) → length nodes ≤ i → Remains nodes i initial now → now ≡ initial ++ all_errors (plans_of nodes)
all_checked nodes i initial now le before = sym (append-nil now) ∙ ap (λ ps. now ++ all_errors ps) (sym (no_more nodes i le)) ∙ before

-- a message more, which is all that there is
pub told_here : (old out new all : List Message) (m n : Message) → out ≡ old → new ≡ out ++ m ∷ [] → m ≡ n → n ∷ [] ≡ all → new ≡ old ++ all
told_here old out new all m n same push is list = push ∙ ap (λ ms. ms ++ m ∷ []) same ∙ ap (λ x. old ++ x ∷ []) is ∙ ap (λ ms. old ++ ms) list
