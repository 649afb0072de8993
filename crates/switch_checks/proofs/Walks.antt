-- Nodes one after another, read as trees and as plans.
use Rattle.std.proofs.Common.{◌≡◌, ℕ, zero, suc, ◌+◌, ◌<◌, ◌≤◌, List, [], ◌∷◌, ◌++◌, length, get_or, take, drop, Some, None, Vec, Global, append_assoc, append-nil, refl, sym, ap, subst, ◌∙◌, arith}
use Rattle.iasl_messages.specs.declared.place.Place.{Place}
use Rattle.iasl_messages.specs.declared.message.Message.{Message}
use Rattle.asl_tree.specs.declared.term.Op.{Op}
use Rattle.asl_tree.specs.declared.term.Node.{Node}
use Rattle.asl_tree.specs.declared.term.Term.{Term}
use Rattle.asl_tree.specs.declared.term.Term as D
use Rattle.asl_tree.specs.declared.term.Term.TheVariants as V
use Rattle.asl_tree.specs.View.{tree_of, trees_of, form}
use Rattle.asl_tree.specs.Tree.{At}
use Rattle.acpi_names.specs.Parts.{part_of}
use Rattle.acpi_names.proofs.Trees.{form_tree, call_tree}
use Rattle.term_plans.specs.Plans.{Plan, a_form, plan_of, plans_of}
use Rattle.term_plans.proofs.Plans.{plan_form}
use Rattle.asl_numbers.specs.Numbers.{inside, nodes}
use Rattle.statement_checks.proofs.Walk.{plans_at, no_more}
use Rattle.switch_checks.specs.Locals.{switch_in, first_switch, or_else, method_errors, all_method_errors, part_errors}
use Rattle.switch_checks.proofs.Forms.{told_form}

-- ---- the first Switch

-- none stands in some first nodes
abbrev pub Searched : List Node → ℕ → Type 0
Searched ns i = first_switch (plans_of (drop i ns)) ≡ first_switch (plans_of ns)

pub next_searched : (ns : List Node) (i : ℕ) (node : Node) → i < length ns → node ≡ get_or ns i node → switch_in node.place (plan_of node.term) ≡ None → Searched ns i → Searched ns (i + 1)
next_searched ns i node lt e none before =
    let more : i + 1 ≡ suc i = omega arith in
    ap (λ k. first_switch (plans_of (drop k ns))) more
    ∙ ap (λ o. or_else o (first_switch (plans_of (drop (suc i) ns)))) (sym none)
    ∙ sym (ap first_switch (plans_at ns i node lt e)) ∙ before

pub searched_here : (ns : List Node) (i : ℕ) (node : Node) (place : Place) → i < length ns → node ≡ get_or ns i node → switch_in node.place (plan_of node.term) ≡ Some place → Searched ns i → Some place ≡ first_switch (plans_of ns)
searched_here ns i node place lt e here before =
    ap (λ o. or_else o (first_switch (plans_of (drop (suc i) ns)))) (sym here)
    ∙ sym (ap first_switch (plans_at ns i node lt e)) ∙ before

pub none_searched : (ns : List Node) (i : ℕ) → length ns ≤ i → Searched ns i → None ≡ first_switch (plans_of ns)
none_searched ns i le before = sym (ap first_switch (no_more ns i le)) ∙ before

-- ---- the methods

abbrev pub errors_of : List Node → List Message
errors_of ns = all_method_errors (trees_of ns) (plans_of ns)

-- the nodes from one on: that one alone, and those behind it
alone_first : (ns : List Node) (i : ℕ) → i < length ns → errors_of (drop i ns) ≡ errors_of (take 1 (drop i ns)) ++ errors_of (drop (suc i) ns)
unfolding trees_of plans_of
alone_first [] i lt = absurd (omega (arith, lt))
alone_first (n ∷ ns) zero lt = ap (λ ms. ms ++ errors_of ns) (sym (append-nil (method_errors (tree_of (record { id = n.id; place = n.place }) n.term) (plan_of n.term))))
alone_first (n ∷ ns) (suc i) lt = alone_first ns i (omega (arith, lt))

none_left : (ns : List Node) (i : ℕ) → length ns ≤ i → errors_of (drop i ns) ≡ []
unfolding trees_of
none_left [] zero le = refl
none_left [] (suc i) le = refl
none_left (n ∷ ns) zero le = absurd (omega (arith, le))
none_left (n ∷ ns) (suc i) le = none_left ns i (omega (arith, le))

-- some first nodes are read, and those behind them are not yet
abbrev pub Remains : List Node → ℕ → List Message → List Message → Type 0
Remains ns i initial now = now ++ errors_of (drop i ns) ≡ initial ++ errors_of ns

pub next_read : (ns alone : List Node) (i : ℕ) (initial now next : List Message) → i < length ns → alone ≡ take 1 (drop i ns) → Remains ns i initial now → next ≡ now ++ errors_of alone → Remains ns (i + 1) initial next
next_read ns alone i initial now next lt e before told =
    let more : i + 1 ≡ suc i = omega arith in
    ap (λ k. next ++ errors_of (drop k ns)) more
    ∙ ap (λ ms. ms ++ errors_of (drop (suc i) ns)) (told ∙ ap (λ ns. now ++ errors_of ns) e)
    ∙ append_assoc now (errors_of (take 1 (drop i ns))) (errors_of (drop (suc i) ns))
    ∙ ap (λ ms. now ++ ms) (sym (alone_first ns i lt))
    ∙ before

pub all_read : (ns : List Node) (i : ℕ) (initial now : List Message) → length ns ≤ i → Remains ns i initial now → now ≡ initial ++ errors_of ns
all_read ns i initial now le before = sym (append-nil now) ∙ ap (λ ms. now ++ ms) (sym (none_left ns i le)) ∙ before

one_smaller : (ns : List Node) (i : ℕ) → nodes (plans_of (take 1 (drop i ns))) ≤ nodes (plans_of ns)
unfolding plans_of
one_smaller [] zero = omega arith
one_smaller [] (suc i) = omega arith
one_smaller (n ∷ ns) zero = omega arith
one_smaller (n ∷ ns) (suc i) = omega (arith, one_smaller ns i)

one_alone : (ns : List Node) (i : ℕ) → i < length ns → length (take 1 (drop i ns)) ≡ 1
one_alone [] i lt = absurd (omega (arith, lt))
one_alone (n ∷ ns) zero lt = refl
one_alone (n ∷ ns) (suc i) lt = one_alone ns i (omega (arith, lt))

-- a slice of one node
pub slice_smaller : (ns : List Node) (i k : ℕ) → k ≡ 1 → nodes (plans_of (take k (drop i ns))) ≤ nodes (plans_of ns)
slice_smaller ns i k e = subst (λ n. nodes (plans_of (take n (drop i ns))) ≤ nodes (plans_of ns)) (sym e) (one_smaller ns i)

pub slice_alone : (ns : List Node) (i k : ℕ) → k ≡ 1 → i < length ns → length (take k (drop i ns)) ≡ 1
slice_alone ns i k e lt = ap (λ n. length (take n (drop i ns))) e ∙ one_alone ns i lt

-- a node that stands alone
pub alone_nodes : (alone : List Node) (node d : Node) → length alone ≡ 1 → get_or alone 0 d ≡ node → nodes (plans_of alone) ≡ suc (inside (plan_of node.term))
unfolding plans_of
alone_nodes [] node d e h = absurd (omega (arith, e))
alone_nodes (n ∷ []) node d e h = let s : inside (plan_of n.term) ≡ inside (plan_of node.term) = ap (λ (m : Node). inside (plan_of m.term)) h in omega (arith, s)
alone_nodes (n ∷ m ∷ ns) node d e h = absurd (omega (arith, e))

alone_is : (alone : List Node) (node d : Node) → length alone ≡ 1 → get_or alone 0 d ≡ node → alone ≡ node ∷ []
alone_is [] node d e h = absurd (omega (arith, e))
alone_is (n ∷ []) node d e h = ap (λ m. m ∷ []) h
alone_is (n ∷ m ∷ ns) node d e h = absurd (omega (arith, e))

errors_alone : (node : Node) → errors_of (node ∷ []) ≡ method_errors (tree_of (record { id = node.id; place = node.place }) node.term) (plan_of node.term) ++ []
unfolding trees_of plans_of
errors_alone node = refl

by_form : (at : At) (t : Term) (op : Op) (args body : Vec Node Global) → t ≡ D.Form op args body → method_errors (tree_of at t) (plan_of t) ≡ part_errors (part_of op (trees_of args.items) (trees_of body.items)) (trees_of body.items) (plans_of body.items)
by_form at t op args body e =
    let xs = plans_of args.items in
    let ys = plans_of body.items in
    let p : plan_of t ≡ a_form op xs ys = ap plan_of e ∙ plan_form op args body in
    ap (λ u. method_errors u (plan_of t)) (ap (tree_of at) e ∙ form_tree at op args body)
    ∙ ap (method_errors (form at op (trees_of args.items) (trees_of body.items))) p
    ∙ told_form at op (trees_of args.items) (trees_of body.items) xs ys

-- a form that stands alone
pub form_alone : (alone : List Node) (node d : Node) (op : Op) (args body : Vec Node Global) (xs ys : List Node) → length alone ≡ 1 → get_or alone 0 d ≡ node → node.term ≡ D.Form op args body → xs ≡ args.items → ys ≡ body.items
    → part_errors (part_of op (trees_of xs) (trees_of ys)) (trees_of ys) (plans_of ys) ≡ errors_of alone
form_alone alone node d op args body xs ys e h is ax by =
    let told = λ (xs ys : List Node). part_errors (part_of op (trees_of xs) (trees_of ys)) (trees_of ys) (plans_of ys) in
    let one : alone ≡ node ∷ [] = alone_is alone node d e h in
    ap (λ ns. told ns ys) ax ∙ ap (λ ns. told args.items ns) by
    ∙ sym (by_form (record { id = node.id; place = node.place }) node.term op args body is)
    ∙ sym (append-nil (method_errors (tree_of (record { id = node.id; place = node.place }) node.term) (plan_of node.term)))
    ∙ sym (errors_alone node) ∙ ap errors_of (sym one)

-- nothing is told of what is no form
nothing_told : (at : At) (p : Plan) (t : Term) → ((o : Op) (v w : Vec Node Global) → t ≡ D.Form o v w → ⊥) → method_errors (tree_of at t) p ≡ []
unfolding tree_of
nothing_told at p t not_form = by_layer (D.out-Term t) (sym (D.roll-out-Term t))
  where
    told : Term → List Message
    told u = method_errors (tree_of at u) p

    by_layer : (f : D.Term-F Term Node) → t ≡ D.roll-Term f → method_errors (tree_of at t) p ≡ []
    by_layer (D.Term-F.Integer n) e = ap told (e ∙ V.rolls-Integer n)
    by_layer (D.Term-F.Text text) e = ap told (e ∙ V.rolls-Text text)
    by_layer (D.Term-F.Fill bytes named) e = ap told (e ∙ V.rolls-Fill bytes named)
    by_layer (D.Term-F.Word word) e = ap told (e ∙ V.rolls-Word word)
    by_layer (D.Term-F.Local n) e = ap told (e ∙ V.rolls-Local n)
    by_layer (D.Term-F.Arg n) e = ap told (e ∙ V.rolls-Arg n)
    by_layer (D.Term-F.Debug) e = ap told (e ∙ V.rolls-Debug)
    by_layer (D.Term-F.Omitted) e = ap told (e ∙ V.rolls-Omitted)
    by_layer (D.Term-F.Name name) e = ap told (e ∙ V.rolls-Name name)
    by_layer (D.Term-F.Unit s n) e = ap told (e ∙ V.rolls-Unit s n)
    by_layer (D.Term-F.Skip n) e = ap told (e ∙ V.rolls-Skip n)
    by_layer (D.Term-F.Offset n) e = ap told (e ∙ V.rolls-Offset n)
    by_layer (D.Term-F.Access access attribute count) e = ap told (e ∙ V.rolls-Access access attribute count)
    by_layer (D.Term-F.Call name v) e = ap told (e ∙ V.rolls-Call name v) ∙ ap (λ u. method_errors u p) (call_tree at name v)
    by_layer (D.Term-F.Form o v w) e = absurd (not_form o v w (e ∙ V.rolls-Form o v w))

pub other_alone : (alone : List Node) (node d : Node) → length alone ≡ 1 → get_or alone 0 d ≡ node → ((o : Op) (v w : Vec Node Global) → node.term ≡ D.Form o v w → ⊥) → errors_of alone ≡ []
other_alone alone node d e h not_form =
    ap errors_of (alone_is alone node d e h) ∙ errors_alone node ∙ append-nil (method_errors (tree_of (record { id = node.id; place = node.place }) node.term) (plan_of node.term))
    ∙ nothing_told (record { id = node.id; place = node.place }) (plan_of node.term) node.term not_form
