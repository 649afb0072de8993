-- The first For, node after node.
use Rattle.std.proofs.Common.{◌≡◌, ℕ, suc, ◌<◌, ◌≤◌, ◌+◌, Bool, true, false, List, length, get_or, drop, Vec, Global, refl, sym, ap, ◌∙◌, arith}
use Rattle.std.specs.Prelude.{Option, Some, None, if◌then◌else◌}
use Rattle.iasl_messages.specs.declared.place.Place.{Place}
use Rattle.asl_tree.specs.declared.path.Path.{Path}
use Rattle.asl_tree.specs.declared.term.Op.{Op}
use Rattle.asl_tree.specs.declared.term.Node.{Node}
use Rattle.asl_tree.specs.declared.term.Term.{Term}
use Rattle.asl_tree.specs.declared.term.Term as D
use Rattle.term_plans.specs.Plans.{plan_of, plans_of}
use Rattle.copy_checks.specs.Copies.{is_for, earlier, for_at, first_for}
use Rattle.copy_checks.proofs.Terms.{call_is, form_is, of_leaves, plans_at, no_more}

-- ---- in a term

pub in_call : (place : Place) (t : Term) (path : Path) (args : Vec Node Global) (xs : List Node) → t ≡ D.Call path args → xs ≡ args.items → first_for (plans_of xs) ≡ for_at place (plan_of t)
in_call place t path args xs e same = sym (ap (for_at place) (call_is t path args xs e same))

pub for_here : (place : Place) (t : Term) (op : Op) (args body : Vec Node Global) → t ≡ D.Form op args body → is_for op ≡ true → Some place ≡ for_at place (plan_of t)
for_here place t op args body e is =
    let inner = earlier (first_for (plans_of args.items)) (first_for (plans_of body.items)) in
    sym (ap (for_at place) (form_is t op args body args.items body.items e refl refl) ∙ ap (λ (c : Bool). if c then Some place else inner) is)

in_form : (place : Place) (t : Term) (op : Op) (args body : Vec Node Global) (xs ys : List Node) → t ≡ D.Form op args body → xs ≡ args.items → ys ≡ body.items → is_for op ≡ false → for_at place (plan_of t) ≡ earlier (first_for (plans_of xs)) (first_for (plans_of ys))
in_form place t op args body xs ys e a b not =
    ap (for_at place) (form_is t op args body xs ys e a b) ∙ ap (λ (c : Bool). if c then Some place else earlier (first_for (plans_of xs)) (first_for (plans_of ys))) not

pub for_in_args : (place found : Place) (t : Term) (op : Op) (args body : Vec Node Global) (xs : List Node) → t ≡ D.Form op args body → xs ≡ args.items → is_for op ≡ false → Some found ≡ first_for (plans_of xs) → Some found ≡ for_at place (plan_of t)
for_in_args place found t op args body xs e a not is =
    ap (λ (o : Option Place). earlier o (first_for (plans_of body.items))) is ∙ sym (in_form place t op args body xs body.items e a refl not)

pub for_in_body : (place : Place) (t : Term) (op : Op) (args body : Vec Node Global) (xs ys : List Node) → t ≡ D.Form op args body → xs ≡ args.items → ys ≡ body.items → is_for op ≡ false → None ≡ first_for (plans_of xs) → first_for (plans_of ys) ≡ for_at place (plan_of t)
for_in_body place t op args body xs ys e a b not none =
    ap (λ (o : Option Place). earlier o (first_for (plans_of ys))) none ∙ sym (in_form place t op args body xs ys e a b not)

pub no_for : (place : Place) (t : Term) → ((p : Path) (v : Vec Node Global) → t ≡ D.Call p v → ⊥) → ((o : Op) (v w : Vec Node Global) → t ≡ D.Form o v w → ⊥) → for_at place (plan_of t) ≡ None
no_for place =
    of_leaves (λ p. for_at place p ≡ None) (λ n. refl) (λ s. refl) (λ s named. refl) (λ w. refl) (λ n. refl) (λ n. refl) refl refl (λ p. refl) (λ s n. refl) (λ n. refl) (λ n. refl) (λ a b c. refl)

-- ---- among nodes

-- none is in some first nodes
abbrev pub Searched : List Node → ℕ → Type 0
Searched ns i = first_for (plans_of (drop i ns)) ≡ first_for (plans_of ns)

at_node : (ns : List Node) (i : ℕ) (node : Node) → i < length ns → node ≡ get_or ns i node → first_for (plans_of (drop i ns)) ≡ earlier (for_at node.place (plan_of node.term)) (first_for (plans_of (drop (suc i) ns)))
at_node ns i node lt e = ap first_for (plans_at ns i node lt e)

pub next_searched : (ns : List Node) (i : ℕ) (node : Node) → i < length ns → node ≡ get_or ns i node → for_at node.place (plan_of node.term) ≡ None → Searched ns i → Searched ns (i + 1)
next_searched ns i node lt e none before =
    let more : i + 1 ≡ suc i = omega arith in
    ap (λ k. first_for (plans_of (drop k ns))) more
    ∙ sym (ap (λ (o : Option Place). earlier o (first_for (plans_of (drop (suc i) ns)))) none) ∙ sym (at_node ns i node lt e) ∙ before

pub searched_here : (ns : List Node) (i : ℕ) (node : Node) (place : Place) → i < length ns → node ≡ get_or ns i node → for_at node.place (plan_of node.term) ≡ Some place → Searched ns i → Some place ≡ first_for (plans_of ns)
searched_here ns i node place lt e is before =
    sym (ap (λ (o : Option Place). earlier o (first_for (plans_of (drop (suc i) ns)))) is) ∙ sym (at_node ns i node lt e) ∙ before

pub none_searched : (ns : List Node) (i : ℕ) → length ns ≤ i → Searched ns i → None ≡ first_for (plans_of ns)
none_searched ns i le before = sym (ap first_for (no_more ns i le)) ∙ before
