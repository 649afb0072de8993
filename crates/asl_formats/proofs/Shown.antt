-- Nodes with the steps before each Continue, as trees that are whole or bare.
use Rattle.std.proofs.Common.{◌≡◌, ℕ, zero, suc, ◌+◌, ◌<◌, ◌≤◌, Bool, true, false, List, [], ◌∷◌, ◌++◌, length, take, get_or, Vec, Global, refl, sym, ap, ◌∙◌, subst, arith}
use Rattle.std.specs.Prelude.{◌&&◌, ◌||◌, not}
use Rattle.asl_tree.specs.declared.term.Control.TheVariants as Control
use Rattle.asl_tree.specs.declared.term.Op.{Op}
use Rattle.asl_tree.specs.declared.term.Node.{Node}
use Rattle.asl_tree.specs.declared.term.Term.{Term}
use Rattle.asl_tree.specs.declared.term.Term as D
use Rattle.asl_tree.specs.Tree.{At, Tree, If, ElseIf, Else, While, Switch, Case, Default, Trees, no_trees, tree}
use Rattle.asl_tree.specs.View.{form, tree_of, trees_of}
use Rattle.iasl_messages.specs.declared.place.Place.{Place}
use Rattle.term_plans.specs.Plans.{Plan, omitted, Plans, no_plans, plan, plan_of, plans_of}
use Rattle.term_plans.proofs.Plans.{plan_form}
use Rattle.asl_prints.specs.Forms.{followed, optional, stepped, stepped_all, spread}
use Rattle.asl_prints.specs.Nodes.{goes_in, node_tree}
use Rattle.asl_formats.specs.Steps.{steps_before, is_next, stepped_body, for_parts, IsLoop}
use Rattle.asl_formats.specs.Bare.{bare, bare_all, shown, shown_term}
use Rattle.asl_formats.specs.Plain.{is_plain, are_plain, is_third_plain, has_plain_step, MayRenew}
use Rattle.asl_prints.specs.Plans as P
use Rattle.asl_prints.specs.PlanParts.{placed}
use Rattle.asl_formats.proofs.Loops.{first_true}
use Rattle.asl_prints.proofs.Nodes.{form_tree, behind_all}
use Rattle.asl_prints.proofs.Layers.{no_form}
use Rattle.asl_formats.proofs.SteppedTerms.{flat_stepped, braces_in, braces_out}
use Rattle.asl_formats.proofs.StepForms.{stepped_form}
use Rattle.asl_formats.proofs.Stepping.{followed_none, steps_of_next, steps_of_other, taken_next, all_taken, none_taken, stepped_taken}
use Rattle.asl_formats.proofs.Fors.{loop_row, spread_parts, three_items, three_nodes, not_loop}
use Rattle.asl_prints.proofs.PlanTrees.{Stands}
use Rattle.asl_formats.proofs.PlanPrograms.{node_stands}
use Rattle.asl_formats.proofs.BareForms.{bare_stands}
use Rattle.asl_formats.proofs.PlanSteps.{plans_before, plans_before_other}

second_true : (a b : Bool) → (a && b) ≡ true → b ≡ true
second_true true b e = e
second_true false b e = absurd cc

bare_followed : (a b : Trees) → bare_all (followed a b) ≡ followed (bare_all a) (bare_all b)
bare_followed no_trees b = refl
bare_followed (tree t ts) b = ap (tree (bare t)) (bare_followed ts b)

shown_followed : (whole : Bool) (a b : Trees) → shown whole (followed a b) ≡ followed (shown whole a) (shown whole b)
shown_followed true a b = refl
shown_followed false a b = bare_followed a b

shown_one : (whole : Bool) (t : Tree) → shown whole (tree t no_trees) ≡ tree (shown_term whole t) no_trees
shown_one true t = refl
shown_one false t = refl

followed_three : (a b c : Trees) → followed (followed a b) c ≡ followed a (followed b c)
followed_three no_trees b c = refl
followed_three (tree t ts) b c = ap (tree t) (followed_three ts b c)

no_tree : trees_of [] ≡ no_trees
unfolding trees_of
no_tree = refl

-- ---- copies that have numbers of their own

pub plain_at : (nodes : List Node) (i : ℕ) (node : Node) → i < length nodes → node ≡ get_or nodes i node → are_plain (plans_of nodes) ≡ true → is_plain (plan_of node.term) ≡ true
unfolding plans_of is_plain
plain_at [] i node lt is h = absurd (omega (arith, lt))
plain_at (n ∷ nodes) zero node lt is h = ap (λ (m : Node). is_plain (plan_of m.term)) is ∙ first_true (is_plain (plan_of n.term)) (are_plain (plans_of nodes)) h
plain_at (n ∷ nodes) (suc i) node lt is h = plain_at nodes i node (omega (arith, lt)) is (second_true (is_plain (plan_of n.term)) (are_plain (plans_of nodes)) h)

same_bare : (node made : Node) → placed made ≡ placed node → is_plain (plan_of node.term) ≡ true → bare (node_tree made) ≡ bare (node_tree node)
same_bare node made e h =
    let p = ap (λ (q : Place × Plan). q.1) e in
    sym (bare_stands (plan_of node.term) (node_tree node) (node_tree made) (node_stands node) (subst (λ p. Stands p (node_tree made)) p (node_stands made)) h)

pub bare_next : (front nodes old new : List Node) (i : ℕ) (node made : Node) → i < length nodes → node ≡ get_or nodes i node → are_plain (plans_of nodes) ≡ true → bare_all (trees_of old) ≡ bare_all (followed (trees_of front) (trees_of (take i nodes))) → placed made ≡ placed node → new ≡ old ++ made ∷ []
    → bare_all (trees_of new) ≡ bare_all (followed (trees_of front) (trees_of (take (i + 1) nodes)))
bare_next front nodes old new i node made lt is plain h same e =
    let ts = trees_of (take i nodes) in
    let one = tree (bare (node_tree node)) no_trees in
    ap (λ ns. bare_all (trees_of ns)) e ∙ ap bare_all (behind_all old made) ∙ bare_followed (trees_of old) (tree (node_tree made) no_trees)
    ∙ ap (λ us. followed us (tree (bare (node_tree made)) no_trees)) (h ∙ bare_followed (trees_of front) ts) ∙ ap (λ t. followed (followed (bare_all (trees_of front)) (bare_all ts)) (tree t no_trees)) (same_bare node made same (plain_at nodes i node lt is plain))
    ∙ followed_three (bare_all (trees_of front)) (bare_all ts) one
    ∙ sym (ap (λ us. bare_all (followed (trees_of front) us)) (taken_next nodes i node lt is) ∙ bare_followed (trees_of front) (followed ts (tree (node_tree node) no_trees)) ∙ ap (followed (bare_all (trees_of front))) (bare_followed ts (tree (node_tree node) no_trees)))

-- the same of a flag that is another one
pub same_shown : (keep start : Bool) (steps : Plans) (a b : Trees) → keep ≡ start → MayRenew start steps → (MayRenew keep steps → shown keep a ≡ shown keep b) → shown start a ≡ shown start b
same_shown keep start steps a b e may h = subst (λ k. shown k a ≡ shown k b) e (h (subst (λ k. MayRenew k steps) (sym e) may))

pub same_shown_term : (keep start : Bool) (steps : Plans) (a b : Tree) → keep ≡ start → MayRenew start steps → (MayRenew keep steps → shown_term keep a ≡ shown_term keep b) → shown_term start a ≡ shown_term start b
same_shown_term keep start steps a b e may h = subst (λ k. shown_term k a ≡ shown_term k b) e (h (subst (λ k. MayRenew k steps) (sym e) may))

pub kept_shown : (whole : Bool) (made wanted : Trees) → made ≡ wanted → shown whole made ≡ shown whole wanted
kept_shown whole made wanted e = ap (shown whole) e

-- steps that have numbers of their own
pub put_renewed : (keep again : Bool) (steps : Plans) (all wanted : Trees) → (keep || not again) ≡ false → MayRenew keep steps → (are_plain steps ≡ true → bare_all all ≡ bare_all wanted) → shown keep all ≡ shown keep wanted
put_renewed true again steps all wanted e may h = absurd cc
put_renewed false again steps all wanted e may h = h (may refl)

-- ---- where a Continue follows

pub before_next : (whole : Bool) (steps front all : Trees) (node : Node) (b : Bool) → ((at : At) → is_next (tree_of at node.term) ≡ b) → b ≡ true → shown whole all ≡ shown whole (followed front steps) → shown whole all ≡ shown whole (followed front (steps_before steps (node_tree node)))
before_next whole steps front all node b h e a =
    a ∙ sym (ap (λ us. shown whole (followed front us)) (steps_of_next steps (node_tree node) (h (record { id = node.id; place = node.place }) ∙ e)))

pub before_other : (whole : Bool) (steps front : Trees) (node : Node) (b : Bool) → ((at : At) → is_next (tree_of at node.term) ≡ b) → b ≡ false → shown whole front ≡ shown whole (followed front (steps_before steps (node_tree node)))
before_other whole steps front node b h e =
    sym (ap (λ us. shown whole (followed front us)) (steps_of_other steps (node_tree node) (h (record { id = node.id; place = node.place }) ∙ e)) ∙ ap (shown whole) (followed_none front))

-- ---- terms one after another

pub stepped_begun : (whole : Bool) (steps : Trees) (nodes made : List Node) → made ≡ [] → shown whole (trees_of made) ≡ shown whole (stepped_all steps (trees_of (take 0 nodes)))
stepped_begun whole steps nodes made e = ap (λ ns. shown whole (trees_of ns)) e ∙ ap (shown whole) no_tree ∙ sym (ap (λ ns. shown whole (stepped_all steps (trees_of ns))) (none_taken nodes) ∙ ap (λ ts. shown whole (stepped_all steps ts)) no_tree)

pub stepped_next : (whole : Bool) (steps : Trees) (nodes old front new : List Node) (i : ℕ) (node copy : Node) → i < length nodes → node ≡ get_or nodes i node → shown whole (trees_of old) ≡ shown whole (stepped_all steps (trees_of (take i nodes)))
    → shown whole (trees_of front) ≡ shown whole (followed (trees_of old) (steps_before steps (node_tree node))) → shown_term whole (node_tree copy) ≡ shown_term whole (stepped steps (node_tree node)) → new ≡ front ++ copy ∷ []
    → shown whole (trees_of new) ≡ shown whole (stepped_all steps (trees_of (take (i + 1) nodes)))
stepped_next whole steps nodes old front new i node copy lt is h f same e =
    let before = steps_before steps (node_tree node) in
    let one = tree (stepped steps (node_tree node)) no_trees in
    let ts = stepped_all steps (trees_of (take i nodes)) in
    ap (λ ns. shown whole (trees_of ns)) e ∙ ap (shown whole) (behind_all front copy) ∙ shown_followed whole (trees_of front) (tree (node_tree copy) no_trees)
    ∙ ap (λ us. followed us (shown whole (tree (node_tree copy) no_trees))) (f ∙ shown_followed whole (trees_of old) before ∙ ap (λ us. followed us (shown whole before)) h ∙ sym (shown_followed whole ts before))
    ∙ ap (followed (shown whole (followed ts before))) (shown_one whole (node_tree copy) ∙ ap (λ t. tree t no_trees) same ∙ sym (shown_one whole (stepped steps (node_tree node))))
    ∙ sym (shown_followed whole (followed ts before) one) ∙ ap (shown whole) (sym (stepped_taken steps nodes i node lt is))

pub stepped_last : (whole : Bool) (steps : Trees) (nodes made : List Node) (i : ℕ) → (i < length nodes → ⊥) → shown whole (trees_of made) ≡ shown whole (stepped_all steps (trees_of (take i nodes))) → shown whole (trees_of made) ≡ shown whole (stepped_all steps (trees_of nodes))
stepped_last whole steps nodes made i h e = e ∙ ap (λ ns. shown whole (stepped_all steps (trees_of ns))) (all_taken nodes i h)

-- ---- a term

form_in : (whole : Bool) (at : At) (op : Op) (cs bs es : Trees) → goes_in op ≡ true → shown whole bs ≡ shown whole es → shown_term whole (form at op cs bs) ≡ shown_term whole (form at op cs es)
form_in true at op cs bs es g h = ap (form at op cs) h
form_in false at (Op.Control Control.If) (tree test no_trees) bs es g h = ap (If test) h
form_in false at (Op.Control Control.If) no_trees bs es g h = refl
form_in false at (Op.Control Control.If) (tree a (tree b ts)) bs es g h = refl
form_in false at (Op.Control Control.ElseIf) (tree test no_trees) bs es g h = ap (ElseIf test) h
form_in false at (Op.Control Control.ElseIf) no_trees bs es g h = refl
form_in false at (Op.Control Control.ElseIf) (tree a (tree b ts)) bs es g h = refl
form_in false at (Op.Control Control.Else) no_trees bs es g h = ap Else h
form_in false at (Op.Control Control.Else) (tree a ts) bs es g h = refl
form_in false at (Op.Control Control.Switch) (tree value no_trees) bs es g h = ap (Switch value) h
form_in false at (Op.Control Control.Switch) no_trees bs es g h = refl
form_in false at (Op.Control Control.Switch) (tree a (tree b ts)) bs es g h = refl
form_in false at (Op.Control Control.Case) (tree value no_trees) bs es g h = ap (Case value) h
form_in false at (Op.Control Control.Case) no_trees bs es g h = refl
form_in false at (Op.Control Control.Case) (tree a (tree b ts)) bs es g h = refl
form_in false at (Op.Control Control.Default) no_trees bs es g h = ap Default h
form_in false at (Op.Control Control.Default) (tree a ts) bs es g h = refl
form_in false at op cs bs es g h = absurd cc

pub form_shown : (whole : Bool) (steps : Trees) (at : At) (t : Term) (op : Op) (args body args' body' : Vec Node Global) (xs ys : List Node) → t ≡ D.Form op args body → xs ≡ args.items → ys ≡ body.items → trees_of args'.items ≡ trees_of xs
    → (goes_in op ≡ true → shown whole (trees_of body'.items) ≡ shown whole (stepped_all steps (trees_of ys))) → (goes_in op ≡ false → trees_of body'.items ≡ trees_of ys) → shown_term whole (tree_of at (D.Form op args' body')) ≡ shown_term whole (stepped steps (tree_of at t))
form_shown whole steps at t op args body args' body' xs ys e x y a inside outside =
    ap (shown_term whole) (form_tree at op args' body' ∙ ap (λ ts. form at op ts (trees_of body'.items)) (a ∙ ap trees_of x))
    ∙ by_op (goes_in op) refl
    ∙ ap (shown_term whole) (sym (ap (λ t. stepped steps (tree_of at t)) e ∙ ap (stepped steps) (form_tree at op args body) ∙ stepped_form steps at op (trees_of args.items) (trees_of body.items)))
  where
    by_op : (c : Bool) → goes_in op ≡ c → shown_term whole (form at op (trees_of args.items) (trees_of body'.items)) ≡ shown_term whole (form at op (trees_of args.items) (stepped_body steps op (trees_of body.items)))
    by_op true g =
        form_in whole at op (trees_of args.items) (trees_of body'.items) (stepped_body steps op (trees_of body.items)) g
        (inside g ∙ ap (λ ns. shown whole (stepped_all steps (trees_of ns))) y ∙ ap (shown whole) (braces_in steps op (trees_of body.items) (stepped_all steps (trees_of body.items)) g refl))
    by_op false g =
        ap (λ ts. shown_term whole (form at op (trees_of args.items) ts)) (outside g ∙ ap trees_of y ∙ braces_out steps op (trees_of body.items) (trees_of body.items) g refl)

pub other_shown : (whole : Bool) (steps : Trees) (at : At) (t made : Term) → ((o : Op) (v w : Vec Node Global) → t ≡ D.Form o v w → ⊥) → tree_of at made ≡ tree_of at t → shown_term whole (tree_of at made) ≡ shown_term whole (stepped steps (tree_of at t))
other_shown whole steps at t made h e = ap (shown_term whole) (e ∙ flat_stepped steps at t (no_form t h))

-- ---- a For

while_shown : (whole : Bool) (test : Tree) (a b : Trees) → shown whole a ≡ shown whole b → shown_term whole (While test a) ≡ shown_term whole (While test b)
while_shown true test a b e = ap (While test) e
while_shown false test a b e = ap (While test) e

pub turn_shown : (whole : Bool) (steps front stepped made : Trees) → shown whole front ≡ shown whole stepped → shown whole made ≡ shown whole (followed front steps) → shown whole made ≡ shown whole (followed stepped steps)
turn_shown whole steps front stepped made e f = f ∙ shown_followed whole front steps ∙ ap (λ ts. followed ts (shown whole steps)) e ∙ sym (shown_followed whole stepped steps)

-- a For's step whose copies may have numbers of their own, and where they all keep those of its nodes
optional_plain : (place : Place) (p : Plan) → is_plain p ≡ true → are_plain (P.optional place p) ≡ true
unfolding is_plain
optional_plain place omitted e = refl
optional_plain place p e = ap (λ c. c && true) e

pub may_renew : (keep keeps : Bool) (step : Node) (steps : Plans) → keeps ≡ (keep || not (is_plain (plan_of step.term))) → steps ≡ P.optional step.place (plan_of step.term) → MayRenew keeps steps
may_renew keep keeps step steps k s e = ap are_plain s ∙ optional_plain step.place (plan_of step.term) (by_plain keep (is_plain (plan_of step.term)) (sym k ∙ e))
  where
    by_plain : (keep plain : Bool) → (keep || not plain) ≡ false → plain ≡ true
    by_plain keep true e = refl
    by_plain true false e = absurd cc
    by_plain false false e = absurd cc

pub keeps_shown : (keep keeps plain : Bool) (a b : Trees) → keeps ≡ (keep || not plain) → shown keeps a ≡ shown keeps b → shown keep a ≡ shown keep b
keeps_shown true keeps plain a b k h = subst (λ c. shown c a ≡ shown c b) k h
keeps_shown false true plain a b k h = ap bare_all h
keeps_shown false false plain a b k h = h

three_plans : (a b c : Node) → plans_of (a ∷ b ∷ c ∷ []) ≡ plan a.place (plan_of a.term) (plan b.place (plan_of b.term) (plan c.place (plan_of c.term) no_plans))
unfolding plans_of
three_plans a b c = refl

pub keeps_none : (keep keeps : Bool) (start test step : Node) (args : List Node) → 3 ≤ length args → length args < 4 → start ≡ get_or args 0 start → test ≡ get_or args 1 test → step ≡ get_or args 2 step → keeps ≡ (keep || not (is_plain (plan_of step.term))) → keep ≡ false → is_third_plain (plans_of args) ≡ true → keeps ≡ false
keeps_none keep keeps start test step args h k ea eb ec s e plain =
    s ∙ ap (λ c. c || not (is_plain (plan_of step.term))) e
    ∙ ap not (sym (ap (λ ns. is_third_plain (plans_of ns)) (three_items args start test step h k ea eb ec) ∙ ap is_third_plain (three_plans start test step)) ∙ plain)

pub parts_shown : (whole : Bool) (start test step turn : Node) (args steps made new : List Node) (body inner : Trees) → 3 ≤ length args → length args < 4 → start ≡ get_or args 0 start → test ≡ get_or args 1 test → step ≡ get_or args 2 step → trees_of steps ≡ optional (node_tree step)
    → shown whole inner ≡ shown whole (followed (stepped_all (trees_of steps) body) (trees_of steps)) → node_tree turn ≡ While (node_tree test) inner → trees_of made ≡ optional (node_tree start) → new ≡ made ++ turn ∷ [] → shown whole (trees_of new) ≡ shown whole (for_parts (trees_of args) body)
parts_shown whole start test step turn args steps made new body inner h k ea eb ec s i w m n =
    let wanted = followed (stepped_all (optional (node_tree step)) body) (optional (node_tree step)) in
    ap (shown whole) (ap trees_of n ∙ behind_all made turn ∙ ap (λ ts. followed ts (tree (node_tree turn) no_trees)) m) ∙ shown_followed whole (optional (node_tree start)) (tree (node_tree turn) no_trees)
    ∙ ap (followed (shown whole (optional (node_tree start))))
    (shown_one whole (node_tree turn) ∙ ap (λ t. tree t no_trees) (ap (shown_term whole) w ∙ while_shown whole (node_tree test) inner wanted (i ∙ ap (λ ts. shown whole (followed (stepped_all ts body) ts)) s)) ∙ sym (shown_one whole (While (node_tree test) wanted)))
    ∙ sym (shown_followed whole (optional (node_tree start)) (tree (While (node_tree test) wanted) no_trees))
    ∙ ap (shown whole) (sym (ap (λ ns. for_parts (trees_of ns) body) (three_items args start test step h k ea eb ec) ∙ ap (λ ts. for_parts ts body) (three_nodes start test step)))

pub loop_third : (t : Term) (op : Op) (args body : Vec Node Global) (xs : List Node) → t ≡ D.Form op args body → xs ≡ args.items → has_plain_step (plan_of t) ≡ true → is_third_plain (plans_of xs) ≡ true
loop_third t op args body xs e x h = ap (λ ns. is_third_plain (plans_of ns)) x ∙ sym (ap (λ t. has_plain_step (plan_of t)) e ∙ ap has_plain_step (plan_form op args body)) ∙ h

pub loop_shown : (whole : Bool) (node : Node) (op : Op) (args body : Vec Node Global) (xs ys : List Node) (made : Trees) → node.term ≡ D.Form op args body → xs ≡ args.items → ys ≡ body.items → IsLoop node.term → shown whole made ≡ shown whole (for_parts (trees_of xs) (trees_of ys))
    → shown whole made ≡ shown whole (spread (node_tree node) no_trees)
loop_shown whole node op args body xs ys made e x y h m =
    let at : At = record { id = node.id; place = node.place } in
    let is = loop_row op args body (subst IsLoop e h) in
    m ∙ ap (λ ns. shown whole (for_parts (trees_of ns) (trees_of ys))) x ∙ ap (λ ns. shown whole (for_parts (trees_of args.items) (trees_of ns))) y
    ∙ ap (shown whole) (spread_parts at (trees_of args.items) (trees_of body.items) is.1
    ∙ ap (λ o. spread (form at o (trees_of args.items) (trees_of body.items)) no_trees) (sym is.0)
    ∙ sym (ap (λ t. spread (tree_of at t) no_trees) e ∙ ap (λ t. spread t no_trees) (form_tree at op args body)))

pub no_loop_shown : (whole : Bool) (node : Node) (made : Trees) → ((o : Op) (v w : Vec Node Global) → node.term ≡ D.Form o v w → ⊥) → IsLoop node.term → shown whole made ≡ shown whole (spread (node_tree node) no_trees)
no_loop_shown whole node made not_form h = absurd (not_loop node.term not_form h)

-- steps where a Continue follows, as trees and as plans
pub ruleset before_rules = (plans_before, plans_before_other, before_next, before_other)
