-- The numbers of the nodes of a For's body, and of the copies of its step.
use Rattle.std.proofs.Common.{◌≡◌, ℕ, zero, suc, ◌+◌, ◌<◌, ◌≤◌, Bool, true, false, List, [], ◌∷◌, ◌++◌, append_assoc, append-nil, length, take, get_or, Vec, Global, Some, None, refl, sym, ap, ◌∙◌, subst, arith}
use Rattle.std.specs.Prelude.{if◌then◌else◌, ◌||◌, not}
use Rattle.asl_tree.specs.declared.term.Control.TheVariants as Control
use Rattle.asl_tree.specs.declared.term.Op.{Op}
use Rattle.asl_tree.specs.declared.term.Node.{Node}
use Rattle.asl_tree.specs.declared.term.Term.{Term}
use Rattle.asl_tree.specs.declared.term.Term as D
use Rattle.asl_tree.specs.Tree.{At}
use Rattle.asl_tree.specs.View.{tree_of}
use Rattle.asl_prints.specs.Nodes.{goes_in}
use Rattle.asl_formats.specs.Steps.{is_next, IsLoop}
use Rattle.asl_prints.specs.Numbers.{Mark, Own, Step, numbers_in, row_numbers, numbers_of, number_behind, kept, anew, numbered, next_behind, own, step_before, stepped_in, stepped_row, stepped_nodes, steps_kept, optional_numbers, for_numbers, form_numbers}
use Rattle.asl_formats.specs.StepNumbers.{stands_behind, Advances}
use Rattle.asl_formats.specs.declared.steps.Copies.{Copies}
use Rattle.asl_prints.proofs.Layers.{is_form, no_form}
use Rattle.asl_prints.proofs.Nodes.{args_row, body_row, take_next}
use Rattle.asl_formats.proofs.Fors.{loop_row, three_items, not_loop}
use Rattle.asl_formats.proofs.PlanSteps.{node_next}
use Rattle.asl_prints.proofs.NodeNumbers.{rows, numbers_form, no_numbers, one_number, numbers_joined, numbered_joined, behind_joined, numbered_kept, behind_kept}
use Rattle.asl_formats.proofs.Fors as F
use Rattle.asl_formats.proofs.PlanFors as L

-- ---- marks one after another

module _ (step : List ℕ) where
  steps_joined : (again : Bool) (ms ns : List Mark) → steps_kept step again (ms ++ ns) ≡ steps_kept step again ms ++ steps_kept step (stands_behind again ms) ns
  steps_joined again [] ns = refl
  steps_joined again (Own id ∷ ms) ns = ap (λ ids. Some id ∷ ids) (steps_joined again ms ns)
  steps_joined again (Step ∷ ms) ns =
      let one = if again then anew step else kept step in
      ap (λ ids. one ++ ids) (steps_joined true ms ns) ∙ sym (append_assoc one (steps_kept step true ms) (steps_kept step (stands_behind true ms) ns))

  stands_joined : (again : Bool) (ms ns : List Mark) → stands_behind again (ms ++ ns) ≡ stands_behind (stands_behind again ms) ns
  stands_joined again [] ns = refl
  stands_joined again (Own id ∷ ms) ns = stands_joined again ms ns
  stands_joined again (Step ∷ ms) ns = stands_joined true ms ns

  owned : (again : Bool) (ids : List ℕ) → steps_kept step again (own ids) ≡ kept ids
  owned again [] = refl
  owned again (id ∷ ids) = ap (λ ns. Some id ∷ ns) (owned again ids)

  stands_owned : (again : Bool) (ids : List ℕ) → stands_behind again (own ids) ≡ again
  stands_owned again [] = refl
  stands_owned again (id ∷ ids) = stands_owned again ids

-- one after the other
pub advance : (step : List ℕ) (a b c : Copies) (ms ns : List Mark) (x y z : List ℕ) → Advances step a b ms x y → Advances step b c ns y z → Advances step a c (ms ++ ns) x z
advance step a b c ms ns x y z f g =
    let xs = steps_kept step a.again ms in
    let ys = steps_kept step (stands_behind a.again ms) ns in
    let again : steps_kept step b.again ns ≡ ys = ap (λ k. steps_kept step k ns) f.1.1 in (
      g.0 ∙ ap (λ us. us ++ numbered b.next (steps_kept step b.again ns)) f.0 ∙ append_assoc x (numbered a.next xs) (numbered b.next (steps_kept step b.again ns))
          ∙ ap (λ us. x ++ (numbered a.next xs ++ numbered b.next us)) again ∙ ap (λ n. x ++ (numbered a.next xs ++ numbered n ys)) f.1.0
          ∙ ap (λ us. x ++ us) (sym (numbered_joined a.next xs ys) ∙ ap (numbered a.next) (sym (steps_joined step a.again ms ns))),
      (
        g.1.0 ∙ ap (next_behind b.next) again ∙ ap (λ n. next_behind n ys) f.1.0 ∙ sym (behind_joined a.next xs ys) ∙ ap (next_behind a.next) (sym (steps_joined step a.again ms ns)),
        g.1.1 ∙ ap (λ k. stands_behind k ns) f.1.1 ∙ sym (stands_joined step a.again ms ns),
      ),
    )

-- nodes that keep their numbers
pub stay : (step : List ℕ) (a : Copies) (ids x y : List ℕ) → y ≡ x ++ ids → Advances step a a (own ids) x y
stay step a ids x y e = (
  e ∙ ap (λ us. x ++ us) (sym (ap (numbered a.next) (owned step a.again ids) ∙ numbered_kept a.next ids)),
  (sym (ap (next_behind a.next) (owned step a.again ids) ∙ behind_kept a.next ids), sym (stands_owned step a.again ids)),
)

pub stay_here : (step : List ℕ) (a : Copies) (x : List ℕ) → Advances step a a [] x x
stay_here step a x = (sym (append-nil x), (refl, refl))

-- behind others
pub behind_others : (step : List ℕ) (a b : Copies) (ms : List Mark) (x y : List ℕ) → Advances step a b ms [] y → Advances step a b ms x (x ++ y)
behind_others step a b ms x y f = (ap (λ us. x ++ us) f.0, f.1)

-- ---- the step

false_true : false ≡ true → ⊥
false_true e = cc

or_true : (k : Bool) → (k || true) ≡ false → ⊥
or_true true e = cc
or_true false e = cc

pub put_kept : (step : List ℕ) (old : Copies) (front all : List ℕ) → old.keep ≡ false → (old.keep || not old.again) ≡ true → all ≡ front ++ step → Advances step old (record { keep = old.keep; again = true; next = old.next }) (Step ∷ []) front all
put_kept step old front all k e a = by_again old.again refl
  where
    by_again : (again : Bool) → old.again ≡ again → Advances step old (record { keep = old.keep; again = true; next = old.next }) (Step ∷ []) front all
    by_again false f =
        let ids : steps_kept step old.again (Step ∷ []) ≡ kept step = ap (λ k. (if k then anew step else kept step) ++ []) f ∙ append-nil (kept step) in
        (a ∙ ap (λ us. front ++ us) (sym (ap (numbered old.next) ids ∙ numbered_kept old.next step)), (sym (ap (next_behind old.next) ids ∙ behind_kept old.next step), refl))
    by_again true f = absurd (false_true (sym (ap (λ c. c || not old.again) k ∙ ap not f) ∙ e))

pub put_anew : (step : List ℕ) (old : Copies) (front all : List ℕ) (next : ℕ) → (old.keep || not old.again) ≡ false → all ≡ front ++ numbered old.next (anew step) → next ≡ next_behind old.next (anew step) → Advances step old (record { keep = old.keep; again = old.again; next = next }) (Step ∷ []) front all
put_anew step old front all next e a n = by_again old.again refl
  where
    by_again : (again : Bool) → old.again ≡ again → Advances step old (record { keep = old.keep; again = old.again; next = next }) (Step ∷ []) front all
    by_again true f =
        let ids : steps_kept step old.again (Step ∷ []) ≡ anew step = ap (λ k. (if k then anew step else kept step) ++ []) f ∙ append-nil (anew step) in
        (a ∙ ap (λ us. front ++ numbered old.next us) (sym ids), (n ∙ ap (next_behind old.next) (sym ids), f))
    by_again false f = absurd (or_true old.keep (sym (ap (λ c. old.keep || not c) f) ∙ e))

-- the step, where a Continue follows
next_before : (node : Node) (b : Bool) → ((at : At) → is_next (tree_of at node.term) ≡ b) → step_before node.term ≡ (if b then Step ∷ [] else [])
next_before node b h = ap (λ (c : Bool). if c then Step ∷ [] else []) (sym (node_next node) ∙ h (record { id = node.id; place = node.place }))

pub before_next : (step : List ℕ) (old new : Copies) (front all : List ℕ) (node : Node) (b : Bool) → ((at : At) → is_next (tree_of at node.term) ≡ b) → b ≡ true → Advances step old new (Step ∷ []) front all → Advances step old new (step_before node.term) front all
before_next step old new front all node b h e f = subst (λ ms. Advances step old new ms front all) (sym (next_before node b h ∙ ap (λ (c : Bool). if c then Step ∷ [] else []) e)) f

pub before_other : (step : List ℕ) (old : Copies) (front : List ℕ) (node : Node) (b : Bool) → ((at : At) → is_next (tree_of at node.term) ≡ b) → b ≡ false → Advances step old old (step_before node.term) front front
before_other step old front node b h e = subst (λ ms. Advances step old old ms front front) (sym (next_before node b h ∙ ap (λ (c : Bool). if c then Step ∷ [] else []) e)) (stay_here step old front)

-- ---- nodes one after another

no_marks : stepped_nodes [] ≡ []
unfolding stepped_nodes
no_marks = refl

one_marks : (node : Node) → stepped_nodes (node ∷ []) ≡ step_before node.term ++ (Own node.id ∷ stepped_in node.term)
unfolding stepped_nodes
one_marks node = ap (λ ms. step_before node.term ++ (Own node.id ∷ ms)) (append-nil (stepped_in node.term))

marks_joined : (nodes others : List Node) → stepped_nodes (nodes ++ others) ≡ stepped_nodes nodes ++ stepped_nodes others
unfolding stepped_nodes
marks_joined [] others = refl
marks_joined (node ∷ nodes) others =
    let inner = stepped_in node.term in
    ap (λ ms. step_before node.term ++ (Own node.id ∷ (inner ++ ms))) (marks_joined nodes others)
    ∙ ap (λ ms. step_before node.term ++ (Own node.id ∷ ms)) (sym (append_assoc inner (stepped_nodes nodes) (stepped_nodes others)))
    ∙ sym (append_assoc (step_before node.term) (Own node.id ∷ (inner ++ stepped_nodes nodes)) (stepped_nodes others))

none_taken : (nodes : List Node) → take 0 nodes ≡ []
none_taken [] = refl
none_taken (node ∷ nodes) = refl

all_taken : (nodes : List Node) (i : ℕ) → (i < length nodes → ⊥) → take i nodes ≡ nodes
all_taken [] zero h = refl
all_taken [] (suc i) h = refl
all_taken (node ∷ nodes) zero h = absurd (h (omega arith))
all_taken (node ∷ nodes) (suc i) h = ap (λ ns. node ∷ ns) (all_taken nodes i (λ lt. h (omega (arith, lt))))

marks_taken : (nodes : List Node) (i : ℕ) (node : Node) → i < length nodes → node ≡ get_or nodes i node → stepped_nodes (take (i + 1) nodes) ≡ stepped_nodes (take i nodes) ++ (step_before node.term ++ (Own node.id ∷ stepped_in node.term))
marks_taken nodes i node lt is =
    let one : i + 1 ≡ suc i = omega arith in
    ap (λ n. stepped_nodes (take n nodes)) one ∙ ap stepped_nodes (take_next nodes i node lt is) ∙ marks_joined (take i nodes) (node ∷ []) ∙ ap (λ ms. stepped_nodes (take i nodes) ++ ms) (one_marks node)

pub nodes_begun : (step : List ℕ) (a : Copies) (nodes made : List Node) → made ≡ [] → Advances step a a (stepped_nodes (take 0 nodes)) [] (numbers_of made)
nodes_begun step a nodes made e =
    subst (λ ms. Advances step a a ms [] (numbers_of made)) (sym (ap stepped_nodes (none_taken nodes) ∙ no_marks)) (subst (λ ids. Advances step a a [] [] ids) (sym (ap numbers_of e ∙ no_numbers)) (stay_here step a []))

pub nodes_next : (step : List ℕ) (a b c d : Copies) (nodes old front new : List Node) (i : ℕ) (node copy : Node) → i < length nodes → node ≡ get_or nodes i node → Advances step a b (stepped_nodes (take i nodes)) [] (numbers_of old) → Advances step b c (step_before node.term) (numbers_of old) (numbers_of front)
    → Advances step c d (Own node.id ∷ stepped_in node.term) [] (numbers_of (copy ∷ [])) → new ≡ front ++ copy ∷ [] → Advances step a d (stepped_nodes (take (i + 1) nodes)) [] (numbers_of new)
nodes_next step a b c d nodes old front new i node copy lt is f g h e =
    let ns = numbers_of (copy ∷ []) in
    let inner = Own node.id ∷ stepped_in node.term in
    subst (λ ms. Advances step a d ms [] (numbers_of new)) (sym (marks_taken nodes i node lt is))
    (subst (λ ids. Advances step a d (stepped_nodes (take i nodes) ++ (step_before node.term ++ inner)) [] ids) (sym (ap numbers_of e ∙ numbers_joined front (copy ∷ [])))
    (advance step a b d (stepped_nodes (take i nodes)) (step_before node.term ++ inner) [] (numbers_of old) (numbers_of front ++ ns) f
    (advance step b c d (step_before node.term) inner (numbers_of old) (numbers_of front) (numbers_of front ++ ns) g (behind_others step c d inner (numbers_of front) ns h))))

pub nodes_last : (step : List ℕ) (a b : Copies) (nodes made : List Node) (i : ℕ) → (i < length nodes → ⊥) → Advances step a b (stepped_nodes (take i nodes)) [] (numbers_of made) → Advances step a b (stepped_nodes nodes) [] (numbers_of made)
nodes_last step a b nodes made i h f = subst (λ ns. Advances step a b (stepped_nodes ns) [] (numbers_of made)) (all_taken nodes i h) f

-- ---- a node and a term

pub node_advances : (step : List ℕ) (a b : Copies) (node made : Node) → made.id ≡ node.id → Advances step a b (stepped_in node.term) [] (numbers_in made.term) → Advances step a b (Own node.id ∷ stepped_in node.term) [] (numbers_of (made ∷ []))
node_advances step a b node made i f = (one_number made ∙ ap (λ id. id ∷ numbers_in made.term) i ∙ ap (λ ids. node.id ∷ ids) f.0, f.1)

row_marks : (m : _) (row : D.Row_of-Node m) → stepped_row row ≡ stepped_nodes (D.items-the_row-Node m row)
unfolding stepped_in stepped_nodes
row_marks m D.end_of-Node = refl
row_marks m (D.more_of-Node id place term rest) = ap (λ ms. step_before term ++ (Own id ∷ (stepped_in term ++ ms))) (row_marks _ rest)

form_marks : (op : Op) (args body : Vec Node Global) → stepped_in (D.Form op args body) ≡ own (numbers_of args.items) ++ (if goes_in op then stepped_nodes body.items else own (numbers_of body.items))
unfolding stepped_in
form_marks op args body =
    let a = args_row (D.Form op args body) in
    let b = body_row (D.Form op args body) in
    ap (λ ids. own ids ++ (if goes_in op then stepped_row b.1 else own (row_numbers b.1))) (rows a.0 a.1 ∙ ap numbers_of (D.items_hidden-the_row-Node-0 args))
    ∙ ap (λ ms. own (numbers_of args.items) ++ (if goes_in op then ms else own (row_numbers b.1))) (row_marks b.0 b.1 ∙ ap stepped_nodes (D.items_hidden-the_row-Node-0 body))
    ∙ ap (λ ids. own (numbers_of args.items) ++ (if goes_in op then stepped_nodes body.items else own ids)) (rows b.0 b.1 ∙ ap numbers_of (D.items_hidden-the_row-Node-0 body))

pub form_advances : (step : List ℕ) (a b : Copies) (t : Term) (op : Op) (args body args' body' : Vec Node Global) (xs ys : List Node) → t ≡ D.Form op args body → xs ≡ args.items → ys ≡ body.items → numbers_of args'.items ≡ numbers_of xs
    → Advances step a b (if goes_in op then stepped_nodes ys else own (numbers_of ys)) [] (numbers_of body'.items) → Advances step a b (stepped_in t) [] (numbers_in (D.Form op args' body'))
form_advances step a b t op args body args' body' xs ys e x y n f =
    let inner = if goes_in op then stepped_nodes ys else own (numbers_of ys) in
    let marks : own (numbers_of xs) ++ inner ≡ stepped_in t =
    ap (λ ns. own (numbers_of ns) ++ inner) x ∙ ap (λ ns. own (numbers_of args.items) ++ (if goes_in op then stepped_nodes ns else own (numbers_of ns))) y ∙ sym (ap stepped_in e ∙ form_marks op args body) in
    subst (λ ms. Advances step a b ms [] (numbers_in (D.Form op args' body'))) marks
    (subst (λ ids. Advances step a b (own (numbers_of xs) ++ inner) [] ids) (sym (numbers_form op args' body' ∙ ap (λ ids. ids ++ numbers_of body'.items) n))
    (advance step a a b (own (numbers_of xs)) inner [] (numbers_of xs) (numbers_of xs ++ numbers_of body'.items) (stay step a (numbers_of xs) [] (numbers_of xs) refl) (behind_others step a b inner (numbers_of xs) (numbers_of body'.items) f)))

flat_marks : (t : Term) → is_form t ≡ false → stepped_in t ≡ own (numbers_in t)
unfolding stepped_in numbers_in
flat_marks (D.Form' op shape args shape' body) e = absurd cc
flat_marks t e = refl

pub other_advances : (step : List ℕ) (a : Copies) (t copy : Term) → ((o : Op) (v w : Vec Node Global) → t ≡ D.Form o v w → ⊥) → numbers_in copy ≡ numbers_in t → Advances step a a (stepped_in t) [] (numbers_in copy)
other_advances step a t copy h e = subst (λ ms. Advances step a a ms [] (numbers_in copy)) (sym (flat_marks t (no_form t h))) (stay step a (numbers_in t) [] (numbers_in copy) e)

pub inside_advances : (step : List ℕ) (a b : Copies) (op : Op) (body made : List Node) → goes_in op ≡ true → Advances step a b (stepped_nodes body) [] (numbers_of made) → Advances step a b (if goes_in op then stepped_nodes body else own (numbers_of body)) [] (numbers_of made)
inside_advances step a b op body made e f = subst (λ (c : Bool). Advances step a b (if c then stepped_nodes body else own (numbers_of body)) [] (numbers_of made)) (sym e) f

pub outside_advances : (step : List ℕ) (a : Copies) (op : Op) (body made : List Node) → goes_in op ≡ false → numbers_of made ≡ numbers_of body → Advances step a a (if goes_in op then stepped_nodes body else own (numbers_of body)) [] (numbers_of made)
outside_advances step a op body made e n = subst (λ (c : Bool). Advances step a a (if c then stepped_nodes body else own (numbers_of body)) [] (numbers_of made)) (sym e) (stay step a (numbers_of body) [] (numbers_of made) n)

-- ---- a For

omitted_numbers : (id : ℕ) (t : Term) → (t ≡ D.Omitted → ⊥) → optional_numbers id t ≡ id ∷ numbers_in t
omitted_numbers id D.Omitted h = absurd (h refl)
omitted_numbers id t h = refl

pub optional_none : (node : Node) (nodes : List Node) → node.term ≡ D.Omitted → nodes ≡ [] → numbers_of nodes ≡ optional_numbers node.id node.term
optional_none node nodes e n = ap numbers_of n ∙ no_numbers ∙ sym (ap (optional_numbers node.id) e)

pub optional_one : (node copy : Node) (old new : List Node) → (node.term ≡ D.Omitted → ⊥) → numbers_of (copy ∷ []) ≡ numbers_of (node ∷ []) → old ≡ [] → new ≡ old ++ copy ∷ [] → numbers_of new ≡ optional_numbers node.id node.term
optional_one node copy old new h c o n = ap numbers_of (n ∙ ap (λ ns. ns ++ copy ∷ []) o) ∙ c ∙ one_number node ∙ sym (omitted_numbers node.id node.term h)

pub while_numbers : (id : ℕ) (made test copy : Node) (old : List Node) (args body : Vec Node Global) → made.id ≡ id → made.term ≡ D.Form (Op.Control Control.While) args body → numbers_of (copy ∷ []) ≡ numbers_of (test ∷ []) → old ≡ [] → args.items ≡ old ++ copy ∷ [] → numbers_of (made ∷ []) ≡ id ∷ (numbers_of (test ∷ []) ++ numbers_of body.items)
while_numbers id made test copy old args body i t c o e =
    one_number made ∙ ap (λ n. n ∷ numbers_in made.term) i ∙ ap (λ ids. id ∷ ids) (ap numbers_in t ∙ numbers_form (Op.Control Control.While) args body ∙ ap (λ ids. ids ++ numbers_of body.items) (ap numbers_of (e ∙ ap (λ ns. ns ++ copy ∷ []) o) ∙ c))

pub parts_numbers : (id : ℕ) (new : Copies) (start test step turn : Node) (args steps made all body inner : List Node) → 3 ≤ length args → length args < 4 → start ≡ get_or args 0 start → test ≡ get_or args 1 test → step ≡ get_or args 2 step → numbers_of steps ≡ optional_numbers step.id step.term
    → Advances (numbers_of steps) (record { keep = false; again = false; next = number_behind id }) new (stepped_nodes body ++ Step ∷ []) [] (numbers_of inner) → numbers_of (turn ∷ []) ≡ id ∷ (numbers_of (test ∷ []) ++ numbers_of inner) → numbers_of made ≡ optional_numbers start.id start.term → all ≡ made ++ turn ∷ []
    → numbers_of all ≡ numbered id (for_numbers args body)
parts_numbers id new start test step turn args steps made all body inner h k ea eb ec s f w m n =
    let marks = stepped_nodes body ++ Step ∷ [] in
    let ids = optional_numbers start.id start.term in
    let tests = numbers_of (test ∷ []) in
    let rest = steps_kept (optional_numbers step.id step.term) false marks in
    ap numbers_of n ∙ numbers_joined made (turn ∷ []) ∙ ap (λ ns. ns ++ numbers_of (turn ∷ [])) m
    ∙ ap (λ ns. ids ++ ns) (w ∙ ap (λ ns. id ∷ (tests ++ ns)) (f.0 ∙ ap (λ ns. numbered (number_behind id) (steps_kept ns false marks)) s)
    ∙ ap (λ ns. id ∷ ns) (sym (numbered_joined (number_behind id) (kept tests) rest ∙ ap (λ ns. ns ++ numbered (next_behind (number_behind id) (kept tests)) rest) (numbered_kept (number_behind id) tests)
    ∙ ap (λ k. tests ++ numbered k rest) (behind_kept (number_behind id) tests))))
    ∙ sym (numbered_joined id (kept ids) (None ∷ (kept tests ++ rest)) ∙ ap (λ ns. ns ++ numbered (next_behind id (kept ids)) (None ∷ (kept tests ++ rest))) (numbered_kept id ids)
    ∙ ap (λ k. ids ++ numbered k (None ∷ (kept tests ++ rest))) (behind_kept id ids))
    ∙ ap (λ ns. numbered id (for_numbers ns body)) (sym (three_items args start test step h k ea eb ec))

no_for : (args body : List Node) → (length args ≡ 3 → ⊥) → for_numbers args body ≡ []
no_for [] body h = refl
no_for (a ∷ []) body h = refl
no_for (a ∷ b ∷ []) body h = refl
no_for (a ∷ b ∷ c ∷ []) body h = absurd (h refl)
no_for (a ∷ b ∷ c ∷ d ∷ ns) body h = refl

pub few_numbers : (id : ℕ) (args made body : List Node) → length args < 3 → made ≡ [] → numbers_of made ≡ numbered id (for_numbers args body)
few_numbers id args made body h e = ap numbers_of e ∙ no_numbers ∙ sym (ap (numbered id) (no_for args body (λ l. omega (arith, h, l))))

pub many_numbers : (id : ℕ) (args made body : List Node) → 4 ≤ length args → made ≡ [] → numbers_of made ≡ numbered id (for_numbers args body)
many_numbers id args made body h e = ap numbers_of e ∙ no_numbers ∙ sym (ap (numbered id) (no_for args body (λ l. omega (arith, h, l))))

form_is : (args body : Vec Node Global) → form_numbers (D.Form (Op.Control Control.For) args body) ≡ for_numbers args.items body.items
form_is args body = ap (λ ns. for_numbers ns _) (D.items_hidden-the_row-Node-0 args) ∙ ap (λ ns. for_numbers args.items ns) (D.items_hidden-the_row-Node-0 body)

pub loop_numbers : (id : ℕ) (node : Node) (op : Op) (args body : Vec Node Global) (xs ys : List Node) (made : List ℕ) → node.term ≡ D.Form op args body → xs ≡ args.items → ys ≡ body.items → IsLoop node.term → made ≡ numbered id (for_numbers xs ys) → made ≡ numbered id (form_numbers node.term)
loop_numbers id node op args body xs ys made e x y h m =
    let is = loop_row op args body (subst IsLoop e h) in
    m ∙ ap (λ ns. numbered id (for_numbers ns ys)) x ∙ ap (λ ns. numbered id (for_numbers args.items ns)) y
    ∙ sym (ap (λ t. numbered id (form_numbers t)) e ∙ ap (λ o. numbered id (form_numbers (D.Form o args body))) is.0 ∙ ap (numbered id) (form_is args body))

pub no_loop_numbers : (id : ℕ) (node : Node) (made : List ℕ) → ((o : Op) (v w : Vec Node Global) → node.term ≡ D.Form o v w → ⊥) → IsLoop node.term → made ≡ numbered id (form_numbers node.term)
no_loop_numbers id node made not_form h = absurd (not_loop node.term not_form h)

-- a term that may be left out, as trees and as plans, with its numbers
pub ruleset optional_rules = (F.optional_none, F.optional_one, L.optional_none, L.optional_one, optional_none, optional_one)

-- fewer or more arguments than three
pub ruleset parts_rules = (L.few_made, L.many_made, few_numbers, many_numbers)
