-- The numbers of copies that have their own.
use Rattle.std.proofs.Common.{◌≡◌, ℕ, Bool, true, false, zero, suc, ◌+◌, ◌<◌, List, [], ◌∷◌, ◌++◌, append_assoc, append-nil, length, take, get_or, Vec, Global, Option, None, refl, sym, ap, ◌∙◌, arith}
use Rattle.asl_tree.specs.declared.path.Path.{Path}
use Rattle.asl_tree.specs.declared.term.Op.{Op}
use Rattle.asl_tree.specs.declared.term.Node.{Node}
use Rattle.asl_tree.specs.declared.term.Term.{Term}
use Rattle.asl_tree.specs.declared.term.Term as D
use Rattle.asl_tree.specs.declared.term.Term.TheVariants as V
use Rattle.term_plans.specs.Plans.{plans_of}
use Rattle.asl_prints.specs.Numbers.{anew, numbers_in, numbers_of, number_behind, numbered, next_behind}
use Rattle.asl_prints.proofs.NodeNumbers.{numbers_form, numbers_call, one_number, numbers_joined, taken_next, no_taken, no_numbers, numbered_joined, behind_joined}
use Rattle.asl_prints.proofs.PlanNodes.{no_nodes as no_nodes_plans, no_taken as no_taken_plans}

pub anew_joined : (ms ns : List ℕ) → anew (ms ++ ns) ≡ anew ms ++ anew ns
anew_joined [] ns = refl
anew_joined (id ∷ ms) ns = ap (λ (ids : List (Option ℕ)). None ∷ ids) (anew_joined ms ns)

-- some first, and the next
pub renewed_next : (start next : ℕ) (front : List ℕ) (nodes old new : List Node) (i : ℕ) (node made : Node) → i < length nodes → node ≡ get_or nodes i node → numbers_of old ≡ front ++ numbered start (anew (numbers_of (take i nodes))) → next ≡ next_behind start (anew (numbers_of (take i nodes)))
    → numbers_of (made ∷ []) ≡ numbered next (anew (numbers_of (node ∷ []))) → new ≡ old ++ made ∷ [] → numbers_of new ≡ front ++ numbered start (anew (numbers_of (take (i + 1) nodes)))
renewed_next start next front nodes old new i node made lt is h n m e =
    let xs = numbers_of (take i nodes) in
    let ys = numbers_of (node ∷ []) in
    ap numbers_of e ∙ numbers_joined old (made ∷ []) ∙ ap (λ ns. ns ++ numbers_of (made ∷ [])) h ∙ ap (λ ns. (front ++ numbered start (anew xs)) ++ ns) (m ∙ ap (λ k. numbered k (anew ys)) n)
    ∙ append_assoc front (numbered start (anew xs)) (numbered (next_behind start (anew xs)) (anew ys))
    ∙ ap (λ ns. front ++ ns) (sym (numbered_joined start (anew xs) (anew ys)) ∙ ap (numbered start) (sym (anew_joined xs ys) ∙ ap anew (sym (taken_next nodes i node lt is))))

pub renewed_behind : (start next new : ℕ) (nodes : List Node) (i : ℕ) (node : Node) → i < length nodes → node ≡ get_or nodes i node → next ≡ next_behind start (anew (numbers_of (take i nodes))) → new ≡ next_behind next (anew (numbers_of (node ∷ [])))
    → new ≡ next_behind start (anew (numbers_of (take (i + 1) nodes)))
renewed_behind start next new nodes i node lt is h e =
    let xs = numbers_of (take i nodes) in
    let ys = numbers_of (node ∷ []) in
    e ∙ ap (λ k. next_behind k (anew ys)) h ∙ sym (behind_joined start (anew xs) (anew ys)) ∙ ap (next_behind start) (sym (anew_joined xs ys) ∙ ap anew (sym (taken_next nodes i node lt is)))

pub plans_begun : (nodes made : List Node) → made ≡ [] → plans_of made ≡ plans_of (take 0 nodes)
plans_begun nodes made e = ap plans_of e ∙ no_nodes_plans ∙ sym (no_taken_plans nodes)

none_renewed : (start : ℕ) (nodes : List Node) → numbered start (anew (numbers_of (take 0 nodes))) ≡ []
none_renewed start nodes = ap (λ ns. numbered start (anew ns)) (no_taken nodes)

pub none_begun : (start : ℕ) (nodes made : List Node) → made ≡ [] → numbers_of made ≡ numbered start (anew (numbers_of (take 0 nodes)))
none_begun start nodes made e = ap numbers_of e ∙ no_numbers ∙ sym (none_renewed start nodes)

pub front_begun : (start : ℕ) (front nodes : List Node) → numbers_of front ≡ numbers_of front ++ numbered start (anew (numbers_of (take 0 nodes)))
front_begun start front nodes = sym (ap (λ ns. numbers_of front ++ ns) (none_renewed start nodes) ∙ append-nil (numbers_of front))

pub none_behind : (start : ℕ) (nodes : List Node) → start ≡ next_behind start (anew (numbers_of (take 0 nodes)))
none_behind start nodes = sym (ap (λ ns. next_behind start (anew ns)) (no_taken nodes))

all_taken : (nodes : List Node) (i : ℕ) → (i < length nodes → ⊥) → take i nodes ≡ nodes
all_taken [] zero h = refl
all_taken [] (suc i) h = refl
all_taken (node ∷ nodes) zero h = absurd (h (omega arith))
all_taken (node ∷ nodes) (suc i) h = ap (λ ns. node ∷ ns) (all_taken nodes i (λ lt. h (omega (arith, lt))))

pub renewed_last : (start : ℕ) (ids front : List ℕ) (nodes : List Node) (i : ℕ) → (i < length nodes → ⊥) → ids ≡ front ++ numbered start (anew (numbers_of (take i nodes))) → ids ≡ front ++ numbered start (anew (numbers_of nodes))
renewed_last start ids front nodes i h e = e ∙ ap (λ ns. front ++ numbered start (anew (numbers_of ns))) (all_taken nodes i h)

pub behind_last : (start next : ℕ) (nodes : List Node) (i : ℕ) → (i < length nodes → ⊥) → next ≡ next_behind start (anew (numbers_of (take i nodes))) → next ≡ next_behind start (anew (numbers_of nodes))
behind_last start next nodes i h e = e ∙ ap (λ ns. next_behind start (anew (numbers_of ns))) (all_taken nodes i h)

-- a node, by its number and its term
pub node_renewed : (start next : ℕ) (node made : Node) → made.id ≡ start → next ≡ number_behind start → numbers_in made.term ≡ numbered next (anew (numbers_in node.term)) → numbers_of (made ∷ []) ≡ numbered start (anew (numbers_of (node ∷ [])))
node_renewed start next node made i n m =
    one_number made ∙ ap (λ id. id ∷ numbers_in made.term) i ∙ ap (λ ns. start ∷ ns) (m ∙ ap (λ k. numbered k (anew (numbers_in node.term))) n) ∙ sym (ap (λ ns. numbered start (anew ns)) (one_number node))

pub node_behind : (start next new : ℕ) (node : Node) → next ≡ number_behind start → new ≡ next_behind next (anew (numbers_in node.term)) → new ≡ next_behind start (anew (numbers_of (node ∷ [])))
node_behind start next new node n e = e ∙ ap (λ k. next_behind k (anew (numbers_in node.term))) n ∙ sym (ap (λ ns. next_behind start (anew ns)) (one_number node))

-- ---- a term

pub call_renewed : (start : ℕ) (t : Term) (path path' : Path) (args args' : Vec Node Global) (xs : List Node) → t ≡ D.Call path args → xs ≡ args.items → numbers_of args'.items ≡ numbered start (anew (numbers_of xs)) → numbers_in (D.Call path' args') ≡ numbered start (anew (numbers_in t))
call_renewed start t path path' args args' xs e x m =
    numbers_call path' args' ∙ m ∙ ap (λ ns. numbered start (anew (numbers_of ns))) x ∙ sym (ap (λ t. numbered start (anew (numbers_in t))) e ∙ ap (λ ns. numbered start (anew ns)) (numbers_call path args))

pub call_behind : (start next : ℕ) (t : Term) (path : Path) (args : Vec Node Global) (xs : List Node) → t ≡ D.Call path args → xs ≡ args.items → next ≡ next_behind start (anew (numbers_of xs)) → next ≡ next_behind start (anew (numbers_in t))
call_behind start next t path args xs e x m = m ∙ ap (λ ns. next_behind start (anew (numbers_of ns))) x ∙ sym (ap (λ t. next_behind start (anew (numbers_in t))) e ∙ ap (λ ns. next_behind start (anew ns)) (numbers_call path args))

pub form_renewed : (start mid : ℕ) (t : Term) (op : Op) (args body args' body' : Vec Node Global) (xs ys : List Node) → t ≡ D.Form op args body → xs ≡ args.items → ys ≡ body.items → numbers_of args'.items ≡ numbered start (anew (numbers_of xs)) → mid ≡ next_behind start (anew (numbers_of xs))
    → numbers_of body'.items ≡ numbered mid (anew (numbers_of ys)) → numbers_in (D.Form op args' body') ≡ numbered start (anew (numbers_in t))
form_renewed start mid t op args body args' body' xs ys e x y a n b =
    numbers_form op args' body' ∙ ap (λ ns. ns ++ numbers_of body'.items) a ∙ ap (λ ns. numbered start (anew (numbers_of xs)) ++ ns) (b ∙ ap (λ k. numbered k (anew (numbers_of ys))) n)
    ∙ sym (numbered_joined start (anew (numbers_of xs)) (anew (numbers_of ys))) ∙ ap (numbered start) (sym (anew_joined (numbers_of xs) (numbers_of ys)))
    ∙ ap (λ ns. numbered start (anew (numbers_of ns ++ numbers_of ys))) x ∙ ap (λ ns. numbered start (anew (numbers_of args.items ++ numbers_of ns))) y
    ∙ sym (ap (λ t. numbered start (anew (numbers_in t))) e ∙ ap (λ ns. numbered start (anew ns)) (numbers_form op args body))

pub form_behind : (start mid next : ℕ) (t : Term) (op : Op) (args body : Vec Node Global) (xs ys : List Node) → t ≡ D.Form op args body → xs ≡ args.items → ys ≡ body.items → mid ≡ next_behind start (anew (numbers_of xs)) → next ≡ next_behind mid (anew (numbers_of ys))
    → next ≡ next_behind start (anew (numbers_in t))
form_behind start mid next t op args body xs ys e x y n b =
    b ∙ ap (λ k. next_behind k (anew (numbers_of ys))) n ∙ sym (behind_joined start (anew (numbers_of xs)) (anew (numbers_of ys))) ∙ ap (next_behind start) (sym (anew_joined (numbers_of xs) (numbers_of ys)))
    ∙ ap (λ ns. next_behind start (anew (numbers_of ns ++ numbers_of ys))) x ∙ ap (λ ns. next_behind start (anew (numbers_of args.items ++ numbers_of ns))) y
    ∙ sym (ap (λ t. next_behind start (anew (numbers_in t))) e ∙ ap (λ ns. next_behind start (anew ns)) (numbers_form op args body))

-- other terms have no nodes
abbrev has_nodes : Term → Bool
has_nodes (D.Call' path shape args) = true
has_nodes (D.Form' op shape args shape' body) = true
has_nodes t = false

no_nodes : (t : Term) → has_nodes t ≡ false → numbers_in t ≡ []
unfolding numbers_in
no_nodes (D.Call' path shape args) e = absurd cc
no_nodes (D.Form' op shape args shape' body) e = absurd cc
no_nodes t e = refl

other : (t : Term) → ((p : Path) (v : Vec Node Global) → t ≡ D.Call p v → ⊥) → ((o : Op) (v w : Vec Node Global) → t ≡ D.Form o v w → ⊥) → has_nodes t ≡ false
other t not_call not_form = by_layer (D.out-Term t) (sym (D.roll-out-Term t))
  where
    by_layer : (f : D.Term-F Term Node) → t ≡ D.roll-Term f → has_nodes t ≡ false
    by_layer (D.Term-F.Call p v) e = absurd (not_call p v (e ∙ V.rolls-Call p v))
    by_layer (D.Term-F.Form o v w) e = absurd (not_form o v w (e ∙ V.rolls-Form o v w))
    by_layer (D.Term-F.Name p) e = ap has_nodes (e ∙ V.rolls-Name p)
    by_layer (D.Term-F.Integer n) e = ap has_nodes (e ∙ V.rolls-Integer n)
    by_layer (D.Term-F.Text text) e = ap has_nodes (e ∙ V.rolls-Text text)
    by_layer (D.Term-F.Fill bytes named) e = ap has_nodes (e ∙ V.rolls-Fill bytes named)
    by_layer (D.Term-F.Word word) e = ap has_nodes (e ∙ V.rolls-Word word)
    by_layer (D.Term-F.Local n) e = ap has_nodes (e ∙ V.rolls-Local n)
    by_layer (D.Term-F.Arg n) e = ap has_nodes (e ∙ V.rolls-Arg n)
    by_layer (D.Term-F.Debug) e = ap has_nodes (e ∙ V.rolls-Debug)
    by_layer (D.Term-F.Omitted) e = ap has_nodes (e ∙ V.rolls-Omitted)
    by_layer (D.Term-F.Unit segment bits) e = ap has_nodes (e ∙ V.rolls-Unit segment bits)
    by_layer (D.Term-F.Skip n) e = ap has_nodes (e ∙ V.rolls-Skip n)
    by_layer (D.Term-F.Offset n) e = ap has_nodes (e ∙ V.rolls-Offset n)
    by_layer (D.Term-F.Access access attribute count) e = ap has_nodes (e ∙ V.rolls-Access access attribute count)

module _ (t : Term) (not_call : (p : Path) (v : Vec Node Global) → t ≡ D.Call p v → ⊥) (not_form : (o : Op) (v w : Vec Node Global) → t ≡ D.Form o v w → ⊥) where
  none : numbers_in t ≡ []
  none = no_nodes t (other t not_call not_form)

  pub other_renewed : (start : ℕ) (copy : Term) → numbers_in copy ≡ numbers_in t → numbers_in copy ≡ numbered start (anew (numbers_in t))
  other_renewed start copy e = e ∙ none ∙ sym (ap (λ ns. numbered start (anew ns)) none)

  pub other_behind : (start : ℕ) → start ≡ next_behind start (anew (numbers_in t))
  other_behind start = sym (ap (λ ns. next_behind start (anew ns)) none)
