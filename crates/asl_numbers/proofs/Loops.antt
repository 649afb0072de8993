-- Nodes that are numbered one after another.
use Rattle.std.proofs.Common.{◌≡◌, ℕ, zero, suc, ◌+◌, ◌<◌, ◌≤◌, List, [], ◌∷◌, ◌++◌, length, get_or, set, take, drop, refl, sym, ap, ◌∙◌, subst, arith}
use Rattle.std.specs.Prelude.{Option, Some, None, IfNone}
use Rattle.std.proofs.lemmas.List.{take_all, drop_all}
use Rattle.asl_tree.specs.declared.term.Node.{Node}
use Rattle.asl_tree.specs.Tree.{At, Trees, no_trees, tree}
use Rattle.asl_tree.specs.View.{tree_of, trees_of}
use Rattle.term_plans.specs.Plans.{plan, plan_of, plans_of}
use Rattle.asl_numbers.specs.Numbers.{inside, nodes, numbered, numbered_all}

-- trees behind those of some nodes
abbrev pub behind : List Node → Trees → Trees
behind [] ts = ts
behind (node ∷ ns) ts = tree (tree_of (record { id = node.id; place = node.place }) node.term) (behind ns ts)

-- some first nodes have their numbers, and those behind them are as they were
pub record IsNumbered (first : ℕ) (old now : List Node) (at next : ℕ) : Type 0 where
  pub size : length now ≡ length old
  pub rest : drop at now ≡ drop at old
  pub trees : behind (take at now) (numbered_all next (plans_of (drop at old))) ≡ numbered_all first (plans_of old)
  pub count : next + nodes (plans_of (drop at old)) ≡ first + nodes (plans_of old)
  pub plans : plans_of now ≡ plans_of old

pub none_numbered : (first : ℕ) (old : List Node) → IsNumbered first old old 0 first
none_numbered first [] = record { size = refl; rest = refl; trees = refl; count = refl; plans = refl }
none_numbered first (node ∷ ns) = record { size = refl; rest = refl; trees = refl; count = refl; plans = refl }

behind_all : (ns : List Node) → behind ns no_trees ≡ trees_of ns
unfolding trees_of
behind_all [] = refl
behind_all (node ∷ ns) = ap (tree (tree_of (record { id = node.id; place = node.place }) node.term)) (behind_all ns)

plans_none : nodes (plans_of []) ≡ 0
unfolding plans_of
plans_none = refl

pub none_counted : (ns : List Node) → length ns ≡ 0 → nodes (plans_of ns) ≡ 0
none_counted [] e = plans_none
none_counted (n ∷ ns) e = absurd (omega (arith, e))

pub none_trees : (first : ℕ) (ns : List Node) → length ns ≡ 0 → trees_of ns ≡ numbered_all first (plans_of ns)
unfolding trees_of plans_of numbered_all
none_trees first [] e = refl
none_trees first (n ∷ ns) e = absurd (omega (arith, e))

numbered_none : (next : ℕ) → numbered_all next (plans_of []) ≡ no_trees
unfolding plans_of numbered_all
numbered_none next = refl

pub all_numbered : (first : ℕ) (old now : List Node) (at next : ℕ) → length now ≤ at → IsNumbered first old now at next → trees_of now ≡ numbered_all first (plans_of old)
all_numbered first old now at next le h =
    let past : drop at old ≡ [] = drop_all at old (omega (arith, h.size, le)) in
    sym (behind_all now) ∙ ap (λ ns. behind ns no_trees) (sym (take_all at now le))
    ∙ sym (ap (behind (take at now)) (ap (λ ns. numbered_all next (plans_of ns)) past ∙ numbered_none next)) ∙ h.trees

pub all_counted : (first : ℕ) (old now : List Node) (at next : ℕ) → length now ≤ at → IsNumbered first old now at next → next ≡ first + nodes (plans_of old)
all_counted first old now at next le h =
    let past : drop at old ≡ [] = drop_all at old (omega (arith, h.size, le)) in
    let none : nodes (plans_of (drop at old)) ≡ 0 = ap (λ ns. nodes (plans_of ns)) past ∙ plans_none in
    omega (arith, h.count, none)

-- ---- one node more

-- a node of the old ones, with those behind it
first_behind : (ns : List Node) (at : ℕ) (node : Node) → at < length ns → node ≡ get_or ns at node → drop at ns ≡ node ∷ drop (suc at) ns
first_behind [] at node lt e = absurd (omega (arith, lt))
first_behind (n ∷ ns) zero node lt e = ap (λ x. x ∷ ns) (sym e)
first_behind (n ∷ ns) (suc at) node lt e = first_behind ns at node (omega (arith, lt)) e

set_take : (ns : List Node) (at : ℕ) (node : Node) (ts : Trees) → at < length ns → behind (take (suc at) (set ns at node)) ts ≡ behind (take at ns) (tree (tree_of (record { id = node.id; place = node.place }) node.term) ts)
set_take [] at node ts lt = absurd (omega (arith, lt))
set_take (n ∷ ns) zero node ts lt = refl
set_take (n ∷ ns) (suc at) node ts lt = ap (tree (tree_of (record { id = n.id; place = n.place }) n.term)) (set_take ns at node ts (omega (arith, lt)))

set_drop : (ns : List Node) (at : ℕ) (node : Node) → drop (suc at) (set ns at node) ≡ drop (suc at) ns
set_drop [] at node = refl
set_drop (n ∷ ns) zero node = refl
set_drop (n ∷ ns) (suc at) node = set_drop ns at node

set_length : (ns : List Node) (at : ℕ) (node : Node) → length (set ns at node) ≡ length ns
set_length [] at node = refl
set_length (n ∷ ns) zero node = refl
set_length (n ∷ ns) (suc at) node = ap suc (set_length ns at node)

-- a node in the place of another, with its place and its plan
set_plans : (ns : List Node) (at : ℕ) (node made : Node) → at < length ns → node ≡ get_or ns at node → made.place ≡ node.place → plan_of made.term ≡ plan_of node.term → plans_of (set ns at made) ≡ plans_of ns
unfolding plans_of
set_plans [] at node made lt e p t = absurd (omega (arith, lt))
set_plans (n ∷ ns) zero node made lt e p t =
    ap (λ at. plan at (plan_of made.term) (plans_of ns)) (p ∙ ap (λ (x : Node). x.place) e) ∙ ap (λ one. plan n.place one (plans_of ns)) (t ∙ ap (λ (x : Node). plan_of x.term) e)
set_plans (n ∷ ns) (suc at) node made lt e p t = ap (plan n.place (plan_of n.term)) (set_plans ns at node made (omega (arith, lt)) e p t)

one_count : (node : Node) (ns : List Node) → nodes (plans_of (node ∷ ns)) ≡ suc (inside (plan_of node.term) + nodes (plans_of ns))
unfolding plans_of
one_count node ns = refl

one_numbered : (next : ℕ) (node : Node) (ns : List Node) → numbered_all next (plans_of (node ∷ ns)) ≡ tree (numbered (record { id = next; place = node.place }) (suc next) (plan_of node.term)) (numbered_all (suc (next + inside (plan_of node.term))) (plans_of ns))
unfolding plans_of numbered_all
one_numbered next node ns = refl

pub next_numbered : (first : ℕ) (old now : List Node) (at next behind_it : ℕ) (node made : Node) → at < length now → node ≡ get_or now at node → IsNumbered first old now at next
    → made.id ≡ next → made.place ≡ node.place → ((here : At) → tree_of here made.term ≡ numbered here (suc next) (plan_of node.term)) → behind_it ≡ suc next + inside (plan_of node.term) → plan_of made.term ≡ plan_of node.term
    → IsNumbered first old (set now at made) (suc at) behind_it
next_numbered first old now at next behind_it node made lt e h id place tree_is count plan_is =
    let rest : drop at old ≡ node ∷ drop (suc at) now = sym h.rest ∙ first_behind now at node lt e in
    let same : drop (suc at) now ≡ drop (suc at) old = later old at node (drop (suc at) now) rest in
    let old_rest : drop at old ≡ node ∷ drop (suc at) old = rest ∙ ap (λ ns. node ∷ ns) same in
    let number : suc (next + inside (plan_of node.term)) ≡ behind_it = omega (arith, count) in
    record {
      size = set_length now at made ∙ h.size;
      rest = set_drop now at made ∙ same;
      trees = set_take now at made (numbered_all behind_it (plans_of (drop (suc at) old))) lt
          ∙ ap (behind (take at now))
          (ap (λ t. tree t (numbered_all behind_it (plans_of (drop (suc at) old)))) (tree_is (record { id = made.id; place = made.place }) ∙ ap (λ i. numbered (record { id = i; place = made.place }) (suc next) (plan_of node.term)) id ∙ ap (λ p. numbered (record { id = next; place = p }) (suc next) (plan_of node.term)) place)
          ∙ ap (λ n. tree (numbered (record { id = next; place = node.place }) (suc next) (plan_of node.term)) (numbered_all n (plans_of (drop (suc at) old)))) (sym number)
          ∙ sym (one_numbered next node (drop (suc at) old)) ∙ ap (λ ns. numbered_all next (plans_of ns)) (sym old_rest))
          ∙ h.trees;
      count = let c : nodes (plans_of (drop at old)) ≡ suc (inside (plan_of node.term) + nodes (plans_of (drop (suc at) old))) = ap (λ ns. nodes (plans_of ns)) old_rest ∙ one_count node (drop (suc at) old) in omega (arith, c, count, h.count);
      plans = set_plans now at node made lt e place plan_is ∙ h.plans;
    }
  where
    later : (ns : List Node) (k : ℕ) (n : Node) (others : List Node) → drop k ns ≡ n ∷ others → others ≡ drop (suc k) ns
    later [] zero n others q = absurd cc
    later [] (suc k) n others q = absurd cc
    later (m ∷ ms) zero n others q = cc
    later (m ∷ ms) (suc k) n others q = later ms k n others q

-- ---- sizes

drop_fewer : (ns : List Node) (at : ℕ) → nodes (plans_of (drop at ns)) ≤ nodes (plans_of ns)
unfolding plans_of
drop_fewer [] zero = omega arith
drop_fewer [] (suc at) = omega arith
drop_fewer (n ∷ ns) zero = omega arith
drop_fewer (n ∷ ns) (suc at) = omega (arith, drop_fewer ns at)

-- a term has fewer nodes inside it than the nodes among which it stands
pub smaller : (old now : List Node) (at : ℕ) (node : Node) → at < length now → node ≡ get_or now at node → drop at now ≡ drop at old → inside (plan_of node.term) < nodes (plans_of old)
smaller old now at node lt e rest =
    let fewer = drop_fewer old at in
    let here : nodes (plans_of (drop at old)) ≡ suc (inside (plan_of node.term) + nodes (plans_of (drop (suc at) now))) = ap (λ ns. nodes (plans_of ns)) (sym rest ∙ first_behind now at node lt e) ∙ one_count node (drop (suc at) now) in
    omega (arith, fewer, here)

-- a node is numbered where it stands
pub node_numbered : (first : ℕ) (old now : List Node) (at next behind_it : ℕ) (node made : Node) → at < length now → node ≡ get_or now at node → IsNumbered first old now at next
    → made.id ≡ next → made.place ≡ (get_or now at node).place → ((here : At) → tree_of here made.term ≡ numbered here (suc next) (plan_of (get_or now at node).term)) → behind_it ≡ suc next + inside (plan_of (get_or now at node).term)
    → plan_of made.term ≡ plan_of (get_or now at node).term → IsNumbered first old (set now at made) (at + 1) behind_it
node_numbered first old now at next behind_it node made lt e h id place tree_is count plan_is =
    let one : at + 1 ≡ suc at = omega arith in
    subst (λ n. IsNumbered first old (set now at made) n behind_it) (sym one) (next_numbered first old now at next behind_it (get_or now at node) made lt (subst (λ n. n ≡ get_or now at n) e e) h id place tree_is count plan_is)

pub inside_smaller : (old now : List Node) (at : ℕ) (node : Node) → at < length now → node ≡ get_or now at node → drop at now ≡ drop at old → inside (plan_of (get_or now at node).term) < nodes (plans_of old)
inside_smaller old now at node lt e rest = smaller old now at (get_or now at node) lt (subst (λ n. n ≡ get_or now at n) e e) rest

-- what is behind the nodes is cut off
pub front_only : (xs ys : List Node) (n : ℕ) → n ≡ length xs → take n (xs ++ ys) ≡ xs
front_only [] ys n e = ap (λ n. take n ys) e ∙ none ys
  where
    none : (ys : List Node) → take 0 ys ≡ []
    none [] = refl
    none (y ∷ ys) = refl
front_only (x ∷ xs) ys zero e = absurd (omega (arith, e))
front_only (x ∷ xs) ys (suc n) e = ap (λ xs. x ∷ xs) (front_only xs ys n (omega (arith, e)))

-- ---- nodes whose terms are taken out of them

pub twice_set : (ns : List Node) (at : ℕ) (a b : Node) → set (set ns at a) at b ≡ set ns at b
twice_set [] at a b = refl
twice_set (n ∷ ns) zero a b = refl
twice_set (n ∷ ns) (suc at) a b = ap (λ xs. n ∷ xs) (twice_set ns at a b)

pub same_node : (ns : List Node) (at : ℕ) (a b : Node) → at < length ns → a ≡ get_or ns at a → b ≡ get_or ns at b → a ≡ b
same_node [] at a b lt ea eb = absurd (omega (arith, lt))
same_node (n ∷ ns) zero a b lt ea eb = ea ∙ sym eb
same_node (n ∷ ns) (suc at) a b lt ea eb = same_node ns at a b (omega (arith, lt)) ea eb

-- ---- the numbers that the nodes need

-- a node and the nodes inside it have their numbers among those of all nodes
pub needed : (first : ℕ) (old now : List Node) (at next : ℕ) (node : Node) → at < length now → node ≡ get_or now at node → IsNumbered first old now at next → suc next + inside (plan_of (get_or now at node).term) ≤ first + nodes (plans_of old)
needed first old now at next node lt e h =
    let here : nodes (plans_of (drop at old)) ≡ suc (inside (plan_of (get_or now at node).term) + nodes (plans_of (drop (suc at) now))) = ap (λ ns. nodes (plans_of ns)) (sym h.rest ∙ first_behind now at (get_or now at node) lt (subst (λ n. n ≡ get_or now at n) e e)) ∙ one_count (get_or now at node) (drop (suc at) now) in
    omega (arith, here, h.count)

pub where_none : {X : Type 0} (answer : Option X) (P : Type 0) → P → IfNone answer P
where_none None P p = p
where_none (Some x) P p = tt
