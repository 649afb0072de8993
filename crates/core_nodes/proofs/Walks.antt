-- What is counted of nodes one after another.
use Rattle.std.proofs.Common.{◌≡◌, ℕ, zero, suc, ◌+◌, ◌<◌, ◌≤◌, min, List, [], ◌∷◌, length, get_or, drop, refl, sym, ap, ◌∙◌, subst, arith}
use Rattle.asl_tree.specs.declared.term.Node.{Node}
use Rattle.asl_tree.specs.Tree.{Tree, Trees, no_trees, tree}
use Rattle.asl_tree.specs.View.{trees_of}
use Rattle.acpi_names.specs.Walked.{node_tree}
use Rattle.acpi_names.proofs.Telling.{trees_at, no_more}
use Rattle.core_nodes.specs.Whole.{IsWhole, AreWhole}

-- a node of some, and those behind it
node_at : (ns : List Node) (i : ℕ) (node : Node) → i < length ns → node ≡ get_or ns i node → trees_of (drop i ns) ≡ tree (node_tree node) (trees_of (drop (suc i) ns))
node_at ns i node lt e = trees_at ns i node lt ∙ ap (λ (n : Node). tree (node_tree n) (trees_of (drop (suc i) ns))) (sym e)

all_left : (ns : List Node) → trees_of (drop 0 ns) ≡ trees_of ns
all_left [] = refl
all_left (n ∷ ns) = refl

some_whole : (ns : List Node) (i : ℕ) → AreWhole (trees_of ns) → AreWhole (trees_of (drop i ns))
unfolding trees_of
some_whole ns zero w = subst AreWhole (sym (all_left ns)) w
some_whole [] (suc i) w = w
some_whole (n ∷ ns) (suc i) w = some_whole ns i w.1

-- a node of some that are whole
pub whole_at : (ns : List Node) (i : ℕ) (node : Node) → i < length ns → node ≡ get_or ns i node → AreWhole (trees_of ns) → IsWhole (node_tree node)
whole_at ns i node lt e w =
    let both = subst AreWhole (node_at ns i node lt e) (some_whole ns i w) in
    both.0

-- ---- sums up to a limit

pub capped_both : (limit a b : ℕ) → min (min a limit + min b limit) limit ≡ min (a + b) limit
capped_both limit a b = omega arith

-- two counts together
pub both_counted : (limit a b m n sum whole : ℕ) → a ≡ min m limit → b ≡ min n limit → sum ≡ min (a + b) limit → whole ≡ m + n → sum ≡ min whole limit
both_counted limit a b m n sum whole e f s w =
    s ∙ ap (λ k. min (k + b) limit) e ∙ ap (λ k. min (min m limit + k) limit) f ∙ capped_both limit m n ∙ ap (λ k. min k limit) (sym w)

module _ (limit : ℕ) (f : Trees → ℕ) (g : Tree → ℕ) where
  -- so many are counted, the limit where there are more, and those from a node on are not yet
  pub record Counted (ns : List Node) (at count : ℕ) : Type 0 where
    pub within : count ≤ limit
    pub left : min (count + f (trees_of (drop at ns))) limit ≡ min (f (trees_of ns)) limit

  pub none_yet : (ns : List Node) → Counted ns 0 0
  none_yet ns =
      let all : f (trees_of (drop 0 ns)) ≡ f (trees_of ns) = ap f (all_left ns) in
      record { within = omega arith; left = omega (arith, all) }

  pub one_more : ((t : Tree) (ts : Trees) → f (tree t ts) ≡ g t + f ts) → (ns : List Node) (i count one behind : ℕ) (node : Node) → i < length ns → node ≡ get_or ns i node → Counted ns i count
      → one ≡ min (g (node_tree node)) limit → behind ≡ min (count + one) limit → Counted ns (i + 1) behind
  one_more adds ns i count one behind node lt e before o is =
      let more : i + 1 ≡ suc i = omega arith in
      let here = ap f (node_at ns i node lt e) ∙ adds (node_tree node) (trees_of (drop (suc i) ns)) in
      let later : f (trees_of (drop (i + 1) ns)) ≡ f (trees_of (drop (suc i) ns)) = ap (λ k. f (trees_of (drop k ns))) more in
      let left = before.left in
      record { within = omega (arith, is); left = omega (arith, here, later, left, o, is) }

  pub all_done : f no_trees ≡ 0 → (ns : List Node) (i count : ℕ) → length ns ≤ i → Counted ns i count → count ≡ min (f (trees_of ns)) limit
  all_done none ns i count le before =
      let past : f (trees_of (drop i ns)) ≡ 0 = ap f (no_more ns i le) ∙ none in
      let left = before.left in
      let within = before.within in
      omega (arith, past, left, within)

-- ---- the first one among nodes of which something is found

module _ (limit : ℕ) (f : Trees → ℕ) (ns : List Node) where
  -- what those from a node on have is what all have
  abbrev Found : ℕ → Type 0
  Found at = min (f (trees_of (drop at ns))) limit ≡ min (f (trees_of ns)) limit

  pub none_found : Found 0
  none_found = ap (λ (ts : Trees). min (f ts) limit) (all_left ns)

  pub not_found : (i : ℕ) (node : Node) → i < length ns → node ≡ get_or ns i node → Found i → ((ts : Trees) → min (f ts) limit ≡ min (f (tree (node_tree node) ts)) limit) → Found (i + 1)
  not_found i node lt e before is =
      let more : i + 1 ≡ suc i = omega arith in
      ap (λ k. min (f (trees_of (drop k ns))) limit) more ∙ is (trees_of (drop (suc i) ns)) ∙ sym (ap (λ (ts : Trees). min (f ts) limit) (node_at ns i node lt e)) ∙ before

  pub first_found : (i weight : ℕ) (node : Node) → i < length ns → node ≡ get_or ns i node → Found i → ((ts : Trees) → weight ≡ min (f (tree (node_tree node) ts)) limit) → weight ≡ min (f (trees_of ns)) limit
  first_found i weight node lt e before is = is (trees_of (drop (suc i) ns)) ∙ sym (ap (λ (ts : Trees). min (f ts) limit) (node_at ns i node lt e)) ∙ before

  pub never_found : f no_trees ≡ 0 → (i : ℕ) → length ns ≤ i → Found i → 0 ≡ min (f (trees_of ns)) limit
  never_found none i le before =
      let past : f (trees_of (drop i ns)) ≡ 0 = ap f (no_more ns i le) ∙ none in
      omega (arith, past, before)
