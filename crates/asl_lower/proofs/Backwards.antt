-- Nodes that stand backwards, and trees behind others.
use Rattle.std.proofs.Common.{◌≡◌, List, [], ◌∷◌, ◌++◌, reverse, refl, ap, ◌∙◌}
use Rattle.std.proofs.lemmas.List.{reverse-append}
use Rattle.asl_tree.specs.declared.term.Node.{Node}
use Rattle.asl_tree.specs.Tree.{Trees, no_trees, tree}
use Rattle.asl_tree.specs.View.{trees_of}
use Rattle.acpi_names.specs.Walked.{node_tree}
use Rattle.asl_lower.specs.Nests.{joined, backwards}

one_tree : (node : Node) (nodes : List Node) → trees_of (node ∷ nodes) ≡ tree (node_tree node) (trees_of nodes)
unfolding trees_of
one_tree node nodes = refl

pub last_first : (nodes : List Node) (node : Node) → backwards (nodes ++ node ∷ []) ≡ tree (node_tree node) (backwards nodes)
last_first nodes node = ap trees_of (reverse-append nodes (node ∷ [])) ∙ one_tree node (reverse nodes)

pub pushed : (old new : List Node) (node : Node) → new ≡ old ++ node ∷ [] → backwards new ≡ tree (node_tree node) (backwards old)
pushed old new node e = ap backwards e ∙ last_first old node

pub behind_all : (nodes : List Node) (node : Node) → trees_of (nodes ++ node ∷ []) ≡ joined (trees_of nodes) (tree (node_tree node) no_trees)
unfolding trees_of
behind_all [] node = refl
behind_all (n ∷ nodes) node = ap (tree (node_tree n)) (behind_all nodes node)

pub joined_none : (ts : Trees) → joined ts no_trees ≡ ts
joined_none no_trees = refl
joined_none (tree t ts) = ap (tree t) (joined_none ts)
