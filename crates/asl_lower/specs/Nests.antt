-- Lists of terms that are put together, and nodes that stand backwards.
use Rattle.std.specs.Prelude.{reverse, List}
use Rattle.asl_tree.specs.Tree.{Trees, no_trees, tree}
use Rattle.asl_tree.specs.View.{trees_of}
use Rattle.asl_tree.specs.declared.term.Node.{Node}

-- some trees and others behind them
abbrev pub joined : Trees → Trees → Trees
joined no_trees us = us
joined (tree t ts) us = tree t (joined ts us)

-- the trees of nodes that stand backwards
abbrev pub backwards : List Node → Trees
backwards nodes = trees_of (reverse nodes)
