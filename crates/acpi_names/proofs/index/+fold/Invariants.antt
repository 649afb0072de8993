use Rattle.std.proofs.Common.{◌≡◌, ◌+◌, ◌*◌, [], length, get_or, take}
use Rattle.asl_tree.specs.View.{trees_of}
use Rattle.asl_meaning.specs.Declarations.{declare_all}
use Rattle.acpi_names.specs.Mentions.{block_mentions}
use Rattle.acpi_names.specs.Paths.{Extends}
use Rattle.acpi_names.specs.Parts.{Leads, nodes_size, term_size}
use Rattle.acpi_names.specs.Folding.{TellsIn}
use Rattle.acpi_names.proofs.index.+fold.Given as goal

abbrev pub invariant-fold-loop-node : goal.invariant-fold-loop-node
invariant-fold-loop-node l = record {
  size : length l.index.named.items ≡ length l.index.paths;
  others : Extends l.initial.index.paths l.index.paths;
  names : Leads l.initial.index.paths l.initial.index.named.items l.index.paths l.index.named.items (declare_all (trees_of (take l.node-index l.nodes)) (get_or l.initial.index.paths l.scope []));
  told : TellsIn l.initial.index.paths l.initial.index.named.items l.index.paths l.initial.out.items l.out.items (block_mentions (trees_of (take l.node-index l.nodes)) (get_or l.initial.index.paths l.scope []));
}

abbrev pub decreases-fold : goal.decreases-fold
decreases-fold l = 8 * (nodes_size l.nodes.now) + 1

abbrev pub decreases-fold_term : goal.decreases-fold_term
decreases-fold_term l = 8 * (term_size l.node.now.term)

abbrev pub decreases-fold_form : goal.decreases-fold_form
decreases-fold_form l = 8 * (nodes_size l.args.now + nodes_size l.body.now) + 5

abbrev pub decreases-fold_declared : goal.decreases-fold_declared
decreases-fold_declared l = 8 * (nodes_size l.body.now) + 3

abbrev pub decreases-fold_scope : goal.decreases-fold_scope
decreases-fold_scope l = 8 * (nodes_size l.body.now) + 3
