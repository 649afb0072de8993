use Rattle.std.proofs.Common.{◌≡◌, [], length, get_or, take, drop}
use Rattle.asl_tree.specs.View.{trees_of}
use Rattle.asl_meaning.specs.Declarations.{declare_items}
use Rattle.acpi_names.specs.Mentions.{item_mentions}
use Rattle.acpi_names.specs.Paths.{Extends}
use Rattle.acpi_names.specs.Parts.{Leads, listed_items}
use Rattle.acpi_names.proofs.Telling.{Remains}
use Rattle.acpi_names.proofs.field.fold_items.Given as goal

abbrev pub invariant-loop-node : goal.invariant-loop-node
invariant-loop-node l = record {
  size : length l.index.named.items ≡ length l.index.paths;
  others : Extends l.initial.index.paths l.index.paths;
  names : Leads l.initial.index.paths l.initial.index.named.items l.index.paths l.index.named.items (declare_items (listed_items (trees_of (take l.node-index l.nodes))) (get_or l.initial.index.paths l.scope []));
  told : Remains l.initial.out.items l.out.items (λ paths. item_mentions (listed_items (trees_of (drop l.node-index l.nodes))) (get_or paths l.scope [])) (λ paths. item_mentions (listed_items (trees_of l.nodes)) (get_or paths l.scope []));
}
