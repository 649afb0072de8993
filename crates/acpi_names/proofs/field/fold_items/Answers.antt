use Rattle.std.proofs.Common.{[], get_or, refl, arith}
use Rattle.asl_tree.specs.View.{trees_of}
use Rattle.acpi_names.specs.Mentions.{item_mentions}
use Rattle.acpi_names.specs.Parts.{listed_items}
use Rattle.acpi_names.specs.Units.{entry_mentions}
use Rattle.acpi_names.specs.Walked.{node_tree}
use Rattle.acpi_names.proofs.Closed.{extends_then}
use Rattle.acpi_names.proofs.Telling.{remains_next, remains_none}
use Rattle.acpi_names.proofs.Units.{units_none, units_next, units_whole, mention_step}
use Rattle.acpi_names.proofs.field.fold_items.Goals as goal

pub loop-node-init : goal.loop-node-init
loop-node-init c = record {
  size = c.requires.all;
  others = record { longer = omega arith; same = λ n lt. refl };
  names = units_none c.args.index.now.paths c.args.index.now.named.items c.args.nodes.now (get_or c.args.index.now.paths c.args.scope []);
  told = λ paths. refl;
}

pub fold_item-requires-clause-scope_in : goal.fold_item-requires-clause-scope_in
fold_item-requires-clause-scope_in c = omega (arith, c.requires.scope_in, c.loop-node.invariant.others.longer)

pub fold_item-requires-clause-all : goal.fold_item-requires-clause-all
fold_item-requires-clause-all c = c.loop-node.invariant.size

pub loop-node-preserved : goal.loop-node-preserved
loop-node-preserved c =
    let now = c.in_ok-fold_item.ensures in record {
      size = now.size;
      others = extends_then c.args.index.now.paths c.loop-node.index.paths c.fold_item.new.index.paths c.loop-node.invariant.others now.others;
      names = units_next c.args.index.now.paths c.loop-node.index.paths c.fold_item.new.index.paths c.args.index.now.named.items c.loop-node.index.named.items c.fold_item.new.index.named.items c.args.nodes.now c.loop-node.node-index c.node-item.result
          (get_or c.args.index.now.paths c.args.scope []) (get_or c.loop-node.index.paths c.args.scope []) c.loop-node-test.true c.node-item.is
          (c.loop-node.invariant.others.same c.args.scope c.requires.scope_in) c.loop-node.invariant.names now.names;
      told = remains_next c.args.nodes.now c.loop-node.node-index c.node-item.result c.args.out.now.items c.loop-node.out.items c.fold_item.new.out.items (λ ps. entry_mentions (node_tree c.node-item.result) (get_or ps c.args.scope [])) (λ ps ts. item_mentions (listed_items ts) (get_or ps c.args.scope [])) (λ ps ts. item_mentions (listed_items ts) (get_or ps c.args.scope []))
          (λ ps. item_mentions (listed_items (trees_of c.args.nodes.now)) (get_or ps c.args.scope [])) c.loop-node-test.true c.node-item.is (λ ps ts. mention_step (node_tree c.node-item.result) ts (get_or ps c.args.scope [])) c.loop-node.invariant.told now.told;
    }

pub returns-clause-names : goal.returns-clause-names
returns-clause-names c =
    units_whole c.args.index.now.paths c.loop-node.index.paths c.args.index.now.named.items c.loop-node.index.named.items c.args.nodes.now c.loop-node.node-index (get_or c.args.index.now.paths c.args.scope []) c.loop-node-test.false c.loop-node.invariant.names

pub returns-clause-told : goal.returns-clause-told
returns-clause-told c =
    remains_none c.args.nodes.now c.loop-node.node-index c.args.out.now.items c.loop-node.out.items (λ ps ts. item_mentions (listed_items ts) (get_or ps c.args.scope [])) (λ ps. item_mentions (listed_items (trees_of c.args.nodes.now)) (get_or ps c.args.scope [])) c.loop-node-test.false (λ ps. refl) c.loop-node.invariant.told
