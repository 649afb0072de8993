use Rattle.std.proofs.Common.{◌+◌, ◌*◌, ◌^◌, length, refl, arith}
use Rattle.aml_sizes.specs.Items.{written_term}
use Rattle.aml_sizes.proofs.FieldLists.{next_sizes, none_behind}
use Rattle.aml_sizes.proofs.item_sizes.items_size.Goals as goal

pub loop-node-preserved : goal.loop-node-preserved
loop-node-preserved c =
    let bound = c.behind_entry-bit.ensures.bound (2 ^ 67 + 2 ^ 28 * c.loop-node.node-index) (omega arith) c.loop-node.invariant.bound in
    let next = next_sizes c.args.nodes.now c.loop-node.node-index c.loop-node.bit c.behind_entry-bit.result c.node-item.result c.loop-node.size (length (written_term c.loop-node.bit c.node-item.result.term)) (omega arith) c.node-item.is refl c.behind_entry-bit.ensures.value in
    record {
      bound = omega (arith, bound);
      few = omega (arith, c.saturating_add-size.ensures);
      size = omega (arith, next, c.entry_size.ensures, c.saturating_add-size.ensures, c.loop-node.invariant.size);
    }

pub returns : goal.returns
returns c =
    let none = none_behind c.args.nodes.now c.loop-node.node-index c.loop-node.bit (omega arith) in
    omega (arith, none, c.loop-node.invariant.few, c.loop-node.invariant.size)
