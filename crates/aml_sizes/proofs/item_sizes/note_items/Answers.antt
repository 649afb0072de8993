use Rattle.std.proofs.Common.{◌-◌, length, take, ap, arith}
use Rattle.std.proofs.lemmas.List.{take_all}
use Rattle.aml_sizes.specs.PackageLengths.{items_lengths}
use Rattle.aml_sizes.proofs.NotedLengths.{rest_begins, rest_next, rest_done, items_more, no_items}
use Rattle.aml_sizes.proofs.item_sizes.note_items.Goals as goal

pub loop-left-init : goal.loop-left-init
loop-left-init c = record {
  within = omega arith;
  lengths = rest_begins _ (items_lengths c.args.nodes.now) c.args.notes.now (ap items_lengths (take_all (length c.args.nodes.now) c.args.nodes.now (omega arith)));
}

pub loop-left-preserved : goal.loop-left-preserved
loop-left-preserved c =
    let ns = c.args.nodes.now in
    let i = c.loop-left.left - 1 in
    record {
      within = omega arith;
      lengths = rest_next (items_lengths (take i ns)) _ _ (items_lengths ns) c.loop-left.notes c.note_entry.new.notes c.args.notes.now (items_more ns i c.loop-left.left c.index-nodes-left.result (omega arith) (omega arith)) c.loop-left.invariant.lengths c.note_entry.ensures;
    }

pub returns : goal.returns
returns c = rest_done _ (items_lengths c.args.nodes.now) c.loop-left.notes c.args.notes.now (no_items c.args.nodes.now c.loop-left.left (omega arith)) c.loop-left.invariant.lengths
