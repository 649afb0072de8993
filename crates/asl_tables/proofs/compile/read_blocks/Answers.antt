use Rattle.std.proofs.Common.{reverse, ap, sym, subst, ◌∙◌}
use Rattle.asl_shape.specs.Forms.{alone, IsBlockOf}
use Rattle.asl_tables.specs.Reads.{IsReadOf}
use Rattle.asl_tables.proofs.Items.{none_read, some_left, next_block, one_read, all_read}
use Rattle.asl_tables.proofs.compile.read_blocks.Goals as goal

pub loop-raw-init : goal.loop-raw-init
loop-raw-init c = none_read c.args.raws.now c.args.blocks _ _ (c.reverse.ensures.items ∙ ap reverse c.into_vec-left.ensures) c.new-reads.ensures.items c.requires

pub read_block-requires : goal.read_block-requires
read_block-requires c =
    let l = c.loop-raw in
    subst (λ r. IsBlockOf (alone r) c.take_last-block.result) (sym c.raw-item.is)
    (next_block c.args.raws.now l.raw-index c.raw-item.result l.left.items c.take_last-block.new.blocks.items c.take_last-block.result c.loop-raw-test.true
    c.take_last-block.ensures l.invariant.rest).0

pub take_last-block-requires : goal.take_last-block-requires
take_last-block-requires c = some_left c.args.raws.now c.loop-raw.raw-index c.raw-item.result c.loop-raw.left.items c.loop-raw-test.true c.loop-raw.invariant.rest

pub loop-raw-preserved : goal.loop-raw-preserved
loop-raw-preserved c =
    let l = c.loop-raw in
    one_read c.args.raws.now l.raw-index c.raw-item.result l.left.items c.take_last-block.new.blocks.items c.take_last-block.result l.reads.items c.push.new.self.items c.in_ok-read.read c.loop-raw-test.true
    c.take_last-block.ensures
    c.in_ok-push.ensures.items (subst (λ r. IsReadOf r c.in_ok-read.read) c.raw-item.is c.in_ok-read.ensures) l.invariant

pub returns : goal.returns
returns c = all_read c.args.raws.now c.loop-raw.raw-index c.loop-raw.left.items c.loop-raw.reads.items c.loop-raw-test.false c.loop-raw.invariant
