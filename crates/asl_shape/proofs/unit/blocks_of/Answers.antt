use Rattle.asl_shape.proofs.Units.{none_read, one_read, all_read}
use Rattle.asl_shape.proofs.unit.blocks_of.Goals as goal

pub loop-raw-init : goal.loop-raw-init
loop-raw-init c = none_read c.args.raws.now c.args.faults.now.items c.new-blocks.result c.new-blocks.ensures

pub loop-raw-preserved : goal.loop-raw-preserved
loop-raw-preserved c =
    one_read c.args.raws.now c.loop-raw.raw-index c.raw-item.result c.args.faults.now.items c.loop-raw.faults.items c.add_item.new.faults.items c.loop-raw.blocks c.add_item.new.blocks c.loop-raw-test.true c.raw-item.is
    c.in_ok-add_item.ensures.faults c.in_ok-add_item.ensures.blocks c.loop-raw.invariant

pub returns-clause-faults : goal.returns-clause-faults
returns-clause-faults c = (all_read c.args.raws.now c.loop-raw.raw-index c.args.faults.now.items c.loop-raw.faults.items c.loop-raw.blocks c.loop-raw-test.false c.loop-raw.invariant).0

pub returns-clause-blocks : goal.returns-clause-blocks
returns-clause-blocks c = (all_read c.args.raws.now c.loop-raw.raw-index c.args.faults.now.items c.loop-raw.faults.items c.loop-raw.blocks c.loop-raw-test.false c.loop-raw.invariant).1
