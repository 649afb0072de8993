use Rattle.switch_checks.specs.Repeats.{case_values}
use Rattle.switch_checks.specs.Values.{values_in}
use Rattle.switch_checks.proofs.Notes.{all_remain, next_noted, all_noted}
use Rattle.switch_checks.proofs.repeat.note_cases.Goals as goal

pub loop-node-init : goal.loop-node-init
loop-node-init c = all_remain (case_values c.args.width) c.args.nodes.now (values_in c.args.seen.now) c.args.out.now

pub loop-node-preserved : goal.loop-node-preserved
loop-node-preserved c =
    next_noted (case_values c.args.width) c.args.nodes.now c.loop-node.node-index c.node-item.result (values_in c.args.seen.now) (values_in c.loop-node.seen) (values_in c.note_case.new.seen) c.args.out.now c.loop-node.out c.note_case.new.out
    c.loop-node-test.true c.node-item.is c.loop-node.invariant c.in_ok-note_case.ensures

pub returns : goal.returns
returns c = all_noted (case_values c.args.width) c.args.nodes.now c.loop-node.node-index (values_in c.args.seen.now) (values_in c.loop-node.seen) c.args.out.now c.loop-node.out c.loop-node-test.false c.loop-node.invariant
