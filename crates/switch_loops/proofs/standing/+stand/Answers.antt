use Rattle.std.proofs.Common.{◌≡◌, length, arith}
use Rattle.switch_loops.proofs.StandRows.{local_stands, call_stands, form_stands, other_stands, none_stands, none_stand, next_stands, all_stand}
use Rattle.switch_loops.proofs.standing.+stand.Goals as goal

pub stand_in-returns-in-Local : goal.stand_in-returns-in-Local
stand_in-returns-in-Local t c = local_stands c.args.found.now.named c.mark.new.self.named c.args.node.now c.in-Local.index c.in-Local.is c.mark.ensures

pub stand_in-returns-in-Call : goal.stand_in-returns-in-Call
stand_in-returns-in-Call t c = call_stands c.args.found.now.named c.stand_among.new.found.named c.args.node.now c.in-Call.path c.in-Call.args c.deref.result.now c.in-Call.is c.deref.ensures.value c.stand_among.ensures

pub stand_in-returns-in-Form : goal.stand_in-returns-in-Form
stand_in-returns-in-Form t c =
    form_stands c.args.found.now.named c.stand_among-in-Form.new.found.named c.stand_within.new.found.named c.args.node.now c.in-Form.op c.in-Form.args c.in-Form.body c.deref-in-Form.result.now c.deref-in-Form-2.result.now
    c.in-Form.is c.deref-in-Form.ensures.value c.deref-in-Form-2.ensures.value c.stand_among-in-Form.ensures c.stand_within.ensures

pub stand_in-returns-in_default : goal.stand_in-returns-in_default
stand_in-returns-in_default t c = other_stands c.args.found.now.named c.args.node.now c.in_default.not-Local c.in_default.not-Call c.in_default.not-Form

pub stand_within-returns-then-is_empty : goal.stand_within-returns-then-is_empty
stand_within-returns-then-is_empty t c =
    let none : length c.args.nodes.now ≡ 0 = grind (arith, c.is_empty.ensures, c.if-is_empty.true) in none_stands c.args.found.now.named c.args.nodes.now none

pub stand_among-loop-node-init : goal.stand_among-loop-node-init
stand_among-loop-node-init t c = none_stand c.args.found.now.named c.args.nodes.now

pub stand_among-loop-node-preserved : goal.stand_among-loop-node-preserved
stand_among-loop-node-preserved t c =
    next_stands c.args.found.now.named c.loop-node.found.named c.stand_in.new.found.named c.args.nodes.now c.loop-node.node-index c.node-item.result c.loop-node-test.true c.node-item.is c.stand_in.ensures c.loop-node.invariant

pub stand_among-returns : goal.stand_among-returns
stand_among-returns t c = all_stand c.args.found.now.named c.loop-node.found.named c.args.nodes.now c.loop-node.node-index c.loop-node-test.false c.loop-node.invariant
