use Rattle.std.proofs.Common.{◌≡◌, true, false, sym, ◌∙◌, arith}
use Rattle.asl_prints.proofs.Leaving.{integers_none, integers_next, integers_other}
use Rattle.asl_prints.proofs.leave.are_numbers.Goals as goal

pub loop-node-preserved : goal.loop-node-preserved
loop-node-preserved c =
    let yes : c.is_number.result ≡ true = grind (arith, c.if-not-is_number.false) in
    integers_next c.args.nodes.now c.loop-node.node-index c.node-item.result c.loop-node-test.true c.node-item.is c.loop-node.invariant (c.is_number.ensures (record { id = c.node-item.result.id; place = c.node-item.result.place }) ∙ yes)

pub returns-then-not-is_number : goal.returns-then-not-is_number
returns-then-not-is_number c =
    let no : c.is_number.result ≡ false = grind (arith, c.if-not-is_number.true) in
    sym (integers_other c.args.nodes.now c.loop-node.node-index c.node-item.result c.loop-node-test.true c.node-item.is (c.is_number.ensures (record { id = c.node-item.result.id; place = c.node-item.result.place }) ∙ no))

pub loop-node-init : goal.loop-node-init
loop-node-init c = integers_none
