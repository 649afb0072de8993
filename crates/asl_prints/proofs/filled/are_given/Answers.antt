use Rattle.std.proofs.Common.{◌≡◌, true, false, sym, ◌∙◌, arith}
use Rattle.asl_prints.proofs.Leaving.{given_none, given_next, given_other}
use Rattle.asl_prints.proofs.filled.are_given.Goals as goal

pub loop-node-preserved : goal.loop-node-preserved
loop-node-preserved c =
    let yes : c.is_given.result ≡ true = grind (arith, c.if-not-is_given.false) in
    given_next c.args.nodes.now c.loop-node.node-index c.node-item.result c.loop-node-test.true c.node-item.is c.loop-node.invariant (c.is_given.ensures (record { id = c.node-item.result.id; place = c.node-item.result.place }) ∙ yes)

pub returns-then-not-is_given : goal.returns-then-not-is_given
returns-then-not-is_given c =
    let no : c.is_given.result ≡ false = grind (arith, c.if-not-is_given.true) in
    sym (given_other c.args.nodes.now c.loop-node.node-index c.node-item.result c.loop-node-test.true c.node-item.is (c.is_given.ensures (record { id = c.node-item.result.id; place = c.node-item.result.place }) ∙ no))

pub loop-node-init : goal.loop-node-init
loop-node-init c = given_none
