use Rattle.std.proofs.Common.{sym, ◌∙◌, refl, arith}
use Rattle.acpi_names.proofs.Trees.{node_smaller, form_smaller}
use Rattle.switch_loops.proofs.Asked.{other_switches, here_switches, inside_switches, next_asked, asked_here, none_asked}
use Rattle.switch_loops.proofs.switched.+ask.Goals as goal

pub has_switch-switches-requires : goal.has_switch-switches-requires
has_switch-switches-requires t c = omega (arith, c.decreases, node_smaller c.args.nodes.now c.loop-node.node-index c.node-item.result c.loop-node-test.true c.node-item.is)

pub has_switch-loop-node-preserved : goal.has_switch-loop-node-preserved
has_switch-loop-node-preserved t c = next_asked c.args.nodes.now c.loop-node.node-index c.node-item.result c.loop-node-test.true c.node-item.is (sym c.switches.ensures ∙ c.if-switches.false) c.loop-node.invariant

pub has_switch-returns-then-switches : goal.has_switch-returns-then-switches
has_switch-returns-then-switches t c = asked_here c.args.nodes.now c.loop-node.node-index c.node-item.result c.loop-node-test.true c.node-item.is (sym c.switches.ensures ∙ c.if-switches.true) c.loop-node.invariant

pub has_switch-returns : goal.has_switch-returns
has_switch-returns t c = none_asked c.args.nodes.now c.loop-node.node-index c.loop-node-test.false c.loop-node.invariant

pub switches-returns-in_default : goal.switches-returns-in_default
switches-returns-in_default t c = other_switches c.args.node.now.term c.in_default.not-Form

pub switches-has_switch-requires : goal.switches-has_switch-requires
switches-has_switch-requires t c = omega (arith, c.decreases, form_smaller c.args.node.now.term c.in-Form.op c.in-Form.args c.in-Form.body c.in-Form.args.items c.deref.result.now c.in-Form.is refl c.deref.ensures.value)

pub switches-returns-then-is_switch : goal.switches-returns-then-is_switch
switches-returns-then-is_switch t c =
    c.if-is_switch.true ∙ here_switches c.args.node.now.term c.in-Form.op c.in-Form.args c.in-Form.body c.in-Form.is (sym c.is_switch.ensures ∙ c.if-is_switch.true)

pub switches-returns-else-is_switch : goal.switches-returns-else-is_switch
switches-returns-else-is_switch t c =
    c.has_switch.ensures ∙ inside_switches c.args.node.now.term c.in-Form.op c.in-Form.args c.in-Form.body c.deref.result.now c.in-Form.is c.deref.ensures.value (sym c.is_switch.ensures ∙ c.if-is_switch.false)
