use Rattle.std.proofs.Common.{◌+◌, sym, subst, ◌∙◌, refl, arith}
use Rattle.acpi_names.proofs.Trees.{node_smaller, form_smaller}
use Rattle.switch_loops.proofs.Findings.{FoundTo, terms_found, method_found, other_found, flat_found, found_next, found_all}
use Rattle.switch_loops.proofs.found.+find.Goals as goal

pub found_at-found_in-requires : goal.found_at-found_in-requires
found_at-found_in-requires t c = omega (arith, c.decreases, form_smaller c.args.node.now.term c.in-Form.op c.in-Form.args c.in-Form.body c.in-Form.args.items c.deref.result.now c.in-Form.is refl c.deref.ensures.value)

pub found_at-returns-in-Terms : goal.found_at-returns-in-Terms
found_at-returns-in-Terms t c = terms_found c.found_in.result c.args.node.now c.in-Form.op c.in-Form.args c.in-Form.body c.deref.result.now c.in-Form.is c.deref.ensures.value (sym c.braces_of.ensures ∙ c.in-Terms.is) c.found_in.ensures

pub found_at-returns-in-Method : goal.found_at-returns-in-Method
found_at-returns-in-Method t c = method_found c.args.node.now c.in-Form.op c.in-Form.args c.in-Form.body c.in-Form.is (sym c.braces_of.ensures ∙ c.in-Method.is)

pub found_at-returns-in-Other : goal.found_at-returns-in-Other
found_at-returns-in-Other t c = other_found c.args.node.now c.in-Form.op c.in-Form.args c.in-Form.body c.in-Form.is (sym c.braces_of.ensures ∙ c.in-Other.is)

pub found_at-returns-in_default : goal.found_at-returns-in_default
found_at-returns-in_default t c = flat_found c.args.node.now c.in_default.not-Form

pub found_in-found_at-requires : goal.found_in-found_at-requires
found_in-found_at-requires t c = omega (arith, c.decreases, node_smaller c.args.nodes.now c.loop-node.node-index c.node-item.result c.loop-node-test.true c.node-item.is)

pub found_in-loop-node-preserved : goal.found_in-loop-node-preserved
found_in-loop-node-preserved t c =
    subst (λ f. FoundTo f c.args.nodes.now (c.loop-node.node-index + 1)) (sym c.either-found.ensures)
    (found_next c.args.nodes.now c.loop-node.node-index c.node-item.result c.loop-node.found c.found_at.result c.loop-node-test.true c.node-item.is c.found_at.ensures c.loop-node.invariant)

pub found_in-returns : goal.found_in-returns
found_in-returns t c = found_all c.loop-node.found c.args.nodes.now c.loop-node.node-index c.loop-node-test.false c.loop-node.invariant
