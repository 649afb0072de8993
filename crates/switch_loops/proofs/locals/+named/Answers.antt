use Rattle.std.proofs.Common.{sym, ap, ◌∙◌, arith}
use Rattle.asl_tree.specs.View.{trees_of}
use Rattle.asl_operators.specs.Letters.{letters_as}
use Rattle.acpi_values.specs.Operators.{row_of}
use Rattle.acpi_names.proofs.Trees.{node_smaller, call_smaller, form_smaller}
use Rattle.hidden_locals.specs.Locals.{locals_all}
use Rattle.switch_loops.specs.Reads.{marked_all, form_locals, is_constant, operand_locals}
use Rattle.switch_loops.proofs.LocalRows.{no_constants}
use Rattle.switch_loops.proofs.Marks.{list_next, list_end, operand_next, operand_end}
use Rattle.switch_loops.proofs.NamedNodes.{local_named, call_named, form_named, other_named, both_named}
use Rattle.switch_loops.proofs.locals.+named.Goals as goal

pub mark_all-mark_node-requires : goal.mark_all-mark_node-requires
mark_all-mark_node-requires t c = omega (arith, c.decreases, node_smaller c.args.nodes.now c.loop-node.node-index c.node-item.result c.loop-node-test.true c.node-item.is)

pub mark_variables-mark_operand-requires : goal.mark_variables-mark_operand-requires
mark_variables-mark_operand-requires t c = omega (arith, c.decreases, node_smaller c.args.nodes.now c.loop-index.index c.index-nodes-index.result c.loop-index-test.true c.index-nodes-index.is)

pub mark_node-mark_all-requires : goal.mark_node-mark_all-requires
mark_node-mark_all-requires t c = omega (arith, c.decreases, call_smaller c.args.node.now.term c.in-Call.path c.in-Call.args c.deref.result.now c.in-Call.is c.deref.ensures.value)

pub mark_node-mark_form-requires : goal.mark_node-mark_form-requires
mark_node-mark_form-requires t c =
    omega (arith, c.decreases, form_smaller c.args.node.now.term c.in-Form.op c.in-Form.args c.in-Form.body c.deref-in-Form.result.now c.deref-in-Form-2.result.now c.in-Form.is c.deref-in-Form.ensures.value c.deref-in-Form-2.ensures.value)

pub mark_all-loop-node-preserved : goal.mark_all-loop-node-preserved
mark_all-loop-node-preserved t c =
    list_next c.args.nodes.now c.loop-node.node-index c.node-item.result c.loop-node.found.named c.mark_node.new.found.named (marked_all c.args.found.now.named (locals_all (trees_of c.args.nodes.now))) c.loop-node-test.true c.node-item.is
    c.mark_node.ensures c.loop-node.invariant

pub mark_all-returns : goal.mark_all-returns
mark_all-returns t c = list_end c.args.nodes.now c.loop-node.node-index c.loop-node.found.named (marked_all c.args.found.now.named (locals_all (trees_of c.args.nodes.now))) c.loop-node-test.false c.loop-node.invariant

pub mark_variables-loop-index-preserved : goal.mark_variables-loop-index-preserved
mark_variables-loop-index-preserved t c =
    operand_next c.args.letters.now c.args.nodes.now c.loop-index.index c.index-nodes-index.result c.loop-index.found.named c.mark_operand.new.found.named _ (marked_all c.args.found.now.named (operand_locals (letters_as c.args.letters.now) (trees_of c.args.nodes.now))) c.loop-index-test.true c.index-nodes-index.is
    (ap is_constant c.letter_at.ensures) c.mark_operand.ensures c.loop-index.invariant

pub mark_variables-returns : goal.mark_variables-returns
mark_variables-returns t c =
    operand_end c.args.letters.now c.args.nodes.now c.loop-index.index c.loop-index.found.named (marked_all c.args.found.now.named (operand_locals (letters_as c.args.letters.now) (trees_of c.args.nodes.now))) c.loop-index-test.false c.loop-index.invariant

pub mark_operands-returns-else-has_constants : goal.mark_operands-returns-else-has_constants
mark_operands-returns-else-has_constants t c =
    c.mark_all.ensures ∙ ap (marked_all c.args.found.now.named) (sym (no_constants (row_of c.args.op).operands (trees_of c.args.args.now) (sym c.has_constants.ensures ∙ c.if-has_constants.false)))

pub mark_form-returns-in-Arguments : goal.mark_form-returns-in-Arguments
mark_form-returns-in-Arguments t c =
    c.mark_all.ensures ∙ ap (λ r. marked_all c.args.found.now.named (form_locals r (trees_of c.args.args.now) (trees_of c.args.body.now))) (sym c.in-Arguments.is ∙ c.reads_of.ensures)

pub mark_form-returns-in-All : goal.mark_form-returns-in-All
mark_form-returns-in-All t c =
    c.mark_all-in-All-2.ensures ∙ both_named c.args.found.now.named c.mark_all-in-All.new.found.named (trees_of c.args.args.now) (trees_of c.args.body.now) c.mark_all-in-All.ensures
    ∙ ap (λ r. marked_all c.args.found.now.named (form_locals r (trees_of c.args.args.now) (trees_of c.args.body.now))) (sym c.in-All.is ∙ c.reads_of.ensures)

pub mark_node-returns-in-Local : goal.mark_node-returns-in-Local
mark_node-returns-in-Local t c = c.mark.ensures ∙ local_named c.args.node.now c.in-Local.index c.args.found.now.named c.in-Local.is

pub mark_node-returns-in-Call : goal.mark_node-returns-in-Call
mark_node-returns-in-Call t c = call_named c.args.node.now c.in-Call.path c.in-Call.args c.deref.result.now c.args.found.now.named c.mark_all.new.found.named c.in-Call.is c.deref.ensures.value c.mark_all.ensures

pub mark_node-returns-in-Form : goal.mark_node-returns-in-Form
mark_node-returns-in-Form t c =
    form_named c.args.node.now c.in-Form.op c.in-Form.args c.in-Form.body c.deref-in-Form.result.now c.deref-in-Form-2.result.now c.args.found.now.named c.mark_form.new.found.named c.in-Form.is c.deref-in-Form.ensures.value c.deref-in-Form-2.ensures.value c.mark_form.ensures

pub mark_node-returns-in_default : goal.mark_node-returns-in_default
mark_node-returns-in_default t c = other_named c.args.node.now c.args.found.now.named c.in_default.not-Local c.in_default.not-Call c.in_default.not-Form
