use Rattle.std.proofs.Common.{◌≡◌, ◌++◌, false, sym, ap, ◌∙◌, arith}
use Rattle.asl_tree.specs.View.{trees_of}
use Rattle.acpi_names.specs.Walked.{term_shape}
use Rattle.acpi_names.proofs.Trees.{node_smaller}
use Rattle.acpi_names.proofs.Folds.{at_of}
use Rattle.acpi_names.proofs.FoldTelling.{is_form_shape, not_formed}
use Rattle.name_entries.specs.Descriptors.{declared_descriptor, opened_descriptors, descriptors_among, part_descriptors}
use Rattle.name_entries.proofs.Flagging.{flags_same, flags_then, flags_as, flags_none, flags_next, flags_whole, shape_descriptors, plain_descriptors}
use Rattle.name_entries.proofs.descriptors.+flagged.Goals as goal

pub flag_among-flag_term-requires : goal.flag_among-flag_term-requires
flag_among-flag_term-requires t c = omega (arith, c.decreases, node_smaller c.args.nodes.now c.loop-node.node-index c.node-item.result c.loop-node-test.true c.node-item.is)

pub flag_among-loop-node-init : goal.flag_among-loop-node-init
flag_among-loop-node-init t c = flags_none c.args.flags.now.items c.args.nodes.now

pub flag_among-loop-node-preserved : goal.flag_among-loop-node-preserved
flag_among-loop-node-preserved t c =
    flags_next c.args.flags.now.items c.loop-node.flags.items c.flag_term.new.flags.items c.args.nodes.now c.loop-node.node-index c.node-item.result c.loop-node-test.true c.node-item.is c.loop-node.invariant c.in_ok-flag_term.ensures

pub flag_among-returns : goal.flag_among-returns
flag_among-returns t c = flags_whole c.args.flags.now.items c.loop-node.flags.items c.args.nodes.now c.loop-node.node-index (omega (arith, c.loop-node-test.false)) c.loop-node.invariant

pub flag_term-returns-in_ok-flag_form-in-Form : goal.flag_term-returns-in_ok-flag_form-in-Form
flag_term-returns-in_ok-flag_form-in-Form t c =
    flags_as c.args.flags.now.items c.flag_form.new.flags.items _ _ (shape_descriptors (at_of c.args.node.now) c.args.node.now.term c.in-Form.op (trees_of c.in-Form.args.now) (trees_of c.in-Form.body.now) c.in-Form.ensures.shape) c.in_ok-flag_form-in-Form.ensures

pub flag_term-returns-in_default : goal.flag_term-returns-in_default
flag_term-returns-in_default t c =
    let flat : is_form_shape (term_shape c.args.node.now.term) ≡ false = ap is_form_shape (sym c.shape_of.ensures.shape) ∙ not_formed c.shape_of.result c.in_default.not-Form in
    flags_as c.args.flags.now.items c.args.flags.now.items _ _ (plain_descriptors (at_of c.args.node.now) c.args.node.now.term flat) (flags_same c.args.flags.now.items)

pub flag_form-returns-in_ok-flag_among-in-Declares : goal.flag_form-returns-in_ok-flag_among-in-Declares
flag_form-returns-in_ok-flag_among-in-Declares t c =
    let args = trees_of c.args.args.now in
    let body = trees_of c.args.body.now in
    flags_as c.args.flags.now.items c.flag_among.new.flags.items _ _
    (ap (λ b. declared_descriptor args ++ opened_descriptors b body) (sym c.if-opens.true) ∙ ap (λ p. part_descriptors p args body) c.in-Declares.ensures)
    (flags_then c.args.flags.now.items c.flag_declared.new.flags.items c.flag_among.new.flags.items (declared_descriptor args) (descriptors_among body) c.in_ok-flag_declared-in-Declares.ensures c.in_ok-flag_among-in-Declares.ensures)
