use Rattle.std.proofs.Common.{ap, sym, ◌∙◌}
use Rattle.asl_tree.specs.View.{trees_of}
use Rattle.acpi_names.specs.Walked.{value_form_of}
use Rattle.hidden_locals.specs.Turns.{local}
use Rattle.switch_loops.proofs.Packs.{package_tested, value_tested, flat_tested}
use Rattle.switch_loops.proofs.made.case_test.Goals as goal

pub returns-in_ok-made-in-Package : goal.returns-in_ok-made-in-Package
returns-in_ok-made-in-Package c =
    package_tested (local c.args.index) (record { id = c.args.value.id; place = c.args.value.place }) c.args.value.term c.in-Form.op c.in-Form.args c.in-Form.body (_) c.in-Form.is
    (c.in-Package.ensures ∙ ap (λ ns. value_form_of c.in-Form.op (trees_of ns) (trees_of c.deref-in-Form.result.now)) c.deref.ensures.value ∙ ap (λ ns. value_form_of c.in-Form.op (trees_of c.in-Form.args.items) (trees_of ns)) c.deref-in-Form.ensures.value)
    c.in_ok-made-in-Package.ensures

pub returns-in_ok-made-in_default-value_form_for : goal.returns-in_ok-made-in_default-value_form_for
returns-in_ok-made-in_default-value_form_for c =
    value_tested (local c.args.index) (record { id = c.args.value.id; place = c.args.value.place }) c.args.value.term c.in-Form.op c.in-Form.args c.in-Form.body (_) c.in-Form.is
    (λ e. c.in_default-value_form_for.not-Package (c.value_form_for.ensures ∙ ap (λ ns. value_form_of c.in-Form.op (trees_of ns) (trees_of c.deref-in-Form.result.now)) c.deref.ensures.value ∙ ap (λ ns. value_form_of c.in-Form.op (trees_of c.in-Form.args.items) (trees_of ns)) c.deref-in-Form.ensures.value ∙ sym e))
    c.in_ok-made-in_default-value_form_for.ensures

pub returns-in_ok-made-in_default : goal.returns-in_ok-made-in_default
returns-in_ok-made-in_default c =
    flat_tested (local c.args.index) (record { id = c.args.value.id; place = c.args.value.place }) c.args.value.term (_) c.in_default.not-Form c.in_ok-made-in_default.ensures
