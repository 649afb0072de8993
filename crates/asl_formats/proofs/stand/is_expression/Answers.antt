use Rattle.asl_formats.proofs.Standing.{expression_form}
use Rattle.asl_formats.proofs.stand.is_expression.Goals as goal

pub returns-in-Form : goal.returns-in-Form
returns-in-Form c =
    expression_form c.args.term.now c.in-Form.op c.in-Form.args c.in-Form.body c.deref.result.now c.deref-in-Form.result.now c.form_expresses.result c.in-Form.is c.deref.ensures.value c.deref-in-Form.ensures.value c.form_expresses.ensures
