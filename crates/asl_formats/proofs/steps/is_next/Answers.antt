use Rattle.asl_formats.proofs.SteppedTerms.{next_is}
use Rattle.asl_formats.proofs.steps.is_next.Goals as goal

pub returns-in-Form : goal.returns-in-Form
returns-in-Form c at =
    next_is c.args.term.now c.in-Form.op c.in-Form.args c.in-Form.body c.deref.result.now c.deref-in-Form.result.now c.is_continue.result c.is_none.result c.is_none-in-Form.result c.all.result c.in-Form.is c.deref.ensures.value c.deref-in-Form.ensures.value
    c.is_continue.ensures c.is_none.ensures c.is_none-in-Form.ensures c.all.ensures at
