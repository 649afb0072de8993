use Rattle.asl_formats.proofs.Standing.{form_stands}
use Rattle.asl_formats.proofs.stand.stand_of.Goals as goal

pub returns-in_ok-stand-in-Form : goal.returns-in_ok-stand-in-Form
returns-in_ok-stand-in-Form c =
    form_stands c.args.term.now c.in-Form.op c.in-Form.args c.in-Form.body c.deref.result.now c.deref-in-Form.result.now c.in_ok-stand-in-Form.stand c.in-Form.is c.deref.ensures.value c.deref-in-Form.ensures.value c.in_ok-stand-in-Form.ensures
