use Rattle.std.proofs.Common.{sym, ◌∙◌}
use Rattle.switch_loops.proofs.Keeping.{form_keeps, flat_keeps}
use Rattle.switch_loops.proofs.kept.keeps.Goals as goal

pub returns-in-Form : goal.returns-in-Form
returns-in-Form c e = form_keeps c.args.inside c.args.term.now c.in-Form.op c.in-Form.args c.in-Form.body c.in-Form.is (sym c.keeps_op.ensures ∙ e)

pub returns-in_default : goal.returns-in_default
returns-in_default c e = flat_keeps c.args.inside c.args.term.now c.in_default.not-Form
