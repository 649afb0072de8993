use Rattle.statement_checks.proofs.Terms.{plain_form}
use Rattle.statement_checks.proofs.check.is_statement.Goals as goal

pub returns-in_default : goal.returns-in_default
returns-in_default c e place args body around = plain_form c.args.op c.in_default.not-Declaration c.in_default.not-Control place args body around
