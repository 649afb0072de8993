use Rattle.iasl_ports.proofs.ToldInPart.{told_in_part}
use Rattle.iasl_ports.proofs.delivery.tell.Goals as goal

pub returns-clause-some : goal.returns-clause-some
returns-clause-some g c = told_in_part c.args.text.now c.write_all.result c.write_all.ensures.all c.write_all.ensures.some
