use Rattle.switch_loops.proofs.MadeRows.{operator_placed}
use Rattle.switch_loops.proofs.made.operator.Goals as goal

pub returns-clause-places : goal.returns-clause-places
returns-clause-places c = operator_placed c.args.origin.place c.args.op c.push-2.new.self c.new.result
