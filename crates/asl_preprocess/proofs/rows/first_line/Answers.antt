use Rattle.asl_preprocess.proofs.Cuts.{plain_line, plain_line_asks_nothing}
use Rattle.asl_preprocess.proofs.rows.first_line.Goals as goal

pub returns-in-Some-clause-closed : goal.returns-in-Some-clause-closed
returns-in-Some-clause-closed c = λ is. plain_line c.in-Some.place c.args.text.now c.cut_at.result.0.now c.in-Some.ensures.plain c.cut_at.ensures.line

pub returns-in-Some-clause-asks_nothing : goal.returns-in-Some-clause-asks_nothing
returns-in-Some-clause-asks_nothing c = λ is. plain_line_asks_nothing c.in-Some.place c.args.text.now c.cut_at.result.0.now c.in-Some.ensures.plain c.cut_at.ensures.line
