use Rattle.iasl_options.specs.Shown.{asked_of}
use Rattle.iasl_tool.proofs.Made.{some_put}
use Rattle.iasl_tool.proofs.due.make_tables.Goals as goal

pub decide_made-requires : goal.decide_made-requires
decide_made-requires c = some_put (asked_of c.args.options.now) c.args.options.now.file c.args.tables c.in_ok-lines.field-0.tables c.requires.some c.in_ok-lines.ensures.files

pub returns-clause-decided : goal.returns-clause-decided
returns-clause-decided c = c.decide_made.ensures.decided (asked_of c.args.options.now) c.requires.compiles c.in_ok-lines.ensures.kinds
