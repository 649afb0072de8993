use Rattle.iasl_tool.proofs.Made.{lines_have}
use Rattle.iasl_tool.proofs.source.compile_source.Goals as goal

pub returns-else-branch-clause-some : goal.returns-else-branch-clause-some
returns-else-branch-clause-some c = lines_have c.args.style c.args.lines.now.list c.compile.result c.compile.ensures.value
