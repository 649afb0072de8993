use Rattle.std.proofs.Common.{length}
use Rattle.iasl_tool.proofs.source.data_table_of.Goals as goal

pub returns-then-generic-clause-within : goal.returns-then-generic-clause-within
returns-then-generic-clause-within c = c.compile_generic.ensures.files (length c.args.lines.now.files) c.requires.main c.requires.files

pub returns-else-generic-clause-within : goal.returns-else-generic-clause-within
returns-else-generic-clause-within c = c.compile_data.ensures.files (length c.args.lines.now.files) c.requires.main c.requires.files
