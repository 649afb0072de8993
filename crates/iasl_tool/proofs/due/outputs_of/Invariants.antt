use Rattle.std.proofs.Common.{length}
use Rattle.iasl_options.specs.Shown.{asked_of}
use Rattle.iasl_tool.proofs.Outputs.{AreGathered}
use Rattle.iasl_tool.proofs.due.outputs_of.Given as goal

abbrev pub invariant-loop-table : goal.invariant-loop-table
invariant-loop-table l = AreGathered (asked_of l.options) l.options.file l.fn.tables l.left.items l.all

abbrev pub decreases-loop-table : goal.decreases-loop-table
decreases-loop-table l = length l.left.items
