use Rattle.std.proofs.Common.{◌≡◌, ◌-◌, ◌≤◌, true, length}
use Rattle.asl_parser.specs.Calls.{may_go_on, Reads}
use Rattle.asl_syntax.specs.Marks.{marks}
use Rattle.asl_parser.proofs.calls.hold_arguments.Given as goal

abbrev pub invariant-loop-at : goal.invariant-loop-at
invariant-loop-at l = record { within : l.at ≤ length l.tokens; go : may_go_on l.read ≡ true; reads : Reads (marks 0 l.tokens) l.from l.at l.read l.fn.stack l.stack }

abbrev pub decreases-loop-at : goal.decreases-loop-at
decreases-loop-at l = length l.tokens - l.at
