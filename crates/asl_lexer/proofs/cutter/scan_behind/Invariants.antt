use Rattle.std.proofs.Common.{◌≡◌, ◌-◌, ◌++◌, List, length}
use Rattle.asl_lexer.specs.Scan.{MarkedByte, scan}
use Rattle.asl_lexer.specs.Runs.{AtBreak, marks_behind}
use Rattle.asl_lexer.proofs.cutter.scan_behind.Given as goal

abbrev pub invariant-loop-index : goal.invariant-loop-index
invariant-loop-index l = (rest : List MarkedByte) → AtBreak rest → scan (marks_behind l.line l.index ++ rest) l.mode l.tokens ≡ scan (marks_behind l.line l.from ++ rest) l.fn.mode l.initial.tokens

abbrev pub decreases-loop-index : goal.decreases-loop-index
decreases-loop-index l = length l.line.text - l.index
