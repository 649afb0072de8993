use Rattle.std.proofs.Common.{◌≡◌, drop}
use Rattle.asl_lexer.specs.Scan.{scan}
use Rattle.asl_lexer.specs.Marks.{following}
use Rattle.asl_lexer.proofs.cutter.next_lines.Given as goal

abbrev pub invariant-loop-line : goal.invariant-loop-line
invariant-loop-line l = scan (following (drop l.line-index l.lines)) l.mode l.tokens ≡ scan (following l.lines) l.initial.mode l.initial.tokens
