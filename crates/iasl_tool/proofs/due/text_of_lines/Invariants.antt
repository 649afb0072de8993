use Rattle.std.proofs.Common.{◌≡◌, ◌++◌, drop}
use Rattle.iasl_tool.specs.Due.{text_of_lines}
use Rattle.iasl_tool.proofs.due.text_of_lines.Given as goal

-- the text so far, and that of the lines that are left
abbrev pub invariant-loop-line : goal.invariant-loop-line
invariant-loop-line l = l.text.items ++ text_of_lines (drop l.line-index l.lines) ≡ text_of_lines l.lines
