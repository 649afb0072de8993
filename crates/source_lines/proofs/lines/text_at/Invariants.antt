use Rattle.std.proofs.Common.{◌≡◌, drop}
use Rattle.source_lines.specs.Text.{line_text}
use Rattle.source_lines.proofs.lines.text_at.Given as goal

abbrev pub invariant-loop-line : goal.invariant-loop-line
invariant-loop-line l = line_text (drop l.line-index l.lines) l.place ≡ line_text l.lines l.place
