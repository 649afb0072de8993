use Rattle.std.proofs.Common.{◌≡◌, drop}
use Rattle.data_tables.specs.Outcomes.{told_with}
use Rattle.data_tables.proofs.walker.Walker.take_all.Given as goal

abbrev pub invariant-loop-line : goal.invariant-loop-line
invariant-loop-line l = told_with l.fn.self l.end l.lines ≡ told_with l.self l.end (drop l.line-index l.lines)
