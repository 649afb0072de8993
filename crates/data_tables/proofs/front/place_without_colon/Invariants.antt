use Rattle.std.proofs.Common.{◌≡◌, drop}
use Rattle.data_tables.specs.Headers.{without_colon}
use Rattle.data_tables.proofs.front.place_without_colon.Given as goal

abbrev pub invariant-loop-line : goal.invariant-loop-line
invariant-loop-line l = without_colon l.lines ≡ without_colon (drop l.line-index l.lines)
