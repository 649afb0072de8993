use Rattle.std.proofs.Common.{◌≡◌, drop}
use Rattle.data_text.specs.Kinds.{is_data_from, is_data_table}
use Rattle.data_text.proofs.kind.is_data_table.Given as goal

-- the lines so far are blank
abbrev pub invariant-loop-line : goal.invariant-loop-line
invariant-loop-line l = is_data_from l.mode (drop l.line-index l.lines) ≡ is_data_table l.lines
