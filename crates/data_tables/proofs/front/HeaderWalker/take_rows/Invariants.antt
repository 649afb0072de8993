use Rattle.std.proofs.Common.{◌≡◌, drop}
use Rattle.data_tables.specs.Headers.{header_told, rows_walk}
use Rattle.data_tables.proofs.front.HeaderWalker.take_rows.Given as goal

abbrev pub invariant-loop-row : goal.invariant-loop-row
invariant-loop-row l = header_told l.fn.self (rows_walk l.end l.rows l.lines) ≡ header_told l.self (rows_walk l.end (drop l.row-index l.rows) l.rest)
