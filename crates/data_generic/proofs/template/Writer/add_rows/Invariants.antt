use Rattle.std.proofs.Common.{◌≡◌, ◌++◌, List, drop}
use Rattle.data_layout.specs.declared.row.Row.{Row}
use Rattle.data_generic.specs.Writing.{told}
use Rattle.data_generic.proofs.template.Writer.add_rows.Given as goal

abbrev pub invariant-loop-row : goal.invariant-loop-row
invariant-loop-row l = record {
  pieces : (more : List Row) → told l.fn.self (l.rows ++ more) ≡ told l.self (drop l.row-index l.rows ++ more);
  table : l.self.table ≡ l.fn.self.table;
}
