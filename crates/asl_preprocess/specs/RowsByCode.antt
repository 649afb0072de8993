-- What the code's reader of rows has left.
use Rattle.std.specs.Prelude.{ℕ, ◌+◌, false, List, ◌++◌, length}
use Rattle.std.specs.Option.{option_to_list}
use Rattle.asl_preprocess.specs.declared.rows.Rows.{Rows}
use Rattle.asl_preprocess.specs.declared.rows.Row.{Row as RowOfCode}
use Rattle.asl_preprocess.specs.declared.rows.Row.TheVariants as by
use Rattle.asl_preprocess.specs.Rows.{Row, Directive, Ordinary, Between, file_lines, rows_from, turn_within}

abbrev pub row_by : RowOfCode → Row
row_by (by.Directive line text) = Directive line text.items
row_by (by.Ordinary line in_comment text) = Ordinary line in_comment text.whole.now

abbrev pub lines_left : Rows → ℕ
lines_left rows = length (file_lines rows.rest.now)

abbrev pub rows_left : Rows → List Row
rows_left rows = rows_from rows.enabled (Between rows.in_comment) (rows.number + 1) (file_lines rows.rest.now)

-- the same behind a directive
abbrev pub rows_behind : Rows → List Row
rows_behind rows = rows_from rows.enabled (Between false) (rows.number + 1) (file_lines rows.rest.now)

-- the rows where a directive's text so far is this
abbrev pub joined_rows : Rows → ℕ → List ℕ → List Row
joined_rows rows start text =
    option_to_list (turn_within start text).0 ++ rows_from rows.enabled (turn_within start text).1 (rows.number + 1)
    (file_lines rows.rest.now)
