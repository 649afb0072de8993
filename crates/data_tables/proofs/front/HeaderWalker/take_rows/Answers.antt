use Rattle.std.proofs.Common.{ap, ◌∙◌}
use Rattle.std.proofs.lemmas.Result.{on_ok_weaker}
use Rattle.data_tables.specs.Headers.{header_told}
use Rattle.data_tables.proofs.Headers.{missing_row, told_fault}
use Rattle.data_tables.proofs.front.HeaderWalker.take_rows.Goals as goal

pub returns-in_default : goal.returns-in_default
returns-in_default c =
    on_ok_weaker c.halt.result
    (λ faults. c.loop-row.invariant ∙ ap (header_told c.loop-row.self) (missing_row c.args.end c.args.rows.now c.loop-row.rest.now c.loop-row.row-index c.loop-row-test.true c.in_default.len_below) ∙ told_fault c.loop-row.self c.halt.new.self c.args.end faults c.halt.ensures.pieces c.halt.ensures.notes)
    c.halt.ensures.faults
