use Rattle.std.proofs.Common.{string_bytes}
use Rattle.table_outputs.proofs.OutputLaws.{next_names}
use Rattle.table_outputs.proofs.names.name_in_use.Goals as goal

pub loop-table-preserved : goal.loop-table-preserved
loop-table-preserved c =
    next_names (λ name. string_bytes name.now) c.args.tables.now c.loop-table.table-index c.table-item.result c.loop-table.names.items c.push_names.new.names.items c.loop-table-test.true c.table-item.is (c.in_ok-push_names.ensures c.table-item.result.pieces) c.loop-table.invariant
