use Rattle.std.proofs.Common.{◌≡◌, map, take, string_bytes}
use Rattle.table_outputs.specs.Decision.{all_files}
use Rattle.table_outputs.proofs.names.name_in_use.Given as goal

abbrev pub invariant-loop-table : goal.invariant-loop-table
invariant-loop-table l = map (λ name. string_bytes name.now) l.names.items ≡ map (λ file. file.0) (all_files (take l.table-index l.tables))
