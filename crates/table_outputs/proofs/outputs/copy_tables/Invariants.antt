use Rattle.std.proofs.Common.{◌≡◌, map, take, drop}
use Rattle.iasl_ports.specs.Delivery.{name_and_bytes}
use Rattle.iasl_backends.specs.Each.{Each}
use Rattle.table_outputs.specs.Decision.{all_files, HaveKinds}
use Rattle.table_outputs.proofs.outputs.copy_tables.Given as goal

abbrev pub invariant-loop-table : goal.invariant-loop-table
invariant-loop-table g l = record {
  kept : Each (λ b b2. (goal.Backend-dyn g (b2.vtable, b2.value)).kind_of b2.value ≡ (goal.Backend-dyn g (b.vtable, b.value)).kind_of b.value) l.initial.backends.items l.backends.items;
  files : map name_and_bytes l.files.items ≡ all_files (take l.table-index l.tables);
  kinds : HaveKinds l.fn.kinds (drop l.table-index l.tables);
}
