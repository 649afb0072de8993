use Rattle.std.proofs.Common.{refl, ap, ◌∙◌, map}
use Rattle.std.proofs.lemmas.List.{take_all}
use Rattle.iasl_ports.specs.Delivery.{name_and_bytes}
use Rattle.iasl_backends.proofs.EachLaws.{each_same, each_then}
use Rattle.table_outputs.specs.Decision.{all_files, table_kinds}
use Rattle.table_outputs.proofs.KindLaws.{still_there}
use Rattle.table_outputs.proofs.OutputLaws.{next_kinds, next_files}
use Rattle.table_outputs.proofs.outputs.copy_tables.Goals as goal

pub loop-table-init : goal.loop-table-init
loop-table-init g c = record {
  kept = each_same c.args.backends.now.items (λ b. refl);
  files = ap (map name_and_bytes) c.new-files.ensures.items;
  kinds = c.requires.kinds;
}

pub copy_table-requires : goal.copy_table-requires
copy_table-requires g c =
    let next = next_kinds c.args.kinds c.args.tables.now c.loop-table.table-index c.table-item.result c.loop-table-test.true c.table-item.is c.loop-table.invariant.kinds in
    record { there = still_there (λ b. (goal.Backend-dyn g (b.vtable, b.value)).kind_of b.value) c.args.kinds (table_kinds c.table-item.result.names) c.args.backends.now.items c.loop-table.backends.items next.0 c.loop-table.invariant.kept c.requires.there }

pub loop-table-preserved : goal.loop-table-preserved
loop-table-preserved g c = record {
  kept = each_then (λ x y z p q. q ∙ p) c.loop-table.invariant.kept c.copy_table.ensures.kept;
  files = next_files name_and_bytes c.args.tables.now c.loop-table.table-index c.table-item.result c.loop-table.files.items c.copy_table.new.files.items c.loop-table-test.true c.table-item.is c.in_ok-copy_table.ensures.files c.loop-table.invariant.files;
  kinds = (next_kinds c.args.kinds c.args.tables.now c.loop-table.table-index c.table-item.result c.loop-table-test.true c.table-item.is c.loop-table.invariant.kinds).1;
}

pub returns-in_err-copy_table-clause-kept : goal.returns-in_err-copy_table-clause-kept
returns-in_err-copy_table-clause-kept g c = each_then (λ x y z p q. q ∙ p) c.loop-table.invariant.kept c.copy_table.ensures.kept

pub returns-clause-files : goal.returns-clause-files
returns-clause-files g c = c.loop-table.invariant.files ∙ ap all_files (take_all c.loop-table.table-index c.args.tables.now c.loop-table-test.false)

pub returns-clause-kept : goal.returns-clause-kept
returns-clause-kept g c = c.loop-table.invariant.kept
