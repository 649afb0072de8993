use Rattle.std.proofs.Common.{◌≡◌, map, take}
use Rattle.iasl_ports.specs.Gained.{Gains}
use Rattle.iasl_ports.specs.Delivery.{name_and_bytes}
use Rattle.iasl_runs.proofs.deliver.put_all.Given as goal

abbrev pub invariant-loop-file : goal.invariant-loop-file
invariant-loop-file g l = record {
  gained : Gains (g.O.Outputs.written l.initial.outs) (g.O.Outputs.written l.outs) (take l.file-index (map name_and_bytes l.files));
  faults : g.O.Outputs.faults l.outs ≡ g.O.Outputs.faults l.initial.outs;
}
