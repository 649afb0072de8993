use Rattle.std.proofs.Common.{length, ◌-◌, ◌≡◌, ◌≤◌, take}
use Rattle.iasl_ports.specs.Gained.{Gains}
use Rattle.iasl_ports.proofs.sink.write_all.Given as goal

abbrev pub invariant-loop-at : goal.invariant-loop-at
invariant-loop-at g l = record {
  inside : l.at ≤ length l.bytes;
  gained : Gains (g.C.Sink.told l.initial.sink) (g.C.Sink.told l.sink) (take l.at l.bytes);
  faults : g.C.Sink.faults l.sink ≡ g.C.Sink.faults l.initial.sink;
}

abbrev pub decreases-loop-at : goal.decreases-loop-at
decreases-loop-at g l = length l.bytes - l.at
