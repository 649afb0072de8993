use Rattle.std.proofs.Common.{◌≡◌, drop}
use Rattle.data_layout.specs.Layout.{bytes_in}
use Rattle.data_layout.proofs.table.bytes_in.Given as goal

abbrev pub invariant-loop-size : goal.invariant-loop-size
invariant-loop-size l = bytes_in l.revision (drop l.size-index l.sizes) ≡ bytes_in l.revision l.sizes
