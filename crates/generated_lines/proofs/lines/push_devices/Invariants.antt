use Rattle.std.proofs.Common.{◌≡◌, ◌-◌, ◌++◌}
use Rattle.generated_lines.specs.Generated.{devices_from}
use Rattle.generated_lines.proofs.lines.push_devices.Given as goal

abbrev pub invariant-loop-number : goal.invariant-loop-number
invariant-loop-number l = l.list ++ devices_from l.number (l.count - l.number) ≡ l.initial.list ++ devices_from 0 l.count
