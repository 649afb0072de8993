use Rattle.std.proofs.Common.{◌≡◌, map, take}
use Rattle.name_checks.specs.Messages.{message_of}
use Rattle.name_checks.specs.Faults.{fault_as}
use Rattle.name_checks.proofs.fault.messages.Given as goal

abbrev pub invariant-loop-fault : goal.invariant-loop-fault
invariant-loop-fault l = l.out.items ≡ map (λ f. message_of (fault_as l.paths f)) (take l.fault-index l.faults)
