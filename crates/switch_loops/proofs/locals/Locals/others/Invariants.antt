use Rattle.std.proofs.Common.{◌≡◌, ◌++◌}
use Rattle.switch_loops.specs.Reads.{others_of}
use Rattle.switch_loops.proofs.Marks.{others_from}
use Rattle.switch_loops.proofs.locals.Locals.others.Given as goal

abbrev pub invariant-loop-index : goal.invariant-loop-index
invariant-loop-index l = l.free.items ++ others_from l.self.named l.index ≡ others_of l.self.named
