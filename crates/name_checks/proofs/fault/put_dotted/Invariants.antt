use Rattle.std.proofs.Common.{◌≡◌, ◌++◌, drop}
use Rattle.name_checks.specs.Messages.{dotted}
use Rattle.name_checks.proofs.fault.put_dotted.Given as goal

abbrev pub invariant-loop-seg : goal.invariant-loop-seg
invariant-loop-seg l = l.text.items ++ dotted (drop l.seg-index l.segs) ≡ l.initial.text.items ++ dotted l.segs
