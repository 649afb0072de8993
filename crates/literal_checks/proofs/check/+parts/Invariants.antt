use Rattle.std.proofs.Common.{◌≡◌, ◌+◌, ◌*◌, ◌++◌, drop}
use Rattle.asl_syntax.specs.Sizes.{size_at, sizes_at, size_in_at}
use Rattle.literal_checks.specs.Literals.{told_in_at}
use Rattle.literal_checks.proofs.check.+parts.Given as goal

abbrev pub decreases-part : goal.decreases-part
decreases-part l = 4 * size_at l.raw.now + 1

abbrev pub decreases-unless_wide : goal.decreases-unless_wide
decreases-unless_wide l = 4 * size_at l.raw.now + 2

abbrev pub decreases-parts : goal.decreases-parts
decreases-parts l = 4 * sizes_at l.raws.now + 3

abbrev pub decreases-item : goal.decreases-item
decreases-item l = 4 * (size_in_at l.args.now + size_in_at l.body.now) + 4

abbrev pub invariant-parts-loop-i : goal.invariant-parts-loop-i
invariant-parts-loop-i l = l.out.items ++ told_in_at (drop l.i l.parameters) (drop l.i l.raws) ≡ l.fn.out.items ++ told_in_at l.fn.parameters l.fn.raws
