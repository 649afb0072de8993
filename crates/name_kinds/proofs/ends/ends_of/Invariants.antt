use Rattle.std.proofs.Common.{◌≡◌, ◌<◌, ℕ, []}
use Rattle.name_kinds.specs.Ends.{AreMarked, IsMarked}
use Rattle.name_kinds.proofs.ends.ends_of.Given as goal

abbrev pub ghost-follow : goal.ghost-follow
ghost-follow g a = g.whole

abbrev pub invariant-loop-number : goal.invariant-loop-number
invariant-loop-number g l = record {
  marked : AreMarked l.paths g.whole.known l.walks;
  idle : l.walks.chain.items ≡ [];
  done : (n : ℕ) → n < l.number → IsMarked l.walks.marks.items n;
}
