use Rattle.std.proofs.Common.{◌≡◌, ◌<◌, ℕ, [], get_or, length}
use Rattle.std.specs.Prelude.{All}
use Rattle.name_kinds.specs.Ends.{AreMarked, IsMarked}
use Rattle.name_kinds.specs.declared.ends.WalkState.TheVariants as Mark
use Rattle.name_kinds.proofs.Following.{Behind, left}
use Rattle.name_kinds.proofs.ends.follow.Given as goal

abbrev pub ghost-behind : goal.ghost-behind
ghost-behind g a = g.whole

abbrev pub invariant-loop-walks : goal.invariant-loop-walks
invariant-loop-walks g l = record {
  inside : l.at < length l.paths;
  marked : AreMarked l.paths g.whole.known l.walks;
  chain : All (λ n. Behind g.whole.known (get_or l.paths l.at []) (get_or l.paths n [])) l.walks.chain.items;
  start : get_or l.walks.marks.items l.start Mark.New ≡ Mark.New → l.at ≡ l.start;
  others : (n : ℕ) → IsMarked l.initial.walks.marks.items n → IsMarked l.walks.marks.items n;
}

abbrev pub decreases-loop-walks : goal.decreases-loop-walks
decreases-loop-walks g l = left l.walks.marks.items
