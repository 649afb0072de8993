use Rattle.std.proofs.Common.{length}
use Rattle.asl_tree.specs.View.{trees_of}
use Rattle.hidden_locals.specs.Turns.{local, test_of}
use Rattle.switch_loops.specs.Given.{HaveValues}
use Rattle.switch_loops.proofs.Packs.{Joined}
use Rattle.switch_loops.proofs.made.members_test.Given as goal

abbrev pub invariant-loop-member : goal.invariant-loop-member
invariant-loop-member l = record { joined : HaveValues (trees_of l.fn.members.items) → Joined (local l.index) l.left.items l.test (test_of (local l.index) (trees_of l.fn.members.items)) }

abbrev pub decreases-loop-member : goal.decreases-loop-member
decreases-loop-member l = length l.left.items
