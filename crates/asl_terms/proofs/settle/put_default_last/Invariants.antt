use Rattle.std.proofs.Common.{◌≡◌, take, drop}
use Rattle.asl_terms.specs.Terms.{default_last}
use Rattle.term_plans.specs.Plans.{plans_of, join}
use Rattle.asl_terms.proofs.settle.put_default_last.Given as goal

abbrev pub invariant-loop-at : goal.invariant-loop-at
invariant-loop-at l = join (plans_of (take l.at l.nodes.items)) (default_last (plans_of (drop l.at l.nodes.items))) ≡ default_last (plans_of l.fn.nodes.items)
