use Rattle.std.proofs.Common.{◌≡◌, drop}
use Rattle.term_plans.specs.Plans.{plans_of}
use Rattle.field_checks.specs.Lists.{list_errors}
use Rattle.field_checks.proofs.check.list_errors.Given as goal

abbrev pub invariant-loop-node : goal.invariant-loop-node
invariant-loop-node l = record {
  same : l.out ≡ l.initial.out;
  list : list_errors l.at (plans_of (drop l.node-index l.body)) ≡ list_errors 0 (plans_of l.body);
}
