use Rattle.std.proofs.Common.{◌≡◌, ◌+◌, ◌++◌, ℕ, List, length, drop}
use Rattle.term_plans.specs.Plans.{plans_of}
use Rattle.asl_numbers.specs.Numbers.{nodes}
use Rattle.descriptor_fields.specs.Constants.{resolved_from, broken_from}
use Rattle.descriptor_fields.specs.Nodes.{SaysAt}
use Rattle.descriptor_fields.specs.Shown.{among_as}
use Rattle.descriptor_fields.proofs.Resolving.{made_of, told_of}
use Rattle.descriptor_fields.proofs.resolve.+resolve.Given as goal

abbrev pub invariant-resolve_nodes-loop-at : goal.invariant-resolve_nodes-loop-at
invariant-resolve_nodes-loop-at l = record {
  unvisited : goal.unvisited-resolve_nodes-loop-at l;
  end : l.at-end ≡ length l.initial.nodes.items;
  count : l.next + nodes (plans_of (drop l.at l.nodes.items)) ≡ l.fn.first + nodes (plans_of l.initial.nodes.items);
  made : (said : List (ℕ × ℕ)) → SaysAt l.fields said → made_of said (among_as l.among) l.bits l.nodes.items l.at l.next ≡ resolved_from said (among_as l.among) 0 l.bits l.fn.first (plans_of l.initial.nodes.items);
  told : (said : List (ℕ × ℕ)) → SaysAt l.fields said → told_of said (among_as l.among) l.bits l.faults.items l.nodes.items l.at l.next ≡ l.initial.faults.items ++ broken_from said (among_as l.among) 0 l.bits l.fn.first (plans_of l.initial.nodes.items);
}
