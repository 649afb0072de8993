use Rattle.std.proofs.Common.{rules}
use Rattle.iasl_messages.specs.OrderLaws.{sorted_is}
use Rattle.iasl_messages.proofs.Sorting.{sorted_from_calls}
use Rattle.iasl_messages.proofs.order.sort.Goals as goal

pub returns-clause-ascending : goal.returns-clause-ascending
returns-clause-ascending c =
    let up = sorted_from_calls c.sort_by.new.self.items c.in_ok-sort_by.ensures.sorted (λ a r f' k. search rules) in
    search rules

pub returns-clause-exact : goal.returns-clause-exact
returns-clause-exact c =
    let up = sorted_from_calls c.sort_by.new.self.items c.in_ok-sort_by.ensures.sorted (λ a r f' k. search rules) in
    let e = sorted_is c.into_vec-items.result.items c.sort_by.new.self.items c.in_ok-sort_by.ensures.permutation up in
    cc
