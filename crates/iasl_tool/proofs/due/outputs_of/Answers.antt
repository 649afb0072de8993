use Rattle.std.proofs.Common.{reverse, ap, ◌∙◌}
use Rattle.iasl_options.specs.Shown.{asked_of}
use Rattle.iasl_tool.proofs.Outputs.{none_gathered, next_own, one_gathered}
use Rattle.iasl_tool.proofs.due.outputs_of.Goals as goal

pub loop-table-init : goal.loop-table-init
loop-table-init c = none_gathered (asked_of c.args.options.now) c.args.options.now.file c.args.tables _ _ (c.reverse.ensures.items ∙ ap reverse c.into_vec-left.ensures) c.new.ensures.items c.new-2.ensures c.requires.own

pub push_table-requires-clause-own : goal.push_table-requires-clause-own
push_table-requires-clause-own c =
    (next_own (asked_of c.args.options.now) c.args.options.now.file c.args.tables c.loop-table.left.items c.pop.new.self.items c.in-Some.table c.loop-table.all c.in-Some.ensures.items c.loop-table.invariant).0

pub loop-table-preserved : goal.loop-table-preserved
loop-table-preserved c =
    one_gathered (asked_of c.args.options.now) c.args.options.now.file c.args.tables c.loop-table.left.items c.pop.new.self.items c.in-Some.table c.loop-table.all c.push_table.new.all c.in-Some.ensures.items c.in_ok-push_table.ensures c.loop-table.invariant
