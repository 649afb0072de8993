use Rattle.std.proofs.Common.{[], get_or, ap, ◌∙◌}
use Rattle.asl_meaning.specs.Declarations.{is_named}
use Rattle.asl_tree.specs.Names.{denoted}
use Rattle.descriptor_checks.proofs.Senses.{sense_named}
use Rattle.descriptor_checks.proofs.sense.sense_of.Goals as goal

pub returns-in-Some-entry : goal.returns-in-Some-entry
returns-in-Some-entry c d look agrees tabled =
    sense_named (is_named d) look c.args.name.now (get_or c.args.index.now.paths c.args.scope []) c.args.index.now.paths c.args.table.now c.in-Some.number _ c.len-count.ensures.distinct c.in-Some.ensures.within tabled
    (c.in-Some.ensures.path d agrees ∙ ap (denoted (is_named d) c.args.name.now) c.scope_in-scope.ensures.path) c.in-Some-entry.ensures

pub returns-in-None-entry : goal.returns-in-None-entry
returns-in-None-entry c d look agrees tabled =
    sense_named (is_named d) look c.args.name.now (get_or c.args.index.now.paths c.args.scope []) c.args.index.now.paths c.args.table.now c.in-Some.number _ c.len-count.ensures.distinct c.in-Some.ensures.within tabled
    (c.in-Some.ensures.path d agrees ∙ ap (denoted (is_named d) c.args.name.now) c.scope_in-scope.ensures.path) c.in-None-entry.ensures
