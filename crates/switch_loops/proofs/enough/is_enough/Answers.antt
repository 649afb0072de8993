use Rattle.std.proofs.Common.{sym, ◌∙◌}
use Rattle.asl_tree.specs.View.{trees_of}
use Rattle.switch_loops.proofs.Marks.{enough_named}
use Rattle.switch_loops.proofs.StandRows.{enough_standing}
use Rattle.switch_loops.proofs.enough.is_enough.Goals as goal

pub returns-then-surely : goal.returns-then-surely
returns-then-surely c =
    sym (enough_standing (trees_of c.args.terms.now) c.measure_all-found.result c.standing_in.result.named c.left.result c.measure_all-found.ensures c.standing_in.ensures c.left.ensures (sym c.suffices-surely.ensures ∙ c.if-surely.true))

pub returns : goal.returns
returns c =
    c.suffices.ensures ∙ enough_named (trees_of c.args.terms.now) c.measure_all-found.result c.named_in.result.named c.left-2.result c.measure_all-found.ensures c.named_in.ensures c.left-2.ensures
