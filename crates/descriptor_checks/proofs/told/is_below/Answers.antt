use Rattle.std.proofs.Common.{sym, ap, ◌∙◌, arith}
use Rattle.std.specs.Prelude.{is_some}
use Rattle.descriptor_checks.specs.Told.{is_below}
use Rattle.descriptor_checks.proofs.Telling.{described_at}
use Rattle.descriptor_checks.proofs.told.is_below.Goals as goal

pub returns-in-Some : goal.returns-in-Some
returns-in-Some c look tabled =
    let below = c.in-Some.ensures.below in
    c.is_some.ensures ∙ ap is_some (c.entry.ensures ∙ described_at c.args.index.now.paths c.args.table.now look c.in-Some.step.0 c.len-count.ensures.distinct (omega (arith, below.0, c.requires.within)) tabled) ∙ ap (is_below look) (sym below.1)
