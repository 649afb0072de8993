use Rattle.std.proofs.Common.{sym, ap, ◌∙◌}
use Rattle.std.specs.Prelude.{is_some}
use Rattle.asl_meaning.specs.Declarations.{is_named}
use Rattle.name_checks.proofs.Finding.{declared_here}
use Rattle.name_checks.proofs.rules.is_declared.Goals as goal

pub returns-in-Some : goal.returns-in-Some
returns-in-Some g c =
    ap is_some (sym c.in-Some.is) ∙ declared_here c.args.facts.now.index.paths (is_named g.whole.all) c.args.facts.now.tables g.whole.calls g.whole.all c.args.number c.index.result.now c.len-count.ensures.distinct c.requires.1 c.requires.0.sized.kinds c.index.ensures c.requires.0.notes

pub returns-in-None : goal.returns-in-None
returns-in-None g c =
    ap is_some (sym c.in-None.is) ∙ declared_here c.args.facts.now.index.paths (is_named g.whole.all) c.args.facts.now.tables g.whole.calls g.whole.all c.args.number c.index.result.now c.len-count.ensures.distinct c.requires.1 c.requires.0.sized.kinds c.index.ensures c.requires.0.notes
