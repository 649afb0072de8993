use Rattle.std.proofs.Common.{sym, ◌∙◌, subst}
use Rattle.asl_lexer.specs.declared.mode.Mode.TheVariants as m
use Rattle.asl_lexer.specs.Runs.{Passes}
use Rattle.asl_lexer.proofs.Runs.{passes_alone}
use Rattle.asl_lexer.proofs.run.symbol.Goals as goal

pub returns-clause-passes : goal.returns-clause-passes
returns-clause-passes c =
    let old = c.args.tokens.now in
    subst (λ ts. Passes c.args.at c.args.bytes.now 1 m.Between old m.Between ts) (sym c.in_ok-add_symbol.ensures)
    (passes_alone c.args.at c.args.bytes.now old c.requires.some c.requires.begins (sym c.is_alone.ensures ∙ c.if-not-is_alone.false))
