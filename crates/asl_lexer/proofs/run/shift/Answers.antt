use Rattle.std.proofs.Common.{sym, ap, ◌∙◌, subst, arith}
use Rattle.std.proofs.lemmas.Bool.{ne_eqb}
use Rattle.asl_lexer.specs.declared.mode.Mode.TheVariants as m
use Rattle.asl_lexer.specs.Scan.{with_symbol}
use Rattle.asl_lexer.specs.Runs.{Passes}
use Rattle.asl_lexer.proofs.Runs.{passes_shift}
use Rattle.asl_lexer.proofs.run.shift.Goals as goal

pub returns-clause-passes : goal.returns-clause-passes
returns-clause-passes c =
    let old = c.args.tokens.now in
    let added = c.in_ok-add_symbol.ensures ∙ ap (with_symbol old c.args.at) c.front.ensures in
    subst (λ ts. Passes c.args.at c.args.bytes.now 2 m.Between old m.Between ts) (sym added)
    (passes_shift c.args.at c.args.bytes.now old (omega arith) c.requires.begins c.requires.two (ne_eqb _ _ c.if-bytes-eq61.false))
