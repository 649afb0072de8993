use Rattle.std.proofs.Common.{sym, ap, ◌∙◌, subst, arith}
use Rattle.asl_lexer.specs.declared.mode.Mode.TheVariants as m
use Rattle.asl_lexer.specs.Scan.{with_number}
use Rattle.asl_lexer.specs.Runs.{Passes}
use Rattle.asl_lexer.proofs.Runs.{passes_any_decimal}
use Rattle.asl_lexer.proofs.run.decimal.Goals as goal

pub returns-clause-passes : goal.returns-clause-passes
returns-clause-passes c =
    let at = c.args.at in
    let bytes = c.args.bytes.now in
    let width = c.in-Some.width in
    let old = c.args.tokens.now in
    let value = c.in-Some.value in
    let added = c.in_ok-add_number.ensures ∙ ap (λ e. with_number old at value e) c.column_after.ensures in
    subst (λ ts. Passes at bytes width m.Between old m.Between ts) (sym added)
    (passes_any_decimal at bytes width value old c.requires.begins (omega arith) c.in-Some.ensures.width c.in-Some.ensures.value c.in-Some.ensures.fits c.in-Some.ensures.within (c.ends_number.ensures c.if-not-ends_number.false))
