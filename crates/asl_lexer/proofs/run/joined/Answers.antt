use Rattle.std.proofs.Common.{sym, ◌∙◌, subst, arith}
use Rattle.asl_lexer.specs.declared.mode.Mode.TheVariants as m
use Rattle.asl_lexer.specs.Runs.{Passes}
use Rattle.asl_lexer.proofs.Runs.{passes_single, passes_double}
use Rattle.asl_lexer.proofs.run.joined.Goals as goal

pub returns-then-not-are_two-clause-passes : goal.returns-then-not-are_two-clause-passes
returns-then-not-are_two-clause-passes c =
    let old = c.args.tokens.now in
    subst (λ ts. Passes c.args.at c.args.bytes.now 1 m.Between old m.Between ts) (sym c.in_ok-add_symbol.ensures)
    (passes_single c.args.at c.args.bytes.now old (omega arith) c.requires.begins (sym c.are_two.ensures ∙ c.if-not-are_two.true))

pub returns-clause-passes : goal.returns-clause-passes
returns-clause-passes c =
    let old = c.args.tokens.now in
    subst (λ ts. Passes c.args.at c.args.bytes.now 2 m.Between old m.Between ts) (sym c.in_ok-add_symbol-2.ensures)
    (passes_double c.args.at c.args.bytes.now old (omega arith) c.requires.begins (sym c.are_two.ensures ∙ c.if-not-are_two.false) (sym c.are_shift.ensures ∙ c.if-are_shift.false))
