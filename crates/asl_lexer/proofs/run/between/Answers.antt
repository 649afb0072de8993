use Rattle.std.proofs.Common.{sym, ◌∙◌, subst}
use Rattle.std.proofs.lemmas.List.Folds.{length-prefix_len}
use Rattle.asl_lexer.specs.declared.mode.Mode.TheVariants as m
use Rattle.asl_lexer.specs.Runs.{is_whitespace, Passes}
use Rattle.asl_lexer.proofs.Runs.{passes_whitespace}
use Rattle.asl_lexer.proofs.run.between.Goals as goal

pub returns-in-Blank-clause-passes : goal.returns-in-Blank-clause-passes
returns-in-Blank-clause-passes c =
    let bytes = c.args.bytes.now in
    let old = c.args.tokens.now in
    subst (λ n. Passes c.args.at bytes n m.Between old m.Between old) (sym (c.blank_width.ensures ∙ length-prefix_len is_whitespace bytes)) (passes_whitespace c.args.at bytes old)
