use Rattle.std.proofs.Common.{sym, ◌∙◌, subst}
use Rattle.std.proofs.lemmas.List.Folds.{length-prefix_len}
use Rattle.asl_lexer.specs.declared.mode.Mode.TheVariants as m
use Rattle.asl_lexer.specs.Runs.{in_comment, in_block, Passes}
use Rattle.asl_lexer.proofs.Runs.{passes_comment, passes_block}
use Rattle.asl_lexer.proofs.run.runs.Goals as goal

pub returns-in-Line-clause-passes : goal.returns-in-Line-clause-passes
returns-in-Line-clause-passes c =
    let bytes = c.args.bytes.now in
    let old = c.args.tokens.now in
    subst (λ mode. Passes c.args.at bytes c.comment_width.result mode old mode old) (sym c.in-Line.is)
    (subst (λ n. Passes c.args.at bytes n m.Line old m.Line old) (sym (c.comment_width.ensures ∙ length-prefix_len in_comment bytes)) (passes_comment c.args.at bytes old))

pub returns-in-Block-clause-passes : goal.returns-in-Block-clause-passes
returns-in-Block-clause-passes c =
    let bytes = c.args.bytes.now in
    let old = c.args.tokens.now in
    subst (λ mode. Passes c.args.at bytes c.block_width.result mode old mode old) (sym c.in-Block.is)
    (subst (λ n. Passes c.args.at bytes n (m.Block c.in-Block.from) old (m.Block c.in-Block.from) old) (sym (c.block_width.ensures ∙ length-prefix_len in_block bytes)) (passes_block c.in-Block.from c.args.at bytes old))
