use Rattle.std.proofs.Common.{map, sym, ap, ◌∙◌, subst, arith}
use Rattle.std.specs.Char.{to_ascii_uppercase}
use Rattle.std.proofs.lemmas.List.Folds.{length-prefix_len}
use Rattle.std.proofs.lemmas.List.Sums.{prefix_len-le-length}
use Rattle.asl_lexer.specs.declared.mode.Mode.TheVariants as m
use Rattle.asl_lexer.specs.Scan.{with_name}
use Rattle.asl_lexer.specs.Runs.{in_word, Passes}
use Rattle.asl_lexer.proofs.Runs.{passes_any_word}
use Rattle.asl_lexer.proofs.run.word.Goals as goal
use Rattle.std.specs.Prelude.{false}

pub returns-clause-passes : goal.returns-clause-passes
returns-clause-passes c =
    let at = c.args.at in
    let bytes = c.args.bytes.now in
    let width = c.word_width-width.result in
    let old = c.args.tokens.now in
    let added = c.in_ok-add_word.ensures ∙ ap (λ us. with_name old false at (map to_ascii_uppercase us)) c.front.ensures in
    subst (λ ts. Passes at bytes width m.Between old m.Between ts) (sym added)
    (passes_any_word at bytes width old c.requires.some c.requires.begins (c.word_width-width.ensures ∙ length-prefix_len in_word bytes) (omega (arith, c.word_width-width.ensures ∙ length-prefix_len in_word bytes, prefix_len-le-length in_word bytes)) (c.ends_word.ensures c.if-not-ends_word.false))
