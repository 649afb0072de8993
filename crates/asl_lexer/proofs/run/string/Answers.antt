use Rattle.std.proofs.Common.{◌≡◌, ◌+◌, length, take, drop, get_or, sym, ap, ◌∙◌, subst, arith}
use Rattle.std.specs.List.{take_while}
use Rattle.std.proofs.lemmas.List.Folds.{length-prefix_len}
use Rattle.asl_lexer.specs.declared.mode.Mode.TheVariants as m
use Rattle.asl_lexer.specs.Class.{class_of}
use Rattle.asl_lexer.specs.Scan.{with_string, column_after}
use Rattle.asl_lexer.specs.Runs.{in_string, Passes}
use Rattle.asl_lexer.proofs.Runs.{passes_string, is_quote}
use Rattle.asl_lexer.proofs.run.string.Goals as goal

pub returns-clause-passes : goal.returns-clause-passes
returns-clause-passes c =
    let at = c.args.at in
    let bytes = c.args.bytes.now in
    let width = c.string_width-width.result in
    let old = c.args.tokens.now in
    let same : c.behind-inner.result.now ≡ drop 1 bytes = c.behind-inner.ensures in
    let added = c.in_ok-add_plain_string.ensures ∙ ap (λ e. with_string old at e c.front.result.now) c.column_after-end.ensures ∙ ap (λ us. with_string old at (column_after at.column (width + 2)) us) (c.front.ensures ∙ ap (take width) same) in
    subst (λ ts. Passes at bytes (width + 2) m.Between old m.Between ts) (sym added)
    (passes_string at bytes width old c.requires.some c.requires.opens (c.string_width-width.ensures ∙ ap (λ us. length (take_while in_string us)) same ∙ length-prefix_len in_string (drop 1 bytes)) (omega (arith, ap length same))
    (ap (λ us. class_of (get_or us width 0)) (sym same) ∙ is_quote _ c.if-inner-width-ne34.false))
