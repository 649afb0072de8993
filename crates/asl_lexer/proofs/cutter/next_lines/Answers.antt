use Rattle.std.proofs.Common.{◌+◌, sym, ap, ◌∙◌, drop}
use Rattle.std.proofs.lemmas.Result.{err_from_is_err_and}
use Rattle.asl_lexer.specs.Scan.{scan}
use Rattle.asl_lexer.specs.Marks.{following}
use Rattle.asl_lexer.proofs.Steps.{following_next, following_none, following_breaks}
use Rattle.asl_lexer.proofs.cutter.next_lines.Goals as goal

pub returns-in_err-next_line : goal.returns-in_err-next_line
returns-in_err-next_line c =
    let p = err_from_is_err_and c.from_residual.result c.from_residual.ensures.1 in
    let next = following_next c.args.lines.now c.loop-line.line-index c.line-item.result c.loop-line-test.true c.line-item.is in
    rw (p.1, p.2) (rw (← c.loop-line.invariant) (rw next (c.in_err-next_line.ensures.fails (following (drop (c.loop-line.line-index + 1) c.args.lines.now)) (following_breaks (drop (c.loop-line.line-index + 1) c.args.lines.now)))))

pub loop-line-preserved : goal.loop-line-preserved
loop-line-preserved c =
    let next = following_next c.args.lines.now c.loop-line.line-index c.line-item.result c.loop-line-test.true c.line-item.is in
    sym (ap (λ ms. scan ms c.loop-line.mode c.loop-line.tokens) next ∙ c.in_ok-next_line.ensures.goes (following (drop (c.loop-line.line-index + 1) c.args.lines.now)) (following_breaks (drop (c.loop-line.line-index + 1) c.args.lines.now))) ∙ c.loop-line.invariant

pub returns : goal.returns
returns c =
    sym c.loop-line.invariant ∙ ap (λ ms. scan ms c.loop-line.mode c.loop-line.tokens) (following_none c.args.lines.now c.loop-line.line-index c.loop-line-test.false)
