use Rattle.std.proofs.Common.{◌≡◌, ◌+◌, ◌++◌, length, get_or, sym, ap, ◌∙◌, subst, arith, Ok}
use Rattle.std.proofs.lemmas.Result.{err_from_is_err_and}
use Rattle.asl_lexer.specs.Scan.{step, scan, Fails}
use Rattle.asl_lexer.specs.Runs.{marks_behind}
use Rattle.asl_lexer.specs.Marks.{mark_at}
use Rattle.asl_lexer.proofs.Steps.{scan_goes, scan_fails, marks_next, marks_none}
use Rattle.asl_lexer.proofs.cutter.scan_behind.Goals as goal

pub returns-in_err-mode : goal.returns-in_err-mode
returns-in_err-mode c = λ rest ends.
    let p = err_from_is_err_and c.from_residual.result c.from_residual.ensures.1 in
    let l = c.args.line.now in
    let i = c.loop-index.index in
    let same : c.as_bytes-bytes.result.now ≡ l.text = c.as_bytes-bytes.ensures in
    let next = marks_next l.file l.number l.text i rest (omega (arith, ap length same)) in
    let failed = subst (λ bs. Fails c.in_err-mode.field-0.0 (step c.loop-index.mode (record { file = l.file; line = l.number; column = i + 1 }) (get_or bs i 0) c.loop-index.tokens)) same c.in_err-mode.ensures in
    rw (p.1, p.2) (rw (← c.loop-index.invariant rest ends) (rw next (scan_fails c.in_err-mode.field-0.0 (mark_at l.file l.number (i + 1) (get_or l.text i 0)) (marks_behind l (i + 1) ++ rest) c.loop-index.mode c.loop-index.tokens failed)))

pub loop-index-preserved : goal.loop-index-preserved
loop-index-preserved c = λ rest ends.
    let l = c.args.line.now in
    let i = c.loop-index.index in
    let same : c.as_bytes-bytes.result.now ≡ l.text = c.as_bytes-bytes.ensures in
    let went = subst (λ bs. step c.loop-index.mode (record { file = l.file; line = l.number; column = i + 1 }) (get_or bs i 0) c.loop-index.tokens ≡ Ok (c.in_ok-mode.mode, c.step.new.tokens)) same c.in_ok-mode.ensures in
    sym (ap (λ ms. scan ms c.loop-index.mode c.loop-index.tokens) (marks_next l.file l.number l.text i rest (omega (arith, ap length same)))
    ∙ scan_goes (mark_at l.file l.number (i + 1) (get_or l.text i 0)) (marks_behind l (i + 1) ++ rest) c.loop-index.mode c.in_ok-mode.mode c.loop-index.tokens c.step.new.tokens went
    ∙ c.in_ok-index.ensures.passes rest ends)
    ∙ c.loop-index.invariant rest ends

pub returns : goal.returns
returns c = λ rest ends.
    let l = c.args.line.now in
    let same : c.as_bytes-bytes.result.now ≡ l.text = c.as_bytes-bytes.ensures in
    sym (c.loop-index.invariant rest ends) ∙ ap (λ ms. scan ms c.loop-index.mode c.loop-index.tokens) (marks_none l.file l.number l.text c.loop-index.index rest (omega (arith, ap length same)))
