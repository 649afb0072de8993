use Rattle.std.proofs.Common.{◌≡◌, ◌++◌, length, sym, ap, ◌∙◌, subst, arith}
use Rattle.std.proofs.lemmas.Result.{err_from_is_err_and}
use Rattle.asl_lexer.specs.declared.mode.Mode.{Mode}
use Rattle.asl_lexer.specs.Runs.{marks_behind}
use Rattle.asl_lexer.specs.Scan.{scan, Fails}
use Rattle.asl_lexer.proofs.Steps.{marks_none}
use Rattle.asl_lexer.proofs.cutter.scan_line.Goals as goal

pub returns-then-index-as_bytes-clause-goes : goal.returns-then-index-as_bytes-clause-goes
returns-then-index-as_bytes-clause-goes c = λ rest ends.
    let l = c.args.line.now in
    let same : c.as_bytes.result.now ≡ l.text = c.as_bytes.ensures in
    c.in_ok-index.ensures.passes rest ends
    ∙ ap (λ ms. scan ms c.args.mode.now c.over_runs.new.tokens) (marks_none l.file l.number l.text c.in_ok-index.index rest (omega (arith, ap length same)))

pub returns-in_err-mode-clause-fails : goal.returns-in_err-mode-clause-fails
returns-in_err-mode-clause-fails c =
    let p = err_from_is_err_and c.from_residual-in_err-mode.result c.from_residual-in_err-mode.ensures.1 in let stop = c.in_err-mode.field-0.0 in
    rw (p.1, p.2) (λ rest ends.
    let behind = marks_behind c.args.line.now c.in_ok-index.index ++ rest in
    subst (Fails stop) (sym (c.in_ok-index.ensures.passes rest ends))
    (subst (λ (mode : Mode). Fails stop (scan behind mode c.over_runs.new.tokens)) c.replace.ensures.value (c.in_err-mode.ensures rest ends)))

pub returns-clause-goes : goal.returns-clause-goes
returns-clause-goes c = λ rest ends.
    let behind = marks_behind c.args.line.now c.in_ok-index.index ++ rest in
    c.in_ok-index.ensures.passes rest ends
    ∙ ap (λ (mode : Mode). scan behind mode c.over_runs.new.tokens) (sym c.replace.ensures.value)
    ∙ c.in_ok-mode.ensures rest ends
