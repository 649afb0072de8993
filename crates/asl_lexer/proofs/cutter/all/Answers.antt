use Rattle.std.proofs.Common.{◌≡◌, ◌-◌, ◌<◌, ◌^◌, ◌++◌, sym, ap, ◌∙◌, subst, take, drop, length, arith, Ok}
use Rattle.std.proofs.lemmas.Result.{err_from_is_err_and}
use Rattle.asl_lexer.specs.declared.mode.Mode.TheVariants as m
use Rattle.asl_lexer.specs.Scan.{scan, Fails, Gives}
use Rattle.asl_lexer.specs.Marks.{following, line_marks}
use Rattle.asl_lexer.proofs.Steps.{tokens_of-lines, tokens_of-no_lines, All-others, scan_end, following_breaks}
use Rattle.asl_lexer.proofs.cutter.all.Goals as goal

pub returns-in_default : goal.returns-in_default
returns-in_default c = tokens_of-no_lines c.args.lines.now (omega arith) ∙ ap (λ ts. Ok ts) (sym c.in_ok-tokens.ensures)

pub next_lines-requires : goal.next_lines-requires
next_lines-requires c = All-others (λ line. length line.text < 2 ^ 32) c.args.lines.now c.requires

pub returns-in_err-scan_line : goal.returns-in_err-scan_line
returns-in_err-scan_line c =
    let p = err_from_is_err_and c.from_residual-in_err-scan_line.result c.from_residual-in_err-scan_line.ensures.1 in
    let whole = tokens_of-lines c.args.lines.now c.first-item.result (omega arith) c.first-item.is in
    let others = following (take (length c.args.lines.now - 1) (drop 1 c.args.lines.now)) in
    let ends = following_breaks (take (length c.args.lines.now - 1) (drop 1 c.args.lines.now)) in
    rw (p.1, p.2) (rw whole (subst (λ ts. Fails c.in_err-scan_line.field-0.0 (scan (line_marks c.first-item.result ++ others) m.Between ts)) c.in_ok-tokens.ensures (c.in_err-scan_line.ensures.fails others ends)))

pub returns-in_err-mode : goal.returns-in_err-mode
returns-in_err-mode c =
    let p = err_from_is_err_and c.from_residual-in_err-mode.result c.from_residual-in_err-mode.ensures.1 in
    let whole = tokens_of-lines c.args.lines.now c.first-item.result (omega arith) c.first-item.is in
    let others = following (take (length c.args.lines.now - 1) (drop 1 c.args.lines.now)) in
    let ends = following_breaks (take (length c.args.lines.now - 1) (drop 1 c.args.lines.now)) in
    let first = subst (λ ts. scan (line_marks c.first-item.result ++ others) m.Between ts ≡ scan others c.scan_line.new.mode c.scan_line.new.tokens) c.in_ok-tokens.ensures (c.in_ok-scan_line.ensures.goes others ends) in
    rw (p.1, p.2) (rw (whole, first) c.in_err-mode.ensures)

pub returns : goal.returns
returns c =
    let whole = tokens_of-lines c.args.lines.now c.first-item.result (omega arith) c.first-item.is in
    let others = following (take (length c.args.lines.now - 1) (drop 1 c.args.lines.now)) in
    let ends = following_breaks (take (length c.args.lines.now - 1) (drop 1 c.args.lines.now)) in
    let first = subst (λ ts. scan (line_marks c.first-item.result ++ others) m.Between ts ≡ scan others c.scan_line.new.mode c.scan_line.new.tokens) c.in_ok-tokens.ensures (c.in_ok-scan_line.ensures.goes others ends) in
    subst (Gives c.finish.result) (sym (whole ∙ first ∙ c.in_ok-mode.ensures ∙ scan_end c.in_ok-mode.mode c.next_lines.new.tokens)) c.finish.ensures
