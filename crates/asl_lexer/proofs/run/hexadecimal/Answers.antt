use Rattle.std.proofs.Common.{◌≡◌, ◌+◌, ◌<◌, length, take, drop, get_or, eq-eqb, sym, ap, ◌∙◌, subst, arith}
use Rattle.std.specs.Char.{is_digit}
use Rattle.std.specs.List.{prefix_len}
use Rattle.asl_lexer.specs.declared.mode.Mode.TheVariants as m
use Rattle.asl_lexer.specs.Scan.{with_number}
use Rattle.asl_lexer.specs.Runs.{number_of, adjoins_number, Passes}
use Rattle.asl_lexer.proofs.Runs.{passes_any_hexadecimal}
use Rattle.asl_lexer.proofs.run.hexadecimal.Goals as goal

pub returns-clause-passes : goal.returns-clause-passes
returns-clause-passes c =
    let at = c.args.at in
    let bytes = c.args.bytes.now in
    let width = c.in-Some.width in
    let old = c.args.tokens.now in
    let value = c.in-Some.value in
    let same : c.behind-digits.result.now ≡ drop 2 bytes = c.behind-digits.ensures in
    let added = c.in_ok-add_number.ensures ∙ ap (λ e. with_number old at value e) c.column_after-end.ensures in
    subst (λ ts. Passes at bytes (width + 2) m.Between old m.Between ts) (sym added)
    (passes_any_hexadecimal at bytes width value old c.requires.begins (eq-eqb _ _ c.if-bytes-ne120.false) (omega arith)
    (c.in-Some.ensures.width ∙ ap (prefix_len (λ d. is_digit d 16)) same)
    (c.in-Some.ensures.value ∙ ap (λ ds. number_of 16 0 (take width ds)) same) c.in-Some.ensures.fits
    (omega (arith, ap length same, c.in-Some.ensures.within))
    (λ more. ap (λ ds. adjoins_number (get_or ds width 0)) (sym same) ∙ c.ends_number.ensures c.if-not-ends_number.false (subst (λ ds. width < length ds) (sym same) more)))
