use Rattle.std.proofs.Common.{◌≡◌, true, get_or, sym, subst, ◌∙◌, arith}
use Rattle.std.proofs.lemmas.List.Folds.{length-prefix_len}
use Rattle.std.proofs.lemmas.List.Sums.{prefix_len_is}
use Rattle.asl_lexer.specs.Runs.{is_whitespace}
use Rattle.asl_lexer.proofs.run.blank_width.Goals as goal

pub returns-then-not-is_whitespace : goal.returns-then-not-is_whitespace
returns-then-not-is_whitespace c =
    let bytes = c.args.bytes.now in
    sym (length-prefix_len is_whitespace bytes
    ∙ prefix_len_is is_whitespace bytes 1 0 (omega arith) (λ k lt. let e : 0 ≡ k = omega arith in subst (λ j. is_whitespace (get_or bytes j 0) ≡ true) e c.requires.blank) (λ lt. sym c.is_whitespace.ensures ∙ c.if-not-is_whitespace.true))
