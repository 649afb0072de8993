use Rattle.std.proofs.Common.{◌+◌, ◌<◌, ◌≤◌, get_or, length, sym, ap, ◌∙◌, below_more, arith}
use Rattle.std.specs.Char.{digit_value, is_digit}
use Rattle.std.proofs.lemmas.Bool.{lt-ltb, le-ltb}
use Rattle.std.proofs.lemmas.List.Sums.{prefix_len_is}
use Rattle.asl_lexer.proofs.Runs.{number_of-more}
use Rattle.asl_lexer.proofs.run.front_number.Goals as goal

pub loop-width-preserved : goal.loop-width-preserved
loop-width-preserved c =
    let bytes = c.args.bytes.now in
    let here = get_or bytes c.loop-width.width 0 in
    let small : digit_value here < c.args.base = omega (arith, c.value_of-digit.ensures, c.if-digit-base.false) in
    record {
      worth =
          c.in_ok-value.ensures.1 ∙ ap (λ n. n + c.value_of-digit.result) c.in_ok-checked_mul.ensures.1
          ∙ number_of-more c.args.base bytes c.loop-width.width c.loop-width.value c.value_of-digit.result c.loop-width-test.true c.value_of-digit.ensures c.loop-width.invariant.worth;
      fits = omega (arith, c.in_ok-value.ensures.0);
      digits = below_more _ _ c.loop-width.invariant.digits (lt-ltb (digit_value here) c.args.base small);
    }

pub returns-then-digit-base-clause-width : goal.returns-then-digit-base-clause-width
returns-then-digit-base-clause-width c =
    let bytes = c.args.bytes.now in
    let here = get_or bytes c.loop-width.width 0 in
    let large : c.args.base ≤ digit_value here = omega (arith, c.value_of-digit.ensures, c.if-digit-base.true) in
    sym (prefix_len_is (λ b. is_digit b c.args.base) bytes c.loop-width.width 0 (omega arith) c.loop-width.invariant.digits (λ lt. le-ltb (digit_value here) c.args.base large))

pub returns-clause-width : goal.returns-clause-width
returns-clause-width c =
    let bytes = c.args.bytes.now in
    sym (prefix_len_is (λ b. is_digit b c.args.base) bytes (length bytes) 0 (omega arith) (λ k lt. c.loop-width.invariant.digits k (omega arith)) (λ lt. absurd (omega arith)))
