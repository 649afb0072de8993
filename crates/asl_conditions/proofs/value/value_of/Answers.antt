use Rattle.std.proofs.Common.{rules, ◌<◌, length, refl, sym, ap, ◌∙◌, subst, List, ℕ, Bool}
use Rattle.std.specs.Prelude.{is_some}
use Rattle.std.specs.Option.{option_and_then}
use Rattle.std.proofs.lemmas.Result.{err_from_is_err_and}
use Rattle.asl_macros.specs.Table.{text_at}
use Rattle.asl_conditions.specs.Tokens.{tokens_of}
use Rattle.asl_conditions.specs.Reading.{read, run, Gives}
use Rattle.asl_conditions.proofs.Readings.{tokens_step, no_tokens, read_goes, read_fails, fails_along}
use Rattle.asl_conditions.proofs.value.value_of.Goals as goal

pub loop-rest-preserved : goal.loop-rest-preserved
loop-rest-preserved c =
    let known : List ℕ → Bool = λ name. is_some (text_at c.args.macros.now name) in
    let some : 0 < length c.loop-rest.rest.now = search rules in
    let cut = tokens_step known c.loop-rest.rest.now c.split_at.result.1.now c.front_of-cut.result c.front_of-cut.ensures.exact some c.front_of-cut.ensures.forward c.split_at.ensures.back in
    read_goes c.loop-rest.reader c.in_ok-reader.reader c.front_of-cut.result.lexeme (tokens_of known c.split_at.result.1.now) c.in_ok-reader.ensures ∙ ap (option_and_then (run c.loop-rest.reader)) (sym cut) ∙ c.loop-rest.invariant

pub returns-in_err-reader : goal.returns-in_err-reader
returns-in_err-reader c =
    let p = err_from_is_err_and c.from_residual.result c.from_residual.ensures.1 in
    let known : List ℕ → Bool = λ name. is_some (text_at c.args.macros.now name) in
    let some : 0 < length c.loop-rest.rest.now = search rules in
    let cut = tokens_step known c.loop-rest.rest.now _ c.front_of-cut.result c.front_of-cut.ensures.exact some c.front_of-cut.ensures.forward refl in
    rw (p.1, p.2) (fails_along c.in_err-reader.field-0.0 (read c.loop-rest.reader c.front_of-cut.result.lexeme) _ (λ e.
    sym c.loop-rest.invariant ∙ ap (option_and_then (run c.loop-rest.reader)) cut ∙ read_fails c.loop-rest.reader c.front_of-cut.result.lexeme _ e) c.in_err-reader.ensures)

pub returns : goal.returns
unfolding run
returns c =
    let known : List ℕ → Bool = λ name. is_some (text_at c.args.macros.now name) in
    subst (Gives c.finish.result) (sym (ap (option_and_then (run c.loop-rest.reader)) (no_tokens known c.loop-rest.rest.now (search rules))) ∙ c.loop-rest.invariant) c.finish.ensures
