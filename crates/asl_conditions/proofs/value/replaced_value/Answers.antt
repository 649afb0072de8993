use Rattle.std.proofs.Common.{◌∙◌, ◌≤◌, length, subst, sym, Err, false}
use Rattle.iasl_ports.specs.Fetched.{most_bytes}
use Rattle.asl_macros.specs.declared.context.Within.TheVariants.{InCondition}
use Rattle.asl_macros.specs.declared.names.ReplaceStop.{ReplaceStop}
use Rattle.asl_macros.specs.Replacement.{replaced, Gives as Given}
use Rattle.asl_conditions.specs.Reading.{Gives}
use Rattle.asl_conditions.proofs.Readings.{condition_short, condition_long}
use Rattle.asl_conditions.proofs.value.replaced_value.Goals as goal

pub returns-in-Ok : goal.returns-in-Ok
returns-in-Ok c = λ history tells.
    let fits : length c.deref.result.now ≤ most_bytes = subst (λ t. length t ≤ most_bytes) (sym c.deref.ensures.value) (c.in-Ok.ensures history tells).1 in
    subst (Gives c.value_of.result) (condition_short c.args.macros.now history c.args.text.now c.deref.result.now tells (c.deref.ensures.value ∙ (c.in-Ok.ensures history tells).0) fits) c.value_of.ensures

pub returns-in-Err-TooLong : goal.returns-in-Err-TooLong
returns-in-Err-TooLong c = λ history tells.
    condition_long history c.args.text.now (subst (λ (s : ReplaceStop). Given (Err s) most_bytes (replaced InCondition history false c.args.text.now)) c.in-Err-TooLong.field-0-is (c.in-Err-TooLong.ensures history tells))
