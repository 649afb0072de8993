use Rattle.std.proofs.Common.{refl}
use Rattle.asl_formats.proofs.Standing.{loop_stands}
use Rattle.asl_formats.proofs.stand.loop_stand.Goals as goal

pub returns-in-len3 : goal.returns-in-len3
returns-in-len3 c =
    loop_stands c.args.args.now c.args.body.now c.start-item.result c.step-item.result c.is_expression.result c.is_expression-in-len3.result c.have_far_continue-far.result _ c.all.result c.loop_if.result
    c.in-len3.len_at_least c.in-len3.len_below c.start-item.is c.step-item.is c.is_expression.ensures c.is_expression-in-len3.ensures c.have_far_continue-far.ensures refl c.all.ensures c.loop_if.ensures
