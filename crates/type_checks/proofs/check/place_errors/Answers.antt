use Rattle.std.proofs.Common.{◌++◌, sym, ap, ◌∙◌}
use Rattle.term_plans.specs.Plans.{plan_of}
use Rattle.type_checks.specs.Names.{listed}
use Rattle.type_checks.specs.Kinds.{wanted_of}
use Rattle.type_checks.specs.Types.{argument_errors}
use Rattle.type_checks.proofs.AnyKind.{none_told as any_told}
use Rattle.type_checks.proofs.Enough.{none_told}
use Rattle.type_checks.proofs.check.place_errors.Goals as goal

pub returns-in-None : goal.returns-in-None
returns-in-None c =
    let names = listed c.args.names.now in
    let read = plan_of c.args.node.now.term in
    any_told names c.args.number c.args.node.now.place read c.args.out.now
    ∙ ap (λ asker. c.args.out.now ++ argument_errors names (wanted_of asker c.args.at) c.args.number c.args.node.now.place read) (sym c.in-None.is)

pub returns-then-is_data : goal.returns-then-is_data
returns-then-is_data c =
    none_told (listed c.args.names.now) c.args.number c.args.asker c.args.at c.args.node.now.place (plan_of c.args.node.now.term) c.args.out.now (sym c.requires ∙ c.if-enough.true) (sym c.is_data.ensures ∙ c.if-is_data.true)

pub returns-in_ok-argument_errors-in_default : goal.returns-in_ok-argument_errors-in_default
returns-in_ok-argument_errors-in_default c =
    let names = listed c.args.names.now in
    c.in_ok-argument_errors-in_default.ensures ∙ ap (λ wants. c.args.out.now ++ argument_errors names wants c.args.number c.args.node.now.place (plan_of c.args.node.now.term)) c.wanted_of.ensures
