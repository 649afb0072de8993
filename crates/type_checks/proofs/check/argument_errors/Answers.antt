use Rattle.std.proofs.Common.{◌++◌, sym, ap, ◌∙◌}
use Rattle.term_plans.specs.Plans.{plan_of}
use Rattle.type_checks.specs.Names.{listed}
use Rattle.type_checks.specs.Types.{argument_errors}
use Rattle.type_checks.proofs.AnyKind.{none_told}
use Rattle.type_checks.proofs.check.argument_errors.Goals as goal

pub returns-in-Anything : goal.returns-in-Anything
returns-in-Anything c =
    let names = listed c.args.names.now in
    let read = plan_of c.args.node.now.term in
    none_told names c.args.number c.args.node.now.place read c.args.out.now
    ∙ ap (λ wants. c.args.out.now ++ argument_errors names wants c.args.number c.args.node.now.place read) (sym c.in-Anything.is)
