use Rattle.std.proofs.Common.{◌++◌, ap, ◌∙◌, None}
use Rattle.std.proofs.Math.Path.{fun_ext}
use Rattle.term_plans.specs.Plans.{plans_of}
use Rattle.type_checks.specs.Names.{listed}
use Rattle.type_checks.specs.Types.{errors_of}
use Rattle.type_checks.proofs.check.wrong_types.Goals as goal

pub returns : goal.returns
returns c =
    let terms = plans_of c.args.known.now.terms.now in
    c.in_ok-errors_of.ensures.told ∙ ap (λ ms. ms ++ errors_of (listed c.deref.result.now) None 0 0 terms) c.new-out.ensures ∙ ap (λ ns. errors_of (listed ns) None 0 0 terms) c.deref.ensures.value
    ∙ ap (λ names. errors_of names None 0 0 terms) (fun_ext c.in_ok-all.ensures)
