use Rattle.std.proofs.Common.{◌++◌, sym, ap, ◌∙◌, append-nil}
use Rattle.term_plans.specs.Plans.{plans_of, plan_at, constant_of}
use Rattle.type_checks.specs.Sizes.{is_below, told}
use Rattle.type_checks.proofs.Listing.{below_none}
use Rattle.type_checks.proofs.size.size_errors.Goals as goal

pub returns-in_ok-list_errors-in-Some : goal.returns-in_ok-list_errors-in-Some
returns-in_ok-list_errors-in-Some c =
    c.in_ok-list_errors-in-Some.ensures
    ∙ ap (λ o. c.args.out.now ++ told (is_below (constant_of c.args.width (plan_at (plans_of c.args.args.now) 0)) o) c.args.place) c.in-Some.ensures

pub returns-in-None : goal.returns-in-None
returns-in-None c =
    let size = constant_of c.args.width (plan_at (plans_of c.args.args.now) 0) in
    sym (append-nil c.args.out.now)
    ∙ ap (λ b. c.args.out.now ++ told b c.args.place) (sym (below_none size))
    ∙ ap (λ o. c.args.out.now ++ told (is_below size o) c.args.place) c.in-None.ensures
