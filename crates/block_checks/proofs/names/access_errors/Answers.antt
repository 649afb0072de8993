use Rattle.std.proofs.Common.{sym, ap, ◌∙◌}
use Rattle.term_plans.specs.Plans.{plans_of}
use Rattle.region_checks.specs.Regions.{region_errors}
use Rattle.region_checks.proofs.Absent.{none_told}
use Rattle.block_checks.proofs.names.access_errors.Goals as goal

pub returns-else-present : goal.returns-else-present
returns-else-present c =
    let ps = plans_of c.args.known.now.terms.now in
    c.new.ensures ∙ sym (ap (λ ts. region_errors c.args.width ts ps) c.requires.numbered ∙ none_told c.args.width 0 ps (sym c.requires.present.fields ∙ c.if-present.false))
