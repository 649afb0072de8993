-- Plans behind others, and what stands for an argument that is not there.
use Rattle.std.proofs.Common.{◌≡◌, [], refl, ap, true, false, if◌then◌else◌}
use Rattle.iasl_messages.specs.declared.place.Place.{Place}
use Rattle.term_plans.specs.Plans.{plans_of, omitted, Plans, no_plans, plan, join}
use Rattle.asl_words.specs.declared.operator.Parameter.{Parameter}
use Rattle.asl_terms.specs.Terms.{missing}
use Rattle.asl_terms.specs.AtRaw.{left_at}
use Rattle.term_plans.proofs.Terms.{omitted_term}
use Rattle.term_plans.proofs.Lists.{join_nothing}

pub from_none : (ps : Plans) → join (plans_of []) ps ≡ ps
unfolding plans_of
from_none ps = refl

pub nothing_behind : (ps : Plans) → join ps no_plans ≡ ps
nothing_behind ps = join_nothing ps

pub nothing_missing : (q : Parameter) (place : Place) → q.further ≡ true → missing place q ≡ no_plans
nothing_missing q place e = ap (λ b. if b then no_plans else plan place omitted no_plans) e

pub one_missing : (q : Parameter) (place : Place) → q.further ≡ false → missing place q ≡ left_at place
one_missing q place e = ap (λ b. if b then no_plans else plan place omitted no_plans) e

pub ruleset missing_rules = (nothing_missing, one_missing, nothing_behind, omitted_term)
