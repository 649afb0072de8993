use Rattle.std.proofs.Common.{sym, ◌∙◌, subst}
use Rattle.asl_tree.specs.View.{trees_of}
use Rattle.term_plans.specs.Plans.{plans_of}
use Rattle.term_plans.specs.Places.{AreTold}
use Rattle.region_checks.proofs.Places.{region_errors_within}
use Rattle.region_checks.proofs.Walks.{block_seen_errors}
use Rattle.region_checks.proofs.check.region_faults.Goals as goal

pub returns-clause-places : goal.returns-clause-places
returns-clause-places c files within parts =
    subst (AreTold files) (sym (c.in_ok-out.ensures ∙ block_seen_errors c.args.width (trees_of c.args.known.now.terms.now) (plans_of c.args.known.now.terms.now) c.requires.terms)) (region_errors_within files c.args.width (trees_of c.args.known.now.terms.now) (plans_of c.args.known.now.terms.now) within parts)

pub returns-clause-told : goal.returns-clause-told
returns-clause-told c = c.in_ok-out.ensures ∙ block_seen_errors c.args.width (trees_of c.args.known.now.terms.now) (plans_of c.args.known.now.terms.now) c.requires.terms
