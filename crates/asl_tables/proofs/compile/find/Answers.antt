use Rattle.asl_tree.specs.View.{trees_of}
use Rattle.term_plans.specs.Plans.{plans_of}
use Rattle.block_checks.specs.Told.{with_others}
use Rattle.switch_checks.specs.Locals.{few_locals}
use Rattle.asl_tables.proofs.Findings.{found_wrong, found_right}
use Rattle.asl_tables.proofs.compile.find.Goals as goal

pub right_or_few-requires : goal.right_or_few-requires
right_or_few-requires g c =
    let first = c.in_ok-names.ensures g.told.0 g.told.1 (trees_of c.args.terms.now) c.requires.0 in
    let right = (rw c.in-Right.is at first) in
    (right.0, c.requires.1)

pub returns-in-Right : goal.returns-in-Right
returns-in-Right g c =
    let terms = trees_of c.args.terms.now in
    let few = few_locals terms (plans_of c.args.terms.now) in
    let first = c.in_ok-names.ensures g.told.0 g.told.1 terms c.requires.0 in
    let right = (rw c.in-Right.is at first) in
    found_right c.right_or_few.result (with_others g.told.0 c.args.errors) few g.told.1 terms right.1 c.right_or_few.ensures

pub returns-in-Wrong : goal.returns-in-Wrong
returns-in-Wrong g c =
    let terms = trees_of c.args.terms.now in
    let few = few_locals terms (plans_of c.args.terms.now) in
    let first = c.in_ok-names.ensures g.told.0 g.told.1 terms c.requires.0 in
    let wrong = (rw c.in-Wrong.is at first) in
    found_wrong c.in-Wrong.errors (with_others g.told.0 c.args.errors) few wrong
