use Rattle.std.proofs.Common.{Ok, refl, sym, subst}
use Rattle.asl_tree.specs.View.{trees_of}
use Rattle.aml_code.specs.Header.{fields_of}
use Rattle.term_plans.specs.Plans.{plans_of}
use Rattle.source_pieces.specs.Places.{core_places}
use Rattle.block_checks.specs.Findings.{IsNamed}
use Rattle.block_checks.specs.Present.{IsPresenceOf}
use Rattle.block_checks.specs.Told.{with_others}
use Rattle.switch_checks.specs.Locals.{few_locals}
use Rattle.asl_tables.specs.Compiled.{of_right, copies_of}
use Rattle.asl_tables.proofs.Findings.{found_of, none_else, wrong_all, right_all}
use Rattle.asl_tables.proofs.compile.compile_noted.Goals as goal

pub find-requires : goal.find-requires
find-requires g c = (
  subst (λ ns. IsNamed c.args.checked.names g.told.0 g.told.1 (trees_of ns)) (sym c.as_slice-terms.ensures.value) c.requires.1.1.0,
  subst (λ ns. IsPresenceOf (plans_of ns) c.args.checked.present) (sym c.as_slice-terms.ensures.value) c.requires.1.1.1.0,
)

pub table_of-requires : goal.table_of-requires
table_of-requires g c =
    let block = c.args.checked.block in
    let terms = trees_of block.terms.items in
    let wrong = with_others g.told.0 c.args.checked.errors in
    let few = few_locals terms (plans_of block.terms.items) in
    let found = found_of c.in_ok-names.field-0 wrong g.told.1 c.as_slice-terms.result.now block.terms.items c.as_slice-terms.ensures.value c.in_ok-names.ensures in
    let right = (rw c.in-Right.is at found) in
    let none = none_else g.told.0 c.args.checked.errors few right.1 in
    let rest = c.requires.1.1.1 in
    (refl, (c.requires.0, (c.requires.1.0, (rest.1.0 none, (rest.0, (rest.1.1 none, right.0))))))

pub returns-in_ok-outcome-in-Right-clause-outcome : goal.returns-in_ok-outcome-in-Right-clause-outcome
returns-in_ok-outcome-in-Right-clause-outcome g c =
    let block = c.args.checked.block in
    let terms = trees_of block.terms.items in
    let wrong = with_others g.told.0 c.args.checked.errors in
    let few = few_locals terms (plans_of block.terms.items) in
    let table = of_right c.args.style c.args.lines.now block.place (core_places (plans_of block.terms.items)) block.file (fields_of block) g.told.1 terms in
    let copies = copies_of c.args.style (fields_of block) block.place terms (plans_of block.terms.items) in
    let found = found_of c.in_ok-names.field-0 wrong g.told.1 c.as_slice-terms.result.now block.terms.items c.as_slice-terms.ensures.value c.in_ok-names.ensures in
    let right = (rw c.in-Right.is at found) in
    right_all (Ok c.in_ok-outcome-in-Right.outcome) wrong few copies table right.1 c.in_ok-outcome-in-Right.ensures

pub returns-in-Wrong-clause-outcome : goal.returns-in-Wrong-clause-outcome
returns-in-Wrong-clause-outcome g c =
    let block = c.args.checked.block in
    let terms = trees_of block.terms.items in
    let wrong = with_others g.told.0 c.args.checked.errors in
    let few = few_locals terms (plans_of block.terms.items) in
    let table = of_right c.args.style c.args.lines.now block.place (core_places (plans_of block.terms.items)) block.file (fields_of block) g.told.1 terms in
    let copies = copies_of c.args.style (fields_of block) block.place terms (plans_of block.terms.items) in
    let found = found_of c.in_ok-names.field-0 wrong g.told.1 c.as_slice-terms.result.now block.terms.items c.as_slice-terms.ensures.value c.in_ok-names.ensures in
    let told = (rw c.in-Wrong.is at found) in
    wrong_all c.in-Wrong.errors wrong few copies table told.0 told.1
