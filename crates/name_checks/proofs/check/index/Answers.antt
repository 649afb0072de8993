use Rattle.std.proofs.Common.{◌≡◌, length, ap, ◌∙◌, arith}
use Rattle.acpi_state.specs.Objects.{lookup}
use Rattle.asl_tree.specs.View.{trees_of}
use Rattle.acpi_names.specs.Errors.{name_errors}
use Rattle.name_kinds.proofs.Seeing.{block_seen}
use Rattle.name_checks.proofs.Blocks.{none_wrong, some_wrong}
use Rattle.name_checks.proofs.check.index.Goals as goal

pub returns-then-is_empty-clause-calls : goal.returns-then-is_empty-clause-calls
returns-then-is_empty-clause-calls c path = c.names_in.ensures.calls path ∙ ap (λ w. lookup w.calls path) (block_seen (trees_of c.args.known.terms.now) c.requires.terms)

pub returns-then-is_empty-clause-right : goal.returns-then-is_empty-clause-right
returns-then-is_empty-clause-right c =
    let none : length c.in-Ok.errors ≡ 0 = grind (arith, c.is_empty.ensures, c.if-is_empty.true) in
    none_wrong (name_errors (trees_of c.args.known.terms.now)) c.in-Ok.errors (c.in-Ok.ensures c.requires.terms) none

pub returns-else-is_empty-clause-refused : goal.returns-else-is_empty-clause-refused
returns-else-is_empty-clause-refused c =
    let some : length c.in-Ok.errors ≡ 0 → ⊥ = λ e. let never : ⊥ = grind (arith, e, c.is_empty.ensures, c.if-is_empty.false) in never in
    let told = c.in-Ok.ensures c.requires.terms in
    (told, some_wrong (name_errors (trees_of c.args.known.terms.now)) c.in-Ok.errors told some)
