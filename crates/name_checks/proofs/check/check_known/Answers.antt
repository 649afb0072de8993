use Rattle.std.proofs.Common.{◌≡◌, length, ◌∙◌, arith}
use Rattle.asl_tree.specs.View.{trees_of}
use Rattle.acpi_names.specs.Errors.{name_errors, type_errors}
use Rattle.name_checks.proofs.Blocks.{none_wrong, some_wrong, first_kinds, refuses_first}
use Rattle.name_checks.proofs.check.check_known.Goals as goal

pub returns-then-is_empty-clause-right : goal.returns-then-is_empty-clause-right
returns-then-is_empty-clause-right c =
    let right = c.in-Ok-index.ensures.right in
    let none : length c.in-Ok.kinds ≡ 0 = grind (arith, c.is_empty.ensures, c.if-is_empty.true) in
    (right, none_wrong (type_errors (trees_of c.args.known.terms.now)) c.in-Ok.kinds (c.in-Ok.ensures c.requires.terms right) none)

pub returns-else-is_empty-clause-refused : goal.returns-else-is_empty-clause-refused
returns-else-is_empty-clause-refused c =
    let program = trees_of c.args.known.terms.now in
    let right = c.in-Ok-index.ensures.right in
    let some : length c.in-Ok.kinds ≡ 0 → ⊥ = λ e. let never : ⊥ = grind (arith, e, c.is_empty.ensures, c.if-is_empty.false) in never in
    let told = c.in-Ok.ensures c.requires.terms right in
    let first = first_kinds (name_errors program) (type_errors program) right in
    (told ∙ first, λ e. some_wrong (type_errors program) c.in-Ok.kinds told some (first ∙ e))

pub returns-in-Err-index-clause-refused : goal.returns-in-Err-index-clause-refused
returns-in-Err-index-clause-refused c =
    let program = trees_of c.args.known.terms.now in
    refuses_first c.in-Err-index.stage (name_errors program) (type_errors program) c.in-Err-index.ensures.refused
