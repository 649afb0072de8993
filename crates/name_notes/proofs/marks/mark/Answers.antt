use Rattle.std.proofs.Common.{◌<◌, [], length, get_or, sym, ap, ◌∙◌, subst}
use Rattle.std.specs.Prelude.{◌||◌, IfSome}
use Rattle.acpi_values.specs.Paths.{is_same_path}
use Rattle.acpi_names.specs.Paths.{path_with}
use Rattle.acpi_names.proofs.Flags.{marked}
use Rattle.name_notes.specs.Notes.{is_at}
use Rattle.name_notes.proofs.marks.mark.Goals as goal

pub returns-in-Some-clause-marked : goal.returns-in-Some-clause-marked
returns-in-Some-clause-marked c test before path =
    let paths = c.args.paths.now in
    let n = c.in-Some.number in
    let lt : n < length paths = subst (λ o. IfSome o (λ n. n < length paths)) c.in-Some.is c.requires.within in
    marked paths c.args.flags.now.items n c.len-count.ensures.distinct lt c.requires.sized path
    ∙ ap (λ b. is_same_path path (get_or paths n []) || b) (before path)
    ∙ ap (λ o. is_at path (path_with paths o) || test path) (sym c.in-Some.is)
