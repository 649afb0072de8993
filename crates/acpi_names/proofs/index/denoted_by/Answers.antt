use Rattle.std.proofs.Common.{[], get_or, ap, ◌∙◌}
use Rattle.asl_tree.specs.Names.{denoted}
use Rattle.asl_meaning.specs.Declarations.{is_named}
use Rattle.acpi_names.specs.Paths.{is_named_in}
use Rattle.acpi_names.proofs.Flags.{denoted_same}
use Rattle.acpi_names.proofs.index.denoted_by.Goals as goal

pub returns-clause-path : goal.returns-clause-path
returns-clause-path c d agrees =
    let paths = c.args.index.now.paths in
    let scope = get_or paths c.args.scope [] in
    c.denotes.ensures.path
    ∙ ap (λ ns. denoted (is_named_in paths ns) c.args.name.now scope) c.deref.ensures.value
    ∙ denoted_same (is_named_in paths c.args.index.now.named.items) (is_named d) agrees c.args.name.now scope
