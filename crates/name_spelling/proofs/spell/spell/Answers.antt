use Rattle.std.proofs.Common.{ap, ◌∙◌}
use Rattle.asl_tree.specs.View.{trees_of}
use Rattle.asl_meaning.specs.Declarations.{is_named, written_external}
use Rattle.acpi_names.specs.Spelled.{spelled_all}
use Rattle.name_spelling.proofs.spell.spell.Goals as goal

pub returns-clause-trees : goal.returns-clause-trees
returns-clause-trees c d counts beside agrees tabled met =
    c.in_ok-spell_all.ensures.spells d counts beside agrees tabled met
    ∙ ap (spelled_all c.args.shorten beside (is_named d) (written_external counts) (trees_of c.args.terms.items)) c.len-count.ensures.root
