use Rattle.asl_tree.specs.View.{trees_of}
use Rattle.acpi_names.specs.Errors.{whole_of}
use Rattle.type_checks.proofs.names.all_named.Given as goal

abbrev pub ghost-named_each : goal.ghost-named_each
ghost-named_each a = whole_of (trees_of a.known.now.terms.now)
