use Rattle.std.proofs.Common.{◌∙◌, ap}
use Rattle.acpi_names.specs.Paths.{number_in}
use Rattle.acpi_names.specs.Tables.{entry_at}
use Rattle.name_kinds.proofs.Entries.{no_entry}
use Rattle.name_entries.proofs.places.blank.Goals as goal

pub returns-clause-placed : goal.returns-clause-placed
returns-clause-placed c = record {
  declared = λ path. ap (λ t. entry_at t (number_in c.args.paths.now path)) c.loop-number.invariant.declared ∙ no_entry c.loop-number.number (number_in c.args.paths.now path);
  nodes = λ path. ap (λ t. entry_at t (number_in c.args.paths.now path)) c.loop-number.invariant.nodes ∙ no_entry c.loop-number.number (number_in c.args.paths.now path);
  external = λ path. ap (λ t. entry_at t (number_in c.args.paths.now path)) c.loop-number.invariant.external ∙ no_entry c.loop-number.number (number_in c.args.paths.now path);
}
