use Rattle.std.proofs.Common.{◌∙◌, ap}
use Rattle.std.specs.Option.{option_map}
use Rattle.acpi_names.specs.Paths.{number_in, is_named_in}
use Rattle.acpi_names.specs.Tables.{entry_at}
use Rattle.name_kinds.specs.Kinds.{type_as}
use Rattle.name_kinds.proofs.Entries.{no_entry}
use Rattle.name_checks.proofs.Noting.{no_flag}
use Rattle.name_checks.proofs.so_far.blank.Goals as goal

pub returns-clause-nothing : goal.returns-clause-nothing
returns-clause-nothing c = record {
  declared = λ path. ap (λ flags. is_named_in c.args.paths.now flags path) c.loop-number.invariant.declared ∙ no_flag c.loop-number.number (number_in c.args.paths.now path);
  externals = λ path. ap (λ t. option_map type_as (entry_at t (number_in c.args.paths.now path))) c.loop-number.invariant.externals ∙ ap (option_map type_as) (no_entry c.loop-number.number (number_in c.args.paths.now path));
}
