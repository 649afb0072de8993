use Rattle.std.proofs.Common.{◌∙◌, ap}
use Rattle.std.specs.Option.{option_map}
use Rattle.acpi_names.specs.Paths.{number_in}
use Rattle.acpi_names.specs.Tables.{entry_at}
use Rattle.name_kinds.specs.Kinds.{kind_as, type_as}
use Rattle.name_kinds.proofs.Entries.{no_entry}
use Rattle.name_kinds.proofs.facts.blank.Goals as goal

pub returns-clause-notes : goal.returns-clause-notes
returns-clause-notes c has = record {
  kinds = λ path. ap (λ t. option_map (kind_as c.args.index.now.paths) (entry_at t (number_in c.args.index.now.paths path))) c.loop-number.invariant.kinds ∙ ap (option_map (kind_as c.args.index.now.paths)) (no_entry c.loop-number.number (number_in c.args.index.now.paths path));
  externals = λ path. ap (λ t. option_map type_as (entry_at t (number_in c.args.index.now.paths path))) c.loop-number.invariant.externals ∙ ap (option_map type_as) (no_entry c.loop-number.number (number_in c.args.index.now.paths path));
  first = λ path. ap (λ t. entry_at t (number_in c.args.index.now.paths path)) c.loop-number.invariant.calls ∙ no_entry c.loop-number.number (number_in c.args.index.now.paths path);
}
