use Rattle.std.proofs.Common.{sym, ap, ◌∙◌}
use Rattle.acpi_state.specs.Outcomes.{choose}
use Rattle.acpi_names.specs.Paths.{path_with}
use Rattle.name_entries.specs.declared.kind.ObjectType.TheVariants as N
use Rattle.type_checks.specs.Names.{kind_known}
use Rattle.type_checks.proofs.names.named_by.Goals as goal

pub returns-in-Some : goal.returns-in-Some
returns-in-Some g c =
    c.kind_there.ensures ∙ ap (kind_known g.whole) c.scope_in.ensures.path
    ∙ ap (λ t. choose (path_with c.args.facts.now.index.paths t) N.Data (kind_known g.whole)) (sym c.in-Some.is)

pub returns-in-None : goal.returns-in-None
returns-in-None g c = ap (λ t. choose (path_with c.args.facts.now.index.paths t) N.Data (kind_known g.whole)) (sym c.in-None.is)
