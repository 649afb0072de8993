use Rattle.std.proofs.Common.{None, ap, ◌∙◌}
use Rattle.acpi_state.specs.Outcomes.{choose}
use Rattle.field_checks.specs.Units.{unit_told}
use Rattle.region_checks.specs.Measures.{fault_in}
use Rattle.region_checks.proofs.check.fault_at_end.Goals as goal

pub returns-in-None : goal.returns-in-None
returns-in-None c paths = ap (λ o. unit_told (choose o None (λ space. fault_in space c.args.faults))) (c.in-None.ensures paths)

pub returns-in-Some : goal.returns-in-Some
returns-in-Some c paths = ap unit_told c.fault_in.ensures ∙ ap (λ o. unit_told (choose o None (λ space. fault_in space c.args.faults))) (c.in-Some.ensures paths)
