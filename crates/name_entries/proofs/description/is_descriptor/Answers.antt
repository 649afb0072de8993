use Rattle.std.proofs.Common.{ap, ◌∙◌}
use Rattle.acpi_state.specs.Objects.{lookup}
use Rattle.name_entries.specs.Entries.{is_descriptor}
use Rattle.name_entries.proofs.description.is_descriptor.Goals as goal

pub returns-in-None : goal.returns-in-None
returns-in-None c p placed nodes flagged =
    ap (is_descriptor nodes) (c.in-None.ensures p placed) ∙ ap (λ path. is_descriptor nodes (lookup p.nodes path)) c.scope_in.ensures.path

pub returns-in-Some : goal.returns-in-Some
returns-in-Some c p placed nodes flagged =
    c.is_flagged.ensures ∙ flagged c.in-Some.node
    ∙ ap (is_descriptor nodes) (c.in-Some.ensures p placed) ∙ ap (λ path. is_descriptor nodes (lookup p.nodes path)) c.scope_in.ensures.path
