use Rattle.std.proofs.Common.{sym, ap, ◌∙◌}
use Rattle.std.specs.Prelude.{if◌then◌else◌}
use Rattle.name_entries.specs.Entries.{object_kind, kind_in}
use Rattle.name_kinds.specs.Ends.{ended}
use Rattle.name_kinds.specs.Kinds.{object_as}
use Rattle.name_entries.specs.declared.kind.ObjectType.TheVariants as N
use Rattle.name_entries.proofs.description.kind_in.Goals as goal

pub returns-in-None : goal.returns-in-None
returns-in-None c p placed nodes flagged = c.kind_at.ensures c.args.paths.now ∙ ap (λ e. kind_in nodes p (ended c.args.paths.now e)) (sym c.in-None.is)

pub returns-then-is_descriptor : goal.returns-then-is_descriptor
returns-then-is_descriptor c p placed nodes flagged =
    sym (ap (λ b. if b then N.Descriptor else object_kind (object_as c.in-Some.end.object)) (sym (c.is_descriptor.ensures p placed nodes flagged) ∙ c.if-is_descriptor.true))
    ∙ ap (λ e. kind_in nodes p (ended c.args.paths.now e)) (sym c.in-Some.is)

pub returns-else-is_descriptor : goal.returns-else-is_descriptor
returns-else-is_descriptor c p placed nodes flagged =
    c.kind_of.ensures
    ∙ sym (ap (λ b. if b then N.Descriptor else object_kind (object_as c.in-Some.end.object)) (sym (c.is_descriptor.ensures p placed nodes flagged) ∙ c.if-is_descriptor.false))
    ∙ ap (λ e. kind_in nodes p (ended c.args.paths.now e)) (sym c.in-Some.is)
