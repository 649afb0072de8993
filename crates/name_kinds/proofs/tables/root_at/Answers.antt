use Rattle.std.proofs.Common.{[], ◌∷◌, get_or, sym, ap, ◌∙◌}
use Rattle.acpi_state.proofs.Lookups.{is_same_path-true}
use Rattle.name_kinds.specs.Kinds.{at_root}
use Rattle.name_kinds.proofs.Lookups.{deep_root}
use Rattle.name_kinds.proofs.tables.root_at.Goals as goal

pub returns-then-is_root : goal.returns-then-is_root
returns-then-is_root c =
    c.root_object.ensures
    ∙ sym (ap at_root (c.in-Some.ensures.below.1 ∙ ap (λ p. c.in-Some.below.1 ∷ p) (is_same_path-true _ [] (sym c.is_root.ensures ∙ c.if-is_root.true))))

pub returns-else-is_root : goal.returns-else-is_root
returns-else-is_root c =
    deep_root c.in-Some.below.1 (get_or c.args.paths.now c.in-Some.below.0 []) (sym c.is_root.ensures ∙ c.if-is_root.false) ∙ sym (ap at_root c.in-Some.ensures.below.1)
