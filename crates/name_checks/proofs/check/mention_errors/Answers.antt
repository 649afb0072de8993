use Rattle.std.proofs.Common.{sym, subst}
use Rattle.asl_meaning.specs.Declarations.{with_declared, with_external, in_root, ExternalType}
use Rattle.acpi_names.specs.Mentions.{after}
use Rattle.acpi_names.specs.Shown.{shown, declared_as}
use Rattle.name_checks.specs.Before.{Before}
use Rattle.name_checks.proofs.check.mention_errors.Goals as goal

pub returns-in_ok-declared_errors-in-Declares-clause-noted : goal.returns-in_ok-declared_errors-in-Declares-clause-noted
returns-in_ok-declared_errors-in-Declares-clause-noted g c d before =
    let paths = c.args.facts.now.index.paths in
    let so_far = c.note_declared.new.so_far in
    let what = declared_as paths c.in-Declares.what in
    subst (λ m. Before paths so_far (after (shown paths m) d)) (sym c.in-Declares.is)
    (subst (λ p. Before paths so_far (with_declared p what d)) c.declared_with-path.ensures.path (c.note_declared.ensures.noted d what before))

pub returns-in_ok-external_errors-in-Outside-clause-noted : goal.returns-in_ok-external_errors-in-Outside-clause-noted
returns-in_ok-external_errors-in-Outside-clause-noted g c d before =
    let paths = c.args.facts.now.index.paths in
    let so_far = c.note_outside.new.so_far in
    let external : ExternalType = record { type = c.in-Outside.object; parameters = c.in-Outside.parameters } in
    subst (λ m. Before paths so_far (after (shown paths m) d)) (sym c.in-Outside.is)
    (subst (λ p. Before paths so_far (with_external (in_root p) p external d)) c.declared_at-path.ensures.path (c.note_outside.ensures.noted d before))
