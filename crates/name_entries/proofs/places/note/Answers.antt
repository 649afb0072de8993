use Rattle.std.proofs.Common.{sym, subst}
use Rattle.asl_meaning.specs.Declarations.{in_root}
use Rattle.acpi_names.specs.Shown.{shown, spot_as}
use Rattle.name_entries.specs.Placed.{ArePlaced, placed, with_declared, with_outside}
use Rattle.name_entries.proofs.places.note.Goals as goal

pub returns-in-Declares-clause-placed : goal.returns-in-Declares-clause-placed
returns-in-Declares-clause-placed g c p before =
    let paths = c.args.index.now.paths in
    subst (λ m. ArePlaced paths c.note_declared.new.tables (placed (shown paths m) p)) (sym c.in-Declares.is)
    (subst (λ q. ArePlaced paths c.note_declared.new.tables (with_declared q (spot_as c.in-Declares.at) p)) c.declared_at-number.ensures.path (c.note_declared.ensures.placed p before))

pub returns-in-Outside-clause-placed : goal.returns-in-Outside-clause-placed
returns-in-Outside-clause-placed g c p before =
    let paths = c.args.index.now.paths in
    subst (λ m. ArePlaced paths c.note_outside.new.tables (placed (shown paths m) p)) (sym c.in-Outside.is)
    (subst (λ q. ArePlaced paths c.note_outside.new.tables (with_outside (in_root q) q c.in-Outside.at.place p)) c.declared_at-number-in-Outside.ensures.path (c.note_outside.ensures.placed p before))
