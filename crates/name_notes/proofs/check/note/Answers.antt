use Rattle.std.proofs.Common.{◌++◌, sym, ap, ◌∙◌, append-nil}
use Rattle.acpi_names.specs.Shown.{spot_as, written_as, shown}
use Rattle.name_notes.specs.Notes.{mention_notes}
use Rattle.name_notes.proofs.check.note.Goals as goal

pub returns-then-is_passed : goal.returns-then-is_passed
returns-then-is_passed g c is_method is_used methods used =
    sym (ap (λ m. c.args.out.now ++ mention_notes is_method is_used (shown c.args.index.now.paths m)) c.in-Declares.is
    ∙ ap (λ ms. c.args.out.now ++ ms) (c.is_passed.ensures c.if-is_passed.true is_method is_used methods (spot_as c.in-Declares.at) (written_as c.in-Declares.name))
    ∙ append-nil c.args.out.now)
