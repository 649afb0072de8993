use Rattle.std.proofs.Common.{◌≡◌, drop}
use Rattle.name_notes.specs.Notes.{reserved_rows, arguments_in}
use Rattle.name_notes.proofs.reserved.arguments_of.Given as goal

abbrev pub invariant-loop-row : goal.invariant-loop-row
invariant-loop-row l = arguments_in (drop l.row-index l.row-items) l.name ≡ arguments_in reserved_rows l.name
