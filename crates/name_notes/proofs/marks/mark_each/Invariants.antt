use Rattle.std.proofs.Common.{◌≡◌, Bool, length, map, take}
use Rattle.std.specs.Prelude.{◌||◌}
use Rattle.std.specs.List.{list_any}
use Rattle.acpi_values.specs.Paths.{AbsolutePath, is_same_path}
use Rattle.name_notes.specs.Marks.{Marked}
use Rattle.name_notes.proofs.Marking.{at_number}
use Rattle.name_notes.proofs.marks.mark_each.Given as goal

abbrev pub invariant-loop-number : goal.invariant-loop-number
invariant-loop-number l = record {
  sized : length l.flags.items ≡ length l.paths;
  marked : (test : AbsolutePath → Bool) → Marked l.paths l.initial.flags.items test → Marked l.paths l.flags.items (λ path. list_any (is_same_path path) (map (at_number l.paths) (take l.number-index l.numbers)) || test path);
}
