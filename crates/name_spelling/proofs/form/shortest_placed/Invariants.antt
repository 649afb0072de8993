use Rattle.std.proofs.Common.{◌≡◌, ◌<◌, ◌≤◌, ◌-◌, ◌+◌, Bool, true, [], length, get_or, drop}
use Rattle.acpi_values.specs.Paths.{AbsolutePath}
use Rattle.acpi_names.specs.Shortest.{short_element}
use Rattle.name_spelling.proofs.Forms.{left_to_find}
use Rattle.name_spelling.proofs.form.shortest_placed.Given as goal

abbrev pub invariant-loop-below : goal.invariant-loop-below
invariant-loop-below l = record {
  inside : l.around < length l.paths;
  base_in : l.base < length l.paths;
  rest : drop l.count (get_or l.paths l.number []) ≡ get_or l.paths l.around [];
  counted : l.count + length (get_or l.paths l.around []) ≡ length (get_or l.paths l.number []);
  higher : l.up ≡ length (get_or l.paths l.scope []) - length (get_or l.paths l.around []);
  level : get_or l.paths l.base [] ≡ drop l.up (get_or l.paths l.scope []);
  fits : l.best.count ≤ length (get_or l.paths l.number []);
  same : (has : AbsolutePath → Bool) → has (get_or l.paths l.number []) ≡ true → left_to_find has (get_or l.paths l.number []) (get_or l.paths l.scope []) l.best l.count (get_or l.paths l.around []) ≡ short_element has (get_or l.paths l.number []) (get_or l.paths l.scope []);
}

abbrev pub decreases-loop-below : goal.decreases-loop-below
decreases-loop-below l = l.around
