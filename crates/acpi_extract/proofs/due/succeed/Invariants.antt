use Rattle.std.proofs.Common.{◌≡◌, ℕ, List, [], map}
use Rattle.std.specs.Option.{unwrap_or}
use Rattle.std.specs.List.{flat_map}
use Rattle.std.specs.BTreeMap.{get_by_text}
use Rattle.iasl_ports.specs.Delivery.{name_and_bytes}
use Rattle.acpi_extract.specs.Table.{dumped}
use Rattle.acpi_extract.specs.Asking.{asked_by}
use Rattle.acpi_extract.specs.Due.{count_of, numbered, file_of, line_of}
use Rattle.acpi_extract.proofs.due.succeed.Given as goal

abbrev pub invariant-loop-table : goal.invariant-loop-table
invariant-loop-table l = record {
  counted : (stem : List ℕ) → unwrap_or (get_by_text l.counts stem) 0 ≡ count_of stem (map dumped l.yielded);
  files : map name_and_bytes l.files.items ≡ flat_map (file_of (asked_by l.choice)) (numbered [] (map dumped l.yielded));
  text : l.text.items ≡ flat_map (line_of (asked_by l.choice)) (numbered [] (map dumped l.yielded));
}
