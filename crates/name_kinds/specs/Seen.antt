-- What a block is known to have, by the list of its mentions.
use Rattle.std.specs.Prelude.{ℕ, List, ◌++◌}
use Rattle.acpi_values.specs.Paths.{AbsolutePath}
use Rattle.acpi_state.specs.Objects.{root_objects}
use Rattle.asl_meaning.specs.Declarations.{Declarations, nothing_declared, is_named, called, declared_kinds, external_names, as_known}
use Rattle.acpi_names.specs.Errors.{Whole}
use Rattle.acpi_names.specs.Mentions.{Mention, after_all, calls_in}

abbrev pub known_with : Declarations → List (AbsolutePath × ℕ) → Whole
known_with all calls = record {
  all = all;
  known = declared_kinds (is_named all) all.declared ++ as_known (external_names calls all.external ++ root_objects);
  calls = calls;
}

abbrev pub seen : List Mention → Whole
seen mentions = let all = after_all mentions nothing_declared in known_with all (called (calls_in (is_named all) mentions))
