-- What a name denotes, by a table of descriptors.
use Rattle.std.proofs.Common.{◌≡◌, ℕ, ◌<◌, Bool, List, [], length, get_or, Option, Some, sym, ap, ◌∙◌}
use Rattle.std.specs.Prelude.{if◌then◌else◌}
use Rattle.acpi_values.specs.Paths.{AbsolutePath}
use Rattle.acpi_state.specs.Outcomes.{choose}
use Rattle.acpi_names.specs.Paths.{AreDistinct}
use Rattle.acpi_names.specs.Tables.{entry_at, Tabled}
use Rattle.acpi_names.proofs.Closed.{own_number}
use Rattle.asl_tree.specs.Names.{denoted, is_searched}
use Rattle.asl_tree.specs.declared.path.Path.{Path}
use Rattle.asl_tree.specs.declared.term.NamedDescriptor.{NamedDescriptor}
use Rattle.descriptor_checks.specs.Senses.{Sense, Nothing, descriptor_sense, field_sense, sense_of}

module _ (has : AbsolutePath → Bool) (look : AbsolutePath → Option NamedDescriptor) (name : Path) (scope : AbsolutePath) where
  abbrev unnamed : Sense
  unnamed = if is_searched name then Nothing else field_sense look name scope

  abbrev by_denoted : Option AbsolutePath → Sense
  by_denoted o = choose o unnamed (λ path. descriptor_sense (look path))

  -- what the nearest path with a name is
  pub sense_named : (paths : List AbsolutePath) (table : List (Option NamedDescriptor)) (n : ℕ) (o : Option NamedDescriptor) → AreDistinct paths → n < length paths → Tabled paths table look → Some (get_or paths n []) ≡ denoted has name scope → o ≡ entry_at table (Some n) → descriptor_sense o ≡ sense_of has look name scope
  sense_named paths table n o distinct lt tabled there is =
      ap descriptor_sense (is ∙ sym (ap (entry_at table) (own_number paths n distinct lt)) ∙ tabled (get_or paths n [])) ∙ ap by_denoted there
