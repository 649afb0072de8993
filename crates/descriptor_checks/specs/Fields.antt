-- What code knows of the mentions of a block, and of the fields of descriptors that are used.
use Rattle.std.specs.Prelude.{◌≡◌, ◌++◌, ℕ, Bool, List, [], ◌∷◌, get_or, map, filter, Option}
use Rattle.acpi_values.specs.Paths.{AbsolutePath}
use Rattle.acpi_state.specs.Outcomes.{choose}
use Rattle.acpi_names.specs.Mentions.{Mention, Used', Sought}
use Rattle.acpi_names.specs.Paths.{number_in}
use Rattle.acpi_names.specs.Shown.{all_shown}
use Rattle.asl_tree.specs.declared.term.NamedDescriptor.{NamedDescriptor}
use Rattle.name_checks.specs.Messages.{message_of}
use Rattle.descriptor_fields.specs.Nodes.{SaysAt}
use Rattle.descriptor_checks.specs.Resolved.{fields_in}
use Rattle.descriptor_checks.specs.Told.{all_field_errors, all_use_faults, field_owners, is_no_field, is_of_no_descriptor}
use Rattle.descriptor_checks.specs.declared.fields.Fields.{Fields}
use Rattle.descriptor_checks.specs.declared.told.Sorted.{Sorted}

-- the paths with some numbers, and the numbers of those paths that have one
abbrev pub paths_at : List AbsolutePath → List ℕ → List AbsolutePath
paths_at paths numbers = map (λ n. get_or paths n []) numbers

abbrev pub numbers_in : List AbsolutePath → List AbsolutePath → List ℕ
numbers_in paths [] = []
numbers_in paths (path ∷ others) = choose (number_in paths path) [] (λ n. n ∷ []) ++ numbers_in paths others

-- a field that may be a value, by its node
abbrev pub field_place : Mention → ℕ → List (ℕ × ℕ)
field_place (Used' asked at name scope) bit = (at.id, bit) ∷ []
field_place (Sought at name scope) bit = (at.id, bit) ∷ []
field_place m bit = []

-- the fields of some mentions
pub record AreFields (paths : List AbsolutePath) (has : AbsolutePath → Bool) (look : AbsolutePath → Option NamedDescriptor)
    (fields : Fields) (ms : List Mention) : Type 0 where
  pub places : SaysAt fields.places.items (fields_in has look ms)
  pub wrong : fields.wrong.items ≡ map message_of (all_field_errors has look ms)
  pub owners : paths_at paths fields.owners.items ≡ field_owners has look ms

-- some mentions by what they denote, and what is told of uses of descriptors and of their fields
pub record AreSorted (paths : List AbsolutePath) (has : AbsolutePath → Bool) (look : AbsolutePath → Option NamedDescriptor)
    (sorted : Sorted) (ms : List Mention) : Type 0 where
  pub names : all_shown paths sorted.names.items ≡ filter (is_no_field has look) ms
  pub kinds : all_shown paths sorted.kinds.items ≡ filter (is_of_no_descriptor has look) ms
  pub faults : sorted.faults.items ≡ all_use_faults has look ms
