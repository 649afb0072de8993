-- What is found of the names of a block.
use Rattle.std.specs.Prelude.{◌≡◌, ◌≤◌, Bool, List, [], length}
use Rattle.iasl_messages.specs.declared.message.Message.{Message}
use Rattle.acpi_values.specs.Paths.{AbsolutePath}
use Rattle.acpi_state.specs.Objects.{lookup}
use Rattle.acpi_names.specs.Errors.{whole_of, name_errors, type_errors}
use Rattle.acpi_names.specs.Parts.{Agrees}
use Rattle.acpi_names.specs.Tables.{Tabled, Flags}
use Rattle.asl_meaning.specs.Declarations.{declarations}
use Rattle.asl_tree.specs.Tree.{Trees}
use Rattle.block_checks.specs.declared.names.FoundNames.{FoundNames}
use Rattle.block_checks.specs.declared.names.Findings.{Findings}
use Rattle.block_checks.specs.declared.names.Findings.TheVariants.{Right, Wrong}

-- nothing is wrong with the names of terms, and these are they; flags say which paths stand in their way besides
pub record AreNamesOf (also : AbsolutePath → Bool) (terms : Trees) (found : FoundNames) : Type 0 where
  pub size : length found.index.named.items ≡ length found.index.paths
  pub sized : length found.calls.items ≡ length found.index.paths
  pub few : length found.described.items ≤ length found.index.paths
  pub names : Agrees found.index.paths found.index.named.items (declarations terms)
  pub calls : Tabled found.index.paths found.calls.items (lookup (whole_of terms).calls)
  pub beside : Flags found.index.paths found.described.items also
  pub no_names : name_errors terms ≡ []
  pub no_kinds : type_errors terms ≡ []

-- these are the names of terms of which nothing is told, where such paths stand in their way, or else what is told
abbrev pub IsNamed : Findings → (told : List Message) → (also : AbsolutePath → Bool) → Trees → Type 0
IsNamed (Right found) told also terms = AreNamesOf also terms found × (told ≡ [])
IsNamed (Wrong errors) told also terms = (errors ≡ told) × (errors ≡ [] → ⊥)
