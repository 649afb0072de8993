-- What is said before a mention, by the numbers of paths.
use Rattle.std.specs.Prelude.{◌≡◌, List, length, is_some}
use Rattle.acpi_values.specs.Paths.{AbsolutePath}
use Rattle.acpi_state.specs.Objects.{lookup}
use Rattle.asl_meaning.specs.Declarations.{Declarations}
use Rattle.acpi_names.specs.Paths.{is_named_in}
use Rattle.name_kinds.specs.Kinds.{type_as}
use Rattle.name_kinds.specs.Tables.{TabledBy}
use Rattle.name_checks.specs.declared.so_far.SoFar.{SoFar}

-- an entry for each path
pub record AreSized (paths : List AbsolutePath) (so_far : SoFar) : Type 0 where
  pub declared : length so_far.declared.items ≡ length paths
  pub externals : length so_far.externals.items ≡ length paths

-- what is declared, and what of other tables
pub record Before (paths : List AbsolutePath) (so_far : SoFar) (d : Declarations) : Type 0 where
  pub declared : (path : AbsolutePath) → is_named_in paths so_far.declared.items path ≡ is_some (lookup d.declared path)
  pub externals : TabledBy type_as paths so_far.externals.items (lookup d.external)
