-- What code knows of a block.
use Rattle.std.specs.Prelude.{◌≡◌, length}
use Rattle.asl_meaning.specs.Declarations.{is_named}
use Rattle.acpi_names.specs.Errors.{Whole}
use Rattle.acpi_names.specs.Parts.{Agrees}
use Rattle.name_kinds.specs.Depths.{AreDepths}
use Rattle.name_kinds.specs.Ends.{AreEnds}
use Rattle.name_kinds.specs.Tables.{AreSized, TablesSay, IsKnown}
use Rattle.name_kinds.specs.declared.facts.Facts.{Facts}

pub record Knows (facts : Facts) (whole : Whole) : Type 0 where
  pub flags : length facts.index.named.items ≡ length facts.index.paths
  pub agrees : Agrees facts.index.paths facts.index.named.items whole.all
  pub sized : AreSized facts.index.paths facts.tables
  pub notes : TablesSay facts.index.paths (is_named whole.all) facts.tables whole.calls whole.all
  pub depths : AreDepths facts.index.paths facts.depths.items
  pub known : IsKnown whole
  pub ends : AreEnds facts.index.paths facts.ends.items whole.known
