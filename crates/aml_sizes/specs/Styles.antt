-- How the integers of a block are written.
use Rattle.std.specs.Prelude.{Bool}
use Rattle.acpi_values.specs.Revisions.{width_of}
use Rattle.asl_tree.specs.declared.program.Block.{Block}
use Rattle.aml_sizes.specs.declared.style.IntegerStyle.{IntegerStyle}

-- at the width that its revision gives
abbrev pub style_of : Block → Bool → IntegerStyle
style_of block short = record { width = width_of block.revision; short = short }
