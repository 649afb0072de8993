-- The segments of a name.
use Rattle.std.specs.Prelude.{List, take}
use Rattle.acpi_values.specs.Paths.{NameSeg}
use Rattle.asl_tree.specs.declared.path.Kept.{Kept}
use Rattle.asl_tree.specs.declared.path.Kept.TheVariants.{Inline, Vector}

-- the first so many of its own, or those of its vector
abbrev pub segments_of : Kept → List NameSeg
segments_of (Inline segs count) = take count segs
segments_of (Vector segs) = segs.value.items
