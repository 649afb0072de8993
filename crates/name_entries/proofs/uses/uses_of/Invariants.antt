use Rattle.std.proofs.Common.{[], take}
use Rattle.asl_meaning.specs.Declarations.{Declarations, is_named}
use Rattle.acpi_names.specs.Parts.{Agrees}
use Rattle.acpi_names.specs.Shown.{all_shown}
use Rattle.name_entries.specs.Uses.{Denotes, uses_after}
use Rattle.name_entries.proofs.uses.uses_of.Given as goal

abbrev pub invariant-loop-mention : goal.invariant-loop-mention
invariant-loop-mention l =
    (d : Declarations) → Agrees l.index.paths l.index.named.items d → Denotes l.index.paths (is_named d) l.uses.items (uses_after (take l.mention-index (all_shown l.index.paths l.mentions)) [])
