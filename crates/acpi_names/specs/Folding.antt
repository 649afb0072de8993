-- What a walk over terms does to the names of a block.
use Rattle.std.specs.Prelude.{◌≡◌, ◌++◌, Bool, List}
use Rattle.acpi_values.specs.Paths.{AbsolutePath}
use Rattle.asl_tree.specs.declared.term.Op.{Op}
use Rattle.asl_tree.specs.Tree.{Trees}
use Rattle.asl_meaning.specs.Declarations.{Declarations}
use Rattle.acpi_names.specs.declared.part.NameRole.{NameRole}
use Rattle.acpi_names.specs.declared.mention.Mention.{Mention}
use Rattle.acpi_names.specs.declared.mention.Occurrence.{Occurrence}
use Rattle.acpi_names.specs.Mentions as M
use Rattle.acpi_names.specs.Paths.{Extends}
use Rattle.acpi_names.specs.Parts.{Agrees, Leads, declare_part}
use Rattle.acpi_names.specs.Shown.{all_shown, spot_as}
use Rattle.acpi_names.specs.Walked.{part_mentions}

-- mentions are added, for any declarations before with which the flags agree, and any paths behind
abbrev pub TellsIn : List AbsolutePath → List Bool → List AbsolutePath → List Mention → List Mention → (Declarations → List M.Mention) →
    Type 0
TellsIn paths named more old new told =
    (d : Declarations) → Agrees paths named d → (all : List AbsolutePath) → Extends more all → all_shown all new ≡ all_shown all old
    ++ told d

abbrev pub LeadsBy : List AbsolutePath → List Bool → List AbsolutePath → List Bool → NameRole → Trees → Trees → AbsolutePath → Type 0
LeadsBy paths named more flags part args body scope = Leads paths named more flags (declare_part part args body scope)

abbrev pub TellsBy : List AbsolutePath → List Bool → List AbsolutePath → List Mention → List Mention → NameRole → Occurrence → Op
    → Trees → Trees → AbsolutePath → Type 0
TellsBy paths named more old new part here op args body scope =
    TellsIn paths named more old new (part_mentions part (spot_as here) op args body scope)
