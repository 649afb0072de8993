-- What a term is for the runs of Externals, read off its tree and off its shape.
use Rattle.std.specs.Prelude.{Bool, true, false}
use Rattle.asl_tree.specs.declared.term.Control.TheVariants as Control
use Rattle.asl_tree.specs.declared.term.Declaration.TheVariants as Declaration
use Rattle.asl_tree.specs.declared.term.Op.{Op}
use Rattle.asl_tree.specs.Tree.{Tree, External, ElseIf, Else}
use Rattle.acpi_names.specs.Parts.{are, part_of}
use Rattle.acpi_names.specs.Walked.{TermShape, OfForm}
use Rattle.acpi_names.specs.declared.part.NameRole.{NameRole}
use Rattle.acpi_names.specs.declared.part.NameRole.TheVariants as P
use Rattle.wrapped_externals.specs.declared.kind.TermRole.{TermRole}

abbrev pub tree_kind : Tree → TermRole
tree_kind (External here at name type parameters) = TermRole.External
tree_kind (ElseIf test body) = TermRole.Branch
tree_kind (Else body) = TermRole.Branch
tree_kind _ = TermRole.Other

abbrev pub flagged : Bool → TermRole
flagged true = TermRole.Branch
flagged false = TermRole.Other

abbrev pub part_kind : NameRole → TermRole
part_kind (P.External type parameters) = TermRole.External
part_kind _ = TermRole.Other

abbrev pub shape_kind : TermShape → TermRole
shape_kind (OfForm (Op.Declaration Declaration.External) args body) = part_kind (part_of (Op.Declaration Declaration.External) args body)
shape_kind (OfForm (Op.Control Control.ElseIf) args body) = flagged (are 1 args)
shape_kind (OfForm (Op.Control Control.Else) args body) = flagged (are 0 args)
shape_kind _ = TermRole.Other
