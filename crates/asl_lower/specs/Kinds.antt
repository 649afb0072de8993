-- What a term is for lowering, read off its tree and off its shape.
use Rattle.std.specs.Prelude.{Bool, true, false, ◌&&◌}
use Rattle.acpi_values.specs.Operators.{row_of}
use Rattle.asl_tree.specs.declared.term.Op.{Op}
use Rattle.asl_tree.specs.declared.term.Symbolic.TheVariants as Symbolic
use Rattle.asl_tree.specs.Symbols.{takes_target}
use Rattle.asl_tree.specs.Tree.{Tree, Operated, Trees, no_trees}
use Rattle.asl_tree.specs.View.{fits}
use Rattle.acpi_names.specs.Parts.{are}
use Rattle.acpi_names.specs.Walked.{TermShape, OfForm}
use Rattle.asl_lower.specs.declared.kind.TermRole.{TermRole}

abbrev pub flagged : Bool → TermRole → TermRole
flagged true kind = kind
flagged false kind = TermRole.Other

abbrev pub tree_kind : Tree → TermRole
tree_kind (Operated op args) = flagged (takes_target op) (TermRole.Operated op)
tree_kind _ = TermRole.Other

abbrev pub shape_kind : TermShape → TermRole
shape_kind (OfForm (Op.Symbolic (Symbolic.Operator op)) args body) = flagged (are 0 body && fits (row_of op).operands args)
    (flagged (takes_target op) (TermRole.Operated op))
shape_kind _ = TermRole.Other

-- the arguments of a form
abbrev pub shape_args : TermShape → Trees
shape_args (OfForm op args body) = args
shape_args _ = no_trees
