-- What a term is for Switches, read off its tree and off its shape.
use Rattle.std.specs.Prelude.{Bool, true, false, ◌&&◌}
use Rattle.asl_tree.specs.declared.term.Control.TheVariants as Control
use Rattle.asl_tree.specs.declared.term.Op.{Op}
use Rattle.asl_tree.specs.declared.term.Node.{Node}
use Rattle.asl_tree.specs.Tree.{Trees}
use Rattle.acpi_names.specs.declared.part.NameRole.{NameRole}
use Rattle.acpi_names.specs.declared.part.NameRole.TheVariants as P
use Rattle.acpi_names.specs.declared.part.What.TheVariants as W
use Rattle.acpi_names.specs.Parts.{are, part_of}
use Rattle.acpi_names.specs.Walked.{TermShape, OfForm, term_shape}
use Rattle.switch_loops.specs.declared.kind.TermRole.{TermRole}

abbrev pub flagged : Bool → TermRole → TermRole
flagged true kind = kind
flagged false kind = TermRole.Other

abbrev pub part_kind : NameRole → TermRole
part_kind (P.Declares n (W.Method flags) true) = TermRole.Method
part_kind (P.Declares n what true) = TermRole.Block
part_kind P.Scope = TermRole.Block
part_kind P.Within = TermRole.Block
part_kind _ = TermRole.Other

abbrev pub form_kind : Op → Trees → Trees → TermRole
form_kind (Op.Control Control.While) args body = flagged (are 1 args) TermRole.Loop
form_kind (Op.Control Control.For) args body = flagged (are 3 args) TermRole.Loop
form_kind (Op.Control Control.Switch) args body = flagged (are 1 args) TermRole.Switch
form_kind (Op.Control Control.Case) args body = flagged (are 1 args) TermRole.Case
form_kind (Op.Control Control.Default) args body = flagged (are 0 args) TermRole.Default
form_kind (Op.Control Control.Continue) args body = flagged (are 0 args && are 0 body) TermRole.Continue
form_kind op args body = part_kind (part_of op args body)

abbrev pub shape_kind : TermShape → TermRole
shape_kind (OfForm op args body) = form_kind op args body
shape_kind _ = TermRole.Other

abbrev pub is_default : TermRole → Bool
is_default TermRole.Default = true
is_default _ = false

-- whether a node is a Default
abbrev pub default_node : Node → Bool
default_node node = is_default (shape_kind (term_shape node.term))
