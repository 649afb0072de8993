-- Terms that keep their places where loops stand for Switches.
use Rattle.std.specs.Prelude.{Bool, true, false, not, List}
use Rattle.std.specs.List.{list_all}
use Rattle.asl_tree.specs.declared.term.Control.TheVariants as Control
use Rattle.asl_tree.specs.declared.term.Op.{Op}
use Rattle.asl_tree.specs.declared.term.Node.{Node}
use Rattle.acpi_names.specs.Walked.{term_shape}
use Rattle.switch_loops.specs.Kinds.{shape_kind}
use Rattle.switch_loops.specs.declared.kind.TermRole.{TermRole}

-- a loop stands for a Switch, and something else for a Continue with a Switch around it in the same loop
abbrev pub is_kept : Bool → TermRole → Bool
is_kept inside TermRole.Switch = false
is_kept inside TermRole.Continue = not inside
is_kept inside kind = true

-- the same by the operator of a form, which may be written with other arguments
abbrev pub op_kept : Bool → Op → Bool
op_kept inside (Op.Control Control.Switch) = false
op_kept inside (Op.Control Control.Continue) = not inside
op_kept inside op = true

abbrev pub all_kept : Bool → List Node → Bool
all_kept inside nodes = list_all (λ node. is_kept inside (shape_kind (term_shape node.term))) nodes
