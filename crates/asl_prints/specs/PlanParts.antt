-- The plans of nodes, and of the parts of what stands for what prints.
use Rattle.std.specs.Prelude.{Bool, true, false}
use Rattle.iasl_messages.specs.declared.place.Place.{Place}
use Rattle.acpi_values.specs.declared.operator.DataOp.TheVariants as DataOp
use Rattle.asl_tree.specs.declared.term.Control.TheVariants as Control
use Rattle.asl_tree.specs.declared.term.Op.{Op}
use Rattle.asl_tree.specs.declared.term.Node.{Node}
use Rattle.asl_tree.specs.Formats.{cut}
use Rattle.term_plans.specs.Plans.{Plan, a_text, a_form, debug, omitted, Plans, no_plans, plan, plan_of}
use Rattle.asl_prints.specs.Plans.{operator, with_arguments, is_filled}

-- a node: its place and its plan
abbrev pub placed : Node → Place × Plan
placed node = (node.place, plan_of node.term)

-- a Continue, with nothing in it
abbrev pub is_continue : Plan → Bool
is_continue (a_form (Op.Control Control.Continue) no_plans no_plans) = true
is_continue p = false

-- whether a format has as many arguments as it asks for, and what it says with them
abbrev pub fills : Plans → Bool
fills (plan place (a_text format) args) = is_filled format args
fills args = false

abbrev pub text_plan : Place → Plans → Plan
text_plan here (plan place (a_text format) args) = with_arguments here (a_text (cut format).0) (cut format).1 args
text_plan here args = omitted

-- what a form prints: its arguments are a format with what it asks for, behind a place in an Fprintf
abbrev pub prints : Op → Plans → Bool
prints (Op.Control Control.Printf) args = fills args
prints (Op.Control Control.Fprintf) (plan at target args) = fills args
prints op args = false

abbrev pub stored : Place → Place → Plan → Plans → Plan
stored here at target args = operator DataOp.Store (plan here (text_plan here args) (plan at target no_plans))

-- what stands for a Printf and an Fprintf with these arguments
abbrev pub printed : Place → Op → Plans → Plan
printed here (Op.Control Control.Fprintf) (plan at target args) = stored here at target args
printed here op args = stored here here debug args
