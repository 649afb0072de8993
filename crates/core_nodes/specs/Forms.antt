-- What is counted of a form whose arguments fit it, by its operator.
use Rattle.std.specs.Prelude.{ℕ, ◌+◌, length}
use Rattle.acpi_values.specs.declared.operator.IntOp.TheVariants as IntOp
use Rattle.acpi_values.specs.declared.operator.Plain.{Plain}
use Rattle.asl_tree.specs.declared.term.Op.{Op}
use Rattle.asl_tree.specs.declared.term.Control.TheVariants as Control
use Rattle.asl_tree.specs.declared.term.Declaration.TheVariants as Declaration
use Rattle.asl_tree.specs.declared.term.Special.TheVariants as Special
use Rattle.asl_tree.specs.declared.term.Symbolic.TheVariants as Symbolic
use Rattle.asl_tree.specs.Tree.{Trees, no_trees, tree}
use Rattle.asl_tree.specs.View.{body_bytes}
use Rattle.core_nodes.specs.Nodes.{nodes_in}
use Rattle.core_nodes.specs.Weights.{leaves, leaves_in, copied_in, copied_cases, copied_default}
use Rattle.core_nodes.specs.Whole.{AreWhole}

-- an operator with no operands; three comparisons are LNot of another
abbrev pub operator_nodes : Plain → ℕ
operator_nodes (Plain.Number IntOp.LNotEqual) = 2
operator_nodes (Plain.Number IntOp.LLessEqual) = 2
operator_nodes (Plain.Number IntOp.LGreaterEqual) = 2
operator_nodes op = 1

-- a form beside its arguments and its braces; a Printf has the Debug object as its place
abbrev pub own_nodes : Op → ℕ
own_nodes (Op.Plain op) = operator_nodes op
own_nodes (Op.Symbolic (Symbolic.Operator op)) = operator_nodes op
own_nodes (Op.Control Control.Printf) = 2
own_nodes op = 1

-- its braces, in which a Buffer has bytes
abbrev pub braces_nodes : Op → Trees → ℕ
braces_nodes (Op.Special Special.Buffer) body = length (body_bytes body)
braces_nodes op body = nodes_in body

abbrev pub AreWholeBraces : Op → Trees → Type 0
AreWholeBraces (Op.Special Special.Buffer) body = Unit {0}
AreWholeBraces op body = AreWhole body

module _ (integer : ℕ) where
  -- what stands in the expression that a form is: in that of an operator what stands in its arguments
  abbrev pub form_leaves : Op → Trees → ℕ
  form_leaves (Op.Plain op) args = leaves_in integer args
  form_leaves (Op.Symbolic symbol) args = leaves_in integer args
  form_leaves op args = 0

  -- the step of a For, its third argument
  abbrev pub step_leaves : Trees → ℕ
  step_leaves (tree start (tree test (tree step no_trees))) = leaves integer step
  step_leaves args = 0

  -- the copies of steps in a form, where those before a Continue of the For around it weigh `step`
  abbrev pub form_copied : (step : ℕ) → Op → Trees → Trees → ℕ
  form_copied step (Op.Control Control.Continue) args body = step
  form_copied step (Op.Control Control.For) args body = copied_in integer (step_leaves args) body
  form_copied step (Op.Control Control.If) args body = copied_in integer step body
  form_copied step (Op.Control Control.ElseIf) args body = copied_in integer step body
  form_copied step (Op.Control Control.Else) args body = copied_in integer step body
  form_copied step (Op.Control Control.Switch) args body = copied_cases integer step body + copied_default integer step body
  form_copied step (Op.Control Control.While) args body = copied_in integer 0 body
  form_copied step (Op.Declaration Declaration.Method) args body = copied_in integer 0 body
  form_copied step (Op.Declaration Declaration.Device) args body = copied_in integer 0 body
  form_copied step (Op.Declaration Declaration.ThermalZone) args body = copied_in integer 0 body
  form_copied step (Op.Declaration Declaration.PowerResource) args body = copied_in integer 0 body
  form_copied step (Op.Declaration Declaration.Processor) args body = copied_in integer 0 body
  form_copied step (Op.Declaration Declaration.Scope) args body = copied_in integer 0 body
  form_copied step op args body = 0

  -- those in a form among the Cases of a Switch
  abbrev pub case_copied : (step : ℕ) → Op → Trees → ℕ
  case_copied step (Op.Control Control.Case) body = copied_in integer step body
  case_copied step op body = 0

  -- those in the Default of a Switch, which the form is, or which has what those behind it have
  abbrev pub default_copied : (step : ℕ) → Op → Trees → ℕ → ℕ
  default_copied step (Op.Control Control.Default) body behind = copied_in integer step body
  default_copied step op body behind = behind
