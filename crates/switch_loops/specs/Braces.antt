-- What stands in the braces of a form, by its operator.
use Rattle.asl_tree.specs.declared.term.Control.TheVariants as Control
use Rattle.asl_tree.specs.declared.term.Declaration.TheVariants as Declaration
use Rattle.asl_tree.specs.declared.term.Op.{Op}
use Rattle.switch_loops.specs.declared.braces.Braces.{Braces}

abbrev pub braces_of : Op → Braces
braces_of (Op.Declaration Declaration.Method) = Braces.Method
braces_of (Op.Declaration Declaration.Device) = Braces.Terms
braces_of (Op.Declaration Declaration.ThermalZone) = Braces.Terms
braces_of (Op.Declaration Declaration.PowerResource) = Braces.Terms
braces_of (Op.Declaration Declaration.Processor) = Braces.Terms
braces_of (Op.Declaration Declaration.Scope) = Braces.Terms
braces_of (Op.Control Control.If) = Braces.Terms
braces_of (Op.Control Control.ElseIf) = Braces.Terms
braces_of (Op.Control Control.Else) = Braces.Terms
braces_of (Op.Control Control.While) = Braces.Terms
braces_of (Op.Control Control.Switch) = Braces.Cases
braces_of op = Braces.Other
