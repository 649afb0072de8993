-- The nodes of a whole program with what stands for each For and for what prints.
use Rattle.std.specs.Prelude.{List, reverse}
use Rattle.asl_tree.specs.declared.term.Declaration.TheVariants as Declaration
use Rattle.asl_tree.specs.declared.term.Control.TheVariants as Control
use Rattle.asl_tree.specs.declared.term.Special.TheVariants as Special
use Rattle.asl_tree.specs.declared.term.Op.{Op}
use Rattle.asl_tree.specs.declared.term.Node.{Node}
use Rattle.asl_tree.specs.Tree.{Trees, no_trees, tree}
use Rattle.asl_tree.specs.View.{trees_of}
use Rattle.asl_prints.specs.Forms.{formed_args, formed_all, spread}

-- what stands in the braces of a form, with what stands for it
abbrev pub formed_body : Op → Trees → Trees
formed_body (Op.Special Special.Package) body = formed_args body
formed_body (Op.Declaration Declaration.Method) body = formed_all body
formed_body (Op.Declaration Declaration.Device) body = formed_all body
formed_body (Op.Declaration Declaration.ThermalZone) body = formed_all body
formed_body (Op.Declaration Declaration.PowerResource) body = formed_all body
formed_body (Op.Declaration Declaration.Processor) body = formed_all body
formed_body (Op.Declaration Declaration.Scope) body = formed_all body
formed_body (Op.Control Control.If) body = formed_all body
formed_body (Op.Control Control.ElseIf) body = formed_all body
formed_body (Op.Control Control.Else) body = formed_all body
formed_body (Op.Control Control.While) body = formed_all body
formed_body (Op.Control Control.For) body = formed_all body
formed_body (Op.Control Control.Switch) body = formed_all body
formed_body (Op.Control Control.Case) body = formed_all body
formed_body (Op.Control Control.Default) body = formed_all body
formed_body op body = body

-- terms one after another, each with what stands for it
abbrev pub spread_all : Trees → Trees
spread_all no_trees = no_trees
spread_all (tree term terms) = spread term (spread_all terms)

-- the trees of nodes that stand backwards
abbrev pub backwards : List Node → Trees
backwards nodes = trees_of (reverse nodes)
