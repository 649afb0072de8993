-- A For as nodes: its parts, and what stands in its braces with steps before each Continue.
use Rattle.std.specs.Prelude.{◌≡◌, Bool, true, false}
use Rattle.asl_tree.specs.declared.term.Control.TheVariants as Control
use Rattle.asl_tree.specs.declared.term.Op.{Op}
use Rattle.asl_tree.specs.declared.term.Term.{Term}
use Rattle.asl_tree.specs.declared.term.Term as D
use Rattle.asl_tree.specs.Tree.{Tree, Continue, Trees, no_trees, tree}
use Rattle.asl_tree.specs.View.{row_trees}
use Rattle.asl_prints.specs.Forms.{stepped_all, for_trees, is_steppable}

-- what stands in the braces of a form, with steps before each Continue
abbrev pub stepped_body : Trees → Op → Trees → Trees
stepped_body steps (Op.Control Control.If) body = stepped_all steps body
stepped_body steps (Op.Control Control.ElseIf) body = stepped_all steps body
stepped_body steps (Op.Control Control.Else) body = stepped_all steps body
stepped_body steps (Op.Control Control.Switch) body = stepped_all steps body
stepped_body steps (Op.Control Control.Case) body = stepped_all steps body
stepped_body steps (Op.Control Control.Default) body = stepped_all steps body
stepped_body steps op body = body

-- the steps, where a Continue follows
abbrev pub steps_before : Trees → Tree → Trees
steps_before steps Continue = steps
steps_before steps _ = no_trees

abbrev pub is_next : Tree → Bool
is_next Continue = true
is_next _ = false

-- a start, a test and a step, and what stands in the braces: a For that a While may stand for, and what stands for it
abbrev pub CanStep : Trees → Trees → Type 0
CanStep (tree start (tree test (tree step no_trees))) body = is_steppable start step body ≡ true
CanStep _ body = ⊥

abbrev pub for_parts : Trees → Trees → Trees
for_parts (tree start (tree test (tree step no_trees))) body = for_trees start test step body
for_parts _ body = no_trees

-- a For whose step may stand before each of its Continues
abbrev pub IsLoop : Term → Type 0
IsLoop (D.Form' (Op.Control Control.For) shape args shape' body) = CanStep (row_trees args) (row_trees body)
IsLoop _ = ⊥
