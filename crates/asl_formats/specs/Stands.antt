-- What stands for a term: for a For and for what prints something else, where it fits.
use Rattle.std.specs.Prelude.{Bool, true, false}
use Rattle.asl_tree.specs.declared.term.Control.TheVariants as Control
use Rattle.asl_tree.specs.declared.term.Op.{Op}
use Rattle.asl_tree.specs.Tree.{Tree, String, For, Print, Trees, no_trees, tree}
use Rattle.asl_prints.specs.Forms.{is_filled, is_steppable}
use Rattle.asl_formats.specs.declared.stand.Stand.{Stand}
use Rattle.asl_formats.specs.declared.stand.Stand.TheVariants as S

abbrev pub loop_if : Bool → Stand
loop_if true = S.Loop
loop_if false = S.Itself

abbrev pub text_if : Bool → Stand
text_if true = S.Text
text_if false = S.Itself

-- what stands for a term
abbrev pub stand_of : Tree → Stand
stand_of (For start test step body) = loop_if (is_steppable start step body)
stand_of (Print place format args) = text_if (is_filled format args)
stand_of _ = S.Itself

-- the same of a start, a test and a step, and of a format with its arguments
abbrev pub loop_stand : Trees → Trees → Stand
loop_stand (tree start (tree test (tree step no_trees))) body = loop_if (is_steppable start step body)
loop_stand _ body = S.Itself

abbrev pub text_stand : Trees → Stand
text_stand (tree (String format) args) = text_if (is_filled format args)
text_stand _ = S.Itself

-- the same where there may be braces
abbrev pub bare_stand : Trees → Trees → Stand
bare_stand args no_trees = text_stand args
bare_stand args (tree t ts) = S.Itself

abbrev pub behind_first : Trees → Trees
behind_first no_trees = no_trees
behind_first (tree t ts) = ts

-- what stands for a form
abbrev pub form_stand : Op → Trees → Trees → Stand
form_stand (Op.Control Control.For) args body = loop_stand args body
form_stand (Op.Control Control.Printf) (tree (String format) args) no_trees = text_if (is_filled format args)
form_stand (Op.Control Control.Fprintf) (tree place (tree (String format) args)) no_trees = text_if (is_filled format args)
form_stand _ args body = S.Itself
