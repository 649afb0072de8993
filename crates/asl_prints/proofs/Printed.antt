-- What stands for a Printf and an Fprintf does what they do.
use Rattle.std.proofs.Common.{◌≡◌, sym, ap, ◌∙◌, subst}
use Rattle.asl_tree.specs.declared.term.Control.TheVariants as Control
use Rattle.asl_tree.specs.declared.term.Op.{Op}
use Rattle.asl_tree.specs.declared.term.Node.{Node}
use Rattle.asl_tree.specs.declared.term.Term.{Term}
use Rattle.asl_tree.specs.declared.term.Term as D
use Rattle.asl_tree.specs.Tree.{At, String, Debug, Tree, Trees, no_trees, tree}
use Rattle.asl_tree.specs.View.{form, tree_of, row_trees}
use Rattle.asl_meaning.specs.Meaning.{call_method}
use Rattle.asl_prints.specs.Forms.{spread}
use Rattle.asl_prints.specs.Nodes.{node_tree, CanPrint, DoTheSame, IsPrint, print_parts}
use Rattle.asl_prints.proofs.Prints.{print_same}
use Rattle.asl_prints.proofs.Writes.{spread_print}

parts_do : (at : At) (op : Op) (args : Trees) → CanPrint op args → DoTheSame (tree (form at op args no_trees) no_trees) (tree (print_parts op args) no_trees)
parts_do at (Op.Control Control.Printf) (tree (String format) args) can width known turns depth scope due s =
    ap (λ m. m s) (print_same width known turns (call_method width known turns depth) scope Debug format args no_trees due can.0)
parts_do at (Op.Control Control.Fprintf) (tree place (tree (String format) args)) can width known turns depth scope due s =
    ap (λ m. m s) (print_same width known turns (call_method width known turns depth) scope place format args no_trees due can.0)
parts_do at op args can width known turns depth scope due s = absurd can

form_does : (at : At) (op : Op) (args body made : Trees) → CanPrint op args → body ≡ no_trees → made ≡ spread (form at op args body) no_trees → DoTheSame (tree (form at op args body) no_trees) made
form_does at op args body made can b e =
    subst (λ (ts : Trees). made ≡ spread (form at op args ts) no_trees → DoTheSame (tree (form at op args ts) no_trees) made) (sym b)
    (λ e. subst (λ (ts : Trees). DoTheSame (tree (form at op args no_trees) no_trees) ts) (spread_print at op args can ∙ sym e) (parts_do at op args can)) e

term_does : (at : At) (t : Term) (made : Trees) → IsPrint t → made ≡ spread (tree_of at t) no_trees → DoTheSame (tree (tree_of at t) no_trees) made
unfolding tree_of
term_does at (D.Form' op shape args shape' body) made h e = form_does at op (row_trees args) (row_trees body) made h.0 h.1 e
term_does at t made h e = absurd h

pub print_does : (node : Node) (made : Tree) → IsPrint node.term → tree made no_trees ≡ spread (node_tree node) no_trees → DoTheSame (tree (node_tree node) no_trees) (tree made no_trees)
print_does node made h e = term_does (record { id = node.id; place = node.place }) node.term (tree made no_trees) h e
