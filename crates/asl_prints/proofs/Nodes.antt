-- Nodes as trees.
use Rattle.std.proofs.Common.{◌≡◌, ℕ, zero, suc, List, [], ◌∷◌, ◌++◌, length, take, ◌+◌, ◌<◌, get_or, Vec, Global, refl, sym, ap, ◌∙◌, arith}
use Rattle.asl_tree.specs.declared.path.Path.{Path as Name}
use Rattle.asl_tree.specs.declared.term.Op.{Op}
use Rattle.asl_tree.specs.declared.term.Node.{Node}
use Rattle.asl_tree.specs.declared.term.Term.{Term}
use Rattle.asl_tree.specs.declared.term.Term as D
use Rattle.asl_tree.specs.View.{form, tree_of, row_trees, trees_of}
use Rattle.asl_tree.specs.Tree.{At, Call, no_trees, tree}
use Rattle.asl_prints.specs.Forms.{followed}
use Rattle.asl_prints.specs.Nodes.{node_tree, term_size, row_size, nodes_size}
use mathlib.Core.Former.{Count}

pub rows : (m : _) (row : D.Row_of-Node m) → row_trees row ≡ trees_of (D.items-the_row-Node m row)
unfolding tree_of trees_of
rows m D.end_of-Node = refl
rows m (D.more_of-Node id place term rest) = ap (tree (tree_of (record { id = id; place = place }) term)) (rows _ rest)

abbrev pub args_row : Term → (n : Count) × D.Row_of-Node n
args_row (D.Form' op shape args shape' body) = (_, args)
args_row (D.Call' path shape args) = (_, args)
args_row _ = (_, D.end_of-Node)

abbrev pub body_row : Term → (n : Count) × D.Row_of-Node n
body_row (D.Form' op shape args shape' body) = (_, body)
body_row _ = (_, D.end_of-Node)

pub form_tree : (at : At) (op : Op) (args body : Vec Node Global) → tree_of at (D.Form op args body) ≡ form at op (trees_of args.items) (trees_of body.items)
unfolding tree_of
form_tree at op args body =
    let a = args_row (D.Form op args body) in
    let b = body_row (D.Form op args body) in
    ap (λ ts. form at op ts (row_trees b.1)) (rows a.0 a.1 ∙ ap trees_of (D.items_hidden-the_row-Node-0 args))
    ∙ ap (λ ts. form at op (trees_of args.items) ts) (rows b.0 b.1 ∙ ap trees_of (D.items_hidden-the_row-Node-0 body))

pub call_tree : (at : At) (path : Name) (args : Vec Node Global) → tree_of at (D.Call path args) ≡ Call at path (trees_of args.items)
unfolding tree_of
call_tree at path args =
    let a = args_row (D.Call path args) in ap (λ ts. Call at path ts) (rows a.0 a.1 ∙ ap trees_of (D.items_hidden-the_row-Node-0 args))

sizes : (m : _) (row : D.Row_of-Node m) → row_size row ≡ nodes_size (D.items-the_row-Node m row)
unfolding term_size nodes_size
sizes m D.end_of-Node = refl
sizes m (D.more_of-Node id place term rest) = ap (λ n. suc (term_size term + n)) (sizes _ rest)

form_size : (op : Op) (args body : Vec Node Global) → term_size (D.Form op args body) ≡ suc (nodes_size args.items + nodes_size body.items)
unfolding term_size
form_size op args body =
    let a = args_row (D.Form op args body) in
    let b = body_row (D.Form op args body) in
    ap (λ n. suc (n + row_size b.1)) (sizes a.0 a.1 ∙ ap nodes_size (D.items_hidden-the_row-Node-0 args))
    ∙ ap (λ n. suc (nodes_size args.items + n)) (sizes b.0 b.1 ∙ ap nodes_size (D.items_hidden-the_row-Node-0 body))

pub form_smaller : (t : Term) (op : Op) (args body : Vec Node Global) (xs ys : List Node) → t ≡ D.Form op args body → xs ≡ args.items → ys ≡ body.items → term_size t ≡ suc (nodes_size xs + nodes_size ys)
form_smaller t op args body xs ys e ea eb =
    ap term_size e ∙ form_size op args body ∙ ap (λ ns. suc (nodes_size ns + nodes_size body.items)) (sym ea) ∙ ap (λ ns. suc (nodes_size xs + nodes_size ns)) (sym eb)

call_size : (path : Name) (args : Vec Node Global) → term_size (D.Call path args) ≡ suc (nodes_size args.items)
unfolding term_size
call_size path args = let a = args_row (D.Call path args) in ap suc (sizes a.0 a.1 ∙ ap nodes_size (D.items_hidden-the_row-Node-0 args))

pub call_smaller : (t : Term) (path : Name) (args : Vec Node Global) (xs : List Node) → t ≡ D.Call path args → xs ≡ args.items → term_size t ≡ suc (nodes_size xs)
call_smaller t path args xs e ea = ap term_size e ∙ call_size path args ∙ ap (λ ns. suc (nodes_size ns)) (sym ea)

pub node_smaller : (nodes : List Node) (i : ℕ) (node : Node) → i < length nodes → node ≡ get_or nodes i node → term_size node.term < nodes_size nodes
unfolding nodes_size
node_smaller [] i node lt e = absurd (omega (arith, lt))
node_smaller (n ∷ nodes) zero node lt e = let h : term_size node.term ≡ term_size n.term = ap (λ (m : Node). term_size m.term) e in omega (arith, h)
node_smaller (n ∷ nodes) (suc i) node lt e = omega (arith, node_smaller nodes i node (omega (arith, lt)) e)

pub behind_all : (nodes : List Node) (node : Node) → trees_of (nodes ++ node ∷ []) ≡ followed (trees_of nodes) (tree (node_tree node) no_trees)
unfolding trees_of
behind_all [] node = refl
behind_all (n ∷ nodes) node = ap (tree (node_tree n)) (behind_all nodes node)

none_taken : (nodes : List Node) → take 0 nodes ≡ []
none_taken [] = refl
none_taken (node ∷ nodes) = refl

pub take_next : (nodes : List Node) (i : ℕ) (node : Node) → i < length nodes → node ≡ get_or nodes i node → take (suc i) nodes ≡ take i nodes ++ node ∷ []
take_next [] i node lt e = absurd (omega (arith, lt))
take_next (n ∷ nodes) zero node lt e = ap (λ ns. n ∷ ns) (none_taken nodes) ∙ ap (λ m. m ∷ []) (sym e)
take_next (n ∷ nodes) (suc i) node lt e = ap (λ ns. n ∷ ns) (take_next nodes i node (omega (arith, lt)) e)
