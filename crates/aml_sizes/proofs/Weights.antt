-- How much is inside terms: what falls where one is walked.
use Rattle.std.proofs.Common.{◌≡◌, ℕ, zero, suc, List, [], ◌∷◌, length, ◌+◌, ◌<◌, get_or, Vec, Global, refl, sym, ap, ◌∙◌, arith}
use Rattle.asl_tree.specs.declared.path.Path.{Path}
use Rattle.asl_tree.specs.declared.term.Op.{Op}
use Rattle.asl_tree.specs.declared.term.Node.{Node}
use Rattle.asl_tree.specs.declared.term.Term.{Term}
use Rattle.asl_tree.specs.declared.term.Term as D
use Rattle.aml_sizes.proofs.Rows.{args_row, body_row}

unfoldable mutual
  pub term_weight : Term → ℕ
  term_weight (D.Form' op shape args shape' body) = suc (row_weight args + row_weight body)
  term_weight (D.Call' path shape args) = suc (row_weight args)
  term_weight _ = 0

  pub row_weight : {m : _} → D.Row_of-Node m → ℕ
  row_weight D.end_of-Node = 0
  row_weight (D.more_of-Node id place term rest) = suc (term_weight term + row_weight rest)

unfoldable pub nodes_weight : List Node → ℕ
nodes_weight [] = 0
nodes_weight (node ∷ nodes) = suc (term_weight node.term + nodes_weight nodes)

weights : (m : _) (row : D.Row_of-Node m) → row_weight row ≡ nodes_weight (D.items-the_row-Node m row)
unfolding term_weight nodes_weight
weights m D.end_of-Node = refl
weights m (D.more_of-Node id place term rest) = ap (λ n. suc (term_weight term + n)) (weights _ rest)

form_inside : (op : Op) (args body : Vec Node Global) → term_weight (D.Form op args body) ≡ suc (nodes_weight args.items + nodes_weight body.items)
unfolding term_weight
form_inside op args body =
    let a = args_row (D.Form op args body) in
    let b = body_row (D.Form op args body) in
    ap (λ n. suc (n + row_weight b.1)) (weights a.0 a.1 ∙ ap nodes_weight (D.items_hidden-the_row-Node-0 args))
    ∙ ap (λ n. suc (nodes_weight args.items + n)) (weights b.0 b.1 ∙ ap nodes_weight (D.items_hidden-the_row-Node-0 body))

call_inside : (path : Path) (args : Vec Node Global) → term_weight (D.Call path args) ≡ suc (nodes_weight args.items)
unfolding term_weight
call_inside path args = let a = args_row (D.Call path args) in ap suc (weights a.0 a.1 ∙ ap nodes_weight (D.items_hidden-the_row-Node-0 args))

pub form_weight : (t : Term) (op : Op) (args body : Vec Node Global) (xs ys : List Node) → t ≡ D.Form op args body → xs ≡ args.items → ys ≡ body.items → term_weight t ≡ suc (nodes_weight xs + nodes_weight ys)
form_weight t op args body xs ys e ea eb =
    ap term_weight e ∙ form_inside op args body ∙ ap (λ ns. suc (nodes_weight ns + nodes_weight body.items)) (sym ea) ∙ ap (λ ns. suc (nodes_weight xs + nodes_weight ns)) (sym eb)

pub call_weight : (t : Term) (path : Path) (args : Vec Node Global) (xs : List Node) → t ≡ D.Call path args → xs ≡ args.items → term_weight t ≡ suc (nodes_weight xs)
call_weight t path args xs e ea = ap term_weight e ∙ call_inside path args ∙ ap (λ ns. suc (nodes_weight ns)) (sym ea)

pub node_weight : (ns : List Node) (i : ℕ) (d : Node) → i < length ns → term_weight (get_or ns i d).term < nodes_weight ns
unfolding nodes_weight
node_weight [] i d lt = absurd (omega (arith, lt))
node_weight (n ∷ ns) zero d lt = omega arith
node_weight (n ∷ ns) (suc i) d lt = omega (arith, node_weight ns i d (omega (arith, lt)))
