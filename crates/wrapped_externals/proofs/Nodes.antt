-- Lists of nodes that are wrapped, and terms.
use Rattle.std.proofs.Common.{◌≡◌, Bool, true, false, List, [], ◌∷◌, ◌++◌, length, reverse, Vec, Global, refl, sym, ap, ◌∙◌, arith}
use Rattle.std.proofs.lemmas.List.{reverse-append, reverse-reverse}
use Rattle.asl_tree.specs.declared.path.Path.{Path}
use Rattle.asl_tree.specs.declared.term.Op.{Op}
use Rattle.asl_tree.specs.declared.term.Node.{Node}
use Rattle.asl_tree.specs.declared.term.Term.{Term}
use Rattle.asl_tree.specs.declared.term.Term as D
use Rattle.asl_tree.specs.declared.term.Term.TheVariants as V
use Rattle.asl_tree.specs.Tree.{At, Tree, Call, External, ElseIf, Else, Trees, no_trees, tree}
use Rattle.asl_tree.specs.View.{form, tree_of, trees_of}
use Rattle.acpi_names.specs.Parts.{nodes_size}
use Rattle.acpi_names.specs.Walked.{term_shape, node_tree}
use Rattle.acpi_names.proofs.Trees.{form_tree, call_tree}
use Rattle.asl_lower.specs.Nests.{joined, backwards}
use Rattle.asl_lower.proofs.Backwards.{pushed, behind_all, joined_none}
use Rattle.asl_lower.proofs.Lowered.{popped_size}
use Rattle.wrapped_externals.specs.declared.kind.TermRole.{TermRole}
use Rattle.wrapped_externals.specs.Kinds.{tree_kind, shape_kind}
use Rattle.wrapped_externals.specs.Wraps.{leading, in_if, guarded, wrapped, wrapped_args, behind, wrapped_all}
use Rattle.wrapped_externals.specs.Nodes.{resumed, wrapped_body}
use Rattle.wrapped_externals.proofs.Forms.{wrapped_form}
use Rattle.wrapped_externals.proofs.KindRows.{kind_is}

pub none : trees_of [] ≡ no_trees
unfolding trees_of
none = refl

-- ---- terms each by itself, from the last on

args_last : (nodes : List Node) (node : Node) (ts : Trees) → joined (wrapped_args (trees_of (nodes ++ node ∷ []))) ts ≡ joined (wrapped_args (trees_of nodes)) (tree (wrapped (node_tree node)) ts)
unfolding trees_of
args_last [] node ts = refl
args_last (n ∷ nodes) node ts = ap (tree (wrapped (node_tree n))) (args_last nodes node ts)

pub each_none : (nodes made : List Node) → made ≡ [] → joined (wrapped_args (trees_of nodes)) (backwards made) ≡ wrapped_args (trees_of nodes)
each_none nodes made e = ap (λ ns. joined (wrapped_args (trees_of nodes)) (backwards ns)) e ∙ ap (joined (wrapped_args (trees_of nodes))) none ∙ joined_none (wrapped_args (trees_of nodes))

pub each_next : (all left more made new : List Node) (node low : Node) → left ≡ more ++ node ∷ [] → new ≡ made ++ low ∷ [] → node_tree low ≡ wrapped (node_tree node)
    → joined (wrapped_args (trees_of left)) (backwards made) ≡ wrapped_args (trees_of all) → joined (wrapped_args (trees_of more)) (backwards new) ≡ wrapped_args (trees_of all)
each_next all left more made new node low e f same h =
    ap (joined (wrapped_args (trees_of more))) (pushed made new low f ∙ ap (λ t. tree t (backwards made)) same) ∙ sym (args_last more node (backwards made))
    ∙ ap (λ ns. joined (wrapped_args (trees_of ns)) (backwards made)) (sym e) ∙ h

pub each_all : (left made : List Node) → length left ≡ 0 → backwards made ≡ joined (wrapped_args (trees_of left)) (backwards made)
unfolding trees_of
each_all [] made e = refl
each_all (node ∷ left) made e = absurd (omega (arith, e))

-- ---- a list, from the first on

joined_joined : (ts us vs : Trees) → joined (joined ts us) vs ≡ joined ts (joined us vs)
joined_joined no_trees us vs = refl
joined_joined (tree t ts) us vs = ap (tree t) (joined_joined ts us vs)

-- a node by its kind
pub kind_tree : (node : Node) (k : TermRole) → k ≡ shape_kind (term_shape node.term) → tree_kind (node_tree node) ≡ k
kind_tree node k e = kind_is (record { id = node.id; place = node.place }) node.term ∙ sym e

resumed_external : (run : Trees) (t : Tree) (ts : Trees) → tree_kind t ≡ TermRole.External → resumed (joined run (tree t no_trees)) ts ≡ resumed run (tree t ts)
resumed_external run (External here at name type parameters) ts e = ap (λ us. guarded us (behind ts)) (joined_joined run (tree (External here at name type parameters) no_trees) (leading ts))
resumed_external run _ ts e = absurd cc

resumed_branch : (run : Trees) (t : Tree) (ts : Trees) → tree_kind t ≡ TermRole.Branch → resumed run (tree t ts) ≡ joined (in_if run true) (tree (wrapped t) (wrapped_all ts))
resumed_branch run (Else body) ts e = ap (λ us. guarded us (tree (wrapped (Else body)) (wrapped_all ts))) (joined_none run)
resumed_branch run (ElseIf test body) ts e = ap (λ us. guarded us (tree (wrapped (ElseIf test body)) (wrapped_all ts))) (joined_none run)
resumed_branch run _ ts e = absurd cc

resumed_other : (run : Trees) (t : Tree) (ts : Trees) → tree_kind t ≡ TermRole.Other → resumed run (tree t ts) ≡ joined (in_if run false) (tree (wrapped t) (wrapped_all ts))
resumed_other run (Else body) ts e = absurd cc
resumed_other run (ElseIf test body) ts e = absurd cc
resumed_other run (External here at name type parameters) ts e = absurd cc
resumed_other run t ts e = ap (λ us. guarded us (tree (wrapped t) (wrapped_all ts))) (joined_none run)

-- an External behind a run
pub next_external : (made run new : List Node) (node : Node) (k : TermRole) (ts : Trees) → new ≡ run ++ node ∷ [] → k ≡ shape_kind (term_shape node.term) → k ≡ TermRole.External
    → joined (trees_of made) (resumed (trees_of new) ts) ≡ joined (trees_of made) (resumed (trees_of run) (tree (node_tree node) ts))
next_external made run new node k ts e shape is =
    ap (λ us. joined (trees_of made) (resumed us ts)) (ap trees_of e ∙ behind_all run node) ∙ ap (joined (trees_of made)) (resumed_external (trees_of run) (node_tree node) ts (kind_tree node k shape ∙ is))

-- another term behind a run that is put
next_put : (made run new rest : List Node) (node : Node) (kept : Bool) (ts : Trees) → rest ≡ [] → trees_of new ≡ joined (joined (trees_of made) (in_if (trees_of run) kept)) (tree (wrapped (node_tree node)) no_trees)
    → resumed (trees_of run) (tree (node_tree node) ts) ≡ joined (in_if (trees_of run) kept) (tree (wrapped (node_tree node)) (wrapped_all ts))
    → joined (trees_of new) (resumed (trees_of rest) ts) ≡ joined (trees_of made) (resumed (trees_of run) (tree (node_tree node) ts))
next_put made run new rest node kept ts e f h =
    let first = in_if (trees_of run) kept in
    let term = tree (wrapped (node_tree node)) no_trees in
    ap (λ us. joined (trees_of new) (resumed us ts)) (ap trees_of e ∙ none) ∙ ap (λ us. joined us (wrapped_all ts)) f
    ∙ joined_joined (joined (trees_of made) first) term (wrapped_all ts) ∙ joined_joined (trees_of made) first (tree (wrapped (node_tree node)) (wrapped_all ts))
    ∙ ap (joined (trees_of made)) (sym h)

pub next_branch : (made run new rest : List Node) (node : Node) (k : TermRole) (ts : Trees) → rest ≡ [] → trees_of new ≡ joined (joined (trees_of made) (in_if (trees_of run) true)) (tree (wrapped (node_tree node)) no_trees)
    → k ≡ shape_kind (term_shape node.term) → k ≡ TermRole.Branch → joined (trees_of new) (resumed (trees_of rest) ts) ≡ joined (trees_of made) (resumed (trees_of run) (tree (node_tree node) ts))
next_branch made run new rest node k ts e f shape is = next_put made run new rest node true ts e f (resumed_branch (trees_of run) (node_tree node) ts (kind_tree node k shape ∙ is))

pub next_other : (made run new rest : List Node) (node : Node) (k : TermRole) (ts : Trees) → rest ≡ [] → trees_of new ≡ joined (joined (trees_of made) (in_if (trees_of run) false)) (tree (wrapped (node_tree node)) no_trees)
    → k ≡ shape_kind (term_shape node.term) → k ≡ TermRole.Other → joined (trees_of new) (resumed (trees_of rest) ts) ≡ joined (trees_of made) (resumed (trees_of run) (tree (node_tree node) ts))
next_other made run new rest node k ts e f shape is = next_put made run new rest node false ts e f (resumed_other (trees_of run) (node_tree node) ts (kind_tree node k shape ∙ is))

-- what is put behind a run
pub put_behind_trees : (made put new run : List Node) (node low : Node) (kept : Bool) → trees_of put ≡ joined (trees_of made) (in_if (trees_of run) kept) → node_tree low ≡ wrapped (node_tree node) → new ≡ put ++ low ∷ []
    → trees_of new ≡ joined (joined (trees_of made) (in_if (trees_of run) kept)) (tree (wrapped (node_tree node)) no_trees)
put_behind_trees made put new run node low kept h k e =
    ap trees_of e ∙ behind_all put low ∙ ap (λ us. joined us (tree (node_tree low) no_trees)) h ∙ ap (λ t. joined (joined (trees_of made) (in_if (trees_of run) kept)) (tree t no_trees)) k

reversed_size : (nodes : List Node) → nodes_size (reverse nodes) ≡ nodes_size nodes
unfolding nodes_size
reversed_size [] = refl
reversed_size (node ∷ nodes) =
    let h = popped_size (reverse (node ∷ nodes)) (reverse nodes) node (reverse-append (node ∷ []) nodes) in let k = reversed_size nodes in omega (arith, h, k)

pub turned_size : (all left : List Node) → left ≡ reverse all → nodes_size left ≡ nodes_size all
turned_size all left e = ap nodes_size e ∙ reversed_size all

-- all of a list
pub turned : (all left : List Node) → left ≡ reverse all → backwards left ≡ trees_of all
turned all left e = ap backwards e ∙ ap trees_of (reverse-reverse all)

pub list_none : (all left made run : List Node) → left ≡ reverse all → made ≡ [] → run ≡ [] → joined (trees_of made) (resumed (trees_of run) (backwards left)) ≡ wrapped_all (trees_of all)
list_none all left made run e f g =
    ap (λ ts. joined ts (resumed (trees_of run) (backwards left))) (ap trees_of f ∙ none) ∙ ap (λ ts. resumed ts (backwards left)) (ap trees_of g ∙ none) ∙ ap wrapped_all (turned all left e)

pub list_next : (all left more made new run rest : List Node) (node : Node) → left ≡ more ++ node ∷ []
    → ((ts : Trees) → joined (trees_of new) (resumed (trees_of rest) ts) ≡ joined (trees_of made) (resumed (trees_of run) (tree (node_tree node) ts)))
    → joined (trees_of made) (resumed (trees_of run) (backwards left)) ≡ wrapped_all (trees_of all) → joined (trees_of new) (resumed (trees_of rest) (backwards more)) ≡ wrapped_all (trees_of all)
list_next all left more made new run rest node e step h = step (backwards more) ∙ ap (λ ts. joined (trees_of made) (resumed (trees_of run) ts)) (sym (pushed more left node e)) ∙ h

pub list_all : (all left made new run : List Node) → length left ≡ 0 → trees_of new ≡ joined (trees_of made) (in_if (trees_of run) false)
    → joined (trees_of made) (resumed (trees_of run) (backwards left)) ≡ wrapped_all (trees_of all) → trees_of new ≡ wrapped_all (trees_of all)
list_all all [] made new run e f h =
    f ∙ ap (joined (trees_of made)) (sym (ap (resumed (trees_of run)) none ∙ joined_none (in_if (joined (trees_of run) no_trees) false) ∙ ap (λ us. in_if us false) (joined_none (trees_of run)))) ∙ h
list_all all (node ∷ left) made new run e f h = absurd (omega (arith, e))

-- ---- a term

abbrev pub is_flat : Term → Bool
is_flat (D.Call' path shape args) = false
is_flat (D.Form' op shape args shape' body) = false
is_flat _ = true

flat_wrapped : (at : At) (t : Term) → is_flat t ≡ true → tree_of at t ≡ wrapped (tree_of at t)
unfolding tree_of
flat_wrapped at (D.Call' path shape args) e = absurd (grind arith)
flat_wrapped at (D.Form' op shape args shape' body) e = absurd (grind arith)
flat_wrapped at t e = refl

pub is_other : (t : Term) → ((p : Path) (v : Vec Node Global) → t ≡ D.Call p v → ⊥) → ((o : Op) (v w : Vec Node Global) → t ≡ D.Form o v w → ⊥) → is_flat t ≡ true
is_other t not_call not_form = by_layer (D.out-Term t) (sym (D.roll-out-Term t))
  where
    by_layer : (f : D.Term-F Term Node) → t ≡ D.roll-Term f → is_flat t ≡ true
    by_layer (D.Term-F.Call p v) e = absurd (not_call p v (e ∙ V.rolls-Call p v))
    by_layer (D.Term-F.Form o v w) e = absurd (not_form o v w (e ∙ V.rolls-Form o v w))
    by_layer (D.Term-F.Name p) e = ap is_flat (e ∙ V.rolls-Name p)
    by_layer (D.Term-F.Integer n) e = ap is_flat (e ∙ V.rolls-Integer n)
    by_layer (D.Term-F.Text text) e = ap is_flat (e ∙ V.rolls-Text text)
    by_layer (D.Term-F.Fill bytes named) e = ap is_flat (e ∙ V.rolls-Fill bytes named)
    by_layer (D.Term-F.Word word) e = ap is_flat (e ∙ V.rolls-Word word)
    by_layer (D.Term-F.Local n) e = ap is_flat (e ∙ V.rolls-Local n)
    by_layer (D.Term-F.Arg n) e = ap is_flat (e ∙ V.rolls-Arg n)
    by_layer (D.Term-F.Debug) e = ap is_flat (e ∙ V.rolls-Debug)
    by_layer (D.Term-F.Omitted) e = ap is_flat (e ∙ V.rolls-Omitted)
    by_layer (D.Term-F.Unit segment bits) e = ap is_flat (e ∙ V.rolls-Unit segment bits)
    by_layer (D.Term-F.Skip n) e = ap is_flat (e ∙ V.rolls-Skip n)
    by_layer (D.Term-F.Offset n) e = ap is_flat (e ∙ V.rolls-Offset n)
    by_layer (D.Term-F.Access access attribute count) e = ap is_flat (e ∙ V.rolls-Access access attribute count)

pub other_wrapped : (at : At) (t : Term) → ((p : Path) (v : Vec Node Global) → t ≡ D.Call p v → ⊥) → ((o : Op) (v w : Vec Node Global) → t ≡ D.Form o v w → ⊥) → tree_of at t ≡ wrapped (tree_of at t)
other_wrapped at t not_call not_form = flat_wrapped at t (is_other t not_call not_form)

pub call_wrapped : (at : At) (t : Term) (path : Path) (args made : Vec Node Global) → t ≡ D.Call path args → trees_of made.items ≡ wrapped_args (trees_of args.items) → tree_of at (D.Call path made) ≡ wrapped (tree_of at t)
call_wrapped at t path args made e h = call_tree at path made ∙ ap (Call at path) h ∙ ap wrapped (sym (call_tree at path args)) ∙ ap (λ t. wrapped (tree_of at t)) (sym e)

pub term_wrapped : (at : At) (t : Term) (op : Op) (args body made more : Vec Node Global) → t ≡ D.Form op args body → trees_of made.items ≡ wrapped_args (trees_of args.items)
    → trees_of more.items ≡ wrapped_body op (trees_of body.items) → tree_of at (D.Form op made more) ≡ wrapped (tree_of at t)
term_wrapped at t op args body made more e ha hb =
    form_tree at op made more ∙ ap (λ ts. form at op ts (trees_of more.items)) ha ∙ ap (form at op (wrapped_args (trees_of args.items))) hb
    ∙ sym (wrapped_form at op (trees_of args.items) (trees_of body.items)) ∙ ap wrapped (sym (form_tree at op args body)) ∙ ap (λ t. wrapped (tree_of at t)) (sym e)
