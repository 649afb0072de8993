-- Nodes that are formed one after another, from the last on.
use Rattle.std.proofs.Common.{◌≡◌, suc, ◌+◌, Bool, true, false, List, [], ◌∷◌, ◌++◌, length, reverse, Vec, Global, refl, sym, ap, ◌∙◌, arith}
use Rattle.std.proofs.lemmas.List.{reverse-append}
use Rattle.asl_tree.specs.declared.path.Path.{Path}
use Rattle.asl_tree.specs.declared.term.Op.{Op}
use Rattle.asl_tree.specs.declared.term.Node.{Node}
use Rattle.asl_tree.specs.declared.term.Term.{Term}
use Rattle.asl_tree.specs.declared.term.Term as D
use Rattle.asl_tree.specs.declared.term.Term.TheVariants as V
use Rattle.asl_tree.specs.Tree.{At, Call, Trees, no_trees, tree}
use Rattle.asl_tree.specs.View.{form, tree_of, trees_of}
use Rattle.asl_prints.specs.Forms.{followed, formed, formed_all, formed_args, spread}
use Rattle.asl_prints.specs.Nodes.{node_tree, nodes_size, term_size}
use Rattle.asl_formats.specs.Pass.{backwards, formed_body, spread_all}
use Rattle.asl_formats.specs.Stands.{stand_of}
use Rattle.asl_formats.specs.declared.stand.Stand.{Stand}
use Rattle.asl_formats.specs.declared.stand.Stand.TheVariants as S
use Rattle.asl_prints.proofs.Nodes.{form_tree, call_tree}
use Rattle.asl_formats.proofs.FormedForms.{kept_form}
use Rattle.asl_formats.proofs.Stepping.{followed_none}
use Rattle.asl_formats.proofs.Standing.{loop_spread, text_spread, itself_spread}

none : trees_of [] ≡ no_trees
unfolding trees_of
none = refl

one_tree : (node : Node) (nodes : List Node) → trees_of (node ∷ nodes) ≡ tree (node_tree node) (trees_of nodes)
unfolding trees_of
one_tree node nodes = refl

pub pushed : (old new : List Node) (node : Node) → new ≡ old ++ node ∷ [] → backwards new ≡ tree (node_tree node) (backwards old)
pushed old new node e = ap backwards e ∙ ap trees_of (reverse-append old (node ∷ [])) ∙ one_tree node (reverse old)

no_nodes : (nodes : List Node) → length nodes ≡ 0 → trees_of nodes ≡ no_trees
no_nodes [] e = none
no_nodes (node ∷ nodes) e = absurd (omega (arith, e))

none_backwards : (made : List Node) → made ≡ [] → backwards made ≡ no_trees
none_backwards made e = ap backwards e ∙ none

-- ---- sizes

no_size : nodes_size [] ≡ 0
unfolding nodes_size
no_size = refl

last_size : (nodes : List Node) (node : Node) → nodes_size (nodes ++ node ∷ []) ≡ nodes_size nodes + suc (term_size node.term)
unfolding nodes_size
last_size [] node = omega arith
last_size (n ∷ nodes) node = let h = last_size nodes node in omega (arith, h)

pub popped_size : (left more : List Node) (node : Node) → left ≡ more ++ node ∷ [] → nodes_size left ≡ nodes_size more + suc (term_size node.term)
popped_size left more node e = ap nodes_size e ∙ last_size more node

-- ---- terms that are moved

trees_last : (nodes : List Node) (node : Node) (ts : Trees) → followed (trees_of (nodes ++ node ∷ [])) ts ≡ followed (trees_of nodes) (tree (node_tree node) ts)
unfolding trees_of
trees_last [] node ts = refl
trees_last (n ∷ nodes) node ts = ap (tree (node_tree n)) (trees_last nodes node ts)

pub moved_next : (left more made new : List Node) (node : Node) (whole : Trees) → left ≡ more ++ node ∷ [] → new ≡ made ++ node ∷ [] → followed (trees_of left) (backwards made) ≡ whole → followed (trees_of more) (backwards new) ≡ whole
moved_next left more made new node whole e f h =
    ap (followed (trees_of more)) (pushed made new node f) ∙ sym (trees_last more node (backwards made)) ∙ ap (λ ns. followed (trees_of ns) (backwards made)) (sym e) ∙ h

pub moved_all : (left made : List Node) (whole : Trees) → length left ≡ 0 → followed (trees_of left) (backwards made) ≡ whole → backwards made ≡ whole
moved_all left made whole e h = sym (ap (λ ts. followed ts (backwards made)) (no_nodes left e)) ∙ h

-- ---- terms with what stands for them

pub stands_so : (node : Node) (stand wanted : Stand) → ((at : At) → stand_of (tree_of at node.term) ≡ stand) → stand ≡ wanted → stand_of (node_tree node) ≡ wanted
stands_so node stand wanted h e = h (record { id = node.id; place = node.place }) ∙ e

pub loop_put : (old new terms : List Node) (node : Node) → stand_of (node_tree node) ≡ S.Loop → trees_of terms ≡ spread (node_tree node) no_trees → backwards new ≡ followed (trees_of terms) (backwards old) → backwards new ≡ spread (node_tree node) (backwards old)
loop_put old new terms node s t e = e ∙ ap (λ ts. followed ts (backwards old)) t ∙ loop_spread (node_tree node) (backwards old) s

pub text_put : (old new : List Node) (node made : Node) → stand_of (node_tree node) ≡ S.Text → tree (node_tree made) no_trees ≡ spread (node_tree node) no_trees → new ≡ old ++ made ∷ [] → backwards new ≡ spread (node_tree node) (backwards old)
text_put old new node made s t e = pushed old new made e ∙ text_spread (node_tree node) (node_tree made) (backwards old) s t

pub itself_put : (old new : List Node) (node : Node) (stand : Stand) → ((at : At) → stand_of (tree_of at node.term) ≡ stand) → stand ≡ S.Itself → new ≡ old ++ node ∷ [] → backwards new ≡ spread (node_tree node) (backwards old)
itself_put old new node stand h s e = pushed old new node e ∙ itself_spread (node_tree node) (backwards old) (h (record { id = node.id; place = node.place }) ∙ s)

-- terms, each with what stands for it, before others
abbrev pub spread_before : Trees → Trees → Trees
spread_before no_trees rest = rest
spread_before (tree t ts) rest = spread t (spread_before ts rest)

spread_last : (nodes : List Node) (node : Node) (rest : Trees) → spread_before (trees_of (nodes ++ node ∷ [])) rest ≡ spread_before (trees_of nodes) (spread (node_tree node) rest)
unfolding trees_of
spread_last [] node rest = refl
spread_last (n ∷ nodes) node rest = ap (spread (node_tree n)) (spread_last nodes node rest)

spread_none : (ts : Trees) → spread_before ts no_trees ≡ spread_all ts
spread_none no_trees = refl
spread_none (tree t ts) = ap (spread t) (spread_none ts)

pub spread_begun : (nodes made : List Node) → made ≡ [] → spread_before (trees_of nodes) (backwards made) ≡ spread_all (trees_of nodes)
spread_begun nodes made e = ap (spread_before (trees_of nodes)) (none_backwards made e) ∙ spread_none (trees_of nodes)

pub spread_next : (left more made new : List Node) (node : Node) (whole : Trees) → left ≡ more ++ node ∷ [] → backwards new ≡ spread (node_tree node) (backwards made) → spread_before (trees_of left) (backwards made) ≡ whole → spread_before (trees_of more) (backwards new) ≡ whole
spread_next left more made new node whole e f h =
    ap (spread_before (trees_of more)) f ∙ sym (spread_last more node (backwards made)) ∙ ap (λ ns. spread_before (trees_of ns) (backwards made)) (sym e) ∙ h

pub spread_done : (left made : List Node) (whole : Trees) → length left ≡ 0 → spread_before (trees_of left) (backwards made) ≡ whole → backwards made ≡ whole
spread_done left made whole e h = sym (ap (λ ts. spread_before ts (backwards made)) (no_nodes left e)) ∙ h

pub all_spread : (ts : Trees) → spread_all (formed_args ts) ≡ formed_all ts
all_spread no_trees = refl
all_spread (tree t ts) = ap (spread (formed t)) (all_spread ts)

-- ---- terms each by itself

args_last : (nodes : List Node) (node : Node) (ts : Trees) → followed (formed_args (trees_of (nodes ++ node ∷ []))) ts ≡ followed (formed_args (trees_of nodes)) (tree (formed (node_tree node)) ts)
unfolding trees_of
args_last [] node ts = refl
args_last (n ∷ nodes) node ts = ap (tree (formed (node_tree n))) (args_last nodes node ts)

pub each_begun : (nodes made : List Node) → made ≡ [] → followed (formed_args (trees_of nodes)) (backwards made) ≡ formed_args (trees_of nodes)
each_begun nodes made e = ap (followed (formed_args (trees_of nodes))) (none_backwards made e) ∙ followed_none (formed_args (trees_of nodes))

pub each_next : (left more made new : List Node) (node low : Node) (whole : Trees) → left ≡ more ++ node ∷ [] → new ≡ made ++ low ∷ [] → node_tree low ≡ formed (node_tree node)
    → followed (formed_args (trees_of left)) (backwards made) ≡ whole → followed (formed_args (trees_of more)) (backwards new) ≡ whole
each_next left more made new node low whole e f same h =
    ap (followed (formed_args (trees_of more))) (pushed made new low f ∙ ap (λ t. tree t (backwards made)) same) ∙ sym (args_last more node (backwards made))
    ∙ ap (λ ns. followed (formed_args (trees_of ns)) (backwards made)) (sym e) ∙ h

pub each_done : (left made : List Node) (whole : Trees) → length left ≡ 0 → followed (formed_args (trees_of left)) (backwards made) ≡ whole → backwards made ≡ whole
each_done left made whole e h = sym (ap (λ ts. followed (formed_args ts) (backwards made)) (no_nodes left e)) ∙ h

-- ---- a term

abbrev is_flat : Term → Bool
is_flat (D.Call' path shape args) = false
is_flat (D.Form' op shape args shape' body) = false
is_flat _ = true

flat_formed : (at : At) (t : Term) → is_flat t ≡ true → tree_of at t ≡ formed (tree_of at t)
unfolding tree_of
flat_formed at (D.Call' path shape args) e = absurd (grind arith)
flat_formed at (D.Form' op shape args shape' body) e = absurd (grind arith)
flat_formed at t e = refl

pub other_formed : (at : At) (t : Term) → ((p : Path) (v : Vec Node Global) → t ≡ D.Call p v → ⊥) → ((o : Op) (v w : Vec Node Global) → t ≡ D.Form o v w → ⊥) → tree_of at t ≡ formed (tree_of at t)
other_formed at t not_call not_form = flat_formed at t (by_layer (D.out-Term t) (sym (D.roll-out-Term t)))
  where
    by_layer : (f : D.Term-F Term Node) → t ≡ D.roll-Term f → is_flat t ≡ true
    by_layer (D.Term-F.Call p v) e = absurd (not_call p v (e ∙ V.rolls-Call p v))
    by_layer (D.Term-F.Form o v w) e = absurd (not_form o v w (e ∙ V.rolls-Form o v w))
    by_layer (D.Term-F.Name p) e = ap is_flat (e ∙ V.rolls-Name p)
    by_layer (D.Term-F.Integer n) e = ap is_flat (e ∙ V.rolls-Integer n)
    by_layer (D.Term-F.Text text) e = ap is_flat (e ∙ V.rolls-Text text)
    by_layer (D.Term-F.Fill bytes named) e = ap is_flat (e ∙ V.rolls-Fill bytes named)
    by_layer (D.Term-F.Word word) e = ap is_flat (e ∙ V.rolls-Word word)
    by_layer (D.Term-F.Local n) e = ap is_flat (e ∙ V.rolls-Local n)
    by_layer (D.Term-F.Arg n) e = ap is_flat (e ∙ V.rolls-Arg n)
    by_layer (D.Term-F.Debug) e = ap is_flat (e ∙ V.rolls-Debug)
    by_layer (D.Term-F.Omitted) e = ap is_flat (e ∙ V.rolls-Omitted)
    by_layer (D.Term-F.Unit segment bits) e = ap is_flat (e ∙ V.rolls-Unit segment bits)
    by_layer (D.Term-F.Skip n) e = ap is_flat (e ∙ V.rolls-Skip n)
    by_layer (D.Term-F.Offset n) e = ap is_flat (e ∙ V.rolls-Offset n)
    by_layer (D.Term-F.Access access attribute count) e = ap is_flat (e ∙ V.rolls-Access access attribute count)

pub call_formed : (at : At) (t : Term) (path : Path) (args made : Vec Node Global) → t ≡ D.Call path args → trees_of made.items ≡ formed_args (trees_of args.items) → tree_of at (D.Call path made) ≡ formed (tree_of at t)
call_formed at t path args made e h = call_tree at path made ∙ ap (Call at path) h ∙ ap formed (sym (call_tree at path args)) ∙ ap (λ t. formed (tree_of at t)) (sym e)

pub form_formed : (at : At) (t : Term) (op : Op) (args body made more : Vec Node Global) → t ≡ D.Form op args body → trees_of made.items ≡ formed_args (trees_of args.items) → trees_of more.items ≡ formed_body op (trees_of body.items)
    → tree_of at (D.Form op made more) ≡ formed (tree_of at t)
form_formed at t op args body made more e ha hb =
    form_tree at op made more ∙ ap (λ ts. form at op ts (trees_of more.items)) ha ∙ ap (form at op (formed_args (trees_of args.items))) hb
    ∙ sym (kept_form at op (trees_of args.items) (trees_of body.items)) ∙ ap formed (sym (form_tree at op args body)) ∙ ap (λ t. formed (tree_of at t)) (sym e)
