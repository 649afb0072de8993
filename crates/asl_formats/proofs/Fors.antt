-- The nodes of what stands for a For.
use Rattle.std.proofs.Common.{◌≡◌, ◌<◌, ◌≤◌, length, get_or, false, arith, List, [], ◌∷◌, ◌++◌, Vec, Global, refl, sym, ap, ◌∙◌, subst}
use Rattle.std.specs.Prelude.{if◌then◌else◌}
use Rattle.asl_tree.specs.declared.term.Control.TheVariants as Control
use Rattle.asl_tree.specs.declared.term.Op.{Op}
use Rattle.asl_tree.specs.declared.term.Node.{Node}
use Rattle.asl_tree.specs.declared.term.Term.{Term}
use Rattle.asl_tree.specs.declared.term.Term as D
use Rattle.asl_tree.specs.Tree.{At, Tree, For, While, Trees, no_trees, tree}
use Rattle.asl_tree.specs.View.{form, tree_of, row_trees, trees_of}
use Rattle.asl_prints.specs.Forms.{followed, optional, stepped_all, for_trees, spread}
use Rattle.asl_prints.specs.Nodes.{node_tree, DoTheSame}
use Rattle.asl_formats.specs.Steps.{CanStep, IsLoop, for_parts}
use Rattle.asl_prints.proofs.Nodes.{rows, args_row, body_row, form_tree, behind_all}
use Rattle.asl_prints.proofs.ThereForms.{IsThere, there_form}
use Rattle.asl_prints.proofs.Layers.{is_form, no_form}
use Rattle.asl_meaning.specs.Meaning as S
use Rattle.asl_meaning.specs.Meaning.{call_method}
use Rattle.asl_formats.proofs.Settling.{settled_call}
use Rattle.asl_formats.proofs.Formed.{spread_same}

no_nodes : trees_of [] ≡ no_trees
unfolding trees_of
no_nodes = refl

pub one_node : (nodes : List Node) (node : Node) → nodes ≡ [] → trees_of (nodes ++ node ∷ []) ≡ tree (node_tree node) no_trees
one_node nodes node e = ap (λ ns. trees_of (ns ++ node ∷ [])) e ∙ behind_all [] node ∙ ap (λ ts. followed ts (tree (node_tree node) no_trees)) no_nodes

pub is_there : (at : At) (t : Term) → (t ≡ D.Omitted → ⊥) → IsThere (tree_of at t)
unfolding tree_of
is_there at D.Omitted never = absurd (never refl)
is_there at (D.Form' op shape args shape' body) never = there_form at op (row_trees args) (row_trees body)
is_there at t never = refl

pub optional_none : (node : Node) (nodes : List Node) → node.term ≡ D.Omitted → nodes ≡ [] → trees_of nodes ≡ optional (node_tree node)
unfolding tree_of
optional_none node nodes e n = ap trees_of n ∙ no_nodes ∙ sym (ap (λ t. optional (tree_of (record { id = node.id; place = node.place }) t)) e)

pub optional_one : (node copy : Node) (old new : List Node) → (node.term ≡ D.Omitted → ⊥) → node_tree copy ≡ node_tree node → old ≡ [] → new ≡ old ++ copy ∷ [] → trees_of new ≡ optional (node_tree node)
optional_one node copy old new never same n e =
    ap trees_of e ∙ one_node old copy n ∙ ap (λ t. tree t no_trees) same ∙ sym (is_there (record { id = node.id; place = node.place }) node.term never)

pub while_made : (at : At) (test copy : Node) (old : List Node) (args body : Vec Node Global) → node_tree copy ≡ node_tree test → old ≡ [] → args.items ≡ old ++ copy ∷ [] → tree_of at (D.Form (Op.Control Control.While) args body) ≡ While (node_tree test) (trees_of body.items)
while_made at test copy old args body same n e =
    form_tree at (Op.Control Control.While) args body
    ∙ ap (λ ts. form at (Op.Control Control.While) ts (trees_of body.items)) (ap trees_of e ∙ one_node old copy n ∙ ap (λ t. tree t no_trees) same)

-- three nodes as trees
pub three_nodes : (a b c : Node) → trees_of (a ∷ b ∷ c ∷ []) ≡ tree (node_tree a) (tree (node_tree b) (tree (node_tree c) no_trees))
unfolding trees_of
three_nodes a b c = refl

pub other_parts : (args : List Node) (body : Trees) → ((a b c : Node) → args ≡ a ∷ b ∷ c ∷ [] → ⊥) → for_parts (trees_of args) body ≡ no_trees
unfolding trees_of
other_parts [] body h = refl
other_parts (a ∷ []) body h = refl
other_parts (a ∷ b ∷ []) body h = refl
other_parts (a ∷ b ∷ c ∷ []) body h = absurd (h a b c refl)
other_parts (a ∷ b ∷ c ∷ d ∷ ns) body h = refl

pub loop_row : (op : Op) (args body : Vec Node Global) → IsLoop (D.Form op args body) → (op ≡ Op.Control Control.For) × CanStep (trees_of args.items) (trees_of body.items)
loop_row (Op.Control Control.For) args body h =
    let a = args_row (D.Form (Op.Control Control.For) args body) in
    let b = body_row (D.Form (Op.Control Control.For) args body) in
    (refl, subst (λ ts. CanStep ts (trees_of body.items)) (rows a.0 a.1 ∙ ap trees_of (D.items_hidden-the_row-Node-0 args)) (subst (λ ts. CanStep (row_trees a.1) ts) (rows b.0 b.1 ∙ ap trees_of (D.items_hidden-the_row-Node-0 body)) h))
loop_row op args body h = absurd h

pub spread_parts : (at : At) (args body : Trees) → CanStep args body → for_parts args body ≡ spread (form at (Op.Control Control.For) args body) no_trees
spread_parts at (tree start (tree test (tree step no_trees))) body h =
    sym (ap (λ c. if c then followed (for_trees start test step body) no_trees else tree (For start test step body) no_trees) h ∙ none_behind (for_trees start test step body))
  where
    none_behind : (a : Trees) → followed a no_trees ≡ a
    none_behind no_trees = refl
    none_behind (tree t ts) = ap (tree t) (none_behind ts)
spread_parts at args body h = absurd h

pub loop_made : (node : Node) (op : Op) (args body : Vec Node Global) (made : Trees) → node.term ≡ D.Form op args body → IsLoop node.term → made ≡ for_parts (trees_of args.items) (trees_of body.items) → made ≡ spread (node_tree node) no_trees
loop_made node op args body made e h m =
    let at : At = record { id = node.id; place = node.place } in
    let is = loop_row op args body (subst IsLoop e h) in
    m ∙ spread_parts at (trees_of args.items) (trees_of body.items) is.1
    ∙ ap (λ o. spread (form at o (trees_of args.items) (trees_of body.items)) no_trees) (sym is.0)
    ∙ sym (ap (λ t. spread (tree_of at t) no_trees) e ∙ ap (λ t. spread t no_trees) (form_tree at op args body))

-- what stands for a term does what the term does
pub spread_does : (t : Tree) (made : Trees) → made ≡ spread t no_trees → DoTheSame (tree t no_trees) made
spread_does t made e width known turns depth scope due s =
    ap (λ ts. S.run_all width known turns (call_method width known turns depth) ts scope due s) e
    ∙ ap (λ m. m s) (spread_same width known turns (call_method width known turns depth) (settled_call width known turns depth) t no_trees scope due)

-- the nodes of what stands for the parts of a For
pub parts_made : (start test step turn : Node) (args steps made new : List Node) (body inner : Trees) → args ≡ start ∷ test ∷ step ∷ [] → trees_of steps ≡ optional (node_tree step) → inner ≡ followed (stepped_all (trees_of steps) body) (trees_of steps)
    → node_tree turn ≡ While (node_tree test) inner → trees_of made ≡ optional (node_tree start) → new ≡ made ++ turn ∷ [] → trees_of new ≡ for_parts (trees_of args) body
parts_made start test step turn args steps made new body inner a s i w m n =
    ap trees_of n ∙ behind_all made turn ∙ ap (λ ts. followed ts (tree (node_tree turn) no_trees)) m
    ∙ ap (λ t. followed (optional (node_tree start)) (tree t no_trees)) (w ∙ ap (While (node_tree test)) i ∙ ap (λ ts. While (node_tree test) (followed (stepped_all ts body) ts)) s)
    ∙ sym (ap (λ ns. for_parts (trees_of ns) body) a ∙ ap (λ ts. for_parts ts body) (three_nodes start test step))

pub not_loop : (t : Term) → ((o : Op) (v w : Vec Node Global) → t ≡ D.Form o v w → ⊥) → IsLoop t → ⊥
not_loop t not_form h = by_form t (no_form t not_form) h
  where
    by_form : (t : Term) → is_form t ≡ false → IsLoop t → ⊥
    by_form (D.Form' op shape args shape' body) e h = absurd (grind arith)
    by_form t e h = h

pub no_loop : (node : Node) (made : Trees) → ((o : Op) (v w : Vec Node Global) → node.term ≡ D.Form o v w → ⊥) → IsLoop node.term → made ≡ spread (node_tree node) no_trees
no_loop node made not_form h = absurd (not_loop node.term not_form h)

pub three_items : (nodes : List Node) (a b c : Node) → 3 ≤ length nodes → length nodes < 4 → a ≡ get_or nodes 0 a → b ≡ get_or nodes 1 b → c ≡ get_or nodes 2 c → nodes ≡ a ∷ b ∷ c ∷ []
three_items [] a b c h k ea eb ec = absurd (omega (arith, h))
three_items (x ∷ []) a b c h k ea eb ec = absurd (omega (arith, h))
three_items (x ∷ y ∷ []) a b c h k ea eb ec = absurd (omega (arith, h))
three_items (x ∷ y ∷ z ∷ []) a b c h k ea eb ec = ap (λ n. n ∷ y ∷ z ∷ []) (sym ea) ∙ ap (λ n. a ∷ n ∷ z ∷ []) (sym eb) ∙ ap (λ n. a ∷ b ∷ n ∷ []) (sym ec)
three_items (x ∷ y ∷ z ∷ w ∷ nodes) a b c h k ea eb ec = absurd (omega (arith, k))

pub parts_of_three : (start test step turn : Node) (args steps made new : List Node) (body inner : Trees) → 3 ≤ length args → length args < 4 → start ≡ get_or args 0 start → test ≡ get_or args 1 test → step ≡ get_or args 2 step → trees_of steps ≡ optional (node_tree step)
    → inner ≡ followed (stepped_all (trees_of steps) body) (trees_of steps) → node_tree turn ≡ While (node_tree test) inner → trees_of made ≡ optional (node_tree start) → new ≡ made ++ turn ∷ [] → trees_of new ≡ for_parts (trees_of args) body
parts_of_three start test step turn args steps made new body inner h k ea eb ec s i w m n =
    parts_made start test step turn args steps made new body inner (three_items args start test step h k ea eb ec) s i w m n

few_parts : (args : List Node) (body : Trees) → length args < 3 → for_parts (trees_of args) body ≡ no_trees
few_parts args body h = other_parts args body (λ a b c e. let l : length args ≡ 3 = ap length e in omega (arith, h, l))

many_parts : (args : List Node) (body : Trees) → 4 ≤ length args → for_parts (trees_of args) body ≡ no_trees
many_parts args body h = other_parts args body (λ a b c e. let l : length args ≡ 3 = ap length e in omega (arith, h, l))

pub few_made : (args made : List Node) (body : Trees) → length args < 3 → made ≡ [] → trees_of made ≡ for_parts (trees_of args) body
few_made args made body h e = ap trees_of e ∙ no_nodes ∙ sym (few_parts args body h)

pub many_made : (args made : List Node) (body : Trees) → 4 ≤ length args → made ≡ [] → trees_of made ≡ for_parts (trees_of args) body
many_made args made body h e = ap trees_of e ∙ no_nodes ∙ sym (many_parts args body h)
