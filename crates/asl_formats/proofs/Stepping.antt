-- Terms with steps before each Continue, one after another.
use Rattle.std.proofs.Common.{◌≡◌, ℕ, zero, suc, ◌+◌, ◌<◌, Bool, true, false, List, [], ◌∷◌, ◌++◌, length, take, get_or, refl, sym, ap, ◌∙◌, arith}
use Rattle.asl_tree.specs.declared.term.Node.{Node}
use Rattle.asl_tree.specs.Tree.{At, Tree, Continue, Trees, no_trees, tree}
use Rattle.asl_tree.specs.View.{tree_of, trees_of}
use Rattle.asl_prints.specs.Forms.{followed, stepped, stepped_all}
use Rattle.asl_prints.specs.Nodes.{node_tree}
use Rattle.asl_formats.specs.Steps.{steps_before, is_next}
use Rattle.asl_prints.proofs.Nodes.{behind_all, take_next}

pub followed_assoc : (a b c : Trees) → followed (followed a b) c ≡ followed a (followed b c)
followed_assoc no_trees b c = refl
followed_assoc (tree t ts) b c = ap (tree t) (followed_assoc ts b c)

pub followed_none : (a : Trees) → followed a no_trees ≡ a
followed_none no_trees = refl
followed_none (tree t ts) = ap (tree t) (followed_none ts)

pub steps_of_next : (steps : Trees) (t : Tree) → is_next t ≡ true → steps_before steps t ≡ steps
steps_of_next steps Continue h = refl
steps_of_next steps t h = absurd (grind arith)

pub steps_of_other : (steps : Trees) (t : Tree) → is_next t ≡ false → steps_before steps t ≡ no_trees
steps_of_other steps Continue h = absurd (grind arith)
steps_of_other steps t h = refl

-- a term before others
stepped_first : (steps : Trees) (t : Tree) (ts : Trees) → stepped_all steps (tree t ts) ≡ followed (followed (steps_before steps t) (tree (stepped steps t) no_trees)) (stepped_all steps ts)
stepped_first steps Continue ts = sym (followed_assoc steps (tree Continue no_trees) (stepped_all steps ts))
stepped_first steps t ts = refl

stepped_joined : (steps xs ys : Trees) → stepped_all steps (followed xs ys) ≡ followed (stepped_all steps xs) (stepped_all steps ys)
stepped_joined steps no_trees ys = refl
stepped_joined steps (tree t ts) ys =
    let one = followed (steps_before steps t) (tree (stepped steps t) no_trees) in
    stepped_first steps t (followed ts ys) ∙ ap (followed one) (stepped_joined steps ts ys) ∙ sym (followed_assoc one (stepped_all steps ts) (stepped_all steps ys))
    ∙ sym (ap (λ us. followed us (stepped_all steps ys)) (stepped_first steps t ts))

pub none_taken : (nodes : List Node) → take 0 nodes ≡ []
none_taken [] = refl
none_taken (node ∷ nodes) = refl

no_nodes : trees_of [] ≡ no_trees
unfolding trees_of
no_nodes = refl

pub all_taken : (nodes : List Node) (i : ℕ) → (i < length nodes → ⊥) → take i nodes ≡ nodes
all_taken [] zero h = refl
all_taken [] (suc i) h = refl
all_taken (node ∷ nodes) zero h = absurd (h (omega arith))
all_taken (node ∷ nodes) (suc i) h = ap (λ ns. node ∷ ns) (all_taken nodes i (λ lt. h (omega (arith, lt))))

-- the first of some nodes, with the next one
pub taken_next : (nodes : List Node) (i : ℕ) (node : Node) → i < length nodes → node ≡ get_or nodes i node → trees_of (take (i + 1) nodes) ≡ followed (trees_of (take i nodes)) (tree (node_tree node) no_trees)
taken_next nodes i node lt is =
    let one : i + 1 ≡ suc i = omega arith in
    ap (λ n. trees_of (take n nodes)) one ∙ ap trees_of (take_next nodes i node lt is) ∙ behind_all (take i nodes) node

pub appended_none : (front nodes : List Node) → trees_of front ≡ followed (trees_of front) (trees_of (take 0 nodes))
appended_none front nodes = sym (ap (λ ns. followed (trees_of front) (trees_of ns)) (none_taken nodes) ∙ ap (followed (trees_of front)) no_nodes ∙ followed_none (trees_of front))

pub appended_next : (front nodes old new : List Node) (i : ℕ) (node copy : Node) → i < length nodes → node ≡ get_or nodes i node → trees_of old ≡ followed (trees_of front) (trees_of (take i nodes)) → node_tree copy ≡ node_tree node → new ≡ old ++ copy ∷ []
    → trees_of new ≡ followed (trees_of front) (trees_of (take (i + 1) nodes))
appended_next front nodes old new i node copy lt is h same e =
    ap trees_of e ∙ behind_all old copy ∙ ap (λ ts. followed ts (tree (node_tree copy) no_trees)) h ∙ ap (λ t. followed (followed (trees_of front) (trees_of (take i nodes))) (tree t no_trees)) same
    ∙ followed_assoc (trees_of front) (trees_of (take i nodes)) (tree (node_tree node) no_trees) ∙ ap (followed (trees_of front)) (sym (taken_next nodes i node lt is))

pub appended_all : (front nodes all : List Node) (i : ℕ) → (i < length nodes → ⊥) → trees_of all ≡ followed (trees_of front) (trees_of (take i nodes)) → trees_of all ≡ followed (trees_of front) (trees_of nodes)
appended_all front nodes all i h e = e ∙ ap (λ ns. followed (trees_of front) (trees_of ns)) (all_taken nodes i h)

pub stepped_none : (steps : Trees) (nodes made : List Node) → made ≡ [] → trees_of made ≡ stepped_all steps (trees_of (take 0 nodes))
stepped_none steps nodes made e = ap trees_of e ∙ no_nodes ∙ sym (ap (stepped_all steps) (ap trees_of (none_taken nodes) ∙ no_nodes))

pub stepped_next : (steps : Trees) (nodes old front new : List Node) (i : ℕ) (node copy : Node) → i < length nodes → node ≡ get_or nodes i node → trees_of old ≡ stepped_all steps (trees_of (take i nodes))
    → trees_of front ≡ followed (trees_of old) (steps_before steps (node_tree node)) → node_tree copy ≡ stepped steps (node_tree node) → new ≡ front ++ copy ∷ [] → trees_of new ≡ stepped_all steps (trees_of (take (i + 1) nodes))
stepped_next steps nodes old front new i node copy lt is h f same e =
    let one = tree (stepped steps (node_tree node)) no_trees in
    let ts = trees_of (take i nodes) in
    ap trees_of e ∙ behind_all front copy ∙ ap (λ us. followed us (tree (node_tree copy) no_trees)) f ∙ ap (λ t. followed (followed (trees_of old) (steps_before steps (node_tree node))) (tree t no_trees)) same
    ∙ followed_assoc (trees_of old) (steps_before steps (node_tree node)) one ∙ ap (λ us. followed us (followed (steps_before steps (node_tree node)) one)) h
    ∙ sym (ap (followed (stepped_all steps ts)) (stepped_first steps (node_tree node) no_trees ∙ followed_none (followed (steps_before steps (node_tree node)) one)))
    ∙ sym (stepped_joined steps ts (tree (node_tree node) no_trees)) ∙ ap (stepped_all steps) (sym (taken_next nodes i node lt is))

-- some first terms, and the next one
pub stepped_taken : (steps : Trees) (nodes : List Node) (i : ℕ) (node : Node) → i < length nodes → node ≡ get_or nodes i node
    → stepped_all steps (trees_of (take (i + 1) nodes)) ≡ followed (followed (stepped_all steps (trees_of (take i nodes))) (steps_before steps (node_tree node))) (tree (stepped steps (node_tree node)) no_trees)
stepped_taken steps nodes i node lt is =
    let one = tree (stepped steps (node_tree node)) no_trees in
    let ts = trees_of (take i nodes) in
    ap (stepped_all steps) (taken_next nodes i node lt is) ∙ stepped_joined steps ts (tree (node_tree node) no_trees)
    ∙ ap (followed (stepped_all steps ts)) (stepped_first steps (node_tree node) no_trees ∙ followed_none (followed (steps_before steps (node_tree node)) one))
    ∙ sym (followed_assoc (stepped_all steps ts) (steps_before steps (node_tree node)) one)

pub stepped_last : (steps : Trees) (nodes made : List Node) (i : ℕ) → (i < length nodes → ⊥) → trees_of made ≡ stepped_all steps (trees_of (take i nodes)) → trees_of made ≡ stepped_all steps (trees_of nodes)
stepped_last steps nodes made i h e = e ∙ ap (λ ns. stepped_all steps (trees_of ns)) (all_taken nodes i h)

pub before_next : (steps front all : Trees) (node : Node) (b : Bool) → ((at : At) → is_next (tree_of at node.term) ≡ b) → b ≡ true → all ≡ followed front steps → all ≡ followed front (steps_before steps (node_tree node))
before_next steps front all node b h e a =
    a ∙ sym (ap (followed front) (steps_of_next steps (node_tree node) (h (record { id = node.id; place = node.place }) ∙ e)))

pub before_other : (steps front : Trees) (node : Node) (b : Bool) → ((at : At) → is_next (tree_of at node.term) ≡ b) → b ≡ false → front ≡ followed front (steps_before steps (node_tree node))
before_other steps front node b h e =
    sym (ap (followed front) (steps_of_other steps (node_tree node) (h (record { id = node.id; place = node.place }) ∙ e)) ∙ followed_none front)
