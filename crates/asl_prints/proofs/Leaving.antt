-- Tests of nodes one after another, and of terms that are no forms.
use Rattle.std.proofs.Common.{◌≡◌, ℕ, zero, suc, ◌+◌, ◌<◌, ◌≤◌, Bool, true, false, not, List, [], ◌∷◌, ◌++◌, length, take, drop, get_or, Vec, Global, refl, sym, ap, ◌∙◌, arith}
use Rattle.std.specs.Prelude.{nat_eq, ◌&&◌, ◌||◌}
use Rattle.std.proofs.lemmas.Bool.Decides.{nat_tests}
use Rattle.asl_tree.specs.declared.path.Path.{Path}
use Rattle.asl_tree.specs.declared.term.Op.{Op}
use Rattle.asl_tree.specs.declared.term.Node.{Node}
use Rattle.asl_tree.specs.declared.term.Term.{Term}
use Rattle.asl_tree.specs.declared.term.Term as D
use Rattle.asl_tree.specs.declared.term.Word.{Word}
use Rattle.asl_tree.specs.Tree.{At, Tree, Integer, Use, Omitted, Trees, no_trees, tree}
use Rattle.asl_tree.specs.View.{form, tree_of, row_trees, trees_of}
use Rattle.asl_meaning.specs.Continues.{has_continue, have_continue}
use Rattle.asl_prints.specs.Forms.{is_given, are_given, has_far_continue, have_far_continue}
use Rattle.asl_prints.specs.Nodes.{node_tree, is_continue, none_in}
use Rattle.asl_prints.specs.Fits.{are, is_use, is_integer, are_integers, integers, is_named_with, braces_in, leaves, leaves_far}
use Rattle.asl_prints.specs.declared.leave.Braces.{Braces}
use Rattle.asl_prints.specs.declared.leave.Braces.TheVariants as B
use Rattle.asl_prints.proofs.Nodes.{form_tree, take_next}
use Rattle.asl_prints.proofs.Continuing.{left_form}
use Rattle.asl_prints.proofs.FarContinuing.{far_form}
use Rattle.asl_prints.proofs.LeafForms.{is_leaf, no_leaf_form}
use Rattle.asl_prints.proofs.ThereForms.{IsThere, there_form}
use Rattle.asl_prints.proofs.Layers.{is_form, no_form}

-- ---- how many

pub nat_eq_suc : (m n : ℕ) → nat_eq (suc m) (suc n) ≡ nat_eq m n
nat_eq_suc m n = by_same (nat_eq m n) refl
  where
    by_same : (b : Bool) → nat_eq m n ≡ b → nat_eq (suc m) (suc n) ≡ b
    by_same true h = grind (arith, nat_tests, h)
    by_same false h = grind (arith, nat_tests, h)

pub are_long : (n : ℕ) (nodes : List Node) → are n (trees_of nodes) ≡ nat_eq (length nodes) n
unfolding trees_of
are_long zero [] = sym (let e : nat_eq 0 0 ≡ true = grind (arith, nat_tests) in e)
are_long zero (node ∷ nodes) = sym (let e : nat_eq (suc (length nodes)) 0 ≡ false = grind (arith, nat_tests) in e)
are_long (suc n) [] = sym (let e : nat_eq 0 (suc n) ≡ false = grind (arith, nat_tests) in e)
are_long (suc n) (node ∷ nodes) = are_long n nodes ∙ sym (nat_eq_suc (length nodes) n)

-- ---- nodes one after another

none_taken : (nodes : List Node) → take 0 nodes ≡ []
none_taken [] = refl
none_taken (node ∷ nodes) = refl

all_taken : (nodes : List Node) (i : ℕ) → (i < length nodes → ⊥) → take i nodes ≡ nodes
all_taken [] zero h = refl
all_taken [] (suc i) h = refl
all_taken (node ∷ nodes) zero h = absurd (h (omega arith))
all_taken (node ∷ nodes) (suc i) h = ap (λ ns. node ∷ ns) (all_taken nodes i (λ lt. h (omega (arith, lt))))

-- whether some of the nodes are such
abbrev some_are : (Tree → Bool) → List Node → Bool
some_are is [] = false
some_are is (node ∷ nodes) = is (node_tree node) || some_are is nodes

or_same : (a b c : Bool) → (a || b) || c ≡ a || (b || c)
or_same true b c = refl
or_same false b c = refl

or_false : (a : Bool) → a || false ≡ a
or_false true = refl
or_false false = refl

or_true : (a : Bool) → a || true ≡ true
or_true true = refl
or_true false = refl

some_behind : (is : Tree → Bool) (nodes : List Node) (node : Node) → some_are is (nodes ++ node ∷ []) ≡ some_are is nodes || is (node_tree node)
some_behind is [] node = or_false (is (node_tree node))
some_behind is (n ∷ nodes) node = ap (λ b. is (node_tree n) || b) (some_behind is nodes node) ∙ sym (or_same (is (node_tree n)) (some_are is nodes) (is (node_tree node)))

some_next : (is : Tree → Bool) (nodes : List Node) (i : ℕ) (node : Node) → i < length nodes → node ≡ get_or nodes i node → some_are is (take i nodes) ≡ false → is (node_tree node) ≡ false → some_are is (take (i + 1) nodes) ≡ false
some_next is nodes i node lt at h e =
    let one : i + 1 ≡ suc i = omega arith in
    ap (λ n. some_are is (take n nodes)) one ∙ ap (some_are is) (take_next nodes i node lt at) ∙ some_behind is (take i nodes) node ∙ ap (λ b. b || is (node_tree node)) h ∙ e

some_found : (is : Tree → Bool) (nodes : List Node) (i : ℕ) (node : Node) → i < length nodes → node ≡ get_or nodes i node → is (node_tree node) ≡ true → some_are is nodes ≡ true
some_found is [] i node lt at e = absurd (omega (arith, lt))
some_found is (n ∷ nodes) zero node lt at e = ap (λ b. b || some_are is nodes) (ap (λ (m : Node). is (node_tree m)) (sym at) ∙ e)
some_found is (n ∷ nodes) (suc i) node lt at e = ap (λ b. is (node_tree n) || b) (some_found is nodes i node (omega (arith, lt)) at e) ∙ or_true (is (node_tree n))

some_none : (is : Tree → Bool) (nodes : List Node) → some_are is (take 0 nodes) ≡ false
some_none is nodes = ap (some_are is) (none_taken nodes)

some_all : (is : Tree → Bool) (nodes : List Node) (i : ℕ) → (i < length nodes → ⊥) → some_are is (take i nodes) ≡ false → some_are is nodes ≡ false
some_all is nodes i h e = ap (some_are is) (sym (all_taken nodes i h)) ∙ e

-- all are such where none is another
abbrev all_are : (Tree → Bool) → Trees → Bool
all_are is no_trees = true
all_are is (tree t ts) = is t && all_are is ts

not_or : (a b : Bool) → (a && not b) ≡ not (not a || b)
not_or true b = refl
not_or false b = refl

all_same : (is : Tree → Bool) (nodes : List Node) → all_are is (trees_of nodes) ≡ not (some_are (λ t. not (is t)) nodes)
unfolding trees_of
all_same is [] = refl
all_same is (node ∷ nodes) = ap (λ b. is (node_tree node) && b) (all_same is nodes) ∙ not_or (is (node_tree node)) (some_are (λ t. not (is t)) nodes)

integers_all : (ts : Trees) → are_integers ts ≡ all_are is_integer ts
integers_all no_trees = refl
integers_all (tree t ts) = ap (λ b. is_integer t && b) (integers_all ts)

given_all : (ts : Trees) → are_given ts ≡ all_are is_given ts
given_all no_trees = refl
given_all (tree t ts) = ap (λ b. is_given t && b) (given_all ts)

continues_some : (nodes : List Node) → have_continue (trees_of nodes) ≡ some_are has_continue nodes
unfolding trees_of
continues_some [] = refl
continues_some (node ∷ nodes) = ap (λ b. has_continue (node_tree node) || b) (continues_some nodes)

far_some : (nodes : List Node) → have_far_continue (trees_of nodes) ≡ some_are has_far_continue nodes
unfolding trees_of
far_some [] = refl
far_some (node ∷ nodes) = ap (λ b. has_far_continue (node_tree node) || b) (far_some nodes)

not_true : (a : Bool) → not a ≡ false → a ≡ true
not_true true e = refl
not_true false e = absurd cc

-- integers
pub integers_none : are_integers (trees_of []) ≡ true
unfolding trees_of
integers_none = refl

of_all : (ts : Trees) (nodes : List Node) → are_integers (trees_of nodes) ≡ true → some_are (λ t. not (is_integer t)) nodes ≡ false
of_all ts nodes e = not_false (some_are (λ t. not (is_integer t)) nodes) (sym (integers_all (trees_of nodes) ∙ all_same is_integer nodes) ∙ e)
  where
    not_false : (a : Bool) → not a ≡ true → a ≡ false
    not_false true e = absurd cc
    not_false false e = refl

pub integers_next : (nodes : List Node) (i : ℕ) (node : Node) → i < length nodes → node ≡ get_or nodes i node → are_integers (trees_of (take i nodes)) ≡ true → is_integer (node_tree node) ≡ true → are_integers (trees_of (take (i + 1) nodes)) ≡ true
integers_next nodes i node lt at h e =
    integers_all (trees_of (take (i + 1) nodes)) ∙ all_same is_integer (take (i + 1) nodes)
    ∙ ap not (some_next (λ t. not (is_integer t)) nodes i node lt at (of_all no_trees (take i nodes) h) (ap not e))

pub integers_other : (nodes : List Node) (i : ℕ) (node : Node) → i < length nodes → node ≡ get_or nodes i node → is_integer (node_tree node) ≡ false → are_integers (trees_of nodes) ≡ false
integers_other nodes i node lt at e =
    integers_all (trees_of nodes) ∙ all_same is_integer nodes ∙ ap not (some_found (λ t. not (is_integer t)) nodes i node lt at (ap not e))

pub integers_last : (nodes : List Node) (i : ℕ) → (i < length nodes → ⊥) → are_integers (trees_of (take i nodes)) ≡ true → are_integers (trees_of nodes) ≡ true
integers_last nodes i h e = ap (λ ns. are_integers (trees_of ns)) (sym (all_taken nodes i h)) ∙ e

-- terms that are there
pub given_none : are_given (trees_of []) ≡ true
unfolding trees_of
given_none = refl

given_some : (nodes : List Node) → are_given (trees_of nodes) ≡ true → some_are (λ t. not (is_given t)) nodes ≡ false
given_some nodes e = not_false (some_are (λ t. not (is_given t)) nodes) (sym (given_all (trees_of nodes) ∙ all_same is_given nodes) ∙ e)
  where
    not_false : (a : Bool) → not a ≡ true → a ≡ false
    not_false true e = absurd cc
    not_false false e = refl

pub given_next : (nodes : List Node) (i : ℕ) (node : Node) → i < length nodes → node ≡ get_or nodes i node → are_given (trees_of (take i nodes)) ≡ true → is_given (node_tree node) ≡ true → are_given (trees_of (take (i + 1) nodes)) ≡ true
given_next nodes i node lt at h e =
    given_all (trees_of (take (i + 1) nodes)) ∙ all_same is_given (take (i + 1) nodes)
    ∙ ap not (some_next (λ t. not (is_given t)) nodes i node lt at (given_some (take i nodes) h) (ap not e))

pub given_other : (nodes : List Node) (i : ℕ) (node : Node) → i < length nodes → node ≡ get_or nodes i node → is_given (node_tree node) ≡ false → are_given (trees_of nodes) ≡ false
given_other nodes i node lt at e =
    given_all (trees_of nodes) ∙ all_same is_given nodes ∙ ap not (some_found (λ t. not (is_given t)) nodes i node lt at (ap not e))

pub given_last : (nodes : List Node) (i : ℕ) → (i < length nodes → ⊥) → are_given (trees_of (take i nodes)) ≡ true → are_given (trees_of nodes) ≡ true
given_last nodes i h e = ap (λ ns. are_given (trees_of ns)) (sym (all_taken nodes i h)) ∙ e

-- a Continue that leaves nodes
pub continue_none : have_continue (trees_of []) ≡ false
unfolding trees_of
continue_none = refl

pub continue_next : (nodes : List Node) (i : ℕ) (node : Node) → i < length nodes → node ≡ get_or nodes i node → have_continue (trees_of (take i nodes)) ≡ false → has_continue (node_tree node) ≡ false → have_continue (trees_of (take (i + 1) nodes)) ≡ false
continue_next nodes i node lt at h e = continues_some (take (i + 1) nodes) ∙ some_next has_continue nodes i node lt at (sym (continues_some (take i nodes)) ∙ h) e

pub continue_found : (nodes : List Node) (i : ℕ) (node : Node) → i < length nodes → node ≡ get_or nodes i node → has_continue (node_tree node) ≡ true → have_continue (trees_of nodes) ≡ true
continue_found nodes i node lt at e = continues_some nodes ∙ some_found has_continue nodes i node lt at e

pub continue_last : (nodes : List Node) (i : ℕ) → (i < length nodes → ⊥) → have_continue (trees_of (take i nodes)) ≡ false → have_continue (trees_of nodes) ≡ false
continue_last nodes i h e = ap (λ ns. have_continue (trees_of ns)) (sym (all_taken nodes i h)) ∙ e

pub far_none : have_far_continue (trees_of []) ≡ false
unfolding trees_of
far_none = refl

pub far_next : (nodes : List Node) (i : ℕ) (node : Node) → i < length nodes → node ≡ get_or nodes i node → have_far_continue (trees_of (take i nodes)) ≡ false → has_far_continue (node_tree node) ≡ false → have_far_continue (trees_of (take (i + 1) nodes)) ≡ false
far_next nodes i node lt at h e = far_some (take (i + 1) nodes) ∙ some_next has_far_continue nodes i node lt at (sym (far_some (take i nodes)) ∙ h) e

pub far_found : (nodes : List Node) (i : ℕ) (node : Node) → i < length nodes → node ≡ get_or nodes i node → has_far_continue (node_tree node) ≡ true → have_far_continue (trees_of nodes) ≡ true
far_found nodes i node lt at e = far_some nodes ∙ some_found has_far_continue nodes i node lt at e

pub far_last : (nodes : List Node) (i : ℕ) → (i < length nodes → ⊥) → have_far_continue (trees_of (take i nodes)) ≡ false → have_far_continue (trees_of nodes) ≡ false
far_last nodes i h e = ap (λ ns. have_far_continue (trees_of ns)) (sym (all_taken nodes i h)) ∙ e

-- ---- a term

pub a_name : (t : Term) (path : Path) → t ≡ D.Name path → (at : At) → is_use (tree_of at t) ≡ true
unfolding tree_of
a_name t path e at = ap (λ t. is_use (tree_of at t)) e

pub use_leaf : (t : Tree) → is_leaf t ≡ false → is_use t ≡ false
use_leaf (Use at name) e = absurd cc
use_leaf t e = refl

pub integer_leaf : (t : Tree) → is_leaf t ≡ false → is_integer t ≡ false
integer_leaf (Integer number) e = absurd cc
integer_leaf t e = refl

pub no_name : (t : Term) → ((path : Path) → t ≡ D.Name path → ⊥) → (at : At) → is_use (tree_of at t) ≡ false
unfolding tree_of
no_name (D.Name path) never at = absurd (never path refl)
no_name (D.Form' op shape args shape' body) never at = use_leaf (form at op (row_trees args) (row_trees body)) (no_leaf_form at op (row_trees args) (row_trees body))
no_name t never at = refl

pub a_number : (t : Term) (number : ℕ) → t ≡ D.Integer number → (at : At) → is_integer (tree_of at t) ≡ true
unfolding tree_of
a_number t number e at = ap (λ t. is_integer (tree_of at t)) e

pub a_word : (t : Term) (word : Word) → t ≡ D.Word word → (at : At) → is_integer (tree_of at t) ≡ true
unfolding tree_of
a_word t word e at = ap (λ t. is_integer (tree_of at t)) e

pub no_number : (t : Term) → ((number : ℕ) → t ≡ D.Integer number → ⊥) → ((word : Word) → t ≡ D.Word word → ⊥) → (at : At) → is_integer (tree_of at t) ≡ false
unfolding tree_of
no_number (D.Integer number) never not_word at = absurd (never number refl)
no_number (D.Word word) never not_word at = absurd (not_word word refl)
no_number (D.Form' op shape args shape' body) never not_word at = integer_leaf (form at op (row_trees args) (row_trees body)) (no_leaf_form at op (row_trees args) (row_trees body))
no_number t never not_word at = refl

pub not_given : (t : Term) → t ≡ D.Omitted → (at : At) → is_given (tree_of at t) ≡ false
unfolding tree_of
not_given t e at = ap (λ t. is_given (tree_of at t)) e

pub there_given : (t : Tree) → IsThere t → is_given t ≡ true
there_given Omitted e = absurd cc
there_given t e = refl

pub a_given : (t : Term) → (t ≡ D.Omitted → ⊥) → (at : At) → is_given (tree_of at t) ≡ true
unfolding tree_of
a_given D.Omitted never at = absurd (never refl)
a_given (D.Form' op shape args shape' body) never at = there_given (form at op (row_trees args) (row_trees body)) (there_form at op (row_trees args) (row_trees body))
a_given t never at = refl

-- a name before integers
first_of : (nodes : List Node) (node : Node) → 1 ≤ length nodes → node ≡ get_or nodes 0 node → trees_of nodes ≡ tree (node_tree node) (trees_of (drop 1 nodes))
unfolding trees_of
first_of [] node h e = absurd (omega (arith, h))
first_of (n ∷ nodes) node h e = ap (λ n. tree (node_tree n) (trees_of nodes)) (sym e)

and_false : (a : Bool) → (a && false) ≡ false
and_false true = refl
and_false false = refl

pub integers_are : (n : ℕ) (ts : Trees) → (are n ts && are_integers ts) ≡ integers n ts
integers_are zero no_trees = refl
integers_are zero (tree t ts) = refl
integers_are (suc n) no_trees = refl
integers_are (suc n) (tree (Integer number) ts) = integers_are n ts
integers_are (suc n) (tree t ts) = and_false (are n ts)

named_are : (n : ℕ) (t : Tree) (ts : Trees) → (is_use t && (are n ts && are_integers ts)) ≡ is_named_with n (tree t ts)
named_are n (Use at name) ts = integers_are n ts
named_are n t ts = refl

pub named_first : (args rest : List Node) (count : ℕ) (name : Node) (first second third result : Bool) → 1 ≤ length args → name ≡ get_or args 0 name → rest ≡ drop 1 args → ((at : At) → is_use (tree_of at name.term) ≡ first) → second ≡ are count (trees_of rest) → third ≡ are_integers (trees_of rest)
    → result ≡ (first && (second && third)) → result ≡ is_named_with count (trees_of args)
named_first args rest count name first second third result h e r f s t is =
    is ∙ ap (λ b. b && (second && third)) (sym (f (record { id = name.id; place = name.place }))) ∙ ap (λ b. is_use (node_tree name) && (b && third)) s ∙ ap (λ b. is_use (node_tree name) && (are count (trees_of rest) && b)) t
    ∙ ap (λ ns. is_use (node_tree name) && (are count (trees_of ns) && are_integers (trees_of ns))) r
    ∙ named_are count (node_tree name) (trees_of (drop 1 args)) ∙ sym (ap (is_named_with count) (first_of args name h e))

pub named_none : (args : List Node) (count : ℕ) → length args < 1 → false ≡ is_named_with count (trees_of args)
unfolding trees_of
named_none [] count h = refl
named_none (node ∷ args) count h = absurd (omega (arith, h))

-- ---- forms

pub left_is : (at : At) (t : Term) (op : Op) (args body : Vec Node Global) (xs ys zs : List Node) (b : Braces) (itself : Bool) → t ≡ D.Form op args body → xs ≡ args.items → b ≡ braces_in op (trees_of xs) → ys ≡ args.items → zs ≡ body.items
    → itself ≡ (is_continue op && (none_in (trees_of ys) && none_in (trees_of zs))) → has_continue (tree_of at t) ≡ leaves b itself (trees_of body.items)
left_is at t op args body xs ys zs b itself e ea eb ey ez i =
    ap (λ t. has_continue (tree_of at t)) e ∙ ap has_continue (form_tree at op args body) ∙ left_form at op (trees_of args.items) (trees_of body.items)
    ∙ ap (λ b. leaves b (is_continue op && (none_in (trees_of args.items) && none_in (trees_of body.items))) (trees_of body.items)) (sym (eb ∙ ap (λ ns. braces_in op (trees_of ns)) ea))
    ∙ ap (λ i. leaves b i (trees_of body.items)) (sym (i ∙ ap (λ ns. is_continue op && (none_in (trees_of ns) && none_in (trees_of zs))) ey ∙ ap (λ ns. is_continue op && (none_in (trees_of args.items) && none_in (trees_of ns))) ez))

left_open : (b : Braces) (itself : Bool) (body : Trees) → (b ≡ B.Closed → ⊥) → leaves b itself body ≡ have_continue body
left_open B.Open itself body never = refl
left_open B.Scope itself body never = refl
left_open B.Closed itself body never = absurd (never refl)

pub left_body : (at : At) (t : Term) (op : Op) (args body : Vec Node Global) (xs zs : List Node) (b : Braces) (result : Bool) → t ≡ D.Form op args body → xs ≡ args.items → b ≡ braces_in op (trees_of xs) → (b ≡ B.Closed → ⊥) → zs ≡ body.items
    → result ≡ have_continue (trees_of zs) → has_continue (tree_of at t) ≡ result
left_body at t op args body xs zs b result e ea eb never ez r =
    left_is at t op args body xs args.items body.items b (is_continue op && (none_in (trees_of args.items) && none_in (trees_of body.items))) e ea eb refl refl refl
    ∙ left_open b (is_continue op && (none_in (trees_of args.items) && none_in (trees_of body.items))) (trees_of body.items) never ∙ sym (r ∙ ap (λ ns. have_continue (trees_of ns)) ez)

pub left_itself : (at : At) (t : Term) (op : Op) (args body : Vec Node Global) (xs ys zs : List Node) (b : Braces) (first second third result : Bool) → t ≡ D.Form op args body → xs ≡ args.items → b ≡ braces_in op (trees_of xs) → b ≡ B.Closed → ys ≡ args.items → zs ≡ body.items
    → first ≡ is_continue op → second ≡ none_in (trees_of ys) → third ≡ none_in (trees_of zs) → result ≡ (first && (second && third)) → has_continue (tree_of at t) ≡ result
left_itself at t op args body xs ys zs b first second third result e ea eb is ey ez f s u r =
    left_is at t op args body xs ys zs b result e ea eb ey ez (r ∙ ap (λ c. c && (second && third)) f ∙ ap (λ c. is_continue op && (c && third)) s ∙ ap (λ c. is_continue op && (none_in (trees_of ys) && c)) u)
    ∙ ap (λ b. leaves b result (trees_of body.items)) is

pub far_is : (at : At) (t : Term) (op : Op) (args body : Vec Node Global) (xs : List Node) (b : Braces) → t ≡ D.Form op args body → xs ≡ args.items → b ≡ braces_in op (trees_of xs) → has_far_continue (tree_of at t) ≡ leaves_far b (trees_of body.items)
far_is at t op args body xs b e ea eb =
    ap (λ t. has_far_continue (tree_of at t)) e ∙ ap has_far_continue (form_tree at op args body) ∙ far_form at op (trees_of args.items) (trees_of body.items)
    ∙ ap (λ b. leaves_far b (trees_of body.items)) (sym (eb ∙ ap (λ ns. braces_in op (trees_of ns)) ea))

pub far_open : (at : At) (t : Term) (op : Op) (args body : Vec Node Global) (xs zs : List Node) (b : Braces) (result : Bool) → t ≡ D.Form op args body → xs ≡ args.items → b ≡ braces_in op (trees_of xs) → b ≡ B.Open → zs ≡ body.items → result ≡ have_far_continue (trees_of zs)
    → has_far_continue (tree_of at t) ≡ result
far_open at t op args body xs zs b result e ea eb is ez r = far_is at t op args body xs b e ea eb ∙ ap (λ b. leaves_far b (trees_of body.items)) is ∙ sym (r ∙ ap (λ ns. have_far_continue (trees_of ns)) ez)

pub far_scope : (at : At) (t : Term) (op : Op) (args body : Vec Node Global) (xs zs : List Node) (b : Braces) (result : Bool) → t ≡ D.Form op args body → xs ≡ args.items → b ≡ braces_in op (trees_of xs) → b ≡ B.Scope → zs ≡ body.items → result ≡ have_continue (trees_of zs)
    → has_far_continue (tree_of at t) ≡ result
far_scope at t op args body xs zs b result e ea eb is ez r = far_is at t op args body xs b e ea eb ∙ ap (λ b. leaves_far b (trees_of body.items)) is ∙ sym (r ∙ ap (λ ns. have_continue (trees_of ns)) ez)

pub far_closed : (at : At) (t : Term) (op : Op) (args body : Vec Node Global) (xs : List Node) (b : Braces) → t ≡ D.Form op args body → xs ≡ args.items → b ≡ braces_in op (trees_of xs) → b ≡ B.Closed → has_far_continue (tree_of at t) ≡ false
far_closed at t op args body xs b e ea eb is = far_is at t op args body xs b e ea eb ∙ ap (λ b. leaves_far b (trees_of body.items)) is

flat_left : (at : At) (t : Term) → is_form t ≡ false → has_continue (tree_of at t) ≡ false
unfolding tree_of
flat_left at (D.Form' op shape args shape' body) e = absurd (grind arith)
flat_left at t e = refl

pub not_left : (at : At) (t : Term) → ((o : Op) (v w : Vec Node Global) → t ≡ D.Form o v w → ⊥) → has_continue (tree_of at t) ≡ false
not_left at t never = flat_left at t (no_form t never)

flat_far : (at : At) (t : Term) → is_form t ≡ false → has_far_continue (tree_of at t) ≡ false
unfolding tree_of
flat_far at (D.Form' op shape args shape' body) e = absurd (grind arith)
flat_far at t e = refl

pub not_far : (at : At) (t : Term) → ((o : Op) (v w : Vec Node Global) → t ≡ D.Form o v w → ⊥) → has_far_continue (tree_of at t) ≡ false
not_far at t never = flat_far at t (no_form t never)
