-- Nodes that are changed one after another.
use Rattle.std.proofs.Common.{◌≡◌, ◌≢◌, ℕ, zero, suc, ◌+◌, ◌<◌, ◌≤◌, Bool, true, false, List, [], ◌∷◌, ◌++◌, length, get_or, set, take, Option, Some, None, refl, sym, ap, ◌∙◌, arith, length-set, get_or-set_same, get_or-set_other}
use Rattle.std.specs.Prelude.{nat_lt, nat_eq}
use Rattle.std.proofs.lemmas.Bool.{eqb-true}
use Rattle.std.proofs.lemmas.Bool.Decides.{nat_tests}
use Rattle.std.proofs.lemmas.List.{get_or_past}
use Rattle.acpi_values.specs.Paths.{AbsolutePath}
use Rattle.acpi_state.specs.Objects.{lookup}
use Rattle.asl_tree.specs.declared.term.Node.{Node}
use Rattle.asl_tree.specs.declared.term.Term as D
use Rattle.asl_tree.specs.Tree.{Tree, Integer, Trees, no_trees, tree}
use Rattle.asl_tree.specs.View.{tree_of, trees_of}
use Rattle.asl_meaning.specs.Declarations.{ExternalType, Declarations}
use Rattle.acpi_names.specs.Parts.{Agrees, Keeps, term_size, nodes_size}
use Rattle.acpi_names.specs.Paths.{number_in, is_flagged, AreDistinct, Extends}
use Rattle.acpi_names.specs.Spelled.{spelled, spelled_all, spelled_elements, element_spelled}
use Rattle.name_spelling.specs.Spelling.{Grows, Knowing, other_spelled, spelled_but, with_number_at}
use Rattle.acpi_names.specs.Tables.{Tabled, Flags, entry_at}
use Rattle.acpi_names.specs.Walked.{node_tree}
use Rattle.acpi_names.proofs.Closed.{own_number, number_within, extends_then}
use Rattle.acpi_names.proofs.Numbers.{number_at}
use Rattle.acpi_names.proofs.Trees.{node_smaller}

-- each tree by its number
abbrev pub mapped : (ℕ → Tree → Tree) → Trees → Trees
mapped f no_trees = no_trees
mapped f (tree t ts) = tree (f 0 t) (mapped (λ k. f (suc k)) ts)

-- the first so many nodes have been turned, and the others are as they were
pub record Turns (paths : List AbsolutePath) (named : List Bool) (table : List (Option ℕ)) (also : List Bool) (turn : Declarations → List (AbsolutePath × ℕ) → (AbsolutePath → Bool) → ℕ → Tree → Tree) (old now : List Node) (i : ℕ) : Type 0 where
  pub done : Knowing paths named table also (λ d counts beside. (k : ℕ) (e : Node) → k < i → node_tree (get_or now k e) ≡ turn d counts beside k (node_tree (get_or old k e)))
  pub rest : (k : ℕ) (e : Node) → i ≤ k → get_or now k e ≡ get_or old k e
  pub size : length now ≡ length old

-- an element that is there does not depend on the default
any_default : (xs : List Node) (i : ℕ) (d e : Node) → i < length xs → get_or xs i d ≡ get_or xs i e
any_default [] i d e lt = absurd (omega (arith, lt))
any_default (x ∷ xs) zero d e lt = refl
any_default (x ∷ xs) (suc i) d e lt = any_default xs i d e (omega (arith, lt))

pub turns_next : (paths : List AbsolutePath) (named : List Bool) (table : List (Option ℕ)) (also : List Bool) (turn : Declarations → List (AbsolutePath × ℕ) → (AbsolutePath → Bool) → ℕ → Tree → Tree) (old now : List Node) (i : ℕ) (node new : Node) → i < length old → Turns paths named table also turn old now i
    → Knowing paths named table also (λ d counts beside. node_tree new ≡ turn d counts beside i (node_tree (get_or now i node))) → Turns paths named table also turn old (set now i new) (i + 1)
turns_next paths named table also turn old now i node new lt before step = record {
  done = λ d counts beside agrees tabled met k e below. by_last d counts beside agrees tabled met k e (nat_lt k i) refl below;
  rest = λ k e le. get_or-set_other now i k new e (let other : k ≢ i = omega (arith, le) in other) ∙ before.rest k e (omega (arith, le));
  size = length-set now i new ∙ before.size;
}
  where
    by_last : (d : Declarations) (counts : List (AbsolutePath × ℕ)) (beside : AbsolutePath → Bool) → Agrees paths named d → Tabled paths table (lookup counts) → Flags paths also beside → (k : ℕ) (e : Node) (c : Bool) → nat_lt k i ≡ c → k < i + 1 → node_tree (get_or (set now i new) k e) ≡ turn d counts beside k (node_tree (get_or old k e))
    by_last d counts beside agrees tabled met k e true c below =
        let less : k < i = grind (arith, nat_tests, c) in
        let other : k ≢ i = omega (arith, less) in
        ap node_tree (get_or-set_other now i k new e other) ∙ before.done d counts beside agrees tabled met k e less
    by_last d counts beside agrees tabled met k e false c below =
        let least : i ≤ k = grind (arith, nat_tests, c) in
        let same : k ≡ i = omega (arith, least, below) in
        ap (λ k. node_tree (get_or (set now i new) k e)) same ∙ ap node_tree (get_or-set_same now i new e (omega (arith, lt, before.size)))
        ∙ step d counts beside agrees tabled met
        ∙ ap (λ (n : Node). turn d counts beside i (node_tree n)) (any_default now i node e (omega (arith, lt, before.size)) ∙ before.rest i e (omega arith))
        ∙ ap (λ k. turn d counts beside k (node_tree (get_or old k e))) (sym same)

-- the next node is one of those that were there
pub turn_smaller : (paths : List AbsolutePath) (named : List Bool) (table : List (Option ℕ)) (also : List Bool) (turn : Declarations → List (AbsolutePath × ℕ) → (AbsolutePath → Bool) → ℕ → Tree → Tree) (old now all : List Node) (i : ℕ) (node : Node)
    → Turns paths named table also turn old now i → i < length old → node ≡ get_or now i node → old ≡ all → term_size (get_or now i node).term < nodes_size all
turn_smaller paths named table also turn old now all i node turns lt is same =
    let size : term_size (get_or now i node).term ≡ term_size node.term = ap (λ (n : Node). term_size n.term) (sym is) in
    omega (arith, size, ap nodes_size same, node_smaller old i node lt (is ∙ turns.rest i node (omega arith)))

-- what is said of the scope with a number, among more paths
pub said_before : (p q : List AbsolutePath) (f g : List Bool) (table : List (Option ℕ)) (also : List Bool) (say : Declarations → List (AbsolutePath × ℕ) → (AbsolutePath → Bool) → AbsolutePath → Tree) (tree' : Tree) (scope : ℕ) → scope < length p
    → Grows p f q g table also → Knowing q g table also (λ d counts beside. tree' ≡ say d counts beside (get_or q scope [])) → Knowing p f table also (λ d counts beside. tree' ≡ say d counts beside (get_or p scope []))
said_before p q f g table also say tree' scope lt grows known d counts beside agrees tabled met =
    known d counts beside (λ path. grows.names path ∙ agrees path) (grows.tables (lookup counts) tabled) (λ path. grows.kept path ∙ met path) ∙ ap (say d counts beside) (grows.others.same scope lt)

pub all_before : (p q : List AbsolutePath) (f g : List Bool) (table : List (Option ℕ)) (also : List Bool) (say : Declarations → List (AbsolutePath × ℕ) → (AbsolutePath → Bool) → AbsolutePath → Trees) (trees : Trees) (scope : ℕ) → scope < length p
    → Grows p f q g table also → Knowing q g table also (λ d counts beside. trees ≡ say d counts beside (get_or q scope [])) → Knowing p f table also (λ d counts beside. trees ≡ say d counts beside (get_or p scope []))
all_before p q f g table also say trees scope lt grows known d counts beside agrees tabled met =
    known d counts beside (λ path. grows.names path ∙ agrees path) (grows.tables (lookup counts) tabled) (λ path. grows.kept path ∙ met path) ∙ ap (say d counts beside) (grows.others.same scope lt)

-- the items of a vector behind a loop
pub front_only : (xs ys : List Node) (n : ℕ) → n ≡ length xs → take n (xs ++ ys) ≡ xs
front_only [] ys n e = ap (λ n. take n ys) e ∙ none ys
  where
    none : (ys : List Node) → take 0 ys ≡ []
    none [] = refl
    none (y ∷ ys) = refl
front_only (x ∷ xs) ys zero e = absurd (omega (arith, e))
front_only (x ∷ xs) ys (suc n) e = ap (λ xs. x ∷ xs) (front_only xs ys n (omega (arith, e)))

points : (old now : List Node) (f : ℕ → Tree → Tree) → length now ≡ length old → ((k : ℕ) (e : Node) → k < length old → node_tree (get_or now k e) ≡ f k (node_tree (get_or old k e))) → trees_of now ≡ mapped f (trees_of old)
unfolding trees_of
points [] [] f size h = refl
points [] (n ∷ now) f size h = absurd (omega (arith, size))
points (o ∷ old) [] f size h = absurd (omega (arith, size))
points (o ∷ old) (n ∷ now) f size h =
    ap (λ t. tree t (trees_of now)) (h 0 o (omega arith)) ∙ ap (tree (f 0 (node_tree o))) (points old now (λ k. f (suc k)) (omega (arith, size)) (λ k e lt. h (suc k) e (omega (arith, lt))))

pub turns_whole : (paths : List AbsolutePath) (named : List Bool) (table : List (Option ℕ)) (also : List Bool) (turn : Declarations → List (AbsolutePath × ℕ) → (AbsolutePath → Bool) → ℕ → Tree → Tree) (old now : List Node) (i : ℕ) → length old ≤ i → Turns paths named table also turn old now i
    → Knowing paths named table also (λ d counts beside. trees_of now ≡ mapped (turn d counts beside) (trees_of old))
turns_whole paths named table also turn old now i le turns d counts beside agrees tabled met =
    points old now (turn d counts beside) turns.size (λ k e lt. turns.done d counts beside agrees tabled met k e (omega (arith, lt, le)))

mapped_same : (f g : ℕ → Tree → Tree) → ((k : ℕ) (t : Tree) → f k t ≡ g k t) → (ts : Trees) → mapped f ts ≡ mapped g ts
mapped_same f g h no_trees = refl
mapped_same f g h (tree t ts) = ap (λ x. tree x (mapped (λ k. f (suc k)) ts)) (h 0 t) ∙ ap (tree (g 0 t)) (mapped_same (λ k. f (suc k)) (λ k. g (suc k)) (λ k. h (suc k)) ts)

module _ (shorten : Bool) (also has : AbsolutePath → Bool) (says : AbsolutePath → ExternalType → ExternalType) (scope : AbsolutePath) where
  pub mapped_all : (ts : Trees) → mapped (λ k t. spelled shorten also has says t scope) ts ≡ spelled_all shorten also has says ts scope
  mapped_all no_trees = refl
  mapped_all (tree t ts) = ap (tree (spelled shorten also has says t scope)) (mapped_all ts)

  pub mapped_elements : (ts : Trees) → mapped (λ k t. element_spelled shorten has t (spelled shorten also has says t scope) scope) ts ≡ spelled_elements shorten also has says ts scope
  mapped_elements no_trees = refl
  mapped_elements (tree t ts) = ap (tree (element_spelled shorten has t (spelled shorten also has says t scope) scope)) (mapped_elements ts)

  -- all but the one with a number
  abbrev but_turn : ℕ → ℕ → Tree → Tree
  but_turn zero zero t = t
  but_turn zero (suc k) t = spelled shorten also has says t scope
  but_turn (suc p) zero t = spelled shorten also has says t scope
  but_turn (suc p) (suc k) t = but_turn p k t

  by_number : (p k : ℕ) (t : Tree) → other_spelled shorten also has says (nat_eq k p) t scope ≡ but_turn p k t
  by_number p k t = by_same (nat_eq k p) refl
    where
      here : (p : ℕ) → but_turn p p t ≡ t
      here zero = refl
      here (suc p) = here p

      there : (p k : ℕ) → k ≢ p → but_turn p k t ≡ spelled shorten also has says t scope
      there zero zero e = absurd (e refl)
      there zero (suc k) e = refl
      there (suc p) zero e = refl
      there (suc p) (suc k) e = there p k (let other : k ≢ p = omega (arith, e) in other)

      by_same : (c : Bool) → nat_eq k p ≡ c → other_spelled shorten also has says c t scope ≡ but_turn p k t
      by_same true e = sym (ap (λ n. but_turn p n t) (eqb-true k p e) ∙ here p)
      by_same false e = sym (there p k (let other : k ≢ p = grind (arith, nat_tests, e) in other))

  mapped_turn : (p : ℕ) (ts : Trees) → mapped (but_turn p) ts ≡ spelled_but shorten also has says p ts scope
  mapped_turn zero no_trees = refl
  mapped_turn (suc p) no_trees = refl
  mapped_turn zero (tree t ts) = ap (tree t) (mapped_all ts)
  mapped_turn (suc p) (tree t ts) = ap (tree (spelled shorten also has says t scope)) (mapped_turn p ts)

  pub mapped_but : (p : ℕ) (ts : Trees) → mapped (λ k t. other_spelled shorten also has says (nat_eq k p) t scope) ts ≡ spelled_but shorten also has says p ts scope
  mapped_but p ts = mapped_same (λ k t. other_spelled shorten also has says (nat_eq k p) t scope) (but_turn p) (by_number p) ts ∙ mapped_turn p ts

-- more paths
pub grows_none : (paths : List AbsolutePath) (named : List Bool) (table : List (Option ℕ)) (also : List Bool) → length named ≡ length paths → Grows paths named paths named table also
grows_none paths named table also size = record { size = size; others = record { longer = omega arith; same = λ n lt. refl }; names = λ path. refl; tables = λ look tabled. tabled; kept = λ path. refl }

pub grows_then : (p q r : List AbsolutePath) (f g h : List Bool) (table : List (Option ℕ)) (also : List Bool) → Grows p f q g table also → Grows q g r h table also → Grows p f r h table also
grows_then p q r f g h table also a b = record {
  size = b.size;
  others = extends_then p q r a.others b.others;
  names = λ path. b.names path ∙ a.names path;
  tables = λ look tabled. b.tables look (a.tables look tabled);
  kept = λ path. b.kept path ∙ a.kept path;
}

-- what is known of more paths is known of those before
pub known_before : (p q : List AbsolutePath) (f g : List Bool) (table : List (Option ℕ)) (also : List Bool) (P : Declarations → List (AbsolutePath × ℕ) → (AbsolutePath → Bool) → Type 0) → Grows p f q g table also → Knowing q g table also P → Knowing p f table also P
known_before p q f g table also P grows known d counts beside agrees tabled met =
    known d counts beside (λ path. grows.names path ∙ agrees path) (grows.tables (lookup counts) tabled) (λ path. grows.kept path ∙ met path)

-- what is asked by a number, and is the same of no number as of new ones, is the same among more paths
module _ {A : Type 0} (old new : List AbsolutePath) (entry : Option ℕ → A) (od : AreDistinct old) (nd : AreDistinct new) (more : Extends old new) (none : (m : ℕ) → length old ≤ m → entry (Some m) ≡ entry None) where
  in_new : (path : AbsolutePath) (k : ℕ) → number_in old path ≡ Some k → number_in new path ≡ Some k
  in_new path k e =
      let lt = number_within old path k e in
      let here : get_or new k [] ≡ path = more.same k lt ∙ number_at old path k e in
      ap (number_in new) (sym here) ∙ own_number new k nd (omega (arith, lt, more.longer))

  abbrev or_zero : Option ℕ → ℕ
  or_zero None = 0
  or_zero (Some k) = k

  none_old : (path : AbsolutePath) (o : Option ℕ) → number_in old path ≡ o → number_in new path ≡ None → entry None ≡ entry o
  none_old path None e h = refl
  none_old path (Some k) e h = absurd (let x = sym (in_new path k e) ∙ h in grind arith)

  past : (path : AbsolutePath) (m : ℕ) (o : Option ℕ) → number_in old path ≡ o → number_in new path ≡ Some m → length old ≤ m → entry (Some m) ≡ entry o
  past path m None e h le = none m le
  past path m (Some k) e h le =
      let lt = number_within old path k e in
      let same_number : Some k ≡ Some m = sym (in_new path k e) ∙ h in
      absurd (let x : k ≡ m = ap or_zero same_number in omega (arith, x, lt, le))

  by_less : (path : AbsolutePath) (m : ℕ) (c : Bool) → nat_lt m (length old) ≡ c → number_in new path ≡ Some m → entry (Some m) ≡ entry (number_in old path)
  by_less path m true c h =
      let lt : m < length old = grind (arith, nat_tests, c) in
      let here : get_or old m [] ≡ path = sym (more.same m lt) ∙ number_at new path m h in
      ap entry (sym (ap (number_in old) (sym here) ∙ own_number old m od lt))
  by_less path m false c h = past path m (number_in old path) refl h (let le : length old ≤ m = grind (arith, nat_tests, c) in le)

  by_new : (path : AbsolutePath) (o : Option ℕ) → number_in new path ≡ o → entry (number_in new path) ≡ entry (number_in old path)
  by_new path None h = ap entry h ∙ none_old path (number_in old path) refl h
  by_new path (Some m) h = ap entry h ∙ by_less path m (nat_lt m (length old)) refl h

  entry_more : (path : AbsolutePath) → entry (number_in new path) ≡ entry (number_in old path)
  entry_more path = by_new path (number_in new path) refl

-- so a table and flags that are no longer than the paths say nothing of new ones
pub tabled_more : (old new : List AbsolutePath) (table : List (Option ℕ)) → AreDistinct old → AreDistinct new → Extends old new → length table ≤ length old → (look : AbsolutePath → Option ℕ) → Tabled old table look → Tabled new table look
tabled_more old new table od nd more short look tabled path =
    entry_more old new (entry_at table) od nd more (λ m le. get_or_past table m None (omega (arith, short, le))) path ∙ tabled path

pub flags_more : (old new : List AbsolutePath) (flags : List Bool) → AreDistinct old → AreDistinct new → Extends old new → length flags ≤ length old → Keeps old flags new flags
flags_more old new flags od nd more few path =
    entry_more old new (is_flagged flags) od nd more (λ m le. get_or_past flags m false (omega (arith, few, le))) path

-- a number as an argument
numbered : (node : Node) (number : ℕ) → node.term ≡ D.Integer number → node_tree node ≡ Integer number
unfolding tree_of
numbered node number e = ap (tree_of (record { id = node.id; place = node.place })) e

pub put_there : (nodes : List Node) (place number : ℕ) (node : Node) → place < length nodes → node.term ≡ D.Integer number → trees_of (set nodes place node) ≡ with_number_at place number (trees_of nodes)
unfolding trees_of
put_there [] place number node lt e = absurd (omega (arith, lt))
put_there (n ∷ nodes) zero number node lt e = ap (λ t. tree t (trees_of nodes)) (numbered node number e)
put_there (n ∷ nodes) (suc place) number node lt e = ap (tree (node_tree n)) (put_there nodes place number node (omega (arith, lt)) e)

pub put_last : (nodes : List Node) (place number : ℕ) (node : Node) → length nodes ≤ place → node.term ≡ D.Integer number → trees_of (nodes ++ node ∷ []) ≡ with_number_at place number (trees_of nodes)
unfolding trees_of
put_last [] place number node le e = ap (λ t. tree t no_trees) (numbered node number e)
put_last (n ∷ nodes) zero number node le e = absurd (omega (arith, le))
put_last (n ∷ nodes) (suc place) number node le e = ap (tree (node_tree n)) (put_last nodes place number node (omega (arith, le)) e)
