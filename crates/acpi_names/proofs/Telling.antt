-- Mentions added one after another.
use Rattle.acpi_names.specs.declared.part.Shape.{Shape}
use Rattle.acpi_names.specs.declared.part.Shape.TheVariants as S
use Rattle.acpi_names.specs.Walked.{shape_as}
use Rattle.std.proofs.Common.{Bor, ◌≡◌, ℕ, zero, suc, ◌+◌, ◌<◌, ◌≤◌, List, [], ◌∷◌, ◌++◌, length, get_or, drop, refl, sym, ap, ◌∙◌, append_assoc, arith}
use Rattle.std.specs.Prelude.{Bool, true, false, slice_get, ◌&&◌}
use Rattle.acpi_values.specs.Paths.{AbsolutePath}
use Rattle.asl_tree.specs.declared.term.Node.{Node}
use Rattle.asl_tree.specs.Tree.{Tree, Trees, no_trees, tree}
use Rattle.asl_tree.specs.View.{trees_of}
use Rattle.acpi_names.specs.Mentions as M
use Rattle.acpi_names.specs.declared.mention.Mention.{Mention}
use Rattle.acpi_names.specs.Shown.{shown, all_shown, Tells}
use Rattle.asl_tree.specs.declared.path.Path.{Path as Name}
use Rattle.asl_tree.specs.Tree.{At, Use, count}
use Rattle.acpi_names.specs.declared.mention.Occurrence.{Occurrence}
use Rattle.acpi_values.specs.Operators.{Used}
use Rattle.acpi_names.specs.Errors.{Asked}
use Rattle.acpi_names.specs.Mentions.{mentions, mentions_all, letter_mention, Used', Called, Sought, is_spot}
use Rattle.asl_operators.specs.Letters.{letters_as}
use Rattle.asl_operators.specs.declared.letter.Letter.{Letter as CodeLetter}
use Rattle.acpi_names.specs.Shown.{spot_as}
use Rattle.acpi_names.specs.Walked.{node_tree, TermShape, OfName, OfCall, term_shape, shape_mentions, cond_mention, cond_mentions, assign_mentions, argument_mentions, optional_mentions, later_trees, print_mentions}
use Rattle.acpi_names.proofs.Walked.{shape_same, shape_tree_name, shape_name_of}
use Rattle.acpi_names.proofs.Mentions.{right_nil}

-- some mentions are to come
abbrev pub Remains : List Mention → List Mention → (List AbsolutePath → List M.Mention) → (List AbsolutePath → List M.Mention) → Type 0
Remains initial now rest whole = (paths : List AbsolutePath) → all_shown paths now ++ rest paths ≡ all_shown paths initial ++ whole paths

pub tells_none : (ms : List Mention) → Tells ms ms (λ paths. [])
tells_none ms paths = sym (right_nil (all_shown paths ms))

shown_append : (paths : List AbsolutePath) (a b : List Mention) → all_shown paths (a ++ b) ≡ all_shown paths a ++ all_shown paths b
shown_append paths [] b = refl
shown_append paths (m ∷ a) b = ap (λ ms. shown paths m ∷ ms) (shown_append paths a b)

pub tells_one : (old new : List Mention) (m : Mention) → new ≡ old ++ m ∷ [] → Tells old new (λ paths. shown paths m ∷ [])
tells_one old new m e paths = ap (all_shown paths) e ∙ shown_append paths old (m ∷ [])

pub tells_then : (a b c : List Mention) (x y : List AbsolutePath → List M.Mention) → Tells a b x → Tells b c y → Tells a c (λ paths. x paths ++ y paths)
tells_then a b c x y h k paths = k paths ∙ ap (λ ms. ms ++ y paths) (h paths) ∙ append_assoc (all_shown paths a) (x paths) (y paths)

pub tells_as : (a b : List Mention) (x y : List AbsolutePath → List M.Mention) → ((paths : List AbsolutePath) → x paths ≡ y paths) → Tells a b x → Tells a b y
tells_as a b x y e h paths = h paths ∙ ap (λ ms. all_shown paths a ++ ms) (e paths)

pub trees_at : (nodes : List Node) (i : ℕ) (node : Node) → i < length nodes → trees_of (drop i nodes) ≡ tree (node_tree (get_or nodes i node)) (trees_of (drop (suc i) nodes))
unfolding trees_of
trees_at [] i node lt = absurd (omega (arith, lt))
trees_at (n ∷ nodes) zero node lt = refl
trees_at (n ∷ nodes) (suc i) node lt = trees_at nodes i node (omega (arith, lt))

pub remains_next : (nodes : List Node) (i : ℕ) (node : Node) (initial now next : List Mention) (one : List AbsolutePath → List M.Mention) (first second : List AbsolutePath → Trees → List M.Mention) (whole : List AbsolutePath → List M.Mention) → i < length nodes → node ≡ get_or nodes i node
    → ((paths : List AbsolutePath) (ts : Trees) → first paths (tree (node_tree node) ts) ≡ one paths ++ second paths ts) → Remains initial now (λ paths. first paths (trees_of (drop i nodes))) whole → Tells now next one → Remains initial next (λ paths. second paths (trees_of (drop (i + 1) nodes))) whole
remains_next nodes i node initial now next one first second whole lt e same before told paths =
    let rest = trees_of (drop (i + 1) nodes) in
    let more : suc i ≡ i + 1 = omega arith in
    ap (λ ms. ms ++ second paths rest) (told paths)
    ∙ append_assoc (all_shown paths now) (one paths) (second paths rest)
    ∙ ap (λ ms. all_shown paths now ++ ms) (sym (same paths rest))
    ∙ ap (λ (n : Node). all_shown paths now ++ first paths (tree (node_tree n) rest)) e
    ∙ ap (λ k. all_shown paths now ++ first paths (tree (node_tree (get_or nodes i node)) (trees_of (drop k nodes)))) (sym more)
    ∙ ap (λ ts. all_shown paths now ++ first paths ts) (sym (trees_at nodes i node lt))
    ∙ before paths

pub no_more : (nodes : List Node) (i : ℕ) → length nodes ≤ i → trees_of (drop i nodes) ≡ no_trees
unfolding trees_of
no_more [] zero le = refl
no_more [] (suc i) le = refl
no_more (n ∷ nodes) zero le = absurd (omega (arith, le))
no_more (n ∷ nodes) (suc i) le = no_more nodes i (omega (arith, le))

pub remains_none : (nodes : List Node) (i : ℕ) (initial now : List Mention) (last : List AbsolutePath → Trees → List M.Mention) (whole : List AbsolutePath → List M.Mention) → length nodes ≤ i → ((paths : List AbsolutePath) → last paths no_trees ≡ []) → Remains initial now (λ paths. last paths (trees_of (drop i nodes))) whole → Tells initial now whole
remains_none nodes i initial now last whole le none before paths =
    sym (right_nil (all_shown paths now)) ∙ ap (λ ms. all_shown paths now ++ ms) (sym (none paths)) ∙ ap (λ ts. all_shown paths now ++ last paths ts) (sym (no_more nodes i le)) ∙ before paths

-- the mentions of a term by its shape
pub tells_shape : (asked : Bool) (node : Node) (spot : Occurrence) (scope : ℕ) (shape : TermShape) (old new : List Mention) → spot ≡ record { id = node.id; place = node.place } → shape ≡ term_shape node.term → Tells old new (λ paths. shape_mentions asked (spot_as spot) shape (get_or paths scope [])) → Tells old new (λ paths. mentions asked (node_tree node) (get_or paths scope []))
tells_shape asked node spot scope shape old new es e told =
    let at : At = record { id = node.id; place = node.place } in
    tells_as old new _ _ (λ paths.
    ap (λ (s : Occurrence). shape_mentions asked (spot_as s) shape (get_or paths scope [])) es ∙ ap (λ s. shape_mentions asked at s (get_or paths scope [])) e ∙ sym (shape_same asked at node.term (get_or paths scope []))) told

pub count_nodes : (nodes : List Node) → count (trees_of nodes) ≡ length nodes
unfolding trees_of
count_nodes [] = refl
count_nodes (node ∷ nodes) = ap suc (count_nodes nodes)

pub tells_call : (asked : Bool) (at : At) (name : Name) (args : List Node) (n scope : ℕ) (old mid new : List Mention) → n ≡ length args → Tells old mid (λ paths. Called asked at name n (get_or paths scope []) ∷ []) → Tells mid new (λ paths. mentions_all asked (trees_of args) (get_or paths scope []))
    → Tells old new (λ paths. shape_mentions asked at (OfCall name (trees_of args)) (get_or paths scope []))
tells_call asked at name args n scope old mid new e first rest =
    tells_as old new _ _ (λ paths. ap (λ k. Called asked at name k (get_or paths scope []) ∷ mentions_all asked (trees_of args) (get_or paths scope [])) (e ∙ sym (count_nodes args))) (tells_then old mid new _ _ first rest)

-- two nodes
trees_two : (nodes : List Node) (a b : Node) → length nodes ≡ 2 → a ≡ get_or nodes 0 a → b ≡ get_or nodes 1 b → trees_of nodes ≡ tree (node_tree a) (tree (node_tree b) no_trees)
unfolding trees_of
trees_two [] a b e ea eb = absurd (omega (arith, e))
trees_two (x ∷ []) a b e ea eb = absurd (omega (arith, e))
trees_two (x ∷ y ∷ []) a b e ea eb = ap (λ (n : Node). tree (node_tree n) (tree (node_tree y) no_trees)) (sym ea) ∙ ap (λ (n : Node). tree (node_tree a) (tree (node_tree n) no_trees)) (sym eb)
trees_two (x ∷ y ∷ z ∷ nodes) a b e ea eb = absurd (omega (arith, e))

-- one argument of an operator
argument_suc : (asked : Bool) (uses : Asked) (letters : List CodeLetter) (i : ℕ) (t : Tree) (ts : Trees) (scope : AbsolutePath) → argument_mentions asked uses (drop i (letters_as letters)) (tree t ts) scope ≡ optional_mentions asked uses (slice_get letters i) t scope ++ argument_mentions asked uses (drop (suc i) (letters_as letters)) ts scope
argument_suc asked uses [] zero t ts scope = refl
argument_suc asked uses [] (suc i) t ts scope = refl
argument_suc asked uses (letter ∷ letters) zero t ts scope = refl
argument_suc asked uses (letter ∷ letters) (suc i) t ts scope = argument_suc asked uses letters i t ts scope

pub argument_next : (asked : Bool) (uses : Asked) (letters : List CodeLetter) (i : ℕ) (t : Tree) (ts : Trees) (scope : AbsolutePath) → argument_mentions asked uses (drop i (letters_as letters)) (tree t ts) scope ≡ optional_mentions asked uses (slice_get letters i) t scope ++ argument_mentions asked uses (drop (i + 1) (letters_as letters)) ts scope
argument_next asked uses letters i t ts scope =
    let e : suc i ≡ i + 1 = omega arith in
    argument_suc asked uses letters i t ts scope ∙ ap (λ k. optional_mentions asked uses (slice_get letters i) t scope ++ argument_mentions asked uses (drop k (letters_as letters)) ts scope) e

-- a path that is used
pub used_name : (uses : Asked) (node : Node) (spot : Occurrence) (name : Name) (scope : AbsolutePath) → spot ≡ record { id = node.id; place = node.place } → OfName name ≡ term_shape node.term → Used' uses (spot_as spot) name scope ∷ [] ≡ letter_mention Used uses (node_tree node) (mentions false (node_tree node) scope) scope
used_name uses node spot name scope es e = ap (λ (s : Occurrence). Used' uses (spot_as s) name scope ∷ []) es ∙ by_tree (node_tree node) (shape_tree_name (record { id = node.id; place = node.place }) node.term name e)
  where
    by_tree : (t : Tree) → Use (record { id = node.id; place = node.place }) name ≡ t → Used' uses (record { id = node.id; place = node.place }) name scope ∷ [] ≡ letter_mention Used uses t (mentions false t scope) scope
    by_tree t h = ap (λ u. letter_mention Used uses u (mentions false u scope) scope) h

pub used_other : (uses : Asked) (node : Node) (scope : AbsolutePath) → ((name : Name) → term_shape node.term ≡ OfName name → ⊥) → mentions false (node_tree node) scope ≡ letter_mention Used uses (node_tree node) (mentions false (node_tree node) scope) scope
used_other uses node scope none = by_tree (node_tree node) refl
  where
    by_tree : (t : Tree) → node_tree node ≡ t → mentions false t scope ≡ letter_mention Used uses t (mentions false t scope) scope
    by_tree (Use at name) h = absurd (none _ (shape_name_of _ node.term at name h))
    by_tree t h = refl

-- CondRefOf
pub cond_two : (asked : Bool) (nodes : List Node) (a b : Node) (scope : AbsolutePath) → 2 ≤ length nodes → length nodes < 3 → a ≡ get_or nodes 0 a → b ≡ get_or nodes 1 b → cond_mentions asked (trees_of nodes) scope ≡ cond_mention asked (node_tree a) scope ++ mentions (asked && is_spot (node_tree b)) (node_tree b) scope
cond_two asked nodes a b scope le lt ea eb = ap (λ ts. cond_mentions asked ts scope) (trees_two nodes a b (omega (arith, le, lt)) ea eb)

pub cond_few : (asked : Bool) (nodes : List Node) (scope : AbsolutePath) → length nodes < 2 → cond_mentions asked (trees_of nodes) scope ≡ []
unfolding trees_of
cond_few asked [] scope lt = refl
cond_few asked (x ∷ []) scope lt = refl
cond_few asked (x ∷ y ∷ nodes) scope lt = absurd (omega (arith, lt))

pub cond_many : (asked : Bool) (nodes : List Node) (scope : AbsolutePath) → 3 ≤ length nodes → cond_mentions asked (trees_of nodes) scope ≡ []
unfolding trees_of
cond_many asked [] scope le = refl
cond_many asked (x ∷ []) scope le = refl
cond_many asked (x ∷ y ∷ []) scope le = absurd (omega (arith, le))
cond_many asked (x ∷ y ∷ z ∷ nodes) scope le = refl

-- the place of what prints, and what is behind it
pub print_first : (nodes rest : List Node) (place : Node) (scope : AbsolutePath) → 1 ≤ length nodes → place ≡ get_or nodes 0 place → trees_of rest ≡ later_trees 1 (trees_of nodes)
    → print_mentions (trees_of nodes) scope ≡ mentions (true && is_spot (node_tree place)) (node_tree place) scope ++ mentions_all true (trees_of rest) scope
unfolding trees_of
print_first [] rest place scope le e r = absurd (omega (arith, le))
print_first (n ∷ nodes) rest place scope le e r =
    ap (λ (m : Node). mentions (is_spot (node_tree m)) (node_tree m) scope ++ mentions_all true (trees_of nodes) scope) (sym e)
    ∙ ap (λ ts. mentions (is_spot (node_tree place)) (node_tree place) scope ++ mentions_all true ts scope) (sym r)

pub print_none : (nodes : List Node) (scope : AbsolutePath) → length nodes < 1 → print_mentions (trees_of nodes) scope ≡ []
unfolding trees_of
print_none [] scope lt = refl
print_none (node ∷ nodes) scope lt = absurd (omega (arith, lt))

-- the same of `X = E`
pub assign_two : (asked : Bool) (nodes : List Node) (a b : Node) (scope : AbsolutePath) → 2 ≤ length nodes → length nodes < 3 → a ≡ get_or nodes 0 a → b ≡ get_or nodes 1 b → assign_mentions asked (trees_of nodes) scope ≡ mentions asked (node_tree b) scope ++ mentions (asked && is_spot (node_tree a)) (node_tree a) scope
assign_two asked nodes a b scope le lt ea eb = ap (λ ts. assign_mentions asked ts scope) (trees_two nodes a b (omega (arith, le, lt)) ea eb)

pub assign_few : (asked : Bool) (nodes : List Node) (scope : AbsolutePath) → length nodes < 2 → assign_mentions asked (trees_of nodes) scope ≡ []
unfolding trees_of
assign_few asked [] scope lt = refl
assign_few asked (x ∷ []) scope lt = refl
assign_few asked (x ∷ y ∷ nodes) scope lt = absurd (omega (arith, lt))

pub assign_many : (asked : Bool) (nodes : List Node) (scope : AbsolutePath) → 3 ≤ length nodes → assign_mentions asked (trees_of nodes) scope ≡ []
unfolding trees_of
assign_many asked [] scope le = refl
assign_many asked (x ∷ []) scope le = refl
assign_many asked (x ∷ y ∷ []) scope le = absurd (omega (arith, le))
assign_many asked (x ∷ y ∷ z ∷ nodes) scope le = refl

-- the place of CondRefOf
pub cond_name : (asked : Bool) (node : Node) (spot : Occurrence) (name : Name) (scope : AbsolutePath) → spot ≡ record { id = node.id; place = node.place } → OfName name ≡ term_shape node.term → Sought (spot_as spot) name scope ∷ [] ≡ cond_mention asked (node_tree node) scope
cond_name asked node spot name scope es e = ap (λ (s : Occurrence). Sought (spot_as s) name scope ∷ []) es ∙ by_tree (node_tree node) (shape_tree_name (record { id = node.id; place = node.place }) node.term name e)
  where
    by_tree : (t : Tree) → Use (record { id = node.id; place = node.place }) name ≡ t → Sought (record { id = node.id; place = node.place }) name scope ∷ [] ≡ cond_mention asked t scope
    by_tree t h = ap (λ u. cond_mention asked u scope) h

pub cond_other : (asked : Bool) (node : Node) (scope : AbsolutePath) → ((name : Name) → term_shape node.term ≡ OfName name → ⊥) → mentions (asked && is_spot (node_tree node)) (node_tree node) scope ≡ cond_mention asked (node_tree node) scope
cond_other asked node scope none = by_tree (node_tree node) refl
  where
    by_tree : (t : Tree) → node_tree node ≡ t → mentions (asked && is_spot t) t scope ≡ cond_mention asked t scope
    by_tree (Use at name) h = absurd (none _ (shape_name_of _ node.term at name h))
    by_tree t h = refl

pub not_named : (s : Shape) (name : Name) → ((x : Bor Name) → s ≡ S.Name x → ⊥) → shape_as s ≡ OfName name → ⊥
not_named (S.Name x) name none e = none x refl
not_named s name none e = grind arith
