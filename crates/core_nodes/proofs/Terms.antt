-- Nodes as trees, and what is counted of each.
use Rattle.std.proofs.Common.{◌≡◌, ℕ, suc, ◌+◌, true, min, List, [], ◌∷◌, length, get_or, Vec, Global, Option, refl, sym, ap, ◌∙◌, subst, arith}
use Rattle.acpi_values.specs.Paths.{NameSeg}
use Rattle.asl_tree.specs.declared.path.Path.{Path}
use Rattle.asl_tree.specs.declared.term.Op.{Op}
use Rattle.asl_tree.specs.declared.term.Word.{Word}
use Rattle.asl_tree.specs.declared.term.NamedDescriptor.{NamedDescriptor}
use Rattle.asl_tree.specs.declared.term.Node.{Node}
use Rattle.asl_tree.specs.declared.term.Term.{Term}
use Rattle.asl_tree.specs.declared.term.Term as D
use Rattle.asl_tree.specs.declared.term.Term.TheVariants as V
use Rattle.acpi_state.specs.Forms.{Slot}
use Rattle.acpi_state.specs.Outcomes.{choose}
use Rattle.asl_tree.specs.FieldItems.{FieldItem}
use Rattle.asl_tree.specs.Tree.{At, Tree, Integer, String, InSlot, Debug, Omitted, Use, Fill, Item, Case, Call, Trees, no_trees, tree, count, UnitName}
use Rattle.asl_tree.specs.View.{form, tree_of, trees_of, listed, body_bytes}
use Rattle.acpi_names.specs.Walked.{node_tree}
use Rattle.acpi_names.proofs.Plain.{is_plain, plain_form}
use Rattle.acpi_names.proofs.Trees.{form_tree, call_tree}
use Rattle.core_nodes.specs.Nodes.{nodes_of, nodes_in}
use Rattle.core_nodes.specs.Weights.{leaves, leaves_in, copied, copied_cases, copied_default}
use Rattle.core_nodes.specs.Whole.{IsWhole, AreWhole}
use Rattle.core_nodes.specs.Forms.{own_nodes, braces_nodes, AreWholeBraces, form_leaves, step_leaves, form_copied, case_copied, default_copied}
use Rattle.core_nodes.proofs.Forms.{Fitting, form_fits}

abbrev place_of : Node → At
place_of node = record { id = node.id; place = node.place }

-- what holds of each term that this one may be
by_term : (P : Term → Type 0) (t : Term)
    → ((n : ℕ) → t ≡ D.Integer n → P (D.Integer n)) → ((s : List ℕ) → t ≡ D.Text s → P (D.Text s)) → ((s : List ℕ) (named : List NamedDescriptor) → t ≡ D.Fill s named → P (D.Fill s named)) → ((w : Word) → t ≡ D.Word w → P (D.Word w))
    → ((n : ℕ) → t ≡ D.Local n → P (D.Local n)) → ((n : ℕ) → t ≡ D.Arg n → P (D.Arg n)) → (t ≡ D.Debug → P D.Debug) → (t ≡ D.Omitted → P D.Omitted) → ((p : Path) → t ≡ D.Name p → P (D.Name p))
    → ((s : NameSeg) (n : ℕ) → t ≡ D.Unit s n → P (D.Unit s n)) → ((n : ℕ) → t ≡ D.Skip n → P (D.Skip n)) → ((n : ℕ) → t ≡ D.Offset n → P (D.Offset n))
    → ((access attribute : ℕ) (size : Option ℕ) → t ≡ D.Access access attribute size → P (D.Access access attribute size))
    → ((p : Path) (v : Vec Node Global) → t ≡ D.Call p v → P (D.Call p v)) → ((o : Op) (v w : Vec Node Global) → t ≡ D.Form o v w → P (D.Form o v w)) → P t
by_term P t integer text fill word local arg debug omitted name unit skip offset access call form = by_layer (D.out-Term t) (sym (D.roll-out-Term t))
  where
    at : (u : Term) → t ≡ u → P u → P t
    at u e p = subst P (sym e) p

    by_layer : (f : D.Term-F Term Node) → t ≡ D.roll-Term f → P t
    by_layer (D.Term-F.Integer n) e = let q = e ∙ V.rolls-Integer n in at (D.Integer n) q (integer n q)
    by_layer (D.Term-F.Text s) e = let q = e ∙ V.rolls-Text s in at (D.Text s) q (text s q)
    by_layer (D.Term-F.Fill s named) e = let q = e ∙ V.rolls-Fill s named in at (D.Fill s named) q (fill s named q)
    by_layer (D.Term-F.Word w) e = let q = e ∙ V.rolls-Word w in at (D.Word w) q (word w q)
    by_layer (D.Term-F.Local n) e = let q = e ∙ V.rolls-Local n in at (D.Local n) q (local n q)
    by_layer (D.Term-F.Arg n) e = let q = e ∙ V.rolls-Arg n in at (D.Arg n) q (arg n q)
    by_layer (D.Term-F.Debug) e = let q = e ∙ V.rolls-Debug in at D.Debug q (debug q)
    by_layer (D.Term-F.Omitted) e = let q = e ∙ V.rolls-Omitted in at D.Omitted q (omitted q)
    by_layer (D.Term-F.Name p) e = let q = e ∙ V.rolls-Name p in at (D.Name p) q (name p q)
    by_layer (D.Term-F.Unit s n) e = let q = e ∙ V.rolls-Unit s n in at (D.Unit s n) q (unit s n q)
    by_layer (D.Term-F.Skip n) e = let q = e ∙ V.rolls-Skip n in at (D.Skip n) q (skip n q)
    by_layer (D.Term-F.Offset n) e = let q = e ∙ V.rolls-Offset n in at (D.Offset n) q (offset n q)
    by_layer (D.Term-F.Access a b c) e = let q = e ∙ V.rolls-Access a b c in at (D.Access a b c) q (access a b c q)
    by_layer (D.Term-F.Call p v) e = let q = e ∙ V.rolls-Call p v in at (D.Call p v) q (call p v q)
    by_layer (D.Term-F.Form o v w) e = let q = e ∙ V.rolls-Form o v w in at (D.Form o v w) q (form o v w q)

abbrev NoCall : Term → Type 0
NoCall t = (p : Path) (v : Vec Node Global) → t ≡ D.Call p v → ⊥

abbrev NoForm : Term → Type 0
NoForm t = (o : Op) (v w : Vec Node Global) → t ≡ D.Form o v w → ⊥

-- ---- the bytes of a Buffer

pub text_alone : (node : Node) (text : List ℕ) → node.term ≡ D.Text text → body_bytes (tree (node_tree node) no_trees) ≡ body_bytes (tree (String text) no_trees)
unfolding tree_of
text_alone node text e = ap (λ t. body_bytes (tree (tree_of (place_of node) t) no_trees)) e

pub fill_alone : (node : Node) (bytes : List ℕ) (named : List NamedDescriptor) → node.term ≡ D.Fill bytes named → body_bytes (tree (node_tree node) no_trees) ≡ bytes
unfolding tree_of
fill_alone node bytes named e = ap (λ t. body_bytes (tree (tree_of (place_of node) t) no_trees)) e

plain_alone : (t : Tree) → is_plain t ≡ true → length (body_bytes (tree t no_trees)) ≡ 1
plain_alone (String text) e = absurd cc
plain_alone (Fill bytes) e = absurd cc
plain_alone (Integer number) e = refl
plain_alone t e = refl

pub other_alone : (node : Node) → ((s : List ℕ) → node.term ≡ D.Text s → ⊥) → ((s : List ℕ) (named : List NamedDescriptor) → node.term ≡ D.Fill s named → ⊥) → length (body_bytes (tree (node_tree node) no_trees)) ≡ 1
unfolding tree_of
other_alone node not_text not_fill =
    let at = place_of node in
    by_term (λ u. length (body_bytes (tree (tree_of at u) no_trees)) ≡ 1) node.term (λ n e. refl) (λ s e. absurd (not_text s e)) (λ s named e. absurd (not_fill s named e)) (λ w e. refl) (λ n e. refl) (λ n e. refl) (λ e. refl) (λ e. refl) (λ p e. refl)
    (λ s n e. refl) (λ n e. refl) (λ n e. refl) (λ a b c e. refl) (λ p v e. ap (λ t. length (body_bytes (tree t no_trees))) (call_tree at p v))
    (λ o v w e. ap (λ t. length (body_bytes (tree t no_trees))) (form_tree at o v w) ∙ plain_alone (form at o (trees_of v.items) (trees_of w.items)) (plain_form at o (trees_of v.items) (trees_of w.items)))

listed_length : (ts : Trees) → length (listed ts) ≡ count ts
listed_length no_trees = refl
listed_length (tree (Integer number) ts) = ap suc (listed_length ts)
listed_length (tree t ts) = ap suc (listed_length ts)

many_bytes : (a b : Tree) (ts : Trees) → body_bytes (tree a (tree b ts)) ≡ listed (tree a (tree b ts))
many_bytes (String text) b ts = refl
many_bytes (Fill bytes) b ts = refl
many_bytes a b ts = refl

how_many : (ns : List Node) → count (trees_of ns) ≡ length ns
unfolding trees_of
how_many [] = refl
how_many (n ∷ ns) = ap suc (how_many ns)

pub one_byte : (ns : List Node) (node : Node) → length ns ≡ 1 → node ≡ get_or ns 0 node → length (body_bytes (tree (node_tree node) no_trees)) ≡ length (body_bytes (trees_of ns))
unfolding trees_of
one_byte [] node one e = absurd (omega (arith, one))
one_byte (n ∷ []) node one e = ap (λ (m : Node). length (body_bytes (tree (node_tree m) no_trees))) e
one_byte (n ∷ m ∷ ns) node one e = absurd (omega (arith, one))

pub other_bytes : (ns : List Node) → (length ns ≡ 1 → ⊥) → length ns ≡ length (body_bytes (trees_of ns))
unfolding trees_of
other_bytes [] others = refl
other_bytes (n ∷ []) others = absurd (others refl)
other_bytes (n ∷ m ∷ ns) others =
    let ts = trees_of ns in
    sym (ap length (many_bytes (node_tree n) (node_tree m) ts) ∙ listed_length (tree (node_tree n) (tree (node_tree m) ts)) ∙ ap (λ k. suc (suc k)) (how_many ns))

-- ---- terms that are no forms

pub leaf_nodes : (node : Node) → NoCall node.term → NoForm node.term → nodes_of (node_tree node) ≡ 1
unfolding tree_of
leaf_nodes node not_call not_form =
    by_term (λ u. nodes_of (tree_of (place_of node) u) ≡ 1) node.term (λ n e. refl) (λ s e. refl) (λ s named e. refl) (λ w e. refl) (λ n e. refl) (λ n e. refl) (λ e. refl) (λ e. refl) (λ p e. refl)
    (λ s n e. refl) (λ n e. refl) (λ n e. refl) (λ a b c e. refl) (λ p v e. absurd (not_call p v e)) (λ o v w e. absurd (not_form o v w e))

pub integer_leaves : (integer : ℕ) (node : Node) (n : ℕ) → node.term ≡ D.Integer n → leaves integer (node_tree node) ≡ integer
unfolding tree_of
integer_leaves integer node n e = ap (λ u. leaves integer (tree_of (place_of node) u)) e

pub word_leaves : (integer : ℕ) (node : Node) (w : Word) → node.term ≡ D.Word w → leaves integer (node_tree node) ≡ integer
unfolding tree_of
word_leaves integer node w e = ap (λ u. leaves integer (tree_of (place_of node) u)) e

pub local_leaves : (integer : ℕ) (node : Node) (n : ℕ) → node.term ≡ D.Local n → leaves integer (node_tree node) ≡ 1
unfolding tree_of
local_leaves integer node n e = ap (λ u. leaves integer (tree_of (place_of node) u)) e

pub arg_leaves : (integer : ℕ) (node : Node) (n : ℕ) → node.term ≡ D.Arg n → leaves integer (node_tree node) ≡ 1
unfolding tree_of
arg_leaves integer node n e = ap (λ u. leaves integer (tree_of (place_of node) u)) e

pub debug_leaves : (integer : ℕ) (node : Node) → node.term ≡ D.Debug → leaves integer (node_tree node) ≡ 1
unfolding tree_of
debug_leaves integer node e = ap (λ u. leaves integer (tree_of (place_of node) u)) e

pub name_leaves : (integer : ℕ) (node : Node) (p : Path) → node.term ≡ D.Name p → leaves integer (node_tree node) ≡ 1
unfolding tree_of
name_leaves integer node p e = ap (λ u. leaves integer (tree_of (place_of node) u)) e

pub no_leaves : (integer : ℕ) (node : Node) → ((n : ℕ) → node.term ≡ D.Integer n → ⊥) → ((w : Word) → node.term ≡ D.Word w → ⊥) → ((n : ℕ) → node.term ≡ D.Local n → ⊥) → ((n : ℕ) → node.term ≡ D.Arg n → ⊥) → (node.term ≡ D.Debug → ⊥)
    → ((p : Path) → node.term ≡ D.Name p → ⊥) → NoCall node.term → NoForm node.term → leaves integer (node_tree node) ≡ 0
unfolding tree_of
no_leaves integer node not_integer not_word not_local not_arg not_debug not_name not_call not_form =
    by_term (λ u. leaves integer (tree_of (place_of node) u) ≡ 0) node.term (λ n e. absurd (not_integer n e)) (λ s e. refl) (λ s named e. refl) (λ w e. absurd (not_word w e)) (λ n e. absurd (not_local n e)) (λ n e. absurd (not_arg n e)) (λ e. absurd (not_debug e)) (λ e. refl)
    (λ p e. absurd (not_name p e)) (λ s n e. refl) (λ n e. refl) (λ n e. refl) (λ a b c e. refl) (λ p v e. absurd (not_call p v e)) (λ o v w e. absurd (not_form o v w e))

-- nothing is found in such a term of which nothing is found in a leaf and in a call
unfound : (f : Tree → ℕ) (n : ℕ) (node : Node) → NoForm node.term
    → ((m : ℕ) → f (Integer m) ≡ n) → ((s : List ℕ) → f (String s) ≡ n) → ((s : List ℕ) → f (Fill s) ≡ n) → ((slot : Slot) → f (InSlot slot) ≡ n) → f Debug ≡ n → f Omitted ≡ n
    → ((at : At) (p : Path) → f (Use at p) ≡ n) → ((item : FieldItem UnitName) → f (Item item) ≡ n) → ((at : At) (p : Path) (args : Trees) → f (Call at p args) ≡ n) → f (node_tree node) ≡ n
unfolding tree_of
unfound f n node not_form integer text fill slot debug omitted name item call =
    let at = place_of node in
    by_term (λ u. f (tree_of at u) ≡ n) node.term (λ m e. integer m) (λ s e. text s) (λ s named e. fill s) (λ w e. integer _) (λ m e. slot _) (λ m e. slot _) (λ e. debug) (λ e. omitted) (λ p e. name at p)
    (λ s m e. item _) (λ m e. item _) (λ m e. item _) (λ a b c e. item _) (λ p v e. ap f (call_tree at p v) ∙ call at p (trees_of v.items)) (λ o v w e. absurd (not_form o v w e))

pub no_copies : (integer step : ℕ) (node : Node) → NoForm node.term → copied integer step (node_tree node) ≡ 0
no_copies integer step node not_form =
    unfound (copied integer step) 0 node not_form (λ m. refl) (λ s. refl) (λ s. refl) (λ slot. refl) refl refl (λ at p. refl) (λ item. refl) (λ at p args. refl)

pub no_cases : (integer step : ℕ) (node : Node) → NoForm node.term → copied_cases integer step (tree (node_tree node) no_trees) ≡ 0
no_cases integer step node not_form =
    unfound (λ t. copied_cases integer step (tree t no_trees)) 0 node not_form (λ m. refl) (λ s. refl) (λ s. refl) (λ slot. refl) refl refl (λ at p. refl) (λ item. refl) (λ at p args. refl)

pub no_default : (integer step : ℕ) (node : Node) (ts : Trees) → NoForm node.term → copied_default integer step (tree (node_tree node) ts) ≡ copied_default integer step ts
no_default integer step node ts not_form =
    unfound (λ t. copied_default integer step (tree t ts)) (copied_default integer step ts) node not_form (λ m. refl) (λ s. refl) (λ s. refl) (λ slot. refl) refl refl (λ at p. refl) (λ item. refl) (λ at p args. refl)

-- Cases one after another
pub cases_add : (integer step : ℕ) (t : Tree) (ts : Trees) → copied_cases integer step (tree t ts) ≡ copied_cases integer step (tree t no_trees) + copied_cases integer step ts
cases_add integer step (Case value body) ts = omega arith
cases_add integer step t ts = omega arith

-- ---- calls and forms

pub call_is : (node : Node) (path : Path) (args : Vec Node Global) (xs : List Node) → node.term ≡ D.Call path args → xs ≡ args.items → node_tree node ≡ Call (place_of node) path (trees_of xs)
call_is node path args xs e same = ap (tree_of (place_of node)) e ∙ call_tree (place_of node) path args ∙ ap (λ ns. Call (place_of node) path (trees_of ns)) (sym same)

form_is : (node : Node) (op : Op) (args body : Vec Node Global) (xs ys : List Node) → node.term ≡ D.Form op args body → xs ≡ args.items → ys ≡ body.items → node_tree node ≡ form (place_of node) op (trees_of xs) (trees_of ys)
form_is node op args body xs ys e a b =
    ap (tree_of (place_of node)) e ∙ form_tree (place_of node) op args body ∙ ap (λ ns. form (place_of node) op (trees_of ns) (trees_of body.items)) (sym a) ∙ ap (λ ns. form (place_of node) op (trees_of xs) (trees_of ns)) (sym b)

pub node_fits : (node : Node) (op : Op) (args body : Vec Node Global) (xs ys : List Node) → node.term ≡ D.Form op args body → xs ≡ args.items → ys ≡ body.items → IsWhole (node_tree node) → Fitting op (trees_of xs) (trees_of ys) (node_tree node)
node_fits node op args body xs ys e a b w =
    let is = form_is node op args body xs ys e a b in
    subst (Fitting op (trees_of xs) (trees_of ys)) (sym is) (form_fits (place_of node) op (trees_of xs) (trees_of ys) (subst IsWhole is w))

module _ (limit : ℕ) where
  pub call_counted : (node : Node) (args : Trees) (a sum : ℕ) (path : Path) → node_tree node ≡ Call (place_of node) path args → (AreWhole args → a ≡ min (nodes_in args) limit) → sum ≡ min (a + 1) limit
      → IsWhole (node_tree node) → sum ≡ min (nodes_of (node_tree node)) limit
  call_counted node args a sum path is counted s w =
      let whole = ap nodes_of is in
      let c = counted (subst IsWhole is w) in
      omega (arith, whole, c, s)

  pub call_weighed : (integer : ℕ) (node : Node) (args : Trees) (a sum : ℕ) (path : Path) → node_tree node ≡ Call (place_of node) path args → (AreWhole args → a ≡ min (leaves_in integer args) limit) → sum ≡ min (a + 1) limit
      → IsWhole (node_tree node) → sum ≡ min (leaves integer (node_tree node)) limit
  call_weighed integer node args a sum path is counted s w =
      let whole = ap (leaves integer) is in
      let c = counted (subst IsWhole is w) in
      omega (arith, whole, c, s)

  pub form_counted : (t : Tree) (op : Op) (args body : Trees) (a b own first sum : ℕ) → (AreWhole args → a ≡ min (nodes_in args) limit) → (AreWholeBraces op body → b ≡ min (braces_nodes op body) limit) → first ≡ min (a + b) limit
      → own ≡ own_nodes op → sum ≡ min (first + own) limit → Fitting op args body t → sum ≡ min (nodes_of t) limit
  form_counted t op args body a b own first sum ca cb f o s fit =
      let whole = fit.count in
      let c = ca fit.arguments in
      let d = cb fit.braces in
      omega (arith, whole, c, d, f, o, s)

  pub form_weighed : (integer : ℕ) (t : Tree) (op : Op) (args body : Trees) (a : ℕ) → (AreWhole args → a ≡ min (form_leaves integer op args) limit) → Fitting op args body t → a ≡ min (leaves integer t) limit
  form_weighed integer t op args body a counted fit = counted fit.arguments ∙ ap (λ n. min n limit) (sym (fit.weight integer))

  pub copies_weighed : (integer step : ℕ) (t : Tree) (op : Op) (args body : Trees) (a : ℕ) → (AreWhole args → AreWholeBraces op body → a ≡ min (form_copied integer step op args body) limit) → Fitting op args body t → a ≡ min (copied integer step t) limit
  copies_weighed integer step t op args body a counted fit = counted fit.arguments fit.braces ∙ ap (λ n. min n limit) (sym (fit.copies integer step))

  pub case_weighed : (integer step : ℕ) (t : Tree) (op : Op) (args body : Trees) (a : ℕ) → (AreWholeBraces op body → a ≡ min (case_copied integer step op body) limit) → Fitting op args body t → a ≡ min (copied_cases integer step (tree t no_trees)) limit
  case_weighed integer step t op args body a counted fit = counted fit.braces ∙ ap (λ n. min n limit) (sym (fit.cases integer step))

  pub default_weighed : (integer step : ℕ) (t : Tree) (op : Op) (args body : Trees) (found : Option ℕ) → (AreWholeBraces op body → (behind : ℕ) → choose found (min behind limit) (λ n. n) ≡ min (default_copied integer step op body behind) limit)
      → Fitting op args body t → (ts : Trees) → choose found (min (copied_default integer step ts) limit) (λ n. n) ≡ min (copied_default integer step (tree t ts)) limit
  default_weighed integer step t op args body found given fit ts = given fit.braces (copied_default integer step ts) ∙ ap (λ n. min n limit) (sym (fit.default integer step ts))

module _ (integer : ℕ) where
  -- the step of a For
  pub step_there : (ns : List Node) (node : Node) → length ns ≡ 3 → node ≡ get_or ns 2 node → step_leaves integer (trees_of ns) ≡ leaves integer (node_tree node)
  unfolding trees_of
  step_there [] node three e = absurd (omega (arith, three))
  step_there (a ∷ []) node three e = absurd (omega (arith, three))
  step_there (a ∷ b ∷ []) node three e = absurd (omega (arith, three))
  step_there (a ∷ b ∷ c ∷ []) node three e = ap (λ (n : Node). leaves integer (node_tree n)) (sym e)
  step_there (a ∷ b ∷ c ∷ d ∷ ns) node three e = absurd (omega (arith, three))

  pub no_step : (ns : List Node) → (length ns ≡ 3 → ⊥) → step_leaves integer (trees_of ns) ≡ 0
  unfolding trees_of
  no_step [] others = refl
  no_step (a ∷ []) others = refl
  no_step (a ∷ b ∷ []) others = refl
  no_step (a ∷ b ∷ c ∷ []) others = absurd (others refl)
  no_step (a ∷ b ∷ c ∷ d ∷ ns) others = refl
