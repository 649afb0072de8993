-- One term more.
use Rattle.std.proofs.Common.{◌≡◌, ℕ, zero, suc, ◌+◌, ◌<◌, ◌≤◌, Bool, true, false, List, [], ◌∷◌, length, get_or, take, Option, None, Some, refl, sym, ap, ◌∙◌, arith}
use Rattle.std.specs.Prelude.{◌||◌, is_some, if◌then◌else◌}
use Rattle.std.proofs.lemmas.List.{take_all}
use Rattle.acpi_values.specs.Paths.{AbsolutePath, is_same_path}
use Rattle.acpi_state.proofs.Lookups.{is_same_path-true}
use Rattle.acpi_state.specs.Objects.{lookup}
use Rattle.acpi_state.specs.Outcomes.{choose}
use Rattle.asl_tree.specs.declared.term.Node.{Node}
use Rattle.asl_tree.specs.Tree.{At}
use Rattle.asl_tree.specs.View.{tree_of, trees_of}
use Rattle.asl_meaning.specs.Declarations.{Declared, Declarations, ExternalType, is_named, in_root, with_declared, with_first, with_external, declare, declare_all}
use Rattle.acpi_names.specs.Paths.{is_named_in}
use Rattle.acpi_names.specs.Parts.{Marks, Leads}

abbrev pub at_of : Node → At
at_of node = record { id = node.id; place = node.place }

declare_one : (nodes : List Node) (scope : AbsolutePath) (d : Declarations) → declare_all (trees_of (take 0 nodes)) scope d ≡ d
unfolding trees_of
declare_one [] scope d = refl
declare_one (n ∷ nodes) scope d = refl

declare_suc : (nodes : List Node) (i : ℕ) (node : Node) (scope : AbsolutePath) (d : Declarations) → i < length nodes → declare_all (trees_of (take (suc i) nodes)) scope d ≡ declare (tree_of (at_of (get_or nodes i node)) (get_or nodes i node).term) scope (declare_all (trees_of (take i nodes)) scope d)
unfolding trees_of
declare_suc [] i node scope d lt = absurd (omega (arith, lt))
declare_suc (n ∷ nodes) zero node scope d lt = declare_one nodes scope (declare (tree_of (at_of n) n.term) scope d)
declare_suc (n ∷ nodes) (suc i) node scope d lt = declare_suc nodes i node scope (declare (tree_of (at_of n) n.term) scope d) (omega (arith, lt))

pub declare_next : (nodes : List Node) (i : ℕ) (node : Node) (scope : AbsolutePath) (d : Declarations) → i < length nodes → declare_all (trees_of (take (i + 1) nodes)) scope d ≡ declare (tree_of (at_of (get_or nodes i node)) (get_or nodes i node).term) scope (declare_all (trees_of (take i nodes)) scope d)
declare_next nodes i node scope d lt = let e : i + 1 ≡ suc i = omega arith in ap (λ n. declare_all (trees_of (take n nodes)) scope d) e ∙ declare_suc nodes i node scope d lt

pub declare_none : (scope : AbsolutePath) (d : Declarations) → declare_all (trees_of []) scope d ≡ d
unfolding trees_of
declare_none scope d = refl

pub declare_whole : (nodes : List Node) (i : ℕ) (scope : AbsolutePath) (d : Declarations) → length nodes ≤ i → declare_all (trees_of (take i nodes)) scope d ≡ declare_all (trees_of nodes) scope d
declare_whole nodes i scope d le = ap (λ ns. declare_all (trees_of ns) scope d) (take_all i nodes le)

pub turned : (a b : AbsolutePath) → is_same_path a b ≡ is_same_path b a
turned a b = by_both (is_same_path a b) (is_same_path b a) refl refl
  where
    by_both : (c e : Bool) → is_same_path a b ≡ c → is_same_path b a ≡ e → is_same_path a b ≡ is_same_path b a
    by_both true e h k = h ∙ sym (ap (λ p. is_same_path p a) (sym (is_same_path-true a b h)) ∙ ap (is_same_path a) refl ∙ ap (λ p. is_same_path a p) (is_same_path-true a b h) ∙ h)
    by_both false true h k = absurd (let x = sym h ∙ ap (λ p. is_same_path p b) (sym (is_same_path-true b a k)) ∙ ap (λ p. is_same_path b p) (is_same_path-true b a k) ∙ k in grind arith)
    by_both false false h k = h ∙ sym k

first_some : {A : Type 0} (c : Bool) (a : A) (o : Option A) (others : Bool) → (is_some (if c then Some a else o) || others) ≡ (c || (is_some o || others))
first_some true a o others = refl
first_some false a o others = refl

-- a path that is declared is named
pub leads_declared : (paths more : List AbsolutePath) (named flags : List Bool) (new : AbsolutePath) (what : Declared) → Marks paths named more flags new → Leads paths named more flags (with_declared new what)
leads_declared paths more named flags new what marks d agrees path =
    marks path ∙ ap (λ b. is_same_path path new || b) (agrees path) ∙ ap (λ b. b || is_named d path) (turned path new)
    ∙ sym (first_some (is_same_path new path) what (lookup d.declared path) (is_some (lookup d.external path) || in_root path))

-- a path has an External where it had one before, or where this is one of it
pub first_external : (new path : AbsolutePath) (type : ExternalType) (entries : List (AbsolutePath × ExternalType)) → is_some (lookup (with_first new type entries) path) ≡ (is_same_path new path || is_some (lookup entries path))
first_external new path type entries = by_first (lookup entries new) refl (is_same_path new path) refl
  where
    by_first : (o : Option ExternalType) → lookup entries new ≡ o → (c : Bool) → is_same_path new path ≡ c → is_some (lookup (choose o ((new, type) ∷ entries) (λ first. entries)) path) ≡ (c || is_some (lookup entries path))
    by_first None e true same = ap (λ b. is_some (if b then Some type else lookup entries path)) same
    by_first None e false same = ap (λ b. is_some (if b then Some type else lookup entries path)) same
    by_first (Some first) e true same = ap (λ p. is_some (lookup entries p)) (sym (is_same_path-true new path same)) ∙ ap is_some e
    by_first (Some first) e false same = refl

middle : (c o before after : Bool) → (before || ((c || o) || after)) ≡ (c || (before || (o || after)))
middle true o true after = refl
middle true o false after = refl
middle false o before after = refl

-- so is one of another table; one of the root was named before
pub leads_external : (paths more : List AbsolutePath) (named flags : List Bool) (new : AbsolutePath) (type : ExternalType) → Marks paths named more flags new → Leads paths named more flags (with_external (in_root new) new type)
leads_external paths more named flags new type marks d agrees path = by_root (in_root new) refl
  where
    last : (a b : Bool) → (a || (b || true)) ≡ true
    last true b = refl
    last false true = refl
    last false false = refl

    rooted : (c : Bool) → is_same_path path new ≡ c → in_root new ≡ true → (c || is_named d path) ≡ is_named d path
    rooted false e r = refl
    rooted true e r =
        sym (ap (λ b. is_some (lookup d.declared path) || (is_some (lookup d.external path) || b)) (ap in_root (is_same_path-true path new e) ∙ r)
        ∙ last (is_some (lookup d.declared path)) (is_some (lookup d.external path)))

    by_root : (c : Bool) → in_root new ≡ c → is_named_in more flags path ≡ is_named (with_external c new type d) path
    by_root true r = marks path ∙ ap (λ b. is_same_path path new || b) (agrees path) ∙ rooted (is_same_path path new) refl r
    by_root false r =
        marks path ∙ ap (λ b. is_same_path path new || b) (agrees path) ∙ ap (λ b. b || is_named d path) (turned path new)
        ∙ sym (middle (is_same_path new path) (is_some (lookup d.external path)) (is_some (lookup d.declared path)) (in_root path))
        ∙ sym (ap (λ b. is_some (lookup d.declared path) || (b || in_root path)) (first_external new path type d.external))

pub leads_none : (paths : List AbsolutePath) (named : List Bool) (nodes : List Node) (scope : AbsolutePath) → Leads paths named paths named (declare_all (trees_of (take 0 nodes)) scope)
leads_none paths named [] scope d agrees path = agrees path ∙ sym (ap (λ d. is_named d path) (declare_none scope d))
leads_none paths named (node ∷ nodes) scope d agrees path = agrees path ∙ sym (ap (λ d. is_named d path) (declare_none scope d))

pub leads_next : (paths mid more : List AbsolutePath) (f g h : List Bool) (nodes : List Node) (i : ℕ) (node : Node) (scope inner : AbsolutePath) → i < length nodes → node ≡ get_or nodes i node → inner ≡ scope → Leads paths f mid g (declare_all (trees_of (take i nodes)) scope)
    → Leads mid g more h (declare (tree_of (at_of node) node.term) inner) → Leads paths f more h (declare_all (trees_of (take (i + 1) nodes)) scope)
leads_next paths mid more f g h nodes i node scope inner lt e same before step d agrees path =
    let taken = declare_all (trees_of (take i nodes)) scope d in
    step taken (before d agrees) path
    ∙ ap (λ s. is_named (declare (tree_of (at_of node) node.term) s taken) path) same
    ∙ ap (λ (n : Node). is_named (declare (tree_of (at_of n) n.term) scope taken) path) e
    ∙ sym (ap (λ d. is_named d path) (declare_next nodes i node scope d lt))

pub leads_whole : (paths more : List AbsolutePath) (f g : List Bool) (nodes : List Node) (i : ℕ) (scope : AbsolutePath) → length nodes ≤ i → Leads paths f more g (declare_all (trees_of (take i nodes)) scope) → Leads paths f more g (declare_all (trees_of nodes) scope)
leads_whole paths more f g nodes i scope le before d agrees path = before d agrees path ∙ ap (λ d. is_named d path) (declare_whole nodes i scope d le)
