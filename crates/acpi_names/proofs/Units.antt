-- The units of fields.
use Rattle.std.proofs.Common.{◌≡◌, ℕ, zero, suc, ◌+◌, ◌<◌, ◌≤◌, Bool, true, false, List, [], ◌∷◌, ◌++◌, length, get_or, take, drop, Option, Some, None, refl, sym, ap, ◌∙◌, arith}
use Rattle.std.specs.Prelude.{◌&&◌}
use Rattle.std.specs.Option.{option_map}
use Rattle.std.proofs.lemmas.List.{take_all}
use Rattle.acpi_values.specs.Paths.{NameSeg, AbsolutePath}
use Rattle.acpi_state.specs.Outcomes.{choose}
use Rattle.asl_tree.specs.FieldItems.{FieldItem, UnitItem, SkipItem, OffsetItem, AccessItem, ConnectionItem, ToName, ToBytes}
use Rattle.asl_tree.specs.declared.path.Path.{Path}
use Rattle.asl_tree.specs.declared.term.Op.{Op}
use Rattle.asl_tree.specs.declared.term.Node.{Node}
use Rattle.asl_tree.specs.declared.term.Term.{Term}
use Rattle.asl_tree.specs.declared.term.Term as D
use Rattle.asl_tree.specs.Tree.{At, Tree, Use, Item, Fill, UnitName, Trees, no_trees, tree}
use Rattle.asl_tree.specs.View.{tree_of, row_trees, trees_of, items_in}
use Rattle.asl_meaning.specs.Declarations.{Declarations, declare_items, is_named}
use Rattle.acpi_names.specs.Errors.{AnObject}
use Rattle.acpi_names.specs.Mentions.{Used', item_mentions}
use Rattle.acpi_names.specs.Parts.{Leads, is_item_list, is_item_term, unit_of, listed_items, declare_part}
use Rattle.acpi_names.specs.Walked.{node_tree, part_mentions, field_mentions}
use Rattle.acpi_names.specs.Units.{unit_in, declare_unit, unit_mentions, connection_mentions, entry_mentions}
use Rattle.acpi_names.specs.declared.part.Over.{Over}
use Rattle.acpi_names.specs.declared.part.NameRole.TheVariants as P
use Rattle.acpi_names.proofs.Plain.{is_plain, plain_form}
use Rattle.acpi_names.proofs.Folds.{at_of}
use Rattle.acpi_names.proofs.Telling.{trees_at, no_more}

abbrev is_item : Tree → Bool
is_item (Item item) = true
is_item (Use at name) = true
is_item (Fill bytes) = true
is_item _ = false

plain_item : (t : Tree) → is_plain t ≡ true → is_item t ≡ false
plain_item (Item item) e = absurd (grind arith)
plain_item (Use at name) e = absurd (grind arith)
plain_item (Fill bytes) e = absurd (grind arith)
plain_item t e = refl

item_term : (at : At) (t : Term) → is_item (tree_of at t) ≡ is_item_term t
unfolding tree_of
item_term at (D.Form' op shape args shape' body) = plain_item _ (plain_form at op (row_trees args) (row_trees body))
item_term at _ = refl

-- a list of items, one after another
some_more : (o : Option (List (FieldItem UnitName))) (item : FieldItem UnitName) → choose (choose o None (λ items. Some (item ∷ items))) false (λ items. true) ≡ choose o false (λ items. true)
some_more None item = refl
some_more (Some items) item = refl

list_step : (t : Tree) (ts : Trees) → is_item_list (tree t ts) ≡ (is_item t && is_item_list ts)
list_step (Item item) ts = some_more (items_in ts) item
list_step (Use at name) ts = some_more (items_in ts) (ConnectionItem (ToName at name))
list_step (Fill bytes) ts = some_more (items_in ts) (ConnectionItem (ToBytes bytes))
list_step t ts = refl

pub items_next : (nodes : List Node) (i : ℕ) (node : Node) (c : Bool) → i < length nodes → node ≡ get_or nodes i node → is_item_term node.term ≡ c → is_item_list (trees_of (drop i nodes)) ≡ (c && is_item_list (trees_of (drop (i + 1) nodes)))
items_next nodes i node c lt e h =
    let next : suc i ≡ i + 1 = omega arith in
    ap is_item_list (trees_at nodes i node lt) ∙ list_step (node_tree (get_or nodes i node)) (trees_of (drop (suc i) nodes))
    ∙ ap (λ (n : Node). is_item (node_tree n) && is_item_list (trees_of (drop (suc i) nodes))) (sym e)
    ∙ ap (λ b. b && is_item_list (trees_of (drop (suc i) nodes))) (item_term (at_of node) node.term ∙ h)
    ∙ ap (λ k. c && is_item_list (trees_of (drop k nodes))) next

pub items_end : (nodes : List Node) (i : ℕ) → length nodes ≤ i → is_item_list (trees_of (drop i nodes)) ≡ true
items_end nodes i le = ap is_item_list (no_more nodes i le)

pub items_listed : (ts : Trees) → is_item_list ts ≡ true → items_in ts ≡ Some (listed_items ts)
items_listed no_trees e = refl
items_listed (tree (Item item) ts) e = ap (λ o. choose o None (λ items. Some (item ∷ items))) (items_listed ts (sym (some_more (items_in ts) item) ∙ e))
items_listed (tree (Use at name) ts) e =
    let item = ConnectionItem (ToName at name) in ap (λ o. choose o None (λ items. Some (item ∷ items))) (items_listed ts (sym (some_more (items_in ts) item) ∙ e))
items_listed (tree (Fill bytes) ts) e =
    let item = ConnectionItem (ToBytes bytes) in ap (λ o. choose o None (λ items. Some (item ∷ items))) (items_listed ts (sym (some_more (items_in ts) item) ∙ e))
items_listed (tree t ts) e = absurd (grind arith)

none_listed : (o : Option (List (FieldItem UnitName))) → choose o false (λ items. true) ≡ false → o ≡ None
none_listed None e = refl
none_listed (Some items) e = absurd (grind arith)

pub items_unlisted : (ts : Trees) → is_item_list ts ≡ false → items_in ts ≡ None
items_unlisted ts e = none_listed (items_in ts) e

-- the unit that a node is
plain_unit : (t : Tree) → is_plain t ≡ true → unit_in t ≡ None
plain_unit (Item item) e = absurd (grind arith)
plain_unit t e = refl

pub unit_there : (at : At) (t : Term) (segment : NameSeg) → Some segment ≡ unit_of t → unit_in (tree_of at t) ≡ Some (record { at = at; segment = segment })
unfolding tree_of
unit_there at (D.Unit s bits) segment e = ap (option_map (unit_at at)) (sym e)
  where
    unit_at : At → NameSeg → UnitName
    unit_at at s = record { at = at; segment = s }
unit_there at t segment e = absurd (grind arith)

pub unit_none : (at : At) (t : Term) → None ≡ unit_of t → unit_in (tree_of at t) ≡ None
unfolding tree_of
unit_none at (D.Unit s bits) e = absurd (grind arith)
unit_none at (D.Form' op shape args shape' body) e = plain_unit _ (plain_form at op (row_trees args) (row_trees body))
unit_none at t e = refl

-- what a form is no connection of
plain_connection : (t : Tree) (scope : AbsolutePath) → is_plain t ≡ true → connection_mentions t scope ≡ []
plain_connection (Item item) scope e = absurd (grind arith)
plain_connection (Use at name) scope e = absurd (grind arith)
plain_connection t scope e = refl

pub connection_none : (at : At) (t : Term) (scope : AbsolutePath) → ((path : Path) → t ≡ D.Name path → ⊥) → connection_mentions (tree_of at t) scope ≡ []
unfolding tree_of
connection_none at (D.Name path) scope e = absurd (e path refl)
connection_none at (D.Form' op shape args shape' body) scope e = plain_connection _ scope (plain_form at op (row_trees args) (row_trees body))
connection_none at t scope e = refl

pub connection_there : (at : At) (t : Term) (path : Path) (scope : AbsolutePath) → t ≡ D.Name path → Used' AnObject at path scope ∷ [] ≡ connection_mentions (tree_of at t) scope
unfolding tree_of
connection_there at t path scope e = ap (λ t. connection_mentions (tree_of at t) scope) (sym e)

-- a unit is no connection
pub entry_unit : (t : Tree) (name : UnitName) (scope : AbsolutePath) → unit_in t ≡ Some name → unit_mentions (Some name) scope ≡ entry_mentions t scope
entry_unit (Item (UnitItem unit bits)) name scope e = ap (λ u. unit_mentions u scope) (sym e)
entry_unit t name scope e = absurd (grind arith)

-- one item more
pub mention_step : (t : Tree) (ts : Trees) (scope : AbsolutePath) → item_mentions (listed_items (tree t ts)) scope ≡ entry_mentions t scope ++ item_mentions (listed_items ts) scope
mention_step (Item (UnitItem name bits)) ts scope = refl
mention_step (Item (SkipItem bits)) ts scope = refl
mention_step (Item (OffsetItem bytes)) ts scope = refl
mention_step (Item (AccessItem access attribute length)) ts scope = refl
mention_step (Item (ConnectionItem (ToName at name))) ts scope = refl
mention_step (Item (ConnectionItem (ToBytes bytes))) ts scope = refl
mention_step (Use at name) ts scope = refl
mention_step (Fill bytes) ts scope = refl
mention_step t ts scope = refl

declare_step : (t : Tree) (ts : Trees) (scope : AbsolutePath) (d : Declarations) → declare_items (listed_items (tree t ts)) scope d ≡ declare_items (listed_items ts) scope (declare_unit (unit_in t) scope d)
declare_step (Item (UnitItem name bits)) ts scope d = refl
declare_step (Item (SkipItem bits)) ts scope d = refl
declare_step (Item (OffsetItem bytes)) ts scope d = refl
declare_step (Item (AccessItem access attribute length)) ts scope d = refl
declare_step (Item (ConnectionItem to)) ts scope d = refl
declare_step (Use at name) ts scope d = refl
declare_step (Fill bytes) ts scope d = refl
declare_step t ts scope d = refl

declared_none : (nodes : List Node) (scope : AbsolutePath) (d : Declarations) → declare_items (listed_items (trees_of (take 0 nodes))) scope d ≡ d
unfolding trees_of
declared_none [] scope d = refl
declared_none (n ∷ nodes) scope d = refl

declared_suc : (nodes : List Node) (i : ℕ) (node : Node) (scope : AbsolutePath) (d : Declarations) → i < length nodes → declare_items (listed_items (trees_of (take (suc i) nodes))) scope d ≡ declare_unit (unit_in (node_tree (get_or nodes i node))) scope (declare_items (listed_items (trees_of (take i nodes))) scope d)
unfolding trees_of
declared_suc [] i node scope d lt = absurd (omega (arith, lt))
declared_suc (n ∷ nodes) zero node scope d lt =
    declare_step (node_tree n) (trees_of (take 0 nodes)) scope d ∙ declared_none nodes scope (declare_unit (unit_in (node_tree n)) scope d)
declared_suc (n ∷ nodes) (suc i) node scope d lt =
    declare_step (node_tree n) (trees_of (take (suc i) nodes)) scope d
    ∙ declared_suc nodes i node scope (declare_unit (unit_in (node_tree n)) scope d) (omega (arith, lt))
    ∙ ap (declare_unit (unit_in (node_tree (get_or nodes i node))) scope) (sym (declare_step (node_tree n) (trees_of (take i nodes)) scope d))

pub units_none : (paths : List AbsolutePath) (named : List Bool) (nodes : List Node) (scope : AbsolutePath) → Leads paths named paths named (declare_items (listed_items (trees_of (take 0 nodes))) scope)
units_none paths named nodes scope d agrees path = agrees path ∙ sym (ap (λ d. is_named d path) (declared_none nodes scope d))

pub units_next : (paths mid more : List AbsolutePath) (f g h : List Bool) (nodes : List Node) (i : ℕ) (node : Node) (scope inner : AbsolutePath) → i < length nodes → node ≡ get_or nodes i node → inner ≡ scope → Leads paths f mid g (declare_items (listed_items (trees_of (take i nodes))) scope)
    → Leads mid g more h (declare_unit (unit_in (node_tree node)) inner) → Leads paths f more h (declare_items (listed_items (trees_of (take (i + 1) nodes))) scope)
units_next paths mid more f g h nodes i node scope inner lt e same before step d agrees path =
    let taken = declare_items (listed_items (trees_of (take i nodes))) scope d in
    let next : i + 1 ≡ suc i = omega arith in
    step taken (before d agrees) path
    ∙ ap (λ s. is_named (declare_unit (unit_in (node_tree node)) s taken) path) same
    ∙ ap (λ (n : Node). is_named (declare_unit (unit_in (node_tree n)) scope taken) path) e
    ∙ sym (ap (λ k. is_named (declare_items (listed_items (trees_of (take k nodes))) scope d) path) next ∙ ap (λ d. is_named d path) (declared_suc nodes i node scope d lt))

pub units_whole : (paths more : List AbsolutePath) (f g : List Bool) (nodes : List Node) (i : ℕ) (scope : AbsolutePath) → length nodes ≤ i → Leads paths f more g (declare_items (listed_items (trees_of (take i nodes))) scope) → Leads paths f more g (declare_items (listed_items (trees_of nodes)) scope)
units_whole paths more f g nodes i scope le before d agrees path =
    before d agrees path ∙ ap (λ ns. is_named (declare_items (listed_items (trees_of ns)) scope d) path) (take_all i nodes le)

-- a field whose body lists its units, and any other
pub field_declares : (over : Over) (args body : Trees) (scope : AbsolutePath) (d : Declarations) → is_item_list body ≡ true → declare_items (listed_items body) scope d ≡ declare_part (P.Units over) args body scope d
field_declares over args body scope d e = sym (ap (λ o. choose o d (λ items. declare_items items scope d)) (items_listed body e))

pub field_undeclared : (over : Over) (args body : Trees) (scope : AbsolutePath) (d : Declarations) → is_item_list body ≡ false → d ≡ declare_part (P.Units over) args body scope d
field_undeclared over args body scope d e = sym (ap (λ o. choose o d (λ items. declare_items items scope d)) (items_unlisted body e))

pub field_told : (over : Over) (here : At) (op : Op) (args body : Trees) (scope : AbsolutePath) (d : Declarations) → is_item_list body ≡ true → field_mentions over here args scope ++ item_mentions (listed_items body) scope ≡ part_mentions (P.Units over) here op args body scope d
field_told over here op args body scope d e = sym (ap (λ o. choose o [] (λ items. field_mentions over here args scope ++ item_mentions items scope)) (items_listed body e))

pub field_untold : (over : Over) (here : At) (op : Op) (args body : Trees) (scope : AbsolutePath) (d : Declarations) → is_item_list body ≡ false → [] ≡ part_mentions (P.Units over) here op args body scope d
field_untold over here op args body scope d e = sym (ap (λ o. choose o [] (λ items. field_mentions over here args scope ++ item_mentions items scope)) (items_unlisted body e))
