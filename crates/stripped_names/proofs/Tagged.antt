-- The descriptors that mentions declare by the nodes of their names are those of the terms that declare descriptors.
use Rattle.std.proofs.Common.{◌≡◌, ℕ, Bool, true, false, List, [], ◌∷◌, ◌++◌, Option, Some, None, refl, sym, ap, ◌∙◌}
use Rattle.std.specs.Prelude.{is_some, if◌then◌else◌, ◌||◌}
use Rattle.acpi_values.specs.Paths.{AbsolutePath, is_same_path}
use Rattle.acpi_state.specs.Objects.{MethodObject, ContainerObject, MutexObject, EventObject, RegionObject, DataObject, lookup}
use Rattle.acpi_state.specs.FieldActs.{region_letters, field_letters}
use Rattle.acpi_state.specs.Outcomes.{choose}
use Rattle.asl_tree.specs.FieldItems.{FieldItem, UnitItem, SkipItem, OffsetItem, AccessItem, ConnectionItem, ToName, ToBytes}
use Rattle.asl_tree.specs.declared.path.Path.{Path}
use Rattle.asl_tree.specs.declared.term.NamedDescriptor.{NamedDescriptor}
use Rattle.asl_tree.specs.Names.{declared_path}
use Rattle.asl_tree.specs.Tree.{At, Tree, Return, Name, Alias, External, Method, Mutex, Event, Container', Scope, Trees, no_trees, tree, OperationRegion, Field, IndexField, BankField, CreateField, UnitName, If, ElseIf, Else, While, For, Print, Switch, Case, Default}
use Rattle.asl_meaning.specs.Declarations.{Declared, As, AliasOf, Declarations, with_declared, scope_path, declare, as_unit, as_buffer_field}
use Rattle.acpi_names.specs.Errors.{Anything, unit_path}
use Rattle.acpi_names.specs.Mentions.{Mention, Used', Sought, Called, Declares, Outside, Opens, is_spot, mentions, mentions_all, operand_mentions, item_mentions, term_mentions, block_mentions}
use Rattle.descriptor_fields.specs.Nodes.{at_node}
use Rattle.descriptor_checks.specs.Resolved.{described_by, described}
use Rattle.unused_names.specs.Left.{is_fill, descriptors_of, descriptors, is_one_of}
use Rattle.unused_names.proofs.Pieces.{AllStay, value_stays, values_stay, operands_stay}

abbrev pub paths_in : List (AbsolutePath × NamedDescriptor) → List AbsolutePath
paths_in [] = []
paths_in (entry ∷ entries) = entry.0 ∷ paths_in entries

paths_append : (a b : List (AbsolutePath × NamedDescriptor)) → paths_in (a ++ b) ≡ paths_in a ++ paths_in b
paths_append [] b = refl
paths_append (entry ∷ a) b = ap (λ ps. entry.0 ∷ ps) (paths_append a b)

-- what is looked up among them
pub found_in : (entries : List (AbsolutePath × NamedDescriptor)) (path : AbsolutePath) → is_some (lookup entries path) ≡ is_one_of (paths_in entries) path
found_in [] path = refl
found_in (entry ∷ entries) path = by_same (is_same_path entry.0 path) (found_in entries path)
  where
    by_same : (b : Bool) → is_some (lookup entries path) ≡ is_one_of (paths_in entries) path → is_some (if b then Some entry.1 else lookup entries path) ≡ (b || is_one_of (paths_in entries) path)
    by_same true h = refl
    by_same false h = h

abbrev everywhere : AbsolutePath → Bool
everywhere path = true

module _ (named : List (ℕ × NamedDescriptor)) where
  -- no descriptor has its name at a node
  abbrev pub IsFree : At → Type 0
  IsFree at = is_some (at_node named at.id) ≡ false

  abbrev pub FreeItems : List (FieldItem UnitName) → Type 0
  FreeItems [] = Unit {0}
  FreeItems (UnitItem name bits ∷ items) = IsFree name.at × FreeItems items
  FreeItems (SkipItem bits ∷ items) = FreeItems items
  FreeItems (OffsetItem bytes ∷ items) = FreeItems items
  FreeItems (AccessItem access attribute length ∷ items) = FreeItems items
  FreeItems (ConnectionItem to ∷ items) = FreeItems items

  -- the names of descriptors stand at the nodes of those that terms declare
  abbrev mutual
    pub Tagged : Tree → Type 0
    Tagged (Name at name value) = is_some (at_node named at.id) ≡ is_fill value
    Tagged (Alias from source at name) = IsFree at
    Tagged (Method at name flags body) = IsFree at × AllTagged body
    Tagged (Mutex at name level) = IsFree at
    Tagged (Event at name) = IsFree at
    Tagged (Container' kind at name body) = IsFree at × AllTagged body
    Tagged (Scope here at name body) = AllTagged body
    Tagged (If test body) = AllTagged body
    Tagged (ElseIf test body) = AllTagged body
    Tagged (Else body) = AllTagged body
    Tagged (While test body) = AllTagged body
    Tagged (For start test step body) = AllTagged body
    Tagged (Switch value cases) = AllTagged cases
    Tagged (Case value body) = AllTagged body
    Tagged (Default body) = AllTagged body
    Tagged (OperationRegion at name space args) = IsFree at
    Tagged (Field here from region flags items) = FreeItems items
    Tagged (IndexField here from index to register flags items) = FreeItems items
    Tagged (BankField here from region to bank value flags items) = FreeItems items
    Tagged (CreateField form args at name) = IsFree at
    Tagged t = Unit {0}

    pub AllTagged : Trees → Type 0
    AllTagged no_trees = Unit {0}
    AllTagged (tree t ts) = Tagged t × AllTagged ts

  described_append : (a b : List Mention) → described named (a ++ b) ≡ described named a ++ described named b
  described_append [] b = refl
  described_append (m ∷ a) b = ap (λ entries. described_by named m ++ entries) (described_append a b) ∙ sym (entries_assoc (described_by named m) (described named a) (described named b))
    where
      entries_assoc : (x y z : List (AbsolutePath × NamedDescriptor)) → (x ++ y) ++ z ≡ x ++ (y ++ z)
      entries_assoc [] y z = refl
      entries_assoc (entry ∷ x) y z = ap (λ rest. entry ∷ rest) (entries_assoc x y z)

  abbrev pub found : List Mention → List AbsolutePath
  found ms = paths_in (described named ms)

  found_both : (a b : List Mention) {p q : List AbsolutePath} → found a ≡ p → found b ≡ q → found (a ++ b) ≡ p ++ q
  found_both a b {p = p} {q = q} h k =
      ap paths_in (described_append a b) ∙ paths_append (described named a) (described named b) ∙ ap (λ ps. ps ++ found b) h ∙ ap (λ ps. p ++ ps) k

  -- mentions that declare nothing
  found_none : (ms : List Mention) → AllStay everywhere ms → found ms ≡ []
  found_none [] h = refl
  found_none (Used' asked at name scope ∷ ms) h = found_none ms h.1
  found_none (Sought at name scope ∷ ms) h = found_none ms h.1
  found_none (Called asked at name args scope ∷ ms) h = found_none ms h.1
  found_none (Declares at name as' scope ∷ ms) h = absurd cc
  found_none (Outside here at name type scope ∷ ms) h = found_none ms h.1
  found_none (Opens here at name scope inner ∷ ms) h = found_none ms h.1

  value : (asked : Bool) (t : Tree) (scope : AbsolutePath) → found (mentions asked t scope) ≡ []
  value asked t scope = found_none (mentions asked t scope) (value_stays everywhere asked t scope)

  -- a name that is no descriptor's
  declares_none : (at : At) (name : Path) (as' : Declared) (scope : AbsolutePath) (ms : List Mention) → IsFree at → found (Declares at name as' scope ∷ ms) ≡ found ms
  declares_none at name as' scope ms h = by_node (at_node named at.id) h
    where
      by_node : (o : Option NamedDescriptor) → is_some o ≡ false → paths_in (choose o [] (λ descriptor. (declared_path name scope, descriptor) ∷ []) ++ described named ms) ≡ found ms
      by_node None e = refl
      by_node (Some descriptor) e = absurd cc

  -- one that may be
  declares_some : (at : At) (name : Path) (as' : Declared) (scope : AbsolutePath) (ms : List Mention) (b : Bool) → is_some (at_node named at.id) ≡ b → found ms ≡ [] → found (Declares at name as' scope ∷ ms) ≡ (if b then declared_path name scope ∷ [] else [])
  declares_some at name as' scope ms b e h = by_node (at_node named at.id) b e
    where
      by_node : (o : Option NamedDescriptor) (b : Bool) → is_some o ≡ b → paths_in (choose o [] (λ descriptor. (declared_path name scope, descriptor) ∷ []) ++ described named ms) ≡ (if b then declared_path name scope ∷ [] else [])
      by_node None false e = h
      by_node (Some descriptor) true e = ap (λ ps. declared_path name scope ∷ ps) h
      by_node None true e = absurd cc
      by_node (Some descriptor) false e = absurd cc

  items : (us : List (FieldItem UnitName)) (scope : AbsolutePath) → FreeItems us → found (item_mentions us scope) ≡ []
  items [] scope h = refl
  items (UnitItem name bits ∷ us) scope h = declares_none name.at (unit_path name.segment) as_unit scope (item_mentions us scope) h.0 ∙ items us scope h.1
  items (SkipItem bits ∷ us) scope h = items us scope h
  items (OffsetItem bytes ∷ us) scope h = items us scope h
  items (AccessItem access attribute length ∷ us) scope h = items us scope h
  items (ConnectionItem (ToName at name) ∷ us) scope h = items us scope h
  items (ConnectionItem (ToBytes bytes) ∷ us) scope h = items us scope h

  with_body : (v : Tree) (body : Trees) (scope : AbsolutePath) (d : Declarations) → found (block_mentions body scope d) ≡ descriptors body scope d → found (mentions true v scope ++ block_mentions body scope d) ≡ descriptors body scope d
  with_body v body scope d h = found_both (mentions true v scope) (block_mentions body scope d) (value true v scope) h

  mutual
    term : (t : Tree) (scope : AbsolutePath) (d : Declarations) → Tagged t → found (term_mentions t scope d) ≡ descriptors_of t scope d
    term (Return v) scope d h = value true v scope
    term (Name at name v) scope d h = declares_some at name (As DataObject) scope (mentions true v scope) (is_fill v) h (value true v scope)
    term (Alias from source at name) scope d h = declares_none at name (AliasOf source scope) scope [] h
    term (External here at name type parameters) scope d h = refl
    term (Method at name flags body) scope d h =
        let path : AbsolutePath = declared_path name scope in
        declares_none at name (As (MethodObject flags)) scope (block_mentions body path (with_declared path (As (MethodObject flags)) d)) h.0 ∙ block body path (with_declared path (As (MethodObject flags)) d) h.1
    term (Mutex at name level) scope d h = declares_none at name (As (MutexObject level)) scope [] h
    term (Event at name) scope d h = declares_none at name (As EventObject) scope [] h
    term (Container' kind at name body) scope d h =
        let path : AbsolutePath = declared_path name scope in
        declares_none at name (As (ContainerObject kind)) scope (block_mentions body path (with_declared path (As (ContainerObject kind)) d)) h.0 ∙ block body path (with_declared path (As (ContainerObject kind)) d) h.1
    term (Scope here at name body) scope d h = block body (scope_path d name scope) d h
    term (If v body) scope d h = with_body v body scope d (block body scope d h)
    term (ElseIf v body) scope d h = with_body v body scope d (block body scope d h)
    term (Else body) scope d h = block body scope d h
    term (While v body) scope d h = with_body v body scope d (block body scope d h)
    term (For start test step body) scope d h =
        found_both (mentions true start scope) (mentions true test scope ++ (mentions true step scope ++ block_mentions body scope d)) (value true start scope)
        (found_both (mentions true test scope) (mentions true step scope ++ block_mentions body scope d) (value true test scope) (with_body step body scope d (block body scope d h)))
    term (Print place format args) scope d h =
        found_both (mentions (is_spot place) place scope) (mentions_all true args scope) (value (is_spot place) place scope) (found_none (mentions_all true args scope) (values_stay everywhere true args scope))
    term (Switch v cases) scope d h = with_body v cases scope d (block cases scope d h)
    term (Case v body) scope d h = with_body v body scope d (block body scope d h)
    term (Default body) scope d h = block body scope d h
    term (OperationRegion at name space args) scope d h =
        declares_none at name (As (RegionObject space 0 0)) scope (operand_mentions true Anything region_letters args scope) h
        ∙ found_none (operand_mentions true Anything region_letters args scope) (operands_stay everywhere true Anything region_letters args scope)
    term (Field here from region flags us) scope d h = items us scope h
    term (IndexField here from index to register flags us) scope d h = items us scope h
    term (BankField here from region to bank v flags us) scope d h = found_both (mentions true v scope) (item_mentions us scope) (value true v scope) (items us scope h)
    term (CreateField form args at name) scope d h =
        found_both (operand_mentions true Anything (field_letters form) args scope) (Declares at name as_buffer_field scope ∷ [])
        (found_none (operand_mentions true Anything (field_letters form) args scope) (operands_stay everywhere true Anything (field_letters form) args scope)) (declares_none at name as_buffer_field scope [] h)
    term t scope d h = value true t scope

    pub block : (ts : Trees) (scope : AbsolutePath) (d : Declarations) → AllTagged ts → found (block_mentions ts scope d) ≡ descriptors ts scope d
    block no_trees scope d h = refl
    block (tree t ts) scope d h = found_both (term_mentions t scope d) (block_mentions ts scope (declare t scope d)) (term t scope d h.0) (block ts scope (declare t scope d) h.1)
