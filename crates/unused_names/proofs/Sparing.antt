-- Where no mention uses a descriptor, and none declares a name below one, no alias leads to one.
use Rattle.std.proofs.Common.{Bool, true, List, [], ◌∷◌, ◌++◌}
use Rattle.acpi_values.specs.Paths.{AbsolutePath}
use Rattle.acpi_state.specs.Objects.{MethodObject, ContainerObject}
use Rattle.acpi_state.specs.FieldActs.{region_letters, field_letters}
use Rattle.asl_tree.specs.FieldItems.{FieldItem, UnitItem, SkipItem, OffsetItem, AccessItem, ConnectionItem, ToName, ToBytes}
use Rattle.asl_tree.specs.Names.{declared_path}
use Rattle.asl_tree.specs.Tree.{Tree, Return, Name, Alias, External, Method, Mutex, Event, Container', Scope, Trees, no_trees, tree, UnitName, OperationRegion, Field, IndexField, BankField, CreateField, If, ElseIf, Else, While, For, Print, Switch, Case, Default}
use Rattle.asl_meaning.specs.Declarations.{As, Declarations, nothing_declared, declarations, is_named, with_declared, scope_path, declare}
use Rattle.acpi_names.specs.Errors.{Anything}
use Rattle.acpi_names.specs.Mentions.{Mention, Used', Sought, Called, Declares, Outside, Opens, is_spot, mentions, mentions_all, operand_mentions, item_mentions, term_mentions, block_mentions}
use Rattle.unused_names.specs.Unused.{Stays, SparesSource, SparesAll, AreSpared}
use Rattle.unused_names.specs.Left.{is_descriptor, DescriptorsAreApart}
use Rattle.unused_names.specs.Uses.{UsesOther, UseOthers, IsNotBelow, AreNotBelow}
use Rattle.unused_names.proofs.Pieces.{AllStay, value_stays, values_stay, operands_stay}

abbrev everywhere : AbsolutePath → Bool
everywhere p = true

module _ (gone has : AbsolutePath → Bool) where
  abbrev Sources : Mention → Type 0
  Sources (Declares at name as' scope) = SparesSource gone has as'
  Sources _ = Unit {0}

  abbrev AllSources : List Mention → Type 0
  AllSources [] = Unit {0}
  AllSources (m ∷ ms) = Sources m × AllSources ms

  both : (xs ys : List Mention) → AllSources xs → AllSources ys → AllSources (xs ++ ys)
  both [] ys h k = k
  both (x ∷ xs) ys h k = (h.0, both xs ys h.1 k)

  -- mentions that declare nothing
  quiet_one : (m : Mention) → Stays everywhere m → Sources m
  quiet_one (Used' asked at name scope) h = tt
  quiet_one (Sought at name scope) h = tt
  quiet_one (Called asked at name args scope) h = tt
  quiet_one (Declares at name as' scope) h = absurd cc
  quiet_one (Outside here at name type scope) h = tt
  quiet_one (Opens here at name scope inner) h = tt

  quiet_all : (ms : List Mention) → AllStay everywhere ms → AllSources ms
  quiet_all [] h = tt
  quiet_all (m ∷ ms) h = (quiet_one m h.0, quiet_all ms h.1)

  value : (t : Tree) (scope : AbsolutePath) → AllSources (mentions true t scope)
  value t scope = quiet_all (mentions true t scope) (value_stays everywhere true t scope)

  items : (us : List (FieldItem UnitName)) (scope : AbsolutePath) → AllSources (item_mentions us scope)
  items [] scope = tt
  items (UnitItem name bits ∷ us) scope = (tt, items us scope)
  items (SkipItem bits ∷ us) scope = items us scope
  items (OffsetItem bytes ∷ us) scope = items us scope
  items (AccessItem access attribute length ∷ us) scope = items us scope
  items (ConnectionItem (ToName at name) ∷ us) scope = (tt, items us scope)
  items (ConnectionItem (ToBytes bytes) ∷ us) scope = items us scope

  uses_left : (a b : List Mention) → UseOthers gone has (a ++ b) → UseOthers gone has a
  uses_left [] b h = tt
  uses_left (m ∷ a) b h = (h.0, uses_left a b h.1)

  uses_right : (a b : List Mention) → UseOthers gone has (a ++ b) → UseOthers gone has b
  uses_right [] b h = h
  uses_right (m ∷ a) b h = uses_right a b h.1

  mutual
    term : (t : Tree) (scope : AbsolutePath) (d : Declarations) → UseOthers gone has (term_mentions t scope d) → AllSources (term_mentions t scope d)
    term (Return v) scope d h = value v scope
    term (Name at name v) scope d h = (tt, value v scope)
    term (Alias from source at name) scope d h = (tt, (h.0, tt))
    term (External here at name type parameters) scope d h = (tt, tt)
    term (Method at name flags body) scope d h = (tt, block body (declared_path name scope) (with_declared (declared_path name scope) (As (MethodObject flags)) d) h.1)
    term (Mutex at name level) scope d h = (tt, tt)
    term (Event at name) scope d h = (tt, tt)
    term (Container' kind at name body) scope d h = (tt, block body (declared_path name scope) (with_declared (declared_path name scope) (As (ContainerObject kind)) d) h.1)
    term (Scope here at name body) scope d h = (tt, block body (scope_path d name scope) d h.1)
    term (If v body) scope d h = both (mentions true v scope) (block_mentions body scope d) (value v scope) (block body scope d (uses_right (mentions true v scope) (block_mentions body scope d) h))
    term (ElseIf v body) scope d h = both (mentions true v scope) (block_mentions body scope d) (value v scope) (block body scope d (uses_right (mentions true v scope) (block_mentions body scope d) h))
    term (Else body) scope d h = block body scope d h
    term (While v body) scope d h = both (mentions true v scope) (block_mentions body scope d) (value v scope) (block body scope d (uses_right (mentions true v scope) (block_mentions body scope d) h))
    term (For start test step body) scope d h =
        let last = mentions true step scope ++ block_mentions body scope d in
        let behind = uses_right (mentions true start scope) (mentions true test scope ++ last) h in
        let body_uses = uses_right (mentions true step scope) (block_mentions body scope d) (uses_right (mentions true test scope) last behind) in
        both (mentions true start scope) (mentions true test scope ++ last) (value start scope)
        (both (mentions true test scope) last (value test scope) (both (mentions true step scope) (block_mentions body scope d) (value step scope) (block body scope d body_uses)))
    term (Print place format args) scope d h =
        both (mentions (is_spot place) place scope) (mentions_all true args scope) (quiet_all (mentions (is_spot place) place scope) (value_stays everywhere (is_spot place) place scope))
        (quiet_all (mentions_all true args scope) (values_stay everywhere true args scope))
    term (Switch v cases) scope d h = both (mentions true v scope) (block_mentions cases scope d) (value v scope) (block cases scope d (uses_right (mentions true v scope) (block_mentions cases scope d) h))
    term (Case v body) scope d h = both (mentions true v scope) (block_mentions body scope d) (value v scope) (block body scope d (uses_right (mentions true v scope) (block_mentions body scope d) h))
    term (Default body) scope d h = block body scope d h
    term (OperationRegion at name space args) scope d h = (tt, quiet_all (operand_mentions true Anything region_letters args scope) (operands_stay everywhere true Anything region_letters args scope))
    term (Field here from region flags us) scope d h = (tt, items us scope)
    term (IndexField here from index to register flags us) scope d h = (tt, (tt, items us scope))
    term (BankField here from region to bank v flags us) scope d h = (tt, (tt, both (mentions true v scope) (item_mentions us scope) (value v scope) (items us scope)))
    term (CreateField form args at name) scope d h = both (operand_mentions true Anything (field_letters form) args scope) _ (quiet_all (operand_mentions true Anything (field_letters form) args scope) (operands_stay everywhere true Anything (field_letters form) args scope)) (tt, tt)
    term t scope d h = value t scope

    block : (ts : Trees) (scope : AbsolutePath) (d : Declarations) → UseOthers gone has (block_mentions ts scope d) → AllSources (block_mentions ts scope d)
    block no_trees scope d h = tt
    block (tree t ts) scope d h =
        both (term_mentions t scope d) (block_mentions ts scope (declare t scope d)) (term t scope d (uses_left (term_mentions t scope d) (block_mentions ts scope (declare t scope d)) h))
        (block ts scope (declare t scope d) (uses_right (term_mentions t scope d) (block_mentions ts scope (declare t scope d)) h))

  spared_one : (m : Mention) → UsesOther gone has m → IsNotBelow gone has m → Sources m → SparesAll gone has m
  spared_one (Used' asked at name scope) h k s = h
  spared_one (Sought at name scope) h k s = tt
  spared_one (Called asked at name args scope) h k s = h
  spared_one (Declares at name as' scope) h k s = (k, s)
  spared_one (Outside here at name type scope) h k s = tt
  spared_one (Opens here at name scope inner) h k s = h

  spared : (ms : List Mention) → UseOthers gone has ms → AreNotBelow gone has ms → AllSources ms → AreSpared gone has ms
  spared [] h k s = tt
  spared (m ∷ ms) h k s = (spared_one m h.0 k.0 s.0, spared ms h.1 k.1 s.1)

pub apart : (program : Trees) → UseOthers (is_descriptor program) (is_named (declarations program)) (block_mentions program [] nothing_declared)
    → AreNotBelow (is_descriptor program) (is_named (declarations program)) (block_mentions program [] nothing_declared) → DescriptorsAreApart program
apart program h k =
    let gone = is_descriptor program in
    let has = is_named (declarations program) in
    spared gone has (block_mentions program [] nothing_declared) h k (block gone has program [] nothing_declared h)
