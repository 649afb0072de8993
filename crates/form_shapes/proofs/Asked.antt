-- In a formed program each call stands where a value is asked for, so that its number of arguments is checked.
use Rattle.std.proofs.Common.{◌≡◌, Bool, true, false, List, [], ◌∷◌, ◌++◌, refl}
use Rattle.std.specs.Prelude.{◌&&◌, not}
use Rattle.acpi_values.specs.Paths.{AbsolutePath}
use Rattle.acpi_values.specs.declared.operator.DataOp.TheVariants as DataOp
use Rattle.acpi_values.specs.declared.operator.Plain.{Plain}
use Rattle.acpi_values.specs.Operators.{Letter, Valued, Kept, Placed, Used, Row, row_of}
use Rattle.acpi_values.specs.Operators as L
use Rattle.acpi_state.specs.Objects.{MethodObject, ContainerObject}
use Rattle.acpi_state.specs.FieldActs.{region_letters, field_letters}
use Rattle.asl_tree.specs.FieldItems.{FieldItem, UnitItem, SkipItem, OffsetItem, AccessItem, ConnectionItem, ToName, ToBytes}
use Rattle.asl_tree.specs.Names.{declared_path}
use Rattle.asl_tree.specs.Tree.{Tree, Integer, Constant, String, InSlot, Debug, Omitted, Raw, Use, Call, Apply, Buffer, Package, VarPackage, CondRefOf, Return, Name, Alias, External, Method, Mutex, Event, Container', Scope, Operated}
use Rattle.asl_tree.specs.Tree.{Assigned, AssignedBy, Trees, no_trees, tree, count, OperationRegion, Field, IndexField, BankField, CreateField, UnitName, If, ElseIf, Else, While, For, Print, Break, Continue, Switch, Case, Default}
use Rattle.asl_meaning.specs.Declarations.{As, Declarations, scope_path, with_declared, declare, as_buffer_field}
use Rattle.asl_meaning.specs.Meaning.{spot_form}
use Rattle.acpi_names.specs.Errors.{Asked, Anything}
use Rattle.acpi_names.specs.Mentions.{Mention, Called, Declares, is_spot, is_use, is_place_form, asks, asked_use, letter_mention, cond_place, mentions, mentions_all, operand_mentions, target_mentions, element_mentions, item_mentions, term_mentions, block_mentions}
use Rattle.aml_sessions.specs.Ready.{is_expression, SpotReady}
use Rattle.named_sessions.specs.Shaped.{LetterShaped, ElementShaped, EffectShaped, IsNumber, IsCaseMember, AreCaseMembers, HaveCaseMembers, IsCaseValue, IsFormed, IsFormedSpot, IsFormedAlone, AreFormedOperands, AreFormedSpots, AreFormedValues, AreFormedElements, AreFormed, AreFormedCases}

-- a call is asked for its number of arguments
abbrev pub IsAsked : Mention → Type 0
IsAsked (Called false at name args scope) = ⊥
IsAsked m = Unit {0}

abbrev pub AreAsked : List Mention → Type 0
AreAsked [] = Unit {0}
AreAsked (m ∷ ms) = IsAsked m × AreAsked ms

asked_both : (a b : List Mention) → AreAsked a → AreAsked b → AreAsked (a ++ b)
asked_both [] b h k = k
asked_both (m ∷ a) b h k = (h.0, asked_both a b h.1 k)

items_asked : (items : List (FieldItem UnitName)) (scope : AbsolutePath) → AreAsked (item_mentions items scope)
items_asked [] scope = tt
items_asked (UnitItem name bits ∷ items) scope = (tt, items_asked items scope)
items_asked (SkipItem bits ∷ items) scope = items_asked items scope
items_asked (OffsetItem bytes ∷ items) scope = items_asked items scope
items_asked (AccessItem access attribute length ∷ items) scope = items_asked items scope
items_asked (ConnectionItem (ToName at name) ∷ items) scope = (tt, items_asked items scope)
items_asked (ConnectionItem (ToBytes bytes) ∷ items) scope = items_asked items scope

-- ---- what a Case compares with

number_asked : (t : Tree) → IsNumber t → (asked : Bool) (scope : AbsolutePath) → AreAsked (mentions asked t scope)
number_asked (Integer n) h asked scope = tt
number_asked _ h asked scope = absurd h

member_asked : (t : Tree) → IsCaseMember t → (asked : Bool) (scope : AbsolutePath) → AreAsked (mentions asked t scope)
member_asked (Integer n) h asked scope = tt
member_asked (Constant literal) h asked scope = tt
member_asked (String text) h asked scope = tt
member_asked (Buffer size bytes) h asked scope = number_asked size h asked scope
member_asked _ h asked scope = absurd h

members_asked : (ts : Trees) → AreCaseMembers ts → (asked : Bool) (scope : AbsolutePath) → AreAsked (element_mentions asked ts scope)
members_asked no_trees h asked scope = tt
members_asked (tree t ts) h asked scope =
    asked_both (mentions (asked && not (is_use t)) t scope) (element_mentions asked ts scope) (member_asked t h.0 (asked && not (is_use t)) scope) (members_asked ts h.1 asked scope)

some_asked : (ts : Trees) → HaveCaseMembers ts → (asked : Bool) (scope : AbsolutePath) → AreAsked (element_mentions asked ts scope)
some_asked no_trees h asked scope = absurd h
some_asked (tree t ts) h asked scope = members_asked (tree t ts) h asked scope

case_asked : (t : Tree) → IsCaseValue t → (scope : AbsolutePath) → AreAsked (mentions true t scope)
case_asked (Package n members) h scope = some_asked members h true scope
case_asked (VarPackage size members) h scope = asked_both (mentions true size scope) (element_mentions true members scope) (number_asked size h.0 true scope) (some_asked members h.1 true scope)
case_asked (Integer n) h scope = tt
case_asked (Constant literal) h scope = tt
case_asked (String text) h scope = tt
case_asked (Buffer size bytes) h scope = number_asked size h true scope
case_asked _ h scope = absurd h

module _ (Forms : Type 0) (Listed : List (FieldItem UnitName) → Type 0) (Symbols Switches : Type 0) where
  abbrev Value : Tree → Type 0
  Value t = (is_expression t ≡ true) × IsFormed Forms Listed Symbols Switches t

  letter_asked : (letter : Letter) (uses : Asked) (t : Tree) (scope : AbsolutePath) → (Value t → AreAsked (mentions true t scope)) → (IsFormedSpot Forms Listed Symbols Switches t → AreAsked (mentions (is_spot t) t scope))
      → LetterShaped letter t (Value t) (IsFormedSpot Forms Listed Symbols Switches t) → AreAsked (letter_mention letter uses t (mentions (asks letter t) t scope) scope)
  letter_asked Valued uses t scope value spot h = value h
  letter_asked Kept uses t scope value spot h = value h
  letter_asked Placed uses t scope value spot h = spot h
  letter_asked Used uses (Use at name) scope value spot h = (tt, tt)
  letter_asked Used uses _ scope value spot h = absurd h
  letter_asked (L.Raw size) uses (Raw other number) scope value spot h = tt
  letter_asked (L.Raw size) uses _ scope value spot h = absurd h

  -- the place of an operator, by its form
  spot_applied : (op : Plain) (args targets : Trees) (scope : AbsolutePath)
      → (AreFormedOperands Forms Listed Symbols Switches (row_of op).operands args → AreAsked (operand_mentions true (asked_use true op) (row_of op).operands args scope))
      → (AreFormedSpots Forms Listed Symbols Switches targets → AreAsked (target_mentions true targets scope))
      → (IsFormedAlone Forms Listed Symbols Switches args targets → AreAsked (operand_mentions true Anything (Valued ∷ []) args scope ++ target_mentions true targets scope))
      → SpotReady (spot_form op) (AreFormedOperands Forms Listed Symbols Switches (row_of op).operands args × (count targets ≡ (row_of op).targets) × AreFormedSpots Forms Listed Symbols Switches targets) (IsFormedAlone Forms Listed Symbols Switches args targets)
      → AreAsked (mentions (is_place_form (spot_form op)) (Apply op args targets) scope)
  spot_applied (Plain.Data DataOp.Index) args targets scope first rest alone h =
      asked_both (operand_mentions true Anything (row_of (Plain.Data DataOp.Index)).operands args scope) (target_mentions true targets scope) (first h.0) (rest h.2)
  spot_applied (Plain.Data DataOp.DerefOf) args targets scope first rest alone h = alone h
  spot_applied _ args targets scope first rest alone h = absurd h

  spot_operated : (op : Plain) (args : Trees) (scope : AbsolutePath)
      → (AreFormedOperands Forms Listed Symbols Switches (row_of op).operands args → AreAsked (operand_mentions true (asked_use true op) (row_of op).operands args scope))
      → SpotReady (spot_form op) (AreFormedOperands Forms Listed Symbols Switches (row_of op).operands args) ⊥ → AreAsked (mentions (is_place_form (spot_form op)) (Operated op args) scope)
  spot_operated (Plain.Data DataOp.Index) args scope all h = all h
  spot_operated (Plain.Data DataOp.DerefOf) args scope all h = absurd h
  spot_operated _ args scope all h = absurd h

  cond_asked : (t : Tree) (scope : AbsolutePath) → AreAsked (mentions (is_spot t) t scope) → AreAsked (cond_place t (mentions (is_spot t) t scope) scope)
  cond_asked (Use at name) scope h = (tt, tt)
  cond_asked t scope h = h

  element_asked : (t : Tree) (scope : AbsolutePath) → ((is_expression t ≡ true) → IsFormed Forms Listed Symbols Switches t → AreAsked (mentions true t scope)) → ElementShaped t (IsFormed Forms Listed Symbols Switches t) → AreAsked (mentions (not (is_use t)) t scope)
  element_asked (Use at name) scope value h = (tt, tt)
  element_asked (Integer n) scope value h = tt
  element_asked (Constant literal) scope value h = tt
  element_asked (String text) scope value h = tt
  element_asked (Buffer size bytes) scope value h = value h.0 h.1
  element_asked (Package n elements) scope value h = value h.0 h.1
  element_asked (VarPackage size elements) scope value h = value h.0 h.1
  element_asked _ scope value h = absurd cc

  mutual
    value_asked : (t : Tree) → is_expression t ≡ true → IsFormed Forms Listed Symbols Switches t → (scope : AbsolutePath) → AreAsked (mentions true t scope)
    value_asked (Integer number) e h scope = tt
    value_asked (Constant literal) e h scope = tt
    value_asked (String text) e h scope = tt
    value_asked (InSlot slot) e h scope = tt
    value_asked Debug e h scope = tt
    value_asked (Use at name) e h scope = (tt, tt)
    value_asked (Call at name args) e h scope = (tt, values_asked args h.1 scope)
    value_asked (Apply op args targets) e h scope =
        asked_both (operand_mentions true (asked_use true op) (row_of op).operands args scope) (target_mentions true targets scope) (operands_asked (asked_use true op) (row_of op).operands args h.1 scope) (spots_asked targets h.3 scope)
    value_asked (Buffer size bytes) e h scope = value_asked size h.0 h.1 scope
    value_asked (Package n elements) e h scope = elements_asked elements h.1 scope
    value_asked (VarPackage size elements) e h scope = asked_both (mentions true size scope) (element_mentions true elements scope) (value_asked size h.0 h.1 scope) (elements_asked elements h.2 scope)
    value_asked (CondRefOf place target) e h scope =
        asked_both (cond_place place (mentions (is_spot place) place scope) scope) (mentions (is_spot target) target scope) (cond_asked place scope (spot_asked place h.0 scope)) (spot_asked target h.1 scope)
    value_asked (Operated op args) e h scope = operands_asked (asked_use true op) (row_of op).operands args h.2 scope
    value_asked (Assigned target value) e h scope = asked_both (mentions true value scope) (mentions (is_spot target) target scope) (value_asked value h.2 h.3 scope) (spot_asked target h.1 scope)
    value_asked (AssignedBy op target value) e h scope = asked_both (mentions true target scope) (mentions true value scope) (value_asked target h.2 h.3 scope) (value_asked value h.4 h.5 scope)
    value_asked _ e h scope = absurd cc

    spot_asked : (t : Tree) → IsFormedSpot Forms Listed Symbols Switches t → (scope : AbsolutePath) → AreAsked (mentions (is_spot t) t scope)
    spot_asked Omitted h scope = tt
    spot_asked Debug h scope = tt
    spot_asked (InSlot slot) h scope = tt
    spot_asked (Use at name) h scope = (tt, tt)
    spot_asked (Apply op args targets) h scope =
        spot_applied op args targets scope (λ k. operands_asked (asked_use true op) (row_of op).operands args k scope) (λ k. spots_asked targets k scope) (λ k. alone_asked args targets k scope) h.1
    spot_asked (Operated op args) h scope = spot_operated op args scope (λ k. operands_asked (asked_use true op) (row_of op).operands args k scope) h.2
    spot_asked _ h scope = absurd h

    alone_asked : (args targets : Trees) → IsFormedAlone Forms Listed Symbols Switches args targets → (scope : AbsolutePath) → AreAsked (operand_mentions true Anything (Valued ∷ []) args scope ++ target_mentions true targets scope)
    alone_asked (tree t no_trees) no_trees h scope =
        asked_both (mentions true t scope ++ []) [] (asked_both (mentions true t scope) [] (value_asked t h.0 h.1 scope) tt) tt
    alone_asked no_trees targets h scope = absurd h
    alone_asked (tree t no_trees) (tree u us) h scope = absurd h
    alone_asked (tree t (tree v vs)) targets h scope = absurd h

    operands_asked : (uses : Asked) (letters : List Letter) (ts : Trees) → AreFormedOperands Forms Listed Symbols Switches letters ts → (scope : AbsolutePath) → AreAsked (operand_mentions true uses letters ts scope)
    operands_asked uses [] no_trees h scope = tt
    operands_asked uses [] (tree t ts) h scope = absurd h
    operands_asked uses (letter ∷ letters) no_trees h scope = absurd h
    operands_asked uses (letter ∷ letters) (tree t ts) h scope =
        asked_both (letter_mention letter uses t (mentions (asks letter t) t scope) scope) (operand_mentions true uses letters ts scope)
        (letter_asked letter uses t scope (λ v. value_asked t v.0 v.1 scope) (λ s. spot_asked t s scope) h.0) (operands_asked uses letters ts h.1 scope)

    spots_asked : (ts : Trees) → AreFormedSpots Forms Listed Symbols Switches ts → (scope : AbsolutePath) → AreAsked (target_mentions true ts scope)
    spots_asked no_trees h scope = tt
    spots_asked (tree t ts) h scope = asked_both (mentions (is_spot t) t scope) (target_mentions true ts scope) (spot_asked t h.0 scope) (spots_asked ts h.1 scope)

    values_asked : (ts : Trees) → AreFormedValues Forms Listed Symbols Switches ts → (scope : AbsolutePath) → AreAsked (mentions_all true ts scope)
    values_asked no_trees h scope = tt
    values_asked (tree t ts) h scope = asked_both (mentions true t scope) (mentions_all true ts scope) (value_asked t h.0 h.1 scope) (values_asked ts h.2 scope)

    elements_asked : (ts : Trees) → AreFormedElements Forms Listed Symbols Switches ts → (scope : AbsolutePath) → AreAsked (element_mentions true ts scope)
    elements_asked no_trees h scope = tt
    elements_asked (tree t ts) h scope =
        asked_both (mentions (not (is_use t)) t scope) (element_mentions true ts scope) (element_asked t scope (λ e k. value_asked t e k scope) h.0) (elements_asked ts h.1 scope)

  effect_asked : (t : Tree) → EffectShaped t (IsFormed Forms Listed Symbols Switches t) → (scope : AbsolutePath) → AreAsked (mentions true t scope)
  effect_asked Omitted h scope = tt
  effect_asked t h scope = value_asked t h.0 h.1 scope

  mutual
    term_asked : (t : Tree) → IsFormed Forms Listed Symbols Switches t → (scope : AbsolutePath) (d : Declarations) → AreAsked (term_mentions t scope d)
    term_asked (Return value) h scope d = value_asked value h.0 h.1 scope
    term_asked (Name at name value) h scope d = (tt, value_asked value h.1 h.2 scope)
    term_asked (Alias from source at name) h scope d = (tt, (tt, tt))
    term_asked (External here at name type parameters) h scope d = (tt, tt)
    term_asked (Method at name flags body) h scope d = (tt, all_asked body h.2 (declared_path name scope) (with_declared (declared_path name scope) (As (MethodObject flags)) d))
    term_asked (Mutex at name level) h scope d = (tt, tt)
    term_asked (Event at name) h scope d = (tt, tt)
    term_asked (Container' kind at name body) h scope d = (tt, all_asked body h.2 (declared_path name scope) (with_declared (declared_path name scope) (As (ContainerObject kind)) d))
    term_asked (Scope here at name body) h scope d = (tt, all_asked body h.1 (scope_path d name scope) d)
    term_asked (If test body) h scope d = asked_both (mentions true test scope) (block_mentions body scope d) (value_asked test h.0 h.1 scope) (all_asked body h.2 scope d)
    term_asked (ElseIf test body) h scope d = asked_both (mentions true test scope) (block_mentions body scope d) (value_asked test h.0 h.1 scope) (all_asked body h.2 scope d)
    term_asked (Else body) h scope d = all_asked body h scope d
    term_asked (While test body) h scope d = asked_both (mentions true test scope) (block_mentions body scope d) (value_asked test h.0 h.1 scope) (all_asked body h.2 scope d)
    term_asked (For start test step body) h scope d =
        let last = mentions true step scope ++ block_mentions body scope d in
        asked_both (mentions true start scope) (mentions true test scope ++ last) (effect_asked start h.1 scope)
        (asked_both (mentions true test scope) last (value_asked test h.2 h.3 scope) (asked_both (mentions true step scope) (block_mentions body scope d) (effect_asked step h.4 scope) (all_asked body h.5 scope d)))
    term_asked (Print place format args) h scope d = asked_both (mentions (is_spot place) place scope) (mentions_all true args scope) (spot_asked place h.1 scope) (values_asked args h.3 scope)
    term_asked (Switch value cases) h scope d = asked_both (mentions true value scope) (block_mentions cases scope d) (value_asked value h.1 h.2 scope) (cases_asked cases h.3 scope d)
    term_asked (OperationRegion at name space args) h scope d = (tt, operands_asked Anything region_letters args h.2 scope)
    term_asked (Field here from region flags items) h scope d = (tt, items_asked items scope)
    term_asked (IndexField here from index to register flags items) h scope d = (tt, (tt, items_asked items scope))
    term_asked (BankField here from region to bank value flags items) h scope d = (tt, (tt, asked_both (mentions true value scope) (item_mentions items scope) (value_asked value h.2 h.3 scope) (items_asked items scope)))
    term_asked (CreateField form args at name) h scope d =
        asked_both (operand_mentions true Anything (field_letters form) args scope) (Declares at name as_buffer_field scope ∷ []) (operands_asked Anything (field_letters form) args h.0 scope) (tt, tt)
    term_asked (Integer number) h scope d = tt
    term_asked (Constant literal) h scope d = tt
    term_asked (String text) h scope d = tt
    term_asked (InSlot slot) h scope d = tt
    term_asked Debug h scope d = tt
    term_asked (Use at name) h scope d = (tt, tt)
    term_asked (Call at name args) h scope d = value_asked (Call at name args) refl h scope
    term_asked (Apply op args targets) h scope d = value_asked (Apply op args targets) refl h scope
    term_asked (Buffer size bytes) h scope d = value_asked (Buffer size bytes) refl h scope
    term_asked (Package n elements) h scope d = value_asked (Package n elements) refl h scope
    term_asked (VarPackage size elements) h scope d = value_asked (VarPackage size elements) refl h scope
    term_asked (CondRefOf place target) h scope d = value_asked (CondRefOf place target) refl h scope
    term_asked (Operated op args) h scope d = value_asked (Operated op args) refl h scope
    term_asked (Assigned target value) h scope d = value_asked (Assigned target value) refl h scope
    term_asked (AssignedBy op target value) h scope d = value_asked (AssignedBy op target value) refl h scope
    term_asked Break h scope d = tt
    term_asked Continue h scope d = tt
    term_asked _ h scope d = absurd h

    cases_asked : (ts : Trees) → AreFormedCases Forms Listed Symbols Switches ts → (scope : AbsolutePath) (d : Declarations) → AreAsked (block_mentions ts scope d)
    cases_asked no_trees h scope d = tt
    cases_asked (tree (Case value body) cases) h scope d =
        asked_both (mentions true value scope ++ block_mentions body scope d) (block_mentions cases scope (declare (Case value body) scope d)) (asked_both (mentions true value scope) (block_mentions body scope d) (case_asked value h.0 scope) (all_asked body h.1 scope d))
        (cases_asked cases h.2 scope (declare (Case value body) scope d))
    cases_asked (tree (Default body) no_trees) h scope d = asked_both (block_mentions body scope d) [] (all_asked body h scope d) tt
    cases_asked (tree (Default body) (tree t ts)) h scope d = absurd h
    cases_asked (tree _ ts) h scope d = absurd h

    pub all_asked : (ts : Trees) → AreFormed Forms Listed Symbols Switches ts → (scope : AbsolutePath) (d : Declarations) → AreAsked (block_mentions ts scope d)
    all_asked no_trees h scope d = tt
    all_asked (tree t ts) h scope d = asked_both (term_mentions t scope d) (block_mentions ts scope (declare t scope d)) (term_asked t h.0 scope d) (all_asked ts h.2 scope (declare t scope d))
