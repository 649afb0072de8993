-- What a block mentions whatever the numbers and the places of its nodes are.
use Rattle.std.proofs.Common.{◌≡◌, Bool, true, false, List, [], ◌∷◌, ◌++◌, refl, sym, ap, ◌∙◌}
use Rattle.std.specs.Prelude.{not, ◌&&◌}
use Rattle.acpi_values.specs.Paths.{AbsolutePath}
use Rattle.acpi_values.specs.Operators.{Letter, Valued, Kept, Placed, Used, Row, row_of}
use Rattle.acpi_values.specs.Operators as L
use Rattle.acpi_values.specs.declared.operator.Plain.{Plain}
use Rattle.acpi_values.specs.declared.operator.EventOp.TheVariants as EventOp
use Rattle.acpi_state.specs.Objects.{MethodObject, ContainerObject}
use Rattle.acpi_state.specs.FieldActs.{region_letters, field_letters}
use Rattle.asl_tree.specs.FieldItems.{FieldItem, UnitItem, SkipItem, OffsetItem, AccessItem, ConnectionItem, ToName, ToBytes}
use Rattle.asl_tree.specs.Names.{declared_path}
use Rattle.asl_tree.specs.Tree.{Tree, Use, Call, Apply, Buffer, Package, VarPackage, CondRefOf, Return, Name, Alias, External, Method, Mutex, Event, Container', Scope, Trees, no_trees, tree, OperationRegion, Field, IndexField, BankField, CreateField, UnitName, If, ElseIf, Else, While, For, Print, Operated, Assigned, AssignedBy, Switch, Case, Default}
use Rattle.asl_meaning.specs.Declarations.{As, Declarations, with_declared, scope_path, declare, declare_all, declare_item, declare_items, as_buffer_field}
use Rattle.acpi_names.specs.Errors.{Asked, Anything, ARegion}
use Rattle.acpi_names.specs.Mentions.{Mention, Used', Sought, Called, Declares, Outside, Opens, is_spot, is_use, asks, cond_place, asked_use, letter_mention, mentions, mentions_all, operand_mentions, target_mentions, element_mentions, item_mentions, term_mentions, block_mentions}
use Rattle.unused_names.specs.Bare.{nowhere, bare_item, bare_items, bare, bare_all}
use Rattle.unused_names.proofs.BareForms.{count_bare}

abbrev pub bare_asked : Asked → Asked
bare_asked (ARegion field) = ARegion nowhere
bare_asked asked = asked

abbrev pub bare_mention : Mention → Mention
bare_mention (Used' asked at name scope) = Used' (bare_asked asked) nowhere name scope
bare_mention (Sought at name scope) = Sought nowhere name scope
bare_mention (Called asked at name args scope) = Called asked nowhere name args scope
bare_mention (Declares at name as' scope) = Declares nowhere name as' scope
bare_mention (Outside here at name type scope) = Outside nowhere nowhere name type scope
bare_mention (Opens here at name scope inner) = Opens nowhere nowhere name scope inner

abbrev pub bare_mentions : List Mention → List Mention
bare_mentions [] = []
bare_mentions (m ∷ ms) = bare_mention m ∷ bare_mentions ms

append_bare : (a b : List Mention) → bare_mentions (a ++ b) ≡ bare_mentions a ++ bare_mentions b
append_bare [] b = refl
append_bare (m ∷ a) b = ap (λ ms. bare_mention m ∷ ms) (append_bare a b)

both : (a b : List Mention) {c e : List Mention} → c ≡ bare_mentions a → e ≡ bare_mentions b → c ++ e ≡ bare_mentions (a ++ b)
both a b {e = e} h k = ap (λ ms. ms ++ e) h ∙ ap (λ ms. bare_mentions a ++ ms) k ∙ sym (append_bare a b)

one : (m : Mention) {c b : List Mention} → c ≡ b → m ∷ c ≡ m ∷ b
one m h = ap (λ ms. m ∷ ms) h

-- ---- what an expression asks

spot_bare : (t : Tree) → is_spot (bare t) ≡ is_spot t
spot_bare (Apply op args targets) = refl
spot_bare (Operated op args) = refl
spot_bare _ = refl

use_bare : (t : Tree) → is_use (bare t) ≡ is_use t
use_bare (Use at name) = refl
use_bare _ = refl

asks_bare : (letter : Letter) (t : Tree) → asks letter (bare t) ≡ asks letter t
asks_bare Valued t = refl
asks_bare Kept t = refl
asks_bare Placed t = spot_bare t
asks_bare Used t = refl
asks_bare (L.Raw size) t = refl

fixed_use : (asked : Bool) (op : Plain) → bare_asked (asked_use asked op) ≡ asked_use asked op
fixed_use true (Plain.Event EventOp.Acquire) = refl
fixed_use true (Plain.Event EventOp.Release) = refl
fixed_use true (Plain.Event EventOp.Wait) = refl
fixed_use true (Plain.Event EventOp.Signal) = refl
fixed_use true (Plain.Event EventOp.Reset) = refl
fixed_use true op = refl
fixed_use false op = refl

cond_bare : (t : Tree) (ms others : List Mention) (scope : AbsolutePath) → others ≡ bare_mentions ms → cond_place (bare t) others scope ≡ bare_mentions (cond_place t ms scope)
cond_bare (Use at name) ms others scope h = refl
cond_bare t ms others scope h = h

letter_bare : (letter : Letter) (uses : Asked) (t : Tree) (ms others : List Mention) (scope : AbsolutePath) → bare_asked uses ≡ uses → others ≡ bare_mentions ms → letter_mention letter uses (bare t) others scope ≡ bare_mentions (letter_mention letter uses t ms scope)
letter_bare Used uses (Use at name) ms others scope e h = ap (λ asked. Used' asked nowhere name scope ∷ []) (sym e)
letter_bare letter uses t ms others scope e h = h

at_spot : (asked : Bool) (t : Tree) (scope : AbsolutePath) → mentions (asked && is_spot t) (bare t) scope ≡ bare_mentions (mentions (asked && is_spot t) t scope)
    → mentions (asked && is_spot (bare t)) (bare t) scope ≡ bare_mentions (mentions (asked && is_spot t) t scope)
at_spot asked t scope h = ap (λ b. mentions (asked && b) (bare t) scope) (spot_bare t) ∙ h

mutual
  pub value_bare : (asked : Bool) (t : Tree) (scope : AbsolutePath) → mentions asked (bare t) scope ≡ bare_mentions (mentions asked t scope)
  value_bare true (Use at name) scope = refl
  value_bare false (Use at name) scope = refl
  value_bare asked (Call at name args) scope =
      ap (λ n. Called asked nowhere name n scope ∷ mentions_all asked (bare_all args) scope) (count_bare args) ∙ one _ (values_bare asked args scope)
  value_bare asked (Apply op args targets) scope =
      both (operand_mentions asked (asked_use asked op) (row_of op).operands args scope) (target_mentions asked targets scope)
      (operands_bare asked (asked_use asked op) (row_of op).operands args scope (fixed_use asked op)) (targets_bare asked targets scope)
  value_bare asked (Operated op args) scope = operands_bare asked (asked_use asked op) (row_of op).operands args scope (fixed_use asked op)
  value_bare asked (Assigned target value) scope =
      both (mentions asked value scope) (mentions (asked && is_spot target) target scope) (value_bare asked value scope) (at_spot asked target scope (value_bare (asked && is_spot target) target scope))
  value_bare asked (AssignedBy op target value) scope = both (mentions asked target scope) (mentions asked value scope) (value_bare asked target scope) (value_bare asked value scope)
  value_bare asked (Buffer size bytes) scope = value_bare asked size scope
  value_bare asked (Package n elements) scope = elements_bare asked elements scope
  value_bare asked (VarPackage size elements) scope =
      both (mentions asked size scope) (element_mentions asked elements scope) (value_bare asked size scope) (elements_bare asked elements scope)
  value_bare asked (CondRefOf place target) scope =
      both (cond_place place (mentions (asked && is_spot place) place scope) scope) (mentions (asked && is_spot target) target scope)
      (cond_bare place (mentions (asked && is_spot place) place scope) (mentions (asked && is_spot (bare place)) (bare place) scope) scope (at_spot asked place scope (value_bare (asked && is_spot place) place scope))) (at_spot asked target scope (value_bare (asked && is_spot target) target scope))
  value_bare asked _ scope = refl

  pub values_bare : (asked : Bool) (ts : Trees) (scope : AbsolutePath) → mentions_all asked (bare_all ts) scope ≡ bare_mentions (mentions_all asked ts scope)
  values_bare asked no_trees scope = refl
  values_bare asked (tree t ts) scope = both (mentions asked t scope) (mentions_all asked ts scope) (value_bare asked t scope) (values_bare asked ts scope)

  pub operands_bare : (asked : Bool) (uses : Asked) (letters : List Letter) (ts : Trees) (scope : AbsolutePath) → bare_asked uses ≡ uses → operand_mentions asked uses letters (bare_all ts) scope ≡ bare_mentions (operand_mentions asked uses letters ts scope)
  operands_bare asked uses letters no_trees scope e = refl
  operands_bare asked uses [] (tree t ts) scope e = both (mentions false t scope) (operand_mentions asked uses [] ts scope) (value_bare false t scope) (operands_bare asked uses [] ts scope e)
  operands_bare asked uses (letter ∷ letters) (tree t ts) scope e =
      both (letter_mention letter uses t (mentions (asked && asks letter t) t scope) scope) (operand_mentions asked uses letters ts scope)
      (letter_bare letter uses t (mentions (asked && asks letter t) t scope) (mentions (asked && asks letter (bare t)) (bare t) scope) scope e
      (ap (λ b. mentions (asked && b) (bare t) scope) (asks_bare letter t) ∙ value_bare (asked && asks letter t) t scope))
      (operands_bare asked uses letters ts scope e)

  targets_bare : (asked : Bool) (ts : Trees) (scope : AbsolutePath) → target_mentions asked (bare_all ts) scope ≡ bare_mentions (target_mentions asked ts scope)
  targets_bare asked no_trees scope = refl
  targets_bare asked (tree t ts) scope = both (mentions (asked && is_spot t) t scope) (target_mentions asked ts scope) (at_spot asked t scope (value_bare (asked && is_spot t) t scope)) (targets_bare asked ts scope)

  elements_bare : (asked : Bool) (ts : Trees) (scope : AbsolutePath) → element_mentions asked (bare_all ts) scope ≡ bare_mentions (element_mentions asked ts scope)
  elements_bare asked no_trees scope = refl
  elements_bare asked (tree t ts) scope =
      both (mentions (asked && not (is_use t)) t scope) (element_mentions asked ts scope)
      (ap (λ b. mentions (asked && not b) (bare t) scope) (use_bare t) ∙ value_bare (asked && not (is_use t)) t scope) (elements_bare asked ts scope)

-- ---- terms, and what they declare

items_bare : (items : List (FieldItem UnitName)) (scope : AbsolutePath) → item_mentions (bare_items items) scope ≡ bare_mentions (item_mentions items scope)
items_bare [] scope = refl
items_bare (UnitItem name bits ∷ items) scope = one _ (items_bare items scope)
items_bare (SkipItem bits ∷ items) scope = items_bare items scope
items_bare (OffsetItem bytes ∷ items) scope = items_bare items scope
items_bare (AccessItem access attribute length ∷ items) scope = items_bare items scope
items_bare (ConnectionItem (ToName at name) ∷ items) scope = one _ (items_bare items scope)
items_bare (ConnectionItem (ToBytes bytes) ∷ items) scope = items_bare items scope

item_declares : (item : FieldItem UnitName) (scope : AbsolutePath) (d : Declarations) → declare_item (bare_item item) scope d ≡ declare_item item scope d
item_declares (UnitItem name bits) scope d = refl
item_declares _ scope d = refl

items_declare : (items : List (FieldItem UnitName)) (scope : AbsolutePath) (d : Declarations) → declare_items (bare_items items) scope d ≡ declare_items items scope d
items_declare [] scope d = refl
items_declare (item ∷ items) scope d = ap (declare_items (bare_items items) scope) (item_declares item scope d) ∙ items_declare items scope (declare_item item scope d)

mutual
  declares_bare : (t : Tree) (scope : AbsolutePath) (d : Declarations) → declare (bare t) scope d ≡ declare t scope d
  declares_bare (Method at name flags body) scope d = declare_bare body (declared_path name scope) (with_declared (declared_path name scope) (As (MethodObject flags)) d)
  declares_bare (Container' kind at name body) scope d = declare_bare body (declared_path name scope) (with_declared (declared_path name scope) (As (ContainerObject kind)) d)
  declares_bare (Scope here at name body) scope d = declare_bare body (scope_path d name scope) d
  declares_bare (If test body) scope d = declare_bare body scope d
  declares_bare (ElseIf test body) scope d = declare_bare body scope d
  declares_bare (Else body) scope d = declare_bare body scope d
  declares_bare (While test body) scope d = declare_bare body scope d
  declares_bare (For start test step body) scope d = declare_bare body scope d
  declares_bare (Switch value cases) scope d = declare_bare cases scope d
  declares_bare (Case value body) scope d = declare_bare body scope d
  declares_bare (Default body) scope d = declare_bare body scope d
  declares_bare (Field here from region flags items) scope d = items_declare items scope d
  declares_bare (IndexField here from index to register flags items) scope d = items_declare items scope d
  declares_bare (BankField here from region to bank value flags items) scope d = items_declare items scope d
  declares_bare _ scope d = refl

  pub declare_bare : (ts : Trees) (scope : AbsolutePath) (d : Declarations) → declare_all (bare_all ts) scope d ≡ declare_all ts scope d
  declare_bare no_trees scope d = refl
  declare_bare (tree t ts) scope d = ap (declare_all (bare_all ts) scope) (declares_bare t scope d) ∙ declare_bare ts scope (declare t scope d)

-- an expression, and terms
before_body : (v : Tree) (body : Trees) (scope : AbsolutePath) (d : Declarations) → block_mentions (bare_all body) scope d ≡ bare_mentions (block_mentions body scope d)
    → mentions true (bare v) scope ++ block_mentions (bare_all body) scope d ≡ bare_mentions (mentions true v scope ++ block_mentions body scope d)
before_body v body scope d h = both (mentions true v scope) (block_mentions body scope d) (value_bare true v scope) h

mutual
  term_bare : (t : Tree) (scope : AbsolutePath) (d : Declarations) → term_mentions (bare t) scope d ≡ bare_mentions (term_mentions t scope d)
  term_bare (Return value) scope d = value_bare true value scope
  term_bare (Name at name value) scope d = one _ (value_bare true value scope)
  term_bare (Alias from source at name) scope d = refl
  term_bare (External here at name type parameters) scope d = refl
  term_bare (Method at name flags body) scope d = one _ (block_bare body (declared_path name scope) (with_declared (declared_path name scope) (As (MethodObject flags)) d))
  term_bare (Mutex at name level) scope d = refl
  term_bare (Event at name) scope d = refl
  term_bare (Container' kind at name body) scope d = one _ (block_bare body (declared_path name scope) (with_declared (declared_path name scope) (As (ContainerObject kind)) d))
  term_bare (Scope here at name body) scope d = one _ (block_bare body (scope_path d name scope) d)
  term_bare (If test body) scope d = before_body test body scope d (block_bare body scope d)
  term_bare (ElseIf test body) scope d = before_body test body scope d (block_bare body scope d)
  term_bare (Else body) scope d = block_bare body scope d
  term_bare (While test body) scope d = before_body test body scope d (block_bare body scope d)
  term_bare (For start test step body) scope d =
      both (mentions true start scope) (mentions true test scope ++ (mentions true step scope ++ block_mentions body scope d)) (value_bare true start scope)
      (both (mentions true test scope) (mentions true step scope ++ block_mentions body scope d) (value_bare true test scope) (before_body step body scope d (block_bare body scope d)))
  term_bare (Print place format args) scope d =
      both (mentions (is_spot place) place scope) (mentions_all true args scope) (at_spot true place scope (value_bare (is_spot place) place scope)) (values_bare true args scope)
  term_bare (Switch value cases) scope d = before_body value cases scope d (block_bare cases scope d)
  term_bare (Case value body) scope d = before_body value body scope d (block_bare body scope d)
  term_bare (Default body) scope d = block_bare body scope d
  term_bare (OperationRegion at name space args) scope d = one _ (operands_bare true Anything region_letters args scope refl)
  term_bare (Field here from region flags items) scope d = one _ (items_bare items scope)
  term_bare (IndexField here from index to register flags items) scope d = one _ (one _ (items_bare items scope))
  term_bare (BankField here from region to bank value flags items) scope d =
      one _ (one _ (both (mentions true value scope) (item_mentions items scope) (value_bare true value scope) (items_bare items scope)))
  term_bare (CreateField form args at name) scope d =
      both (operand_mentions true Anything (field_letters form) args scope) (Declares at name as_buffer_field scope ∷ []) (operands_bare true Anything (field_letters form) args scope refl) refl
  term_bare t scope d = value_bare true t scope

  pub block_bare : (ts : Trees) (scope : AbsolutePath) (d : Declarations) → block_mentions (bare_all ts) scope d ≡ bare_mentions (block_mentions ts scope d)
  block_bare no_trees scope d = refl
  block_bare (tree t ts) scope d =
      both (term_mentions t scope d) (block_mentions ts scope (declare t scope d)) (term_bare t scope d)
      (ap (block_mentions (bare_all ts) scope) (declares_bare t scope d) ∙ block_bare ts scope (declare t scope d))
