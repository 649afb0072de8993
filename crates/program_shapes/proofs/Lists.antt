-- The faults in the lists of fields of trees, and those of the trees of plans.
use Rattle.std.proofs.Common.{◌≡◌, ℕ, suc, ◌+◌, Bool, true, false, List, [], ◌∷◌, ◌++◌, Option, Some, None, refl, sym, ap, ◌∙◌, arith}
use Rattle.std.specs.Prelude.{nat_le, if◌then◌else◌}
use Rattle.acpi_state.specs.Outcomes.{choose}
use Rattle.iasl_messages.specs.declared.place.Place.{Place}
use Rattle.iasl_messages.specs.declared.message.Message.{Message}
use Rattle.acpi_values.specs.declared.operator.IntOp.{IntOp}
use Rattle.acpi_values.specs.declared.operator.Plain.{Plain}
use Rattle.asl_tree.specs.declared.term.Op.{Op}
use Rattle.asl_tree.specs.declared.term.Declaration.TheVariants as Declaration
use Rattle.asl_tree.specs.declared.term.Control.TheVariants as Control
use Rattle.asl_tree.specs.declared.term.Special.TheVariants as Special
use Rattle.asl_tree.specs.FieldItems.{FieldItem, UnitItem, SkipItem, OffsetItem, AccessItem, ConnectionItem, ToName, ToBytes, behind_item}
use Rattle.asl_tree.specs.Tree.{At, Tree, Integer, String, Omitted, Use, Package, VarPackage, Method, Container', Scope, If, ElseIf, Else, While, For, Field, IndexField, BankField, Item, Fill, Misshapen, UnitName, Trees, no_trees, tree, count, Switch, Case, Default}
use Rattle.asl_tree.specs.declared.term.Symbolic.TheVariants as Symbolic
use Rattle.acpi_values.specs.Operators.{row_of}
use Rattle.asl_tree.specs.View.{form, apply_of, fits, operands_as, operated, symbol_of, buffer, body_bytes, counted, packaged, items_in}
use Rattle.field_layout.specs.Layout.{item_fault, first_fault}
use Rattle.term_plans.specs.Plans.{Plan, a_unit, a_skip, an_offset, an_access, a_name, a_fill, a_form, Plans, no_plans, plan}
use Rattle.term_plans.specs.Places.{fault_at}
use Rattle.asl_numbers.specs.Numbers.{inside, nodes, numbered, numbered_all}
use Rattle.field_checks.specs.Units.{unit_told, index_fault}
use Rattle.field_checks.specs.Lists.{list_errors, field_errors, term_errors, all_errors}

-- the number of the first fault of a list, if it has one
abbrev pub list_faults : List (FieldItem UnitName) → List ℕ
list_faults items = choose (first_fault 0 0 items) [] (λ fault. fault.1 ∷ [])

-- those of all lists in a term, at any depth
abbrev mutual
  pub term_faults : Tree → List ℕ
  term_faults (Method at name flags body) = layout_faults body
  term_faults (Container' kind at name body) = layout_faults body
  term_faults (Scope here at name body) = layout_faults body
  term_faults (If test body) = layout_faults body
  term_faults (ElseIf test body) = layout_faults body
  term_faults (Else body) = layout_faults body
  term_faults (While test body) = layout_faults body
  term_faults (For start test step body) = layout_faults body
  term_faults (Switch value cases) = layout_faults cases
  term_faults (Case value body) = layout_faults body
  term_faults (Default body) = layout_faults body
  term_faults (Field here from region flags items) = list_faults items
  term_faults (IndexField here from index to register flags items) = list_faults items
  term_faults (BankField here from region to bank value flags items) = list_faults items
  term_faults _ = []

  pub layout_faults : Trees → List ℕ
  layout_faults no_trees = []
  layout_faults (tree t ts) = term_faults t ++ layout_faults ts

pub none_before : {A : Type 0} (a b : List A) → a ++ b ≡ [] → (a ≡ []) × (b ≡ [])
none_before [] b e = (refl, e)
none_before (n ∷ ns) b e = absurd cc

abbrev is_item : Tree → Bool
is_item (Item item) = true
is_item (Use at name) = true
is_item (Fill bytes) = true
is_item _ = false

-- ---- a list of items

-- a list that all trees are items of has no fault
abbrev ListLaid : ℕ → ℕ → Option (List (FieldItem UnitName)) → Type 0
ListLaid at i None = Unit {0}
ListLaid at i (Some items) = first_fault at i items ≡ None

none_first : (place : Place) (fault : Option ℕ) (later : List Message) → choose fault later (λ number. fault_at number place ∷ []) ≡ [] → (fault ≡ None) × (later ≡ [])
none_first place None later e = (refl, e)
none_first place (Some number) later e = absurd cc

joined : (at i : ℕ) (item : FieldItem UnitName) (o : Option (List (FieldItem UnitName))) → item_fault at item ≡ None → ListLaid (behind_item at item) (suc i) o → ListLaid at i (choose o None (λ items. Some (item ∷ items)))
joined at i item None e h = tt
joined at i item (Some items) e h = ap (λ o. choose o (first_fault (behind_item at item) (suc i) items) (λ number. Some (i, number))) e ∙ h

no_item : (at i : ℕ) (t : Tree) (ts : Trees) → is_item t ≡ false → ListLaid at i (items_in (tree t ts))
no_item at i (Item item) ts e = absurd cc
no_item at i (Use at' name) ts e = absurd cc
no_item at i (Fill bytes) ts e = absurd cc
no_item at i _ ts e = tt

-- ---- forms

listed_faults : (o : Option (List (FieldItem UnitName))) (made : List (FieldItem UnitName) → Tree) → ListLaid 0 0 o → ((items : List (FieldItem UnitName)) → term_faults (made items) ≡ list_faults items) → term_faults (choose o Misshapen made) ≡ []
listed_faults None made h same = refl
listed_faults (Some items) made h same = same items ∙ ap (λ fault. choose fault [] (λ fault. fault.1 ∷ [])) h

listed_item : (o : Option (List (FieldItem UnitName))) (made : List (FieldItem UnitName) → Tree) → ((items : List (FieldItem UnitName)) → is_item (made items) ≡ false) → is_item (choose o Misshapen made) ≡ false
listed_item None made never = refl
listed_item (Some items) made never = never items

abbrev Alone : Tree → Type 0
Alone t = (term_faults t ≡ []) × (is_item t ≡ false)

apply_laid : (op : Plain) (args : Trees) → Alone (apply_of op args)
apply_laid (Plain.Number IntOp.LNotEqual) args = (refl, refl)
apply_laid (Plain.Number IntOp.LLessEqual) args = (refl, refl)
apply_laid (Plain.Number IntOp.LGreaterEqual) args = (refl, refl)
apply_laid op args = (refl, refl)

buffer_laid : (size : Tree) (bytes : List ℕ) → Alone (buffer size bytes)
buffer_laid Omitted bytes = (refl, refl)
buffer_laid size bytes = (refl, refl)

counted_laid : (n : ℕ) (elements : Trees) → Alone (counted n elements)
counted_laid n elements = by (nat_le n 255)
  where
    by : (b : Bool) → Alone (if b then Package n elements else VarPackage (Integer n) elements)
    by true = (refl, refl)
    by false = (refl, refl)

packaged_laid : (size : Tree) (elements : Trees) → Alone (packaged size elements)
packaged_laid Omitted elements = counted_laid (count elements) elements
packaged_laid (Integer n) elements = counted_laid n elements
packaged_laid size elements = (refl, refl)

operated_laid : (op : Plain) (args : Trees) → Alone (operated op args)
operated_laid (Plain.Number IntOp.LNotEqual) args = (refl, refl)
operated_laid (Plain.Number IntOp.LLessEqual) args = (refl, refl)
operated_laid (Plain.Number IntOp.LGreaterEqual) args = (refl, refl)
operated_laid op args = (refl, refl)

symbol_laid : (op : Plain) (args : Trees) → Alone (symbol_of op args)
symbol_laid op args = by (fits (row_of op).operands args)
  where
    by : (b : Bool) → Alone (if b then operated op (operands_as (row_of op).operands args) else Misshapen)
    by true = operated_laid op (operands_as (row_of op).operands args)
    by false = (refl, refl)

-- the list of a field has no fault
abbrev FieldLaid : Op → Option (List (FieldItem UnitName)) → Type 0
FieldLaid (Op.Declaration Declaration.Field) o = ListLaid 0 0 o
FieldLaid (Op.Declaration Declaration.IndexField) o = ListLaid 0 0 o
FieldLaid (Op.Declaration Declaration.BankField) o = ListLaid 0 0 o
FieldLaid _ o = Unit {0}

form_item : (here : At) (op : Op) (args body : Trees) → is_item (form here op args body) ≡ false
form_item here (Op.Declaration Declaration.Name) (tree (Use at name) (tree value no_trees)) no_trees = refl
form_item here (Op.Declaration Declaration.Alias) (tree (Use from source) (tree (Use at name) no_trees)) no_trees = refl
form_item here (Op.Declaration Declaration.External) (tree (Use at name) (tree (Integer type) no_trees)) no_trees = refl
form_item here (Op.Declaration Declaration.External) (tree (Use at name) (tree (Integer type) (tree (Integer count) no_trees))) no_trees = refl
form_item here (Op.Declaration Declaration.Method) (tree (Use at name) (tree (Integer arity) no_trees)) body = refl
form_item here (Op.Declaration Declaration.Mutex) (tree (Use at name) (tree (Integer level) no_trees)) no_trees = refl
form_item here (Op.Declaration Declaration.Event) (tree (Use at name) no_trees) no_trees = refl
form_item here (Op.Declaration Declaration.Device) (tree (Use at name) no_trees) body = refl
form_item here (Op.Declaration Declaration.ThermalZone) (tree (Use at name) no_trees) body = refl
form_item here (Op.Declaration Declaration.PowerResource) (tree (Use at name) (tree (Integer level) (tree (Integer order) no_trees))) body = refl
form_item here (Op.Declaration Declaration.Processor) (tree (Use at name) (tree (Integer number) (tree (Integer address) (tree (Integer size) no_trees)))) body = refl
form_item here (Op.Declaration Declaration.Scope) (tree (Use at name) no_trees) body = refl
form_item here (Op.Declaration Declaration.OperationRegion) (tree (Use at name) (tree (Integer space) (tree offset (tree size no_trees)))) no_trees = refl
form_item here (Op.Declaration Declaration.Field) (tree (Use from region) (tree (Integer flags) no_trees)) body = listed_item (items_in body) (λ items. Field here from region flags items) (λ items. refl)
form_item here (Op.Declaration Declaration.IndexField) (tree (Use from index) (tree (Use to register) (tree (Integer flags) no_trees))) body = listed_item (items_in body) (λ items. IndexField here from index to register flags items) (λ items. refl)
form_item here (Op.Declaration Declaration.BankField) (tree (Use from region) (tree (Use to bank) (tree value (tree (Integer flags) no_trees)))) body = listed_item (items_in body) (λ items. BankField here from region to bank value flags items) (λ items. refl)
form_item here (Op.Declaration Declaration.CreateField) (tree source (tree index (tree bits (tree (Use at name) no_trees)))) no_trees = refl
form_item here (Op.Declaration Declaration.CreateBitField) (tree source (tree index (tree (Use at name) no_trees))) no_trees = refl
form_item here (Op.Declaration Declaration.CreateByteField) (tree source (tree index (tree (Use at name) no_trees))) no_trees = refl
form_item here (Op.Declaration Declaration.CreateWordField) (tree source (tree index (tree (Use at name) no_trees))) no_trees = refl
form_item here (Op.Declaration Declaration.CreateDWordField) (tree source (tree index (tree (Use at name) no_trees))) no_trees = refl
form_item here (Op.Declaration Declaration.CreateQWordField) (tree source (tree index (tree (Use at name) no_trees))) no_trees = refl
form_item here (Op.Control Control.Return) (tree value no_trees) no_trees = refl
form_item here (Op.Control Control.If) (tree test no_trees) body = refl
form_item here (Op.Control Control.ElseIf) (tree test no_trees) body = refl
form_item here (Op.Control Control.Else) no_trees body = refl
form_item here (Op.Control Control.While) (tree test no_trees) body = refl
form_item here (Op.Control Control.For) (tree start (tree test (tree step no_trees))) body = refl
form_item here (Op.Control Control.Printf) (tree (String format) args) no_trees = refl
form_item here (Op.Control Control.Fprintf) (tree place (tree (String format) args)) no_trees = refl
form_item here (Op.Control Control.Switch) (tree value no_trees) cases = refl
form_item here (Op.Control Control.Case) (tree value no_trees) body = refl
form_item here (Op.Control Control.Default) no_trees body = refl
form_item here (Op.Control Control.Break) no_trees no_trees = refl
form_item here (Op.Control Control.Continue) no_trees no_trees = refl
form_item here (Op.Literal literal) no_trees no_trees = refl
form_item here (Op.Plain op) args no_trees = (apply_laid op args).1
form_item here (Op.Special Special.CondRefOf) (tree place (tree target no_trees)) no_trees = refl
form_item here (Op.Special Special.Buffer) (tree size no_trees) body = (buffer_laid size (body_bytes body)).1
form_item here (Op.Special Special.Package) (tree size no_trees) body = (packaged_laid size body).1
form_item here (Op.Symbolic (Symbolic.Operator op)) args no_trees = (symbol_laid op args).1
form_item here (Op.Symbolic Symbolic.Assign) (tree target (tree value no_trees)) no_trees = refl
form_item here (Op.Symbolic (Symbolic.AssignBy op)) (tree target (tree value no_trees)) no_trees = refl
form_item here _ _ _ = refl

form_faults : (here : At) (op : Op) (args body : Trees) → layout_faults body ≡ [] → FieldLaid op (items_in body) → term_faults (form here op args body) ≡ []
form_faults here (Op.Declaration Declaration.Name) (tree (Use at name) (tree value no_trees)) no_trees h k = refl
form_faults here (Op.Declaration Declaration.Alias) (tree (Use from source) (tree (Use at name) no_trees)) no_trees h k = refl
form_faults here (Op.Declaration Declaration.External) (tree (Use at name) (tree (Integer type) no_trees)) no_trees h k = refl
form_faults here (Op.Declaration Declaration.External) (tree (Use at name) (tree (Integer type) (tree (Integer count) no_trees))) no_trees h k = refl
form_faults here (Op.Declaration Declaration.Method) (tree (Use at name) (tree (Integer arity) no_trees)) body h k = h
form_faults here (Op.Declaration Declaration.Mutex) (tree (Use at name) (tree (Integer level) no_trees)) no_trees h k = refl
form_faults here (Op.Declaration Declaration.Event) (tree (Use at name) no_trees) no_trees h k = refl
form_faults here (Op.Declaration Declaration.Device) (tree (Use at name) no_trees) body h k = h
form_faults here (Op.Declaration Declaration.ThermalZone) (tree (Use at name) no_trees) body h k = h
form_faults here (Op.Declaration Declaration.PowerResource) (tree (Use at name) (tree (Integer level) (tree (Integer order) no_trees))) body h k = h
form_faults here (Op.Declaration Declaration.Processor) (tree (Use at name) (tree (Integer number) (tree (Integer address) (tree (Integer size) no_trees)))) body h k = h
form_faults here (Op.Declaration Declaration.Scope) (tree (Use at name) no_trees) body h k = h
form_faults here (Op.Declaration Declaration.OperationRegion) (tree (Use at name) (tree (Integer space) (tree offset (tree size no_trees)))) no_trees h k = refl
form_faults here (Op.Declaration Declaration.Field) (tree (Use from region) (tree (Integer flags) no_trees)) body h k = listed_faults (items_in body) (λ items. Field here from region flags items) k (λ items. refl)
form_faults here (Op.Declaration Declaration.IndexField) (tree (Use from index) (tree (Use to register) (tree (Integer flags) no_trees))) body h k = listed_faults (items_in body) (λ items. IndexField here from index to register flags items) k (λ items. refl)
form_faults here (Op.Declaration Declaration.BankField) (tree (Use from region) (tree (Use to bank) (tree value (tree (Integer flags) no_trees)))) body h k = listed_faults (items_in body) (λ items. BankField here from region to bank value flags items) k (λ items. refl)
form_faults here (Op.Declaration Declaration.CreateField) (tree source (tree index (tree bits (tree (Use at name) no_trees)))) no_trees h k = refl
form_faults here (Op.Declaration Declaration.CreateBitField) (tree source (tree index (tree (Use at name) no_trees))) no_trees h k = refl
form_faults here (Op.Declaration Declaration.CreateByteField) (tree source (tree index (tree (Use at name) no_trees))) no_trees h k = refl
form_faults here (Op.Declaration Declaration.CreateWordField) (tree source (tree index (tree (Use at name) no_trees))) no_trees h k = refl
form_faults here (Op.Declaration Declaration.CreateDWordField) (tree source (tree index (tree (Use at name) no_trees))) no_trees h k = refl
form_faults here (Op.Declaration Declaration.CreateQWordField) (tree source (tree index (tree (Use at name) no_trees))) no_trees h k = refl
form_faults here (Op.Control Control.Return) (tree value no_trees) no_trees h k = refl
form_faults here (Op.Control Control.If) (tree test no_trees) body h k = h
form_faults here (Op.Control Control.ElseIf) (tree test no_trees) body h k = h
form_faults here (Op.Control Control.Else) no_trees body h k = h
form_faults here (Op.Control Control.While) (tree test no_trees) body h k = h
form_faults here (Op.Control Control.For) (tree start (tree test (tree step no_trees))) body h k = h
form_faults here (Op.Control Control.Printf) (tree (String format) args) no_trees h k = refl
form_faults here (Op.Control Control.Fprintf) (tree place (tree (String format) args)) no_trees h k = refl
form_faults here (Op.Control Control.Switch) (tree value no_trees) cases h k = h
form_faults here (Op.Control Control.Case) (tree value no_trees) body h k = h
form_faults here (Op.Control Control.Default) no_trees body h k = h
form_faults here (Op.Control Control.Break) no_trees no_trees h k = refl
form_faults here (Op.Control Control.Continue) no_trees no_trees h k = refl
form_faults here (Op.Literal literal) no_trees no_trees h k = refl
form_faults here (Op.Plain op) args no_trees h k = (apply_laid op args).0
form_faults here (Op.Special Special.CondRefOf) (tree place (tree target no_trees)) no_trees h k = refl
form_faults here (Op.Special Special.Buffer) (tree size no_trees) body h k = (buffer_laid size (body_bytes body)).0
form_faults here (Op.Special Special.Package) (tree size no_trees) body h k = (packaged_laid size body).0
form_faults here (Op.Symbolic (Symbolic.Operator op)) args no_trees h k = (symbol_laid op args).0
form_faults here (Op.Symbolic Symbolic.Assign) (tree target (tree value no_trees)) no_trees h k = refl
form_faults here (Op.Symbolic (Symbolic.AssignBy op)) (tree target (tree value no_trees)) no_trees h k = refl
form_faults here _ _ _ h k = refl

-- ---- plans

no_bits : (at : ℕ) (ps : Plans) → list_errors (at + 0) ps ≡ [] → list_errors at ps ≡ []
no_bits at ps e = let same : at + 0 ≡ at = omega arith in ap (λ n. list_errors n ps) (sym same) ∙ e

list_laid : (at i next : ℕ) (ps : Plans) → list_errors at ps ≡ [] → ListLaid at i (items_in (numbered_all next ps))
unfolding numbered numbered_all
list_laid at i next no_plans e = refl
list_laid at i next (plan place (a_unit segment bits) ps) e =
    let item : FieldItem UnitName = UnitItem (record { at = record { id = next; place = place }; segment = segment }) bits in
    let none = none_first place (item_fault at item) (list_errors (at + bits) ps) e in
    joined at i item (items_in (numbered_all _ ps)) none.0 (list_laid (at + bits) (suc i) _ ps none.1)
list_laid at i next (plan place (a_skip bits) ps) e =
    let item : FieldItem UnitName = SkipItem bits in
    let none = none_first place (item_fault at item) (list_errors (at + bits) ps) e in
    joined at i item (items_in (numbered_all _ ps)) none.0 (list_laid (at + bits) (suc i) _ ps none.1)
list_laid at i next (plan place (an_offset bytes) ps) e =
    let item : FieldItem UnitName = OffsetItem bytes in
    let none = none_first place (item_fault at item) (list_errors (behind_item at item) ps) e in
    joined at i item (items_in (numbered_all _ ps)) none.0 (list_laid (behind_item at item) (suc i) _ ps none.1)
list_laid at i next (plan place (an_access access attribute count) ps) e =
    joined at i (AccessItem access attribute count) (items_in (numbered_all _ ps)) refl (list_laid at (suc i) _ ps (no_bits at ps e))
list_laid at i next (plan place (a_name name) ps) e =
    joined at i (ConnectionItem (ToName (record { id = next; place = place }) name)) (items_in (numbered_all _ ps)) refl (list_laid at (suc i) _ ps (no_bits at ps e))
list_laid at i next (plan place (a_fill bytes named) ps) e = joined at i (ConnectionItem (ToBytes bytes)) (items_in (numbered_all _ ps)) refl (list_laid at (suc i) _ ps (no_bits at ps e))
list_laid at i next (plan place (a_form op args body) ps) e = no_item at i (form _ op (numbered_all _ args) (numbered_all _ body)) (numbered_all _ ps) (form_item _ op (numbered_all _ args) (numbered_all _ body))
list_laid at i next (plan place _ ps) e = tt

field_laid : (op : Op) (next : ℕ) (args body : Plans) → field_errors op args body ≡ [] → FieldLaid op (items_in (numbered_all next body))
field_laid (Op.Declaration Declaration.Field) next args body e = list_laid 0 0 next body e
field_laid (Op.Declaration Declaration.IndexField) next args body e = list_laid 0 0 next body (none_before (list_errors 0 body) (unit_told (index_fault args body)) e).0
field_laid (Op.Declaration Declaration.BankField) next args body e = list_laid 0 0 next body e
field_laid _ next args body e = tt

mutual
  unfolding numbered numbered_all

  plan_laid : (at : At) (next : ℕ) (p : Plan) → term_errors p ≡ [] → term_faults (numbered at next p) ≡ []
  plan_laid at next (a_form op args body) e =
      let none = none_before (field_errors op args body) (all_errors body) e in
      form_faults at op (numbered_all next args) (numbered_all (next + nodes args) body) (plans_laid (next + nodes args) body none.1) (field_laid op (next + nodes args) args body none.0)
  plan_laid at next _ e = refl

  -- the trees of plans without errors in their lists have no faults in theirs
  pub plans_laid : (next : ℕ) (ps : Plans) → all_errors ps ≡ [] → layout_faults (numbered_all next ps) ≡ []
  plans_laid next no_plans e = refl
  plans_laid next (plan place p ps) e =
      let none = none_before (term_errors p) (all_errors ps) e in
      ap (λ ns. ns ++ layout_faults (numbered_all (suc (next + inside p)) ps)) (plan_laid (record { id = next; place = place }) (suc next) p none.0) ∙ plans_laid (suc (next + inside p)) ps none.1
