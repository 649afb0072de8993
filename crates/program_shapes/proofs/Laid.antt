-- In a tree that is formed, and whose lists of fields have no fault, no Offset goes back and each count of bits can be written.
use Rattle.std.proofs.Common.{◌≡◌, ℕ, suc, ◌-◌, ◌*◌, ◌^◌, ◌<◌, Bool, true, false, List, [], ◌∷◌, Option, Some, None, refl, arith}
use Rattle.std.specs.Prelude.{nat_le, nat_lt, nat_eq, if◌then◌else◌}
use Rattle.std.proofs.lemmas.Bool.{leb-false}
use Rattle.acpi_state.specs.Outcomes.{choose}
use Rattle.acpi_values.specs.Operators.{Letter, Valued, Kept, Placed, Used, Row, row_of}
use Rattle.acpi_values.specs.Operators as L
use Rattle.asl_meaning.specs.Meaning.{SpotForm, OfResult, OfInside, NoSpot, spot_form}
use Rattle.asl_tree.specs.FieldItems.{FieldItem, UnitItem, SkipItem, OffsetItem, AccessItem, ConnectionItem, behind_item}
use Rattle.asl_tree.specs.Tree.{Tree, Integer, Constant, String, InSlot, Debug, Omitted, Raw, Use, Call, Apply, Buffer, Package, VarPackage, CondRefOf, Return, Name, Alias, External, Method, Mutex, Event, Container', Scope, Fill, Misshapen}
use Rattle.asl_tree.specs.Tree.{Operated, Assigned, AssignedBy, Trees, no_trees, tree, count, OperationRegion, Field, IndexField, BankField, CreateField, UnitName, If, ElseIf, Else, While, Break, Continue, Item, Switch, Case, Default, For, Print}
use Rattle.acpi_state.specs.FieldActs.{field_letters}
use Rattle.field_layout.specs.Layout.{bits_fault, item_fault, first_fault}
use Rattle.aml_sessions.specs.Ready.{is_expression, SpotReady, IsItem, AreItems}
use Rattle.named_sessions.specs.Shaped.{LetterShaped, ElementShaped, EffectShaped, AreNamed, IsFormed, IsFormedSpot, IsFormedAlone, AreFormedOperands, AreFormedSpots, AreFormedValues, AreFormedElements, AreFormed, AreFormedCases}
use Rattle.program_shapes.proofs.Lists.{list_faults, term_faults, layout_faults, none_before}

-- ---- lists of fields

abbrev fault_if : Bool → ℕ → Option ℕ → Option ℕ
fault_if b number later = if b then Some number else later

few_bits : (bits : ℕ) → bits_fault bits ≡ None → bits < 2 ^ 28
few_bits bits e = by (nat_le (2 ^ 28) bits) refl e
  where
    by : (b : Bool) → nat_le (2 ^ 28) bits ≡ b → fault_if b 6071 None ≡ None → bits < 2 ^ 28
    by true k e = absurd cc
    by false k e = leb-false (2 ^ 28) bits k

item_laid : (at : ℕ) (item : FieldItem UnitName) → AreNamed (item ∷ []) → item_fault at item ≡ None → IsItem at item
item_laid at (UnitItem name bits) h e = by (nat_eq bits 0) e
  where
    by : (b : Bool) → fault_if b 6071 (bits_fault bits) ≡ None → IsItem at (UnitItem name bits)
    by true e = absurd cc
    by false e = (h.0, few_bits bits e)
item_laid at (SkipItem bits) h e = few_bits bits e
item_laid at (AccessItem access attribute count) h e = h.0
item_laid at (ConnectionItem to) h e = h.0
item_laid at (OffsetItem bytes) h e = by (nat_lt (8 * bytes) at) refl e
  where
    by : (b : Bool) → nat_lt (8 * bytes) at ≡ b → fault_if b 6070 (bits_fault (8 * bytes - at)) ≡ None → IsItem at (OffsetItem bytes)
    by true k e = absurd cc
    by false k e = let near : at < suc (8 * bytes) = leb-false (suc (8 * bytes)) at k in (omega (arith, near), few_bits (8 * bytes - at) e)

named_parts : (item : FieldItem UnitName) (items : List (FieldItem UnitName)) → AreNamed (item ∷ items) → AreNamed (item ∷ []) × AreNamed items
named_parts (UnitItem name bits) items h = ((h.0, tt), h.1)
named_parts (SkipItem bits) items h = (tt, h)
named_parts (OffsetItem bytes) items h = (tt, h)
named_parts (AccessItem access attribute count) items h = ((h.0, tt), h.1)
named_parts (ConnectionItem to) items h = ((h.0, tt), h.1)

items_laid : (at i : ℕ) (items : List (FieldItem UnitName)) → AreNamed items → first_fault at i items ≡ None → AreItems at items
items_laid at i [] h e = tt
items_laid at i (item ∷ items) h e = by (item_fault at item) refl (λ f. items_laid (behind_item at item) (suc i) items (named_parts item items h).1 f) e
  where
    by : (o : Option ℕ) → item_fault at item ≡ o → (first_fault (behind_item at item) (suc i) items ≡ None → AreItems (behind_item at item) items) → choose o (first_fault (behind_item at item) (suc i) items) (λ number. Some (i, number)) ≡ None
        → AreItems at (item ∷ items)
    by None k rest e = (item_laid at item (named_parts item items h).0 k, rest e)
    by (Some number) k rest e = absurd cc

list_laid : (items : List (FieldItem UnitName)) → AreNamed items → list_faults items ≡ [] → AreItems 0 items
list_laid items h e = by (first_fault 0 0 items) refl e
  where
    by : (o : Option (ℕ × ℕ)) → first_fault 0 0 items ≡ o → choose o [] (λ fault. fault.1 ∷ []) ≡ [] → AreItems 0 items
    by None k e = items_laid 0 0 items h k
    by (Some fault) k e = absurd cc

-- ---- trees

spot_by : (form : SpotForm) (R I R' I' : Type 0) → (R → R') → (I → I') → SpotReady form R I → SpotReady form R' I'
spot_by OfResult R I R' I' r i h = r h
spot_by OfInside R I R' I' r i h = i h
spot_by NoSpot R I R' I' r i h = h

never : {A : Type 0} → false ≡ true → A
never e = absurd cc

-- with Fors and what prints, symbols and Switches, or without
module _ (Forms Symbols Switches : Type 0) where
  -- trees in whose lists no Offset goes back and each count of bits can be written
  abbrev Laid : Tree → Type 0
  Laid = IsFormed Forms (AreItems 0) Symbols Switches

  abbrev LaidSpot : Tree → Type 0
  LaidSpot = IsFormedSpot Forms (AreItems 0) Symbols Switches

  effect_laid : (t : Tree) → (is_expression t ≡ true → IsFormed Forms AreNamed Symbols Switches t → Laid t) → EffectShaped t (IsFormed Forms AreNamed Symbols Switches t) → EffectShaped t (Laid t)
  effect_laid Omitted value h = tt
  effect_laid t value h = (h.0, value h.0 h.1)

  letter_laid : (letter : Letter) (t : Tree) → (is_expression t ≡ true → IsFormed Forms AreNamed Symbols Switches t → Laid t) → (IsFormedSpot Forms AreNamed Symbols Switches t → LaidSpot t)
      → LetterShaped letter t ((is_expression t ≡ true) × IsFormed Forms AreNamed Symbols Switches t) (IsFormedSpot Forms AreNamed Symbols Switches t) → LetterShaped letter t ((is_expression t ≡ true) × Laid t) (LaidSpot t)
  letter_laid Valued t value spot h = (h.0, value h.0 h.1)
  letter_laid Kept t value spot h = (h.0, value h.0 h.1)
  letter_laid Placed t value spot h = spot h
  letter_laid Used t value spot h = h
  letter_laid (L.Raw size) t value spot h = h

  mutual
    -- an expression has no list of a field in it
    value_laid : (t : Tree) → is_expression t ≡ true → IsFormed Forms AreNamed Symbols Switches t → Laid t
    value_laid (Integer number) e h = h
    value_laid (Constant literal) e h = h
    value_laid (String text) e h = h
    value_laid (InSlot slot) e h = h
    value_laid Debug e h = h
    value_laid (Use at name) e h = h
    value_laid (Call at name args) e h = (h.0, values_laid args h.1)
    value_laid (Apply op args targets) e h = (h.0, operands_laid (row_of op).operands args h.1, h.2, spots_laid targets h.3)
    value_laid (Buffer size bytes) e h = (h.0, value_laid size h.0 h.1)
    value_laid (Package n elements) e h = (h.0, elements_laid elements h.1)
    value_laid (VarPackage size elements) e h = (h.0, value_laid size h.0 h.1, elements_laid elements h.2)
    value_laid (CondRefOf place target) e h = (spot_laid place h.0, spot_laid target h.1)
    value_laid (Operated op args) e h = (h.0, h.1, operands_laid (row_of op).operands args h.2)
    value_laid (Assigned target value) e h = (h.0, spot_laid target h.1, h.2, value_laid value h.2 h.3)
    value_laid (AssignedBy op target value) e h = (h.0, spot_laid target h.1, h.2, value_laid target h.2 h.3, h.4, value_laid value h.4 h.5)
    value_laid _ e h = absurd cc

    spot_laid : (t : Tree) → IsFormedSpot Forms AreNamed Symbols Switches t → LaidSpot t
    spot_laid Omitted h = tt
    spot_laid Debug h = tt
    spot_laid (InSlot slot) h = h
    spot_laid (Use at name) h = h
    spot_laid (Apply op args targets) h = (
      h.0,
      spot_by (spot_form op) (AreFormedOperands Forms AreNamed Symbols Switches (row_of op).operands args × (count targets ≡ (row_of op).targets) × AreFormedSpots Forms AreNamed Symbols Switches targets) (IsFormedAlone Forms AreNamed Symbols Switches args targets)
          (AreFormedOperands Forms (AreItems 0) Symbols Switches (row_of op).operands args × (count targets ≡ (row_of op).targets) × AreFormedSpots Forms (AreItems 0) Symbols Switches targets) (IsFormedAlone Forms (AreItems 0) Symbols Switches args targets)
          (λ r. (operands_laid (row_of op).operands args r.0, r.1, spots_laid targets r.2)) (λ i. alone_laid args targets i) h.1,
    )
    spot_laid (Operated op args) h = (
      h.0,
      h.1,
      spot_by (spot_form op) (AreFormedOperands Forms AreNamed Symbols Switches (row_of op).operands args) ⊥ (AreFormedOperands Forms (AreItems 0) Symbols Switches (row_of op).operands args) ⊥
          (λ r. operands_laid (row_of op).operands args r) (λ i. i) h.2,
    )
    spot_laid _ h = absurd h

    alone_laid : (args targets : Trees) → IsFormedAlone Forms AreNamed Symbols Switches args targets → IsFormedAlone Forms (AreItems 0) Symbols Switches args targets
    alone_laid (tree t no_trees) no_trees h = (h.0, value_laid t h.0 h.1)
    alone_laid no_trees targets h = absurd h
    alone_laid (tree t no_trees) (tree u us) h = absurd h
    alone_laid (tree t (tree v vs)) targets h = absurd h

    operands_laid : (letters : List Letter) (ts : Trees) → AreFormedOperands Forms AreNamed Symbols Switches letters ts → AreFormedOperands Forms (AreItems 0) Symbols Switches letters ts
    operands_laid [] no_trees h = tt
    operands_laid [] (tree t ts) h = absurd h
    operands_laid (letter ∷ letters) no_trees h = absurd h
    operands_laid (letter ∷ letters) (tree t ts) h = (letter_laid letter t (λ e k. value_laid t e k) (λ k. spot_laid t k) h.0, operands_laid letters ts h.1)

    spots_laid : (ts : Trees) → AreFormedSpots Forms AreNamed Symbols Switches ts → AreFormedSpots Forms (AreItems 0) Symbols Switches ts
    spots_laid no_trees h = tt
    spots_laid (tree t ts) h = (spot_laid t h.0, spots_laid ts h.1)

    values_laid : (ts : Trees) → AreFormedValues Forms AreNamed Symbols Switches ts → AreFormedValues Forms (AreItems 0) Symbols Switches ts
    values_laid no_trees h = tt
    values_laid (tree t ts) h = (h.0, value_laid t h.0 h.1, values_laid ts h.2)

    element_laid : (t : Tree) → ElementShaped t (IsFormed Forms AreNamed Symbols Switches t) → ElementShaped t (Laid t)
    element_laid (Use at name) h = h
    element_laid (Integer number) h = h
    element_laid (Constant literal) h = h
    element_laid (String text) h = h
    element_laid (Buffer size bytes) h = (h.0, (h.1.0, value_laid size h.1.0 h.1.1))
    element_laid (Package n elements) h = (h.0, (h.1.0, elements_laid elements h.1.1))
    element_laid (VarPackage size elements) h = (h.0, (h.1.0, value_laid size h.1.0 h.1.1, elements_laid elements h.1.2))
    element_laid _ h = never h.0

    elements_laid : (ts : Trees) → AreFormedElements Forms AreNamed Symbols Switches ts → AreFormedElements Forms (AreItems 0) Symbols Switches ts
    elements_laid no_trees h = tt
    elements_laid (tree t ts) h = (element_laid t h.0, elements_laid ts h.1)

  mutual
    term_laid : (t : Tree) → IsFormed Forms AreNamed Symbols Switches t → term_faults t ≡ [] → Laid t
    term_laid (Return value) h e = (h.0, value_laid value h.0 h.1)
    term_laid (Name at name value) h e = (h.0, h.1, value_laid value h.1 h.2)
    term_laid (Alias from source at name) h e = h
    term_laid (External here at name type parameters) h e = h
    term_laid (Method at name flags body) h e = (h.0, h.1, terms_laid body h.2 e)
    term_laid (Mutex at name level) h e = h
    term_laid (Event at name) h e = h
    term_laid (Container' kind at name body) h e = (h.0, h.1, terms_laid body h.2 e)
    term_laid (Scope here at name body) h e = (h.0, terms_laid body h.1 e)
    term_laid (If test body) h e = (h.0, value_laid test h.0 h.1, terms_laid body h.2 e)
    term_laid (Else body) h e = terms_laid body h e
    term_laid (While test body) h e = (h.0, value_laid test h.0 h.1, terms_laid body h.2 e)
    term_laid Break h e = tt
    term_laid Continue h e = tt
    term_laid (OperationRegion at name space args) h e = (h.0, h.1, operands_laid (Valued ∷ Valued ∷ []) args h.2)
    term_laid (Field here from region flags items) h e = (h.0, h.1, list_laid items h.2 e)
    term_laid (IndexField here from index to register flags items) h e = (h.0, h.1, h.2, list_laid items h.3 e)
    term_laid (BankField here from region to bank value flags items) h e = (h.0, h.1, h.2, value_laid value h.2 h.3, h.4, list_laid items h.5 e)
    term_laid (CreateField form args at name) h e = (operands_laid (field_letters form) args h.0, h.1)
    term_laid Omitted h e = absurd h
    term_laid (Raw size number) h e = absurd h
    term_laid (Item item) h e = absurd h
    term_laid (Fill bytes) h e = absurd h
    term_laid Misshapen h e = absurd h
    term_laid (Operated op args) h e = value_laid (Operated op args) refl h
    term_laid (Assigned target value) h e = value_laid (Assigned target value) refl h
    term_laid (AssignedBy op target value) h e = value_laid (AssignedBy op target value) refl h
    term_laid (ElseIf test body) h e = (h.0, value_laid test h.0 h.1, terms_laid body h.2 e)
    term_laid (For start test step body) h e = (
      h.0,
      effect_laid start (λ x f. value_laid start x f) h.1,
      h.2,
      value_laid test h.2 h.3,
      effect_laid step (λ x f. value_laid step x f) h.4,
      terms_laid body h.5 e,
    )
    term_laid (Print place format args) h e = (h.0, spot_laid place h.1, h.2, values_laid args h.3, h.4)
    term_laid (Switch value cases) h e = (h.0, h.1, value_laid value h.1 h.2, cases_laid cases h.3 e)
    term_laid (Case value body) h e = absurd h
    term_laid (Default body) h e = absurd h
    term_laid (Integer number) h e = h
    term_laid (Constant literal) h e = h
    term_laid (String text) h e = h
    term_laid (InSlot slot) h e = h
    term_laid Debug h e = h
    term_laid (Use at name) h e = h
    term_laid (Call at name args) h e = value_laid (Call at name args) refl h
    term_laid (Apply op args targets) h e = value_laid (Apply op args targets) refl h
    term_laid (Buffer size bytes) h e = value_laid (Buffer size bytes) refl h
    term_laid (Package n elements) h e = value_laid (Package n elements) refl h
    term_laid (VarPackage size elements) h e = value_laid (VarPackage size elements) refl h
    term_laid (CondRefOf place target) h e = value_laid (CondRefOf place target) refl h

    pub terms_laid : (ts : Trees) → AreFormed Forms AreNamed Symbols Switches ts → layout_faults ts ≡ [] → AreFormed Forms (AreItems 0) Symbols Switches ts
    terms_laid no_trees h e = tt
    terms_laid (tree t ts) h e = let none = none_before (term_faults t) (layout_faults ts) e in (term_laid t h.0 none.0, h.1, terms_laid ts h.2 none.1)

    cases_laid : (ts : Trees) → AreFormedCases Forms AreNamed Symbols Switches ts → layout_faults ts ≡ [] → AreFormedCases Forms (AreItems 0) Symbols Switches ts
    cases_laid no_trees h e = tt
    cases_laid (tree (Case value body) ts) h e = let none = none_before (layout_faults body) (layout_faults ts) e in (h.0, terms_laid body h.1 none.0, cases_laid ts h.2 none.1)
    cases_laid (tree (Default body) no_trees) h e = let none = none_before (layout_faults body) [] e in terms_laid body h none.0
    cases_laid (tree _ _) h e = absurd h
