-- In formed terms expressions stand where values are due, and terms where terms are.
use Rattle.std.proofs.Common.{◌≡◌, true, [], ◌∷◌, refl}
use Rattle.std.proofs.lemmas.Bool.{and_from}
use Rattle.std.specs.Prelude.{◌&&◌, List}
use Rattle.acpi_values.specs.declared.operator.DataOp.TheVariants as DataOp
use Rattle.acpi_values.specs.declared.operator.Plain.{Plain}
use Rattle.acpi_values.specs.Operators.{Letter, Valued, Kept, Placed, Used, Row, row_of}
use Rattle.acpi_values.specs.Operators as L
use Rattle.acpi_state.specs.FieldActs.{region_letters, field_letters}
use Rattle.asl_meaning.specs.Meaning.{OfInside, spot_form}
use Rattle.asl_tree.specs.Tree.{Tree, Integer, Constant, String, InSlot, Debug, Omitted, Raw, Use, Call, Apply, Buffer, Package, VarPackage, CondRefOf, Return, Name, Alias, External, Method, Mutex, Event, Container', Scope, Trees}
use Rattle.asl_tree.specs.Tree.{no_trees, tree, count, OperationRegion, Field, IndexField, BankField, CreateField, If, ElseIf, Else, While, Break, Continue, Operated, Assigned, AssignedBy, UnitName, Switch, Case, Default, For, Print}
use Rattle.asl_tree.specs.FieldItems.{FieldItem}
use Rattle.aml_sessions.specs.Ready.{is_expression, is_constant, SpotReady}
use Rattle.acpi_names.specs.Terms.{has_no_targets, is_value, are_values, is_term, are_terms}
use Rattle.named_sessions.specs.Shaped.{UsedShaped, LetterShaped, ElementShaped, EffectShaped, IsNumber, IsCaseMember, AreCaseMembers, HaveCaseMembers, IsCaseValue, IsFormed, IsFormedSpot, IsFormedAlone, AreFormedOperands, AreFormedSpots, AreFormedValues, AreFormedElements, AreFormed, AreFormedCases}

-- an operator whose place is that of its operand has no targets by its row
without_targets : (op : Plain) (targets : Trees) → count targets ≡ (row_of op).targets → has_no_targets (spot_form op) targets ≡ true
without_targets (Plain.Data DataOp.DerefOf) no_trees e = refl
without_targets (Plain.Data DataOp.DerefOf) (tree t ts) e = absurd cc
without_targets _ targets e = refl

pub constant_value : (t : Tree) → is_constant t ≡ true → is_expression t ≡ true
constant_value (Integer number) e = refl
constant_value (Constant literal) e = refl
constant_value (String text) e = refl
constant_value (Buffer size bytes) e = refl
constant_value (Package n elements) e = refl
constant_value (VarPackage size elements) e = refl
constant_value _ e = absurd cc

-- what a Case compares with
number_value : (t : Tree) → IsNumber t → is_value t ≡ true
number_value (Integer number) h = refl
number_value _ h = absurd h

member_value : (t : Tree) → IsCaseMember t → is_value t ≡ true
member_value (Integer number) h = refl
member_value (Constant literal) h = refl
member_value (String text) h = refl
member_value (Buffer size bytes) h = number_value size h
member_value _ h = absurd h

members_values : (ts : Trees) → AreCaseMembers ts → are_values ts ≡ true
members_values no_trees h = refl
members_values (tree t ts) h = and_from (is_value t) (are_values ts) (member_value t h.0) (members_values ts h.1)

some_values : (ts : Trees) → HaveCaseMembers ts → are_values ts ≡ true
some_values no_trees h = absurd h
some_values (tree t ts) h = members_values (tree t ts) h

case_value : (t : Tree) → IsCaseValue t → is_value t ≡ true
case_value (Package n members) h = some_values members h
case_value (VarPackage size members) h = and_from (is_value size) (are_values members) (number_value size h.0) (some_values members h.1)
case_value (Integer number) h = refl
case_value (Constant literal) h = refl
case_value (String text) h = refl
case_value (Buffer size bytes) h = number_value size h
case_value _ h = absurd h

-- whatever is asked of the lists of fields, with symbols and Switches or without
module _ (Forms : Type 0) (Listed : List (FieldItem UnitName) → Type 0) (Symbols Switches : Type 0) where
  used_value : (t : Tree) → UsedShaped t → is_value t ≡ true
  used_value (Use at name) h = refl
  used_value _ h = absurd h

  letter_value : (letter : Letter) (t : Tree) → (is_expression t ≡ true → IsFormed Forms Listed Symbols Switches t → is_value t ≡ true) → (IsFormedSpot Forms Listed Symbols Switches t → is_value t ≡ true)
      → LetterShaped letter t ((is_expression t ≡ true) × IsFormed Forms Listed Symbols Switches t) (IsFormedSpot Forms Listed Symbols Switches t) → is_value t ≡ true
  letter_value Valued t value spot h = value h.0 h.1
  letter_value Kept t value spot h = value h.0 h.1
  letter_value Placed t value spot h = spot h
  letter_value Used t value spot h = used_value t h
  letter_value (L.Raw size) (Raw other number) value spot h = refl
  letter_value (L.Raw size) _ value spot h = absurd h

  element_value : (t : Tree) → (is_expression t ≡ true → IsFormed Forms Listed Symbols Switches t → is_value t ≡ true) → ElementShaped t (IsFormed Forms Listed Symbols Switches t) → is_value t ≡ true
  element_value (Use at name) value h = refl
  element_value t value h = value (constant_value t h.0) h.1

  -- what may be left out
  effect_value : (t : Tree) → (is_expression t ≡ true → IsFormed Forms Listed Symbols Switches t → is_value t ≡ true) → EffectShaped t (IsFormed Forms Listed Symbols Switches t) → is_value t ≡ true
  effect_value Omitted value h = refl
  effect_value t value h = value h.0 h.1

  applied : (op : Plain) (args targets : Trees) → are_values args ≡ true → count targets ≡ (row_of op).targets → are_values targets ≡ true → is_value (Apply op args targets) ≡ true
  applied op args targets h e k = and_from (has_no_targets (spot_form op) targets) (are_values args && are_values targets) (without_targets op targets e) (and_from (are_values args) (are_values targets) h k)

  -- the place of an operator, by its form
  spot_applied : (op : Plain) (args targets : Trees) → (AreFormedOperands Forms Listed Symbols Switches (row_of op).operands args → are_values args ≡ true) → (AreFormedSpots Forms Listed Symbols Switches targets → are_values targets ≡ true)
      → (IsFormedAlone Forms Listed Symbols Switches args targets → (has_no_targets OfInside targets && (are_values args && are_values targets)) ≡ true)
      → SpotReady (spot_form op) (AreFormedOperands Forms Listed Symbols Switches (row_of op).operands args × (count targets ≡ (row_of op).targets) × AreFormedSpots Forms Listed Symbols Switches targets) (IsFormedAlone Forms Listed Symbols Switches args targets)
      → is_value (Apply op args targets) ≡ true
  spot_applied (Plain.Data DataOp.Index) args targets first rest alone h = applied (Plain.Data DataOp.Index) args targets (first h.0) h.1 (rest h.2)
  spot_applied (Plain.Data DataOp.DerefOf) args targets first rest alone h = alone h
  spot_applied _ args targets first rest alone h = absurd h

  -- the same where it is written with a symbol
  spot_operated : (op : Plain) (args : Trees) → (AreFormedOperands Forms Listed Symbols Switches (row_of op).operands args → are_values args ≡ true)
      → SpotReady (spot_form op) (AreFormedOperands Forms Listed Symbols Switches (row_of op).operands args) ⊥ → is_value (Operated op args) ≡ true
  spot_operated (Plain.Data DataOp.Index) args all h = all h
  spot_operated (Plain.Data DataOp.DerefOf) args all h = absurd h
  spot_operated _ args all h = absurd h

  mutual
    value : (t : Tree) → is_expression t ≡ true → IsFormed Forms Listed Symbols Switches t → is_value t ≡ true
    value (Integer number) e h = refl
    value (Constant literal) e h = refl
    value (String text) e h = refl
    value (InSlot slot) e h = refl
    value Debug e h = refl
    value (Use at name) e h = refl
    value (Call at name args) e h = values args h.1
    value (Apply op args targets) e h = applied op args targets (operands_values (row_of op).operands args h.1) h.2 (spots_values targets h.3)
    value (Buffer size bytes) e h = value size h.0 h.1
    value (Package n elements) e h = elements_values elements h.1
    value (VarPackage size elements) e h = and_from (is_value size) (are_values elements) (value size h.0 h.1) (elements_values elements h.2)
    value (CondRefOf place target) e h = and_from (is_value place) (is_value target) (spot_value place h.0) (spot_value target h.1)
    value (Operated op args) e h = operands_values (row_of op).operands args h.2
    value (Assigned target v) e h = and_from (is_value target) (is_value v) (spot_value target h.1) (value v h.2 h.3)
    value (AssignedBy op target v) e h = and_from (is_value target) (is_value v) (spot_value target h.1) (value v h.4 h.5)
    value _ e h = absurd cc

    spot_value : (t : Tree) → IsFormedSpot Forms Listed Symbols Switches t → is_value t ≡ true
    spot_value Omitted h = refl
    spot_value Debug h = refl
    spot_value (InSlot slot) h = refl
    spot_value (Use at name) h = refl
    spot_value (Apply op args targets) h = spot_applied op args targets (λ k. operands_values (row_of op).operands args k) (λ k. spots_values targets k) (λ k. alone_value args targets k) h.1
    spot_value (Operated op args) h = spot_operated op args (λ k. operands_values (row_of op).operands args k) h.2
    spot_value _ h = absurd h

    alone_value : (args targets : Trees) → IsFormedAlone Forms Listed Symbols Switches args targets → (has_no_targets OfInside targets && (are_values args && are_values targets)) ≡ true
    alone_value (tree t no_trees) no_trees h = and_from (is_value t && true) true (and_from (is_value t) true (value t h.0 h.1) refl) refl
    alone_value _ _ h = absurd h

    operands_values : (letters : List Letter) (ts : Trees) → AreFormedOperands Forms Listed Symbols Switches letters ts → are_values ts ≡ true
    operands_values [] no_trees h = refl
    operands_values (letter ∷ letters) (tree t ts) h =
        and_from (is_value t) (are_values ts) (letter_value letter t (λ e s. value t e s) (λ s. spot_value t s) h.0) (operands_values letters ts h.1)
    operands_values _ _ h = absurd h

    spots_values : (ts : Trees) → AreFormedSpots Forms Listed Symbols Switches ts → are_values ts ≡ true
    spots_values no_trees h = refl
    spots_values (tree t ts) h = and_from (is_value t) (are_values ts) (spot_value t h.0) (spots_values ts h.1)

    values : (ts : Trees) → AreFormedValues Forms Listed Symbols Switches ts → are_values ts ≡ true
    values no_trees h = refl
    values (tree t ts) h = and_from (is_value t) (are_values ts) (value t h.0 h.1) (values ts h.2)

    elements_values : (ts : Trees) → AreFormedElements Forms Listed Symbols Switches ts → are_values ts ≡ true
    elements_values no_trees h = refl
    elements_values (tree t ts) h = and_from (is_value t) (are_values ts) (element_value t (λ e s. value t e s) h.0) (elements_values ts h.1)

  mutual
    formed_term : (t : Tree) → IsFormed Forms Listed Symbols Switches t → is_term t ≡ true
    formed_term (Return v) h = value v h.0 h.1
    formed_term (Name at name v) h = value v h.1 h.2
    formed_term (Alias from source at name) h = refl
    formed_term (External here at name type parameters) h = refl
    formed_term (Method at name flags body) h = terms body h.2
    formed_term (Mutex at name level) h = refl
    formed_term (Event at name) h = refl
    formed_term (Container' kind at name body) h = terms body h.2
    formed_term (Scope here at name body) h = terms body h.1
    formed_term (If test body) h = and_from (is_value test) (are_terms body) (value test h.0 h.1) (terms body h.2)
    formed_term (Else body) h = terms body h
    formed_term (While test body) h = and_from (is_value test) (are_terms body) (value test h.0 h.1) (terms body h.2)
    formed_term (OperationRegion at name space args) h = operands_values region_letters args h.2
    formed_term (Field here from region flags items) h = refl
    formed_term (IndexField here from index to register flags items) h = refl
    formed_term (BankField here from region to bank v flags items) h = value v h.2 h.3
    formed_term (CreateField form args at name) h = operands_values (field_letters form) args h.0
    formed_term (Integer number) h = refl
    formed_term (Constant literal) h = refl
    formed_term (String text) h = refl
    formed_term (InSlot slot) h = refl
    formed_term Debug h = refl
    formed_term (Use at name) h = refl
    formed_term (Call at name args) h = values args h.1
    formed_term (Apply op args targets) h = applied op args targets (operands_values (row_of op).operands args h.1) h.2 (spots_values targets h.3)
    formed_term (Buffer size bytes) h = value (Buffer size bytes) refl h
    formed_term (Package n elements) h = value (Package n elements) refl h
    formed_term (VarPackage size elements) h = value (VarPackage size elements) refl h
    formed_term (CondRefOf place target) h = value (CondRefOf place target) refl h
    formed_term (Operated op args) h = value (Operated op args) refl h
    formed_term (Assigned target v) h = value (Assigned target v) refl h
    formed_term (AssignedBy op target v) h = value (AssignedBy op target v) refl h
    formed_term (ElseIf test body) h = and_from (is_value test) (are_terms body) (value test h.0 h.1) (terms body h.2)
    formed_term (For start test step body) h =
        and_from (is_value start) (is_value test && (is_value step && are_terms body)) (effect_value start (λ e s. value start e s) h.1)
        (and_from (is_value test) (is_value step && are_terms body) (value test h.2 h.3) (and_from (is_value step) (are_terms body) (effect_value step (λ e s. value step e s) h.4) (terms body h.5)))
    formed_term (Print place format args) h = and_from (is_value place) (are_values args) (spot_value place h.1) (values args h.3)
    formed_term (Switch v cases) h = and_from (is_value v) (are_terms cases) (value v h.1 h.2) (case_terms cases h.3)
    formed_term Break h = refl
    formed_term Continue h = refl
    formed_term _ h = absurd h

    terms : (ts : Trees) → AreFormed Forms Listed Symbols Switches ts → are_terms ts ≡ true
    terms no_trees h = refl
    terms (tree t ts) h = and_from (is_term t) (are_terms ts) (formed_term t h.0) (terms ts h.2)

    case_terms : (ts : Trees) → AreFormedCases Forms Listed Symbols Switches ts → are_terms ts ≡ true
    case_terms no_trees h = refl
    case_terms (tree (Case v body) ts) h =
        and_from (is_value v && are_terms body) (are_terms ts) (and_from (is_value v) (are_terms body) (case_value v h.0) (terms body h.1)) (case_terms ts h.2)
    case_terms (tree (Default body) no_trees) h = and_from (are_terms body) true (terms body h) refl
    case_terms (tree _ _) h = absurd h

-- formed terms are terms, and have values where values are due
pub formed_terms : (Forms : Type 0) (Listed : List (FieldItem UnitName) → Type 0) (Symbols Switches : Type 0) (ts : Trees) → AreFormed Forms Listed Symbols Switches ts → are_terms ts ≡ true
formed_terms Forms Listed Symbols Switches ts h = terms Forms Listed Symbols Switches ts h
