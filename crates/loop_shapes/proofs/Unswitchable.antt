-- The Switches of a formed program that has Locals enough become loops.
use Rattle.std.proofs.Common.{◌≡◌, true, List, [], ◌∷◌, refl}
use Rattle.acpi_values.specs.declared.operator.DataOp.TheVariants as DataOp
use Rattle.acpi_values.specs.declared.operator.Plain.{Plain}
use Rattle.acpi_values.specs.Operators.{Letter, Valued, Kept, Placed, Used, Row, row_of}
use Rattle.acpi_values.specs.Operators as L
use Rattle.acpi_state.specs.FieldActs.{region_letters, field_letters}
use Rattle.acpi_state.specs.Forms.{Slot, LocalSlot, ArgSlot}
use Rattle.asl_meaning.specs.Meaning.{spot_form}
use Rattle.asl_tree.specs.FieldItems.{FieldItem}
use Rattle.asl_tree.specs.Tree.{Tree, Integer, Constant, String, InSlot, Debug, Omitted, Raw, Use, Call, Apply, Buffer, Package, VarPackage, CondRefOf, Return, Name, Alias, External, Method, Mutex, Event, Container', Scope, Fill, Misshapen}
use Rattle.asl_tree.specs.Tree.{Operated, Assigned, AssignedBy, Trees, no_trees, tree, count, OperationRegion, Field, IndexField, BankField, CreateField, UnitName, If, ElseIf, Else, While, For, Print, Break, Continue, Item, Switch, Case, Default}
use Rattle.aml_sessions.specs.Ready.{is_expression, SpotReady}
use Rattle.named_sessions.specs.Shaped as N
use Rattle.named_sessions.specs.Shaped.{UsedShaped, LetterShaped, ElementShaped, IsNumber, IsCaseMember, AreCaseMembers, HaveCaseMembers, IsCaseValue, IsFormed, IsFormedSpot, IsFormedAlone, AreFormedOperands, AreFormedSpots, AreFormedValues, AreFormedElements, AreFormed, AreFormedCases}
use Rattle.named_sessions.proofs.Terms.{constant_value}
use Rattle.hidden_locals.specs.Terms.{IsShownSlot, UseShown}
use Rattle.hidden_locals.specs.Switches.{HasNoMethod, StartsNoElse, IsFollowed, IsStatement, AreStatements, AreCases, HasLocals, HaveLocalsInside, HaveLocals, IsUnswitchable}

abbrev HaveNoMethod : Trees → Type 0
HaveNoMethod = UseShown (λ body. ⊥) (λ i. true)

starts_no_else : (ts : Trees) → N.StartsNoElse ts → StartsNoElse ts
starts_no_else (tree (Else body) ts) h = h
starts_no_else (tree (ElseIf test body) ts) h = h
starts_no_else _ h = tt

followed : (t : Tree) (ts : Trees) → N.IsFollowed t ts → IsFollowed t ts
followed (Switch value cases) ts h = starts_no_else ts h
followed _ ts h = tt

-- what a Case compares with has no method in it
number_no_method : (t : Tree) → IsNumber t → HasNoMethod t
number_no_method (Integer n) h = tt
number_no_method _ h = absurd h

member_no_method : (t : Tree) → IsCaseMember t → HasNoMethod t
member_no_method (Integer n) h = tt
member_no_method (Constant literal) h = tt
member_no_method (String text) h = tt
member_no_method (Buffer size bytes) h = number_no_method size h
member_no_method _ h = absurd h

members_no_method : (ts : Trees) → AreCaseMembers ts → HaveNoMethod ts
members_no_method no_trees h = tt
members_no_method (tree t ts) h = (member_no_method t h.0, members_no_method ts h.1)

some_no_method : (ts : Trees) → HaveCaseMembers ts → HaveNoMethod ts
some_no_method no_trees h = tt
some_no_method (tree t ts) h = members_no_method (tree t ts) h

case_no_method : (t : Tree) → IsCaseValue t → HasNoMethod t
case_no_method (Package n members) h = some_no_method members h
case_no_method (VarPackage size members) h = (number_no_method size h.0, some_no_method members h.1)
case_no_method (Integer n) h = tt
case_no_method (Constant literal) h = tt
case_no_method (String text) h = tt
case_no_method (Buffer size bytes) h = number_no_method size h
case_no_method _ h = absurd h

slot_shown : (slot : Slot) → IsShownSlot (λ i. true) slot
slot_shown (LocalSlot i) = refl
slot_shown (ArgSlot i) = tt

-- whatever is asked of the lists of fields, with symbols and Switches or without
module _ (Listed : List (FieldItem UnitName) → Type 0) (Symbols Switches : Type 0) where
  letter_no_method : (letter : Letter) (t : Tree) → (is_expression t ≡ true → IsFormed ⊥ Listed Symbols Switches t → HasNoMethod t) → (IsFormedSpot ⊥ Listed Symbols Switches t → HasNoMethod t)
      → LetterShaped letter t ((is_expression t ≡ true) × IsFormed ⊥ Listed Symbols Switches t) (IsFormedSpot ⊥ Listed Symbols Switches t) → HasNoMethod t
  letter_no_method Valued t value spot h = value h.0 h.1
  letter_no_method Kept t value spot h = value h.0 h.1
  letter_no_method Placed t value spot h = spot h
  letter_no_method Used (Use at name) value spot h = tt
  letter_no_method Used _ value spot h = absurd h
  letter_no_method (L.Raw size) (Raw other number) value spot h = tt
  letter_no_method (L.Raw size) _ value spot h = absurd h

  element_no_method : (t : Tree) → (is_expression t ≡ true → IsFormed ⊥ Listed Symbols Switches t → HasNoMethod t) → ElementShaped t (IsFormed ⊥ Listed Symbols Switches t) → HasNoMethod t
  element_no_method (Use at name) value h = tt
  element_no_method t value h = value (constant_value t h.0) h.1

  spot_applied : (op : Plain) (args targets : Trees) → (AreFormedOperands ⊥ Listed Symbols Switches (row_of op).operands args → HaveNoMethod args) → (AreFormedSpots ⊥ Listed Symbols Switches targets → HaveNoMethod targets)
      → (IsFormedAlone ⊥ Listed Symbols Switches args targets → HaveNoMethod args × HaveNoMethod targets)
      → SpotReady (spot_form op) (AreFormedOperands ⊥ Listed Symbols Switches (row_of op).operands args × (count targets ≡ (row_of op).targets) × AreFormedSpots ⊥ Listed Symbols Switches targets) (IsFormedAlone ⊥ Listed Symbols Switches args targets)
      → HaveNoMethod args × HaveNoMethod targets
  spot_applied (Plain.Data DataOp.Index) args targets first rest alone h = (first h.0, rest h.2)
  spot_applied (Plain.Data DataOp.DerefOf) args targets first rest alone h = alone h
  spot_applied _ args targets first rest alone h = absurd h

  spot_operated : (op : Plain) (args : Trees) → (AreFormedOperands ⊥ Listed Symbols Switches (row_of op).operands args → HaveNoMethod args)
      → SpotReady (spot_form op) (AreFormedOperands ⊥ Listed Symbols Switches (row_of op).operands args) ⊥ → HaveNoMethod args
  spot_operated (Plain.Data DataOp.Index) args all h = all h
  spot_operated (Plain.Data DataOp.DerefOf) args all h = absurd h
  spot_operated _ args all h = absurd h

  mutual
    value_no_method : (t : Tree) → is_expression t ≡ true → IsFormed ⊥ Listed Symbols Switches t → HasNoMethod t
    value_no_method (Integer number) e h = tt
    value_no_method (Constant literal) e h = tt
    value_no_method (String text) e h = tt
    value_no_method (InSlot slot) e h = slot_shown slot
    value_no_method Debug e h = tt
    value_no_method (Use at name) e h = tt
    value_no_method (Call at name args) e h = values_no_method args h.1
    value_no_method (Apply op args targets) e h = (operands_no_method (row_of op).operands args h.1, spots_no_method targets h.3)
    value_no_method (Buffer size bytes) e h = value_no_method size h.0 h.1
    value_no_method (Package n elements) e h = elements_no_method elements h.1
    value_no_method (VarPackage size elements) e h = (value_no_method size h.0 h.1, elements_no_method elements h.2)
    value_no_method (CondRefOf place target) e h = (spot_no_method place h.0, spot_no_method target h.1)
    value_no_method (Operated op args) e h = operands_no_method (row_of op).operands args h.2
    value_no_method (Assigned target value) e h = (spot_no_method target h.1, value_no_method value h.2 h.3)
    value_no_method (AssignedBy op target value) e h = (spot_no_method target h.1, value_no_method value h.4 h.5)
    value_no_method _ e h = absurd cc

    spot_no_method : (t : Tree) → IsFormedSpot ⊥ Listed Symbols Switches t → HasNoMethod t
    spot_no_method Omitted h = tt
    spot_no_method Debug h = tt
    spot_no_method (InSlot slot) h = slot_shown slot
    spot_no_method (Use at name) h = tt
    spot_no_method (Apply op args targets) h = spot_applied op args targets (λ k. operands_no_method (row_of op).operands args k) (λ k. spots_no_method targets k) (λ k. alone_no_method args targets k) h.1
    spot_no_method (Operated op args) h = spot_operated op args (λ k. operands_no_method (row_of op).operands args k) h.2
    spot_no_method _ h = absurd h

    alone_no_method : (args targets : Trees) → IsFormedAlone ⊥ Listed Symbols Switches args targets → HaveNoMethod args × HaveNoMethod targets
    alone_no_method (tree t no_trees) no_trees h = ((value_no_method t h.0 h.1, tt), tt)
    alone_no_method no_trees targets h = absurd h
    alone_no_method (tree t no_trees) (tree u us) h = absurd h
    alone_no_method (tree t (tree v vs)) targets h = absurd h

    operands_no_method : (letters : List Letter) (ts : Trees) → AreFormedOperands ⊥ Listed Symbols Switches letters ts → HaveNoMethod ts
    operands_no_method [] no_trees h = tt
    operands_no_method [] (tree t ts) h = absurd h
    operands_no_method (letter ∷ letters) no_trees h = absurd h
    operands_no_method (letter ∷ letters) (tree t ts) h = (letter_no_method letter t (λ e k. value_no_method t e k) (λ k. spot_no_method t k) h.0, operands_no_method letters ts h.1)

    spots_no_method : (ts : Trees) → AreFormedSpots ⊥ Listed Symbols Switches ts → HaveNoMethod ts
    spots_no_method no_trees h = tt
    spots_no_method (tree t ts) h = (spot_no_method t h.0, spots_no_method ts h.1)

    values_no_method : (ts : Trees) → AreFormedValues ⊥ Listed Symbols Switches ts → HaveNoMethod ts
    values_no_method no_trees h = tt
    values_no_method (tree t ts) h = (value_no_method t h.0 h.1, values_no_method ts h.2)

    elements_no_method : (ts : Trees) → AreFormedElements ⊥ Listed Symbols Switches ts → HaveNoMethod ts
    elements_no_method no_trees h = tt
    elements_no_method (tree t ts) h = (element_no_method t (λ e k. value_no_method t e k) h.0, elements_no_method ts h.1)

  mutual
    statement : (t : Tree) → IsFormed ⊥ Listed Symbols Switches t → HasLocals t → IsStatement t
    statement (Return value) h k = value_no_method value h.0 h.1
    statement (Name at name value) h k = value_no_method value h.1 h.2
    statement (Alias from source at name) h k = tt
    statement (External here at name type parameters) h k = tt
    statement (Method at name flags body) h k = (k.0, statements body h.2 k.1)
    statement (Mutex at name level) h k = tt
    statement (Event at name) h k = tt
    statement (Container' kind at name body) h k = statements body h.2 k
    statement (Scope here at name body) h k = statements body h.1 k
    statement (If test body) h k = (value_no_method test h.0 h.1, statements body h.2 k)
    statement (Else body) h k = statements body h k
    statement (While test body) h k = (value_no_method test h.0 h.1, statements body h.2 k)
    statement (For start test step body) h k = absurd h.0
    statement (Print place format args) h k = absurd h.0
    statement Break h k = tt
    statement Continue h k = tt
    statement (OperationRegion at name space args) h k = operands_no_method region_letters args h.2
    statement (Field here from region flags items) h k = tt
    statement (IndexField here from index to register flags items) h k = tt
    statement (BankField here from region to bank value flags items) h k = value_no_method value h.2 h.3
    statement (CreateField form args at name) h k = operands_no_method (field_letters form) args h.0
    statement Omitted h k = absurd h
    statement (Raw size number) h k = absurd h
    statement (Item item) h k = absurd h
    statement (Fill bytes) h k = absurd h
    statement Misshapen h k = absurd h
    statement (Operated op args) h k = value_no_method (Operated op args) refl h
    statement (Assigned target value) h k = value_no_method (Assigned target value) refl h
    statement (AssignedBy op target value) h k = value_no_method (AssignedBy op target value) refl h
    statement (ElseIf test body) h k = (value_no_method test h.0 h.1, statements body h.2 k)
    statement (Switch value cases) h k = (value_no_method value h.1 h.2, cases_of cases h.3 k)
    statement (Case value body) h k = absurd h
    statement (Default body) h k = absurd h
    statement (Integer number) h k = tt
    statement (Constant literal) h k = tt
    statement (String text) h k = tt
    statement (InSlot slot) h k = slot_shown slot
    statement Debug h k = tt
    statement (Use at name) h k = tt
    statement (Call at name args) h k = value_no_method (Call at name args) refl h
    statement (Apply op args targets) h k = value_no_method (Apply op args targets) refl h
    statement (Buffer size bytes) h k = value_no_method (Buffer size bytes) refl h
    statement (Package n elements) h k = value_no_method (Package n elements) refl h
    statement (VarPackage size elements) h k = value_no_method (VarPackage size elements) refl h
    statement (CondRefOf place target) h k = value_no_method (CondRefOf place target) refl h

    statements : (ts : Trees) → AreFormed ⊥ Listed Symbols Switches ts → HaveLocalsInside ts → AreStatements ts
    statements no_trees h k = tt
    statements (tree t ts) h k = (statement t h.0 k.0, followed t ts h.1, statements ts h.2 k.1)

    cases_of : (ts : Trees) → AreFormedCases ⊥ Listed Symbols Switches ts → HaveLocalsInside ts → AreCases ts
    cases_of no_trees h k = tt
    cases_of (tree (Case value body) ts) h k = (case_no_method value h.0, statements body h.1 k.0, cases_of ts h.2 k.1)
    cases_of (tree (Default body) no_trees) h k = (statements body h k.0, tt)
    cases_of (tree (Default body) (tree t ts)) h k = absurd h
    cases_of (tree _ ts) h k = absurd h

  pub unswitchable : (program : Trees) → AreFormed ⊥ Listed Symbols Switches program → HaveLocals program → IsUnswitchable program
  unswitchable program h k = (k.0, statements program h k.1)
