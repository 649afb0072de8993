-- Terms that are formed are whole.
use Rattle.std.proofs.Common.{◌≡◌, true, List, [], ◌∷◌}
use Rattle.acpi_values.specs.Operators.{Letter, Valued, Kept, Placed, Used, Row, row_of}
use Rattle.acpi_values.specs.Operators as L
use Rattle.acpi_state.specs.FieldActs.{region_letters, field_letters}
use Rattle.asl_meaning.specs.Meaning.{SpotForm, OfResult, OfInside, NoSpot, spot_form}
use Rattle.asl_tree.specs.FieldItems.{FieldItem}
use Rattle.asl_tree.specs.Tree.{Tree, Integer, Constant, String, InSlot, Debug, Raw, Omitted, Use, Call, Apply, Operated, Assigned, AssignedBy, Buffer, Package, VarPackage, CondRefOf, Return, Name, Method, Container', Scope}
use Rattle.asl_tree.specs.Tree.{If, ElseIf, Else, While, For, Print, Switch, Case, Default, OperationRegion, BankField, CreateField, Misshapen, UnitName, Trees, no_trees, tree}
use Rattle.aml_sessions.specs.Ready.{is_expression, SpotReady}
use Rattle.named_sessions.specs.Shaped.{LetterShaped, ElementShaped, EffectShaped, IsNumber, IsCaseMember, AreCaseMembers, HaveCaseMembers, IsCaseValue, IsFormed, IsFormedSpot, IsFormedAlone, AreFormedOperands, AreFormedSpots}
use Rattle.named_sessions.specs.Shaped.{AreFormedValues, AreFormedElements, AreFormed, AreFormedCases}
use Rattle.core_nodes.specs.Whole.{IsWhole, AreWhole}

-- ---- what a Case compares with

number_whole : (t : Tree) → IsNumber t → IsWhole t
number_whole (Integer number) h = tt
number_whole _ h = absurd h

member_whole : (t : Tree) → IsCaseMember t → IsWhole t
member_whole (Integer number) h = tt
member_whole (Constant literal) h = tt
member_whole (String text) h = tt
member_whole (Buffer size bytes) h = number_whole size h
member_whole _ h = absurd h

members_whole : (ts : Trees) → AreCaseMembers ts → AreWhole ts
members_whole no_trees h = tt
members_whole (tree t ts) h = (member_whole t h.0, members_whole ts h.1)

some_whole : (ts : Trees) → HaveCaseMembers ts → AreWhole ts
some_whole no_trees h = absurd h
some_whole (tree t ts) h = members_whole (tree t ts) h

case_whole : (t : Tree) → IsCaseValue t → IsWhole t
case_whole (Package n members) h = some_whole members h
case_whole (VarPackage size members) h = (number_whole size h.0, some_whole members h.1)
case_whole t h = member_whole t h

-- ---- terms

spot_parts : (C : Type 0) (form : SpotForm) (result inside : Type 0) → (result → C) → (inside → C) → SpotReady form result inside → C
spot_parts C OfResult result inside f g h = f h
spot_parts C OfInside result inside f g h = g h
spot_parts C NoSpot result inside f g h = absurd h

module _ (Forms : Type 0) (Listed : List (FieldItem UnitName) → Type 0) (Symbols Switches : Type 0) where
  abbrev Formed : Tree → Type 0
  Formed = IsFormed Forms Listed Symbols Switches

  abbrev Spot : Tree → Type 0
  Spot = IsFormedSpot Forms Listed Symbols Switches

  letter_whole : (letter : Letter) (t : Tree) → (Formed t → IsWhole t) → (Spot t → IsWhole t) → LetterShaped letter t ((is_expression t ≡ true) × Formed t) (Spot t) → IsWhole t
  letter_whole Valued t f g h = f h.1
  letter_whole Kept t f g h = f h.1
  letter_whole Placed t f g h = g h
  letter_whole Used (Use at name) f g h = tt
  letter_whole Used t f g h = absurd h
  letter_whole (L.Raw size) (Raw other number) f g h = tt
  letter_whole (L.Raw size) t f g h = absurd h

  element_whole : (t : Tree) → (Formed t → IsWhole t) → ElementShaped t (Formed t) → IsWhole t
  element_whole (Use at name) f h = tt
  element_whole t f h = f h.1

  effect_whole : (t : Tree) → (Formed t → IsWhole t) → EffectShaped t (Formed t) → IsWhole t
  effect_whole Omitted f h = tt
  effect_whole t f h = f h.1

  mutual
    term_whole : (t : Tree) → IsFormed Forms Listed Symbols Switches t → IsWhole t
    term_whole (Call at name args) h = values_whole args h.1
    term_whole (Apply op args targets) h = (operands_whole (row_of op).operands args h.1, spots_whole targets h.3)
    term_whole (Operated op args) h = operands_whole (row_of op).operands args h.2
    term_whole (Assigned target value) h = (spot_whole target h.1, term_whole value h.3)
    term_whole (AssignedBy op target value) h = (term_whole target h.3, term_whole value h.5)
    term_whole (Buffer size bytes) h = term_whole size h.1
    term_whole (Package n elements) h = elements_whole elements h.1
    term_whole (VarPackage size elements) h = (term_whole size h.1, elements_whole elements h.2)
    term_whole (CondRefOf place target) h = (spot_whole place h.0, spot_whole target h.1)
    term_whole (Return value) h = term_whole value h.1
    term_whole (Name at name value) h = term_whole value h.2
    term_whole (Method at name flags body) h = formed_whole body h.2
    term_whole (Container' kind at name body) h = formed_whole body h.2
    term_whole (Scope here at name body) h = formed_whole body h.1
    term_whole (If test body) h = (term_whole test h.1, formed_whole body h.2)
    term_whole (ElseIf test body) h = (term_whole test h.1, formed_whole body h.2)
    term_whole (Else body) h = formed_whole body h
    term_whole (While test body) h = (term_whole test h.1, formed_whole body h.2)
    term_whole (For start test step body) h = (effect_whole start (term_whole start) h.1, term_whole test h.3, effect_whole step (term_whole step) h.4, formed_whole body h.5)
    term_whole (Print place format args) h = (spot_whole place h.1, values_whole args h.3)
    term_whole (Switch value cases) h = (term_whole value h.2, cases_whole cases h.3)
    term_whole (OperationRegion at name space args) h = operands_whole region_letters args h.2
    term_whole (BankField here from region to bank value flags items) h = term_whole value h.3
    term_whole (CreateField form args at name) h = operands_whole (field_letters form) args h.0
    term_whole (Case value body) h = absurd h
    term_whole (Default body) h = absurd h
    term_whole Misshapen h = h
    term_whole _ h = tt

    spot_whole : (t : Tree) → IsFormedSpot Forms Listed Symbols Switches t → IsWhole t
    spot_whole (Apply op args targets) h =
        spot_parts (AreWhole args × AreWhole targets) (spot_form op) _ _ (λ r. (operands_whole (row_of op).operands args r.0, spots_whole targets r.2)) (λ r. alone_whole args targets r) h.1
    spot_whole (Operated op args) h = spot_parts (AreWhole args) (spot_form op) _ _ (λ r. operands_whole (row_of op).operands args r) (λ r. absurd r) h.2
    spot_whole Omitted h = tt
    spot_whole Debug h = tt
    spot_whole (InSlot slot) h = tt
    spot_whole (Use at name) h = tt
    spot_whole _ h = absurd h

    alone_whole : (args targets : Trees) → IsFormedAlone Forms Listed Symbols Switches args targets → AreWhole args × AreWhole targets
    alone_whole (tree t no_trees) no_trees h = ((term_whole t h.1, tt), tt)
    alone_whole _ _ h = absurd h

    operands_whole : (letters : List Letter) (ts : Trees) → AreFormedOperands Forms Listed Symbols Switches letters ts → AreWhole ts
    operands_whole [] no_trees h = tt
    operands_whole (letter ∷ letters) (tree t ts) h = (letter_whole letter t (term_whole t) (spot_whole t) h.0, operands_whole letters ts h.1)
    operands_whole _ _ h = absurd h

    spots_whole : (ts : Trees) → AreFormedSpots Forms Listed Symbols Switches ts → AreWhole ts
    spots_whole no_trees h = tt
    spots_whole (tree t ts) h = (spot_whole t h.0, spots_whole ts h.1)

    values_whole : (ts : Trees) → AreFormedValues Forms Listed Symbols Switches ts → AreWhole ts
    values_whole no_trees h = tt
    values_whole (tree t ts) h = (term_whole t h.1, values_whole ts h.2)

    elements_whole : (ts : Trees) → AreFormedElements Forms Listed Symbols Switches ts → AreWhole ts
    elements_whole no_trees h = tt
    elements_whole (tree t ts) h = (element_whole t (term_whole t) h.0, elements_whole ts h.1)

    -- terms one after another
    pub formed_whole : (ts : Trees) → AreFormed Forms Listed Symbols Switches ts → AreWhole ts
    formed_whole no_trees h = tt
    formed_whole (tree t ts) h = (term_whole t h.0, formed_whole ts h.2)

    cases_whole : (ts : Trees) → AreFormedCases Forms Listed Symbols Switches ts → AreWhole ts
    cases_whole no_trees h = tt
    cases_whole (tree (Case value body) ts) h = ((case_whole value h.0, formed_whole body h.1), cases_whole ts h.2)
    cases_whole (tree (Default body) no_trees) h = (formed_whole body h, tt)
    cases_whole (tree _ _) h = absurd h
