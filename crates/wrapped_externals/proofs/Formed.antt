-- A formed program is formed with its Externals in Ifs.
use Rattle.std.proofs.Common.{◌≡◌, ℕ, Bool, true, false, List, [], ◌∷◌, refl, ◌∙◌}
use Rattle.acpi_values.specs.declared.operator.Plain.{Plain}
use Rattle.acpi_values.specs.Operators.{Letter, Valued, Kept, Placed, Used, Row, row_of}
use Rattle.acpi_values.specs.Operators as L
use Rattle.acpi_state.specs.FieldActs.{region_letters, field_letters}
use Rattle.asl_meaning.specs.Meaning.{SpotForm, OfResult, OfInside, NoSpot, spot_form}
use Rattle.asl_tree.specs.FieldItems.{FieldItem}
use Rattle.asl_tree.specs.Tree.{Tree, Integer, Constant, String, Raw, Use, Call, Apply, Buffer, Package, VarPackage, CondRefOf, Return, Name, External, Method, Container', Scope, If, ElseIf, Else, While, For, Print, OperationRegion, BankField, CreateField, UnitName, Operated, Assigned, AssignedBy, Trees, no_trees, tree, count, Switch, Case, Default}
use Rattle.aml_sessions.specs.Ready.{is_expression, RawReady, SpotReady, AreItems}
use Rattle.named_sessions.specs.Shaped.{UsedShaped, LetterShaped, ElementShaped, IsFormed, IsFormedSpot, IsFormedAlone, AreFormedOperands, AreFormedSpots, AreFormedValues, AreFormedElements, AreFormed, AreFormedCases, AreShaped, IsNumber, IsCaseMember, AreCaseMembers, HaveCaseMembers, IsCaseValue, StartsNoElse, IsFollowed}
use Rattle.wrapped_externals.specs.Wraps.{starts_branch, leading, in_if, guarded, wrapped, wrapped_args, behind, wrapped_all}
use Rattle.asl_lower.specs.Nests.{joined}
use Rattle.wrapped_externals.proofs.Declared.{count_args}

never : {A : Type 0} → false ≡ true → A
never e = absurd cc

spot_by : (form : SpotForm) (R I R' I' : Type 0) → (R → R') → (I → I') → SpotReady form R I → SpotReady form R' I'
spot_by OfResult R I R' I' r i h = r h
spot_by OfInside R I R' I' r i h = i h
spot_by NoSpot R I R' I' r i h = h

-- whatever is asked of the lists of fields, and whether symbols and Switches may stand there or not
module _ (Listed : List (FieldItem UnitName) → Type 0) (Symbols Switches : Type 0) where
  abbrev F : Tree → Tree
  F = wrapped

  abbrev Fs : Trees → Trees
  Fs = wrapped_args

  abbrev Formed : Tree → Type 0
  Formed = IsFormed ⊥ Listed Symbols Switches

  abbrev Spot : Tree → Type 0
  Spot = IsFormedSpot ⊥ Listed Symbols Switches

  abbrev Spots : Trees → Type 0
  Spots = AreFormedSpots ⊥ Listed Symbols Switches

  abbrev Operands : List Letter → Trees → Type 0
  Operands = AreFormedOperands ⊥ Listed Symbols Switches

  abbrev Value : Tree → Type 0
  Value t = (is_expression t ≡ true) × Formed t

  expression_same : (t : Tree) → is_expression (F t) ≡ is_expression t
  expression_same (Call at name args) = refl
  expression_same _ = refl

  value_of : (t : Tree) → (Formed t → Formed (F t)) → Value t → Value (F t)
  value_of t go h = (expression_same t ∙ h.0, go h.1)

  used_shaped : (t : Tree) → UsedShaped t → UsedShaped (F t)
  used_shaped (Use at name) h = h
  used_shaped _ h = absurd h

  raw_shaped : (size : ℕ) (t : Tree) → RawReady size t → RawReady size (F t)
  raw_shaped size (Raw other number) h = h
  raw_shaped size _ h = absurd h

  letter_shaped : (letter : Letter) (t : Tree) → (Formed t → Formed (F t)) → (Spot t → Spot (F t)) → LetterShaped letter t (Value t) (Spot t) → LetterShaped letter (F t) (Value (F t)) (Spot (F t))
  letter_shaped Valued t value spot h = value_of t value h
  letter_shaped Kept t value spot h = value_of t value h
  letter_shaped Placed t value spot h = spot h
  letter_shaped Used t value spot h = used_shaped t h
  letter_shaped (L.Raw size) t value spot h = raw_shaped size t h

  -- the Externals that stand first, before other terms
  leading_formed : (ts : Trees) → AreFormed ⊥ Listed Symbols Switches ts → AreFormed ⊥ Listed Symbols Switches (leading ts)
  leading_formed no_trees h = tt
  leading_formed (tree (External here at name type parameters) ts) h = (h.0, tt, leading_formed ts h.2)
  leading_formed (tree _ ts) h = tt

  joined_formed : (ts us : Trees) → AreFormed ⊥ Listed Symbols Switches ts → AreFormed ⊥ Listed Symbols Switches us → AreFormed ⊥ Listed Symbols Switches (joined (leading ts) us)
  joined_formed no_trees us h k = k
  joined_formed (tree (External here at name type parameters) ts) us h k = (h.0, tt, joined_formed ts us h.2 k)
  joined_formed (tree _ ts) us h k = k

  guarded_formed : (ts us : Trees) → AreFormed ⊥ Listed Symbols Switches ts → AreFormed ⊥ Listed Symbols Switches us → AreFormed ⊥ Listed Symbols Switches (guarded (leading ts) us)
  guarded_formed no_trees us h k = k
  guarded_formed (tree (External here at name type parameters) ts) us h k = by_kept (starts_branch us)
    where
      by_kept : (kept : Bool) → AreFormed ⊥ Listed Symbols Switches (joined (in_if (tree (External here at name type parameters) (leading ts)) kept) us)
      by_kept true = (h.0, tt, joined_formed ts us h.2 k)
      by_kept false = ((refl, tt, (h.0, tt, leading_formed ts h.2)), tt, k)
  guarded_formed (tree _ ts) us h k = k

  -- what stands behind a Switch
  starts_no_else : (ts : Trees) → StartsNoElse ts → StartsNoElse (wrapped_all ts)
  starts_no_else no_trees h = tt
  starts_no_else (tree (Else body) ts) h = absurd h
  starts_no_else (tree (ElseIf test body) ts) h = absurd h
  starts_no_else (tree (External here at name type parameters) ts) h = by_kept (starts_branch (behind ts))
    where
      by_kept : (kept : Bool) → StartsNoElse (joined (in_if (tree (External here at name type parameters) (leading ts)) kept) (behind ts))
      by_kept true = tt
      by_kept false = tt
  starts_no_else (tree _ ts) h = tt

  wrapped_followed : (t : Tree) (ts : Trees) → IsFollowed t ts → IsFollowed (wrapped t) (wrapped_all ts)
  wrapped_followed (Switch value cases) ts h = starts_no_else ts h
  wrapped_followed _ ts h = tt

  -- what a Case compares with; its size stays a number
  number_formed : (t : Tree) → IsNumber t → IsNumber (F t)
  number_formed (Integer n) h = h
  number_formed _ h = absurd h

  member_formed : (t : Tree) → IsCaseMember t → IsCaseMember (F t)
  member_formed (Integer n) h = h
  member_formed (Constant literal) h = h
  member_formed (String text) h = h
  member_formed (Buffer size bytes) h = number_formed size h
  member_formed _ h = absurd h

  members_formed : (ts : Trees) → AreCaseMembers ts → AreCaseMembers (Fs ts)
  members_formed no_trees h = tt
  members_formed (tree t ts) h = (member_formed t h.0, members_formed ts h.1)

  some_formed : (ts : Trees) → HaveCaseMembers ts → HaveCaseMembers (Fs ts)
  some_formed no_trees h = h
  some_formed (tree t ts) h = members_formed (tree t ts) h

  case_formed : (t : Tree) → IsCaseValue t → IsCaseValue (F t)
  case_formed (Package n members) h = some_formed members h
  case_formed (VarPackage size members) h = (number_formed size h.0, some_formed members h.1)
  case_formed (Integer n) h = h
  case_formed (Constant literal) h = h
  case_formed (String text) h = h
  case_formed (Buffer size bytes) h = number_formed size h
  case_formed _ h = absurd h

  ready_spot : (op : Plain) (args targets : Trees) → (Operands (row_of op).operands args → Operands (row_of op).operands (Fs args)) → (Spots targets → Spots (Fs targets))
      → (IsFormedAlone ⊥ Listed Symbols Switches args targets → IsFormedAlone ⊥ Listed Symbols Switches (Fs args) (Fs targets))
      → SpotReady (spot_form op) (Operands (row_of op).operands args × (count targets ≡ (row_of op).targets) × Spots targets) (IsFormedAlone ⊥ Listed Symbols Switches args targets)
      → SpotReady (spot_form op) (Operands (row_of op).operands (Fs args) × (count (Fs targets) ≡ (row_of op).targets) × Spots (Fs targets)) (IsFormedAlone ⊥ Listed Symbols Switches (Fs args) (Fs targets))
  ready_spot op args targets operands spots alone h =
      spot_by (spot_form op) (Operands (row_of op).operands args × (count targets ≡ (row_of op).targets) × Spots targets) (IsFormedAlone ⊥ Listed Symbols Switches args targets)
      (Operands (row_of op).operands (Fs args) × (count (Fs targets) ≡ (row_of op).targets) × Spots (Fs targets)) (IsFormedAlone ⊥ Listed Symbols Switches (Fs args) (Fs targets))
      (λ r. (operands r.0, count_args targets ∙ r.1, spots r.2)) alone h

  all_by : (ts : Trees) → AreFormed ⊥ Listed Symbols Switches ts → AreFormed ⊥ Listed Symbols Switches (behind ts) → AreFormed ⊥ Listed Symbols Switches (wrapped_all ts)
  all_by ts h k = guarded_formed ts (behind ts) h k

  mutual
    formed : (t : Tree) → Formed t → Formed (wrapped t)
    formed (Call at name args) h = (h.0, values_formed args h.1)
    formed (Apply op args targets) h = (h.0, operands_formed (row_of op).operands args h.1, count_args targets ∙ h.2, spots_formed targets h.3)
    formed (Operated op args) h = (h.0, h.1, operands_formed (row_of op).operands args h.2)
    formed (Assigned target value) h = (h.0, spot_formed target h.1, expression_same value ∙ h.2, formed value h.3)
    formed (AssignedBy op target value) h = (h.0, spot_formed target h.1, expression_same target ∙ h.2, formed target h.3, expression_same value ∙ h.4, formed value h.5)
    formed (Buffer size bytes) h = value_of size (λ k. formed size k) h
    formed (Package n elements) h = (h.0, elements_formed elements h.1)
    formed (VarPackage size elements) h = (expression_same size ∙ h.0, formed size h.1, elements_formed elements h.2)
    formed (CondRefOf place target) h = (spot_formed place h.0, spot_formed target h.1)
    formed (Return value) h = value_of value (λ k. formed value k) h
    formed (Name at name value) h = (h.0, expression_same value ∙ h.1, formed value h.2)
    formed (Method at name flags body) h = (h.0, h.1, all_by body h.2 (behind_formed body h.2))
    formed (Container' kind at name body) h = (h.0, h.1, all_by body h.2 (behind_formed body h.2))
    formed (Scope here at name body) h = (h.0, all_by body h.1 (behind_formed body h.1))
    formed (If test body) h = (expression_same test ∙ h.0, formed test h.1, all_by body h.2 (behind_formed body h.2))
    formed (ElseIf test body) h = (expression_same test ∙ h.0, formed test h.1, all_by body h.2 (behind_formed body h.2))
    formed (Switch value cases) h = (h.0, expression_same value ∙ h.1, formed value h.2, cases_formed cases h.3)
    formed (Case value body) h = absurd h
    formed (Default body) h = absurd h
    formed (Else body) h = all_by body h (behind_formed body h)
    formed (While test body) h = (expression_same test ∙ h.0, formed test h.1, all_by body h.2 (behind_formed body h.2))
    formed (For start test step body) h = absurd h.0
    formed (Print place format args) h = absurd h.0
    formed (OperationRegion at name space args) h = (h.0, h.1, operands_formed region_letters args h.2)
    formed (BankField here from region to bank value flags items) h = (h.0, h.1, expression_same value ∙ h.2, formed value h.3, h.4, h.5)
    formed (CreateField form args at name) h = (operands_formed (field_letters form) args h.0, h.1)
    formed _ h = h

    spot_formed : (t : Tree) → Spot t → Spot (F t)
    spot_formed (Apply (Plain.Number op) args targets) h = absurd h.1
    spot_formed (Apply (Plain.Data op) args targets) h = (h.0, ready_spot (Plain.Data op) args targets (λ k. operands_formed (row_of (Plain.Data op)).operands args k) (λ k. spots_formed targets k) (λ k. alone_formed args targets k) h.1)
    spot_formed (Apply (Plain.Event op) args targets) h = (h.0, ready_spot (Plain.Event op) args targets (λ k. operands_formed (row_of (Plain.Event op)).operands args k) (λ k. spots_formed targets k) (λ k. alone_formed args targets k) h.1)
    spot_formed (Operated op args) h =
        (h.0, h.1, spot_by (spot_form op) (Operands (row_of op).operands args) ⊥ (Operands (row_of op).operands (Fs args)) ⊥ (λ k. operands_formed (row_of op).operands args k) (λ i. i) h.2)
    spot_formed (VarPackage size elements) h = absurd h
    spot_formed _ h = h

    alone_formed : (args targets : Trees) → IsFormedAlone ⊥ Listed Symbols Switches args targets → IsFormedAlone ⊥ Listed Symbols Switches (Fs args) (Fs targets)
    alone_formed (tree t no_trees) no_trees h = value_of t (λ k. formed t k) h
    alone_formed no_trees targets h = absurd h
    alone_formed (tree t no_trees) (tree u us) h = absurd h
    alone_formed (tree t (tree u us)) targets h = absurd h

    operands_formed : (letters : List Letter) (ts : Trees) → Operands letters ts → Operands letters (Fs ts)
    operands_formed [] no_trees h = tt
    operands_formed [] (tree t ts) h = absurd h
    operands_formed (letter ∷ letters) no_trees h = absurd h
    operands_formed (letter ∷ letters) (tree t ts) h = (letter_shaped letter t (λ k. formed t k) (λ k. spot_formed t k) h.0, operands_formed letters ts h.1)

    spots_formed : (ts : Trees) → Spots ts → Spots (Fs ts)
    spots_formed no_trees h = tt
    spots_formed (tree t ts) h = (spot_formed t h.0, spots_formed ts h.1)

    values_formed : (ts : Trees) → AreFormedValues ⊥ Listed Symbols Switches ts → AreFormedValues ⊥ Listed Symbols Switches (Fs ts)
    values_formed no_trees h = tt
    values_formed (tree t ts) h = (expression_same t ∙ h.0, formed t h.1, values_formed ts h.2)

    element_formed : (t : Tree) → ElementShaped t (Formed t) → ElementShaped (F t) (Formed (F t))
    element_formed (Use at name) h = h
    element_formed (Integer n) h = h
    element_formed (Constant literal) h = h
    element_formed (String text) h = h
    element_formed (Buffer size bytes) h = (refl, value_of size (λ k. formed size k) h.1)
    element_formed (Package n elements) h = (refl, (h.1.0, elements_formed elements h.1.1))
    element_formed (VarPackage size elements) h = (refl, (expression_same size ∙ h.1.0, formed size h.1.1, elements_formed elements h.1.2))
    element_formed _ h = never h.0

    elements_formed : (ts : Trees) → AreFormedElements ⊥ Listed Symbols Switches ts → AreFormedElements ⊥ Listed Symbols Switches (Fs ts)
    elements_formed no_trees h = tt
    elements_formed (tree t ts) h = (element_formed t h.0, elements_formed ts h.1)

    behind_formed : (ts : Trees) → AreFormed ⊥ Listed Symbols Switches ts → AreFormed ⊥ Listed Symbols Switches (behind ts)
    behind_formed no_trees h = tt
    behind_formed (tree (External here at name type parameters) ts) h = behind_formed ts h.2
    behind_formed (tree t ts) h = (formed t h.0, wrapped_followed t ts h.1, all_by ts h.2 (behind_formed ts h.2))

    cases_formed : (ts : Trees) → AreFormedCases ⊥ Listed Symbols Switches ts → AreFormedCases ⊥ Listed Symbols Switches (wrapped_all ts)
    cases_formed no_trees h = tt
    cases_formed (tree (Case value body) ts) h = (case_formed value h.0, all_by body h.1 (behind_formed body h.1), cases_formed ts h.2)
    cases_formed (tree (Default body) no_trees) h = all_by body h (behind_formed body h)
    cases_formed (tree _ _) h = absurd h

  pub all_formed : (ts : Trees) → AreFormed ⊥ Listed Symbols Switches ts → AreFormed ⊥ Listed Symbols Switches (wrapped_all ts)
  all_formed ts h = all_by ts h (behind_formed ts h)

-- what is formed is so with its Externals in Ifs
pub kept_formed : (Listed : List (FieldItem UnitName) → Type 0) (Symbols Switches : Type 0) (terms : Trees) → AreFormed ⊥ Listed Symbols Switches terms → AreFormed ⊥ Listed Symbols Switches (wrapped_all terms)
kept_formed Listed Symbols Switches terms h = all_formed Listed Symbols Switches terms h

-- and what may be written
pub kept_shaped : (terms : Trees) → AreShaped terms → AreShaped (wrapped_all terms)
kept_shaped terms h = kept_formed (AreItems 0) ⊥ ⊥ terms h
