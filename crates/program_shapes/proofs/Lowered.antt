-- A formed source, with its symbols named, is formed without them.
use Rattle.std.proofs.Common.{◌≡◌, ℕ, zero, suc, Bool, true, false, List, [], ◌∷◌, Some, None, refl, sym, ap, ◌∙◌, subst}
use Rattle.std.specs.Prelude.{if◌then◌else◌}
use Rattle.acpi_values.specs.declared.operator.Plain.{Plain}
use Rattle.acpi_values.specs.Operators.{Letter, Valued, Kept, Placed, Used, row_of}
use Rattle.acpi_values.specs.Operators as L
use Rattle.acpi_state.specs.FieldActs.{region_letters, field_letters}
use Rattle.asl_meaning.specs.Meaning.{SpotForm, OfResult, OfInside, NoSpot, spot_form, target_operator}
use Rattle.asl_tree.specs.declared.term.Compound.{Compound}
use Rattle.asl_tree.specs.FieldItems.{FieldItem}
use Rattle.asl_tree.specs.Symbols.{compound_operator, takes_target}
use Rattle.asl_tree.specs.Tree.{Tree, Integer, Constant, String, InSlot, Debug, Omitted, Raw, Use, Call, Apply, Buffer, Package, VarPackage, CondRefOf, Return, Name, Alias, External, Method, Mutex, Event, Container', Scope, Fill, Misshapen}
use Rattle.asl_tree.specs.Tree.{Operated, Assigned, AssignedBy, Trees, no_trees, tree, count, OperationRegion, Field, IndexField, BankField, CreateField, UnitName, If, ElseIf, Else, While, Break, Continue, Item, Switch, Case, Default, For, Print}
use Rattle.aml_meaning.specs.Codes.{HasOwnCode}
use Rattle.aml_sessions.specs.Ready.{is_expression, SpotReady}
use Rattle.asl_lower.specs.Nodes.{given, last_target, applied, assigned, assigned_by, named, inner_args, named_all}
use Rattle.asl_lower.proofs.Declared.{count_args}
use Rattle.asl_lower.proofs.Named.{compound_letters}
use Rattle.named_sessions.specs.Shaped.{LetterShaped, ElementShaped, IsFormed, IsFormedSpot, IsFormedAlone, AreFormedOperands, AreFormedSpots, AreFormedValues, AreFormedElements, AreFormed, AreFormedCases, IsNumber, IsCaseMember, AreCaseMembers, HaveCaseMembers, IsCaseValue, StartsNoElse, IsFollowed}

last_count : (n : ℕ) (target : Tree) → count (last_target n target) ≡ n
last_count zero target = refl
last_count (suc zero) target = refl
last_count (suc (suc n)) target = ap suc (last_count (suc n) target)

own_code : (op : Compound) → HasOwnCode (compound_operator op)
own_code Compound.Add = tt
own_code Compound.Subtract = tt
own_code Compound.Multiply = tt
own_code Compound.Divide = tt
own_code Compound.Mod = tt
own_code Compound.ShiftLeft = tt
own_code Compound.ShiftRight = tt
own_code Compound.And = tt
own_code Compound.Or = tt
own_code Compound.Xor = tt

-- what has a value is not left out
given_value : (t : Tree) → is_expression t ≡ true → given t ≡ t
given_value Omitted e = absurd cc
given_value _ e = refl

never : {A : Type 0} → false ≡ true → A
never e = absurd cc

spot_by : (form : SpotForm) (R I R' I' : Type 0) → (R → R') → (I → I') → SpotReady form R I → SpotReady form R' I'
spot_by OfResult R I R' I' r i h = r h
spot_by OfInside R I R' I' r i h = i h
spot_by NoSpot R I R' I' r i h = h

-- without Fors and what prints, whatever is asked of the lists of fields, with Switches or without
module _ (Listed : List (FieldItem UnitName) → Type 0) (Switches : Type 0) where
  abbrev Source : Tree → Type 0
  Source = IsFormed ⊥ Listed (Unit {0}) Switches

  abbrev SourceSpot : Tree → Type 0
  SourceSpot = IsFormedSpot ⊥ Listed (Unit {0}) Switches

  abbrev SourceOperands : List Letter → Trees → Type 0
  SourceOperands = AreFormedOperands ⊥ Listed (Unit {0}) Switches

  abbrev Core : Tree → Type 0
  Core = IsFormed ⊥ Listed ⊥ Switches

  abbrev CoreSpot : Tree → Type 0
  CoreSpot = IsFormedSpot ⊥ Listed ⊥ Switches

  abbrev CoreOperands : List Letter → Trees → Type 0
  CoreOperands = AreFormedOperands ⊥ Listed ⊥ Switches

  -- a term that has a value, and is formed
  abbrev CoreValue : Tree → Type 0
  CoreValue t = (is_expression t ≡ true) × Core t

  last_spots : (n : ℕ) (target : Tree) → CoreSpot target → AreFormedSpots ⊥ Listed ⊥ Switches (last_target n target)
  last_spots zero target h = tt
  last_spots (suc zero) target h = (h, tt)
  last_spots (suc (suc n)) target h = (tt, last_spots (suc n) target h)

  applied_formed : (op : Plain) (args : Trees) (target : Tree) → HasOwnCode op → CoreOperands (row_of op).operands args → CoreSpot target → Core (applied op args target)
  applied_formed op args target own all h = (own, all, last_count (row_of op).targets target, last_spots (row_of op).targets target h)

  given_formed : (t : Tree) → CoreValue t → CoreValue (given t)
  given_formed t h = subst CoreValue (sym (given_value t h.0)) h

  -- Store (E, X)
  stored : (target value : Tree) → CoreSpot target → CoreValue value → Core (assigned None no_trees target value)
  stored target value h v = (tt, (given_formed value v, (h, tt)), refl, tt)

  by_operator : (op : Compound) (target value : Tree) → CoreSpot target → CoreValue target → CoreValue value → Core (assigned_by op target value)
  by_operator op target value spot h v =
      applied_formed (compound_operator op) (tree (given target) (tree (given value) no_trees)) target (own_code op)
      (subst (λ letters. CoreOperands letters (tree (given target) (tree (given value) no_trees))) (sym (compound_letters op)) (given_formed target h, (given_formed value v, tt))) spot

  letter_named : (letter : Letter) (t : Tree) → (is_expression t ≡ true → Source t → CoreValue (named t)) → (SourceSpot t → CoreSpot (named t))
      → LetterShaped letter t ((is_expression t ≡ true) × Source t) (SourceSpot t) → LetterShaped letter (named t) (CoreValue (named t)) (CoreSpot (named t))
  letter_named Valued t value spot h = value h.0 h.1
  letter_named Kept t value spot h = value h.0 h.1
  letter_named Placed t value spot h = spot h
  letter_named Used (Use at name) value spot h = h
  letter_named Used _ value spot h = absurd h
  letter_named (L.Raw size) (Raw other number) value spot h = h
  letter_named (L.Raw size) _ value spot h = absurd h

  operated_spot : (op : Plain) (args : Trees) → (SourceOperands (row_of op).operands args → CoreOperands (row_of op).operands (named_all args))
      → SourceSpot (Operated op args) → CoreSpot (applied op (named_all args) Omitted)
  operated_spot op args all h = (
    h.1,
    spot_by (spot_form op) (SourceOperands (row_of op).operands args) ⊥
        (CoreOperands (row_of op).operands (named_all args) × (count (last_target (row_of op).targets Omitted) ≡ (row_of op).targets) × AreFormedSpots ⊥ Listed ⊥ Switches (last_target (row_of op).targets Omitted))
        (IsFormedAlone ⊥ Listed ⊥ Switches (named_all args) (last_target (row_of op).targets Omitted))
        (λ r. (all r, last_count (row_of op).targets Omitted, last_spots (row_of op).targets Omitted tt)) (λ i. absurd i) h.2,
  )

  -- `X = E`, where E is no operator that takes X as its target
  assigned_formed : (target value : Tree) → CoreSpot (named target) → CoreValue (named value) → ((op : Plain) (args : Trees) → value ≡ Operated op args → HasOwnCode op × CoreOperands (row_of op).operands (named_all args))
      → Core (assigned (target_operator value) (inner_args value) (named target) (named value))
  assigned_formed target (Operated op args) h v inner = by (takes_target op) (inner op args refl)
    where
      by : (b : Bool) → HasOwnCode op × CoreOperands (row_of op).operands (named_all args) → Core (assigned (if b then Some op else None) (named_all args) (named target) (named (Operated op args)))
      by true i = (i.0, i.1, last_count (row_of op).targets (named target), last_spots (row_of op).targets (named target) h)
      by false i = stored (named target) (named (Operated op args)) h v
  assigned_formed target value h v inner = stored (named target) (named value) h v

  abbrev InnerFormed : Tree → Type 0
  InnerFormed (Operated op args) = HasOwnCode op × CoreOperands (row_of op).operands (named_all args)
  InnerFormed _ = Unit {0}

  mutual
    value_named : (t : Tree) → is_expression t ≡ true → Source t → CoreValue (named t)
    value_named (Integer number) e h = (refl, h)
    value_named (Constant literal) e h = (refl, h)
    value_named (String text) e h = (refl, h)
    value_named (InSlot slot) e h = (refl, h)
    value_named Debug e h = (refl, h)
    value_named (Use at name) e h = (refl, h)
    value_named (Call at name args) e h = (refl, (h.0, values_named args h.1))
    value_named (Apply op args targets) e h = (refl, (h.0, operands_named (row_of op).operands args h.1, count_args targets ∙ h.2, spots_named targets h.3))
    value_named (Operated op args) e h = (refl, applied_formed op (named_all args) Omitted h.1 (operands_named (row_of op).operands args h.2) tt)
    value_named (Assigned target value) e h =
        (refl, assigned_formed target value (spot_named target h.1) (value_named value h.2 h.3) (λ op args is. inner_named value op args is h.3))
    value_named (AssignedBy op target value) e h =
        (refl, by_operator op (named target) (named value) (spot_named target h.1) (value_named target h.2 h.3) (value_named value h.4 h.5))
    value_named (Buffer size bytes) e h = (refl, value_named size h.0 h.1)
    value_named (Package n elements) e h = (refl, (h.0, elements_named elements h.1))
    value_named (VarPackage size elements) e h = let s = value_named size h.0 h.1 in (refl, (s.0, s.1, elements_named elements h.2))
    value_named (CondRefOf place target) e h = (refl, (spot_named place h.0, spot_named target h.1))
    value_named _ e h = absurd cc

    inner_named : (value : Tree) (op : Plain) (args : Trees) → value ≡ Operated op args → Source value → HasOwnCode op × CoreOperands (row_of op).operands (named_all args)
    inner_named (Operated op args) op' args' is h = subst InnerFormed is (h.1, operands_named (row_of op).operands args h.2)
    inner_named _ op args is h = absurd cc

    spot_named : (t : Tree) → SourceSpot t → CoreSpot (named t)
    spot_named Omitted h = tt
    spot_named Debug h = tt
    spot_named (InSlot slot) h = h
    spot_named (Use at name) h = h
    spot_named (Apply op args targets) h = (
      h.0,
      spot_by (spot_form op) (SourceOperands (row_of op).operands args × (count targets ≡ (row_of op).targets) × AreFormedSpots ⊥ Listed (Unit {0}) Switches targets) (IsFormedAlone ⊥ Listed (Unit {0}) Switches args targets)
          (CoreOperands (row_of op).operands (named_all args) × (count (named_all targets) ≡ (row_of op).targets) × AreFormedSpots ⊥ Listed ⊥ Switches (named_all targets)) (IsFormedAlone ⊥ Listed ⊥ Switches (named_all args) (named_all targets))
          (λ r. (operands_named (row_of op).operands args r.0, count_args targets ∙ r.1, spots_named targets r.2)) (λ i. alone_named args targets i) h.1,
    )
    spot_named (Operated op args) h = operated_spot op args (λ k. operands_named (row_of op).operands args k) h
    spot_named _ h = absurd h

    alone_named : (args targets : Trees) → IsFormedAlone ⊥ Listed (Unit {0}) Switches args targets → IsFormedAlone ⊥ Listed ⊥ Switches (named_all args) (named_all targets)
    alone_named (tree t no_trees) no_trees h = value_named t h.0 h.1
    alone_named no_trees targets h = absurd h
    alone_named (tree t no_trees) (tree u us) h = absurd h
    alone_named (tree t (tree v vs)) targets h = absurd h

    operands_named : (letters : List Letter) (ts : Trees) → SourceOperands letters ts → CoreOperands letters (named_all ts)
    operands_named [] no_trees h = tt
    operands_named [] (tree t ts) h = absurd h
    operands_named (letter ∷ letters) no_trees h = absurd h
    operands_named (letter ∷ letters) (tree t ts) h = (letter_named letter t (λ e k. value_named t e k) (λ k. spot_named t k) h.0, operands_named letters ts h.1)

    spots_named : (ts : Trees) → AreFormedSpots ⊥ Listed (Unit {0}) Switches ts → AreFormedSpots ⊥ Listed ⊥ Switches (named_all ts)
    spots_named no_trees h = tt
    spots_named (tree t ts) h = (spot_named t h.0, spots_named ts h.1)

    values_named : (ts : Trees) → AreFormedValues ⊥ Listed (Unit {0}) Switches ts → AreFormedValues ⊥ Listed ⊥ Switches (named_all ts)
    values_named no_trees h = tt
    values_named (tree t ts) h = let v = value_named t h.0 h.1 in (v.0, v.1, values_named ts h.2)

    element_named : (t : Tree) → ElementShaped t (Source t) → ElementShaped (named t) (Core (named t))
    element_named (Use at name) h = h
    element_named (Integer number) h = h
    element_named (Constant literal) h = h
    element_named (String text) h = h
    element_named (Buffer size bytes) h = (refl, value_named size h.1.0 h.1.1)
    element_named (Package n elements) h = (refl, (h.1.0, elements_named elements h.1.1))
    element_named (VarPackage size elements) h = let s = value_named size h.1.0 h.1.1 in (refl, (s.0, s.1, elements_named elements h.1.2))
    element_named _ h = never h.0

    elements_named : (ts : Trees) → AreFormedElements ⊥ Listed (Unit {0}) Switches ts → AreFormedElements ⊥ Listed ⊥ Switches (named_all ts)
    elements_named no_trees h = tt
    elements_named (tree t ts) h = (element_named t h.0, elements_named ts h.1)

  -- what stands behind a Switch
  no_else_named : (ts : Trees) → StartsNoElse ts → StartsNoElse (named_all ts)
  no_else_named no_trees h = tt
  no_else_named (tree (Else body) ts) h = absurd h
  no_else_named (tree (ElseIf test body) ts) h = absurd h
  no_else_named (tree _ ts) h = tt

  -- what a Case compares with has no symbols
  number_named : (t : Tree) → IsNumber t → IsNumber (named t)
  number_named (Integer number) h = h
  number_named _ h = absurd h

  member_named : (t : Tree) → IsCaseMember t → IsCaseMember (named t)
  member_named (Integer number) h = h
  member_named (Constant literal) h = h
  member_named (String text) h = h
  member_named (Buffer size bytes) h = number_named size h
  member_named _ h = absurd h

  members_named : (ts : Trees) → AreCaseMembers ts → AreCaseMembers (named_all ts)
  members_named no_trees h = tt
  members_named (tree t ts) h = (member_named t h.0, members_named ts h.1)

  some_named : (ts : Trees) → HaveCaseMembers ts → HaveCaseMembers (named_all ts)
  some_named no_trees h = h
  some_named (tree t ts) h = members_named (tree t ts) h

  case_named : (t : Tree) → IsCaseValue t → IsCaseValue (named t)
  case_named (Package n members) h = some_named members h
  case_named (VarPackage size members) h = (number_named size h.0, some_named members h.1)
  case_named (Integer number) h = h
  case_named (Constant literal) h = h
  case_named (String text) h = h
  case_named (Buffer size bytes) h = number_named size h
  case_named _ h = absurd h

  followed_named : (t : Tree) (ts : Trees) → IsFollowed t ts → IsFollowed (named t) (named_all ts)
  followed_named (Switch value cases) ts h = no_else_named ts h
  followed_named _ ts h = tt

  mutual
    term_named : (t : Tree) → Source t → Core (named t)
    term_named (ElseIf test body) h = let v = value_named test h.0 h.1 in (v.0, v.1, all_named body h.2)
    term_named (For start test step body) h = absurd h.0
    term_named (Print place format args) h = absurd h.0
    term_named (Switch value cases) h = let v = value_named value h.1 h.2 in (h.0, v.0, v.1, cases_named cases h.3)
    term_named (Case value body) h = absurd h
    term_named (Default body) h = absurd h
    term_named (Return value) h = value_named value h.0 h.1
    term_named (Name at name value) h = let v = value_named value h.1 h.2 in (h.0, v.0, v.1)
    term_named (Alias from source at name) h = h
    term_named (External here at name type parameters) h = h
    term_named (Method at name flags body) h = (h.0, h.1, all_named body h.2)
    term_named (Mutex at name level) h = h
    term_named (Event at name) h = h
    term_named (Container' kind at name body) h = (h.0, h.1, all_named body h.2)
    term_named (Scope here at name body) h = (h.0, all_named body h.1)
    term_named (If test body) h = let v = value_named test h.0 h.1 in (v.0, v.1, all_named body h.2)
    term_named (Else body) h = all_named body h
    term_named (While test body) h = let v = value_named test h.0 h.1 in (v.0, v.1, all_named body h.2)
    term_named Break h = tt
    term_named Continue h = tt
    term_named (OperationRegion at name space args) h = (h.0, h.1, operands_named region_letters args h.2)
    term_named (Field here from region flags items) h = h
    term_named (IndexField here from index to register flags items) h = h
    term_named (BankField here from region to bank value flags items) h = let v = value_named value h.2 h.3 in (h.0, h.1, v.0, v.1, h.4, h.5)
    term_named (CreateField form args at name) h = (operands_named (field_letters form) args h.0, h.1)
    term_named Omitted h = absurd h
    term_named (Raw size number) h = absurd h
    term_named (Item item) h = absurd h
    term_named (Fill bytes) h = absurd h
    term_named Misshapen h = absurd h
    term_named (Integer number) h = h
    term_named (Constant literal) h = h
    term_named (String text) h = h
    term_named (InSlot slot) h = h
    term_named Debug h = h
    term_named (Use at name) h = h
    term_named (Call at name args) h = (value_named (Call at name args) refl h).1
    term_named (Apply op args targets) h = (value_named (Apply op args targets) refl h).1
    term_named (Operated op args) h = (value_named (Operated op args) refl h).1
    term_named (Assigned target value) h = (value_named (Assigned target value) refl h).1
    term_named (AssignedBy op target value) h = (value_named (AssignedBy op target value) refl h).1
    term_named (Buffer size bytes) h = (value_named (Buffer size bytes) refl h).1
    term_named (Package n elements) h = (value_named (Package n elements) refl h).1
    term_named (VarPackage size elements) h = (value_named (VarPackage size elements) refl h).1
    term_named (CondRefOf place target) h = (value_named (CondRefOf place target) refl h).1

    pub all_named : (ts : Trees) → AreFormed ⊥ Listed (Unit {0}) Switches ts → AreFormed ⊥ Listed ⊥ Switches (named_all ts)
    all_named no_trees h = tt
    all_named (tree t ts) h = (term_named t h.0, followed_named t ts h.1, all_named ts h.2)

    cases_named : (ts : Trees) → AreFormedCases ⊥ Listed (Unit {0}) Switches ts → AreFormedCases ⊥ Listed ⊥ Switches (named_all ts)
    cases_named no_trees h = tt
    cases_named (tree (Case value body) ts) h = (case_named value h.0, all_named body h.1, cases_named ts h.2)
    cases_named (tree (Default body) no_trees) h = all_named body h
    cases_named (tree _ _) h = absurd h
