-- A formed program with loops for its Switches may be written.
use Rattle.std.proofs.Common.{◌≡◌, ℕ, zero, suc, ◌<◌, Bool, true, false, List, [], ◌∷◌, refl, arith}
use Rattle.std.specs.Prelude.{if◌then◌else◌, filter, not}
use Rattle.acpi_values.specs.declared.operator.Plain.{Plain}
use Rattle.acpi_values.specs.declared.operator.IntOp.TheVariants as IntOp
use Rattle.acpi_values.specs.Operators.{Letter, Valued, Kept, Placed, Used, Row, row_of}
use Rattle.acpi_values.specs.Operators as L
use Rattle.acpi_state.specs.FieldActs.{region_letters, field_letters}
use Rattle.asl_meaning.specs.Meaning.{SpotForm, OfResult, OfInside, NoSpot, spot_form}
use Rattle.asl_tree.specs.FieldItems.{FieldItem}
use Rattle.asl_tree.specs.Tree.{Tree, Integer, Constant, String, InSlot, Debug, Omitted, Raw, Use, Call, Apply, Buffer, Package, VarPackage, CondRefOf, Return, Name, Alias, External, Method, Mutex, Event, Container', Scope, Fill, Misshapen}
use Rattle.asl_tree.specs.Tree.{Operated, Assigned, AssignedBy, Trees, no_trees, tree, count, OperationRegion, Field, IndexField, BankField, CreateField, UnitName, If, ElseIf, Else, While, For, Print, Break, Continue, Item, Switch, Case, Default}
use Rattle.aml_sessions.specs.Ready.{is_expression, SpotReady, AreItems}
use Rattle.named_sessions.specs.Shaped.{LetterShaped, ElementShaped, IsCaseMember, AreCaseMembers, HaveCaseMembers, IsCaseValue, IsFollowed, IsFormed, IsFormedSpot, IsFormedAlone, AreFormedOperands, AreFormedSpots, AreFormedValues, AreFormedElements, AreFormed, AreFormedCases, AreShaped}
use Rattle.hidden_locals.specs.Locals.{is_named, locals_all}
use Rattle.hidden_locals.specs.Crossing.{have_continue}
use Rattle.hidden_locals.specs.Turns.{Plan, others, nth, local, flag, value_local, zero_word, one_word, stored, equal, joined, test_of, then_trees, loop_of, loop_terms, continue_terms}
use Rattle.hidden_locals.specs.Switches.{plan_of, case_test, opened, unswitched, unswitched_all, links, default_link, without_switches}

-- ---- the Locals that are taken

-- there are eight
abbrev pub AreSmall : List ℕ → Type 0
AreSmall [] = Unit {0}
AreSmall (x ∷ xs) = (x < 8) × AreSmall xs

kept_small : (keep : ℕ → Bool) (xs : List ℕ) → AreSmall xs → AreSmall (filter keep xs)
kept_small keep [] h = tt
kept_small keep (x ∷ xs) h = by (keep x) (kept_small keep xs h.1)
  where
    by : (b : Bool) → AreSmall (filter keep xs) → AreSmall (if b then x ∷ filter keep xs else filter keep xs)
    by true k = (h.0, k)
    by false k = k

nth_small : (xs : List ℕ) → AreSmall xs → (i : ℕ) → nth xs i < 8
nth_small [] h i = omega arith
nth_small (x ∷ xs) h zero = h.0
nth_small (x ∷ xs) h (suc i) = nth_small xs h.1 i

abbrev TakesSmall : Plan → Type 0
TakesSmall plan = (i : ℕ) → nth plan.free i < 8

plan_small : (body : Trees) → TakesSmall (plan_of body)
plan_small body i =
    nth_small (others (locals_all body)) (kept_small (λ k. not (is_named (locals_all body) k)) (0 ∷ 1 ∷ 2 ∷ 3 ∷ 4 ∷ 5 ∷ 6 ∷ 7 ∷ [])
    (omega arith, (omega arith, (omega arith, (omega arith, (omega arith, (omega arith, (omega arith, (omega arith, tt))))))))) i

-- ---- what has no Switch in it

spot_by : (form : SpotForm) (R I R' I' : Type 0) → (R → R') → (I → I') → SpotReady form R I → SpotReady form R' I'
spot_by OfResult R I R' I' r i h = r h
spot_by OfInside R I R' I' r i h = i h
spot_by NoSpot R I R' I' r i h = h

never : {A : Type 0} → false ≡ true → A
never e = absurd cc

-- whatever is asked of the lists of fields, with symbols and Switches or without
module _ (Listed : List (FieldItem UnitName) → Type 0) (Symbols Switches : Type 0) where
  -- without Switches
  abbrev Loop : Tree → Type 0
  Loop = IsFormed ⊥ Listed Symbols ⊥

  abbrev LoopSpot : Tree → Type 0
  LoopSpot = IsFormedSpot ⊥ Listed Symbols ⊥

  letter_kept : (letter : Letter) (t : Tree) → (is_expression t ≡ true → IsFormed ⊥ Listed Symbols Switches t → Loop t) → (IsFormedSpot ⊥ Listed Symbols Switches t → LoopSpot t)
      → LetterShaped letter t ((is_expression t ≡ true) × IsFormed ⊥ Listed Symbols Switches t) (IsFormedSpot ⊥ Listed Symbols Switches t) → LetterShaped letter t ((is_expression t ≡ true) × Loop t) (LoopSpot t)
  letter_kept Valued t value spot h = (h.0, value h.0 h.1)
  letter_kept Kept t value spot h = (h.0, value h.0 h.1)
  letter_kept Placed t value spot h = spot h
  letter_kept Used t value spot h = h
  letter_kept (L.Raw size) t value spot h = h

  mutual
    -- an expression has no Switch in it
    value_kept : (t : Tree) → is_expression t ≡ true → IsFormed ⊥ Listed Symbols Switches t → Loop t
    value_kept (Integer number) e h = h
    value_kept (Constant literal) e h = h
    value_kept (String text) e h = h
    value_kept (InSlot slot) e h = h
    value_kept Debug e h = h
    value_kept (Use at name) e h = h
    value_kept (Call at name args) e h = (h.0, values_kept args h.1)
    value_kept (Apply op args targets) e h = (h.0, operands_kept (row_of op).operands args h.1, h.2, spots_kept targets h.3)
    value_kept (Buffer size bytes) e h = (h.0, value_kept size h.0 h.1)
    value_kept (Package n elements) e h = (h.0, elements_kept elements h.1)
    value_kept (VarPackage size elements) e h = (h.0, value_kept size h.0 h.1, elements_kept elements h.2)
    value_kept (CondRefOf place target) e h = (spot_kept place h.0, spot_kept target h.1)
    value_kept (Operated op args) e h = (h.0, h.1, operands_kept (row_of op).operands args h.2)
    value_kept (Assigned target value) e h = (h.0, spot_kept target h.1, h.2, value_kept value h.2 h.3)
    value_kept (AssignedBy op target value) e h = (h.0, spot_kept target h.1, h.2, value_kept target h.2 h.3, h.4, value_kept value h.4 h.5)
    value_kept _ e h = absurd cc

    spot_kept : (t : Tree) → IsFormedSpot ⊥ Listed Symbols Switches t → LoopSpot t
    spot_kept Omitted h = tt
    spot_kept Debug h = tt
    spot_kept (InSlot slot) h = h
    spot_kept (Use at name) h = h
    spot_kept (Apply op args targets) h = (
      h.0,
      spot_by (spot_form op) (AreFormedOperands ⊥ Listed Symbols Switches (row_of op).operands args × (count targets ≡ (row_of op).targets) × AreFormedSpots ⊥ Listed Symbols Switches targets) (IsFormedAlone ⊥ Listed Symbols Switches args targets)
          (AreFormedOperands ⊥ Listed Symbols ⊥ (row_of op).operands args × (count targets ≡ (row_of op).targets) × AreFormedSpots ⊥ Listed Symbols ⊥ targets) (IsFormedAlone ⊥ Listed Symbols ⊥ args targets)
          (λ r. (operands_kept (row_of op).operands args r.0, r.1, spots_kept targets r.2)) (λ i. alone_kept args targets i) h.1,
    )
    spot_kept (Operated op args) h = (
      h.0,
      h.1,
      spot_by (spot_form op) (AreFormedOperands ⊥ Listed Symbols Switches (row_of op).operands args) ⊥ (AreFormedOperands ⊥ Listed Symbols ⊥ (row_of op).operands args) ⊥
          (λ r. operands_kept (row_of op).operands args r) (λ i. i) h.2,
    )
    spot_kept _ h = absurd h

    alone_kept : (args targets : Trees) → IsFormedAlone ⊥ Listed Symbols Switches args targets → IsFormedAlone ⊥ Listed Symbols ⊥ args targets
    alone_kept (tree t no_trees) no_trees h = (h.0, value_kept t h.0 h.1)
    alone_kept no_trees targets h = absurd h
    alone_kept (tree t no_trees) (tree u us) h = absurd h
    alone_kept (tree t (tree v vs)) targets h = absurd h

    operands_kept : (letters : List Letter) (ts : Trees) → AreFormedOperands ⊥ Listed Symbols Switches letters ts → AreFormedOperands ⊥ Listed Symbols ⊥ letters ts
    operands_kept [] no_trees h = tt
    operands_kept [] (tree t ts) h = absurd h
    operands_kept (letter ∷ letters) no_trees h = absurd h
    operands_kept (letter ∷ letters) (tree t ts) h = (letter_kept letter t (λ e k. value_kept t e k) (λ k. spot_kept t k) h.0, operands_kept letters ts h.1)

    spots_kept : (ts : Trees) → AreFormedSpots ⊥ Listed Symbols Switches ts → AreFormedSpots ⊥ Listed Symbols ⊥ ts
    spots_kept no_trees h = tt
    spots_kept (tree t ts) h = (spot_kept t h.0, spots_kept ts h.1)

    values_kept : (ts : Trees) → AreFormedValues ⊥ Listed Symbols Switches ts → AreFormedValues ⊥ Listed Symbols ⊥ ts
    values_kept no_trees h = tt
    values_kept (tree t ts) h = (h.0, value_kept t h.0 h.1, values_kept ts h.2)

    element_kept : (t : Tree) → ElementShaped t (IsFormed ⊥ Listed Symbols Switches t) → ElementShaped t (Loop t)
    element_kept (Use at name) h = h
    element_kept (Integer number) h = h
    element_kept (Constant literal) h = h
    element_kept (String text) h = h
    element_kept (Buffer size bytes) h = (h.0, (h.1.0, value_kept size h.1.0 h.1.1))
    element_kept (Package n elements) h = (h.0, (h.1.0, elements_kept elements h.1.1))
    element_kept (VarPackage size elements) h = (h.0, (h.1.0, value_kept size h.1.0 h.1.1, elements_kept elements h.1.2))
    element_kept _ h = never h.0

    elements_kept : (ts : Trees) → AreFormedElements ⊥ Listed Symbols Switches ts → AreFormedElements ⊥ Listed Symbols ⊥ ts
    elements_kept no_trees h = tt
    elements_kept (tree t ts) h = (element_kept t h.0, elements_kept ts h.1)

  -- ---- loops

  abbrev Loops : Trees → Type 0
  Loops = AreFormed ⊥ Listed Symbols ⊥

  abbrev Value : Tree → Type 0
  Value t = (is_expression t ≡ true) × Loop t

  member_formed : (t : Tree) → IsCaseMember t → Value t
  member_formed (Integer n) h = (refl, tt)
  member_formed (Constant literal) h = (refl, tt)
  member_formed (String text) h = (refl, h)
  member_formed (Buffer (Integer n) bytes) h = (refl, (refl, tt))
  member_formed (Buffer _ bytes) h = absurd h
  member_formed _ h = absurd h

  equal_formed : (i : ℕ) (t : Tree) → i < 8 → Value t → Value (equal (local i) t)
  equal_formed i t small v = (refl, (tt, ((refl, small), (v, tt)), refl, tt))

  joined_formed : (test : Tree) (i : ℕ) (members : Trees) → i < 8 → Value test → AreCaseMembers members → Value (joined test (local i) members)
  joined_formed test i no_trees small v h = v
  joined_formed test i (tree m ms) small v h =
      joined_formed (Apply (Plain.Number IntOp.LOr) (tree test (tree (equal (local i) m) no_trees)) no_trees) i ms small (refl, (tt, (v, (equal_formed i m small (member_formed m h.0), tt)), refl, tt)) h.1

  members_formed : (i : ℕ) (members : Trees) → i < 8 → HaveCaseMembers members → Value (test_of (local i) members)
  members_formed i no_trees small h = absurd h
  members_formed i (tree m ms) small h = joined_formed (equal (local i) m) i ms small (equal_formed i m small (member_formed m h.0)) h.1

  test_formed : (i : ℕ) (t : Tree) → i < 8 → IsCaseValue t → Value (case_test (local i) t)
  test_formed i (Package n members) small h = members_formed i members small h
  test_formed i (VarPackage size members) small h = members_formed i members small h.1
  test_formed i (Integer n) small h = equal_formed i (Integer n) small (member_formed (Integer n) h)
  test_formed i (Constant literal) small h = equal_formed i (Constant literal) small (member_formed (Constant literal) h)
  test_formed i (String text) small h = equal_formed i (String text) small (member_formed (String text) h)
  test_formed i (Buffer size bytes) small h = equal_formed i (Buffer size bytes) small (member_formed (Buffer size bytes) h)
  test_formed i _ small h = absurd h

  stored_formed : (t : Tree) (i : ℕ) → i < 8 → Value t → Loop (stored t (local i))
  stored_formed t i small v = (tt, (v, (small, tt)), refl, tt)

  opened_formed : (ts : Trees) → Loops ts → Loops (opened ts)
  opened_formed (tree (ElseIf test body) rest) h = (h.0, tt, h.2)
  opened_formed (tree (Else body) no_trees) h = h.0
  opened_formed ts h = h

  -- no Switch is left
  follows_all : (t : Tree) (us vs : Trees) → Loop t → IsFollowed t us → IsFollowed t vs
  follows_all (Switch value cases) us vs h f = absurd h.0
  follows_all _ us vs h f = tt

  then_formed : (ts us : Trees) → Loops ts → Loops us → Loops (then_trees ts us)
  then_formed no_trees us h k = k
  then_formed (tree t ts) us h k = (h.0, follows_all t ts (then_trees ts us) h.0 h.1, then_formed ts us h.2 k)

  loop_formed : (value : Tree) (i : ℕ) (chain : Trees) → i < 8 → Value value → Loops chain → Loop (loop_of value (local i) chain)
  loop_formed value i chain small v h = (refl, tt, then_formed (tree (stored value (local i)) chain) (tree Break no_trees) (stored_formed value i small v, tt, h) (tt, tt, tt))

  loop_terms_formed : (plan : Plan) → TakesSmall plan → (crossed inside : Bool) (value : Tree) (i : ℕ) (chain rest : Trees) → i < 8 → Value value → Loops chain → Loops rest → Loops (loop_terms plan crossed inside (loop_of value (local i) chain) rest)
  loop_terms_formed plan small false inside value i chain rest lt v h r = (loop_formed value i chain lt v h, tt, r)
  loop_terms_formed plan small true false value i chain rest lt v h r =
      let down : Loop (stored zero_word (flag plan)) = stored_formed zero_word (nth plan.free plan.levels) (small plan.levels) (refl, tt) in
      (down, tt, (loop_formed value i chain lt v h, tt, ((refl, small plan.levels, (down, tt, (tt, tt, tt))), tt, r)))
  loop_terms_formed plan small true true value i chain rest lt v h r = (loop_formed value i chain lt v h, tt, ((refl, small plan.levels, (tt, tt, tt)), tt, r))

  continue_formed : (plan : Plan) → TakesSmall plan → (inside : Bool) (rest : Trees) → Loops rest → Loops (continue_terms plan inside rest)
  continue_formed plan small false rest r = (tt, tt, r)
  continue_formed plan small true rest r = (stored_formed one_word (nth plan.free plan.levels) (small plan.levels) (refl, tt), tt, (tt, tt, r))

  abbrev IsNoSwitch : Tree → Type 0
  IsNoSwitch (Switch value cases) = ⊥
  IsNoSwitch _ = Unit {0}

  mutual
    term_formed : (t : Tree) → IsNoSwitch t → IsFormed ⊥ Listed Symbols Switches t → (plan : Plan) → TakesSmall plan → (level : ℕ) (inside : Bool) → Loop (unswitched plan level inside t)
    term_formed (Return value) other h plan small level inside = (h.0, value_kept value h.0 h.1)
    term_formed (Name at name value) other h plan small level inside = (h.0, h.1, value_kept value h.1 h.2)
    term_formed (Alias from source at name) other h plan small level inside = h
    term_formed (External here at name type parameters) other h plan small level inside = h
    term_formed (Method at name flags body) other h plan small level inside = (h.0, h.1, all_formed body h.2 (plan_of body) (plan_small body) 0 false)
    term_formed (Mutex at name level') other h plan small level inside = h
    term_formed (Event at name) other h plan small level inside = h
    term_formed (Container' kind at name body) other h plan small level inside = (h.0, h.1, all_formed body h.2 plan small level inside)
    term_formed (Scope here at name body) other h plan small level inside = (h.0, all_formed body h.1 plan small level inside)
    term_formed (If test body) other h plan small level inside = (h.0, value_kept test h.0 h.1, all_formed body h.2 plan small level inside)
    term_formed (Else body) other h plan small level inside = all_formed body h plan small level inside
    term_formed (While test body) other h plan small level inside = (h.0, value_kept test h.0 h.1, all_formed body h.2 plan small level false)
    term_formed (For start test step body) other h plan small level inside = absurd h.0
    term_formed (Print place format args) other h plan small level inside = absurd h.0
    term_formed Break other h plan small level inside = tt
    term_formed Continue other h plan small level inside = tt
    term_formed (OperationRegion at name space args) other h plan small level inside = (h.0, h.1, operands_kept region_letters args h.2)
    term_formed (Field here from region flags items) other h plan small level inside = h
    term_formed (IndexField here from index to register flags items) other h plan small level inside = h
    term_formed (BankField here from region to bank value flags items) other h plan small level inside = (h.0, h.1, h.2, value_kept value h.2 h.3, h.4, h.5)
    term_formed (CreateField form args at name) other h plan small level inside = (operands_kept (field_letters form) args h.0, h.1)
    term_formed Omitted other h plan small level inside = absurd h
    term_formed (Raw size number) other h plan small level inside = absurd h
    term_formed (Item item) other h plan small level inside = absurd h
    term_formed (Fill bytes) other h plan small level inside = absurd h
    term_formed Misshapen other h plan small level inside = absurd h
    term_formed (Operated op args) other h plan small level inside = value_kept (Operated op args) refl h
    term_formed (Assigned target value) other h plan small level inside = value_kept (Assigned target value) refl h
    term_formed (AssignedBy op target value) other h plan small level inside = value_kept (AssignedBy op target value) refl h
    term_formed (ElseIf test body) other h plan small level inside = (h.0, value_kept test h.0 h.1, all_formed body h.2 plan small level inside)
    term_formed (Switch value cases) other h plan small level inside = absurd other
    term_formed (Case value body) other h plan small level inside = absurd h
    term_formed (Default body) other h plan small level inside = absurd h
    term_formed (Integer number) other h plan small level inside = h
    term_formed (Constant literal) other h plan small level inside = h
    term_formed (String text) other h plan small level inside = h
    term_formed (InSlot slot) other h plan small level inside = h
    term_formed Debug other h plan small level inside = h
    term_formed (Use at name) other h plan small level inside = h
    term_formed (Call at name args) other h plan small level inside = value_kept (Call at name args) refl h
    term_formed (Apply op args targets) other h plan small level inside = value_kept (Apply op args targets) refl h
    term_formed (Buffer size bytes) other h plan small level inside = value_kept (Buffer size bytes) refl h
    term_formed (Package n elements) other h plan small level inside = value_kept (Package n elements) refl h
    term_formed (VarPackage size elements) other h plan small level inside = value_kept (VarPackage size elements) refl h
    term_formed (CondRefOf place target) other h plan small level inside = value_kept (CondRefOf place target) refl h

    links_formed : (cases : Trees) → AreFormedCases ⊥ Listed Symbols Switches cases → (plan : Plan) → TakesSmall plan → (level : ℕ) → Loops (links plan level cases (default_link plan level cases))
    links_formed no_trees h plan small level = tt
    links_formed (tree (Case value body) cases) h plan small level =
        let test : Value (case_test (value_local plan level) value) = test_formed (nth plan.free level) value (small level) h.0 in
        ((test.0, test.1, all_formed body h.1 plan small (suc level) true), tt, links_formed cases h.2 plan small level)
    links_formed (tree (Default body) no_trees) h plan small level = (all_formed body h plan small (suc level) true, tt, tt)
    links_formed (tree (Default body) (tree t ts)) h plan small level = absurd h
    links_formed (tree _ cases) h plan small level = absurd h

    pub all_formed : (ts : Trees) → AreFormed ⊥ Listed Symbols Switches ts → (plan : Plan) → TakesSmall plan → (level : ℕ) (inside : Bool) → Loops (unswitched_all plan level inside ts)
    all_formed no_trees h plan small level inside = tt
    all_formed (tree (Switch value cases) rest) h plan small level inside =
        loop_terms_formed plan small (have_continue cases) inside value (nth plan.free level) (opened (links plan level cases (default_link plan level cases))) (unswitched_all plan level inside rest) (small level)
        (h.0.1, value_kept value h.0.1 h.0.2) (opened_formed (links plan level cases (default_link plan level cases)) (links_formed cases h.0.3 plan small level)) (all_formed rest h.2 plan small level inside)
    all_formed (tree Continue rest) h plan small level inside = continue_formed plan small inside (unswitched_all plan level inside rest) (all_formed rest h.2 plan small level inside)
    all_formed (tree t rest) h plan small level inside = (term_formed t tt h.0 plan small level inside, tt, all_formed rest h.2 plan small level inside)

pub loops_formed : (Listed : List (FieldItem UnitName) → Type 0) (Symbols Switches : Type 0) (program : Trees) → AreFormed ⊥ Listed Symbols Switches program → AreFormed ⊥ Listed Symbols ⊥ (without_switches program)
loops_formed Listed Symbols Switches program h = all_formed Listed Symbols Switches program h (plan_of program) (plan_small program) 0 false

pub loops_shaped : (program : Trees) → AreFormed ⊥ (AreItems 0) ⊥ (Unit {0}) program → AreShaped (without_switches program)
loops_shaped = loops_formed (AreItems 0) ⊥ (Unit {0})
