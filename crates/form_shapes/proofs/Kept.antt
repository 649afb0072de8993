-- What stands in an expression stands in it whether Fors, what prints and Switches may stand around it or not.
use Rattle.std.proofs.Common.{◌≡◌, true, false, List, [], ◌∷◌}
use Rattle.acpi_values.specs.Operators.{Letter, Valued, Kept, Placed, Used, Row, row_of}
use Rattle.acpi_values.specs.Operators as L
use Rattle.asl_meaning.specs.Meaning.{SpotForm, OfResult, OfInside, NoSpot, spot_form}
use Rattle.asl_tree.specs.FieldItems.{FieldItem}
use Rattle.asl_tree.specs.Tree.{Tree, Integer, Constant, String, InSlot, Debug, Omitted, Use, Call, Apply, Buffer, Package, VarPackage, CondRefOf, Operated, Assigned, AssignedBy, Trees, no_trees, tree, count, UnitName}
use Rattle.aml_sessions.specs.Ready.{is_expression, SpotReady}
use Rattle.named_sessions.specs.Shaped.{LetterShaped, ElementShaped, IsFormed, IsFormedSpot, IsFormedAlone, AreFormedOperands, AreFormedSpots, AreFormedValues, AreFormedElements}

spot_by : (form : SpotForm) (R I R' I' : Type 0) → (R → R') → (I → I') → SpotReady form R I → SpotReady form R' I'
spot_by OfResult R I R' I' r i h = r h
spot_by OfInside R I R' I' r i h = i h
spot_by NoSpot R I R' I' r i h = h

never : {A : Type 0} → false ≡ true → A
never e = absurd cc

module _ (Forms Forms' : Type 0) (Listed : List (FieldItem UnitName) → Type 0) (Symbols Switches Switches' : Type 0) where
  abbrev Before : Tree → Type 0
  Before = IsFormed Forms Listed Symbols Switches

  abbrev After : Tree → Type 0
  After = IsFormed Forms' Listed Symbols Switches'

  abbrev SpotBefore : Tree → Type 0
  SpotBefore = IsFormedSpot Forms Listed Symbols Switches

  abbrev SpotAfter : Tree → Type 0
  SpotAfter = IsFormedSpot Forms' Listed Symbols Switches'

  abbrev OperandsBefore : List Letter → Trees → Type 0
  OperandsBefore = AreFormedOperands Forms Listed Symbols Switches

  abbrev OperandsAfter : List Letter → Trees → Type 0
  OperandsAfter = AreFormedOperands Forms' Listed Symbols Switches'

  letter_kept : (letter : Letter) (t : Tree) → (is_expression t ≡ true → Before t → After t) → (SpotBefore t → SpotAfter t)
      → LetterShaped letter t ((is_expression t ≡ true) × Before t) (SpotBefore t) → LetterShaped letter t ((is_expression t ≡ true) × After t) (SpotAfter t)
  letter_kept Valued t value spot h = (h.0, value h.0 h.1)
  letter_kept Kept t value spot h = (h.0, value h.0 h.1)
  letter_kept Placed t value spot h = spot h
  letter_kept Used t value spot h = h
  letter_kept (L.Raw size) t value spot h = h

  mutual
    pub value_kept : (t : Tree) → is_expression t ≡ true → IsFormed Forms Listed Symbols Switches t → IsFormed Forms' Listed Symbols Switches' t
    value_kept (Integer number) e h = h
    value_kept (Constant literal) e h = h
    value_kept (String text) e h = h
    value_kept (InSlot slot) e h = h
    value_kept Debug e h = h
    value_kept (Use at name) e h = h
    value_kept (Call at name args) e h = (h.0, values_kept args h.1)
    value_kept (Apply op args targets) e h = (h.0, operands_kept (row_of op).operands args h.1, h.2, spots_kept targets h.3)
    value_kept (Buffer size bytes) e h = (h.0, value_kept size h.0 h.1)
    value_kept (Package n elements) e h = (h.0, elements_kept elements h.1)
    value_kept (VarPackage size elements) e h = (h.0, value_kept size h.0 h.1, elements_kept elements h.2)
    value_kept (CondRefOf place target) e h = (spot_kept place h.0, spot_kept target h.1)
    value_kept (Operated op args) e h = (h.0, h.1, operands_kept (row_of op).operands args h.2)
    value_kept (Assigned target value) e h = (h.0, spot_kept target h.1, h.2, value_kept value h.2 h.3)
    value_kept (AssignedBy op target value) e h = (h.0, spot_kept target h.1, h.2, value_kept target h.2 h.3, h.4, value_kept value h.4 h.5)
    value_kept _ e h = absurd cc

    pub spot_kept : (t : Tree) → IsFormedSpot Forms Listed Symbols Switches t → IsFormedSpot Forms' Listed Symbols Switches' t
    spot_kept Omitted h = tt
    spot_kept Debug h = tt
    spot_kept (InSlot slot) h = h
    spot_kept (Use at name) h = h
    spot_kept (Apply op args targets) h = (
      h.0,
      spot_by (spot_form op) (OperandsBefore (row_of op).operands args × (count targets ≡ (row_of op).targets) × AreFormedSpots Forms Listed Symbols Switches targets) (IsFormedAlone Forms Listed Symbols Switches args targets)
          (OperandsAfter (row_of op).operands args × (count targets ≡ (row_of op).targets) × AreFormedSpots Forms' Listed Symbols Switches' targets) (IsFormedAlone Forms' Listed Symbols Switches' args targets)
          (λ r. (operands_kept (row_of op).operands args r.0, r.1, spots_kept targets r.2)) (λ i. alone_kept args targets i) h.1,
    )
    spot_kept (Operated op args) h = (
      h.0,
      h.1,
      spot_by (spot_form op) (OperandsBefore (row_of op).operands args) ⊥ (OperandsAfter (row_of op).operands args) ⊥ (λ r. operands_kept (row_of op).operands args r) (λ i. i) h.2,
    )
    spot_kept _ h = absurd h

    alone_kept : (args targets : Trees) → IsFormedAlone Forms Listed Symbols Switches args targets → IsFormedAlone Forms' Listed Symbols Switches' args targets
    alone_kept (tree t no_trees) no_trees h = (h.0, value_kept t h.0 h.1)
    alone_kept no_trees targets h = absurd h
    alone_kept (tree t no_trees) (tree u us) h = absurd h
    alone_kept (tree t (tree v vs)) targets h = absurd h

    pub operands_kept : (letters : List Letter) (ts : Trees) → AreFormedOperands Forms Listed Symbols Switches letters ts → AreFormedOperands Forms' Listed Symbols Switches' letters ts
    operands_kept [] no_trees h = tt
    operands_kept [] (tree t ts) h = absurd h
    operands_kept (letter ∷ letters) no_trees h = absurd h
    operands_kept (letter ∷ letters) (tree t ts) h = (letter_kept letter t (λ e k. value_kept t e k) (λ k. spot_kept t k) h.0, operands_kept letters ts h.1)

    spots_kept : (ts : Trees) → AreFormedSpots Forms Listed Symbols Switches ts → AreFormedSpots Forms' Listed Symbols Switches' ts
    spots_kept no_trees h = tt
    spots_kept (tree t ts) h = (spot_kept t h.0, spots_kept ts h.1)

    pub values_kept : (ts : Trees) → AreFormedValues Forms Listed Symbols Switches ts → AreFormedValues Forms' Listed Symbols Switches' ts
    values_kept no_trees h = tt
    values_kept (tree t ts) h = (h.0, value_kept t h.0 h.1, values_kept ts h.2)

    element_kept : (t : Tree) → ElementShaped t (Before t) → ElementShaped t (After t)
    element_kept (Use at name) h = h
    element_kept (Integer number) h = h
    element_kept (Constant literal) h = h
    element_kept (String text) h = h
    element_kept (Buffer size bytes) h = (h.0, (h.1.0, value_kept size h.1.0 h.1.1))
    element_kept (Package n elements) h = (h.0, (h.1.0, elements_kept elements h.1.1))
    element_kept (VarPackage size elements) h = (h.0, (h.1.0, value_kept size h.1.0 h.1.1, elements_kept elements h.1.2))
    element_kept _ h = never h.0

    elements_kept : (ts : Trees) → AreFormedElements Forms Listed Symbols Switches ts → AreFormedElements Forms' Listed Symbols Switches' ts
    elements_kept no_trees h = tt
    elements_kept (tree t ts) h = (element_kept t h.0, elements_kept ts h.1)
