-- Terms that are ready are so with their runs nested, too, and no ElseIf is left in them.
use Rattle.std.proofs.Common.{◌≡◌, suc, true, List, [], ◌∷◌, refl, sym, ap, ◌∙◌, subst}
use Rattle.acpi_values.specs.Paths.{AbsolutePath}
use Rattle.acpi_values.specs.Operators.{Letter, Valued, Kept, Placed, Used, Row, row_of}
use Rattle.acpi_values.specs.Operators as L
use Rattle.acpi_state.specs.FieldActs.{region_letters, field_letters}
use Rattle.asl_tree.specs.Names.{Known}
use Rattle.asl_tree.specs.Tree.{Tree, Integer, Constant, String, InSlot, Debug, Omitted, Raw, Use, Call, Apply, Buffer, Package, VarPackage, CondRefOf, Return, Name, Method, Container', Scope}
use Rattle.asl_tree.specs.Tree.{Operated, Assigned, AssignedBy, Trees, no_trees, tree, count, OperationRegion, BankField, CreateField, If, ElseIf, Else, While, Switch, Case, Default, For, Print}
use Rattle.asl_meaning.specs.Meaning.{SpotForm, OfResult, OfInside, NoSpot, spot_form}
use Rattle.else_runs.specs.Runs.{before, nested_in, nested_args, nested_all}
use Rattle.aml_sessions.specs.Ready.{is_expression, Takes, SpotReady, EndsIn, CondReady, LetterReady, ElementReady, IsReady, IsSpot, IsAlone, AreOperands, AreSpots, AreValues, AreElements, AreReady}

same_count : (ts : Trees) → count (nested_args ts) ≡ count ts
same_count no_trees = refl
same_count (tree t ts) = ap suc (same_count ts)

same_expression : (t : Tree) → is_expression (nested_in t) ≡ is_expression t
same_expression (Operated op args) = refl
same_expression _ = refl

module _ (known : Known) where
  -- a term as it stands in a list: an ElseIf is an If
  abbrev Stands : Tree → AbsolutePath → Type 0
  Stands (ElseIf test body) scope = IsReady ⊥ known (If test body) scope
  Stands t scope = IsReady ⊥ known t scope

  -- before other terms it goes into an Else
  ready_before : (t : Tree) (ts : Trees) (scope : AbsolutePath) → Stands t scope → AreReady ⊥ known ts scope → AreReady ⊥ known (before t ts) scope
  ready_before (ElseIf test body) (tree (Else other) rest) scope h hs = ((h, (hs.0, tt)), hs.1)
  ready_before (ElseIf test body) no_trees scope h hs = ((h, tt), tt)
  ready_before (ElseIf test body) (tree t rest) scope h hs = ((h, tt), hs)
  ready_before t ts scope h hs = (h, hs)

  -- an operand
  ready_letter : (letter : Letter) (t : Tree) (scope : AbsolutePath) {value value' spot spot' : Type 0} → (value → value') → (spot → spot') → LetterReady known letter t value spot scope → LetterReady known letter (nested_in t) value' spot' scope
  ready_letter Valued t scope hv hs h = hv h
  ready_letter Kept t scope hv hs h = hv h
  ready_letter Placed t scope hv hs h = hs h
  ready_letter Used (Use at name) scope hv hs h = h
  ready_letter Used _ scope hv hs h = absurd h
  ready_letter (L.Raw size) (Raw other number) scope hv hs h = h
  ready_letter (L.Raw size) _ scope hv hs h = absurd h

  ready_cond : (t : Tree) (scope : AbsolutePath) {spot spot' : Type 0} → (spot → spot') → CondReady known t spot scope → CondReady known (nested_in t) spot' scope
  ready_cond (Use at name) scope f h = h
  ready_cond _ scope f h = f h

  ready_form : (form : SpotForm) {result result' inside inside' : Type 0} → (result → result') → (inside → inside') → SpotReady form result inside → SpotReady form result' inside'
  ready_form OfResult f g h = f h
  ready_form OfInside f g h = g h
  ready_form NoSpot f g h = h

  -- a term that has a value is no ElseIf
  value : (t : Tree) (scope : AbsolutePath) → is_expression t ≡ true → Stands (nested_in t) scope → (is_expression (nested_in t) ≡ true) × IsReady ⊥ known (nested_in t) scope
  value (ElseIf test body) scope e h = absurd cc
  value t scope e h = (same_expression t ∙ e, h)

  -- an element of a Package
  ready_element : (t : Tree) (scope : AbsolutePath) → (IsReady (Unit {0}) known t scope → Stands (nested_in t) scope) → ElementReady known t (IsReady (Unit {0}) known t scope) → ElementReady known (nested_in t) (IsReady ⊥ known (nested_in t) scope)
  ready_element (Use at name) scope f h = h
  ready_element (Integer number) scope f h = h
  ready_element (Constant literal) scope f h = h
  ready_element (String text) scope f h = h
  ready_element (Buffer size bytes) scope f h = (h.0, f h.1)
  ready_element (Package n elements) scope f h = (h.0, f h.1)
  ready_element (VarPackage size elements) scope f h = (h.0, f h.1)
  ready_element t scope f h = absurd (let e = h.0 in cc)

  mutual
    ready_in : (t : Tree) (scope : AbsolutePath) → IsReady (Unit {0}) known t scope → Stands (nested_in t) scope
    ready_in (Call at name args) scope h = (h.0, h.1, subst (λ n. EndsIn known (Takes n) h.0) (sym (same_count args)) h.2, ready_values args scope h.3)
    ready_in (Apply op args targets) scope h = (h.0, ready_operands (row_of op).operands args scope h.1, same_count targets ∙ h.2, ready_spots targets scope h.3)
    ready_in (Buffer size bytes) scope h = value size scope h.0 (ready_in size scope h.1)
    ready_in (Package n elements) scope h = (h.0, ready_elements elements scope h.1)
    ready_in (VarPackage size elements) scope h = let v = value size scope h.0 (ready_in size scope h.1) in (v.0, v.1, ready_elements elements scope h.2)
    ready_in (CondRefOf place target) scope h = (ready_cond place scope (ready_spot place scope) h.0, ready_spot target scope h.1)
    ready_in (Return t) scope h = value t scope h.0 (ready_in t scope h.1)
    ready_in (Name at name t) scope h = let v = value t scope h.1 (ready_in t scope h.2) in (h.0, v.0, v.1)
    ready_in (Method at name flags body) scope h = (h.0, h.1, nested_ready body _ h.2)
    ready_in (Container' kind at name body) scope h = (h.0, h.1, nested_ready body _ h.2)
    ready_in (Scope here at name body) scope h = (h.0, h.1, nested_ready body h.0 h.2)
    ready_in (If test body) scope h = let v = value test scope h.0 (ready_in test scope h.1) in (v.0, v.1, nested_ready body scope h.2)
    ready_in (ElseIf test body) scope h = let v = value test scope h.1 (ready_in test scope h.2) in (v.0, v.1, nested_ready body scope h.3)
    ready_in (Else body) scope h = nested_ready body scope h
    ready_in (While test body) scope h = let v = value test scope h.0 (ready_in test scope h.1) in (v.0, v.1, nested_ready body scope h.2)
    ready_in (OperationRegion at name space args) scope h = (h.0, h.1, ready_operands region_letters args scope h.2)
    ready_in (BankField here from region to bank t flags items) scope h = let v = value t scope h.2 (ready_in t scope h.3) in (h.0, h.1, v.0, v.1, h.4, h.5, h.6)
    ready_in (CreateField form args at name) scope h = (ready_operands (field_letters form) args scope h.0, h.1)
    ready_in (Operated op args) scope h = absurd h
    ready_in (Assigned target value) scope h = absurd h
    ready_in (AssignedBy op target value) scope h = absurd h
    ready_in (For start test step body) scope h = absurd h
    ready_in (Print place format args) scope h = absurd h
    ready_in (Switch value cases) scope h = absurd h
    ready_in (Case value body) scope h = absurd h
    ready_in (Default body) scope h = absurd h
    ready_in _ scope h = h

    ready_spot : (t : Tree) (scope : AbsolutePath) → IsSpot (Unit {0}) known t scope → IsSpot ⊥ known (nested_in t) scope
    ready_spot Omitted scope h = tt
    ready_spot Debug scope h = tt
    ready_spot (InSlot slot) scope h = h
    ready_spot (Use at name) scope h = h
    ready_spot (Apply op args targets) scope h =
        (h.0, ready_form (spot_form op) (λ r. (ready_operands (row_of op).operands args scope r.0, same_count targets ∙ r.1, ready_spots targets scope r.2)) (ready_alone args targets scope) h.1)
    ready_spot _ scope h = absurd h

    ready_alone : (args targets : Trees) (scope : AbsolutePath) → IsAlone (Unit {0}) known args targets scope → IsAlone ⊥ known (nested_args args) (nested_args targets) scope
    ready_alone (tree t no_trees) no_trees scope h = value t scope h.0 (ready_in t scope h.1)
    ready_alone (tree t no_trees) (tree u us) scope h = absurd h
    ready_alone (tree t (tree u us)) targets scope h = absurd h
    ready_alone no_trees targets scope h = absurd h

    ready_operands : (letters : List Letter) (ts : Trees) (scope : AbsolutePath) → AreOperands (Unit {0}) known letters ts scope → AreOperands ⊥ known letters (nested_args ts) scope
    ready_operands [] no_trees scope h = tt
    ready_operands [] (tree t ts) scope h = absurd h
    ready_operands (letter ∷ letters) no_trees scope h = absurd h
    ready_operands (letter ∷ letters) (tree t ts) scope h = (ready_letter letter t scope (λ v. value t scope v.0 (ready_in t scope v.1)) (ready_spot t scope) h.0, ready_operands letters ts scope h.1)

    ready_spots : (ts : Trees) (scope : AbsolutePath) → AreSpots (Unit {0}) known ts scope → AreSpots ⊥ known (nested_args ts) scope
    ready_spots no_trees scope h = tt
    ready_spots (tree t ts) scope h = (ready_spot t scope h.0, ready_spots ts scope h.1)

    ready_values : (ts : Trees) (scope : AbsolutePath) → AreValues (Unit {0}) known ts scope → AreValues ⊥ known (nested_args ts) scope
    ready_values no_trees scope h = tt
    ready_values (tree t ts) scope h = let v = value t scope h.0 (ready_in t scope h.1) in (v.0, v.1, ready_values ts scope h.2)

    ready_elements : (ts : Trees) (scope : AbsolutePath) → AreElements (Unit {0}) known ts scope → AreElements ⊥ known (nested_args ts) scope
    ready_elements no_trees scope h = tt
    ready_elements (tree t ts) scope h = (ready_element t scope (ready_in t scope) h.0, ready_elements ts scope h.1)

    pub nested_ready : (ts : Trees) (scope : AbsolutePath) → AreReady (Unit {0}) known ts scope → AreReady ⊥ known (nested_all ts) scope
    nested_ready no_trees scope h = tt
    nested_ready (tree t ts) scope h = ready_before (nested_in t) (nested_all ts) scope (ready_in t scope h.0) (nested_ready ts scope h.1)
