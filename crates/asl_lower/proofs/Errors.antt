-- A program without errors of names has none once its operators are named.
use Rattle.std.proofs.Common.{◌≡◌, ℕ, zero, suc, Bool, true, false, List, [], ◌∷◌, ◌++◌, Option, Some, None, refl, ap, ◌∙◌, subst}
use Rattle.std.specs.Prelude.{if◌then◌else◌, ◌&&◌}
use Rattle.acpi_values.specs.Paths.{AbsolutePath}
use Rattle.acpi_values.specs.declared.operator.Plain.{Plain}
use Rattle.acpi_values.specs.declared.operator.DataOp.TheVariants as DataOp
use Rattle.acpi_values.specs.Operators.{Letter, Valued, Kept, Placed, Used, Row, row_of}
use Rattle.acpi_values.specs.Operators as L
use Rattle.acpi_state.specs.Objects.{MethodObject, ContainerObject, lookup}
use Rattle.acpi_state.specs.Outcomes.{choose}
use Rattle.acpi_state.specs.FieldActs.{region_letters, field_letters}
use Rattle.asl_tree.specs.declared.path.Path.{Path}
use Rattle.asl_tree.specs.declared.term.Compound.{Compound}
use Rattle.asl_tree.specs.Symbols.{compound_operator, takes_target}
use Rattle.asl_tree.specs.Names.{declared_path, denoted}
use Rattle.asl_tree.specs.Tree.{At, Tree, Omitted, Use, Call, Apply, Buffer, Package, VarPackage, CondRefOf, Return, Name, Alias, External, Method, Mutex, Event, Container', Scope, If, ElseIf, Else, While, For, Print, OperationRegion, Field, IndexField, BankField, CreateField, UnitName, Operated, Assigned, AssignedBy, Trees, no_trees, tree, count, Switch, Case, Default}
use Rattle.asl_meaning.specs.Declarations.{As, Declarations, nothing_declared, is_named, scope_path, with_declared, declare, declarations, called, calls_all, known_of}
use Rattle.asl_meaning.specs.Meaning.{SpotForm, OfResult, OfInside, NoSpot, spot_form, target_operator}
use Rattle.acpi_names.specs.Errors.{Asked, Anything, AnObject, AValue, AMutex, AnEvent, AUnit, ARegion, asked_by, asked_types, used_types, NameError, Whole, whole_of, names, names_all, cond_errors, use_errors, call_errors, declared_errors}
use Rattle.acpi_names.specs.Errors.{scope_errors, items_errors, types, types_all, spot_types, first_types, operand_types, spot_types_all, element_types, element_types_all, letter_types, spot_form_types, name_errors, type_errors}
use Rattle.acpi_names.specs.Errors as E
use Rattle.asl_tree.specs.FieldItems.{FieldItem, UnitItem, SkipItem, OffsetItem, AccessItem, ConnectionItem, ToName, ToBytes}
use Rattle.acpi_names.specs.Terms.{has_no_targets, is_value, are_values, is_term, are_terms}
use Rattle.acpi_names.proofs.MentionErrors.{undeclared}
use Rattle.acpi_names.proofs.Mentions.{first_true, second_true}
use Rattle.asl_lower.specs.Nodes.{given, last_target, assigned, assigned_by, named, inner_args, named_all}
use Rattle.asl_lower.proofs.Named.{compound_letters, compound_spot}
use Rattle.asl_lower.proofs.Declared.{IsGiven, given_declares, named_declares, same_declarations, same_first_call, same_known, count_args}

left_none : {A : Type 0} (xs ys : List A) → xs ++ ys ≡ [] → xs ≡ []
left_none [] ys e = refl
left_none (x ∷ xs) ys e = absurd cc

right_none : {A : Type 0} (xs ys : List A) → xs ++ ys ≡ [] → ys ≡ []
right_none [] ys e = e
right_none (x ∷ xs) ys e = absurd cc

none_both : {A : Type 0} {xs ys : List A} → xs ≡ [] → ys ≡ [] → xs ++ ys ≡ []
none_both {ys = ys} h k = ap (λ zs. zs ++ ys) h ∙ k

-- the same names, with other calls that begin alike
module _ (whole : Whole) (others : List (AbsolutePath × ℕ)) (same : (path : AbsolutePath) → lookup others path ≡ lookup whole.calls path) where
  abbrev after : Whole
  after = record { all = whole.all; known = whole.known; calls = others }

  abbrev N : Tree → AbsolutePath → Declarations → List NameError
  N t scope d = names whole t scope d

  abbrev N' : Tree → AbsolutePath → Declarations → List NameError
  N' t scope d = names after (named t) scope d

  call_same : (at : At) (name : Path) (n : ℕ) (scope : AbsolutePath) → call_errors after at name n scope ≡ call_errors whole at name n scope
  call_same at name n scope = by_path (denoted (is_named whole.all) name scope) refl
    where
      by_path : (o : Option AbsolutePath) → denoted (is_named whole.all) name scope ≡ o → call_errors after at name n scope ≡ call_errors whole at name n scope
      by_path None e = rw e
      by_path (Some path) e = rw (e, same path)

  cond_none : (t : Tree) (scope : AbsolutePath) (d : Declarations) → (N t scope d ≡ [] → N' t scope d ≡ []) → cond_errors whole t (N t scope d) scope ≡ [] → cond_errors after (named t) (N' t scope d) scope ≡ []
  cond_none (Use at name) scope d k h = h
  cond_none _ scope d k h = k h

  last_none : (n : ℕ) (t : Tree) (scope : AbsolutePath) (d : Declarations) → names after t scope d ≡ [] → names_all after (last_target n t) scope d ≡ []
  last_none zero t scope d h = refl
  last_none (suc zero) t scope d h = none_both h refl
  last_none (suc (suc n)) t scope d h = last_none (suc n) t scope d h

  two_none : (t u : Tree) (scope : AbsolutePath) (d : Declarations) → declare t scope d ≡ d → names after t scope d ≡ [] → names after u scope d ≡ [] → names_all after (tree t (tree u no_trees)) scope d ≡ []
  two_none t u scope d e h k = none_both h (none_both (ap (names after u scope) e ∙ k) refl)

  given_none : (t : Tree) (scope : AbsolutePath) (d : Declarations) → names after t scope d ≡ [] → names after (given t) scope d ≡ []
  given_none Omitted scope d h = refl
  given_none t scope d h = h

  assigned_none : (o : Option Plain) (args : Trees) (target value : Tree) (scope : AbsolutePath) (d : Declarations) → declare value scope d ≡ d → (IsGiven o → names_all after args scope d ≡ []) → names after value scope d ≡ [] → names after target scope d ≡ []
      → names after (assigned o args target value) scope d ≡ []
  assigned_none (Some op) args target value scope d e ha hv ht = none_both (ha tt) (last_none (row_of op).targets target scope d ht)
  assigned_none None args target value scope d e ha hv ht = none_both (two_none (given value) target scope d (given_declares value scope d ∙ e) (given_none value scope d hv) ht) refl

  assigned_by_none : (op : Compound) (target value : Tree) (scope : AbsolutePath) (d : Declarations) → declare target scope d ≡ d → names after target scope d ≡ [] → names after value scope d ≡ [] → names after (assigned_by op target value) scope d ≡ []
  assigned_by_none op target value scope d e ht hv =
      none_both (two_none (given target) (given value) scope d (given_declares target scope d ∙ e) (given_none target scope d ht) (given_none value scope d hv)) (last_none (row_of (compound_operator op)).targets target scope d ht)

  mutual
    value_names : (t : Tree) → is_value t ≡ true → (scope : AbsolutePath) (d : Declarations) → N t scope d ≡ [] → N' t scope d ≡ []
    value_names (Use at name) e scope d h = h
    value_names (Call at name args) e scope d h =
        let f = left_none (use_errors whole at name scope ++ call_errors whole at name (count args) scope) _ h in
        none_both (none_both (left_none (use_errors whole at name scope) _ f) (ap (λ n. call_errors after at name n scope) (count_args args) ∙ call_same at name (count args) scope ∙ right_none (use_errors whole at name scope) _ f))
        (values_names args e scope d (right_none (use_errors whole at name scope ++ call_errors whole at name (count args) scope) _ h))
    value_names (Apply op args targets) e scope d h =
        let vs = second_true (has_no_targets (spot_form op) targets) (are_values args && are_values targets) e in
        none_both (values_names args (first_true (are_values args) (are_values targets) vs) scope d (left_none (names_all whole args scope d) _ h))
        (values_names targets (second_true (are_values args) (are_values targets) vs) scope d (right_none (names_all whole args scope d) _ h))
    value_names (Operated op args) e scope d h = none_both (values_names args e scope d h) (last_none (row_of op).targets Omitted scope d refl)
    value_names (Assigned target value) e scope d h =
        let et = first_true (is_value target) (is_value value) e in
        let ev = second_true (is_value target) (is_value value) e in
        let hv = left_none (N value scope d) _ h in
        assigned_none (target_operator value) (inner_args value) (named target) (named value) scope d (named_declares value scope d ∙ undeclared value ev scope d) (λ some. inner_names value ev some scope d hv)
        (value_names value ev scope d hv) (value_names target et scope d (right_none (N value scope d) _ h))
    value_names (AssignedBy op target value) e scope d h =
        let et = first_true (is_value target) (is_value value) e in
        assigned_by_none op (named target) (named value) scope d (named_declares target scope d ∙ undeclared target et scope d) (value_names target et scope d (left_none (N target scope d) _ h))
        (value_names value (second_true (is_value target) (is_value value) e) scope d (right_none (N target scope d) _ h))
    value_names (Buffer size bytes) e scope d h = value_names size e scope d h
    value_names (Package n elements) e scope d h = values_names elements e scope d h
    value_names (VarPackage size elements) e scope d h =
        none_both (value_names size (first_true (is_value size) (are_values elements) e) scope d (left_none (N size scope d) _ h)) (values_names elements (second_true (is_value size) (are_values elements) e) scope d (right_none (N size scope d) _ h))
    value_names (CondRefOf place target) e scope d h =
        none_both (cond_none place scope d (λ k. value_names place (first_true (is_value place) (is_value target) e) scope d k) (left_none (cond_errors whole place (N place scope d) scope) _ h))
        (value_names target (second_true (is_value place) (is_value target) e) scope d (right_none (cond_errors whole place (N place scope d) scope) _ h))
    value_names (Return value) e scope d h = absurd cc
    value_names (Name at name value) e scope d h = absurd cc
    value_names (Alias from source at name) e scope d h = absurd cc
    value_names (External here at name type parameters) e scope d h = absurd cc
    value_names (Method at name flags body) e scope d h = absurd cc
    value_names (Mutex at name level) e scope d h = absurd cc
    value_names (Event at name) e scope d h = absurd cc
    value_names (Container' kind at name body) e scope d h = absurd cc
    value_names (Scope here at name body) e scope d h = absurd cc
    value_names (If test body) e scope d h = absurd cc
    value_names (ElseIf test body) e scope d h = absurd cc
    value_names (Else body) e scope d h = absurd cc
    value_names (While test body) e scope d h = absurd cc
    value_names (For start test step body) e scope d h = absurd cc
    value_names (Print place format args) e scope d h = absurd cc
    value_names (Switch value cases) e scope d h = absurd cc
    value_names (Case value body) e scope d h = absurd cc
    value_names (Default body) e scope d h = absurd cc
    value_names (OperationRegion at name space args) e scope d h = absurd cc
    value_names (Field here from region flags items) e scope d h = absurd cc
    value_names (IndexField here from index to register flags items) e scope d h = absurd cc
    value_names (BankField here from region to bank value flags items) e scope d h = absurd cc
    value_names (CreateField form args at name) e scope d h = absurd cc
    value_names _ e scope d h = refl

    inner_names : (value : Tree) → is_value value ≡ true → IsGiven (target_operator value) → (scope : AbsolutePath) (d : Declarations) → N value scope d ≡ [] → names_all after (inner_args value) scope d ≡ []
    inner_names (Operated op args) e some scope d h = values_names args e scope d h
    inner_names _ e some scope d h = absurd some

    values_names : (ts : Trees) → are_values ts ≡ true → (scope : AbsolutePath) (d : Declarations) → names_all whole ts scope d ≡ [] → names_all after (named_all ts) scope d ≡ []
    values_names no_trees e scope d h = refl
    values_names (tree t ts) e scope d h =
        none_both (value_names t (first_true (is_value t) (are_values ts) e) scope d (left_none (N t scope d) _ h))
        (ap (names_all after (named_all ts) scope) (named_declares t scope d) ∙ values_names ts (second_true (is_value t) (are_values ts) e) scope (declare t scope d) (right_none (N t scope d) _ h))

  items_none : (items : List (FieldItem UnitName)) (scope : AbsolutePath) (d : Declarations) → items_errors whole items scope d ≡ [] → items_errors after items scope d ≡ []
  items_none [] scope d h = refl
  items_none (item ∷ items) scope d h = none_both (item_none item (left_none _ _ h)) (items_none items scope _ (right_none (E.item_errors whole item scope d) _ h))
    where
      item_none : (item : FieldItem UnitName) → E.item_errors whole item scope d ≡ [] → E.item_errors after item scope d ≡ []
      item_none (UnitItem name bits) h = h
      item_none (SkipItem bits) h = refl
      item_none (OffsetItem bytes) h = refl
      item_none (AccessItem access attribute count) h = refl
      item_none (ConnectionItem (ToName at name)) h = h
      item_none (ConnectionItem (ToBytes bytes)) h = refl

  mutual
    term_names : (t : Tree) → is_term t ≡ true → (scope : AbsolutePath) (d : Declarations) → N t scope d ≡ [] → N' t scope d ≡ []
    term_names (Return value) e scope d h = value_names value e scope d h
    term_names (Name at name value) e scope d h = none_both (left_none (declared_errors whole at name scope d) _ h) (value_names value e scope d (right_none (declared_errors whole at name scope d) _ h))
    term_names (Alias from source at name) e scope d h = h
    term_names (External here at name type parameters) e scope d h = h
    term_names (Method at name flags body) e scope d h =
        none_both (left_none (declared_errors whole at name scope d) _ h) (list_names body e (declared_path name scope) (with_declared (declared_path name scope) (As (MethodObject flags)) d) (right_none (declared_errors whole at name scope d) _ h))
    term_names (Mutex at name level) e scope d h = h
    term_names (Event at name) e scope d h = h
    term_names (Container' kind at name body) e scope d h =
        none_both (left_none (declared_errors whole at name scope d) _ h) (list_names body e (declared_path name scope) (with_declared (declared_path name scope) (As (ContainerObject kind)) d) (right_none (declared_errors whole at name scope d) _ h))
    term_names (Scope here at name body) e scope d h =
        none_both (left_none (use_errors whole at name scope ++ scope_errors whole here at name scope d) _ h) (list_names body e (scope_path d name scope) d (right_none (use_errors whole at name scope ++ scope_errors whole here at name scope d) _ h))
    term_names (If test body) e scope d h =
        none_both (value_names test (first_true (is_value test) (are_terms body) e) scope d (left_none (N test scope d) _ h)) (list_names body (second_true (is_value test) (are_terms body) e) scope d (right_none (N test scope d) _ h))
    term_names (ElseIf test body) e scope d h =
        none_both (value_names test (first_true (is_value test) (are_terms body) e) scope d (left_none (N test scope d) _ h)) (list_names body (second_true (is_value test) (are_terms body) e) scope d (right_none (N test scope d) _ h))
    term_names (Else body) e scope d h = list_names body e scope d h
    term_names (While test body) e scope d h =
        none_both (value_names test (first_true (is_value test) (are_terms body) e) scope d (left_none (N test scope d) _ h)) (list_names body (second_true (is_value test) (are_terms body) e) scope d (right_none (N test scope d) _ h))
    term_names (For start test step body) e scope d h =
        let g = second_true (is_value start) (is_value test && (is_value step && are_terms body)) e in
        let f = second_true (is_value test) (is_value step && are_terms body) g in
        let k = right_none (N start scope d) _ h in
        let l = right_none (N test scope d) _ k in
        none_both (value_names start (first_true (is_value start) (is_value test && (is_value step && are_terms body)) e) scope d (left_none (N start scope d) _ h))
        (none_both (value_names test (first_true (is_value test) (is_value step && are_terms body) g) scope d (left_none (N test scope d) _ k))
        (none_both (value_names step (first_true (is_value step) (are_terms body) f) scope d (left_none (N step scope d) _ l)) (list_names body (second_true (is_value step) (are_terms body) f) scope d (right_none (N step scope d) _ l))))
    term_names (Print place format args) e scope d h =
        none_both (value_names place (first_true (is_value place) (are_values args) e) scope d (left_none (N place scope d) _ h)) (values_names args (second_true (is_value place) (are_values args) e) scope d (right_none (N place scope d) _ h))
    term_names (Switch value cases) e scope d h =
        none_both (value_names value (first_true (is_value value) (are_terms cases) e) scope d (left_none (N value scope d) _ h)) (list_names cases (second_true (is_value value) (are_terms cases) e) scope d (right_none (N value scope d) _ h))
    term_names (Case value body) e scope d h =
        none_both (value_names value (first_true (is_value value) (are_terms body) e) scope d (left_none (N value scope d) _ h)) (list_names body (second_true (is_value value) (are_terms body) e) scope d (right_none (N value scope d) _ h))
    term_names (Default body) e scope d h = list_names body e scope d h
    term_names (OperationRegion at name space args) e scope d h = none_both (left_none (declared_errors whole at name scope d) _ h) (values_names args e scope d (right_none (declared_errors whole at name scope d) _ h))
    term_names (Field here from region flags items) e scope d h = none_both (left_none (use_errors whole from region scope) _ h) (items_none items scope d (right_none (use_errors whole from region scope) _ h))
    term_names (IndexField here from index to register flags items) e scope d h =
        let k = right_none (use_errors whole from index scope) _ h in
        none_both (left_none (use_errors whole from index scope) _ h) (none_both (left_none (use_errors whole to register scope) _ k) (items_none items scope d (right_none (use_errors whole to register scope) _ k)))
    term_names (BankField here from region to bank value flags items) e scope d h =
        let k = right_none (use_errors whole from region scope) _ h in
        let l = right_none (use_errors whole to bank scope) _ k in
        none_both (left_none (use_errors whole from region scope) _ h) (none_both (left_none (use_errors whole to bank scope) _ k) (none_both (value_names value e scope d (left_none (N value scope d) _ l)) (items_none items scope d (right_none (N value scope d) _ l))))
    term_names (CreateField form args at name) e scope d h = none_both (values_names args e scope d (left_none (names_all whole args scope d) _ h)) (right_none (names_all whole args scope d) _ h)
    term_names (Use at name) e scope d h = h
    term_names (Call at name args) e scope d h = value_names (Call at name args) e scope d h
    term_names (Apply op args targets) e scope d h = value_names (Apply op args targets) e scope d h
    term_names (Operated op args) e scope d h = value_names (Operated op args) e scope d h
    term_names (Assigned target value) e scope d h = value_names (Assigned target value) e scope d h
    term_names (AssignedBy op target value) e scope d h = value_names (AssignedBy op target value) e scope d h
    term_names (Buffer size bytes) e scope d h = value_names (Buffer size bytes) e scope d h
    term_names (Package n elements) e scope d h = value_names (Package n elements) e scope d h
    term_names (VarPackage size elements) e scope d h = value_names (VarPackage size elements) e scope d h
    term_names (CondRefOf place target) e scope d h = value_names (CondRefOf place target) e scope d h
    term_names _ e scope d h = refl

    list_names : (ts : Trees) → are_terms ts ≡ true → (scope : AbsolutePath) (d : Declarations) → names_all whole ts scope d ≡ [] → names_all after (named_all ts) scope d ≡ []
    list_names no_trees e scope d h = refl
    list_names (tree t ts) e scope d h =
        none_both (term_names t (first_true (is_term t) (are_terms ts) e) scope d (left_none (N t scope d) _ h))
        (ap (names_all after (named_all ts) scope) (named_declares t scope d) ∙ list_names ts (second_true (is_term t) (are_terms ts) e) scope (declare t scope d) (right_none (N t scope d) _ h))

  -- ---- kinds and counts

  abbrev K : Tree → AbsolutePath → List NameError
  K t scope = types whole t scope

  abbrev K' : Tree → AbsolutePath → List NameError
  K' t scope = types after (named t) scope

  abbrev S : Tree → AbsolutePath → List NameError
  S t scope = spot_types whole t scope

  abbrev S' : Tree → AbsolutePath → List NameError
  S' t scope = spot_types after (named t) scope

  -- an expression whose kinds are right stands for a place whose kinds are right
  spot_right : (t : Tree) (scope : AbsolutePath) → K t scope ≡ [] → S t scope ≡ []
  spot_right (Apply (Plain.Data DataOp.Index) args targets) scope h = h
  spot_right (Apply (Plain.Data DataOp.DerefOf) no_trees targets) scope h = refl
  spot_right (Apply (Plain.Data DataOp.DerefOf) (tree t ts) targets) scope h = left_none (K t scope) _ (left_none (K t scope ++ []) _ h)
  spot_right (Operated (Plain.Data DataOp.Index) args) scope h = h
  spot_right (Operated (Plain.Data DataOp.DerefOf) no_trees) scope h = refl
  spot_right (Operated (Plain.Data DataOp.DerefOf) (tree t ts)) scope h = left_none (K t scope) _ h
  spot_right (Apply op args targets) scope h = refl
  spot_right (Operated op args) scope h = refl
  spot_right _ scope h = refl

  -- what is asked of a used name
  asked_right : (asked : Asked) (at : At) (name : Path) (scope : AbsolutePath) → asked_types whole asked at name scope ≡ [] → asked_types after asked at name scope ≡ []
  asked_right Anything at name scope h = refl
  asked_right AnObject at name scope h = refl
  asked_right AValue at name scope h = h
  asked_right AMutex at name scope h = h
  asked_right AnEvent at name scope h = h
  asked_right AUnit at name scope h = h
  asked_right (ARegion field) at name scope h = h

  used_right : (asked : Asked) (t : Tree) (scope : AbsolutePath) → used_types whole asked t scope ≡ [] → used_types after asked (named t) scope ≡ []
  used_right asked (Use at name) scope h = asked_right asked at name scope h
  used_right asked _ scope h = refl

  letter_right : (asked : Asked) (letter : Letter) (t : Tree) (scope : AbsolutePath) → (K t scope ≡ [] → K' t scope ≡ []) → (S t scope ≡ [] → S' t scope ≡ []) → letter_types whole letter (K t scope) (S t scope) (used_types whole asked t scope) ≡ [] → letter_types after letter (K' t scope) (S' t scope) (used_types after asked (named t) scope) ≡ []
  letter_right asked Valued t scope k s h = k h
  letter_right asked Kept t scope k s h = k h
  letter_right asked Placed t scope k s h = s h
  letter_right asked Used t scope k s h = used_right asked t scope h
  letter_right asked (L.Raw size) t scope k s h = refl

  form_right : (form : SpotForm) (a b a' b' : List NameError) → (a ≡ [] → a' ≡ []) → (b ≡ [] → b' ≡ []) → spot_form_types whole form a b ≡ [] → spot_form_types after form a' b' ≡ []
  form_right OfResult a b a' b' f g h = f h
  form_right OfInside a b a' b' f g h = g h
  form_right NoSpot a b a' b' f g h = refl

  element_right : (t : Tree) (scope : AbsolutePath) → (K t scope ≡ [] → K' t scope ≡ []) → element_types whole t (K t scope) ≡ [] → element_types after (named t) (K' t scope) ≡ []
  element_right (Use at name) scope k h = refl
  element_right _ scope k h = k h

  last_right : (n : ℕ) (t : Tree) (scope : AbsolutePath) → spot_types after t scope ≡ [] → spot_types_all after (last_target n t) scope ≡ []
  last_right zero t scope h = refl
  last_right (suc zero) t scope h = none_both h refl
  last_right (suc (suc n)) t scope h = last_right (suc n) t scope h

  given_right : (t : Tree) (scope : AbsolutePath) → types after t scope ≡ [] → types after (given t) scope ≡ []
  given_right Omitted scope h = refl
  given_right t scope h = h

  assigned_right : (o : Option Plain) (args : Trees) (target value : Tree) (scope : AbsolutePath) → ((op : Plain) → o ≡ Some op → operand_types after (asked_by op) (row_of op).operands args scope ≡ []) → types after value scope ≡ [] → spot_types after target scope ≡ []
      → types after (assigned o args target value) scope ≡ []
  assigned_right (Some op) args target value scope ha hv ht = none_both (ha op refl) (last_right (row_of op).targets target scope ht)
  assigned_right None args target value scope ha hv ht = none_both (none_both (given_right value scope hv) (none_both ht refl)) refl

  assigned_by_right : (op : Compound) (target value : Tree) (scope : AbsolutePath) → types after target scope ≡ [] → types after value scope ≡ [] → spot_types after target scope ≡ [] → types after (assigned_by op target value) scope ≡ []
  assigned_by_right op target value scope ht hv hs =
      none_both (ap (λ letters. operand_types after (asked_by (compound_operator op)) letters (tree (given target) (tree (given value) no_trees)) scope) (compound_letters op) ∙ none_both (given_right target scope ht) (none_both (given_right value scope hv) refl))
      (last_right (row_of (compound_operator op)).targets target scope hs)

  -- an assignment stands for no place
  assigned_nowhere : (target value : Tree) (scope : AbsolutePath) → spot_types after (named (Assigned target value)) scope ≡ []
  assigned_nowhere target value scope = by_option (target_operator value) (target_nowhere value)
    where
      NoPlaceIn : Option Plain → Type 0
      NoPlaceIn None = Unit {0}
      NoPlaceIn (Some op) = spot_form op ≡ NoSpot

      by_takes : (op : Plain) (c : Bool) → spot_form op ≡ NoSpot → NoPlaceIn (if c then Some op else None)
      by_takes op true e = e
      by_takes op false e = tt

      target_nowhere : (value : Tree) → NoPlaceIn (target_operator value)
      target_nowhere (Operated (Plain.Number op) args) = by_takes (Plain.Number op) (takes_target (Plain.Number op)) refl
      target_nowhere (Operated (Plain.Data op) args) = tt
      target_nowhere (Operated (Plain.Event op) args) = tt
      target_nowhere _ = tt

      by_option : (o : Option Plain) → NoPlaceIn o → spot_types after (assigned o (inner_args value) (named target) (named value)) scope ≡ []
      by_option None e = refl
      by_option (Some op) e = ap (λ form. spot_form_types after form (operand_types after (asked_by op) (row_of op).operands (inner_args value) scope ++ spot_types_all after (last_target (row_of op).targets (named target)) scope) (first_types after (inner_args value) scope)) e

  assigned_by_nowhere : (op : Compound) (target value : Tree) (scope : AbsolutePath) → spot_types after (assigned_by op target value) scope ≡ []
  assigned_by_nowhere op target value scope =
      let o = compound_operator op in
      let ts = tree (given target) (tree (given value) no_trees) in
      ap (λ form. spot_form_types after form (operand_types after (asked_by o) (row_of o).operands ts scope ++ spot_types_all after (last_target (row_of o).targets target) scope) (first_types after ts scope)) (compound_spot op)

  operator_is : (symbol op : Plain) (c : Bool) → (if c then Some symbol else None) ≡ Some op → symbol ≡ op
  operator_is symbol op true e = ap (λ o. choose o symbol (λ p. p)) e
  operator_is symbol op false e = absurd cc

  mutual
    types_right : (t : Tree) (scope : AbsolutePath) → K t scope ≡ [] → K' t scope ≡ []
    types_right (Use at name) scope h = h
    types_right (Call at name args) scope h =
        let count_right = left_none (E.unless (E.takes (count args) (E.name_end whole name scope)) (E.WrongCount at name)) _ h in
        none_both (ap (λ n. E.unless (E.takes n (E.name_end whole name scope)) (E.WrongCount at name)) (count_args args) ∙ count_right)
        (args_right args scope (right_none (E.unless (E.takes (count args) (E.name_end whole name scope)) (E.WrongCount at name)) _ h))
    types_right (Apply op args targets) scope h =
        none_both (operands_right (asked_by op) (row_of op).operands args scope (left_none (operand_types whole (asked_by op) (row_of op).operands args scope) _ h)) (spots_right targets scope (right_none (operand_types whole (asked_by op) (row_of op).operands args scope) _ h))
    types_right (Operated op args) scope h = none_both (operands_right (asked_by op) (row_of op).operands args scope h) (last_right (row_of op).targets Omitted scope refl)
    types_right (Assigned target value) scope h =
        let hv = left_none (K value scope) _ h in
        assigned_right (target_operator value) (inner_args value) (named target) (named value) scope (λ op e. inner_right op value scope e hv) (types_right value scope hv) (spot_types_right target scope (right_none (K value scope) _ h))
    types_right (AssignedBy op target value) scope h =
        let ht = left_none (K target scope) _ h in
        assigned_by_right op (named target) (named value) scope (types_right target scope ht) (types_right value scope (right_none (K target scope) _ h)) (spot_types_right target scope (spot_right target scope ht))
    types_right (Buffer size bytes) scope h = types_right size scope h
    types_right (Package n elements) scope h = elements_right elements scope h
    types_right (VarPackage size elements) scope h = none_both (types_right size scope (left_none (K size scope) _ h)) (elements_right elements scope (right_none (K size scope) _ h))
    types_right (CondRefOf place target) scope h = none_both (spot_types_right place scope (left_none (S place scope) _ h)) (spot_types_right target scope (right_none (S place scope) _ h))
    types_right (If test body) scope h = none_both (types_right test scope (left_none (K test scope) _ h)) (list_right body scope (right_none (K test scope) _ h))
    types_right (ElseIf test body) scope h = none_both (types_right test scope (left_none (K test scope) _ h)) (list_right body scope (right_none (K test scope) _ h))
    types_right (Else body) scope h = list_right body scope h
    types_right (While test body) scope h = none_both (types_right test scope (left_none (K test scope) _ h)) (list_right body scope (right_none (K test scope) _ h))
    types_right (For start test step body) scope h =
        let k = right_none (K start scope) _ h in
        let l = right_none (K test scope) _ k in
        none_both (types_right start scope (left_none (K start scope) _ h)) (none_both (types_right test scope (left_none (K test scope) _ k)) (none_both (types_right step scope (left_none (K step scope) _ l)) (list_right body scope (right_none (K step scope) _ l))))
    types_right (Print place format args) scope h = none_both (spot_types_right place scope (left_none (S place scope) _ h)) (args_right args scope (right_none (S place scope) _ h))
    types_right (Switch value cases) scope h = none_both (types_right value scope (left_none (K value scope) _ h)) (list_right cases scope (right_none (K value scope) _ h))
    types_right (Case value body) scope h = none_both (types_right value scope (left_none (K value scope) _ h)) (list_right body scope (right_none (K value scope) _ h))
    types_right (Default body) scope h = list_right body scope h
    types_right (OperationRegion at name space args) scope h = operands_right Anything region_letters args scope h
    types_right (Field here from region flags items) scope h = h
    types_right (IndexField here from index to register flags items) scope h = h
    types_right (BankField here from region to bank value flags items) scope h =
        let k = right_none (asked_types whole (ARegion here) from region scope) _ h in
        none_both (left_none (asked_types whole (ARegion here) from region scope) _ h) (none_both (left_none (asked_types whole AUnit to bank scope) _ k) (types_right value scope (right_none (asked_types whole AUnit to bank scope) _ k)))
    types_right (CreateField form args at name) scope h = operands_right Anything (field_letters form) args scope h
    types_right (Return value) scope h = types_right value scope h
    types_right (Name at name value) scope h = types_right value scope h
    types_right (Method at name flags body) scope h = list_right body (declared_path name scope) h
    types_right (Container' kind at name body) scope h = list_right body (declared_path name scope) h
    types_right (Scope here at name body) scope h = list_right body (choose (denoted (is_named whole.all) name scope) [] (λ path. path)) h
    types_right _ scope h = refl

    inner_right : (op : Plain) (value : Tree) (scope : AbsolutePath) → target_operator value ≡ Some op → K value scope ≡ [] → operand_types after (asked_by op) (row_of op).operands (inner_args value) scope ≡ []
    inner_right op (Operated symbol args) scope e h =
        subst (λ o. operand_types after (asked_by o) (row_of o).operands (named_all args) scope ≡ []) (operator_is symbol op (takes_target symbol) e) (operands_right (asked_by symbol) (row_of symbol).operands args scope h)
    inner_right op _ scope e h = absurd cc

    spot_types_right : (t : Tree) (scope : AbsolutePath) → S t scope ≡ [] → S' t scope ≡ []
    spot_types_right (Apply op args targets) scope h =
        form_right (spot_form op) _ _ _ _
        (λ k. none_both (operands_right (asked_by op) (row_of op).operands args scope (left_none (operand_types whole (asked_by op) (row_of op).operands args scope) _ k)) (spots_right targets scope (right_none (operand_types whole (asked_by op) (row_of op).operands args scope) _ k)))
        (λ k. first_right args scope k) h
    spot_types_right (Operated op args) scope h =
        form_right (spot_form op) _ _ _ _ (λ k. none_both (operands_right (asked_by op) (row_of op).operands args scope k) (last_right (row_of op).targets Omitted scope refl)) (λ k. first_right args scope k) h
    spot_types_right (Assigned target value) scope h = assigned_nowhere target value scope
    spot_types_right (AssignedBy op target value) scope h = assigned_by_nowhere op (named target) (named value) scope
    spot_types_right _ scope h = refl

    first_right : (ts : Trees) (scope : AbsolutePath) → first_types whole ts scope ≡ [] → first_types after (named_all ts) scope ≡ []
    first_right no_trees scope h = refl
    first_right (tree t ts) scope h = types_right t scope h

    operands_right : (asked : Asked) (letters : List Letter) (ts : Trees) (scope : AbsolutePath) → operand_types whole asked letters ts scope ≡ [] → operand_types after asked letters (named_all ts) scope ≡ []
    operands_right asked [] ts scope h = refl
    operands_right asked (letter ∷ letters) no_trees scope h = refl
    operands_right asked (letter ∷ letters) (tree t ts) scope h =
        let here = letter_types whole letter (K t scope) (S t scope) (used_types whole asked t scope) in
        none_both (letter_right asked letter t scope (λ k. types_right t scope k) (λ k. spot_types_right t scope k) (left_none here _ h)) (operands_right asked letters ts scope (right_none here _ h))

    spots_right : (ts : Trees) (scope : AbsolutePath) → spot_types_all whole ts scope ≡ [] → spot_types_all after (named_all ts) scope ≡ []
    spots_right no_trees scope h = refl
    spots_right (tree t ts) scope h = none_both (spot_types_right t scope (left_none (S t scope) _ h)) (spots_right ts scope (right_none (S t scope) _ h))

    elements_right : (ts : Trees) (scope : AbsolutePath) → element_types_all whole ts scope ≡ [] → element_types_all after (named_all ts) scope ≡ []
    elements_right no_trees scope h = refl
    elements_right (tree t ts) scope h =
        none_both (element_right t scope (λ k. types_right t scope k) (left_none (element_types whole t (K t scope)) _ h)) (elements_right ts scope (right_none (element_types whole t (K t scope)) _ h))

    args_right : (ts : Trees) (scope : AbsolutePath) → types_all whole ts scope ≡ [] → types_all after (named_all ts) scope ≡ []
    args_right no_trees scope h = refl
    args_right (tree t ts) scope h = none_both (types_right t scope (left_none (K t scope) _ h)) (args_right ts scope (right_none (K t scope) _ h))

    list_right : (ts : Trees) (scope : AbsolutePath) → types_all whole ts scope ≡ [] → types_all after (named_all ts) scope ≡ []
    list_right no_trees scope h = refl
    list_right (tree t ts) scope h = none_both (types_right t scope (left_none (K t scope) _ h)) (list_right ts scope (right_none (K t scope) _ h))

-- the calls of a program with its operators named
abbrev named_calls : Trees → List (AbsolutePath × ℕ)
named_calls program = called (calls_all (is_named (declarations program)) (named_all program) [] nothing_declared)

whole_named : (program : Trees) → are_terms program ≡ true → whole_of (named_all program) ≡ record { all = declarations program; known = known_of program; calls = named_calls program }
whole_named program e =
    ap (λ d. record { all = d; known = known_of (named_all program); calls = called (calls_all (is_named d) (named_all program) [] nothing_declared) }) (same_declarations program)
    ∙ ap (λ known. record { all = declarations program; known = known; calls = named_calls program }) (same_known program e)

-- a program without errors of names has none with its operators named
pub no_name_errors : (program : Trees) → are_terms program ≡ true → name_errors program ≡ [] → name_errors (named_all program) ≡ []
no_name_errors program e h =
    ap (λ whole. names_all whole (named_all program) [] nothing_declared) (whole_named program e)
    ∙ list_names (whole_of program) (named_calls program) (λ path. same_first_call program e (is_named (declarations program)) path) program e [] nothing_declared h

-- the same of kinds and counts
pub no_type_errors : (program : Trees) → are_terms program ≡ true → type_errors program ≡ [] → type_errors (named_all program) ≡ []
no_type_errors program e h =
    ap (λ whole. types_all whole (named_all program) []) (whole_named program e)
    ∙ list_right (whole_of program) (named_calls program) (λ path. same_first_call program e (is_named (declarations program)) path) program [] h
