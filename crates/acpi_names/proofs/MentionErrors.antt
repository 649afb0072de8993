-- The errors of a block's names, and its calls, are those of its mentions.
use Rattle.std.proofs.Common.{◌≡◌, ℕ, Bool, true, false, List, [], ◌∷◌, ◌++◌, Option, refl, sym, ap, ◌∙◌, append_assoc, arith}
use Rattle.std.specs.Prelude.{◌&&◌, not}
use Rattle.acpi_values.specs.Paths.{AbsolutePath}
use Rattle.acpi_values.specs.Operators.{Letter, Used, row_of}
use Rattle.acpi_state.specs.Objects.{MethodObject, ContainerObject, DataObject, RegionObject}
use Rattle.acpi_state.specs.FieldActs.{region_letters, field_letters}
use Rattle.asl_tree.specs.FieldItems.{FieldItem, UnitItem, SkipItem, OffsetItem, AccessItem, ConnectionItem, ToName, ToBytes}
use Rattle.asl_tree.specs.Names.{declared_path, denoted}
use Rattle.asl_tree.specs.Tree.{Tree, Use, Call, Apply, Buffer, Package, VarPackage, CondRefOf, Return, Name, Alias, External, Method, Mutex, Event, Container', Scope, Trees, no_trees, tree, count, OperationRegion, Field, IndexField, BankField, CreateField, UnitName, If, ElseIf, Else, While, For, Print, Operated, Assigned, AssignedBy, Switch, Case, Default}
use Rattle.asl_meaning.specs.Declarations.{as_unit, as_buffer_field, As, Declarations, with_declared, scope_path, declare, calls, calls_all}
use Rattle.asl_meaning.specs.Meaning.{spot_form}
use Rattle.acpi_names.specs.Errors.{NameError, Asked, Anything, Whole, names, names_all, items_errors, cond_errors, use_errors, call_errors, declared_errors, scope_errors, unit_path}
use Rattle.acpi_names.specs.Terms.{is_value, are_values, is_term, are_terms, has_no_targets}
use Rattle.acpi_names.specs.Mentions.{Mention, Declares, is_spot, is_use, asks, asked_use, letter_mention, cond_place, mentions, mentions_all, operand_mentions, target_mentions, element_mentions, item_mentions, term_mentions, block_mentions, after, after_all, call_in, calls_in, mention_errors, all_errors}
use Rattle.acpi_names.proofs.Mentions.{right_nil, first_true, second_true, quiet, quiet_operands, letter_quiet, cond_quiet, after_term}

-- an expression declares nothing
pub undeclared : (t : Tree) → is_value t ≡ true → (scope : AbsolutePath) (d : Declarations) → declare t scope d ≡ d
undeclared (Name at name value) e scope d = absurd (grind arith)
undeclared (Alias from source at name) e scope d = absurd (grind arith)
undeclared (External here at name type parameters) e scope d = absurd (grind arith)
undeclared (Method at name flags body) e scope d = absurd (grind arith)
undeclared (Mutex at name level) e scope d = absurd (grind arith)
undeclared (Event at name) e scope d = absurd (grind arith)
undeclared (Container' kind at name body) e scope d = absurd (grind arith)
undeclared (Scope here at name body) e scope d = absurd (grind arith)
undeclared (If test body) e scope d = absurd (grind arith)
undeclared (ElseIf test body) e scope d = absurd (grind arith)
undeclared (Else body) e scope d = absurd (grind arith)
undeclared (While test body) e scope d = absurd (grind arith)
undeclared (For start test step body) e scope d = absurd (grind arith)
undeclared (Print place format args) e scope d = absurd (grind arith)
undeclared (Switch value cases) e scope d = absurd (grind arith)
undeclared (Case value body) e scope d = absurd (grind arith)
undeclared (Default body) e scope d = absurd (grind arith)
undeclared (OperationRegion at name space args) e scope d = absurd (grind arith)
undeclared (Field here from region flags items) e scope d = absurd (grind arith)
undeclared (IndexField here from index to register flags items) e scope d = absurd (grind arith)
undeclared (BankField here from region to bank value flags items) e scope d = absurd (grind arith)
undeclared (CreateField form args at name) e scope d = absurd (grind arith)
undeclared t e scope d = refl

module _ (whole : Whole) where
  errors_append : (a b : List Mention) (d : Declarations) → all_errors whole (a ++ b) d ≡ all_errors whole a d ++ all_errors whole b (after_all a d)
  errors_append [] b d = refl
  errors_append (m ∷ a) b d =
      ap (λ es. mention_errors whole m d ++ es) (errors_append a b (after m d)) ∙ sym (append_assoc (mention_errors whole m d) (all_errors whole a (after m d)) (all_errors whole b (after_all a (after m d))))

  -- of two lists, of which the first declares nothing
  errors_both : (a b : List Mention) (d : Declarations) (xs ys : List NameError) → after_all a d ≡ d → xs ≡ all_errors whole a d → ys ≡ all_errors whole b d → xs ++ ys ≡ all_errors whole (a ++ b) d
  errors_both a b d xs ys q h k =
      ap (λ es. es ++ ys) h ∙ ap (λ es. all_errors whole a d ++ es) (k ∙ ap (all_errors whole b) (sym q)) ∙ sym (errors_append a b d)

  cond_same : (t : Tree) (ms : List Mention) (errors : List NameError) (scope : AbsolutePath) (d c : Declarations) → errors ≡ all_errors whole ms c → cond_errors whole t errors scope ≡ all_errors whole (cond_place t ms scope) c
  cond_same (Use at name) ms errors scope d c h = sym (right_nil _)
  cond_same t ms errors scope d c h = h

  letter_errors : (letter : Letter) (uses : Asked) (t : Tree) (ms : List Mention) (scope : AbsolutePath) (d c : Declarations) → names whole t scope d ≡ all_errors whole ms c → names whole t scope d ≡ all_errors whole (letter_mention letter uses t ms scope) c
  letter_errors Used uses (Use at name) ms scope d c h = sym (right_nil _)
  letter_errors letter uses t ms scope d c h = h

  mutual
    value_errors : (asked : Bool) (t : Tree) → is_value t ≡ true → (scope : AbsolutePath) (d c : Declarations) → names whole t scope d ≡ all_errors whole (mentions asked t scope) c
    value_errors asked (Use at name) e scope d c = sym (right_nil _)
    value_errors asked (Call at name args) e scope d c =
        ap (λ es. (use_errors whole at name scope ++ call_errors whole at name (count args) scope) ++ es) (values_errors asked args e scope d c)
    value_errors asked (Apply op args targets) e scope d c =
        let vs = second_true (has_no_targets (spot_form op) targets) (are_values args && are_values targets) e in
        errors_both (operand_mentions asked (asked_use asked op) (row_of op).operands args scope) (target_mentions asked targets scope) c (names_all whole args scope d) (names_all whole targets scope d) (quiet_operands asked (asked_use asked op) (row_of op).operands args scope c)
        (operands_errors asked (asked_use asked op) (row_of op).operands args (first_true (are_values args) (are_values targets) vs) scope d c)
        (targets_errors asked targets (second_true (are_values args) (are_values targets) vs) scope d c)
    value_errors asked (Operated op args) e scope d c = operands_errors asked (asked_use asked op) (row_of op).operands args e scope d c
    value_errors asked (Assigned target value) e scope d c =
        errors_both (mentions asked value scope) (mentions (asked && is_spot target) target scope) c (names whole value scope d) (names whole target scope d) (quiet asked value scope c)
        (value_errors asked value (second_true (is_value target) (is_value value) e) scope d c)
        (value_errors (asked && is_spot target) target (first_true (is_value target) (is_value value) e) scope d c)
    value_errors asked (AssignedBy op target value) e scope d c =
        errors_both (mentions asked target scope) (mentions asked value scope) c (names whole target scope d) (names whole value scope d) (quiet asked target scope c)
        (value_errors asked target (first_true (is_value target) (is_value value) e) scope d c)
        (value_errors asked value (second_true (is_value target) (is_value value) e) scope d c)
    value_errors asked (Buffer size bytes) e scope d c = value_errors asked size e scope d c
    value_errors asked (Package n elements) e scope d c = elements_errors asked elements e scope d c
    value_errors asked (VarPackage size elements) e scope d c =
        errors_both (mentions asked size scope) (element_mentions asked elements scope) c (names whole size scope d) (names_all whole elements scope d) (quiet asked size scope c)
        (value_errors asked size (first_true (is_value size) (are_values elements) e) scope d c)
        (elements_errors asked elements (second_true (is_value size) (are_values elements) e) scope d c)
    value_errors asked (CondRefOf place target) e scope d c =
        let ms = mentions (asked && is_spot place) place scope in
        errors_both (cond_place place ms scope) (mentions (asked && is_spot target) target scope) c (cond_errors whole place (names whole place scope d) scope) (names whole target scope d) (cond_quiet place ms scope c (quiet (asked && is_spot place) place scope c))
        (cond_same place ms (names whole place scope d) scope d c (value_errors (asked && is_spot place) place (first_true (is_value place) (is_value target) e) scope d c))
        (value_errors (asked && is_spot target) target (second_true (is_value place) (is_value target) e) scope d c)
    value_errors asked (Return value) e scope d c = absurd (grind arith)
    value_errors asked (Name at name value) e scope d c = absurd (grind arith)
    value_errors asked (Alias from source at name) e scope d c = absurd (grind arith)
    value_errors asked (External here at name type parameters) e scope d c = absurd (grind arith)
    value_errors asked (Method at name flags body) e scope d c = absurd (grind arith)
    value_errors asked (Mutex at name level) e scope d c = absurd (grind arith)
    value_errors asked (Event at name) e scope d c = absurd (grind arith)
    value_errors asked (Container' kind at name body) e scope d c = absurd (grind arith)
    value_errors asked (Scope here at name body) e scope d c = absurd (grind arith)
    value_errors asked (If test body) e scope d c = absurd (grind arith)
    value_errors asked (ElseIf test body) e scope d c = absurd (grind arith)
    value_errors asked (Else body) e scope d c = absurd (grind arith)
    value_errors asked (While test body) e scope d c = absurd (grind arith)
    value_errors asked (For start test step body) e scope d c = absurd (grind arith)
    value_errors asked (Print place format args) e scope d c = absurd (grind arith)
    value_errors asked (Switch value cases) e scope d c = absurd (grind arith)
    value_errors asked (Case value body) e scope d c = absurd (grind arith)
    value_errors asked (Default body) e scope d c = absurd (grind arith)
    value_errors asked (OperationRegion at name space args) e scope d c = absurd (grind arith)
    value_errors asked (Field here from region flags items) e scope d c = absurd (grind arith)
    value_errors asked (IndexField here from index to register flags items) e scope d c = absurd (grind arith)
    value_errors asked (BankField here from region to bank value flags items) e scope d c = absurd (grind arith)
    value_errors asked (CreateField form args at name) e scope d c = absurd (grind arith)
    value_errors asked _ e scope d c = refl

    values_errors : (asked : Bool) (ts : Trees) → are_values ts ≡ true → (scope : AbsolutePath) (d c : Declarations) → names_all whole ts scope d ≡ all_errors whole (mentions_all asked ts scope) c
    values_errors asked no_trees e scope d c = refl
    values_errors asked (tree t ts) e scope d c =
        let h = first_true (is_value t) (are_values ts) e in
        let k = second_true (is_value t) (are_values ts) e in
        ap (λ d'. names whole t scope d ++ names_all whole ts scope d') (undeclared t h scope d)
        ∙ errors_both (mentions asked t scope) (mentions_all asked ts scope) c (names whole t scope d) (names_all whole ts scope d) (quiet asked t scope c) (value_errors asked t h scope d c) (values_errors asked ts k scope d c)

    operands_errors : (asked : Bool) (uses : Asked) (letters : List Letter) (ts : Trees) → are_values ts ≡ true → (scope : AbsolutePath) (d c : Declarations) → names_all whole ts scope d ≡ all_errors whole (operand_mentions asked uses letters ts scope) c
    operands_errors asked uses letters no_trees e scope d c = refl
    operands_errors asked uses [] (tree t ts) e scope d c =
        let h = first_true (is_value t) (are_values ts) e in
        let k = second_true (is_value t) (are_values ts) e in
        ap (λ d'. names whole t scope d ++ names_all whole ts scope d') (undeclared t h scope d)
        ∙ errors_both (mentions false t scope) (operand_mentions asked uses [] ts scope) c (names whole t scope d) (names_all whole ts scope d) (quiet false t scope c) (value_errors false t h scope d c) (operands_errors asked uses [] ts k scope d c)
    operands_errors asked uses (letter ∷ letters) (tree t ts) e scope d c =
        let h = first_true (is_value t) (are_values ts) e in
        let k = second_true (is_value t) (are_values ts) e in
        ap (λ d'. names whole t scope d ++ names_all whole ts scope d') (undeclared t h scope d)
        ∙ errors_both (letter_mention letter uses t (mentions (asked && asks letter t) t scope) scope) (operand_mentions asked uses letters ts scope) c (names whole t scope d) (names_all whole ts scope d) (letter_quiet letter uses t _ scope c (quiet (asked && asks letter t) t scope c))
        (letter_errors letter uses t _ scope d c (value_errors (asked && asks letter t) t h scope d c)) (operands_errors asked uses letters ts k scope d c)

    targets_errors : (asked : Bool) (ts : Trees) → are_values ts ≡ true → (scope : AbsolutePath) (d c : Declarations) → names_all whole ts scope d ≡ all_errors whole (target_mentions asked ts scope) c
    targets_errors asked no_trees e scope d c = refl
    targets_errors asked (tree t ts) e scope d c =
        let h = first_true (is_value t) (are_values ts) e in
        let k = second_true (is_value t) (are_values ts) e in
        ap (λ d'. names whole t scope d ++ names_all whole ts scope d') (undeclared t h scope d)
        ∙ errors_both (mentions (asked && is_spot t) t scope) (target_mentions asked ts scope) c (names whole t scope d) (names_all whole ts scope d) (quiet (asked && is_spot t) t scope c) (value_errors (asked && is_spot t) t h scope d c) (targets_errors asked ts k scope d c)

    elements_errors : (asked : Bool) (ts : Trees) → are_values ts ≡ true → (scope : AbsolutePath) (d c : Declarations) → names_all whole ts scope d ≡ all_errors whole (element_mentions asked ts scope) c
    elements_errors asked no_trees e scope d c = refl
    elements_errors asked (tree t ts) e scope d c =
        let h = first_true (is_value t) (are_values ts) e in
        let k = second_true (is_value t) (are_values ts) e in
        ap (λ d'. names whole t scope d ++ names_all whole ts scope d') (undeclared t h scope d)
        ∙ errors_both (mentions (asked && not (is_use t)) t scope) (element_mentions asked ts scope) c (names whole t scope d) (names_all whole ts scope d) (quiet (asked && not (is_use t)) t scope c) (value_errors (asked && not (is_use t)) t h scope d c) (elements_errors asked ts k scope d c)

  items_same : (items : List (FieldItem UnitName)) (scope : AbsolutePath) (d : Declarations) → items_errors whole items scope d ≡ all_errors whole (item_mentions items scope) d
  items_same [] scope d = refl
  items_same (UnitItem name bits ∷ items) scope d =
      ap (λ es. declared_errors whole name.at (unit_path name.segment) scope d ++ es) (items_same items scope (with_declared (name.segment ∷ scope) as_unit d))
  items_same (SkipItem bits ∷ items) scope d = items_same items scope d
  items_same (OffsetItem bytes ∷ items) scope d = items_same items scope d
  items_same (AccessItem access attribute length ∷ items) scope d = items_same items scope d
  items_same (ConnectionItem (ToName at name) ∷ items) scope d = ap (λ es. use_errors whole at name scope ++ es) (items_same items scope d)
  items_same (ConnectionItem (ToBytes bytes) ∷ items) scope d = items_same items scope d

  -- a list of mentions behind one that is declared
  errors_then : (a b : List Mention) (d e : Declarations) (xs ys : List NameError) → after_all a d ≡ e → xs ≡ all_errors whole a d → ys ≡ all_errors whole b e → xs ++ ys ≡ all_errors whole (a ++ b) d
  errors_then a b d e xs ys q h k =
      ap (λ es. es ++ ys) h ∙ ap (λ es. all_errors whole a d ++ es) (k ∙ ap (all_errors whole b) (sym q)) ∙ sym (errors_append a b d)

  mutual
    term_errors : (t : Tree) → is_term t ≡ true → (scope : AbsolutePath) (d : Declarations) → names whole t scope d ≡ all_errors whole (term_mentions t scope d) d
    term_errors (Return value) e scope d = value_errors true value e scope d d
    term_errors (Name at name value) e scope d =
        ap (λ es. declared_errors whole at name scope d ++ es) (value_errors true value e scope d (with_declared (declared_path name scope) (As DataObject) d))
    term_errors (Alias from source at name) e scope d = ap (λ es. use_errors whole from source scope ++ es) (sym (right_nil (declared_errors whole at name scope d)))
    term_errors (External here at name type parameters) e scope d = sym (right_nil _)
    term_errors (Method at name flags body) e scope d =
        ap (λ es. declared_errors whole at name scope d ++ es) (block_errors body e (declared_path name scope) (with_declared (declared_path name scope) (As (MethodObject flags)) d))
    term_errors (Mutex at name level) e scope d = sym (right_nil _)
    term_errors (Event at name) e scope d = sym (right_nil _)
    term_errors (Container' kind at name body) e scope d =
        ap (λ es. declared_errors whole at name scope d ++ es) (block_errors body e (declared_path name scope) (with_declared (declared_path name scope) (As (ContainerObject kind)) d))
    term_errors (Scope here at name body) e scope d =
        ap (λ es. (use_errors whole at name scope ++ scope_errors whole here at name scope d) ++ es) (block_errors body e (scope_path d name scope) d)
    term_errors (If test body) e scope d =
        errors_both (mentions true test scope) (block_mentions body scope d) d (names whole test scope d) (names_all whole body scope d) (quiet true test scope d) (value_errors true test (first_true (is_value test) (are_terms body) e) scope d d) (block_errors body (second_true (is_value test) (are_terms body) e) scope d)
    term_errors (ElseIf test body) e scope d =
        errors_both (mentions true test scope) (block_mentions body scope d) d (names whole test scope d) (names_all whole body scope d) (quiet true test scope d) (value_errors true test (first_true (is_value test) (are_terms body) e) scope d d) (block_errors body (second_true (is_value test) (are_terms body) e) scope d)
    term_errors (Else body) e scope d = block_errors body e scope d
    term_errors (While test body) e scope d =
        errors_both (mentions true test scope) (block_mentions body scope d) d (names whole test scope d) (names_all whole body scope d) (quiet true test scope d) (value_errors true test (first_true (is_value test) (are_terms body) e) scope d d) (block_errors body (second_true (is_value test) (are_terms body) e) scope d)
    term_errors (For start test step body) e scope d =
        let h = second_true (is_value start) (is_value test && (is_value step && are_terms body)) e in
        let k = second_true (is_value test) (is_value step && are_terms body) h in
        errors_both (mentions true start scope) (mentions true test scope ++ (mentions true step scope ++ block_mentions body scope d)) d (names whole start scope d) (names whole test scope d ++ (names whole step scope d ++ names_all whole body scope d)) (quiet true start scope d)
        (value_errors true start (first_true (is_value start) (is_value test && (is_value step && are_terms body)) e) scope d d)
        (errors_both (mentions true test scope) (mentions true step scope ++ block_mentions body scope d) d (names whole test scope d) (names whole step scope d ++ names_all whole body scope d) (quiet true test scope d) (value_errors true test (first_true (is_value test) (is_value step && are_terms body) h) scope d d)
        (errors_both (mentions true step scope) (block_mentions body scope d) d (names whole step scope d) (names_all whole body scope d) (quiet true step scope d) (value_errors true step (first_true (is_value step) (are_terms body) k) scope d d) (block_errors body (second_true (is_value step) (are_terms body) k) scope d)))
    term_errors (Print place format args) e scope d =
        errors_both (mentions (is_spot place) place scope) (mentions_all true args scope) d (names whole place scope d) (names_all whole args scope d) (quiet (is_spot place) place scope d)
        (value_errors (is_spot place) place (first_true (is_value place) (are_values args) e) scope d d) (values_errors true args (second_true (is_value place) (are_values args) e) scope d d)
    term_errors (Switch value cases) e scope d =
        errors_both (mentions true value scope) (block_mentions cases scope d) d (names whole value scope d) (names_all whole cases scope d) (quiet true value scope d) (value_errors true value (first_true (is_value value) (are_terms cases) e) scope d d) (block_errors cases (second_true (is_value value) (are_terms cases) e) scope d)
    term_errors (Case value body) e scope d =
        errors_both (mentions true value scope) (block_mentions body scope d) d (names whole value scope d) (names_all whole body scope d) (quiet true value scope d) (value_errors true value (first_true (is_value value) (are_terms body) e) scope d d) (block_errors body (second_true (is_value value) (are_terms body) e) scope d)
    term_errors (Default body) e scope d = block_errors body e scope d
    term_errors (OperationRegion at name space args) e scope d =
        ap (λ es. declared_errors whole at name scope d ++ es) (operands_errors true Anything region_letters args e scope d (with_declared (declared_path name scope) (As (RegionObject space 0 0)) d))
    term_errors (Field here from region flags items) e scope d = ap (λ es. use_errors whole from region scope ++ es) (items_same items scope d)
    term_errors (IndexField here from index to register flags items) e scope d =
        ap (λ es. use_errors whole from index scope ++ (use_errors whole to register scope ++ es)) (items_same items scope d)
    term_errors (BankField here from region to bank value flags items) e scope d =
        ap (λ es. use_errors whole from region scope ++ (use_errors whole to bank scope ++ es)) (errors_both (mentions true value scope) (item_mentions items scope) d (names whole value scope d) (items_errors whole items scope d) (quiet true value scope d) (value_errors true value e scope d d) (items_same items scope d))
    term_errors (CreateField form args at name) e scope d =
        errors_both (operand_mentions true Anything (field_letters form) args scope) (Declares at name as_buffer_field scope ∷ []) d (names_all whole args scope d) (declared_errors whole at name scope d) (quiet_operands true Anything (field_letters form) args scope d) (operands_errors true Anything (field_letters form) args e scope d d) (sym (right_nil (declared_errors whole at name scope d)))
    term_errors t e scope d = value_errors true t e scope d d

    pub block_errors : (ts : Trees) → are_terms ts ≡ true → (scope : AbsolutePath) (d : Declarations) → names_all whole ts scope d ≡ all_errors whole (block_mentions ts scope d) d
    block_errors no_trees e scope d = refl
    block_errors (tree t ts) e scope d =
        errors_then (term_mentions t scope d) (block_mentions ts scope (declare t scope d)) d (declare t scope d) (names whole t scope d) (names_all whole ts scope (declare t scope d)) (after_term t scope d) (term_errors t (first_true (is_term t) (are_terms ts) e) scope d) (block_errors ts (second_true (is_term t) (are_terms ts) e) scope (declare t scope d))

-- the calls of a block
module _ (has : AbsolutePath → Bool) where
  calls_append : (a b : List Mention) → calls_in has (a ++ b) ≡ calls_in has a ++ calls_in has b
  calls_append [] b = refl
  calls_append (m ∷ a) b =
      ap (λ cs. call_in has m ++ cs) (calls_append a b) ∙ sym (append_assoc (call_in has m) (calls_in has a) (calls_in has b))

  calls_both : (a b : List Mention) (xs ys : List (Option AbsolutePath × ℕ)) → xs ≡ calls_in has a → ys ≡ calls_in has b → xs ++ ys ≡ calls_in has (a ++ b)
  calls_both a b xs ys h k = ap (λ cs. cs ++ ys) h ∙ ap (λ cs. calls_in has a ++ cs) k ∙ sym (calls_append a b)

  cond_calls : (t : Tree) (ms : List Mention) (scope : AbsolutePath) (d : Declarations) → calls has t scope d ≡ calls_in has ms → calls has t scope d ≡ calls_in has (cond_place t ms scope)
  cond_calls (Use at name) ms scope d h = refl
  cond_calls t ms scope d h = h

  letter_calls : (letter : Letter) (uses : Asked) (t : Tree) (ms : List Mention) (scope : AbsolutePath) (d : Declarations) → calls has t scope d ≡ calls_in has ms → calls has t scope d ≡ calls_in has (letter_mention letter uses t ms scope)
  letter_calls Used uses (Use at name) ms scope d h = refl
  letter_calls letter uses t ms scope d h = h

  no_items : (items : List (FieldItem UnitName)) (scope : AbsolutePath) → [] ≡ calls_in has (item_mentions items scope)
  no_items [] scope = refl
  no_items (UnitItem name bits ∷ items) scope = no_items items scope
  no_items (SkipItem bits ∷ items) scope = no_items items scope
  no_items (OffsetItem bytes ∷ items) scope = no_items items scope
  no_items (AccessItem access attribute length ∷ items) scope = no_items items scope
  no_items (ConnectionItem (ToName at name) ∷ items) scope = no_items items scope
  no_items (ConnectionItem (ToBytes bytes) ∷ items) scope = no_items items scope

  mutual
    value_calls : (asked : Bool) (t : Tree) → is_value t ≡ true → (scope : AbsolutePath) (d : Declarations) → calls has t scope d ≡ calls_in has (mentions asked t scope)
    value_calls asked (Use at name) e scope d = refl
    value_calls asked (Call at name args) e scope d = ap (λ cs. (denoted has name scope, count args) ∷ cs) (values_calls asked args e scope d)
    value_calls asked (Apply op args targets) e scope d =
        let vs = second_true (has_no_targets (spot_form op) targets) (are_values args && are_values targets) e in
        calls_both (operand_mentions asked (asked_use asked op) (row_of op).operands args scope) (target_mentions asked targets scope) (calls_all has args scope d) (calls_all has targets scope d)
        (operands_calls asked (asked_use asked op) (row_of op).operands args (first_true (are_values args) (are_values targets) vs) scope d)
        (targets_calls asked targets (second_true (are_values args) (are_values targets) vs) scope d)
    value_calls asked (Operated op args) e scope d = operands_calls asked (asked_use asked op) (row_of op).operands args e scope d
    value_calls asked (Assigned target value) e scope d =
        calls_both (mentions asked value scope) (mentions (asked && is_spot target) target scope) (calls has value scope d) (calls has target scope d)
        (value_calls asked value (second_true (is_value target) (is_value value) e) scope d)
        (value_calls (asked && is_spot target) target (first_true (is_value target) (is_value value) e) scope d)
    value_calls asked (AssignedBy op target value) e scope d =
        calls_both (mentions asked target scope) (mentions asked value scope) (calls has target scope d) (calls has value scope d)
        (value_calls asked target (first_true (is_value target) (is_value value) e) scope d)
        (value_calls asked value (second_true (is_value target) (is_value value) e) scope d)
    value_calls asked (Buffer size bytes) e scope d = value_calls asked size e scope d
    value_calls asked (Package n elements) e scope d = elements_calls asked elements e scope d
    value_calls asked (VarPackage size elements) e scope d =
        calls_both (mentions asked size scope) (element_mentions asked elements scope) (calls has size scope d) (calls_all has elements scope d)
        (value_calls asked size (first_true (is_value size) (are_values elements) e) scope d)
        (elements_calls asked elements (second_true (is_value size) (are_values elements) e) scope d)
    value_calls asked (CondRefOf place target) e scope d =
        let ms = mentions (asked && is_spot place) place scope in
        calls_both (cond_place place ms scope) (mentions (asked && is_spot target) target scope) (calls has place scope d) (calls has target scope d)
        (cond_calls place ms scope d (value_calls (asked && is_spot place) place (first_true (is_value place) (is_value target) e) scope d))
        (value_calls (asked && is_spot target) target (second_true (is_value place) (is_value target) e) scope d)
    value_calls asked (Return value) e scope d = absurd (grind arith)
    value_calls asked (Name at name value) e scope d = absurd (grind arith)
    value_calls asked (Alias from source at name) e scope d = absurd (grind arith)
    value_calls asked (External here at name type parameters) e scope d = absurd (grind arith)
    value_calls asked (Method at name flags body) e scope d = absurd (grind arith)
    value_calls asked (Mutex at name level) e scope d = absurd (grind arith)
    value_calls asked (Event at name) e scope d = absurd (grind arith)
    value_calls asked (Container' kind at name body) e scope d = absurd (grind arith)
    value_calls asked (Scope here at name body) e scope d = absurd (grind arith)
    value_calls asked (If test body) e scope d = absurd (grind arith)
    value_calls asked (ElseIf test body) e scope d = absurd (grind arith)
    value_calls asked (Else body) e scope d = absurd (grind arith)
    value_calls asked (While test body) e scope d = absurd (grind arith)
    value_calls asked (For start test step body) e scope d = absurd (grind arith)
    value_calls asked (Print place format args) e scope d = absurd (grind arith)
    value_calls asked (Switch value cases) e scope d = absurd (grind arith)
    value_calls asked (Case value body) e scope d = absurd (grind arith)
    value_calls asked (Default body) e scope d = absurd (grind arith)
    value_calls asked (OperationRegion at name space args) e scope d = absurd (grind arith)
    value_calls asked (Field here from region flags items) e scope d = absurd (grind arith)
    value_calls asked (IndexField here from index to register flags items) e scope d = absurd (grind arith)
    value_calls asked (BankField here from region to bank value flags items) e scope d = absurd (grind arith)
    value_calls asked (CreateField form args at name) e scope d = absurd (grind arith)
    value_calls asked _ e scope d = refl

    values_calls : (asked : Bool) (ts : Trees) → are_values ts ≡ true → (scope : AbsolutePath) (d : Declarations) → calls_all has ts scope d ≡ calls_in has (mentions_all asked ts scope)
    values_calls asked no_trees e scope d = refl
    values_calls asked (tree t ts) e scope d =
        let h = first_true (is_value t) (are_values ts) e in
        let k = second_true (is_value t) (are_values ts) e in
        ap (λ d'. calls has t scope d ++ calls_all has ts scope d') (undeclared t h scope d)
        ∙ calls_both (mentions asked t scope) (mentions_all asked ts scope) (calls has t scope d) (calls_all has ts scope d) (value_calls asked t h scope d) (values_calls asked ts k scope d)

    operands_calls : (asked : Bool) (uses : Asked) (letters : List Letter) (ts : Trees) → are_values ts ≡ true → (scope : AbsolutePath) (d : Declarations) → calls_all has ts scope d ≡ calls_in has (operand_mentions asked uses letters ts scope)
    operands_calls asked uses letters no_trees e scope d = refl
    operands_calls asked uses [] (tree t ts) e scope d =
        let h = first_true (is_value t) (are_values ts) e in
        let k = second_true (is_value t) (are_values ts) e in
        ap (λ d'. calls has t scope d ++ calls_all has ts scope d') (undeclared t h scope d)
        ∙ calls_both (mentions false t scope) (operand_mentions asked uses [] ts scope) (calls has t scope d) (calls_all has ts scope d) (value_calls false t h scope d) (operands_calls asked uses [] ts k scope d)
    operands_calls asked uses (letter ∷ letters) (tree t ts) e scope d =
        let h = first_true (is_value t) (are_values ts) e in
        let k = second_true (is_value t) (are_values ts) e in
        ap (λ d'. calls has t scope d ++ calls_all has ts scope d') (undeclared t h scope d)
        ∙ calls_both (letter_mention letter uses t (mentions (asked && asks letter t) t scope) scope) (operand_mentions asked uses letters ts scope) (calls has t scope d) (calls_all has ts scope d) (letter_calls letter uses t _ scope d (value_calls (asked && asks letter t) t h scope d)) (operands_calls asked uses letters ts k scope d)

    targets_calls : (asked : Bool) (ts : Trees) → are_values ts ≡ true → (scope : AbsolutePath) (d : Declarations) → calls_all has ts scope d ≡ calls_in has (target_mentions asked ts scope)
    targets_calls asked no_trees e scope d = refl
    targets_calls asked (tree t ts) e scope d =
        let h = first_true (is_value t) (are_values ts) e in
        let k = second_true (is_value t) (are_values ts) e in
        ap (λ d'. calls has t scope d ++ calls_all has ts scope d') (undeclared t h scope d)
        ∙ calls_both (mentions (asked && is_spot t) t scope) (target_mentions asked ts scope) (calls has t scope d) (calls_all has ts scope d) (value_calls (asked && is_spot t) t h scope d) (targets_calls asked ts k scope d)

    elements_calls : (asked : Bool) (ts : Trees) → are_values ts ≡ true → (scope : AbsolutePath) (d : Declarations) → calls_all has ts scope d ≡ calls_in has (element_mentions asked ts scope)
    elements_calls asked no_trees e scope d = refl
    elements_calls asked (tree t ts) e scope d =
        let h = first_true (is_value t) (are_values ts) e in
        let k = second_true (is_value t) (are_values ts) e in
        ap (λ d'. calls has t scope d ++ calls_all has ts scope d') (undeclared t h scope d)
        ∙ calls_both (mentions (asked && not (is_use t)) t scope) (element_mentions asked ts scope) (calls has t scope d) (calls_all has ts scope d) (value_calls (asked && not (is_use t)) t h scope d) (elements_calls asked ts k scope d)

  mutual
    term_calls : (t : Tree) → is_term t ≡ true → (scope : AbsolutePath) (d : Declarations) → calls has t scope d ≡ calls_in has (term_mentions t scope d)
    term_calls (Return value) e scope d = value_calls true value e scope d
    term_calls (Name at name value) e scope d = value_calls true value e scope d
    term_calls (Alias from source at name) e scope d = refl
    term_calls (External here at name type parameters) e scope d = refl
    term_calls (Method at name flags body) e scope d = block_calls body e (declared_path name scope) (with_declared (declared_path name scope) (As (MethodObject flags)) d)
    term_calls (Mutex at name level) e scope d = refl
    term_calls (Event at name) e scope d = refl
    term_calls (Container' kind at name body) e scope d = block_calls body e (declared_path name scope) (with_declared (declared_path name scope) (As (ContainerObject kind)) d)
    term_calls (Scope here at name body) e scope d = block_calls body e (scope_path d name scope) d
    term_calls (If test body) e scope d =
        calls_both (mentions true test scope) (block_mentions body scope d) (calls has test scope d) (calls_all has body scope d) (value_calls true test (first_true (is_value test) (are_terms body) e) scope d) (block_calls body (second_true (is_value test) (are_terms body) e) scope d)
    term_calls (ElseIf test body) e scope d =
        calls_both (mentions true test scope) (block_mentions body scope d) (calls has test scope d) (calls_all has body scope d) (value_calls true test (first_true (is_value test) (are_terms body) e) scope d) (block_calls body (second_true (is_value test) (are_terms body) e) scope d)
    term_calls (Else body) e scope d = block_calls body e scope d
    term_calls (While test body) e scope d =
        calls_both (mentions true test scope) (block_mentions body scope d) (calls has test scope d) (calls_all has body scope d) (value_calls true test (first_true (is_value test) (are_terms body) e) scope d) (block_calls body (second_true (is_value test) (are_terms body) e) scope d)
    term_calls (For start test step body) e scope d =
        let h = second_true (is_value start) (is_value test && (is_value step && are_terms body)) e in
        let k = second_true (is_value test) (is_value step && are_terms body) h in
        calls_both (mentions true start scope) (mentions true test scope ++ (mentions true step scope ++ block_mentions body scope d)) (calls has start scope d) (calls has test scope d ++ (calls has step scope d ++ calls_all has body scope d)) (value_calls true start (first_true (is_value start) (is_value test && (is_value step && are_terms body)) e) scope d)
        (calls_both (mentions true test scope) (mentions true step scope ++ block_mentions body scope d) (calls has test scope d) (calls has step scope d ++ calls_all has body scope d) (value_calls true test (first_true (is_value test) (is_value step && are_terms body) h) scope d)
        (calls_both (mentions true step scope) (block_mentions body scope d) (calls has step scope d) (calls_all has body scope d) (value_calls true step (first_true (is_value step) (are_terms body) k) scope d) (block_calls body (second_true (is_value step) (are_terms body) k) scope d)))
    term_calls (Print place format args) e scope d =
        calls_both (mentions (is_spot place) place scope) (mentions_all true args scope) (calls has place scope d) (calls_all has args scope d) (value_calls (is_spot place) place (first_true (is_value place) (are_values args) e) scope d) (values_calls true args (second_true (is_value place) (are_values args) e) scope d)
    term_calls (Switch value cases) e scope d =
        calls_both (mentions true value scope) (block_mentions cases scope d) (calls has value scope d) (calls_all has cases scope d) (value_calls true value (first_true (is_value value) (are_terms cases) e) scope d) (block_calls cases (second_true (is_value value) (are_terms cases) e) scope d)
    term_calls (Case value body) e scope d =
        calls_both (mentions true value scope) (block_mentions body scope d) (calls has value scope d) (calls_all has body scope d) (value_calls true value (first_true (is_value value) (are_terms body) e) scope d) (block_calls body (second_true (is_value value) (are_terms body) e) scope d)
    term_calls (Default body) e scope d = block_calls body e scope d
    term_calls (OperationRegion at name space args) e scope d = operands_calls true Anything region_letters args e scope d
    term_calls (Field here from region flags items) e scope d = no_items items scope
    term_calls (IndexField here from index to register flags items) e scope d = no_items items scope
    term_calls (BankField here from region to bank value flags items) e scope d =
        sym (right_nil (calls has value scope d)) ∙ calls_both (mentions true value scope) (item_mentions items scope) (calls has value scope d) [] (value_calls true value e scope d) (no_items items scope)
    term_calls (CreateField form args at name) e scope d =
        sym (right_nil (calls_all has args scope d)) ∙ calls_both (operand_mentions true Anything (field_letters form) args scope) (Declares at name as_buffer_field scope ∷ []) (calls_all has args scope d) [] (operands_calls true Anything (field_letters form) args e scope d) refl
    term_calls t e scope d = value_calls true t e scope d

    pub block_calls : (ts : Trees) → are_terms ts ≡ true → (scope : AbsolutePath) (d : Declarations) → calls_all has ts scope d ≡ calls_in has (block_mentions ts scope d)
    block_calls no_trees e scope d = refl
    block_calls (tree t ts) e scope d =
        calls_both (term_mentions t scope d) (block_mentions ts scope (declare t scope d)) (calls has t scope d) (calls_all has ts scope (declare t scope d)) (term_calls t (first_true (is_term t) (are_terms ts) e) scope d) (block_calls ts (second_true (is_term t) (are_terms ts) e) scope (declare t scope d))
