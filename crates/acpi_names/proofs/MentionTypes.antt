-- The class of kinds and counts of a block without errors of names is that of its mentions.
use Rattle.std.proofs.Common.{◌≡◌, Bool, true, false, List, [], ◌∷◌, ◌++◌, Option, Some, None, refl, sym, ap, ◌∙◌, append_assoc, arith}
use Rattle.std.specs.Prelude.{◌&&◌, not, is_some}
use Rattle.acpi_values.specs.Paths.{AbsolutePath, is_same_path}
use Rattle.acpi_values.specs.declared.operator.Plain.{Plain}
use Rattle.acpi_values.specs.declared.operator.DataOp.TheVariants as DataOp
use Rattle.acpi_values.specs.Operators.{Letter, Valued, Kept, Placed, Used, Row, row_of}
use Rattle.acpi_values.specs.Operators as L
use Rattle.acpi_state.specs.Objects.{MethodObject, ContainerObject}
use Rattle.acpi_state.specs.FieldActs.{region_letters, field_letters}
use Rattle.acpi_state.specs.Outcomes.{choose}
use Rattle.acpi_state.proofs.Lookups.{is_same_path-true}
use Rattle.asl_tree.specs.FieldItems.{FieldItem, UnitItem, SkipItem, OffsetItem, AccessItem, ConnectionItem, ToName, ToBytes}
use Rattle.asl_tree.specs.Names.{declared_path, denoted}
use Rattle.asl_tree.specs.declared.path.Path.{Path}
use Rattle.asl_tree.specs.Tree.{At, Tree, Use, Call, Apply, Buffer, Package, VarPackage, CondRefOf, Return, Name, Alias, External, Method, Mutex, Event, Container', Scope, Trees, no_trees, tree, count, OperationRegion, Field, IndexField, BankField, CreateField, UnitName, If, ElseIf, Else, While, For, Print, Operated, Assigned, AssignedBy, Switch, Case, Default}
use Rattle.asl_meaning.specs.Declarations.{As, Declarations, is_named, with_declared, scope_path, declare}
use Rattle.asl_meaning.specs.Meaning.{spot_form}
use Rattle.acpi_names.specs.Errors.{NameError, Missing, NoContainer, WrongCount, Asked, Anything, AUnit, ARegion, asked_by, unless, Whole, is_container, final, takes, names, names_all, use_errors, scope_errors, step_errors, declared_errors, name_end, types, types_all, asked_types, used_types, letter_types, element_types, spot_types, operand_types, spot_types_all, element_types_all}
use Rattle.acpi_names.specs.Terms.{is_value, are_values, is_term, are_terms, has_no_targets}
use Rattle.acpi_names.specs.Mentions.{Mention, Declares, is_spot, is_use, asks, letter_mention, cond_place, mentions, mentions_all, operand_mentions, target_mentions, element_mentions, item_mentions, term_mentions, block_mentions, mention_types, all_types}
use Rattle.acpi_names.proofs.Mentions.{right_nil, first_true, second_true}

left_empty : {A : Type 0} (xs ys : List A) → xs ++ ys ≡ [] → xs ≡ []
left_empty [] ys e = refl
left_empty (x ∷ xs) ys e = absurd (grind arith)

right_empty : {A : Type 0} (xs ys : List A) → xs ++ ys ≡ [] → ys ≡ []
right_empty [] ys e = e
right_empty (x ∷ xs) ys e = absurd (grind arith)

met : (c : Bool) (e : NameError) → unless c e ≡ [] → c ≡ true
met true e h = refl
met false e h = absurd (grind arith)

module _ (whole : Whole) where
  types_append : (a b : List Mention) → all_types whole (a ++ b) ≡ all_types whole a ++ all_types whole b
  types_append [] b = refl
  types_append (m ∷ a) b = ap (λ es. mention_types whole m ++ es) (types_append a b) ∙ sym (append_assoc (mention_types whole m) (all_types whole a) (all_types whole b))

  types_both : (a b : List Mention) (xs ys : List NameError) → xs ≡ all_types whole a → ys ≡ all_types whole b → xs ++ ys ≡ all_types whole (a ++ b)
  types_both a b xs ys h k = ap (λ es. es ++ ys) h ∙ ap (λ es. all_types whole a ++ es) k ∙ sym (types_append a b)

  none_both : (a b : List Mention) → [] ≡ all_types whole a → [] ≡ all_types whole b → [] ≡ all_types whole (a ++ b)
  none_both a b h k = types_both a b [] [] h k

  cond_silent : (t : Tree) (ms : List Mention) (scope : AbsolutePath) → [] ≡ all_types whole ms → [] ≡ all_types whole (cond_place t ms scope)
  cond_silent (Use at name) ms scope h = refl
  cond_silent t ms scope h = h

  letter_silent : (letter : Letter) (t : Tree) (ms : List Mention) (scope : AbsolutePath) → [] ≡ all_types whole ms → [] ≡ all_types whole (letter_mention letter Anything t ms scope)
  letter_silent Used (Use at name) ms scope h = refl
  letter_silent letter t ms scope h = h

  -- where nothing is asked there is no error
  mutual
    silent : (t : Tree) (scope : AbsolutePath) → [] ≡ all_types whole (mentions false t scope)
    silent (Use at name) scope = refl
    silent (Call at name args) scope = silent_all args scope
    silent (Apply op args targets) scope = none_both (operand_mentions false Anything (row_of op).operands args scope) (target_mentions false targets scope) (silent_operands (row_of op).operands args scope) (silent_targets targets scope)
    silent (Operated op args) scope = silent_operands (row_of op).operands args scope
    silent (Assigned target value) scope = none_both (mentions false value scope) (mentions false target scope) (silent value scope) (silent target scope)
    silent (AssignedBy op target value) scope = none_both (mentions false target scope) (mentions false value scope) (silent target scope) (silent value scope)
    silent (Buffer size bytes) scope = silent size scope
    silent (Package n elements) scope = silent_elements elements scope
    silent (VarPackage size elements) scope = none_both (mentions false size scope) (element_mentions false elements scope) (silent size scope) (silent_elements elements scope)
    silent (CondRefOf place target) scope = none_both (cond_place place (mentions false place scope) scope) (mentions false target scope) (cond_silent place (mentions false place scope) scope (silent place scope)) (silent target scope)
    silent _ scope = refl

    silent_all : (ts : Trees) (scope : AbsolutePath) → [] ≡ all_types whole (mentions_all false ts scope)
    silent_all no_trees scope = refl
    silent_all (tree t ts) scope = none_both (mentions false t scope) (mentions_all false ts scope) (silent t scope) (silent_all ts scope)

    silent_operands : (letters : List Letter) (ts : Trees) (scope : AbsolutePath) → [] ≡ all_types whole (operand_mentions false Anything letters ts scope)
    silent_operands letters no_trees scope = refl
    silent_operands [] (tree t ts) scope = none_both (mentions false t scope) (operand_mentions false Anything [] ts scope) (silent t scope) (silent_operands [] ts scope)
    silent_operands (letter ∷ letters) (tree t ts) scope = none_both (letter_mention letter Anything t (mentions false t scope) scope) (operand_mentions false Anything letters ts scope) (letter_silent letter t (mentions false t scope) scope (silent t scope)) (silent_operands letters ts scope)

    silent_targets : (ts : Trees) (scope : AbsolutePath) → [] ≡ all_types whole (target_mentions false ts scope)
    silent_targets no_trees scope = refl
    silent_targets (tree t ts) scope = none_both (mentions false t scope) (target_mentions false ts scope) (silent t scope) (silent_targets ts scope)

    silent_elements : (ts : Trees) (scope : AbsolutePath) → [] ≡ all_types whole (element_mentions false ts scope)
    silent_elements no_trees scope = refl
    silent_elements (tree t ts) scope = none_both (mentions false t scope) (element_mentions false ts scope) (silent t scope) (silent_elements ts scope)

  -- arguments behind the operands
  silent_rest : (uses : Asked) (ts : Trees) (scope : AbsolutePath) → [] ≡ all_types whole (operand_mentions true uses [] ts scope)
  silent_rest uses no_trees scope = refl
  silent_rest uses (tree t ts) scope = none_both (mentions false t scope) (operand_mentions true uses [] ts scope) (silent t scope) (silent_rest uses ts scope)

  cond_types : (t : Tree) (ms : List Mention) (scope : AbsolutePath) → spot_types whole t scope ≡ all_types whole ms → spot_types whole t scope ≡ all_types whole (cond_place t ms scope)
  cond_types (Use at name) ms scope h = refl
  cond_types t ms scope h = h

  used_same : (uses : Asked) (t : Tree) (scope : AbsolutePath) → used_types whole uses t scope ≡ all_types whole (letter_mention Used uses t (mentions false t scope) scope)
  used_same uses (Use at name) scope = sym (right_nil _)
  used_same uses t scope = silent t scope

  letter_same : (letter : Letter) (uses : Asked) (t : Tree) (scope : AbsolutePath) → types whole t scope ≡ all_types whole (mentions true t scope) → spot_types whole t scope ≡ all_types whole (mentions (is_spot t) t scope)
      → letter_types whole letter (types whole t scope) (spot_types whole t scope) (used_types whole uses t scope) ≡ all_types whole (letter_mention letter uses t (mentions (asks letter t) t scope) scope)
  letter_same Valued uses t scope h k = h
  letter_same Kept uses t scope h k = h
  letter_same Placed uses t scope h k = k
  letter_same Used uses t scope h k = used_same uses t scope
  letter_same (L.Raw size) uses t scope h k = silent t scope

  element_same : (t : Tree) (scope : AbsolutePath) → types whole t scope ≡ all_types whole (mentions true t scope) → element_types whole t (types whole t scope) ≡ all_types whole (mentions (not (is_use t)) t scope)
  element_same (Use at name) scope h = refl
  element_same t scope h = h

  mutual
    value_types : (t : Tree) → is_value t ≡ true → (scope : AbsolutePath) → types whole t scope ≡ all_types whole (mentions true t scope)
    value_types (Use at name) e scope = sym (right_nil _)
    value_types (Call at name args) e scope = ap (λ es. unless (takes (count args) (name_end whole name scope)) (WrongCount at name) ++ es) (values_types args e scope)
    value_types (Apply op args targets) e scope =
        let vs = second_true (has_no_targets (spot_form op) targets) (are_values args && are_values targets) e in
        types_both (operand_mentions true (asked_by op) (row_of op).operands args scope) (target_mentions true targets scope) (operand_types whole (asked_by op) (row_of op).operands args scope) (spot_types_all whole targets scope)
        (operands_types (asked_by op) (row_of op).operands args (first_true (are_values args) (are_values targets) vs) scope) (targets_types targets (second_true (are_values args) (are_values targets) vs) scope)
    value_types (Operated op args) e scope = operands_types (asked_by op) (row_of op).operands args e scope
    value_types (Assigned target value) e scope =
        types_both (mentions true value scope) (mentions (is_spot target) target scope) (types whole value scope) (spot_types whole target scope)
        (value_types value (second_true (is_value target) (is_value value) e) scope) (spot_same target (first_true (is_value target) (is_value value) e) scope)
    value_types (AssignedBy op target value) e scope =
        types_both (mentions true target scope) (mentions true value scope) (types whole target scope) (types whole value scope)
        (value_types target (first_true (is_value target) (is_value value) e) scope) (value_types value (second_true (is_value target) (is_value value) e) scope)
    value_types (Buffer size bytes) e scope = value_types size e scope
    value_types (Package n elements) e scope = elements_types elements e scope
    value_types (VarPackage size elements) e scope =
        types_both (mentions true size scope) (element_mentions true elements scope) (types whole size scope) (element_types_all whole elements scope) (value_types size (first_true (is_value size) (are_values elements) e) scope) (elements_types elements (second_true (is_value size) (are_values elements) e) scope)
    value_types (CondRefOf place target) e scope =
        types_both (cond_place place (mentions (is_spot place) place scope) scope) (mentions (is_spot target) target scope) (spot_types whole place scope) (spot_types whole target scope)
        (cond_types place (mentions (is_spot place) place scope) scope (spot_same place (first_true (is_value place) (is_value target) e) scope)) (spot_same target (second_true (is_value place) (is_value target) e) scope)
    value_types (Return value) e scope = absurd (grind arith)
    value_types (Name at name value) e scope = absurd (grind arith)
    value_types (Alias from source at name) e scope = absurd (grind arith)
    value_types (External here at name type parameters) e scope = absurd (grind arith)
    value_types (Method at name flags body) e scope = absurd (grind arith)
    value_types (Mutex at name level) e scope = absurd (grind arith)
    value_types (Event at name) e scope = absurd (grind arith)
    value_types (Container' kind at name body) e scope = absurd (grind arith)
    value_types (Scope here at name body) e scope = absurd (grind arith)
    value_types (If test body) e scope = absurd (grind arith)
    value_types (ElseIf test body) e scope = absurd (grind arith)
    value_types (Else body) e scope = absurd (grind arith)
    value_types (While test body) e scope = absurd (grind arith)
    value_types (For start test step body) e scope = absurd (grind arith)
    value_types (Print place format args) e scope = absurd (grind arith)
    value_types (Switch value cases) e scope = absurd (grind arith)
    value_types (Case value body) e scope = absurd (grind arith)
    value_types (Default body) e scope = absurd (grind arith)
    value_types (OperationRegion at name space args) e scope = absurd (grind arith)
    value_types (Field here from region flags items) e scope = absurd (grind arith)
    value_types (IndexField here from index to register flags items) e scope = absurd (grind arith)
    value_types (BankField here from region to bank value flags items) e scope = absurd (grind arith)
    value_types (CreateField form args at name) e scope = absurd (grind arith)
    value_types _ e scope = refl

    spot_same : (t : Tree) → is_value t ≡ true → (scope : AbsolutePath) → spot_types whole t scope ≡ all_types whole (mentions (is_spot t) t scope)
    spot_same (Apply (Plain.Data DataOp.Index) args targets) e scope =
        types_both (operand_mentions true Anything (row_of (Plain.Data DataOp.Index)).operands args scope) (target_mentions true targets scope) (operand_types whole Anything (row_of (Plain.Data DataOp.Index)).operands args scope) (spot_types_all whole targets scope)
        (operands_types Anything (row_of (Plain.Data DataOp.Index)).operands args (first_true (are_values args) (are_values targets) e) scope) (targets_types targets (second_true (are_values args) (are_values targets) e) scope)
    spot_same (Apply (Plain.Data DataOp.DerefOf) no_trees no_trees) e scope = refl
    spot_same (Apply (Plain.Data DataOp.DerefOf) (tree t ts) no_trees) e scope =
        let vs = first_true (is_value t && are_values ts) true e in
        sym (right_nil (types whole t scope)) ∙ types_both (mentions true t scope) (operand_mentions true Anything [] ts scope) (types whole t scope) [] (value_types t (first_true (is_value t) (are_values ts) vs) scope) (silent_rest Anything ts scope)
        ∙ ap (all_types whole) (sym (right_nil (mentions true t scope ++ operand_mentions true Anything [] ts scope)))
    spot_same (Apply (Plain.Data DataOp.DerefOf) args (tree t ts)) e scope = absurd (grind arith)
    spot_same (Apply op args targets) e scope = silent (Apply op args targets) scope
    spot_same (Operated (Plain.Data DataOp.Index) args) e scope = operands_types Anything (row_of (Plain.Data DataOp.Index)).operands args e scope
    spot_same (Operated (Plain.Data DataOp.DerefOf) no_trees) e scope = refl
    spot_same (Operated (Plain.Data DataOp.DerefOf) (tree t ts)) e scope =
        sym (right_nil (types whole t scope)) ∙ types_both (mentions true t scope) (operand_mentions true Anything [] ts scope) (types whole t scope) [] (value_types t (first_true (is_value t) (are_values ts) e) scope) (silent_rest Anything ts scope)
    spot_same (Operated op args) e scope = silent (Operated op args) scope
    spot_same t e scope = silent t scope

    values_types : (ts : Trees) → are_values ts ≡ true → (scope : AbsolutePath) → types_all whole ts scope ≡ all_types whole (mentions_all true ts scope)
    values_types no_trees e scope = refl
    values_types (tree t ts) e scope =
        types_both (mentions true t scope) (mentions_all true ts scope) (types whole t scope) (types_all whole ts scope) (value_types t (first_true (is_value t) (are_values ts) e) scope) (values_types ts (second_true (is_value t) (are_values ts) e) scope)

    operands_types : (uses : Asked) (letters : List Letter) (ts : Trees) → are_values ts ≡ true → (scope : AbsolutePath) → operand_types whole uses letters ts scope ≡ all_types whole (operand_mentions true uses letters ts scope)
    operands_types uses [] no_trees e scope = refl
    operands_types uses [] (tree t ts) e scope = silent_rest uses (tree t ts) scope
    operands_types uses (letter ∷ letters) no_trees e scope = refl
    operands_types uses (letter ∷ letters) (tree t ts) e scope =
        let h = first_true (is_value t) (are_values ts) e in
        types_both (letter_mention letter uses t (mentions (asks letter t) t scope) scope) (operand_mentions true uses letters ts scope) (letter_types whole letter (types whole t scope) (spot_types whole t scope) (used_types whole uses t scope)) (operand_types whole uses letters ts scope)
        (letter_same letter uses t scope (value_types t h scope) (spot_same t h scope)) (operands_types uses letters ts (second_true (is_value t) (are_values ts) e) scope)

    targets_types : (ts : Trees) → are_values ts ≡ true → (scope : AbsolutePath) → spot_types_all whole ts scope ≡ all_types whole (target_mentions true ts scope)
    targets_types no_trees e scope = refl
    targets_types (tree t ts) e scope =
        types_both (mentions (is_spot t) t scope) (target_mentions true ts scope) (spot_types whole t scope) (spot_types_all whole ts scope) (spot_same t (first_true (is_value t) (are_values ts) e) scope) (targets_types ts (second_true (is_value t) (are_values ts) e) scope)

    elements_types : (ts : Trees) → are_values ts ≡ true → (scope : AbsolutePath) → element_types_all whole ts scope ≡ all_types whole (element_mentions true ts scope)
    elements_types no_trees e scope = refl
    elements_types (tree t ts) e scope =
        types_both (mentions (not (is_use t)) t scope) (element_mentions true ts scope) (element_types whole t (types whole t scope)) (element_types_all whole ts scope) (element_same t scope (value_types t (first_true (is_value t) (are_values ts) e) scope)) (elements_types ts (second_true (is_value t) (are_values ts) e) scope)

  no_items : (items : List (FieldItem UnitName)) (scope : AbsolutePath) → [] ≡ all_types whole (item_mentions items scope)
  no_items [] scope = refl
  no_items (UnitItem name bits ∷ items) scope = no_items items scope
  no_items (SkipItem bits ∷ items) scope = no_items items scope
  no_items (OffsetItem bytes ∷ items) scope = no_items items scope
  no_items (AccessItem access attribute length ∷ items) scope = no_items items scope
  no_items (ConnectionItem (ToName at name) ∷ items) scope = no_items items scope
  no_items (ConnectionItem (ToBytes bytes) ∷ items) scope = no_items items scope

  -- a Scope without error opens what its name denotes over the whole block
  same_scope : (here at : At) (name : Path) (scope : AbsolutePath) (d : Declarations) → use_errors whole at name scope ++ scope_errors whole here at name scope d ≡ [] → choose (denoted (is_named whole.all) name scope) [] (λ path. path) ≡ scope_path d name scope
  same_scope here at name scope d e = by_path (denoted (is_named whole.all) name scope) (met _ (Missing at name) (right_empty (step_errors at name scope) _ (left_empty (use_errors whole at name scope) (scope_errors whole here at name scope d) e))) (right_empty (use_errors whole at name scope) (scope_errors whole here at name scope d) e)
    where
      by_path : (o : Option AbsolutePath) → is_some o ≡ true → choose o [] (λ path. unless (is_same_path path (scope_path d name scope)) (Missing at name) ++ unless (is_container (final whole.known path)) (NoContainer here name)) ≡ [] → choose o [] (λ path. path) ≡ scope_path d name scope
      by_path None s e = absurd (grind arith)
      by_path (Some path) s e = is_same_path-true path (scope_path d name scope) (met (is_same_path path (scope_path d name scope)) (Missing at name) (left_empty _ (unless (is_container (final whole.known path)) (NoContainer here name)) e))

  mutual
    term_types : (t : Tree) → is_term t ≡ true → (scope : AbsolutePath) (d : Declarations) → names whole t scope d ≡ [] → types whole t scope ≡ all_types whole (term_mentions t scope d)
    term_types (Return value) e scope d n = value_types value e scope
    term_types (Name at name value) e scope d n = value_types value e scope
    term_types (Alias from source at name) e scope d n = refl
    term_types (External here at name type parameters) e scope d n = refl
    term_types (Method at name flags body) e scope d n =
        block_types body e (declared_path name scope) (with_declared (declared_path name scope) (As (MethodObject flags)) d) (right_empty (declared_errors whole at name scope d) _ n)
    term_types (Mutex at name level) e scope d n = refl
    term_types (Event at name) e scope d n = refl
    term_types (Container' kind at name body) e scope d n =
        block_types body e (declared_path name scope) (with_declared (declared_path name scope) (As (ContainerObject kind)) d) (right_empty (declared_errors whole at name scope d) _ n)
    term_types (Scope here at name body) e scope d n =
        ap (types_all whole body) (same_scope here at name scope d (left_empty (use_errors whole at name scope ++ scope_errors whole here at name scope d) (names_all whole body (scope_path d name scope) d) n))
        ∙ block_types body e (scope_path d name scope) d (right_empty (use_errors whole at name scope ++ scope_errors whole here at name scope d) _ n)
    term_types (If test body) e scope d n =
        types_both (mentions true test scope) (block_mentions body scope d) (types whole test scope) (types_all whole body scope) (value_types test (first_true (is_value test) (are_terms body) e) scope) (block_types body (second_true (is_value test) (are_terms body) e) scope d (right_empty (names whole test scope d) _ n))
    term_types (ElseIf test body) e scope d n =
        types_both (mentions true test scope) (block_mentions body scope d) (types whole test scope) (types_all whole body scope) (value_types test (first_true (is_value test) (are_terms body) e) scope) (block_types body (second_true (is_value test) (are_terms body) e) scope d (right_empty (names whole test scope d) _ n))
    term_types (Else body) e scope d n = block_types body e scope d n
    term_types (While test body) e scope d n =
        types_both (mentions true test scope) (block_mentions body scope d) (types whole test scope) (types_all whole body scope) (value_types test (first_true (is_value test) (are_terms body) e) scope) (block_types body (second_true (is_value test) (are_terms body) e) scope d (right_empty (names whole test scope d) _ n))
    term_types (For start test step body) e scope d n =
        let h = second_true (is_value start) (is_value test && (is_value step && are_terms body)) e in
        let k = second_true (is_value test) (is_value step && are_terms body) h in
        let later = right_empty (names whole start scope d) (names whole test scope d ++ (names whole step scope d ++ names_all whole body scope d)) n in
        let last = right_empty (names whole test scope d) (names whole step scope d ++ names_all whole body scope d) later in
        types_both (mentions true start scope) (mentions true test scope ++ (mentions true step scope ++ block_mentions body scope d)) (types whole start scope) (types whole test scope ++ (types whole step scope ++ types_all whole body scope)) (value_types start (first_true (is_value start) (is_value test && (is_value step && are_terms body)) e) scope)
        (types_both (mentions true test scope) (mentions true step scope ++ block_mentions body scope d) (types whole test scope) (types whole step scope ++ types_all whole body scope) (value_types test (first_true (is_value test) (is_value step && are_terms body) h) scope)
        (types_both (mentions true step scope) (block_mentions body scope d) (types whole step scope) (types_all whole body scope) (value_types step (first_true (is_value step) (are_terms body) k) scope) (block_types body (second_true (is_value step) (are_terms body) k) scope d (right_empty (names whole step scope d) (names_all whole body scope d) last))))
    term_types (Print place format args) e scope d n =
        types_both (mentions (is_spot place) place scope) (mentions_all true args scope) (spot_types whole place scope) (types_all whole args scope) (spot_same place (first_true (is_value place) (are_values args) e) scope) (values_types args (second_true (is_value place) (are_values args) e) scope)
    term_types (Switch value cases) e scope d n =
        types_both (mentions true value scope) (block_mentions cases scope d) (types whole value scope) (types_all whole cases scope) (value_types value (first_true (is_value value) (are_terms cases) e) scope) (block_types cases (second_true (is_value value) (are_terms cases) e) scope d (right_empty (names whole value scope d) _ n))
    term_types (Case value body) e scope d n =
        types_both (mentions true value scope) (block_mentions body scope d) (types whole value scope) (types_all whole body scope) (value_types value (first_true (is_value value) (are_terms body) e) scope) (block_types body (second_true (is_value value) (are_terms body) e) scope d (right_empty (names whole value scope d) _ n))
    term_types (Default body) e scope d n = block_types body e scope d n
    term_types (OperationRegion at name space args) e scope d n = operands_types Anything region_letters args e scope
    term_types (Field here from region flags items) e scope d n =
        sym (right_nil (asked_types whole (ARegion here) from region scope)) ∙ ap (λ es. asked_types whole (ARegion here) from region scope ++ es) (no_items items scope)
    term_types (IndexField here from index to register flags items) e scope d n =
        ap (λ es. asked_types whole AUnit from index scope ++ es) (sym (right_nil (asked_types whole AUnit to register scope)) ∙ ap (λ es. asked_types whole AUnit to register scope ++ es) (no_items items scope))
    term_types (BankField here from region to bank value flags items) e scope d n =
        ap (λ es. asked_types whole (ARegion here) from region scope ++ (asked_types whole AUnit to bank scope ++ es))
        (sym (right_nil (types whole value scope)) ∙ types_both (mentions true value scope) (item_mentions items scope) (types whole value scope) [] (value_types value e scope) (no_items items scope))
    term_types (CreateField form args at name) e scope d n =
        sym (right_nil (operand_types whole Anything (field_letters form) args scope)) ∙ types_both (operand_mentions true Anything (field_letters form) args scope) (Declares at name _ scope ∷ []) (operand_types whole Anything (field_letters form) args scope) [] (operands_types Anything (field_letters form) args e scope) refl
    term_types t e scope d n = value_types t e scope

    pub block_types : (ts : Trees) → are_terms ts ≡ true → (scope : AbsolutePath) (d : Declarations) → names_all whole ts scope d ≡ [] → types_all whole ts scope ≡ all_types whole (block_mentions ts scope d)
    block_types no_trees e scope d n = refl
    block_types (tree t ts) e scope d n =
        types_both (term_mentions t scope d) (block_mentions ts scope (declare t scope d)) (types whole t scope) (types_all whole ts scope) (term_types t (first_true (is_term t) (are_terms ts) e) scope d (left_empty (names whole t scope d) (names_all whole ts scope (declare t scope d)) n))
        (block_types ts (second_true (is_term t) (are_terms ts) e) scope (declare t scope d) (right_empty (names whole t scope d) _ n))
