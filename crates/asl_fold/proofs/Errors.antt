-- A program has the same errors of names and kinds with its constants folded.
use Rattle.std.proofs.Common.{◌≡◌, Bool, true, false, List, [], ◌∷◌, ◌++◌, refl, sym, ap, ◌∙◌}
use Rattle.acpi_values.specs.declared.width.Width.{Width}
use Rattle.acpi_values.specs.declared.operator.Plain.{Plain}
use Rattle.acpi_values.specs.Paths.{AbsolutePath}
use Rattle.acpi_values.specs.Operators.{Letter, Valued, Kept, Placed, Used, Row, row_of}
use Rattle.acpi_values.specs.Operators as L
use Rattle.acpi_state.specs.Objects.{MethodObject, ContainerObject}
use Rattle.acpi_state.specs.FieldActs.{region_letters, field_letters}
use Rattle.acpi_state.specs.Outcomes.{choose}
use Rattle.asl_meaning.specs.Declarations.{As, Declarations, nothing_declared, is_named, scope_path, with_declared, declare}
use Rattle.asl_meaning.specs.Meaning.{spot_form}
use Rattle.asl_tree.specs.Names.{declared_path, denoted}
use Rattle.asl_tree.specs.Tree.{Tree, Integer, Constant, Omitted, Call, Apply, Buffer, Package, VarPackage, CondRefOf, Return, Name, Method, Container', Scope, If, ElseIf, Else, While, For, Print, OperationRegion, BankField, CreateField, Operated, Assigned, AssignedBy, Trees, no_trees, tree, count, Switch, Case, Default}
use Rattle.acpi_names.specs.Errors.{NameError, Asked, Anything, AUnit, ARegion, Whole, whole_of, asked_by, use_errors, call_errors, declared_errors, scope_errors, items_errors, cond_errors, names, names_all, asked_types, used_types}
use Rattle.acpi_names.specs.Errors.{letter_types, spot_form_types, element_types, types, spot_types, first_types, operand_types, spot_types_all, element_types_all, types_all, unless, takes, name_end, WrongCount, name_errors, type_errors}
use Rattle.acpi_names.proofs.Mentions.{right_nil}
use Rattle.asl_fold.specs.Folds.{reduced, sized, folded, folded_args, folded_all}
use Rattle.asl_fold.proofs.Values.{reduced_other, sized_other, sized_as, reduced_as, AreConstants, Targets, NoTarget, OneTarget, LastTarget}
use Rattle.asl_fold.proofs.Declared.{both, count_args, folded_declares, same_whole}

module _ (width : Width) (whole : Whole) where
  abbrev F : Tree → Tree
  F = folded width false

  abbrev Fs : Trees → Trees
  Fs = folded_args width

  abbrev N : Tree → AbsolutePath → Declarations → List NameError
  N = names whole

  abbrev Ns : Trees → AbsolutePath → Declarations → List NameError
  Ns = names_all whole

  abbrev T : Tree → AbsolutePath → List NameError
  T = types whole

  -- ---- names

  constants_named : (ts : Trees) (scope : AbsolutePath) (d : Declarations) → AreConstants ts → Ns ts scope d ≡ []
  constants_named no_trees scope d h = refl
  constants_named (tree (Integer n) ts) scope d h = constants_named ts scope d h.1
  constants_named (tree (Constant literal) ts) scope d h = constants_named ts scope d h.1
  constants_named (tree _ ts) scope d h = absurd h.0

  target_names : (ts : Trees) (t : Tree) (scope : AbsolutePath) (d : Declarations) → Targets ts t → Ns ts scope d ≡ N t scope d
  target_names _ _ scope d NoTarget = refl
  target_names _ _ scope d (OneTarget t) = right_nil (N t scope d)
  target_names _ _ scope d (LastTarget t) = right_nil (N t scope d)

  reduced_names : (statement : Bool) (op : Plain) (args targets : Trees) (scope : AbsolutePath) (d : Declarations) → N (reduced width statement op args targets) scope d ≡ Ns args scope d ++ Ns targets scope d
  reduced_names statement op args targets scope d =
      reduced_as (λ t. N t scope d ≡ Ns args scope d ++ Ns targets scope d) width statement op args targets refl
      (λ n le h k. sym (both (Ns args scope d) (Ns targets scope d) [] [] (constants_named args scope d h) (target_names targets Omitted scope d k)))
      (λ n target le h k. right_nil (N target scope d ++ []) ∙ right_nil (N target scope d)
      ∙ sym (both (Ns args scope d) (Ns targets scope d) [] (N target scope d) (constants_named args scope d h) (target_names targets target scope d k)))

  sized_names : (size : Tree) (elements : Trees) (scope : AbsolutePath) (d : Declarations) → N (sized size elements) scope d ≡ N size scope d ++ Ns elements scope d
  sized_names size elements scope d = sized_as (λ t. N t scope d ≡ N size scope d ++ Ns elements scope d) size elements (λ n e lt. sym (ap (λ t. N t scope d ++ Ns elements scope d) e)) refl

  cond_named : (t : Tree) (errors : List NameError) (scope : AbsolutePath) → cond_errors whole (F t) errors scope ≡ cond_errors whole t errors scope
  cond_named (Apply op args targets) errors scope = reduced_other (λ t. cond_errors whole t errors scope ≡ errors) (λ op args targets. refl) (λ n. refl) width false op (Fs args) (Fs targets)
  cond_named (VarPackage size elements) errors scope = sized_other (λ t. cond_errors whole t errors scope ≡ errors) (λ n es. refl) (λ n es. refl) (F size) (Fs elements)
  cond_named _ errors scope = refl

  mutual
    folded_names : (statement : Bool) (t : Tree) (scope : AbsolutePath) (d : Declarations) → N (folded width statement t) scope d ≡ N t scope d
    folded_names statement (Call at name args) scope d =
        ap (λ n. (use_errors whole at name scope ++ call_errors whole at name n scope) ++ Ns (Fs args) scope d) (count_args width args)
        ∙ ap (λ es. (use_errors whole at name scope ++ call_errors whole at name (count args) scope) ++ es) (args_named args scope d)
    folded_names statement (Apply op args targets) scope d =
        reduced_names statement op (Fs args) (Fs targets) scope d ∙ both (Ns (Fs args) scope d) (Ns (Fs targets) scope d) (Ns args scope d) (Ns targets scope d) (args_named args scope d) (args_named targets scope d)
    folded_names statement (Operated op args) scope d = args_named args scope d
    folded_names statement (Assigned target value) scope d = both (N (F value) scope d) (N (F target) scope d) (N value scope d) (N target scope d) (folded_names false value scope d) (folded_names false target scope d)
    folded_names statement (AssignedBy op target value) scope d = both (N (F target) scope d) (N (F value) scope d) (N target scope d) (N value scope d) (folded_names false target scope d) (folded_names false value scope d)
    folded_names statement (Buffer size bytes) scope d = folded_names false size scope d
    folded_names statement (Package n elements) scope d = args_named elements scope d
    folded_names statement (VarPackage size elements) scope d =
        sized_names (F size) (Fs elements) scope d ∙ both (N (F size) scope d) (Ns (Fs elements) scope d) (N size scope d) (Ns elements scope d) (folded_names false size scope d) (args_named elements scope d)
    folded_names statement (CondRefOf place target) scope d =
        both (cond_errors whole (F place) (N (F place) scope d) scope) (N (F target) scope d) (cond_errors whole place (N place scope d) scope) (N target scope d)
        (cond_named place (N (F place) scope d) scope ∙ ap (λ es. cond_errors whole place es scope) (folded_names false place scope d)) (folded_names false target scope d)
    folded_names statement (Return value) scope d = folded_names false value scope d
    folded_names statement (Name at name value) scope d = ap (λ es. declared_errors whole at name scope d ++ es) (folded_names false value scope d)
    folded_names statement (Method at name flags body) scope d =
        ap (λ es. declared_errors whole at name scope d ++ es) (all_named body (declared_path name scope) (with_declared (declared_path name scope) (As (MethodObject flags)) d))
    folded_names statement (If test body) scope d = both (N (F test) scope d) (Ns (folded_all width body) scope d) (N test scope d) (Ns body scope d) (folded_names false test scope d) (all_named body scope d)
    folded_names statement (ElseIf test body) scope d = both (N (F test) scope d) (Ns (folded_all width body) scope d) (N test scope d) (Ns body scope d) (folded_names false test scope d) (all_named body scope d)
    folded_names statement (Else body) scope d = all_named body scope d
    folded_names statement (While test body) scope d = both (N (F test) scope d) (Ns (folded_all width body) scope d) (N test scope d) (Ns body scope d) (folded_names false test scope d) (all_named body scope d)
    folded_names statement (For start test step body) scope d =
        both (N (F start) scope d) (N (F test) scope d ++ (N (F step) scope d ++ Ns (folded_all width body) scope d)) (N start scope d) (N test scope d ++ (N step scope d ++ Ns body scope d)) (folded_names false start scope d)
        (both (N (F test) scope d) (N (F step) scope d ++ Ns (folded_all width body) scope d) (N test scope d) (N step scope d ++ Ns body scope d) (folded_names false test scope d)
        (both (N (F step) scope d) (Ns (folded_all width body) scope d) (N step scope d) (Ns body scope d) (folded_names false step scope d) (all_named body scope d)))
    folded_names statement (Print place format args) scope d = both (N (F place) scope d) (Ns (Fs args) scope d) (N place scope d) (Ns args scope d) (folded_names false place scope d) (args_named args scope d)
    folded_names statement (Switch value cases) scope d = both (N (F value) scope d) (Ns (folded_all width cases) scope d) (N value scope d) (Ns cases scope d) (folded_names false value scope d) (all_named cases scope d)
    folded_names statement (Case value body) scope d = both (N (F value) scope d) (Ns (folded_all width body) scope d) (N value scope d) (Ns body scope d) (folded_names false value scope d) (all_named body scope d)
    folded_names statement (Default body) scope d = all_named body scope d
    folded_names statement (OperationRegion at name space args) scope d = ap (λ es. declared_errors whole at name scope d ++ es) (args_named args scope d)
    folded_names statement (BankField here from region to bank value flags items) scope d =
        ap (λ es. use_errors whole from region scope ++ (use_errors whole to bank scope ++ (es ++ items_errors whole items scope d))) (folded_names false value scope d)
    folded_names statement (CreateField form args at name) scope d = ap (λ es. es ++ declared_errors whole at name scope d) (args_named args scope d)
    folded_names statement (Container' kind at name body) scope d =
        ap (λ es. declared_errors whole at name scope d ++ es) (all_named body (declared_path name scope) (with_declared (declared_path name scope) (As (ContainerObject kind)) d))
    folded_names statement (Scope here at name body) scope d = ap (λ es. (use_errors whole at name scope ++ scope_errors whole here at name scope d) ++ es) (all_named body (scope_path d name scope) d)
    folded_names statement _ scope d = refl

    args_named : (ts : Trees) (scope : AbsolutePath) (d : Declarations) → Ns (Fs ts) scope d ≡ Ns ts scope d
    args_named no_trees scope d = refl
    args_named (tree t ts) scope d =
        ap (λ e. N (F t) scope d ++ Ns (Fs ts) scope e) (folded_declares width false t scope d)
        ∙ both (N (F t) scope d) (Ns (Fs ts) scope (declare t scope d)) (N t scope d) (Ns ts scope (declare t scope d)) (folded_names false t scope d) (args_named ts scope (declare t scope d))

    pub all_named : (ts : Trees) (scope : AbsolutePath) (d : Declarations) → Ns (folded_all width ts) scope d ≡ Ns ts scope d
    all_named no_trees scope d = refl
    all_named (tree t ts) scope d =
        ap (λ e. N (folded width true t) scope d ++ Ns (folded_all width ts) scope e) (folded_declares width true t scope d)
        ∙ both (N (folded width true t) scope d) (Ns (folded_all width ts) scope (declare t scope d)) (N t scope d) (Ns ts scope (declare t scope d)) (folded_names true t scope d) (all_named ts scope (declare t scope d))

  -- ---- kinds

  letters_quiet : (letter : Letter) → letter_types whole letter [] [] [] ≡ []
  letters_quiet Valued = refl
  letters_quiet Kept = refl
  letters_quiet Placed = refl
  letters_quiet Used = refl
  letters_quiet (L.Raw size) = refl

  constants_typed : (asked : Asked) (letters : List Letter) (ts : Trees) (scope : AbsolutePath) → AreConstants ts → operand_types whole asked letters ts scope ≡ []
  constants_typed asked [] ts scope h = refl
  constants_typed asked (letter ∷ letters) no_trees scope h = refl
  constants_typed asked (letter ∷ letters) (tree (Integer n) ts) scope h = both (letter_types whole letter [] [] []) (operand_types whole asked letters ts scope) [] [] (letters_quiet letter) (constants_typed asked letters ts scope h.1)
  constants_typed asked (letter ∷ letters) (tree (Constant literal) ts) scope h = both (letter_types whole letter [] [] []) (operand_types whole asked letters ts scope) [] [] (letters_quiet letter) (constants_typed asked letters ts scope h.1)
  constants_typed asked (letter ∷ letters) (tree _ ts) scope h = absurd h.0

  target_types : (ts : Trees) (t : Tree) (scope : AbsolutePath) → Targets ts t → spot_types_all whole ts scope ≡ spot_types whole t scope
  target_types _ _ scope NoTarget = refl
  target_types _ _ scope (OneTarget t) = right_nil (spot_types whole t scope)
  target_types _ _ scope (LastTarget t) = right_nil (spot_types whole t scope)

  abbrev of_operator : Plain → Trees → Trees → AbsolutePath → List NameError
  of_operator op args targets scope = operand_types whole (asked_by op) (row_of op).operands args scope ++ spot_types_all whole targets scope

  reduced_types : (statement : Bool) (op : Plain) (args targets : Trees) (scope : AbsolutePath) → T (reduced width statement op args targets) scope ≡ of_operator op args targets scope
  reduced_types statement op args targets scope =
      reduced_as (λ t. T t scope ≡ of_operator op args targets scope) width statement op args targets refl
      (λ n le h k. sym (both (operand_types whole (asked_by op) (row_of op).operands args scope) (spot_types_all whole targets scope) [] [] (constants_typed (asked_by op) (row_of op).operands args scope h) (target_types targets Omitted scope k)))
      (λ n target le h k. right_nil (spot_types whole target scope ++ []) ∙ right_nil (spot_types whole target scope)
      ∙ sym (both (operand_types whole (asked_by op) (row_of op).operands args scope) (spot_types_all whole targets scope) [] (spot_types whole target scope) (constants_typed (asked_by op) (row_of op).operands args scope h) (target_types targets target scope k)))

  sized_types : (size : Tree) (elements : Trees) (scope : AbsolutePath) → T (sized size elements) scope ≡ T size scope ++ element_types_all whole elements scope
  sized_types size elements scope = sized_as (λ t. T t scope ≡ T size scope ++ element_types_all whole elements scope) size elements (λ n e lt. sym (ap (λ t. T t scope ++ element_types_all whole elements scope) e)) refl

  -- as a place
  abbrev of_spot : Plain → Trees → Trees → AbsolutePath → List NameError
  of_spot op args targets scope = spot_form_types whole (spot_form op) (of_operator op args targets scope) (first_types whole args scope)

  used_typed : (asked : Asked) (t : Tree) (scope : AbsolutePath) → used_types whole asked (F t) scope ≡ used_types whole asked t scope
  used_typed asked (Apply op args targets) scope = reduced_other (λ t. used_types whole asked t scope ≡ []) (λ op args targets. refl) (λ n. refl) width false op (Fs args) (Fs targets)
  used_typed asked (VarPackage size elements) scope = sized_other (λ t. used_types whole asked t scope ≡ []) (λ n es. refl) (λ n es. refl) (F size) (Fs elements)
  used_typed asked _ scope = refl

  element_typed : (t : Tree) (errors : List NameError) → element_types whole (F t) errors ≡ element_types whole t errors
  element_typed (Apply op args targets) errors = reduced_other (λ t. element_types whole t errors ≡ errors) (λ op args targets. refl) (λ n. refl) width false op (Fs args) (Fs targets)
  element_typed (VarPackage size elements) errors = sized_other (λ t. element_types whole t errors ≡ errors) (λ n es. refl) (λ n es. refl) (F size) (Fs elements)
  element_typed _ errors = refl

  letter_typed : (letter : Letter) (v v' p p' u u' : List NameError) → v ≡ v' → p ≡ p' → u ≡ u' → letter_types whole letter v p u ≡ letter_types whole letter v' p' u'
  letter_typed letter v v' p p' u u' hv hp hu = ap (λ es. letter_types whole letter es p u) hv ∙ ap (λ es. letter_types whole letter v' es u) hp ∙ ap (letter_types whole letter v' p') hu

  reduced_place : (op : Plain) (args targets : Trees) (scope : AbsolutePath) → spot_types whole (reduced width false op args targets) scope ≡ of_spot op args targets scope
  reduced_place (Plain.Number op) args targets scope = reduced_as (λ t. spot_types whole t scope ≡ []) width false (Plain.Number op) args targets refl (λ n le h k. refl) (λ n target le h k. refl)
  reduced_place (Plain.Data op) args targets scope = refl
  reduced_place (Plain.Event op) args targets scope = refl

  mutual
    folded_types : (statement : Bool) (t : Tree) (scope : AbsolutePath) → T (folded width statement t) scope ≡ T t scope
    folded_types statement (Call at name args) scope =
        ap (λ n. unless (takes n (name_end whole name scope)) (WrongCount at name) ++ types_all whole (Fs args) scope) (count_args width args)
        ∙ ap (λ es. unless (takes (count args) (name_end whole name scope)) (WrongCount at name) ++ es) (args_typed args scope)
    folded_types statement (Apply op args targets) scope =
        reduced_types statement op (Fs args) (Fs targets) scope
        ∙ both (operand_types whole (asked_by op) (row_of op).operands (Fs args) scope) (spot_types_all whole (Fs targets) scope) (operand_types whole (asked_by op) (row_of op).operands args scope) (spot_types_all whole targets scope)
        (operands_typed (asked_by op) (row_of op).operands args scope) (targets_typed targets scope)
    folded_types statement (Operated op args) scope = operands_typed (asked_by op) (row_of op).operands args scope
    folded_types statement (Assigned target value) scope = both (T (F value) scope) (spot_types whole (F target) scope) (T value scope) (spot_types whole target scope) (folded_types false value scope) (spot_typed target scope)
    folded_types statement (AssignedBy op target value) scope = both (T (F target) scope) (T (F value) scope) (T target scope) (T value scope) (folded_types false target scope) (folded_types false value scope)
    folded_types statement (Buffer size bytes) scope = folded_types false size scope
    folded_types statement (Package n elements) scope = elements_typed elements scope
    folded_types statement (VarPackage size elements) scope =
        sized_types (F size) (Fs elements) scope
        ∙ both (T (F size) scope) (element_types_all whole (Fs elements) scope) (T size scope) (element_types_all whole elements scope) (folded_types false size scope) (elements_typed elements scope)
    folded_types statement (CondRefOf place target) scope =
        both (spot_types whole (F place) scope) (spot_types whole (F target) scope) (spot_types whole place scope) (spot_types whole target scope) (spot_typed place scope) (spot_typed target scope)
    folded_types statement (If test body) scope = both (T (F test) scope) (types_all whole (folded_all width body) scope) (T test scope) (types_all whole body scope) (folded_types false test scope) (all_typed body scope)
    folded_types statement (ElseIf test body) scope = both (T (F test) scope) (types_all whole (folded_all width body) scope) (T test scope) (types_all whole body scope) (folded_types false test scope) (all_typed body scope)
    folded_types statement (Else body) scope = all_typed body scope
    folded_types statement (While test body) scope = both (T (F test) scope) (types_all whole (folded_all width body) scope) (T test scope) (types_all whole body scope) (folded_types false test scope) (all_typed body scope)
    folded_types statement (For start test step body) scope =
        both (T (F start) scope) (T (F test) scope ++ (T (F step) scope ++ types_all whole (folded_all width body) scope)) (T start scope) (T test scope ++ (T step scope ++ types_all whole body scope)) (folded_types false start scope)
        (both (T (F test) scope) (T (F step) scope ++ types_all whole (folded_all width body) scope) (T test scope) (T step scope ++ types_all whole body scope) (folded_types false test scope)
        (both (T (F step) scope) (types_all whole (folded_all width body) scope) (T step scope) (types_all whole body scope) (folded_types false step scope) (all_typed body scope)))
    folded_types statement (Print place format args) scope = both (spot_types whole (F place) scope) (types_all whole (Fs args) scope) (spot_types whole place scope) (types_all whole args scope) (spot_typed place scope) (args_typed args scope)
    folded_types statement (Switch value cases) scope = both (T (F value) scope) (types_all whole (folded_all width cases) scope) (T value scope) (types_all whole cases scope) (folded_types false value scope) (all_typed cases scope)
    folded_types statement (Case value body) scope = both (T (F value) scope) (types_all whole (folded_all width body) scope) (T value scope) (types_all whole body scope) (folded_types false value scope) (all_typed body scope)
    folded_types statement (Default body) scope = all_typed body scope
    folded_types statement (OperationRegion at name space args) scope = operands_typed Anything region_letters args scope
    folded_types statement (BankField here from region to bank value flags items) scope =
        ap (λ es. asked_types whole (ARegion here) from region scope ++ (asked_types whole AUnit to bank scope ++ es)) (folded_types false value scope)
    folded_types statement (CreateField form args at name) scope = operands_typed Anything (field_letters form) args scope
    folded_types statement (Return value) scope = folded_types false value scope
    folded_types statement (Name at name value) scope = folded_types false value scope
    folded_types statement (Method at name flags body) scope = all_typed body (declared_path name scope)
    folded_types statement (Container' kind at name body) scope = all_typed body (declared_path name scope)
    folded_types statement (Scope here at name body) scope = all_typed body (choose (denoted (is_named whole.all) name scope) [] (λ path. path))
    folded_types statement _ scope = refl

    spot_typed : (t : Tree) (scope : AbsolutePath) → spot_types whole (F t) scope ≡ spot_types whole t scope
    spot_typed (Apply op args targets) scope =
        reduced_place op (Fs args) (Fs targets) scope
        ∙ ap (λ es. spot_form_types whole (spot_form op) es (first_types whole (Fs args) scope))
        (both (operand_types whole (asked_by op) (row_of op).operands (Fs args) scope) (spot_types_all whole (Fs targets) scope) (operand_types whole (asked_by op) (row_of op).operands args scope) (spot_types_all whole targets scope)
        (operands_typed (asked_by op) (row_of op).operands args scope) (targets_typed targets scope))
        ∙ ap (spot_form_types whole (spot_form op) (of_operator op args targets scope)) (first_typed args scope)
    spot_typed (Operated op args) scope =
        ap (λ es. spot_form_types whole (spot_form op) es (first_types whole (Fs args) scope)) (operands_typed (asked_by op) (row_of op).operands args scope)
        ∙ ap (spot_form_types whole (spot_form op) (operand_types whole (asked_by op) (row_of op).operands args scope)) (first_typed args scope)
    spot_typed (VarPackage size elements) scope = sized_other (λ t. spot_types whole t scope ≡ []) (λ n es. refl) (λ n es. refl) (F size) (Fs elements)
    spot_typed _ scope = refl

    first_typed : (ts : Trees) (scope : AbsolutePath) → first_types whole (Fs ts) scope ≡ first_types whole ts scope
    first_typed no_trees scope = refl
    first_typed (tree t ts) scope = folded_types false t scope

    operands_typed : (asked : Asked) (letters : List Letter) (ts : Trees) (scope : AbsolutePath) → operand_types whole asked letters (Fs ts) scope ≡ operand_types whole asked letters ts scope
    operands_typed asked [] no_trees scope = refl
    operands_typed asked [] (tree t ts) scope = refl
    operands_typed asked (letter ∷ letters) no_trees scope = refl
    operands_typed asked (letter ∷ letters) (tree t ts) scope =
        both (letter_types whole letter (T (F t) scope) (spot_types whole (F t) scope) (used_types whole asked (F t) scope)) (operand_types whole asked letters (Fs ts) scope)
        (letter_types whole letter (T t scope) (spot_types whole t scope) (used_types whole asked t scope)) (operand_types whole asked letters ts scope)
        (letter_typed letter (T (F t) scope) (T t scope) (spot_types whole (F t) scope) (spot_types whole t scope) (used_types whole asked (F t) scope) (used_types whole asked t scope) (folded_types false t scope) (spot_typed t scope) (used_typed asked t scope))
        (operands_typed asked letters ts scope)

    targets_typed : (ts : Trees) (scope : AbsolutePath) → spot_types_all whole (Fs ts) scope ≡ spot_types_all whole ts scope
    targets_typed no_trees scope = refl
    targets_typed (tree t ts) scope = both (spot_types whole (F t) scope) (spot_types_all whole (Fs ts) scope) (spot_types whole t scope) (spot_types_all whole ts scope) (spot_typed t scope) (targets_typed ts scope)

    elements_typed : (ts : Trees) (scope : AbsolutePath) → element_types_all whole (Fs ts) scope ≡ element_types_all whole ts scope
    elements_typed no_trees scope = refl
    elements_typed (tree t ts) scope =
        both (element_types whole (F t) (T (F t) scope)) (element_types_all whole (Fs ts) scope) (element_types whole t (T t scope)) (element_types_all whole ts scope)
        (element_typed t (T (F t) scope) ∙ ap (element_types whole t) (folded_types false t scope)) (elements_typed ts scope)

    args_typed : (ts : Trees) (scope : AbsolutePath) → types_all whole (Fs ts) scope ≡ types_all whole ts scope
    args_typed no_trees scope = refl
    args_typed (tree t ts) scope = both (T (F t) scope) (types_all whole (Fs ts) scope) (T t scope) (types_all whole ts scope) (folded_types false t scope) (args_typed ts scope)

    pub all_typed : (ts : Trees) (scope : AbsolutePath) → types_all whole (folded_all width ts) scope ≡ types_all whole ts scope
    all_typed no_trees scope = refl
    all_typed (tree t ts) scope =
        both (T (folded width true t) scope) (types_all whole (folded_all width ts) scope) (T t scope) (types_all whole ts scope) (folded_types true t scope) (all_typed ts scope)

-- the same errors of names
pub same_name_errors : (width : Width) (program : Trees) → name_errors (folded_all width program) ≡ name_errors program
same_name_errors width program =
    ap (λ whole. names_all whole (folded_all width program) [] nothing_declared) (same_whole width program) ∙ all_named width (whole_of program) program [] nothing_declared

-- the same of kinds and counts
pub same_type_errors : (width : Width) (program : Trees) → type_errors (folded_all width program) ≡ type_errors program
same_type_errors width program =
    ap (λ whole. types_all whole (folded_all width program) []) (same_whole width program) ∙ all_typed width (whole_of program) program []
