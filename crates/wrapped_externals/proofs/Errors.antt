-- A program has the same errors of names and kinds with its Externals in Ifs.
use Rattle.std.proofs.Common.{◌≡◌, Bool, true, false, List, [], ◌∷◌, ◌++◌, refl, sym, ap, ◌∙◌, append_assoc}
use Rattle.acpi_values.specs.declared.operator.Plain.{Plain}
use Rattle.acpi_values.specs.Paths.{AbsolutePath}
use Rattle.acpi_values.specs.Operators.{Letter, row_of}
use Rattle.acpi_state.specs.Objects.{MethodObject, ContainerObject}
use Rattle.acpi_state.specs.FieldActs.{region_letters, field_letters}
use Rattle.acpi_state.specs.Outcomes.{choose}
use Rattle.asl_meaning.specs.Declarations.{As, Declarations, nothing_declared, is_named, scope_path, with_declared, declare, declare_all}
use Rattle.asl_meaning.specs.Meaning.{spot_form}
use Rattle.asl_tree.specs.Names.{declared_path, denoted}
use Rattle.asl_tree.specs.Tree.{Tree, Use, Call, Apply, Buffer, Package, VarPackage, CondRefOf, Return, Name, External, Method, Container', Scope, If, ElseIf, Else, While, For, Print, OperationRegion, BankField, CreateField, Operated, Assigned, AssignedBy, Trees, no_trees, tree, count, Switch, Case, Default}
use Rattle.acpi_names.specs.Errors.{NameError, Asked, Anything, AUnit, ARegion, Whole, whole_of, asked_by, use_errors, call_errors, declared_errors, scope_errors, items_errors, cond_errors, names, names_all, asked_types, used_types}
use Rattle.acpi_names.specs.Errors.{letter_types, spot_form_types, element_types, types, spot_types, first_types, operand_types, spot_types_all, element_types_all, types_all, unless, takes, name_end, WrongCount, name_errors, type_errors}
use Rattle.acpi_names.proofs.Mentions.{right_nil}
use Rattle.wrapped_externals.specs.Wraps.{starts_branch, leading, in_if, guarded, wrapped, wrapped_args, behind, wrapped_all}
use Rattle.asl_lower.specs.Nests.{joined}
use Rattle.wrapped_externals.proofs.Declared.{both, count_args, if_declares, wrapped_declares, same_whole}

module _ (whole : Whole) where
  abbrev F : Tree → Tree
  F = wrapped

  abbrev Fs : Trees → Trees
  Fs = wrapped_args

  abbrev N : Tree → AbsolutePath → Declarations → List NameError
  N = names whole

  abbrev Ns : Trees → AbsolutePath → Declarations → List NameError
  Ns = names_all whole

  abbrev T : Tree → AbsolutePath → List NameError
  T = types whole

  -- ---- a run of Externals before other terms

  joined_names : (ts us : Trees) (scope : AbsolutePath) (d : Declarations) → Ns (joined ts us) scope d ≡ Ns ts scope d ++ Ns us scope (declare_all ts scope d)
  joined_names no_trees us scope d = refl
  joined_names (tree t ts) us scope d =
      ap (λ es. N t scope d ++ es) (joined_names ts us scope (declare t scope d)) ∙ sym (append_assoc (N t scope d) (Ns ts scope (declare t scope d)) (Ns us scope (declare_all ts scope (declare t scope d))))

  if_names : (run : Trees) (kept : Bool) (scope : AbsolutePath) (d : Declarations) → Ns (in_if run kept) scope d ≡ Ns run scope d
  if_names no_trees kept scope d = refl
  if_names (tree t ts) true scope d = refl
  if_names (tree t ts) false scope d = right_nil (Ns (tree t ts) scope d)

  guarded_names : (run terms : Trees) (scope : AbsolutePath) (d : Declarations) → Ns (guarded run terms) scope d ≡ Ns run scope d ++ Ns terms scope (declare_all run scope d)
  guarded_names run terms scope d =
      joined_names (in_if run (starts_branch terms)) terms scope d ∙ ap (λ e. Ns (in_if run (starts_branch terms)) scope d ++ Ns terms scope e) (if_declares run (starts_branch terms) scope d)
      ∙ ap (λ es. es ++ Ns terms scope (declare_all run scope d)) (if_names run (starts_branch terms) scope d)

  joined_types : (ts us : Trees) (scope : AbsolutePath) → types_all whole (joined ts us) scope ≡ types_all whole ts scope ++ types_all whole us scope
  joined_types no_trees us scope = refl
  joined_types (tree t ts) us scope = ap (λ es. T t scope ++ es) (joined_types ts us scope) ∙ sym (append_assoc (T t scope) (types_all whole ts scope) (types_all whole us scope))

  if_types : (run : Trees) (kept : Bool) (scope : AbsolutePath) → types_all whole (in_if run kept) scope ≡ types_all whole run scope
  if_types no_trees kept scope = refl
  if_types (tree t ts) true scope = refl
  if_types (tree t ts) false scope = right_nil (types_all whole (tree t ts) scope)

  guarded_types : (run terms : Trees) (scope : AbsolutePath) → types_all whole (guarded run terms) scope ≡ types_all whole run scope ++ types_all whole terms scope
  guarded_types run terms scope = joined_types (in_if run (starts_branch terms)) terms scope ∙ ap (λ es. es ++ types_all whole terms scope) (if_types run (starts_branch terms) scope)

  -- ---- names

  cond_named : (t : Tree) (errors : List NameError) (scope : AbsolutePath) → cond_errors whole (F t) errors scope ≡ cond_errors whole t errors scope
  cond_named (Use at name) errors scope = refl
  cond_named _ errors scope = refl

  all_names : (ts : Trees) (scope : AbsolutePath) (d : Declarations) → Ns (leading ts) scope d ++ Ns (behind ts) scope (declare_all (leading ts) scope d) ≡ Ns ts scope d → Ns (wrapped_all ts) scope d ≡ Ns ts scope d
  all_names ts scope d h = guarded_names (leading ts) (behind ts) scope d ∙ h

  mutual
    wrapped_names : (t : Tree) (scope : AbsolutePath) (d : Declarations) → N (wrapped t) scope d ≡ N t scope d
    wrapped_names (Call at name args) scope d =
        ap (λ n. (use_errors whole at name scope ++ call_errors whole at name n scope) ++ Ns (Fs args) scope d) (count_args args)
        ∙ ap (λ es. (use_errors whole at name scope ++ call_errors whole at name (count args) scope) ++ es) (args_named args scope d)
    wrapped_names (Apply op args targets) scope d =
        both (Ns (Fs args) scope d) (Ns (Fs targets) scope d) (Ns args scope d) (Ns targets scope d) (args_named args scope d) (args_named targets scope d)
    wrapped_names (Operated op args) scope d = args_named args scope d
    wrapped_names (Assigned target value) scope d = both (N (F value) scope d) (N (F target) scope d) (N value scope d) (N target scope d) (wrapped_names value scope d) (wrapped_names target scope d)
    wrapped_names (AssignedBy op target value) scope d = both (N (F target) scope d) (N (F value) scope d) (N target scope d) (N value scope d) (wrapped_names target scope d) (wrapped_names value scope d)
    wrapped_names (Buffer size bytes) scope d = wrapped_names size scope d
    wrapped_names (Package n elements) scope d = args_named elements scope d
    wrapped_names (VarPackage size elements) scope d =
        both (N (F size) scope d) (Ns (Fs elements) scope d) (N size scope d) (Ns elements scope d) (wrapped_names size scope d) (args_named elements scope d)
    wrapped_names (CondRefOf place target) scope d =
        both (cond_errors whole (F place) (N (F place) scope d) scope) (N (F target) scope d) (cond_errors whole place (N place scope d) scope) (N target scope d)
        (cond_named place (N (F place) scope d) scope ∙ ap (λ es. cond_errors whole place es scope) (wrapped_names place scope d)) (wrapped_names target scope d)
    wrapped_names (Return value) scope d = wrapped_names value scope d
    wrapped_names (Name at name value) scope d = ap (λ es. declared_errors whole at name scope d ++ es) (wrapped_names value scope d)
    wrapped_names (Method at name flags body) scope d =
        ap (λ es. declared_errors whole at name scope d ++ es) (all_names body (declared_path name scope) (with_declared (declared_path name scope) (As (MethodObject flags)) d) (behind_named body (declared_path name scope) (with_declared (declared_path name scope) (As (MethodObject flags)) d)))
    wrapped_names (If test body) scope d = both (N (F test) scope d) (Ns (wrapped_all body) scope d) (N test scope d) (Ns body scope d) (wrapped_names test scope d) (all_names body scope d (behind_named body scope d))
    wrapped_names (ElseIf test body) scope d = both (N (F test) scope d) (Ns (wrapped_all body) scope d) (N test scope d) (Ns body scope d) (wrapped_names test scope d) (all_names body scope d (behind_named body scope d))
    wrapped_names (Else body) scope d = all_names body scope d (behind_named body scope d)
    wrapped_names (While test body) scope d = both (N (F test) scope d) (Ns (wrapped_all body) scope d) (N test scope d) (Ns body scope d) (wrapped_names test scope d) (all_names body scope d (behind_named body scope d))
    wrapped_names (For start test step body) scope d =
        both (N (F start) scope d) (N (F test) scope d ++ (N (F step) scope d ++ Ns (wrapped_all body) scope d)) (N start scope d) (N test scope d ++ (N step scope d ++ Ns body scope d)) (wrapped_names start scope d)
        (both (N (F test) scope d) (N (F step) scope d ++ Ns (wrapped_all body) scope d) (N test scope d) (N step scope d ++ Ns body scope d) (wrapped_names test scope d)
        (both (N (F step) scope d) (Ns (wrapped_all body) scope d) (N step scope d) (Ns body scope d) (wrapped_names step scope d) (all_names body scope d (behind_named body scope d))))
    wrapped_names (Print place format args) scope d = both (N (F place) scope d) (Ns (Fs args) scope d) (N place scope d) (Ns args scope d) (wrapped_names place scope d) (args_named args scope d)
    wrapped_names (Switch value cases) scope d = both (N (F value) scope d) (Ns (wrapped_all cases) scope d) (N value scope d) (Ns cases scope d) (wrapped_names value scope d) (all_names cases scope d (behind_named cases scope d))
    wrapped_names (Case value body) scope d = both (N (F value) scope d) (Ns (wrapped_all body) scope d) (N value scope d) (Ns body scope d) (wrapped_names value scope d) (all_names body scope d (behind_named body scope d))
    wrapped_names (Default body) scope d = all_names body scope d (behind_named body scope d)
    wrapped_names (OperationRegion at name space args) scope d = ap (λ es. declared_errors whole at name scope d ++ es) (args_named args scope d)
    wrapped_names (BankField here from region to bank value flags items) scope d =
        ap (λ es. use_errors whole from region scope ++ (use_errors whole to bank scope ++ (es ++ items_errors whole items scope d))) (wrapped_names value scope d)
    wrapped_names (CreateField form args at name) scope d = ap (λ es. es ++ declared_errors whole at name scope d) (args_named args scope d)
    wrapped_names (Container' kind at name body) scope d =
        ap (λ es. declared_errors whole at name scope d ++ es) (all_names body (declared_path name scope) (with_declared (declared_path name scope) (As (ContainerObject kind)) d) (behind_named body (declared_path name scope) (with_declared (declared_path name scope) (As (ContainerObject kind)) d)))
    wrapped_names (Scope here at name body) scope d = ap (λ es. (use_errors whole at name scope ++ scope_errors whole here at name scope d) ++ es) (all_names body (scope_path d name scope) d (behind_named body (scope_path d name scope) d))
    wrapped_names _ scope d = refl

    args_named : (ts : Trees) (scope : AbsolutePath) (d : Declarations) → Ns (Fs ts) scope d ≡ Ns ts scope d
    args_named no_trees scope d = refl
    args_named (tree t ts) scope d =
        ap (λ e. N (F t) scope d ++ Ns (Fs ts) scope e) (wrapped_declares t scope d)
        ∙ both (N (F t) scope d) (Ns (Fs ts) scope (declare t scope d)) (N t scope d) (Ns ts scope (declare t scope d)) (wrapped_names t scope d) (args_named ts scope (declare t scope d))

    behind_named : (ts : Trees) (scope : AbsolutePath) (d : Declarations) → Ns (leading ts) scope d ++ Ns (behind ts) scope (declare_all (leading ts) scope d) ≡ Ns ts scope d
    behind_named no_trees scope d = refl
    behind_named (tree (External here at name type parameters) ts) scope d =
        let first = External here at name type parameters in
        append_assoc (N first scope d) (Ns (leading ts) scope (declare first scope d)) (Ns (behind ts) scope (declare_all (leading ts) scope (declare first scope d)))
        ∙ ap (λ es. N first scope d ++ es) (behind_named ts scope (declare first scope d))
    behind_named (tree t ts) scope d =
        ap (λ e. N (F t) scope d ++ Ns (wrapped_all ts) scope e) (wrapped_declares t scope d)
        ∙ both (N (F t) scope d) (Ns (wrapped_all ts) scope (declare t scope d)) (N t scope d) (Ns ts scope (declare t scope d)) (wrapped_names t scope d) (all_names ts scope (declare t scope d) (behind_named ts scope (declare t scope d)))

  pub all_named : (ts : Trees) (scope : AbsolutePath) (d : Declarations) → Ns (wrapped_all ts) scope d ≡ Ns ts scope d
  all_named ts scope d = all_names ts scope d (behind_named ts scope d)

  -- ---- kinds

  used_typed : (asked : Asked) (t : Tree) (scope : AbsolutePath) → used_types whole asked (F t) scope ≡ used_types whole asked t scope
  used_typed asked (Use at name) scope = refl
  used_typed asked _ scope = refl

  element_typed : (t : Tree) (errors : List NameError) → element_types whole (F t) errors ≡ element_types whole t errors
  element_typed (Use at name) errors = refl
  element_typed _ errors = refl

  letter_typed : (letter : Letter) (v v' p p' u u' : List NameError) → v ≡ v' → p ≡ p' → u ≡ u' → letter_types whole letter v p u ≡ letter_types whole letter v' p' u'
  letter_typed letter v v' p p' u u' hv hp hu = ap (λ es. letter_types whole letter es p u) hv ∙ ap (λ es. letter_types whole letter v' es u) hp ∙ ap (letter_types whole letter v' p') hu

  abbrev of_operator : Plain → Trees → Trees → AbsolutePath → List NameError
  of_operator op args targets scope = operand_types whole (asked_by op) (row_of op).operands args scope ++ spot_types_all whole targets scope

  all_types : (ts : Trees) (scope : AbsolutePath) → types_all whole (leading ts) scope ++ types_all whole (behind ts) scope ≡ types_all whole ts scope → types_all whole (wrapped_all ts) scope ≡ types_all whole ts scope
  all_types ts scope h = guarded_types (leading ts) (behind ts) scope ∙ h

  mutual
    wrapped_types : (t : Tree) (scope : AbsolutePath) → T (wrapped t) scope ≡ T t scope
    wrapped_types (Call at name args) scope =
        ap (λ n. unless (takes n (name_end whole name scope)) (WrongCount at name) ++ types_all whole (Fs args) scope) (count_args args)
        ∙ ap (λ es. unless (takes (count args) (name_end whole name scope)) (WrongCount at name) ++ es) (args_typed args scope)
    wrapped_types (Apply op args targets) scope =
        both (operand_types whole (asked_by op) (row_of op).operands (Fs args) scope) (spot_types_all whole (Fs targets) scope) (operand_types whole (asked_by op) (row_of op).operands args scope) (spot_types_all whole targets scope)
        (operands_typed (asked_by op) (row_of op).operands args scope) (targets_typed targets scope)
    wrapped_types (Operated op args) scope = operands_typed (asked_by op) (row_of op).operands args scope
    wrapped_types (Assigned target value) scope = both (T (F value) scope) (spot_types whole (F target) scope) (T value scope) (spot_types whole target scope) (wrapped_types value scope) (spot_typed target scope)
    wrapped_types (AssignedBy op target value) scope = both (T (F target) scope) (T (F value) scope) (T target scope) (T value scope) (wrapped_types target scope) (wrapped_types value scope)
    wrapped_types (Buffer size bytes) scope = wrapped_types size scope
    wrapped_types (Package n elements) scope = elements_typed elements scope
    wrapped_types (VarPackage size elements) scope =
        both (T (F size) scope) (element_types_all whole (Fs elements) scope) (T size scope) (element_types_all whole elements scope) (wrapped_types size scope) (elements_typed elements scope)
    wrapped_types (CondRefOf place target) scope =
        both (spot_types whole (F place) scope) (spot_types whole (F target) scope) (spot_types whole place scope) (spot_types whole target scope) (spot_typed place scope) (spot_typed target scope)
    wrapped_types (If test body) scope = both (T (F test) scope) (types_all whole (wrapped_all body) scope) (T test scope) (types_all whole body scope) (wrapped_types test scope) (all_types body scope (behind_typed body scope))
    wrapped_types (ElseIf test body) scope = both (T (F test) scope) (types_all whole (wrapped_all body) scope) (T test scope) (types_all whole body scope) (wrapped_types test scope) (all_types body scope (behind_typed body scope))
    wrapped_types (Else body) scope = all_types body scope (behind_typed body scope)
    wrapped_types (While test body) scope = both (T (F test) scope) (types_all whole (wrapped_all body) scope) (T test scope) (types_all whole body scope) (wrapped_types test scope) (all_types body scope (behind_typed body scope))
    wrapped_types (For start test step body) scope =
        both (T (F start) scope) (T (F test) scope ++ (T (F step) scope ++ types_all whole (wrapped_all body) scope)) (T start scope) (T test scope ++ (T step scope ++ types_all whole body scope)) (wrapped_types start scope)
        (both (T (F test) scope) (T (F step) scope ++ types_all whole (wrapped_all body) scope) (T test scope) (T step scope ++ types_all whole body scope) (wrapped_types test scope)
        (both (T (F step) scope) (types_all whole (wrapped_all body) scope) (T step scope) (types_all whole body scope) (wrapped_types step scope) (all_types body scope (behind_typed body scope))))
    wrapped_types (Print place format args) scope = both (spot_types whole (F place) scope) (types_all whole (Fs args) scope) (spot_types whole place scope) (types_all whole args scope) (spot_typed place scope) (args_typed args scope)
    wrapped_types (Switch value cases) scope = both (T (F value) scope) (types_all whole (wrapped_all cases) scope) (T value scope) (types_all whole cases scope) (wrapped_types value scope) (all_types cases scope (behind_typed cases scope))
    wrapped_types (Case value body) scope = both (T (F value) scope) (types_all whole (wrapped_all body) scope) (T value scope) (types_all whole body scope) (wrapped_types value scope) (all_types body scope (behind_typed body scope))
    wrapped_types (Default body) scope = all_types body scope (behind_typed body scope)
    wrapped_types (OperationRegion at name space args) scope = operands_typed Anything region_letters args scope
    wrapped_types (BankField here from region to bank value flags items) scope =
        ap (λ es. asked_types whole (ARegion here) from region scope ++ (asked_types whole AUnit to bank scope ++ es)) (wrapped_types value scope)
    wrapped_types (CreateField form args at name) scope = operands_typed Anything (field_letters form) args scope
    wrapped_types (Return value) scope = wrapped_types value scope
    wrapped_types (Name at name value) scope = wrapped_types value scope
    wrapped_types (Method at name flags body) scope = all_types body (declared_path name scope) (behind_typed body (declared_path name scope))
    wrapped_types (Container' kind at name body) scope = all_types body (declared_path name scope) (behind_typed body (declared_path name scope))
    wrapped_types (Scope here at name body) scope = all_types body (choose (denoted (is_named whole.all) name scope) [] (λ path. path)) (behind_typed body (choose (denoted (is_named whole.all) name scope) [] (λ path. path)))
    wrapped_types _ scope = refl

    spot_typed : (t : Tree) (scope : AbsolutePath) → spot_types whole (F t) scope ≡ spot_types whole t scope
    spot_typed (Apply op args targets) scope =
        ap (λ es. spot_form_types whole (spot_form op) es (first_types whole (Fs args) scope))
        (both (operand_types whole (asked_by op) (row_of op).operands (Fs args) scope) (spot_types_all whole (Fs targets) scope) (operand_types whole (asked_by op) (row_of op).operands args scope) (spot_types_all whole targets scope)
        (operands_typed (asked_by op) (row_of op).operands args scope) (targets_typed targets scope))
        ∙ ap (spot_form_types whole (spot_form op) (of_operator op args targets scope)) (first_typed args scope)
    spot_typed (Operated op args) scope =
        ap (λ es. spot_form_types whole (spot_form op) es (first_types whole (Fs args) scope)) (operands_typed (asked_by op) (row_of op).operands args scope)
        ∙ ap (spot_form_types whole (spot_form op) (operand_types whole (asked_by op) (row_of op).operands args scope)) (first_typed args scope)
    spot_typed _ scope = refl

    first_typed : (ts : Trees) (scope : AbsolutePath) → first_types whole (Fs ts) scope ≡ first_types whole ts scope
    first_typed no_trees scope = refl
    first_typed (tree t ts) scope = wrapped_types t scope

    operands_typed : (asked : Asked) (letters : List Letter) (ts : Trees) (scope : AbsolutePath) → operand_types whole asked letters (Fs ts) scope ≡ operand_types whole asked letters ts scope
    operands_typed asked [] no_trees scope = refl
    operands_typed asked [] (tree t ts) scope = refl
    operands_typed asked (letter ∷ letters) no_trees scope = refl
    operands_typed asked (letter ∷ letters) (tree t ts) scope =
        both (letter_types whole letter (T (F t) scope) (spot_types whole (F t) scope) (used_types whole asked (F t) scope)) (operand_types whole asked letters (Fs ts) scope)
        (letter_types whole letter (T t scope) (spot_types whole t scope) (used_types whole asked t scope)) (operand_types whole asked letters ts scope)
        (letter_typed letter (T (F t) scope) (T t scope) (spot_types whole (F t) scope) (spot_types whole t scope) (used_types whole asked (F t) scope) (used_types whole asked t scope) (wrapped_types t scope) (spot_typed t scope) (used_typed asked t scope))
        (operands_typed asked letters ts scope)

    targets_typed : (ts : Trees) (scope : AbsolutePath) → spot_types_all whole (Fs ts) scope ≡ spot_types_all whole ts scope
    targets_typed no_trees scope = refl
    targets_typed (tree t ts) scope = both (spot_types whole (F t) scope) (spot_types_all whole (Fs ts) scope) (spot_types whole t scope) (spot_types_all whole ts scope) (spot_typed t scope) (targets_typed ts scope)

    elements_typed : (ts : Trees) (scope : AbsolutePath) → element_types_all whole (Fs ts) scope ≡ element_types_all whole ts scope
    elements_typed no_trees scope = refl
    elements_typed (tree t ts) scope =
        both (element_types whole (F t) (T (F t) scope)) (element_types_all whole (Fs ts) scope) (element_types whole t (T t scope)) (element_types_all whole ts scope)
        (element_typed t (T (F t) scope) ∙ ap (element_types whole t) (wrapped_types t scope)) (elements_typed ts scope)

    args_typed : (ts : Trees) (scope : AbsolutePath) → types_all whole (Fs ts) scope ≡ types_all whole ts scope
    args_typed no_trees scope = refl
    args_typed (tree t ts) scope = both (T (F t) scope) (types_all whole (Fs ts) scope) (T t scope) (types_all whole ts scope) (wrapped_types t scope) (args_typed ts scope)

    behind_typed : (ts : Trees) (scope : AbsolutePath) → types_all whole (leading ts) scope ++ types_all whole (behind ts) scope ≡ types_all whole ts scope
    behind_typed no_trees scope = refl
    behind_typed (tree (External here at name type parameters) ts) scope = behind_typed ts scope
    behind_typed (tree t ts) scope =
        both (T (F t) scope) (types_all whole (wrapped_all ts) scope) (T t scope) (types_all whole ts scope) (wrapped_types t scope) (all_types ts scope (behind_typed ts scope))

  pub all_typed : (ts : Trees) (scope : AbsolutePath) → types_all whole (wrapped_all ts) scope ≡ types_all whole ts scope
  all_typed ts scope = all_types ts scope (behind_typed ts scope)

-- the same errors of names
pub same_name_errors : (program : Trees) → name_errors (wrapped_all program) ≡ name_errors program
same_name_errors program =
    ap (λ whole. names_all whole (wrapped_all program) [] nothing_declared) (same_whole program) ∙ all_named (whole_of program) program [] nothing_declared

-- the same of kinds and counts
pub same_type_errors : (program : Trees) → type_errors (wrapped_all program) ≡ type_errors program
same_type_errors program =
    ap (λ whole. types_all whole (wrapped_all program) []) (same_whole program) ∙ all_typed (whole_of program) program []
