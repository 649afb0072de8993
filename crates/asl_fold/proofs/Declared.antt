-- A program declares the same with its constants folded, and calls the same.
use Rattle.std.proofs.Common.{◌≡◌, suc, Bool, true, false, List, [], ◌∷◌, ◌++◌, refl, sym, ap, ◌∙◌}
use Rattle.acpi_values.specs.declared.width.Width.{Width}
use Rattle.acpi_values.specs.declared.operator.Plain.{Plain}
use Rattle.acpi_values.specs.Paths.{AbsolutePath}
use Rattle.acpi_state.specs.Objects.{MethodObject, ContainerObject, root_objects}
use Rattle.asl_meaning.specs.Declarations.{As, Declarations, nothing_declared, is_named, scope_path, with_declared, declare, declare_all, declarations, calls, calls_all, called, declared_kinds, external_names, as_known, externals, known_of}
use Rattle.asl_tree.specs.Names.{declared_path, denoted}
use Rattle.asl_tree.specs.Tree.{Tree, Integer, Constant, Omitted, Call, Apply, Buffer, Package, VarPackage, CondRefOf, Return, Name, Method, Container', Scope, If, ElseIf, Else, While, For, Print, OperationRegion, BankField, CreateField, Operated, Assigned, AssignedBy, Trees, no_trees, tree, count, Switch, Case, Default}
use Rattle.acpi_names.specs.Errors.{whole_of}
use Rattle.acpi_names.proofs.Mentions.{right_nil}
use Rattle.asl_fold.specs.Folds.{reduced, sized, folded, folded_args, folded_all}
use Rattle.asl_fold.proofs.Values.{reduced_other, sized_other, sized_as, reduced_as, AreConstants, Targets, NoTarget, OneTarget, LastTarget}

pub both : {A : Type 0} (xs ys xs' ys' : List A) → xs ≡ xs' → ys ≡ ys' → xs ++ ys ≡ xs' ++ ys'
both xs ys xs' ys' h k = ap (λ zs. zs ++ ys) h ∙ ap (λ zs. xs' ++ zs) k

pub count_args : (width : Width) (ts : Trees) → count (folded_args width ts) ≡ count ts
count_args width no_trees = refl
count_args width (tree t ts) = ap suc (count_args width ts)

module _ (width : Width) where
  -- ---- what is declared

  mutual
    pub folded_declares : (statement : Bool) (t : Tree) (scope : AbsolutePath) (d : Declarations) → declare (folded width statement t) scope d ≡ declare t scope d
    folded_declares statement (Apply op args targets) scope d =
        reduced_other (λ t. declare t scope d ≡ d) (λ op args targets. refl) (λ n. refl) width statement op (folded_args width args) (folded_args width targets)
    folded_declares statement (VarPackage size elements) scope d = sized_other (λ t. declare t scope d ≡ d) (λ n es. refl) (λ n es. refl) (folded width false size) (folded_args width elements)
    folded_declares statement (Method at name flags body) scope d = all_declare body (declared_path name scope) (with_declared (declared_path name scope) (As (MethodObject flags)) d)
    folded_declares statement (Container' kind at name body) scope d = all_declare body (declared_path name scope) (with_declared (declared_path name scope) (As (ContainerObject kind)) d)
    folded_declares statement (Scope here at name body) scope d = all_declare body (scope_path d name scope) d
    folded_declares statement (If test body) scope d = all_declare body scope d
    folded_declares statement (ElseIf test body) scope d = all_declare body scope d
    folded_declares statement (Else body) scope d = all_declare body scope d
    folded_declares statement (While test body) scope d = all_declare body scope d
    folded_declares statement (For start test step body) scope d = all_declare body scope d
    folded_declares statement (Switch value cases) scope d = all_declare cases scope d
    folded_declares statement (Case value body) scope d = all_declare body scope d
    folded_declares statement (Default body) scope d = all_declare body scope d
    folded_declares statement _ scope d = refl

    pub all_declare : (ts : Trees) (scope : AbsolutePath) (d : Declarations) → declare_all (folded_all width ts) scope d ≡ declare_all ts scope d
    all_declare no_trees scope d = refl
    all_declare (tree t ts) scope d = ap (declare_all (folded_all width ts) scope) (folded_declares true t scope d) ∙ all_declare ts scope (declare t scope d)

  -- ---- what is called

  module _ (has : AbsolutePath → Bool) where
    constants_call : (ts : Trees) (scope : AbsolutePath) (d : Declarations) → AreConstants ts → calls_all has ts scope d ≡ []
    constants_call no_trees scope d h = refl
    constants_call (tree (Integer n) ts) scope d h = constants_call ts scope d h.1
    constants_call (tree (Constant literal) ts) scope d h = constants_call ts scope d h.1
    constants_call (tree _ ts) scope d h = absurd h.0

    target_calls : (ts : Trees) (t : Tree) (scope : AbsolutePath) (d : Declarations) → Targets ts t → calls_all has ts scope d ≡ calls has t scope d
    target_calls _ _ scope d NoTarget = refl
    target_calls _ _ scope d (OneTarget t) = right_nil (calls has t scope d)
    target_calls _ _ scope d (LastTarget t) = right_nil (calls has t scope d)

    reduced_calls : (statement : Bool) (op : Plain) (args targets : Trees) (scope : AbsolutePath) (d : Declarations) → calls has (reduced width statement op args targets) scope d ≡ calls_all has args scope d ++ calls_all has targets scope d
    reduced_calls statement op args targets scope d =
        reduced_as (λ t. calls has t scope d ≡ calls_all has args scope d ++ calls_all has targets scope d) width statement op args targets refl
        (λ n le h k. sym (both (calls_all has args scope d) (calls_all has targets scope d) [] [] (constants_call args scope d h) (target_calls targets Omitted scope d k)))
        (λ n target le h k. right_nil (calls has target scope d ++ []) ∙ right_nil (calls has target scope d)
        ∙ sym (both (calls_all has args scope d) (calls_all has targets scope d) [] (calls has target scope d) (constants_call args scope d h) (target_calls targets target scope d k)))

    sized_calls : (size : Tree) (elements : Trees) (scope : AbsolutePath) (d : Declarations) → calls has (sized size elements) scope d ≡ calls has size scope d ++ calls_all has elements scope d
    sized_calls size elements scope d =
        sized_as (λ t. calls has t scope d ≡ calls has size scope d ++ calls_all has elements scope d) size elements (λ n e lt. sym (ap (λ t. calls has t scope d ++ calls_all has elements scope d) e)) refl

    mutual
      folded_calls : (statement : Bool) (t : Tree) (scope : AbsolutePath) (d : Declarations) → calls has (folded width statement t) scope d ≡ calls has t scope d
      folded_calls statement (Call at name args) scope d =
          ap (λ n. (denoted has name scope, n) ∷ calls_all has (folded_args width args) scope d) (count_args width args) ∙ ap (λ cs. (denoted has name scope, count args) ∷ cs) (args_call args scope d)
      folded_calls statement (Apply op args targets) scope d =
          reduced_calls statement op (folded_args width args) (folded_args width targets) scope d
          ∙ both (calls_all has (folded_args width args) scope d) (calls_all has (folded_args width targets) scope d) (calls_all has args scope d) (calls_all has targets scope d) (args_call args scope d) (args_call targets scope d)
      folded_calls statement (Operated op args) scope d = args_call args scope d
      folded_calls statement (Assigned target value) scope d =
          both (calls has (folded width false value) scope d) (calls has (folded width false target) scope d) (calls has value scope d) (calls has target scope d) (folded_calls false value scope d) (folded_calls false target scope d)
      folded_calls statement (AssignedBy op target value) scope d =
          both (calls has (folded width false target) scope d) (calls has (folded width false value) scope d) (calls has target scope d) (calls has value scope d) (folded_calls false target scope d) (folded_calls false value scope d)
      folded_calls statement (Buffer size bytes) scope d = folded_calls false size scope d
      folded_calls statement (Package n elements) scope d = args_call elements scope d
      folded_calls statement (VarPackage size elements) scope d =
          sized_calls (folded width false size) (folded_args width elements) scope d
          ∙ both (calls has (folded width false size) scope d) (calls_all has (folded_args width elements) scope d) (calls has size scope d) (calls_all has elements scope d) (folded_calls false size scope d) (args_call elements scope d)
      folded_calls statement (CondRefOf place target) scope d =
          both (calls has (folded width false place) scope d) (calls has (folded width false target) scope d) (calls has place scope d) (calls has target scope d) (folded_calls false place scope d) (folded_calls false target scope d)
      folded_calls statement (If test body) scope d =
          both (calls has (folded width false test) scope d) (calls_all has (folded_all width body) scope d) (calls has test scope d) (calls_all has body scope d) (folded_calls false test scope d) (all_call body scope d)
      folded_calls statement (ElseIf test body) scope d =
          both (calls has (folded width false test) scope d) (calls_all has (folded_all width body) scope d) (calls has test scope d) (calls_all has body scope d) (folded_calls false test scope d) (all_call body scope d)
      folded_calls statement (Else body) scope d = all_call body scope d
      folded_calls statement (While test body) scope d =
          both (calls has (folded width false test) scope d) (calls_all has (folded_all width body) scope d) (calls has test scope d) (calls_all has body scope d) (folded_calls false test scope d) (all_call body scope d)
      folded_calls statement (For start test step body) scope d =
          both (calls has (folded width false start) scope d) (calls has (folded width false test) scope d ++ (calls has (folded width false step) scope d ++ calls_all has (folded_all width body) scope d)) (calls has start scope d) (calls has test scope d ++ (calls has step scope d ++ calls_all has body scope d)) (folded_calls false start scope d)
          (both (calls has (folded width false test) scope d) (calls has (folded width false step) scope d ++ calls_all has (folded_all width body) scope d) (calls has test scope d) (calls has step scope d ++ calls_all has body scope d) (folded_calls false test scope d)
          (both (calls has (folded width false step) scope d) (calls_all has (folded_all width body) scope d) (calls has step scope d) (calls_all has body scope d) (folded_calls false step scope d) (all_call body scope d)))
      folded_calls statement (Print place format args) scope d =
          both (calls has (folded width false place) scope d) (calls_all has (folded_args width args) scope d) (calls has place scope d) (calls_all has args scope d) (folded_calls false place scope d) (args_call args scope d)
      folded_calls statement (Switch value cases) scope d =
          both (calls has (folded width false value) scope d) (calls_all has (folded_all width cases) scope d) (calls has value scope d) (calls_all has cases scope d) (folded_calls false value scope d) (all_call cases scope d)
      folded_calls statement (Case value body) scope d =
          both (calls has (folded width false value) scope d) (calls_all has (folded_all width body) scope d) (calls has value scope d) (calls_all has body scope d) (folded_calls false value scope d) (all_call body scope d)
      folded_calls statement (Default body) scope d = all_call body scope d
      folded_calls statement (OperationRegion at name space args) scope d = args_call args scope d
      folded_calls statement (BankField here from region to bank value flags items) scope d = folded_calls false value scope d
      folded_calls statement (CreateField form args at name) scope d = args_call args scope d
      folded_calls statement (Return value) scope d = folded_calls false value scope d
      folded_calls statement (Name at name value) scope d = folded_calls false value scope d
      folded_calls statement (Method at name flags body) scope d = all_call body (declared_path name scope) (with_declared (declared_path name scope) (As (MethodObject flags)) d)
      folded_calls statement (Container' kind at name body) scope d = all_call body (declared_path name scope) (with_declared (declared_path name scope) (As (ContainerObject kind)) d)
      folded_calls statement (Scope here at name body) scope d = all_call body (scope_path d name scope) d
      folded_calls statement _ scope d = refl

      args_call : (ts : Trees) (scope : AbsolutePath) (d : Declarations) → calls_all has (folded_args width ts) scope d ≡ calls_all has ts scope d
      args_call no_trees scope d = refl
      args_call (tree t ts) scope d =
          ap (λ e. calls has (folded width false t) scope d ++ calls_all has (folded_args width ts) scope e) (folded_declares false t scope d)
          ∙ both (calls has (folded width false t) scope d) (calls_all has (folded_args width ts) scope (declare t scope d)) (calls has t scope d) (calls_all has ts scope (declare t scope d)) (folded_calls false t scope d) (args_call ts scope (declare t scope d))

      pub all_call : (ts : Trees) (scope : AbsolutePath) (d : Declarations) → calls_all has (folded_all width ts) scope d ≡ calls_all has ts scope d
      all_call no_trees scope d = refl
      all_call (tree t ts) scope d =
          ap (λ e. calls has (folded width true t) scope d ++ calls_all has (folded_all width ts) scope e) (folded_declares true t scope d)
          ∙ both (calls has (folded width true t) scope d) (calls_all has (folded_all width ts) scope (declare t scope d)) (calls has t scope d) (calls_all has ts scope (declare t scope d)) (folded_calls true t scope d) (all_call ts scope (declare t scope d))

-- ---- the names of the whole program

-- the same names are declared
pub same_declarations : (width : Width) (program : Trees) → declarations (folded_all width program) ≡ declarations program
same_declarations width program = all_declare width program [] nothing_declared

-- the same calls are made, in order
pub same_calls : (width : Width) (has : AbsolutePath → Bool) (program : Trees) → calls_all has (folded_all width program) [] nothing_declared ≡ calls_all has program [] nothing_declared
same_calls width has program = all_call width has program [] nothing_declared

-- the same objects of other tables
pub same_externals : (width : Width) (program : Trees) → externals (folded_all width program) ≡ externals program
same_externals width program =
    ap (λ d. external_names (called (calls_all (is_named d) (folded_all width program) [] nothing_declared)) d.external) (same_declarations width program)
    ∙ ap (λ cs. external_names (called cs) (declarations program).external) (same_calls width (is_named (declarations program)) program)

-- the paths of the block are the same
pub same_known : (width : Width) (program : Trees) → known_of (folded_all width program) ≡ known_of program
same_known width program =
    ap (λ d. declared_kinds (is_named d) d.declared ++ as_known (externals (folded_all width program) ++ root_objects)) (same_declarations width program)
    ∙ ap (λ names. declared_kinds (is_named (declarations program)) (declarations program).declared ++ as_known (names ++ root_objects)) (same_externals width program)

pub same_whole : (width : Width) (program : Trees) → whole_of (folded_all width program) ≡ whole_of program
same_whole width program =
    ap (λ d. record { all = d; known = known_of (folded_all width program); calls = called (calls_all (is_named d) (folded_all width program) [] nothing_declared) }) (same_declarations width program)
    ∙ ap (λ known. record { all = declarations program; known = known; calls = called (calls_all (is_named (declarations program)) (folded_all width program) [] nothing_declared) }) (same_known width program)
    ∙ ap (λ cs. record { all = declarations program; known = known_of program; calls = called cs }) (same_calls width (is_named (declarations program)) program)
