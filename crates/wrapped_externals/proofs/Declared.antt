-- A program declares the same with its Externals in Ifs, and calls the same.
use Rattle.std.proofs.Common.{◌≡◌, suc, Bool, true, false, List, [], ◌∷◌, ◌++◌, refl, sym, ap, ◌∙◌, append_assoc}
use Rattle.acpi_values.specs.Paths.{AbsolutePath}
use Rattle.acpi_state.specs.Objects.{MethodObject, ContainerObject, root_objects}
use Rattle.asl_meaning.specs.Declarations.{As, Declarations, nothing_declared, is_named, scope_path, with_declared, declare, declare_all, declarations, calls, calls_all, called, declared_kinds, external_names, as_known, externals, known_of}
use Rattle.asl_tree.specs.Names.{declared_path, denoted}
use Rattle.asl_tree.specs.Tree.{Tree, Call, Apply, Buffer, Package, VarPackage, CondRefOf, Return, Name, External, Method, Container', Scope, If, ElseIf, Else, While, For, Print, OperationRegion, BankField, CreateField, Operated, Assigned, AssignedBy, Trees, no_trees, tree, count, Switch, Case, Default}
use Rattle.acpi_names.specs.Errors.{whole_of}
use Rattle.acpi_names.proofs.Mentions.{right_nil}
use Rattle.wrapped_externals.specs.Wraps.{starts_branch, leading, in_if, guarded, wrapped, wrapped_args, behind, wrapped_all}
use Rattle.asl_lower.specs.Nests.{joined}

pub both : {A : Type 0} (xs ys xs' ys' : List A) → xs ≡ xs' → ys ≡ ys' → xs ++ ys ≡ xs' ++ ys'
both xs ys xs' ys' h k = ap (λ zs. zs ++ ys) h ∙ ap (λ zs. xs' ++ zs) k

pub count_args : (ts : Trees) → count (wrapped_args ts) ≡ count ts
count_args no_trees = refl
count_args (tree t ts) = ap suc (count_args ts)

-- ---- a run of Externals before other terms

joined_declares : (ts us : Trees) (scope : AbsolutePath) (d : Declarations) → declare_all (joined ts us) scope d ≡ declare_all us scope (declare_all ts scope d)
joined_declares no_trees us scope d = refl
joined_declares (tree t ts) us scope d = joined_declares ts us scope (declare t scope d)

pub if_declares : (run : Trees) (kept : Bool) (scope : AbsolutePath) (d : Declarations) → declare_all (in_if run kept) scope d ≡ declare_all run scope d
if_declares no_trees kept scope d = refl
if_declares (tree t ts) true scope d = refl
if_declares (tree t ts) false scope d = refl

guarded_declares : (run terms : Trees) (scope : AbsolutePath) (d : Declarations) → declare_all (guarded run terms) scope d ≡ declare_all terms scope (declare_all run scope d)
guarded_declares run terms scope d =
    joined_declares (in_if run (starts_branch terms)) terms scope d ∙ ap (declare_all terms scope) (if_declares run (starts_branch terms) scope d)

module _ (has : AbsolutePath → Bool) where
  joined_calls : (ts us : Trees) (scope : AbsolutePath) (d : Declarations) → calls_all has (joined ts us) scope d ≡ calls_all has ts scope d ++ calls_all has us scope (declare_all ts scope d)
  joined_calls no_trees us scope d = refl
  joined_calls (tree t ts) us scope d =
      ap (λ cs. calls has t scope d ++ cs) (joined_calls ts us scope (declare t scope d)) ∙ sym (append_assoc (calls has t scope d) (calls_all has ts scope (declare t scope d)) (calls_all has us scope (declare_all ts scope (declare t scope d))))

  if_calls : (run : Trees) (kept : Bool) (scope : AbsolutePath) (d : Declarations) → calls_all has (in_if run kept) scope d ≡ calls_all has run scope d
  if_calls no_trees kept scope d = refl
  if_calls (tree t ts) true scope d = refl
  if_calls (tree t ts) false scope d = right_nil (calls_all has (tree t ts) scope d)

  guarded_calls : (run terms : Trees) (scope : AbsolutePath) (d : Declarations) → calls_all has (guarded run terms) scope d ≡ calls_all has run scope d ++ calls_all has terms scope (declare_all run scope d)
  guarded_calls run terms scope d =
      joined_calls (in_if run (starts_branch terms)) terms scope d ∙ ap (λ e. calls_all has (in_if run (starts_branch terms)) scope d ++ calls_all has terms scope e) (if_declares run (starts_branch terms) scope d)
      ∙ ap (λ cs. cs ++ calls_all has terms scope (declare_all run scope d)) (if_calls run (starts_branch terms) scope d)

-- ---- what is declared

all_declared : (ts : Trees) (scope : AbsolutePath) (d : Declarations) → declare_all (behind ts) scope (declare_all (leading ts) scope d) ≡ declare_all ts scope d → declare_all (wrapped_all ts) scope d ≡ declare_all ts scope d
all_declared ts scope d h = guarded_declares (leading ts) (behind ts) scope d ∙ h

mutual
  pub wrapped_declares : (t : Tree) (scope : AbsolutePath) (d : Declarations) → declare (wrapped t) scope d ≡ declare t scope d
  wrapped_declares (Method at name flags body) scope d = all_declared body (declared_path name scope) (with_declared (declared_path name scope) (As (MethodObject flags)) d) (behind_declares body (declared_path name scope) (with_declared (declared_path name scope) (As (MethodObject flags)) d))
  wrapped_declares (Container' kind at name body) scope d = all_declared body (declared_path name scope) (with_declared (declared_path name scope) (As (ContainerObject kind)) d) (behind_declares body (declared_path name scope) (with_declared (declared_path name scope) (As (ContainerObject kind)) d))
  wrapped_declares (Scope here at name body) scope d = all_declared body (scope_path d name scope) d (behind_declares body (scope_path d name scope) d)
  wrapped_declares (If test body) scope d = all_declared body scope d (behind_declares body scope d)
  wrapped_declares (ElseIf test body) scope d = all_declared body scope d (behind_declares body scope d)
  wrapped_declares (Else body) scope d = all_declared body scope d (behind_declares body scope d)
  wrapped_declares (While test body) scope d = all_declared body scope d (behind_declares body scope d)
  wrapped_declares (For start test step body) scope d = all_declared body scope d (behind_declares body scope d)
  wrapped_declares (Switch value cases) scope d = all_declared cases scope d (behind_declares cases scope d)
  wrapped_declares (Case value body) scope d = all_declared body scope d (behind_declares body scope d)
  wrapped_declares (Default body) scope d = all_declared body scope d (behind_declares body scope d)
  wrapped_declares _ scope d = refl

  behind_declares : (ts : Trees) (scope : AbsolutePath) (d : Declarations) → declare_all (behind ts) scope (declare_all (leading ts) scope d) ≡ declare_all ts scope d
  behind_declares no_trees scope d = refl
  behind_declares (tree (External here at name type parameters) ts) scope d = behind_declares ts scope (declare (External here at name type parameters) scope d)
  behind_declares (tree t ts) scope d = ap (declare_all (wrapped_all ts) scope) (wrapped_declares t scope d) ∙ all_declared ts scope (declare t scope d) (behind_declares ts scope (declare t scope d))

pub all_declare : (ts : Trees) (scope : AbsolutePath) (d : Declarations) → declare_all (wrapped_all ts) scope d ≡ declare_all ts scope d
all_declare ts scope d = all_declared ts scope d (behind_declares ts scope d)

-- ---- what is called

module _ (has : AbsolutePath → Bool) where
  all_called : (ts : Trees) (scope : AbsolutePath) (d : Declarations) → calls_all has (leading ts) scope d ++ calls_all has (behind ts) scope (declare_all (leading ts) scope d) ≡ calls_all has ts scope d
      → calls_all has (wrapped_all ts) scope d ≡ calls_all has ts scope d
  all_called ts scope d h = guarded_calls has (leading ts) (behind ts) scope d ∙ h

  mutual
    wrapped_calls : (t : Tree) (scope : AbsolutePath) (d : Declarations) → calls has (wrapped t) scope d ≡ calls has t scope d
    wrapped_calls (Call at name args) scope d =
        ap (λ n. (denoted has name scope, n) ∷ calls_all has (wrapped_args args) scope d) (count_args args) ∙ ap (λ cs. (denoted has name scope, count args) ∷ cs) (args_call args scope d)
    wrapped_calls (Apply op args targets) scope d =
        both (calls_all has (wrapped_args args) scope d) (calls_all has (wrapped_args targets) scope d) (calls_all has args scope d) (calls_all has targets scope d) (args_call args scope d) (args_call targets scope d)
    wrapped_calls (Operated op args) scope d = args_call args scope d
    wrapped_calls (Assigned target value) scope d =
        both (calls has (wrapped value) scope d) (calls has (wrapped target) scope d) (calls has value scope d) (calls has target scope d) (wrapped_calls value scope d) (wrapped_calls target scope d)
    wrapped_calls (AssignedBy op target value) scope d =
        both (calls has (wrapped target) scope d) (calls has (wrapped value) scope d) (calls has target scope d) (calls has value scope d) (wrapped_calls target scope d) (wrapped_calls value scope d)
    wrapped_calls (Buffer size bytes) scope d = wrapped_calls size scope d
    wrapped_calls (Package n elements) scope d = args_call elements scope d
    wrapped_calls (VarPackage size elements) scope d =
        both (calls has (wrapped size) scope d) (calls_all has (wrapped_args elements) scope d) (calls has size scope d) (calls_all has elements scope d) (wrapped_calls size scope d) (args_call elements scope d)
    wrapped_calls (CondRefOf place target) scope d =
        both (calls has (wrapped place) scope d) (calls has (wrapped target) scope d) (calls has place scope d) (calls has target scope d) (wrapped_calls place scope d) (wrapped_calls target scope d)
    wrapped_calls (If test body) scope d =
        both (calls has (wrapped test) scope d) (calls_all has (wrapped_all body) scope d) (calls has test scope d) (calls_all has body scope d) (wrapped_calls test scope d) (all_called body scope d (behind_call body scope d))
    wrapped_calls (ElseIf test body) scope d =
        both (calls has (wrapped test) scope d) (calls_all has (wrapped_all body) scope d) (calls has test scope d) (calls_all has body scope d) (wrapped_calls test scope d) (all_called body scope d (behind_call body scope d))
    wrapped_calls (Else body) scope d = all_called body scope d (behind_call body scope d)
    wrapped_calls (While test body) scope d =
        both (calls has (wrapped test) scope d) (calls_all has (wrapped_all body) scope d) (calls has test scope d) (calls_all has body scope d) (wrapped_calls test scope d) (all_called body scope d (behind_call body scope d))
    wrapped_calls (For start test step body) scope d =
        both (calls has (wrapped start) scope d) (calls has (wrapped test) scope d ++ (calls has (wrapped step) scope d ++ calls_all has (wrapped_all body) scope d)) (calls has start scope d) (calls has test scope d ++ (calls has step scope d ++ calls_all has body scope d)) (wrapped_calls start scope d)
        (both (calls has (wrapped test) scope d) (calls has (wrapped step) scope d ++ calls_all has (wrapped_all body) scope d) (calls has test scope d) (calls has step scope d ++ calls_all has body scope d) (wrapped_calls test scope d)
        (both (calls has (wrapped step) scope d) (calls_all has (wrapped_all body) scope d) (calls has step scope d) (calls_all has body scope d) (wrapped_calls step scope d) (all_called body scope d (behind_call body scope d))))
    wrapped_calls (Print place format args) scope d =
        both (calls has (wrapped place) scope d) (calls_all has (wrapped_args args) scope d) (calls has place scope d) (calls_all has args scope d) (wrapped_calls place scope d) (args_call args scope d)
    wrapped_calls (Switch value cases) scope d =
        both (calls has (wrapped value) scope d) (calls_all has (wrapped_all cases) scope d) (calls has value scope d) (calls_all has cases scope d) (wrapped_calls value scope d) (all_called cases scope d (behind_call cases scope d))
    wrapped_calls (Case value body) scope d =
        both (calls has (wrapped value) scope d) (calls_all has (wrapped_all body) scope d) (calls has value scope d) (calls_all has body scope d) (wrapped_calls value scope d) (all_called body scope d (behind_call body scope d))
    wrapped_calls (Default body) scope d = all_called body scope d (behind_call body scope d)
    wrapped_calls (OperationRegion at name space args) scope d = args_call args scope d
    wrapped_calls (BankField here from region to bank value flags items) scope d = wrapped_calls value scope d
    wrapped_calls (CreateField form args at name) scope d = args_call args scope d
    wrapped_calls (Return value) scope d = wrapped_calls value scope d
    wrapped_calls (Name at name value) scope d = wrapped_calls value scope d
    wrapped_calls (Method at name flags body) scope d = all_called body (declared_path name scope) (with_declared (declared_path name scope) (As (MethodObject flags)) d) (behind_call body (declared_path name scope) (with_declared (declared_path name scope) (As (MethodObject flags)) d))
    wrapped_calls (Container' kind at name body) scope d = all_called body (declared_path name scope) (with_declared (declared_path name scope) (As (ContainerObject kind)) d) (behind_call body (declared_path name scope) (with_declared (declared_path name scope) (As (ContainerObject kind)) d))
    wrapped_calls (Scope here at name body) scope d = all_called body (scope_path d name scope) d (behind_call body (scope_path d name scope) d)
    wrapped_calls _ scope d = refl

    args_call : (ts : Trees) (scope : AbsolutePath) (d : Declarations) → calls_all has (wrapped_args ts) scope d ≡ calls_all has ts scope d
    args_call no_trees scope d = refl
    args_call (tree t ts) scope d =
        ap (λ e. calls has (wrapped t) scope d ++ calls_all has (wrapped_args ts) scope e) (wrapped_declares t scope d)
        ∙ both (calls has (wrapped t) scope d) (calls_all has (wrapped_args ts) scope (declare t scope d)) (calls has t scope d) (calls_all has ts scope (declare t scope d)) (wrapped_calls t scope d) (args_call ts scope (declare t scope d))

    behind_call : (ts : Trees) (scope : AbsolutePath) (d : Declarations) → calls_all has (leading ts) scope d ++ calls_all has (behind ts) scope (declare_all (leading ts) scope d) ≡ calls_all has ts scope d
    behind_call no_trees scope d = refl
    behind_call (tree (External here at name type parameters) ts) scope d = behind_call ts scope (declare (External here at name type parameters) scope d)
    behind_call (tree t ts) scope d =
        ap (λ e. calls has (wrapped t) scope d ++ calls_all has (wrapped_all ts) scope e) (wrapped_declares t scope d)
        ∙ both (calls has (wrapped t) scope d) (calls_all has (wrapped_all ts) scope (declare t scope d)) (calls has t scope d) (calls_all has ts scope (declare t scope d)) (wrapped_calls t scope d) (all_called ts scope (declare t scope d) (behind_call ts scope (declare t scope d)))

  pub all_call : (ts : Trees) (scope : AbsolutePath) (d : Declarations) → calls_all has (wrapped_all ts) scope d ≡ calls_all has ts scope d
  all_call ts scope d = all_called ts scope d (behind_call ts scope d)

-- ---- the names of the whole program

-- the same names are declared
pub same_declarations : (program : Trees) → declarations (wrapped_all program) ≡ declarations program
same_declarations program = all_declare program [] nothing_declared

-- the same calls are made, in order
pub same_calls : (has : AbsolutePath → Bool) (program : Trees) → calls_all has (wrapped_all program) [] nothing_declared ≡ calls_all has program [] nothing_declared
same_calls has program = all_call has program [] nothing_declared

-- the same objects of other tables
pub same_externals : (program : Trees) → externals (wrapped_all program) ≡ externals program
same_externals program =
    ap (λ d. external_names (called (calls_all (is_named d) (wrapped_all program) [] nothing_declared)) d.external) (same_declarations program)
    ∙ ap (λ cs. external_names (called cs) (declarations program).external) (same_calls (is_named (declarations program)) program)

-- the paths of the block are the same
pub same_known : (program : Trees) → known_of (wrapped_all program) ≡ known_of program
same_known program =
    ap (λ d. declared_kinds (is_named d) d.declared ++ as_known (externals (wrapped_all program) ++ root_objects)) (same_declarations program)
    ∙ ap (λ names. declared_kinds (is_named (declarations program)) (declarations program).declared ++ as_known (names ++ root_objects)) (same_externals program)

pub same_whole : (program : Trees) → whole_of (wrapped_all program) ≡ whole_of program
same_whole program =
    ap (λ d. record { all = d; known = known_of (wrapped_all program); calls = called (calls_all (is_named d) (wrapped_all program) [] nothing_declared) }) (same_declarations program)
    ∙ ap (λ known. record { all = declarations program; known = known; calls = called (calls_all (is_named (declarations program)) (wrapped_all program) [] nothing_declared) }) (same_known program)
    ∙ ap (λ cs. record { all = declarations program; known = known_of program; calls = called cs }) (same_calls (is_named (declarations program)) program)
