-- Every error of a name stands at a node of the program.
use Rattle.std.proofs.Common.{ℕ, ◌<◌, Bool, true, false, List, [], ◌∷◌, ◌++◌, Option, Some, None, arith}
use Rattle.std.specs.Prelude.{nat_le, nat_eq, not, ◌&&◌, ◌||◌, is_some, length, if◌then◌else◌}
use Rattle.std.specs.List.{All}
use Rattle.std.proofs.lemmas.List.Elements.{All-cons}
use Rattle.acpi_values.specs.Paths.{AbsolutePath, is_same_path}
use Rattle.acpi_values.specs.Operators.{Letter, Valued, Kept, Placed, Used, Row, row_of}
use Rattle.acpi_values.specs.Operators as L
use Rattle.acpi_state.specs.FieldActs.{region_letters, field_letters}
use Rattle.acpi_state.specs.Objects.{MethodObject, ContainerObject, lookup}
use Rattle.acpi_state.specs.Outcomes.{choose}
use Rattle.asl_tree.specs.declared.path.Path.{Path}
use Rattle.acpi_values.specs.declared.operator.EventOp.TheVariants as EventOp
use Rattle.acpi_values.specs.declared.operator.Plain.{Plain}
use Rattle.asl_tree.specs.FieldItems.{FieldItem, UnitItem, SkipItem, OffsetItem, AccessItem, ConnectionItem, ToName, ToBytes}
use Rattle.asl_tree.specs.Names.{declared_path, denoted}
use Rattle.asl_tree.specs.Tree.{At, Tree, Use, Call, Apply, Buffer, Package, VarPackage, CondRefOf, Return, Name, Alias, External, Method, Mutex, Event, Container', Scope, Trees, no_trees, tree, count, OperationRegion, Field, IndexField, BankField, CreateField, UnitName, If, ElseIf, Else, While, Operated, Assigned, AssignedBy, Switch, Case, Default, For, Print}
use Rattle.asl_meaning.specs.Declarations.{As, ExternalType, Declarations, nothing_declared, is_named, scope_path, with_declared, declare, declare_item}
use Rattle.asl_meaning.specs.Meaning.{SpotForm, OfResult, OfInside, NoSpot, spot_form}
use Rattle.acpi_names.specs.Errors.{NameError, Twice, DeclaredHere, Missing, NoContainer, LeavesRoot, Differs, TooLong, WrongCount, WrongKind, Asked, Anything, AnObject, AValue, AMutex, AnEvent, AUnit, ARegion, asked_by, unless, Whole, whole_of, step_errors, length_errors, is_new, has_parent, agrees_with, final, is_container, takes_none, takes, is_mutex, is_event, is_unit, is_region}
use Rattle.acpi_names.specs.Errors.{unit_path, declared_errors, external_errors, use_errors, call_errors, scope_errors, item_errors, items_errors, cond_errors, names, names_all, name_end, asked_types, used_types, letter_types, spot_form_types, element_types, types, spot_types, first_types, operand_types, spot_types_all, element_types_all, types_all, name_errors, type_errors}
use Rattle.named_sessions.specs.Places.{IsIn, IsItemWithin, AreItemsWithin, IsWithin, AreWithin, at_of}

-- an External that may be called and does not say how many arguments it takes
abbrev is_open : Option ExternalType → Bool
is_open None = false
is_open (Some e) = not (is_some e.parameters) && (nat_eq e.type 0 || nat_eq e.type 8)

-- a call with as many arguments as the first one
abbrev is_first : ℕ → Option ℕ → Bool
is_first n None = true
is_first n (Some m) = nat_eq m n

module _ (files : ℕ) where
  -- each error stands in one of the files
  abbrev AreTold : List NameError → Type 0
  AreTold [] = Unit {0}
  AreTold (e ∷ es) = IsIn files (at_of e) × AreTold es

  -- a field that asks for a region stands in one of the files
  abbrev IsAskedIn : Asked → Type 0
  IsAskedIn (ARegion field) = IsIn files field
  IsAskedIn _ = Unit {0}

  both : (xs ys : List NameError) → AreTold xs → AreTold ys → AreTold (xs ++ ys)
  both [] ys h k = k
  both (e ∷ es) ys h k = (h.0, both es ys h.1 k)

  unless_told : (b : Bool) (e : NameError) → IsIn files (at_of e) → AreTold (unless b e)
  unless_told true e h = tt
  unless_told false e h = (h, tt)

  choose_told : {A : Type 0} (o : Option A) (f : A → List NameError) → ((a : A) → AreTold (f a)) → AreTold (choose o [] f)
  choose_told None f h = tt
  choose_told (Some a) f h = h a

  if_told : (b : Bool) (es : List NameError) → AreTold es → AreTold (if b then es else [])
  if_told true es h = h
  if_told false es h = tt

  step_told : (at : At) (name : Path) (scope : AbsolutePath) → IsIn files at → AreTold (step_errors at name scope)
  step_told at name scope h = unless_told (nat_le name.up (length scope)) (LeavesRoot at name) h

  length_told : (at : At) (name : Path) (path : AbsolutePath) → IsIn files at → AreTold (length_errors at name path)
  length_told at name path h = unless_told (nat_le (length path) 255) (TooLong at name) h

  module _ (whole : Whole) where
    declared_told : (at : At) (name : Path) (scope : AbsolutePath) (d : Declarations) → IsIn files at → AreTold (declared_errors whole at name scope d)
    declared_told at name scope d h =
        let path : AbsolutePath = declared_path name scope in
        both _ _ (unless_told (is_new d path) (Twice at path) h) (both _ _ (step_told at name scope h) (both _ _ (unless_told (has_parent whole.all path) (Missing at name) h) (length_told at name path h)))

    external_told : (here at : At) (name : Path) (e : ExternalType) (scope : AbsolutePath) (d : Declarations) → IsIn files here → IsIn files at → AreTold (external_errors whole here at name e scope d)
    external_told here at name e scope d k h =
        let path : AbsolutePath = declared_path name scope in
        both _ _ (unless_told (not (is_some (lookup whole.all.declared path))) (DeclaredHere at path) h)
        (both _ _ (step_told at name scope h) (both _ _ (length_told at name path h) (unless_told (agrees_with (lookup d.external path) e) (Differs here name) k)))

    use_told : (at : At) (name : Path) (scope : AbsolutePath) → IsIn files at → AreTold (use_errors whole at name scope)
    use_told at name scope h = both _ _ (step_told at name scope h) (unless_told (is_some (denoted (is_named whole.all) name scope)) (Missing at name) h)

    call_told : (at : At) (name : Path) (n : ℕ) (scope : AbsolutePath) → IsIn files at → AreTold (call_errors whole at name n scope)
    call_told at name n scope h =
        choose_told (denoted (is_named whole.all) name scope) _
        (λ path. if_told (is_open (lookup whole.all.external path)) (unless (is_first n (lookup whole.calls path)) (Differs at name)) (unless_told (is_first n (lookup whole.calls path)) (Differs at name) h))

    scope_told : (here at : At) (name : Path) (scope : AbsolutePath) (d : Declarations) → IsIn files here → IsIn files at → AreTold (scope_errors whole here at name scope d)
    scope_told here at name scope d k h =
        choose_told (denoted (is_named whole.all) name scope) _
        (λ path. both _ _ (unless_told (is_same_path path (scope_path d name scope)) (Missing at name) h) (unless_told (is_container (final whole.known path)) (NoContainer here name) k))

    item_told : (item : FieldItem UnitName) (scope : AbsolutePath) (d : Declarations) → IsItemWithin files item → AreTold (item_errors whole item scope d)
    item_told (UnitItem name bits) scope d h = declared_told name.at (unit_path name.segment) scope d h
    item_told (SkipItem bits) scope d h = tt
    item_told (OffsetItem bytes) scope d h = tt
    item_told (AccessItem access attribute length) scope d h = tt
    item_told (ConnectionItem (ToName at name)) scope d h = use_told at name scope h
    item_told (ConnectionItem (ToBytes bytes)) scope d h = tt

    items_told : (items : List (FieldItem UnitName)) (scope : AbsolutePath) (d : Declarations) → AreItemsWithin files items → AreTold (items_errors whole items scope d)
    items_told [] scope d h = tt
    items_told (item ∷ items) scope d h = both _ _ (item_told item scope d h.0) (items_told items scope (declare_item item scope d) h.1)

    cond_told : (t : Tree) (errors : List NameError) (scope : AbsolutePath) → IsWithin files t → AreTold errors → AreTold (cond_errors whole t errors scope)
    cond_told (Use at name) errors scope h k = step_told at name scope h
    cond_told _ errors scope h k = k

    mutual
      names_told : (t : Tree) (scope : AbsolutePath) (d : Declarations) → IsWithin files t → AreTold (names whole t scope d)
      names_told (Use at name) scope d h = use_told at name scope h
      names_told (Call at name args) scope d h = both _ _ (both _ _ (use_told at name scope h.0) (call_told at name (count args) scope h.0)) (names_all_told args scope d h.1)
      names_told (Apply op args targets) scope d h = both _ _ (names_all_told args scope d h.0) (names_all_told targets scope d h.1)
      names_told (Operated op args) scope d h = names_all_told args scope d h
      names_told (Assigned target value) scope d h = both _ _ (names_told value scope d h.1) (names_told target scope d h.0)
      names_told (AssignedBy op target value) scope d h = both _ _ (names_told target scope d h.0) (names_told value scope d h.1)
      names_told (Buffer size bytes) scope d h = names_told size scope d h
      names_told (Package n elements) scope d h = names_all_told elements scope d h
      names_told (VarPackage size elements) scope d h = both _ _ (names_told size scope d h.0) (names_all_told elements scope d h.1)
      names_told (CondRefOf place target) scope d h = both _ _ (cond_told place (names whole place scope d) scope h.0 (names_told place scope d h.0)) (names_told target scope d h.1)
      names_told (Return value) scope d h = names_told value scope d h
      names_told (Name at name value) scope d h = both _ _ (declared_told at name scope d h.0) (names_told value scope d h.1)
      names_told (Alias from source at name) scope d h = both _ _ (use_told from source scope h.0) (declared_told at name scope d h.1)
      names_told (External here at name type parameters) scope d h = external_told here at name (record { type = type; parameters = parameters }) scope d h.0 h.1
      names_told (Method at name flags body) scope d h = both _ _ (declared_told at name scope d h.0) (names_all_told body (declared_path name scope) (with_declared (declared_path name scope) (As (MethodObject flags)) d) h.1)
      names_told (Mutex at name level) scope d h = declared_told at name scope d h
      names_told (Event at name) scope d h = declared_told at name scope d h
      names_told (If test body) scope d h = both _ _ (names_told test scope d h.0) (names_all_told body scope d h.1)
      names_told (ElseIf test body) scope d h = both _ _ (names_told test scope d h.0) (names_all_told body scope d h.1)
      names_told (Else body) scope d h = names_all_told body scope d h
      names_told (While test body) scope d h = both _ _ (names_told test scope d h.0) (names_all_told body scope d h.1)
      names_told (For start test step body) scope d h = both _ _ (names_told start scope d h.0) (both _ _ (names_told test scope d h.1) (both _ _ (names_told step scope d h.2) (names_all_told body scope d h.3)))
      names_told (Print place format args) scope d h = both _ _ (names_told place scope d h.0) (names_all_told args scope d h.1)
      names_told (Switch value cases) scope d h = both _ _ (names_told value scope d h.0) (names_all_told cases scope d h.1)
      names_told (Case value body) scope d h = both _ _ (names_told value scope d h.0) (names_all_told body scope d h.1)
      names_told (Default body) scope d h = names_all_told body scope d h
      names_told (OperationRegion at name space args) scope d h = both _ _ (declared_told at name scope d h.0) (names_all_told args scope d h.1)
      names_told (Field here from region flags items) scope d h = both _ _ (use_told from region scope h.1) (items_told items scope d h.2)
      names_told (IndexField here from index to register flags items) scope d h = both _ _ (use_told from index scope h.1) (both _ _ (use_told to register scope h.2) (items_told items scope d h.3))
      names_told (BankField here from region to bank value flags items) scope d h =
          both _ _ (use_told from region scope h.1) (both _ _ (use_told to bank scope h.2) (both _ _ (names_told value scope d h.3) (items_told items scope d h.4)))
      names_told (CreateField form args at name) scope d h = both _ _ (names_all_told args scope d h.0) (declared_told at name scope d h.1)
      names_told (Container' kind at name body) scope d h =
          both _ _ (declared_told at name scope d h.0) (names_all_told body (declared_path name scope) (with_declared (declared_path name scope) (As (ContainerObject kind)) d) h.1)
      names_told (Scope here at name body) scope d h =
          both _ _ (both _ _ (use_told at name scope h.1) (scope_told here at name scope d h.0 h.1)) (names_all_told body (scope_path d name scope) d h.2)
      names_told _ scope d h = tt

      names_all_told : (ts : Trees) (scope : AbsolutePath) (d : Declarations) → AreWithin files ts → AreTold (names_all whole ts scope d)
      names_all_told no_trees scope d h = tt
      names_all_told (tree t ts) scope d h = both _ _ (names_told t scope d h.0) (names_all_told ts scope (declare t scope d) h.1)

    asked_told : (asked : Asked) (at : At) (name : Path) (scope : AbsolutePath) → IsIn files at → IsAskedIn asked → AreTold (asked_types whole asked at name scope)
    asked_told Anything at name scope h k = tt
    asked_told AnObject at name scope h k = tt
    asked_told AValue at name scope h k = unless_told (takes_none (name_end whole name scope)) (WrongCount at name) h
    asked_told AMutex at name scope h k = unless_told (is_mutex (name_end whole name scope)) (WrongKind at name) h
    asked_told AnEvent at name scope h k = unless_told (is_event (name_end whole name scope)) (WrongKind at name) h
    asked_told AUnit at name scope h k = unless_told (is_unit (name_end whole name scope)) (WrongKind at name) h
    asked_told (ARegion field) at name scope h k = unless_told (is_region (name_end whole name scope)) (WrongKind at name) h

    operator_asks : (op : Plain) → IsAskedIn (asked_by op)
    operator_asks (Plain.Event EventOp.Acquire) = tt
    operator_asks (Plain.Event EventOp.Release) = tt
    operator_asks (Plain.Event EventOp.Wait) = tt
    operator_asks (Plain.Event EventOp.Signal) = tt
    operator_asks (Plain.Event EventOp.Reset) = tt
    operator_asks op = tt

    used_told : (asked : Asked) (t : Tree) (scope : AbsolutePath) → IsAskedIn asked → IsWithin files t → AreTold (used_types whole asked t scope)
    used_told asked (Use at name) scope k h = asked_told asked at name scope h k
    used_told asked t scope k h = tt

    letter_told : (letter : Letter) (value place used : List NameError) → AreTold value → AreTold place → AreTold used → AreTold (letter_types whole letter value place used)
    letter_told Valued value place used h k l = h
    letter_told Kept value place used h k l = h
    letter_told Placed value place used h k l = k
    letter_told Used value place used h k l = l
    letter_told (L.Raw size) value place used h k l = tt

    spot_form_told : (form : SpotForm) (result inside : List NameError) → AreTold result → AreTold inside → AreTold (spot_form_types whole form result inside)
    spot_form_told OfResult result inside h k = h
    spot_form_told OfInside result inside h k = k
    spot_form_told NoSpot result inside h k = tt

    element_told : (t : Tree) (errors : List NameError) → AreTold errors → AreTold (element_types whole t errors)
    element_told (Use at name) errors h = tt
    element_told _ errors h = h

    mutual
      types_told : (t : Tree) (scope : AbsolutePath) → IsWithin files t → AreTold (types whole t scope)
      types_told (Use at name) scope h = unless_told (takes_none (name_end whole name scope)) (WrongCount at name) h
      types_told (Call at name args) scope h = both _ _ (unless_told (takes (count args) (name_end whole name scope)) (WrongCount at name) h.0) (types_all_told args scope h.1)
      types_told (Apply op args targets) scope h = both _ _ (operand_types_told (asked_by op) (operator_asks op) (row_of op).operands args scope h.0) (spot_types_all_told targets scope h.1)
      types_told (Operated op args) scope h = operand_types_told (asked_by op) (operator_asks op) (row_of op).operands args scope h
      types_told (Assigned target value) scope h = both _ _ (types_told value scope h.1) (spot_types_told target scope h.0)
      types_told (AssignedBy op target value) scope h = both _ _ (types_told target scope h.0) (types_told value scope h.1)
      types_told (Buffer size bytes) scope h = types_told size scope h
      types_told (Package n elements) scope h = element_types_all_told elements scope h
      types_told (VarPackage size elements) scope h = both _ _ (types_told size scope h.0) (element_types_all_told elements scope h.1)
      types_told (CondRefOf place target) scope h = both _ _ (spot_types_told place scope h.0) (spot_types_told target scope h.1)
      types_told (If test body) scope h = both _ _ (types_told test scope h.0) (types_all_told body scope h.1)
      types_told (ElseIf test body) scope h = both _ _ (types_told test scope h.0) (types_all_told body scope h.1)
      types_told (Else body) scope h = types_all_told body scope h
      types_told (While test body) scope h = both _ _ (types_told test scope h.0) (types_all_told body scope h.1)
      types_told (For start test step body) scope h = both _ _ (types_told start scope h.0) (both _ _ (types_told test scope h.1) (both _ _ (types_told step scope h.2) (types_all_told body scope h.3)))
      types_told (Print place format args) scope h = both _ _ (spot_types_told place scope h.0) (types_all_told args scope h.1)
      types_told (Switch value cases) scope h = both _ _ (types_told value scope h.0) (types_all_told cases scope h.1)
      types_told (Case value body) scope h = both _ _ (types_told value scope h.0) (types_all_told body scope h.1)
      types_told (Default body) scope h = types_all_told body scope h
      types_told (OperationRegion at name space args) scope h = operand_types_told Anything tt region_letters args scope h.1
      types_told (Field here from region flags items) scope h = asked_told (ARegion here) from region scope h.1 h.0
      types_told (IndexField here from index to register flags items) scope h = both _ _ (asked_told AUnit from index scope h.1 tt) (asked_told AUnit to register scope h.2 tt)
      types_told (BankField here from region to bank value flags items) scope h =
          both _ _ (asked_told (ARegion here) from region scope h.1 h.0) (both _ _ (asked_told AUnit to bank scope h.2 tt) (types_told value scope h.3))
      types_told (CreateField form args at name) scope h = operand_types_told Anything tt (field_letters form) args scope h.0
      types_told (Return value) scope h = types_told value scope h
      types_told (Name at name value) scope h = types_told value scope h.1
      types_told (Method at name flags body) scope h = types_all_told body (declared_path name scope) h.1
      types_told (Container' kind at name body) scope h = types_all_told body (declared_path name scope) h.1
      types_told (Scope here at name body) scope h = types_all_told body (choose (denoted (is_named whole.all) name scope) [] (λ path. path)) h.2
      types_told _ scope h = tt

      spot_types_told : (t : Tree) (scope : AbsolutePath) → IsWithin files t → AreTold (spot_types whole t scope)
      spot_types_told (Apply op args targets) scope h =
          spot_form_told (spot_form op) (operand_types whole (asked_by op) (row_of op).operands args scope ++ spot_types_all whole targets scope) (first_types whole args scope)
          (both _ _ (operand_types_told (asked_by op) (operator_asks op) (row_of op).operands args scope h.0) (spot_types_all_told targets scope h.1)) (first_types_told args scope h.0)
      spot_types_told (Operated op args) scope h =
          spot_form_told (spot_form op) (operand_types whole (asked_by op) (row_of op).operands args scope) (first_types whole args scope) (operand_types_told (asked_by op) (operator_asks op) (row_of op).operands args scope h) (first_types_told args scope h)
      spot_types_told _ scope h = tt

      first_types_told : (ts : Trees) (scope : AbsolutePath) → AreWithin files ts → AreTold (first_types whole ts scope)
      first_types_told no_trees scope h = tt
      first_types_told (tree t ts) scope h = types_told t scope h.0

      operand_types_told : (asked : Asked) → IsAskedIn asked → (letters : List Letter) (ts : Trees) (scope : AbsolutePath) → AreWithin files ts → AreTold (operand_types whole asked letters ts scope)
      operand_types_told asked k [] ts scope h = tt
      operand_types_told asked k (letter ∷ letters) no_trees scope h = tt
      operand_types_told asked k (letter ∷ letters) (tree t ts) scope h =
          both _ _ (letter_told letter (types whole t scope) (spot_types whole t scope) (used_types whole asked t scope) (types_told t scope h.0) (spot_types_told t scope h.0) (used_told asked t scope k h.0)) (operand_types_told asked k letters ts scope h.1)

      spot_types_all_told : (ts : Trees) (scope : AbsolutePath) → AreWithin files ts → AreTold (spot_types_all whole ts scope)
      spot_types_all_told no_trees scope h = tt
      spot_types_all_told (tree t ts) scope h = both _ _ (spot_types_told t scope h.0) (spot_types_all_told ts scope h.1)

      element_types_all_told : (ts : Trees) (scope : AbsolutePath) → AreWithin files ts → AreTold (element_types_all whole ts scope)
      element_types_all_told no_trees scope h = tt
      element_types_all_told (tree t ts) scope h = both _ _ (element_told t (types whole t scope) (types_told t scope h.0)) (element_types_all_told ts scope h.1)

      types_all_told : (ts : Trees) (scope : AbsolutePath) → AreWithin files ts → AreTold (types_all whole ts scope)
      types_all_told no_trees scope h = tt
      types_all_told (tree t ts) scope h = both _ _ (types_told t scope h.0) (types_all_told ts scope h.1)

  as_all : (es : List NameError) → AreTold es → All (λ e. (at_of e).place.file < files) es
  as_all [] h = λ i e lt. absurd (omega (arith, lt))
  as_all (e ∷ es) h = All-cons (λ e. (at_of e).place.file < files) e es h.0 (as_all es h.1)

-- the errors of the names of trees whose nodes stand in some files stand in these
pub errors_within : (files : ℕ) (ts : Trees) → AreWithin files ts → All (λ e. (at_of e).place.file < files) (name_errors ts) × All (λ e. (at_of e).place.file < files) (type_errors ts)
errors_within files ts h = (
  as_all files (name_errors ts) (names_all_told files (whole_of ts) ts [] nothing_declared h),
  as_all files (type_errors ts) (types_all_told files (whole_of ts) ts [] h),
)
