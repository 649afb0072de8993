-- What is wrong with the names of a block, in the order of its terms.
use Rattle.std.specs.Prelude.{ℕ, suc, Bool, true, false, not, nat_eq, nat_le, ◌&&◌, ◌||◌, if◌then◌else◌, List, [], ◌∷◌, ◌++◌, length}
use Rattle.std.specs.Prelude.{Option, Some, None, is_some}
use Rattle.acpi_values.specs.Paths.{NameSeg, AbsolutePath, is_same_path}
use Rattle.acpi_values.specs.Operators.{Letter, Valued, Kept, Placed, Used, Row, row_of}
use Rattle.acpi_values.specs.Operators as L
use Rattle.acpi_values.specs.declared.operator.Plain.{Plain}
use Rattle.acpi_values.specs.declared.operator.EventOp.TheVariants as EventOp
use Rattle.acpi_state.specs.Objects.{Object, MethodObject, ContainerObject, MutexObject, EventObject, RegionObject, UnitObject}
use Rattle.acpi_state.specs.Objects.{ExternalObject, ExternalData, ExternalOther, lookup, operand_count, is_method}
use Rattle.acpi_state.specs.Outcomes.{choose}
use Rattle.asl_tree.specs.declared.path.Path.{Path}
use Rattle.asl_tree.specs.Names.{Known, end_of, declared_path, denoted}
use Rattle.asl_meaning.specs.Declarations.{As, ExternalType, Declarations, nothing_declared, in_root, is_named, scope_path, with_declared}
use Rattle.asl_meaning.specs.Declarations.{declare, declarations, calls_all, called, known_of, declare_item}
use Rattle.asl_meaning.specs.Meaning.{SpotForm, OfResult, OfInside, NoSpot, spot_form}
use Rattle.acpi_state.specs.FieldActs.{region_letters, field_letters}
use Rattle.asl_tree.specs.FieldItems.{FieldItem, UnitItem, SkipItem, OffsetItem, AccessItem, ConnectionItem, Connected, ToName, ToBytes}
use Rattle.asl_tree.specs.Tree.{At, Tree, Use, Call, Apply, Buffer, Package, VarPackage, CondRefOf, Return, Name, Alias, External, Method}
use Rattle.asl_tree.specs.Tree.{Mutex, Event, Container', Scope, Trees, no_trees, tree, count, OperationRegion, Field, IndexField}
use Rattle.asl_tree.specs.Tree.{BankField, CreateField, UnitName, If, ElseIf, Else, While, For, Print, Operated, Assigned, AssignedBy}
use Rattle.asl_tree.specs.Tree.{Switch, Case, Default}

-- an error at a node, with the path that is declared or the name as it is written
pub data NameError : Type 0 where
  Twice DeclaredHere : (at : At) (path : AbsolutePath) → NameError
  Missing NoContainer LeavesRoot Differs TooLong WrongCount WrongKind : (at : At) (name : Path) → NameError

-- what is asked of a used name: nothing; that it is an object of any kind; that it is a value, and so no method with arguments;
-- or that it is an object of some kind. A field asks at its own node for a region that it can lie in.
pub data Asked : Type 0 where
  Anything AnObject AValue AMutex AnEvent AUnit : Asked
  ARegion : (field : At) → Asked

-- what an operator asks of the path that it uses
abbrev pub asked_by : Plain → Asked
asked_by (Plain.Event EventOp.Acquire) = AMutex
asked_by (Plain.Event EventOp.Release) = AMutex
asked_by (Plain.Event EventOp.Wait) = AnEvent
asked_by (Plain.Event EventOp.Signal) = AnEvent
asked_by (Plain.Event EventOp.Reset) = AnEvent
asked_by op = Anything

abbrev pub unless : Bool → NameError → List NameError
unless true e = []
unless false e = e ∷ []

-- what every error of a name needs: the names of the whole block, what they are, and the calls in order
pub record Whole : Type 0 where
  pub all : Declarations
  pub known : Known
  pub calls : List (AbsolutePath × ℕ)

abbrev pub whole_of : Trees → Whole
whole_of program =
    let d = declarations program in
    record { all = d; known = known_of program; calls = called (calls_all (is_named d) program [] nothing_declared) }

-- no more steps up than scopes
abbrev pub step_errors : At → Path → AbsolutePath → List NameError
step_errors at name scope = unless (nat_le name.up (length scope)) (LeavesRoot at name)

abbrev pub length_errors : At → Path → AbsolutePath → List NameError
length_errors at name path = unless (nat_le (length path) 255) (TooLong at name)

-- declared by no term before, and not of the root
abbrev pub is_new : Declarations → AbsolutePath → Bool
is_new d path = not (in_root path || is_some (lookup d.declared path))

-- whether the scope of a declared path is named
abbrev pub has_parent : Declarations → AbsolutePath → Bool
has_parent d [] = true
has_parent d (seg ∷ outer) = is_named d outer

-- what the first External of the path, if one stands before, says of it
abbrev pub same_count : Option ℕ → Option ℕ → Bool
same_count None None = true
same_count (Some n) (Some m) = nat_eq n m
same_count _ _ = false

abbrev pub agrees_with : Option ExternalType → ExternalType → Bool
agrees_with None e = true
agrees_with (Some other) e = nat_eq other.type e.type && same_count other.parameters e.parameters

-- where a path ends; a chain of aliases that returns to itself ends nowhere
abbrev pub final : Known → AbsolutePath → Option (AbsolutePath × Object)
final known path = end_of known (suc (length known)) path

-- what a Scope may open; the object types are Device, PowerResource, Processor and ThermalZone
abbrev pub is_container : Option (AbsolutePath × Object) → Bool
is_container (Some (path, ContainerObject kind)) = true
is_container (Some (path, ExternalObject (ExternalData type))) = nat_eq type 0
is_container (Some (path, ExternalObject (ExternalOther type))) = nat_eq type 6 || (nat_eq type 11 || (nat_eq type 12 || nat_eq type 13))
is_container _ = false

abbrev pub takes_none : Option (AbsolutePath × Object) → Bool
takes_none None = true
takes_none (Some found) = nat_eq (operand_count found.1) 0

abbrev pub takes : ℕ → Option (AbsolutePath × Object) → Bool
takes n None = false
takes n (Some found) = is_method found.1 && nat_eq (operand_count found.1) n

-- the kinds of objects that operators and fields use; the object types of externals are Mutex, Event, OpRegion and
-- FieldUnit
abbrev pub is_mutex : Option (AbsolutePath × Object) → Bool
is_mutex (Some (path, MutexObject level)) = true
is_mutex (Some (path, ExternalObject (ExternalOther type))) = nat_eq type 9
is_mutex _ = false

abbrev pub is_event : Option (AbsolutePath × Object) → Bool
is_event (Some (path, EventObject)) = true
is_event (Some (path, ExternalObject (ExternalOther type))) = nat_eq type 7
is_event _ = false

abbrev pub is_region : Option (AbsolutePath × Object) → Bool
is_region (Some (path, RegionObject space offset length)) = true
is_region (Some (path, ExternalObject (ExternalOther type))) = nat_eq type 10
is_region _ = false

abbrev pub is_unit : Option (AbsolutePath × Object) → Bool
is_unit (Some (path, UnitObject unit)) = true
is_unit (Some (path, ExternalObject (ExternalData type))) = nat_eq type 5
is_unit _ = false

-- the name of a unit as one that is declared
abbrev pub unit_path : NameSeg → Path
unit_path segment = record { root = false; up = 0; segs = segment ∷ [] }

module _ (whole : Whole) where
  abbrev pub declared_errors : At → Path → AbsolutePath → Declarations → List NameError
  declared_errors at name scope d =
      let path = declared_path name scope in
      unless (is_new d path) (Twice at path)
      ++ (step_errors at name scope ++ (unless (has_parent whole.all path) (Missing at name) ++ length_errors at name path))

  abbrev pub external_errors : At → At → Path → ExternalType → AbsolutePath → Declarations → List NameError
  external_errors here at name e scope d =
      let path = declared_path name scope in
      unless (not (is_some (lookup whole.all.declared path))) (DeclaredHere at path)
      ++
      (step_errors at name scope ++ (length_errors at name path ++ unless (agrees_with (lookup d.external path) e) (Differs here name)))

  abbrev pub use_errors : At → Path → AbsolutePath → List NameError
  use_errors at name scope = step_errors at name scope ++ unless (is_some (denoted (is_named whole.all) name scope)) (Missing at name)

  -- the calls of an External that does not say how many arguments it takes are as the first one
  abbrev pub call_errors : At → Path → ℕ → AbsolutePath → List NameError
  call_errors at name n scope =
      choose (denoted (is_named whole.all) name scope) [] (λ path. if is_open (lookup whole.all.external path) then
      unless (is_first (lookup whole.calls path)) (Differs at name) else [])
    where
      is_open : Option ExternalType → Bool
      is_open None = false
      is_open (Some e) = not (is_some e.parameters) && (nat_eq e.type 0 || nat_eq e.type 8)

      is_first : Option ℕ → Bool
      is_first None = true
      is_first (Some m) = nat_eq m n

  -- a Scope opens a container, and the same one where it stands as over the whole block
  abbrev pub scope_errors : At → At → Path → AbsolutePath → Declarations → List NameError
  scope_errors here at name scope d =
      choose (denoted (is_named whole.all) name scope) [] (λ path. unless (is_same_path path (scope_path d name scope)) (Missing at name)
      ++ unless (is_container (final whole.known path)) (NoContainer here name))

  -- what the units of a field are connected to
  abbrev pub connected_errors : Connected → AbsolutePath → List NameError
  connected_errors (ToName at name) scope = use_errors at name scope
  connected_errors (ToBytes bytes) scope = []

  -- the units of a field, each declared in turn
  abbrev pub item_errors : FieldItem UnitName → AbsolutePath → Declarations → List NameError
  item_errors (UnitItem name bits) scope d = declared_errors name.at (unit_path name.segment) scope d
  item_errors (SkipItem bits) scope d = []
  item_errors (OffsetItem bytes) scope d = []
  item_errors (AccessItem access attribute length) scope d = []
  item_errors (ConnectionItem to) scope d = connected_errors to scope

  abbrev pub items_errors : List (FieldItem UnitName) → AbsolutePath → Declarations → List NameError
  items_errors [] scope d = []
  items_errors (item ∷ items) scope d = item_errors item scope d ++ items_errors items scope (declare_item item scope d)

  -- a place of which a name may lead nowhere
  abbrev pub cond_errors : Tree → List NameError → AbsolutePath → List NameError
  cond_errors (Use at name) errors scope = step_errors at name scope
  cond_errors t errors scope = errors

  abbrev mutual
    pub names : Tree → AbsolutePath → Declarations → List NameError
    names (Use at name) scope d = use_errors at name scope
    names (Call at name args) scope d = (use_errors at name scope ++ call_errors at name (count args) scope) ++ names_all args scope d
    names (Apply op args targets) scope d = names_all args scope d ++ names_all targets scope d
    names (Operated op args) scope d = names_all args scope d
    names (Assigned target value) scope d = names value scope d ++ names target scope d
    names (AssignedBy op target value) scope d = names target scope d ++ names value scope d
    names (Buffer size bytes) scope d = names size scope d
    names (Package n elements) scope d = names_all elements scope d
    names (VarPackage size elements) scope d = names size scope d ++ names_all elements scope d
    names (CondRefOf place target) scope d = cond_errors place (names place scope d) scope ++ names target scope d
    names (Return value) scope d = names value scope d
    names (Name at name value) scope d = declared_errors at name scope d ++ names value scope d
    names (Alias from source at name) scope d = use_errors from source scope ++ declared_errors at name scope d
    names (External here at name type parameters) scope d =
        external_errors here at name (record { type = type; parameters = parameters }) scope d
    names (Method at name flags body) scope d =
        declared_errors at name scope d ++ names_all body (declared_path name scope)
        (with_declared (declared_path name scope) (As (MethodObject flags)) d)
    names (Mutex at name level) scope d = declared_errors at name scope d
    names (Event at name) scope d = declared_errors at name scope d
    names (If test body) scope d = names test scope d ++ names_all body scope d
    names (ElseIf test body) scope d = names test scope d ++ names_all body scope d
    names (Else body) scope d = names_all body scope d
    names (While test body) scope d = names test scope d ++ names_all body scope d
    names (For start test step body) scope d = names start scope d ++ (names test scope d ++ (names step scope d ++ names_all body scope d))
    names (Print place format args) scope d = names place scope d ++ names_all args scope d
    names (Switch value cases) scope d = names value scope d ++ names_all cases scope d
    names (Case value body) scope d = names value scope d ++ names_all body scope d
    names (Default body) scope d = names_all body scope d
    names (OperationRegion at name space args) scope d = declared_errors at name scope d ++ names_all args scope d
    names (Field here from region flags items) scope d = use_errors from region scope ++ items_errors items scope d
    names (IndexField here from index to register flags items) scope d =
        use_errors from index scope ++ (use_errors to register scope ++ items_errors items scope d)
    names (BankField here from region to bank value flags items) scope d =
        use_errors from region scope ++ (use_errors to bank scope ++ (names value scope d ++ items_errors items scope d))
    names (CreateField form args at name) scope d = names_all args scope d ++ declared_errors at name scope d
    names (Container' kind at name body) scope d =
        declared_errors at name scope d ++ names_all body (declared_path name scope)
        (with_declared (declared_path name scope) (As (ContainerObject kind)) d)
    names (Scope here at name body) scope d = (use_errors at name scope ++ scope_errors here at name scope d)
        ++ names_all body (scope_path d name scope) d
    names term scope d = []

    pub names_all : Trees → AbsolutePath → Declarations → List NameError
    names_all no_trees scope d = []
    names_all (tree term terms) scope d = names term scope d ++ names_all terms scope (declare term scope d)

  -- where the name of an operand ends
  abbrev pub name_end : Path → AbsolutePath → Option (AbsolutePath × Object)
  name_end name scope = choose (denoted (is_named whole.all) name scope) None (final whole.known)

  -- a used name, of which something is asked
  abbrev pub asked_types : Asked → At → Path → AbsolutePath → List NameError
  asked_types Anything at name scope = []
  asked_types AnObject at name scope = []
  asked_types AValue at name scope = unless (takes_none (name_end name scope)) (WrongCount at name)
  asked_types AMutex at name scope = unless (is_mutex (name_end name scope)) (WrongKind at name)
  asked_types AnEvent at name scope = unless (is_event (name_end name scope)) (WrongKind at name)
  asked_types AUnit at name scope = unless (is_unit (name_end name scope)) (WrongKind at name)
  asked_types (ARegion field) at name scope = unless (is_region (name_end name scope)) (WrongKind at name)

  -- the path that an operator uses
  abbrev pub used_types : Asked → Tree → AbsolutePath → List NameError
  used_types asked (Use at name) scope = asked_types asked at name scope
  used_types asked t scope = []

  -- an operand by its letter: as an expression, as a place, as a path that is used, or not at all
  abbrev pub letter_types : Letter → List NameError → List NameError → List NameError → List NameError
  letter_types Valued value place used = value
  letter_types Kept value place used = value
  letter_types Placed value place used = place
  letter_types Used value place used = used
  letter_types (L.Raw size) value place used = []

  -- a place by its operator: that of its result, or of what its operand refers to
  abbrev pub spot_form_types : SpotForm → List NameError → List NameError → List NameError
  spot_form_types OfResult result inside = result
  spot_form_types OfInside result inside = inside
  spot_form_types NoSpot result inside = []

  abbrev pub element_types : Tree → List NameError → List NameError
  element_types (Use at name) errors = []
  element_types t errors = errors

  -- the class of kinds and counts
  abbrev mutual
    pub types : Tree → AbsolutePath → List NameError
    types (Use at name) scope = unless (takes_none (name_end name scope)) (WrongCount at name)
    types (Call at name args) scope = unless (takes (count args) (name_end name scope)) (WrongCount at name) ++ types_all args scope
    types (Apply op args targets) scope = operand_types (asked_by op) (row_of op).operands args scope ++ spot_types_all targets scope
    types (Operated op args) scope = operand_types (asked_by op) (row_of op).operands args scope
    types (Assigned target value) scope = types value scope ++ spot_types target scope
    types (AssignedBy op target value) scope = types target scope ++ types value scope
    types (Buffer size bytes) scope = types size scope
    types (Package n elements) scope = element_types_all elements scope
    types (VarPackage size elements) scope = types size scope ++ element_types_all elements scope
    types (CondRefOf place target) scope = spot_types place scope ++ spot_types target scope
    types (If test body) scope = types test scope ++ types_all body scope
    types (ElseIf test body) scope = types test scope ++ types_all body scope
    types (Else body) scope = types_all body scope
    types (While test body) scope = types test scope ++ types_all body scope
    types (For start test step body) scope = types start scope ++ (types test scope ++ (types step scope ++ types_all body scope))
    types (Print place format args) scope = spot_types place scope ++ types_all args scope
    types (Switch value cases) scope = types value scope ++ types_all cases scope
    types (Case value body) scope = types value scope ++ types_all body scope
    types (Default body) scope = types_all body scope
    types (OperationRegion at name space args) scope = operand_types Anything region_letters args scope
    types (Field here from region flags items) scope = asked_types (ARegion here) from region scope
    types (IndexField here from index to register flags items) scope = asked_types AUnit from index scope
        ++ asked_types AUnit to register scope
    types (BankField here from region to bank value flags items) scope =
        asked_types (ARegion here) from region scope ++ (asked_types AUnit to bank scope ++ types value scope)
    types (CreateField form args at name) scope = operand_types Anything (field_letters form) args scope
    types (Return value) scope = types value scope
    types (Name at name value) scope = types value scope
    types (Method at name flags body) scope = types_all body (declared_path name scope)
    types (Container' kind at name body) scope = types_all body (declared_path name scope)
    types (Scope here at name body) scope = types_all body (choose (denoted (is_named whole.all) name scope) [] (λ path. path))
    types term scope = []

    -- a term that stands for a place
    pub spot_types : Tree → AbsolutePath → List NameError
    spot_types (Apply op args targets) scope =
        spot_form_types (spot_form op) (operand_types (asked_by op) (row_of op).operands args scope ++ spot_types_all targets scope)
        (first_types args scope)
    spot_types (Operated op args) scope =
        spot_form_types (spot_form op) (operand_types (asked_by op) (row_of op).operands args scope) (first_types args scope)
    spot_types t scope = []

    pub first_types : Trees → AbsolutePath → List NameError
    first_types no_trees scope = []
    first_types (tree t ts) scope = types t scope

    pub operand_types : Asked → List Letter → Trees → AbsolutePath → List NameError
    operand_types asked [] ts scope = []
    operand_types asked (letter ∷ letters) no_trees scope = []
    operand_types asked (letter ∷ letters) (tree t ts) scope =
        letter_types letter (types t scope) (spot_types t scope) (used_types asked t scope) ++ operand_types asked letters ts scope

    pub spot_types_all : Trees → AbsolutePath → List NameError
    spot_types_all no_trees scope = []
    spot_types_all (tree t ts) scope = spot_types t scope ++ spot_types_all ts scope

    pub element_types_all : Trees → AbsolutePath → List NameError
    element_types_all no_trees scope = []
    element_types_all (tree t ts) scope = element_types t (types t scope) ++ element_types_all ts scope

    pub types_all : Trees → AbsolutePath → List NameError
    types_all no_trees scope = []
    types_all (tree term terms) scope = types term scope ++ types_all terms scope

-- the class of names, and that of kinds where it has none
abbrev pub name_errors : Trees → List NameError
name_errors program = names_all (whole_of program) program [] nothing_declared

abbrev pub type_errors : Trees → List NameError
type_errors program = types_all (whole_of program) program []
