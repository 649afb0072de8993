-- The names that a block mentions, in the order of its terms, each with the scope in which it stands. A block's
-- declarations, the errors of its names and the class of kinds and counts can be read off this list alone.
use Rattle.std.specs.Prelude.{ℕ, Bool, true, false, not, ◌&&◌, List, [], ◌∷◌, ◌++◌, Option}
use Rattle.acpi_values.specs.Paths.{AbsolutePath, is_same_path}
use Rattle.acpi_values.specs.Operators.{Letter, Valued, Kept, Placed, Used, Row, row_of}
use Rattle.acpi_values.specs.Operators as L
use Rattle.acpi_values.specs.declared.operator.Plain.{Plain}
use Rattle.acpi_state.specs.Objects.{MethodObject, ContainerObject, DataObject, MutexObject, EventObject, RegionObject}
use Rattle.acpi_state.specs.Outcomes.{choose}
use Rattle.asl_tree.specs.declared.path.Path.{Path}
use Rattle.asl_tree.specs.FieldItems.{FieldItem, UnitItem, SkipItem, OffsetItem, AccessItem, ConnectionItem, Connected, ToName, ToBytes}
use Rattle.asl_tree.specs.Names.{declared_path, denoted}
use Rattle.asl_tree.specs.Tree.{At, Tree, Use, Call, Apply, Buffer, Package, VarPackage, CondRefOf, Return, Name, Alias, External, Method}
use Rattle.asl_tree.specs.Tree.{Mutex, Event, Container', Scope, Trees, no_trees, tree, count, OperationRegion, Field, IndexField}
use Rattle.asl_tree.specs.Tree.{BankField, CreateField, UnitName, If, ElseIf, Else, While, For, Print, Operated, Assigned, AssignedBy}
use Rattle.asl_tree.specs.Tree.{Switch, Case, Default}
use Rattle.asl_meaning.specs.Declarations.{Declared, As, AliasOf, ExternalType, Declarations, in_root, is_named, with_declared}
use Rattle.asl_meaning.specs.Declarations.{with_external, scope_path, declare, as_unit, as_buffer_field}
use Rattle.asl_meaning.specs.Meaning.{SpotForm, OfResult, OfInside, NoSpot, spot_form}
use Rattle.acpi_state.specs.FieldActs.{region_letters, field_letters}
use Rattle.acpi_names.specs.Errors.{NameError, Missing, NoContainer, WrongCount, Asked, Anything}
use Rattle.acpi_names.specs.Errors.{AnObject, AValue, AUnit, ARegion, asked_by, unless}
use Rattle.acpi_names.specs.Errors.{Whole, final, is_container, takes, unit_path, step_errors, use_errors, call_errors, declared_errors}
use Rattle.acpi_names.specs.Errors.{external_errors, name_end, asked_types}

-- `asked` says what is asked of a used name, and of a called one whether it stands where a value is asked for
pub data Mention : Type 0 where
  -- a used name, one that may lead nowhere, and a called one with its number of arguments
  Used' : (asked : Asked) (at : At) (name : Path) (scope : AbsolutePath) → Mention
  Sought : (at : At) (name : Path) (scope : AbsolutePath) → Mention
  Called : (asked : Bool) (at : At) (name : Path) (args : ℕ) (scope : AbsolutePath) → Mention
  -- a declared name, that of an External, and that of a Scope, whose terms have the path `inner`
  Declares : (at : At) (name : Path) (as' : Declared) (scope : AbsolutePath) → Mention
  Outside : (here at : At) (name : Path) (type : ExternalType) (scope : AbsolutePath) → Mention
  Opens : (here at : At) (name : Path) (scope inner : AbsolutePath) → Mention

-- an operator whose result is a place, or whose operand's is
abbrev pub is_place_form : SpotForm → Bool
is_place_form NoSpot = false
is_place_form OfResult = true
is_place_form OfInside = true

-- whether a term that stands for a place is looked into
abbrev pub is_spot : Tree → Bool
is_spot (Apply op args targets) = is_place_form (spot_form op)
is_spot (Operated op args) = is_place_form (spot_form op)
is_spot _ = false

abbrev pub is_use : Tree → Bool
is_use (Use at name) = true
is_use _ = false

-- whether an operand is asked for its kind
abbrev pub asks : Letter → Tree → Bool
asks Valued t = true
asks Kept t = true
asks Placed t = is_spot t
asks Used t = false
asks (L.Raw size) t = false

-- the place of CondRefOf: a name may lead nowhere, and anything else is as ever
abbrev pub cond_place : Tree → List Mention → AbsolutePath → List Mention
cond_place (Use at name) others scope = Sought at name scope ∷ []
cond_place t others scope = others

-- what is asked of a name that is an expression, where kinds are asked for or not
abbrev pub asked_value : Bool → Asked
asked_value true = AValue
asked_value false = Anything

-- what an operator asks of the path that it uses, the same
abbrev pub asked_use : Bool → Plain → Asked
asked_use true op = asked_by op
asked_use false op = Anything

-- the path that an operator uses, of which something is asked; anything else is as ever
abbrev pub letter_mention : Letter → Asked → Tree → List Mention → AbsolutePath → List Mention
letter_mention Used uses (Use at name) others scope = Used' uses at name scope ∷ []
letter_mention letter uses t others scope = others

-- an expression, in a scope
abbrev mutual
  pub mentions : Bool → Tree → AbsolutePath → List Mention
  mentions asked (Use at name) scope = Used' (asked_value asked) at name scope ∷ []
  mentions asked (Call at name args) scope = Called asked at name (count args) scope ∷ mentions_all asked args scope
  mentions asked (Apply op args targets) scope = operand_mentions asked (asked_use asked op) (row_of op).operands args scope
      ++ target_mentions asked targets scope
  mentions asked (Operated op args) scope = operand_mentions asked (asked_use asked op) (row_of op).operands args scope
  mentions asked (Assigned target value) scope = mentions asked value scope ++ mentions (asked && is_spot target) target scope
  mentions asked (AssignedBy op target value) scope = mentions asked target scope ++ mentions asked value scope
  mentions asked (Buffer size bytes) scope = mentions asked size scope
  mentions asked (Package n elements) scope = element_mentions asked elements scope
  mentions asked (VarPackage size elements) scope = mentions asked size scope ++ element_mentions asked elements scope
  mentions asked (CondRefOf place target) scope =
      cond_place place (mentions (asked && is_spot place) place scope) scope ++ mentions (asked && is_spot target) target scope
  mentions asked _ scope = []

  pub mentions_all : Bool → Trees → AbsolutePath → List Mention
  mentions_all asked no_trees scope = []
  mentions_all asked (tree t ts) scope = mentions asked t scope ++ mentions_all asked ts scope

  -- operands by their letters, where `uses` is asked of a path that is used
  pub operand_mentions : Bool → Asked → List Letter → Trees → AbsolutePath → List Mention
  operand_mentions asked uses letters no_trees scope = []
  operand_mentions asked uses [] (tree t ts) scope = mentions false t scope ++ operand_mentions asked uses [] ts scope
  operand_mentions asked uses (letter ∷ letters) (tree t ts) scope =
      letter_mention letter uses t (mentions (asked && asks letter t) t scope) scope ++ operand_mentions asked uses letters ts scope

  pub target_mentions : Bool → Trees → AbsolutePath → List Mention
  target_mentions asked no_trees scope = []
  target_mentions asked (tree t ts) scope = mentions (asked && is_spot t) t scope ++ target_mentions asked ts scope

  -- an element that is a name is a reference, whatever it leads to
  pub element_mentions : Bool → Trees → AbsolutePath → List Mention
  element_mentions asked no_trees scope = []
  element_mentions asked (tree t ts) scope = mentions (asked && not (is_use t)) t scope ++ element_mentions asked ts scope

-- what the units of a field are connected to
abbrev pub connected_mentions : Connected → AbsolutePath → List Mention
connected_mentions (ToName at name) scope = Used' AnObject at name scope ∷ []
connected_mentions (ToBytes bytes) scope = []

-- the items of a field
abbrev pub item_mentions : List (FieldItem UnitName) → AbsolutePath → List Mention
item_mentions [] scope = []
item_mentions (UnitItem name bits ∷ items) scope = Declares name.at (unit_path name.segment) as_unit scope ∷ item_mentions items scope
item_mentions (SkipItem bits ∷ items) scope = item_mentions items scope
item_mentions (OffsetItem bytes ∷ items) scope = item_mentions items scope
item_mentions (AccessItem access attribute length ∷ items) scope = item_mentions items scope
item_mentions (ConnectionItem to ∷ items) scope = connected_mentions to scope ++ item_mentions items scope

-- a term, behind others that declare some names
abbrev mutual
  pub term_mentions : Tree → AbsolutePath → Declarations → List Mention
  term_mentions (Return value) scope d = mentions true value scope
  term_mentions (Name at name value) scope d = Declares at name (As DataObject) scope ∷ mentions true value scope
  term_mentions (Alias from source at name) scope d = Used' AnObject from source scope ∷ Declares at name (AliasOf source scope) scope ∷ []
  term_mentions (External here at name type parameters) scope d = Outside here at name (record { type = type; parameters = parameters })
      scope ∷ []
  term_mentions (Method at name flags body) scope d =
      Declares at name (As (MethodObject flags)) scope ∷ block_mentions body (declared_path name scope)
      (with_declared (declared_path name scope) (As (MethodObject flags)) d)
  term_mentions (Mutex at name level) scope d = Declares at name (As (MutexObject level)) scope ∷ []
  term_mentions (Event at name) scope d = Declares at name (As EventObject) scope ∷ []
  term_mentions (Container' kind at name body) scope d =
      Declares at name (As (ContainerObject kind)) scope ∷ block_mentions body (declared_path name scope)
      (with_declared (declared_path name scope) (As (ContainerObject kind)) d)
  term_mentions (Scope here at name body) scope d = Opens here at name scope (scope_path d name scope) ∷ block_mentions body
      (scope_path d name scope) d
  term_mentions (If test body) scope d = mentions true test scope ++ block_mentions body scope d
  term_mentions (ElseIf test body) scope d = mentions true test scope ++ block_mentions body scope d
  term_mentions (Else body) scope d = block_mentions body scope d
  term_mentions (While test body) scope d = mentions true test scope ++ block_mentions body scope d
  term_mentions (For start test step body) scope d =
      mentions true start scope ++ (mentions true test scope ++ (mentions true step scope ++ block_mentions body scope d))
  term_mentions (Print place format args) scope d = mentions (is_spot place) place scope ++ mentions_all true args scope
  term_mentions (Switch value cases) scope d = mentions true value scope ++ block_mentions cases scope d
  term_mentions (Case value body) scope d = mentions true value scope ++ block_mentions body scope d
  term_mentions (Default body) scope d = block_mentions body scope d
  term_mentions (OperationRegion at name space args) scope d = Declares at name (As (RegionObject space 0 0)) scope ∷ operand_mentions true
      Anything region_letters args scope
  term_mentions (Field here from region flags items) scope d = Used' (ARegion here) from region scope ∷ item_mentions items scope
  term_mentions (IndexField here from index to register flags items) scope d = Used' AUnit from index scope ∷ Used' AUnit to register scope
      ∷ item_mentions items scope
  term_mentions (BankField here from region to bank value flags items) scope d =
      Used' (ARegion here) from region scope ∷ Used' AUnit to bank scope ∷ (mentions true value scope ++ item_mentions items scope)
  term_mentions (CreateField form args at name) scope d = operand_mentions true Anything (field_letters form) args scope
      ++ Declares at name as_buffer_field scope ∷ []
  term_mentions t scope d = mentions true t scope

  pub block_mentions : Trees → AbsolutePath → Declarations → List Mention
  block_mentions no_trees scope d = []
  block_mentions (tree t ts) scope d = term_mentions t scope d ++ block_mentions ts scope (declare t scope d)

-- what is declared behind a mention
abbrev pub after : Mention → Declarations → Declarations
after (Declares at name as' scope) d = with_declared (declared_path name scope) as' d
after (Outside here at name type scope) d = with_external (in_root (declared_path name scope)) (declared_path name scope) type d
after _ d = d

abbrev pub after_all : List Mention → Declarations → Declarations
after_all [] d = d
after_all (m ∷ ms) d = after_all ms (after m d)

module _ (has : AbsolutePath → Bool) where
  abbrev pub call_in : Mention → List (Option AbsolutePath × ℕ)
  call_in (Called asked at name args scope) = (denoted has name scope, args) ∷ []
  call_in _ = []

  abbrev pub calls_in : List Mention → List (Option AbsolutePath × ℕ)
  calls_in [] = []
  calls_in (m ∷ ms) = call_in m ++ calls_in ms

module _ (whole : Whole) where
  -- a Scope opens a container, and the same one where it stands as over the whole block
  abbrev pub opening_errors : At → At → Path → AbsolutePath → AbsolutePath → List NameError
  opening_errors here at name scope inner =
      choose (denoted (is_named whole.all) name scope) [] (λ path. unless (is_same_path path inner) (Missing at name)
      ++ unless (is_container (final whole.known path)) (NoContainer here name))

  abbrev pub mention_errors : Mention → Declarations → List NameError
  mention_errors (Used' asked at name scope) d = use_errors whole at name scope
  mention_errors (Sought at name scope) d = step_errors at name scope
  mention_errors (Called asked at name args scope) d = use_errors whole at name scope ++ call_errors whole at name args scope
  mention_errors (Declares at name as' scope) d = declared_errors whole at name scope d
  mention_errors (Outside here at name type scope) d = external_errors whole here at name type scope d
  mention_errors (Opens here at name scope inner) d = use_errors whole at name scope ++ opening_errors here at name scope inner

  abbrev pub all_errors : List Mention → Declarations → List NameError
  all_errors [] d = []
  all_errors (m ∷ ms) d = mention_errors m d ++ all_errors ms (after m d)

  -- the class of kinds and counts
  abbrev pub mention_types : Mention → List NameError
  mention_types (Used' asked at name scope) = asked_types whole asked at name scope
  mention_types (Called true at name args scope) = unless (takes args (name_end whole name scope)) (WrongCount at name)
  mention_types _ = []

  abbrev pub all_types : List Mention → List NameError
  all_types [] = []
  all_types (m ∷ ms) = mention_types m ++ all_types ms
