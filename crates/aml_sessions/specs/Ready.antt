-- What a core tree must be so that its bytes mean what it means.
use Rattle.std.specs.Prelude.{ℕ, ◌≡◌, ◌<◌, ◌≤◌, ◌^◌, Bool, true, false, nat_eq, List, [], ◌∷◌, length, Option, Some, None, ◌-◌, ◌*◌}
use Rattle.acpi_values.specs.Paths.{AbsolutePath}
use Rattle.acpi_values.specs.Operators.{Letter, Valued, Kept, Placed, Used, Row, row_of}
use Rattle.acpi_values.specs.Operators as L
use Rattle.acpi_state.specs.Objects.{Object, DataObject, MethodObject, MutexObject, EventObject, ContainerObject, Container, OfRoot}
use Rattle.acpi_state.specs.Objects.{PowerResource, Processor, operand_count, is_method, RegionObject, UnitObject, BufferFieldObject}
use Rattle.asl_tree.specs.declared.path.Path.{Path}
use Rattle.asl_tree.specs.declared.program.Block.{Block}
use Rattle.asl_tree.specs.Names.{NameKind, Is, AliasTo, Known, is_known, kind_at, end_of}
use Rattle.asl_tree.specs.Names.{is_searched, declared_path, search_path, candidates}
use Rattle.asl_meaning.specs.Meaning.{SpotForm, OfResult, OfInside, NoSpot, spot_form}
use Rattle.acpi_state.specs.FieldUnits.{OfOtherTable, OverItsOwn}
use Rattle.acpi_state.specs.FieldActs.{region_letters, field_letters}
use Rattle.asl_tree.specs.FieldItems.{FieldItem, UnitItem, SkipItem, OffsetItem, AccessItem, ConnectionItem, Connected, ToName, ToBytes}
use Rattle.asl_tree.specs.FieldItems.{behind_item}
use Rattle.asl_tree.specs.Tree.{Tree, Integer, Constant, String, InSlot, Debug, Omitted, Raw, Use, Call, Apply, Buffer, Package}
use Rattle.asl_tree.specs.Tree.{VarPackage, CondRefOf, Return, Name, Alias, External, Method, Mutex, Event, Container', Scope, Fill}
use Rattle.asl_tree.specs.Tree.{Misshapen, Operated, Assigned, AssignedBy, Trees, no_trees, tree, count, OperationRegion, Field}
use Rattle.asl_tree.specs.Tree.{IndexField, BankField, CreateField, UnitName, If, ElseIf, Else, While, Break, Continue, Item, Switch, Case}
use Rattle.asl_tree.specs.Tree.{Default, For, Print}
use Rattle.asl_tree.specs.View.{trees_of}
use Rattle.else_runs.specs.Runs.{nested_all}
use Rattle.aml_code.specs.Fronts.{IsName, IsUsedName, is_segment}
use Rattle.aml_meaning.specs.Codes.{HasOwnCode, IsSlot}

-- no character is 0
abbrev pub IsText : List ℕ → Type 0
IsText [] = Unit {0}
IsText (c ∷ text) = (nat_eq c 0 ≡ false) × IsText text

-- a term that has a value, or might have one
abbrev pub is_expression : Tree → Bool
is_expression Omitted = false
is_expression (Raw size number) = false
is_expression (Return value) = false
is_expression (Name at name value) = false
is_expression (Alias from source at name) = false
is_expression (External here at name type parameters) = false
is_expression (Method at name flags body) = false
is_expression (Mutex at name level) = false
is_expression (Event at name) = false
is_expression (Container' kind at name body) = false
is_expression (Scope here at name body) = false
is_expression (If test body) = false
is_expression (Else body) = false
is_expression (While test body) = false
is_expression Break = false
is_expression Continue = false
is_expression (OperationRegion at name space args) = false
is_expression (Field here from region flags items) = false
is_expression (IndexField here from index to register flags items) = false
is_expression (BankField here from region to bank value flags items) = false
is_expression (CreateField form args at name) = false
is_expression (Item item) = false
is_expression (Fill bytes) = false
is_expression (ElseIf test body) = false
is_expression (Switch value cases) = false
is_expression (Case value body) = false
is_expression (Default body) = false
is_expression (For start test step body) = false
is_expression (Print place format args) = false
is_expression Misshapen = false
is_expression _ = true

-- an element of a Package that is no name
abbrev pub is_constant : Tree → Bool
is_constant (Integer number) = true
is_constant (Constant literal) = true
is_constant (String text) = true
is_constant (Buffer size bytes) = true
is_constant (Package n elements) = true
is_constant (VarPackage size elements) = true
is_constant _ = false

-- what may stand where an operand is due without arguments of its own
abbrev pub TakesNone : Object → Type 0
TakesNone object = operand_count object ≡ 0

-- a method of so many arguments
abbrev pub Takes : ℕ → Object → Type 0
Takes n object = (is_method object ≡ true) × (operand_count object ≡ n)

-- what a container's declaration says fits its bytes; the root's own are declared nowhere
abbrev pub FitsContainer : Container → Type 0
FitsContainer OfRoot = ⊥
FitsContainer (PowerResource level order) = (level < 2 ^ 8) × (order < 2 ^ 16)
FitsContainer (Processor number address size) = (number < 2 ^ 8) × (address < 2 ^ 32) × (size < 2 ^ 8)
FitsContainer _ = Unit {0}

abbrev pub AtMostOne : {A : Type 0} → List A → Type 0
AtMostOne [] = Unit {0}
AtMostOne (a ∷ []) = Unit {0}
AtMostOne (a ∷ b ∷ others) = ⊥

-- a constant operand fits its bytes
abbrev pub RawReady : ℕ → Tree → Type 0
RawReady size (Raw other number) = (other ≡ size) × (number < 256 ^ size)
RawReady size _ = ⊥

abbrev pub IsLength : Option ℕ → Type 0
IsLength None = Unit {0}
IsLength (Some length) = length < 256

-- the name of a connection can be written
abbrev pub IsConnection : Connected → Type 0
IsConnection (ToName at name) = IsUsedName name
IsConnection (ToBytes bytes) = Unit {0}

-- an item of a field's list that stands at a bit: an Offset does not go back, and counts of bits can be written
abbrev pub IsItem : ℕ → FieldItem UnitName → Type 0
IsItem at (UnitItem name bits) = (is_segment name.segment ≡ true) × (bits < 2 ^ 28)
IsItem at (SkipItem bits) = bits < 2 ^ 28
IsItem at (OffsetItem bytes) = (at ≤ 8 * bytes) × (8 * bytes - at < 2 ^ 28)
IsItem at (AccessItem access attribute length) = (access < 256) × (attribute < 256) × IsLength length
IsItem at (ConnectionItem to) = IsConnection to

abbrev pub AreItems : ℕ → List (FieldItem UnitName) → Type 0
AreItems at [] = Unit {0}
AreItems at (item ∷ items) = IsItem at item × AreItems (behind_item at item) items

-- how a place's term is ready, by its operator
abbrev pub SpotReady : SpotForm → Type 0 → Type 0 → Type 0
SpotReady OfResult result inside = result
SpotReady OfInside result inside = inside
SpotReady NoSpot result inside = ⊥

module _ (known : Known) where
  -- a search for the name can find this path and no other
  pub record Denotes (name : Path) (scope path : AbsolutePath) : Type 0 where
    pub used : IsUsedName name
    pub only : candidates (is_known known) (search_path name scope) ≡ path ∷ []

  -- a search for the name can find one path at most
  pub record IsSought (name : Path) (scope : AbsolutePath) : Type 0 where
    pub used : IsUsedName name
    pub few : AtMostOne (candidates (is_known known) (search_path name scope))

  -- what stands where the path ends, through aliases, has the property
  abbrev pub EndsIn : (Object → Type 0) → AbsolutePath → Type 0
  EndsIn P path = (n : ℕ) (target : AbsolutePath) (object : Object) → end_of known n path ≡ Some (target, object) → P object

  -- a declared path that can be written, and is known as this
  pub record Declares (name : Path) (scope : AbsolutePath) (kind : NameKind) : Type 0 where
    pub written : IsName name
    pub is : kind_at known (declared_path name scope) ≡ Some kind

  abbrev pub IsFound : Path → AbsolutePath → Type 0
  IsFound name scope = (path : AbsolutePath) × Denotes name scope path

  abbrev pub IsConnected : Connected → AbsolutePath → Type 0
  IsConnected (ToName at name) scope = IsFound name scope
  IsConnected (ToBytes bytes) scope = Unit {0}

  -- the units of a field are known as such, and its connections are found
  abbrev pub AreUnits : List (FieldItem UnitName) → AbsolutePath → Type 0
  AreUnits [] scope = Unit {0}
  AreUnits (UnitItem name bits ∷ items) scope = (kind_at known (name.segment ∷ scope) ≡ Some (Is (UnitObject (OfOtherTable []))))
      × AreUnits items scope
  AreUnits (SkipItem bits ∷ items) scope = AreUnits items scope
  AreUnits (OffsetItem bytes ∷ items) scope = AreUnits items scope
  AreUnits (AccessItem access attribute length ∷ items) scope = AreUnits items scope
  AreUnits (ConnectionItem to ∷ items) scope = IsConnected to scope × AreUnits items scope

  -- a name in a Package has one place
  pub record IsElementName (name : Path) : Type 0 where
    pub used : IsUsedName name
    pub single : is_searched name ≡ false

  abbrev pub UsedReady : Tree → AbsolutePath → Type 0
  UsedReady (Use at name) scope = (path : AbsolutePath) × Denotes name scope path
  UsedReady _ scope = ⊥

  -- a place of which a name may lead nowhere
  abbrev pub CondReady : Tree → Type 0 → AbsolutePath → Type 0
  CondReady (Use at name) spot scope = IsSought name scope
  CondReady t spot scope = spot

module _ (known : Known) where
  -- an operand as its letter asks, given that the term is ready as an expression, and as a place
  abbrev pub LetterReady : Letter → Tree → Type 0 → Type 0 → AbsolutePath → Type 0
  LetterReady Valued t value spot scope = value
  LetterReady Kept t value spot scope = value
  LetterReady Placed t value spot scope = spot
  LetterReady Used t value spot scope = UsedReady known t scope
  LetterReady (L.Raw size) t value spot scope = RawReady size t

  abbrev pub ElementReady : Tree → Type 0 → Type 0
  ElementReady (Use at name) ready = IsElementName known name
  ElementReady t ready = (is_constant t ≡ true) × ready

-- a tree in which an ElseIf stands where that is `Branches`
module _ (Branches : Type 0) (known : Known) where
  -- numbers fit their bits, names can be written and are found, and each form has what it asks for
  abbrev mutual
    pub IsReady : Tree → AbsolutePath → Type 0
    IsReady (Integer number) scope = Unit {0}
    IsReady (Constant literal) scope = Unit {0}
    IsReady (String text) scope = IsText text
    IsReady (InSlot slot) scope = IsSlot slot
    IsReady Debug scope = Unit {0}
    IsReady Omitted scope = ⊥
    IsReady (Raw size number) scope = ⊥
    IsReady (Use at name) scope = (path : AbsolutePath) × Denotes known name scope path × EndsIn known TakesNone path
    IsReady (Call at name args) scope =
        (path : AbsolutePath) × Denotes known name scope path × EndsIn known (Takes (count args)) path × AreValues args scope
    IsReady (Apply op args targets) scope =
        HasOwnCode op × AreOperands (row_of op).operands args scope × (count targets ≡ (row_of op).targets) × AreSpots targets scope
    IsReady (Buffer size bytes) scope = (is_expression size ≡ true) × IsReady size scope
    IsReady (Package n elements) scope = (n < 256) × AreElements elements scope
    IsReady (VarPackage size elements) scope = (is_expression size ≡ true) × IsReady size scope × AreElements elements scope
    IsReady (CondRefOf place target) scope = CondReady known place (IsSpot place scope) scope × IsSpot target scope
    IsReady (Return value) scope = (is_expression value ≡ true) × IsReady value scope
    IsReady (Name at name value) scope = Declares known name scope (Is DataObject) × (is_expression value ≡ true) × IsReady value scope
    IsReady (Alias from source at name) scope =
        (path : AbsolutePath) × Denotes known source scope path × Declares known name scope (AliasTo (Some path))
    IsReady (External here at name type parameters) scope = IsName name
    IsReady (Method at name flags body) scope =
        Declares known name scope (Is (MethodObject flags)) × (flags < 256) × AreReady body (declared_path name scope)
    IsReady (Mutex at name level) scope = Declares known name scope (Is (MutexObject level)) × (level < 256)
    IsReady (Event at name) scope = Declares known name scope (Is EventObject)
    IsReady (Container' kind at name body) scope =
        Declares known name scope (Is (ContainerObject kind)) × FitsContainer kind × AreReady body (declared_path name scope)
    IsReady (Scope here at name body) scope = (path : AbsolutePath) × Denotes known name scope path × AreReady body path
    IsReady (If test body) scope = (is_expression test ≡ true) × IsReady test scope × AreReady body scope
    IsReady (Else body) scope = AreReady body scope
    IsReady (While test body) scope = (is_expression test ≡ true) × IsReady test scope × AreReady body scope
    IsReady Break scope = Unit {0}
    IsReady Continue scope = Unit {0}
    IsReady (OperationRegion at name space args) scope =
        Declares known name scope (Is (RegionObject space 0 0)) × (space < 256) × AreOperands region_letters args scope
    IsReady (Field here from region flags items) scope = IsFound known region scope × (flags < 256) × AreItems 0 items
        × AreUnits known items scope
    IsReady (IndexField here from index to register flags items) scope =
        IsFound known index scope × IsFound known register scope × (flags < 256) × AreItems 0 items × AreUnits known items scope
    IsReady (BankField here from region to bank value flags items) scope =
        IsFound known region scope × IsFound known bank scope × (is_expression value ≡ true) × IsReady value scope × (flags < 256)
        × AreItems 0 items × AreUnits known items scope
    IsReady (CreateField form args at name) scope =
        AreOperands (field_letters form) args scope × Declares known name scope
        (Is (BufferFieldObject (record { source = OverItsOwn; at = 0; bits = 0 })))
    IsReady (Item item) scope = ⊥
    IsReady (Fill bytes) scope = ⊥
    IsReady (Operated op args) scope = ⊥
    IsReady (Assigned target value) scope = ⊥
    IsReady (AssignedBy op target value) scope = ⊥
    IsReady (ElseIf test body) scope = Branches × (is_expression test ≡ true) × IsReady test scope × AreReady body scope
    IsReady (Switch value cases) scope = ⊥
    IsReady (Case value body) scope = ⊥
    IsReady (Default body) scope = ⊥
    IsReady (For start test step body) scope = ⊥
    IsReady (Print place format args) scope = ⊥
    IsReady Misshapen scope = ⊥

    -- a term that stands for a place, or a target that is left out
    pub IsSpot : Tree → AbsolutePath → Type 0
    IsSpot Omitted scope = Unit {0}
    IsSpot Debug scope = Unit {0}
    IsSpot (InSlot slot) scope = IsSlot slot
    IsSpot (Use at name) scope = (path : AbsolutePath) × Denotes known name scope path
    IsSpot (Apply op args targets) scope =
        HasOwnCode op × SpotReady (spot_form op) (AreOperands (row_of op).operands args scope × (count targets ≡ (row_of op).targets)
        × AreSpots targets scope) (IsAlone args targets scope)
    IsSpot _ scope = ⊥

    -- one operand and no target
    pub IsAlone : Trees → Trees → AbsolutePath → Type 0
    IsAlone (tree t no_trees) no_trees scope = (is_expression t ≡ true) × IsReady t scope
    IsAlone _ _ scope = ⊥

    pub AreOperands : List Letter → Trees → AbsolutePath → Type 0
    AreOperands [] no_trees scope = Unit {0}
    AreOperands (letter ∷ letters) (tree t ts) scope =
        LetterReady known letter t ((is_expression t ≡ true) × IsReady t scope) (IsSpot t scope) scope × AreOperands letters ts scope
    AreOperands _ _ scope = ⊥

    pub AreSpots : Trees → AbsolutePath → Type 0
    AreSpots no_trees scope = Unit {0}
    AreSpots (tree t ts) scope = IsSpot t scope × AreSpots ts scope

    pub AreValues : Trees → AbsolutePath → Type 0
    AreValues no_trees scope = Unit {0}
    AreValues (tree t ts) scope = (is_expression t ≡ true) × IsReady t scope × AreValues ts scope

    pub AreElements : Trees → AbsolutePath → Type 0
    AreElements no_trees scope = Unit {0}
    AreElements (tree t ts) scope = ElementReady known t (IsReady t scope) × AreElements ts scope

    pub AreReady : Trees → AbsolutePath → Type 0
    AreReady no_trees scope = Unit {0}
    AreReady (tree term terms) scope = IsReady term scope × AreReady terms scope

-- the header's texts have room, and the terms are ready, in which an ElseIf is an If in an Else
pub record IsReadyBlock (known : Known) (block : Block) : Type 0 where
  pub signature : length block.signature ≡ 4
  pub oem_id : length block.oem_id ≤ 6
  pub table_id : length block.table_id ≤ 8
  pub oem_revision : block.oem_revision < 2 ^ 32
  pub terms : AreReady ⊥ known (nested_all (trees_of block.terms.items)) []
