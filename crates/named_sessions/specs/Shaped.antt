-- What needs no names to be seen of a program: the forms of its terms and what fits its bytes.
use Rattle.std.specs.Prelude.{◌≡◌, ◌<◌, true, List, [], ◌∷◌, length}
use Rattle.acpi_values.specs.Operators.{Letter, Valued, Kept, Placed, Used, Row, row_of}
use Rattle.acpi_values.specs.Operators as L
use Rattle.acpi_state.specs.FieldActs.{region_letters, field_letters}
use Rattle.asl_meaning.specs.Meaning.{spot_form}
use Rattle.asl_tree.specs.Tree.{Tree, Integer, Constant, String, InSlot, Debug, Omitted, Raw, Use, Call, Apply, Buffer, Package}
use Rattle.asl_tree.specs.Tree.{VarPackage, CondRefOf, Return, Name, Alias, External, Method, Mutex, Event, Container', Scope, Fill}
use Rattle.asl_tree.specs.Tree.{Misshapen, Operated, Assigned, AssignedBy, Trees, no_trees, tree, count, OperationRegion, Field}
use Rattle.asl_tree.specs.Tree.{IndexField, BankField, CreateField, UnitName, If, ElseIf, Else, While, Break, Continue, Item, Switch, Case}
use Rattle.asl_tree.specs.Tree.{Default, For, Print}
use Rattle.asl_tree.specs.Formats.{cut}
use Rattle.asl_tree.specs.FieldItems.{FieldItem, UnitItem, SkipItem, OffsetItem, AccessItem, ConnectionItem}
use Rattle.aml_code.specs.Fronts.{IsName, IsUsedName, is_segment}
use Rattle.aml_meaning.specs.Codes.{HasOwnCode, IsSlot}
use Rattle.aml_sessions.specs.Ready.{IsText, is_expression, is_constant, FitsContainer, RawReady, SpotReady, IsConnection, IsItem, AreItems}

abbrev pub UsedShaped : Tree → Type 0
UsedShaped (Use at name) = IsUsedName name
UsedShaped _ = ⊥

abbrev pub LetterShaped : Letter → Tree → Type 0 → Type 0 → Type 0
LetterShaped Valued t value spot = value
LetterShaped Kept t value spot = value
LetterShaped Placed t value spot = spot
LetterShaped Used t value spot = UsedShaped t
LetterShaped (L.Raw size) t value spot = RawReady size t

abbrev pub ElementShaped : Tree → Type 0 → Type 0
ElementShaped (Use at name) shaped = IsUsedName name
ElementShaped t shaped = (is_constant t ≡ true) × shaped

-- a start or a step of a For, which may be left out
abbrev pub EffectShaped : Tree → Type 0 → Type 0
EffectShaped Omitted shaped = Unit {0}
EffectShaped t shaped = (is_expression t ≡ true) × shaped

-- each unit of a field's list has a segment as its name, each access has bytes, and each connection that is a name one that can be written
abbrev pub AreNamed : List (FieldItem UnitName) → Type 0
AreNamed [] = Unit {0}
AreNamed (UnitItem name bits ∷ items) = (is_segment name.segment ≡ true) × AreNamed items
AreNamed (SkipItem bits ∷ items) = AreNamed items
AreNamed (OffsetItem bytes ∷ items) = AreNamed items
AreNamed (AccessItem access attribute length ∷ items) = IsItem 0 (AccessItem access attribute length) × AreNamed items
AreNamed (ConnectionItem to ∷ items) = IsConnection to × AreNamed items

-- the size of what a Case compares with is a number
abbrev pub IsNumber : Tree → Type 0
IsNumber (Integer number) = Unit {0}
IsNumber _ = ⊥

-- what a Case compares with: an integer, a string, a Buffer of constants, or a Package of at least one of these
abbrev pub IsCaseMember : Tree → Type 0
IsCaseMember (Integer number) = Unit {0}
IsCaseMember (Constant literal) = Unit {0}
IsCaseMember (String text) = IsText text
IsCaseMember (Buffer size bytes) = IsNumber size
IsCaseMember _ = ⊥

abbrev pub AreCaseMembers : Trees → Type 0
AreCaseMembers no_trees = Unit {0}
AreCaseMembers (tree member members) = IsCaseMember member × AreCaseMembers members

abbrev pub HaveCaseMembers : Trees → Type 0
HaveCaseMembers no_trees = ⊥
HaveCaseMembers members = AreCaseMembers members

abbrev pub IsCaseValue : Tree → Type 0
IsCaseValue (Package n members) = HaveCaseMembers members
IsCaseValue (VarPackage size members) = IsNumber size × HaveCaseMembers members
IsCaseValue value = IsCaseMember value

-- no Else stands directly behind a Switch
abbrev pub StartsNoElse : Trees → Type 0
StartsNoElse (tree (Else body) terms) = ⊥
StartsNoElse (tree (ElseIf test body) terms) = ⊥
StartsNoElse terms = Unit {0}

abbrev pub IsFollowed : Tree → Trees → Type 0
IsFollowed (Switch value cases) terms = StartsNoElse terms
IsFollowed term terms = Unit {0}

-- a tree whose lists of fields are `Listed`, and in which a For and what prints stand where that is `Forms`, what is
-- written with a symbol where that is `Symbols`, and a Switch where that is `Switches`
module _ (Forms : Type 0) (Listed : List (FieldItem UnitName) → Type 0) (Symbols Switches : Type 0) where
  abbrev mutual
    pub IsFormed : Tree → Type 0
    IsFormed (Integer number) = Unit {0}
    IsFormed (Constant literal) = Unit {0}
    IsFormed (String text) = IsText text
    IsFormed (InSlot slot) = IsSlot slot
    IsFormed Debug = Unit {0}
    IsFormed Omitted = ⊥
    IsFormed (Raw size number) = ⊥
    IsFormed (Use at name) = IsUsedName name
    IsFormed (Call at name args) = IsUsedName name × AreFormedValues args
    IsFormed (Apply op args targets) =
        HasOwnCode op × AreFormedOperands (row_of op).operands args × (count targets ≡ (row_of op).targets) × AreFormedSpots targets
    IsFormed (Buffer size bytes) = (is_expression size ≡ true) × IsFormed size
    IsFormed (Package n elements) = (n < 256) × AreFormedElements elements
    IsFormed (VarPackage size elements) = (is_expression size ≡ true) × IsFormed size × AreFormedElements elements
    IsFormed (CondRefOf place target) = IsFormedSpot place × IsFormedSpot target
    IsFormed (Return value) = (is_expression value ≡ true) × IsFormed value
    IsFormed (Name at name value) = IsName name × (is_expression value ≡ true) × IsFormed value
    IsFormed (Alias from source at name) = IsUsedName source × IsName name
    IsFormed (External here at name type parameters) = IsName name
    IsFormed (Method at name flags body) = IsName name × (flags < 256) × AreFormed body
    IsFormed (Mutex at name level) = IsName name × (level < 256)
    IsFormed (Event at name) = IsName name
    IsFormed (Container' kind at name body) = IsName name × FitsContainer kind × AreFormed body
    IsFormed (Scope here at name body) = IsUsedName name × AreFormed body
    IsFormed (If test body) = (is_expression test ≡ true) × IsFormed test × AreFormed body
    IsFormed (Else body) = AreFormed body
    IsFormed (While test body) = (is_expression test ≡ true) × IsFormed test × AreFormed body
    IsFormed Break = Unit {0}
    IsFormed Continue = Unit {0}
    IsFormed (OperationRegion at name space args) = IsName name × (space < 256) × AreFormedOperands region_letters args
    IsFormed (Field here from region flags items) = IsUsedName region × (flags < 256) × Listed items
    IsFormed (IndexField here from index to register flags items) = IsUsedName index × IsUsedName register × (flags < 256) × Listed items
    IsFormed (BankField here from region to bank value flags items) =
        IsUsedName region × IsUsedName bank × (is_expression value ≡ true) × IsFormed value × (flags < 256) × Listed items
    IsFormed (CreateField form args at name) = AreFormedOperands (field_letters form) args × IsName name
    IsFormed (Item item) = ⊥
    IsFormed (Fill bytes) = ⊥
    IsFormed (Operated op args) = Symbols × HasOwnCode op × AreFormedOperands (row_of op).operands args
    IsFormed (Assigned target value) = Symbols × IsFormedSpot target × (is_expression value ≡ true) × IsFormed value
    IsFormed (AssignedBy op target value) = Symbols × IsFormedSpot target × (is_expression target ≡ true) × IsFormed target
        × (is_expression value ≡ true) × IsFormed value
    IsFormed (ElseIf test body) = (is_expression test ≡ true) × IsFormed test × AreFormed body
    IsFormed (For start test step body) = Forms × EffectShaped start (IsFormed start) × (is_expression test ≡ true) × IsFormed test
        × EffectShaped step (IsFormed step) × AreFormed body
    -- as many arguments as the format asks for
    IsFormed (Print place format args) = Forms × IsFormedSpot place × IsText format × AreFormedValues args
        × (count args ≡ length (cut format).1)
    IsFormed (Switch value cases) = Switches × (is_expression value ≡ true) × IsFormed value × AreFormedCases cases
    IsFormed (Case value body) = ⊥
    IsFormed (Default body) = ⊥
    IsFormed Misshapen = ⊥

    -- a term that stands for a place, or a target that is left out
    pub IsFormedSpot : Tree → Type 0
    IsFormedSpot Omitted = Unit {0}
    IsFormedSpot Debug = Unit {0}
    IsFormedSpot (InSlot slot) = IsSlot slot
    IsFormedSpot (Use at name) = IsUsedName name
    IsFormedSpot (Apply op args targets) =
        HasOwnCode op × SpotReady (spot_form op) (AreFormedOperands (row_of op).operands args × (count targets ≡ (row_of op).targets)
        × AreFormedSpots targets) (IsFormedAlone args targets)
    IsFormedSpot (Operated op args) = Symbols × HasOwnCode op × SpotReady (spot_form op) (AreFormedOperands (row_of op).operands args) ⊥
    IsFormedSpot _ = ⊥

    pub IsFormedAlone : Trees → Trees → Type 0
    IsFormedAlone (tree t no_trees) no_trees = (is_expression t ≡ true) × IsFormed t
    IsFormedAlone _ _ = ⊥

    pub AreFormedOperands : List Letter → Trees → Type 0
    AreFormedOperands [] no_trees = Unit {0}
    AreFormedOperands (letter ∷ letters) (tree t ts) =
        LetterShaped letter t ((is_expression t ≡ true) × IsFormed t) (IsFormedSpot t) × AreFormedOperands letters ts
    AreFormedOperands _ _ = ⊥

    pub AreFormedSpots : Trees → Type 0
    AreFormedSpots no_trees = Unit {0}
    AreFormedSpots (tree t ts) = IsFormedSpot t × AreFormedSpots ts

    pub AreFormedValues : Trees → Type 0
    AreFormedValues no_trees = Unit {0}
    AreFormedValues (tree t ts) = (is_expression t ≡ true) × IsFormed t × AreFormedValues ts

    pub AreFormedElements : Trees → Type 0
    AreFormedElements no_trees = Unit {0}
    AreFormedElements (tree t ts) = ElementShaped t (IsFormed t) × AreFormedElements ts

    pub AreFormed : Trees → Type 0
    AreFormed no_trees = Unit {0}
    AreFormed (tree term terms) = IsFormed term × IsFollowed term terms × AreFormed terms

    -- the Cases of a Switch, and last its Default
    pub AreFormedCases : Trees → Type 0
    AreFormedCases no_trees = Unit {0}
    AreFormedCases (tree (Case value body) cases) = IsCaseValue value × AreFormed body × AreFormedCases cases
    AreFormedCases (tree (Default body) no_trees) = AreFormed body
    AreFormedCases _ = ⊥

-- a tree without Fors and what prints, symbols and Switches, in whose lists no Offset goes back and each count
-- of bits can be written
abbrev pub IsShaped : Tree → Type 0
IsShaped = IsFormed ⊥ (AreItems 0) ⊥ ⊥

abbrev pub IsShapedSpot : Tree → Type 0
IsShapedSpot = IsFormedSpot ⊥ (AreItems 0) ⊥ ⊥

abbrev pub IsShapedAlone : Trees → Trees → Type 0
IsShapedAlone = IsFormedAlone ⊥ (AreItems 0) ⊥ ⊥

abbrev pub AreShapedOperands : List Letter → Trees → Type 0
AreShapedOperands = AreFormedOperands ⊥ (AreItems 0) ⊥ ⊥

abbrev pub AreShapedSpots : Trees → Type 0
AreShapedSpots = AreFormedSpots ⊥ (AreItems 0) ⊥ ⊥

abbrev pub AreShapedValues : Trees → Type 0
AreShapedValues = AreFormedValues ⊥ (AreItems 0) ⊥ ⊥

abbrev pub AreShapedElements : Trees → Type 0
AreShapedElements = AreFormedElements ⊥ (AreItems 0) ⊥ ⊥

abbrev pub AreShaped : Trees → Type 0
AreShaped = AreFormed ⊥ (AreItems 0) ⊥ ⊥
