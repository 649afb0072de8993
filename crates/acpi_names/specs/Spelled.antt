-- A program with its names as they stand in the bytes, shortened or not.
use Rattle.std.specs.Prelude.{Bool, false, List, [], ◌∷◌}
use Rattle.acpi_values.specs.Paths.{AbsolutePath}
use Rattle.acpi_state.specs.Outcomes.{choose}
use Rattle.asl_tree.specs.declared.path.Path.{Path}
use Rattle.asl_tree.specs.Names.{declared_path, denoted}
use Rattle.asl_meaning.specs.Declarations.{ExternalType}
use Rattle.acpi_names.specs.Shortest.{spelled_use, spelled_item}
use Rattle.asl_tree.specs.FieldItems.{FieldItem, ConnectionItem, Connected, ToName, ToBytes}
use Rattle.asl_tree.specs.Tree.{Tree, UnitName, Item, Use, Call, Apply, Buffer, Package, VarPackage, CondRefOf, Return, Name, Alias}
use Rattle.asl_tree.specs.Tree.{External, Method, Container', Scope, Trees, no_trees, tree, OperationRegion, Field, IndexField, BankField}
use Rattle.asl_tree.specs.Tree.{CreateField, If, ElseIf, Else, While, For, Print, Operated, Assigned, AssignedBy, Switch, Case, Default}

module _ (has : AbsolutePath → Bool) where
  -- the scope of a Scope's terms
  abbrev pub inner_scope : Path → AbsolutePath → AbsolutePath
  inner_scope name scope = choose (denoted has name scope) [] (λ path. path)

module _ (shorten : Bool) (has : AbsolutePath → Bool) where
  -- an element of a Package, which is spelled as this where it is no name
  abbrev pub element_spelled : Tree → Tree → AbsolutePath → Tree
  element_spelled (Use at name) other scope = Use at (spelled_item has shorten name scope)
  element_spelled t other scope = other

module _ (shorten : Bool) (also has : AbsolutePath → Bool) where
  -- what the units of a field are connected to
  abbrev pub connected_spelled : Connected → AbsolutePath → Connected
  connected_spelled (ToName at name) scope = ToName at (spelled_use also has shorten name scope)
  connected_spelled (ToBytes bytes) scope = ToBytes bytes

  abbrev pub item_spelled : FieldItem UnitName → AbsolutePath → FieldItem UnitName
  item_spelled (ConnectionItem to) scope = ConnectionItem (connected_spelled to scope)
  item_spelled item scope = item

  abbrev pub items_spelled : List (FieldItem UnitName) → AbsolutePath → List (FieldItem UnitName)
  items_spelled [] scope = []
  items_spelled (item ∷ items) scope = item_spelled item scope ∷ items_spelled items scope

module _ (shorten : Bool) (also has : AbsolutePath → Bool) (says : AbsolutePath → ExternalType → ExternalType) where
  -- declared names stay as they are written, the name of a Scope is never shortened, and an External says its type and
  -- its arity
  abbrev mutual
    pub spelled : Tree → AbsolutePath → Tree
    spelled (Use at name) scope = Use at (spelled_use also has shorten name scope)
    spelled (Call at name args) scope = Call at (spelled_use also has shorten name scope) (spelled_all args scope)
    spelled (Apply op args targets) scope = Apply op (spelled_all args scope) (spelled_all targets scope)
    spelled (Operated op args) scope = Operated op (spelled_all args scope)
    spelled (Assigned target value) scope = Assigned (spelled target scope) (spelled value scope)
    spelled (AssignedBy op target value) scope = AssignedBy op (spelled target scope) (spelled value scope)
    spelled (Buffer size bytes) scope = Buffer (spelled size scope) bytes
    spelled (Package n elements) scope = Package n (spelled_elements elements scope)
    spelled (VarPackage size elements) scope = VarPackage (spelled size scope) (spelled_elements elements scope)
    spelled (CondRefOf place target) scope = CondRefOf (spelled place scope) (spelled target scope)
    spelled (If test body) scope = If (spelled test scope) (spelled_all body scope)
    spelled (ElseIf test body) scope = ElseIf (spelled test scope) (spelled_all body scope)
    spelled (Else body) scope = Else (spelled_all body scope)
    spelled (While test body) scope = While (spelled test scope) (spelled_all body scope)
    spelled (For start test step body) scope = For (spelled start scope) (spelled test scope) (spelled step scope) (spelled_all body scope)
    spelled (Print place format args) scope = Print (spelled place scope) format (spelled_all args scope)
    spelled (Switch value cases) scope = Switch (spelled value scope) (spelled_all cases scope)
    spelled (Case value body) scope = Case (spelled value scope) (spelled_all body scope)
    spelled (Default body) scope = Default (spelled_all body scope)
    spelled (OperationRegion at name space args) scope = OperationRegion at name space (spelled_all args scope)
    spelled (Field here from region flags items) scope = Field here from (spelled_use also has shorten region scope) flags
        (items_spelled shorten also has items scope)
    spelled (IndexField here from index to register flags items) scope =
        IndexField here from (spelled_use also has shorten index scope) to (spelled_use also has shorten register scope) flags
        (items_spelled shorten also has items scope)
    spelled (BankField here from region to bank value flags items) scope =
        BankField here from (spelled_use also has shorten region scope) to (spelled_use also has shorten bank scope) (spelled value scope)
        flags (items_spelled shorten also has items scope)
    spelled (CreateField form args at name) scope = CreateField form (spelled_all args scope) at name
    spelled (Return value) scope = Return (spelled value scope)
    spelled (Name at name value) scope = Name at name (spelled value scope)
    spelled (Alias from source at name) scope = Alias from (spelled_use also has shorten source scope) at name
    spelled (External here at name type parameters) scope =
        let e = says (declared_path name scope) (record { type = type; parameters = parameters }) in
        External here at name e.type e.parameters
    spelled (Method at name flags body) scope = Method at name flags (spelled_all body (declared_path name scope))
    spelled (Container' kind at name body) scope = Container' kind at name (spelled_all body (declared_path name scope))
    spelled (Scope here at name body) scope = Scope here at (spelled_use also has false name scope)
        (spelled_all body (inner_scope has name scope))
    spelled (Item item) scope = Item (item_spelled shorten also has item scope)
    spelled term scope = term

    pub spelled_all : Trees → AbsolutePath → Trees
    spelled_all no_trees scope = no_trees
    spelled_all (tree term terms) scope = tree (spelled term scope) (spelled_all terms scope)

    pub spelled_elements : Trees → AbsolutePath → Trees
    spelled_elements no_trees scope = no_trees
    spelled_elements (tree t ts) scope = tree (element_spelled shorten has t (spelled t scope) scope) (spelled_elements ts scope)
