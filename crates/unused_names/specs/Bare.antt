-- A block whatever the numbers and the places of its nodes are: each node is the same.
use Rattle.std.specs.Prelude.{List, [], ◌∷◌}
use Rattle.asl_tree.specs.FieldItems.{FieldItem, UnitItem, SkipItem, OffsetItem, AccessItem, ConnectionItem, Connected, ToName, ToBytes}
use Rattle.asl_tree.specs.Tree.{At, Tree, Use, Call, Apply, Operated, Assigned, AssignedBy, Buffer, Package, VarPackage, CondRefOf, Return}
use Rattle.asl_tree.specs.Tree.{Name, Alias, External, Method, Mutex, Event, Container', Scope, If, ElseIf, Else, While, For, Print, Switch}
use Rattle.asl_tree.specs.Tree.{Case, Default, OperationRegion, Field, IndexField, BankField, CreateField, Item, UnitName}
use Rattle.asl_tree.specs.Tree.{Trees, no_trees, tree}

abbrev pub nowhere : At
nowhere = record { id = 0; place = record { file = 0; line = 0; column = 0 } }

abbrev pub bare_connected : Connected → Connected
bare_connected (ToName at name) = ToName nowhere name
bare_connected (ToBytes bytes) = ToBytes bytes

abbrev pub bare_item : FieldItem UnitName → FieldItem UnitName
bare_item (UnitItem name bits) = UnitItem (record { at = nowhere; segment = name.segment }) bits
bare_item (SkipItem bits) = SkipItem bits
bare_item (OffsetItem bytes) = OffsetItem bytes
bare_item (AccessItem access attribute length) = AccessItem access attribute length
bare_item (ConnectionItem to) = ConnectionItem (bare_connected to)

abbrev pub bare_items : List (FieldItem UnitName) → List (FieldItem UnitName)
bare_items [] = []
bare_items (item ∷ items) = bare_item item ∷ bare_items items

abbrev mutual
  pub bare : Tree → Tree
  bare (Use at name) = Use nowhere name
  bare (Call at name args) = Call nowhere name (bare_all args)
  bare (Apply op args targets) = Apply op (bare_all args) (bare_all targets)
  bare (Operated op args) = Operated op (bare_all args)
  bare (Assigned target value) = Assigned (bare target) (bare value)
  bare (AssignedBy op target value) = AssignedBy op (bare target) (bare value)
  bare (Buffer size bytes) = Buffer (bare size) bytes
  bare (Package n elements) = Package n (bare_all elements)
  bare (VarPackage size elements) = VarPackage (bare size) (bare_all elements)
  bare (CondRefOf place target) = CondRefOf (bare place) (bare target)
  bare (Return value) = Return (bare value)
  bare (Name at name value) = Name nowhere name (bare value)
  bare (Alias from source at name) = Alias nowhere source nowhere name
  bare (External here at name type parameters) = External nowhere nowhere name type parameters
  bare (Method at name flags body) = Method nowhere name flags (bare_all body)
  bare (Mutex at name level) = Mutex nowhere name level
  bare (Event at name) = Event nowhere name
  bare (Container' kind at name body) = Container' kind nowhere name (bare_all body)
  bare (Scope here at name body) = Scope nowhere nowhere name (bare_all body)
  bare (If test body) = If (bare test) (bare_all body)
  bare (ElseIf test body) = ElseIf (bare test) (bare_all body)
  bare (Else body) = Else (bare_all body)
  bare (While test body) = While (bare test) (bare_all body)
  bare (For start test step body) = For (bare start) (bare test) (bare step) (bare_all body)
  bare (Print place format args) = Print (bare place) format (bare_all args)
  bare (Switch value cases) = Switch (bare value) (bare_all cases)
  bare (Case value body) = Case (bare value) (bare_all body)
  bare (Default body) = Default (bare_all body)
  bare (OperationRegion at name space args) = OperationRegion nowhere name space (bare_all args)
  bare (Field here from region flags items) = Field nowhere nowhere region flags (bare_items items)
  bare (IndexField here from index to register flags items) =
      IndexField nowhere nowhere index nowhere register flags (bare_items items)
  bare (BankField here from region to bank value flags items) =
      BankField nowhere nowhere region nowhere bank (bare value) flags (bare_items items)
  bare (CreateField form args at name) = CreateField form (bare_all args) nowhere name
  bare (Item item) = Item (bare_item item)
  bare t = t

  pub bare_all : Trees → Trees
  bare_all no_trees = no_trees
  bare_all (tree t ts) = tree (bare t) (bare_all ts)
