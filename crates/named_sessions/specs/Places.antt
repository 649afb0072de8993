-- Where the nodes of trees and the errors of names stand.
use Rattle.std.specs.Prelude.{ℕ, ◌<◌, List, [], ◌∷◌}
use Rattle.asl_tree.specs.FieldItems.{FieldItem, UnitItem, SkipItem, OffsetItem, AccessItem, ConnectionItem, Connected, ToName, ToBytes}
use Rattle.asl_tree.specs.Tree.{At, Tree, Use, Call, Apply, Buffer, Package, VarPackage, CondRefOf, Return, Name, Alias, External, Method}
use Rattle.asl_tree.specs.Tree.{Mutex, Event, Container', Scope, Trees, no_trees, tree, OperationRegion, Field, IndexField, BankField}
use Rattle.asl_tree.specs.Tree.{CreateField, UnitName, If, Else, While, Item, ElseIf, Operated, Assigned, AssignedBy, Switch, Case}
use Rattle.asl_tree.specs.Tree.{Default, For, Print}
use Rattle.acpi_names.specs.Errors.{NameError, Twice, DeclaredHere, Missing, NoContainer, LeavesRoot, Differs, TooLong, WrongCount}
use Rattle.acpi_names.specs.Errors.{WrongKind}

-- a node in one of so many files
abbrev pub IsIn : ℕ → At → Type 0
IsIn files at = at.place.file < files

abbrev pub IsConnectedWithin : ℕ → Connected → Type 0
IsConnectedWithin files (ToName at name) = IsIn files at
IsConnectedWithin files (ToBytes bytes) = Unit {0}

abbrev pub IsItemWithin : ℕ → FieldItem UnitName → Type 0
IsItemWithin files (UnitItem name bits) = IsIn files name.at
IsItemWithin files (SkipItem bits) = Unit {0}
IsItemWithin files (OffsetItem bytes) = Unit {0}
IsItemWithin files (AccessItem access attribute length) = Unit {0}
IsItemWithin files (ConnectionItem to) = IsConnectedWithin files to

abbrev pub AreItemsWithin : ℕ → List (FieldItem UnitName) → Type 0
AreItemsWithin files [] = Unit {0}
AreItemsWithin files (item ∷ items) = IsItemWithin files item × AreItemsWithin files items

-- each node of the tree, at any depth, stands in one of so many files
abbrev mutual
  pub IsWithin : ℕ → Tree → Type 0
  IsWithin files (Use at name) = IsIn files at
  IsWithin files (Call at name args) = IsIn files at × AreWithin files args
  IsWithin files (Apply op args targets) = AreWithin files args × AreWithin files targets
  IsWithin files (Operated op args) = AreWithin files args
  IsWithin files (Assigned target value) = IsWithin files target × IsWithin files value
  IsWithin files (AssignedBy op target value) = IsWithin files target × IsWithin files value
  IsWithin files (Buffer size bytes) = IsWithin files size
  IsWithin files (Package n elements) = AreWithin files elements
  IsWithin files (VarPackage size elements) = IsWithin files size × AreWithin files elements
  IsWithin files (CondRefOf place target) = IsWithin files place × IsWithin files target
  IsWithin files (Return value) = IsWithin files value
  IsWithin files (Name at name value) = IsIn files at × IsWithin files value
  IsWithin files (Alias from source at name) = IsIn files from × IsIn files at
  IsWithin files (External here at name type parameters) = IsIn files here × IsIn files at
  IsWithin files (Method at name flags body) = IsIn files at × AreWithin files body
  IsWithin files (Mutex at name level) = IsIn files at
  IsWithin files (Event at name) = IsIn files at
  IsWithin files (Container' kind at name body) = IsIn files at × AreWithin files body
  IsWithin files (Scope here at name body) = IsIn files here × IsIn files at × AreWithin files body
  IsWithin files (If test body) = IsWithin files test × AreWithin files body
  IsWithin files (ElseIf test body) = IsWithin files test × AreWithin files body
  IsWithin files (Else body) = AreWithin files body
  IsWithin files (While test body) = IsWithin files test × AreWithin files body
  IsWithin files (For start test step body) = IsWithin files start × IsWithin files test × IsWithin files step × AreWithin files body
  IsWithin files (Print place format args) = IsWithin files place × AreWithin files args
  IsWithin files (Switch value cases) = IsWithin files value × AreWithin files cases
  IsWithin files (Case value body) = IsWithin files value × AreWithin files body
  IsWithin files (Default body) = AreWithin files body
  IsWithin files (OperationRegion at name space args) = IsIn files at × AreWithin files args
  IsWithin files (Field here from region flags items) = IsIn files here × IsIn files from × AreItemsWithin files items
  IsWithin files (IndexField here from index to register flags items) = IsIn files here × IsIn files from × IsIn files to
      × AreItemsWithin files items
  IsWithin files (BankField here from region to bank value flags items) = IsIn files here × IsIn files from × IsIn files to
      × IsWithin files value × AreItemsWithin files items
  IsWithin files (CreateField form args at name) = AreWithin files args × IsIn files at
  IsWithin files (Item item) = IsItemWithin files item
  IsWithin files _ = Unit {0}

  pub AreWithin : ℕ → Trees → Type 0
  AreWithin files no_trees = Unit {0}
  AreWithin files (tree t ts) = IsWithin files t × AreWithin files ts

-- the node at which an error stands
abbrev pub at_of : NameError → At
at_of (Twice at path) = at
at_of (DeclaredHere at path) = at
at_of (Missing at name) = at
at_of (NoContainer at name) = at
at_of (LeavesRoot at name) = at
at_of (Differs at name) = at
at_of (TooLong at name) = at
at_of (WrongCount at name) = at
at_of (WrongKind at name) = at
