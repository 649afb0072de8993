-- How many nodes a core has, by its tree: each term is one, and so is each operand, target and element, each name and number that a
-- term declares or leads to, each byte of a Buffer, and each item of a field's list.
use Rattle.std.specs.Prelude.{ℕ, suc, ◌+◌, length, Option, Some, None}
use Rattle.acpi_state.specs.Objects.{Container, PowerResource, Processor}
use Rattle.asl_tree.specs.Tree.{Tree, Call, Apply, Operated, Assigned, AssignedBy, Buffer, Package, VarPackage, CondRefOf, Return, Name}
use Rattle.asl_tree.specs.Tree.{Alias, External, Method, Mutex, Event, Container', Scope, If, ElseIf, Else, While, For, Print, Switch, Case}
use Rattle.asl_tree.specs.Tree.{Default, OperationRegion, Field, IndexField, BankField, CreateField, Trees, no_trees, tree}

-- the number of parameters of an External, where it is written
abbrev pub written : Option ℕ → ℕ
written None = 0
written (Some count) = 1

-- the numbers of a container
abbrev pub numbers_of : Container → ℕ
numbers_of (PowerResource level order) = 2
numbers_of (Processor number address size) = 3
numbers_of kind = 0

abbrev mutual
  pub nodes_of : Tree → ℕ
  nodes_of (Call at name args) = suc (nodes_in args)
  nodes_of (Apply op args targets) = suc (nodes_in args + nodes_in targets)
  nodes_of (Operated op args) = suc (nodes_in args)
  nodes_of (Assigned target value) = suc (nodes_of target + nodes_of value)
  nodes_of (AssignedBy op target value) = suc (nodes_of target + nodes_of value)
  nodes_of (Buffer size bytes) = suc (nodes_of size + length bytes)
  nodes_of (Package n elements) = suc (suc (nodes_in elements))
  nodes_of (VarPackage size elements) = suc (nodes_of size + nodes_in elements)
  nodes_of (CondRefOf place target) = suc (nodes_of place + nodes_of target)
  nodes_of (Return value) = suc (nodes_of value)
  nodes_of (Name at name value) = suc (suc (nodes_of value))
  nodes_of (Alias from source at name) = 3
  nodes_of (External here at name type parameters) = 3 + written parameters
  nodes_of (Method at name flags body) = 3 + nodes_in body
  nodes_of (Mutex at name level) = 3
  nodes_of (Event at name) = 2
  nodes_of (Container' kind at name body) = 2 + (numbers_of kind + nodes_in body)
  nodes_of (Scope here at name body) = 2 + nodes_in body
  nodes_of (If test body) = suc (nodes_of test + nodes_in body)
  nodes_of (ElseIf test body) = suc (nodes_of test + nodes_in body)
  nodes_of (Else body) = suc (nodes_in body)
  nodes_of (While test body) = suc (nodes_of test + nodes_in body)
  nodes_of (For start test step body) = suc (nodes_of start + (nodes_of test + (nodes_of step + nodes_in body)))
  nodes_of (Print place format args) = 2 + (nodes_of place + nodes_in args)
  nodes_of (Switch value cases) = suc (nodes_of value + nodes_in cases)
  nodes_of (Case value body) = suc (nodes_of value + nodes_in body)
  nodes_of (Default body) = suc (nodes_in body)
  nodes_of (OperationRegion at name space args) = 3 + nodes_in args
  nodes_of (Field here from region flags items) = 3 + length items
  nodes_of (IndexField here from index to register flags items) = 4 + length items
  nodes_of (BankField here from region to bank value flags items) = 4 + (nodes_of value + length items)
  nodes_of (CreateField form args at name) = 2 + nodes_in args
  nodes_of term = 1

  pub nodes_in : Trees → ℕ
  nodes_in no_trees = 0
  nodes_in (tree term terms) = nodes_of term + nodes_in terms
