-- The Locals that terms name.
use Rattle.std.specs.Prelude.{ℕ, Bool, nat_eq, List, [], ◌∷◌, ◌++◌}
use Rattle.std.specs.List.{list_any}
use Rattle.acpi_state.specs.Forms.{Slot, LocalSlot, ArgSlot}
use Rattle.asl_tree.specs.Tree.{Tree, InSlot, Call, Apply, Operated, Assigned, AssignedBy, Buffer, Package, VarPackage, CondRefOf, Return}
use Rattle.asl_tree.specs.Tree.{Name, Method, Container', Scope, If, ElseIf, Else, While, For, Print, Switch, Case, Default}
use Rattle.asl_tree.specs.Tree.{OperationRegion, BankField, CreateField, Trees, no_trees, tree}

abbrev pub slot_locals : Slot → List ℕ
slot_locals (LocalSlot i) = i ∷ []
slot_locals (ArgSlot i) = []

-- methods that stand in a term count too
abbrev mutual
  pub locals : Tree → List ℕ
  locals (InSlot slot) = slot_locals slot
  locals (Call at name args) = locals_all args
  locals (Apply op args targets) = locals_all args ++ locals_all targets
  locals (Operated op args) = locals_all args
  locals (Assigned target value) = locals target ++ locals value
  locals (AssignedBy op target value) = locals target ++ locals value
  locals (Buffer size bytes) = locals size
  locals (Package count elements) = locals_all elements
  locals (VarPackage count elements) = locals count ++ locals_all elements
  locals (CondRefOf place target) = locals place ++ locals target
  locals (Return value) = locals value
  locals (Name at name value) = locals value
  locals (Method at name flags body) = locals_all body
  locals (Container' kind at name body) = locals_all body
  locals (Scope here at name body) = locals_all body
  locals (If test body) = locals test ++ locals_all body
  locals (ElseIf test body) = locals test ++ locals_all body
  locals (Else body) = locals_all body
  locals (While test body) = locals test ++ locals_all body
  locals (For start test step body) = locals start ++ (locals test ++ (locals step ++ locals_all body))
  locals (Print place format args) = locals place ++ locals_all args
  locals (Switch value cases) = locals value ++ locals_all cases
  locals (Case value body) = locals value ++ locals_all body
  locals (Default body) = locals_all body
  locals (OperationRegion at name space args) = locals_all args
  locals (BankField here from region to bank value flags items) = locals value
  locals (CreateField form args at name) = locals_all args
  locals _ = []

  pub locals_all : Trees → List ℕ
  locals_all no_trees = []
  locals_all (tree term terms) = locals term ++ locals_all terms

abbrev pub is_named : List ℕ → ℕ → Bool
is_named named i = list_any (nat_eq i) named

-- whether terms name a Local
abbrev pub name_local : Trees → ℕ → Bool
name_local terms = is_named (locals_all terms)
