-- Terms that name shown Locals alone.
use Rattle.std.specs.Prelude.{◌≡◌, ℕ, Bool, true}
use Rattle.acpi_state.specs.Forms.{Slot, LocalSlot, ArgSlot}
use Rattle.asl_tree.specs.Tree.{Tree, InSlot, Call, Apply, Operated, Assigned, AssignedBy, Buffer, Package, VarPackage, CondRefOf, Return}
use Rattle.asl_tree.specs.Tree.{Name, Method, Container', Scope, If, ElseIf, Else, While, For, Print, Switch, Case, Default}
use Rattle.asl_tree.specs.Tree.{OperationRegion, BankField, CreateField, Trees, no_trees, tree}
use Rattle.hidden_locals.specs.Worlds.{World, shown_here}

abbrev pub IsShownSlot : (ℕ → Bool) → Slot → Type 0
IsShownSlot shown (LocalSlot i) = shown i ≡ true
IsShownSlot shown (ArgSlot i) = Unit {0}

-- these Locals of the innermost activation are shown
abbrev pub AreShown : (ℕ → Bool) → World → Type 0
AreShown shown w = (i : ℕ) → shown i ≡ true → shown_here w i ≡ true

-- each Local that a term names is shown; a method's body has Locals of its own, and what is asked of it is said apart
module _ (IsBody : Trees → Type 0) (shown : ℕ → Bool) where
  abbrev mutual
    pub UsesShown : Tree → Type 0
    UsesShown (InSlot slot) = IsShownSlot shown slot
    UsesShown (Call at name args) = UseShown args
    UsesShown (Apply op args targets) = UseShown args × UseShown targets
    UsesShown (Operated op args) = UseShown args
    UsesShown (Assigned target value) = UsesShown target × UsesShown value
    UsesShown (AssignedBy op target value) = UsesShown target × UsesShown value
    UsesShown (Buffer size bytes) = UsesShown size
    UsesShown (Package count elements) = UseShown elements
    UsesShown (VarPackage count elements) = UsesShown count × UseShown elements
    UsesShown (CondRefOf place target) = UsesShown place × UsesShown target
    UsesShown (Return value) = UsesShown value
    UsesShown (Name at name value) = UsesShown value
    UsesShown (Method at name flags body) = IsBody body
    UsesShown (Container' kind at name body) = UseShown body
    UsesShown (Scope here at name body) = UseShown body
    UsesShown (If test body) = UsesShown test × UseShown body
    UsesShown (ElseIf test body) = UsesShown test × UseShown body
    UsesShown (Else body) = UseShown body
    UsesShown (While test body) = UsesShown test × UseShown body
    UsesShown (For start test step body) = UsesShown start × UsesShown test × UsesShown step × UseShown body
    UsesShown (Print place format args) = UsesShown place × UseShown args
    UsesShown (Switch value cases) = UsesShown value × UseShown cases
    UsesShown (Case value body) = UsesShown value × UseShown body
    UsesShown (Default body) = UseShown body
    UsesShown (OperationRegion at name space args) = UseShown args
    UsesShown (BankField here from region to bank value flags items) = UsesShown value
    UsesShown (CreateField form args at name) = UseShown args
    UsesShown _ = Unit {0}

    pub UseShown : Trees → Type 0
    UseShown no_trees = Unit {0}
    UseShown (tree t ts) = UsesShown t × UseShown ts
