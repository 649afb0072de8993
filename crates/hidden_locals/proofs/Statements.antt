-- Terms of which bodies are asked one thing, and Locals another.
use Rattle.std.proofs.Common.{ℕ, Bool}
use Rattle.asl_tree.specs.Tree.{Tree, InSlot, Call, Apply, Operated, Assigned, AssignedBy, Buffer, Package, VarPackage, CondRefOf, Return, Name, Method, Container', Scope, If, ElseIf, Else, While, For, Print, Switch, Case, Default, OperationRegion, BankField, CreateField, Trees, no_trees, tree}
use Rattle.hidden_locals.specs.Terms.{UsesShown, UseShown}

module _ (IsBody AnyBody : Trees → Type 0) (all shown : ℕ → Bool) where
  mutual
    pub both : (t : Tree) → UsesShown IsBody all t → UsesShown AnyBody shown t → UsesShown IsBody shown t
    both (InSlot slot) h g = g
    both (Call at name args) h g = both_all args h g
    both (Apply op args targets) h g = (both_all args h.0 g.0, both_all targets h.1 g.1)
    both (Operated op args) h g = both_all args h g
    both (Assigned target value) h g = (both target h.0 g.0, both value h.1 g.1)
    both (AssignedBy op target value) h g = (both target h.0 g.0, both value h.1 g.1)
    both (Buffer size bytes) h g = both size h g
    both (Package count elements) h g = both_all elements h g
    both (VarPackage count elements) h g = (both count h.0 g.0, both_all elements h.1 g.1)
    both (CondRefOf place target) h g = (both place h.0 g.0, both target h.1 g.1)
    both (Return value) h g = both value h g
    both (Name at name value) h g = both value h g
    both (Method at name flags body) h g = h
    both (Container' kind at name body) h g = both_all body h g
    both (Scope here at name body) h g = both_all body h g
    both (If test body) h g = (both test h.0 g.0, both_all body h.1 g.1)
    both (ElseIf test body) h g = (both test h.0 g.0, both_all body h.1 g.1)
    both (Else body) h g = both_all body h g
    both (While test body) h g = (both test h.0 g.0, both_all body h.1 g.1)
    both (For start test step body) h g = (both start h.0 g.0, both test h.1 g.1, both step h.2 g.2, both_all body h.3 g.3)
    both (Print place format args) h g = (both place h.0 g.0, both_all args h.1 g.1)
    both (Switch value cases) h g = (both value h.0 g.0, both_all cases h.1 g.1)
    both (Case value body) h g = (both value h.0 g.0, both_all body h.1 g.1)
    both (Default body) h g = both_all body h g
    both (OperationRegion at name space args) h g = both_all args h g
    both (BankField here from region to bank value flags items) h g = both value h g
    both (CreateField form args at name) h g = both_all args h g
    both _ h g = tt

    pub both_all : (ts : Trees) → UseShown IsBody all ts → UseShown AnyBody shown ts → UseShown IsBody shown ts
    both_all no_trees h g = tt
    both_all (tree t ts) h g = (both t h.0 g.0, both_all ts h.1 g.1)
