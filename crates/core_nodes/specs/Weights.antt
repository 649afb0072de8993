-- What of terms their core has in any case: how many names, Locals, Args and Debug objects stand in the expressions of their lists,
-- tests aside. An integer weighs what the caller says: nothing, where constants are folded.
use Rattle.std.specs.Prelude.{ℕ, suc, ◌+◌, Bool, if◌then◌else◌}
use Rattle.asl_tree.specs.Tree.{Tree, Integer, InSlot, Debug, Raw, Use, Call, Apply, Operated, Assigned, AssignedBy, Method, Container'}
use Rattle.asl_tree.specs.Tree.{Scope, If, ElseIf, Else, While, For, Switch, Case, Default, Continue, Trees, no_trees, tree}

-- an integer, where constants are folded or not
abbrev pub integer_weight : (fold : Bool) → ℕ
integer_weight fold = if fold then 0 else 1

module _ (integer : ℕ) where
  abbrev mutual
    -- an expression
    pub leaves : Tree → ℕ
    leaves (Integer number) = integer
    leaves (Raw size number) = integer
    leaves (InSlot slot) = 1
    leaves Debug = 1
    leaves (Use at name) = 1
    leaves (Call at name args) = suc (leaves_in args)
    leaves (Apply op args targets) = leaves_in args + leaves_in targets
    leaves (Operated op args) = leaves_in args
    leaves (Assigned target value) = leaves target + leaves value
    leaves (AssignedBy op target value) = leaves target + leaves value
    leaves _ = 0

    pub leaves_in : Trees → ℕ
    leaves_in no_trees = 0
    leaves_in (tree term terms) = leaves term + leaves_in terms

  abbrev mutual
    -- a term of a list
    pub weight : Tree → ℕ
    weight (Method at name flags body) = weights body
    weight (Container' kind at name body) = weights body
    weight (Scope here at name body) = weights body
    weight (If test body) = weights body
    weight (ElseIf test body) = weights body
    weight (Else body) = weights body
    weight (While test body) = weights body
    weight (Switch value cases) = case_weights cases + default_weight cases
    weight term = leaves term

    pub weights : Trees → ℕ
    weights no_trees = 0
    weights (tree term terms) = weight term + weights terms

    -- the Cases of a Switch
    pub case_weights : Trees → ℕ
    case_weights no_trees = 0
    case_weights (tree (Case value body) cases) = weights body + case_weights cases
    case_weights (tree term cases) = case_weights cases

    -- its Default, the first one
    pub default_weight : Trees → ℕ
    default_weight no_trees = 0
    default_weight (tree (Default body) cases) = weights body
    default_weight (tree term cases) = default_weight cases

  abbrev mutual
    -- the copies of the steps of Fors, which stand before their Continues: before one that belongs to the For around a term stands
    -- what weighs `step`
    pub copied : (step : ℕ) → Tree → ℕ
    copied step Continue = step
    copied step (For start test turn body) = copied_in (leaves turn) body
    copied step (If test body) = copied_in step body
    copied step (ElseIf test body) = copied_in step body
    copied step (Else body) = copied_in step body
    copied step (While test body) = copied_in 0 body
    copied step (Method at name flags body) = copied_in 0 body
    copied step (Container' kind at name body) = copied_in 0 body
    copied step (Scope here at name body) = copied_in 0 body
    copied step (Switch value cases) = copied_cases step cases + copied_default step cases
    copied step term = 0

    pub copied_in : (step : ℕ) → Trees → ℕ
    copied_in step no_trees = 0
    copied_in step (tree term terms) = copied step term + copied_in step terms

    pub copied_cases : (step : ℕ) → Trees → ℕ
    copied_cases step no_trees = 0
    copied_cases step (tree (Case value body) cases) = copied_in step body + copied_cases step cases
    copied_cases step (tree term cases) = copied_cases step cases

    pub copied_default : (step : ℕ) → Trees → ℕ
    copied_default step no_trees = 0
    copied_default step (tree (Default body) cases) = copied_in step body
    copied_default step (tree term cases) = copied_default step cases
