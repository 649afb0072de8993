-- Worked programs with their runs nested, computed from the definitions alone.
use Rattle.std.proofs.Common.{◌≡◌, ℕ, refl}
use Rattle.acpi_state.specs.Forms.{LocalSlot}
use Rattle.asl_tree.specs.Tree.{Tree, Integer, InSlot, Return, If, ElseIf, Else, While, Trees, no_trees, tree}
use Rattle.else_runs.specs.Runs.{nested_all}

abbrev local : ℕ → Tree
local n = InSlot (LocalSlot n)

abbrev one : Tree → Trees
one t = tree t no_trees

-- If (Local0) {} ElseIf (Local1) {} ElseIf (Local2) {} Else {Return (1)} Return (2)
branches : nested_all (tree (If (local 0) no_trees) (tree (ElseIf (local 1) no_trees) (tree (ElseIf (local 2) no_trees) (tree (Else (one (Return (Integer 1)))) (one (Return (Integer 2)))))))
    ≡ tree (If (local 0) no_trees) (tree (Else (tree (If (local 1) no_trees) (one (Else (tree (If (local 2) no_trees) (one (Else (one (Return (Integer 1)))))))))) (one (Return (Integer 2))))
branches = refl

-- While (Local0) {If (Local1) {} ElseIf (Local2) {}} If (Local3) {} ElseIf (Local4) {}
lists : nested_all (tree (While (local 0) (tree (If (local 1) no_trees) (one (ElseIf (local 2) no_trees)))) (tree (If (local 3) no_trees) (one (ElseIf (local 4) no_trees))))
    ≡ tree (While (local 0) (tree (If (local 1) no_trees) (one (Else (one (If (local 2) no_trees)))))) (tree (If (local 3) no_trees) (one (Else (one (If (local 4) no_trees)))))
lists = refl
