-- How the nodes of a For's body and the copies of its step get their numbers, one after another.
use Rattle.std.specs.Prelude.{◌≡◌, ℕ, Bool, true, List, [], ◌∷◌, ◌++◌}
use Rattle.asl_prints.specs.Numbers.{Mark, Own, Step, numbered, next_behind, steps_kept}
use Rattle.asl_formats.specs.declared.steps.Copies.{Copies}

-- whether the step stands behind some nodes
abbrev pub stands_behind : Bool → List Mark → Bool
stands_behind again [] = again
stands_behind again (Own id ∷ marks) = stands_behind again marks
stands_behind again (Step ∷ marks) = stands_behind true marks

-- nodes behind others, by their numbers, where the step has numbers of its own but where it first stands
abbrev pub Advances : List ℕ → (old new : Copies) → List Mark → (before after : List ℕ) → Type 0
Advances step old new marks before after =
    (after ≡ before ++ numbered old.next (steps_kept step old.again marks))
    × ((new.next ≡ next_behind old.next (steps_kept step old.again marks)) × (new.again ≡ stands_behind old.again marks))
