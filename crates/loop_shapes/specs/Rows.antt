-- A method with a Switch that has a Case, a Case of several values, and a Default.
use Rattle.std.specs.Prelude.{[], ◌∷◌}
use Rattle.acpi_state.specs.Forms.{ArgSlot}
use Rattle.asl_tree.specs.Tree.{Integer, InSlot, Package, Return, Switch, Case, Default, Break, Trees}
use Rattle.hidden_locals.specs.Rows.{terms}

-- Switch (Arg0) { Case (1) { Return (10) } Case (Package () { 2, 3 }) { Break } Default { Return (20) } }
abbrev pub choice : Trees
choice =
    terms
    (Switch (InSlot (ArgSlot 0))
    (terms (Case (Integer 1) (terms (Return (Integer 10) ∷ [])) ∷ Case (Package 2 (terms (Integer 2 ∷ Integer 3 ∷ [])))
    (terms (Break ∷ [])) ∷ Default (terms (Return (Integer 20) ∷ [])) ∷ [])) ∷ [])
