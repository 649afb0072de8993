-- A method with a For whose Continue leaves a Switch, and with a Printf.
use Rattle.std.specs.Prelude.{false, [], ◌∷◌}
use Rattle.acpi_values.specs.declared.operator.IntOp.TheVariants as IntOp
use Rattle.acpi_values.specs.declared.operator.DataOp.TheVariants as DataOp
use Rattle.acpi_values.specs.declared.operator.Plain.{Plain}
use Rattle.acpi_state.specs.Forms.{LocalSlot}
use Rattle.asl_tree.specs.Tree.{At, Tree, Integer, InSlot, Debug, Method, For, Print, Switch, Case, Continue, Operated, Assigned, Trees}
use Rattle.hidden_locals.specs.Rows.{terms}

abbrev here : At
here = record { id = 0; place = record { file = 0; line = 0; column = 0 } }

abbrev local : Tree
local = InSlot (LocalSlot 0)

abbrev below_two : Tree
below_two = Operated (Plain.Number IntOp.LLess) (terms (local ∷ Integer 2 ∷ []))

abbrev one_more : Tree
one_more = Operated (Plain.Data DataOp.Increment) (terms (local ∷ []))

-- Method (F) { For (Local0 = 0, Local0 < 2, Local0++) { Switch (Local0) { Case (1) { Continue } } Printf ("%o", Local0) } }
abbrev pub counting : Trees
counting =
    terms (Method here (record { root = false; up = 0; segs = (0x46 ∷ 0x5F ∷ 0x5F ∷ 0x5F ∷ []) ∷ [] }) 0
    (terms (For (Assigned local (Integer 0)) below_two one_more
    (terms (Switch local (terms (Case (Integer 1) (terms (Continue ∷ [])) ∷ [])) ∷ Print Debug (0x25 ∷ 0x6F ∷ []) (terms (local ∷ [])) ∷
    [])) ∷ [])) ∷ [])
