-- The units of a list, one after another.
use Rattle.std.proofs.Common.{◌≡◌, ℕ, suc, ◌+◌, ◌<◌, ◌≤◌, List, Some, None, length, get_or, drop, sym, ap, ◌∙◌, arith, Vec, Global}
use Rattle.acpi_state.specs.Outcomes.{choose}
use Rattle.asl_tree.specs.declared.path.Path.{Path}
use Rattle.asl_tree.specs.declared.term.Op.{Op}
use Rattle.asl_tree.specs.declared.term.Node.{Node}
use Rattle.asl_tree.specs.declared.term.Term as D
use Rattle.term_plans.specs.Plans.{plan_of, plans_of}
use Rattle.term_plans.proofs.Plans.{plan_form, plan_call}
use Rattle.field_layout.specs.declared.segments.SerialItem.{SerialItem}
use Rattle.field_layout.specs.declared.segments.SerialItem.TheVariants as Item
use Rattle.field_layout.specs.declared.segments.Said.{Said}
use Rattle.field_layout.specs.Segments.{said_behind, item_fault}
use Rattle.field_checks.specs.Units.{serial_item, unit_fault}
use Rattle.field_checks.proofs.Walk.{plans_at, no_more}

pub item_form : (o : Op) (args body : Vec Node Global) → serial_item (plan_of (D.Form o args body)) ≡ Item.Skip 0
item_form o args body = ap serial_item (plan_form o args body)

pub item_call : (path : Path) (args : Vec Node Global) → serial_item (plan_of (D.Call path args)) ≡ Item.Skip 0
item_call path args = ap serial_item (plan_call path args)

pub ruleset item_rules = (item_form, item_call)

-- a list goes on, ends, or has a fault
pub next_unit : (space : ℕ) (said next : Said) (nodes : List Node) (i : ℕ) (node : Node) (item : SerialItem) → i < length nodes → node ≡ get_or nodes i node → item ≡ serial_item (plan_of node.term)
    → None ≡ item_fault space said item → next ≡ said_behind said item → unit_fault space next (plans_of (drop (i + 1) nodes)) ≡ unit_fault space said (plans_of (drop i nodes))
next_unit space said next nodes i node item lt e is fine behind =
    let more : i + 1 ≡ suc i = omega arith in
    let rest = plans_of (drop (suc i) nodes) in
    ap (λ k. unit_fault space next (plans_of (drop k nodes))) more
    ∙ ap (λ s. unit_fault space s rest) behind
    ∙ ap (λ o. choose o (unit_fault space (said_behind said item) rest) (λ number. Some (record { place = node.place; number = number }))) fine
    ∙ ap (λ x. choose (item_fault space said x) (unit_fault space (said_behind said x) rest) (λ number. Some (record { place = node.place; number = number }))) is
    ∙ ap (unit_fault space said) (sym (plans_at nodes i node lt e))

pub unit_here : (space : ℕ) (said : Said) (nodes : List Node) (i number : ℕ) (node : Node) (item : SerialItem) → i < length nodes → node ≡ get_or nodes i node → item ≡ serial_item (plan_of node.term)
    → Some number ≡ item_fault space said item → Some (record { place = node.place; number = number }) ≡ unit_fault space said (plans_of (drop i nodes))
unit_here space said nodes i number node item lt e is fault =
    let rest = plans_of (drop (suc i) nodes) in
    ap (λ o. choose o (unit_fault space (said_behind said item) rest) (λ number. Some (record { place = node.place; number = number }))) fault
    ∙ ap (λ x. choose (item_fault space said x) (unit_fault space (said_behind said x) rest) (λ number. Some (record { place = node.place; number = number }))) is
    ∙ ap (unit_fault space said) (sym (plans_at nodes i node lt e))

pub units_end : (space : ℕ) (said : Said) (nodes : List Node) (i : ℕ) → length nodes ≤ i → None ≡ unit_fault space said (plans_of (drop i nodes))
units_end space said nodes i le = ap (unit_fault space said) (sym (no_more nodes i le))
