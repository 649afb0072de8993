-- How the units of a field are accessed, and what they are connected to, by the space of its region.
use Rattle.std.specs.Prelude.{ℕ, ◌%◌, List, [], ◌∷◌, Option, Some, None}
use Rattle.acpi_state.specs.Outcomes.{choose}
use Rattle.iasl_messages.specs.declared.message.Message.{Message}
use Rattle.term_plans.specs.Plans.{Plan, a_unit, a_skip, an_offset, an_access, a_name, a_fill, Plans, no_plans, plan, plan_at, number_of}
use Rattle.term_plans.specs.Places.{fault_at}
use Rattle.field_layout.specs.declared.segments.SerialItem.{SerialItem}
use Rattle.field_layout.specs.declared.segments.SerialItem.TheVariants as Item
use Rattle.field_layout.specs.declared.segments.Said.{Said}
use Rattle.field_layout.specs.Segments.{first_said, said_behind, item_fault}
use Rattle.field_checks.specs.declared.units.UnitFault.{UnitFault}

-- the item of a list that a term is, of which no name counts here; what is none counts as a gap of no bits
abbrev pub serial_item : Plan → SerialItem
serial_item (a_unit segment bits) = Item.Unit 0 bits
serial_item (a_skip bits) = Item.Skip bits
serial_item (an_offset bytes) = Item.Offset bytes
serial_item (an_access access attribute count) = Item.AccessAs access attribute (choose count 0 (λ n. n))
serial_item (a_name name) = Item.Connection 0
serial_item (a_fill bytes named) = Item.Connection 0
serial_item _ = Item.Skip 0

-- the first unit of a list that has a fault in a region of this space, where so much is said of it before
abbrev pub unit_fault : ℕ → Said → Plans → Option UnitFault
unit_fault space said no_plans = None
unit_fault space said (plan place p ps) =
    choose (item_fault space said (serial_item p)) (unit_fault space (said_behind said (serial_item p)) ps)
    (λ number. Some (record { place = place; number = number }))

abbrev pub unit_told : Option UnitFault → List Message
unit_told None = []
unit_told (Some fault) = fault_at fault.number fault.place ∷ []

-- the units of an IndexField lie in no region, and none is moved as a Buffer; its flags are its third argument
abbrev pub index_fault : Plans → Plans → Option UnitFault
index_fault args body = unit_fault 0 (first_said (number_of (plan_at args 2) % 16)) body
