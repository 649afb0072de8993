-- How the units of a field's list are accessed and what they are connected to, and the faults of this (ACPI Specification 6.4,
-- 5.5.2.4.6, 19.6.1 and 19.6.15).
use Rattle.std.specs.Prelude.{◌≡◌, ℕ, suc, nat_eq, ◌||◌, ◌&&◌, Bool, true, false, if◌then◌else◌, List, [], ◌∷◌, ◌++◌, Option, Some, None}
use Rattle.acpi_state.specs.Outcomes.{choose}
pub use Rattle.acpi_state.specs.Access.{is_buffer_space}
use Rattle.field_layout.specs.declared.segments.SerialItem.{SerialItem}
use Rattle.field_layout.specs.declared.segments.SerialItem.TheVariants as Item
use Rattle.field_layout.specs.declared.segments.Segment.{Segment}
use Rattle.field_layout.specs.declared.segments.Said.{Said}
use Rattle.field_layout.specs.declared.segments.SegmentStop.{SegmentStop}
use Rattle.field_layout.specs.declared.segments.SegmentStop.TheVariants as Stop

-- at the begin of a list, whose field has this access
abbrev pub first_said : ℕ → Said
first_said access = record { access = access; attribute = 0; length = 0; connection = None }

-- the last AccessAs and the last Connection count
abbrev pub said_behind : Said → SerialItem → Said
said_behind said (Item.AccessAs access attribute length) =
    record { access = access; attribute = attribute; length = length; connection = said.connection }
said_behind said (Item.Connection element) = record {
  access = said.access;
  attribute = said.attribute;
  length = said.length;
  connection =
      Some element;
}
said_behind said item = said

-- the unit that an item is, if it is one
abbrev pub segments_of : Said → ℕ → SerialItem → List Segment
segments_of said place (Item.Unit name bits) =
    record { unit = place; access = said.access; attribute = said.attribute; length = said.length; connection = said.connection } ∷ []
segments_of said place item = []

abbrev pub segments_from : Said → ℕ → List SerialItem → List Segment
segments_from said place [] = []
segments_from said place (item ∷ items) = segments_of said place item ++ segments_from (said_behind said item) (suc place) items

-- GeneralPurposeIO and GenericSerialBus
abbrev pub needs_connection : ℕ → Bool
needs_connection space = nat_eq space 8 || nat_eq space 9

abbrev pub is_absent : Option ℕ → Bool
is_absent None = true
is_absent (Some element) = false

abbrev pub connection_fault : ℕ → Said → Option ℕ
connection_fault space said = if needs_connection space && is_absent said.connection then Some 6075 else None

-- what is wrong with a unit
abbrev pub unit_fault : ℕ → Said → Option ℕ
unit_fault space said =
    if is_buffer_space space then (if nat_eq said.access 5 then connection_fault space said else Some 6073)
    else if nat_eq said.access 5 then Some 6074
    else connection_fault space said

abbrev pub item_fault : ℕ → Said → SerialItem → Option ℕ
item_fault space said (Item.Unit name bits) = unit_fault space said
item_fault space said item = None

-- the first unit that has a fault, and the fault
abbrev pub first_fault : ℕ → Said → ℕ → List SerialItem → Option (ℕ × ℕ)
first_fault space said place [] = None
first_fault space said place (item ∷ items) =
    choose (item_fault space said item) (first_fault space (said_behind said item) (suc place) items) (λ number. Some (place, number))

-- want of memory tells no fault
abbrev pub TellsFault : SegmentStop → Option (ℕ × ℕ) → Type 0
TellsFault (Stop.Fault item number) found = found ≡ Some (item, number)
TellsFault Stop.Memory found = Unit {0}
