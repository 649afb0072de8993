-- What stands at the paths of a block (ACPI Specification 6.4, 5.3 and 19.6).
use Rattle.std.specs.Prelude.{ℕ, Bool, false, nat_eq, nat_le, List, [], get_or, slice_get, Option, Some, None, if◌then◌else◌}
use Rattle.std.specs.Option.{option_map}
use Rattle.acpi_values.specs.Paths.{AbsolutePath}
use Rattle.acpi_state.specs.Objects.{Object, DataObject, MethodObject, ContainerObject, MutexObject, EventObject, RegionObject, UnitObject}
use Rattle.acpi_state.specs.Objects.{BufferFieldObject, AliasObject, ExternalObject, ExternalMethod, ExternalData, ExternalOther, OfRoot}
use Rattle.acpi_state.specs.Objects.{Device, ThermalZone, PowerResource, Processor, operand_count, lookup}
use Rattle.acpi_state.specs.Outcomes.{choose}
use Rattle.asl_tree.specs.Names.{absolute}
use Rattle.asl_tree.specs.Tree.{Trees}
use Rattle.asl_meaning.specs.Declarations.{nothing_declared, is_named}
use Rattle.acpi_names.specs.Errors.{Whole, whole_of, final}
use Rattle.acpi_names.specs.Mentions.{block_mentions}
use Rattle.name_entries.specs.Descriptors.{descriptors_among, is_among}
use Rattle.name_entries.specs.Placed.{Places, no_places, placed_all, place_at}
use Rattle.name_entries.specs.declared.kind.ObjectType.{ObjectType}
use Rattle.name_entries.specs.declared.description.Description.{Description}
use Rattle.name_entries.specs.declared.entries.Entry.{Entry}

-- the kinds by the numbers of the object types, from IntObj to BuffFieldObj; any other number says no type
abbrev pub type_kind : ℕ → ObjectType
type_kind type =
    if nat_eq type 1 then ObjectType.Integer
    else if nat_eq type 2 then ObjectType.String
    else if nat_eq type 3 then ObjectType.Buffer
    else if nat_eq type 4 then ObjectType.Package
    else if nat_eq type 5 then ObjectType.FieldUnit
    else if nat_eq type 6 then ObjectType.Device
    else if nat_eq type 7 then ObjectType.Event
    else if nat_eq type 8 then ObjectType.Method
    else if nat_eq type 9 then ObjectType.Mutex
    else if nat_eq type 10 then ObjectType.Region
    else if nat_eq type 11 then ObjectType.PowerResource
    else if nat_eq type 12 then ObjectType.Processor
    else if nat_eq type 13 then ObjectType.ThermalZone
    else if nat_eq type 14 then ObjectType.BufferField
    else ObjectType.Unknown

-- the kind of an object: as it is declared, or as an External says it
abbrev pub object_kind : Object → ObjectType
object_kind DataObject = ObjectType.Data
object_kind (MethodObject flags) = ObjectType.Method
object_kind (ContainerObject OfRoot) = ObjectType.Container
object_kind (ContainerObject Device) = ObjectType.Device
object_kind (ContainerObject ThermalZone) = ObjectType.ThermalZone
object_kind (ContainerObject (PowerResource level order)) = ObjectType.PowerResource
object_kind (ContainerObject (Processor number address size)) = ObjectType.Processor
object_kind (MutexObject level) = ObjectType.Mutex
object_kind EventObject = ObjectType.Event
object_kind (RegionObject space offset length) = ObjectType.Region
object_kind (UnitObject unit) = ObjectType.FieldUnit
object_kind (BufferFieldObject field) = ObjectType.BufferField
object_kind (AliasObject target) = ObjectType.Data
object_kind (ExternalObject (ExternalMethod arity)) = ObjectType.Method
object_kind (ExternalObject (ExternalData type)) = type_kind type
object_kind (ExternalObject (ExternalOther type)) = type_kind type

-- no method takes more arguments than 7; more than 255 count as 255
abbrev pub as_byte : ℕ → ℕ
as_byte count = if nat_le count 255 then count else 255

-- the kind and the number of arguments of what a path ends at; where it ends nowhere, data of any kind and no method
abbrev pub end_kind : Option (AbsolutePath × Object) → ObjectType
end_kind None = ObjectType.Data
end_kind (Some found) = object_kind found.1

abbrev pub end_arity : Option (AbsolutePath × Object) → ℕ
end_arity None = 0
end_arity (Some found) = as_byte (operand_count found.1)

-- whether the node that declares a path last is the name of a descriptor, where these nodes are
abbrev pub is_descriptor : List ℕ → Option ℕ → Bool
is_descriptor descriptors None = false
is_descriptor descriptors (Some node) = is_among descriptors node

-- the same kind, but that of a descriptor where a path ends at one
abbrev pub kind_in : List ℕ → Places → Option (AbsolutePath × Object) → ObjectType
kind_in descriptors places None = ObjectType.Data
kind_in descriptors places (Some found) =
    if is_descriptor descriptors (lookup places.nodes found.0) then ObjectType.Descriptor else object_kind found.1

-- a path that is declared, of another table or of the root: an alias has kind and arity of what it refers to, and its
-- own place
abbrev pub described_by : List ℕ → Whole → Places → AbsolutePath → Option Description
described_by descriptors whole places path =
    if is_named whole.all path then
    Some (record {
      kind = kind_in descriptors places (final whole.known path);
      arity = end_arity (final whole.known path);
      place = place_at places path;
    })
    else None

-- the same in a block
abbrev pub described : Trees → AbsolutePath → Option Description
described program path =
    described_by (descriptors_among program) (whole_of program) (placed_all (block_mentions program [] nothing_declared) no_places) path

-- the entry of a path with its number, of which this is said
abbrev pub entry_as : ℕ → AbsolutePath → Description → Entry
entry_as number path said = record { number = number; path = absolute path; kind = said.kind; arity = said.arity; place = said.place }

abbrev pub entry_said : List AbsolutePath → ℕ → Option Description → Option Entry
entry_said paths number said = option_map (entry_as number (get_or paths number [])) said

-- the entry with a number in a block, where its paths have these numbers: none where there are not that many, and none of
-- a path that is neither declared nor of another table nor of the root
abbrev pub entry_in : Trees → List AbsolutePath → ℕ → Option Entry
entry_in program paths number =
    choose (slice_get paths number) None (λ path. option_map (entry_as number path) (described program path))
