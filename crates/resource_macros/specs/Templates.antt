-- Lists of descriptors.
use Rattle.std.specs.Prelude.{◌≡◌, ℕ, ◌+◌, ◌*◌, Bool, cond, List, [], ◌∷◌, ◌++◌, length, take, drop, slice_get, codes, Some, None, Ok, Err}
use Rattle.std.specs.declared.option.Option.{Option}
use Rattle.std.specs.declared.result.Result.{Result}
use Rattle.std.specs.Str.{bytes_eq}
use Rattle.std.specs.Int.{from_le_bytes, w32}
use Rattle.iasl_messages.specs.declared.place.Place.{Place}
use Rattle.iasl_messages.specs.declared.message.Message.{Message}
use Rattle.iasl_messages.specs.declared.message.Stage.{Stage}
use Rattle.iasl_messages.specs.declared.message.Stage.TheVariants as stage
use Rattle.resource_layout.specs.declared.descriptor.Descriptor.{Descriptor}
use Rattle.resource_layout.specs.declared.descriptor.Giver.{Giver}
use Rattle.resource_layout.specs.declared.descriptor.Giver.TheVariants as g
use Rattle.resource_layout.specs.declared.descriptor.Body.{Body}
use Rattle.resource_layout.specs.declared.descriptor.Row.{Row}
use Rattle.resource_layout.specs.declared.descriptor.Field.{Field}
use Rattle.resource_layout.specs.Layout.{row_of, fields_of}
use Rattle.resource_macros.specs.declared.node.Node.{Node}
use Rattle.resource_macros.specs.declared.node.Term.{Term}
use Rattle.resource_macros.specs.declared.node.Term as D
use Rattle.resource_macros.specs.declared.output.FieldOffset.{FieldOffset}
use Rattle.resource_macros.specs.Arguments.{answer_of, member_of, has_numbers}
use Rattle.resource_macros.specs.Resources.{bytes_in, length_in, has_room, in_node, name_in, argument_by, is_name}
use Rattle.resource_macros.specs.Reading.{IsResource}

-- A descriptor of a template: its macro with the arguments and the list.
pub record Resource : Type 0 where
  pub place : Place
  pub descriptor : Descriptor
  pub args : List Node
  pub body : List Node

abbrev pub resource : Place → Descriptor → List Node → List Node → Resource
resource place descriptor args body = record { place = place; descriptor = descriptor; args = args; body = body }

unfoldable mutual
  -- A term's descriptor, and those of its list behind it.
  pub resources_in : Place → Term → List Resource
  resources_in place (D.Resource' descriptor shape args shape' body) = resource place descriptor (D.items-the_row-Node _ args)
      (D.items-the_row-Node _ body) ∷ row_resources body
  resources_in place _ = []

  pub row_resources : {m : _} → D.Row_of-Node m → List Resource
  row_resources D.end_of-Node = []
  row_resources (D.more_of-Node place term rest) = resources_in place term ++ row_resources rest

-- the descriptors of a list, each before those of its own list
unfoldable pub resources_of : List Node → List Resource
resources_of [] = []
resources_of (node ∷ nodes) = resources_in node.place node.term ++ resources_of nodes

-- ---- faults

abbrev pub message : ℕ → Place → Message
message number place = record { number = number; place = place; name = [] }

abbrev pub told : Result ℕ ℕ → Place → List Message
told (Ok number) place = []
told (Err fault) place = message fault place ∷ []

abbrev pub told_of : Field → Option Node → List Message
told_of field None = []
told_of field (Some node) = told (answer_of field node.term) node.place

-- the fault of a field's argument
abbrev pub argument_fault : Giver → Field → List Node → List Message
argument_fault (g.Fixed number) field args = []
argument_fault g.Mask field args = []
argument_fault g.Count field args = []
argument_fault g.FirstMember field args = []
argument_fault g.TextPlace field args = []
argument_fault g.TextEnd field args = []
argument_fault _ field args = told_of field (slice_get args field.argument)

abbrev pub argument_faults : List Field → List Node → List Message
argument_faults [] args = []
argument_faults (field ∷ fields) args = argument_fault field.giver field args ++ argument_faults fields args

abbrev pub member_faults : Body → List Node → List Message
member_faults body [] = []
member_faults body (node ∷ nodes) = told (member_of body node.term) node.place ++ member_faults body nodes

abbrev pub list_faults : Body → List Node → List Message
list_faults body nodes = cond (has_numbers body) (member_faults body nodes) []

-- at a descriptor that has too few members, or whose length or count does not fit, out of range (6024)
abbrev pub own_fault : Bool → Place → List Message
own_fault room place = cond room [] (message 6024 place ∷ [])

abbrev pub faults_in : Row → Place → List Node → List Node → List Message
faults_in row place args body = argument_faults (fields_of row.descriptor) args
    ++ (list_faults row.body body ++ own_fault (has_room row args body) place)

-- the faults of a descriptor
abbrev pub faults_of : Resource → List Message
faults_of r = faults_in (row_of r.descriptor) r.place r.args r.body

abbrev pub all_faults : List Resource → List Message
all_faults [] = []
all_faults (r ∷ rs) = faults_of r ++ all_faults rs

-- ---- bytes

-- the bytes of a descriptor
abbrev pub bytes_of : Resource → List ℕ
bytes_of r = bytes_in (row_of r.descriptor) r.args r.body

abbrev pub all_bytes : List Resource → List ℕ
all_bytes [] = []
all_bytes (r ∷ rs) = bytes_of r ++ all_bytes rs

-- ---- names

-- a field of a named descriptor that begins at a byte
abbrev pub offset_of : ℕ → ℕ → Field → FieldOffset
offset_of name start field = record {
  descriptor = name;
  field = from_le_bytes w32 field.name;
  bit = 8 * start + field.at;
  bits =
      field.bits;
}

abbrev pub offsets_in : ℕ → ℕ → List Field → List FieldOffset
offsets_in name start [] = []
offsets_in name start (field ∷ fields) = cond (bytes_eq field.name (codes "    ")) [] (offset_of name start field ∷ [])
    ++ offsets_in name start fields

abbrev pub offsets_by_name : Option ℕ → ℕ → List Field → List FieldOffset
offsets_by_name None start fields = []
offsets_by_name (Some name) start fields = offsets_in name start fields

abbrev pub offsets_in_row : Row → ℕ → List Node → List FieldOffset
offsets_in_row row start args = offsets_by_name (in_node name_in (argument_by is_name (fields_of row.descriptor) args)) start
    (fields_of row.descriptor)

-- the fields of a descriptor that begins at a byte
abbrev pub offsets_of : ℕ → Resource → List FieldOffset
offsets_of start r = offsets_in_row (row_of r.descriptor) start r.args

abbrev pub all_offsets : ℕ → List Resource → List FieldOffset
all_offsets start [] = []
all_offsets start (r ∷ rs) = offsets_of start r ++ all_offsets (start + length (bytes_of r)) rs

-- ---- what bytes say

-- how many bytes a descriptor has
abbrev pub length_of : Resource → ℕ
length_of r = length_in (row_of r.descriptor) r.args r.body

-- bytes are these descriptors, one behind the other, and then 79 00
abbrev pub Describes : List Resource → List ℕ → Type 0
Describes [] bytes = bytes ≡ 0x79 ∷ 0 ∷ []
Describes (r ∷ rs) bytes = IsResource (row_of r.descriptor) r.args r.body (take (length_of r) bytes)
    × Describes rs (drop (length_of r) bytes)

-- ---- the answer

-- why there is no template: for want of memory, or for these faults, which are some
abbrev pub IsRefusal : Stage → List Message → Type 0
IsRefusal stage.Memory faults = Unit {0}
IsRefusal (stage.Refused messages) faults = (messages ≡ faults) × (faults ≡ [] → ⊥)
