-- The arguments and braces of resource descriptors, as their layouts say (ACPI Specification 6.4, 6.4 and 19.6).
use Rattle.std.specs.Prelude.{ℕ, ◌-◌, ◌^◌, Bool, true, false, List, map, Option, Some, None}
use Rattle.resource_layout.specs.declared.descriptor.Descriptor.{Descriptor}
use Rattle.resource_layout.specs.declared.descriptor.Giver.{Giver}
use Rattle.resource_layout.specs.declared.descriptor.Giver.TheVariants as g
use Rattle.resource_layout.specs.declared.descriptor.Kind.TheVariants as k
use Rattle.resource_layout.specs.declared.descriptor.Field.{Field}
use Rattle.resource_layout.specs.declared.descriptor.Body.{Body as ListBody}
use Rattle.resource_layout.specs.declared.descriptor.Body.TheVariants as b
use Rattle.resource_layout.specs.Fields.{arguments}
use Rattle.resource_layout.specs.Layout.{row_of}
use Rattle.asl_words.specs.declared.operator.Parameter.{Parameter}
use Rattle.asl_words.specs.declared.operator.Slot.{Slot}
use Rattle.asl_words.specs.declared.operator.Slot.TheVariants as slot
use Rattle.asl_words.specs.declared.operator.StringForm.TheVariants as form
use Rattle.asl_words.specs.declared.operator.WordKind.TheVariants as kind
use Rattle.asl_words.specs.declared.operator.Body.{Body}
use Rattle.asl_words.specs.declared.operator.Body.TheVariants as braces

-- the numbers of so many bits
abbrev pub number : ℕ → Slot
number bits = slot.Constant 0 (2 ^ bits - 1)

-- how an argument is read that gives so many bits
abbrev pub given_slot : Giver → ℕ → Slot
given_slot (g.Between first last) bits = slot.Constant first last
given_slot (g.Word which) bits = slot.Word (kind.Resource which)
given_slot (g.WordBelow which limit) bits = slot.WordBelow which limit
given_slot (g.WordOrNumber k.Space) bits = slot.RegisterSpace
given_slot (g.WordOrNumber which) bits = slot.WordOrByte which
given_slot g.Name bits = slot.DescriptorName
given_slot g.Index bits = number 8
given_slot g.Source bits = slot.String form.Any
given_slot g.Text bits = slot.String form.Any
given_slot g.Vacant bits = slot.Vacant
given_slot _ bits = number bits

-- one that has a value where it is left out may be left out
abbrev pub has_default : Option ℕ → Bool
has_default None = false
has_default (Some value) = true

abbrev pub given_parameter : Field → Parameter
given_parameter field = record { slot = given_slot field.giver field.bits; omittable = has_default field.default; further = false }

-- the arguments of a descriptor
unfoldable pub descriptor_parameters : Descriptor → List Parameter
descriptor_parameters descriptor = map given_parameter (arguments descriptor)

-- what stands in braces: places of bits, numbers, or descriptors
abbrev pub list_body : ListBody → Body
list_body b.Nothing = braces.No
list_body (b.Bits bits) = braces.Numbers (bits - 1)
list_body (b.Numbers bits least most) = braces.Numbers (2 ^ bits - 1)
list_body b.Descriptors = braces.Descriptors true

unfoldable pub descriptor_body : Descriptor → Body
descriptor_body descriptor = list_body (row_of descriptor).body
