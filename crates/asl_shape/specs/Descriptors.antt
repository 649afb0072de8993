-- The bytes of a resource descriptor by what its arguments and its list come to, and the descriptors in them that have names.
use Rattle.std.specs.Prelude.{ℕ, ◌+◌, Bool, true, false, if◌then◌else◌, List, [], ◌∷◌, ◌++◌, length, map, Option, Some, None}
use Rattle.acpi_values.specs.Paths.{NameSeg}
use Rattle.asl_tree.specs.Names.{single_segment}
use Rattle.asl_tree.specs.declared.term.NamedDescriptor.{NamedDescriptor}
use Rattle.iasl_messages.specs.declared.place.Place.{Place}
use Rattle.resource_layout.specs.declared.descriptor.Descriptor.{Descriptor}
use Rattle.resource_layout.specs.declared.descriptor.Giver.{Giver}
use Rattle.resource_layout.specs.declared.descriptor.Giver.TheVariants as g
use Rattle.resource_layout.specs.declared.descriptor.Field.{Field}
use Rattle.resource_layout.specs.Layout.{row_of, fields_of}
use Rattle.resource_macros.specs.declared.node.Node.{Node}
use Rattle.resource_macros.specs.declared.node.Term.{Term}
use Rattle.resource_macros.specs.declared.node.Term as R
use Rattle.resource_macros.specs.Resources.{bytes_in, has_room}
use Rattle.term_plans.specs.Plans.{Plan, an_integer, a_text, a_fill, a_name, Plans, no_plans, plan, number_of}
use Rattle.term_plans.specs.Plans.{fill_of, named_of}

abbrev pub node : Place → Term → Node
node place term = record { place = place; term = term }

-- a number, which stands for a word where a field is given by words
abbrev pub number_term : Giver → ℕ → Term
number_term (g.Word kind) number = R.Word (record { kind = kind; number = number })
number_term (g.WordBelow kind limit) number = R.Word (record { kind = kind; number = number })
number_term _ number = R.Integer number

-- an argument; one that is refused counts as left out
abbrev pub argument_term : Giver → Plan → Term
argument_term giver (an_integer number) = number_term giver number
argument_term giver (a_text bytes) = R.Text bytes
argument_term giver _ = R.Omitted

-- the arguments, each by the field that it gives
abbrev pub argument_nodes : List Field → Plans → List Node
argument_nodes [] ps = []
argument_nodes (field ∷ fields) no_plans = []
argument_nodes (field ∷ fields) (plan place p ps) = node place (argument_term field.giver p) ∷ argument_nodes fields ps

abbrev pub descriptor_arguments : Descriptor → Plans → List Node
descriptor_arguments d ps = argument_nodes (fields_of d) ps

-- the numbers of a list; one that is refused counts as 0
abbrev pub member_nodes : Plans → List Node
member_nodes no_plans = []
member_nodes (plan place p ps) = node place (R.Integer (number_of p)) ∷ member_nodes ps

-- whether a descriptor has room for its arguments and its list
abbrev pub is_roomy : Descriptor → Plans → Plans → Bool
is_roomy d args body = has_room (row_of d) (descriptor_arguments d args) (member_nodes body)

-- its own bytes
abbrev pub own_bytes : Descriptor → Plans → Plans → List ℕ
own_bytes d args body = bytes_in (row_of d) (descriptor_arguments d args) (member_nodes body)

-- the bytes of descriptors, one behind the other
abbrev pub fills_of : Plans → List ℕ
fills_of no_plans = []
fills_of (plan place p ps) = fill_of p ++ fills_of ps

-- ---- the descriptors that have names

abbrev pub is_name : Giver → Bool
is_name g.Name = true
is_name _ = false

-- the segment that a name is
abbrev pub segment_of : Plan → Option NameSeg
segment_of (a_name path) = single_segment path
segment_of _ = None

-- a descriptor that has a name, at the begin of its bytes
abbrev pub named_as : Descriptor → Place → Option NameSeg → List NamedDescriptor
named_as d place None = []
named_as d place (Some segment) = record { name = segment; place = place; descriptor = d; at = 0 } ∷ []

-- the name that its arguments give it, if they do
abbrev pub own_name : Descriptor → List Field → Plans → List NamedDescriptor
own_name d [] ps = []
own_name d (field ∷ fields) no_plans = []
own_name d (field ∷ fields) (plan place p ps) = if is_name field.giver then named_as d place (segment_of p) else own_name d fields ps

-- so many bytes further behind
abbrev pub moved : ℕ → NamedDescriptor → NamedDescriptor
moved n named = record named { at = named.at + n }

-- those of descriptors one behind the other, with so many bytes before the first
abbrev pub names_from : ℕ → Plans → List NamedDescriptor
names_from n no_plans = []
names_from n (plan place p ps) = map (moved n) (named_of p) ++ names_from (n + length (fill_of p)) ps

-- what a descriptor stands as: its own bytes, and behind them those of the descriptors in its list
abbrev pub described : Descriptor → Plans → Plans → Plan
described d args body =
    a_fill (own_bytes d args body ++ fills_of body) (own_name d (fields_of d) args ++ names_from (length (own_bytes d args body)) body)
