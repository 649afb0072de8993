-- The kinds of what one walk looks for, together.
use Rattle.std.specs.Prelude.{Bool, false}
use Rattle.asl_tree.specs.declared.term.Op.{Op}
use Rattle.term_plans.specs.Plans.{Plan, Plans}
use Rattle.descriptor_fields.specs.Declaring.{names_descriptor, names_descriptors}
use Rattle.form_presence.specs.declared.present.Presence.{Presence}
use Rattle.form_presence.specs.Present.{is_switch, is_field, is_list, is_form, has_op, have_op}

pub data FormKind : Type 0 where
  ASwitch : FormKind
  AField : FormKind
  AList : FormKind
  -- a For, or what prints
  ForOrPrint : FormKind
  -- a descriptor that has a name, which is no form
  ADescriptor : FormKind

abbrev pub is_of : FormKind → Op → Bool
is_of ASwitch = is_switch
is_of AField = is_field
is_of AList = is_list
is_of ForOrPrint = is_form
is_of ADescriptor = λ op. false

-- whether one of this kind stands in a term
abbrev pub is_in : FormKind → Plan → Bool
is_in ADescriptor = names_descriptor
is_in kind = has_op (is_of kind)

-- and in terms
abbrev pub are_in : FormKind → Plans → Bool
are_in ADescriptor = names_descriptors
are_in kind = have_op (is_of kind)

-- whether one of this kind is noted
abbrev pub is_seen : FormKind → Presence → Bool
is_seen ASwitch seen = seen.switches
is_seen AField seen = seen.fields
is_seen AList seen = seen.lists
is_seen ForOrPrint seen = seen.forms
is_seen ADescriptor seen = seen.descriptors
