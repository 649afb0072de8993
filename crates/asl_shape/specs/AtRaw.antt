-- The same of the tree of the syntax itself.
use Rattle.std.specs.Prelude.{◌≡◌, ℕ, Bool, false, List, [], Option, Some, None}
use Rattle.iasl_messages.specs.declared.place.Place.{Place}
use Rattle.iasl_messages.specs.declared.message.Message.{Message}
use Rattle.iasl_messages.specs.declared.message.Stage.{Stage}
use Rattle.iasl_messages.specs.declared.message.Stage.TheVariants as stage
use Rattle.asl_syntax.specs.declared.raw.Raw.{Raw}
use Rattle.asl_shape.specs.declared.around.Around.{Around}
use Rattle.term_plans.specs.Plans.{Plan, omitted, Plans, no_plans, plan}
use Rattle.asl_tree.specs.declared.term.Op.{Op}
use Rattle.asl_words.specs.declared.operator.Parameter.{Parameter}
use Rattle.asl_words.specs.declared.operator.Slot.{Slot}
use Rattle.asl_words.specs.declared.operator.Slot.TheVariants as slot
use Rattle.asl_words.specs.declared.operator.Body.{Body}
use Rattle.asl_words.specs.declared.operator.Body.TheVariants as braces
use Rattle.resource_layout.specs.declared.descriptor.Descriptor.{Descriptor}
use Rattle.asl_words.specs.declared.operator.FieldWord.{FieldWord}
use Rattle.asl_words.specs.declared.operator.TextMacro.{TextMacro}
use Rattle.word_meanings.specs.declared.meaning.Meaning.{Meaning}
use Rattle.word_meanings.specs.declared.meaning.Reading.{Reading}
use Rattle.asl_shape.specs.declared.fields.Due.{Due}
use Rattle.asl_shape.specs.declared.fields.UnitName.{UnitName}
use Rattle.asl_syntax.specs.Written.{written, writtens, written_in}
use Rattle.asl_terms.specs.Terms.{missing, Shaped, fine}
use Rattle.asl_shape.specs.Shapes.{takes, none_empty, has_arguments, is_comma, due_after, is_text, bare, run_after}
use Rattle.asl_shape.specs.Shapes.{is_call, is_separator, is_listed, is_list_end, is_number_list, byte_slot, skipped, joined, operands, call_args, arguments}
use Rattle.term_plans.specs.Places.{nowhere}
use Rattle.asl_terms.specs.Terms.{checked}
use Rattle.asl_shape.specs.Shapes.{arguments_in, contents, members, terms, read_shape, form_shape, within, item_shape, meaning_in}
use Rattle.asl_shape.specs.Shapes.{goes_on, is_field_list, field_slot, unit_behind, field_part, due_behind, element_shape, first_place}
use Rattle.asl_shape.specs.Shapes.{inner_place, element_place, macro_shape, template_shape, descriptor_shape, elements, begin, cases}
use Rattle.asl_shape.specs.Shapes.{default_after}
use Rattle.asl_terms.specs.AtRaw.{inside_at, place_at, is_some}
use Rattle.word_meanings.specs.Meanings.{item_fault, meaning_of, reading_of, slot_as, is_whole}
use Rattle.asl_words.specs.Operators.{parameters_as, body_as, element_parameters, macro_parameters}
use Rattle.asl_words.specs.Resources.{descriptor_parameters, descriptor_body}

unfoldable pub takes_at : List Parameter → List Raw → Bool
takes_at qs raws = takes qs (writtens raws)

unfoldable pub none_empty_at : List Raw → Bool
none_empty_at raws = none_empty (writtens raws)

unfoldable pub is_call_at : List Raw → Bool
is_call_at raws = is_call (writtens raws)

unfoldable pub has_arguments_at : Meaning → List Raw → Bool
has_arguments_at meaning raws = has_arguments meaning (writtens raws)

unfoldable pub bare_at : Slot → Around → Raw → Shaped Plan
bare_at s inside raw = bare s inside (written raw)

-- a part of a source where it is read so
abbrev pub shape_at : Slot → Around → Raw → Shaped Plan
shape_at s inside raw = checked inside.width s (place_at nowhere raw) (bare_at s inside raw)

unfoldable pub is_separator_at : Raw → Bool
is_separator_at raw = is_separator (written raw)

unfoldable pub run_after_at : Option ℕ → Raw → Option ℕ
run_after_at run raw = run_after run (written raw)

unfoldable pub operands_at : Slot → Around → List Raw → Shaped Plans
operands_at s inside raws = operands s inside (writtens raws)

unfoldable pub call_at : Around → Option (List Raw) → Shaped Plans
call_at inside raws = call_args inside (written_in raws)

unfoldable pub arguments_at : List Parameter → Place → Around → Option (List Raw) → Shaped Plans
arguments_at qs place inside raws = arguments qs place inside (written_in raws)

unfoldable pub arguments_in_at : List Parameter → Place → Around → List Raw → Shaped Plans
arguments_in_at qs place inside raws = arguments_in qs place inside (writtens raws)

unfoldable pub is_number_list_at : Body → Option (List Raw) → Bool
is_number_list_at b raws = is_number_list b (written_in raws)

unfoldable pub contents_at : Body → Around → Place → Option (List Raw) → Shaped Plans
contents_at b inside place raws = contents b inside place (written_in raws)

unfoldable pub members_at : Slot → Around → List Raw → Shaped Plans
members_at s inside raws = members s inside (writtens raws)

unfoldable pub terms_at : Around → Option ℕ → List Raw → Shaped Plans
terms_at inside run raws = terms inside run (writtens raws)

unfoldable pub cases_at : Around → Bool → List Raw → Shaped Plans
cases_at inside defaulted raws = cases inside defaulted (writtens raws)

unfoldable pub default_after_at : Bool → Raw → Bool
default_after_at before raw = default_after before (written raw)

-- a form with its arguments and its braces, read so
unfoldable pub form_at : Slot → Op → Place → Around → Option (List Raw) → Option (List Raw) → Shaped Plan
form_at s o place inside args body = form_shape inside.width o place (arguments_at (parameters_as o s) place inside args)
    (contents_at (body_as o s) (within o inside) place body)

-- a word of a field's list with its arguments
unfoldable pub element_at : FieldWord → Place → Around → Option (List Raw) → Shaped Plan
element_at e place inside args = element_shape e (arguments_at (element_parameters e) place inside args)

-- a macro with its string
unfoldable pub macro_at : TextMacro → Place → Around → Option (List Raw) → Shaped Plan
macro_at m place inside args = macro_shape (arguments_at (macro_parameters m) place inside args)

-- a template with its descriptors
unfoldable pub template_at : Place → Around → Option (List Raw) → Shaped Plan
template_at place inside body = template_shape place (contents_at (braces.Descriptors false) inside place body)

-- a descriptor with its arguments and its braces
unfoldable pub descriptor_at : Descriptor → Place → Around → Option (List Raw) → Option (List Raw) → Shaped Plan
descriptor_at d place inside args body = descriptor_shape d place (is_number_list_at (descriptor_body d) body)
    (arguments_at (descriptor_parameters d) place inside args) (contents_at (descriptor_body d) inside place body)

-- an item as it is read
unfoldable pub read_at : Slot → Place → List ℕ → Reading → Around → Option (List Raw) → Option (List Raw) → Shaped Plan
read_at s place w reading inside args body = read_shape s place w reading (call_at inside args) (λ e. element_at e place inside args)
    (λ m. macro_at m place inside args) (template_at place inside body) (λ d. descriptor_at d place inside args body)
    (λ o. form_at s o place inside args body)

abbrev pub one_at : Place → Raw → Plan → Plans
one_at place raw p = plan (place_at place raw) p no_plans

unfoldable pub is_comma_at : Raw → Bool
is_comma_at raw = is_comma (written raw)

unfoldable pub is_listed_at : Bool → List Raw → Bool
is_listed_at due raws = is_listed due (writtens raws)

unfoldable pub is_list_end_at : List Raw → Bool
is_list_end_at raws = is_list_end (writtens raws)

unfoldable pub byte_slot_at : List Raw → Slot
byte_slot_at raws = byte_slot (writtens raws)

-- an item
unfoldable pub item_at : Slot → Around → Place → List ℕ → Option (List Raw) → Option (List Raw) → Shaped Plan
item_at s inside place w args body =
    item_shape place
    (item_fault s inside.method (meaning_of w (is_some body)) (has_arguments_at (meaning_of w (is_some body)) (inside_at args))
    (is_some body))
    (read_at s place w (reading_of s (meaning_of w (is_some body)) (is_some args)) inside args body)

unfoldable pub is_text_at : Raw → Bool
is_text_at raw = is_text (written raw)

unfoldable pub due_at : Bool → Raw → Option Bool
due_at due raw = due_after due (written raw)

-- a member of a list alone
unfoldable pub member_at : Slot → Around → Raw → Shaped Plans
member_at s inside raw = skipped (is_separator_at raw) (place_at nowhere raw) (shape_at s inside raw) (fine no_plans)

-- what the word of a part is
unfoldable pub meaning_at : Raw → Meaning
meaning_at raw = meaning_in (written raw)

-- an argument alone: one that is given, or one that is left out
unfoldable pub argument_at : Parameter → Place → Around → Option Raw → Shaped Plans
argument_at q place inside None = fine (missing place q)
argument_at q place inside (Some raw) = joined (place_at place raw) (shape_at (slot_as q.slot (meaning_at raw)) inside raw) (fine no_plans)

-- a refusal tells exactly these errors, at least one
abbrev pub Refuses : Stage → List Message → Type 0
Refuses (stage.Refused messages) errors = (messages ≡ errors) × (errors ≡ [] → ⊥)
Refuses stage.Memory errors = Unit {0}

-- ---- the list of a field

unfoldable pub goes_on_at : Due → Raw → Option Due
goes_on_at due raw = goes_on due (written raw)

unfoldable pub due_behind_at : Due → Raw → Due
due_behind_at due raw = due_behind due (written raw)

unfoldable pub is_field_list_at : Due → List Raw → Bool
is_field_list_at due raws = is_field_list due (writtens raws)

unfoldable pub elements_at : Due → Option UnitName → Around → List Raw → Shaped Plans
elements_at due unit inside raws = elements due unit inside (writtens raws)

unfoldable pub first_place_at : Place → List Raw → Place
first_place_at place raws = first_place place (writtens raws)

unfoldable pub inner_place_at : Place → Raw → Place
inner_place_at place raw = inner_place place (written raw)

unfoldable pub element_place_at : Raw → Place
element_place_at raw = element_place (written raw)

-- what a member comes to where this is due
unfoldable pub part_at : Due → Option UnitName → Around → Raw → Shaped Plans
part_at due unit inside raw = field_part due unit (element_place_at raw) (is_whole (meaning_at raw)) (is_separator_at raw)
    (shape_at (field_slot due (meaning_at raw)) inside raw)

-- the unit of which the number of bits is to come behind it
unfoldable pub unit_at : Due → Option UnitName → Around → Raw → Option UnitName
unit_at due unit inside raw = unit_behind due unit (element_place_at raw) (is_whole (meaning_at raw)) (is_separator_at raw)
    (shape_at (field_slot due (meaning_at raw)) inside raw).made

unfoldable pub begin_at : Around → Raw → Shaped Plans
begin_at inside raw =
    field_part begin None (element_place_at raw) (is_whole (meaning_at raw)) (is_separator_at raw)
    (shape_at (slot_as slot.FieldElement (meaning_at raw)) inside raw)

unfoldable pub comma_at : Option UnitName → Raw → Shaped Plans
comma_at unit raw = field_part Due.NameComma unit (element_place_at raw) (is_whole (meaning_at raw)) (is_separator_at raw) (fine omitted)

unfoldable pub bits_at : Option UnitName → Around → Raw → Shaped Plans
bits_at unit inside raw = field_part Due.Bits unit (element_place_at raw) (is_whole (meaning_at raw)) (is_separator_at raw)
    (shape_at slot.Measure inside raw)
