-- What a source comes to: a program's tree, or the errors in it.
use Rattle.std.specs.Prelude.{ℕ, nat_le, Bool, true, false, not, ◌&&◌, ◌||◌, if◌then◌else◌, List, [], ◌∷◌, ◌++◌, Option, Some, None}
use Rattle.acpi_state.specs.Outcomes.{choose}
use Rattle.iasl_messages.specs.declared.place.Place.{Place}
use Rattle.iasl_messages.specs.declared.message.Message.{Message}
use Rattle.acpi_values.specs.declared.width.Width.{Width}
use Rattle.asl_tree.specs.declared.path.Path.{Path}
use Rattle.asl_tree.specs.Names.{single_segment}
use Rattle.asl_tree.specs.declared.term.Op.{Op}
use Rattle.asl_tree.specs.declared.term.Declaration.{Declaration}
use Rattle.asl_words.specs.declared.operator.Parameter.{Parameter}
use Rattle.asl_words.specs.declared.operator.Slot.{Slot}
use Rattle.asl_words.specs.declared.operator.Slot.TheVariants as slot
use Rattle.asl_words.specs.declared.operator.Body.{Body}
use Rattle.asl_words.specs.declared.operator.Body.TheVariants as braces
use Rattle.asl_words.specs.declared.operator.StringForm.TheVariants as form
use Rattle.asl_words.specs.declared.operator.TextMacro.{TextMacro}
use Rattle.asl_words.specs.declared.operator.Known.{Known}
use Rattle.resource_layout.specs.declared.descriptor.Descriptor.{Descriptor}
use Rattle.word_meanings.specs.declared.meaning.Meaning.{Meaning}
use Rattle.word_meanings.specs.declared.meaning.Meaning.TheVariants as is
use Rattle.word_meanings.specs.declared.meaning.Reading.{Reading}
use Rattle.word_meanings.specs.declared.meaning.Reading.TheVariants as read
use Rattle.asl_shape.specs.declared.around.Around.{Around}
use Rattle.asl_shape.specs.Around.{in_method}
use Rattle.asl_shape.specs.declared.fields.Due.{Due}
use Rattle.asl_shape.specs.declared.fields.UnitName.{UnitName}
use Rattle.asl_syntax.specs.Written as piece
use Rattle.asl_syntax.specs.Written.{Written, Writtens, WrittenGroup, item, apply, listed, comma, semicolon, empty, none, more, absent}
use Rattle.asl_syntax.specs.Written.{given}
use Rattle.asl_words.specs.declared.operator.FieldWord.{FieldWord}
use Rattle.asl_words.specs.Operators.{parameters_of, parameters_as, body_as, role_of, element_parameters, macro_parameters}
use Rattle.asl_words.specs.Resources.{descriptor_parameters, descriptor_body}
use Rattle.word_meanings.specs.Meanings.{meaning_of, may_end, unfit, item_fault, takes_role, reading_of}
use Rattle.word_meanings.specs.Meanings.{run_behind, slot_as, is_default, is_whole, is_connection}
use Rattle.asl_terms.specs.Symbols.{symbol_of}
use Rattle.asl_words.specs.Paths.{path_of}
use Rattle.term_plans.specs.Plans.{Plan, omitted, a_name, a_unit, a_skip, a_call, a_form, Plans, no_plans, plan, join, number_of, plan_at}
use Rattle.asl_terms.specs.Terms.{Shaped, fine, refused, is_given, count, inside_of, checked, number_shape, buffer_plan}
use Rattle.term_plans.specs.Places.{fault_at, nowhere}
use Rattle.asl_terms.specs.Terms.{text_shape, path_shape, known_plan, listed_shape, settled, arranged, format_faults}
use Rattle.term_plans.specs.Plans.{one_plan}
use Rattle.asl_terms.specs.Terms.{element_plan, place_of, missing}
use Rattle.asl_shape.specs.Descriptors.{is_roomy, described, fills_of, names_from}

-- ---- items: what a word is, where it may stand, and what it takes

abbrev pub is_empty : Written → Bool
is_empty empty = true
is_empty _ = false

abbrev pub takes : List Parameter → Writtens → Bool
takes [] none = true
takes [] (more w ws) = false
takes (q ∷ qs) none = may_end (q ∷ qs)
takes (q ∷ qs) (more w ws) = (q.omittable || not (is_empty w)) && takes qs ws

abbrev pub none_empty : Writtens → Bool
none_empty none = true
none_empty (more w ws) = not (is_empty w) && none_empty ws

abbrev pub is_none : Writtens → Bool
is_none none = true
is_none (more w ws) = false

-- a call takes seven arguments at most, and none of them is left out
abbrev pub is_call : Writtens → Bool
is_call ws = nat_le (count ws) 7 && none_empty ws

-- the arguments that a word takes
abbrev pub has_arguments : Meaning → Writtens → Bool
has_arguments (is.Operator o) ws = takes (parameters_of o) ws
has_arguments (is.Known k) ws = is_none ws
has_arguments is.Name ws = is_call ws
has_arguments is.Path ws = is_call ws
has_arguments (is.Element e) ws = takes (element_parameters e) ws
has_arguments (is.Macro m) ws = takes (macro_parameters m) ws
has_arguments is.Template ws = is_none ws
has_arguments (is.Descriptor d) ws = takes (descriptor_parameters d) ws
has_arguments is.Unknown ws = true

-- ---- constants: an argument that has to be one stands as its value

-- what the word of a part is, if it has one
abbrev pub meaning_in : Written → Meaning
meaning_in (item p w args body) = meaning_of w (is_given body)
meaning_in _ = is.Unknown

-- ---- names

abbrev pub call_shape : Place → Option Path → Shaped Plans → Shaped Plan
call_shape place None args = refused 6024 place
call_shape place (Some path) args = record { faults = args.faults; made = a_call path args.made }

-- ---- forms

abbrev pub form_shape : Width → Op → Place → Shaped Plans → Shaped Plans → Shaped Plan
form_shape width o place args body =
    record {
      faults = args.faults ++ format_faults o place args.made ++ body.faults;
      made = a_form o (settled width o place args.made)
          (arranged o body.made);
    }

-- what is written with a symbol, by what its operands come to
abbrev pub symbol_shape : Width → Slot → Place → Op → Shaped Plans → Shaped Plan
symbol_shape width s place o args = if takes_role s (role_of o) then form_shape width o place args (fine no_plans) else
    refused (unfit s) place

-- ---- the words of a field's list

abbrev pub element_shape : FieldWord → Shaped Plans → Shaped Plan
element_shape e args = record { faults = args.faults; made = element_plan e args.made }

-- a macro stands as what its one argument comes to
abbrev pub macro_shape : Shaped Plans → Shaped Plan
macro_shape args = record { faults = args.faults; made = plan_at args.made 0 }

-- a descriptor that has no room for its list, its source or their number is out of range
abbrev pub room_faults : Bool → Place → List Message
room_faults true place = []
room_faults false place = fault_at 6024 place ∷ []

-- a descriptor stands as its bytes, with those of the descriptors in its braces behind them; where what stands in its braces is no list, it
-- is told that alone, and is not asked how long the list is
abbrev pub descriptor_shape : Descriptor → Place → Bool → Shaped Plans → Shaped Plans → Shaped Plan
descriptor_shape d place numbered args body =
    record {
      faults = args.faults ++ body.faults ++ room_faults (not numbered || is_roomy d args.made body.made) place;
      made =
          described d args.made body.made;
    }

-- a template stands as a Buffer of the bytes of its descriptors and the end tag
abbrev pub template_plan : Place → Plans → Plan
template_plan place ps = buffer_plan place (fills_of ps ++ 0x79 ∷ 0 ∷ []) (names_from 0 ps)

abbrev pub template_shape : Place → Shaped Plans → Shaped Plan
template_shape place body = record { faults = body.faults; made = template_plan place body.made }

abbrev pub read_shape : Slot → Place → List ℕ → Reading → Shaped Plans → (FieldWord → Shaped Plan) → (TextMacro → Shaped Plan) → Shaped Plan
    → (Descriptor → Shaped Plan) → (Op → Shaped Plan) → Shaped Plan
read_shape s place text read.Wrong args element expanded template described form = refused (unfit s) place
read_shape s place text read.Path args element expanded template described form = path_shape place (path_of text)
read_shape s place text read.Call args element expanded template described form = call_shape place (path_of text) args
read_shape s place text (read.Element e) args element expanded template described form = element e
read_shape s place text (read.Macro m) args element expanded template described form = expanded m
read_shape s place text read.Template args element expanded template described form = template
read_shape s place text (read.Descriptor d) args element expanded template described form = described d
read_shape s place text (read.Known k) args element expanded template described form = fine (known_plan s k)
read_shape s place text (read.Form o) args element expanded template described form = form o

abbrev pub item_shape : Place → Option ℕ → Shaped Plan → Shaped Plan
item_shape place (Some number) shape = refused number place
item_shape place None shape = shape

-- what the terms of a form stand in: those of a method inside one
abbrev pub within : Op → Around → Around
within (Op.Declaration Declaration.Method) inside = in_method inside
within _ inside = inside

abbrev pub joined : Place → Shaped Plan → Shaped Plans → Shaped Plans
joined place first rest = record { faults = first.faults ++ rest.faults; made = plan place first.made rest.made }

abbrev pub left_out : Place → List Parameter → Plans
left_out place [] = no_plans
left_out place (q ∷ qs) = join (missing place q) (left_out place qs)

-- ---- lists in braces

abbrev pub is_comma : Written → Bool
is_comma comma = true
is_comma _ = false

abbrev pub is_separator : Written → Bool
is_separator comma = true
is_separator semicolon = true
is_separator _ = false

-- whether an element is to come behind a member: none where it may not stand
abbrev pub due_after : Bool → Written → Option Bool
due_after due w = if is_separator w then (if is_comma w then (if due then None else Some true) else None) else
    (if due then Some false else None)

-- elements with commas between them, and one behind the last perhaps; `due` says that an element is to come
abbrev pub is_listed : Bool → Writtens → Bool
is_listed due none = true
is_listed due (more w ws) = choose (due_after due w) false (λ next. is_listed next ws)

-- numbers in braces stand with commas between them; what else stands there is no list of numbers
abbrev pub is_number_list : Body → WrittenGroup → Bool
is_number_list (braces.Numbers most) (given ws) = is_listed true ws
is_number_list b group = true

abbrev pub is_text : Written → Bool
is_text (piece.text p t) = true
is_text _ = false

-- whether a list ends here: with nothing, or with one comma
abbrev pub is_list_end : Writtens → Bool
is_list_end none = true
is_list_end (more w ws) = is_none ws && is_comma w

-- bytes, or one string, which a comma may follow
abbrev pub byte_slot : Writtens → Slot
byte_slot none = slot.Constant 0 255
byte_slot (more w ws) = if is_list_end ws && is_text w then slot.String form.Any else slot.Constant 0 255

abbrev pub list_shape : Place → Bool → Shaped Plans → Shaped Plans
list_shape place true members = members
list_shape place false members = record { faults = fault_at 6022 place ∷ []; made = no_plans }

abbrev pub skipped : Bool → Place → Shaped Plan → Shaped Plans → Shaped Plans
skipped true place first rest = rest
skipped false place first rest = joined place first rest

-- the If that stands directly before what follows a member, with so many ElseIfs behind it
abbrev pub run_after : Option ℕ → Written → Option ℕ
run_after run comma = run
run_after run semicolon = run
run_after run (item p w args body) = run_behind run (meaning_of w (is_given body))
run_after run _ = None

-- whether a Default stands before what follows a member of a Switch
abbrev pub default_after : Bool → Written → Bool
default_after before (item p w args body) = before || is_default (meaning_of w (is_given body))
default_after before _ = before

-- ---- the list of a field

-- a word with its arguments is a whole element; behind a unit's name its comma comes
abbrev pub behind_begin : Bool → Due
behind_begin true = Due.Comma
behind_begin false = Due.NameComma

-- what may come behind a member, by whether it is a comma, a separator, a whole element: none where it may not stand. The
-- number of bits may stand without the comma before it, which is told of the unit alone
abbrev pub next_due : Due → Bool → Bool → Bool → Option Due
next_due Due.Element at_comma separator whole = if separator then (if at_comma then Some Due.Bits else None) else Some (behind_begin whole)
next_due Due.NameComma at_comma separator whole = if separator then (if at_comma then Some Due.Bits else None) else Some Due.Comma
next_due Due.Bits at_comma separator whole = if separator then None else Some Due.Comma
next_due Due.Comma at_comma separator whole = if at_comma then Some Due.Element else None

abbrev pub goes_on : Due → Written → Option Due
goes_on due w = next_due due (is_comma w) (is_separator w) (is_whole (meaning_in w))

abbrev pub may_stop : Due → Bool
may_stop Due.Element = true
may_stop Due.Comma = true
may_stop _ = false

abbrev pub begin : Due
begin = Due.Element

-- units, gaps and whole elements with commas between them, and one behind the last perhaps
abbrev pub is_field_list : Due → Writtens → Bool
is_field_list due none = may_stop due
is_field_list due (more w ws) = choose (goes_on due w) false (λ next. is_field_list next ws)

-- how a member of this word is read where this is due
abbrev pub field_slot : Due → Meaning → Slot
field_slot Due.Bits m = slot.Measure
field_slot _ m = slot_as slot.FieldElement m

-- the place of an item's first argument, or its own where it has none
abbrev pub first_place : Place → Writtens → Place
first_place place none = place
first_place place (more w ws) = place_of place w

abbrev pub inner_place : Place → Written → Place
inner_place place (item p w args body) = first_place place (inside_of args)
inner_place place _ = place

-- an element stands at its word, or where it is a connection at what it is connected to
abbrev pub element_place : Written → Place
element_place w = if is_connection (meaning_in w) then inner_place (place_of nowhere w) w else place_of nowhere w

-- the unit that a single segment names
abbrev pub named_by : Place → Path → Option UnitName
named_by place path = choose (single_segment path) None (λ segment. Some (record { place = place; segment = segment }))

abbrev pub named_unit : Place → Plan → Option UnitName
named_unit place (a_name path) = named_by place path
named_unit place _ = None

-- the unit that begins, unless the element is whole
abbrev pub begun : Bool → Place → Plan → Option UnitName
begun true place p = None
begun false place p = named_unit place p

-- the unit of which the number of bits is still to come
abbrev pub unit_behind : Due → Option UnitName → Place → Bool → Bool → Plan → Option UnitName
unit_behind Due.Element unit place whole false p = begun whole place p
unit_behind Due.NameComma unit place whole separator p = unit
unit_behind _ unit place whole separator p = None

-- an element that is whole
abbrev pub whole_alone : Bool → Place → Plan → Plans
whole_alone true place p = one_plan place p
whole_alone false place p = no_plans

-- a unit stands at its name, and a gap at its number of bits
abbrev pub of_bits : Option UnitName → Place → ℕ → Plans
of_bits None place bits = one_plan place (a_skip bits)
of_bits (Some unit) place bits = one_plan unit.place (a_unit unit.segment bits)

-- a unit whose name has no comma behind it
abbrev pub no_comma : Option UnitName → List Message
no_comma None = []
no_comma (Some unit) = fault_at 6022 unit.place ∷ []

-- what a member comes to where this is due, read as it is then
abbrev pub field_part : Due → Option UnitName → Place → Bool → Bool → Shaped Plan → Shaped Plans
field_part Due.Element unit place whole false shape = record { faults = shape.faults; made = whole_alone whole place shape.made }
field_part Due.NameComma unit place whole false shape = record { faults = no_comma unit; made = no_plans }
field_part Due.Bits unit place whole separator shape = record { faults = shape.faults; made = of_bits unit place (number_of shape.made) }
field_part _ unit place whole separator shape = fine no_plans

abbrev pub followed : Shaped Plans → Shaped Plans → Shaped Plans
followed first rest = record { faults = first.faults ++ rest.faults; made = join first.made rest.made }

abbrev pub due_behind : Due → Written → Due
due_behind due w = choose (goes_on due w) Due.Comma (λ next. next)

-- ---- the tree

abbrev mutual
  -- a part of a source where it is read so, but for the range of a constant; `inside` says what it stands in
  pub bare : Slot → Around → Written → Shaped Plan
  bare s inside (piece.number place n) = number_shape s place n
  bare s inside (piece.text place bytes) = text_shape s place bytes
  bare s inside (listed place ws) = listed_shape s place ws
  bare s inside (apply place o ws) = symbol_shape inside.width s place (symbol_of o)
      (arguments_in (parameters_of (symbol_of o)) place inside ws)
  bare s inside (item place w args body) =
      item_shape place
      (item_fault s inside.method (meaning_of w (is_given body)) (has_arguments (meaning_of w (is_given body)) (inside_of args))
      (is_given body))
      (read_shape s place w (reading_of s (meaning_of w (is_given body)) (is_given args)) (call_args inside args)
      (λ e. element_shape e (arguments (element_parameters e) place inside args))
      (λ m. macro_shape (arguments (macro_parameters m) place inside args))
      (template_shape place (contents (braces.Descriptors false) inside place body))
      (λ d. descriptor_shape d place (is_number_list (descriptor_body d) body) (arguments (descriptor_parameters d) place inside args)
      (contents (descriptor_body d) inside place body))
      (λ o. form_shape inside.width o place (arguments (parameters_as o s) place inside args)
      (contents (body_as o s) (within o inside) place body)))
  bare s inside _ = fine omitted

  -- the arguments of a call
  pub operands : Slot → Around → Writtens → Shaped Plans
  operands s inside none = fine no_plans
  operands s inside (more w ws) = joined (place_of nowhere w) (checked inside.width s (place_of nowhere w) (bare s inside w))
      (operands slot.Expression inside ws)

  pub call_args : Around → WrittenGroup → Shaped Plans
  call_args inside absent = fine no_plans
  call_args inside (given ws) = operands slot.Expression inside ws

  -- the arguments of an operator, each by its letter; one that is left out stands at the operator
  pub arguments : List Parameter → Place → Around → WrittenGroup → Shaped Plans
  arguments qs place inside absent = fine (left_out place qs)
  arguments qs place inside (given ws) = arguments_in qs place inside ws

  pub arguments_in : List Parameter → Place → Around → Writtens → Shaped Plans
  arguments_in qs place inside none = fine (left_out place qs)
  arguments_in [] place inside (more w ws) = fine no_plans
  arguments_in (q ∷ qs) place inside (more w ws) =
      joined (place_of place w)
      (checked inside.width (slot_as q.slot (meaning_in w)) (place_of nowhere w) (bare (slot_as q.slot (meaning_in w)) inside w))
      (arguments_in qs place inside ws)

  -- what stands in braces
  pub contents : Body → Around → Place → WrittenGroup → Shaped Plans
  contents b inside place absent = fine no_plans
  contents braces.No inside place (given ws) = fine no_plans
  contents braces.Terms inside place (given ws) = terms inside None ws
  contents braces.Bytes inside place (given ws) = list_shape place (is_listed true ws) (members (byte_slot ws) inside ws)
  contents braces.Elements inside place (given ws) = list_shape place (is_listed true ws) (members slot.Element inside ws)
  contents braces.FieldList inside place (given ws) = list_shape place (is_field_list begin ws) (elements begin None inside ws)
  contents (braces.Numbers most) inside place (given ws) = list_shape place (is_listed true ws) (members (slot.Constant 0 most) inside ws)
  contents (braces.Descriptors chosen) inside place (given ws) = members (slot.Descriptor chosen) inside ws
  contents braces.Cases inside place (given ws) = cases inside false ws
  contents braces.CaseMembers inside place (given ws) = list_shape place (is_listed true ws) (members slot.CaseMember inside ws)

  pub members : Slot → Around → Writtens → Shaped Plans
  members s inside none = fine no_plans
  members s inside (more w ws) = skipped (is_separator w) (place_of nowhere w)
      (checked inside.width s (place_of nowhere w) (bare s inside w)) (members s inside ws)

  -- the elements of a field's list
  pub elements : Due → Option UnitName → Around → Writtens → Shaped Plans
  elements due unit inside none = fine no_plans
  elements due unit inside (more w ws) =
      followed (field_part due unit (element_place w) (is_whole (meaning_in w)) (is_separator w)
      (checked inside.width (field_slot due (meaning_in w)) (place_of nowhere w) (bare (field_slot due (meaning_in w)) inside w)))
      (elements (due_behind due w) (unit_behind due unit (element_place w) (is_whole (meaning_in w)) (is_separator w)
      (checked inside.width (field_slot due (meaning_in w)) (place_of nowhere w) (bare (field_slot due (meaning_in w)) inside w)).made)
      inside ws)

  -- the terms of a list; `run` says how many ElseIfs stand directly before, and before them an If
  pub terms : Around → Option ℕ → Writtens → Shaped Plans
  terms inside run none = fine no_plans
  terms inside run (more w ws) =
      skipped (is_separator w) (place_of nowhere w)
      (checked inside.width (slot.Term run) (place_of nowhere w) (bare (slot.Term run) inside w)) (terms inside (run_after run w) ws)

  -- the members of a Switch; `defaulted` says whether a Default stands before
  pub cases : Around → Bool → Writtens → Shaped Plans
  cases inside defaulted none = fine no_plans
  cases inside defaulted (more w ws) =
      skipped (is_separator w) (place_of nowhere w)
      (checked inside.width (slot.Branch defaulted) (place_of nowhere w) (bare (slot.Branch defaulted) inside w))
      (cases inside (default_after defaulted w) ws)

-- a part of a source where it is read so
abbrev pub shape : Slot → Around → Written → Shaped Plan
shape s inside w = checked inside.width s (place_of nowhere w) (bare s inside w)
