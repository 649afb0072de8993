-- What comes of the parts of a source that are read one by one: numbers, strings, words, lists of types, the arguments of forms.
use Rattle.std.specs.Prelude.{ℕ, suc, ◌+◌, ◌*◌, ◌%◌, nat_eq, nat_le, Bool, true, false, not, ◌&&◌, ◌||◌, if◌then◌else◌, List, [], ◌∷◌}
use Rattle.std.specs.Prelude.{◌++◌, length, Option, Some, None, Result, Ok, Err}
use Rattle.acpi_state.specs.Outcomes.{choose}
use Rattle.iasl_messages.specs.declared.place.Place.{Place}
use Rattle.iasl_messages.specs.declared.message.Message.{Message}
use Rattle.acpi_values.specs.Integers.{wrapped}
use Rattle.acpi_values.specs.declared.width.Width.{Width}
use Rattle.acpi_values.specs.declared.width.Width.TheVariants.{W64}
use Rattle.asl_tree.specs.declared.constant.NoConstant.{NoConstant}
use Rattle.asl_tree.specs.declared.path.Path.{Path}
use Rattle.asl_tree.specs.Formats.{cut}
use Rattle.asl_tree.specs.Names.{is_searched}
use Rattle.asl_tree.specs.declared.term.NamedDescriptor.{NamedDescriptor}
use Rattle.asl_tree.specs.declared.term.Op.{Op}
use Rattle.asl_tree.specs.declared.term.Declaration.{Declaration}
use Rattle.asl_tree.specs.declared.term.Control.{Control}
use Rattle.asl_tree.specs.declared.term.Special.{Special}
use Rattle.asl_tree.specs.declared.term.Literal.{Literal}
use Rattle.asl_words.specs.declared.operator.Parameter.{Parameter}
use Rattle.asl_words.specs.declared.operator.Slot.{Slot}
use Rattle.asl_words.specs.declared.operator.Slot.TheVariants as slot
use Rattle.asl_words.specs.declared.operator.StringForm.{StringForm}
use Rattle.asl_words.specs.declared.operator.StringForm.TheVariants as form
use Rattle.asl_words.specs.declared.operator.TextMacro.{TextMacro}
use Rattle.asl_words.specs.declared.operator.WordKind.TheVariants as kind
use Rattle.asl_words.specs.declared.operator.Known.{Known}
use Rattle.asl_words.specs.declared.operator.Known.TheVariants as known
use Rattle.resource_layout.specs.declared.descriptor.Descriptor.{Descriptor}
use Rattle.word_meanings.specs.declared.meaning.Meaning.{Meaning}
use Rattle.word_meanings.specs.declared.meaning.Meaning.TheVariants as is
use Rattle.asl_terms.specs.declared.work.Outcome.{Outcome}
use Rattle.asl_terms.specs.declared.work.Outcome.TheVariants as outcome
use Rattle.asl_tree.specs.declared.term.Word.{Word}
use Rattle.asl_syntax.specs.Written as piece
use Rattle.asl_syntax.specs.Written.{Written, Writtens, WrittenGroup, item, apply, listed, none, more, absent, given}
use Rattle.asl_words.specs.declared.operator.FieldWord.{FieldWord}
use Rattle.word_meanings.specs.Meanings.{meaning_of, unfit, takes_expression, takes_known}
use Rattle.asl_words.specs.Texts.{has_form, is_all_text}
use Rattle.resource_macros.specs.Identifiers.{eisaid_of, uuid_of, utf16_of}
use Rattle.term_plans.specs.Plans.{Plan, an_integer, a_text, a_fill, a_word, a_local, an_arg, debug, omitted, a_name}
use Rattle.term_plans.specs.Plans.{an_offset, an_access, a_form, Plans, no_plans, plan, join, number_of, plan_at, first_plans}
use Rattle.term_plans.specs.Plans.{first_alone, is_omitted, how_many, constant_of, one_plan}
use Rattle.term_plans.specs.Places.{fault_at, nowhere}

-- ---- what comes of a part of a source: its errors in order, and its tree, which counts where there are none

pub record Shaped (A : Type 0) : Type 0 where
  pub faults : List Message
  pub made : A

abbrev pub fine : {A : Type 0} → A → Shaped A
fine made = record { faults = []; made = made }

abbrev pub refused : ℕ → Place → Shaped Plan
refused number place = record { faults = fault_at number place ∷ []; made = omitted }

-- ---- items: what a word is, where it may stand, and what it takes

abbrev pub is_given : WrittenGroup → Bool
is_given absent = false
is_given (given ws) = true

abbrev pub count : Writtens → ℕ
count none = 0
count (more w ws) = suc (count ws)

abbrev pub inside_of : WrittenGroup → Writtens
inside_of absent = none
inside_of (given ws) = ws

-- ---- constants: an argument that has to be one stands as its value

abbrev pub valued : ℕ → ℕ → Place → Result ℕ NoConstant → Shaped Plan
valued least most place (Ok n) = if nat_le least n && nat_le n most then fine (an_integer n) else refused 6024 place
valued least most place (Err NoConstant.Fault) = refused 6024 place
valued least most place (Err NoConstant.Form) = refused 6022 place

-- what a Package has beside constants; a word for an integer stays as it is
abbrev pub is_member : Plan → Bool
is_member (a_text bytes) = true
is_member (a_name path) = true
is_member (a_word word) = true
is_member (a_form (Op.Literal l) args body) = true
is_member (a_form (Op.Special Special.Buffer) args body) = true
is_member (a_form (Op.Special Special.Package) args body) = true
is_member _ = false

-- what a unit of a field's list begins with: a single segment
abbrev pub is_element : Plan → Bool
is_element (a_name path) = is_searched path
is_element _ = false

abbrev pub is_buffer : Op → Bool
is_buffer (Op.Special Special.Buffer) = true
is_buffer _ = false

abbrev pub is_package : Op → Bool
is_package (Op.Special Special.Package) = true
is_package _ = false

-- one of the words Zero, One and Ones
abbrev pub is_word : Op → Bool
is_word (Op.Literal literal) = true
is_word _ = false

abbrev pub are_none : Plans → Bool
are_none no_plans = true
are_none (plan place p ps) = false

-- a Buffer, or a word, whose opcode is always written
abbrev pub is_case_form : Op → Plans → Plans → Bool
is_case_form op args body = is_buffer op || (is_word op && are_none args && are_none body)

-- what a member of a Case's Package is beside constants that are evaluated
abbrev pub is_case_member : Plan → Bool
is_case_member (a_text bytes) = true
is_case_member (a_form o args body) = is_case_form o args body
is_case_member _ = false

-- a member of a Case's Package: a string, a Buffer, a word or a constant
abbrev pub case_member : Width → Place → Plan → Shaped Plan
case_member width place p = if is_case_member p then fine p else valued 0 18446744073709551615 place (constant_of width p)

-- how many members a Package has
abbrev pub member_count : Plan → Option ℕ
member_count (a_form o args body) = if is_package o then Some (how_many body) else None
member_count _ = None

-- a Package of a Case has 1 to 120 members
abbrev pub is_case_package : ℕ → Bool
is_case_package n = nat_le 1 n && nat_le n 120

-- the value of a Case: such a member, or a Package of some
abbrev pub case_value : Width → Place → Plan → Shaped Plan
case_value width place p = choose (member_count p) (case_member width place p)
    (λ n. if is_case_package n then fine p else refused 6024 place)

-- what an outcome makes of an expression
abbrev pub come_to : Outcome → Place → Plan → Shaped Plan
come_to outcome.Stays place p = fine p
come_to (outcome.Number n) place p = fine (an_integer n)
come_to (outcome.Fault number) place p = refused number place

-- an expression where a constant may be asked for; one that is left out is none. Constants of a stated range are evaluated with 64 bits,
-- others at the table's width
abbrev pub evaluated : Width → Slot → Place → Plan → Shaped Plan
evaluated width (slot.Constant least most) place p = if is_omitted p then fine p else valued least most place (constant_of W64 p)
evaluated width slot.Measure place p = if is_omitted p then fine p else valued 0 18446744073709551615 place (constant_of width p)
evaluated width slot.Element place p = if is_member p then fine p else valued 0 18446744073709551615 place (constant_of width p)
evaluated width slot.CaseValue place p = case_value width place p
evaluated width slot.CaseMember place p = case_member width place p
evaluated width slot.FieldElement place p = if is_element p then fine p else refused 6022 place
evaluated width _ place p = fine p

abbrev pub after : List Message → Shaped Plan → Shaped Plan → Shaped Plan
after [] old new = new
after (m ∷ ms) old new = old

-- the same, where it has no error inside
abbrev pub checked : Width → Slot → Place → Shaped Plan → Shaped Plan
checked width s place shape = after shape.faults shape (evaluated width s place shape.made)

-- ---- leaves

abbrev pub number_shape : Slot → Place → ℕ → Shaped Plan
number_shape (slot.Term run) place n = refused 6025 place
number_shape slot.Effect place n = refused 6022 place
number_shape s place n = if takes_expression s then fine (an_integer (wrapped W64 n)) else refused (unfit s) place

abbrev pub text_plan : List ℕ → Plan
text_plan bytes = a_text bytes

-- what is told of a string that is not what it has to be
abbrev pub unformed : StringForm → ℕ
unformed form.Format = 6029
unformed _ = 6024

abbrev pub string_shape : StringForm → Place → List ℕ → Shaped Plan
string_shape f place bytes = if has_form f bytes && is_all_text bytes then fine (text_plan bytes) else refused (unformed f) place

-- ---- macros for identifiers and texts: each stands as what its string comes to

-- a Buffer of these bytes, among which these descriptors have names
abbrev pub buffer_plan : Place → List ℕ → List NamedDescriptor → Plan
buffer_plan place bytes named = a_form (Op.Special Special.Buffer) (plan place omitted no_plans) (plan place (a_fill bytes named) no_plans)

abbrev pub eisa_shape : Place → Option ℕ → Shaped Plan
eisa_shape place None = refused 6026 place
eisa_shape place (Some number) = fine (a_word (Word.Identifier number))

abbrev pub uuid_shape : Place → Option (List ℕ) → Shaped Plan
uuid_shape place None = refused 6027 place
uuid_shape place (Some bytes) = fine (buffer_plan place bytes [])

abbrev pub unicode_shape : Place → List ℕ → Shaped Plan
unicode_shape place text = if is_all_text text then fine (buffer_plan place (utf16_of text) []) else refused 6024 place

-- the string of a macro: the number of an identifier, the bytes of a UUID, or 16-bit characters with a final 0
abbrev pub macro_text : TextMacro → Place → List ℕ → Shaped Plan
macro_text TextMacro.EisaId place text = eisa_shape place (eisaid_of text)
macro_text TextMacro.ToUuid place text = uuid_shape place (uuid_of text)
macro_text TextMacro.Unicode place text = unicode_shape place text

abbrev pub text_shape : Slot → Place → List ℕ → Shaped Plan
text_shape slot.Expression place bytes = string_shape form.Any place bytes
text_shape slot.Element place bytes = string_shape form.Any place bytes
text_shape slot.CaseValue place bytes = string_shape form.Any place bytes
text_shape slot.CaseMember place bytes = string_shape form.Any place bytes
text_shape (slot.String f) place bytes = string_shape f place bytes
text_shape (slot.MacroText m) place bytes = macro_text m place bytes
text_shape (slot.Term run) place bytes = refused 6025 place
text_shape s place bytes = refused (unfit s) place

-- ---- names

abbrev pub path_shape : Place → Option Path → Shaped Plan
path_shape place None = refused 6024 place
path_shape place (Some path) = fine (a_name path)

-- a word stands as its number; where types are asked for, as how many there are
abbrev pub word_number : Slot → ℕ → ℕ
word_number (slot.Types most) n = 1
word_number _ n = n

abbrev pub known_plan : Slot → Known → Plan
known_plan s (known.Word k n) = an_integer (word_number s n)
known_plan s (known.Local i) = a_local i
known_plan s (known.Arg i) = an_arg i
known_plan s known.Debug = debug
known_plan s (known.Element e) = omitted
known_plan s (known.Macro m) = omitted
known_plan s known.Template = omitted
known_plan s (known.Descriptor d) = omitted
known_plan s known.LeftOut = omitted

-- ---- lists of types

abbrev pub is_type_word : Meaning → Bool
is_type_word (is.Known k) = takes_known (slot.Word kind.ObjectType) k
is_type_word _ = false

-- a word for an object type alone
abbrev pub is_bare_type : List ℕ → Bool → Bool → Bool
is_bare_type w has_args has_body = not has_args && (not has_body && is_type_word (meaning_of w false))

abbrev pub is_type : Written → Bool
is_type (item place w args body) = is_bare_type w (is_given args) (is_given body)
is_type _ = false

abbrev pub are_types : Writtens → Bool
are_types none = true
are_types (more w ws) = is_type w && are_types ws

-- such a word, or a list of these
abbrev pub is_type_or_list : Written → Bool
is_type_or_list (listed place ws) = are_types ws
is_type_or_list w = is_type w

abbrev pub are_all_types : Writtens → Bool
are_all_types none = true
are_all_types (more w ws) = is_type_or_list w && are_all_types ws

abbrev pub types_shape : ℕ → Place → Writtens → Shaped Plan
types_shape most place ws =
    if are_all_types ws then (if nat_le (count ws) most then fine (an_integer (count ws)) else refused 6024 place) else refused 6022 place

-- how many types may be listed, where they may
abbrev pub most_types : Slot → Option ℕ
most_types (slot.Types most) = Some most
most_types _ = None

abbrev pub listed_shape : Slot → Place → Writtens → Shaped Plan
listed_shape s place ws = choose (most_types s) (refused (unfit s) place) (λ most. types_shape most place ws)

-- ---- forms

-- the flags of a method: the number of its arguments, whether it is serialized, and its sync level
abbrev pub method_flags : Plans → ℕ
method_flags ps = number_of (plan_at ps 1) % 8 + 8 * (number_of (plan_at ps 2) % 2) + 16 * (number_of (plan_at ps 3) % 16)

abbrev pub zero_plan : Plan
zero_plan = a_form (Op.Literal Literal.Zero) no_plans no_plans

abbrev pub is_stated : Plan → Bool
is_stated p = not (is_omitted p)

-- how many parameters an External states, where it does
abbrev pub stated_parameters : Place → Plan → Plans
stated_parameters place p = if is_stated p then one_plan place (an_integer (number_of p)) else no_plans

abbrev pub method_settled : Place → Plans → Plans
method_settled place ps = join (first_alone ps) (one_plan place (an_integer (method_flags ps)))

abbrev pub mutex_settled : Place → Plans → Plans
mutex_settled place ps = join (first_alone ps) (one_plan place (an_integer (number_of (plan_at ps 1) % 16)))

abbrev pub external_settled : Place → Plans → Plans
external_settled place ps = join (join (first_alone ps) (one_plan place (an_integer (number_of (plan_at ps 1)))))
    (stated_parameters place (plan_at ps 3))

-- a Return without an argument returns Zero
abbrev pub return_settled : Place → Plans → Plans
return_settled place ps = if is_stated (plan_at ps 0) then ps else one_plan place zero_plan

abbrev pub one_word : Plan
one_word = a_form (Op.Literal Literal.One) no_plans no_plans

abbrev pub or_one : Plan → Plan
or_one p = if is_stated p then p else one_word

-- a For without a test tests One
abbrev pub for_settled : Plans → Plans
for_settled (plan place start (plan at test ps)) = plan place start (plan at (or_one test) ps)
for_settled ps = ps

-- the flags of a field: its access, whether it takes the global lock, and what its writes do to other bits; its words
-- stand behind so many arguments
abbrev pub field_flags : ℕ → Plans → ℕ
field_flags n ps = number_of (plan_at ps n) % 16 + 16 * (number_of (plan_at ps (n + 1)) % 2) + 32 * (number_of (plan_at ps (n + 2)) % 4)

abbrev pub field_settled : ℕ → Place → Plans → Plans
field_settled n place ps = join (first_plans n ps) (one_plan place (an_integer (field_flags n ps)))

-- a number of elements that is a constant of at most 255 stands as its value
abbrev pub few_elements : Result ℕ NoConstant → Option ℕ
few_elements (Ok n) = if nat_le n 255 then Some n else None
few_elements (Err e) = None

abbrev pub package_settled : Width → Place → Plans → Plans
package_settled width place ps = choose (few_elements (constant_of width (plan_at ps 0))) ps (λ n. one_plan place (an_integer n))

-- the arguments of a form, from those that are written; what they come to stands at the operator
abbrev pub settled : Width → Op → Place → Plans → Plans
settled width (Op.Declaration Declaration.Method) place ps = method_settled place ps
settled width (Op.Declaration Declaration.Mutex) place ps = mutex_settled place ps
settled width (Op.Declaration Declaration.External) place ps = external_settled place ps
settled width (Op.Control Control.Return) place ps = return_settled place ps
settled width (Op.Control Control.For) place ps = for_settled ps
settled width (Op.Special Special.Package) place ps = package_settled width place ps
settled width (Op.Declaration Declaration.Field) place ps = field_settled 1 place ps
settled width (Op.Declaration Declaration.IndexField) place ps = field_settled 2 place ps
settled width (Op.Declaration Declaration.BankField) place ps = field_settled 3 place ps
settled width _ place ps = ps

abbrev pub is_default_op : Op → Bool
is_default_op (Op.Control Control.Default) = true
is_default_op _ = false

abbrev pub is_default_plan : Plan → Bool
is_default_plan (a_form o args body) = is_default_op o
is_default_plan _ = false

-- the Default behind all others
abbrev pub default_last : Plans → Plans
default_last no_plans = no_plans
default_last (plan place p ps) = if is_default_plan p then join ps (one_plan place p) else plan place p (default_last ps)

-- the braces of a form, from what is written in them: a Default stands behind the Cases of its Switch
abbrev pub arranged : Op → Plans → Plans
arranged (Op.Control Control.Switch) ps = default_last ps
arranged _ ps = ps

-- how many arguments a good format asks for
abbrev pub holes_in : Plan → Option ℕ
holes_in (a_text bytes) = Some (length (cut bytes).1)
holes_in _ = None

abbrev pub counted : Place → Bool → List Message
counted place true = []
counted place false = fault_at 6030 place ∷ []

-- behind a good format, which stands behind so many arguments, there are as many as it asks for
abbrev pub count_faults : Place → ℕ → Plans → List Message
count_faults place i ps = choose (holes_in (plan_at ps i)) [] (λ holes. counted place (nat_eq (how_many ps) (suc i + holes)))

abbrev pub format_faults : Op → Place → Plans → List Message
format_faults (Op.Control Control.Printf) place ps = count_faults place 0 ps
format_faults (Op.Control Control.Fprintf) place ps = count_faults place 1 ps
format_faults _ place ps = []

-- ---- the words of a field's list

-- an access with its attribute: a number, or one with a length
abbrev pub accessed_as : ℕ → Plan → Plan
accessed_as access (an_access _ attribute count) = an_access access attribute count
accessed_as access p = an_access access (number_of p % 256) None

-- what units are connected to: a name, or a template of one descriptor
abbrev pub connected_to : Plan → Plan
connected_to (a_fill bytes named) = a_fill (bytes ++ 0x79 ∷ 0 ∷ []) named
connected_to p = p

abbrev pub element_plan : FieldWord → Plans → Plan
element_plan FieldWord.Offset ps = an_offset (number_of (plan_at ps 0))
element_plan FieldWord.AccessAs ps = accessed_as (number_of (plan_at ps 0) % 256) (plan_at ps 1)
element_plan FieldWord.Connection ps = connected_to (plan_at ps 0)
element_plan FieldWord.AttribBytes ps = an_access 0 0x0B (Some (number_of (plan_at ps 0) % 256))

-- the place of a node
abbrev pub place_of : Place → Written → Place
place_of place (piece.number p n) = p
place_of place (piece.text p t) = p
place_of place (item p w args body) = p
place_of place (apply p o args) = p
place_of place (listed p ws) = p
place_of place _ = place

-- what stands for an argument that is not there: a further one has nothing
abbrev pub missing : Place → Parameter → Plans
missing place q = if q.further then no_plans else plan place omitted no_plans
