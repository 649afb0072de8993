-- What a word is, where it may stand, and what it is read as.
use Rattle.std.specs.Prelude.{ℕ, suc, nat_le, nat_lt, Bool, true, false, not, ◌==◌, ◌&&◌, ◌||◌, if◌then◌else◌, List, [], ◌∷◌, length}
use Rattle.std.specs.Prelude.{Option, Some, None}
use Rattle.acpi_state.specs.Outcomes.{choose}
use Rattle.asl_tree.specs.declared.term.Op.{Op}
use Rattle.asl_tree.specs.declared.term.Control.{Control}
use Rattle.resource_layout.specs.declared.descriptor.Kind.TheVariants as resource
use Rattle.resource_layout.specs.Layout.{is_kind as is_resource_kind}
use Rattle.asl_words.specs.declared.operator.Parameter.{Parameter}
use Rattle.asl_words.specs.declared.operator.Slot.{Slot}
use Rattle.asl_words.specs.declared.operator.Slot.TheVariants as slot
use Rattle.asl_words.specs.declared.operator.Role.{Role}
use Rattle.asl_words.specs.declared.operator.Role.TheVariants as role
use Rattle.asl_words.specs.declared.operator.Body.{Body}
use Rattle.asl_words.specs.declared.operator.Body.TheVariants as braces
use Rattle.resource_layout.specs.declared.descriptor.Descriptor.{Descriptor}
use Rattle.resource_layout.specs.declared.descriptor.Descriptor.TheVariants as d
use Rattle.asl_words.specs.declared.operator.FieldWord.{FieldWord}
use Rattle.asl_words.specs.declared.operator.FieldWord.TheVariants as element
use Rattle.asl_words.specs.declared.operator.WordKind.{WordKind}
use Rattle.asl_words.specs.declared.operator.WordKind.TheVariants as kind
use Rattle.asl_words.specs.declared.operator.Known.{Known}
use Rattle.asl_words.specs.declared.operator.Known.TheVariants as known
use Rattle.word_meanings.specs.declared.meaning.Meaning.{Meaning}
use Rattle.word_meanings.specs.declared.meaning.Meaning.TheVariants as is
use Rattle.word_meanings.specs.declared.meaning.Reading.{Reading}
use Rattle.word_meanings.specs.declared.meaning.Reading.TheVariants as read
use Rattle.asl_words.specs.Operators.{operator_of, word_of, body_of, role_of}
use Rattle.asl_words.specs.Resources.{descriptor_body}
use Rattle.asl_words.specs.Paths.{is_path}

-- a word of at most four characters without a body is a name
abbrev pub name_or_unknown : List ℕ → Bool → Meaning
name_or_unknown text has_body = if is_path text then is.Path else (if nat_le (length text) 4 && not has_body then is.Name else is.Unknown)

abbrev pub known_as : Known → Meaning
known_as known.LeftOut = is.Unknown
known_as (known.Element e) = is.Element e
known_as (known.Macro m) = is.Macro m
known_as known.Template = is.Template
known_as (known.Descriptor d) = is.Descriptor d
known_as k = is.Known k

-- what a word or path is: an operator, a word that stands for something, a name, or nothing that is known
abbrev pub meaning_of : List ℕ → Bool → Meaning
meaning_of text has_body = choose (operator_of text) (choose (word_of text) (name_or_unknown text has_body) known_as) is.Operator

-- the number of ElseIfs since the If that stands directly before with these behind it
abbrev pub run_of : Slot → Option ℕ
run_of (slot.Term run) = run
run_of _ = None

-- how many ElseIfs may stand behind one If
abbrev pub most_else_ifs : ℕ
most_else_ifs = 120

abbrev pub is_behind : Option ℕ → Bool
is_behind None = false
is_behind (Some n) = true

abbrev pub has_room : Option ℕ → Bool
has_room None = false
has_room (Some n) = nat_lt n most_else_ifs

-- one more, where there is room for one; an ElseIf behind nothing begins a run of its own
abbrev pub one_longer : Option ℕ → ℕ
one_longer None = 1
one_longer (Some n) = if nat_lt n most_else_ifs then suc n else n

-- the run that goes on behind a term
abbrev pub run_behind : Option ℕ → Meaning → Option ℕ
run_behind run (is.Operator (Op.Control Control.If)) = Some 0
run_behind run (is.Operator (Op.Control Control.ElseIf)) = Some (one_longer run)
run_behind run _ = None

-- whether a word may go on with a run, or begin one, by its first letter
abbrev pub may_run : List ℕ → Bool
may_run [] = true
may_run (letter ∷ letters) = letter == 73 || letter == 69

abbrev pub is_term : Slot → Bool
is_term (slot.Term run) = true
is_term _ = false

-- whether a Default stands before, in the braces of a Switch
abbrev pub default_before : Slot → Option Bool
default_before (slot.Branch defaulted) = Some defaulted
default_before _ = None

-- in the braces of a Switch
abbrev pub takes_branch : Slot → Bool
takes_branch s = choose (default_before s) false (λ defaulted. true)

-- in the braces of a Switch, behind no Default
abbrev pub takes_default : Slot → Bool
takes_default s = choose (default_before s) false not

abbrev pub is_default : Meaning → Bool
is_default (is.Operator (Op.Control Control.Default)) = true
is_default _ = false

abbrev pub is_attribute : FieldWord → Bool
is_attribute element.AttribBytes = true
is_attribute _ = false

-- an element of a field's list by itself
abbrev pub is_whole : Meaning → Bool
is_whole (is.Element e) = not (is_attribute e)
is_whole _ = false

abbrev pub is_connection : Meaning → Bool
is_connection (is.Element element.Connection) = true
is_connection _ = false

-- where a word of a field's list may stand
abbrev pub takes_field_word : Slot → FieldWord → Bool
takes_field_word slot.WholeElement e = not (is_attribute e)
takes_field_word slot.Attribute e = is_attribute e
takes_field_word _ e = false

-- the descriptors of pins and of serial buses
abbrev pub is_serial : Descriptor → Bool
is_serial d.GpioInt = true
is_serial d.GpioIo = true
is_serial d.I2cSerialBus = true
is_serial _ = false

-- in a choice of descriptors
abbrev pub is_chosen : Slot → Bool
is_chosen (slot.Descriptor chosen) = chosen
is_chosen _ = false

-- where an operator may stand
abbrev pub may_stand : Slot → Bool → Role → Bool
may_stand s inside role.MethodStatement = inside
may_stand s inside role.OuterTerm = not inside
may_stand s inside role.Else = is_behind (run_of s)
may_stand s inside role.ElseIf = has_room (run_of s)
may_stand s inside role.Case = takes_branch s
may_stand s inside role.Default = takes_default s
may_stand s inside _ = true

abbrev pub is_word : Known → Bool
is_word (known.Word k n) = true
is_word _ = false

abbrev pub is_declared : Slot → Bool
is_declared slot.Declared = true
is_declared _ = false

-- inside a method a path that is declared is a single segment; a word of a field's list stands there alone; a macro, a
-- template and a descriptor are no terms; and a descriptor of pins or of a serial bus is none of a choice
abbrev pub is_allowed : Slot → Bool → Meaning → Bool
is_allowed s inside (is.Operator o) = may_stand s inside (role_of o)
is_allowed s inside (is.Known k) = not (is_term s && is_word k)
is_allowed s inside is.Path = not (is_declared s && inside)
is_allowed s inside (is.Element e) = takes_field_word s e
is_allowed s inside (is.Macro m) = not (is_term s)
is_allowed s inside is.Template = not (is_term s)
is_allowed s inside (is.Descriptor d) = not (is_term s) && not (is_chosen s && is_serial d)
is_allowed s inside _ = true

abbrev pub is_descriptor : Meaning → Bool
is_descriptor (is.Descriptor d) = true
is_descriptor _ = false

abbrev pub takes_descriptor : Slot → Bool
takes_descriptor (slot.Descriptor chosen) = true
takes_descriptor _ = false

-- where a descriptor is read
abbrev pub takes_resource : Slot → Descriptor → Bool
takes_resource (slot.Descriptor chosen) d = true
takes_resource slot.Connected d = is_serial d
takes_resource _ d = false

abbrev pub is_branch_role : Role → Bool
is_branch_role role.Case = true
is_branch_role role.Default = true
is_branch_role _ = false

abbrev pub is_branch : Meaning → Bool
is_branch (is.Operator o) = is_branch_role (role_of o)
is_branch _ = false

-- a member of a template is a descriptor, and one of a Switch is a Case or a Default
abbrev pub is_of_kind : Slot → Meaning → Bool
is_of_kind s m = (is_descriptor m || not (takes_descriptor s)) && (is_branch m || not (takes_branch s))

abbrev pub may_be : Slot → Bool → Meaning → Bool
may_be s inside m = is_of_kind s m && is_allowed s inside m

-- the error of what is none of the kind that is asked for; a member of a template that is no descriptor is out of
-- place, and so is one of a Switch that is no Case and no Default
abbrev pub unfit : Slot → ℕ
unfit s = if takes_descriptor s || takes_branch s then 6025 else 6022

-- nothing is left out that has to stand
abbrev pub may_end : List Parameter → Bool
may_end [] = true
may_end (q ∷ qs) = (q.omittable || q.further) && may_end qs

abbrev pub has_braces : Body → Bool
has_braces braces.No = false
has_braces _ = true

abbrev pub wants_braces : Meaning → Bool
wants_braces (is.Operator o) = has_braces (body_of o)
wants_braces is.Template = true
wants_braces (is.Descriptor d) = has_braces (descriptor_body d)
wants_braces _ = false

abbrev pub is_unknown : Meaning → Bool
is_unknown is.Unknown = true
is_unknown _ = false

abbrev pub is_same : Bool → Bool → Bool
is_same true b = b
is_same false b = not b

-- the first of an item's errors: an operator that is unknown, one that may not stand here, its arguments, its body
abbrev pub item_fault : Slot → Bool → Meaning → Bool → Bool → Option ℕ
item_fault s inside meaning has has_body =
    if is_unknown meaning then Some 6020 else (
    if not (may_be s inside meaning) then Some 6025 else (
    if not has then Some 6021 else (
    if not (is_same (wants_braces meaning) has_body) then Some 6023 else None)))

abbrev pub is_value : Role → Bool
is_value role.Expression = true
is_value role.Place = true
is_value _ = false

abbrev pub is_place : Role → Bool
is_place role.Place = true
is_place _ = false

-- where an expression is read
abbrev pub takes_expression : Slot → Bool
takes_expression slot.Expression = true
takes_expression slot.Effect = true
takes_expression (slot.Constant least most) = true
takes_expression slot.Measure = true
takes_expression slot.Element = true
takes_expression slot.CaseValue = true
takes_expression slot.CaseMember = true
takes_expression (slot.Term run) = true
takes_expression _ = false

abbrev pub takes_role : Slot → Role → Bool
takes_role (slot.Term run) r = true
takes_role (slot.Branch defaulted) r = is_branch_role r
takes_role slot.Place r = is_place r
takes_role s r = takes_expression s && is_value r

abbrev pub takes_place : Slot → Bool
takes_place slot.Place = true
takes_place s = takes_expression s

abbrev pub takes_slot : Slot → Bool
takes_slot slot.Named = true
takes_slot s = takes_place s

abbrev pub takes_path : Slot → Bool
takes_path slot.Declared = true
takes_path slot.External = true
takes_path slot.Used = true
takes_path slot.FieldElement = true
takes_path slot.Connected = true
takes_path s = takes_slot s

-- where a single segment without a prefix may stand: what names a descriptor is nothing else
abbrev pub takes_segment : Slot → Bool
takes_segment slot.DescriptorName = true
takes_segment s = takes_path s

abbrev pub is_kind : WordKind → WordKind → Bool
is_kind kind.Serialize kind.Serialize = true
is_kind kind.ObjectType kind.ObjectType = true
is_kind kind.Match kind.Match = true
is_kind kind.Space kind.Space = true
is_kind kind.Access kind.Access = true
is_kind kind.Lock kind.Lock = true
is_kind kind.Update kind.Update = true
is_kind kind.Attribute kind.Attribute = true
is_kind (kind.Resource a) (kind.Resource b) = is_resource_kind a b
is_kind _ _ = false

-- where a word of this kind and number may stand
abbrev pub takes_word : Slot → WordKind → ℕ → Bool
takes_word (slot.Word asked) k n = is_kind asked k
takes_word (slot.WordBelow asked limit) k n = is_kind (kind.Resource asked) k && nat_lt n limit
takes_word (slot.Types most) k n = is_kind kind.ObjectType k
takes_word _ k n = false

abbrev pub takes_known : Slot → Known → Bool
takes_known s (known.Word k n) = takes_word s k n
takes_known s known.Debug = takes_place s
takes_known s (known.Element e) = false
takes_known s (known.Macro m) = false
takes_known s known.Template = false
takes_known s (known.Descriptor d) = false
takes_known s known.LeftOut = false
takes_known s _ = takes_slot s

-- where a macro or a template may stand: it is no constant, no place and no term
abbrev pub takes_macro : Slot → Bool
takes_macro slot.Expression = true
takes_macro slot.Element = true
takes_macro _ = false

abbrev pub unless_wrong : Bool → Reading → Reading
unless_wrong good reading = if good then reading else read.Wrong

-- a name, which may stand here or not where it has no brackets
abbrev pub name_reading : Slot → Bool → Bool → Reading
name_reading s fits true = unless_wrong (takes_expression s) read.Call
name_reading s fits false = unless_wrong fits read.Path

abbrev pub reading_of : Slot → Meaning → Bool → Reading
reading_of s (is.Operator o) called = unless_wrong (takes_role s (role_of o)) (read.Form o)
reading_of s (is.Known k) called = unless_wrong (takes_known s k) (read.Known k)
reading_of s is.Name called = name_reading s (takes_segment s) called
reading_of s is.Path called = name_reading s (takes_path s) called
reading_of s (is.Element e) called = unless_wrong (takes_field_word s e) (read.Element e)
reading_of s (is.Macro m) called = unless_wrong (takes_macro s) (read.Macro m)
reading_of s is.Template called = unless_wrong (takes_macro s) read.Template
reading_of s (is.Descriptor d) called = unless_wrong (takes_resource s d) (read.Descriptor d)
reading_of s is.Unknown called = read.Wrong

abbrev pub is_word_of : WordKind → Meaning → Bool
is_word_of kind (is.Known k) = takes_known (slot.Word kind) k
is_word_of kind _ = false

abbrev pub is_long_attribute : Meaning → Bool
is_long_attribute (is.Element e) = is_attribute e
is_long_attribute _ = false

-- how a part is read: a word for a space as a word, and anything else in its stead as a number that a vendor gives a space of its own;
-- of a register as a word for its space, or as a number; and so what else is a word or a number. An element of a field's list is read as a
-- word with its arguments, or as a name
abbrev pub slot_as : Slot → Meaning → Slot
slot_as slot.Space m = if is_word_of kind.Space m then slot.Word kind.Space else slot.Constant 128 255
slot_as slot.RegisterSpace m =
    if is_word_of kind.Space m then slot.Word kind.Space else (
    if is_word_of (kind.Resource resource.Space) m then slot.Word (kind.Resource resource.Space) else slot.Constant 0 255)
slot_as (slot.WordOrByte which) m = if is_word_of (kind.Resource which) m then slot.Word (kind.Resource which) else slot.Constant 0 255
slot_as slot.AccessType m = if is_word_of kind.Access m then slot.Word kind.Access else slot.Constant 0 5
slot_as slot.Attribute m =
    if is_long_attribute m then slot.Attribute else (
    if is_word_of kind.Attribute m then slot.Word kind.Attribute else slot.Constant 0 255)
slot_as slot.FieldElement m = if is_whole m then slot.WholeElement else slot.FieldElement
slot_as s m = s
