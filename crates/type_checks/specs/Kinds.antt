-- The kinds that arguments take and that expressions have (ACPI Specification 6.4, 19.2 and 19.6).
use Rattle.std.specs.Prelude.{ℕ, suc, ◌+◌, nat_lt, if◌then◌else◌, Bool, true, false, not, List, [], ◌∷◌, get_or, slice_get, unwrap_or}
use Rattle.std.specs.Prelude.{Option, Some, None}
use Rattle.acpi_values.specs.declared.operator.DataOp.TheVariants as DataOp
use Rattle.acpi_values.specs.declared.operator.EventOp.TheVariants as EventOp
use Rattle.acpi_values.specs.declared.operator.Plain.{Plain}
use Rattle.acpi_values.specs.Operators.{Letter, Valued, row_of}
use Rattle.acpi_state.specs.Outcomes.{choose}
use Rattle.asl_operators.specs.declared.letter.Letter.{Letter as CodeLetter}
use Rattle.asl_operators.specs.Letters.{letter_as}
use Rattle.asl_tree.specs.declared.term.Op.{Op}
use Rattle.asl_tree.specs.declared.term.Declaration.TheVariants as Declaration
use Rattle.asl_tree.specs.declared.term.Control.TheVariants as Control
use Rattle.asl_tree.specs.declared.term.Special.TheVariants as Special
use Rattle.asl_tree.specs.declared.term.Symbolic.TheVariants as Symbolic
use Rattle.asl_tree.specs.Symbols.{compound_operator}
use Rattle.term_plans.specs.Plans.{Plan, an_integer, a_text, a_word, debug, a_name, a_form, Plans, no_plans, plan}
use Rattle.asl_numbers.specs.Numbers.{inside}
use Rattle.name_entries.specs.declared.kind.ObjectType.{ObjectType as Named}
use Rattle.name_entries.specs.declared.kind.ObjectType.TheVariants as N
use Rattle.type_checks.specs.declared.kind.ValueKind.{ValueKind}
use Rattle.type_checks.specs.declared.kind.ValueKind.TheVariants as K
use Rattle.type_checks.specs.declared.kind.Wanted.{Wanted}
use Rattle.type_checks.specs.declared.kind.Wanted.TheVariants as W

-- ---- what arguments take

-- whether an argument takes a kind; each takes a Reference
abbrev pub takes : Wanted → ValueKind → Bool
takes W.Anything kind = true
takes wanted K.Reference = true
takes W.Data K.Integer = true
takes W.Data K.String = true
takes W.Data K.Buffer = true
takes W.Buffer K.Buffer = true
takes W.Text K.String = true
takes W.Text K.Buffer = true
takes W.Elements K.String = true
takes W.Elements K.Buffer = true
takes W.Elements K.Package = true
takes W.Package K.Package = true
takes W.Notified K.Device = true
takes W.Notified K.Processor = true
takes W.Notified K.ThermalZone = true
takes wanted kind = false

-- an argument that is a place, in which a method is not called
abbrev pub is_place : Wanted → Bool
is_place W.Notified = true
is_place wanted = false

-- an operand by its letter in the table of the operators: what is taken as a value is data; targets stand behind the operands
abbrev pub by_letter : Option Letter → Wanted
by_letter (Some Valued) = W.Data
by_letter letter = W.Anything

abbrev pub letter_wanted : Plain → ℕ → Wanted
letter_wanted op place = by_letter (slice_get (row_of op).operands place)

-- the first operands of the operators that take other kinds than their letters say
abbrev pub own_operands : Plain → List Wanted
own_operands (Plain.Data DataOp.Store) = W.Anything ∷ []
own_operands (Plain.Data DataOp.CopyObject) = W.Anything ∷ []
own_operands (Plain.Data DataOp.DerefOf) = W.Anything ∷ []
own_operands (Plain.Data DataOp.ConcatenateResTemplate) = W.Buffer ∷ W.Buffer ∷ []
own_operands (Plain.Data DataOp.ToString) = W.Buffer ∷ []
own_operands (Plain.Data DataOp.Mid) = W.Text ∷ []
own_operands (Plain.Data DataOp.Index) = W.Elements ∷ []
own_operands (Plain.Data DataOp.Match) = W.Package ∷ []
own_operands (Plain.Event EventOp.Notify) = W.Notified ∷ []
own_operands op = []

abbrev pub operand : Plain → ℕ → Wanted
operand op place = unwrap_or (slice_get (own_operands op) place) (letter_wanted op place)

-- the first arguments of the other forms: tests, sizes, offsets, lengths and the value of a bank
abbrev pub form_arguments : Op → List Wanted
form_arguments (Op.Control Control.If) = W.Data ∷ []
form_arguments (Op.Control Control.ElseIf) = W.Data ∷ []
form_arguments (Op.Control Control.While) = W.Data ∷ []
form_arguments (Op.Control Control.For) = W.Anything ∷ W.Data ∷ []
form_arguments (Op.Special Special.Buffer) = W.Data ∷ []
form_arguments (Op.Special Special.Package) = W.Data ∷ []
form_arguments (Op.Declaration Declaration.OperationRegion) = W.Anything ∷ W.Anything ∷ W.Data ∷ W.Data ∷ []
form_arguments (Op.Declaration Declaration.BankField) = W.Anything ∷ W.Anything ∷ W.Data ∷ []
form_arguments (Op.Declaration Declaration.CreateField) = W.Anything ∷ W.Data ∷ W.Data ∷ []
form_arguments (Op.Declaration Declaration.CreateBitField) = W.Anything ∷ W.Data ∷ []
form_arguments (Op.Declaration Declaration.CreateByteField) = W.Anything ∷ W.Data ∷ []
form_arguments (Op.Declaration Declaration.CreateWordField) = W.Anything ∷ W.Data ∷ []
form_arguments (Op.Declaration Declaration.CreateDWordField) = W.Anything ∷ W.Data ∷ []
form_arguments (Op.Declaration Declaration.CreateQWordField) = W.Anything ∷ W.Data ∷ []
form_arguments op = []

-- the arguments of what prints are data, behind the place and the format
abbrev pub data_behind : ℕ → ℕ → Wanted
data_behind count place = if nat_lt place count then W.Anything else W.Data

abbrev pub listed_argument : Op → ℕ → Wanted
listed_argument op place = unwrap_or (slice_get (form_arguments op) place) W.Anything

abbrev pub form_argument : Op → ℕ → Wanted
form_argument (Op.Control Control.Printf) place = data_behind 1 place
form_argument (Op.Control Control.Fprintf) place = data_behind 2 place
form_argument op place = listed_argument op place

-- what the argument of a form takes that stands at a place among its arguments; `None` is for what is no argument of a form
abbrev pub wanted_of : Option Op → ℕ → Wanted
wanted_of None place = W.Anything
wanted_of (Some (Op.Plain op)) place = operand op place
wanted_of (Some (Op.Symbolic (Symbolic.Operator op))) place = operand op place
wanted_of (Some (Op.Symbolic (Symbolic.AssignBy op))) place = operand (compound_operator op) place
wanted_of (Some op) place = form_argument op place

-- the operators of which an operand is asked for more than data
abbrev pub asks_more : Plain → Bool
asks_more (Plain.Data DataOp.ConcatenateResTemplate) = true
asks_more (Plain.Data DataOp.ToString) = true
asks_more (Plain.Data DataOp.Mid) = true
asks_more (Plain.Data DataOp.Index) = true
asks_more (Plain.Data DataOp.Match) = true
asks_more (Plain.Event EventOp.Notify) = true
asks_more op = false

-- whether no argument of a form is asked for more than data
abbrev pub asks_data : Option Op → Bool
asks_data (Some (Op.Plain op)) = not (asks_more op)
asks_data (Some (Op.Symbolic (Symbolic.Operator op))) = not (asks_more op)
asks_data asker = true

-- ---- what expressions have

abbrev pub any_data : List ValueKind
any_data = K.Integer ∷ K.String ∷ K.Buffer ∷ K.Package ∷ K.Reference ∷ []

-- what stands where a name leads: data may change its kind, and so may an object of another table of which no type is said;
-- of the kind of a descriptor nothing is asked here
abbrev pub object_kinds : Named → List ValueKind
object_kinds N.Data = any_data
object_kinds N.Unknown = any_data
object_kinds N.Descriptor = any_data
object_kinds N.Integer = K.Integer ∷ []
object_kinds N.String = K.String ∷ []
object_kinds N.Buffer = K.Buffer ∷ []
object_kinds N.Package = K.Package ∷ []
object_kinds N.FieldUnit = K.Integer ∷ K.Buffer ∷ []
object_kinds N.BufferField = K.Integer ∷ K.Buffer ∷ []
object_kinds N.Device = K.Device ∷ []
object_kinds N.Event = K.Event ∷ []
object_kinds N.Method = K.Method ∷ []
object_kinds N.Mutex = K.Mutex ∷ []
object_kinds N.Region = K.Region ∷ []
object_kinds N.PowerResource = K.PowerResource ∷ []
object_kinds N.Processor = K.Processor ∷ []
object_kinds N.ThermalZone = K.ThermalZone ∷ []
object_kinds N.Container = K.Container ∷ []

-- a name that leads to a method calls it, except in a place
abbrev pub name_kinds : Bool → Named → List ValueKind
name_kinds false N.Method = any_data
name_kinds in_place object = object_kinds object

-- what an operator gives; what gives no value stands in no expression
abbrev pub plain_kinds : Plain → List ValueKind
plain_kinds (Plain.Number op) = K.Integer ∷ []
plain_kinds (Plain.Data DataOp.Increment) = K.Integer ∷ []
plain_kinds (Plain.Data DataOp.Decrement) = K.Integer ∷ []
plain_kinds (Plain.Data DataOp.ToInteger) = K.Integer ∷ []
plain_kinds (Plain.Data DataOp.SizeOf) = K.Integer ∷ []
plain_kinds (Plain.Data DataOp.ObjectType) = K.Integer ∷ []
plain_kinds (Plain.Data DataOp.Match) = K.Integer ∷ []
plain_kinds (Plain.Data DataOp.Concatenate) = K.Buffer ∷ K.String ∷ []
plain_kinds (Plain.Data DataOp.ConcatenateResTemplate) = K.Buffer ∷ []
plain_kinds (Plain.Data DataOp.ToBuffer) = K.Buffer ∷ []
plain_kinds (Plain.Data DataOp.ToDecimalString) = K.String ∷ []
plain_kinds (Plain.Data DataOp.ToHexString) = K.String ∷ []
plain_kinds (Plain.Data DataOp.ToString) = K.String ∷ []
plain_kinds (Plain.Data DataOp.Index) = K.Reference ∷ []
plain_kinds (Plain.Data DataOp.RefOf) = K.Reference ∷ []
plain_kinds (Plain.Event EventOp.Acquire) = K.Integer ∷ []
plain_kinds (Plain.Event EventOp.Wait) = K.Integer ∷ []
plain_kinds (Plain.Event EventOp.Timer) = K.Integer ∷ []
plain_kinds (Plain.Event EventOp.Revision) = K.Integer ∷ []
plain_kinds op = any_data

-- what a form gives that gives no argument on
abbrev pub form_kinds : Op → List ValueKind
form_kinds (Op.Plain op) = plain_kinds op
form_kinds (Op.Symbolic (Symbolic.Operator op)) = plain_kinds op
form_kinds (Op.Symbolic (Symbolic.AssignBy op)) = plain_kinds (compound_operator op)
form_kinds (Op.Literal literal) = K.Integer ∷ []
form_kinds (Op.Special Special.CondRefOf) = K.Integer ∷ []
form_kinds (Op.Special Special.Buffer) = K.Buffer ∷ []
form_kinds (Op.Special Special.Package) = K.Package ∷ []
form_kinds op = any_data

-- the place of the argument that a form gives on: the source of a store, and what Mid takes a part of
abbrev pub given_on : Op → Option ℕ
given_on (Op.Plain (Plain.Data DataOp.Store)) = Some 0
given_on (Op.Plain (Plain.Data DataOp.CopyObject)) = Some 0
given_on (Op.Plain (Plain.Data DataOp.Mid)) = Some 0
given_on (Op.Symbolic Symbolic.Assign) = Some 1
given_on op = None

-- what a form gives whose arguments have these kinds
abbrev pub given : Op → List (List ValueKind) → List ValueKind
given op arguments = choose (given_on op) (form_kinds op) (λ place. get_or arguments place any_data)

-- the kinds of what has no arguments, in a place or as a value; a name leads to this. A Local, an Arg and a call may give any data
abbrev pub leaf_kinds : Bool → Named → Plan → List ValueKind
leaf_kinds in_place object (an_integer number) = K.Integer ∷ []
leaf_kinds in_place object (a_word word) = K.Integer ∷ []
leaf_kinds in_place object (a_text bytes) = K.String ∷ []
leaf_kinds in_place object debug = K.Debug ∷ []
leaf_kinds in_place object (a_name name) = name_kinds in_place object
leaf_kinds in_place object p = any_data

-- whether a form gives data by its operator alone
abbrev pub gives_data : Op → Bool
gives_data (Op.Plain (Plain.Data DataOp.Store)) = false
gives_data (Op.Plain (Plain.Data DataOp.CopyObject)) = false
gives_data (Op.Plain (Plain.Data DataOp.Mid)) = false
gives_data (Op.Symbolic Symbolic.Assign) = false
gives_data (Op.Special Special.Package) = false
gives_data op = true

-- whether an expression is data by what it is alone
abbrev pub is_data : Plan → Bool
is_data (a_form op args body) = gives_data op
is_data (a_name name) = false
is_data debug = false
is_data p = true

-- `names` says what stands where the name at a node leads, by the number of the node
module _ (names : ℕ → Named) where
  abbrev mutual
    -- the kinds of the expression at a node, in a place or as a value
    pub kinds_of : Bool → ℕ → Plan → List ValueKind
    kinds_of in_place node (a_form op args body) = given op (kinds_all (suc node) args)
    kinds_of in_place node p = leaf_kinds in_place (names node) p

    -- those of each of some values, whose first stands at a node
    pub kinds_all : ℕ → Plans → List (List ValueKind)
    kinds_all node no_plans = []
    kinds_all node (plan place p ps) = kinds_of false node p ∷ kinds_all (suc (node + inside p)) ps

-- ---- the same in code

abbrev pub by_code : Option CodeLetter → Wanted
by_code None = by_letter None
by_code (Some letter) = by_letter (Some (letter_as letter))
