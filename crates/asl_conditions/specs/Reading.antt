-- The value of a condition's tokens, read one after another.
use Rattle.std.specs.Prelude.{◌≡◌, ℕ, if◌then◌else◌, nat_lt, Bool, true, false, List, [], ◌∷◌, ◌++◌, length, Option, Some, None, Result}
use Rattle.std.specs.Prelude.{Ok, Err}
use Rattle.std.specs.Option.{option_and_then, option_map}
use Rattle.asl_conditions.specs.declared.operators.Operand.{Operand}
use Rattle.asl_conditions.specs.declared.tokens.ConditionToken.{ConditionToken}
use Rattle.asl_conditions.specs.declared.tokens.ConditionToken.TheVariants as t
use Rattle.asl_conditions.specs.declared.tokens.ConditionLexeme.{ConditionLexeme}
use Rattle.asl_conditions.specs.declared.tokens.ConditionLexeme.TheVariants.{Blank, Whole, Bad}
use Rattle.asl_conditions.specs.declared.opened.Opened.{Opened}
use Rattle.asl_conditions.specs.declared.opened.Opened.TheVariants as o
use Rattle.asl_conditions.specs.declared.reader.Phase.{Phase}
use Rattle.asl_conditions.specs.declared.reader.Phase.TheVariants as p
use Rattle.asl_conditions.specs.declared.reader.ConditionReader.{ConditionReader}
use Rattle.asl_conditions.specs.declared.reader.ConditionStop.{ConditionStop}
use Rattle.asl_conditions.specs.declared.reader.ConditionStop.TheVariants as stop
use Rattle.asl_conditions.specs.Operators.{truth, apply_prefix, operand, row_value}

-- how many parentheses and prefix operators may be open at once
abbrev pub limit : ℕ
limit = 128

-- what is read: the row of the innermost parentheses, and what is open around it, the innermost first
abbrev pub reader : Phase → List Operand → List Opened → ConditionReader
reader phase row opened = record { phase = phase; row = row; opened = opened }

abbrev pub is_prefix : Opened → Bool
is_prefix (o.Prefix operator) = true
is_prefix (o.Parenthesis outer) = false

-- whether the innermost that is open is a prefix operator
abbrev pub has_prefix : List Opened → Bool
has_prefix [] = false
has_prefix (top ∷ opened) = is_prefix top

-- an operand is whole, and so are the prefix operators before it
abbrev pub whole : List Operand → List Opened → ℕ → ConditionReader
whole row (o.Prefix operator ∷ opened) value = whole row opened (apply_prefix operator value)
whole row (o.Parenthesis outer ∷ opened) value = reader (p.Operator value) row (o.Parenthesis outer ∷ opened)
whole row [] value = reader (p.Operator value) row []

-- one more is open
abbrev pub open_more : List Operand → List Opened → Opened → Option ConditionReader
open_more row opened new = if nat_lt (length opened) limit then Some (reader p.Operand row (new ∷ opened)) else None

-- where an operand is to come
abbrev pub operand_step : List Operand → List Opened → ConditionToken → Option ConditionReader
operand_step row opened (t.Number n) = Some (whole row opened n)
operand_step row opened (t.Name is_defined) = Some (whole row opened 0)
operand_step row opened (t.Defined is_defined) = Some (reader p.Defined row opened)
operand_step row opened t.Open = open_more [] opened (o.Parenthesis row)
operand_step row opened t.Close = None
operand_step row opened (t.Prefix operator) = open_more row opened (o.Prefix operator)
operand_step row opened (t.Infix operator) = None

-- the parentheses close, and their value is an operand of the row around them
abbrev pub closed : List Opened → Option ℕ → Option ConditionReader
closed (o.Parenthesis outer ∷ opened) value = option_map (λ v. whole outer opened v) value
closed (o.Prefix operator ∷ opened) value = None
closed [] value = None

-- where an operator is to come
abbrev pub operator_step : ℕ → List Operand → List Opened → ConditionToken → Option ConditionReader
operator_step value row opened (t.Infix operator) = Some (reader p.Operand (row ++ operand value operator ∷ []) opened)
operator_step value row opened t.Close = closed opened (row_value row value)
operator_step value row opened (t.Number n) = None
operator_step value row opened (t.Name is_defined) = None
operator_step value row opened (t.Defined is_defined) = None
operator_step value row opened t.Open = None
operator_step value row opened (t.Prefix operator) = None

-- behind `defined`: a name, or a parenthesis, which counts as one that is open
abbrev pub defined_step : List Operand → List Opened → ConditionToken → Option ConditionReader
defined_step row opened (t.Name is_defined) = Some (whole row opened (truth is_defined))
defined_step row opened t.Open = if nat_lt (length opened) limit then Some (reader p.DefinedParenthesis row opened) else None
defined_step row opened (t.Number n) = None
defined_step row opened (t.Defined is_defined) = Some (whole row opened (truth is_defined))
defined_step row opened t.Close = None
defined_step row opened (t.Prefix operator) = None
defined_step row opened (t.Infix operator) = None

-- behind that parenthesis: a name
abbrev pub parenthesis_step : List Operand → List Opened → ConditionToken → Option ConditionReader
parenthesis_step row opened (t.Name is_defined) = Some (reader (p.DefinedName (truth is_defined)) row opened)
parenthesis_step row opened (t.Defined is_defined) = Some (reader (p.DefinedName (truth is_defined)) row opened)
parenthesis_step row opened _ = None

-- behind that name: the closing parenthesis
abbrev pub name_step : ℕ → List Operand → List Opened → ConditionToken → Option ConditionReader
name_step value row opened t.Close = Some (whole row opened value)
name_step value row opened _ = None

abbrev pub step_by : Phase → List Operand → List Opened → ConditionToken → Option ConditionReader
step_by p.Operand row opened token = operand_step row opened token
step_by (p.Operator value) row opened token = operator_step value row opened token
step_by p.Defined row opened token = defined_step row opened token
step_by p.DefinedParenthesis row opened token = parenthesis_step row opened token
step_by (p.DefinedName value) row opened token = name_step value row opened token

unfoldable pub step : ConditionReader → ConditionToken → Option ConditionReader
step r token = step_by r.phase r.row r.opened token

-- what stands at a place
abbrev pub read : ConditionReader → ConditionLexeme → Option ConditionReader
read r Blank = Some r
read r (Whole token) = step r token
read r Bad = None

-- at the end: the row, where nothing is open
abbrev pub finish_by : Phase → List Operand → List Opened → Option ℕ
finish_by (p.Operator value) row [] = row_value row value
finish_by _ row opened = None

-- the value of what was read and of the tokens to come
unfoldable pub run : ConditionReader → List ConditionToken → Option ℕ
run r [] = finish_by r.phase r.row r.opened
run r (token ∷ tokens) = option_and_then (λ next. run next tokens) (step r token)

-- nothing is read yet
abbrev pub start : ConditionReader
start = reader p.Operand [] []

-- the value of tokens; none where they are no expression, open too much at once, or divide by 0
abbrev pub value_of : List ConditionToken → Option ℕ
value_of tokens = run start tokens

-- ---- what the code ensures

-- an answer, or why there is none
abbrev pub Fails : {Y : Type 0} → ConditionStop → Option Y → Type 0
Fails stop.Bad y = y ≡ None
Fails stop.Memory y = Unit {0}

abbrev pub Gives : {Y : Type 0} → Result Y ConditionStop → Option Y → Type 0
Gives (Ok x) y = y ≡ Some x
Gives (Err e) y = Fails e y
