-- What the values of Cases are compared by (ACPI Specification 6.4, 19.6.11).
use Rattle.std.specs.Prelude.{ℕ, zero, ◌-◌, ◌%◌, ◌&&◌, nat_eq, max, Bool, true, false, List, [], ◌∷◌, ◌++◌, map, length, replicate}
use Rattle.std.specs.Prelude.{unwrap_or, Option, Some, None}
use Rattle.std.specs.List.{list_any}
use Rattle.std.specs.Str.{bytes_eq}
use Rattle.std.specs.HashSet.{HashSet}
use Rattle.acpi_values.specs.Integers.{wrapped}
use Rattle.acpi_values.specs.declared.width.Width.{Width}
use Rattle.asl_tree.specs.Literals.{literal_number}
use Rattle.asl_tree.specs.declared.term.Op.{Op}
use Rattle.asl_tree.specs.declared.term.Special.TheVariants as Special
use Rattle.term_plans.specs.Plans.{Plan, an_integer, a_text, a_fill, a_form, Plans, no_plans, plan, plan_at, number_of}
use Rattle.switch_checks.specs.declared.value.CaseValue as D

-- an Integer, a String, or a Buffer of so many bytes, which are zeros behind those that are listed
pub data CaseValue : Type 0 where
  AnInteger : (number : ℕ) → CaseValue
  AString : (bytes : List ℕ) → CaseValue
  ABuffer : (size : ℕ) (bytes : List ℕ) → CaseValue

-- values of different kinds differ; Buffers are listed up to the last byte that is not zero
abbrev pub is_same : CaseValue → CaseValue → Bool
is_same (AnInteger n) (AnInteger m) = nat_eq n m
is_same (AString xs) (AString ys) = bytes_eq xs ys
is_same (ABuffer n xs) (ABuffer m ys) = nat_eq n m && bytes_eq xs ys
is_same _ _ = false

-- bytes up to the last that is not zero
abbrev pub trimmed_before : ℕ → List ℕ → List ℕ
trimmed_before zero [] = []
trimmed_before byte bytes = byte ∷ bytes

abbrev pub trimmed : List ℕ → List ℕ
trimmed [] = []
trimmed (byte ∷ bytes) = trimmed_before byte (trimmed bytes)

-- the byte that a number in braces is
abbrev pub byte_of : Plan → ℕ
byte_of p = number_of p % 256

-- the bytes of what stands alone in the braces of a Buffer: a string has a 00 behind it
abbrev pub alone_bytes : Plan → List ℕ
alone_bytes (a_text bytes) = bytes ++ 0 ∷ []
alone_bytes (a_fill bytes named) = bytes
alone_bytes p = byte_of p ∷ []

abbrev pub each_byte : Plans → List ℕ
each_byte no_plans = []
each_byte (plan place p ps) = byte_of p ∷ each_byte ps

-- the bytes that a Buffer lists
abbrev pub buffer_bytes : Plans → List ℕ
buffer_bytes (plan place p no_plans) = alone_bytes p
buffer_bytes ps = each_byte ps

-- a size that is written
abbrev pub size_in : Plan → Option ℕ
size_in (an_integer number) = Some number
size_in p = None

-- a Buffer has at least the bytes that it lists
abbrev pub buffer_of : Option ℕ → List ℕ → CaseValue
buffer_of size bytes = ABuffer (max (unwrap_or size 0) (length bytes)) (trimmed bytes)

-- the bytes that a Buffer lists, with zeros behind them up to its size
abbrev pub filled : Option ℕ → List ℕ → List ℕ
filled size bytes = bytes ++ replicate (unwrap_or size 0 - length bytes) 0

abbrev pub is_buffer : Op → Bool
is_buffer (Op.Special Special.Buffer) = true
is_buffer op = false

abbrev pub is_package : Op → Bool
is_package (Op.Special Special.Package) = true
is_package op = false

abbrev pub if_buffer : Bool → Plans → Plans → Option CaseValue
if_buffer true args body = Some (buffer_of (size_in (plan_at args 0)) (buffer_bytes body))
if_buffer false args body = None

-- the value of a form, a word or a Buffer
abbrev pub form_value : Width → Op → Plans → Plans → Option CaseValue
form_value width (Op.Literal literal) args body = Some (AnInteger (literal_number width literal))
form_value width op args body = if_buffer (is_buffer op) args body

-- the value of a constant; Integers are compared at this width
abbrev pub value_of : Width → Plan → Option CaseValue
value_of width (an_integer number) = Some (AnInteger (wrapped width number))
value_of width (a_text bytes) = Some (AString bytes)
value_of width (a_form op args body) = form_value width op args body
value_of width p = None

-- what a value in code stands for
abbrev pub shown : D.CaseValue → CaseValue
shown (D.CaseValue.Integer number) = AnInteger number
shown (D.CaseValue.String bytes) = AString bytes.items
shown (D.CaseValue.Buffer size bytes) = ABuffer size bytes.items

abbrev pub values_in : {S : Type 0} → HashSet D.CaseValue S → List CaseValue
values_in set = map shown set.keys

-- whether a value is among some
abbrev pub occurs : CaseValue → List CaseValue → Bool
occurs value values = list_any (is_same value) values
