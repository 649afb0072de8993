-- The values of data lines fit their types.
use Rattle.std.proofs.Common.{◌≡◌, ◌<◌, ◌+◌, ◌-◌, ◌*◌, ◌%◌, ◌^◌, nat_eq, ℕ, true, false, cond, List, [], length, map, Option, Some, None, Ok, refl, sym, ap, arith, mod-lt}
use Rattle.std.specs.Prelude.{◌==◌, ◌&&◌}
use Rattle.std.specs.Option.{option_map}
use Rattle.std.proofs.Math.Nat.{one-le-pow}
use Rattle.resource_macros.specs.Identifiers.{uuid_of, are_in_form, pair, pair_places}
use Rattle.data_text.specs.declared.field_line.FieldLine.{FieldLine}
use Rattle.data_text.specs.Values.{number_in, text_in}
use Rattle.data_tables.specs.Entry.{Value, Number, Bytes}
use Rattle.data_tables.specs.Fields.{has_room}
use Rattle.data_tables.proofs.Spelled.{room_bound}
use Rattle.data_generic.specs.declared.types.DataType.{DataType}
use Rattle.data_generic.specs.declared.types.DataType.TheVariants as d
use Rattle.data_generic.specs.declared.labels.Label.{Label}
use Rattle.data_generic.specs.Words.{Reference, Offset, Difference, is_reference, reference_in, name_in}
use Rattle.data_generic.specs.Values.{uuid_in, ascii_in, pairs_in}
use Rattle.data_generic.specs.Walk.{Found, fault, in_room, number_by, offset_by, one_by, wrapped, difference_by, second_by, first_by, reference_by, number_at, if_first, label_by, plain_by, value_by}

-- a value of a type: a number with room in its bytes, a text, bytes, or nothing
abbrev pub Fits : DataType → Value → Type 0
Fits (d.Number width) value = (n : ℕ) × (value ≡ Number n) × (n < 2 ^ (8 * width))
Fits d.Guid value = (bytes : List ℕ) × (value ≡ Bytes bytes) × (length bytes ≡ 16)
Fits d.Label value = value ≡ Bytes []
Fits form value = (bytes : List ℕ) × (value ≡ Bytes bytes)

-- ---- numbers

abbrev IsNumber : ℕ → Value → Type 0
IsNumber width value = (n : ℕ) × (value ≡ Number n) × (n < 2 ^ (8 * width))

is_same : (v w : Value) → ◌≡◌ {A = Found} (Ok v) (Ok w) → v ≡ w
is_same v w e = cc

in_room_fits : (width : ℕ) (line : FieldLine) (n : ℕ) (value : Value) → in_room width line n ≡ Ok value → IsNumber width value
in_room_fits width line n value e =
    elim (has_room width n) as (λ b. has_room width n ≡ b → ◌≡◌ {A = Found} (cond b (Ok (Number n)) (fault line 6094)) (Ok value) → IsNumber width value) [
      | true ↦ λ f g. (n, sym (is_same (Number n) value g), room_bound width n f)
      | false ↦ λ f g. absurd cc
    ] refl e

positive : (width : ℕ) → 0 < 2 ^ (8 * width)
positive width = one-le-pow (8 * width) 2 (omega arith)

zero_fits : (width : ℕ) (value : Value) → ◌≡◌ {A = Found} (Ok (Number 0)) (Ok value) → IsNumber width value
zero_fits width value e = (0, sym (is_same (Number 0) value e), positive width)

below : (size n : ℕ) → 0 < size → n % size < size
below size n h = mod-lt n h

offset_fits : (width : ℕ) (line : FieldLine) (offset : Option ℕ) (value : Value) → offset_by width line offset ≡ Ok value → IsNumber width value
offset_fits width line None value e = zero_fits width value e
offset_fits width line (Some offset) value e = in_room_fits width line offset value e

one_fits : (width : ℕ) (line : FieldLine) (name : List ℕ) (label : Option Label) (value : Value) → one_by width line name label ≡ Ok value → IsNumber width value
one_fits width line name None value e = absurd cc
one_fits width line name (Some label) value e = offset_fits width line label.offset value e

difference_fits : (width : ℕ) (one other : Option ℕ) (value : Value) → difference_by width one other ≡ Ok value → IsNumber width value
difference_fits width None other value e = zero_fits width value e
difference_fits width (Some one) None value e = zero_fits width value e
difference_fits width (Some one) (Some other) value e =
    (wrapped width one other, sym (is_same (Number (wrapped width one other)) value e), below (2 ^ (8 * width)) ((one + (2 ^ 64 - other)) % 2 ^ 64) (positive width))

second_fits : (width : ℕ) (line : FieldLine) (one : Label) (name : List ℕ) (label : Option Label) (value : Value) → second_by width line one name label ≡ Ok value → IsNumber width value
second_fits width line one name None value e = absurd cc
second_fits width line one name (Some other) value e = difference_fits width one.offset other.offset value e

first_fits : (width : ℕ) (line : FieldLine) (name : List ℕ) (label : Option Label) (other : List ℕ) (found : Option Label) (value : Value) → first_by width line name label other found ≡ Ok value → IsNumber width value
first_fits width line name None other found value e = absurd cc
first_fits width line name (Some one) other found value e = second_fits width line one other found value e

reference_fits : (label : List ℕ → Option Label) (width : ℕ) (line : FieldLine) (reference : Option Reference) (value : Value) → reference_by label width line reference ≡ Ok value → IsNumber width value
reference_fits label width line None value e = absurd cc
reference_fits label width line (Some (Offset name)) value e = one_fits width line name (label name) value e
reference_fits label width line (Some (Difference name other)) value e = first_fits width line name (label name) other (label other) value e

plain_number_fits : (width : ℕ) (line : FieldLine) (found : Option ℕ) (value : Value) → number_by width line found ≡ Ok value → IsNumber width value
plain_number_fits width line None value e = absurd cc
plain_number_fits width line (Some n) value e = in_room_fits width line n value e

number_fits : (label : List ℕ → Option Label) (width : ℕ) (line : FieldLine) (value : Value) → number_at label width line ≡ Ok value → IsNumber width value
number_fits label width line value e =
    elim (is_reference line.value) as (λ b. cond b (reference_by label width line (reference_in line.value)) (number_by width line (number_in line.value)) ≡ Ok value → IsNumber width value) [
      | true ↦ λ g. reference_fits label width line (reference_in line.value) value g
      | false ↦ λ g. plain_number_fits width line (number_in line.value) value g
    ] e

-- ---- other values

uuid_length : (text bytes : List ℕ) → uuid_of text ≡ Some bytes → length bytes ≡ 16
unfolding uuid_of
uuid_length text bytes e =
    elim (length text == 36 && are_in_form 0 text) as (λ b. cond b (Some (map (pair text) pair_places)) None ≡ Some bytes → length bytes ≡ 16) [
      | true ↦ λ g. let h : ◌≡◌ {A = Option (List ℕ)} (Some (map (pair text) pair_places)) (Some bytes) = g in let same : map (pair text) pair_places ≡ bytes = cc in sym (ap length same)
      | false ↦ λ g. let h : ◌≡◌ {A = Option (List ℕ)} None (Some bytes) = g in absurd cc
    ] e

plain_fits : (line : FieldLine) (found : Option (List ℕ)) (value : Value) → plain_by line (option_map Bytes found) ≡ Ok value → (bytes : List ℕ) × (found ≡ Some bytes) × (value ≡ Bytes bytes)
plain_fits line None value e = absurd cc
plain_fits line (Some bytes) value e = (bytes, refl, sym (is_same (Bytes bytes) value e))

if_first_fits : (line : FieldLine) (index : ℕ) (label : Option Label) (value : Value) → if_first line index label ≡ Ok value → value ≡ Bytes []
if_first_fits line index None value e = sym (is_same (Bytes []) value e)
if_first_fits line index (Some label) value e =
    elim (nat_eq label.index index) as (λ b. ◌≡◌ {A = Found} (cond b (Ok (Bytes [])) (fault line 6111)) (Ok value) → value ≡ Bytes []) [
      | true ↦ λ g. sym (is_same (Bytes []) value g)
      | false ↦ λ g. absurd cc
    ] e

label_fits : (label : List ℕ → Option Label) (index : ℕ) (line : FieldLine) (name : Option (List ℕ)) (value : Value) → label_by label index line name ≡ Ok value → value ≡ Bytes []
label_fits label index line None value e = absurd cc
label_fits label index line (Some name) value e = if_first_fits line index (label name) value e

pub value_fits : (label : List ℕ → Option Label) (index : ℕ) (line : FieldLine) (form : DataType) (value : Value) → value_by label index line form ≡ Ok value → Fits form value
value_fits label index line (d.Number width) value e = number_fits label width line value e
value_fits label index line d.Label value e = label_fits label index line (name_in line.value) value e
value_fits label index line d.Text value e = let p = plain_fits line (text_in line.value) value e in (p.0, p.2)
value_fits label index line d.WideText value e = let p = plain_fits line (ascii_in line.value) value e in (p.0, p.2)
value_fits label index line d.Buffer value e = let p = plain_fits line (pairs_in line.value) value e in (p.0, p.2)
value_fits label index line d.Guid value e = let p = plain_fits line (uuid_in line.value) value e in (p.0, p.2, uuid_length _ p.0 p.1)
