-- Where labels stand.
use Rattle.std.specs.Prelude.{ℕ, ◌+◌, ◌^◌, nat_lt, Bool, false, cond, List, [], ◌∷◌, Some, None}
use Rattle.std.specs.declared.option.Option.{Option}
use Rattle.std.specs.Option.{option_map}
use Rattle.std.specs.Str.{bytes_eq}
use Rattle.data_text.specs.declared.field_line.FieldLine.{FieldLine}
use Rattle.data_generic.specs.declared.types.DataType.{DataType}
use Rattle.data_generic.specs.declared.types.DataType.TheVariants as d
use Rattle.data_generic.specs.declared.labels.Label.{Label}
use Rattle.data_generic.specs.Types.{type_of_line}
use Rattle.data_generic.specs.Words.{name_in, name_key}
use Rattle.data_generic.specs.Values.{size_by}

-- the offset behind a line, where that before it and the line's size are known; an offset has 64 bits
abbrev pub moved : Option ℕ → Option ℕ → Option ℕ
moved None size = None
moved (Some offset) None = None
moved (Some offset) (Some size) = cond (nat_lt (offset + size) (2 ^ 64)) (Some (offset + size)) None

abbrev pub behind_line : Option ℕ → FieldLine → Option ℕ
behind_line offset line = moved offset (size_by (type_of_line line) line.value)

-- the name that a line declares, as names are compared
abbrev pub name_by : Option DataType → List ℕ → Option (List ℕ)
name_by (Some d.Label) value = option_map name_key (name_in value)
name_by (Some form) value = None
name_by None value = None

abbrev pub name_of : FieldLine → Option (List ℕ)
name_of line = name_by (type_of_line line) line.value

abbrev pub is_name : List ℕ → Option (List ℕ) → Bool
is_name name None = false
is_name name (Some other) = bytes_eq name other

-- The first label of a name among these lines, of which the first has this number and stands at this offset: the number
-- of its line, and the offset of the next byte behind it. There is no offset behind a line that has a fault.
abbrev pub label_from : List ℕ → ℕ → Option ℕ → List FieldLine → Option Label
label_from name index offset [] = None
label_from name index offset (line ∷ lines) =
    cond (is_name name (name_of line)) (Some (record { index = index; offset = offset }))
    (label_from name (index + 1) (behind_line offset line) lines)

-- the first label of a name among the data lines, which stand behind the 36 bytes of the header
abbrev pub label_of : List FieldLine → List ℕ → Option Label
label_of lines name = label_from (name_key name) 0 (Some 36) lines
