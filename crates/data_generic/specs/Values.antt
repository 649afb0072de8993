-- The values of data lines that mention no label, and the bytes of values.
use Rattle.std.specs.Prelude.{ℕ, nat_le, ◌&&◌, Bool, cond, List, [], ◌∷◌, ◌++◌, length, Some, None}
use Rattle.std.specs.declared.option.Option.{Option}
use Rattle.std.specs.Option.{option_map, unwrap_or}
use Rattle.std.specs.List.{list_all}
use Rattle.byteorder.specs.Endian.{little_bytes}
use Rattle.resource_macros.specs.Identifiers.{uuid_of, utf16_of}
use Rattle.data_text.specs.Values.{text_in, bytes_in}
use Rattle.data_tables.specs.Entry.{Value, Number, Bytes}
use Rattle.data_generic.specs.declared.types.DataType.{DataType}
use Rattle.data_generic.specs.declared.types.DataType.TheVariants as d
use Rattle.data_generic.specs.Words.{word_in}

-- a character of ASCII but the first
abbrev pub is_ascii : ℕ → Bool
is_ascii c = nat_le 1 c && nat_le c 127

abbrev pub if_ascii : List ℕ → Option (List ℕ)
if_ascii text = cond (list_all is_ascii text) (Some text) None

-- a quoted text of ASCII
abbrev pub ascii_by : Option (List ℕ) → Option (List ℕ)
ascii_by None = None
ascii_by (Some text) = if_ascii text

abbrev pub ascii_in : List ℕ → Option (List ℕ)
ascii_in value = ascii_by (text_in value)

-- pairs, at least one
abbrev pub some_of : Option (List ℕ) → Option (List ℕ)
some_of None = None
some_of (Some []) = None
some_of (Some (byte ∷ bytes)) = Some (byte ∷ bytes)

abbrev pub pairs_in : List ℕ → Option (List ℕ)
pairs_in value = some_of (bytes_in value)

-- the bytes of a UUID, which stands in quotes or is a word
abbrev pub uuid_text : List ℕ → List ℕ
uuid_text value = unwrap_or (text_in value) (unwrap_or (word_in value) [])

abbrev pub uuid_in : List ℕ → Option (List ℕ)
uuid_in value = uuid_of (uuid_text value)

-- the value of a line that is no number and no label
abbrev pub plain_value : DataType → List ℕ → Option Value
plain_value d.Text value = option_map Bytes (text_in value)
plain_value d.WideText value = option_map Bytes (ascii_in value)
plain_value d.Buffer value = option_map Bytes (pairs_in value)
plain_value d.Guid value = option_map Bytes (uuid_in value)
plain_value (d.Number width) value = None
plain_value d.Label value = None

-- The bytes of a value: a number has its lowest first, a text ends in 0. A label has none.
abbrev pub bytes_by : DataType → Value → List ℕ
bytes_by (d.Number width) (Number number) = little_bytes width number
bytes_by d.Text (Bytes text) = text ++ 0 ∷ []
bytes_by d.WideText (Bytes text) = utf16_of text
bytes_by d.Buffer (Bytes bytes) = bytes
bytes_by d.Guid (Bytes bytes) = bytes
bytes_by form value = []

-- how many bytes a line has, where its type or its value tells that without a look at labels
abbrev pub size_by : Option DataType → List ℕ → Option ℕ
size_by None value = None
size_by (Some (d.Number width)) value = Some width
size_by (Some d.Label) value = Some 0
size_by (Some d.Text) value = option_map (λ v. length (bytes_by d.Text v)) (plain_value d.Text value)
size_by (Some d.WideText) value = option_map (λ v. length (bytes_by d.WideText v)) (plain_value d.WideText value)
size_by (Some d.Buffer) value = option_map (λ v. length (bytes_by d.Buffer v)) (plain_value d.Buffer value)
size_by (Some d.Guid) value = Some 16
