-- The types of data lines.
use Rattle.std.specs.Prelude.{ℕ, Bool, true, false, cond, List, codes, Some, None}
use Rattle.std.specs.declared.option.Option.{Option}
use Rattle.std.specs.Str.{bytes_eq}
use Rattle.data_text.specs.declared.field_line.FieldLine.{FieldLine}
use Rattle.data_generic.specs.declared.types.DataType.{DataType}
use Rattle.data_generic.specs.declared.types.DataType.TheVariants as d

-- this type, where the label is so, or else another
abbrev pub or_other : List ℕ → List ℕ → DataType → Option DataType → Option DataType
or_other label word form other = cond (bytes_eq label word) (Some form) other

-- the type of a line with this label, in lower case
unfoldable pub type_of : List ℕ → Option DataType
type_of label =
    or_other label (codes "uint8") (d.Number 1) (
    or_other label (codes "uint16") (d.Number 2) (
    or_other label (codes "uint24") (d.Number 3) (
    or_other label (codes "uint32") (d.Number 4) (
    or_other label (codes "uint40") (d.Number 5) (
    or_other label (codes "uint48") (d.Number 6) (
    or_other label (codes "uint56") (d.Number 7) (
    or_other label (codes "uint64") (d.Number 8) (
    or_other label (codes "string") d.Text (
    or_other label (codes "unicode") d.WideText (
    or_other label (codes "buffer") d.Buffer (
    or_other label (codes "guid") d.Guid (
    or_other label (codes "label") d.Label None))))))))))))

-- the type of a line: blanks inside a label are no part of a type
abbrev pub type_of_line : FieldLine → Option DataType
type_of_line line = cond line.one_word (type_of line.label) None

abbrev pub is_label : DataType → Bool
is_label d.Label = true
is_label form = false
