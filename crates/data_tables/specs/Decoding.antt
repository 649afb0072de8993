-- Decoded lines, which tell the flags of the field above them.
use Rattle.std.specs.Prelude.{ℕ, nat_eq, ◌==◌, ◌&&◌, ◌||◌, not, Bool, true, false, cond, List, [], ◌∷◌, codes, Some, None}
use Rattle.std.specs.declared.option.Option.{Option}
use Rattle.std.specs.Option.{is_some}
use Rattle.std.specs.List.{ends_with}
use Rattle.std.specs.Str.{bytes_eq}
use Rattle.data_layout.specs.declared.row.Row.{Row}
use Rattle.data_layout.specs.declared.row.Flag.{Flag}
use Rattle.data_layout.specs.Layout.{flags_of, flag_value}
use Rattle.data_text.specs.declared.field_line.FieldLine.{FieldLine}
use Rattle.data_text.specs.Labels.{label_key}
use Rattle.data_text.specs.Values.{number_in}
use Rattle.data_tables.specs.declared.decoding.Decoded.{Decoded}
use Rattle.data_tables.specs.declared.decoding.Told.{Told}
use Rattle.data_tables.specs.declared.decoding.Told.TheVariants as told

-- the flag of a label
abbrev pub find_flag : List ℕ → List Flag → Option Flag
find_flag label [] = None
find_flag label (flag ∷ flags) = cond (bytes_eq label (label_key flag.label)) (Some flag) (find_flag label flags)

abbrev pub flag_of : Decoded → FieldLine → Option Flag
flag_of field line = find_flag line.label (flags_of field.flags)

-- a line is a decoded one where its label is known for the field, or it has no part in brackets and the field's line has
abbrev pub is_decoded_below : Decoded → FieldLine → Bool
is_decoded_below field line = line.colon && (is_some (flag_of field line) || (field.bracketed && not line.bracketed))

abbrev pub is_decoded : Option Decoded → FieldLine → Bool
is_decoded None line = false
is_decoded (Some field) line = is_decoded_below field line

-- the value is no number or not this one, or it is it
abbrev pub agrees : Option ℕ → ℕ → Told
agrees None bits = told.Disagrees
agrees (Some number) bits = cond (number == bits) told.Nothing told.Disagrees

-- what a decoded line tells: an unknown label, or the bits of its flag, which it agrees with or not
abbrev pub told_by_flag : ℕ → FieldLine → Option Flag → Told
told_by_flag number line None = told.Unknown
told_by_flag number line (Some flag) = agrees (number_in line.value) (flag_value number flag)

abbrev pub told_by_field : Decoded → FieldLine → Told
told_by_field field line = told_by_flag field.number line (flag_of field line)

abbrev pub told_by : Option Decoded → FieldLine → Told
told_by None line = told.Nothing
told_by (Some field) line = told_by_field field line

abbrev pub has_flags : List Flag → Bool
has_flags [] = false
has_flags (flag ∷ flags) = true

-- decoded lines may follow a field line whose label ends in `(decoded below)`, or whose field has flags
abbrev pub decoded_of : Row → ℕ → FieldLine → Option Decoded
decoded_of row number line =
    cond (ends_with nat_eq line.label (codes "(decodedbelow)") || has_flags (flags_of row.flags))
    (Some (record { flags = row.flags; number = number; bracketed = line.bracketed })) None
