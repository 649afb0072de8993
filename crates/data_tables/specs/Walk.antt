-- The fields of a text, one line after another.
use Rattle.std.specs.Prelude.{ℕ, Bool, cond, List, [], ◌∷◌, ◌++◌, Some, None, Ok, Err}
use Rattle.std.specs.declared.option.Option.{Option}
use Rattle.std.specs.declared.result.Result.{Result}
use Rattle.std.specs.Str.{bytes_eq}
use Rattle.iasl_messages.specs.declared.place.Place.{Place}
use Rattle.iasl_messages.specs.declared.message.Message.{Message}
use Rattle.data_layout.specs.declared.row.Row.{Row}
use Rattle.data_text.specs.declared.field_line.FieldLine.{FieldLine}
use Rattle.data_tables.specs.declared.decoding.Decoded.{Decoded}
use Rattle.data_tables.specs.declared.decoding.Told.{Told}
use Rattle.data_tables.specs.declared.decoding.Told.TheVariants as told
use Rattle.data_tables.specs.Entry.{Value}
use Rattle.data_tables.specs.Fields.{number_of_value, value_of, row_key}
use Rattle.data_tables.specs.Parts.{Part, Opened, next_field, begins, behind, missing}
use Rattle.data_tables.specs.Decoding.{is_decoded, told_by, decoded_of}

-- a field with the line that gives it; a structure may begin with it
pub record Field : Type 0 where
  pub line : FieldLine
  pub begins : Bool
  pub row : Row
  pub value : Value

-- a message of this number, with no name
abbrev pub message_at : ℕ → Place → Message
message_at number place = record { number = number; place = place; name = [] }

-- what lines come to: their fields, the notes and the faults in order of the text
pub record Walked : Type 0 where
  pub fields : List Field
  pub notes : List Message
  pub faults : List Message

abbrev pub walked : List Field → List Message → List Message → Walked
walked fields notes faults = record { fields = fields; notes = notes; faults = faults }

-- these before the others
abbrev pub with_front : Walked → Walked → Walked
with_front front more = walked (front.fields ++ more.fields) (front.notes ++ more.notes) (front.faults ++ more.faults)

-- What a line is: a decoded line; a field, with what comes after it and the decoded lines that may follow; or a
-- fault, behind which nothing is looked at.
pub data Step : Type 0 where
  Passed : Told → Step
  Took : Row → Value → Part → Option Decoded → Step
  Halted : ℕ → Step

abbrev pub step_with : Row → Part → FieldLine → Result Value ℕ → Step
step_with row rest line (Err fault) = Halted fault
step_with row rest line (Ok value) = Took row value (behind rest row.kind (number_of_value value))
    (decoded_of row (number_of_value value) line)

-- a line with a value, where a field is due or none is (6092, 6097)
abbrev pub step_due : FieldLine → Result Opened ℕ → Step
step_due line (Err fault) = Halted fault
step_due line (Ok field) = step_with field.0 field.1 line (value_of field.1.table field.0 line.value)

-- a line without colon has no value (6093), whatever is due
abbrev pub step_at : FieldLine → Result Opened ℕ → Step
step_at line opened = cond line.colon (step_due line opened) (Halted 6093)

abbrev pub step_of : Part → Option Decoded → FieldLine → Step
step_of part decoded line = cond (is_decoded decoded line) (Passed (told_by decoded line)) (step_at line (next_field part))

-- an unknown label is a note (2002), a wrong value a fault (6096)
abbrev pub told_at : Place → Told → Walked
told_at place told.Nothing = walked [] [] []
told_at place told.Unknown = walked [] (message_at 2002 place ∷ []) []
told_at place told.Disagrees = walked [] [] (message_at 6096 place ∷ [])

-- a label that is not the field's is a note (3005)
abbrev pub label_note : Row → FieldLine → List Message
label_note row line = cond (bytes_eq line.label (row_key row)) [] (message_at 3005 line.place ∷ [])

abbrev pub field_at : FieldLine → Bool → Row → Value → Walked
field_at line begins row value = walked (record { line = line; begins = begins; row = row; value = value } ∷ []) (label_note row line) []

abbrev pub fault_at : Place → ℕ → Walked
fault_at place number = walked [] [] (message_at number place ∷ [])

-- a line, and then what `rest` makes of what comes after it
abbrev pub after_step : Part → Option Decoded → FieldLine → Step → (Part → Option Decoded → Walked) → Walked
after_step part decoded line (Passed told) rest = with_front (told_at line.place told) (rest part decoded)
after_step part decoded line (Took row value part' decoded') rest = with_front (field_at line (begins part) row value) (rest part' decoded')
after_step part decoded line (Halted fault) rest = fault_at line.place fault

abbrev pub fault_if : Place → Option ℕ → Walked
fault_if place None = walked [] [] []
fault_if place (Some fault) = fault_at place fault

-- what these lines come to, where the last line of the text stands at `end`
abbrev pub walk : Place → Part → Option Decoded → List FieldLine → Walked
walk end part decoded [] = fault_if end (missing part)
walk end part decoded (line ∷ lines) = after_step part decoded line (step_of part decoded line)
    (λ part' decoded'. walk end part' decoded' lines)
