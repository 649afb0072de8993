-- What the code's values stand for.
use Rattle.std.specs.Prelude.{◌≡◌, ℕ, List, Ok, Err}
use Rattle.std.specs.declared.option.Option.{Option}
use Rattle.std.specs.declared.result.Result.{Result}
use Rattle.data_tables.specs.declared.field.Value.{Value as Found}
use Rattle.data_tables.specs.declared.field.Value.TheVariants as found
use Rattle.data_tables.specs.declared.part.Part.{Part as CodePart}
use Rattle.data_tables.specs.declared.part.Next.{Next}
use Rattle.data_tables.specs.declared.part.Next.TheVariants as next
use Rattle.data_tables.specs.declared.walk.Step.{Step as CodeStep}
use Rattle.data_tables.specs.declared.walk.Step.TheVariants as code
use Rattle.data_tables.specs.declared.decoding.Decoded.{Decoded}
use Rattle.data_layout.specs.declared.row.Row.{Row}
use Rattle.data_text.specs.declared.field_line.FieldLine.{FieldLine}
use Rattle.data_tables.specs.Entry.{Value, Number, Bytes}
use Rattle.data_tables.specs.Fields.{field_bytes}
use Rattle.data_tables.specs.Parts.{Part, Opened, behind}
use Rattle.data_tables.specs.Decoding.{decoded_of}
use Rattle.data_tables.specs.Walk.{Step, Passed, Took, Halted}

-- a value or the number of a message
abbrev pub IsValue : Found → Result Value ℕ → Type 0
IsValue (found.Number number) value = value ≡ Ok (Number number)
IsValue (found.Bytes bytes) value = value ≡ Ok (Bytes bytes.items)
IsValue (found.Fault fault) value = value ≡ Err fault

-- the fields that are still to come
abbrev pub part_of : CodePart → Part
part_of part = record { table = part.table; revision = part.revision; rows = part.rows.now; after = part.after }

-- the next field and what comes after it, or the number of a message
abbrev pub IsNext : Next → Result Opened ℕ → Type 0
IsNext (next.Field row rest) opened = opened ≡ Ok (row, part_of rest)
IsNext (next.Fault fault) opened = opened ≡ Err fault

-- what a line is; of a field the bytes are told
pub record IsTook (row : Row) (bytes : List ℕ) (rest : Part) (decoded : Option Decoded) (step : Step) : Type 0 where
  pub value : Value
  pub is : step ≡ Took row value rest decoded
  pub bytes_are : bytes ≡ field_bytes row value

abbrev pub IsStep : CodeStep → Step → Type 0
IsStep (code.Passed told) step = step ≡ Passed told
IsStep (code.Took row bytes part decoded) step = IsTook row bytes.items (part_of part) decoded step
IsStep (code.Halted fault) step = step ≡ Halted fault

-- a field that was taken with this number, these bytes and this part behind it
abbrev pub IsTaken : CodeStep → Row → ℕ → List ℕ → Part → FieldLine → Type 0
IsTaken (code.Passed told) row number bytes rest line = ⊥
IsTaken (code.Took row' bytes' part decoded) row number bytes rest line =
    (row' ≡ row) × (bytes'.items ≡ bytes) × (part_of part ≡ behind rest row.kind number) × (decoded ≡ decoded_of row number line)
IsTaken (code.Halted fault) row number bytes rest line = ⊥
