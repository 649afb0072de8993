-- Which field comes next: the fields of the header, those of the fixed part, and then those of the structures.
use Rattle.std.specs.Prelude.{ℕ, ◌+◌, nat_lt, Bool, true, false, cond, List, [], ◌∷◌, Some, None, Ok, Err}
use Rattle.std.specs.declared.option.Option.{Option}
use Rattle.std.specs.declared.result.Result.{Result}
use Rattle.std.specs.Option.{unwrap_or}
use Rattle.data_layout.specs.declared.row.Row.{Row}
use Rattle.data_layout.specs.declared.row.Kind.{Kind}
use Rattle.data_layout.specs.declared.row.Kind.TheVariants as k
use Rattle.data_layout.specs.declared.row.Behind.{Behind}
use Rattle.data_layout.specs.declared.row.Behind.TheVariants as b
use Rattle.data_layout.specs.declared.table.Table.{Table}
use Rattle.data_layout.specs.Layout.{header_rows, fixed_rows, behind_of, entry_rows, type_rows, structure_rows, locality_row}
use Rattle.data_tables.specs.declared.part.After.{After}
use Rattle.data_tables.specs.declared.part.After.TheVariants as a

-- The fields that are still to come in the header, the fixed part or a structure, and what comes after them. The
-- revision is 0 until it has been read.
pub record Part : Type 0 where
  pub table : Table
  pub revision : ℕ
  pub rows : List Row
  pub after : After

-- the header of a table, and then its fixed part
abbrev pub first_part : Table → Part
first_part table = record { table = table; revision = 0; rows = header_rows; after = a.Fixed }

-- what comes after the fixed part
abbrev pub after_by : Behind → After
after_by b.Nothing = a.Nothing
after_by b.Entries = a.Entries
after_by b.Structures = a.Structures
after_by b.Localities = a.Matrix 0 0

abbrev pub after_fixed : Table → After
after_fixed table = after_by (behind_of table)

-- a field, and what comes after it
abbrev pub Opened : Type 0
Opened = Row × Part

-- the first of these fields; there is one in each part
abbrev pub first_of : Part → List Row → Result Opened ℕ
first_of part [] = Err 6092
first_of part (row ∷ rows) = Ok (row, record part { rows = rows })

-- the row of the next locality, or no further line (6097)
abbrev pub next_locality : Part → ℕ → ℕ → Result Opened ℕ
next_locality part count number =
    cond (nat_lt number count) (Ok (locality_row count number, record part { rows = []; after = a.Matrix count (number + 1) })) (Err 6097)

-- the first field after all of a part, or no further line (6092)
abbrev pub open_after : Part → After → Result Opened ℕ
open_after part a.Fixed = first_of (record part { after = after_fixed part.table }) (fixed_rows part.table part.revision)
open_after part a.Nothing = Err 6092
open_after part a.Entries = first_of part (entry_rows part.table)
open_after part a.Structures = first_of part (type_rows part.table)
open_after part (a.Matrix count number) = next_locality part count number

abbrev pub open_rows : Part → List Row → Result Opened ℕ
open_rows part [] = open_after part part.after
open_rows part (row ∷ rows) = Ok (row, record part { rows = rows })

-- the next field, or the number of the message that there is none
abbrev pub next_field : Part → Result Opened ℕ
next_field part = open_rows part part.rows

-- an entry, a structure or a row of a matrix begins with the next field
abbrev pub begins_after : After → Bool
begins_after a.Fixed = false
begins_after a.Nothing = false
begins_after a.Entries = true
begins_after a.Structures = true
begins_after (a.Matrix count number) = true

abbrev pub begins_rows : After → List Row → Bool
begins_rows after [] = begins_after after
begins_rows after (row ∷ rows) = false

abbrev pub begins : Part → Bool
begins part = begins_rows part.after part.rows

-- What comes after a field that has this number: a revision chooses the fixed part, a type the structure, and a
-- number of localities the rows of the matrix.
abbrev pub behind : Part → Kind → ℕ → Part
behind part k.Revision number = record part { revision = number }
behind part k.StructureType number = record part { rows = unwrap_or (structure_rows part.table number) [] }
behind part k.Localities number = record part { after = a.Matrix number 0 }
behind part kind number = part

-- the number of the message where the text ends here: a field is missing (6091), or a row of a matrix (6097)
abbrev pub missing_after : After → Option ℕ
missing_after a.Fixed = Some 6091
missing_after a.Nothing = None
missing_after a.Entries = None
missing_after a.Structures = None
missing_after (a.Matrix count number) = cond (nat_lt number count) (Some 6097) None

abbrev pub missing_rows : After → List Row → Option ℕ
missing_rows after [] = missing_after after
missing_rows after (row ∷ rows) = Some 6091

abbrev pub missing : Part → Option ℕ
missing part = missing_rows part.after part.rows
