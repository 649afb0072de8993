-- What a field of a table says: the words by which what a text writes and what bytes say are compared.
use Rattle.std.specs.Prelude.{ℕ, List}
use Rattle.data_layout.specs.declared.row.Row.{Row}

-- a value: a number, or the bytes that a text or pairs of digits write
pub data Value : Type 0 where
  Number : ℕ → Value
  Bytes : List ℕ → Value

-- a value: the number of the entry or structure that it stands in, from 1, or 0 in the header and the fixed part; and
-- its field
pub record Entry : Type 0 where
  pub structure : ℕ
  pub row : Row
  pub value : Value
