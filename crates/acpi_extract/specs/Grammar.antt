-- The grammar of a dump as a relation between its lines and its tables, or between its lines and their first fault.
use Rattle.std.specs.Prelude.{◌≡◌, ℕ, ◌+◌, true, false, List, [], ◌∷◌, ◌++◌, length, Some, None, ⊤}
use Rattle.iasl_messages.specs.declared.message.Stage.{Stage}
use Rattle.iasl_messages.specs.declared.message.Stage.TheVariants.{Refused, Memory}
use Rattle.hex_text.specs.Blanks.{has_blanks_alone}
use Rattle.acpi_extract.specs.Lines.{signature_of}
use Rattle.acpi_extract.specs.Rows.{row_of}
use Rattle.acpi_extract.specs.Dump.{Dumped, Fault, tells_length}
use Rattle.acpi_extract.specs.Table.{message_of}

-- a line that is neither blank nor a header
pub record IsInner (line : List ℕ) : Type 0 where
  pub not_blank : has_blanks_alone line ≡ false
  pub no_header : signature_of line ≡ None

-- lines under a header that spell these bytes, behind those before: each has an offset, which is the number of
-- bytes before it, and more bytes
pub data Spells : List ℕ → List (List ℕ) → List ℕ → Type 0 where
  ended : (bytes : List ℕ) → Spells bytes [] bytes
  row : (before more bytes line : List ℕ) (lines : List (List ℕ)) → IsInner line → row_of line ≡ Some (length before, more) →
      Spells (before ++ more) lines bytes → Spells before (line ∷ lines) bytes

-- the lines of a table end here: nothing follows, or a blank line, or a header
pub data EndsTable : List (List ℕ) → Type 0 where
  at_end : EndsTable []
  at_blank : (line : List ℕ) (lines : List (List ℕ)) → has_blanks_alone line ≡ true → EndsTable (line ∷ lines)
  at_header : (line signature : List ℕ) (lines : List (List ℕ)) → has_blanks_alone line ≡ false → signature_of line ≡ Some signature →
      EndsTable (line ∷ lines)

-- the lines of a dump with these tables: nothing; a blank line and a dump; or a header, the lines under it, and
-- then a dump
pub data IsDump : List (List ℕ) → List Dumped → Type 0 where
  nothing : IsDump [] []
  blank : (line : List ℕ) (lines : List (List ℕ)) (tables : List Dumped) → has_blanks_alone line ≡ true → IsDump lines tables →
      IsDump (line ∷ lines) tables
  table : (header signature bytes : List ℕ) (rows rest : List (List ℕ)) (tables : List Dumped) → has_blanks_alone header ≡ false →
      signature_of header ≡ Some signature → Spells [] rows bytes → tells_length signature bytes ≡ true → EndsTable rest →
      IsDump rest tables → IsDump (header ∷ rows ++ rest) ((signature, bytes) ∷ tables)

-- Lines under a header, of which the first has this number, go wrong behind these bytes. Behind lines that spell more
-- bytes there is one, neither blank nor a header, that is no offset with pairs (6101), or whose offset is not the
-- number of bytes before it (6102).
pub data GoWrong : ℕ → List ℕ → List (List ℕ) → Fault → Type 0 where
  unformed : (n : ℕ) (before line : List ℕ) (lines : List (List ℕ)) → IsInner line → row_of line ≡ None →
      GoWrong n before (line ∷ lines) (6101, n)
  displaced : (n offset : ℕ) (before more line : List ℕ) (lines : List (List ℕ)) → IsInner line → row_of line ≡ Some (offset, more) →
      (offset ≡ length before → ⊥) → GoWrong n before (line ∷ lines) (6102, n)
  behind : (n : ℕ) (before more line : List ℕ) (lines : List (List ℕ)) (fault : Fault) → IsInner line →
      row_of line ≡ Some (length before, more) → GoWrong (n + 1) (before ++ more) lines fault → GoWrong n before (line ∷ lines) fault

-- Lines, of which the first has this number, are no dump, and this is their first fault: a line under no header,
-- neither blank nor a header (6100); a fault of the lines under a header; or, at the header, bytes that do not tell
-- their number (6103). It stands behind blank lines and whole tables.
pub data HasFault : ℕ → List (List ℕ) → Fault → Type 0 where
  stray : (n : ℕ) (line : List ℕ) (lines : List (List ℕ)) → IsInner line → HasFault n (line ∷ lines) (6100, n)
  behind_blank : (n : ℕ) (line : List ℕ) (lines : List (List ℕ)) (fault : Fault) → has_blanks_alone line ≡ true →
      HasFault (n + 1) lines fault → HasFault n (line ∷ lines) fault
  in_rows : (n : ℕ) (header signature : List ℕ) (lines : List (List ℕ)) (fault : Fault) → has_blanks_alone header ≡ false →
      signature_of header ≡ Some signature → GoWrong (n + 1) [] lines fault → HasFault n (header ∷ lines) fault
  untold : (n : ℕ) (header signature bytes : List ℕ) (rows rest : List (List ℕ)) → has_blanks_alone header ≡ false →
      signature_of header ≡ Some signature → Spells [] rows bytes → tells_length signature bytes ≡ false → EndsTable rest
      → HasFault n (header ∷ rows ++ rest) (6103, n)
  behind_table : (n : ℕ) (header signature bytes : List ℕ) (rows rest : List (List ℕ)) (fault : Fault) → has_blanks_alone header ≡ false →
      signature_of header ≡ Some signature → Spells [] rows bytes → tells_length signature bytes ≡ true → EndsTable rest
      → HasFault (n + 1 + length rows) rest fault → HasFault n (header ∷ rows ++ rest) fault

-- why lines are refused: one message, which tells their first fault; of want of memory nothing is said
abbrev pub Explains : Stage → List (List ℕ) → Type 0
Explains Memory lines = ⊤
Explains (Refused messages) lines = (fault : Fault) × (messages ≡ message_of fault ∷ []) × HasFault 1 lines fault
