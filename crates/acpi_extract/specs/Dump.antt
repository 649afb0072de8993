-- The tables of a dump, or its first fault.
use Rattle.std.specs.Prelude.{ℕ, ◌+◌, ◌==◌, ◌&&◌, ◌||◌, Bool, cond, nat_le, List, [], ◌∷◌, ◌++◌, length, drop, map, codes, Some, None, Ok}
use Rattle.std.specs.Prelude.{Err}
use Rattle.std.specs.declared.option.Option.{Option}
use Rattle.std.specs.declared.result.Result.{Result}
use Rattle.std.specs.Char.{to_ascii_lowercase}
use Rattle.std.specs.Str.{bytes_eq}
use Rattle.byteorder.specs.Endian.{little_number}
use Rattle.iasl_messages.specs.Cut.{lines_of}
use Rattle.hex_text.specs.Blanks.{has_blanks_alone}
use Rattle.acpi_extract.specs.Lines.{signature_of}
use Rattle.acpi_extract.specs.Rows.{Row, row_of}

-- a table of a dump: its signature as the header has it, and its bytes
abbrev pub Dumped : Type 0
Dumped = List ℕ × List ℕ

-- the number of a message, and the number of the line where it stands, from 1
abbrev pub Fault : Type 0
Fault = ℕ × ℕ

-- a line with its number
abbrev pub Numbered : Type 0
Numbered = ℕ × List ℕ

abbrev pub numbered_from : ℕ → List (List ℕ) → List Numbered
numbered_from n [] = []
numbered_from n (line ∷ lines) = (n, line) ∷ numbered_from (n + 1) lines

-- What the lines of a dump make up: a table, by the number of its header line, its signature and the lines
-- under the header; or a line that stands under no header, by its number.
pub data Block : Type 0 where
  Headed : ℕ → List ℕ → List Numbered → Block
  Stray : ℕ → Block

-- the first of lines that stand under no header
abbrev pub strays : List Numbered → List Block
strays [] = []
strays (line ∷ _) = Stray line.0 ∷ []

-- the lines at the front, up to a blank line or a header, and the blocks behind them
abbrev pub Cut : Type 0
Cut = List Numbered × List Block

abbrev pub cut_at_header : Numbered → Option (List ℕ) → Cut → Cut
cut_at_header line None cut = (line ∷ cut.0, cut.1)
cut_at_header line (Some signature) cut = ([], Headed line.0 signature cut.0 ∷ cut.1)

abbrev pub all_blocks : Cut → List Block
all_blocks cut = strays cut.0 ++ cut.1

abbrev pub cut_at_line : Numbered → Cut → Cut
cut_at_line line cut = cond (has_blanks_alone line.1) ([], all_blocks cut) (cut_at_header line (signature_of line.1) cut)

-- the lines under a header go up to a blank line, a further header or the end
abbrev pub cut_of : List Numbered → Cut
cut_of [] = ([], [])
cut_of (line ∷ lines) = cut_at_line line (cut_of lines)

-- the blocks of a dump
abbrev pub blocks_of : List Numbered → List Block
blocks_of lines = all_blocks (cut_of lines)

-- the bytes of the lines under a header, after those before; the first line that has not the form (6101), or
-- whose offset is not the number of bytes before it (6102)
abbrev pub bytes_with : ℕ → List ℕ → Option Row → (List ℕ → Result (List ℕ) Fault) → Result (List ℕ) Fault
bytes_with number before None then = Err (6101, number)
bytes_with number before (Some row) then = cond (row.0 == length before) (then (before ++ row.1)) (Err (6102, number))

abbrev pub bytes_of : List ℕ → List Numbered → Result (List ℕ) Fault
bytes_of before [] = Ok before
bytes_of before (line ∷ lines) = bytes_with line.0 before (row_of line.1) (λ bytes. bytes_of bytes lines)

-- the letters of a signature in lower case
abbrev pub lower : List ℕ → List ℕ
lower text = map to_ascii_lowercase text

-- the name under which tables are counted and chosen: the signature in lower case, `RSD PTR` as `rsdp`
abbrev pub stem_of : List ℕ → List ℕ
stem_of signature = cond (bytes_eq (lower signature) (codes "rsd ptr")) (codes "rsdp") (lower signature)

-- the 32-bit number at byte 4, the lowest byte first
abbrev pub told_length : List ℕ → ℕ
told_length bytes = little_number 4 (drop 4 bytes)

-- the length that a table tells is the number of its bytes; the pointer RSDP tells none
abbrev pub tells_length : List ℕ → List ℕ → Bool
tells_length signature bytes = bytes_eq (stem_of signature) (codes "rsdp") || (nat_le 8 (length bytes) && told_length bytes == length bytes)

-- a table, whose length is asked once its lines have no fault (6103)
abbrev pub table_of : ℕ → List ℕ → Result (List ℕ) Fault → Result Dumped Fault
table_of number signature (Err fault) = Err fault
table_of number signature (Ok bytes) = cond (tells_length signature bytes) (Ok (signature, bytes)) (Err (6103, number))

-- a block's table or fault; a line under no header is 6100
abbrev pub answer_of : Block → Result Dumped Fault
answer_of (Headed number signature lines) = table_of number signature (bytes_of [] lines)
answer_of (Stray number) = Err (6100, number)

-- an answer before the others
abbrev pub then_all : Result Dumped Fault → Result (List Dumped) Fault → Result (List Dumped) Fault
then_all (Err fault) rest = Err fault
then_all (Ok table) (Err fault) = Err fault
then_all (Ok table) (Ok tables) = Ok (table ∷ tables)

-- all tables, or the first fault
abbrev pub all_of : List Block → Result (List Dumped) Fault
all_of [] = Ok []
all_of (block ∷ blocks) = then_all (answer_of block) (all_of blocks)

-- the tables of a dump in order, or its first fault
abbrev pub dump_of : List ℕ → Result (List Dumped) Fault
dump_of text = all_of (blocks_of (numbered_from 1 (lines_of text)))
