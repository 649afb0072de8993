-- What a call is to end with: its status, the text of the console, and the files to put.
use Rattle.std.specs.Prelude.{ℕ, ◌+◌, ◌||◌, false, cond, nat_lt, nat_le, List, [], ◌∷◌, ◌++◌, length, codes, decimal, Some, None, Ok, Err}
use Rattle.std.specs.Prelude.{count_by}
use Rattle.std.specs.declared.option.Option.{Option}
use Rattle.std.specs.declared.result.Result.{Result}
use Rattle.std.specs.Option.{option_map}
use Rattle.std.specs.List.{flat_map}
use Rattle.std.specs.Str.{bytes_eq}
use Rattle.iasl_ports.specs.Gained.{Named}
use Rattle.iasl_ports.specs.Fetched.{find_file, most_bytes}
use Rattle.iasl_ports.specs.Delivery.{Answer}
use Rattle.iasl_messages.specs.declared.message.Message.{Message}
use Rattle.iasl_messages.specs.Console.{messages_text, summary_line, table_line, listed_line}
use Rattle.acpi_extract.specs.Dump.{Dumped, Fault, stem_of, dump_of}
use Rattle.acpi_extract.specs.Table.{message_of}
use Rattle.acpi_extract.specs.Words.{Asked, Listing, Request, request_of, is_asked}

-- how many of these tables have this stem
abbrev pub count_of : List ℕ → List Dumped → ℕ
count_of stem tables = count_by (λ table. bytes_eq stem (stem_of table.0)) tables

-- each table with its number among those of its stem, from 1, where these tables stand before
abbrev pub numbered : List Dumped → List Dumped → List (ℕ × Dumped)
numbered before [] = []
numbered before (table ∷ rest) = (count_of (stem_of table.0) before + 1, table) ∷ numbered (before ++ table ∷ []) rest

-- an SSDT always shows its number, any other table only from the second of its stem on
abbrev pub number_part : List ℕ → ℕ → List ℕ
number_part stem number = cond (bytes_eq stem (codes "ssdt") || nat_le 2 number) (decimal number) []

-- the name of a table's file
abbrev pub file_name : List ℕ → ℕ → List ℕ
file_name stem number = stem ++ number_part stem number ++ codes ".dat"

-- the file of a table, if it is asked for
abbrev pub file_of : Asked → ℕ × Dumped → List Named
file_of Listing (number, table) = []
file_of asked (number, table) = cond (is_asked asked table.0) ((file_name (stem_of table.0) number, table.1) ∷ []) []

-- the line of a table, if it is asked for: `NAME: SIGNATURE, N bytes`, or `SIGNATURE N bytes` in a list
abbrev pub line_of : Asked → ℕ × Dumped → List ℕ
line_of Listing (number, table) = listed_line table.0 (length table.1)
line_of asked (number, table) = cond (is_asked asked table.0) (table_line (file_name (stem_of table.0) number) table.0 (length table.1)) []

-- of a dump without fault
abbrev pub success : Asked → List Dumped → Answer
success asked tables = record {
  status = 0;
  text = flat_map (line_of asked) (numbered [] tables) ++ summary_line [];
  due = flat_map (file_of asked) (numbered [] tables);
}

-- of a dump with these faults: the messages, and no file
abbrev pub refusal : List ℕ → List Message → Answer
refusal file messages = record { status = 1; text = messages_text (file ∷ []) false messages ++ summary_line messages; due = [] }

abbrev pub answer_to_dump : Request → Result (List Dumped) Fault → Answer
answer_to_dump request (Err fault) = refusal request.file (message_of fault ∷ [])
answer_to_dump request (Ok tables) = success request.asked tables

-- a text of more than 16 MiB is not read: 6007 in line 1
abbrev pub answer_to_text : Request → List ℕ → Answer
answer_to_text request text = cond (nat_lt most_bytes (length text)) (refusal request.file (message_of (6007, 1) ∷ []))
    (answer_to_dump request (dump_of text))

-- of words that are not good
abbrev pub usage : Answer
usage = record { status = 2; text = codes "usage: acpixtract [options] FILE\n"; due = [] }

-- none where the file is not there
abbrev pub answer_to_request : Option Request → List Named → Option Answer
answer_to_request None told = Some usage
answer_to_request (Some request) told = option_map (answer_to_text request) (find_file told request.file)

-- what a call with these words is to end with, where these are the files
abbrev pub answer_for : List (List ℕ) → List Named → Option Answer
answer_for words told = answer_to_request (request_of words) told

-- the text of status 3
abbrev pub fault_text : List ℕ
fault_text = codes "acpixtract: file fault\n"

-- the text of status 4
abbrev pub memory_text : List ℕ
memory_text = codes "acpixtract: out of memory\n"
