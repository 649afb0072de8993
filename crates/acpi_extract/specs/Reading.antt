-- What a reader that has taken some lines will answer.
use Rattle.std.specs.Prelude.{◌≡◌, ℕ, ◌+◌, List, ◌++◌, map, Some, None, Ok, Err, ⊤}
use Rattle.std.specs.declared.option.Option.{Option}
use Rattle.std.specs.declared.result.Result.{Result}
use Rattle.acpi_extract.specs.declared.table.Unfinished.{Unfinished}
use Rattle.acpi_extract.specs.declared.dump.Reader.{Reader}
use Rattle.acpi_extract.specs.declared.dump.Halt.{Halt}
use Rattle.acpi_extract.specs.declared.dump.Halt.TheVariants.{At, Memory}
use Rattle.acpi_extract.specs.Dump.{Dumped, Fault, Cut, numbered_from, cut_of, all_blocks, all_of, bytes_of, table_of, then_all}
use Rattle.acpi_extract.specs.Table.{dumped}

-- tables before the others
abbrev pub after : List Dumped → Result (List Dumped) Fault → Result (List Dumped) Fault
after tables (Err fault) = Err fault
after tables (Ok more) = Ok (tables ++ more)

-- the unfinished table, if there is one, with the lines at the front, and then the blocks
abbrev pub answer_from : Option Unfinished → Cut → Result (List Dumped) Fault
answer_from None cut = all_of (all_blocks cut)
answer_from (Some table) cut = then_all (table_of table.number table.signature (bytes_of table.bytes.items cut.0)) (all_of cut.1)

-- what is answered in the end, where these lines come
abbrev pub answer_with : Reader → List (List ℕ) → Result (List Dumped) Fault
answer_with reader lines = after (map dumped reader.done) (answer_from reader.unfinished (cut_of (numbered_from (reader.number + 1) lines)))

-- the unfinished table, if there is one, without further lines, and then the others
abbrev pub closed_then : Option Unfinished → Result (List Dumped) Fault → Result (List Dumped) Fault
closed_then None rest = rest
closed_then (Some table) rest = then_all (table_of table.number table.signature (Ok table.bytes.items)) rest

-- the fault that is answered, or want of memory, of which nothing is said
abbrev pub Halts : {T : Type 0} → Halt → Result T Fault → Type 0
Halts (At number line) answer = answer ≡ Err (number, line)
Halts Memory answer = ⊤
