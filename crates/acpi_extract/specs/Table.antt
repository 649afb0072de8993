-- What the code's tables and refusals stand for.
use Rattle.std.specs.Prelude.{◌≡◌, List, [], ◌∷◌, map, Ok, Err, ⊤}
use Rattle.std.specs.declared.result.Result.{Result}
use Rattle.iasl_messages.specs.declared.message.Message.{Message}
use Rattle.iasl_messages.specs.declared.message.Stage.{Stage}
use Rattle.iasl_messages.specs.declared.message.Stage.TheVariants.{Refused, Memory}
use Rattle.acpi_extract.specs.declared.table.Table.{Table}
use Rattle.acpi_extract.specs.Dump.{Dumped, Fault}

-- a table as its signature and its bytes
abbrev pub dumped : Table → Dumped
dumped table = (table.signature, table.bytes)

-- the message of a fault: in column 1 of its line, with no name
abbrev pub message_of : Fault → Message
message_of fault = record { number = fault.0; place = record { file = 0; line = fault.1; column = 1 }; name = [] }

-- a refusal is the one message of the dump's first fault, or want of memory, of which nothing is said
abbrev pub Refuses : Stage → Result (List Dumped) Fault → Type 0
Refuses (Refused messages) (Err fault) = messages ≡ message_of fault ∷ []
Refuses (Refused messages) (Ok tables) = ⊥
Refuses Memory dump = ⊤

-- a call answers with these tables or this fault, unless memory is wanted
abbrev pub Answers : Result (List Table) Stage → Result (List Dumped) Fault → Type 0
Answers (Ok tables) answer = answer ≡ Ok (map dumped tables)
Answers (Err stage) answer = Refuses stage answer
