-- Worked fields of a serial bus and of pins: their bytes, and sessions over them, computed from the definitions alone.
use Rattle.std.proofs.Common.{◌≡◌, ℕ, true, false, List, [], ◌∷◌, Some, None, refl}
use Rattle.std.specs.Prelude.{codes}
use Rattle.acpi_values.specs.Paths.{NameSeg, AbsolutePath}
use Rattle.acpi_values.specs.declared.width.Width.TheVariants.{W64}
use Rattle.acpi_values.specs.declared.fault.Fault.TheVariants as Fault
use Rattle.acpi_values.specs.declared.operator.DataOp.TheVariants as DataOp
use Rattle.acpi_values.specs.declared.operator.IntOp.TheVariants as IntOp
use Rattle.acpi_values.specs.declared.operator.Plain.TheVariants as Plain
use Rattle.acpi_values.specs.Values as V
use Rattle.acpi_values.specs.Values.{Value, Data}
use Rattle.acpi_state.specs.FieldUnits.{Unconnected, ToObject, ToResource}
use Rattle.acpi_state.specs.Objects.{Names, ExternalObject, ExternalOther, Event, Read, Receive, Transfer, ReadPins, WritePins}
use Rattle.acpi_state.specs.Forms.{LocalSlot}
use Rattle.acpi_state.specs.Outcomes.{Flow, Normal, Gives, Result, Done, Stopped, Faulted}
use Rattle.acpi_state.specs.Sessions.{Report, Request}
use Rattle.asl_tree.specs.declared.path.Path.{Path}
use Rattle.asl_tree.specs.FieldItems.{FieldItem, UnitItem, OffsetItem, AccessItem, ConnectionItem, ToName, ToBytes}
use Rattle.asl_tree.specs.Tree.{At, UnitName, Tree, Integer, InSlot, Omitted, Use, Apply, Assigned, Name, Alias, External, Return, Method, OperationRegion, Field, BankField, Trees, no_trees, tree}
use Rattle.asl_meaning.specs.Declarations.{known_of}
use Rattle.asl_meaning.specs.SourceSession.{source_session}
use Rattle.aml_meaning.specs.Encoded.{encoded, encoded_terms}
use Rattle.aml_code.specs.Header.{HeaderFields, table_bytes}
use Rattle.aml_meaning.specs.ByteSession.{byte_session}
use Rattle.aml_meaning.specs.Codes.{code_front}

-- which node a term is makes no difference here
abbrev here : At
here = record { id = 0; place = record { file = 0; line = 0; column = 0 } }

abbrev segment : ℕ → NameSeg
segment letter = letter ∷ 0x5F ∷ 0x5F ∷ 0x5F ∷ []

abbrev con : NameSeg
con = 0x43 ∷ 0x4F ∷ 0x4E ∷ 0x30 ∷ []

abbrev named : NameSeg → Path
named seg = record { root = false; up = 0; segs = seg ∷ [] }

abbrev at : NameSeg → AbsolutePath
at seg = seg ∷ []

abbrev unit_of : ℕ → ℕ → FieldItem UnitName
unit_of letter bits = UnitItem (record { at = here; segment = segment letter }) bits

abbrev fields : HeaderFields
fields = record { signature = codes "SSDT"; revision = 2; oem_id = codes "OEMX00"; table_id = codes "TABLE001"; oem_revision = 1 }

abbrev table : Trees → List ℕ
table terms = table_bytes fields (encoded_terms W64 true terms)

abbrev call : List Request
call = record { path = at (segment 0x4D); args = [] } ∷ []

abbrev results : List Report → List (Result Flow)
results [] = []
results (r ∷ rs) = r.result ∷ results rs

abbrev events : List Report → List Event
events [] = []
events (r ∷ []) = r.events
events (r ∷ rs) = events rs

-- what the method M of a program does as its source says, and as its table says, with these answers
abbrev by_source : Trees → List Value → List Report
by_source terms answers = source_session W64 (known_of terms) terms [] 3 answers call

abbrev by_bytes : Trees → List Value → List Report
by_bytes terms answers = byte_session (table terms) [] 3 answers call

abbrev buffer : List ℕ → Value
buffer bytes = Data (V.Buffer bytes)

abbrev three_bytes : List Value
three_bytes = buffer (0x00 ∷ 0x01 ∷ 0x5A ∷ []) ∷ []

-- Field (R, BufferAcc, NoLock, Preserve) { Connection (CON0), AccessAs (BufferAcc, AttribByte), F, 8 }
abbrev serial : Tree
serial = Field here here (named (segment 0x52)) 5 (ConnectionItem (ToName here (named con)) ∷ AccessItem 5 6 None ∷ unit_of 0x46 8 ∷ [])

serial_bytes : encoded W64 true serial
    ≡ 0x5B ∷ 0x81 ∷ 0x13 ∷ 0x52 ∷ 0x5F ∷ 0x5F ∷ 0x5F ∷ 0x05 ∷ 0x02 ∷ 0x43 ∷ 0x4F ∷ 0x4E ∷ 0x30 ∷ 0x01 ∷ 0x05 ∷ 0x06 ∷ 0x46 ∷ 0x5F ∷ 0x5F ∷ 0x5F ∷ 0x08 ∷ []
serial_bytes = refl

-- Name (CON0, 1)  OperationRegion (R, GenericSerialBus, 0, 0x100)  the field  Method (M) { .. }
abbrev bus_and : Trees → Trees
bus_and body =
    tree (Name here (named con) (Integer 1))
    (tree (OperationRegion here (named (segment 0x52)) 9 (tree (Integer 0) (tree (Integer 0x100) no_trees)))
    (tree serial (tree (Method here (named (segment 0x4D)) 0 body) no_trees)))

abbrev with_bus : Tree → Trees
with_bus value = bus_and (tree (Return value) no_trees)

abbrev reads : Trees
reads = with_bus (Use here (named (segment 0x46)))

received : events (by_bytes reads three_bytes) ≡ Receive (at (segment 0x52)) 9 0 6 0 (ToObject (at con)) ∷ []
unfolding code_front
received = refl

given : results (by_bytes reads three_bytes) ≡ Done (Normal false) ∷ Done (Gives (buffer (0x00 ∷ 0x01 ∷ 0x5A ∷ []))) ∷ []
unfolding code_front
given = refl

received_source : by_source reads three_bytes ≡ by_bytes reads three_bytes
unfolding code_front
received_source = refl

-- Local0 = F  Return (Local0), and the same with the Store that the symbol stands for
abbrev keeps : Tree → Trees
keeps assignment = bus_and (tree assignment (tree (Return (InSlot (LocalSlot 0))) no_trees))

abbrev assigned : Trees
assigned = keeps (Assigned (InSlot (LocalSlot 0)) (Use here (named (segment 0x46))))

abbrev stored : Trees
stored = keeps (Apply (Plain.Data DataOp.Store) (tree (Use here (named (segment 0x46))) (tree (InSlot (LocalSlot 0)) no_trees)) no_trees)

assigned_events : events (by_source assigned three_bytes) ≡ Receive (at (segment 0x52)) 9 0 6 0 (ToObject (at con)) ∷ []
assigned_events = refl

assigned_results : results (by_source assigned three_bytes) ≡ Done (Normal false) ∷ Done (Gives (buffer (0x00 ∷ 0x01 ∷ 0x5A ∷ []))) ∷ []
assigned_results = refl

assigned_source : by_source assigned three_bytes ≡ by_bytes stored three_bytes
unfolding code_front
assigned_source = refl

-- Return (Store (0x12, F)): the answer stands in place of the source
abbrev writes : Trees
writes = with_bus (Apply (Plain.Data DataOp.Store) (tree (Integer 0x12) (tree (Use here (named (segment 0x46))) no_trees)) no_trees)

transferred : events (by_bytes writes (buffer (0x07 ∷ []) ∷ []))
    ≡ Transfer (at (segment 0x52)) 9 0 6 0 (ToObject (at con)) (0x12 ∷ 0 ∷ 0 ∷ 0 ∷ 0 ∷ 0 ∷ 0 ∷ 0 ∷ []) ∷ []
unfolding code_front
transferred = refl

answered : results (by_bytes writes (buffer (0x07 ∷ []) ∷ [])) ≡ Done (Normal false) ∷ Done (Gives (buffer (0x07 ∷ []))) ∷ []
unfolding code_front
answered = refl

transferred_source : by_source writes (buffer (0x07 ∷ []) ∷ []) ≡ by_bytes writes (buffer (0x07 ∷ []) ∷ [])
unfolding code_front
transferred_source = refl

-- an answer of another kind counts as the empty Buffer
other_answer : results (by_bytes reads (Data (V.Integer 7) ∷ [])) ≡ Done (Normal false) ∷ Done (Gives (buffer [])) ∷ []
unfolding code_front
other_answer = refl

-- without the connection's name the Field term faults
abbrev missing : Trees
missing =
    tree (OperationRegion here (named (segment 0x52)) 9 (tree (Integer 0) (tree (Integer 0x100) no_trees))) (tree serial no_trees)

not_found : results (byte_session (table missing) [] 3 [] []) ≡ Stopped (Faulted Fault.NotFound) ∷ []
unfolding code_front
not_found = refl

not_found_source : source_session W64 (known_of missing) missing [] 3 [] [] ≡ byte_session (table missing) [] 3 [] []
unfolding code_front
not_found_source = refl

-- OperationRegion (R, GeneralPurposeIO, 0, 0x100)
-- Field (R, AnyAcc, NoLock, Preserve) { Connection (a resource of two bytes), A, 3, AccessAs (AnyAcc, AttribBytes (9)), B, 2 }
abbrev pins : Tree
pins = Field here here (named (segment 0x52)) 0 (ConnectionItem (ToBytes (0x79 ∷ 0x00 ∷ [])) ∷ unit_of 0x41 3 ∷ AccessItem 0 0x0B (Some 9) ∷ unit_of 0x42 2 ∷ [])

pins_bytes : encoded W64 true pins
    ≡ 0x5B ∷ 0x81 ∷ 0x1B ∷ 0x52 ∷ 0x5F ∷ 0x5F ∷ 0x5F ∷ 0x00 ∷ 0x02 ∷ 0x11 ∷ 0x05 ∷ 0x0A ∷ 0x02 ∷ 0x79 ∷ 0x00 ∷ 0x41 ∷ 0x5F ∷ 0x5F ∷ 0x5F ∷ 0x03 ∷ 0x03 ∷ 0x00 ∷ 0x0B ∷ 0x09 ∷ 0x42 ∷ 0x5F ∷ 0x5F ∷ 0x5F ∷ 0x02 ∷ []
pins_bytes = refl

abbrev with_pins : Tree → Trees
with_pins value =
    tree (OperationRegion here (named (segment 0x52)) 8 (tree (Integer 0) (tree (Integer 0x100) no_trees)))
    (tree pins (tree (Method here (named (segment 0x4D)) 0 (tree (Return value) no_trees)) no_trees))

abbrev pin_reads : Trees
pin_reads = with_pins (Use here (named (segment 0x42)))

pins_read : events (by_bytes pin_reads (Data (V.Integer 0x0E) ∷ [])) ≡ ReadPins (at (segment 0x52)) 3 2 (ToResource (0x79 ∷ 0x00 ∷ [])) ∷ []
unfolding code_front
pins_read = refl

pins_given : results (by_bytes pin_reads (Data (V.Integer 0x0E) ∷ [])) ≡ Done (Normal false) ∷ Done (Gives (Data (V.Integer 2))) ∷ []
unfolding code_front
pins_given = refl

abbrev pin_writes : Trees
pin_writes = with_pins (Apply (Plain.Data DataOp.Store) (tree (Integer 0x0D) (tree (Use here (named (segment 0x41))) no_trees)) no_trees)

pins_written : events (by_bytes pin_writes []) ≡ WritePins (at (segment 0x52)) 0 3 (ToResource (0x79 ∷ 0x00 ∷ [])) 5 ∷ []
unfolding code_front
pins_written = refl

pins_source : by_source pin_writes [] ≡ by_bytes pin_writes []
unfolding code_front
pins_source = refl

pins_read_source : by_source pin_reads (Data (V.Integer 0x0E) ∷ []) ≡ by_bytes pin_reads (Data (V.Integer 0x0E) ∷ [])
unfolding code_front
pins_read_source = refl

-- OperationRegion (R, SystemMemory, 0, 0x100)  Field (R, ByteAcc, NoLock, Preserve) { A, 8, AccessAs (WordAcc), B, 8 }  Method (M) { Return (Add (A, B)) }
abbrev words : Trees
words =
    tree (OperationRegion here (named (segment 0x52)) 0 (tree (Integer 0) (tree (Integer 0x100) no_trees)))
    (tree (Field here here (named (segment 0x52)) 1 (unit_of 0x41 8 ∷ AccessItem 2 0 None ∷ unit_of 0x42 8 ∷ []))
    (tree (Method here (named (segment 0x4D)) 0 (tree (Return both) no_trees)) no_trees))
  where
    both : Tree
    both = Apply (Plain.Number IntOp.Add) (tree (Use here (named (segment 0x41))) (tree (Use here (named (segment 0x42))) no_trees)) (tree Omitted no_trees)

abbrev word_answers : List Value
word_answers = Data (V.Integer 5) ∷ Data (V.Integer 0xAB00) ∷ []

-- the unit behind the AccessAs alone is read by words
words_read : events (by_bytes words word_answers) ≡ Read (at (segment 0x52)) 0 0 1 ∷ Read (at (segment 0x52)) 0 0 2 ∷ []
unfolding code_front
words_read = refl

words_given : results (by_bytes words word_answers) ≡ Done (Normal false) ∷ Done (Gives (Data (V.Integer 0xB0))) ∷ []
unfolding code_front
words_given = refl

words_source : by_source words word_answers ≡ by_bytes words word_answers
unfolding code_front
words_source = refl

-- OperationRegion (I, SystemIO, 0, 8)  Field (I, ByteAcc, NoLock, Preserve) { B, 8 }
-- BankField (R, B, 3, BufferAcc, NoLock, Preserve) { Connection (CON0), AccessAs (BufferAcc, AttribWord), F, 16 }
abbrev banked : Tree → Trees
banked value =
    tree (Name here (named con) (Integer 1))
    (tree (OperationRegion here (named (segment 0x52)) 9 (tree (Integer 0) (tree (Integer 0x100) no_trees)))
    (tree (OperationRegion here (named (segment 0x49)) 1 (tree (Integer 0) (tree (Integer 8) no_trees)))
    (tree (Field here here (named (segment 0x49)) 1 (unit_of 0x42 8 ∷ []))
    (tree (BankField here here (named (segment 0x52)) here (named (segment 0x42)) (Integer 3) 5
    (ConnectionItem (ToName here (named con)) ∷ AccessItem 5 8 None ∷ unit_of 0x46 16 ∷ []))
    (tree (Method here (named (segment 0x4D)) 0 (tree (Return value) no_trees)) no_trees)))))

abbrev bank_reads : Trees
bank_reads = banked (Use here (named (segment 0x46)))

-- the read of a unit that moves as a Buffer is the one event, and no bank is written before it
bank_received : events (by_bytes bank_reads (buffer (0x5A ∷ []) ∷ [])) ≡ Receive (at (segment 0x52)) 9 0 8 0 (ToObject (at con)) ∷ []
unfolding code_front
bank_received = refl

bank_source : by_source bank_reads (buffer (0x5A ∷ []) ∷ []) ≡ by_bytes bank_reads (buffer (0x5A ∷ []) ∷ [])
unfolding code_front
bank_source = refl

abbrev bank_writes : Trees
bank_writes = banked (Apply (Plain.Data DataOp.Store) (tree (Integer 0x12) (tree (Use here (named (segment 0x46))) no_trees)) no_trees)

bank_transferred : events (by_bytes bank_writes (buffer (0x07 ∷ []) ∷ []))
    ≡ Transfer (at (segment 0x52)) 9 0 8 0 (ToObject (at con)) (0x12 ∷ 0 ∷ 0 ∷ 0 ∷ 0 ∷ 0 ∷ 0 ∷ 0 ∷ []) ∷ []
unfolding code_front
bank_transferred = refl

-- Name (CON0, 1)  Alias (CON0, A)  OperationRegion (R, GenericSerialBus, 0, 0x100)
-- Field (R, BufferAcc, NoLock, Preserve) { Offset (2), Connection (A), F, 8 }
abbrev aliased : Trees
aliased =
    tree (Name here (named con) (Integer 1))
    (tree (Alias here (named con) here (named (segment 0x41)))
    (tree (OperationRegion here (named (segment 0x52)) 9 (tree (Integer 0) (tree (Integer 0x100) no_trees)))
    (tree (Field here here (named (segment 0x52)) 5 (OffsetItem 2 ∷ ConnectionItem (ToName here (named (segment 0x41))) ∷ unit_of 0x46 8 ∷ []))
    (tree (Method here (named (segment 0x4D)) 0 (tree (Return (Use here (named (segment 0x46)))) no_trees)) no_trees))))

-- an event names the object that the alias stands for
alias_received : events (by_bytes aliased (buffer [] ∷ [])) ≡ Receive (at (segment 0x52)) 9 2 0 0 (ToObject (at con)) ∷ []
unfolding code_front
alias_received = refl

alias_source : by_source aliased (buffer [] ∷ []) ≡ by_bytes aliased (buffer [] ∷ [])
unfolding code_front
alias_source = refl

-- External (R, OpRegionObj)  Field (R, BufferAcc, NoLock, Preserve) { F, 8 }: the space of the region is not known
abbrev outside : Trees
outside =
    tree (External here here (named (segment 0x52)) 10 None)
    (tree (Field here here (named (segment 0x52)) 5 (unit_of 0x46 8 ∷ []))
    (tree (Method here (named (segment 0x4D)) 0 (tree (Return (Use here (named (segment 0x46)))) no_trees)) no_trees))

abbrev region_there : Names
region_there = (at (segment 0x52), ExternalObject (ExternalOther 10)) ∷ []

outside_received : events (byte_session (table outside) region_there 3 three_bytes call) ≡ Receive (at (segment 0x52)) 0xFF 0 0 0 Unconnected ∷ []
unfolding code_front
outside_received = refl

outside_source : source_session W64 (known_of outside) outside region_there 3 three_bytes call ≡ byte_session (table outside) region_there 3 three_bytes call
unfolding code_front
outside_source = refl
