-- Which fields a table has.
use Rattle.std.specs.Prelude.{ℕ, ◌-◌, ◌/◌, ◌%◌, ◌^◌, ◌==◌, ◌||◌, nat_le, not, Bool, true, false, cond, List, [], ◌∷◌, codes, Some, None}
use Rattle.std.specs.declared.option.Option.{Option}
use Rattle.std.specs.Option.{is_some}
use Rattle.std.specs.Str.{bytes_eq}
use Rattle.data_layout.specs.declared.row.Row.{Row}
use Rattle.data_layout.specs.declared.row.Flag.{Flag}
use Rattle.data_layout.specs.declared.row.Kind.TheVariants as k
use Rattle.data_layout.specs.declared.row.FlagSet.{FlagSet}
use Rattle.data_layout.specs.declared.row.FlagSet.TheVariants as f
use Rattle.data_layout.specs.declared.row.Size.{Size}
use Rattle.data_layout.specs.declared.row.Behind.{Behind}
use Rattle.data_layout.specs.declared.table.Table.{Table}
use Rattle.data_layout.specs.declared.table.Table.TheVariants as t
use Rattle.data_layout.specs.Layouts.{Layout, Structure, layouts, slit_layout}
use Rattle.data_layout.specs.declared.rows.TheConstants.{HEADER, LOCALITY}
use Rattle.data_layout.specs.declared.rows.TheConstants.{FADT_FLAGS, ARM_FLAGS, MADT_FLAGS, PROCESSOR_FLAGS, INTERRUPT_FLAGS}
use Rattle.data_layout.specs.declared.rows.TheConstants.{PAGE_PROTECT_FLAGS, AFFINITY_FLAGS, MEMORY_FLAGS, EMULATED_FLAGS, IMAGE_FLAGS}
use Rattle.data_layout.specs.declared.rows.TheConstants.{INSTRUCTION_FLAGS, DOORBELL_FLAGS, CHANNEL_FLAGS, TIMER_FLAGS}
use Rattle.data_layout.specs.declared.rows.TheConstants.{WATCHDOG_FLAGS, ADVANCED_ERROR_FLAGS, RANGE_FLAGS, DEVICE_FLAGS}
use Rattle.data_layout.specs.declared.rows.TheConstants.{WINDOW_FLAGS, CAPABILITY_FLAGS}

-- ---- tables and their layouts

abbrev pub signature_of : Table → List ℕ
signature_of t.Facp = codes "FACP"
signature_of t.Apic = codes "APIC"
signature_of t.Mcfg = codes "MCFG"
signature_of t.Hpet = codes "HPET"
signature_of t.Srat = codes "SRAT"
signature_of t.Slit = codes "SLIT"
signature_of t.Waet = codes "WAET"
signature_of t.Bert = codes "BERT"
signature_of t.Bgrt = codes "BGRT"
signature_of t.Spcr = codes "SPCR"
signature_of t.Tpm2 = codes "TPM2"
signature_of t.Erst = codes "ERST"
signature_of t.Einj = codes "EINJ"
signature_of t.Pcct = codes "PCCT"
signature_of t.Tcpa = codes "TCPA"
signature_of t.Gtdt = codes "GTDT"
signature_of t.Hest = codes "HEST"
signature_of t.Viot = codes "VIOT"
signature_of t.Nfit = codes "NFIT"

-- the table of a signature
abbrev pub find_table : List ℕ → List Layout → Option Table
find_table signature [] = None
find_table signature (layout ∷ others) = cond (bytes_eq signature layout.signature) (Some layout.table) (find_table signature others)

abbrev pub table_of : List ℕ → Option Table
table_of signature = find_table signature layouts

-- the layout of a table: the one with its signature
abbrev pub find_layout : List ℕ → List Layout → Layout
find_layout signature [] = slit_layout
find_layout signature (layout ∷ others) = cond (bytes_eq signature layout.signature) layout (find_layout signature others)

unfoldable pub layout_of : Table → Layout
layout_of table = find_layout (signature_of table) layouts

-- ---- the header and the fixed part

-- the fields of the header
unfoldable pub header_rows : List Row
header_rows = HEADER.now

-- how many bytes a table of this revision has, where it is one of these
abbrev pub bytes_in : ℕ → List Size → Option ℕ
bytes_in revision [] = None
bytes_in revision (size ∷ sizes) = cond (revision == size.revision) (Some size.bytes) (bytes_in revision sizes)

abbrev pub is_empty : List Size → Bool
is_empty [] = true
is_empty (size ∷ sizes) = false

-- a layout without sizes is known in each revision
abbrev pub knows_by : List Size → ℕ → Bool
knows_by sizes revision = is_empty sizes || is_some (bytes_in revision sizes)

abbrev pub knows_revision : Table → ℕ → Bool
knows_revision table revision = knows_by (layout_of table).sizes revision

-- whether the revision chooses how many bytes a table has
abbrev pub is_sized : Table → Bool
is_sized table = not (is_empty (layout_of table).sizes)

-- the first so many bytes of a layout
abbrev pub first_bytes : ℕ → List Row → List Row
first_bytes size [] = []
first_bytes size (row ∷ rows) = cond (nat_le row.width size) (row ∷ first_bytes (size - row.width) rows) []

-- those of a table that has so many bytes, of which the header has 36
abbrev pub rows_of_size : List Row → Option ℕ → List Row
rows_of_size rows None = []
rows_of_size rows (Some size) = first_bytes (size - 36) rows

-- all fields; or where the revision chooses the size, as many as have room
abbrev pub rows_by : List Size → List Row → ℕ → List Row
rows_by sizes rows revision = cond (is_empty sizes) rows (rows_of_size rows (bytes_in revision sizes))

-- the fields of the fixed part behind the header
unfoldable pub fixed_rows : Table → ℕ → List Row
fixed_rows table revision = rows_by (layout_of table).sizes (layout_of table).fixed revision

-- ---- behind the fixed part

-- what stands there
abbrev pub behind_of : Table → Behind
behind_of table = (layout_of table).behind

-- the fields of an entry, where the table has entries
abbrev pub entry_rows : Table → List Row
entry_rows table = (layout_of table).entries

-- what a structure begins with, its type, where the table has structures
abbrev pub type_rows : Table → List Row
type_rows table = (layout_of table).types

-- the fields of the structure of a type behind its type
abbrev pub find_structure : ℕ → List Structure → Option (List Row)
find_structure number [] = None
find_structure number (structure ∷ structures) = cond (number == structure.number) (Some structure.rows)
    (find_structure number structures)

-- the fields of a structure behind its type, where the table has structures of this type
abbrev pub structure_rows : Table → ℕ → Option (List Row)
structure_rows table number = find_structure number (layout_of table).structures

-- the field of a locality of the SLIT: a byte for each of so many localities
abbrev pub locality_row : ℕ → ℕ → Row
locality_row count number = record { label = LOCALITY; width = count; kind = k.Locality number; flags = f.None }

-- ---- flags

-- the flags that decoded lines may tell
unfoldable pub flags_of : FlagSet → List Flag
flags_of f.None = []
flags_of f.Fadt = FADT_FLAGS.now
flags_of f.Arm = ARM_FLAGS.now
flags_of f.Madt = MADT_FLAGS.now
flags_of f.Processor = PROCESSOR_FLAGS.now
flags_of f.Interrupt = INTERRUPT_FLAGS.now
flags_of f.PageProtect = PAGE_PROTECT_FLAGS.now
flags_of f.Affinity = AFFINITY_FLAGS.now
flags_of f.Memory = MEMORY_FLAGS.now
flags_of f.Emulated = EMULATED_FLAGS.now
flags_of f.Image = IMAGE_FLAGS.now
flags_of f.Instruction = INSTRUCTION_FLAGS.now
flags_of f.Doorbell = DOORBELL_FLAGS.now
flags_of f.Channel = CHANNEL_FLAGS.now
flags_of f.Timer = TIMER_FLAGS.now
flags_of f.Watchdog = WATCHDOG_FLAGS.now
flags_of f.AdvancedError = ADVANCED_ERROR_FLAGS.now
flags_of f.Range = RANGE_FLAGS.now
flags_of f.Device = DEVICE_FLAGS.now
flags_of f.Window = WINDOW_FLAGS.now
flags_of f.Capability = CAPABILITY_FLAGS.now

-- the bits of a field that a flag tells
abbrev pub flag_value : ℕ → Flag → ℕ
flag_value number flag = number / 2 ^ flag.first % 2 ^ flag.bits
