-- The fields of descriptors as the ACPI Specification 6.4 states them (6.4.2 and 6.4.3), in the order of the arguments of
-- their macros (19.6).
use Rattle.std.specs.Prelude.{ℕ, ◌+◌, ◌*◌, List, [], ◌∷◌, ◌++◌, codes, Some, None}
use Rattle.std.specs.declared.option.Option.{Option}
use Rattle.resource_layout.specs.declared.descriptor.Descriptor.{Descriptor}
use Rattle.resource_layout.specs.declared.descriptor.Descriptor.TheVariants as d
use Rattle.resource_layout.specs.declared.descriptor.Kind.{Kind}
use Rattle.resource_layout.specs.declared.descriptor.Kind.TheVariants as k
use Rattle.resource_layout.specs.declared.descriptor.Giver.{Giver}
use Rattle.resource_layout.specs.declared.descriptor.Giver.TheVariants as g
use Rattle.resource_layout.specs.declared.descriptor.Field.{Field}

-- ---- one field

abbrev pub field : List ℕ → ℕ → ℕ → Giver → Option ℕ → Field
field name at bits giver default = record { argument = 0; name = name; at = at; bits = bits; giver = giver; default = default }

-- where a field has no name
abbrev pub blank : List ℕ
blank = codes "    "

-- a number that stands from a byte on
abbrev pub number : List ℕ → ℕ → ℕ → Field
number name byte bits = field name (8 * byte) bits g.Number None

-- one that may be left out, and is 0 then
abbrev pub optional_number : List ℕ → ℕ → ℕ → Field
optional_number name byte bits = field name (8 * byte) bits g.Number (Some 0)

-- a word of a kind, from a bit of a byte on
abbrev pub word : List ℕ → ℕ → ℕ → ℕ → Kind → Field
word name byte bit bits kind = field name (8 * byte + bit) bits (g.Word kind) None

-- one that may be left out, and what it is then
abbrev pub optional_word : List ℕ → ℕ → ℕ → ℕ → Kind → ℕ → Field
optional_word name byte bit bits kind default = field name (8 * byte + bit) bits (g.Word kind) (Some default)

-- a word of the kind's first ones, so many; it may be left out where it has a value then
abbrev pub word_below : List ℕ → ℕ → ℕ → ℕ → Kind → ℕ → Option ℕ → Field
word_below name byte bit bits kind limit default = field name (8 * byte + bit) bits (g.WordBelow kind limit) default

-- a number from the first to the last
abbrev pub between : ℕ → ℕ → ℕ → ℕ → ℕ → Field
between byte bit bits first last = field blank (8 * byte + bit) bits (g.Between first last) None

-- a byte that no argument gives
abbrev pub always : ℕ → ℕ → Field
always byte number = field blank (8 * byte) 8 (g.Fixed number) None

-- the arguments that give no bits: the descriptor's name, and the index and the text of a source
abbrev pub descriptor_name : Field
descriptor_name = field blank 0 0 g.Name (Some 0)

abbrev pub source_index : Field
source_index = field blank 0 0 g.Index (Some 0)

abbrev pub source : Field
source = field blank 0 0 g.Source (Some 0)

-- the text of a source that has no index of its own, and may not be left out
abbrev pub text : Field
text = field blank 0 0 g.Text None

-- an argument that stands empty
abbrev pub vacant : Field
vacant = field blank 0 0 g.Vacant (Some 0)

-- so many bits from a byte on that no argument gives
abbrev pub fixed : ℕ → ℕ → ℕ → Field
fixed byte bits number = field blank (8 * byte) bits (g.Fixed number) None

-- ---- fields that several descriptors have

-- consumer, where it is left out
abbrev pub usage : ℕ → Field
usage byte = optional_word blank byte 0 1 k.Usage 1

-- exclusive, where it is left out
abbrev pub sharing : ℕ → ℕ → Field
sharing byte bit = optional_word (codes "_SHR") byte bit 2 k.Sharing 0

-- for reading and writing, where it is left out
abbrev pub access : ℕ → Field
access byte = optional_word (codes "_RW_") byte 0 1 k.Access 1

-- the fields of 24-bit and 32-bit memory (6.4.3.1, 6.4.3.3), whose numbers have so many bytes each
abbrev pub memory_range : ℕ → List Field
memory_range width =
    access 3 ∷ number (codes "_MIN") 4 (8 * width) ∷ number (codes "_MAX") (4 + width) (8 * width)
    ∷ number (codes "_ALN") (4 + 2 * width) (8 * width) ∷ number (codes "_LEN") (4 + 3 * width) (8 * width) ∷ descriptor_name ∷ []

-- ---- address spaces (6.4.3.5)

-- the general flags
abbrev pub decode : Field
decode = optional_word (codes "_DEC") 4 1 1 k.Decode 0

abbrev pub minimum_fixed : Field
minimum_fixed = optional_word (codes "_MIF") 4 2 1 k.MinimumFixed 0

abbrev pub maximum_fixed : Field
maximum_fixed = optional_word (codes "_MAF") 4 3 1 k.MaximumFixed 0

abbrev pub translation : ℕ → Field
translation bit = optional_word (codes "_TTP") 5 bit 1 k.Translation 0

-- five numbers, each of so many bytes, from a byte on
abbrev pub ranges : ℕ → ℕ → List Field
ranges byte width =
    number (codes "_GRA") byte (8 * width) ∷ number (codes "_MIN") (byte + width) (8 * width) ∷ number (codes "_MAX") (byte + 2 * width)
    (8 * width)
    ∷ number (codes "_TRA") (byte + 3 * width) (8 * width) ∷ number (codes "_LEN") (byte + 4 * width) (8 * width) ∷ []

-- and the source and the name behind them
abbrev pub with_source : ℕ → List Field
with_source width = ranges 6 width ++ (source_index ∷ source ∷ descriptor_name ∷ [])

-- those of an extended address space, with its attributes and its name
abbrev pub extended : List Field
extended = ranges 8 8 ++ (optional_number (codes "_ATT") 48 64 ∷ descriptor_name ∷ [])

abbrev pub io : List Field → List Field
io numbers =
    (usage 4 ∷ minimum_fixed ∷ maximum_fixed ∷ decode ∷ optional_word (codes "_RNG") 5 0 2 k.IsaRange 3 ∷ [])
    ++ numbers ++ (translation 4 ∷ optional_word (codes "_TRS") 5 5 1 k.Sparse 0 ∷ [])

abbrev pub memory : List Field → List Field
memory numbers =
    (usage 4 ∷ decode ∷ minimum_fixed ∷ maximum_fixed ∷ optional_word (codes "_MEM") 5 1 2 k.Caching 0 ∷ access 5 ∷ [])
    ++ numbers ++ (optional_word (codes "_MTP") 5 3 2 k.Range 0 ∷ translation 5 ∷ [])

abbrev pub bus_number : List Field → List Field
bus_number numbers = (usage 4 ∷ minimum_fixed ∷ maximum_fixed ∷ decode ∷ []) ++ numbers

-- a space of a type of its own, with flags of its own
abbrev pub space : List Field → List Field
space numbers = (between 3 0 8 0xC0 0xFF ∷ usage 4 ∷ decode ∷ minimum_fixed ∷ maximum_fixed ∷ number blank 5 8 ∷ []) ++ numbers

-- the byte that tells the type, and the revision of an extended one
abbrev pub memory_type : Field
memory_type = always 3 0

abbrev pub io_type : Field
io_type = always 3 1

abbrev pub bus_number_type : Field
bus_number_type = always 3 2

abbrev pub revision : Field
revision = always 6 1

-- ---- pins (6.4.3.8.1): the pull, the debounce time, and what stands behind these in both

abbrev pub pull : Field
pull = field (codes "_PPI") (8 * 9) 8 (g.WordOrNumber k.Pull) None

abbrev pub debounce : Field
debounce = optional_number (codes "_DBT") 12 16

abbrev pub pin_source : List Field
pin_source = text ∷ optional_number blank 16 8 ∷ usage 5 ∷ descriptor_name ∷ vacant ∷ []

-- the revision, the kind, where the pins stand, and where the text of the source stands and ends
abbrev pub pin_places : ℕ → List Field
pin_places kind =
    fixed 3 8 1 ∷ fixed 4 8 kind ∷ fixed 14 16 0x17 ∷ field blank (8 * 17) 16 g.TextPlace None ∷ field blank (8 * 19) 16 g.TextEnd None ∷ []

-- ---- each descriptor

-- what its arguments give, in their order
abbrev pub arguments : Descriptor → List Field
arguments d.Irq = word (codes "_HE_") 3 0 1 k.Mode ∷ word_below (codes "_LL_") 3 3 1 k.Level 2 None ∷ sharing 3 4 ∷ descriptor_name ∷ []
arguments d.IrqNoFlags = descriptor_name ∷ []
arguments d.Dma = word (codes "_TYP") 2 5 2 k.DmaType ∷ word (codes "_BM_") 2 2 1 k.BusMaster ∷ word (codes "_SIZ") 2 0 2 k.Transfer ∷
    descriptor_name ∷ []
arguments d.FixedDma = number (codes "_DMA") 1 16 ∷ number (codes "_TYP") 3 16 ∷ optional_word (codes "_SIZ") 5 0 8 k.DmaWidth 2 ∷
    descriptor_name ∷ []
arguments d.StartDependentFn = between 1 0 2 0 2 ∷ between 1 2 2 0 2 ∷ []
arguments d.StartDependentFnNoPri = []
arguments d.EndDependentFn = []
arguments d.Io =
    word (codes "_DEC") 1 0 1 k.IoDecode ∷ number (codes "_MIN") 2 16 ∷ number (codes "_MAX") 4 16 ∷ number (codes "_ALN") 6 8 ∷ number
    (codes "_LEN") 7 8 ∷ descriptor_name ∷ []
arguments d.FixedIo = number (codes "_BAS") 1 16 ∷ number (codes "_LEN") 3 8 ∷ descriptor_name ∷ []
arguments d.VendorShort = descriptor_name ∷ []
arguments d.VendorLong = descriptor_name ∷ []
arguments d.Memory24 = memory_range 2
arguments d.Memory32 = memory_range 4
arguments d.Memory32Fixed = access 3 ∷ number (codes "_BAS") 4 32 ∷ number (codes "_LEN") 8 32 ∷ descriptor_name ∷ []
arguments d.Register =
    field (codes "_ASI") (8 * 3) 8 (g.WordOrNumber k.Space) None ∷ number (codes "_RBW") 4 8 ∷ number (codes "_RBO") 5 8 ∷ number
    (codes "_ADR") 7 64
    ∷ optional_number (codes "_ASZ") 6 8 ∷ descriptor_name ∷ []
arguments d.Interrupt =
    usage 3 ∷ word (codes "_HE_") 3 1 1 k.Mode ∷ word_below (codes "_LL_") 3 2 1 k.Level 2 None ∷ sharing 3 3 ∷ source_index ∷ source ∷
    descriptor_name ∷ []
arguments d.WordIo = io (with_source 2)
arguments d.DWordIo = io (with_source 4)
arguments d.QWordIo = io (with_source 8)
arguments d.ExtendedIo = io extended
arguments d.DWordMemory = memory (with_source 4)
arguments d.QWordMemory = memory (with_source 8)
arguments d.ExtendedMemory = memory extended
arguments d.WordBusNumber = bus_number (with_source 2)
arguments d.WordSpace = space (with_source 2)
arguments d.DWordSpace = space (with_source 4)
arguments d.QWordSpace = space (with_source 8)
arguments d.ExtendedSpace = space extended
arguments d.GpioInt = (word blank 7 0 1 k.Mode ∷ word (codes "_POL") 7 1 2 k.Level ∷ sharing 7 3 ∷ pull ∷ debounce ∷ []) ++ pin_source
arguments d.GpioIo =
    (sharing 7 3 ∷ pull ∷ debounce ∷ optional_number (codes "_DRS") 10 16 ∷ optional_word (codes "_IOR") 7 0 2 k.IoRestriction 0 ∷ [])
    ++ pin_source
arguments d.I2cSerialBus =
    number (codes "_ADR") 16 16 ∷ word blank 6 0 1 k.Initiator ∷ number (codes "_SPE") 12 32 ∷ word blank 7 0 1 k.Addressing ∷ text ∷
    optional_number blank 4 8
    ∷ optional_word blank 6 1 1 k.Usage 1 ∷ descriptor_name ∷ word_below (codes "_SHR") 6 2 1 k.Sharing 2 (Some 0) ∷ vacant ∷ []

-- what no argument gives: the list, or nothing
abbrev pub other_fields : Descriptor → List Field
other_fields d.Irq = field (codes "_INT") (8 * 1) 16 g.Mask None ∷ []
other_fields d.IrqNoFlags = field (codes "_INT") (8 * 1) 16 g.Mask None ∷ []
other_fields d.Dma = field (codes "_DMA") (8 * 1) 8 g.Mask None ∷ []
other_fields d.Interrupt = field blank (8 * 4) 8 g.Count None ∷ field (codes "_INT") (8 * 5) 32 g.FirstMember None ∷ []
other_fields d.WordIo = io_type ∷ []
other_fields d.DWordIo = io_type ∷ []
other_fields d.QWordIo = io_type ∷ []
other_fields d.ExtendedIo = io_type ∷ revision ∷ []
other_fields d.DWordMemory = memory_type ∷ []
other_fields d.QWordMemory = memory_type ∷ []
other_fields d.ExtendedMemory = memory_type ∷ revision ∷ []
other_fields d.WordBusNumber = bus_number_type ∷ []
other_fields d.ExtendedSpace = revision ∷ []
other_fields d.GpioInt = pin_places 0
other_fields d.GpioIo = pin_places 1
other_fields d.I2cSerialBus = fixed 3 8 2 ∷ fixed 5 8 1 ∷ fixed 9 8 1 ∷ fixed 10 16 6 ∷ []
other_fields _ = []

-- fields with the places of their arguments, the first of which is this one
abbrev pub numbered : ℕ → List Field → List Field
numbered place [] = []
numbered place (field ∷ fields) = record field { argument = place } ∷ numbered (place + 1) fields
