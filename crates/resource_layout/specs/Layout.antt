-- The layout of a descriptor.
use Rattle.std.specs.Prelude.{ℕ, ◌+◌, ◌/◌, ◌%◌, ◌==◌, ◌&&◌, Bool, List, ◌++◌, find, codes, Some, None}
use mathlib.Core.Bool.{not}
use Rattle.std.specs.Str.{bytes_eq}
use Rattle.std.specs.declared.option.Option.{Option}
use Rattle.resource_layout.specs.declared.descriptor.Descriptor.{Descriptor}
use Rattle.resource_layout.specs.declared.descriptor.Descriptor.TheVariants as d
use Rattle.resource_layout.specs.declared.descriptor.Kind.{Kind}
use Rattle.resource_layout.specs.declared.descriptor.Kind.TheVariants as k
use Rattle.resource_layout.specs.declared.descriptor.Head.{Head}
use Rattle.resource_layout.specs.declared.descriptor.Head.TheVariants as h
use Rattle.resource_layout.specs.declared.descriptor.Body.{Body}
use Rattle.resource_layout.specs.declared.descriptor.Body.TheVariants as b
use Rattle.resource_layout.specs.declared.descriptor.Row.{Row}
use Rattle.resource_layout.specs.declared.descriptor.Field.{Field}
use Rattle.resource_layout.specs.Fields.{numbered, arguments, other_fields}

-- a kind's number
unfoldable pub kind_number : Kind → ℕ
kind_number k.Usage = 0
kind_number k.Decode = 1
kind_number k.MinimumFixed = 2
kind_number k.MaximumFixed = 3
kind_number k.Access = 4
kind_number k.Caching = 5
kind_number k.Range = 6
kind_number k.Translation = 7
kind_number k.Sparse = 8
kind_number k.IsaRange = 9
kind_number k.IoDecode = 10
kind_number k.Mode = 11
kind_number k.Level = 12
kind_number k.Sharing = 13
kind_number k.DmaType = 14
kind_number k.BusMaster = 15
kind_number k.Transfer = 16
kind_number k.DmaWidth = 17
kind_number k.Space = 18
kind_number k.Pull = 19
kind_number k.IoRestriction = 20
kind_number k.Initiator = 21
kind_number k.Addressing = 22

abbrev pub is_kind : Kind → Kind → Bool
is_kind a b = kind_number a == kind_number b

-- ---- how a descriptor begins

abbrev pub row : Descriptor → Head → ℕ → Body → Row
row descriptor head bytes body = record { descriptor = descriptor; head = head; bytes = bytes; body = body }

-- A small one, by its first byte: the item's name from bit 3 on, and how many bytes follow (6.4.2).
abbrev pub small : Descriptor → ℕ → Body → Row
small descriptor tag body = row descriptor (h.Small (tag / 8)) (tag % 8 + 1) body

-- A large one, by its tag and how many bytes follow its head of three (6.4.3).
abbrev pub large : Descriptor → ℕ → ℕ → Body → Row
large descriptor tag length body = row descriptor (h.Large tag) (length + 3) body

-- Each descriptor, as it begins where its list is empty and it has no source, and what its list is.
unfoldable pub row_of : Descriptor → Row
row_of d.Irq = small d.Irq 0x23 (b.Bits 16)
row_of d.IrqNoFlags = small d.IrqNoFlags 0x22 (b.Bits 16)
row_of d.Dma = small d.Dma 0x2A (b.Bits 8)
row_of d.FixedDma = small d.FixedDma 0x55 b.Nothing
row_of d.StartDependentFn = small d.StartDependentFn 0x31 b.Descriptors
row_of d.StartDependentFnNoPri = small d.StartDependentFnNoPri 0x30 b.Descriptors
row_of d.EndDependentFn = small d.EndDependentFn 0x38 b.Nothing
row_of d.Io = small d.Io 0x47 b.Nothing
row_of d.FixedIo = small d.FixedIo 0x4B b.Nothing
row_of d.VendorShort = small d.VendorShort 0x70 (b.Numbers 8 1 7)
row_of d.VendorLong = large d.VendorLong 0x84 0x00 (b.Numbers 8 0 0xFFFF)
row_of d.Memory24 = large d.Memory24 0x81 0x09 b.Nothing
row_of d.Memory32 = large d.Memory32 0x85 0x11 b.Nothing
row_of d.Memory32Fixed = large d.Memory32Fixed 0x86 0x09 b.Nothing
row_of d.Register = large d.Register 0x82 0x0C b.Nothing
row_of d.Interrupt = large d.Interrupt 0x89 0x02 (b.Numbers 32 1 0xFF)
row_of d.WordIo = large d.WordIo 0x88 0x0D b.Nothing
row_of d.DWordIo = large d.DWordIo 0x87 0x17 b.Nothing
row_of d.QWordIo = large d.QWordIo 0x8A 0x2B b.Nothing
row_of d.ExtendedIo = large d.ExtendedIo 0x8B 0x35 b.Nothing
row_of d.DWordMemory = large d.DWordMemory 0x87 0x17 b.Nothing
row_of d.QWordMemory = large d.QWordMemory 0x8A 0x2B b.Nothing
row_of d.ExtendedMemory = large d.ExtendedMemory 0x8B 0x35 b.Nothing
row_of d.WordBusNumber = large d.WordBusNumber 0x88 0x0D b.Nothing
row_of d.WordSpace = large d.WordSpace 0x88 0x0D b.Nothing
row_of d.DWordSpace = large d.DWordSpace 0x87 0x17 b.Nothing
row_of d.QWordSpace = large d.QWordSpace 0x8A 0x2B b.Nothing
row_of d.ExtendedSpace = large d.ExtendedSpace 0x8B 0x35 b.Nothing
row_of d.GpioInt = large d.GpioInt 0x8C 0x14 (b.Numbers 16 1 0xFF)
row_of d.GpioIo = large d.GpioIo 0x8C 0x14 (b.Numbers 16 1 0xFF)
row_of d.I2cSerialBus = large d.I2cSerialBus 0x8E 0x0F b.Nothing

-- ---- its fields

-- those that arguments give, each with the argument's place, and the others
unfoldable pub fields_of : Descriptor → List Field
fields_of descriptor = numbered 0 (arguments descriptor) ++ other_fields descriptor

-- a field without name has blanks
abbrev pub has_name : List ℕ → Field → Bool
has_name name field = not (bytes_eq name (codes "    ")) && bytes_eq field.name name

-- the field of this name
abbrev pub named_field : Descriptor → List ℕ → Option Field
named_field descriptor name = find (has_name name) (fields_of descriptor)

-- its place and its width
abbrev pub place_of : Option Field → Option (ℕ × ℕ)
place_of None = None
place_of (Some field) = Some (field.at, field.bits)
