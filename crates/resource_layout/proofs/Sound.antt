-- The layouts are sound.
use Rattle.std.proofs.Common.{◌≡◌, true, refl}
use Rattle.resource_layout.specs.declared.descriptor.Descriptor.{Descriptor}
use Rattle.resource_layout.specs.declared.descriptor.Descriptor.TheVariants as d
use Rattle.resource_layout.specs.Layout.{row_of, fields_of}
use Rattle.resource_layout.specs.Sound.{is_sound}

pub row_sound : (descriptor : Descriptor) → is_sound (row_of descriptor) ≡ true
unfolding row_of fields_of
row_sound d.Irq = refl
row_sound d.IrqNoFlags = refl
row_sound d.Dma = refl
row_sound d.FixedDma = refl
row_sound d.StartDependentFn = refl
row_sound d.StartDependentFnNoPri = refl
row_sound d.EndDependentFn = refl
row_sound d.Io = refl
row_sound d.FixedIo = refl
row_sound d.VendorShort = refl
row_sound d.VendorLong = refl
row_sound d.Memory24 = refl
row_sound d.Memory32 = refl
row_sound d.Memory32Fixed = refl
row_sound d.Register = refl
row_sound d.Interrupt = refl
row_sound d.WordIo = refl
row_sound d.DWordIo = refl
row_sound d.QWordIo = refl
row_sound d.ExtendedIo = refl
row_sound d.DWordMemory = refl
row_sound d.QWordMemory = refl
row_sound d.ExtendedMemory = refl
row_sound d.WordBusNumber = refl
row_sound d.WordSpace = refl
row_sound d.DWordSpace = refl
row_sound d.QWordSpace = refl
row_sound d.ExtendedSpace = refl
row_sound d.GpioInt = refl
row_sound d.GpioIo = refl
row_sound d.I2cSerialBus = refl
