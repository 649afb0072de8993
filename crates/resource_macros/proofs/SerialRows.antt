-- Worked descriptors of pins and of a serial bus, computed from the definitions alone.
use Rattle.std.proofs.Common.{◌≡◌, ℕ, true, List, [], ◌∷◌, refl}
use Rattle.std.specs.Prelude.{codes}
use Rattle.resource_layout.specs.declared.descriptor.Descriptor.TheVariants as d
use Rattle.resource_layout.specs.declared.descriptor.Kind.{Kind}
use Rattle.resource_layout.specs.declared.descriptor.Kind.TheVariants as k
use Rattle.resource_layout.specs.Layout.{row_of, fields_of, kind_number}
use Rattle.resource_macros.specs.declared.node.Node.{Node}
use Rattle.resource_macros.specs.declared.node.Term.{Term}
use Rattle.resource_macros.specs.declared.node.Term as D
use Rattle.resource_macros.specs.Resources.{bytes_in, has_room}

-- where a node stands makes no difference here
abbrev node : Term → Node
node term = record { place = record { file = 0; line = 0; column = 0 }; term = term }

abbrev word : Kind → ℕ → Node
word kind number = node (D.Word (record { kind = kind; number = number }))

abbrev number : ℕ → Node
number n = node (D.Integer n)

abbrev text : List ℕ → Node
text bytes = node (D.Text bytes)

-- GpioInt (Edge, ActiveLow, Exclusive, PullUp, 0, "\\_SB.GPO0") {5}
abbrev pin_args : List Node
pin_args = word k.Mode 1 ∷ word k.Level 1 ∷ word k.Sharing 0 ∷ word k.Pull 1 ∷ number 0 ∷ text (codes "\\_SB.GPO0") ∷ []

pin_bytes : bytes_in (row_of d.GpioInt) pin_args (number 5 ∷ [])
    ≡ 0x8C ∷ 0x20 ∷ 0x00 ∷ 0x01 ∷ 0x00 ∷ 0x01 ∷ 0x00 ∷ 0x03 ∷ 0x00 ∷ 0x01 ∷ 0x00 ∷ 0x00 ∷ 0x00 ∷ 0x00 ∷ 0x17 ∷ 0x00 ∷ 0x00 ∷ 0x19 ∷ 0x00 ∷ 0x23 ∷ 0x00 ∷ 0x00 ∷ 0x00
    ∷ 0x05 ∷ 0x00 ∷ 0x5C ∷ 0x5F ∷ 0x53 ∷ 0x42 ∷ 0x2E ∷ 0x47 ∷ 0x50 ∷ 0x4F ∷ 0x30 ∷ 0x00 ∷ []
unfolding row_of fields_of kind_number
pin_bytes = refl

pin_room : has_room (row_of d.GpioInt) pin_args (number 5 ∷ []) ≡ true
unfolding row_of fields_of kind_number
pin_room = refl

-- I2cSerialBusV2 (0x50, ControllerInitiated, 400000, AddressingMode7Bit, "\\_SB.I2C0")
bus_bytes : bytes_in (row_of d.I2cSerialBus) (number 0x50 ∷ word k.Initiator 0 ∷ number 400000 ∷ word k.Addressing 0 ∷ text (codes "\\_SB.I2C0") ∷ []) []
    ≡ 0x8E ∷ 0x19 ∷ 0x00 ∷ 0x02 ∷ 0x00 ∷ 0x01 ∷ 0x02 ∷ 0x00 ∷ 0x00 ∷ 0x01 ∷ 0x06 ∷ 0x00 ∷ 0x80 ∷ 0x1A ∷ 0x06 ∷ 0x00 ∷ 0x50 ∷ 0x00
    ∷ 0x5C ∷ 0x5F ∷ 0x53 ∷ 0x42 ∷ 0x2E ∷ 0x49 ∷ 0x32 ∷ 0x43 ∷ 0x30 ∷ 0x00 ∷ []
unfolding row_of fields_of kind_number
bus_bytes = refl
