-- The width that a table's revision gives (ACPI Specification 6.4, 19.6.29).
use Rattle.std.specs.Prelude.{ℕ, nat_lt, if◌then◌else◌}
use Rattle.acpi_values.specs.declared.width.Width.{Width}
use Rattle.acpi_values.specs.declared.width.Width.TheVariants.{W32, W64}

-- Integers have 32 bits in a table of revision 0 or 1, else 64
abbrev pub width_of : ℕ → Width
width_of revision = if nat_lt revision 2 then W32 else W64
