-- The low bits of a number.
use Rattle.std.proofs.Common.{◌≡◌, ℕ, ◌≤◌, arith}
use Rattle.acpi_values.specs.declared.width.Width.{Width}
use Rattle.acpi_values.specs.declared.width.Width.TheVariants.{W32, W64}
use Rattle.acpi_values.specs.Widths.{ones_of}
use Rattle.acpi_values.specs.Integers.{wrapped}

-- they fit the width
pub wrapped_fits : (width : Width) (n : ℕ) → wrapped width n ≤ ones_of width
wrapped_fits W32 n = omega arith
wrapped_fits W64 n = omega arith

-- and their own low bits are they
pub wrapped_again : (width : Width) (n : ℕ) → wrapped width (wrapped width n) ≡ wrapped width n
wrapped_again W32 n = omega arith
wrapped_again W64 n = omega arith
