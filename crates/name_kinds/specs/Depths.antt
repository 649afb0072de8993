-- How many segments each path has.
use Rattle.std.specs.Prelude.{◌≡◌, ◌<◌, ℕ, List, [], length, get_or}
use Rattle.acpi_values.specs.Paths.{AbsolutePath}

pub record AreDepths (paths : List AbsolutePath) (depths : List ℕ) : Type 0 where
  pub size : length depths ≡ length paths
  pub each : (n : ℕ) → n < length paths → get_or depths n 0 ≡ length (get_or paths n [])
