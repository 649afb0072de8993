-- What the code finds behind a colon, in terms of the pairs there.
use Rattle.std.specs.Prelude.{◌≡◌, ℕ, ◌-◌, ◌^◌, ◌<◌, min, List, [], length, Some, None}
use Rattle.acpi_extract.specs.declared.row.Next.{Next}
use Rattle.acpi_extract.specs.declared.row.Next.TheVariants.{End, Pair, Wrong}
use Rattle.acpi_extract.specs.Rows.{pairs_of, with_first, row_of}
use Rattle.std.specs.Option.{option_map}

-- the pairs end here; or a pair stands before the others; or the form is wrong
abbrev pub IsNext : ℕ → List ℕ → Next → Type 0
IsNext room text End = pairs_of room text ≡ Some []
IsNext room text (Pair byte rest) = (0 < room) × (length rest.now < length text)
    × (pairs_of room text ≡ with_first (Some byte) (pairs_of (room - 1) rest.now))
IsNext room text Wrong = pairs_of room text ≡ None

-- a line begins with this offset and a colon, before this text; a number over the largest u128 is shown as that
pub record IsRowStart (line : List ℕ) (shown : ℕ) (text : List ℕ) : Type 0 where
  pub offset : ℕ
  pub shown_as : shown ≡ min offset (2 ^ 128 - 1)
  pub row : row_of line ≡ option_map (λ bytes. (offset, bytes)) (pairs_of 16 text)
