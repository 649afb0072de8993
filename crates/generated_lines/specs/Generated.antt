-- The lines of a source of devices: a block in which each device has its number and a method that adds it.
use Rattle.std.specs.Prelude.{ℕ, zero, suc, ◌+◌, ◌/◌, ◌%◌, List, [], ◌∷◌, ◌++◌, slice_index, codes}
use Rattle.iasl_messages.specs.declared.place.Line.{Line}

-- the hexadecimal digits, with upper-case letters
abbrev pub upper_digits : List ℕ
upper_digits = codes "0123456789ABCDEF"

-- a number below 4096 in three digits
abbrev pub three_digits : ℕ → List ℕ
three_digits number = slice_index upper_digits (number / 256) ∷ slice_index upper_digits (number / 16 % 16) ∷ slice_index upper_digits
    (number % 16) ∷ []

-- the device of a number
abbrev pub device_text : ℕ → List ℕ
device_text number =
    codes "Device (D" ++ three_digits number
    ++ codes ") { Name (_UID, 0x" ++ three_digits number
    ++ codes ") Method (VALU, 1) { Return (Arg0 + 0x" ++ three_digits number
    ++ codes ") } }"

-- a line of this number
abbrev pub line_at : ℕ → List ℕ → Line
line_at number text = record { file = 0; number = number; text = text }

-- so many devices, of which the first has this number; that of number 0 is in line 3
abbrev pub devices_from : ℕ → ℕ → List Line
devices_from first zero = []
devices_from first (suc count) = line_at (first + 3) (device_text first) ∷ devices_from (first + 1) count

abbrev pub block_text : List ℕ
block_text = codes "DefinitionBlock (\"\", \"SSDT\", 2, \"GENER8\", \"DEVICES\", 1)"

-- the source of so many devices
abbrev pub generated_lines : ℕ → List Line
generated_lines count = line_at 1 block_text ∷ line_at 2 (codes "{") ∷ (devices_from 0 count ++ line_at (count + 3) (codes "}") ∷ [])
