-- What the code tells of the text that is left of a line.
use Rattle.std.specs.Prelude.{◌≡◌, ℕ, ◌<◌, ◌≤◌, List, length, ⊤, Result, Ok, Err}
use Rattle.iasl_ports.specs.declared.list.Text.{Text}
use Rattle.asl_macros.specs.declared.names.ReplaceStop.{ReplaceStop}
use Rattle.asl_macros.specs.declared.names.ReplaceStop.TheVariants.{TooLong, Memory}

-- the text, which has room; or why there is none
abbrev pub Leaves : Result Text ReplaceStop → ℕ → List ℕ → Type 0
Leaves (Ok text) room left = (text ≡ left) × (length text ≤ room)
Leaves (Err TooLong) room left = room < length left
Leaves (Err Memory) room left = ⊤
