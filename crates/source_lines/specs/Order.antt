-- The order of lines.
use Rattle.std.specs.Prelude.{ℕ, ◌+◌, ◌*◌, ◌<◌, List, length, map, slice_index}
use Rattle.iasl_messages.specs.declared.place.Line.{Line}

-- where a line stands among all: by its file, and then by its number
abbrev pub rank : ℕ → ℕ → ℕ
rank file number = file * 4294967296 + number

abbrev pub ranks : List Line → List ℕ
ranks lines = map (λ line. rank line.file line.number) lines

-- each line stands before those behind it
abbrev pub IsAscending : List Line → Type 0
IsAscending lines = (i j : ℕ) → i < j → j < length lines → slice_index (ranks lines) i < slice_index (ranks lines) j
