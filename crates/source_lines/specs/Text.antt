-- The text of a place's line.
use Rattle.std.specs.Prelude.{ℕ, nat_eq, ◌&&◌, if◌then◌else◌, List, [], ◌∷◌}
use Rattle.iasl_messages.specs.declared.place.Place.{Place}
use Rattle.iasl_messages.specs.declared.place.Line.{Line}

-- the text of the first line that has the place's file and line
abbrev pub line_text : List Line → Place → List ℕ
line_text [] place = []
line_text (line ∷ lines) place = if nat_eq line.file place.file && nat_eq line.number place.line then line.text else line_text lines place
