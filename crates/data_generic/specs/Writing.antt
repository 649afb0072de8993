-- What the writer of a template has and will have.
use Rattle.std.specs.Prelude.{ℕ, ◌+◌, List, ◌∷◌, ◌++◌, length}
use Rattle.iasl_messages.specs.declared.place.Piece.{Piece}
use Rattle.data_layout.specs.declared.row.Row.{Row}
use Rattle.data_generic.specs.declared.template.Writer.{Writer}
use Rattle.data_generic.specs.Templates.{row_piece, pieces_from}

-- the number of the next line
abbrev pub next_line : Writer → ℕ
next_line writer = length writer.pieces + 1

-- what there is so far, and the pieces of these fields
abbrev pub told : Writer → List Row → List Piece
told writer rows = writer.pieces ++ pieces_from writer.table (next_line writer) writer.headings rows

-- the same, where the heading of the first field is there already
abbrev pub told_behind_heading : Writer → Row → List Row → List Piece
told_behind_heading writer row rows = writer.pieces
    ++ (row_piece writer.table (next_line writer) row ∷ pieces_from writer.table (next_line writer + 1) writer.headings rows)
