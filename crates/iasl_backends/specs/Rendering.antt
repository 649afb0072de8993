-- The text of an output over the pieces of a table.
use Rattle.std.specs.Prelude.{ℕ, List}
use Rattle.iasl_messages.specs.declared.place.Piece.{Piece}
use Rattle.iasl_backends.specs.declared.backend.Kind.{Kind}
use Rattle.iasl_backends.specs.declared.backend.Kind.TheVariants.{RawAml, CHex, Listing, Template}
use Rattle.iasl_backends.specs.Table.{table_bytes}
use Rattle.iasl_backends.specs.CText.{c_text}
use Rattle.iasl_backends.specs.Listing.{listed_pieces}
use Rattle.iasl_backends.specs.Lines.{piece_lines}

-- the table itself, its bytes as an array of C, its listing from offset 0, or the lines of its pieces
abbrev pub rendering : Kind → List Piece → List ℕ
rendering RawAml pieces = table_bytes pieces
rendering CHex pieces = c_text (table_bytes pieces)
rendering Listing pieces = listed_pieces 0 pieces
rendering Template pieces = piece_lines pieces
