-- The field lines of a text.
use Rattle.std.specs.Prelude.{ℕ, nat_eq, Bool, cond, List, [], ◌∷◌, ◌++◌, codes, Some, None}
use Rattle.std.specs.declared.option.Option.{Option}
use Rattle.std.specs.List.{starts_with}
use Rattle.iasl_messages.specs.declared.place.Place.{Place}
use Rattle.iasl_messages.specs.declared.place.Line.{Line}
use Rattle.data_text.specs.declared.comments.Mode.{Mode}
use Rattle.data_text.specs.declared.comments.Mode.TheVariants as m
use Rattle.data_text.specs.declared.field_line.FieldLine.{FieldLine}
use Rattle.data_text.specs.declared.field_line.DataText.{DataText}
use Rattle.hex_text.specs.Blanks.{has_blanks_alone, drop_blanks}
use Rattle.data_text.specs.Comments.{uncommented_from, mode_after, at_line_end}
use Rattle.data_text.specs.Parts.{Begun, begun, extended, kept, place_of}

-- the source ends before a line that begins so, blanks aside
abbrev pub ends_source : List ℕ → Bool
ends_source bare = starts_with nat_eq (drop_blanks bare) (codes "Raw Table Data")

-- what a line that begins or goes on gives: a whole field line, or one whose value goes on
abbrev pub done_of : Begun → List FieldLine
done_of line = cond line.1 [] (kept line.0)

abbrev pub open_of : Begun → Option FieldLine
open_of line = cond line.1 (Some line.0) None

-- A text is the rest of a value that goes on, where there is one. Otherwise it is blank or begins a field line.
abbrev pub done_by : Option FieldLine → Line → List ℕ → List FieldLine
done_by None line bare = cond (has_blanks_alone bare) [] (done_of (begun line bare))
done_by (Some pending) line bare = done_of (extended pending bare)

abbrev pub open_by : Option FieldLine → Line → List ℕ → Option FieldLine
open_by None line bare = cond (has_blanks_alone bare) None (open_of (begun line bare))
open_by (Some pending) line bare = open_of (extended pending bare)

-- at the end nothing follows a value that goes on
abbrev pub finished : Option FieldLine → List FieldLine
finished None = []
finished (Some pending) = kept pending

abbrev pub with_lines : List FieldLine → DataText → DataText
with_lines lines text = record { lines = lines ++ text.lines; end = text.end }

-- The field lines of these lines, where the first byte has this mode, this field line goes on, and `end` is the
-- place of the line before.
abbrev pub text_from : Mode → Option FieldLine → Place → List Line → DataText
text_from mode pending end [] = record { lines = finished pending; end = end }
text_from mode pending end (line ∷ rest) =
    let bare = uncommented_from mode line.text in
    cond (ends_source bare)
    (record { lines = finished pending; end = end })
    (with_lines (done_by pending line bare)
    (text_from (at_line_end (mode_after mode line.text)) (open_by pending line bare) (place_of line) rest))

-- where a message stands that has no line: 1:1 of the first file
abbrev pub first_place : Place
first_place = record { file = 0; line = 1; column = 1 }

-- the field lines of a text, and the place of its last line
abbrev pub text_of : List Line → DataText
text_of lines = text_from m.Plain None first_place lines
