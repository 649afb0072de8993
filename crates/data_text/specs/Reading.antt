-- What a reader that has taken some lines will tell.
use Rattle.std.specs.Prelude.{List}
use Rattle.iasl_messages.specs.declared.place.Line.{Line}
use Rattle.data_text.specs.declared.source.Reader.{Reader}
use Rattle.data_text.specs.declared.field_line.DataText.{DataText}
use Rattle.data_text.specs.Source.{text_from, with_lines}

-- the field lines so far, and those of these lines
abbrev pub told_with : Reader → List Line → DataText
told_with reader lines = with_lines reader.lines (text_from reader.mode reader.pending reader.end lines)
