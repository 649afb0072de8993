-- What a walker that has taken some lines will have in the end.
use Rattle.std.specs.Prelude.{List, ◌++◌, map}
use Rattle.iasl_messages.specs.declared.place.Place.{Place}
use Rattle.iasl_messages.specs.declared.place.Piece.{Piece}
use Rattle.iasl_messages.specs.declared.message.Message.{Message}
use Rattle.data_text.specs.declared.field_line.FieldLine.{FieldLine}
use Rattle.data_tables.specs.declared.walker.Walker.{Walker}
use Rattle.data_tables.specs.Walk.{Walked, walk}
use Rattle.data_tables.specs.Compiling.{piece_of}
use Rattle.data_tables.specs.Views.{part_of}

-- pieces, notes and faults
pub record Outcome : Type 0 where
  pub pieces : List Piece
  pub notes : List Message
  pub faults : List Message

abbrev pub made : List Piece → List Message → List Message → Outcome
made pieces notes faults = record { pieces = pieces; notes = notes; faults = faults }

abbrev pub outcome_of : Walked → Outcome
outcome_of w = made (map piece_of w.fields) w.notes w.faults

-- what there is so far
abbrev pub so_far : Walker → Outcome
so_far walker = made walker.pieces walker.notes walker.faults

-- that, and what the lines come to that follow
abbrev pub outcome_with : Walker → Walked → Outcome
outcome_with walker w = made (walker.pieces ++ map piece_of w.fields) (walker.notes ++ w.notes) (walker.faults ++ w.faults)

abbrev pub told_with : Walker → Place → List FieldLine → Outcome
told_with walker end lines = outcome_with walker (walk end (part_of walker.part) walker.decoded lines)
