-- What a source of either kind comes to: its tables, or its errors.
use Rattle.std.specs.Prelude.{Bool, ◌||◌, List, [], ◌∷◌, Ok, Err, cond}
use Rattle.iasl_messages.specs.declared.place.Line.{Line}
use Rattle.data_text.specs.Kinds.{is_data_table}
use Rattle.data_tables.specs.Compiling.{Answer, compiled}
use Rattle.data_generic.specs.Compiling.{compiled_generic}
use Rattle.asl_tables.specs.declared.compile.Style.{Style}
use Rattle.block_outcomes.specs.declared.outcome.Compiled.{Compiled}
use Rattle.block_outcomes.specs.declared.outcome.Compiled.TheVariants.{Made, Refused}
use Rattle.asl_tables.specs.Compiled.{of_lines}

-- a data table with its notes, or the faults of its text; it states no name for its file
abbrev pub of_data : Answer → Compiled
of_data (Ok table) = Made (record { signature = table.signature; own = []; pieces = table.pieces } ∷ []) table.notes
of_data (Err faults) = Refused faults

-- whether lines are a data table: all are, where that of a generic one is asked for
abbrev pub is_data_source : Bool → List Line → Bool
is_data_source generic lines = generic || is_data_table lines

-- what the lines of a data table come to
abbrev pub data_answer : Bool → List Line → Answer
data_answer generic lines = cond generic (compiled_generic lines) (compiled lines)

-- what lines come to: those of a data table, or those of ASL
abbrev pub of_source : Bool → Style → List Line → Compiled
of_source generic style lines = cond (is_data_source generic lines) (of_data (data_answer generic lines)) (of_lines style lines)
