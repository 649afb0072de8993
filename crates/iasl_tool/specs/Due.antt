-- What a call is to end with: its status, the text of the console, and the files to put.
use Rattle.std.specs.Prelude.{ℕ, Bool, false, ◌&&◌, not, cond, List, [], ◌∷◌, ◌++◌, length, map, codes, Some, None, Result, Ok, Err}
use Rattle.std.specs.Char.{to_ascii_lowercase}
use Rattle.std.specs.declared.option.Option.{Option}
use Rattle.std.specs.List.{list_any}
use Rattle.iasl_ports.specs.Gained.{Named}
use Rattle.iasl_ports.specs.Delivery.{Answer}
use Rattle.iasl_messages.specs.declared.place.Line.{Line}
use Rattle.iasl_messages.specs.declared.place.Piece.{Piece}
use Rattle.iasl_messages.specs.declared.message.Message.{Message}
use Rattle.iasl_messages.specs.declared.severity.Severity.TheVariants.{Warning}
use Rattle.iasl_messages.specs.Severity.{severity_of, is_same}
use Rattle.iasl_messages.specs.Order.{sorted_messages}
use Rattle.iasl_messages.specs.Console.{messages_text, summary_line, table_line, preprocessed_line, devices_line, template_line}
use Rattle.asl_preprocess.specs.Preprocess.{Preprocessed, Given, Stopped, Absent, preprocessed}
use Rattle.iasl_options.specs.Asking.{Asked}
use Rattle.iasl_options.specs.declared.switches.Switches.{Switches}
use Rattle.data_layout.specs.declared.table.Table.{Table as Layout}
use Rattle.iasl_options.specs.Task.{Task, Compiles, Generates, Templates, generated_settings, template_settings, task_by}
use Rattle.generated_lines.specs.Generated.{generated_lines}
use Rattle.iasl_options.specs.Names.{output_name}
use Rattle.iasl_backends.specs.Table.{table_bytes}
use Rattle.iasl_backends.specs.Lines.{piece_lines}
use Rattle.data_generic.specs.Templates.{signature_of, default_pieces}
use Rattle.table_outputs.specs.Files.{name_in_use, table_name, table_files}
use Rattle.asl_tables.specs.declared.compile.Style.{Style}
use Rattle.block_outcomes.specs.declared.outcome.Compiled.{Compiled}
use Rattle.block_outcomes.specs.declared.outcome.Compiled.TheVariants.{Made, Refused}
use Rattle.block_outcomes.specs.declared.outcome.Table.{Table}
use Rattle.iasl_tool.specs.Sources.{of_source}
use Rattle.iasl_tool.specs.Told.{is_ignored, counted, shown}

-- the messages that count in order, those of them that are told, in the brief form or the full one, a line of what was made, and how many
-- messages there are
abbrev pub console_text : Switches → List (List ℕ) → List (List ℕ) → List Message → List ℕ → List ℕ
console_text switches ignored files messages made =
    messages_text files switches.brief (shown switches (sorted_messages (counted ignored messages))) ++ made
    ++ summary_line (sorted_messages (counted ignored messages))

-- of a source that is refused, with these errors and notes: no file
abbrev pub refusal : Asked → List (List ℕ) → List Message → Answer
refusal asked files messages = record { status = 1; text = console_text asked.switches asked.ignored files messages []; due = [] }

-- of files that are made: these files, and the line that tells of them
abbrev pub made_files : Asked → List (List ℕ) → List Message → List ℕ → List Named → Answer
made_files asked files notes line due = record { status = 0; text = console_text asked.switches asked.ignored files notes line; due = due }

-- of an output that has the name of a file that was fetched
abbrev pub in_use : List ℕ → Answer
in_use name = record { status = 2; text = codes "iasl: output name is in use: " ++ name ++ codes "\n"; due = [] }

abbrev pub unless_in_use : Option (List ℕ) → Answer → Answer
unless_in_use None answer = answer
unless_in_use (Some name) answer = in_use name

-- files that are made, if none of their names is in use
abbrev pub made_or_in_use : Asked → List (List ℕ) → List Message → List ℕ → List Named → Answer
made_or_in_use asked files notes line due = unless_in_use (name_in_use files due) (made_files asked files notes line due)

-- whether one of the messages that count is a warning
abbrev pub has_warning : List (List ℕ) → List Message → Bool
has_warning ignored messages =
    list_any (λ message. is_same Warning (severity_of message.number) && not (is_ignored ignored message.number)) messages

-- an answer with files, if no warning among the notes refuses them
abbrev pub unless_strict : Asked → List (List ℕ) → List Message → Answer → Answer
unless_strict asked files notes answer = cond (asked.switches.strict && has_warning asked.ignored notes) (refusal asked files notes) answer

-- files that are made, if no warning refuses them and none of their names is in use
abbrev pub made_or_refused : Asked → List (List ℕ) → List Message → List ℕ → List Named → Answer
made_or_refused asked files notes line due = unless_strict asked files notes (made_or_in_use asked files notes line due)

-- the name of the preprocessed text's file
abbrev pub text_name : Asked → List ℕ → List ℕ
text_name asked file = output_name asked.prefix file (codes ".i")

-- the lines, each with an LF behind it
abbrev pub text_of_lines : List Line → List ℕ
text_of_lines [] = []
text_of_lines (line ∷ lines) = line.text ++ 10 ∷ text_of_lines lines

-- of preprocessed lines that are all that is asked for
abbrev pub answer_to_text : Asked → List ℕ → List (List ℕ) → List Line → List Message → Answer
answer_to_text asked file files lines notes = made_or_refused asked files notes (preprocessed_line (text_name asked file))
    ((text_name asked file, text_of_lines lines) ∷ [])

-- the lines that tell of tables, one for each
abbrev pub lines_of_tables : Asked → List ℕ → List Table → List ℕ
lines_of_tables asked file [] = []
lines_of_tables asked file (table ∷ tables) = table_line (table_name asked file table.own) table.signature
    (length (table_bytes table.pieces)) ++ lines_of_tables asked file tables

-- the files of tables, those of each in turn
abbrev pub files_of_tables : Asked → List ℕ → List Table → List Named
files_of_tables asked file [] = []
files_of_tables asked file (table ∷ tables) = table_files asked file table.own table.pieces ++ files_of_tables asked file tables

-- of what lines come to, with a further line of the console behind those of the tables
abbrev pub answer_to_compiled : Asked → List ℕ → List (List ℕ) → List Message → List ℕ → Compiled → Answer
answer_to_compiled asked file files notes more (Made tables told) =
    made_or_refused asked files (notes ++ told) (lines_of_tables asked file tables ++ more) (files_of_tables asked file tables)
answer_to_compiled asked file files notes more (Refused messages) = refusal asked files (notes ++ messages)

-- how tables are to be written
abbrev pub style_of : Asked → Style
style_of asked = record {
  wrap = asked.switches.wrap;
  fold = asked.switches.fold;
  short = asked.switches.short;
  shorten =
      asked.switches.shorten;
}

-- of lines, with the files that they are of and the notes of the preprocessor
abbrev pub answer_to_lines : Asked → List ℕ → List (List ℕ) → List Line → List Message → Answer
answer_to_lines asked file files lines notes = cond asked.only (answer_to_text asked file files lines notes)
    (answer_to_compiled asked file files notes [] (of_source asked.switches.generic (style_of asked) lines))

-- none where the main file is not there
abbrev pub answer_to_preprocessed : Asked → List ℕ → Preprocessed → Option Answer
answer_to_preprocessed asked file (Given files lines notes) = Some (answer_to_lines asked file files lines notes)
answer_to_preprocessed asked file (Stopped message files) = Some (refusal asked files (message ∷ []))
answer_to_preprocessed asked file Absent = None

-- of words that are not good
abbrev pub usage : Answer
usage = record { status = 2; text = codes "usage: iasl [options] FILE\n"; due = [] }

abbrev pub answer_to_file : Asked → List Named → Option (List ℕ) → Option Answer
answer_to_file asked told None = Some usage
answer_to_file asked told (Some file) =
    answer_to_preprocessed asked file (preprocessed told file asked.directories asked.definitions asked.enabled)

-- Of the source of so many devices. No file is fetched for it, and its outputs have the name `generated`; the console tells how many
-- devices there are.
abbrev pub answer_to_generated : ℕ → Answer
answer_to_generated count = answer_to_compiled generated_settings (codes "generated") [] [] (devices_line count)
    (of_source false (style_of generated_settings) (generated_lines count))

-- the name of a template: its signature in lower case, with the extension of a source
abbrev pub template_name : Layout → List ℕ
template_name table = map to_ascii_lowercase (signature_of table) ++ codes ".asl"

-- Of a template: its lines, for which no file is fetched. Nothing is told but its name and its signature.
abbrev pub answer_to_template : Layout → Answer
answer_to_template table = made_files template_settings [] [] (template_line (template_name table) (signature_of table))
    ((template_name table, piece_lines (default_pieces table)) ∷ [])

abbrev pub answer_to_task : List Named → Result Task ℕ → Option Answer
answer_to_task told (Ok (Compiles asked)) = answer_to_file asked told asked.file
answer_to_task told (Ok (Generates count)) = Some (answer_to_generated count)
answer_to_task told (Ok (Templates table)) = Some (answer_to_template table)
answer_to_task told (Err word) = Some usage

-- what a call with these words is to end with, where these are the files
abbrev pub answer_for : List (List ℕ) → List Named → Option Answer
answer_for words told = answer_to_task told (task_by words)

-- the pieces of the last of some tables
abbrev pub last_pieces : List Table → List Piece
last_pieces [] = []
last_pieces (table ∷ []) = table.pieces
last_pieces (table ∷ (other ∷ others)) = last_pieces (other ∷ others)

-- the pieces of what lines come to: those of the last table, and none where they are refused
abbrev pub pieces_in : Compiled → List Piece
pieces_in (Made tables told) = last_pieces tables
pieces_in (Refused messages) = []

-- those of the last table of lines, as it is asked for
abbrev pub pieces_of_lines : Asked → List Line → List Piece
pieces_of_lines asked lines = pieces_in (of_source asked.switches.generic (style_of asked) lines)

-- none where there are no lines
abbrev pub pieces_of_preprocessed : Asked → Preprocessed → List Piece
pieces_of_preprocessed asked (Given files lines notes) = pieces_of_lines asked lines
pieces_of_preprocessed asked (Stopped message files) = []
pieces_of_preprocessed asked Absent = []

abbrev pub pieces_of_file : Asked → List Named → Option (List ℕ) → List Piece
pieces_of_file asked told None = []
pieces_of_file asked told (Some file) =
    pieces_of_preprocessed asked (preprocessed told file asked.directories asked.definitions asked.enabled)

-- those of the last table of a task, or of a template
abbrev pub pieces_of_task : List Named → Result Task ℕ → List Piece
pieces_of_task told (Ok (Compiles asked)) = pieces_of_file asked told asked.file
pieces_of_task told (Ok (Generates count)) = pieces_of_lines generated_settings (generated_lines count)
pieces_of_task told (Ok (Templates table)) = default_pieces table
pieces_of_task told (Err word) = []

-- the pieces of which the last outputs of a call with these words are, where these are the files
abbrev pub pieces_for : List (List ℕ) → List Named → List Piece
pieces_for words told = pieces_of_task told (task_by words)

-- the text of status 3
abbrev pub fault_text : List ℕ
fault_text = codes "iasl: file fault\n"

-- the text of status 4
abbrev pub memory_text : List ℕ
memory_text = codes "iasl: out of memory\n"
