-- What a call does with a source that is read.
use Rattle.std.specs.Prelude.{◌≡◌, ◌⊎◌, ℕ, Bool, true, false, List, [], ◌∷◌, ◌++◌, codes, All, None, Some, Ok}
use Rattle.iasl_ports.specs.Gained.{Named}
use Rattle.iasl_ports.specs.Delivery.{due_of, status_of}
use Rattle.iasl_runs.specs.Ends.{World}
use Rattle.iasl_messages.specs.declared.place.Line.{Line}
use Rattle.iasl_messages.specs.declared.place.Piece.{Piece}
use Rattle.iasl_messages.specs.declared.message.Message.{Message}
use Rattle.iasl_messages.specs.declared.severity.Severity.TheVariants.{Warning}
use Rattle.iasl_messages.specs.Severity.{severity_of}
use Rattle.asl_preprocess.specs.Preprocess.{Given, preprocessed}
use Rattle.asl_lexer.specs.declared.token.Token.{Token}
use Rattle.asl_lexer.specs.Cut.{IsCut}
use Rattle.asl_syntax.specs.declared.raw.Raw.{Raw}
use Rattle.asl_parser.specs.Depth.{IsShallow, IsLow}
use Rattle.asl_parser.specs.Grammar.{Spells}
use Rattle.asl_syntax.specs.Grow.{limit}
use Rattle.asl_syntax.specs.Marks.{marks}
use Rattle.asl_shape.specs.Forms.{alone}
use Rattle.iasl_backends.specs.Table.{table_bytes}
use Rattle.data_tables.specs.declared.compiled.Compiled.{Compiled as DataTable}
use Rattle.data_tables.specs.Compiling.{joined}
use Rattle.data_tables.specs.Entries.{Entry, written_values}
use Rattle.data_tables.specs.Reading.{ReadsAs}
use Rattle.data_generic.specs.Compiling.{DataEntry, written_header, written_data}
use Rattle.data_generic.specs.Reading.{ReadsGeneric, forms_of}
use Rattle.iasl_options.specs.Asking.{Asked}
use Rattle.iasl_options.specs.CommandLine.{IsCommandLine}
use Rattle.iasl_options.specs.Task.{Generates, IsTask, generated_settings}
use Rattle.generated_lines.specs.Generated.{generated_lines}
use Rattle.iasl_messages.specs.Console.{devices_line}
use Rattle.program_shapes.specs.Sources.{IsRightSource, IsTableOfSource}
use Rattle.asl_tables.specs.Compiled.{own_in, all_noted, written_in, cut_in, EachWithin}
use Rattle.table_outputs.specs.Files.{table_name, further_files, name_in_use}
use Rattle.iasl_tool.specs.Sources.{is_data_source, data_answer}
use Rattle.iasl_tool.specs.Told.{is_ignored}
use Rattle.iasl_tool.specs.Due.{style_of, answer_for}
use Rattle.iasl_tool.specs.Outside.{Puts}

-- what good words ask for, and the file that they name
pub record Request : Type 0 where
  pub asked : Asked
  pub file : List ℕ

-- the name of the file of a block's table
abbrev pub table_of : Request → List Raw → List ℕ
table_of request items = table_name request.asked request.file (own_in items)

-- that of a data table's, which states none of its own
abbrev pub data_file_of : Request → List ℕ
data_file_of request = table_name request.asked request.file []

-- the table of a block in which nothing is wrong, as it is asked for
abbrev pub table_for : Request → List Raw → List ℕ
table_for request items = written_in (style_of request.asked) items

-- its pieces, with the texts of these lines
abbrev pub its_pieces : Request → List Line → List Raw → List Piece
its_pieces request lines items = cut_in (style_of request.asked) lines items

-- its further outputs, which are of its pieces
abbrev pub further_of : Request → List Line → List Raw → List Named
further_of request lines items = further_files request.asked request.file (own_in items) (its_pieces request lines items)

-- whether a generic data table is asked for
abbrev pub is_generic : Request → Bool
is_generic request = request.asked.switches.generic

-- those of a data table
abbrev pub further_data : Request → DataTable → List Named
further_data request table = further_files request.asked request.file [] table.pieces

-- the files of the table of a block of these lines, in the order of their putting
abbrev pub files_of : Request → List Line → List Raw → List Named
files_of request lines items = (table_of request items, table_for request items) ∷ further_of request lines items

-- the files of the tables of a source's blocks, those of each in turn
abbrev pub source_files : Request → List Line → List Raw → List Named
source_files request lines [] = []
source_files request lines (item ∷ items) = files_of request lines (alone item) ++ source_files request lines items

-- the pieces of the table of the last of them
abbrev pub last_its_pieces : Request → List Line → List Raw → List Piece
last_its_pieces request lines [] = []
last_its_pieces request lines (item ∷ []) = its_pieces request lines (alone item)
last_its_pieces request lines (item ∷ (other ∷ others)) = last_its_pieces request lines (other ∷ others)

-- The table of a block has the header that the block states, and every session over its bytes is the block's. Its
-- further outputs are of pieces that are its own bytes, one piece behind another.
pub record IsBlocksTable (request : Request) (lines : List Line) (items : List Raw) : Type 0 where
  pub does : IsTableOfSource items (table_for request items)
  pub joined_pieces : table_bytes (its_pieces request lines items) ≡ table_for request items

-- so do those of all of them
abbrev pub EachDoes : Request → List Line → List Raw → Type 0
EachDoes request lines [] = Unit {0}
EachDoes request lines (item ∷ items) = IsBlocksTable request lines (alone item) × EachDoes request lines items

-- those of a data table
abbrev pub data_files_of : Request → DataTable → List Named
data_files_of request table = (data_file_of request, joined table.pieces) ∷ further_data request table

-- what the generation of devices asks for
abbrev pub generated_request : Request
generated_request = record { asked = generated_settings; file = codes "generated" }

-- Where lines come from. The words are a command line that asks for a compilation of this file, and they are its lines,
-- with those of its includes; or the words ask for so many devices, and they are the source of these, for which no file
-- is fetched.
pub data ComeFrom (words : List (List ℕ)) (told : List Named) (request : Request) (files : List (List ℕ)) (lines : List Line)
    (notes : List Message) : Type 0 where
  a_file : IsCommandLine words request.asked → request.asked.file ≡ Some request.file → request.asked.only ≡ false
      → preprocessed told request.file request.asked.directories request.asked.definitions request.asked.enabled ≡ Given files lines notes →
      ComeFrom words told request files lines notes
  devices : (count : ℕ) → IsTask words (Generates count) → request ≡ generated_request → files ≡ [] → lines ≡ generated_lines count →
      notes ≡ [] → ComeFrom words told request files lines notes

-- the line of the console that tells of generated devices
abbrev pub more_of : {words : List (List ℕ)} {told : List Named} {request : Request} {files : List (List ℕ)} {lines : List Line}
    {notes : List Message} → ComeFrom words told request files lines notes → List ℕ
more_of (a_file line is only given) = []
more_of (devices count task request_is files_are lines_are notes_are) = devices_line count

-- what the words name, whatever its kind: lines, with their files and the notes of the preprocessor
pub record NamesLines (words : List (List ℕ)) (told : List Named) (request : Request) : Type 0 where
  pub files : List (List ℕ)
  pub lines : List Line
  pub notes : List Message
  pub come : ComeFrom words told request files lines notes

-- what words ask for lets these notes pass: where it asks that warnings refuse a source, each warning among them is
-- ignored
abbrev pub LetsPass : Asked → List Message → Type 0
LetsPass asked notes = asked.switches.strict ≡ true → All (λ note. severity_of note.number ≡ Warning → is_ignored asked.ignored note.number ≡ true) notes

-- The words name lines (`ComeFrom`), which are no data table and are cut into tokens that spell this source, nowhere too
-- deep; nothing is wrong with it, each of its items being a block with a namespace of its own, of none are too many
-- copies made, and none of its tables is too long; none of its notes, those on its literals among them, is a warning,
-- where warnings refuse a source; and no name of the files of its tables is that of a file that was fetched, or of
-- another of them.
pub record NamesSource (words : List (List ℕ)) (told : List Named) (request : Request) (items : List Raw) : Type 0 where
  pub named : NamesLines words told request
  pub tokens : List Token
  pub is_asl : is_data_source (is_generic request) named.lines ≡ false
  pub tokens_are : IsCut named.lines tokens
  pub spelled : Spells items tokens
  pub shallow : IsShallow limit (marks 0 tokens)
  pub low : IsLow limit (marks 0 tokens)
  pub right : IsRightSource items
  pub tables_within : EachWithin (style_of request.asked) items
  pub notes_pass : LetsPass request.asked (named.notes ++ all_noted items)
  pub names_are_free : name_in_use named.files (source_files request named.lines items) ≡ None

-- The words name lines (`ComeFrom`), which are a data table in whose text there is no fault, with this table; none of
-- its notes and the table's is a warning, where warnings refuse a source; and no name of the table's files is that of a
-- file that was fetched, or of another of them.
pub record NamesData (words : List (List ℕ)) (told : List Named) (request : Request) (table : DataTable) : Type 0 where
  pub named : NamesLines words told request
  pub is_data : is_data_source (is_generic request) named.lines ≡ true
  pub table_is : data_answer (is_generic request) named.lines ≡ Ok table
  pub notes_pass : LetsPass request.asked (named.notes ++ table.notes)
  pub names_are_free : name_in_use named.files (data_files_of request table) ≡ None

-- The call puts the files of the tables of a source of these lines, and nothing else. Each table has its block's header
-- and does what its block says.
pub record PutsFaithfulTables (words : List (List ℕ)) (told : List Named) (request : Request) (lines : List Line)
    (items : List Raw) : Type 0 where
  pub status : status_of (answer_for words told) ≡ 0
  pub due : due_of (answer_for words told) ≡ source_files request lines items
  pub does : EachDoes request lines items

-- bytes that read by offset as the values that some lines write, and as no others
pub record ReadsByLayout (lines : List Line) (bytes : List ℕ) : Type 0 where
  pub reads : ReadsAs bytes (written_values lines)
  pub only : (values : List Entry) → ReadsAs bytes values → values ≡ written_values lines

-- bytes that read by the types and sizes of what the lines of a generic table write as the values that they write, and as no others
pub record ReadsByTypes (lines : List Line) (bytes : List ℕ) : Type 0 where
  pub reads : ReadsGeneric bytes (written_header lines) (written_data lines)
  pub only : (header : List Entry) (entries : List DataEntry) → ReadsGeneric bytes header entries →
      forms_of entries ≡ forms_of (written_data lines) → (header ≡ written_header lines) × (entries ≡ written_data lines)

-- the one or the other
abbrev pub ReadsBack : Bool → List Line → List ℕ → Type 0
ReadsBack true lines bytes = ReadsByTypes lines bytes
ReadsBack false lines bytes = ReadsByLayout lines bytes

-- The call puts the data table's files, and nothing else. Its bytes read as the values that the text writes, and its
-- further outputs are of pieces that are its own bytes.
pub record PutsDataTable (words : List (List ℕ)) (told : List Named) (request : Request) (table : DataTable) (lines : List Line) : Type 0
  where
    pub status : status_of (answer_for words told) ≡ 0
    pub due : due_of (answer_for words told) ≡ data_files_of request table
    pub reads : ReadsBack (is_generic request) lines (joined table.pieces)
    pub joined_pieces : table_bytes table.pieces ≡ joined table.pieces

-- Files are those of the tables of an ASL source that the words name: for each of its blocks in turn the table, which
-- has the block's header and does what the block says, and behind it its further outputs: its bytes as an array of C,
-- and the source's lines with their bytes, where these are asked for.
pub record AreItsTables (words : List (List ℕ)) (told : List Named) (files : List Named) : Type 0 where
  pub request : Request
  pub items : List Raw
  pub names : NamesSource words told request items
  pub are : files ≡ source_files request names.named.lines items
  pub does : EachDoes request names.named.lines items

-- A file is the data table whose text the words name: its bytes read as the values that the text writes. The files that
-- follow it are its further outputs, which are of pieces that are its own bytes.
pub record IsItsDataTable (words : List (List ℕ)) (told : List Named) (file : Named) (further : List Named) : Type 0 where
  pub request : Request
  pub table : DataTable
  pub names : NamesData words told request table
  pub name : file.0 ≡ data_file_of request
  pub bytes : file.1 ≡ joined table.pieces
  pub reads : ReadsBack (is_generic request) names.named.lines file.1
  pub others : further ≡ further_data request table
  pub joined_pieces : table_bytes table.pieces ≡ file.1

-- the files are those of a source's tables, or the first is a data table and the others are its further outputs
abbrev pub AreItsFiles : List (List ℕ) → List Named → List Named → Type 0
AreItsFiles words told [] = Unit {0}
AreItsFiles words told (file ∷ further) = AreItsTables words told (file ∷ further) ⊎ IsItsDataTable words told file further

-- The words name an ASL source, and the outputs gained the files of its tables and nothing else: for each block in turn
-- its table, which has the header that the block states, and over whose bytes every session is the block's, and the
-- table's further outputs.
pub record WritesItsTables (words : List (List ℕ)) (told : List Named) (before after : World) : Type 0 where
  pub request : Request
  pub items : List Raw
  pub names : NamesSource words told request items
  pub tables : Puts before after (source_files request names.named.lines items)
  pub does : EachDoes request names.named.lines items

-- The words name the text of a data table, and the outputs gained its files and nothing else. The bytes of the first,
-- the table, read as the values that the text writes; the others are its further outputs, which are of pieces that are
-- the table's own bytes.
pub record WritesItsDataTable (words : List (List ℕ)) (told : List Named) (before after : World) : Type 0 where
  pub request : Request
  pub table : DataTable
  pub names : NamesData words told request table
  pub gained : Puts before after (data_files_of request table)
  pub reads : ReadsBack (is_generic request) names.named.lines (joined table.pieces)
  pub joined_pieces : table_bytes table.pieces ≡ joined table.pieces
