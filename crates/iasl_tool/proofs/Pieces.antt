-- The pieces of which the outputs of a call are: those of the source or the data table that the words name.
use Rattle.std.proofs.Common.{◌≡◌, ℕ, false, List, [], ◌∷◌, Option, Some, refl, sym, ap, ◌∙◌}
use Rattle.std.specs.List.{All}
use Rattle.std.specs.Prelude.{Bool}
use Rattle.std.proofs.lemmas.List.Elements.{All-weaker}
use Rattle.iasl_ports.specs.Gained.{Named}
use Rattle.iasl_ports.specs.Delivery.{Answer}
use Rattle.iasl_messages.specs.declared.place.Line.{Line}
use Rattle.iasl_messages.specs.declared.place.Piece.{Piece}
use Rattle.iasl_messages.specs.declared.message.Message.{Message}
use Rattle.iasl_backends.specs.declared.asked.Asked.{Asked as Kinds}
use Rattle.asl_syntax.specs.declared.raw.Raw.{Raw}
use Rattle.data_tables.specs.declared.compiled.Compiled.{Compiled as DataTable}
use Rattle.iasl_options.specs.Task.{Compiles, Generates, settings_in}
use Rattle.iasl_options.proofs.Tasks.{task_to}
use Rattle.generated_lines.specs.Generated.{generated_lines}
use Rattle.table_outputs.specs.Decision.{only_by, asks_for_text}
use Rattle.table_outputs.specs.Boxes.{AreRendered}
use Rattle.asl_tables.specs.Compiled.{tables_of}
use Rattle.iasl_tool.specs.Due.{style_of, last_pieces, pieces_in, pieces_of_lines, pieces_of_preprocessed, pieces_of_file, pieces_of_task, pieces_for}
use Rattle.iasl_tool.specs.Headline.{Request, ComeFrom, a_file, devices, last_its_pieces, NamesLines, NamesSource, NamesData}
use Rattle.iasl_tool.proofs.Headline.{compiled_is, data_comes}

-- words that name lines do not ask for preprocessed text alone
pub no_text_alone : (words : List (List ℕ)) (told : List Named) (request : Request) (files : List (List ℕ)) (lines : List Line) (notes : List Message) → ComeFrom words told request files lines notes → asks_for_text words ≡ false
no_text_alone words told request files lines notes (a_file line file_is compiles lines_are) = ap (λ r. only_by (settings_in r)) (task_to words (Compiles request.asked) line) ∙ compiles
no_text_alone words told request files lines notes (devices count task request_is files_are lines_are notes_are) = ap (λ r. only_by (settings_in r)) (task_to words (Generates count) task)

-- the pieces of what lines come to
come_pieces : (words : List (List ℕ)) (told : List Named) (request : Request) (files : List (List ℕ)) (lines : List Line) (notes : List Message) → ComeFrom words told request files lines notes
    → pieces_for words told ≡ pieces_of_lines request.asked lines
come_pieces words told request files lines notes (a_file line file_is compiles lines_are) =
    ap (pieces_of_task told) (task_to words (Compiles request.asked) line)
    ∙ ap (pieces_of_file request.asked told) file_is
    ∙ ap (pieces_of_preprocessed request.asked) lines_are
come_pieces words told request files lines notes (devices count task request_is files_are lines_are notes_are) =
    ap (pieces_of_task told) (task_to words (Generates count) task)
    ∙ ap (λ (r : Request). pieces_of_lines r.asked (generated_lines count)) (sym request_is)
    ∙ ap (pieces_of_lines request.asked) (sym lines_are)

given_pieces : (words : List (List ℕ)) (told : List Named) (request : Request) (h : NamesLines words told request) → pieces_for words told ≡ pieces_of_lines request.asked h.lines
given_pieces words told request h = come_pieces words told request h.files h.lines h.notes h.come

-- the last table's are those of the last block
last_are : (request : Request) (lines : List Line) (items : List Raw) → last_pieces (tables_of (style_of request.asked) lines items) ≡ last_its_pieces request lines items
last_are request lines [] = refl
last_are request lines (item ∷ []) = refl
last_are request lines (item ∷ (other ∷ others)) = last_are request lines (other ∷ others)

pieces_of_source : (words : List (List ℕ)) (told : List Named) (request : Request) (items : List Raw) (h : NamesSource words told request items) → pieces_for words told ≡ last_its_pieces request h.named.lines items
pieces_of_source words told request items h = given_pieces words told request h.named ∙ ap pieces_in (compiled_is words told request items h) ∙ last_are request h.named.lines items

pieces_of_data : (words : List (List ℕ)) (told : List Named) (request : Request) (table : DataTable) (h : NamesData words told request table) → pieces_for words told ≡ table.pieces
pieces_of_data words told request table h = given_pieces words told request h.named ∙ ap pieces_in (data_comes words told request table h)

-- the boxes are over these pieces
module _ {X : Type 0} (pieces_of : X → List Piece) (is_finished : X → Bool) (kinds : Kinds) (boxes : List X) (answer : List Named → Option Answer) (words : List (List ℕ)) (told : List Named) (contents : Option (List Named)) (is : contents ≡ Some told) (rendered : AreRendered pieces_of is_finished kinds boxes answer (pieces_for words) contents) where
  over_them : (all : List Piece) → pieces_for words told ≡ all → All (λ b. pieces_of b ≡ all) boxes
  over_them all e = All-weaker (λ b. pieces_of b ≡ rendered.pieces) (λ b. pieces_of b ≡ all) (λ b same. same ∙ rendered.are told is ∙ e) boxes rendered.over

  pub over_its_table : (request : Request) (items : List Raw) (h : NamesSource words told request items) → All (λ b. pieces_of b ≡ last_its_pieces request h.named.lines items) boxes
  over_its_table request items h = over_them (last_its_pieces request h.named.lines items) (pieces_of_source words told request items h)

  pub over_its_data : (request : Request) (table : DataTable) → NamesData words told request table → All (λ b. pieces_of b ≡ table.pieces) boxes
  over_its_data request table h = over_them table.pieces (pieces_of_data words told request table h)
