-- What a call carries out, and what it leaves of the boxes that it was lent.
use Rattle.std.specs.Prelude.{◌≡◌, ◌⊎◌, ℕ, ◌≤◌, Bool, true, false, List}
use Rattle.std.specs.List.{All}
use Rattle.std.specs.declared.option.Option.{Option}
use Rattle.std.specs.Option.{ForSome}
use Rattle.iasl_ports.specs.Gained.{Named}
use Rattle.iasl_ports.specs.Delivery.{due_of}
use Rattle.iasl_runs.specs.Ends.{World, IsQuiet, Ends}
use Rattle.iasl_messages.specs.declared.place.Piece.{Piece}
use Rattle.iasl_messages.specs.declared.message.Message.{Message}
use Rattle.asl_syntax.specs.declared.raw.Raw.{Raw}
use Rattle.iasl_backends.specs.declared.asked.Asked.{Asked as Kinds}
use Rattle.iasl_backends.specs.declared.backend.Kind.{Kind}
use Rattle.data_tables.specs.declared.compiled.Compiled.{Compiled as DataTable}
use Rattle.iasl_options.specs.Task.{task_by}
use Rattle.table_outputs.specs.Decision.{asks_for_text, asks_for_template}
use Rattle.table_outputs.specs.Boxes.{kinds_by, HoldsAsked, AreRendered}
use Rattle.iasl_tool.specs.Due.{answer_for, pieces_for, fault_text, memory_text}
use Rattle.iasl_tool.specs.Outside.{Puts, Tells}
use Rattle.iasl_tool.specs.Headline.{Request, source_files, last_its_pieces, data_files_of, NamesSource, NamesData}
use Rattle.iasl_tool.specs.Headline.{PutsFaithfulTables, PutsDataTable, AreItsFiles, WritesItsTables, WritesItsDataTable}
use Rattle.iasl_tool.specs.Refusals.{IsRefused, TellsRefusal, refusal_text}

-- the words ask for tables: neither for preprocessed text alone nor for a template
pub record AskForTables (words : List (List ℕ)) : Type 0 where
  pub no_text : asks_for_text words ≡ false
  pub no_template : asks_for_template words ≡ false

-- The call carries out these words: it had this status, and the outside was so before it and is so after it. What is
-- said of files and words together is said where the contents of the files are told.
pub record CarriesOut (words : List (List ℕ)) (status : ℕ) (before after : World) : Type 0 where
  -- The status, the files that are put and the console are those of the answer, or what is left of them after a fault.
  pub ends : Ends (answer_for words) fault_text memory_text status before after
  -- Whatever the status, the files that are due where tables are asked for are, for each block of a source that the
  -- words name, its table and the table's further outputs, or a data table and its. A table of ASL has its block's
  -- header, and every session over its bytes is the block's; a data table reads as the values that the text writes. By
  -- `ends` the files that are put are such files, whole, and perhaps a part of the next.
  pub due : AskForTables words → ForSome before.files.contents (λ told. AreItsFiles words told (due_of (answer_for words told)))
  -- 0 comes, where tables are asked for, only of such a source, whose tables, with their further outputs, are then what
  -- the outputs gained.
  pub headline : status ≡ 0 → AskForTables words → ForSome before.files.contents
      (λ told. WritesItsTables words told before after ⊎ WritesItsDataTable words told before after)
  -- And where no count of faults rose, every such source gives 0, and the outputs gain the files of its tables and
  -- nothing else; or the call gives 4.
  pub complete : IsQuiet before after → ForSome before.files.contents
      (λ told. (request : Request) → (items : List Raw) → (source : NamesSource words told request items) →
      ((status ≡ 0) × PutsFaithfulTables words told request source.named.lines items
      × Puts before after (source_files request source.named.lines items)) ⊎ (status ≡ 4))
  -- So does every text of a data table in which there is no fault, with its files.
  pub complete_data : IsQuiet before after → ForSome before.files.contents
      (λ told. (request : Request) → (table : DataTable) → (text : NamesData words told request table) →
      ((status ≡ 0) × PutsDataTable words told request table text.named.lines
      × Puts before after (data_files_of request table)) ⊎ (status ≡ 4))
  -- 1 comes, whatever is asked for, only of what is refused: a source whose preprocessing stops, whose tokens have a
  -- fault, stop being a source or nest too deep, or in which there are errors, and then all of the first class that
  -- has some; a data table with faults; or warnings, where these refuse. The console gained these messages in order,
  -- and how many they are.
  pub refuses : status ≡ 1 → ForSome before.files.contents (λ told. TellsRefusal words told before after)
  -- And where no count of faults rose, all that is so refused gives 1, and the console gains its messages; or the call
  -- gives 4.
  pub complete_refusal : IsQuiet before after → ForSome before.files.contents
      (λ told. (request : Request) → (fetched : List (List ℕ)) → (messages : List Message) →
      IsRefused words told request fetched messages →
      ((status ≡ 1) × Tells before after (refusal_text request fetched messages)) ⊎ (status ≡ 4))

-- the kinds of outputs that the words ask for
abbrev pub kinds_for : List (List ℕ) → Kinds
kinds_for words = kinds_by (task_by words)

-- The call leaves these boxes (`new`) of those that it was lent (`old`). A box has a kind; it holds pieces, and is
-- finished or not. `contents` is what the files held, where that is told.
pub record LeavesBoxes {X : Type 0} (kind_of : X → Kind) (pieces_of : X → List Piece) (is_finished : X → Bool)
    (words : List (List ℕ)) (contents : Option (List Named)) (status : ℕ) (old new : List X) : Type 0 where
  -- The boxes are as before, or those of the kinds that are asked for are left, in their old order.
  pub boxes : (new ≡ old) ⊎ HoldsAsked kind_of (kinds_for words) old new
  -- After 1 and 2, and where preprocessed text alone is asked for, they are as before.
  pub as_before : 1 ≤ status → status ≤ 2 → new ≡ old
  pub text_alone : asks_for_text words ≡ true → new ≡ old
  -- After 0, where that is not, exactly those of the kinds that are asked for are left, in their old order. They are
  -- finished over one list of pieces, which are those of the last table, or of the template, and no others; and their
  -- texts are the bytes of the last files.
  pub rendered : status ≡ 0 → asks_for_text words ≡ false → HoldsAsked kind_of (kinds_for words) old new
      × AreRendered pieces_of is_finished (kinds_for words) new (answer_for words) (pieces_for words) contents
  -- Where the words name a source, these are the pieces of the table of its last block, which `headline` has, and where
  -- they name a data table, that table's.
  pub over_its_table : status ≡ 0 → ForSome contents
      (λ told. (request : Request) → (items : List Raw) → (source : NamesSource words told request items) →
      All (λ b. pieces_of b ≡ last_its_pieces request source.named.lines items) new)
  pub over_its_data : status ≡ 0 → ForSome contents
      (λ told. (request : Request) → (table : DataTable) → NamesData words told request table →
      All (λ b. pieces_of b ≡ table.pieces) new)
