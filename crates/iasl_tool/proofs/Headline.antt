-- A source that is read is put as a table that does what the source says.
use Rattle.std.proofs.lemmas.List.{append-nil}
use Rattle.std.proofs.Common.{◌≡◌, ℕ, ◌≤◌, Bool, true, false, refl, subst, ◌⊎◌, inl, inr, Err, List, [], ◌∷◌, length, Option, Some, None, Result, Ok, ap, sym, ◌∙◌, arith}
use Rattle.std.specs.Prelude.{◌<◌, ◌^◌, ◌&&◌, cond, ◌++◌}
use Rattle.iasl_ports.specs.Gained.{Named}
use Rattle.iasl_ports.specs.Delivery.{Answer, due_of, status_of}
use Rattle.iasl_runs.specs.Ends.{World}
use Rattle.iasl_messages.specs.declared.place.Line.{Line}
use Rattle.iasl_messages.specs.declared.message.Message.{Message}
use Rattle.iasl_messages.specs.Console.{table_line}
use Rattle.asl_preprocess.specs.Preprocess.{Preprocessed, Given, Stopped, Absent, preprocessed}
use Rattle.asl_lexer.specs.declared.token.Token.{Token}
use Rattle.asl_lexer.specs.declared.mode.Fault.{Fault}
use Rattle.asl_lexer.specs.Marks.{tokens_of}
use Rattle.asl_lexer.proofs.Told.{tokens_are_cut, cut_is_tokens}
use Rattle.asl_syntax.specs.declared.raw.Raw.{Raw}
use Rattle.asl_parser.specs.Grammar.{Spells}
use Rattle.asl_parser.specs.Parse.{ParseOutcome, outcome, read, stopped, sunk, tall}
use Rattle.asl_parser.proofs.Told.{is_spelled, is_not_deep}
use Rattle.iasl_tool.proofs.Readings.{spelled_is_outcome}
use Rattle.asl_syntax.specs.Written.{writtens}
use Rattle.asl_shape.specs.Forms.{errors_at, alone}
use Rattle.source_pieces.proofs.Joined.{joined_is_table}
use Rattle.iasl_backends.specs.Table.{table_bytes}
use Rattle.data_tables.specs.declared.compiled.Compiled.{Compiled as DataTable}
use Rattle.data_tables.specs.Compiling.{Answer as DataAnswer, joined}
use Rattle.data_tables.specs.Entries.{unsealed_bytes}
use Rattle.data_tables.proofs.Law.{reads_as_written}
use Rattle.data_tables.proofs.Unique.{only_written}
use Rattle.data_tables.proofs.Sizes.{few_bytes}
use Rattle.data_generic.proofs.Law.{reads_as_written as generic_as_written}
use Rattle.data_generic.proofs.Only.{only_written as only_generic}
use Rattle.iasl_options.specs.Asking.{Asked}
use Rattle.iasl_options.specs.Task.{Task, Compiles, Generates, Templates, settings_in, task_by}
use Rattle.iasl_options.proofs.Tasks.{task_from, task_to}
use Rattle.generated_lines.specs.Generated.{generated_lines}
use Rattle.iasl_messages.specs.Console.{devices_line}
use Rattle.program_shapes.specs.Kept.{IsKeptSource, AreKeptAlone}
use Rattle.program_shapes.specs.Sources.{statements_in, EachRight, IsRightSource}
use Rattle.program_shapes.proofs.Kept.{is_kept}
use Rattle.program_shapes.proofs.Lexed.{lexed_short}
use Rattle.program_shapes.proofs.Few.{few_tokens}
use Rattle.program_shapes.proofs.Tables.{does_as}
use Rattle.block_outcomes.specs.declared.outcome.Compiled.{Compiled}
use Rattle.block_outcomes.specs.declared.outcome.Compiled.TheVariants.{Made, Refused}
use Rattle.asl_tables.specs.Compiled.{all_noted, of_lines, of_items, of_outcome, of_tokens, cut_in, tables_of, EachWithin}
use Rattle.asl_tables.proofs.Sources.{made_of, made_from}
use Rattle.iasl_tool.specs.Sources.{is_data_source, data_answer, of_data, of_source}
use Rattle.table_outputs.specs.Files.{name_in_use}
use Rattle.table_outputs.specs.Decision.{only_by, asks_for_text, wants_template, asks_for_template}
use Rattle.iasl_tool.specs.Due.{style_of, lines_of_tables, files_of_tables, unless_in_use, made_files, refusal, made_or_in_use, has_warning, answer_to_text, answer_to_compiled, answer_to_preprocessed, answer_to_file, answer_to_task, answer_for}
use Rattle.iasl_tool.specs.Outside.{Puts}
use Rattle.iasl_tool.specs.Headline.{Request, ComeFrom, a_file, devices, more_of, generated_request, table_of, table_for, data_file_of, further_of, further_data, files_of, source_files, data_files_of, EachDoes, LetsPass, NamesLines, NamesSource, NamesData, ReadsBack, PutsFaithfulTables, PutsDataTable, AreItsTables, AreItsFiles, WritesItsTables, WritesItsDataTable}
use Rattle.iasl_tool.proofs.Bytes.{as_joined_pieces, as_joined}
use Rattle.iasl_tool.proofs.Sizes.{come_sizes}
use Rattle.iasl_tool.proofs.Strict.{is_passed, lets_pass}

-- the files of a source of these lines, of the tables of whose blocks these are the pieces
abbrev files_with : Request → List Line → List Raw → List Named
files_with request lines items = files_of_tables request.asked request.file (tables_of (style_of request.asked) lines items)

abbrev lines_with : Request → List Line → List Raw → List ℕ → List ℕ
lines_with request lines items more = lines_of_tables request.asked request.file (tables_of (style_of request.asked) lines items) ++ more

-- what is due of a source in which no warning refuses these files, whose names are free
abbrev due_with : Request → List (List ℕ) → List Message → List ℕ → List Line → List Raw → List Named → Answer
due_with request files notes more lines items due = made_files request.asked files (notes ++ all_noted items) (lines_with request lines items more) due

-- what is due of a source in which no warning refuses these files
abbrev named_with : Request → List (List ℕ) → List Message → List ℕ → List Line → List Raw → List Named → Answer
named_with request files notes more lines items due = unless_in_use (name_in_use files due) (due_with request files notes more lines items due)

-- what is due of these files, whatever warnings there are
abbrev noted_with : Request → List (List ℕ) → List Message → List ℕ → List Line → List Raw → List Named → Answer
noted_with request files notes more lines items due =
    cond (request.asked.switches.strict && has_warning request.asked.ignored (notes ++ all_noted items)) (refusal request.asked files (notes ++ all_noted items)) (named_with request files notes more lines items due)

-- the bytes of a block's pieces are its table
pub bytes_are : (request : Request) (lines : List Line) (items : List Raw) → errors_at items ≡ [] → statements_in items ≡ [] → IsKeptSource (writtens items) → table_bytes (cut_in (style_of request.asked) lines items) ≡ table_for request items
bytes_are request lines items e s kept =
    let style = style_of request.asked in
    as_joined_pieces (cut_in style lines items) ∙ joined_is_table lines style.wrap style.fold style.short style.shorten items e s kept

-- the files of its tables are its files
files_are : (request : Request) (lines : List Line) (items : List Raw) → EachRight items → AreKeptAlone items → files_with request lines items ≡ source_files request lines items
files_are request lines [] right kept = refl
files_are request lines (item ∷ items) right kept =
    let one = alone item in
    ap (λ bytes. ((table_of request one, bytes) ∷ further_of request lines one) ++ files_with request lines items) (bytes_are request lines one right.0.form right.0.statements kept.0)
    ∙ ap (λ fs. files_of request lines one ++ fs) (files_are request lines items right.1 kept.1)

-- what is due of lines that are read
pub come_is : (words : List (List ℕ)) (told : List Named) (request : Request) (files : List (List ℕ)) (lines : List Line) (notes : List Message) (come : ComeFrom words told request files lines notes) (it : Compiled) → of_source request.asked.switches.generic (style_of request.asked) lines ≡ it
    → answer_for words told ≡ Some (answer_to_compiled request.asked request.file files notes (more_of come) it)
come_is words told request files lines notes (a_file line file_is compiles lines_are) it e =
    let asked = request.asked in
    let file = request.file in
    ap (answer_to_task told) (task_to words (Compiles asked) line)
    ∙ ap (answer_to_file asked told) file_is
    ∙ ap (answer_to_preprocessed asked file) lines_are
    ∙ ap (λ c. Some (cond c (answer_to_text asked file files lines notes) (answer_to_compiled asked file files notes [] (of_source asked.switches.generic (style_of asked) lines)))) compiles
    ∙ ap (λ it. Some (answer_to_compiled asked file files notes [] it)) e
come_is words told request files lines notes (devices count task request_is files_are lines_are notes_are) it e =
    ap (answer_to_task told) (task_to words (Generates count) task)
    ∙ ap (λ r. Some (answer_to_compiled r.asked r.file [] [] (devices_line count) (of_source r.asked.switches.generic (style_of r.asked) (generated_lines count)))) (sym request_is)
    ∙ ap (λ fs. Some (answer_to_compiled request.asked request.file fs [] (devices_line count) (of_source request.asked.switches.generic (style_of request.asked) (generated_lines count)))) (sym files_are)
    ∙ ap (λ ns. Some (answer_to_compiled request.asked request.file files ns (devices_line count) (of_source request.asked.switches.generic (style_of request.asked) (generated_lines count)))) (sym notes_are)
    ∙ ap (λ it. Some (answer_to_compiled request.asked request.file files notes (devices_line count) it)) (ap (of_source request.asked.switches.generic (style_of request.asked)) (sym lines_are) ∙ e)

pub given_is : (words : List (List ℕ)) (told : List Named) (request : Request) (h : NamesLines words told request) (it : Compiled) → of_source request.asked.switches.generic (style_of request.asked) h.lines ≡ it → answer_for words told ≡ Some (answer_to_compiled request.asked request.file h.files h.notes (more_of h.come) it)
given_is words told request h it e = come_is words told request h.files h.lines h.notes h.come it e

-- the parser keeps what it reads
pub kept_from : (words : List (List ℕ)) (told : List Named) (request : Request) (n : NamesLines words told request) (tokens : List Token) (items : List Raw) → tokens_of n.lines ≡ Ok tokens → Spells items tokens → AreKeptAlone items
kept_from words told request n tokens items cut spelled =
    let sizes = come_sizes words told request n.files n.lines n.notes n.come in
    is_kept items tokens spelled (few_tokens n.lines tokens cut sizes.0) (lexed_short n.lines tokens cut sizes.1)

kept_source : (words : List (List ℕ)) (told : List Named) (request : Request) (items : List Raw) → NamesSource words told request items → AreKeptAlone items
kept_source words told request items h = kept_from words told request h.named h.tokens items (cut_is_tokens h.named.lines h.tokens h.tokens_are) h.spelled

-- what a source that the words name comes to
pub compiled_is : (words : List (List ℕ)) (told : List Named) (request : Request) (items : List Raw) (h : NamesSource words told request items)
    → of_source request.asked.switches.generic (style_of request.asked) h.named.lines ≡ Made (tables_of (style_of request.asked) h.named.lines items) (all_noted items)
compiled_is words told request items h =
    let lines = h.named.lines in
    let style = style_of request.asked in
    ap (λ c. cond c (of_data (data_answer request.asked.switches.generic lines)) (of_lines style lines)) h.is_asl
    ∙ ap (of_tokens style lines) (cut_is_tokens lines h.tokens h.tokens_are) ∙ ap (of_outcome style lines h.tokens) (spelled_is_outcome items h.tokens h.spelled h.shallow h.low) ∙ made_of style lines items h.right h.tables_within

answer_is : (words : List (List ℕ)) (told : List Named) (request : Request) (items : List Raw) (h : NamesSource words told request items) → answer_for words told ≡ Some (due_with request h.named.files h.named.notes (more_of h.named.come) h.named.lines items (source_files request h.named.lines items))
answer_is words told request items h =
    let lines = h.named.lines in
    let files = h.named.files in
    let notes = h.named.notes in
    let more = more_of h.named.come in
    given_is words told request h.named (Made (tables_of (style_of request.asked) lines items) (all_noted items)) (compiled_is words told request items h)
    ∙ ap (λ due. Some (noted_with request files notes more lines items due)) (files_are request lines items h.right.blocks (kept_source words told request items h))
    ∙ ap (λ c. Some (cond c (refusal request.asked files (notes ++ all_noted items)) (named_with request files notes more lines items (source_files request lines items)))) (is_passed request.asked (notes ++ all_noted items) h.notes_pass)
    ∙ ap (λ o. Some (unless_in_use o (due_with request files notes more lines items (source_files request lines items)))) h.names_are_free

each_does : (request : Request) (lines : List Line) (items : List Raw) → EachRight items → AreKeptAlone items → EachWithin (style_of request.asked) items → EachDoes request lines items
each_does request lines [] right kept within = tt
each_does request lines (item ∷ items) right kept within =
    let asked = request.asked.switches in (
      record {
        does = does_as asked.wrap asked.fold asked.short asked.shorten (alone item) right.0 kept.0 within.0.table;
        joined_pieces = bytes_are request lines (alone item) right.0.form right.0.statements kept.0;
      },
      each_does request lines items right.1 kept.1 within.1,
    )

pub puts_faithful_tables : (words : List (List ℕ)) (told : List Named) (request : Request) (items : List Raw) (h : NamesSource words told request items) → PutsFaithfulTables words told request h.named.lines items
puts_faithful_tables words told request items h =
    let answer = answer_is words told request items h in
    record {
      status = ap status_of answer;
      due = ap due_of answer;
      does = each_does request h.named.lines items h.right.blocks (kept_source words told request items h) h.tables_within;
    }

-- ---- data tables

-- the line that tells of a data table, and a further line
abbrev data_line : Request → DataTable → List ℕ → List ℕ
data_line request table more = table_line (data_file_of request) table.signature (length (joined table.pieces)) ++ more

-- what is due of a data table where no warning refuses these files, whose names are free
abbrev due_data : Request → List (List ℕ) → List Message → List ℕ → DataTable → List Named → Answer
due_data request files notes line table due = made_files request.asked files (notes ++ table.notes) line due

-- what is due of a data table where no warning refuses these files
abbrev named_data : Request → List (List ℕ) → List Message → List ℕ → DataTable → List Named → Answer
named_data request files notes line table due = unless_in_use (name_in_use files due) (due_data request files notes line table due)

-- what is due of these files, whatever warnings there are
abbrev noted_data : Request → List (List ℕ) → List Message → List ℕ → DataTable → List Named → Answer
noted_data request files notes line table due =
    cond (request.asked.switches.strict && has_warning request.asked.ignored (notes ++ table.notes)) (refusal request.asked files (notes ++ table.notes)) (named_data request files notes line table due)

-- what is due of the one table of a text of fields
data_due : (request : Request) (files : List (List ℕ)) (notes : List Message) (more : List ℕ) (table : DataTable)
    → answer_to_compiled request.asked request.file files notes more (of_data (Ok table)) ≡ noted_data request files notes (data_line request table more) table (data_files_of request table)
data_due request files notes more table =
    let line = λ (bytes : List ℕ). table_line (data_file_of request) table.signature (length bytes) in
    let own = λ (bytes : List ℕ). (data_file_of request, bytes) ∷ further_data request table in
    let bytes = table_bytes table.pieces in
    ap (λ due. noted_data request files notes ((line bytes ++ []) ++ more) table due) (append-nil (own bytes))
    ∙ ap (λ l. noted_data request files notes (l ++ more) table (own bytes)) (append-nil (line bytes))
    ∙ ap (λ bytes. noted_data request files notes (line bytes ++ more) table (own bytes)) (as_joined table.pieces)

-- what a data table that the words name comes to
pub data_comes : (words : List (List ℕ)) (told : List Named) (request : Request) (table : DataTable) (h : NamesData words told request table) → of_source request.asked.switches.generic (style_of request.asked) h.named.lines ≡ of_data (Ok table)
data_comes words told request table h =
    ap (λ c. cond c (of_data (data_answer request.asked.switches.generic h.named.lines)) (of_lines (style_of request.asked) h.named.lines)) h.is_data ∙ ap of_data h.table_is

data_is : (words : List (List ℕ)) (told : List Named) (request : Request) (table : DataTable) (h : NamesData words told request table) → answer_for words told ≡ Some (due_data request h.named.files h.named.notes (data_line request table (more_of h.named.come)) table (data_files_of request table))
data_is words told request table h =
    let files = h.named.files in
    let notes = h.named.notes in
    let line = data_line request table (more_of h.named.come) in
    let due = data_files_of request table in
    given_is words told request h.named (of_data (Ok table)) (data_comes words told request table h)
    ∙ ap Some (data_due request files notes (more_of h.named.come) table)
    ∙ ap (λ c. Some (cond c (refusal request.asked files (notes ++ table.notes)) (named_data request files notes line table due))) (is_passed request.asked (notes ++ table.notes) h.notes_pass)
    ∙ ap (λ o. Some (unless_in_use o (due_data request files notes line table due))) h.names_are_free

-- the table reads back, of whichever kind it is
reads_back : (generic : Bool) (lines : List Line) (table : DataTable) → data_answer generic lines ≡ Ok table → length (unsealed_bytes lines) < 2 ^ 32 → ReadsBack generic lines (joined table.pieces)
reads_back true lines table e few = record { reads = generic_as_written lines table e; only = only_generic lines table e }
reads_back false lines table e few = record { reads = reads_as_written lines table e few; only = only_written lines table e few }

pub puts_data_table : (words : List (List ℕ)) (told : List Named) (request : Request) (table : DataTable) (h : NamesData words told request table) → PutsDataTable words told request table h.named.lines
puts_data_table words told request table h =
    let n = h.named in
    let answer = data_is words told request table h in
    let few : length (unsealed_bytes n.lines) < 2 ^ 32 = few_bytes n.lines (come_sizes words told request n.files n.lines n.notes n.come).0 in
    record {
      status = ap status_of answer;
      due = ap due_of answer;
      reads = reads_back request.asked.switches.generic n.lines table h.table_is few;
      joined_pieces = as_joined table.pieces;
    }

-- ---- which sources have status 0

-- what the words name
data Found (words : List (List ℕ)) (told : List Named) : Type 0 where
  a_source : (request : Request) (items : List Raw) (names : NamesSource words told request items) → Found words told
  a_data_table : (request : Request) (table : DataTable) (names : NamesData words told request table) → Found words told

-- what is known of a source's lines
record Known (words : List (List ℕ)) (told : List Named) : Type 0 where
  request : Request
  named : NamesLines words told request

abbrev status_with : (words : List (List ℕ)) (told : List Named) → Known words told → Compiled → ℕ
status_with words told k it = status_of (Some (answer_to_compiled k.request.asked k.request.file k.named.files k.named.notes (more_of k.named.come) it))

module _ (words : List (List ℕ)) (told : List Named) where
  by_name : (k : Known words told) (asl : is_data_source k.request.asked.switches.generic k.named.lines ≡ false) (tokens : List Token) (items : List Raw) (o : Option (List ℕ)) → tokens_of k.named.lines ≡ Ok tokens → outcome tokens ≡ read items → IsRightSource items → EachWithin (style_of k.request.asked) items
      → LetsPass k.request.asked (k.named.notes ++ all_noted items) → name_in_use k.named.files (source_files k.request k.named.lines items) ≡ o
      → status_of (Some (unless_in_use o (due_with k.request k.named.files k.named.notes (more_of k.named.come) k.named.lines items (source_files k.request k.named.lines items)))) ≡ 0 → Found words told
  by_name k asl tokens items (Some name) et eo es ew ep en h = absurd (omega (arith, h))
  by_name k asl tokens items None et eo es ew ep en h = a_source k.request items (record {
    named = k.named;
    tokens = tokens;
    is_asl = asl;
    tokens_are = tokens_are_cut k.named.lines tokens et;
    spelled = is_spelled tokens (Ok (record { items = items })) eo;
    shallow = (is_not_deep tokens (Ok (record { items = items })) eo).0;
    low = (is_not_deep tokens (Ok (record { items = items })) eo).1;
    right = es;
    tables_within = ew;
    notes_pass = ep;
    names_are_free = en;
  })

  by_notes : (k : Known words told) (asl : is_data_source k.request.asked.switches.generic k.named.lines ≡ false) (tokens : List Token) (items : List Raw) (c : Bool) → tokens_of k.named.lines ≡ Ok tokens → outcome tokens ≡ read items → IsRightSource items → EachWithin (style_of k.request.asked) items
      → (k.request.asked.switches.strict && has_warning k.request.asked.ignored (k.named.notes ++ all_noted items)) ≡ c
      → status_of (Some (cond c (refusal k.request.asked k.named.files (k.named.notes ++ all_noted items)) (named_with k.request k.named.files k.named.notes (more_of k.named.come) k.named.lines items (source_files k.request k.named.lines items)))) ≡ 0 → Found words told
  by_notes k asl tokens items true et eo es ew ep h = absurd (omega (arith, h))
  by_notes k asl tokens items false et eo es ew ep h =
      by_name k asl tokens items (name_in_use k.named.files (source_files k.request k.named.lines items)) et eo es ew (lets_pass k.request.asked (k.named.notes ++ all_noted items) ep) refl h

  -- of tables that are made nothing is wrong with the source
  by_made : (k : Known words told) (asl : is_data_source k.request.asked.switches.generic k.named.lines ≡ false) (tokens : List Token) (items : List Raw) → tokens_of k.named.lines ≡ Ok tokens → outcome tokens ≡ read items → IsRightSource items → EachWithin (style_of k.request.asked) items
      → status_with words told k (Made (tables_of (style_of k.request.asked) k.named.lines items) (all_noted items)) ≡ 0 → Found words told
  by_made k asl tokens items et eo es ew h =
      let kept = kept_from words told k.request k.named tokens items et (is_spelled tokens (Ok (record { items = items })) eo) in
      by_notes k asl tokens items (k.request.asked.switches.strict && has_warning k.request.asked.ignored (k.named.notes ++ all_noted items)) et eo es ew refl
      (subst (λ due. status_of (Some (noted_with k.request k.named.files k.named.notes (more_of k.named.come) k.named.lines items due)) ≡ 0) (files_are k.request k.named.lines items es.blocks kept) h)

  by_items : (k : Known words told) (asl : is_data_source k.request.asked.switches.generic k.named.lines ≡ false) (tokens : List Token) (items : List Raw) (it : Compiled) → tokens_of k.named.lines ≡ Ok tokens → outcome tokens ≡ read items → of_items (style_of k.request.asked) k.named.lines items ≡ it
      → status_with words told k it ≡ 0 → Found words told
  by_items k asl tokens items (Made tables notes) et eo ei h =
      let style = style_of k.request.asked in
      let right = made_from style k.named.lines items tables notes ei in
      by_made k asl tokens items et eo right.0 right.1 (subst (λ it. status_with words told k it ≡ 0) (sym ei ∙ made_of style k.named.lines items right.0 right.1) h)
  by_items k asl tokens items (Refused messages) et eo ei h = absurd (omega (arith, h))

  by_outcome : (k : Known words told) (asl : is_data_source k.request.asked.switches.generic k.named.lines ≡ false) (tokens : List Token) (o : ParseOutcome) → tokens_of k.named.lines ≡ Ok tokens → outcome tokens ≡ o → status_with words told k (of_outcome (style_of k.request.asked) k.named.lines tokens o) ≡ 0 → Found words told
  by_outcome k asl tokens (read items) et eo h = by_items k asl tokens items (of_items (style_of k.request.asked) k.named.lines items) et eo refl h
  by_outcome k asl tokens (stopped rest) et eo h = absurd (omega (arith, h))
  by_outcome k asl tokens (sunk rest) et eo h = absurd (omega (arith, h))
  by_outcome k asl tokens (tall number) et eo h = absurd (omega (arith, h))

  by_tokens : (k : Known words told) (asl : is_data_source k.request.asked.switches.generic k.named.lines ≡ false) (r : Result (List Token) Fault) → tokens_of k.named.lines ≡ r → status_with words told k (of_tokens (style_of k.request.asked) k.named.lines r) ≡ 0 → Found words told
  by_tokens k asl (Err fault) et h = absurd (omega (arith, h))
  by_tokens k asl (Ok tokens) et h = by_outcome k asl tokens (outcome tokens) et refl h

  -- ---- a data table

  by_data_name : (k : Known words told) (table : DataTable) (o : Option (List ℕ)) → is_data_source k.request.asked.switches.generic k.named.lines ≡ true → data_answer k.request.asked.switches.generic k.named.lines ≡ Ok table → LetsPass k.request.asked (k.named.notes ++ table.notes) → name_in_use k.named.files (data_files_of k.request table) ≡ o
      → status_of (Some (unless_in_use o (due_data k.request k.named.files k.named.notes (data_line k.request table (more_of k.named.come)) table (data_files_of k.request table)))) ≡ 0 → Found words told
  by_data_name k table (Some name) kind et ep en h = absurd (omega (arith, h))
  by_data_name k table None kind et ep en h = a_data_table k.request table (record { named = k.named; is_data = kind; table_is = et; notes_pass = ep; names_are_free = en })

  by_data_notes : (k : Known words told) (table : DataTable) (c : Bool) → is_data_source k.request.asked.switches.generic k.named.lines ≡ true → data_answer k.request.asked.switches.generic k.named.lines ≡ Ok table → (k.request.asked.switches.strict && has_warning k.request.asked.ignored (k.named.notes ++ table.notes)) ≡ c
      → status_of (Some (cond c (refusal k.request.asked k.named.files (k.named.notes ++ table.notes)) (named_data k.request k.named.files k.named.notes (data_line k.request table (more_of k.named.come)) table (data_files_of k.request table)))) ≡ 0 → Found words told
  by_data_notes k table true kind et ep h = absurd (omega (arith, h))
  by_data_notes k table false kind et ep h = by_data_name k table (name_in_use k.named.files (data_files_of k.request table)) kind et (lets_pass k.request.asked (k.named.notes ++ table.notes) ep) refl h

  by_answer : (k : Known words told) (answer : DataAnswer) → is_data_source k.request.asked.switches.generic k.named.lines ≡ true → data_answer k.request.asked.switches.generic k.named.lines ≡ answer → status_with words told k (of_data answer) ≡ 0 → Found words told
  by_answer k (Ok table) kind et h =
      by_data_notes k table (k.request.asked.switches.strict && has_warning k.request.asked.ignored (k.named.notes ++ table.notes)) kind et refl
      (subst (λ answer. status_of (Some answer) ≡ 0) (data_due k.request k.named.files k.named.notes (more_of k.named.come) table) h)
  by_answer k (Err faults) kind et h = absurd (omega (arith, h))

  by_kind : (k : Known words told) (c : Bool) → is_data_source k.request.asked.switches.generic k.named.lines ≡ c
      → status_with words told k (cond c (of_data (data_answer k.request.asked.switches.generic k.named.lines)) (of_lines (style_of k.request.asked) k.named.lines)) ≡ 0 → Found words told
  by_kind k true kind h = by_answer k (data_answer k.request.asked.switches.generic k.named.lines) kind refl h
  by_kind k false kind h = by_tokens k kind (tokens_of k.named.lines) refl h

  by_only : (asked : Asked) (file : List ℕ) (files : List (List ℕ)) (lines : List Line) (notes : List Message) (c : Bool) → task_by words ≡ Ok (Compiles asked) → asked.file ≡ Some file → preprocessed told file asked.directories asked.definitions asked.enabled ≡ Given files lines notes → asked.only ≡ c → c ≡ false
      → status_of (Some (cond c (answer_to_text asked file files lines notes) (answer_to_compiled asked file files notes [] (of_source asked.switches.generic (style_of asked) lines)))) ≡ 0 → Found words told
  by_only asked file files lines notes true ew ef el eo z h = absurd cc
  by_only asked file files lines notes false ew ef el eo z h =
      by_kind (record { request = record { asked = asked; file = file }; named = record { files = files; lines = lines; notes = notes; come = a_file (task_from words (Compiles asked) ew) ef eo el } }) (is_data_source asked.switches.generic lines) refl h

  by_lines : (asked : Asked) (file : List ℕ) (p : Preprocessed) → task_by words ≡ Ok (Compiles asked) → asked.file ≡ Some file → preprocessed told file asked.directories asked.definitions asked.enabled ≡ p → asked.only ≡ false → status_of (answer_to_preprocessed asked file p) ≡ 0 → Found words told
  by_lines asked file (Given files lines notes) ew ef el z h = by_only asked file files lines notes asked.only ew ef el refl z h
  by_lines asked file (Stopped message files) ew ef el z h = absurd (omega (arith, h))
  by_lines asked file Absent ew ef el z h = absurd (omega (arith, h))

  by_file : (asked : Asked) (f : Option (List ℕ)) → task_by words ≡ Ok (Compiles asked) → asked.file ≡ f → asked.only ≡ false → status_of (answer_to_file asked told f) ≡ 0 → Found words told
  by_file asked None ew ef z h = absurd (omega (arith, h))
  by_file asked (Some file) ew ef z h = by_lines asked file (preprocessed told file asked.directories asked.definitions asked.enabled) ew ef refl z h

  by_words : (r : Result Task ℕ) → task_by words ≡ r → only_by (settings_in r) ≡ false → wants_template r ≡ false → status_of (answer_to_task told r) ≡ 0 → Found words told
  by_words (Err word) ew z t h = absurd (omega (arith, h))
  by_words (Ok (Templates table)) ew z t h = absurd cc
  by_words (Ok (Compiles asked)) ew z t h = by_file asked asked.file ew refl z h
  by_words (Ok (Generates count)) ew z t h =
      let lines = generated_lines count in
      by_kind (record { request = generated_request; named = record { files = []; lines = lines; notes = []; come = devices count (task_from words (Generates count) ew) refl refl refl refl } }) (is_data_source false lines) refl h

-- status 0 comes, where preprocessed text alone is not asked for, only of a source, whose tables are then what was gained
pub writes_its_tables : (words : List (List ℕ)) (told : List Named) (old new : World) → asks_for_text words ≡ false → asks_for_template words ≡ false → status_of (answer_for words told) ≡ 0 → Puts old new (due_of (answer_for words told)) → WritesItsTables words told old new ⊎ WritesItsDataTable words told old new
writes_its_tables words told old new z t h gained = by (by_words words told (task_by words) refl z t h)
  where
    by : Found words told → WritesItsTables words told old new ⊎ WritesItsDataTable words told old new
    by (a_source request items names) =
        let puts : PutsFaithfulTables words told request names.named.lines items = puts_faithful_tables words told request items names in
        inl (record { request = request; items = items; names = names; tables = subst (Puts old new) puts.due gained; does = puts.does })
    by (a_data_table request table names) =
        let puts : PutsDataTable words told request table names.named.lines = puts_data_table words told request table names in
        inr (record { request = request; table = table; names = names; gained = subst (Puts old new) puts.due gained; reads = puts.reads; joined_pieces = puts.joined_pieces })

-- each source that the words name is put
pub source_is_put : (words : List (List ℕ)) (told : List Named) (request : Request) (items : List Raw) (result : ℕ) (old new : World) (names : NamesSource words told request items) → (result ≡ status_of (answer_for words told)) ⊎ (result ≡ 4) → (result ≤ 2 → Puts old new (due_of (answer_for words told)))
    → ((result ≡ 0) × PutsFaithfulTables words told request names.named.lines items × Puts old new (source_files request names.named.lines items)) ⊎ (result ≡ 4)
source_is_put words told request items result old new names (inl e) gained =
    let puts : PutsFaithfulTables words told request names.named.lines items = puts_faithful_tables words told request items names in
    let zero : result ≡ 0 = e ∙ puts.status in
    inl (zero, puts, subst (Puts old new) puts.due (gained (omega (arith, zero))))
source_is_put words told request items result old new names (inr e) gained = inr e

-- and each data table
pub data_is_put : (words : List (List ℕ)) (told : List Named) (request : Request) (table : DataTable) (result : ℕ) (old new : World) (names : NamesData words told request table) → (result ≡ status_of (answer_for words told)) ⊎ (result ≡ 4) → (result ≤ 2 → Puts old new (due_of (answer_for words told)))
    → ((result ≡ 0) × PutsDataTable words told request table names.named.lines × Puts old new (data_files_of request table)) ⊎ (result ≡ 4)
data_is_put words told request table result old new names (inl e) gained =
    let puts : PutsDataTable words told request table names.named.lines = puts_data_table words told request table names in
    let zero : result ≡ 0 = e ∙ puts.status in
    inl (zero, puts, subst (Puts old new) puts.due (gained (omega (arith, zero))))
data_is_put words told request table result old new names (inr e) gained = inr e

-- what is due of a status other than 0 is nothing
abbrev Settled : Option Answer → Type 0
Settled None = Unit {0}
Settled (Some answer) = (answer.status ≡ 0) ⊎ (answer.due ≡ [])

module _ (words : List (List ℕ)) (told : List Named) where
  named_settled : (asked : Asked) (o : Option (List ℕ)) (files : List (List ℕ)) (notes : List Message) (line : List ℕ) (due : List Named) → Settled (Some (unless_in_use o (made_files asked files notes line due)))
  named_settled asked (Some name) files notes line due = inr refl
  named_settled asked None files notes line due = inl refl

  strict_settled : (asked : Asked) (c : Bool) (files : List (List ℕ)) (notes : List Message) (answer : Answer) → Settled (Some answer) → Settled (Some (cond c (refusal asked files notes) answer))
  strict_settled asked true files notes answer h = inr refl
  strict_settled asked false files notes answer h = h

  compiled_settled : (asked : Asked) (file : List ℕ) (files : List (List ℕ)) (notes : List Message) (more : List ℕ) (it : Compiled) → Settled (Some (answer_to_compiled asked file files notes more it))
  compiled_settled asked file files notes more (Made tables told) =
      let line = lines_of_tables asked file tables ++ more in
      let due = files_of_tables asked file tables in
      strict_settled asked (asked.switches.strict && has_warning asked.ignored (notes ++ told)) files (notes ++ told) (made_or_in_use asked files (notes ++ told) line due) (named_settled asked (name_in_use files due) files (notes ++ told) line due)
  compiled_settled asked file files notes more (Refused messages) = inr refl

  lines_settled : (asked : Asked) (file : List ℕ) (files : List (List ℕ)) (lines : List Line) (notes : List Message) (c : Bool) → c ≡ false → Settled (Some (cond c (answer_to_text asked file files lines notes) (answer_to_compiled asked file files notes [] (of_source asked.switches.generic (style_of asked) lines))))
  lines_settled asked file files lines notes true e = absurd cc
  lines_settled asked file files lines notes false e = compiled_settled asked file files notes [] (of_source asked.switches.generic (style_of asked) lines)

  given_settled : (asked : Asked) (file : List ℕ) (p : Preprocessed) → asked.only ≡ false → Settled (answer_to_preprocessed asked file p)
  given_settled asked file (Given files lines notes) z = lines_settled asked file files lines notes asked.only z
  given_settled asked file (Stopped message files) z = inr refl
  given_settled asked file Absent z = tt

  file_settled : (asked : Asked) (f : Option (List ℕ)) → asked.only ≡ false → Settled (answer_to_file asked told f)
  file_settled asked None z = inr refl
  file_settled asked (Some file) z = given_settled asked file (preprocessed told file asked.directories asked.definitions asked.enabled) z

  words_settled : (r : Result Task ℕ) → only_by (settings_in r) ≡ false → Settled (answer_to_task told r)
  words_settled (Err word) z = inr refl
  words_settled (Ok (Templates table)) z = inl refl
  words_settled (Ok (Compiles asked)) z = file_settled asked asked.file z
  words_settled (Ok (Generates count)) z = compiled_settled generated_request.asked generated_request.file [] [] (devices_line count) (of_source false (style_of generated_request.asked) (generated_lines count))

  -- files that are there are those of the source's tables
  its_files : (files : List Named) → AreItsTables words told files → AreItsFiles words told files
  its_files [] h = tt
  its_files (file ∷ further) h = inl h

  found_tables : Found words told → AreItsFiles words told (due_of (answer_for words told))
  found_tables (a_source request items names) =
      let puts : PutsFaithfulTables words told request names.named.lines items = puts_faithful_tables words told request items names in
      its_files (due_of (answer_for words told)) (record { request = request; items = items; names = names; are = puts.due; does = puts.does })
  found_tables (a_data_table request table names) =
      let puts : PutsDataTable words told request table names.named.lines = puts_data_table words told request table names in
      subst (AreItsFiles words told) (sym puts.due) (inr (record { request = request; table = table; names = names; name = refl; bytes = refl; reads = puts.reads; others = refl; joined_pieces = puts.joined_pieces }))

  by_settled : (o : Option Answer) → answer_for words told ≡ o → asks_for_text words ≡ false → asks_for_template words ≡ false → Settled o → AreItsFiles words told (due_of (answer_for words told))
  by_settled None is z t h = subst (AreItsFiles words told) (sym (ap due_of is)) tt
  by_settled (Some answer) is z t (inr none) = subst (AreItsFiles words told) (sym (ap due_of is ∙ none)) tt
  by_settled (Some answer) is z t (inl zero) = found_tables (by_words words told (task_by words) refl z t (ap status_of is ∙ zero))

  -- whatever the status, the files that are due are the table of a source that the words name, and its further outputs
  pub are_its_files : asks_for_text words ≡ false → asks_for_template words ≡ false → AreItsFiles words told (due_of (answer_for words told))
  are_its_files z t = by_settled (answer_for words told) refl z t (words_settled (task_by words) z)
