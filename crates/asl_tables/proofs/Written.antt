-- The table of a core's block is that of the source's terms.
use Rattle.std.proofs.Common.{◌≡◌, ℕ, ◌+◌, ◌<◌, ◌≤◌, Bool, true, false, List, [], ◌∷◌, length, sym, ap, ◌∙◌, subst, arith}
use Rattle.std.specs.Prelude.{nat_le, if◌then◌else◌}
use Rattle.std.proofs.lemmas.Bool.Decides.{nat_tests}
use Rattle.iasl_messages.specs.declared.message.Message.{Message}
use Rattle.iasl_messages.specs.declared.place.Place.{Place}
use Rattle.iasl_messages.specs.declared.place.Line.{Line}
use Rattle.iasl_messages.specs.declared.place.Piece.{Piece}
use Rattle.acpi_values.specs.Paths.{AbsolutePath}
use Rattle.asl_tree.specs.declared.program.Block.{Block}
use Rattle.asl_tree.specs.Tree.{Trees}
use Rattle.term_places.specs.Places.{places_of}
use Rattle.acpi_values.specs.Revisions.{width_of}
use Rattle.asl_meaning.specs.Declarations.{known_of, externals}
use Rattle.else_runs.specs.Runs.{nested_all}
use Rattle.aml_meaning.specs.Encoded.{encoded_terms}
use Rattle.aml_code.specs.Header.{fields_of, table_bytes}
use Rattle.aml_sessions.specs.Ready.{IsReadyBlock, AreReady}
use Rattle.aml_sessions.proofs.Nested.{nested_ready}
use Rattle.aml_sessions.proofs.Tables.{length_is}
use Rattle.aml_sizes.specs.Styles.{style_of}
use Rattle.aml_sizes.specs.TermLists.{terms_bytes}
use Rattle.aml_sizes.specs.TableSizes.{most_table_bytes, IsTooLong}
use Rattle.aml_writer.specs.Written.{IsTableOf, IsTable}
use Rattle.aml_sizes.specs.Pieces.{joined_pieces}
use Rattle.aml_writer.specs.Cuts.{table_parts, pieces_with, IsCut}
use Rattle.aml_sizes.proofs.Encodings.{ready_bytes}
use Rattle.named_sessions.specs.Core.{core_beside}
use Rattle.named_sessions.proofs.Settles.{knows_start}
use Rattle.named_sessions.proofs.Main.{is_ready}
use Rattle.asl_tables.specs.declared.compile.Style.{Style}
use Rattle.block_outcomes.specs.declared.outcome.Outcome.{Outcome}
use Rattle.block_outcomes.specs.declared.outcome.Outcome.TheVariants.{Done, Faulty}
use Rattle.asl_tables.specs.Compiled.{too_long, its_table, its_pieces, of_table}
use Rattle.asl_tables.specs.Ready.{IsCoreOf}

pub block_ready : (shorten : Bool) (also : AbsolutePath → Bool) (terms : Trees) (block : Block) → IsCoreOf shorten also terms block → IsReadyBlock (known_of terms) block
block_ready shorten also terms block is = record {
  signature = is.room.signature;
  oem_id = is.room.oem_id;
  table_id = is.room.table_id;
  oem_revision = is.room.oem_revision;
  terms = subst (λ ts. AreReady ⊥ (known_of terms) (nested_all ts) []) (sym is.core) (nested_ready (known_of terms) (core_beside shorten also terms) [] (is_ready shorten also terms is.shaped is.names is.counts));
}

abbrev by_size : Bool → Place → List ℕ → List ℕ → List Piece → Outcome
by_size c place signature own pieces = if c then Done signature own pieces else Faulty (too_long place ∷ [])

-- the pieces of a core's block
abbrev pub pieces_of : Style → List Line → (also : AbsolutePath → Bool) → Trees → Block → List Piece
pieces_of style lines also terms block = its_pieces style lines (block.place ∷ places_of block.terms.items) (fields_of block) also terms

pub table_written : (style : Style) (lines : List Line) (also : AbsolutePath → Bool) (terms : Trees) (block : Block) (signature own : List ℕ) (pieces : List Piece) → IsCoreOf style.shorten also terms block → signature ≡ block.signature → own ≡ block.file
    → IsTable block style.short (joined_pieces pieces) → IsCut lines block style.short pieces → Done signature own pieces ≡ of_table block.place block.signature block.file (its_table style also terms block) (pieces_of style lines also terms block)
table_written style lines also terms block signature own pieces is esig eown any cut =
    let ready : IsReadyBlock (known_of terms) block = block_ready style.shorten also terms block is in
    let table : IsTableOf (known_of terms) (externals terms) block style.short (joined_pieces pieces) = any.table (known_of terms) (externals terms) (knows_start terms is.names) ready in
    let are : pieces ≡ pieces_of style lines also terms block =
    (cut.cut (known_of terms) ready.terms).are ∙ ap (λ ts. pieces_with lines (block.place ∷ places_of block.terms.items) (table_parts (fields_of block) style.short ts)) is.core in
    let e : joined_pieces pieces ≡ its_table style also terms block = table.encoded ∙ ap (λ ts. table_bytes (fields_of block) (encoded_terms (width_of block.revision) style.short ts)) is.core in
    let within : length (its_table style also terms block) ≤ most_table_bytes = subst (λ bs. length bs ≤ most_table_bytes) e table.within in
    let fits : nat_le (length (its_table style also terms block)) most_table_bytes ≡ true = grind (arith, nat_tests) in
    ap (λ s. Done s own pieces) esig ∙ ap (λ o. Done block.signature o pieces) eown ∙ ap (λ ps. Done block.signature block.file ps) are
    ∙ sym (ap (λ c. by_size c block.place block.signature block.file (pieces_of style lines also terms block)) fits)

abbrev made : ℕ → Place → List ℕ → Message
made number place name = record { number = number; place = place; name = name }

message_is : (message other : Message) → message.number ≡ other.number → message.place ≡ other.place → message.name ≡ other.name → message ≡ other
message_is message other en ep ex = ap (λ n. made n message.place message.name) en ∙ ap (λ p. made other.number p message.name) ep ∙ ap (λ name. made other.number other.place name) ex

pub refused_written : (style : Style) (lines : List Line) (also : AbsolutePath → Bool) (terms : Trees) (block : Block) (message : Message) (messages : List Message) → IsCoreOf style.shorten also terms block
    → messages ≡ message ∷ [] → IsTooLong block style.short message → Faulty messages ≡ of_table block.place block.signature block.file (its_table style also terms block) (pieces_of style lines also terms block)
refused_written style lines also terms block message messages is em long =
    let written = style_of block style.short in
    let size : most_table_bytes < length (its_table style also terms block) =
    let l : length (its_table style also terms block) ≡ 36 + length (encoded_terms written.width style.short (core_beside style.shorten also terms)) = length_is (fields_of block) (encoded_terms written.width style.short (core_beside style.shorten also terms)) is.room.signature in
    let c : terms_bytes written block.terms.items ≡ encoded_terms written.width style.short (core_beside style.shorten also terms) = ready_bytes (known_of terms) written block.terms.items (block_ready style.shorten also terms block is).terms ∙ ap (encoded_terms written.width style.short) is.core in
    let n : length (terms_bytes written block.terms.items) ≡ length (encoded_terms written.width style.short (core_beside style.shorten also terms)) = ap length c in
    omega (arith, long.passes, l, n) in
    let passes : nat_le (length (its_table style also terms block)) most_table_bytes ≡ false = grind (arith, nat_tests) in
    let same : message ≡ too_long block.place = message_is message (too_long block.place) long.number long.place long.no_name in
    ap Faulty (em ∙ ap (λ m. m ∷ []) same) ∙ sym (ap (λ c. by_size c block.place block.signature block.file (pieces_of style lines also terms block)) passes)
