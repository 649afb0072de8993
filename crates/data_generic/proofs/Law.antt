-- The bytes of a generic table read as the values that its text writes.
use Rattle.std.proofs.Common.{◌≡◌, ◌≤◌, ◌<◌, ◌+◌, ◌^◌, ℕ, true, false, cond, List, [], ◌∷◌, length, map, Result, Ok, Err, refl, sym, ap, subst, ◌∙◌, arith, length-append}
use Rattle.iasl_messages.specs.declared.place.Line.{Line}
use Rattle.iasl_messages.specs.declared.place.Piece.{Piece}
use Rattle.iasl_messages.specs.declared.place.Place.{Place}
use Rattle.iasl_messages.specs.declared.message.Message.{Message}
use Rattle.iasl_messages.specs.declared.message.Stage.{Stage}
use Rattle.iasl_messages.specs.declared.message.Stage.TheVariants as stage
use Rattle.data_layout.specs.Layout.{header_rows}
use Rattle.data_text.specs.declared.field_line.FieldLine.{FieldLine}
use Rattle.data_text.specs.declared.field_line.DataText.{DataText}
use Rattle.data_text.specs.Source.{text_of}
use Rattle.data_text.specs.Values.{text_in}
use Rattle.data_tables.specs.declared.compiled.Compiled.{Compiled}
use Rattle.data_tables.specs.Entries.{entries_from}
use Rattle.data_tables.specs.Walk.{Field, Walked, fault_at}
use Rattle.data_tables.specs.Compiling.{Answer, answer_with_texts, piece_of, joined, sealed, with_texts}
use Rattle.data_tables.specs.Headers.{is_signature, rows_walk, header_walk, AreFaults, AnswersPieces}
use Rattle.data_tables.specs.Promise.{Answers}
use Rattle.data_tables.proofs.Sums.{joined-append}
use Rattle.data_tables.proofs.Law.{bytes_stay}
use Rattle.data_tables.proofs.Headers.{RowsOf, rows_fields, HeaderRead, header_read, header_bytes}
use Rattle.data_generic.specs.Walk.{DataField, DataWalked, data_piece, most_bytes, walk_all}
use Rattle.data_generic.specs.Labels.{label_of}
use Rattle.data_generic.specs.Compiling.{data_lines, unsealed, first_bytes, table_by, behind_header, generic_by, checked_lines, generic_text, compiled_generic, entries_of, header_by, written_header, data_by, written_data}
use Rattle.data_generic.specs.Reading.{ReadsData, ReadsGeneric}
use Rattle.data_generic.proofs.Data.{IsGood, walk_good, fields_read}

-- the fields of a header without faults are those of its rows
header_fields : (end : Place) (lines : List FieldLine) → (header_walk end lines).faults ≡ [] → RowsOf header_rows (header_walk end lines).fields
header_fields end [] e = absurd cc
header_fields end (line ∷ lines) e =
    elim (is_signature (text_in line.value)) as (λ b. (cond b (rows_walk end header_rows (line ∷ lines)) (fault_at line.place 6090)).faults ≡ [] → RowsOf header_rows (cond b (rows_walk end header_rows (line ∷ lines)) (fault_at line.place 6090)).fields) [
      | true ↦ λ g. rows_fields end header_rows (line ∷ lines) g
      | false ↦ λ g. absurd cc
    ] e

sizes : (a b most : ℕ) → a ≡ 36 → 36 + b ≤ most → most ≡ 2 ^ 24 → a + b < 2 ^ 32
sizes a b most e h m = omega (arith, e, h, m)

unsealed_short : (header : List Field) (fields : List DataField) → length (joined (map piece_of header)) ≡ 36 → 36 + length (joined (map data_piece fields)) ≤ most_bytes → length (joined (unsealed header fields)) < 2 ^ 32
unsealed_short header fields e h =
    let size : length (joined (unsealed header fields)) ≡ length (joined (map piece_of header)) + length (joined (map data_piece fields)) =
    ap length (joined-append (map piece_of header) (map data_piece fields)) ∙ length-append (joined (map piece_of header)) (joined (map data_piece fields)) in
    subst (λ (n : ℕ). n < 2 ^ 32) (sym size) (sizes (length (joined (map piece_of header))) (length (joined (map data_piece fields))) most_bytes e h refl)

-- the sealed bytes of a header and of data lines without faults
pub table_reads : (header : List Field) (w : DataWalked) → RowsOf header_rows header → IsGood 36 w → ReadsGeneric (joined (sealed (unsealed header w.fields))) (entries_from 0 header) (entries_of w.fields)
table_reads header w rows good =
    let bytes : List ℕ = joined (sealed (unsealed header w.fields)) in
    let read : HeaderRead header (map data_piece w.fields) = header_read header (map data_piece w.fields) rows (unsealed_short header w.fields (header_bytes header rows) good.1) in
    record {
      stand = read.stand;
      values = read.values;
      data_read = subst (λ (o : ℕ). ReadsData bytes o (entries_of w.fields)) read.front_length (fields_read bytes read.front w.fields good.0 read.behind);
    }

abbrev IsTableOf : Compiled → List Field → List DataField → Type 0
IsTableOf out header fields = out.pieces ≡ sealed (unsealed header fields)

on_table : (header : List Field) (notes faults : List Message) (fields : List DataField) (out : Compiled) → table_by (map piece_of header) notes fields faults ≡ Ok out → (faults ≡ []) × IsTableOf out header fields
on_table header notes [] fields out e =
    let made : Compiled = record { pieces = sealed (unsealed header fields); signature = first_bytes (map piece_of header); notes = notes } in
    let both : ◌≡◌ {A = Answer} (Ok made) (Ok out) = e in
    let same : made ≡ out = cc in
    (refl, ap (λ (c : Compiled). c.pieces) (sym same))
on_table header notes (fault ∷ faults) fields out e = let both : ◌≡◌ {A = Answer} (Err (fault ∷ faults)) (Ok out) = e in absurd cc

on_header : (end : Place) (fields : List FieldLine) (faults : List Message) (out : Compiled) → (header_walk end fields).faults ≡ faults → behind_header fields (header_walk end fields) faults ≡ Ok out → ReadsGeneric (joined out.pieces) (entries_from 0 (header_walk end fields).fields) (entries_of (walk_all (data_lines fields)).fields)
on_header end fields [] out none e =
    let w : DataWalked = walk_all (data_lines fields) in
    let header : Walked = header_walk end fields in
    let t = on_table header.fields header.notes w.faults w.fields out e in
    let good : IsGood 36 w = walk_good (label_of (data_lines fields)) 0 36 (data_lines fields) (omega arith) t.0 in
    subst (λ (pieces : List Piece). ReadsGeneric (joined pieces) (entries_from 0 header.fields) (entries_of w.fields)) (sym t.1) (table_reads header.fields w (header_fields end fields none) good)
on_header end fields (fault ∷ faults) out none e = let both : ◌≡◌ {A = Answer} (Err (fault ∷ faults)) (Ok out) = e in absurd cc

on_lines : (end : Place) (found : Result (List FieldLine) (List Message)) (out : Compiled) → generic_by end found ≡ Ok out → ReadsGeneric (joined out.pieces) (header_by end found) (data_by found)
on_lines end (Err messages) out e = let both : ◌≡◌ {A = Answer} (Err messages) (Ok out) = e in absurd cc
on_lines end (Ok fields) out e = on_header end fields (header_walk end fields).faults out refl e

-- the bytes of a compiled text read as the values that it writes
pub reads_as_written : (lines : List Line) (out : Compiled) → compiled_generic lines ≡ Ok out → ReadsGeneric (joined out.pieces) (written_header lines) (written_data lines)
reads_as_written lines out e =
    let inner = bytes_stay lines (generic_text (text_of lines)) out e in
    subst (λ (bytes : List ℕ). ReadsGeneric bytes (written_header lines) (written_data lines)) (sym inner.2) (on_lines (text_of lines).end (checked_lines (text_of lines)) inner.0 inner.1)

-- the same of an answer, in the form of the code
pub reads_compiled : (lines slice : List Line) (table : Compiled) (out : Compiled) → slice ≡ lines → generic_text (text_of slice) ≡ Ok table → out ≡ record table { pieces = with_texts slice table.pieces } → ReadsGeneric (joined out.pieces) (written_header lines) (written_data lines)
reads_compiled lines slice table out same exact made =
    let is : compiled_generic slice ≡ Ok out = ap (answer_with_texts slice) exact ∙ ap (λ (t : Compiled). Ok t) (sym made) in
    subst (λ (ls : List Line). ReadsGeneric (joined out.pieces) (written_header ls) (written_data ls)) same (reads_as_written slice out is)

-- ---- faults of the header

some_faults : (fields : List FieldLine) (header : Walked) (messages : List Message) → header.faults ≡ messages → (messages ≡ [] → ⊥) → behind_header fields header header.faults ≡ Err messages
some_faults fields header [] e n = absurd (n refl)
some_faults fields header (message ∷ messages) e n = ap (behind_header fields header) e

-- a header that is refused
pub header_refused : (text : DataText) (fields slice : List FieldLine) (reason : Stage) → slice ≡ fields → checked_lines text ≡ Ok fields → AnswersPieces (Err reason) (header_walk text.end slice) → Answers (Err reason) (generic_text text)
header_refused text fields slice (stage.Refused messages) same e a =
    let both : AreFaults (header_walk text.end fields).faults messages = subst (λ (ls : List FieldLine). AreFaults (header_walk text.end ls).faults messages) same a in
    ap (generic_by text.end) e ∙ some_faults fields (header_walk text.end fields) messages both.0 both.1
header_refused text fields slice stage.Memory same e a = tt
