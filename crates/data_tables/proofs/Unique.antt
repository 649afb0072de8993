-- The bytes of a table read as one list of values.
use Rattle.std.proofs.Common.{◌≡◌, ◌≤◌, ◌<◌, ◌+◌, ◌^◌, ℕ, Bool, true, false, List, [], ◌∷◌, ◌++◌, length, map, Option, Some, Ok, refl, sym, ap, subst, ◌∙◌, arith}
use Rattle.std.specs.Prelude.{nat_lt, ◌&&◌}
use Rattle.std.proofs.lemmas.Bool.{and_parts}
use Rattle.std.proofs.lemmas.Bool.Decides.{nat_tests}
use Rattle.data_layout.specs.declared.row.Row.{Row}
use Rattle.data_layout.specs.declared.row.Kind.{Kind}
use Rattle.data_layout.specs.declared.row.Kind.TheVariants as k
use Rattle.data_layout.specs.declared.table.Table.{Table}
use Rattle.data_layout.specs.declared.row.Behind.{Behind}
use Rattle.data_layout.specs.declared.row.Behind.TheVariants as b
use Rattle.data_layout.specs.Layouts.{Layout}
use Rattle.data_layout.specs.Layout.{behind_of, entry_rows, type_rows, locality_row}
use Rattle.data_layout.proofs.Lookup.{of_each}
use Rattle.data_tables.specs.Entry.{Entry}
use Rattle.data_tables.specs.Reading.{rows_read, size_of, Stand, Tail, Entries, Structures, Localities, IsRest, ended, entry, structure, locality, Nothing, rest_by, rest_of, first_rows, ReadsAs}
use Rattle.iasl_messages.specs.declared.place.Line.{Line}
use Rattle.data_tables.specs.declared.compiled.Compiled.{Compiled}
use Rattle.data_tables.specs.Compiling.{joined, piece_of, with_texts, answer_with_texts, compiled, compiled_text}
use Rattle.data_text.specs.declared.field_line.DataText.{DataText}
use Rattle.data_text.specs.Source.{text_of}
use Rattle.data_tables.specs.Entries.{fields_of_text, written_values, unsealed_bytes}
use Rattle.data_tables.proofs.Plain.{is_type, type_one}
use Rattle.data_tables.proofs.Law.{reads_as_written}

pub stand_within : (bytes : List ℕ) (offset : ℕ) (rows : List Row) → Stand bytes offset rows → offset + size_of rows ≤ length bytes
stand_within bytes offset [] h = omega arith
stand_within bytes offset (row ∷ rows) h = let k = stand_within bytes (offset + row.width) rows h.1 in omega arith

-- an entry begins with a number, and has bytes
abbrev pub is_number : Kind → Bool
is_number k.Number = true
is_number k.Text = false
is_number k.Bytes = false
is_number k.Guid = false
is_number k.Reserved = false
is_number k.TableLength = false
is_number k.Checksum = false
is_number k.CompilerId = false
is_number k.CompilerRevision = false
is_number (k.Length size) = false
is_number k.Revision = false
is_number k.StructureType = false
is_number k.Localities = false
is_number (k.Locality n) = false

abbrev pub is_entry : List Row → Bool
is_entry [] = false
is_entry (row ∷ rows) = is_number row.kind && nat_lt 0 row.width

abbrev begins_by : Behind → List Row → List Row → Bool
begins_by b.Nothing entries types = true
begins_by b.Entries entries types = is_entry entries
begins_by b.Structures entries types = is_type types
begins_by b.Localities entries types = true

begins_sound : (table : Table) → begins_by (behind_of table) (entry_rows table) (type_rows table) ≡ true
begins_sound table = of_each (λ (l : Layout). begins_by l.behind l.entries l.types) refl table

-- where entries stand behind the fixed part of a table, they are such, and a structure begins with its type
abbrev pub IsSound : Table → Tail → Type 0
IsSound table Nothing = Unit {0}
IsSound table Entries = is_entry (entry_rows table) ≡ true
IsSound table Structures = is_type (type_rows table) ≡ true
IsSound table (Localities count place) = Unit {0}

sound_by : (table : Table) (bytes : List ℕ) (behind : Behind) → begins_by behind (entry_rows table) (type_rows table) ≡ true → IsSound table (rest_by behind bytes)
sound_by table bytes b.Nothing h = tt
sound_by table bytes b.Entries h = h
sound_by table bytes b.Structures h = h
sound_by table bytes b.Localities h = tt

pub sound_rest : (table : Table) (bytes : List ℕ) → IsSound table (rest_of table bytes)
sound_rest table bytes = sound_by table bytes (behind_of table) (begins_sound table)

entry_size : (rows : List Row) → is_entry rows ≡ true → 0 < size_of rows
entry_size [] h = absurd cc
entry_size (row ∷ rows) h = let each = and_parts (is_number row.kind) (nat_lt 0 row.width) h in let first : 0 < row.width = let e = each.1 in grind (arith, nat_tests) in omega (arith, first)

type_size : (types rows : List Row) → is_type types ≡ true → 0 < size_of (types ++ rows)
type_size types rows h =
    let one = type_one types h in
    let size : size_of (types ++ rows) ≡ one.first.width + size_of rows = ap (λ (rs : List Row). size_of (rs ++ rows)) one.are in
    let some = one.some in
    omega (arith, size, some)

-- nothing stands behind the end
past : (bytes : List ℕ) (offset : ℕ) (rows : List Row) → offset ≡ length bytes → 0 < size_of rows → Stand bytes offset rows → ⊥
past bytes offset rows e p h = let k = stand_within bytes offset rows h in omega arith

same_rest : (table : Table) (bytes : List ℕ) (tail : Tail) (number offset : ℕ) (one two : List Entry) → IsSound table tail → IsRest table bytes tail number offset one → IsRest table bytes tail number offset two → one ≡ two
same_rest table bytes tail number offset one two s (ended tail1 n1 o1 enough1 e1) (ended tail2 n2 o2 enough2 e2) = refl
same_rest table bytes tail number offset one two s (ended tail1 n1 o1 enough1 e1) (entry n2 o2 more2 stand2 rest2) = absurd (past bytes o2 (entry_rows table) e1 (entry_size (entry_rows table) s) stand2)
same_rest table bytes tail number offset one two s (ended tail1 n1 o1 enough1 e1) (structure n2 o2 rows2 more2 known2 stated2 stand2 rest2) = absurd (past bytes o2 (type_rows table ++ rows2) e1 (type_size (type_rows table) rows2 s) stand2)
same_rest table bytes tail number offset one two s (ended tail1 n1 o1 enough1 e1) (locality n2 o2 count2 place2 more2 lt2 stand2 rest2) = absurd (omega arith)
same_rest table bytes tail number offset one two s (entry n1 o1 more1 stand1 rest1) (ended tail2 n2 o2 enough2 e2) = absurd (past bytes o1 (entry_rows table) e2 (entry_size (entry_rows table) s) stand1)
same_rest table bytes tail number offset one two s (entry n1 o1 more1 stand1 rest1) (entry n2 o2 more2 stand2 rest2) =
    ap (λ (es : List Entry). rows_read (n1 + 1) bytes o1 (entry_rows table) ++ es) (same_rest table bytes Entries (n1 + 1) (o1 + size_of (entry_rows table)) more1 more2 s rest1 rest2)
same_rest table bytes tail number offset one two s (structure n1 o1 rows1 more1 known1 stated1 stand1 rest1) (ended tail2 n2 o2 enough2 e2) = absurd (past bytes o1 (type_rows table ++ rows1) e2 (type_size (type_rows table) rows1 s) stand1)
same_rest table bytes tail number offset one two s (structure n1 o1 rows1 more1 known1 stated1 stand1 rest1) (structure n2 o2 rows2 more2 known2 stated2 stand2 rest2) =
    let both : ◌≡◌ {A = Option (List Row)} (Some rows2) (Some rows1) = sym known2 ∙ known1 in
    let rows : rows2 ≡ rows1 = cc in
    let rest : IsRest table bytes Structures (n1 + 1) (o1 + size_of (type_rows table ++ rows1)) more2 = subst (λ (rs : List Row). IsRest table bytes Structures (n1 + 1) (o1 + size_of (type_rows table ++ rs)) more2) rows rest2 in
    ap (λ (es : List Entry). rows_read (n1 + 1) bytes o1 (type_rows table ++ rows1) ++ es) (same_rest table bytes Structures (n1 + 1) (o1 + size_of (type_rows table ++ rows1)) more1 more2 s rest1 rest)
    ∙ ap (λ (rs : List Row). rows_read (n1 + 1) bytes o1 (type_rows table ++ rs) ++ more2) (sym rows)
same_rest table bytes tail number offset one two s (locality n1 o1 count1 place1 more1 lt1 stand1 rest1) (ended tail2 n2 o2 enough2 e2) = absurd (omega arith)
same_rest table bytes tail number offset one two s (locality n1 o1 count1 place1 more1 lt1 stand1 rest1) (locality n2 o2 count2 place2 more2 lt2 stand2 rest2) =
    ap (λ (es : List Entry). rows_read (n1 + 1) bytes o1 (locality_row count1 place1 ∷ []) ++ es) (same_rest table bytes (Localities count1 (place1 + 1)) (n1 + 1) (o1 + count1) more1 more2 tt rest1 rest2)

at_table : (bytes : List ℕ) (table : Table) (one two more1 more2 : List Entry) → IsRest table bytes (rest_of table bytes) 0 (size_of (first_rows table bytes)) more1 → IsRest table bytes (rest_of table bytes) 0 (size_of (first_rows table bytes)) more2 → one ≡ rows_read 0 bytes 0 (first_rows table bytes) ++ more1 → two ≡ rows_read 0 bytes 0 (first_rows table bytes) ++ more2 → one ≡ two
at_table bytes table one two more1 more2 rest1 rest2 e f =
    e ∙ ap (λ (es : List Entry). rows_read 0 bytes 0 (first_rows table bytes) ++ es) (same_rest table bytes (rest_of table bytes) 0 (size_of (first_rows table bytes)) more1 more2 (sound_rest table bytes) rest1 rest2) ∙ sym f

-- what bytes read as is one list
pub reads_one : (bytes : List ℕ) (one two : List Entry) → ReadsAs bytes one → ReadsAs bytes two → one ≡ two
reads_one bytes one two r s =
    let both : ◌≡◌ {A = Option Table} (Some s.table) (Some r.table) = sym s.signature ∙ r.signature in
    let table : s.table ≡ r.table = cc in
    let rest = subst (λ (t : Table). IsRest t bytes (rest_of t bytes) 0 (size_of (first_rows t bytes)) s.more) table s.rest in
    let values = subst (λ (t : Table). two ≡ rows_read 0 bytes 0 (first_rows t bytes) ++ s.more) table s.values in
    at_table bytes r.table one two r.more s.more r.rest rest r.values values

-- so it is what the text writes, and nothing else
pub only_written : (lines : List Line) (out : Compiled) → compiled lines ≡ Ok out → length (unsealed_bytes lines) < 2 ^ 32 → (values : List Entry) → ReadsAs (joined out.pieces) values → values ≡ written_values lines
only_written lines out e short values r = reads_one (joined out.pieces) values (written_values lines) r (reads_as_written lines out e short)

pub only_compiled : (lines slice : List Line) (text : DataText) (table out : Compiled) → slice ≡ lines → text ≡ text_of slice → compiled_text text ≡ Ok table → length (joined (map piece_of (fields_of_text text))) < 2 ^ 32
    → out ≡ record table { pieces = with_texts slice table.pieces } → (values : List Entry) → ReadsAs (joined out.pieces) values → values ≡ written_values lines
only_compiled lines slice text table out same e exact short made values r =
    let is : compiled slice ≡ Ok out = ap (λ (t : DataText). answer_with_texts slice (compiled_text t)) (sym e) ∙ ap (answer_with_texts slice) exact ∙ ap (λ (t : Compiled). Ok t) (sym made) in
    only_written slice out is (subst (λ (t : DataText). length (joined (map piece_of (fields_of_text t))) < 2 ^ 32) e short) values r ∙ ap written_values same
