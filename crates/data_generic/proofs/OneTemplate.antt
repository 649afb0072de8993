-- The bytes of a template are the only ones that read as its lines write.
use Rattle.std.proofs.Common.{◌≡◌, ◌<◌, ◌^◌, ℕ, Bool, true, List, [], ◌∷◌, length, Some, Ok, Err, refl, sym, subst, arith}
use Rattle.std.specs.Prelude.{nat_lt}
use Rattle.std.specs.List.{All, list_all}
use Rattle.std.proofs.lemmas.Bool.Decides.{nat_tests}
use Rattle.iasl_messages.specs.declared.place.Line.{Line}
use Rattle.iasl_messages.specs.declared.place.Piece.{Piece}
use Rattle.data_layout.specs.declared.table.Table.{Table}
use Rattle.data_layout.specs.Layouts.{Layout, layouts}
use Rattle.data_layout.specs.Layout.{table_of, layout_of, header_rows, fixed_rows, flags_of}
use Rattle.data_layout.proofs.Lookup.{of_table}
use Rattle.resource_macros.specs.Identifiers.{uuid_of}
use Rattle.data_tables.specs.Compiling.{Answer, compiled, joined}
use Rattle.data_tables.specs.Entries.{written_values, unsealed_bytes}
use Rattle.data_tables.specs.Reading.{ReadsAs}
use Rattle.data_tables.proofs.Law.{reads_as_written}
use Rattle.data_tables.proofs.OneTable.{AreBytes, all_bytes, both_true, one_table}
use Rattle.data_generic.specs.Templates.{default_pieces, lines_of, ComesTo}
use Rattle.data_generic.proofs.Templates.{compiles}

abbrev lines_for : Table → List Line
lines_for table = lines_of (default_pieces table)

abbrev bytes_for : Table → List ℕ
bytes_for table = joined (default_pieces table)

-- ---- its lines write few bytes

abbrev are_few : Table → Bool
are_few table = nat_lt (length (unsealed_bytes (lines_for table))) (2 ^ 32)

all_few : list_all (λ (l : Layout). are_few l.table) layouts ≡ true
unfolding layout_of header_rows fixed_rows flags_of uuid_of
all_few = refl

few : (signature : List ℕ) (table : Table) → table_of signature ≡ Some table → length (unsealed_bytes (lines_for table)) < 2 ^ 32
few signature table is = let e : nat_lt (length (unsealed_bytes (lines_for table))) (2 ^ 32) ≡ true = of_table are_few all_few signature table is in grind (arith, nat_tests)

-- ---- its bytes are bytes

abbrev is_byte : ℕ → Bool
is_byte b = nat_lt b 256

byte_of : (b : ℕ) → is_byte b ≡ true → b < 256
byte_of b e = grind (arith, nat_tests)

checked : (bytes : List ℕ) → list_all is_byte bytes ≡ true → AreBytes bytes
checked [] e = tt
checked (b ∷ bytes) e = let both = both_true (is_byte b) (list_all is_byte bytes) e in (byte_of b both.0, checked bytes both.1)

are_all : list_all (λ (l : Layout). list_all is_byte (bytes_for l.table)) layouts ≡ true
unfolding layout_of header_rows fixed_rows
are_all = refl

own_bytes : (signature : List ℕ) (table : Table) → table_of signature ≡ Some table → list_all is_byte (bytes_for table) ≡ true
own_bytes signature table is = of_table (λ (t : Table). list_all is_byte (bytes_for t)) are_all signature table is

-- ---- what they read as

reads_by : (lines : List Line) (bytes : List ℕ) (answer : Answer) → compiled lines ≡ answer → ComesTo answer bytes → length (unsealed_bytes lines) < 2 ^ 32 → ReadsAs bytes (written_values lines)
reads_by lines bytes (Ok out) e c h = subst (λ (bs : List ℕ). ReadsAs bs (written_values lines)) c.0 (reads_as_written lines out e h)
reads_by lines bytes (Err messages) e c h = absurd c

reads_itself : (signature : List ℕ) (table : Table) → table_of signature ≡ Some table → ReadsAs (bytes_for table) (written_values (lines_for table))
reads_itself signature table is = reads_by (lines_for table) (bytes_for table) (compiled (lines_for table)) refl (compiles signature table is) (few signature table is)

only_itself : (signature : List ℕ) (table : Table) → table_of signature ≡ Some table → (bytes : List ℕ) → All (λ b. b < 256) bytes → ReadsAs bytes (written_values (lines_for table)) → bytes ≡ bytes_for table
only_itself signature table is bytes h r =
    one_table bytes (bytes_for table) (all_bytes bytes h) (checked (bytes_for table) (own_bytes signature table is)) (written_values (lines_for table)) r (reads_itself signature table is)

-- the same of pieces that are those of a template
pub template_reads : (signature : List ℕ) (table : Table) (pieces : List Piece) → table_of signature ≡ Some table → pieces ≡ default_pieces table → ReadsAs (joined pieces) (written_values (lines_of pieces))
template_reads signature table pieces is e = subst (λ (ps : List Piece). ReadsAs (joined ps) (written_values (lines_of ps))) (sym e) (reads_itself signature table is)

pub template_one : (signature : List ℕ) (table : Table) (pieces : List Piece) → table_of signature ≡ Some table → pieces ≡ default_pieces table → (bytes : List ℕ) → All (λ b. b < 256) bytes → ReadsAs bytes (written_values (lines_of pieces)) → bytes ≡ joined pieces
template_one signature table pieces is e = subst (λ (ps : List Piece). (bytes : List ℕ) → All (λ b. b < 256) bytes → ReadsAs bytes (written_values (lines_of ps)) → bytes ≡ joined ps) (sym e) (only_itself signature table is)
