-- The template of each table compiles to its own bytes, and nothing is told of it.
use Rattle.std.proofs.Common.{◌≡◌, ℕ, Bool, true, false, cond, length, take, drop, map, get_or, List, [], ◌∷◌, ◌++◌, codes, Some, Ok, Err, refl, sym, ap, subst, ◌∙◌, arith}
use Rattle.std.specs.Prelude.{decimal, ◌&&◌}
use Rattle.std.specs.List.{list_all}
use Rattle.std.proofs.lemmas.Bool.{and_parts}
use Rattle.std.proofs.lemmas.Slice.Eq.{bytes_eq-Decides}
use Rattle.std.specs.Str.{bytes_eq}
use Rattle.std.proofs.lemmas.Fmt.{decimal_digit}
use Rattle.iasl_messages.specs.declared.message.Message.{Message}
use Rattle.iasl_messages.specs.declared.place.Piece.{Piece}
use Rattle.data_layout.specs.declared.table.Table.{Table}
use Rattle.data_layout.specs.declared.table.Table.TheVariants as t
use Rattle.data_layout.specs.Layouts.{Layout, layouts}
use Rattle.data_layout.specs.Layout.{table_of, layout_of, header_rows, fixed_rows, flags_of}
use Rattle.data_layout.proofs.Lookup.{of_table}
use Rattle.resource_macros.specs.Identifiers.{uuid_of}
use Rattle.data_tables.specs.Compiling.{Answer, compiled, joined}
use Rattle.data_generic.specs.Templates.{default_pieces, lines_of, ComesTo}

abbrev CompilesToItself : Table → Type 0
CompilesToItself table = ComesTo (compiled (lines_of (default_pieces table))) (joined (default_pieces table))

-- the same as a test
abbrev has_none : List Message → Bool
has_none [] = true
has_none (note ∷ notes) = false

abbrev comes_to : Answer → List ℕ → Bool
comes_to (Ok table) bytes = bytes_eq (joined table.pieces) bytes && has_none table.notes
comes_to (Err messages) bytes = false

abbrev compiles_to_itself : Table → Bool
compiles_to_itself table = comes_to (compiled (lines_of (default_pieces table))) (joined (default_pieces table))

is_none : (notes : List Message) → has_none notes ≡ true → notes ≡ []
is_none [] h = refl
is_none (note ∷ notes) h = absurd cc

it_comes : (answer : Answer) (bytes : List ℕ) → comes_to answer bytes ≡ true → ComesTo answer bytes
it_comes (Ok table) bytes h =
    let each = and_parts (bytes_eq (joined table.pieces) bytes) (has_none table.notes) h in
    ((bytes_eq-Decides (joined table.pieces) bytes).0 each.0, is_none table.notes each.1)
it_comes (Err messages) bytes h = absurd cc

-- the notes on the labels of the two localities, by the digits of their numbers
abbrev label_note : ℕ → List ℕ → List ℕ → List Message
label_note line label digits = cond (bytes_eq label (codes "locality" ++ digits)) [] (record { number = 3005; place = record { file = 0; line = line; column = 1 }; name = [] } ∷ [])

abbrev locality_notes : List ℕ → List ℕ → List Message
locality_notes zero_digits one_digits = label_note 11 (codes "locality0") zero_digits ++ (label_note 12 (codes "locality1") one_digits ++ [])

no_notes : locality_notes (decimal 0) (decimal 1) ≡ []
no_notes = ap (λ (digits : List ℕ). locality_notes digits (decimal 1)) (decimal_digit 0 (omega arith)) ∙ ap (locality_notes (codes "0")) (decimal_digit 1 (omega arith))

slit : compiles_to_itself t.Slit ≡ true
unfolding layout_of header_rows fixed_rows flags_of
slit = ap has_none no_notes

-- the other tables, by computation
abbrev others : List Layout
others = drop 1 layouts

all_others : list_all (λ (l : Layout). compiles_to_itself l.table) others ≡ true
unfolding layout_of header_rows fixed_rows flags_of uuid_of
all_others = refl

all_tables : list_all (λ (l : Layout). compiles_to_itself l.table) layouts ≡ true
all_tables = ap (λ (b : Bool). b && list_all (λ (l : Layout). compiles_to_itself l.table) others) slit ∙ all_others

pub compiles : (signature : List ℕ) (table : Table) → table_of signature ≡ Some table → CompilesToItself table
compiles signature table e = it_comes (compiled (lines_of (default_pieces table))) (joined (default_pieces table)) (of_table compiles_to_itself all_tables signature table e)

-- the same of pieces that are those of a template
pub template_compiles : (signature : List ℕ) (table : Table) (pieces : List Piece) → table_of signature ≡ Some table → pieces ≡ default_pieces table → ComesTo (compiled (lines_of pieces)) (joined pieces)
template_compiles signature table pieces is e = subst (λ (ps : List Piece). ComesTo (compiled (lines_of ps)) (joined ps)) (sym e) (compiles signature table is)

-- ---- worked out by computation

abbrev bytes_of : Table → List ℕ
bytes_of table = joined (default_pieces table)

sizes : (length (bytes_of t.Facp) ≡ 276) × (length (bytes_of t.Apic) ≡ 52) × (length (bytes_of t.Mcfg) ≡ 60) × (length (bytes_of t.Hpet) ≡ 56) × (length (bytes_of t.Srat) ≡ 88) × (length (bytes_of t.Slit) ≡ 48)
unfolding layout_of header_rows fixed_rows
sizes = (refl, refl, refl, refl, refl, refl)

checksums : (get_or (bytes_of t.Hpet) 9 0 ≡ 0x4D) × (get_or (bytes_of t.Slit) 9 0 ≡ 0x0C)
unfolding layout_of header_rows fixed_rows
checksums = (refl, refl)

first_line : map (λ (piece : Piece). piece.source) (take 1 (default_pieces t.Hpet)) ≡ codes "[0004] Signature : \"HPET\"" ∷ []
unfolding layout_of header_rows fixed_rows
first_line = refl
