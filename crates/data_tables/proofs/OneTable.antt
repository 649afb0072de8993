-- The bytes that read as some values are one list of bytes.
use Rattle.std.proofs.Common.{◌≡◌, ◌≤◌, ◌<◌, ◌+◌, ◌-◌, ◌*◌, ◌%◌, ◌==◌, ℕ, zero, suc, Bool, true, false, List, [], ◌∷◌, ◌++◌, length, take, drop, Option, Some, refl, sym, ap, subst, ◌∙◌, arith, append_assoc, zero-add}
use Rattle.std.specs.Prelude.{sum, ◌&&◌, nat_lt, ⊤}
use Rattle.std.specs.List.{All, list_all}
use Rattle.std.proofs.lemmas.Grind.{common_steps}
use Rattle.std.proofs.lemmas.List.{take-append-drop, length-take-le, length-drop}
use Rattle.std.proofs.lemmas.List.Elements.{All-head, All-tail}
use Rattle.std.proofs.lemmas.List.Sums.{sum_by-append}
use Rattle.std.proofs.Math.Seq.{drop-nil}
use Rattle.std.proofs.Math.ListN.{drop_of_length-le}
use Rattle.byteorder.specs.Numbers.{little_from-cons}
use Rattle.data_layout.specs.declared.row.Row.{Row}
use Rattle.data_layout.specs.declared.row.Kind.{Kind}
use Rattle.data_layout.specs.declared.row.Kind.TheVariants as k
use Rattle.data_layout.specs.declared.table.Table.{Table}
use Rattle.data_layout.specs.declared.row.Behind.{Behind}
use Rattle.data_layout.specs.declared.row.Behind.TheVariants as b
use Rattle.data_layout.specs.Layouts.{Layout}
use Rattle.data_layout.specs.Layout.{table_of, layout_of, header_rows, knows_by, knows_revision, rows_by, fixed_rows, behind_of, entry_rows, type_rows, structure_rows, locality_row}
use Rattle.data_layout.proofs.Lookup.{of_each, fixed_are, of_known, of_fixed, of_typed}
use Rattle.data_tables.specs.Entry.{Value, Number, Bytes, Entry}
use Rattle.data_tables.specs.Reading.{bytes_at, number_of, number_read, said, field_said, entry_said, rows_read, size_of, Stands, Stand, type_read, Tail, Entries, Structures, Localities, IsRest, ended, entry, structure, locality, rest_by, rest_of, ReadsAs}
use Rattle.data_tables.proofs.Plain.{is_type, type_one}
use Rattle.data_tables.proofs.Unique.{stand_within, is_number, is_entry, IsSound, sound_rest}

-- ---- bytes

abbrev pub AreBytes : List ℕ → Type 0
AreBytes [] = ⊤
AreBytes (b ∷ bs) = (b < 256) × AreBytes bs

pub all_bytes : (bs : List ℕ) → All (λ b. b < 256) bs → AreBytes bs
all_bytes [] h = tt
all_bytes (b ∷ bs) h = (All-head (λ (b : ℕ). b < 256) b bs h, all_bytes bs (All-tail (λ (b : ℕ). b < 256) b bs h))

dropped : (n : ℕ) (bs : List ℕ) → AreBytes bs → AreBytes (drop n bs)
dropped zero bs h = h
dropped (suc n) [] h = tt
dropped (suc n) (b ∷ bs) h = dropped n bs h.1

taken : (n : ℕ) (bs : List ℕ) → AreBytes bs → AreBytes (take n bs)
taken zero bs h = tt
taken (suc n) [] h = tt
taken (suc n) (b ∷ bs) h = (h.0, taken n bs h.1)

bytes_within : (bytes : List ℕ) (offset width : ℕ) → AreBytes bytes → AreBytes (bytes_at bytes offset width)
bytes_within bytes offset width h = taken width (drop offset bytes) (dropped offset bytes h)

-- a number of bytes, its lowest byte apart
number_cons : (b : ℕ) (bs : List ℕ) → number_of (b ∷ bs) ≡ b + 256 * number_of bs
number_cons b bs = ap (λ (n : ℕ). b + 256 * n) (little_from-cons 0 (length bs) b bs)

low_same : (x y p q : ℕ) → x < 256 → y < 256 → x + 256 * p ≡ y + 256 * q → (x ≡ y) × (p ≡ q)
low_same x y p q h k e = (omega (arith, h, k, e), omega (arith, h, k, e))

-- so many bytes are known by their number
number_same : (a b : List ℕ) → length a ≡ length b → AreBytes a → AreBytes b → number_of a ≡ number_of b → a ≡ b
number_same [] [] e h g n = refl
number_same [] (y ∷ b) e h g n = absurd (omega (arith, e))
number_same (x ∷ a) [] e h g n = absurd (omega (arith, e))
number_same (x ∷ a) (y ∷ b) e h g n =
    let both = low_same x y (number_of a) (number_of b) h.0 g.0 (sym (number_cons x a) ∙ n ∙ number_cons y b) in
    let count : length a ≡ length b = omega (arith, e) in
    λ i. both.0 i ∷ number_same a b count h.1 g.1 both.1 i

-- ---- fields

-- two bytes are the same but for the table's length and its checksum
abbrev SameField : Kind → List ℕ → List ℕ → Type 0
SameField k.TableLength a b = ⊤
SameField k.Checksum a b = ⊤
SameField kind a b = a ≡ b

abbrev entry_with : ℕ → Row → Value → Entry
entry_with number row value = record { structure = number; row = row; value = value }

first_value : (number : ℕ) (row : Row) (v w : Value) (ms ns : List Entry) → entry_with number row v ∷ ms ≡ entry_with number row w ∷ ns → (v ≡ w) × (ms ≡ ns)
first_value number row v w ms ns e =
    let first : entry_with number row v ≡ entry_with number row w = cc in
    let rest : ms ≡ ns = cc in
    (ap (λ (x : Entry). x.value) first, rest)

same_number : (m n : ℕ) → Number m ≡ Number n → m ≡ n
same_number m n e = cc

same_bytes : (a b : List ℕ) → Bytes a ≡ Bytes b → a ≡ b
same_bytes a b e = cc

-- what a field says, with other values behind it, tells its bytes
field_same : (one two : List ℕ) (kind : Kind) (number : ℕ) (row : Row) (a b : List ℕ) (ms ns : List Entry) → length a ≡ length b → AreBytes a → AreBytes b → Stands one kind a → Stands two kind b
    → entry_said number row (said kind a) ++ ms ≡ entry_said number row (said kind b) ++ ns → SameField kind a b × (ms ≡ ns)
field_same one two k.Text number row a b ms ns l h g s r e = let v = first_value number row (Bytes a) (Bytes b) ms ns e in (same_bytes a b v.0, v.1)
field_same one two k.Bytes number row a b ms ns l h g s r e = let v = first_value number row (Bytes a) (Bytes b) ms ns e in (same_bytes a b v.0, v.1)
field_same one two k.Guid number row a b ms ns l h g s r e = let v = first_value number row (Bytes a) (Bytes b) ms ns e in (same_bytes a b v.0, v.1)
field_same one two (k.Locality place) number row a b ms ns l h g s r e = let v = first_value number row (Bytes a) (Bytes b) ms ns e in (same_bytes a b v.0, v.1)
field_same one two k.TableLength number row a b ms ns l h g s r e = (tt, e)
field_same one two k.Checksum number row a b ms ns l h g s r e = (tt, e)
field_same one two k.CompilerId number row a b ms ns l h g s r e = (s ∙ sym r, e)
field_same one two k.CompilerRevision number row a b ms ns l h g s r e = (number_same a b l h g (s ∙ sym r), e)
field_same one two (k.Length size) number row a b ms ns l h g s r e = (number_same a b l h g (s ∙ sym r), e)
field_same one two k.Number number row a b ms ns l h g s r e = let v = first_value number row (Number (number_of a)) (Number (number_of b)) ms ns e in (number_same a b l h g (same_number (number_of a) (number_of b) v.0), v.1)
field_same one two k.Reserved number row a b ms ns l h g s r e = let v = first_value number row (Number (number_of a)) (Number (number_of b)) ms ns e in (number_same a b l h g (same_number (number_of a) (number_of b) v.0), v.1)
field_same one two k.Revision number row a b ms ns l h g s r e = let v = first_value number row (Number (number_of a)) (Number (number_of b)) ms ns e in (number_same a b l h g (same_number (number_of a) (number_of b) v.0), v.1)
field_same one two k.StructureType number row a b ms ns l h g s r e = let v = first_value number row (Number (number_of a)) (Number (number_of b)) ms ns e in (number_same a b l h g (same_number (number_of a) (number_of b) v.0), v.1)
field_same one two k.Localities number row a b ms ns l h g s r e = let v = first_value number row (Number (number_of a)) (Number (number_of b)) ms ns e in (number_same a b l h g (same_number (number_of a) (number_of b) v.0), v.1)

at_length : (bytes : List ℕ) (offset width : ℕ) → offset + width ≤ length bytes → length (bytes_at bytes offset width) ≡ width
at_length bytes offset width h = length-take-le width (drop offset bytes) (let size : length (drop offset bytes) ≡ length bytes - offset = length-drop offset bytes in omega (arith, size, h))

-- fields one behind the other
abbrev AreSame : List ℕ → List ℕ → ℕ → List Row → Type 0
AreSame one two offset [] = ⊤
AreSame one two offset (row ∷ rows) = SameField row.kind (bytes_at one offset row.width) (bytes_at two offset row.width) × AreSame one two (offset + row.width) rows

rows_same : (one two : List ℕ) → AreBytes one → AreBytes two → (number offset : ℕ) (rows : List Row) (ms ns : List Entry) → Stand one offset rows → Stand two offset rows
    → rows_read number one offset rows ++ ms ≡ rows_read number two offset rows ++ ns → AreSame one two offset rows × (ms ≡ ns)
rows_same one two h g number offset [] ms ns s r e = (tt, e)
rows_same one two h g number offset (row ∷ rows) ms ns s r e =
    let a : List ℕ = bytes_at one offset row.width in
    let b : List ℕ = bytes_at two offset row.width in
    let room_one = stand_within one offset (row ∷ rows) s in
    let room_two = stand_within two offset (row ∷ rows) r in
    let la : length a ≡ row.width = at_length one offset row.width (omega (arith, room_one)) in
    let lb : length b ≡ row.width = at_length two offset row.width (omega (arith, room_two)) in
    let ms' : List Entry = rows_read number one (offset + row.width) rows ++ ms in
    let ns' : List Entry = rows_read number two (offset + row.width) rows ++ ns in
    let e' : entry_said number row (said row.kind a) ++ ms' ≡ entry_said number row (said row.kind b) ++ ns' =
    sym (append_assoc (entry_said number row (said row.kind a)) (rows_read number one (offset + row.width) rows) ms) ∙ e ∙ append_assoc (entry_said number row (said row.kind b)) (rows_read number two (offset + row.width) rows) ns in
    let f = field_same one two row.kind number row a b ms' ns' (la ∙ sym lb) (bytes_within one offset row.width h) (bytes_within two offset row.width g) s.0 r.0 e' in
    let more = rows_same one two h g number (offset + row.width) rows ms ns s.1 r.1 f.1 in
    ((f.0, more.0), more.1)

-- ---- fields that are no length and no checksum of the table

abbrev is_plain : Kind → Bool
is_plain k.TableLength = false
is_plain k.Checksum = false
is_plain kind = true

plain_same : (kind : Kind) (a b : List ℕ) → is_plain kind ≡ true → SameField kind a b → a ≡ b
plain_same k.TableLength a b e s = absurd cc
plain_same k.Checksum a b e s = absurd cc
plain_same kind a b e s = s

abbrev plain_row : Row → Bool
plain_row row = is_plain row.kind

pub both_true : (a b : Bool) → (a && b) ≡ true → (a ≡ true) × (b ≡ true)
both_true true b e = (refl, e)
both_true false b e = absurd cc

drop_more : (offset width : ℕ) (bytes : List ℕ) → drop width (drop offset bytes) ≡ drop (offset + width) bytes
drop_more zero width bytes = ap (λ (n : ℕ). drop n bytes) (sym (zero-add width))
drop_more (suc offset) width [] = drop-nil width ∙ sym (drop-nil (suc offset + width))
drop_more (suc offset) width (b ∷ bytes) =
    let next : suc (offset + width) ≡ suc offset + width = omega arith in
    drop_more offset width bytes ∙ ap (λ (n : ℕ). drop n (b ∷ bytes)) next

-- a field and what stands behind it
split_at : (bytes : List ℕ) (offset width : ℕ) → drop offset bytes ≡ bytes_at bytes offset width ++ drop (offset + width) bytes
split_at bytes offset width = sym (take-append-drop width (drop offset bytes)) ∙ ap (λ (bs : List ℕ). bytes_at bytes offset width ++ bs) (drop_more offset width bytes)

behind_same : (one two : List ℕ) (offset width : ℕ) → bytes_at one offset width ≡ bytes_at two offset width → drop (offset + width) one ≡ drop (offset + width) two → drop offset one ≡ drop offset two
behind_same one two offset width e f = split_at one offset width ∙ (λ i. e i ++ f i) ∙ sym (split_at two offset width)

rest_same : (one two : List ℕ) (offset : ℕ) (rows : List Row) → list_all plain_row rows ≡ true → AreSame one two offset rows → drop (offset + size_of rows) one ≡ drop (offset + size_of rows) two → drop offset one ≡ drop offset two
rest_same one two offset [] p s e = let same : offset + 0 ≡ offset = omega arith in subst (λ (o : ℕ). drop o one ≡ drop o two) same e
rest_same one two offset (row ∷ rows) p s e =
    let q = both_true (plain_row row) (list_all plain_row rows) p in
    let next : offset + (row.width + size_of rows) ≡ (offset + row.width) + size_of rows = omega arith in
    behind_same one two offset row.width (plain_same row.kind (bytes_at one offset row.width) (bytes_at two offset row.width) q.0 s.0)
    (rest_same one two (offset + row.width) rows q.1 s.1 (subst (λ (o : ℕ). drop o one ≡ drop o two) next e))

typed_plain : (table : Table) (n : ℕ) (found : List Row) → structure_rows table n ≡ Some found → list_all plain_row (type_rows table ++ found) ≡ true
typed_plain table n found e = of_typed (λ (types rows : List Row). list_all plain_row (types ++ rows)) refl table n found e

entries_plain : (table : Table) → list_all plain_row (entry_rows table) ≡ true
entries_plain table = of_each (λ (l : Layout). list_all plain_row l.entries) refl table

fixed_plain : (table : Table) (revision : ℕ) → list_all plain_row (fixed_rows table revision) ≡ true
fixed_plain table revision = of_fixed (list_all plain_row) refl refl table revision

-- ---- behind the fixed part

nothing_left : (bytes : List ℕ) (offset : ℕ) → offset ≡ length bytes → drop offset bytes ≡ []
nothing_left bytes offset e = drop_of_length-le bytes (omega (arith, e))

no_number : (kind : Kind) (number : ℕ) (row : Row) (here : List ℕ) (more : List Entry) → is_number kind ≡ true → [] ≡ entry_said number row (said kind here) ++ more → ⊥
no_number k.Number number row here more h e = cc
no_number k.Text number row here more h e = absurd cc
no_number k.Bytes number row here more h e = absurd cc
no_number k.Guid number row here more h e = absurd cc
no_number k.Reserved number row here more h e = absurd cc
no_number k.TableLength number row here more h e = absurd cc
no_number k.Checksum number row here more h e = absurd cc
no_number k.CompilerId number row here more h e = absurd cc
no_number k.CompilerRevision number row here more h e = absurd cc
no_number (k.Length size) number row here more h e = absurd cc
no_number k.Revision number row here more h e = absurd cc
no_number k.StructureType number row here more h e = absurd cc
no_number k.Localities number row here more h e = absurd cc
no_number (k.Locality n) number row here more h e = absurd cc

no_entries : (rows : List Row) (number : ℕ) (bytes : List ℕ) (offset : ℕ) (more : List Entry) → is_entry rows ≡ true → [] ≡ rows_read number bytes offset rows ++ more → ⊥
no_entries [] number bytes offset more h e = absurd cc
no_entries (row ∷ rows) number bytes offset more h e =
    let each = both_true (is_number row.kind) (nat_lt 0 row.width) h in
    let here : List ℕ = bytes_at bytes offset row.width in
    let others : List Entry = rows_read number bytes (offset + row.width) rows in
    no_number row.kind number row here (others ++ more) each.0 (e ∙ append_assoc (entry_said number row (said row.kind here)) others more)

no_structure : (types : List Row) (number : ℕ) (bytes : List ℕ) (offset : ℕ) (rows : List Row) (more : List Entry) → is_type types ≡ true → [] ≡ rows_read number bytes offset (types ++ rows) ++ more → ⊥
no_structure types number bytes offset rows more h e =
    let one = type_one types h in
    let here : List ℕ = bytes_at bytes offset one.first.width in
    let others : List Entry = rows_read number bytes (offset + one.first.width) rows in
    let said_is : said one.first.kind here ≡ Some (Number (number_of here)) = ap (λ (kind : Kind). said kind here) one.kind_is in
    let all : [] ≡ entry_said number one.first (Some (Number (number_of here))) ++ (others ++ more) =
    e ∙ ap (λ (rs : List Row). rows_read number bytes offset (rs ++ rows) ++ more) one.are ∙ append_assoc (entry_said number one.first (said one.first.kind here)) others more
    ∙ ap (λ (v : Option Value). entry_said number one.first v ++ (others ++ more)) said_is in
    cc

no_locality : (number : ℕ) (bytes : List ℕ) (offset count place : ℕ) (more : List Entry) → [] ≡ rows_read number bytes offset (locality_row count place ∷ []) ++ more → ⊥
no_locality number bytes offset count place more e = cc

-- the types of the first structures
heads : {x y : Entry} {xs ys : List Entry} → x ∷ xs ≡ y ∷ ys → x ≡ y
heads f = cc

types_same : (number : ℕ) (one two : List ℕ) (offset : ℕ) (first : Row) (rows others : List Row) (ms ns : List Entry) → first.kind ≡ k.StructureType → rows_read number one offset (first ∷ rows) ++ ms ≡ rows_read number two offset (first ∷ others) ++ ns → number_read one offset first.width ≡ number_read two offset first.width
types_same number one two offset first rows others ms ns is e =
    let a : List ℕ = bytes_at one offset first.width in
    let b : List ℕ = bytes_at two offset first.width in
    let said_one : said first.kind a ≡ Some (Number (number_of a)) = ap (λ (kind : Kind). said kind a) is in
    let said_two : said first.kind b ≡ Some (Number (number_of b)) = ap (λ (kind : Kind). said kind b) is in
    let ms' : List Entry = rows_read number one (offset + first.width) rows in
    let ns' : List Entry = rows_read number two (offset + first.width) others in
    let both : entry_with number first (Number (number_of a)) ∷ (ms' ++ ms) ≡ entry_with number first (Number (number_of b)) ∷ (ns' ++ ns) =
    sym (ap (λ (v : Option Value). (entry_said number first v ++ ms') ++ ms) said_one) ∙ e ∙ ap (λ (v : Option Value). (entry_said number first v ++ ns') ++ ns) said_two in
    same_number (number_of a) (number_of b) (ap (λ (x : Entry). x.value) (heads both))

type_same : (types : List Row) (number : ℕ) (one two : List ℕ) (offset : ℕ) (rows others : List Row) (ms ns : List Entry) → is_type types ≡ true → rows_read number one offset (types ++ rows) ++ ms ≡ rows_read number two offset (types ++ others) ++ ns → number_read one offset (size_of types) ≡ number_read two offset (size_of types)
type_same types number one two offset rows others ms ns h e =
    let t = type_one types h in
    let width : size_of types ≡ t.first.width = let sized : size_of types ≡ t.first.width + 0 = ap size_of t.are in omega (arith, sized) in
    let read : rows_read number one offset (t.first ∷ rows) ++ ms ≡ rows_read number two offset (t.first ∷ others) ++ ns =
    sym (ap (λ (rs : List Row). rows_read number one offset (rs ++ rows) ++ ms) t.are) ∙ e ∙ ap (λ (rs : List Row). rows_read number two offset (rs ++ others) ++ ns) t.are in
    subst (λ (w : ℕ). number_read one offset w ≡ number_read two offset w) (sym width) (types_same number one two offset t.first rows others ms ns t.kind_is read)

module _ (table : Table) (one two : List ℕ) (h : AreBytes one) (g : AreBytes two) where
  rest_bytes : (tail : Tail) (number offset : ℕ) (ms ns : List Entry) → IsSound table tail → ms ≡ ns → IsRest table one tail number offset ms → IsRest table two tail number offset ns → drop offset one ≡ drop offset two
  rest_bytes tail number offset ms ns t e (ended tail1 n1 o1 enough1 e1) (ended tail2 n2 o2 enough2 e2) = nothing_left one o1 e1 ∙ sym (nothing_left two o1 e2)
  rest_bytes tail number offset ms ns t e (ended tail1 n1 o1 enough1 e1) (entry n2 o2 more2 stand2 rest2) = absurd (no_entries (entry_rows table) (n2 + 1) two o2 more2 t e)
  rest_bytes tail number offset ms ns t e (ended tail1 n1 o1 enough1 e1) (structure n2 o2 rows2 more2 known2 stated2 stand2 rest2) = absurd (no_structure (type_rows table) (n2 + 1) two o2 rows2 more2 t e)
  rest_bytes tail number offset ms ns t e (ended tail1 n1 o1 enough1 e1) (locality n2 o2 count2 place2 more2 lt2 stand2 rest2) = absurd (no_locality (n2 + 1) two o2 count2 place2 more2 e)
  rest_bytes tail number offset ms ns t e (entry n1 o1 more1 stand1 rest1) (ended tail2 n2 o2 enough2 e2) = absurd (no_entries (entry_rows table) (n1 + 1) one o1 more1 t (sym e))
  rest_bytes tail number offset ms ns t e (entry n1 o1 more1 stand1 rest1) (entry n2 o2 more2 stand2 rest2) =
      let s = rows_same one two h g (n1 + 1) o1 (entry_rows table) more1 more2 stand1 stand2 e in
      rest_same one two o1 (entry_rows table) (entries_plain table) s.0 (rest_bytes Entries (n1 + 1) (o1 + size_of (entry_rows table)) more1 more2 t s.1 rest1 rest2)
  rest_bytes tail number offset ms ns t e (structure n1 o1 rows1 more1 known1 stated1 stand1 rest1) (ended tail2 n2 o2 enough2 e2) = absurd (no_structure (type_rows table) (n1 + 1) one o1 rows1 more1 t (sym e))
  rest_bytes tail number offset ms ns t e (structure n1 o1 rows1 more1 known1 stated1 stand1 rest1) (structure n2 o2 rows2 more2 known2 stated2 stand2 rest2) =
      let types : type_read table one o1 ≡ type_read table two o1 = type_same (type_rows table) (n1 + 1) one two o1 rows1 rows2 more1 more2 t e in
      let both : ◌≡◌ {A = Option (List Row)} (Some rows2) (Some rows1) = sym known2 ∙ ap (structure_rows table) (sym types) ∙ known1 in
      let rows : rows2 ≡ rows1 = cc in
      let stand : Stand two o1 (type_rows table ++ rows1) = subst (λ (rs : List Row). Stand two o1 (type_rows table ++ rs)) rows stand2 in
      let rest : IsRest table two Structures (n1 + 1) (o1 + size_of (type_rows table ++ rows1)) more2 = subst (λ (rs : List Row). IsRest table two Structures (n1 + 1) (o1 + size_of (type_rows table ++ rs)) more2) rows rest2 in
      let read : rows_read (n1 + 1) one o1 (type_rows table ++ rows1) ++ more1 ≡ rows_read (n1 + 1) two o1 (type_rows table ++ rows1) ++ more2 = e ∙ ap (λ (rs : List Row). rows_read (n1 + 1) two o1 (type_rows table ++ rs) ++ more2) rows in
      let s = rows_same one two h g (n1 + 1) o1 (type_rows table ++ rows1) more1 more2 stand1 stand read in
      rest_same one two o1 (type_rows table ++ rows1) (typed_plain table (type_read table one o1) rows1 known1) s.0 (rest_bytes Structures (n1 + 1) (o1 + size_of (type_rows table ++ rows1)) more1 more2 t s.1 rest1 rest)
  rest_bytes tail number offset ms ns t e (locality n1 o1 count1 place1 more1 lt1 stand1 rest1) (ended tail2 n2 o2 enough2 e2) = absurd (no_locality (n1 + 1) one o1 count1 place1 more1 (sym e))
  rest_bytes tail number offset ms ns t e (locality n1 o1 count1 place1 more1 lt1 stand1 rest1) (locality n2 o2 count2 place2 more2 lt2 stand2 rest2) =
      let s = rows_same one two h g (n1 + 1) o1 (locality_row count1 place1 ∷ []) more1 more2 stand1 stand2 e in
      behind_same one two o1 count1 s.0.0 (rest_bytes (Localities count1 (place1 + 1)) (n1 + 1) (o1 + count1) more1 more2 tt s.1 rest1 rest2)

-- ---- the header

stand_front : (bytes : List ℕ) (offset : ℕ) (rows others : List Row) → Stand bytes offset (rows ++ others) → Stand bytes offset rows
stand_front bytes offset [] others s = let room = stand_within bytes offset others s in omega (arith, room)
stand_front bytes offset (row ∷ rows) others s = (s.0, stand_front bytes (offset + row.width) rows others s.1)

stand_back : (bytes : List ℕ) (offset : ℕ) (rows others : List Row) → Stand bytes offset (rows ++ others) → Stand bytes (offset + size_of rows) others
stand_back bytes offset [] others s = let same : offset ≡ offset + 0 = omega arith in subst (λ (o : ℕ). Stand bytes o others) same s
stand_back bytes offset (row ∷ rows) others s =
    let same : (offset + row.width) + size_of rows ≡ offset + (row.width + size_of rows) = omega arith in
    subst (λ (o : ℕ). Stand bytes o others) same (stand_back bytes (offset + row.width) rows others s.1)

read_split : (number : ℕ) (bytes : List ℕ) (offset : ℕ) (rows others : List Row) → rows_read number bytes offset (rows ++ others) ≡ rows_read number bytes offset rows ++ rows_read number bytes (offset + size_of rows) others
read_split number bytes offset [] others = let same : offset ≡ offset + 0 = omega arith in ap (λ (o : ℕ). rows_read number bytes o others) same
read_split number bytes offset (row ∷ rows) others =
    let same : (offset + row.width) + size_of rows ≡ offset + (row.width + size_of rows) = omega arith in
    let first : List Entry = entry_said number row (field_said bytes offset row) in
    ap (λ (es : List Entry). first ++ es) (read_split number bytes (offset + row.width) rows others)
    ∙ ap (λ (o : ℕ). first ++ (rows_read number bytes (offset + row.width) rows ++ rows_read number bytes o others)) same
    ∙ sym (append_assoc first (rows_read number bytes (offset + row.width) rows) (rows_read number bytes (offset + (row.width + size_of rows)) others))

header_size : size_of header_rows ≡ 36
unfolding header_rows
header_size = refl

-- the fields of two headers, of which the length and the checksum are not known to be the same
record SameHeader (one two : List ℕ) : Type 0 where
  signature : bytes_at one 0 4 ≡ bytes_at two 0 4
  revision : bytes_at one 8 1 ≡ bytes_at two 8 1
  behind : drop 36 one ≡ drop 36 two → drop 10 one ≡ drop 10 two

header_same : (one two : List ℕ) → AreSame one two 0 header_rows → SameHeader one two
unfolding header_rows
header_same one two s = record {
  signature = s.0;
  revision = s.1.1.0;
  behind = λ e.
      behind_same one two 10 6 s.1.1.1.1.0 (behind_same one two 16 8 s.1.1.1.1.1.0 (behind_same one two 24 4 s.1.1.1.1.1.1.0 (behind_same one two 28 4 s.1.1.1.1.1.1.1.0 (behind_same one two 32 4 s.1.1.1.1.1.1.1.1.0 e))));
}

-- the length and the checksum that a header states
record States (bytes : List ℕ) : Type 0 where
  whole : number_of (bytes_at bytes 4 4) ≡ length bytes
  checked : sum bytes % 256 ≡ 0
  room : 36 ≤ length bytes

states : (bytes : List ℕ) → Stand bytes 0 header_rows → States bytes
unfolding header_rows
states bytes s = record { whole = s.1.0; checked = s.1.1.1.0; room = s.1.1.1.1.1.1.1.1.1 }

last_same : (x y front : ℕ) → x < 256 → y < 256 → (front + x) % 256 ≡ 0 → (front + y) % 256 ≡ 0 → x ≡ y
last_same x y front h g e f = omega (arith, h, g, e, f)

one_byte : (a b : List ℕ) (front : ℕ) → length a ≡ 1 → length b ≡ 1 → AreBytes a → AreBytes b → (front + sum a) % 256 ≡ 0 → (front + sum b) % 256 ≡ 0 → a ≡ b
one_byte (x ∷ []) (y ∷ []) front l m h g e f = ap (λ (z : ℕ). z ∷ []) (last_same x y front h.0 g.0 (one_sum x front e) (one_sum y front f))
  where
    one_sum : (z front : ℕ) → (front + sum (z ∷ [])) % 256 ≡ 0 → (front + z) % 256 ≡ 0
    one_sum z front e = subst (λ (n : ℕ). (front + n) % 256 ≡ 0) (omega arith) e
one_byte [] b front l m h g e f = absurd (omega (arith, l))
one_byte (x ∷ []) [] front l m h g e f = absurd (omega (arith, m))
one_byte (x ∷ []) (y ∷ z ∷ b) front l m h g e f = absurd (omega (arith, m))
one_byte (x ∷ w ∷ a) b front l m h g e f = absurd (omega (arith, l))

sum_both : (xs ys : List ℕ) → sum (xs ++ ys) ≡ sum xs + sum ys
sum_both xs ys = sum_by-append (λ (n : ℕ). n) xs ys

-- two tables with the same header and the same bytes behind it
headed_same : (one two : List ℕ) → AreBytes one → AreBytes two → States one → States two → SameHeader one two → drop 36 one ≡ drop 36 two → one ≡ two
headed_same one two h g s r same e =
    let end_one : length (drop 36 one) ≡ length one - 36 = length-drop 36 one in
    let end_two : length (drop 36 two) ≡ length two - 36 = length-drop 36 two in
    let ends : length (drop 36 one) ≡ length (drop 36 two) = ap length e in
    let room_one = s.room in
    let room_two = r.room in
    let size : length one ≡ length two = omega (arith, end_one, end_two, ends, room_one, room_two) in
    let l4 : length (bytes_at one 4 4) ≡ 4 = at_length one 4 4 (omega (arith, room_one)) in
    let m4 : length (bytes_at two 4 4) ≡ 4 = at_length two 4 4 (omega (arith, room_two)) in
    let lengths : bytes_at one 4 4 ≡ bytes_at two 4 4 = number_same (bytes_at one 4 4) (bytes_at two 4 4) (l4 ∙ sym m4) (bytes_within one 4 4 h) (bytes_within two 4 4 g) (s.whole ∙ size ∙ sym r.whole) in
    let l9 : length (bytes_at one 9 1) ≡ 1 = at_length one 9 1 (omega (arith, room_one)) in
    let m9 : length (bytes_at two 9 1) ≡ 1 = at_length two 9 1 (omega (arith, room_two)) in
    let tail : drop 10 one ≡ drop 10 two = same.behind e in
    let sums_one = summed one in
    let sums_two = summed two in
    let fronts : sum (bytes_at one 0 4) + sum (bytes_at one 4 4) + sum (bytes_at one 8 1) + sum (drop 10 one) ≡ sum (bytes_at two 0 4) + sum (bytes_at two 4 4) + sum (bytes_at two 8 1) + sum (drop 10 two) =
    (λ i. sum (same.signature i) + sum (lengths i) + sum (same.revision i) + sum (tail i)) in
    let front : ℕ = sum (bytes_at one 0 4) + sum (bytes_at one 4 4) + sum (bytes_at one 8 1) + sum (drop 10 one) in
    let check_one : (front + sum (bytes_at one 9 1)) % 256 ≡ 0 = subst (λ (n : ℕ). n % 256 ≡ 0) sums_one s.checked in
    let check_two : (front + sum (bytes_at two 9 1)) % 256 ≡ 0 = subst (λ (n : ℕ). n % 256 ≡ 0) (sums_two ∙ ap (λ (n : ℕ). n + sum (bytes_at two 9 1)) (sym fronts)) r.checked in
    let checks : bytes_at one 9 1 ≡ bytes_at two 9 1 = one_byte (bytes_at one 9 1) (bytes_at two 9 1) front l9 m9 (bytes_within one 9 1 h) (bytes_within two 9 1 g) check_one check_two in
    behind_same one two 0 4 same.signature (behind_same one two 4 4 lengths (behind_same one two 8 1 same.revision (behind_same one two 9 1 checks tail)))
  where
    summed : (bytes : List ℕ) → sum bytes ≡ sum (bytes_at bytes 0 4) + sum (bytes_at bytes 4 4) + sum (bytes_at bytes 8 1) + sum (drop 10 bytes) + sum (bytes_at bytes 9 1)
    summed bytes =
        let s0 : sum (drop 0 bytes) ≡ sum (bytes_at bytes 0 4) + sum (drop 4 bytes) = ap sum (split_at bytes 0 4) ∙ sum_both (bytes_at bytes 0 4) (drop 4 bytes) in
        let s4 : sum (drop 4 bytes) ≡ sum (bytes_at bytes 4 4) + sum (drop 8 bytes) = ap sum (split_at bytes 4 4) ∙ sum_both (bytes_at bytes 4 4) (drop 8 bytes) in
        let s8 : sum (drop 8 bytes) ≡ sum (bytes_at bytes 8 1) + sum (drop 9 bytes) = ap sum (split_at bytes 8 1) ∙ sum_both (bytes_at bytes 8 1) (drop 9 bytes) in
        let s9 : sum (drop 9 bytes) ≡ sum (bytes_at bytes 9 1) + sum (drop 10 bytes) = ap sum (split_at bytes 9 1) ∙ sum_both (bytes_at bytes 9 1) (drop 10 bytes) in
        omega (arith, s0, s4, s8, s9)

-- ---- whole tables

-- what stands behind the fixed part is said by the fixed part
-- the fixed part before localities begins with their number
abbrev is_counted : List Row → Bool
is_counted [] = false
is_counted (row ∷ rows) = (row.width == 8) && plain_row row

abbrev counted_by : Behind → Layout → Bool
counted_by b.Nothing layout = true
counted_by b.Entries layout = true
counted_by b.Structures layout = true
counted_by b.Localities layout = fixed_are is_counted layout

abbrev AreCounted : Behind → List Row → Type 0
AreCounted b.Nothing rows = Unit {0}
AreCounted b.Entries rows = Unit {0}
AreCounted b.Structures rows = Unit {0}
AreCounted b.Localities rows = is_counted rows ≡ true

are_counted : (behind : Behind) (layout : Layout) (revision : ℕ) → counted_by behind layout ≡ true → knows_by layout.sizes revision ≡ true → AreCounted behind (rows_by layout.sizes layout.fixed revision)
are_counted b.Nothing layout revision h k = tt
are_counted b.Entries layout revision h k = tt
are_counted b.Structures layout revision h k = tt
are_counted b.Localities layout revision h k = of_known is_counted layout revision h k

fixed_counted : (table : Table) (revision : ℕ) → knows_revision table revision ≡ true → AreCounted (behind_of table) (fixed_rows table revision)
unfolding fixed_rows
fixed_counted table revision k = are_counted (behind_of table) (layout_of table) revision (of_each (λ (l : Layout). counted_by l.behind l) refl table) k

count_same : (one two : List ℕ) (rows : List Row) → is_counted rows ≡ true → AreSame one two 36 rows → bytes_at one 36 8 ≡ bytes_at two 36 8
count_same one two [] h s = absurd cc
count_same one two (row ∷ rows) h s =
    let each = both_true (row.width == 8) (plain_row row) h in
    let width : row.width ≡ 8 = let e = each.0 in grind (arith, common_steps) in
    let same = plain_same row.kind (bytes_at one 36 row.width) (bytes_at two 36 row.width) each.1 s.0 in
    subst (λ (w : ℕ). bytes_at one 36 w ≡ bytes_at two 36 w) width same

tails_by : (behind : Behind) (one two : List ℕ) (rows : List Row) → AreCounted behind rows → AreSame one two 36 rows → rest_by behind one ≡ rest_by behind two
tails_by b.Nothing one two rows h s = refl
tails_by b.Entries one two rows h s = refl
tails_by b.Structures one two rows h s = refl
tails_by b.Localities one two rows h s = ap (λ (here : List ℕ). Localities (number_of here) 0) (count_same one two rows h s)

module _ (one two : List ℕ) (h : AreBytes one) (g : AreBytes two) where
  of_table : (table : Table) (revision : ℕ) (ms ns : List Entry) → knows_revision table revision ≡ true → Stand one 0 (header_rows ++ fixed_rows table revision) → Stand two 0 (header_rows ++ fixed_rows table revision)
      → IsRest table one (rest_of table one) 0 (size_of (header_rows ++ fixed_rows table revision)) ms → IsRest table two (rest_of table two) 0 (size_of (header_rows ++ fixed_rows table revision)) ns
      → rows_read 0 one 36 (fixed_rows table revision) ++ ms ≡ rows_read 0 two 36 (fixed_rows table revision) ++ ns → drop 36 one ≡ drop 36 two
  of_table table revision ms ns known s r rest1 rest2 e =
      let fixed : List Row = fixed_rows table revision in
      let at : 0 + size_of header_rows ≡ 36 = ap (λ (n : ℕ). 0 + n) header_size in
      let back1 : Stand one 36 fixed = subst (λ (o : ℕ). Stand one o fixed) at (stand_back one 0 header_rows fixed s) in
      let back2 : Stand two 36 fixed = subst (λ (o : ℕ). Stand two o fixed) at (stand_back two 0 header_rows fixed r) in
      let same = rows_same one two h g 0 36 fixed ms ns back1 back2 e in
      let size : size_of (header_rows ++ fixed) ≡ 36 + size_of fixed = sizes header_rows fixed ∙ ap (λ (n : ℕ). n + size_of fixed) header_size in
      let tail : rest_of table one ≡ rest_of table two = tails_by (behind_of table) one two fixed (fixed_counted table revision known) same.0 in
      let other : IsRest table two (rest_of table one) 0 (size_of (header_rows ++ fixed)) ns = subst (λ (t : Tail). IsRest table two t 0 (size_of (header_rows ++ fixed)) ns) (sym tail) rest2 in
      let behind = rest_bytes table one two h g (rest_of table one) 0 (size_of (header_rows ++ fixed)) ms ns (sound_rest table one) same.1 rest1 other in
      rest_same one two 36 fixed (fixed_plain table revision) same.0 (subst (λ (o : ℕ). drop o one ≡ drop o two) size behind)
    where
      sizes : (rows others : List Row) → size_of (rows ++ others) ≡ size_of rows + size_of others
      sizes [] others = sym (zero-add (size_of others))
      sizes (row ∷ rows) others =
          let more = sizes rows others in
          omega (arith, more)

-- what reads as the same values is the same
pub one_table : (one two : List ℕ) → AreBytes one → AreBytes two → (values : List Entry) → ReadsAs one values → ReadsAs two values → one ≡ two
one_table one two h g values r s =
    let front1 : Stand one 0 header_rows = stand_front one 0 header_rows (fixed_rows r.table (number_read one 8 1)) r.stand in
    let front2 : Stand two 0 header_rows = stand_front two 0 header_rows (fixed_rows s.table (number_read two 8 1)) s.stand in
    let read1 = split one r.table (number_read one 8 1) r.more in
    let read2 = split two s.table (number_read two 8 1) s.more in
    let both : rows_read 0 one 0 header_rows ++ (rows_read 0 one 36 (fixed_rows r.table (number_read one 8 1)) ++ r.more) ≡ rows_read 0 two 0 header_rows ++ (rows_read 0 two 36 (fixed_rows s.table (number_read two 8 1)) ++ s.more) =
    sym read1 ∙ sym r.values ∙ s.values ∙ read2 in
    let heads = rows_same one two h g 0 0 header_rows (rows_read 0 one 36 (fixed_rows r.table (number_read one 8 1)) ++ r.more) (rows_read 0 two 36 (fixed_rows s.table (number_read two 8 1)) ++ s.more) front1 front2 both in
    let header : SameHeader one two = header_same one two heads.0 in
    let tables : ◌≡◌ {A = Option Table} (Some s.table) (Some r.table) = sym s.signature ∙ ap table_of (sym header.signature) ∙ r.signature in
    let table : s.table ≡ r.table = cc in
    let revision : number_read two 8 1 ≡ number_read one 8 1 = ap number_of (sym header.revision) in
    let rows : fixed_rows s.table (number_read two 8 1) ≡ fixed_rows r.table (number_read one 8 1) = (λ i. fixed_rows (table i) (revision i)) in
    let stand : Stand two 0 (header_rows ++ fixed_rows r.table (number_read one 8 1)) = subst (λ (rs : List Row). Stand two 0 (header_rows ++ rs)) rows s.stand in
    let rest : IsRest r.table two (rest_of r.table two) 0 (size_of (header_rows ++ fixed_rows r.table (number_read one 8 1))) s.more = coe_rest table rows s.rest in
    let read : rows_read 0 one 36 (fixed_rows r.table (number_read one 8 1)) ++ r.more ≡ rows_read 0 two 36 (fixed_rows r.table (number_read one 8 1)) ++ s.more =
    heads.1 ∙ ap (λ (rs : List Row). rows_read 0 two 36 rs ++ s.more) rows in
    headed_same one two h g (states one front1) (states two front2) header (of_table one two h g r.table (number_read one 8 1) r.more s.more r.revision r.stand stand r.rest rest read)
  where
    split : (bytes : List ℕ) (table : Table) (revision : ℕ) (more : List Entry) → rows_read 0 bytes 0 (header_rows ++ fixed_rows table revision) ++ more ≡ rows_read 0 bytes 0 header_rows ++ (rows_read 0 bytes 36 (fixed_rows table revision) ++ more)
    split bytes table revision more =
        let at : 0 + size_of header_rows ≡ 36 = ap (λ (n : ℕ). 0 + n) header_size in
        ap (λ (es : List Entry). es ++ more) (read_split 0 bytes 0 header_rows (fixed_rows table revision) ∙ ap (λ (o : ℕ). rows_read 0 bytes 0 header_rows ++ rows_read 0 bytes o (fixed_rows table revision)) at)
        ∙ append_assoc (rows_read 0 bytes 0 header_rows) (rows_read 0 bytes 36 (fixed_rows table revision)) more

    coe_rest : {t u : Table} {rs qs : List Row} → t ≡ u → rs ≡ qs → IsRest t two (rest_of t two) 0 (size_of (header_rows ++ rs)) s.more → IsRest u two (rest_of u two) 0 (size_of (header_rows ++ qs)) s.more
    coe_rest {t = t} {u = u} {rs = rs} {qs = qs} e f rest =
        subst (λ (rows : List Row). IsRest u two (rest_of u two) 0 (size_of (header_rows ++ rows)) s.more) f (subst (λ (x : Table). IsRest x two (rest_of x two) 0 (size_of (header_rows ++ rs)) s.more) e rest)
