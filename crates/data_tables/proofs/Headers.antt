-- The header that lines write is read back, where more bytes stand behind it.
use Rattle.std.proofs.Common.{◌≡◌, ◌<◌, ◌+◌, ◌*◌, ◌^◌, ℕ, zero, suc, Bool, false, List, [], ◌∷◌, ◌++◌, length, map, drop, Option, Result, Ok, Err, refl, sym, ap, subst, ◌∙◌, arith, append_assoc, append-nil, length-append}
use Rattle.std.specs.Prelude.{⊤}
use Rattle.byteorder.specs.Endian.{little_bytes}
use Rattle.iasl_messages.specs.declared.place.Place.{Place}
use Rattle.iasl_messages.specs.declared.place.Piece.{Piece}
use Rattle.data_layout.specs.declared.row.Row.{Row}
use Rattle.data_layout.specs.Layout.{header_rows}
use Rattle.data_text.specs.declared.field_line.FieldLine.{FieldLine}
use Rattle.data_tables.specs.Entry.{Value, Entry}
use Rattle.data_tables.specs.Fields.{field_bytes, value_of}
use Rattle.data_tables.specs.declared.front.HeaderWalker.{HeaderWalker}
use Rattle.data_tables.specs.Outcomes.{made}
use Rattle.data_tables.specs.Walk.{Field, Walked, fault_at, message_at}
use Rattle.data_tables.specs.Compiling.{piece_of, joined, sealed}
use Rattle.data_tables.specs.Entries.{entry_of, entries_from, number_at}
use Rattle.data_tables.specs.Reading.{bytes_at, field_said, entry_said, rows_read, size_of, Stands, Stand, said}
use Rattle.data_tables.specs.Headers.{any_table, row_taken, rows_walk, header_told, header_so_far}
use Rattle.data_tables.proofs.Numbers.{little_length, little_back}
use Rattle.data_tables.proofs.Spelled.{IsSpelled, entry_same}
use Rattle.data_tables.proofs.ReadBack.{plain_spelled, bytes_here, within}
use Rattle.data_tables.proofs.Header.{h, behind_h, header_is}
use Rattle.data_tables.proofs.Law.{length_bytes, checksum_bytes, checksum_width, sealed_length, sealed_sum, revised}

-- ---- the fields of lines without faults

-- the fields of these rows
abbrev pub RowsOf : List Row → List Field → Type 0
RowsOf [] [] = ⊤
RowsOf [] (f ∷ fs) = ⊥
RowsOf (row ∷ rows) [] = ⊥
RowsOf (row ∷ rows) (f ∷ fs) = (f.row ≡ row) × (f.begins ≡ false) × (value_of any_table row f.line.value ≡ Ok f.value) × RowsOf rows fs

rows_given : (row : Row) (rows : List Row) (line : FieldLine) (given : Result Value ℕ) (w : Walked) → value_of any_table row line.value ≡ given → (w.faults ≡ [] → RowsOf rows w.fields) → (row_taken row line given w).faults ≡ [] → RowsOf (row ∷ rows) (row_taken row line given w).fields
rows_given row rows line (Err fault) w g ih e = absurd cc
rows_given row rows line (Ok value) w g ih e = (refl, refl, g, ih e)

pub rows_fields : (end : Place) (rows : List Row) (lines : List FieldLine) → (rows_walk end rows lines).faults ≡ [] → RowsOf rows (rows_walk end rows lines).fields
rows_fields end [] lines e = tt
rows_fields end (row ∷ rows) [] e = absurd cc
rows_fields end (row ∷ rows) (line ∷ lines) e =
    rows_given row rows line (value_of any_table row line.value) (rows_walk end rows lines) refl (rows_fields end rows lines) e

rows_are : (rows : List Row) (fs : List Field) → RowsOf rows fs → map (λ (f : Field). f.row) fs ≡ rows
rows_are [] [] r = refl
rows_are [] (f ∷ fs) r = absurd r
rows_are (row ∷ rows) [] r = absurd r
rows_are (row ∷ rows) (f ∷ fs) r = ap (λ (x : Row). x ∷ map (λ (g : Field). g.row) fs) r.0 ∙ ap (λ (xs : List Row). row ∷ xs) (rows_are rows fs r.3)

-- ---- reading fields one behind the other

-- the fields have these bytes, among all
abbrev pub AreSpelled : List ℕ → List Field → List (List ℕ) → Type 0
AreSpelled all [] [] = ⊤
AreSpelled all [] (here ∷ heres) = ⊥
AreSpelled all (f ∷ fs) [] = ⊥
AreSpelled all (f ∷ fs) (here ∷ heres) = IsSpelled all f.row f.value here × (f.begins ≡ false) × AreSpelled all fs heres

-- these bytes, and others behind them
abbrev pub before_left : List (List ℕ) → List ℕ → List ℕ
before_left [] left = left
before_left (here ∷ heres) left = here ++ before_left heres left

pub record FieldsRead (all : List ℕ) (offset : ℕ) (fs : List Field) : Type 0 where
  pub stand : Stand all offset (map (λ (f : Field). f.row) fs)
  pub values : entries_from 0 fs ≡ rows_read 0 all offset (map (λ (f : Field). f.row) fs)

first_entries : (f : Field) (fs : List Field) → f.begins ≡ false → entries_from 0 (f ∷ fs) ≡ entry_of 0 f.row f.value ++ entries_from 0 fs
first_entries f fs e = ap (λ (b : Bool). entry_of (number_at b 0) f.row f.value ++ entries_from (number_at b 0) fs) e

read_step : (all before here left : List ℕ) (f : Field) (fs : List Field) → IsSpelled all f.row f.value here → f.begins ≡ false → all ≡ before ++ (here ++ left) → FieldsRead all (length (before ++ here)) fs → FieldsRead all (length before) (f ∷ fs)
read_step all before here left f fs s b e r =
    let at : bytes_at all (length before) f.row.width ≡ here = bytes_here all before here left f.row.width e s.width in
    let next : length (before ++ here) ≡ length before + f.row.width = length-append before here ∙ ap (λ (m : ℕ). length before + m) s.width in
    let r' : FieldsRead all (length before + f.row.width) fs = subst (λ (o : ℕ). FieldsRead all o fs) next r in
    let read : Option Value = field_said all (length before) f.row in
    let first : entry_of 0 f.row f.value ≡ entry_said 0 f.row read = entry_same 0 f.row read f.value (ap (said f.row.kind) at ∙ s.reads) in
    record {
      stand = (subst (Stands all f.row.kind) (sym at) s.stands, r'.stand);
      values = first_entries f fs b ∙ ap (λ (es : List Entry). es ++ entries_from 0 fs) first ∙ ap (λ (es : List Entry). entry_said 0 f.row read ++ es) r'.values;
    }

pub read_all : (all before left : List ℕ) (fs : List Field) (heres : List (List ℕ)) → AreSpelled all fs heres → all ≡ before ++ before_left heres left → FieldsRead all (length before) fs
read_all all before left [] [] s e = record { stand = within all before left e; values = refl }
read_all all before left [] (here ∷ heres) s e = absurd s
read_all all before left (f ∷ fs) [] s e = absurd s
read_all all before left (f ∷ fs) (here ∷ heres) s e =
    read_step all before here (before_left heres left) f fs s.0 s.1 e (read_all all (before ++ here) left fs heres s.2 (e ∙ sym (append_assoc before here (before_left heres left))))

-- where the bytes behind them begin
pub left_at : (heres : List (List ℕ)) (left : List ℕ) → before_left heres left ≡ before_left heres [] ++ left
left_at [] left = refl
left_at (here ∷ heres) left = ap (λ (bs : List ℕ). here ++ bs) (left_at heres left) ∙ sym (append_assoc here (before_left heres []) left)

pub left_offset : (all : List ℕ) (fs : List Field) (heres : List (List ℕ)) → AreSpelled all fs heres → length (before_left heres []) ≡ size_of (map (λ (f : Field). f.row) fs)
left_offset all [] [] s = refl
left_offset all [] (here ∷ heres) s = absurd s
left_offset all (f ∷ fs) [] s = absurd s
left_offset all (f ∷ fs) (here ∷ heres) s = length-append here (before_left heres []) ∙ ap (λ (m : ℕ). m + length (before_left heres [])) s.0.width ∙ ap (λ (m : ℕ). f.row.width + m) (left_offset all fs heres s.2)

-- ---- the nine fields of the header

record OneRow (row : Row) (rows : List Row) (fs : List Field) : Type 0 where
  field : Field
  rest : List Field
  are : fs ≡ field ∷ rest
  row_is : field.row ≡ row
  begins_is : field.begins ≡ false
  given : value_of any_table row field.line.value ≡ Ok field.value
  left : RowsOf rows rest

one_row : (row : Row) (rows : List Row) (fs : List Field) → RowsOf (row ∷ rows) fs → OneRow row rows fs
one_row row rows [] r = absurd r
one_row row rows (f ∷ fs) r = record { field = f; rest = fs; are = refl; row_is = r.0; begins_is = r.1; given = r.2; left = r.3 }

none_left : (fs : List Field) → RowsOf [] fs → fs ≡ []
none_left [] r = refl
none_left (f ∷ fs) r = absurd r

-- the same with a field's own row
own_row : (all : List ℕ) (row : Row) (f : Field) (here : List ℕ) → f.row ≡ row → IsSpelled all row f.value here → IsSpelled all f.row f.value here
own_row all row f here e s = subst (λ (r : Row). IsSpelled all r f.value here) (sym e) s

own_bytes : (all : List ℕ) (row : Row) (f : Field) → f.row ≡ row → IsSpelled all row f.value (field_bytes row f.value) → IsSpelled all f.row f.value (field_bytes f.row f.value)
own_bytes all row f e s = subst (λ (r : Row). IsSpelled all r f.value (field_bytes r f.value)) (sym e) s

-- A table whose first fields are those of the header: they are read back from its sealed bytes, and behind them stand the bytes of the other pieces.
pub record HeaderRead (fs : List Field) (ps : List Piece) : Type 0 where
  pub stand : Stand (joined (sealed (map piece_of fs ++ ps))) 0 header_rows
  pub values : entries_from 0 fs ≡ rows_read 0 (joined (sealed (map piece_of fs ++ ps))) 0 header_rows
  pub front : List ℕ
  pub front_length : length front ≡ 36
  pub behind : joined (sealed (map piece_of fs ++ ps)) ≡ front ++ joined ps

header_size : size_of header_rows ≡ 36
unfolding header_rows
header_size = refl

nine_read : (f0 f1 f2 f3 f4 f5 f6 f7 f8 : Field) (ps : List Piece) → RowsOf (h 0 ∷ h 1 ∷ h 2 ∷ h 3 ∷ h 4 ∷ h 5 ∷ h 6 ∷ h 7 ∷ h 8 ∷ []) (f0 ∷ f1 ∷ f2 ∷ f3 ∷ f4 ∷ f5 ∷ f6 ∷ f7 ∷ f8 ∷ [])
    → length (joined (map piece_of (f0 ∷ f1 ∷ f2 ∷ f3 ∷ f4 ∷ f5 ∷ f6 ∷ f7 ∷ f8 ∷ []) ++ ps)) < 2 ^ 32 → HeaderRead (f0 ∷ f1 ∷ f2 ∷ f3 ∷ f4 ∷ f5 ∷ f6 ∷ f7 ∷ f8 ∷ []) ps
nine_read f0 f1 f2 f3 f4 f5 f6 f7 f8 ps r short =
    let fs : List Field = f0 ∷ f1 ∷ f2 ∷ f3 ∷ f4 ∷ f5 ∷ f6 ∷ f7 ∷ f8 ∷ [] in
    let r1 = r.3 in let r2 = r1.3 in let r3 = r2.3 in let r4 = r3.3 in let r5 = r4.3 in let r6 = r5.3 in let r7 = r6.3 in let r8 = r7.3 in
    let p0 : Piece = piece_of f0 in
    let p1 : Piece = piece_of f1 in
    let p2 : Piece = piece_of f2 in
    let p3 : Piece = piece_of f3 in
    let qs : List Piece = piece_of f4 ∷ piece_of f5 ∷ piece_of f6 ∷ piece_of f7 ∷ piece_of f8 ∷ ps in
    let B : List ℕ = joined (sealed (p0 ∷ p1 ∷ p2 ∷ p3 ∷ qs)) in
    let L : ℕ = length (joined (p0 ∷ p1 ∷ p2 ∷ p3 ∷ qs)) in
    let LB : List ℕ = length_bytes p0 p1 p2 p3 qs in
    let CB : List ℕ = checksum_bytes p0 p1 p2 p3 qs in
    let q1 : p1.bytes ≡ little_bytes 4 0 = ap (λ (row : Row). field_bytes row f1.value) r1.0 in
    let q3 : p3.bytes ≡ little_bytes 1 0 = ap (λ (row : Row). field_bytes row f3.value) r3.0 in
    let whole : length B ≡ L = sealed_length p0 p1 p2 p3 qs (ap length q1) (ap length q3) in
    let size : L < 2 ^ (8 * 4) = short in
    let heres : List (List ℕ) = p0.bytes ∷ LB ∷ p2.bytes ∷ CB ∷ field_bytes f4.row f4.value ∷ field_bytes f5.row f5.value ∷ field_bytes f6.row f6.value ∷ field_bytes f7.row f7.value ∷ field_bytes f8.row f8.value ∷ [] in
    let s0 = own_bytes B (h 0) f0 r.0 (plain_spelled B any_table (h 0) f0.line.value f0.value refl r.2) in
    let s1 = own_row B (h 1) f1 LB r1.0 (record { width = little_length 4 L; reads = refl; stands = little_back 4 L size ∙ sym whole }) in
    let s2 = own_bytes B (h 2) f2 r2.0 (revised B any_table f2.line.value f2.value r2.2).spelled in
    let s3 = own_row B (h 3) f3 CB r3.0 (record { width = checksum_width p0 p1 p2 p3 qs; reads = refl; stands = sealed_sum p0 p1 p2 p3 qs q3 }) in
    let s4 = own_bytes B (h 4) f4 r4.0 (plain_spelled B any_table (h 4) f4.line.value f4.value refl r4.2) in
    let s5 = own_bytes B (h 5) f5 r5.0 (plain_spelled B any_table (h 5) f5.line.value f5.value refl r5.2) in
    let s6 = own_bytes B (h 6) f6 r6.0 (plain_spelled B any_table (h 6) f6.line.value f6.value refl r6.2) in
    let s7 = own_bytes B (h 7) f7 r7.0 (record { width = refl; reads = refl; stands = refl }) in
    let s8 = own_bytes B (h 8) f8 r8.0 (record { width = refl; reads = refl; stands = refl }) in
    let all : AreSpelled B fs heres = (s0, r.1, (s1, r1.1, (s2, r2.1, (s3, r3.1, (s4, r4.1, (s5, r5.1, (s6, r6.1, (s7, r7.1, (s8, r8.1, tt))))))))) in
    let e : B ≡ [] ++ before_left heres (joined ps) = refl in
    let read : FieldsRead B 0 fs = read_all B [] (joined ps) fs heres all e in
    let rows : map (λ (f : Field). f.row) fs ≡ header_rows = rows_are (h 0 ∷ h 1 ∷ h 2 ∷ h 3 ∷ h 4 ∷ h 5 ∷ h 6 ∷ h 7 ∷ h 8 ∷ []) fs r ∙ sym header_is in
    record {
      stand = subst (Stand B 0) rows read.stand;
      values = read.values ∙ ap (rows_read 0 B 0) rows;
      front = before_left heres [];
      front_length = left_offset B fs heres all ∙ ap size_of rows ∙ header_size;
      behind = left_at heres (joined ps);
    }

abbrev nine_rows : List Row
nine_rows = h 0 ∷ h 1 ∷ h 2 ∷ h 3 ∷ h 4 ∷ h 5 ∷ h 6 ∷ h 7 ∷ h 8 ∷ []

-- what holds of nine fields with these rows holds of the fields of the header
nine : (P : List Field → Type 0) → ((f0 f1 f2 f3 f4 f5 f6 f7 f8 : Field) → RowsOf nine_rows (f0 ∷ f1 ∷ f2 ∷ f3 ∷ f4 ∷ f5 ∷ f6 ∷ f7 ∷ f8 ∷ []) → P (f0 ∷ f1 ∷ f2 ∷ f3 ∷ f4 ∷ f5 ∷ f6 ∷ f7 ∷ f8 ∷ [])) → (fs : List Field) → RowsOf header_rows fs → P fs
nine P of fs r =
    let r0 : RowsOf nine_rows fs = subst (λ (rows : List Row). RowsOf rows fs) header_is r in
    let t0 = one_row (h 0) (behind_h 1) fs r0 in
    let t1 = one_row (h 1) (behind_h 2) t0.rest t0.left in
    let t2 = one_row (h 2) (behind_h 3) t1.rest t1.left in
    let t3 = one_row (h 3) (behind_h 4) t2.rest t2.left in
    let t4 = one_row (h 4) (behind_h 5) t3.rest t3.left in
    let t5 = one_row (h 5) (behind_h 6) t4.rest t4.left in
    let t6 = one_row (h 6) (behind_h 7) t5.rest t5.left in
    let t7 = one_row (h 7) (behind_h 8) t6.rest t6.left in
    let t8 = one_row (h 8) [] t7.rest t7.left in
    let are : fs ≡ t0.field ∷ t1.field ∷ t2.field ∷ t3.field ∷ t4.field ∷ t5.field ∷ t6.field ∷ t7.field ∷ t8.field ∷ [] =
    t0.are ∙ ap (λ (xs : List Field). t0.field ∷ xs) (t1.are ∙ ap (λ (xs : List Field). t1.field ∷ xs) (t2.are ∙ ap (λ (xs : List Field). t2.field ∷ xs) (t3.are ∙ ap (λ (xs : List Field). t3.field ∷ xs) (
    t4.are ∙ ap (λ (xs : List Field). t4.field ∷ xs) (t5.are ∙ ap (λ (xs : List Field). t5.field ∷ xs) (t6.are ∙ ap (λ (xs : List Field). t6.field ∷ xs) (t7.are ∙ ap (λ (xs : List Field). t7.field ∷ xs) (
    t8.are ∙ ap (λ (xs : List Field). t8.field ∷ xs) (none_left t8.rest t8.left))))))))) in
    subst P (sym are) (of t0.field t1.field t2.field t3.field t4.field t5.field t6.field t7.field t8.field (subst (λ (xs : List Field). RowsOf nine_rows xs) are r0))

pub header_read : (fs : List Field) (ps : List Piece) → RowsOf header_rows fs → length (joined (map piece_of fs ++ ps)) < 2 ^ 32 → HeaderRead fs ps
header_read fs ps r =
    nine (λ (xs : List Field). length (joined (map piece_of xs ++ ps)) < 2 ^ 32 → HeaderRead xs ps) (λ f0 f1 f2 f3 f4 f5 f6 f7 f8 q short. nine_read f0 f1 f2 f3 f4 f5 f6 f7 f8 ps q short) fs r

-- ---- how many bytes the header has before it is sealed

abbrev AllWide : List Field → Type 0
AllWide [] = ⊤
AllWide (f ∷ fs) = (length (field_bytes f.row f.value) ≡ f.row.width) × AllWide fs

wide_length : (fs : List Field) → AllWide fs → length (joined (map piece_of fs)) ≡ size_of (map (λ (f : Field). f.row) fs)
wide_length [] w = refl
wide_length (f ∷ fs) w = length-append (field_bytes f.row f.value) (joined (map piece_of fs)) ∙ ap (λ (m : ℕ). m + length (joined (map piece_of fs))) w.0 ∙ ap (λ (m : ℕ). f.row.width + m) (wide_length fs w.1)

own_width : (row : Row) (f : Field) → f.row ≡ row → length (field_bytes row f.value) ≡ row.width → length (field_bytes f.row f.value) ≡ f.row.width
own_width row f e w = subst (λ (r : Row). length (field_bytes r f.value) ≡ r.width) (sym e) w

nine_bytes : (f0 f1 f2 f3 f4 f5 f6 f7 f8 : Field) → RowsOf nine_rows (f0 ∷ f1 ∷ f2 ∷ f3 ∷ f4 ∷ f5 ∷ f6 ∷ f7 ∷ f8 ∷ []) → length (joined (map piece_of (f0 ∷ f1 ∷ f2 ∷ f3 ∷ f4 ∷ f5 ∷ f6 ∷ f7 ∷ f8 ∷ []))) ≡ 36
nine_bytes f0 f1 f2 f3 f4 f5 f6 f7 f8 r =
    let fs : List Field = f0 ∷ f1 ∷ f2 ∷ f3 ∷ f4 ∷ f5 ∷ f6 ∷ f7 ∷ f8 ∷ [] in
    let r1 = r.3 in let r2 = r1.3 in let r3 = r2.3 in let r4 = r3.3 in let r5 = r4.3 in let r6 = r5.3 in let r7 = r6.3 in let r8 = r7.3 in
    let w0 = own_width (h 0) f0 r.0 (plain_spelled [] any_table (h 0) f0.line.value f0.value refl r.2).width in
    let w1 = own_width (h 1) f1 r1.0 (little_length 4 0) in
    let w2 = own_width (h 2) f2 r2.0 (revised [] any_table f2.line.value f2.value r2.2).spelled.width in
    let w3 = own_width (h 3) f3 r3.0 (little_length 1 0) in
    let w4 = own_width (h 4) f4 r4.0 (plain_spelled [] any_table (h 4) f4.line.value f4.value refl r4.2).width in
    let w5 = own_width (h 5) f5 r5.0 (plain_spelled [] any_table (h 5) f5.line.value f5.value refl r5.2).width in
    let w6 = own_width (h 6) f6 r6.0 (plain_spelled [] any_table (h 6) f6.line.value f6.value refl r6.2).width in
    let w7 = own_width (h 7) f7 r7.0 refl in
    let w8 = own_width (h 8) f8 r8.0 refl in
    let rows : map (λ (f : Field). f.row) fs ≡ header_rows = rows_are nine_rows fs r ∙ sym header_is in
    wide_length fs (w0, (w1, (w2, (w3, (w4, (w5, (w6, (w7, (w8, tt))))))))) ∙ ap size_of rows ∙ header_size

pub header_bytes : (fs : List Field) → RowsOf header_rows fs → length (joined (map piece_of fs)) ≡ 36
header_bytes fs r = nine (λ (xs : List Field). length (joined (map piece_of xs)) ≡ 36) nine_bytes fs r

-- ---- fewer lines than rows

-- a row for which no line is left is missing
pub missing_row : (end : Place) (rows : List Row) (rest : List FieldLine) (i : ℕ) → i < length rows → length rest < 1 → rows_walk end (drop i rows) rest ≡ fault_at end 6091
missing_row end [] rest i h n = absurd (omega (arith, h))
missing_row end (row ∷ rows) [] zero h n = refl
missing_row end (row ∷ rows) (line ∷ rest) zero h n = absurd (omega (arith, n))
missing_row end (row ∷ rows) rest (suc i) h n = missing_row end rows rest i (omega (arith, h)) n

-- what there is with one fault behind it
pub told_fault : (old new : HeaderWalker) (end : Place) → new.faults ≡ old.faults ++ message_at 6091 end ∷ [] → new.pieces ≡ old.pieces → new.notes ≡ old.notes → header_told old (fault_at end 6091) ≡ header_so_far new
told_fault old new end f p n =
    let pieces : old.pieces ++ [] ≡ new.pieces = append-nil old.pieces ∙ sym p in
    let notes : old.notes ++ [] ≡ new.notes = append-nil old.notes ∙ sym n in
    λ i. made (pieces i) (notes i) (sym f i)
