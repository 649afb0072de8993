-- The fields of the header, and the fixed part behind it.
use Rattle.std.proofs.Common.{◌≡◌, ◌<◌, ℕ, false, List, [], ◌∷◌, ◌++◌, length, drop, get_or, map, None, Ok, refl, sym, ap, subst, ◌∙◌}
use Rattle.data_layout.specs.declared.row.Row.{Row}
use Rattle.data_layout.specs.declared.row.Kind.{Kind}
use Rattle.data_layout.specs.declared.row.Kind.TheVariants as k
use Rattle.data_layout.specs.declared.row.FlagSet.{FlagSet}
use Rattle.data_layout.specs.declared.rows.TheConstants.{HEADER}
use Rattle.data_layout.specs.declared.table.Table.{Table}
use Rattle.data_layout.specs.declared.row.Behind.{Behind}
use Rattle.data_layout.specs.declared.row.Behind.TheVariants as b
use Rattle.data_layout.specs.Layout.{header_rows, fixed_rows, behind_of, locality_row}
use Rattle.data_text.specs.Values.{number_in}
use Rattle.data_tables.specs.declared.part.After.{After}
use Rattle.data_tables.specs.declared.part.After.TheVariants as a
use Rattle.data_tables.specs.Entry.{Value, Entry}
use Rattle.data_tables.specs.Fields.{field_bytes, number_of_value, value_of, revision_fault}
use Rattle.data_tables.specs.Parts.{Part, first_part, first_of, after_by, after_fixed, behind}
use Rattle.data_tables.specs.Walk.{Field}
use Rattle.data_tables.specs.Compiling.{piece_of, joined}
use Rattle.data_tables.specs.Entries.{entries_from}
use Rattle.data_tables.specs.Reading.{bytes_at, number_of, number_read, Tail, Localities, rest_by, rest_of}
use Rattle.data_tables.proofs.Numbers.{little_back}
use Rattle.data_tables.proofs.Spelled.{IsSpelled, width_bound, count_bound, given_number}
use Rattle.data_tables.proofs.Steps.{FieldsOf}
use Rattle.data_tables.proofs.Plain.{IsOther, fixed_plain, fixed_count, narrow_revision}
use Rattle.data_tables.proofs.ReadBack.{part, row_of, Reads, tail_of, IsFirst, first_is, entries_first, bytes_first, bytes_here, rows_step, shifted, numbered}
use Rattle.data_tables.proofs.Behind.{IsLater, read_back}

-- the first field of a part with this row, and the fields behind it
pub record IsTaken (table : Table) (revision : ℕ) (row : Row) (rows : List Row) (after : After) (fields : List Field) : Type 0 where
  pub field : Field
  pub rest : List Field
  pub are : fields ≡ field ∷ rest
  pub first : IsFirst table row (part table revision rows after) false field rest

pub taken : (table : Table) (revision : ℕ) (row : Row) (rows : List Row) (after : After) (fields : List Field) → FieldsOf (part table revision (row ∷ rows) after) fields → IsTaken table revision row rows after fields
taken table revision row rows after [] h = absurd cc
taken table revision row rows after (field ∷ fields) h = record {
  field = field;
  rest = fields;
  are = refl;
  first = first_is (part table revision (row ∷ rows) after) (part table revision rows after) row field fields refl h;
}

-- the rows of the header
abbrev pub h : ℕ → Row
h i = get_or HEADER.now i (locality_row 0 0)

abbrev pub behind_h : ℕ → List Row
behind_h i = drop i HEADER.now

pub record IsHeaded (table : Table) (fields : List Field) : Type 0 where
  pub t0 : IsTaken table 0 (h 0) (behind_h 1) a.Fixed fields
  pub t1 : IsTaken table 0 (h 1) (behind_h 2) a.Fixed t0.rest
  pub t2 : IsTaken table 0 (h 2) (behind_h 3) a.Fixed t1.rest
  pub t3 : IsTaken table (number_of_value t2.field.value) (h 3) (behind_h 4) a.Fixed t2.rest
  pub t4 : IsTaken table (number_of_value t2.field.value) (h 4) (behind_h 5) a.Fixed t3.rest
  pub t5 : IsTaken table (number_of_value t2.field.value) (h 5) (behind_h 6) a.Fixed t4.rest
  pub t6 : IsTaken table (number_of_value t2.field.value) (h 6) (behind_h 7) a.Fixed t5.rest
  pub t7 : IsTaken table (number_of_value t2.field.value) (h 7) (behind_h 8) a.Fixed t6.rest
  pub t8 : IsTaken table (number_of_value t2.field.value) (h 8) [] a.Fixed t7.rest
  pub left : FieldsOf (part table (number_of_value t2.field.value) [] a.Fixed) t8.rest

pub headed : (table : Table) (fields : List Field) → FieldsOf (first_part table) fields → IsHeaded table fields
unfolding header_rows
headed table fields f =
    let t0 = taken table 0 (h 0) (behind_h 1) a.Fixed fields f in
    let t1 = taken table 0 (h 1) (behind_h 2) a.Fixed t0.rest t0.first.tail in
    let t2 = taken table 0 (h 2) (behind_h 3) a.Fixed t1.rest t1.first.tail in
    let r = number_of_value t2.field.value in
    let t3 = taken table r (h 3) (behind_h 4) a.Fixed t2.rest t2.first.tail in
    let t4 = taken table r (h 4) (behind_h 5) a.Fixed t3.rest t3.first.tail in
    let t5 = taken table r (h 5) (behind_h 6) a.Fixed t4.rest t4.first.tail in
    let t6 = taken table r (h 6) (behind_h 7) a.Fixed t5.rest t5.first.tail in
    let t7 = taken table r (h 7) (behind_h 8) a.Fixed t6.rest t6.first.tail in
    let t8 = taken table r (h 8) [] a.Fixed t7.rest t7.first.tail in
    record { t0 = t0; t1 = t1; t2 = t2; t3 = t3; t4 = t4; t5 = t5; t6 = t6; t7 = t7; t8 = t8; left = t8.first.tail }

pub header_is : header_rows ≡ h 0 ∷ h 1 ∷ h 2 ∷ h 3 ∷ h 4 ∷ h 5 ∷ h 6 ∷ h 7 ∷ h 8 ∷ []
unfolding header_rows
header_is = refl

-- one field of the header before those that are read
pub header_step : (table : Table) (revision : ℕ) (row : Row) (rows rs : List Row) (after : After) (fields : List Field) (bytes before here tail : List ℕ) (later : Tail) (t : IsTaken table revision row rows after fields) → IsSpelled bytes row t.field.value here → bytes ≡ before ++ (here ++ tail)
    → Reads table bytes rs later 0 (length (before ++ here)) (entries_from 0 t.rest) → Reads table bytes (row ∷ rs) later 0 (length before) (entries_from 0 fields)
header_step table revision row rows rs after fields bytes before here tail later t s e r =
    let all = ap (entries_from 0) t.are ∙ entries_first 0 row t.field t.rest false t.first.row_is t.first.begins_is in
    subst (λ (es : List Entry). Reads table bytes (row ∷ rs) later 0 (length before) es) (sym all)
    (rows_step table bytes before here tail row rs later 0 t.field.value (entries_from 0 t.rest) s e r)

-- the bytes of a part's fields, with those of the first apart
pub bytes_taken : (table : Table) (revision : ℕ) (row : Row) (rows : List Row) (after : After) (fields : List Field) (t : IsTaken table revision row rows after fields) → joined (map piece_of fields) ≡ field_bytes row t.field.value ++ joined (map piece_of t.rest)
bytes_taken table revision row rows after fields t = ap (λ (fs : List Field). joined (map piece_of fs)) t.are ∙ bytes_first row t.field t.rest t.first.row_is

-- ---- the fixed part

first_fixed : (table : Table) (revision : ℕ) (row : Row) (rows : List Row) (fields : List Field) → fixed_rows table revision ≡ row ∷ rows → FieldsOf (part table revision [] a.Fixed) fields → FieldsOf (part table revision (row ∷ rows) (after_fixed table)) fields
first_fixed table revision row rows [] e f = absurd cc
first_fixed table revision row rows (field ∷ fields) e f =
    (f.0, sym (ap (first_of (part table revision [] (after_fixed table))) e) ∙ f.1, f.2, f.3, f.4)

later_by : (behind : Behind) → IsLater (after_by behind)
later_by b.Nothing = tt
later_by b.Entries = tt
later_by b.Structures = tt
later_by b.Localities = tt

plain_fixed : (table : Table) (revision : ℕ) (fields : List Field) (bytes before : List ℕ) → IsOther (behind_of table) → revision_fault table 1 revision ≡ None → bytes ≡ before ++ joined (map piece_of fields) → FieldsOf (part table revision [] a.Fixed) fields → Reads table bytes (fixed_rows table revision) (tail_of (after_fixed table)) 0 (length before) (entries_from 0 fields)
plain_fixed table revision fields bytes before o known e f =
    let p = fixed_plain table revision o known in
    let g = subst (λ (rs : List Row). FieldsOf (part table revision rs (after_fixed table)) fields) (sym p.are) (first_fixed table revision p.first p.others fields p.are f) in
    read_back table revision fields (fixed_rows table revision) (after_fixed table) 0 bytes before (later_by (behind_of table)) p.plain e g

-- the number of localities
pub record IsCounted (all : List ℕ) (row : Row) (value : Value) : Type 0 where
  pub spelled : IsSpelled all row value (field_bytes row value)
  pub number : number_of (field_bytes row value) ≡ number_of_value value

counted_of : (all : List ℕ) (table : Table) (w : ℕ) (l : List ℕ) (f : FlagSet) (text : List ℕ) (value : Value) → value_of table (row_of k.Localities w l f) text ≡ Ok value → IsCounted all (row_of k.Localities w l f) value
counted_of all table w l f text value g =
    let r = row_of k.Localities w l f in
    let n = given_number table r (number_in text) value g in
    let b = count_bound w n.0 n.2 in
    subst (λ (v : Value). IsCounted all r v) (sym n.1) (record { spelled = numbered all r n.0 refl b tt; number = little_back w n.0 b })

counted : (all : List ℕ) (table : Table) (row : Row) (text : List ℕ) (value : Value) → row.kind ≡ k.Localities → value_of table row text ≡ Ok value → IsCounted all row value
counted all table row text value e g =
    let same : row ≡ row_of k.Localities row.width row.label row.flags = ap (λ (q : Kind). row_of q row.width row.label row.flags) e in
    let g' : value_of table (row_of k.Localities row.width row.label row.flags) text ≡ Ok value = subst (λ (r : Row). value_of table r text ≡ Ok value) same g in
    subst (λ (r : Row). IsCounted all r value) (sym same) (counted_of all table row.width row.label row.flags text value g')

count_fixed : (table : Table) (revision : ℕ) (fields : List Field) (bytes before : List ℕ) → behind_of table ≡ b.Localities → revision_fault table 1 revision ≡ None → length before ≡ 36 → bytes ≡ before ++ joined (map piece_of fields) → FieldsOf (part table revision [] a.Fixed) fields → Reads table bytes (fixed_rows table revision) (rest_by b.Localities bytes) 0 (length before) (entries_from 0 fields)
count_fixed table revision fields bytes before is known size e f =
    let one = fixed_count table revision is known in
    let row = one.first in
    let q = taken table revision row [] (a.Matrix 0 0) fields (subst (λ (behind : Behind). FieldsOf (part table revision (row ∷ []) (after_by behind)) fields) is (first_fixed table revision row [] fields one.are f)) in
    let here = field_bytes row q.field.value in
    let n = number_of_value q.field.value in
    let tail = joined (map piece_of q.rest) in
    let c = counted bytes table row q.field.line.value q.field.value one.kind_is q.first.given in
    let whole : bytes ≡ before ++ (here ++ tail) = e ∙ ap (λ (bs : List ℕ). before ++ bs) (bytes_taken table revision row [] (a.Matrix 0 0) fields q) in
    let left : FieldsOf (part table revision [] (a.Matrix n 0)) q.rest = subst (λ (p : Part). FieldsOf p q.rest) (ap (λ (kind : Kind). behind (part table revision [] (a.Matrix 0 0)) kind n) one.kind_is) q.first.tail in
    let r = read_back table revision q.rest [] (a.Matrix n 0) 0 bytes (before ++ here) tt refl (shifted bytes before here tail whole) left in
    let r1 = header_step table revision row [] [] (a.Matrix 0 0) fields bytes before here tail (Localities n 0) q c.spelled whole r in
    let at : bytes_at bytes (length before) 8 ≡ here = bytes_here bytes before here tail 8 whole (c.spelled.width ∙ one.width_is) in
    let number : number_read bytes 36 8 ≡ n = ap (λ (o : ℕ). number_read bytes o 8) (sym size) ∙ ap number_of at ∙ c.number in
    let r2 : Reads table bytes (row ∷ []) (Localities (number_read bytes 36 8) 0) 0 (length before) (entries_from 0 fields) = subst (λ (m : ℕ). Reads table bytes (row ∷ []) (Localities m 0) 0 (length before) (entries_from 0 fields)) (sym number) r1 in
    subst (λ (rs : List Row). Reads table bytes rs (Localities (number_read bytes 36 8) 0) 0 (length before) (entries_from 0 fields)) (sym one.are) r2

pub fixed_read : (table : Table) (revision : ℕ) (fields : List Field) (bytes before : List ℕ) → length before ≡ 36 → revision_fault table 1 revision ≡ None → bytes ≡ before ++ joined (map piece_of fields) → FieldsOf (part table revision [] a.Fixed) fields → Reads table bytes (fixed_rows table revision) (rest_of table bytes) 0 (length before) (entries_from 0 fields)
fixed_read table revision fields bytes before size known e f = by (behind_of table) refl
  where
    other : (behind : Behind) → behind_of table ≡ behind → IsOther behind → Reads table bytes (fixed_rows table revision) (tail_of (after_by behind)) 0 (length before) (entries_from 0 fields)
    other behind is o = subst (λ (x : Behind). Reads table bytes (fixed_rows table revision) (tail_of (after_by x)) 0 (length before) (entries_from 0 fields)) is
        (plain_fixed table revision fields bytes before (subst IsOther (sym is) o) known e f)

    by : (behind : Behind) → behind_of table ≡ behind → Reads table bytes (fixed_rows table revision) (rest_by behind bytes) 0 (length before) (entries_from 0 fields)
    by b.Nothing is = other b.Nothing is tt
    by b.Entries is = other b.Entries is tt
    by b.Structures is = other b.Structures is tt
    by b.Localities is = count_fixed table revision fields bytes before is known size e f

-- ---- the revision

pub small_revision : (table : Table) (n : ℕ) → revision_fault table 1 n ≡ None → n < 256
small_revision table n e = width_bound 1 n (narrow_revision table n e)
