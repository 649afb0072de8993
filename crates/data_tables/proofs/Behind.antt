-- All fields behind the header are read back: those of the fixed part, and then entries, structures or rows.
use Rattle.std.proofs.Common.{◌≡◌, ◌<◌, ◌+◌, ℕ, Bool, true, false, cond, nat_lt, List, [], ◌∷◌, ◌++◌, length, map, Option, Some, Result, Ok, Err, refl, sym, ap, subst, ◌∙◌, arith}
use Rattle.std.proofs.lemmas.Grind.{common_steps}
use Rattle.std.specs.Option.{unwrap_or}
use Rattle.std.proofs.lemmas.Bool.{and_parts}
use Rattle.data_layout.specs.declared.row.Row.{Row}
use Rattle.data_layout.specs.declared.row.Kind.{Kind}
use Rattle.data_layout.specs.declared.row.Kind.TheVariants as k
use Rattle.data_layout.specs.declared.table.Table.{Table}
use Rattle.data_layout.specs.Layout.{entry_rows, type_rows, structure_rows, locality_row}
use Rattle.data_tables.specs.declared.part.After.{After}
use Rattle.data_tables.specs.declared.part.After.TheVariants as a
use Rattle.data_tables.specs.Fields.{field_bytes, number_of_value}
use Rattle.data_tables.specs.Parts.{Part, Opened, next_field, first_of, behind}
use Rattle.data_tables.specs.Walk.{Field}
use Rattle.data_tables.specs.Compiling.{piece_of, joined}
use Rattle.data_tables.specs.Entry.{Entry}
use Rattle.data_tables.specs.Entries.{entry_of, entries_from}
use Rattle.data_tables.specs.Reading.{bytes_at, number_of, rows_read, size_of, Stands, Stand, States, State, type_read, Tail, Entries, Structures, Localities, IsRest, entry, structure, locality}
use Rattle.data_tables.proofs.Steps.{FieldsOf}
use Rattle.data_tables.proofs.Plain.{is_plain, are_plain, plain_first, states, states_size, structure_plain, structure_states, entries_plain, IsType, type_one, first_type}
use Rattle.data_tables.proofs.ReadBack.{part, Reads, IsReadFrom, plain_spelled, type_spelled, locality_spelled, bytes_here, rows_step, shifted, behind_plain, first_is, entries_first, bytes_first, within, at_end, at_row}

-- nothing is read of a part without rows but what comes after it
closed : (table : Table) (bytes before tail : List ℕ) (after : Tail) (number : ℕ) (entries : List Entry) → bytes ≡ before ++ tail → IsRest table bytes after number (length before) entries → Reads table bytes [] after number (length before) entries
closed table bytes before tail after number entries e r =
    let none : length before ≡ length before + 0 = omega arith in
    record {
      more = entries;
      values = refl;
      stand = within bytes before tail e;
      rest = subst (λ (o : ℕ). IsRest table bytes after number o entries) none r;
    }

-- the same, where the values are given by way of others
closed_by : (table : Table) (bytes before tail : List ℕ) (after : Tail) (number : ℕ) (all others entries : List Entry) → bytes ≡ before ++ tail → all ≡ others → others ≡ entries → IsRest table bytes after number (length before) entries → Reads table bytes [] after number (length before) all
closed_by table bytes before tail after number all others entries e f g r =
    subst (λ (es : List Entry). Reads table bytes [] after number (length before) es) (sym (f ∙ g)) (closed table bytes before tail after number entries e r)

-- the first field of an entry
record IsEntry (table : Table) : Type 0 where
  first : Row
  others : List Row
  are : entry_rows table ≡ first ∷ others
  plain : is_plain first.kind first.width ≡ true
  others_plain : are_plain others ≡ true

entry_of_rows : (table : Table) (revision : ℕ) (row : Row) (rest : Part) (rows : List Row) → entry_rows table ≡ rows → are_plain rows ≡ true → first_of (part table revision [] a.Entries) rows ≡ Ok (row, rest) → IsEntry table
entry_of_rows table revision row rest [] e p h = let f : ◌≡◌ {A = Result Opened ℕ} (Err 6092) (Ok (row, rest)) = h in absurd cc
entry_of_rows table revision row rest (first ∷ others) e p h = let q = plain_first first others p in record { first = first; others = others; are = e; plain = q.0; others_plain = q.1 }

at_entry : (table : Table) (revision number : ℕ) (bytes before : List ℕ) (field : Field) (fields : List Field) → bytes ≡ before ++ joined (map piece_of (field ∷ fields)) → FieldsOf (part table revision [] a.Entries) (field ∷ fields)
    → ((rows : List Row) (before' : List ℕ) → are_plain rows ≡ true → bytes ≡ before' ++ joined (map piece_of fields) → IsReadFrom table revision bytes a.Entries rows (number + 1) before' fields) → Reads table bytes [] Entries number (length before) (entries_from number (field ∷ fields))
at_entry table revision number bytes before field fields e h ih =
    let d = entry_of_rows table revision field.row h.0 (entry_rows table) refl (entries_plain table) h.1 in
    let row = d.first in
    let rows = d.others in
    let here = field_bytes row field.value in
    let tail = joined (map piece_of fields) in
    let opened : next_field (part table revision [] a.Entries) ≡ Ok (row, part table revision rows a.Entries) = ap (first_of (part table revision [] a.Entries)) d.are in
    let f = first_is (part table revision [] a.Entries) (part table revision rows a.Entries) row field fields opened h in
    let s = plain_spelled bytes table row field.line.value field.value d.plain f.given in
    let whole : bytes ≡ before ++ (here ++ tail) = e ∙ ap (λ (bs : List ℕ). before ++ bs) (bytes_first row field fields f.row_is) in
    let left : FieldsOf (part table revision rows a.Entries) fields = subst (λ (q : Part). FieldsOf q fields) (behind_plain (part table revision rows a.Entries) row.kind row.width (number_of_value field.value) d.plain) f.tail in
    let r = ih rows (before ++ here) d.others_plain (shifted bytes before here tail whole) left in
    let r1 = rows_step table bytes before here tail row rows Entries (number + 1) field.value (entries_from (number + 1) fields) s whole r in
    let r2 : Reads table bytes (entry_rows table) Entries (number + 1) (length before) (entry_of (number + 1) row field.value ++ entries_from (number + 1) fields) = subst (λ (rs : List Row). Reads table bytes rs Entries (number + 1) (length before) (entry_of (number + 1) row field.value ++ entries_from (number + 1) fields)) (sym d.are) r1 in
    closed_by table bytes before (here ++ tail) Entries number (entries_from number (field ∷ fields)) (entry_of (number + 1) row field.value ++ entries_from (number + 1) fields) (rows_read (number + 1) bytes (length before) (entry_rows table) ++ r2.more) whole (entries_first number row field fields true f.row_is f.begins_is) r2.values (entry number (length before) r2.more r2.stand r2.rest)

stated_at : (bytes : List ℕ) (size : ℕ) (kind : Kind) (here : List ℕ) → states size kind ≡ true → Stands bytes kind here → States size kind here
stated_at bytes size k.Number here e h = tt
stated_at bytes size k.Text here e h = tt
stated_at bytes size k.Bytes here e h = tt
stated_at bytes size k.Guid here e h = tt
stated_at bytes size k.Reserved here e h = tt
stated_at bytes size k.TableLength here e h = tt
stated_at bytes size k.Checksum here e h = tt
stated_at bytes size k.CompilerId here e h = tt
stated_at bytes size k.CompilerRevision here e h = tt
stated_at bytes size (k.Length stated) here e h = let same : stated ≡ size = grind (arith, common_steps) in h ∙ same
stated_at bytes size k.Revision here e h = tt
stated_at bytes size k.StructureType here e h = tt
stated_at bytes size k.Localities here e h = tt
stated_at bytes size (k.Locality n) here e h = tt

stated : (bytes : List ℕ) (size offset : ℕ) (rows : List Row) → states_size size rows ≡ true → Stand bytes offset rows → State size bytes offset rows
stated bytes size offset [] e h = tt
stated bytes size offset (row ∷ rows) e h =
    let each = and_parts (states size row.kind) _ e in
    (stated_at bytes size row.kind (bytes_at bytes offset row.width) each.0 h.0, stated bytes size (offset + row.width) rows each.1 h.1)

-- the type that a structure begins with
typed : (table : Table) (revision : ℕ) (row : Row) (rest : Part) (rows : List Row) → type_rows table ≡ rows → first_of (part table revision [] a.Structures) rows ≡ Ok (row, rest) → IsType (type_rows table)
typed table revision row rest [] e h = let f : ◌≡◌ {A = Result Opened ℕ} (Err 6092) (Ok (row, rest)) = h in absurd cc
typed table revision row rest (first ∷ others) e h = type_one (type_rows table) (first_type table first others e)

at_structure : (table : Table) (revision number : ℕ) (bytes before : List ℕ) (field : Field) (fields : List Field) → bytes ≡ before ++ joined (map piece_of (field ∷ fields)) → FieldsOf (part table revision [] a.Structures) (field ∷ fields)
    → ((rows : List Row) (before' : List ℕ) → are_plain rows ≡ true → bytes ≡ before' ++ joined (map piece_of fields) → IsReadFrom table revision bytes a.Structures rows (number + 1) before' fields) → Reads table bytes [] Structures number (length before) (entries_from number (field ∷ fields))
at_structure table revision number bytes before field fields e h ih =
    let one = typed table revision field.row h.0 (type_rows table) refl h.1 in
    let row = one.first in
    let here = field_bytes row field.value in
    let tail = joined (map piece_of fields) in
    let opened : next_field (part table revision [] a.Structures) ≡ Ok (row, part table revision [] a.Structures) = ap (first_of (part table revision [] a.Structures)) one.are in
    let f = first_is (part table revision [] a.Structures) (part table revision [] a.Structures) row field fields opened h in
    let t = type_spelled bytes table row field.line.value field.value one.kind_is f.given in
    let whole : bytes ≡ before ++ (here ++ tail) = e ∙ ap (λ (bs : List ℕ). before ++ bs) (bytes_first row field fields f.row_is) in
    let chosen : behind (part table revision [] a.Structures) row.kind (number_of_value field.value) ≡ part table revision t.rows a.Structures =
    ap (λ (q : Kind). behind (part table revision [] a.Structures) q (number_of_value field.value)) one.kind_is
    ∙ ap (λ (o : Option (List Row)). part table revision (unwrap_or o []) a.Structures) t.known in
    let left : FieldsOf (part table revision t.rows a.Structures) fields = subst (λ (q : Part). FieldsOf q fields) chosen f.tail in
    let r = ih t.rows (before ++ here) (structure_plain table (number_of_value field.value) t.rows t.known) (shifted bytes before here tail whole) left in
    let r1 = rows_step table bytes before here tail row t.rows Structures (number + 1) field.value (entries_from (number + 1) fields) t.spelled whole r in
    let r2 : Reads table bytes (type_rows table ++ t.rows) Structures (number + 1) (length before) (entry_of (number + 1) row field.value ++ entries_from (number + 1) fields) = subst (λ (rs : List Row). Reads table bytes (rs ++ t.rows) Structures (number + 1) (length before) (entry_of (number + 1) row field.value ++ entries_from (number + 1) fields)) (sym one.are) r1 in
    let width : size_of (type_rows table) ≡ row.width = let sized : size_of (type_rows table) ≡ row.width + 0 = ap size_of one.are in omega (arith, sized) in
    let at : bytes_at bytes (length before) (size_of (type_rows table)) ≡ here = ap (bytes_at bytes (length before)) width ∙ bytes_here bytes before here tail row.width whole t.spelled.width in
    let number_is : type_read table bytes (length before) ≡ number_of_value field.value = ap number_of at ∙ t.number in
    let known : structure_rows table (type_read table bytes (length before)) ≡ Some t.rows = ap (structure_rows table) number_is ∙ t.known in
    let lengths = stated bytes (size_of (type_rows table ++ t.rows)) (length before) (type_rows table ++ t.rows) (structure_states table (number_of_value field.value) t.rows t.known) r2.stand in
    closed_by table bytes before (here ++ tail) Structures number (entries_from number (field ∷ fields)) (entry_of (number + 1) row field.value ++ entries_from (number + 1) fields) (rows_read (number + 1) bytes (length before) (type_rows table ++ t.rows) ++ r2.more) whole
    (entries_first number row field fields true f.row_is f.begins_is) r2.values (structure number (length before) t.rows r2.more known lengths r2.stand r2.rest)

at_locality : (table : Table) (revision number count place : ℕ) (bytes before : List ℕ) (field : Field) (fields : List Field) → bytes ≡ before ++ joined (map piece_of (field ∷ fields)) → nat_lt place count ≡ true → FieldsOf (part table revision [] (a.Matrix count place)) (field ∷ fields)
    → ((before' : List ℕ) → bytes ≡ before' ++ joined (map piece_of fields) → IsReadFrom table revision bytes (a.Matrix count (place + 1)) [] (number + 1) before' fields) → Reads table bytes [] (Localities count place) number (length before) (entries_from number (field ∷ fields))
at_locality table revision number count place bytes before field fields e more h ih =
    let row = locality_row count place in
    let after = a.Matrix count (place + 1) in
    let more_rows = Localities count (place + 1) in
    let here = field_bytes row field.value in
    let tail = joined (map piece_of fields) in
    let lt : place < count = grind arith in
    let opened : next_field (part table revision [] (a.Matrix count place)) ≡ Ok (row, part table revision [] after) = ap (λ (b : Bool). cond {A = Result Opened ℕ} b (Ok (row, part table revision [] after)) (Err 6097)) more in
    let f = first_is (part table revision [] (a.Matrix count place)) (part table revision [] after) row field fields opened h in
    let s = locality_spelled bytes table count place field.line.value field.value f.given in
    let whole : bytes ≡ before ++ (here ++ tail) = e ∙ ap (λ (bs : List ℕ). before ++ bs) (bytes_first row field fields f.row_is) in
    let r = ih (before ++ here) (shifted bytes before here tail whole) f.tail in
    let r1 = rows_step table bytes before here tail row [] more_rows (number + 1) field.value (entries_from (number + 1) fields) s whole r in
    let end : length before + (count + 0) ≡ length before + count = omega arith in
    closed_by table bytes before (here ++ tail) (Localities count place) number (entries_from number (field ∷ fields)) (entry_of (number + 1) row field.value ++ entries_from (number + 1) fields) (rows_read (number + 1) bytes (length before) (row ∷ []) ++ r1.more) whole (entries_first number row field fields true f.row_is f.begins_is) r1.values
    (locality number (length before) count place r1.more lt r1.stand (subst (λ (o : ℕ). IsRest table bytes more_rows (number + 1) o r1.more) end r1.rest))

-- behind the header and the fixed part
abbrev pub IsLater : After → Type 0
IsLater a.Fixed = ⊥
IsLater a.Nothing = Unit {0}
IsLater a.Entries = Unit {0}
IsLater a.Structures = Unit {0}
IsLater (a.Matrix count number) = Unit {0}

pub read_back : (table : Table) (revision : ℕ) (fields : List Field) (rows : List Row) (after : After) (number : ℕ) (bytes before : List ℕ) → IsLater after → are_plain rows ≡ true → bytes ≡ before ++ joined (map piece_of fields) → IsReadFrom table revision bytes after rows number before fields
read_back table revision [] [] after number bytes before l p e h = at_end table revision number bytes before after h e
read_back table revision [] (row ∷ rows) after number bytes before l p e h = absurd cc
read_back table revision (field ∷ fields) (row ∷ rows) after number bytes before l p e h =
    at_row table revision number bytes before after row rows field fields p e h
    (λ e' h'. read_back table revision fields rows after number bytes (before ++ field_bytes row field.value) l (plain_first row rows p).1 e' h')
read_back table revision (field ∷ fields) [] a.Fixed number bytes before l p e h = absurd l
read_back table revision (field ∷ fields) [] a.Nothing number bytes before l p e h = let f : ◌≡◌ {A = Result Opened ℕ} (Err 6092) (Ok (field.row, h.0)) = h.1 in absurd cc
read_back table revision (field ∷ fields) [] a.Entries number bytes before l p e h =
    at_entry table revision number bytes before field fields e h (λ rows before' p' e' h'. read_back table revision fields rows a.Entries (number + 1) bytes before' tt p' e' h')
read_back table revision (field ∷ fields) [] a.Structures number bytes before l p e h =
    at_structure table revision number bytes before field fields e h (λ rows before' p' e' h'. read_back table revision fields rows a.Structures (number + 1) bytes before' tt p' e' h')
read_back table revision (field ∷ fields) [] (a.Matrix count place) number bytes before l p e h =
    let ih = λ (before' : List ℕ) (e' : bytes ≡ before' ++ joined (map piece_of fields)) (h' : FieldsOf (part table revision [] (a.Matrix count (place + 1))) fields). read_back table revision fields [] (a.Matrix count (place + 1)) (number + 1) bytes before' tt refl e' h' in
    elim (nat_lt place count) as (λ b. nat_lt place count ≡ b → Reads table bytes [] (Localities count place) number (length before) (entries_from number (field ∷ fields))) [
      | true ↦ λ more. at_locality table revision number count place bytes before field fields e more h ih
      | false ↦ λ more.
          let next : ◌≡◌ {A = Result Opened ℕ} (cond {A = Result Opened ℕ} (nat_lt place count) (Ok (locality_row count place, part table revision [] (a.Matrix count (place + 1)))) (Err 6097)) (Ok (field.row, h.0)) = h.1 in
          let f : ◌≡◌ {A = Result Opened ℕ} (Err 6097) (Ok (field.row, h.0)) = rw more at next in absurd cc
    ] refl
