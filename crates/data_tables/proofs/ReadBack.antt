-- The fields behind the header are read back.
use Rattle.std.proofs.Common.{◌≡◌, ◌≤◌, ◌<◌, ◌+◌, ◌*◌, ◌^◌, ℕ, Bool, true, false, cond, nat_lt, List, [], ◌∷◌, ◌++◌, length, take, drop, map, Option, Some, None, Result, Ok, refl, sym, ap, subst, ◌∙◌, arith, append_assoc, append-nil, length-append}
use Rattle.std.proofs.lemmas.List.{take_at}
use Rattle.std.proofs.Math.Seq.{drop-append_seam}
use Rattle.std.proofs.Math.Nat.{one-le-pow}
use Rattle.data_layout.specs.declared.row.Row.{Row}
use Rattle.data_layout.specs.declared.row.Kind.{Kind}
use Rattle.data_layout.specs.declared.row.Kind.TheVariants as k
use Rattle.data_layout.specs.declared.row.FlagSet.{FlagSet}
use Rattle.data_layout.specs.declared.table.Table.{Table}
use Rattle.data_layout.specs.Layout.{structure_rows, locality_row}
use Rattle.data_text.specs.Values.{number_in, text_in, bytes_in}
use Rattle.data_tables.specs.declared.part.After.{After}
use Rattle.data_tables.specs.declared.part.After.TheVariants as a
use Rattle.byteorder.specs.Endian.{little_bytes}
use Rattle.data_tables.specs.Entry.{Value, Number, Entry}
use Rattle.data_tables.specs.Fields.{guid_in, value_of, field_bytes, number_of_value}
use Rattle.data_tables.specs.Parts.{Part, next_field, begins, behind, missing_after}
use Rattle.data_tables.specs.Walk.{Field}
use Rattle.data_tables.specs.Compiling.{piece_of, joined}
use Rattle.data_tables.specs.Entries.{entry_of, entries_from, number_at}
use Rattle.data_tables.specs.Reading.{bytes_at, number_of, said, field_said, entry_said, rows_read, size_of, Stands, Stand, Tail, Nothing, Entries, Structures, Localities, IsEnough, IsRest, ended}
use Rattle.data_tables.proofs.Numbers.{little_length, little_back}
use Rattle.data_tables.proofs.Spelled.{IsSpelled, told_of, entry_same, room_bound, width_bound, reserved_zero, type_known, given_number, given_text, given_bytes}
use Rattle.data_tables.proofs.Steps.{FieldsOf}
use Rattle.data_tables.proofs.Plain.{is_plain, are_plain, plain_first}

abbrev pub part : Table → ℕ → List Row → After → Part
part table revision rows after = record { table = table; revision = revision; rows = rows; after = after }

-- ---- a value that was given, and its bytes

positive : (w : ℕ) → 0 < 2 ^ (8 * w)
positive w = one-le-pow (8 * w) 2 (omega arith)

pub numbered : (all : List ℕ) (row : Row) (n : ℕ) → said row.kind (little_bytes row.width n) ≡ told_of row.kind (Number (number_of (little_bytes row.width n))) → n < 2 ^ (8 * row.width) → Stands all row.kind (little_bytes row.width n) → IsSpelled all row (Number n) (little_bytes row.width n)
numbered all row n f h s = record {
  width = little_length row.width n;
  reads = f ∙ ap (λ (m : ℕ). told_of row.kind (Number m)) (little_back row.width n h);
  stands = s;
}

abbrev pub row_of : Kind → ℕ → List ℕ → FlagSet → Row
row_of kind width label flags = record { label = label; width = width; kind = kind; flags = flags }

pub given_spelled : (all : List ℕ) (row : Row) (value value' : Value) → value ≡ value' → IsSpelled all row value' (field_bytes row value') → IsSpelled all row value (field_bytes row value)
given_spelled all row value value' e h = subst (λ (v : Value). IsSpelled all row v (field_bytes row v)) (sym e) h

spelled_of : (all : List ℕ) (table : Table) (kind : Kind) (w : ℕ) (l : List ℕ) (f : FlagSet) (text : List ℕ) (value : Value) → is_plain kind w ≡ true → value_of table (row_of kind w l f) text ≡ Ok value → IsSpelled all (row_of kind w l f) value (field_bytes (row_of kind w l f) value)
spelled_of all table k.Number w l f text value p g =
    let n = given_number table (row_of k.Number w l f) (number_in text) value g in
    given_spelled all (row_of k.Number w l f) value (Number n.0) n.1 (numbered all (row_of k.Number w l f) n.0 refl (width_bound w n.0 n.2) tt)
spelled_of all table k.Text w l f text value p g =
    let t = given_text (row_of k.Text w l f) (text_in text) value g in
    given_spelled all (row_of k.Text w l f) value _ t.2 (record { width = t.3; reads = refl; stands = tt })
spelled_of all table k.Bytes w l f text value p g =
    let b = given_bytes (row_of k.Bytes w l f) (bytes_in text) value g in
    given_spelled all (row_of k.Bytes w l f) value _ b.1 (record { width = b.2; reads = refl; stands = tt })
spelled_of all table k.Guid w l f text value p g =
    let b = given_bytes (row_of k.Guid w l f) (guid_in text) value g in
    given_spelled all (row_of k.Guid w l f) value _ b.1 (record { width = b.2; reads = refl; stands = tt })
spelled_of all table k.Reserved w l f text value p g =
    let n = given_number table (row_of k.Reserved w l f) (number_in text) value g in
    let z = reserved_zero n.0 n.2 in
    let q = positive w in
    let h : n.0 < 2 ^ (8 * w) = omega (arith, z, q) in
    given_spelled all (row_of k.Reserved w l f) value (Number n.0) n.1 (numbered all (row_of k.Reserved w l f) n.0 refl h (little_back w n.0 h ∙ z))
spelled_of all table k.TableLength w l f text value p g = absurd cc
spelled_of all table k.Checksum w l f text value p g = absurd cc
spelled_of all table k.CompilerId w l f text value p g = absurd cc
spelled_of all table k.CompilerRevision w l f text value p g = absurd cc
spelled_of all table (k.Length size) w l f text value p g = record {
  width = little_length w size;
  reads = refl;
  stands = little_back w size (room_bound w size p);
}
spelled_of all table k.Revision w l f text value p g = absurd cc
spelled_of all table k.StructureType w l f text value p g = absurd cc
spelled_of all table k.Localities w l f text value p g = absurd cc
spelled_of all table (k.Locality n) w l f text value p g = absurd cc

pub plain_spelled : (all : List ℕ) (table : Table) (row : Row) (text : List ℕ) (value : Value) → is_plain row.kind row.width ≡ true → value_of table row text ≡ Ok value → IsSpelled all row value (field_bytes row value)
plain_spelled all table row text value p g = spelled_of all table row.kind row.width row.label row.flags text value p g

-- a type, with the fields of its structure
pub record IsTyped (all : List ℕ) (table : Table) (row : Row) (value : Value) : Type 0 where
  pub rows : List Row
  pub known : structure_rows table (number_of_value value) ≡ Some rows
  pub spelled : IsSpelled all row value (field_bytes row value)
  pub number : number_of (field_bytes row value) ≡ number_of_value value

typed_of : (all : List ℕ) (table : Table) (w : ℕ) (l : List ℕ) (f : FlagSet) (text : List ℕ) (value : Value) → value_of table (row_of k.StructureType w l f) text ≡ Ok value → IsTyped all table (row_of k.StructureType w l f) value
typed_of all table w l f text value g =
    let r = row_of k.StructureType w l f in
    let n = given_number table r (number_in text) value g in
    let t = type_known table w n.0 n.2 in
    subst (λ (v : Value). IsTyped all table r v) (sym n.1) (record {
      rows = t.1;
      known = t.2;
      spelled = numbered all r n.0 refl t.0 tt;
      number = little_back w n.0 t.0;
    })

pub type_spelled : (all : List ℕ) (table : Table) (row : Row) (text : List ℕ) (value : Value) → row.kind ≡ k.StructureType → value_of table row text ≡ Ok value → IsTyped all table row value
type_spelled all table row text value e g =
    let same : row ≡ row_of k.StructureType row.width row.label row.flags = ap (λ (q : Kind). row_of q row.width row.label row.flags) e in
    let g' : value_of table (row_of k.StructureType row.width row.label row.flags) text ≡ Ok value = subst (λ (r : Row). value_of table r text ≡ Ok value) same g in
    subst (λ (r : Row). IsTyped all table r value) (sym same) (typed_of all table row.width row.label row.flags text value g')

pub locality_spelled : (all : List ℕ) (table : Table) (count place : ℕ) (text : List ℕ) (value : Value) → value_of table (locality_row count place) text ≡ Ok value → IsSpelled all (locality_row count place) value (field_bytes (locality_row count place) value)
locality_spelled all table count place text value g =
    let b = given_bytes (locality_row count place) (bytes_in text) value g in
    given_spelled all (locality_row count place) value _ b.1 (record { width = b.2; reads = refl; stands = tt })

-- ---- reading, field by field

-- fields from an offset on and what follows them are read as these values
pub record Reads (table : Table) (bytes : List ℕ) (rows : List Row) (tail : Tail) (number offset : ℕ) (entries : List Entry) : Type 0 where
  pub more : List Entry
  pub values : entries ≡ rows_read number bytes offset rows ++ more
  pub stand : Stand bytes offset rows
  pub rest : IsRest table bytes tail number (offset + size_of rows) more

pub bytes_here : (bytes before here tail : List ℕ) (w : ℕ) → bytes ≡ before ++ (here ++ tail) → length here ≡ w → bytes_at bytes (length before) w ≡ here
bytes_here bytes before here tail w e h =
    ap (λ (bs : List ℕ). take w (drop (length before) bs)) e ∙ ap (λ (bs : List ℕ). take w bs) (drop-append_seam before (here ++ tail)) ∙ take_at here tail w h

-- one more field before those that are read
pub rows_step : (table : Table) (bytes before here left : List ℕ) (row : Row) (rows : List Row) (tail : Tail) (number : ℕ) (value : Value) (entries : List Entry) → IsSpelled bytes row value here → bytes ≡ before ++ (here ++ left) → Reads table bytes rows tail number (length (before ++ here)) entries → Reads table bytes (row ∷ rows) tail number (length before) (entry_of number row value ++ entries)
rows_step table bytes before here left row rows tail number value entries s e r =
    let at : bytes_at bytes (length before) row.width ≡ here = bytes_here bytes before here left row.width e s.width in
    let next : length (before ++ here) ≡ length before + row.width = length-append before here ∙ ap (λ (m : ℕ). length before + m) s.width in
    let r' : Reads table bytes rows tail number (length before + row.width) entries = subst (λ (o : ℕ). Reads table bytes rows tail number o entries) next r in
    let read : Option Value = field_said bytes (length before) row in
    let first : entry_of number row value ≡ entry_said number row read = entry_same number row read value (ap (said row.kind) at ∙ s.reads) in
    let end : (length before + row.width) + size_of rows ≡ length before + (row.width + size_of rows) = omega arith in
    record {
      more = r'.more;
      values =
          ap (λ (es : List Entry). entry_of number row value ++ es) r'.values
          ∙ ap (λ (es : List Entry). es ++ (rows_read number bytes (length before + row.width) rows ++ r'.more)) first
          ∙ sym (append_assoc (entry_said number row read) (rows_read number bytes (length before + row.width) rows) r'.more);
      stand = (subst (Stands bytes row.kind) (sym at) s.stands, r'.stand);
      rest = subst (λ (o : ℕ). IsRest table bytes tail number o r'.more) end r'.rest;
    }

-- where the bytes of what is left begin, one field on
pub shifted : (bytes before here tail : List ℕ) → bytes ≡ before ++ (here ++ tail) → bytes ≡ (before ++ here) ++ tail
shifted bytes before here tail e = e ∙ sym (append_assoc before here tail)

pub behind_plain : (p : Part) (kind : Kind) (w n : ℕ) → is_plain kind w ≡ true → behind p kind n ≡ p
behind_plain p k.Number w n e = refl
behind_plain p k.Text w n e = refl
behind_plain p k.Bytes w n e = refl
behind_plain p k.Guid w n e = refl
behind_plain p k.Reserved w n e = refl
behind_plain p k.TableLength w n e = absurd cc
behind_plain p k.Checksum w n e = absurd cc
behind_plain p k.CompilerId w n e = absurd cc
behind_plain p k.CompilerRevision w n e = absurd cc
behind_plain p (k.Length size) w n e = refl
behind_plain p k.Revision w n e = absurd cc
behind_plain p k.StructureType w n e = absurd cc
behind_plain p k.Localities w n e = absurd cc
behind_plain p (k.Locality m) w n e = absurd cc

-- ---- the fields of a part, with the first of them apart

-- the first field is this row's, and what comes after it
pub record IsFirst (table : Table) (row : Row) (rest : Part) (begins : Bool) (field : Field) (fields : List Field) : Type 0 where
  pub row_is : field.row ≡ row
  pub begins_is : field.begins ≡ begins
  pub given : value_of table row field.line.value ≡ Ok field.value
  pub tail : FieldsOf (behind rest row.kind (number_of_value field.value)) fields

pub first_is : (p rest : Part) (row : Row) (field : Field) (fields : List Field) → next_field p ≡ Ok (row, rest) → FieldsOf p (field ∷ fields) → IsFirst rest.table row rest (begins p) field fields
first_is p rest row field fields e h =
    let pairs : ◌≡◌ {A = Result (Row × Part) ℕ} (Ok (field.row, h.0)) (Ok (row, rest)) = sym h.1 ∙ e in
    let pair : ◌≡◌ {A = Row × Part} (field.row, h.0) (row, rest) = cc in
    let row_is : field.row ≡ row = ap (λ (q : Row × Part). q.0) pair in
    let rest_is : h.0 ≡ rest = ap (λ (q : Row × Part). q.1) pair in
    record {
      row_is = row_is;
      begins_is = h.2;
      given = subst (λ (q : Part). value_of q.table row field.line.value ≡ Ok field.value) rest_is (subst (λ (r : Row). value_of h.0.table r field.line.value ≡ Ok field.value) row_is h.3);
      tail = subst (λ (q : Part). FieldsOf (behind q row.kind (number_of_value field.value)) fields) rest_is (subst (λ (r : Row). FieldsOf (behind h.0 r.kind (number_of_value field.value)) fields) row_is h.4);
    }

pub entries_first : (number : ℕ) (row : Row) (field : Field) (fields : List Field) (begins : Bool) → field.row ≡ row → field.begins ≡ begins → entries_from number (field ∷ fields) ≡ entry_of (number_at begins number) row field.value ++ entries_from (number_at begins number) fields
entries_first number row field fields begins e f =
    ap (λ (b : Bool). entry_of (number_at b number) field.row field.value ++ entries_from (number_at b number) fields) f
    ∙ ap (λ (r : Row). entry_of (number_at begins number) r field.value ++ entries_from (number_at begins number) fields) e

pub bytes_first : (row : Row) (field : Field) (fields : List Field) → field.row ≡ row → joined (map piece_of (field ∷ fields)) ≡ field_bytes row field.value ++ joined (map piece_of fields)
bytes_first row field fields e = ap (λ (r : Row). field_bytes r field.value ++ joined (map piece_of fields)) e

-- ---- the fields behind the header, by what comes after a part

-- what stands behind the fixed part, where this comes after a part; the header's comes before all of it
abbrev pub tail_of : After → Tail
tail_of a.Fixed = Nothing
tail_of a.Nothing = Nothing
tail_of a.Entries = Entries
tail_of a.Structures = Structures
tail_of (a.Matrix count place) = Localities count place

-- a part with these rows is read back from a number and some bytes on
abbrev pub IsReadFrom : Table → ℕ → List ℕ → After → List Row → ℕ → List ℕ → List Field → Type 0
IsReadFrom table revision bytes after rows number before fields =
    FieldsOf (part table revision rows after) fields → Reads table bytes rows (tail_of after) number (length before) (entries_from number fields)

pub within : (bytes before tail : List ℕ) → bytes ≡ before ++ tail → length before ≤ length bytes
within bytes before tail e = let f : length bytes ≡ length before + length tail = ap length e ∙ length-append before tail in omega arith

enough : (after : After) → missing_after after ≡ None → IsEnough (tail_of after)
enough a.Fixed e = tt
enough a.Nothing e = tt
enough a.Entries e = tt
enough a.Structures e = tt
enough (a.Matrix count number) e =
    elim (nat_lt number count) as (λ b. nat_lt number count ≡ b → cond {A = Option ℕ} b (Some 6097) None ≡ None → count ≤ number) [
      | true ↦ λ f g. absurd cc
      | false ↦ λ f g. grind arith
    ] refl e

-- nothing is left
pub at_end : (table : Table) (revision number : ℕ) (bytes before : List ℕ) (after : After) → missing_after after ≡ None → bytes ≡ before ++ [] → Reads table bytes [] (tail_of after) number (length before) []
at_end table revision number bytes before after m e =
    let same : bytes ≡ before = e ∙ append-nil before in
    let size : length before ≡ length bytes = ap length (sym same) in
    record {
      more = [];
      values = refl;
      stand = omega arith;
      rest = ended (tail_of after) number (length before + 0) (enough after m) (omega arith);
    }

-- the next row of a part
pub at_row : (table : Table) (revision number : ℕ) (bytes before : List ℕ) (after : After) (row : Row) (rows : List Row) (field : Field) (fields : List Field) → are_plain (row ∷ rows) ≡ true → bytes ≡ before ++ joined (map piece_of (field ∷ fields)) → FieldsOf (part table revision (row ∷ rows) after) (field ∷ fields)
    → ((bytes ≡ (before ++ field_bytes row field.value) ++ joined (map piece_of fields)) → IsReadFrom table revision bytes after rows number (before ++ field_bytes row field.value) fields) → Reads table bytes (row ∷ rows) (tail_of after) number (length before) (entries_from number (field ∷ fields))
at_row table revision number bytes before after row rows field fields p e h ih =
    let plain = plain_first row rows p in
    let f = first_is (part table revision (row ∷ rows) after) (part table revision rows after) row field fields refl h in
    let s = plain_spelled bytes table row field.line.value field.value plain.0 f.given in
    let whole : bytes ≡ before ++ (field_bytes row field.value ++ joined (map piece_of fields)) = e ∙ ap (λ (bs : List ℕ). before ++ bs) (bytes_first row field fields f.row_is) in
    let tail : FieldsOf (part table revision rows after) fields = subst (λ (q : Part). FieldsOf q fields) (behind_plain (part table revision rows after) row.kind row.width (number_of_value field.value) plain.0) f.tail in
    let r = ih (shifted bytes before (field_bytes row field.value) (joined (map piece_of fields)) whole) tail in
    subst (λ (es : List Entry). Reads table bytes (row ∷ rows) (tail_of after) number (length before) es) (sym (entries_first number row field fields false f.row_is f.begins_is))
    (rows_step table bytes before (field_bytes row field.value) (joined (map piece_of fields)) row rows (tail_of after) number field.value (entries_from number fields) s whole r)
