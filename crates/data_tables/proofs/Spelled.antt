-- The bytes of a value read as it.
use Rattle.std.proofs.Common.{◌≡◌, ◌≤◌, ◌<◌, ℕ, ◌+◌, ◌*◌, ◌-◌, ◌^◌, ◌==◌, ◌&&◌, nat_lt, nat_le, Bool, true, false, cond, List, [], ◌∷◌, ◌++◌, length, replicate, Option, Some, None, Result, Ok, Err, refl, sym, ap, ◌∙◌, arith, length-append}
use Rattle.std.proofs.lemmas.Grind.{common_steps}
use Rattle.std.proofs.lemmas.List.{length-replicate, take_all}
use Rattle.std.specs.Option.{is_some}
use Rattle.data_layout.specs.declared.row.Row.{Row}
use Rattle.data_layout.specs.declared.row.Kind.{Kind}
use Rattle.data_layout.specs.declared.table.Table.{Table}
use Rattle.data_layout.specs.Layout.{structure_rows}
use Rattle.aml_code.specs.Header.{filled}
use Rattle.data_tables.specs.Entry.{Value, Number, Bytes, Entry}
use Rattle.data_tables.specs.Fields.{has_room, width_fault, reserved_fault, type_fault, count_fault, has_structure, number_fault, judged, bytes_fault, value_of_number, value_of_text, value_of_bytes}
use Rattle.data_tables.specs.Entries.{is_computed, entry_of}
use Rattle.data_tables.specs.Reading.{said, entry_said, Stands}

-- what a field that was given a value says: the value, or nothing where it is computed
abbrev pub told_of : Kind → Value → Option Value
told_of kind value = cond (is_computed kind) None (Some value)

-- what a field's value and its bytes have to do with each other, among all bytes of the table
pub record IsSpelled (all : List ℕ) (row : Row) (value : Value) (here : List ℕ) : Type 0 where
  pub width : length here ≡ row.width
  pub reads : said row.kind here ≡ told_of row.kind value
  pub stands : Stands all row.kind here

-- the entries of both definitions are the same
pub entry_same : (n : ℕ) (row : Row) (found : Option Value) (value : Value) → found ≡ told_of row.kind value → entry_of n row value ≡ entry_said n row found
entry_same n row found value h =
    elim (is_computed row.kind) as (λ b. found ≡ cond b None (Some value) → cond {A = List Entry} b [] (record { structure = n; row = row; value = value } ∷ []) ≡ entry_said n row found) [
      | true ↦ λ f. sym (ap (entry_said n row) f)
      | false ↦ λ f. sym (ap (entry_said n row) f)
    ] h

and_second : (a b : Bool) → (a && b) ≡ true → b ≡ true
and_second true b e = e
and_second false b e = absurd cc

pub room_bound : (w n : ℕ) → has_room w n ≡ true → n < 2 ^ (8 * w)
room_bound w n e = let b = and_second (nat_lt n (2 ^ 64)) (nat_lt n (2 ^ (8 * w))) e in grind arith

pub width_bound : (w n : ℕ) → width_fault w n ≡ None → n < 2 ^ (8 * w)
width_bound w n e =
    elim (has_room w n) as (λ b. has_room w n ≡ b → cond {A = Option ℕ} b None (Some 6094) ≡ None → n < 2 ^ (8 * w)) [
      | true ↦ λ f g. room_bound w n f
      | false ↦ λ f g. absurd cc
    ] refl e

pub reserved_zero : (n : ℕ) → reserved_fault n ≡ None → n ≡ 0
reserved_zero n e =
    elim (n == 0) as (λ b. (n == 0) ≡ b → cond {A = Option ℕ} b None (Some 6093) ≡ None → n ≡ 0) [
      | true ↦ λ f g. grind (arith, common_steps)
      | false ↦ λ f g. absurd cc
    ] refl e

pub type_known : (table : Table) (w n : ℕ) → type_fault table w n ≡ None → (n < 2 ^ (8 * w)) × (rows : List Row) × (structure_rows table n ≡ Some rows)
type_known table w n e =
    elim (has_room w n) as (λ b. has_room w n ≡ b → cond {A = Option ℕ} b (cond {A = Option ℕ} (has_structure table n) None (Some 6095)) (Some 6094) ≡ None → (n < 2 ^ (8 * w)) × (rows : List Row) × (structure_rows table n ≡ Some rows)) [
      | true ↦ λ f g.
          elim (structure_rows table n) as (λ o. structure_rows table n ≡ o → cond {A = Option ℕ} (is_some o) None (Some 6095) ≡ None → (n < 2 ^ (8 * w)) × (rows : List Row) × (structure_rows table n ≡ Some rows)) [
            | None ↦ λ i j. absurd cc
            | Some rows ↦ λ i j. (room_bound w n f, rows, i)
          ] refl g
      | false ↦ λ f g. absurd cc
    ] refl e

pub count_bound : (w n : ℕ) → count_fault w n ≡ None → n < 2 ^ (8 * w)
count_bound w n e =
    elim (has_room w n) as (λ b. has_room w n ≡ b → cond {A = Option ℕ} b (cond {A = Option ℕ} (nat_le n 4000) None (Some 6097)) (Some 6094) ≡ None → n < 2 ^ (8 * w)) [
      | true ↦ λ f g. room_bound w n f
      | false ↦ λ f g. absurd cc
    ] refl e

-- what a value that a field is given is
pub given_number : (table : Table) (row : Row) (found : Option ℕ) (value : Value) → value_of_number table row found ≡ Ok value → (n : ℕ) × (value ≡ Number n) × (number_fault table row.kind row.width n ≡ None)
given_number table row None value e = absurd cc
given_number table row (Some n) value e =
    elim (number_fault table row.kind row.width n) as (λ o. number_fault table row.kind row.width n ≡ o → judged n o ≡ Ok value → (m : ℕ) × (value ≡ Number m) × (number_fault table row.kind row.width m ≡ None)) [
      | None ↦ λ f g. let same : Number n ≡ value = cc in (n, sym same, f)
      | Some fault ↦ λ f g. absurd cc
    ] refl e

pub given_text : (row : Row) (found : Option (List ℕ)) (value : Value) → value_of_text row found ≡ Ok value → (text : List ℕ) × (found ≡ Some text) × (value ≡ Bytes (filled row.width text)) × (length (filled row.width text) ≡ row.width)
given_text row None value e = absurd cc
given_text row (Some text) value e =
    elim (nat_le (length text) row.width) as (λ b. nat_le (length text) row.width ≡ b → ◌≡◌ {A = Result Value ℕ} (cond b (Ok (Bytes (filled row.width text))) (Err 6094)) (Ok value) → (t : List ℕ) × (Some text ≡ Some t) × (value ≡ Bytes (filled row.width t)) × (length (filled row.width t) ≡ row.width)) [
      | true ↦ λ f g.
          let h : ◌≡◌ {A = Result Value ℕ} (Ok (Bytes (filled row.width text))) (Ok value) = g in
          let same : Bytes (filled row.width text) ≡ value = cc in
          let within : length text ≤ row.width = grind arith in
          (text, refl, sym same, ap (λ (bs : List ℕ). length (bs ++ replicate (row.width - length text) 0)) (take_all row.width text within) ∙ length-append text (replicate (row.width - length text) 0) ∙ ap (λ (m : ℕ). length text + m) (length-replicate (row.width - length text) 0) ∙ omega arith)
      | false ↦ λ f g. let h : ◌≡◌ {A = Result Value ℕ} (Err 6094) (Ok value) = g in absurd cc
    ] refl e

pub given_bytes : (row : Row) (found : Option (List ℕ)) (value : Value) → value_of_bytes row found ≡ Ok value → (bytes : List ℕ) × (value ≡ Bytes bytes) × (length bytes ≡ row.width)
given_bytes row None value e = absurd cc
given_bytes row (Some bytes) value e =
    elim (length bytes == row.width) as (λ b. (length bytes == row.width) ≡ b → ◌≡◌ {A = Result Value ℕ} (cond b (Ok (Bytes bytes)) (Err (bytes_fault row.kind))) (Ok value) → (bs : List ℕ) × (value ≡ Bytes bs) × (length bs ≡ row.width)) [
      | true ↦ λ f g.
          let h : ◌≡◌ {A = Result Value ℕ} (Ok (Bytes bytes)) (Ok value) = g in
          let same : Bytes bytes ≡ value = cc in
          let within : length bytes ≡ row.width = grind (arith, common_steps) in
          (bytes, sym same, within)
      | false ↦ λ f g. absurd cc
    ] refl e
