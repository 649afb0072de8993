-- The fields of a text without faults, one behind the other.
use Rattle.std.proofs.Common.{◌≡◌, ℕ, true, false, cond, List, [], ◌∷◌, Option, Some, None, Result, Ok, Err, refl, sym, ap, subst, ◌∙◌}
use Rattle.iasl_messages.specs.declared.place.Place.{Place}
use Rattle.data_layout.specs.declared.row.Row.{Row}
use Rattle.data_text.specs.declared.field_line.FieldLine.{FieldLine}
use Rattle.data_tables.specs.declared.decoding.Decoded.{Decoded}
use Rattle.data_tables.specs.declared.decoding.Told.{Told}
use Rattle.data_tables.specs.declared.decoding.Told.TheVariants as told
use Rattle.data_tables.specs.Entry.{Value}
use Rattle.data_tables.specs.Fields.{value_of, number_of_value}
use Rattle.data_tables.specs.Parts.{Part, Opened, next_field, begins, behind, missing}
use Rattle.data_tables.specs.Decoding.{is_decoded, told_by}
use Rattle.data_tables.specs.Walk.{Field, Walked, with_front, Step, Passed, Took, Halted, step_with, step_due, step_at, step_of, told_at, fault_if, after_step, walk}

-- these are the fields from a part on, up to the end
abbrev pub FieldsOf : Part → List Field → Type 0
FieldsOf part [] = missing part ≡ None
FieldsOf part (field ∷ fields) =
    (rest : Part) × (next_field part ≡ Ok (field.row, rest)) × (field.begins ≡ begins part) × (value_of rest.table field.row field.line.value ≡ Ok field.value) × FieldsOf (behind rest field.row.kind (number_of_value field.value)) fields

-- what a step to a field says
pub record IsField (part : Part) (line : FieldLine) (row : Row) (value : Value) (part' : Part) : Type 0 where
  pub rest : Part
  pub next : next_field part ≡ Ok (row, rest)
  pub given : value_of rest.table row line.value ≡ Ok value
  pub behind_it : part' ≡ behind rest row.kind (number_of_value value)

at_value : (part rest part' : Part) (line : FieldLine) (row row' : Row) (value' : Value) (d : Option Decoded) (given : Result Value ℕ) → next_field part ≡ Ok (row, rest) → value_of rest.table row line.value ≡ given → step_with row rest line given ≡ Took row' value' part' d → IsField part line row' value' part'
at_value part rest part' line row row' value' d (Err fault) next e h = absurd cc
at_value part rest part' line row row' value' d (Ok value) next e h =
    let same_row : row ≡ row' = cc in
    let same_value : value ≡ value' = cc in
    let same_part : behind rest row.kind (number_of_value value) ≡ part' = cc in
    record {
      rest = rest;
      next = next ∙ ap (λ (r : Row). Ok (r, rest)) same_row;
      given = sym (ap (λ (r : Row). value_of rest.table r line.value) same_row) ∙ e ∙ ap (λ (v : Value). Ok v) same_value;
      behind_it = sym same_part ∙ ap (λ (r : Row). behind rest r.kind (number_of_value value)) same_row ∙ ap (λ (v : Value). behind rest row'.kind (number_of_value v)) same_value;
    }

at_due : (part part' : Part) (line : FieldLine) (row' : Row) (value' : Value) (d : Option Decoded) (opened : Result Opened ℕ) → next_field part ≡ opened → step_due line opened ≡ Took row' value' part' d → IsField part line row' value' part'
at_due part part' line row' value' d (Err fault) e h = absurd cc
at_due part part' line row' value' d (Ok field) e h = at_value part field.1 part' line field.0 row' value' d (value_of field.1.table field.0 line.value) e refl h

at_next : (part part' : Part) (line : FieldLine) (row' : Row) (value' : Value) (d : Option Decoded) (opened : Result Opened ℕ) → next_field part ≡ opened → step_at line opened ≡ Took row' value' part' d → IsField part line row' value' part'
at_next part part' line row' value' d opened e h =
    elim line.colon as (λ b. cond b (step_due line opened) (Halted 6093) ≡ Took row' value' part' d → IsField part line row' value' part') [
      | true ↦ λ g. at_due part part' line row' value' d opened e g
      | false ↦ λ g. absurd cc
    ] h

took_field : (part part' : Part) (decoded d : Option Decoded) (line : FieldLine) (row : Row) (value : Value) → step_of part decoded line ≡ Took row value part' d → IsField part line row value part'
took_field part part' decoded d line row value h =
    elim (is_decoded decoded line) as (λ b. cond b (Passed (told_by decoded line)) (step_at line (next_field part)) ≡ Took row value part' d → IsField part line row value part') [
      | true ↦ λ g. absurd cc
      | false ↦ λ g. at_next part part' line row value d (next_field part) refl g
    ] h

after_told : (place : Place) (t : Told) (more : Walked) (part : Part) → (with_front (told_at place t) more).faults ≡ [] → (more.faults ≡ [] → FieldsOf part more.fields) → FieldsOf part (with_front (told_at place t) more).fields
after_told place told.Nothing more part e h = h e
after_told place told.Unknown more part e h = h e
after_told place told.Disagrees more part e h = absurd cc

by_step : (part : Part) (decoded : Option Decoded) (line : FieldLine) (step : Step) (rest : Part → Option Decoded → Walked) → step_of part decoded line ≡ step → ((p : Part) (d : Option Decoded) → (rest p d).faults ≡ [] → FieldsOf p (rest p d).fields) → (after_step part decoded line step rest).faults ≡ [] → FieldsOf part (after_step part decoded line step rest).fields
by_step part decoded line (Passed t) rest e h f = after_told line.place t (rest part decoded) part f (h part decoded)
by_step part decoded line (Took row value part' d) rest e h f =
    let is = took_field part part' decoded d line row value e in
    (is.rest, is.next, refl, is.given, subst (λ p. FieldsOf p (rest part' d).fields) is.behind_it (h part' d f))
by_step part decoded line (Halted fault) rest e h f = absurd cc

at_end : (end : Place) (part : Part) (m : Option ℕ) → missing part ≡ m → (fault_if end m).faults ≡ [] → FieldsOf part (fault_if end m).fields
at_end end part None e f = e
at_end end part (Some fault) e f = absurd cc

-- a text without faults has the fields of its parts
pub walk_fields : (end : Place) (part : Part) (decoded : Option Decoded) (lines : List FieldLine) → (walk end part decoded lines).faults ≡ [] → FieldsOf part (walk end part decoded lines).fields
walk_fields end part decoded [] f = at_end end part (missing part) refl f
walk_fields end part decoded (line ∷ lines) f =
    by_step part decoded line (step_of part decoded line) (λ p d. walk end p d lines) refl (λ p d g. walk_fields end p d lines g) f

-- the first field is on the first line
none_passed : (line : FieldLine) (opened : Result Opened ℕ) (t : Told) → step_due line opened ≡ Passed t → ⊥
none_passed line (Err fault) t h = cc
none_passed line (Ok field) t h =
    elim (value_of field.1.table field.0 line.value) as (λ v. step_with field.0 field.1 line v ≡ Passed t → ⊥) [
      | Ok value ↦ λ i. cc
      | Err fault ↦ λ i. cc
    ] h

not_passed : (line : FieldLine) (opened : Result Opened ℕ) (t : Told) → step_at line opened ≡ Passed t → ⊥
not_passed line opened t h =
    elim line.colon as (λ b. cond b (step_due line opened) (Halted 6093) ≡ Passed t → ⊥) [
      | true ↦ λ g. none_passed line opened t g
      | false ↦ λ g. cc
    ] h

first_by : (part : Part) (line : FieldLine) (step : Step) (rest : Part → Option Decoded → Walked) → step_of part None line ≡ step → (after_step part None line step rest).faults ≡ [] → (field : Field) × (fields : List Field) × ((after_step part None line step rest).fields ≡ field ∷ fields) × (field.line ≡ line)
first_by part line (Passed t) rest e f = absurd (not_passed line (next_field part) t e)
first_by part line (Took row value part' d) rest e f = (record { line = line; begins = begins part; row = row; value = value }, (rest part' d).fields, refl, refl)
first_by part line (Halted fault) rest e f = absurd cc

pub first_field : (end : Place) (part : Part) (line : FieldLine) (lines : List FieldLine) → (walk end part None (line ∷ lines)).faults ≡ [] → (field : Field) × (fields : List Field) × ((walk end part None (line ∷ lines)).fields ≡ field ∷ fields) × (field.line ≡ line)
first_field end part line lines f = first_by part line (step_of part None line) (λ p d. walk end p d lines) refl f
