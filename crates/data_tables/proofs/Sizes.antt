-- A text of at most 2^25 bytes comes to fewer than 2^32 bytes: a number or a text has at most 8 bytes, and bytes are no
-- more than their value's characters.
use Rattle.std.proofs.Common.{◌≡◌, ◌≤◌, ◌<◌, ◌+◌, ◌*◌, ◌^◌, ◌==◌, ◌&&◌, nat_le, nat_lt, ℕ, Bool, true, false, cond, List, [], ◌∷◌, ◌++◌, length, take, drop, map, Option, Some, None, Result, Ok, Err, refl, ap, subst, arith, length-append}
use Rattle.std.specs.List.{sum_by}
use Rattle.std.specs.Option.{unwrap_or}
use Rattle.std.proofs.lemmas.Bool.{and_parts, leb-true}
use Rattle.std.proofs.lemmas.List.Sums.{sum_by-cons}
use Rattle.byteorder.specs.Endian.{little_bytes}
use Rattle.aml_code.specs.Header.{filled, compiler_bytes}
use Rattle.resource_macros.specs.Identifiers.{uuid_of, are_in_form, pair, pair_places}
use Rattle.hex_text.specs.Blanks.{has_blanks_alone, drop_blanks}
use Rattle.std.proofs.lemmas.List.{take-append-drop}
use Rattle.std.proofs.lemmas.Grind.{common_steps}
use Rattle.iasl_messages.specs.declared.place.Place.{Place}
use Rattle.iasl_messages.specs.declared.place.Line.{Line}
use Rattle.data_layout.specs.declared.row.Row.{Row}
use Rattle.data_layout.specs.declared.row.Kind.{Kind}
use Rattle.data_layout.specs.declared.row.Kind.TheVariants as k
use Rattle.data_layout.specs.declared.table.Table.{Table}
use Rattle.data_layout.specs.Layouts.{Layout}
use Rattle.data_layout.specs.Layout.{table_of, header_rows, fixed_rows, entry_rows, type_rows, structure_rows, locality_row}
use Rattle.data_layout.proofs.Lookup.{of_each, of_fixed, of_structure}
use Rattle.data_text.specs.declared.field_line.FieldLine.{FieldLine}
use Rattle.data_text.specs.declared.field_line.DataText.{DataText}
use Rattle.data_text.specs.Source.{text_of}
use Rattle.data_text.specs.Values.{number_in, text_in, bytes_in}
use Rattle.data_text.proofs.Sizes.{line_size, value_size, value_sizes, IsUpTo, blanks_length, text_sizes, bytes_length}
use Rattle.data_tables.specs.declared.decoding.Decoded.{Decoded}
use Rattle.data_tables.specs.declared.decoding.Told.{Told}
use Rattle.data_tables.specs.declared.decoding.Told.TheVariants as told
use Rattle.data_tables.specs.declared.field.Form.{Form}
use Rattle.data_tables.specs.declared.field.Form.TheVariants as form
use Rattle.data_tables.specs.declared.part.After.{After}
use Rattle.data_tables.specs.declared.part.After.TheVariants as a
use Rattle.data_tables.specs.Entry.{Value, Number, Bytes}
use Rattle.data_tables.specs.Fields.{number_of_value, form_of, bytes_fault, value_of_bytes, guid_from, guid_in, value_by, value_of, value_bytes, bytes_by, field_bytes}
use Rattle.data_tables.specs.Parts.{Part, Opened, first_part, first_of, after_fixed, open_after, open_rows, next_field, behind, missing}
use Rattle.data_tables.specs.Decoding.{is_decoded, told_by}
use Rattle.data_tables.specs.Walk.{Field, Walked, Step, Passed, Took, Halted, step_with, step_due, step_at, step_of, told_at, with_front, fault_if, after_step, walk}
use Rattle.data_tables.specs.Compiling.{piece_of, joined, signature_in}
use Rattle.data_tables.specs.Entries.{fields_of_table, fields_signed, fields_by, fields_of_text, unsealed_bytes}
use Rattle.data_tables.proofs.Numbers.{little_length}
use Rattle.data_tables.proofs.Spelled.{given_number, given_text}

-- ---- rows

-- a number or a text has at most 8 bytes; bytes are as many as the value writes
abbrev is_narrow : Form → ℕ → Bool
is_narrow form.Number width = nat_le width 8
is_narrow form.Text width = nat_le width 8
is_narrow form.Bytes width = true
is_narrow form.Guid width = true

abbrev are_narrow : List Row → Bool
are_narrow [] = true
are_narrow (row ∷ rows) = is_narrow (form_of row.kind) row.width && are_narrow rows

-- the fields still to come in a part are narrow
abbrev NarrowPart : Part → Type 0
NarrowPart part = are_narrow part.rows ≡ true

-- the next field, where there is one, and those behind it are narrow
abbrev NarrowOpened : Result Opened ℕ → Type 0
NarrowOpened (Err fault) = Unit {0}
NarrowOpened (Ok field) = (is_narrow (form_of field.0.kind) field.0.width ≡ true) × NarrowPart field.1

first_and_others : (row : Row) (rows : List Row) → are_narrow (row ∷ rows) ≡ true → (is_narrow (form_of row.kind) row.width ≡ true) × (are_narrow rows ≡ true)
first_and_others row rows e = and_parts (is_narrow (form_of row.kind) row.width) (are_narrow rows) e

-- the fields of a structure, where there is one, are narrow
abbrev NarrowRows : Option (List Row) → Type 0
NarrowRows None = Unit {0}
NarrowRows (Some rows) = are_narrow rows ≡ true

header_narrow : are_narrow header_rows ≡ true
unfolding header_rows
header_narrow = refl

entries_narrow : (table : Table) → are_narrow (entry_rows table) ≡ true
entries_narrow table = of_each (λ (l : Layout). are_narrow l.entries) refl table

type_narrow : (table : Table) → are_narrow (type_rows table) ≡ true
type_narrow table = of_each (λ (l : Layout). are_narrow l.types) refl table

fixed_narrow : (table : Table) (n : ℕ) → are_narrow (fixed_rows table n) ≡ true
fixed_narrow table n = of_fixed are_narrow refl refl table n

structure_narrow : (table : Table) (n : ℕ) → NarrowRows (structure_rows table n)
structure_narrow table n = by (structure_rows table n) refl
  where
    by : (found : Option (List Row)) → structure_rows table n ≡ found → NarrowRows found
    by None e = tt
    by (Some rows) e = of_structure are_narrow refl table n rows e

-- ---- what comes next

first_narrow : (part : Part) (rows : List Row) → are_narrow rows ≡ true → NarrowOpened (first_of part rows)
first_narrow part [] h = tt
first_narrow part (row ∷ rows) h = first_and_others row rows h

after_narrow : (part : Part) (after : After) → NarrowOpened (open_after part after)
after_narrow part a.Fixed = first_narrow (record part { after = after_fixed part.table }) (fixed_rows part.table part.revision) (fixed_narrow part.table part.revision)
after_narrow part a.Nothing = tt
after_narrow part a.Entries = first_narrow part (entry_rows part.table) (entries_narrow part.table)
after_narrow part a.Structures = first_narrow part (type_rows part.table) (type_narrow part.table)
after_narrow part (a.Matrix count number) = by (nat_lt number count)
  where
    by : (b : Bool) → NarrowOpened (cond b (Ok (locality_row count number, record part { rows = []; after = a.Matrix count (number + 1) })) (Err 6097))
    by true = (refl, refl)
    by false = tt

rows_narrow : (part : Part) (rows : List Row) → are_narrow rows ≡ true → NarrowOpened (open_rows part rows)
rows_narrow part [] h = after_narrow part part.after
rows_narrow part (row ∷ rows) h = first_and_others row rows h

behind_narrow : (part : Part) (kind : Kind) (number : ℕ) → NarrowPart part → NarrowPart (behind part kind number)
behind_narrow part k.StructureType number h = by (structure_rows part.table number) (structure_narrow part.table number)
  where
    by : (found : Option (List Row)) → NarrowRows found → are_narrow (unwrap_or found []) ≡ true
    by None n = refl
    by (Some rows) n = n
behind_narrow part k.Number number h = h
behind_narrow part k.Text number h = h
behind_narrow part k.Bytes number h = h
behind_narrow part k.Guid number h = h
behind_narrow part k.Reserved number h = h
behind_narrow part k.TableLength number h = h
behind_narrow part k.Checksum number h = h
behind_narrow part k.CompilerId number h = h
behind_narrow part k.CompilerRevision number h = h
behind_narrow part (k.Length size) number h = h
behind_narrow part k.Revision number h = h
behind_narrow part k.Localities number h = h
behind_narrow part (k.Locality n) number h = h

-- ---- the bytes of a field

-- what a line's value may come to
abbrev value_room : List ℕ → ℕ
value_room text = 8 * (length text + 1)

narrow_room : (width : ℕ) (text : List ℕ) → nat_le width 8 ≡ true → width ≤ value_room text
narrow_room width text e = let le = leb-true width 8 e in omega (arith, le)

given_up_to : (row : Row) (found : Option (List ℕ)) (value : Value) (most : ℕ) → IsUpTo most found → value_of_bytes row found ≡ Ok value → length (value_bytes row.width value) ≤ most
given_up_to row None value most h e = absurd cc
given_up_to row (Some bytes) value most h e = by (length bytes == row.width) e
  where
    by : (b : Bool) → ◌≡◌ {A = Result Value ℕ} (cond b (Ok (Bytes bytes)) (Err (bytes_fault row.kind))) (Ok value) → length (value_bytes row.width value) ≤ most
    by true g = let same : Bytes bytes ≡ value = cc in subst (λ (v : Value). length (value_bytes row.width v) ≤ most) same h
    by false g = absurd cc

-- a UUID has fewer bytes than characters
uuid_length : (text : List ℕ) → IsUpTo (length text) (uuid_of text)
unfolding uuid_of
uuid_length text = by (length text == 36) (are_in_form 0 text) refl
  where
    by : (b c : Bool) → (length text == 36) ≡ b → IsUpTo (length text) (cond (b && c) (Some (map (pair text) pair_places)) None)
    by true true e = let size : length text ≡ 36 = grind (arith, common_steps) in let bytes : length (map (pair text) pair_places) ≡ 16 = refl in omega (arith, size, bytes)
    by true false e = tt
    by false c e = tt

taken_length : (n : ℕ) (text : List ℕ) → length (take n text) ≤ length text
taken_length n text = let both = length-append (take n text) (drop n text) in let all : length (take n text ++ drop n text) ≡ length text = ap length (take-append-drop n text) in omega (arith, both, all)

guid_from_length : (text : List ℕ) → IsUpTo (length text) (guid_from text)
guid_from_length text = by (has_blanks_alone (drop 36 text)) (uuid_of (take 36 text)) (uuid_length (take 36 text))
  where
    by : (b : Bool) (found : Option (List ℕ)) → IsUpTo (length (take 36 text)) found → IsUpTo (length text) (cond b found None)
    by true None h = tt
    by true (Some bytes) h = let less : length (take 36 text) ≤ length text = taken_length 36 text in omega (arith, h, less)
    by false found h = tt

guid_length : (text : List ℕ) → IsUpTo (length text) (guid_in text)
guid_length text = by (guid_from (drop_blanks text)) (guid_from_length (drop_blanks text))
  where
    by : (found : Option (List ℕ)) → IsUpTo (length (drop_blanks text)) found → IsUpTo (length text) found
    by None h = tt
    by (Some bytes) h = let less = blanks_length text in omega (arith, h, less)

given_room : (table : Table) (row : Row) (text : List ℕ) (value : Value) (f : Form) → is_narrow f row.width ≡ true → value_by f table row text ≡ Ok value → length (value_bytes row.width value) ≤ value_room text
given_room table row text value form.Number n e =
    let g = given_number table row (number_in text) value e in
    let size = little_length row.width g.0 in
    let room = narrow_room row.width text n in
    let within : length (value_bytes row.width (Number g.0)) ≤ value_room text = omega (arith, size, room) in
    rw g.1 within
given_room table row text value form.Text n e =
    let g = given_text row (text_in text) value e in
    let size = g.3 in
    let room = narrow_room row.width text n in
    let within : length (value_bytes row.width (Bytes (filled row.width g.0))) ≤ value_room text = omega (arith, size, room) in
    rw g.2 within
given_room table row text value form.Bytes n e = let h = given_up_to row (bytes_in text) value (length text) (bytes_length text) e in omega (arith, h)
given_room table row text value form.Guid n e = let h = given_up_to row (guid_in text) value (length text) (guid_length text) e in omega (arith, h)

computed_room : (width number : ℕ) (text : List ℕ) → nat_le width 8 ≡ true → length (little_bytes width number) ≤ value_room text
computed_room width number text e =
    let size = little_length width number in
    let room = narrow_room width text e in
    omega (arith, size, room)

-- whatever stands in a field's place has room
kind_room : (kind : Kind) (width : ℕ) (value : Value) (text : List ℕ) → is_narrow (form_of kind) width ≡ true → length (value_bytes width value) ≤ value_room text → length (bytes_by kind width value) ≤ value_room text
kind_room k.Number width value text n h = h
kind_room k.Text width value text n h = h
kind_room k.Bytes width value text n h = h
kind_room k.Guid width value text n h = h
kind_room k.Reserved width value text n h = h
kind_room k.TableLength width value text n h = computed_room width 0 text n
kind_room k.Checksum width value text n h = computed_room width 0 text n
kind_room k.CompilerId width value text n h = omega arith
kind_room k.CompilerRevision width value text n h = let four : length (drop 4 compiler_bytes) ≡ 4 = refl in omega (arith, four)
kind_room (k.Length size) width value text n h = computed_room width size text n
kind_room k.Revision width value text n h = h
kind_room k.StructureType width value text n h = h
kind_room k.Localities width value text n h = h
kind_room (k.Locality number) width value text n h = h

-- ---- the fields of a text

-- how many bytes fields have
abbrev bytes_of : List Field → ℕ
bytes_of fields = length (joined (map piece_of fields))

-- a field's bytes have room in its line, and narrow rows come behind it
abbrev SmallStep : FieldLine → Step → Type 0
SmallStep line (Passed told) = Unit {0}
SmallStep line (Took row value part decoded) = (length (field_bytes row value) ≤ 8 * value_size line) × NarrowPart part
SmallStep line (Halted fault) = Unit {0}

given_small : (row : Row) (rest : Part) (line : FieldLine) (given : Result Value ℕ) → is_narrow (form_of row.kind) row.width ≡ true → NarrowPart rest → value_of rest.table row line.value ≡ given → SmallStep line (step_with row rest line given)
given_small row rest line (Err fault) n h e = tt
given_small row rest line (Ok value) n h e =
    (kind_room row.kind row.width value line.value n (given_room rest.table row line.value value (form_of row.kind) n e), behind_narrow rest row.kind (number_of_value value) h)

due_small : (line : FieldLine) (opened : Result Opened ℕ) → NarrowOpened opened → SmallStep line (step_due line opened)
due_small line (Err fault) h = tt
due_small line (Ok field) h = given_small field.0 field.1 line (value_of field.1.table field.0 line.value) h.0 h.1 refl

opened_small : (line : FieldLine) (opened : Result Opened ℕ) → NarrowOpened opened → SmallStep line (step_at line opened)
opened_small line opened h = by line.colon
  where
    by : (b : Bool) → SmallStep line (cond b (step_due line opened) (Halted 6093))
    by true = due_small line opened h
    by false = tt

step_small : (part : Part) (decoded : Option Decoded) (line : FieldLine) → NarrowPart part → SmallStep line (step_of part decoded line)
step_small part decoded line h = by (is_decoded decoded line)
  where
    by : (b : Bool) → SmallStep line (cond b (Passed (told_by decoded line)) (step_at line (next_field part)))
    by true = tt
    by false = opened_small line (next_field part) (rows_narrow part part.rows h)

-- so many bytes at most, whatever the lines before come to
abbrev AreUpTo : ℕ → (Part → Option Decoded → Walked) → Type 0
AreUpTo most rest = (part : Part) (decoded : Option Decoded) → NarrowPart part → bytes_of (rest part decoded).fields ≤ most

told_bytes : (place : Place) (told : Told) (more : Walked) → bytes_of (with_front (told_at place told) more).fields ≡ bytes_of more.fields
told_bytes place told.Nothing more = refl
told_bytes place told.Unknown more = refl
told_bytes place told.Disagrees more = refl

after_bytes : (part : Part) (decoded : Option Decoded) (line : FieldLine) (step : Step) (rest : Part → Option Decoded → Walked) (most : ℕ) → NarrowPart part → SmallStep line step → AreUpTo most rest
    → bytes_of (after_step part decoded line step rest).fields ≤ 8 * value_size line + most
after_bytes part decoded line (Passed told) rest most n s h =
    let same = told_bytes line.place told (rest part decoded) in
    let more = h part decoded n in
    omega (arith, same, more)
after_bytes part decoded line (Took row value part' decoded') rest most n s h =
    let here = s.0 in
    let more = h part' decoded' s.1 in
    let both = length-append (field_bytes row value) (joined (map piece_of (rest part' decoded').fields)) in
    omega (arith, here, more, both)
after_bytes part decoded line (Halted fault) rest most n s h = omega arith

end_bytes : (end : Place) (fault : Option ℕ) → bytes_of (fault_if end fault).fields ≤ 0
end_bytes end None = omega arith
end_bytes end (Some fault) = omega arith

walk_bytes : (end : Place) (lines : List FieldLine) → AreUpTo (8 * value_sizes lines) (λ part decoded. walk end part decoded lines)
walk_bytes end [] = λ part decoded n. end_bytes end (missing part)
walk_bytes end (line ∷ lines) = λ part decoded n.
    let all = sum_by-cons value_size line lines in
    let h = after_bytes part decoded line (step_of part decoded line) (λ part' decoded'. walk end part' decoded' lines) (8 * value_sizes lines) n (step_small part decoded line n) (walk_bytes end lines) in
    omega (arith, all, h)

text_bytes : (text : DataText) → bytes_of (fields_of_text text) ≤ 8 * value_sizes text.lines
text_bytes text = by_lines text.lines
  where
    by_table : (found : Option Table) → bytes_of (fields_of_table text found) ≤ 8 * value_sizes text.lines
    by_table None = omega arith
    by_table (Some table) = walk_bytes text.end text.lines (first_part table) None header_narrow

    by_signature : (found : Option (List ℕ)) → bytes_of (fields_signed text found) ≤ 8 * value_sizes text.lines
    by_signature None = omega arith
    by_signature (Some signature) = by_table (table_of signature)

    by_lines : (lines : List FieldLine) → bytes_of (fields_by text lines) ≤ 8 * value_sizes text.lines
    by_lines [] = omega arith
    by_lines (first ∷ rest) = by_signature (signature_in first)

-- a text comes to at most 8 bytes for each of its own, each line counted with its end
pub bytes_of_text : (lines : List Line) → length (unsealed_bytes lines) ≤ 8 * sum_by line_size lines
bytes_of_text lines =
    let values = text_sizes lines in
    let bytes = text_bytes (text_of lines) in
    omega (arith, values, bytes)

-- the bytes of the fields of a text that has at most 2^25 bytes, each line counted with its end, are fewer than 2^32
pub few_bytes : (lines : List Line) → sum_by (λ (line : Line). length line.text + 1) lines ≤ 2 ^ 25 → length (unsealed_bytes lines) < 2 ^ 32
few_bytes lines few =
    let size : sum_by line_size lines ≤ 2 ^ 25 = few in
    let bytes = bytes_of_text lines in
    omega (arith, size, bytes)
