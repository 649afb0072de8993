-- The messages of a generic text: which they are, and where they stand.
use Rattle.std.proofs.Common.{◌≡◌, ℕ, zero, suc, drop, ◌+◌, ◌<◌, ◌⊎◌, inl, inr, nat_le, nat_eq, Bool, true, false, cond, List, [], ◌∷◌, length, map, Option, Some, None, Ok, Err, Result, refl, sym, subst}
use Rattle.std.specs.List.{All}
use Rattle.std.specs.Str.{bytes_eq}
use Rattle.std.proofs.lemmas.List.Elements.{All-nil, All-cons, All-head, All-tail, All-append, All-weaker}
use Rattle.iasl_messages.specs.declared.place.Place.{Place}
use Rattle.iasl_messages.specs.declared.place.Line.{Line}
use Rattle.iasl_messages.specs.declared.place.Piece.{Piece}
use Rattle.iasl_messages.specs.declared.message.Message.{Message}
use Rattle.iasl_messages.specs.declared.message.Stage.{Stage}
use Rattle.iasl_messages.specs.declared.message.Stage.TheVariants as stage
use Rattle.data_layout.specs.declared.row.Row.{Row}
use Rattle.data_layout.specs.Layout.{header_rows}
use Rattle.data_text.specs.declared.field_line.FieldLine.{FieldLine}
use Rattle.data_text.specs.declared.field_line.DataText.{DataText}
use Rattle.data_text.specs.Parts.{place_of}
use Rattle.data_text.specs.Source.{first_place, text_of}
use Rattle.data_text.specs.Values.{text_in, number_in}
use Rattle.data_text.proofs.Homes.{LinesIn, text_in as text_places}
use Rattle.data_tables.specs.declared.compiled.Compiled.{Compiled}
use Rattle.data_tables.specs.Entry.{Value, Number, Bytes}
use Rattle.data_tables.specs.Fields.{value_of, row_key, has_room}
use Rattle.data_tables.specs.Walk.{Walked, message_at, label_note}
use Rattle.data_tables.specs.Compiling.{Answer, piece_of}
use Rattle.data_tables.specs.Headers.{any_table, without_colon, lines_by, is_signature, row_taken, rows_walk, header_walk}
use Rattle.data_tables.specs.Promise.{Answers, AreWithin, TellsWithin, IsPlaceIn}
use Rattle.data_tables.proofs.Homes.{line_places, first_is_place}
use Rattle.data_generic.specs.declared.types.DataType.{DataType}
use Rattle.data_generic.specs.declared.types.DataType.TheVariants as d
use Rattle.data_generic.specs.declared.labels.Label.{Label}
use Rattle.data_generic.specs.Types.{type_of_line}
use Rattle.data_generic.specs.Words.{Reference, Offset, Difference, is_reference, reference_in, name_in}
use Rattle.data_generic.specs.Values.{plain_value}
use Rattle.data_generic.specs.Labels.{label_of}
use Rattle.data_generic.specs.Walk.{Found, DataField, DataWalked, fault, in_room, number_by, offset_by, one_by, difference_by, second_by, first_by, reference_by, number_at, if_first, label_by, plain_by, value_by, data_bytes, most_bytes, halted, with_field, with_room, after_value, after_type, data_walk, walk_all}
use Rattle.data_generic.specs.Compiling.{data_lines, table_by, behind_header, generic_by, generic_text}
use Rattle.data_generic.specs.Telling.{IsOne, TellsOne}

-- ---- the message of a value stands at its line

abbrev Stands : FieldLine → Found → Type 0
Stands line (Ok value) = Unit {0}
Stands line (Err message) = message.place ≡ line.place

room_stands : (width : ℕ) (line : FieldLine) (number : ℕ) → Stands line (in_room width line number)
room_stands width line number = elim (has_room width number) as (λ b. Stands line (cond b (Ok (Number number)) (fault line 6094))) [ true ↦ tt | false ↦ refl ]

number_stands : (width : ℕ) (line : FieldLine) (found : Option ℕ) → Stands line (number_by width line found)
number_stands width line None = refl
number_stands width line (Some number) = room_stands width line number

offset_stands : (width : ℕ) (line : FieldLine) (offset : Option ℕ) → Stands line (offset_by width line offset)
offset_stands width line None = tt
offset_stands width line (Some offset) = room_stands width line offset

one_stands : (width : ℕ) (line : FieldLine) (name : List ℕ) (label : Option Label) → Stands line (one_by width line name label)
one_stands width line name None = refl
one_stands width line name (Some label) = offset_stands width line label.offset

difference_stands : (width : ℕ) (line : FieldLine) (one other : Option ℕ) → Stands line (difference_by width one other)
difference_stands width line None other = tt
difference_stands width line (Some one) None = tt
difference_stands width line (Some one) (Some other) = tt

second_stands : (width : ℕ) (line : FieldLine) (one : Label) (name : List ℕ) (label : Option Label) → Stands line (second_by width line one name label)
second_stands width line one name None = refl
second_stands width line one name (Some other) = difference_stands width line one.offset other.offset

first_stands : (width : ℕ) (line : FieldLine) (name : List ℕ) (label : Option Label) (other : List ℕ) (found : Option Label) → Stands line (first_by width line name label other found)
first_stands width line name None other found = refl
first_stands width line name (Some one) other found = second_stands width line one other found

reference_stands : (label : List ℕ → Option Label) (width : ℕ) (line : FieldLine) (reference : Option Reference) → Stands line (reference_by label width line reference)
reference_stands label width line None = refl
reference_stands label width line (Some (Offset name)) = one_stands width line name (label name)
reference_stands label width line (Some (Difference name other)) = first_stands width line name (label name) other (label other)

number_at_stands : (label : List ℕ → Option Label) (width : ℕ) (line : FieldLine) → Stands line (number_at label width line)
number_at_stands label width line =
    elim (is_reference line.value) as (λ b. Stands line (cond b (reference_by label width line (reference_in line.value)) (number_by width line (number_in line.value)))) [
      | true ↦ reference_stands label width line (reference_in line.value)
      | false ↦ number_stands width line (number_in line.value)
    ]

if_first_stands : (line : FieldLine) (index : ℕ) (found : Option Label) → Stands line (if_first line index found)
if_first_stands line index None = tt
if_first_stands line index (Some label) = elim (nat_eq label.index index) as (λ b. Stands line (cond b (Ok (Bytes [])) (fault line 6111))) [ true ↦ tt | false ↦ refl ]

label_stands : (label : List ℕ → Option Label) (index : ℕ) (line : FieldLine) (name : Option (List ℕ)) → Stands line (label_by label index line name)
label_stands label index line None = refl
label_stands label index line (Some name) = if_first_stands line index (label name)

plain_stands : (line : FieldLine) (value : Option Value) → Stands line (plain_by line value)
plain_stands line None = refl
plain_stands line (Some value) = tt

value_stands : (label : List ℕ → Option Label) (index : ℕ) (line : FieldLine) (form : DataType) → Stands line (value_by label index line form)
value_stands label index line (d.Number width) = number_at_stands label width line
value_stands label index line d.Label = label_stands label index line (name_in line.value)
value_stands label index line d.Text = plain_stands line (plain_value d.Text line.value)
value_stands label index line d.WideText = plain_stands line (plain_value d.WideText line.value)
value_stands label index line d.Buffer = plain_stands line (plain_value d.Buffer line.value)
value_stands label index line d.Guid = plain_stands line (plain_value d.Guid line.value)

-- ---- where all messages stand

module _ (Home : Place → Type 0) where
  abbrev NoteIn : Message → Type 0
  NoteIn note = (note.number ≡ 3005) × Home note.place

  -- at most one fault
  abbrev OneIn : List Message → Type 0
  OneIn faults = (faults ≡ []) ⊎ IsOne Home faults

  abbrev AnswerIn : Answer → Type 0
  AnswerIn (Ok table) = All NoteIn table.notes
  AnswerIn (Err faults) = IsOne Home faults

  abbrev WalkedIn : Walked → Type 0
  WalkedIn walked = All NoteIn walked.notes × OneIn walked.faults

  no_notes : All NoteIn []
  no_notes = All-nil NoteIn

  one_at : (message : Message) → Home message.place → IsOne Home (message ∷ [])
  one_at message h = (message, refl, h)

  label_in : (row : Row) (line : FieldLine) → Home line.place → All NoteIn (label_note row line)
  label_in row line h = by (bytes_eq line.label (row_key row))
    where
      by : (c : Bool) → All NoteIn (cond c [] (message_at 3005 line.place ∷ []))
      by true = no_notes
      by false = All-cons NoteIn (message_at 3005 line.place) [] (refl, h) no_notes

  taken_in : (row : Row) (line : FieldLine) (given : Result Value ℕ) (w : Walked) → Home line.place → WalkedIn w → WalkedIn (row_taken row line given w)
  taken_in row line (Err number) w h k = (no_notes, inr (one_at (message_at number line.place) h))
  taken_in row line (Ok value) w h k = (All-append NoteIn (label_note row line) w.notes (label_in row line h) k.0, k.1)

  rows_in : (end : Place) (rows : List Row) (lines : List FieldLine) → Home end → LinesIn Home lines → WalkedIn (rows_walk end rows lines)
  rows_in end [] lines h ls = (no_notes, inl refl)
  rows_in end (row ∷ rows) [] h ls = (no_notes, inr (one_at (message_at 6091 end) h))
  rows_in end (row ∷ rows) (line ∷ lines) h ls =
      taken_in row line (value_of any_table row line.value) (rows_walk end rows lines) (All-head (λ (line : FieldLine). Home line.place) line lines ls)
      (rows_in end rows lines h (All-tail (λ (line : FieldLine). Home line.place) line lines ls))

  header_in : (end : Place) (lines : List FieldLine) → Home end → LinesIn Home lines → WalkedIn (header_walk end lines)
  header_in end [] h ls = (no_notes, inr (one_at (message_at 6091 end) h))
  header_in end (line ∷ lines) h ls = by (is_signature (text_in line.value))
    where
      by : (c : Bool) → WalkedIn (cond c (rows_walk end header_rows (line ∷ lines)) (record { fields = []; notes = []; faults = message_at 6090 line.place ∷ [] }))
      by true = rows_in end header_rows (line ∷ lines) h ls
      by false = (no_notes, inr (one_at (message_at 6090 line.place) (All-head (λ (line : FieldLine). Home line.place) line lines ls)))

  room_in : (offset : ℕ) (field : DataField) (rest : ℕ → DataWalked) → Home field.line.place → ((end : ℕ) → OneIn (rest end).faults) → OneIn (with_room offset field rest).faults
  room_in offset field rest h more = by (nat_le (offset + length (data_bytes field)) most_bytes)
    where
      by : (c : Bool) → OneIn (cond c (with_field field (rest (offset + length (data_bytes field)))) (halted (message_at 6080 field.line.place))).faults
      by true = more (offset + length (data_bytes field))
      by false = inr (one_at (message_at 6080 field.line.place) h)

  valued_in : (offset : ℕ) (line : FieldLine) (form : DataType) (found : Found) (rest : ℕ → DataWalked) → Stands line found → Home line.place → ((end : ℕ) → OneIn (rest end).faults) → OneIn (after_value offset line form found rest).faults
  valued_in offset line form (Err message) rest s h more = inr (one_at message (subst Home (sym s) h))
  valued_in offset line form (Ok value) rest s h more = room_in offset (record { line = line; form = form; value = value }) rest h more

  typed_in : (label : List ℕ → Option Label) (index offset : ℕ) (line : FieldLine) (form : Option DataType) (rest : ℕ → DataWalked) → Home line.place → ((end : ℕ) → OneIn (rest end).faults) → OneIn (after_type label index offset line form rest).faults
  typed_in label index offset line None rest h more = inr (one_at (message_at 6110 line.place) h)
  typed_in label index offset line (Some form) rest h more = valued_in offset line form (value_by label index line form) rest (value_stands label index line form) h more

  data_in : (label : List ℕ → Option Label) (index offset : ℕ) (lines : List FieldLine) → LinesIn Home lines → OneIn (data_walk label index offset lines).faults
  data_in label index offset [] ls = inl refl
  data_in label index offset (line ∷ lines) ls =
      typed_in label index offset line (type_of_line line) (λ end. data_walk label (index + 1) end lines) (All-head (λ (line : FieldLine). Home line.place) line lines ls)
      (λ end. data_in label (index + 1) end lines (All-tail (λ (line : FieldLine). Home line.place) line lines ls))

  dropped_in : (n : ℕ) (lines : List FieldLine) → LinesIn Home lines → LinesIn Home (drop n lines)
  dropped_in zero lines ls = ls
  dropped_in (suc n) [] ls = ls
  dropped_in (suc n) (line ∷ lines) ls = dropped_in n lines (All-tail (λ (line : FieldLine). Home line.place) line lines ls)

  one_of : (fault : Message) (faults : List Message) → OneIn (fault ∷ faults) → IsOne Home (fault ∷ faults)
  one_of fault faults (inl none) = absurd cc
  one_of fault faults (inr one) = one

  table_in : (header : List Piece) (notes : List Message) (fields : List DataField) (faults : List Message) → All NoteIn notes → OneIn faults → AnswerIn (table_by header notes fields faults)
  table_in header notes fields [] h k = h
  table_in header notes fields (fault ∷ faults) h k = one_of fault faults k

  behind_in : (fields : List FieldLine) (header : Walked) (faults : List Message) → header.faults ≡ faults → LinesIn Home fields → WalkedIn header → AnswerIn (behind_header fields header faults)
  behind_in fields header [] e ls h =
      table_in (map piece_of header.fields) header.notes (walk_all (data_lines fields)).fields (walk_all (data_lines fields)).faults h.0 (data_in (label_of (data_lines fields)) 0 36 (data_lines fields) (dropped_in 9 fields ls))
  behind_in fields header (fault ∷ faults) e ls h = one_of fault faults (subst OneIn e h.1)

  colon_by : (c : Bool) (lines : List FieldLine) (first line : FieldLine) → cond c (without_colon lines) (Some first) ≡ Some line → Home first.place → (without_colon lines ≡ Some line → Home line.place) → Home line.place
  colon_by true lines first line e h more = more e
  colon_by false lines first line e h more = let same : first ≡ line = cc in subst (λ (l : FieldLine). Home l.place) same h

  colon_in : (lines : List FieldLine) → LinesIn Home lines → (line : FieldLine) → without_colon lines ≡ Some line → Home line.place
  colon_in [] ls line e = absurd cc
  colon_in (first ∷ lines) ls line e =
      colon_by first.colon lines first line e (All-head (λ (line : FieldLine). Home line.place) first lines ls) (λ f. colon_in lines (All-tail (λ (line : FieldLine). Home line.place) first lines ls) line f)

  lines_in : (end : Place) (lines : List FieldLine) (found : Option FieldLine) → without_colon lines ≡ found → Home end → LinesIn Home lines → AnswerIn (generic_by end (lines_by lines found))
  lines_in end lines None e h ls = behind_in lines (header_walk end lines) (header_walk end lines).faults refl ls (header_in end lines h ls)
  lines_in end lines (Some line) e h ls = one_at (message_at 6093 line.place) (colon_in lines ls line e)

  generic_in : (lines : List Line) → Home first_place → All (λ (line : Line). Home (place_of line)) lines → AnswerIn (generic_text (text_of lines))
  generic_in lines main h =
      let text = text_places Home lines main h in
      lines_in (text_of lines).end (text_of lines).lines (without_colon (text_of lines).lines) refl text.1 text.0

-- each message of a generic text stands in one of the lines' files
pub generic_within : (files : ℕ) (lines : List Line) (text : DataText) (result : Result Compiled Stage) → text ≡ text_of lines → Answers result (generic_text text) → 0 < files → All (λ (line : Line). line.file < files) lines → TellsWithin files result
generic_within files lines text result e answers main h = by result (subst (λ (t : DataText). Answers result (generic_text t)) e answers)
  where
    Home : Place → Type 0
    Home place = place.file < files

    by : (result : Result Compiled Stage) → Answers result (generic_text (text_of lines)) → TellsWithin files result
    by (Ok table) a = All-weaker (NoteIn Home) (λ (m : Message). Home m.place) (λ m h. h.1) table.notes (subst (AnswerIn Home) a (generic_in Home lines main h))
    by (Err (stage.Refused messages)) a =
        let one : IsOne Home messages = subst (AnswerIn Home) a (generic_in Home lines main h) in
        subst (AreWithin files) (sym one.1) (All-cons (λ (m : Message). Home m.place) one.0 [] one.2 (All-nil (λ (m : Message). Home m.place)))
    by (Err stage.Memory) a = tt

-- a refusal is one message, and each note is 3005; each stands in column 1 of a line, or line 1 of the first file
pub generic_tells : (lines : List Line) (text : DataText) (result : Result Compiled Stage) → text ≡ text_of lines → Answers result (generic_text text) → TellsOne lines result
generic_tells lines text result e answers = by result (subst (λ (t : DataText). Answers result (generic_text t)) e answers)
  where
    answer : AnswerIn (IsPlaceIn lines) (generic_text (text_of lines))
    answer = generic_in (IsPlaceIn lines) lines (first_is_place lines) (line_places lines)

    by : (result : Result Compiled Stage) → Answers result (generic_text (text_of lines)) → TellsOne lines result
    by (Ok table) a =
        let h : All (NoteIn (IsPlaceIn lines)) table.notes = subst (AnswerIn (IsPlaceIn lines)) a answer in
        (All-weaker (NoteIn (IsPlaceIn lines)) (λ (m : Message). m.number ≡ 3005) (λ m h. h.0) table.notes h, All-weaker (NoteIn (IsPlaceIn lines)) (λ (m : Message). IsPlaceIn lines m.place) (λ m h. h.1) table.notes h)
    by (Err (stage.Refused messages)) a = subst (AnswerIn (IsPlaceIn lines)) a answer
    by (Err stage.Memory) a = tt
