-- The messages of a text: what they are, in which order, and where they stand.
use Rattle.std.proofs.Common.{◌≡◌, ℕ, ◌+◌, ◌==◌, ◌<◌, ◌≤◌, ◌⊎◌, inl, inr, Bool, true, false, nat_lt, nat_le, cond, List, [], ◌∷◌, ◌++◌, length, Option, Some, None, Ok, Err, Result, refl, subst, arith}
use Rattle.std.specs.List.{All}
use Rattle.std.proofs.lemmas.Bool.{leb-true}
use Rattle.std.proofs.lemmas.List.Elements.{All-nil, All-cons, All-head, All-tail, All-append, All-weaker}
use Rattle.std.specs.Str.{bytes_eq}
use Rattle.iasl_messages.specs.declared.place.Place.{Place}
use Rattle.iasl_messages.specs.declared.place.Line.{Line}
use Rattle.iasl_messages.specs.declared.place.Piece.{Piece}
use Rattle.iasl_messages.specs.declared.message.Message.{Message}
use Rattle.iasl_messages.specs.declared.message.Stage.{Stage}
use Rattle.iasl_messages.specs.declared.message.Stage.TheVariants as stage
use Rattle.data_layout.specs.declared.row.Row.{Row}
use Rattle.data_layout.specs.declared.table.Table.{Table}
use Rattle.data_layout.specs.Layout.{table_of}
use Rattle.data_text.specs.declared.field_line.FieldLine.{FieldLine}
use Rattle.data_text.specs.declared.field_line.DataText.{DataText}
use Rattle.data_text.specs.Source.{text_of}
use Rattle.data_text.proofs.Homes.{LinesIn, TextIn, text_in}
use Rattle.data_tables.specs.declared.compiled.Compiled.{Compiled}
use Rattle.data_tables.specs.declared.decoding.Decoded.{Decoded}
use Rattle.data_tables.specs.declared.decoding.Told.{Told}
use Rattle.data_tables.specs.declared.decoding.Told.TheVariants as told
use Rattle.data_layout.specs.declared.row.Kind.{Kind}
use Rattle.data_layout.specs.declared.row.Kind.TheVariants as k
use Rattle.data_layout.specs.Layout.{knows_revision, fixed_rows, entry_rows, type_rows, locality_row}
use Rattle.data_text.specs.Parts.{place_of}
use Rattle.data_text.specs.Source.{first_place}
use Rattle.data_text.specs.Values.{number_in, text_in as text_value, bytes_in}
use Rattle.data_tables.specs.declared.field.Form.{Form}
use Rattle.data_tables.specs.declared.field.Form.TheVariants as form
use Rattle.data_tables.specs.declared.part.After.{After}
use Rattle.data_tables.specs.declared.part.After.TheVariants as a
use Rattle.aml_code.specs.Header.{filled}
use Rattle.data_tables.specs.Entry.{Value, Bytes}
use Rattle.data_tables.specs.Fields.{guid_in, form_of, has_room, has_structure, width_fault, revision_fault, type_fault, count_fault, number_fault, bytes_fault, judged, value_of_number, value_of_text, value_of_bytes, value_by, value_of, row_key}
use Rattle.data_tables.specs.Parts.{Part, Opened, after_fixed, first_of, open_after, open_rows, next_field, first_part, missing_after, missing_rows, missing}
use Rattle.data_tables.specs.Walk.{Walked, Step, Passed, Took, Halted, with_front, message_at, told_at, label_note, after_step, fault_if, step_with, step_due, step_at, step_of, walk}
use Rattle.data_tables.specs.Decoding.{is_decoded, told_by}
use Rattle.data_tables.specs.Compiling.{Answer, answer_by, refused, signature_in, compiled_table, compiled_signed, compiled_lines, compiled_text}
use Rattle.data_tables.specs.Promise.{Answers, TellsWithin, IsNote, IsFault, StopsAtOther, IsPlaceIn, TellsOf}

-- ---- the numbers of faults

abbrev IsNumber : ℕ → Type 0
IsNumber number = (6090 ≤ number) × (number ≤ 6097)

-- a number that there may be
abbrev MaybeNumber : Option ℕ → Type 0
MaybeNumber None = Unit {0}
MaybeNumber (Some number) = IsNumber number

-- the number of what is refused
abbrev Refuses : {A : Type 0} → Result A ℕ → Type 0
Refuses (Ok value) = Unit {0}
Refuses (Err number) = IsNumber number

number_is : (number : ℕ) → nat_le 6090 number ≡ true → nat_le number 6097 ≡ true → IsNumber number
number_is number low high = (leb-true 6090 number low, leb-true number 6097 high)

either_number : (c : Bool) (left right : Option ℕ) → MaybeNumber left → MaybeNumber right → MaybeNumber (cond c left right)
either_number true left right h k = h
either_number false left right h k = k

either_refuses : {A : Type 0} (c : Bool) (left right : Result A ℕ) → Refuses left → Refuses right → Refuses (cond c left right)
either_refuses true left right h k = h
either_refuses false left right h k = k

width_number : (width number : ℕ) → MaybeNumber (width_fault width number)
width_number width number = either_number (has_room width number) None (Some 6094) tt (number_is 6094 refl refl)

revision_number : (table : Table) (width number : ℕ) → MaybeNumber (revision_fault table width number)
revision_number table width number = either_number (knows_revision table number) (width_fault width number) (Some 6093) (width_number width number) (number_is 6093 refl refl)

type_number : (table : Table) (width number : ℕ) → MaybeNumber (type_fault table width number)
type_number table width number =
    either_number (has_room width number) (cond (has_structure table number) None (Some 6095)) (Some 6094) (either_number (has_structure table number) None (Some 6095) tt (number_is 6095 refl refl)) (number_is 6094 refl refl)

count_number : (width number : ℕ) → MaybeNumber (count_fault width number)
count_number width number =
    either_number (has_room width number) (cond (nat_le number 4000) None (Some 6097)) (Some 6094) (either_number (nat_le number 4000) None (Some 6097) tt (number_is 6097 refl refl)) (number_is 6094 refl refl)

number_number : (table : Table) (kind : Kind) (width number : ℕ) → MaybeNumber (number_fault table kind width number)
number_number table k.Number width number = width_number width number
number_number table k.Text width number = width_number width number
number_number table k.Bytes width number = width_number width number
number_number table k.Guid width number = width_number width number
number_number table k.Reserved width number = either_number (number == 0) None (Some 6093) tt (number_is 6093 refl refl)
number_number table k.TableLength width number = width_number width number
number_number table k.Checksum width number = width_number width number
number_number table k.CompilerId width number = width_number width number
number_number table k.CompilerRevision width number = width_number width number
number_number table (k.Length size) width number = width_number width number
number_number table k.Revision width number = revision_number table width number
number_number table k.StructureType width number = type_number table width number
number_number table k.Localities width number = count_number width number
number_number table (k.Locality n) width number = width_number width number

bytes_number : (kind : Kind) → IsNumber (bytes_fault kind)
bytes_number (k.Locality n) = number_is 6097 refl refl
bytes_number _ = number_is 6093 refl refl

judged_refuses : (number : ℕ) (fault : Option ℕ) → MaybeNumber fault → Refuses (judged number fault)
judged_refuses number None h = tt
judged_refuses number (Some fault) h = h

value_refuses : (table : Table) (row : Row) (text : List ℕ) → Refuses (value_of table row text)
value_refuses table row text = by (form_of row.kind)
  where
    of_number : (number : Option ℕ) → Refuses (value_of_number table row number)
    of_number None = number_is 6093 refl refl
    of_number (Some number) = judged_refuses number (number_fault table row.kind row.width number) (number_number table row.kind row.width number)

    of_text : (text : Option (List ℕ)) → Refuses (value_of_text row text)
    of_text None = number_is 6093 refl refl
    of_text (Some text) = either_refuses (nat_le (length text) row.width) (Ok (Bytes (filled row.width text))) (Err 6094) tt (number_is 6094 refl refl)

    of_bytes : (bytes : Option (List ℕ)) → Refuses (value_of_bytes row bytes)
    of_bytes None = number_is 6093 refl refl
    of_bytes (Some bytes) = either_refuses (length bytes == row.width) (Ok (Bytes bytes)) (Err (bytes_fault row.kind)) tt (bytes_number row.kind)

    by : (f : Form) → Refuses (value_by f table row text)
    by form.Number = of_number (number_in text)
    by form.Text = of_text (text_value text)
    by form.Bytes = of_bytes (bytes_in text)
    by form.Guid = of_bytes (guid_in text)

first_refuses : (part : Part) (rows : List Row) → Refuses (first_of part rows)
first_refuses part [] = number_is 6092 refl refl
first_refuses part (row ∷ rows) = tt

field_refuses : (part : Part) → Refuses (next_field part)
field_refuses part = by part.rows
  where
    behind : (after : After) → Refuses (open_after part after)
    behind a.Fixed = first_refuses (record part { after = after_fixed part.table }) (fixed_rows part.table part.revision)
    behind a.Nothing = number_is 6092 refl refl
    behind a.Entries = first_refuses part (entry_rows part.table)
    behind a.Structures = first_refuses part (type_rows part.table)
    behind (a.Matrix count number) = either_refuses (nat_lt number count) (Ok (locality_row count number, record part { rows = []; after = a.Matrix count (number + 1) })) (Err 6097) tt (number_is 6097 refl refl)

    by : (rows : List Row) → Refuses (open_rows part rows)
    by [] = behind part.after
    by (row ∷ rows) = tt

missing_number : (part : Part) → MaybeNumber (missing part)
missing_number part = by part.rows
  where
    behind : (after : After) → MaybeNumber (missing_after after)
    behind a.Fixed = number_is 6091 refl refl
    behind a.Nothing = tt
    behind a.Entries = tt
    behind a.Structures = tt
    behind (a.Matrix count number) = either_number (nat_lt number count) (Some 6097) None (number_is 6097 refl refl) tt

    by : (rows : List Row) → MaybeNumber (missing_rows part.after rows)
    by [] = behind part.after
    by (row ∷ rows) = number_is 6091 refl refl

-- the number of a line that is refused
abbrev Halts : Step → Type 0
Halts (Passed told) = Unit {0}
Halts (Took row value part decoded) = Unit {0}
Halts (Halted number) = IsNumber number

step_halts : (part : Part) (decoded : Option Decoded) (line : FieldLine) → Halts (step_of part decoded line)
step_halts part decoded line = by (is_decoded decoded line)
  where
    with_value : (row : Row) (rest : Part) (value : Result Value ℕ) → Refuses value → Halts (step_with row rest line value)
    with_value row rest (Err fault) h = h
    with_value row rest (Ok value) h = tt

    due : (opened : Result Opened ℕ) → Refuses opened → Halts (step_due line opened)
    due (Err fault) h = h
    due (Ok field) h = with_value field.0 field.1 (value_of field.1.table field.0 line.value) (value_refuses field.1.table field.0 line.value)

    at : (c : Bool) → Halts (cond c (step_due line (next_field part)) (Halted 6093))
    at true = due (next_field part) (field_refuses part)
    at false = number_is 6093 refl refl

    by : (c : Bool) → Halts (cond c (Passed (told_by decoded line)) (step_at line (next_field part)))
    by true = tt
    by false = at line.colon

-- ---- where they stand

module _ (Home : Place → Type 0) where
  abbrev NoteIn : Message → Type 0
  NoteIn note = IsNote note × Home note.place

  abbrev FaultIn : Message → Type 0
  FaultIn fault = IsFault fault × Home fault.place

  -- the notes of a table, or the faults
  abbrev AnswerIn : Answer → Type 0
  AnswerIn (Ok table) = All NoteIn table.notes
  AnswerIn (Err faults) = (faults ≡ [] → ⊥) × (All FaultIn faults × StopsAtOther faults)

  abbrev WalkedIn : Walked → Type 0
  WalkedIn walked = All NoteIn walked.notes × (All FaultIn walked.faults × StopsAtOther walked.faults)

  no_notes : All NoteIn []
  no_notes = All-nil NoteIn

  no_faults : All FaultIn []
  no_faults = All-nil FaultIn

  one_note : (number : ℕ) (place : Place) → (number ≡ 3005) ⊎ (number ≡ 2002) → Home place → All NoteIn (message_at number place ∷ [])
  one_note number place is h = All-cons NoteIn (message_at number place) [] (is, h) no_notes

  one_fault : (number : ℕ) (place : Place) → IsNumber number → Home place → All FaultIn (message_at number place ∷ [])
  one_fault number place is h = All-cons FaultIn (message_at number place) [] (is, h) no_faults

  refused_in : (number : ℕ) (place : Place) → IsNumber number → Home place → AnswerIn (refused number place)
  refused_in number place is h = (λ e. absurd cc, (one_fault number place is h, inl refl))

  more_notes : (xs ys : List Message) → All NoteIn xs → All NoteIn ys → All NoteIn (xs ++ ys)
  more_notes xs ys h k = All-append NoteIn xs ys h k

  label_in : (row : Row) (line : FieldLine) → Home line.place → All NoteIn (label_note row line)
  label_in row line h = by (bytes_eq line.label (row_key row))
    where
      by : (c : Bool) → All NoteIn (cond c [] (message_at 3005 line.place ∷ []))
      by true = no_notes
      by false = one_note 3005 line.place (inl refl) h

  told_in : (place : Place) (told : Told) (more : Walked) → Home place → WalkedIn more → WalkedIn (with_front (told_at place told) more)
  told_in place told.Nothing more h k = k
  told_in place told.Unknown more h k = (All-cons NoteIn (message_at 2002 place) more.notes (inr refl, h) k.0, k.1)
  told_in place told.Disagrees more h k = (k.0, (All-cons FaultIn (message_at 6096 place) more.faults (number_is 6096 refl refl, h) k.1.0, inr (refl, k.1.1)))

  step_in : (part : Part) (decoded : Option Decoded) (line : FieldLine) (step : Step) (rest : Part → Option Decoded → Walked) → Halts step → Home line.place → ((part : Part) (decoded : Option Decoded) → WalkedIn (rest part decoded)) → WalkedIn (after_step part decoded line step rest)
  step_in part decoded line (Passed told) rest is h more = told_in line.place told (rest part decoded) h (more part decoded)
  step_in part decoded line (Took row value part' decoded') rest is h more =
      let others = more part' decoded' in (more_notes (label_note row line) (rest part' decoded').notes (label_in row line h) others.0, others.1)
  step_in part decoded line (Halted fault) rest is h more = (no_notes, (one_fault fault line.place is h, inl refl))

  end_in : (end : Place) (fault : Option ℕ) → MaybeNumber fault → Home end → WalkedIn (fault_if end fault)
  end_in end None is h = (no_notes, (no_faults, tt))
  end_in end (Some fault) is h = (no_notes, (one_fault fault end is h, inl refl))

  walk_in : (end : Place) (part : Part) (decoded : Option Decoded) (lines : List FieldLine) → Home end → LinesIn Home lines → WalkedIn (walk end part decoded lines)
  walk_in end part decoded [] h ls = end_in end (missing part) (missing_number part) h
  walk_in end part decoded (line ∷ lines) h ls =
      step_in part decoded line (step_of part decoded line) (λ part' decoded'. walk end part' decoded' lines) (step_halts part decoded line) (All-head (λ (line : FieldLine). Home line.place) line lines ls)
      (λ part' decoded'. walk_in end part' decoded' lines h (All-tail (λ (line : FieldLine). Home line.place) line lines ls))

  answer_in : (signature : List ℕ) (pieces : List Piece) (notes faults : List Message) → All NoteIn notes → All FaultIn faults → StopsAtOther faults → AnswerIn (answer_by signature pieces notes faults)
  answer_in signature pieces notes [] h k s = h
  answer_in signature pieces notes (fault ∷ faults) h k s = (λ e. absurd cc, (k, s))

  table_in : (text : DataText) (first : FieldLine) (signature : List ℕ) (found : Option Table) → TextIn Home text → Home first.place → AnswerIn (compiled_table text first signature found)
  table_in text first signature None h k = refused_in 6090 first.place (number_is 6090 refl refl) k
  table_in text first signature (Some table) h k =
      let walked = walk text.end (first_part table) None text.lines in
      let within = walk_in text.end (first_part table) None text.lines h.1 h.0 in
      answer_in signature _ walked.notes walked.faults within.0 within.1.0 within.1.1

  signed_in : (text : DataText) (first : FieldLine) (signature : Option (List ℕ)) → TextIn Home text → Home first.place → AnswerIn (compiled_signed text first signature)
  signed_in text first None h k = refused_in 6090 first.place (number_is 6090 refl refl) k
  signed_in text first (Some signature) h k = table_in text first signature (table_of signature) h k

  lines_in : (text : DataText) (lines : List FieldLine) → TextIn Home text → LinesIn Home lines → AnswerIn (compiled_lines text lines)
  lines_in text [] h k = refused_in 6091 text.end (number_is 6091 refl refl) h.1
  lines_in text (first ∷ rest) h k = by first.colon
    where
      here : Home first.place
      here = All-head (λ (line : FieldLine). Home line.place) first rest k

      by : (c : Bool) → AnswerIn (cond c (compiled_signed text first (signature_in first)) (refused 6093 first.place))
      by true = signed_in text first (signature_in first) h here
      by false = refused_in 6093 first.place (number_is 6093 refl refl) here

  text_answer : (lines : List Line) → Home first_place → All (λ (line : Line). Home (place_of line)) lines → AnswerIn (compiled_text (text_of lines))
  text_answer lines main h = let text = text_in Home lines main h in lines_in (text_of lines) (text_of lines).lines text text.0

-- each message that the text of some lines tells
pub tells_within : (files : ℕ) (lines : List Line) (text : DataText) (result : Result Compiled Stage) → text ≡ text_of lines → Answers result (compiled_text text) → 0 < files → All (λ (line : Line). line.file < files) lines → TellsWithin files result
tells_within files lines text result e answers main h = by result (subst (λ (t : DataText). Answers result (compiled_text t)) e answers)
  where
    Home : Place → Type 0
    Home place = place.file < files

    by : (result : Result Compiled Stage) → Answers result (compiled_text (text_of lines)) → TellsWithin files result
    by (Ok table) a = All-weaker (NoteIn Home) (λ (m : Message). Home m.place) (λ m h. h.1) table.notes (subst (AnswerIn Home) a (text_answer Home lines main h))
    by (Err (stage.Refused messages)) a = All-weaker (FaultIn Home) (λ (m : Message). Home m.place) (λ m h. h.1) messages (subst (AnswerIn Home) a (text_answer Home lines main h)).1.0
    by (Err stage.Memory) a = tt

-- a line is a place of its text
pub line_places : (lines : List Line) → All (λ (line : Line). IsPlaceIn lines (place_of line)) lines
line_places [] = λ i d lt. absurd (omega arith)
line_places (line ∷ lines) =
    All-cons (λ (l : Line). IsPlaceIn (line ∷ lines) (place_of l)) line lines (inl refl)
    (All-weaker (λ (l : Line). IsPlaceIn lines (place_of l)) (λ (l : Line). IsPlaceIn (line ∷ lines) (place_of l)) (λ l h. inr h) lines (line_places lines))

pub first_is_place : (lines : List Line) → IsPlaceIn lines first_place
first_is_place [] = refl
first_is_place (line ∷ lines) = inr (first_is_place lines)

pub tells_of : (lines : List Line) (text : DataText) (result : Result Compiled Stage) → text ≡ text_of lines → Answers result (compiled_text text) → TellsOf lines result
tells_of lines text result e answers = by result (subst (λ (t : DataText). Answers result (compiled_text t)) e answers)
  where
    answer : AnswerIn (IsPlaceIn lines) (compiled_text (text_of lines))
    answer = text_answer (IsPlaceIn lines) lines (first_is_place lines) (line_places lines)

    by : (result : Result Compiled Stage) → Answers result (compiled_text (text_of lines)) → TellsOf lines result
    by (Ok table) a =
        let h : All (NoteIn (IsPlaceIn lines)) table.notes = subst (AnswerIn (IsPlaceIn lines)) a answer in
        (All-weaker (NoteIn (IsPlaceIn lines)) IsNote (λ m h. h.0) table.notes h, All-weaker (NoteIn (IsPlaceIn lines)) (λ (m : Message). IsPlaceIn lines m.place) (λ m h. h.1) table.notes h)
    by (Err (stage.Refused messages)) a =
        let h = subst (AnswerIn (IsPlaceIn lines)) a answer in
        (h.0, (All-weaker (FaultIn (IsPlaceIn lines)) IsFault (λ m h. h.0) messages h.1.0, (h.1.1, All-weaker (FaultIn (IsPlaceIn lines)) (λ (m : Message). IsPlaceIn lines m.place) (λ m h. h.1) messages h.1.0)))
    by (Err stage.Memory) a = tt
