-- The data lines of a table are read back.
use Rattle.std.proofs.Common.{◌≡◌, ◌≤◌, ◌+◌, ◌-◌, nat_le, ℕ, true, false, cond, List, [], ◌∷◌, ◌++◌, length, take, map, Option, Some, None, Ok, Err, refl, sym, ap, subst, ◌∙◌, arith, append_assoc, append-nil, length-append}
use Rattle.std.specs.Prelude.{⊤}
use Rattle.std.proofs.lemmas.List.{take_at}
use Rattle.resource_macros.specs.Identifiers.{utf16_of}
use Rattle.data_text.specs.declared.field_line.FieldLine.{FieldLine}
use Rattle.data_tables.specs.Entry.{Value, Number, Bytes}
use Rattle.data_tables.specs.Compiling.{joined}
use Rattle.data_tables.specs.Walk.{message_at}
use Rattle.data_tables.specs.Reading.{bytes_at}
use Rattle.data_tables.proofs.Numbers.{little_length, little_back}
use Rattle.data_tables.proofs.ReadBack.{bytes_here}
use Rattle.data_generic.specs.declared.types.DataType.{DataType}
use Rattle.data_generic.specs.declared.types.DataType.TheVariants as d
use Rattle.data_generic.specs.declared.labels.Label.{Label}
use Rattle.data_generic.specs.Types.{type_of_line, is_label}
use Rattle.data_generic.specs.Values.{bytes_by}
use Rattle.data_generic.specs.Walk.{DataField, DataWalked, Found, data_bytes, data_piece, value_by, most_bytes, halted, with_field, with_room, after_value, after_type, data_walk}
use Rattle.data_generic.specs.Compiling.{DataEntry, entry_of, entries_of}
use Rattle.data_generic.specs.Reading.{narrowed, said, DataStands, ReadsData}
use Rattle.data_generic.proofs.Given.{Fits, value_fits}

-- ---- a value and its bytes

pub narrowed_back : (text : List ℕ) → narrowed (utf16_of text) ≡ text
narrowed_back [] = refl
narrowed_back (c ∷ []) = refl
narrowed_back (c ∷ e ∷ text) = ap (λ (bs : List ℕ). c ∷ bs) (narrowed_back (e ∷ text))

text_back : (text : List ℕ) → take (length (text ++ 0 ∷ []) - 1) (text ++ 0 ∷ []) ≡ text
text_back text =
    let size : length (text ++ 0 ∷ []) ≡ length text + 1 = length-append text (0 ∷ []) in
    let one : length (text ++ 0 ∷ []) - 1 ≡ length text = omega (arith, size) in
    ap (λ (n : ℕ). take n (text ++ 0 ∷ [])) one ∙ take_at text (0 ∷ []) (length text) refl

-- what a field's value and its bytes have to do with each other
pub record IsRead (form : DataType) (value : Value) (here : List ℕ) : Type 0 where
  pub stands : DataStands form here
  pub says : value ≡ said form here

abbrev IsReadBack : DataType → Value → Type 0
IsReadBack form value = IsRead form value (bytes_by form value)

by_value : (form : DataType) (value other : Value) → value ≡ other → IsReadBack form other → IsReadBack form value
by_value form value other e r = subst (IsReadBack form) (sym e) r

pub read_back : (form : DataType) (value : Value) → Fits form value → IsReadBack form value
read_back (d.Number width) value f = by_value (d.Number width) value (Number f.0) f.1 (record { stands = little_length width f.0; says = ap Number (sym (little_back width f.0 f.2)) })
read_back d.Text value f = by_value d.Text value (Bytes f.0) f.1 (record { stands = ap (λ (t : List ℕ). t ++ 0 ∷ []) (sym (text_back f.0)); says = ap Bytes (sym (text_back f.0)) })
read_back d.WideText value f = by_value d.WideText value (Bytes f.0) f.1 (record { stands = ap utf16_of (sym (narrowed_back f.0)); says = ap Bytes (sym (narrowed_back f.0)) })
read_back d.Buffer value f = by_value d.Buffer value (Bytes f.0) f.1 (record { stands = tt; says = refl })
read_back d.Guid value f = by_value d.Guid value (Bytes f.0) f.1 (record { stands = f.2; says = refl })
read_back d.Label value f = by_value d.Label value (Bytes []) f (record { stands = tt; says = refl })

-- ---- lines without faults

abbrev pub AllFit : List DataField → Type 0
AllFit [] = ⊤
AllFit (field ∷ fields) = Fits field.form field.value × AllFit fields

-- the fields fit, and have room from an offset on
abbrev pub IsGood : ℕ → DataWalked → Type 0
IsGood offset w = AllFit w.fields × (offset + length (joined (map data_piece w.fields)) ≤ most_bytes)

at_room : (offset : ℕ) (field : DataField) (rest : ℕ → DataWalked) → Fits field.form field.value → ((end : ℕ) → end ≤ most_bytes → (rest end).faults ≡ [] → IsGood end (rest end)) → (with_room offset field rest).faults ≡ [] → IsGood offset (with_room offset field rest)
at_room offset field rest fit ih e =
    let end = offset + length (data_bytes field) in
    elim (nat_le end most_bytes) as (λ b. nat_le end most_bytes ≡ b → (cond b (with_field field (rest end)) (halted (message_at 6080 field.line.place))).faults ≡ [] → IsGood offset (cond b (with_field field (rest end)) (halted (message_at 6080 field.line.place)))) [
      | true ↦ λ f g.
          let room : end ≤ most_bytes = grind arith in
          let r = ih end room g in
          let size : length (data_bytes field ++ joined (map data_piece (rest end).fields)) ≡ length (data_bytes field) + length (joined (map data_piece (rest end).fields)) = length-append (data_bytes field) (joined (map data_piece (rest end).fields)) in
          ((fit, r.0), omega (arith, size, r.1))
      | false ↦ λ f g. absurd cc
    ] refl e

at_value : (label : List ℕ → Option Label) (index offset : ℕ) (line : FieldLine) (form : DataType) (found : Found) (rest : ℕ → DataWalked) → value_by label index line form ≡ found → ((end : ℕ) → end ≤ most_bytes → (rest end).faults ≡ [] → IsGood end (rest end)) → (after_value offset line form found rest).faults ≡ [] → IsGood offset (after_value offset line form found rest)
at_value label index offset line form (Err message) rest f ih e = absurd cc
at_value label index offset line form (Ok value) rest f ih e =
    at_room offset (record { line = line; form = form; value = value }) rest (value_fits label index line form value f) ih e

at_type : (label : List ℕ → Option Label) (index offset : ℕ) (line : FieldLine) (form : Option DataType) (rest : ℕ → DataWalked) → ((end : ℕ) → end ≤ most_bytes → (rest end).faults ≡ [] → IsGood end (rest end)) → (after_type label index offset line form rest).faults ≡ [] → IsGood offset (after_type label index offset line form rest)
at_type label index offset line None rest ih e = absurd cc
at_type label index offset line (Some form) rest ih e = at_value label index offset line form (value_by label index line form) rest refl ih e

pub walk_good : (label : List ℕ → Option Label) (index offset : ℕ) (lines : List FieldLine) → offset ≤ most_bytes → (data_walk label index offset lines).faults ≡ [] → IsGood offset (data_walk label index offset lines)
walk_good label index offset [] h e = (tt, omega (arith, h))
walk_good label index offset (line ∷ lines) h e =
    at_type label index offset line (type_of_line line) (λ (end : ℕ). data_walk label (index + 1) end lines) (λ end room f. walk_good label (index + 1) end lines room f) e

-- ---- the fields in the bytes

label_none : (form : DataType) (value : Value) → is_label form ≡ true → Fits form value → bytes_by form value ≡ []
label_none (d.Number width) value e f = absurd cc
label_none d.Text value e f = absurd cc
label_none d.WideText value e f = absurd cc
label_none d.Buffer value e f = absurd cc
label_none d.Guid value e f = absurd cc
label_none d.Label value e f = ap (bytes_by d.Label) f

no_label_bytes : (field : DataField) → is_label field.form ≡ true → Fits field.form field.value → data_bytes field ≡ []
no_label_bytes field e f = label_none field.form field.value e f

one_read : (bytes before tail : List ℕ) (field : DataField) (entries : List DataEntry) → Fits field.form field.value → bytes ≡ before ++ (data_bytes field ++ tail) → ReadsData bytes (length (before ++ data_bytes field)) entries → ReadsData bytes (length before) (entry_of field ++ entries)
one_read bytes before tail field entries fit e r =
    let here = data_bytes field in
    let next : length (before ++ here) ≡ length before + length here = length-append before here in
    elim (is_label field.form) as (λ b. is_label field.form ≡ b → ReadsData bytes (length before) (cond b [] (record { place = field.line.place; form = field.form; size = length here; value = field.value } ∷ []) ++ entries)) [
      | true ↦ λ g. subst (λ (o : ℕ). ReadsData bytes o entries) (ap (λ (bs : List ℕ). length (before ++ bs)) (no_label_bytes field g fit) ∙ ap length (append-nil before)) r
      | false ↦ λ g.
          let at : bytes_at bytes (length before) (length here) ≡ here = bytes_here bytes before here tail (length here) e refl in
          let is = read_back field.form field.value fit in
          (subst (DataStands field.form) (sym at) is.stands, is.says ∙ ap (said field.form) (sym at), subst (λ (o : ℕ). ReadsData bytes o entries) next r)
    ] refl

pub fields_read : (bytes before : List ℕ) (fields : List DataField) → AllFit fields → bytes ≡ before ++ joined (map data_piece fields) → ReadsData bytes (length before) (entries_of fields)
fields_read bytes before [] fit e = ap length (sym (append-nil before)) ∙ ap length (sym e)
fields_read bytes before (field ∷ fields) fit e =
    one_read bytes before (joined (map data_piece fields)) field (entries_of fields) fit.0 e
    (fields_read bytes (before ++ data_bytes field) fields fit.1 (e ∙ sym (append_assoc before (data_bytes field) (joined (map data_piece fields)))))
