-- The bytes of a compiled text read as the values that the text writes.
use Rattle.std.proofs.Common.{◌≡◌, ◌<◌, ◌+◌, ◌-◌, ◌%◌, ◌^◌, ◌*◌, ℕ, Bool, true, false, cond, List, [], ◌∷◌, ◌++◌, length, take, map, replicate, Option, Some, None, Ok, Err, refl, sym, ap, subst, ◌∙◌, arith, length-append, append_assoc, append-nil, zero-add}
use Rattle.std.specs.Prelude.{sum, ◌==◌}
use Rattle.std.specs.List.{list_all}
use Rattle.std.proofs.lemmas.Bool.{and_parts}
use Rattle.std.proofs.lemmas.Grind.{common_steps}
use Rattle.std.specs.Str.{bytes_eq}
use Rattle.std.proofs.lemmas.Slice.Eq.{bytes_eq-Decides}
use Rattle.std.proofs.lemmas.List.{take_all}
use Rattle.byteorder.specs.Endian.{little_bytes}
use Rattle.aml_code.specs.Header.{filled, checksum_of}
use Rattle.iasl_messages.specs.declared.place.Piece.{Piece}
use Rattle.iasl_messages.specs.declared.place.Line.{Line}
use Rattle.data_layout.specs.declared.row.Row.{Row}
use Rattle.data_layout.specs.declared.table.Table.{Table}
use Rattle.data_layout.specs.Layouts.{Layout, layouts}
use Rattle.data_layout.specs.Layout.{find_table, table_of, fixed_rows}
use Rattle.data_text.specs.declared.field_line.FieldLine.{FieldLine}
use Rattle.data_text.specs.declared.field_line.DataText.{DataText}
use Rattle.data_text.specs.Source.{text_of}
use Rattle.data_text.specs.Values.{number_in, text_in}
use Rattle.data_tables.specs.declared.compiled.Compiled.{Compiled}
use Rattle.data_tables.specs.declared.part.After.TheVariants as a
use Rattle.data_tables.specs.Entry.{Value, Entry}
use Rattle.data_tables.specs.Fields.{field_bytes, number_of_value, value_of, revision_fault}
use Rattle.data_tables.specs.Parts.{first_part}
use Rattle.data_tables.specs.Walk.{Field, Walked, walk}
use Rattle.data_tables.specs.Compiling.{piece_of, joined, sealed, with_texts, answer_with_texts, compiled_text, Answer, answer_by, answer_of, refused, signature_in, compiled_table, compiled_signed, compiled_lines, compiled}
use Rattle.data_tables.specs.Entries.{entries_from, fields_of_table, fields_signed, fields_by, written_values, unsealed_bytes}
use Rattle.data_tables.specs.Reading.{bytes_at, number_of, number_read, size_of, IsKnownRevision, Tail, rest_of, first_rows, IsRest, ReadsAs}
use Rattle.data_tables.proofs.Sums.{sum-append}
use Rattle.data_tables.proofs.Numbers.{little_length, little_back}
use Rattle.data_tables.proofs.Plain.{known_revision}
use Rattle.data_tables.proofs.Spelled.{IsSpelled, given_number, given_text}
use Rattle.data_tables.proofs.Steps.{FieldsOf, walk_fields, first_field}
use Rattle.data_tables.proofs.ReadBack.{Reads, plain_spelled, numbered, bytes_here, shifted}
use Rattle.data_tables.proofs.Header.{headed, h, behind_h, header_is, header_step, bytes_taken, fixed_read, small_revision}

-- ---- the length and the checksum

balanced : (f t s c x y : ℕ) → s ≡ f + t → c ≡ (256 - s % 256) % 256 → y ≡ c % 256 → x ≡ f + (y + t) → x % 256 ≡ 0
balanced f t s c x y e g i j = omega arith

pub checksum_zero : (front tail : List ℕ) → sum (front ++ (little_bytes 1 (checksum_of (front ++ (little_bytes 1 0 ++ tail))) ++ tail)) % 256 ≡ 0
checksum_zero front tail =
    let raw : List ℕ = front ++ (little_bytes 1 0 ++ tail) in
    let all : sum raw ≡ sum front + sum tail = sum-append front (little_bytes 1 0 ++ tail) in
    let one : sum (little_bytes 1 (checksum_of raw)) ≡ checksum_of raw % 256 = omega arith in
    let new : sum (front ++ (little_bytes 1 (checksum_of raw) ++ tail)) ≡ sum front + (sum (little_bytes 1 (checksum_of raw)) + sum tail) =
    sum-append front (little_bytes 1 (checksum_of raw) ++ tail) ∙ ap (λ (m : ℕ). sum front + m) (sum-append (little_bytes 1 (checksum_of raw)) tail) in
    balanced (sum front) (sum tail) (sum raw) (checksum_of raw) (sum (front ++ (little_bytes 1 (checksum_of raw) ++ tail))) (sum (little_bytes 1 (checksum_of raw))) all refl one new

-- ---- the bytes of the pieces

-- the first four pieces apart: the second has the length, and the fourth the checksum
abbrev pub length_bytes : Piece → Piece → Piece → Piece → List Piece → List ℕ
length_bytes p0 p1 p2 p3 ps = little_bytes 4 (length (joined (p0 ∷ p1 ∷ p2 ∷ p3 ∷ ps)))

abbrev pub checksum_bytes : Piece → Piece → Piece → Piece → List Piece → List ℕ
checksum_bytes p0 p1 p2 p3 ps = little_bytes 1 (checksum_of (p0.bytes ++ (length_bytes p0 p1 p2 p3 ps ++ (p2.bytes ++ (p3.bytes ++ joined ps)))))

pub checksum_width : (p0 p1 p2 p3 : Piece) (ps : List Piece) → length (checksum_bytes p0 p1 p2 p3 ps) ≡ 1
checksum_width p0 p1 p2 p3 ps = little_length 1 (checksum_of (p0.bytes ++ (length_bytes p0 p1 p2 p3 ps ++ (p2.bytes ++ (p3.bytes ++ joined ps)))))

sealed_bytes : (p0 p1 p2 p3 : Piece) (ps : List Piece) → joined (sealed (p0 ∷ p1 ∷ p2 ∷ p3 ∷ ps)) ≡ p0.bytes ++ (length_bytes p0 p1 p2 p3 ps ++ (p2.bytes ++ (checksum_bytes p0 p1 p2 p3 ps ++ joined ps)))
sealed_bytes p0 p1 p2 p3 ps = refl

lengths : (u v w x y : List ℕ) → length (u ++ (v ++ (w ++ (x ++ y)))) ≡ length u + (length v + (length w + (length x + length y)))
lengths u v w x y =
    length-append u (v ++ (w ++ (x ++ y))) ∙ ap (λ (m : ℕ). length u + m) (length-append v (w ++ (x ++ y)) ∙ ap (λ (m : ℕ). length v + m) (length-append w (x ++ y) ∙ ap (λ (m : ℕ). length w + m) (length-append x y)))

regrouped : (u v w x : List ℕ) → u ++ (v ++ (w ++ x)) ≡ (u ++ v ++ w) ++ x
regrouped u v w x = sym (append_assoc (u ++ v) w x ∙ append_assoc u v (w ++ x))

-- sealing keeps the number of the bytes, and makes their sum 0
pub sealed_length : (p0 p1 p2 p3 : Piece) (ps : List Piece) → length p1.bytes ≡ 4 → length p3.bytes ≡ 1 → length (joined (sealed (p0 ∷ p1 ∷ p2 ∷ p3 ∷ ps))) ≡ length (joined (p0 ∷ p1 ∷ p2 ∷ p3 ∷ ps))
sealed_length p0 p1 p2 p3 ps e f =
    let l : List ℕ = length_bytes p0 p1 p2 p3 ps in
    let c : List ℕ = checksum_bytes p0 p1 p2 p3 ps in
    let new = lengths p0.bytes l p2.bytes c (joined ps) in
    let old = lengths p0.bytes p1.bytes p2.bytes p3.bytes (joined ps) in
    let a : length l ≡ 4 = little_length 4 (length (joined (p0 ∷ p1 ∷ p2 ∷ p3 ∷ ps))) in
    let b : length c ≡ 1 = little_length 1 (checksum_of (p0.bytes ++ (l ++ (p2.bytes ++ (p3.bytes ++ joined ps))))) in
    new ∙ ap (λ (m : ℕ). length p0.bytes + (m + (length p2.bytes + (length c + length (joined ps))))) (a ∙ sym e)
    ∙ ap (λ (m : ℕ). length p0.bytes + (length p1.bytes + (length p2.bytes + (m + length (joined ps))))) (b ∙ sym f) ∙ sym old

pub sealed_sum : (p0 p1 p2 p3 : Piece) (ps : List Piece) → p3.bytes ≡ little_bytes 1 0 → sum (joined (sealed (p0 ∷ p1 ∷ p2 ∷ p3 ∷ ps))) % 256 ≡ 0
sealed_sum p0 p1 p2 p3 ps e =
    let l : List ℕ = length_bytes p0 p1 p2 p3 ps in
    let front : List ℕ = p0.bytes ++ l ++ p2.bytes in
    let tail : List ℕ = joined ps in
    let raw : p0.bytes ++ (l ++ (p2.bytes ++ (p3.bytes ++ tail))) ≡ front ++ (little_bytes 1 0 ++ tail) =
    regrouped p0.bytes l p2.bytes (p3.bytes ++ tail) ∙ ap (λ (b : List ℕ). front ++ (b ++ tail)) e in
    ap (λ (bs : List ℕ). sum bs % 256) (
    regrouped p0.bytes l p2.bytes (checksum_bytes p0 p1 p2 p3 ps ++ tail)
    ∙ ap (λ (bs : List ℕ). front ++ (little_bytes 1 (checksum_of bs) ++ tail)) raw) ∙ checksum_zero front tail

-- ---- the signature

four : (s : List ℕ) (word : List ℕ) → length word ≡ 4 → bytes_eq s word ≡ true → length s ≡ 4
four s word w e = ap length ((bytes_eq-Decides s word).0 e) ∙ w

four_of : (s : List ℕ) (table : Table) (ls : List Layout) → list_all (λ (l : Layout). length l.signature == 4) ls ≡ true → find_table s ls ≡ Some table → length s ≡ 4
four_of s table [] all e = absurd cc
four_of s table (l ∷ ls) all e =
    let each = and_parts (length l.signature == 4) _ all in
    let width : length l.signature ≡ 4 = let q = each.0 in grind (arith, common_steps) in
    by (bytes_eq s l.signature) width (λ k. four_of s table ls each.1 k) refl e
  where
    by : (b : Bool) → length l.signature ≡ 4 → (find_table s ls ≡ Some table → length s ≡ 4) → bytes_eq s l.signature ≡ b → cond b (Some l.table) (find_table s ls) ≡ Some table → length s ≡ 4
    by true width others f g = four s l.signature width f
    by false width others f g = others g

signature_four : (s : List ℕ) (table : Table) → table_of s ≡ Some table → length s ≡ 4
signature_four s table e = four_of s table layouts refl e

filled_four : (s : List ℕ) → length s ≡ 4 → filled 4 s ≡ s
filled_four s e =
    let none : 4 - length s ≡ 0 = omega arith in
    ap (λ (n : ℕ). take 4 s ++ replicate n 0) none ∙ append-nil (take 4 s) ∙ take_all 4 s (omega arith)

-- the bytes of the first field are the signature
signed : (table : Table) (text s : List ℕ) (value : Value) → text_in text ≡ Some s → length s ≡ 4 → value_of table (h 0) text ≡ Ok value → field_bytes (h 0) value ≡ s
signed table text s value e l g =
    let v = given_text (h 0) (text_in text) value g in
    let same : s ≡ v.0 = let both : ◌≡◌ {A = Option (List ℕ)} (Some s) (Some v.0) = sym e ∙ v.1 in cc in
    ap (field_bytes (h 0)) v.2 ∙ ap (filled 4) (sym same) ∙ filled_four s l

-- the revision that was read
pub record IsRevision (all : List ℕ) (table : Table) (value : Value) : Type 0 where
  pub known : revision_fault table 1 (number_of_value value) ≡ None
  pub spelled : IsSpelled all (h 2) value (field_bytes (h 2) value)
  pub number : number_of (field_bytes (h 2) value) ≡ number_of_value value

pub revised : (all : List ℕ) (table : Table) (text : List ℕ) (value : Value) → value_of table (h 2) text ≡ Ok value → IsRevision all table value
revised all table text value g =
    let n = given_number table (h 2) (number_in text) value g in
    let small : n.0 < 2 ^ (8 * 1) = small_revision table n.0 n.2 in
    subst (λ (v : Value). IsRevision all table v) (sym n.1) (record { known = n.2; spelled = numbered all (h 2) n.0 refl small tt; number = little_back 1 n.0 small })

-- ---- the whole table

longer : (before here : List ℕ) (n m w : ℕ) → length before ≡ n → length here ≡ w → n + w ≡ m → length (before ++ here) ≡ m
longer before here n m w e f g = length-append before here ∙ ap (λ (k : ℕ). k + length here) e ∙ ap (λ (k : ℕ). n + k) f ∙ g

abbrev header_and : List Row → List Row
header_and rows = h 0 ∷ h 1 ∷ h 2 ∷ h 3 ∷ h 4 ∷ h 5 ∷ h 6 ∷ h 7 ∷ h 8 ∷ rows

finish : (table : Table) (revision : ℕ) (bytes s : List ℕ) (entries : List Entry) → table_of s ≡ Some table → bytes_at bytes 0 4 ≡ s → revision_fault table 1 revision ≡ None → number_read bytes 8 1 ≡ revision → Reads table bytes (header_and (fixed_rows table revision)) (rest_of table bytes) 0 0 entries → ReadsAs bytes entries
finish table revision bytes s entries is_table signature known number r =
    let rows : header_and (fixed_rows table revision) ≡ first_rows table bytes =
    ap (λ (n : ℕ). header_and (fixed_rows table n)) (sym number) ∙ ap (λ (hs : List Row). hs ++ fixed_rows table (number_read bytes 8 1)) (sym header_is) in
    let q : Reads table bytes (first_rows table bytes) (rest_of table bytes) 0 0 entries = subst (λ (rs : List Row). Reads table bytes rs (rest_of table bytes) 0 0 entries) rows r in
    record {
      table = table;
      signature = ap table_of signature ∙ is_table;
      revision = subst (IsKnownRevision table) (sym number) (known_revision table revision known);
      stand = q.stand;
      more = q.more;
      rest = subst (λ (o : ℕ). IsRest table bytes (rest_of table bytes) 0 o q.more) (zero-add (size_of (first_rows table bytes))) q.rest;
      values = q.values;
    }

pub table_read : (table : Table) (fields : List Field) (s : List ℕ) (f : FieldsOf (first_part table) fields) → table_of s ≡ Some table → text_in (headed table fields f).t0.field.line.value ≡ Some s → length (joined (map piece_of fields)) < 2 ^ 32 → ReadsAs (joined (sealed (map piece_of fields))) (entries_from 0 fields)
table_read table fields s f is_table is_text short =
    let H = headed table fields f in
    let v0 = H.t0.field.value in
    let v2 = H.t2.field.value in
    let revision = number_of_value v2 in
    let p0 : Piece = piece_of H.t0.field in
    let p1 : Piece = piece_of H.t1.field in
    let p2 : Piece = piece_of H.t2.field in
    let p3 : Piece = piece_of H.t3.field in
    let ps : List Piece = map piece_of H.t3.rest in
    let firsts : fields ≡ H.t0.field ∷ (H.t1.field ∷ (H.t2.field ∷ (H.t3.field ∷ H.t3.rest))) =
    H.t0.are ∙ ap (λ (fs : List Field). H.t0.field ∷ fs) (H.t1.are ∙ ap (λ (fs : List Field). H.t1.field ∷ fs) (H.t2.are ∙ ap (λ (fs : List Field). H.t2.field ∷ fs) H.t3.are)) in
    let B : List ℕ = joined (sealed (p0 ∷ p1 ∷ p2 ∷ p3 ∷ ps)) in
    let L : ℕ = length (joined (p0 ∷ p1 ∷ p2 ∷ p3 ∷ ps)) in
    let LB : List ℕ = length_bytes p0 p1 p2 p3 ps in
    let CB : List ℕ = checksum_bytes p0 p1 p2 p3 ps in
    let b0 : List ℕ = field_bytes (h 0) v0 in
    let b2 : List ℕ = field_bytes (h 2) v2 in
    let b4 : List ℕ = field_bytes (h 4) H.t4.field.value in
    let b5 : List ℕ = field_bytes (h 5) H.t5.field.value in
    let b6 : List ℕ = field_bytes (h 6) H.t6.field.value in
    let b7 : List ℕ = field_bytes (h 7) H.t7.field.value in
    let b8 : List ℕ = field_bytes (h 8) H.t8.field.value in
    let Rest3 : List ℕ = joined (map piece_of H.t3.rest) in
    let Rest4 : List ℕ = joined (map piece_of H.t4.rest) in
    let Rest5 : List ℕ = joined (map piece_of H.t5.rest) in
    let Rest6 : List ℕ = joined (map piece_of H.t6.rest) in
    let Rest7 : List ℕ = joined (map piece_of H.t7.rest) in
    let Rest8 : List ℕ = joined (map piece_of H.t8.rest) in
    let q0 : p0.bytes ≡ b0 = ap (λ (r : Row). field_bytes r v0) H.t0.first.row_is in
    let q1 : p1.bytes ≡ little_bytes 4 0 = ap (λ (r : Row). field_bytes r H.t1.field.value) H.t1.first.row_is in
    let q2 : p2.bytes ≡ b2 = ap (λ (r : Row). field_bytes r v2) H.t2.first.row_is in
    let q3 : p3.bytes ≡ little_bytes 1 0 = ap (λ (r : Row). field_bytes r H.t3.field.value) H.t3.first.row_is in
    let whole : length B ≡ L = sealed_length p0 p1 p2 p3 ps (ap length q1) (ap length q3) in
    let size : L < 2 ^ (8 * 4) = subst (λ (fs : List Field). length (joined (map piece_of fs)) < 2 ^ 32) firsts short in
    let Tail0 : List ℕ = LB ++ (b2 ++ (CB ++ Rest3)) in
    let e0 : B ≡ [] ++ (b0 ++ Tail0) = ap (λ (x : List ℕ). x ++ (LB ++ (p2.bytes ++ (CB ++ Rest3)))) q0 ∙ ap (λ (x : List ℕ). b0 ++ (LB ++ (x ++ (CB ++ Rest3)))) q2 in
    let B0 : List ℕ = [] ++ b0 in
    let B1 : List ℕ = B0 ++ LB in
    let B2 : List ℕ = B1 ++ b2 in
    let B3 : List ℕ = B2 ++ CB in
    let B4 : List ℕ = B3 ++ b4 in
    let B5 : List ℕ = B4 ++ b5 in
    let B6 : List ℕ = B5 ++ b6 in
    let B7 : List ℕ = B6 ++ b7 in
    let B8 : List ℕ = B7 ++ b8 in
    let e1 : B ≡ B0 ++ (LB ++ (b2 ++ (CB ++ Rest3))) = shifted B [] b0 Tail0 e0 in
    let e2 : B ≡ B1 ++ (b2 ++ (CB ++ Rest3)) = shifted B B0 LB (b2 ++ (CB ++ Rest3)) e1 in
    let e3 : B ≡ B2 ++ (CB ++ Rest3) = shifted B B1 b2 (CB ++ Rest3) e2 in
    let e4 : B ≡ B3 ++ (b4 ++ Rest4) = shifted B B2 CB Rest3 e3 ∙ ap (λ (x : List ℕ). B3 ++ x) (bytes_taken table revision (h 4) (behind_h 5) a.Fixed H.t3.rest H.t4) in
    let e5 : B ≡ B4 ++ (b5 ++ Rest5) = shifted B B3 b4 Rest4 e4 ∙ ap (λ (x : List ℕ). B4 ++ x) (bytes_taken table revision (h 5) (behind_h 6) a.Fixed H.t4.rest H.t5) in
    let e6 : B ≡ B5 ++ (b6 ++ Rest6) = shifted B B4 b5 Rest5 e5 ∙ ap (λ (x : List ℕ). B5 ++ x) (bytes_taken table revision (h 6) (behind_h 7) a.Fixed H.t5.rest H.t6) in
    let e7 : B ≡ B6 ++ (b7 ++ Rest7) = shifted B B5 b6 Rest6 e6 ∙ ap (λ (x : List ℕ). B6 ++ x) (bytes_taken table revision (h 7) (behind_h 8) a.Fixed H.t6.rest H.t7) in
    let e8 : B ≡ B7 ++ (b8 ++ Rest8) = shifted B B6 b7 Rest7 e7 ∙ ap (λ (x : List ℕ). B7 ++ x) (bytes_taken table revision (h 8) [] a.Fixed H.t7.rest H.t8) in
    let e9 : B ≡ B8 ++ Rest8 = shifted B B7 b8 Rest8 e8 in
    let s0 : IsSpelled B (h 0) v0 b0 = plain_spelled B table (h 0) H.t0.field.line.value v0 refl H.t0.first.given in
    let s1 : IsSpelled B (h 1) H.t1.field.value LB = record { width = little_length 4 L; reads = refl; stands = little_back 4 L size ∙ sym whole } in
    let known = revised B table H.t2.field.line.value v2 H.t2.first.given in
    let s3 : IsSpelled B (h 3) H.t3.field.value CB = record { width = checksum_width p0 p1 p2 p3 ps; reads = refl; stands = sealed_sum p0 p1 p2 p3 ps q3 } in
    let s4 : IsSpelled B (h 4) H.t4.field.value b4 = plain_spelled B table (h 4) H.t4.field.line.value H.t4.field.value refl H.t4.first.given in
    let s5 : IsSpelled B (h 5) H.t5.field.value b5 = plain_spelled B table (h 5) H.t5.field.line.value H.t5.field.value refl H.t5.first.given in
    let s6 : IsSpelled B (h 6) H.t6.field.value b6 = plain_spelled B table (h 6) H.t6.field.line.value H.t6.field.value refl H.t6.first.given in
    let s7 : IsSpelled B (h 7) H.t7.field.value b7 = record { width = refl; reads = refl; stands = refl } in
    let s8 : IsSpelled B (h 8) H.t8.field.value b8 = record { width = refl; reads = refl; stands = refl } in
    let l1 : length B1 ≡ 8 = longer B0 LB 4 8 4 s0.width s1.width refl in
    let l2 : length B2 ≡ 9 = longer B1 b2 8 9 1 l1 known.spelled.width refl in
    let l3 : length B3 ≡ 10 = longer B2 CB 9 10 1 l2 s3.width refl in
    let l4 : length B4 ≡ 16 = longer B3 b4 10 16 6 l3 s4.width refl in
    let l5 : length B5 ≡ 24 = longer B4 b5 16 24 8 l4 s5.width refl in
    let l6 : length B6 ≡ 28 = longer B5 b6 24 28 4 l5 s6.width refl in
    let l7 : length B7 ≡ 32 = longer B6 b7 28 32 4 l6 s7.width refl in
    let l8 : length B8 ≡ 36 = longer B7 b8 32 36 4 l7 s8.width refl in
    let later : Tail = rest_of table B in
    let rows : List Row = fixed_rows table revision in
    let r9 = fixed_read table revision H.t8.rest B B8 l8 known.known e9 H.left in
    let r8 = header_step table revision (h 8) [] rows a.Fixed H.t7.rest B B7 b8 Rest8 later H.t8 s8 e8 r9 in
    let r7 = header_step table revision (h 7) (behind_h 8) (h 8 ∷ rows) a.Fixed H.t6.rest B B6 b7 Rest7 later H.t7 s7 e7 r8 in
    let r6 = header_step table revision (h 6) (behind_h 7) (h 7 ∷ h 8 ∷ rows) a.Fixed H.t5.rest B B5 b6 Rest6 later H.t6 s6 e6 r7 in
    let r5 = header_step table revision (h 5) (behind_h 6) (h 6 ∷ h 7 ∷ h 8 ∷ rows) a.Fixed H.t4.rest B B4 b5 Rest5 later H.t5 s5 e5 r6 in
    let r4 = header_step table revision (h 4) (behind_h 5) (h 5 ∷ h 6 ∷ h 7 ∷ h 8 ∷ rows) a.Fixed H.t3.rest B B3 b4 Rest4 later H.t4 s4 e4 r5 in
    let r3 = header_step table revision (h 3) (behind_h 4) (h 4 ∷ h 5 ∷ h 6 ∷ h 7 ∷ h 8 ∷ rows) a.Fixed H.t2.rest B B2 CB Rest3 later H.t3 s3 e3 r4 in
    let r2 = header_step table 0 (h 2) (behind_h 3) (h 3 ∷ h 4 ∷ h 5 ∷ h 6 ∷ h 7 ∷ h 8 ∷ rows) a.Fixed H.t1.rest B B1 b2 (CB ++ Rest3) later H.t2 known.spelled e2 r3 in
    let r1 = header_step table 0 (h 1) (behind_h 2) (h 2 ∷ h 3 ∷ h 4 ∷ h 5 ∷ h 6 ∷ h 7 ∷ h 8 ∷ rows) a.Fixed H.t0.rest B B0 LB (b2 ++ (CB ++ Rest3)) later H.t1 s1 e1 r2 in
    let r0 = header_step table 0 (h 0) (behind_h 1) (h 1 ∷ h 2 ∷ h 3 ∷ h 4 ∷ h 5 ∷ h 6 ∷ h 7 ∷ h 8 ∷ rows) a.Fixed fields B [] b0 Tail0 later H.t0 s0 e0 r1 in
    let number : number_read B 8 1 ≡ revision = ap (λ (o : ℕ). number_read B o 1) (sym l1) ∙ ap number_of (bytes_here B B1 b2 (CB ++ Rest3) 1 e2 known.spelled.width) ∙ known.number in
    let signature : bytes_at B 0 4 ≡ s = bytes_here B [] b0 Tail0 4 e0 s0.width ∙ signed table H.t0.field.line.value s v0 is_text (signature_four s table is_table) H.t0.first.given in
    let same : joined (sealed (map piece_of fields)) ≡ B = ap (λ (fs : List Field). joined (sealed (map piece_of fs))) firsts in
    subst (λ (bs : List ℕ). ReadsAs bs (entries_from 0 fields)) (sym same) (finish table revision B s (entries_from 0 fields) is_table signature known.known number r0)

-- ---- of a compiled text

on_walk : (signature : List ℕ) (w : Walked) (out : Compiled) → answer_of signature w ≡ Ok out → (w.faults ≡ []) × (out.pieces ≡ sealed (map piece_of w.fields))
on_walk signature w out e =
    elim w.faults as (λ fs. answer_by signature (map piece_of w.fields) w.notes fs ≡ Ok out → (fs ≡ []) × (out.pieces ≡ sealed (map piece_of w.fields))) [
      | [] ↦ λ g.
          let made : Compiled = record { pieces = sealed (map piece_of w.fields); signature = signature; notes = w.notes } in
          let both : ◌≡◌ {A = Answer} (Ok made) (Ok out) = g in
          let same : made ≡ out = cc in
          (refl, sym (ap (λ (c : Compiled). c.pieces) same))
      | fault ∷ faults ↦ λ g. let both : ◌≡◌ {A = Answer} (Err (fault ∷ faults)) (Ok out) = g in absurd cc
    ] e

value_is : (line : FieldLine) (s : List ℕ) → signature_in line ≡ Some s → text_in line.value ≡ Some s
value_is line s e =
    elim line.colon as (λ b. cond b (text_in line.value) None ≡ Some s → text_in line.value ≡ Some s) [
      | true ↦ λ g. g
      | false ↦ λ g. absurd cc
    ] e

on_fields : (table : Table) (s : List ℕ) (first : FieldLine) (fields : List Field) (f : FieldsOf (first_part table) fields) → table_of s ≡ Some table → text_in first.value ≡ Some s → (field : Field) × (others : List Field) × (fields ≡ field ∷ others) × (field.line ≡ first) → length (joined (map piece_of fields)) < 2 ^ 32 → ReadsAs (joined (sealed (map piece_of fields))) (entries_from 0 fields)
on_fields table s first fields f is_table is_text on_first short =
    let H = headed table fields f in
    let both : ◌≡◌ {A = List Field} (H.t0.field ∷ H.t0.rest) (on_first.0 ∷ on_first.1) = sym H.t0.are ∙ on_first.2 in
    let field : H.t0.field ≡ on_first.0 = cc in
    let line : H.t0.field.line ≡ first = ap (λ (g : Field). g.line) field ∙ on_first.3 in
    table_read table fields s f is_table (ap (λ (l : FieldLine). text_in l.value) line ∙ is_text) short

on_table : (text : DataText) (first : FieldLine) (rest : List FieldLine) (s : List ℕ) (found : Option Table) (out : Compiled) → text.lines ≡ first ∷ rest → signature_in first ≡ Some s → table_of s ≡ found → compiled_table text first s found ≡ Ok out → length (joined (map piece_of (fields_of_table text found))) < 2 ^ 32 → ReadsAs (joined out.pieces) (entries_from 0 (fields_of_table text found))
on_table text first rest s None out lines signature is e short = let both : ◌≡◌ {A = Answer} (compiled_table text first s None) (Ok out) = e in absurd cc
on_table text first rest s (Some table) out lines signature is e short =
    let w : Walked = walk text.end (first_part table) None text.lines in
    let done = on_walk s w out e in
    let fields = walk_fields text.end (first_part table) None text.lines done.0 in
    let on_first = first_field text.end (first_part table) first rest (subst (λ (ls : List FieldLine). (walk text.end (first_part table) None ls).faults ≡ []) lines done.0) in
    let at_first : (field : Field) × (others : List Field) × (w.fields ≡ field ∷ others) × (field.line ≡ first) =
    (on_first.0, on_first.1, ap (λ (ls : List FieldLine). (walk text.end (first_part table) None ls).fields) lines ∙ on_first.2, on_first.3) in
    subst (λ (ps : List Piece). ReadsAs (joined ps) (entries_from 0 w.fields)) (sym done.1) (on_fields table s first w.fields fields is (value_is first s signature) at_first short)

on_signature : (text : DataText) (first : FieldLine) (rest : List FieldLine) (found : Option (List ℕ)) (out : Compiled) → text.lines ≡ first ∷ rest → signature_in first ≡ found → compiled_signed text first found ≡ Ok out → length (joined (map piece_of (fields_signed text found))) < 2 ^ 32 → ReadsAs (joined out.pieces) (entries_from 0 (fields_signed text found))
on_signature text first rest None out lines is e short = let both : ◌≡◌ {A = Answer} (compiled_signed text first None) (Ok out) = e in absurd cc
on_signature text first rest (Some s) out lines is e short = on_table text first rest s (table_of s) out lines is refl e short

on_lines : (text : DataText) (lines : List FieldLine) (out : Compiled) → text.lines ≡ lines → compiled_lines text lines ≡ Ok out → length (joined (map piece_of (fields_by text lines))) < 2 ^ 32 → ReadsAs (joined out.pieces) (entries_from 0 (fields_by text lines))
on_lines text [] out is e short = let both : ◌≡◌ {A = Answer} (compiled_lines text []) (Ok out) = e in absurd cc
on_lines text (first ∷ rest) out is e short =
    elim first.colon as (λ b. cond b (compiled_signed text first (signature_in first)) (refused 6093 first.place) ≡ Ok out → ReadsAs (joined out.pieces) (entries_from 0 (fields_by text (first ∷ rest)))) [
      | true ↦ λ g. on_signature text first rest (signature_in first) out is refl g short
      | false ↦ λ g. absurd cc
    ] e

joined_with_texts : (lines : List Line) (pieces : List Piece) → joined (with_texts lines pieces) ≡ joined pieces
joined_with_texts lines [] = refl
joined_with_texts lines (piece ∷ pieces) = ap (λ (bytes : List ℕ). piece.bytes ++ bytes) (joined_with_texts lines pieces)

pub bytes_stay : (lines : List Line) (answer : Answer) (out : Compiled) → answer_with_texts lines answer ≡ Ok out → (table : Compiled) × (answer ≡ Ok table) × (joined out.pieces ≡ joined table.pieces)
bytes_stay lines (Ok table) out e =
    let made : Compiled = record table { pieces = with_texts lines table.pieces } in
    let both : ◌≡◌ {A = Answer} (Ok made) (Ok out) = e in
    let is : made ≡ out = cc in
    (table, refl, ap (λ (t : Compiled). joined t.pieces) (sym is) ∙ joined_with_texts lines table.pieces)
bytes_stay lines (Err faults) out e = let both : ◌≡◌ {A = Answer} (Err faults) (Ok out) = e in absurd cc

-- the bytes of a compiled text, of which there are fewer than 2^32, read as the values that the text writes
pub reads_as_written : (lines : List Line) (out : Compiled) → compiled lines ≡ Ok out → length (unsealed_bytes lines) < 2 ^ 32 → ReadsAs (joined out.pieces) (written_values lines)
reads_as_written lines out e short =
    let inner = bytes_stay lines (compiled_text (text_of lines)) out e in
    subst (λ (bytes : List ℕ). ReadsAs bytes (written_values lines)) (sym inner.2) (on_lines (text_of lines) (text_of lines).lines inner.0 refl inner.1 short)
