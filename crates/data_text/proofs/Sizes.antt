-- The values of a text's field lines are no longer than its lines: each value with one byte more counts for the lines
-- that it stands in, each with its end.
use Rattle.std.proofs.Common.{◌≡◌, ◌≤◌, ◌+◌, ◌==◌, ◌&&◌, not, ℕ, suc, Bool, true, false, cond, List, [], ◌∷◌, length, drop, position, Option, Some, None, refl, ap, arith, length-append}
use Rattle.std.specs.List.{sum_by}
use Rattle.std.specs.Option.{option_map}
use Rattle.std.proofs.lemmas.List.{length-drop}
use Rattle.std.proofs.lemmas.List.Sums.{sum_by-cons, sum_by-append}
use Rattle.iasl_messages.specs.declared.place.Place.{Place}
use Rattle.iasl_messages.specs.declared.place.Line.{Line}
use Rattle.data_text.specs.declared.comments.Mode.{Mode}
use Rattle.data_text.specs.declared.comments.Mode.TheVariants as m
use Rattle.data_text.specs.declared.values.Pair.{Pair}
use Rattle.data_text.specs.declared.values.Pair.TheVariants as p
use Rattle.data_text.specs.declared.field_line.FieldLine.{FieldLine}
use Rattle.data_text.specs.declared.field_line.DataText.{DataText}
use Rattle.hex_text.specs.Blanks.{is_blank, has_blanks_alone, drop_blanks}
use Rattle.data_text.specs.Labels.{before_backslash, ending_of, ending}
use Rattle.data_text.specs.Comments.{next_mode, first_or_zero, uncommented_from, mode_after, at_line_end}
use Rattle.data_text.specs.Parts.{Begun, before_remark, behind_closing, after_bracket, halves_at, begun, begun_with, begun_behind, extended, kept, place_of}
use Rattle.data_text.specs.Source.{ends_source, done_of, open_of, done_by, open_by, finished, with_lines, text_from, first_place, text_of}
use Rattle.hex_text.specs.Digits.{byte_of}
use Rattle.data_text.specs.Values.{with_first, bytes_at, bytes_in}

-- how many bytes a line has with its end, and a value with one byte more
abbrev pub line_size : Line → ℕ
line_size line = length line.text + 1

abbrev pub value_size : FieldLine → ℕ
value_size line = length line.value + 1

-- the values of field lines, each with one byte more
abbrev pub value_sizes : List FieldLine → ℕ
value_sizes lines = sum_by value_size lines

-- so many bytes at most, where there are some
abbrev pub IsUpTo : ℕ → Option (List ℕ) → Type 0
IsUpTo n None = Unit {0}
IsUpTo n (Some bytes) = length bytes ≤ n

up_to_more : (n : ℕ) (found : Option (List ℕ)) → IsUpTo n found → IsUpTo (suc n) found
up_to_more n None h = tt
up_to_more n (Some bytes) h = omega (arith, h)

with_one : (n c : ℕ) (found : Option (List ℕ)) → IsUpTo n found → IsUpTo (suc n) (option_map (λ front. c ∷ front) found)
with_one n c None h = tt
with_one n c (Some front) h = omega (arith, h)

-- ---- the parts of a line

bare_length : (mode : Mode) (text : List ℕ) → length (uncommented_from mode text) ≡ length text
bare_length mode [] = refl
bare_length mode (c ∷ rest) = ap (λ (n : ℕ). suc n) (bare_length (next_mode mode c (first_or_zero rest)) rest)

pub blanks_length : (text : List ℕ) → length (drop_blanks text) ≤ length text
blanks_length [] = omega arith
blanks_length (c ∷ rest) = by (is_blank c) (blanks_length rest)
  where
    by : (b : Bool) → length (drop_blanks rest) ≤ length rest → length (cond b (drop_blanks rest) (c ∷ rest)) ≤ length (c ∷ rest)
    by true h = omega (arith, h)
    by false h = omega arith

remark_length : (quoted : Bool) (text : List ℕ) → length (before_remark quoted text) ≤ length text
remark_length quoted [] = omega arith
remark_length quoted (c ∷ rest) = by (c == 91 && not quoted) (before_remark (cond (c == 34) (not quoted) quoted) rest) (remark_length (cond (c == 34) (not quoted) quoted) rest)
  where
    by : (b : Bool) (more : List ℕ) → length more ≤ length rest → length (cond b [] (c ∷ more)) ≤ length (c ∷ rest)
    by true more h = omega arith
    by false more h = omega (arith, h)

closing_length : (text inside : List ℕ) (found : Option ℕ) → length inside ≤ length text → length (behind_closing text inside found).0 ≤ length text
closing_length text inside None h = omega arith
closing_length text inside (Some end) h = let d = length-drop (end + 1) inside in omega (arith, d, h)

bracket_length : (text : List ℕ) → length (after_bracket text).0 ≤ length text
bracket_length [] = omega arith
bracket_length (c ∷ inside) = by (c == 91)
  where
    by : (b : Bool) → length (cond {A = List ℕ × Bool} b (behind_closing (c ∷ inside) inside (position (λ d. d == 93) inside)) (c ∷ inside, false)).0 ≤ length (c ∷ inside)
    by true = closing_length (c ∷ inside) inside (position (λ d. d == 93) inside) (omega arith)
    by false = omega arith

backslash_length : (text : List ℕ) → IsUpTo (length text) (before_backslash text)
backslash_length [] = tt
backslash_length (c ∷ rest) = by (c == 92 && has_blanks_alone rest) (backslash_length rest)
  where
    by : (b : Bool) → IsUpTo (length rest) (before_backslash rest) → IsUpTo (length (c ∷ rest)) (cond b (Some []) (option_map (λ front. c ∷ front) (before_backslash rest)))
    by true h = omega arith
    by false h = with_one (length rest) c (before_backslash rest) h

ending_length : (text : List ℕ) → length (ending text).0 ≤ length text
ending_length text = by (before_backslash text) (backslash_length text)
  where
    by : (found : Option (List ℕ)) → IsUpTo (length text) found → length (ending_of text found).0 ≤ length text
    by None h = omega arith
    by (Some front) h = h

-- ---- field lines

begun_size : (line : Line) (bare : List ℕ) → value_size (begun line bare).0 ≤ length bare + 1
begun_size line bare =
    let blanks = blanks_length bare in
    let bracket = bracket_length (drop_blanks bare) in
    by_bracket (after_bracket (drop_blanks bare)) (omega (arith, blanks, bracket))
  where
    by_halves : (bracketed : Bool) (text : List ℕ) (found : Option ℕ) → length text ≤ length bare → value_size (begun_with line bracketed (halves_at text found)).0 ≤ length bare + 1
    by_halves bracketed text None h = omega arith
    by_halves bracketed text (Some end) h =
        let value = drop (end + 1) text in
        let d = length-drop (end + 1) text in
        let e = ending_length value in
        omega (arith, d, e, h)

    by_bracket : (text : List ℕ × Bool) → length text.0 ≤ length bare → value_size (begun_behind line text).0 ≤ length bare + 1
    by_bracket text h =
        let front = before_remark false text.0 in
        let remark = remark_length false text.0 in
        by_halves text.1 front (position (λ c. c == 58) front) (omega (arith, remark, h))

extended_size : (pending : FieldLine) (bare : List ℕ) → value_size (extended pending bare).0 ≤ value_size pending + (length bare + 1)
extended_size pending bare =
    let front = before_remark false bare in
    let more = (ending front).0 in
    let remark = remark_length false bare in
    let e = ending_length front in
    let all = length-append pending.value (32 ∷ more) in
    omega (arith, remark, e, all)

kept_size : (line : FieldLine) → value_sizes (kept line) ≤ value_size line
kept_size line = by (line.colon && has_blanks_alone line.value)
  where
    by : (b : Bool) → value_sizes (cond b [] (line ∷ [])) ≤ value_size line
    by true = omega arith
    by false = omega arith

-- the same of a field line that goes on, where there is one
abbrev open_size : Option FieldLine → ℕ
open_size None = 0
open_size (Some pending) = value_size pending

-- a line is done or goes on
turned_size : (line : Begun) → value_sizes (done_of line) + open_size (open_of line) ≤ value_size line.0
turned_size line = by line.1
  where
    by : (b : Bool) → value_sizes (cond b [] (kept line.0)) + open_size (cond b (Some line.0) None) ≤ value_size line.0
    by true = omega arith
    by false = let h = kept_size line.0 in omega (arith, h)

line_sizes : (pending : Option FieldLine) (line : Line) (bare : List ℕ) → value_sizes (done_by pending line bare) + open_size (open_by pending line bare) ≤ open_size pending + (length bare + 1)
line_sizes None line bare = by (has_blanks_alone bare)
  where
    by : (b : Bool) → value_sizes (cond b [] (done_of (begun line bare))) + open_size (cond b None (open_of (begun line bare))) ≤ 0 + (length bare + 1)
    by true = omega arith
    by false =
        let t = turned_size (begun line bare) in
        let b = begun_size line bare in
        omega (arith, t, b)
line_sizes (Some pending) line bare =
    let t = turned_size (extended pending bare) in
    let e = extended_size pending bare in
    omega (arith, t, e)

finished_size : (pending : Option FieldLine) → value_sizes (finished pending) ≤ open_size pending
finished_size None = omega arith
finished_size (Some pending) = kept_size pending

-- ---- a text

from_sizes : (mode : Mode) (pending : Option FieldLine) (end : Place) (lines : List Line) → value_sizes (text_from mode pending end lines).lines ≤ open_size pending + sum_by line_size lines
from_sizes mode pending end [] = let h = finished_size pending in omega (arith, h)
from_sizes mode pending end (line ∷ rest) =
    by (ends_source bare) (from_sizes (at_line_end (mode_after mode line.text)) (open_by pending line bare) (place_of line) rest)
  where
    bare : List ℕ
    bare = uncommented_from mode line.text

    after : DataText
    after = text_from (at_line_end (mode_after mode line.text)) (open_by pending line bare) (place_of line) rest

    done : List FieldLine
    done = done_by pending line bare

    by : (b : Bool) → value_sizes after.lines ≤ open_size (open_by pending line bare) + sum_by line_size rest
        → value_sizes (cond b (record { lines = finished pending; end = end }) (with_lines done after)).lines ≤ open_size pending + sum_by line_size (line ∷ rest)
    by true h = let f = finished_size pending in omega (arith, f)
    by false h =
        let same = bare_length mode line.text in
        let here = line_sizes pending line bare in
        let parts = sum_by-append value_size done after.lines in
        let all = sum_by-cons line_size line rest in
        omega (arith, same, here, parts, all, h)

-- the values of a text, each with one byte more, are no longer than its lines, each with its end
pub text_sizes : (lines : List Line) → value_sizes (text_of lines).lines ≤ sum_by line_size lines
text_sizes lines = let h = from_sizes m.Plain None first_place lines in omega (arith, h)

-- ---- values as bytes

pairs_length : (pair : Pair) (text : List ℕ) → IsUpTo (length text) (bytes_at pair text)
pairs_length p.Ready [] = omega arith
pairs_length p.Ready (c ∷ rest) = by (is_blank c) (pairs_length p.Ready rest) (pairs_length (p.Half c) rest)
  where
    by : (b : Bool) → IsUpTo (length rest) (bytes_at p.Ready rest) → IsUpTo (length rest) (bytes_at (p.Half c) rest) → IsUpTo (length (c ∷ rest)) (cond b (bytes_at p.Ready rest) (bytes_at (p.Half c) rest))
    by true h k = up_to_more (length rest) (bytes_at p.Ready rest) h
    by false h k = up_to_more (length rest) (bytes_at (p.Half c) rest) k
pairs_length (p.Half high) [] = tt
pairs_length (p.Half high) (c ∷ rest) = by (byte_of high c) (pairs_length p.Done rest)
  where
    by : (first : Option ℕ) → IsUpTo (length rest) (bytes_at p.Done rest) → IsUpTo (length (c ∷ rest)) (with_first first (bytes_at p.Done rest))
    by None h = tt
    by (Some byte) h = with_one (length rest) byte (bytes_at p.Done rest) h
pairs_length p.Done [] = omega arith
pairs_length p.Done (c ∷ rest) = by (is_blank c) (pairs_length p.Ready rest)
  where
    by : (b : Bool) → IsUpTo (length rest) (bytes_at p.Ready rest) → IsUpTo (length (c ∷ rest)) (cond b (bytes_at p.Ready rest) None)
    by true h = up_to_more (length rest) (bytes_at p.Ready rest) h
    by false h = tt

-- bytes are no more than their value's characters
pub bytes_length : (value : List ℕ) → IsUpTo (length value) (bytes_in value)
bytes_length value = pairs_length p.Ready value
