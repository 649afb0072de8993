-- What is true of the place of each line of a text, and of line 1 of the first file, is true of the places of its field lines and of its end.
use Rattle.std.proofs.Common.{ℕ, ◌&&◌, Bool, true, false, cond, List, [], ◌∷◌, ◌++◌, Option, Some, None, arith}
use Rattle.std.specs.List.{All}
use Rattle.std.proofs.lemmas.List.Elements.{All-cons, All-head, All-tail, All-append}
use Rattle.iasl_messages.specs.declared.place.Place.{Place}
use Rattle.iasl_messages.specs.declared.place.Line.{Line}
use Rattle.data_text.specs.declared.comments.Mode.{Mode}
use Rattle.data_text.specs.declared.comments.Mode.TheVariants as m
use Rattle.data_text.specs.declared.field_line.FieldLine.{FieldLine}
use Rattle.data_text.specs.declared.field_line.DataText.{DataText}
use Rattle.hex_text.specs.Blanks.{has_blanks_alone, drop_blanks}
use Rattle.data_text.specs.Comments.{uncommented_from, mode_after, at_line_end}
use Rattle.data_text.specs.Parts.{Begun, before_remark, after_bracket, halves, begun, begun_with, begun_behind, extended, kept, place_of}
use Rattle.data_text.specs.Source.{ends_source, done_of, open_of, done_by, open_by, finished, with_lines, text_from, first_place, text_of}

module _ (Home : Place → Type 0) where
  abbrev pub LinesIn : List FieldLine → Type 0
  LinesIn lines = All (λ (line : FieldLine). Home line.place) lines

  abbrev pub TextIn : DataText → Type 0
  TextIn text = LinesIn text.lines × (Home text.end)

  abbrev MaybeIn : Option FieldLine → Type 0
  MaybeIn None = Unit {0}
  MaybeIn (Some line) = Home line.place

  none_in : LinesIn []
  none_in = λ i d lt. absurd (omega arith)

  one_in : (line : FieldLine) → Home line.place → LinesIn (line ∷ [])
  one_in line h = All-cons (λ (line : FieldLine). Home line.place) line [] h none_in

  both_in : (xs ys : List FieldLine) → LinesIn xs → LinesIn ys → LinesIn (xs ++ ys)
  both_in xs ys h k = All-append (λ (line : FieldLine). Home line.place) xs ys h k

  kept_in : (line : FieldLine) → Home line.place → LinesIn (kept line)
  kept_in line h = by (line.colon && has_blanks_alone line.value)
    where
      by : (c : Bool) → LinesIn (cond c [] (line ∷ []))
      by true = none_in
      by false = one_in line h

  begun_in : (line : Line) (bare : List ℕ) → Home (place_of line) → Home (begun line bare).0.place
  begun_in line bare h = by (after_bracket (drop_blanks bare))
    where
      by_halves : (bracketed : Bool) (found : Option (List ℕ × List ℕ)) → Home (begun_with line bracketed found).0.place
      by_halves bracketed None = h
      by_halves bracketed (Some found) = h

      by : (text : List ℕ × Bool) → Home (begun_behind line text).0.place
      by text = by_halves text.1 (halves (before_remark false text.0))

  done_in : (b : Begun) → Home b.0.place → LinesIn (done_of b)
  done_in b h = by b.1
    where
      by : (c : Bool) → LinesIn (cond c [] (kept b.0))
      by true = none_in
      by false = kept_in b.0 h

  open_in : (b : Begun) → Home b.0.place → MaybeIn (open_of b)
  open_in b h = by b.1
    where
      by : (c : Bool) → MaybeIn (cond c (Some b.0) None)
      by true = h
      by false = tt

  done_by_in : (pending : Option FieldLine) (line : Line) (bare : List ℕ) → MaybeIn pending → Home (place_of line) → LinesIn (done_by pending line bare)
  done_by_in None line bare h k = by (has_blanks_alone bare)
    where
      by : (c : Bool) → LinesIn (cond c [] (done_of (begun line bare)))
      by true = none_in
      by false = done_in (begun line bare) (begun_in line bare k)
  done_by_in (Some pending) line bare h k = done_in (extended pending bare) h

  open_by_in : (pending : Option FieldLine) (line : Line) (bare : List ℕ) → MaybeIn pending → Home (place_of line) → MaybeIn (open_by pending line bare)
  open_by_in None line bare h k = by (has_blanks_alone bare)
    where
      by : (c : Bool) → MaybeIn (cond c None (open_of (begun line bare)))
      by true = tt
      by false = open_in (begun line bare) (begun_in line bare k)
  open_by_in (Some pending) line bare h k = open_in (extended pending bare) h

  finished_in : (pending : Option FieldLine) → MaybeIn pending → LinesIn (finished pending)
  finished_in None h = none_in
  finished_in (Some pending) h = kept_in pending h

  text_from_in : (mode : Mode) (pending : Option FieldLine) (end : Place) (lines : List Line) → MaybeIn pending → Home end → All (λ (line : Line). Home (place_of line)) lines → TextIn (text_from mode pending end lines)
  text_from_in mode pending end [] h k ls = (finished_in pending h, k)
  text_from_in mode pending end (line ∷ rest) h k ls = by (ends_source (uncommented_from mode line.text)) (text_from_in (at_line_end (mode_after mode line.text)) (open_by pending line (uncommented_from mode line.text)) (place_of line) rest
      (open_by_in pending line (uncommented_from mode line.text) h (All-head (λ (line : Line). Home (place_of line)) line rest ls)) (All-head (λ (line : Line). Home (place_of line)) line rest ls) (All-tail (λ (line : Line). Home (place_of line)) line rest ls))
    where
      after : DataText
      after = text_from (at_line_end (mode_after mode line.text)) (open_by pending line (uncommented_from mode line.text)) (place_of line) rest

      by : (c : Bool) → TextIn after → TextIn (cond c (record { lines = finished pending; end = end }) (with_lines (done_by pending line (uncommented_from mode line.text)) after))
      by true more = (finished_in pending h, k)
      by false more = (both_in (done_by pending line (uncommented_from mode line.text)) after.lines (done_by_in pending line (uncommented_from mode line.text) h (All-head (λ (line : Line). Home (place_of line)) line rest ls)) more.0, more.1)

  -- the field lines of a text, and its end
  pub text_in : (lines : List Line) → Home first_place → All (λ (line : Line). Home (place_of line)) lines → TextIn (text_of lines)
  text_in lines main h = text_from_in m.Plain None first_place lines tt main h
