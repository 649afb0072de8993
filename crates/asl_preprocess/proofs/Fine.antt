-- What a row keeps: the lines and notes of a sound state stay sound, no file is added, and a stop stands in the row's file.
use Rattle.std.proofs.Common.{◌≡◌, ℕ, zero, suc, ◌+◌, ◌<◌, ◌≤◌, ◌&&◌, Bool, true, false, cond, List, [], ◌∷◌, ◌++◌, length, get_or, Option, Some, None, Ok, Err, refl, arith}
use Rattle.std.specs.Prelude.{nat_le}
use Rattle.std.specs.List.{All}
use Rattle.std.proofs.lemmas.Bool.{leb-true}
use Rattle.std.proofs.lemmas.List.Elements.{All-append}
use Rattle.std.proofs.lemmas.List.Sums.{sum_by-append}
use Rattle.iasl_ports.specs.Fetched.{most_bytes}
use Rattle.iasl_messages.specs.declared.place.Place.{Place}
use Rattle.iasl_messages.specs.declared.place.Line.{Line}
use Rattle.asl_macros.specs.History.{History}
use Rattle.asl_directives.specs.declared.kind.DirectiveKind.{DirectiveKind}
use Rattle.asl_directives.specs.declared.kind.DirectiveKind.TheVariants as k
use Rattle.asl_directives.specs.declared.branches.Branch.{Branch}
use Rattle.asl_directives.specs.Forms.{IncludedFile, name_alone, definition_of, message_of, include_of, file_name_of}
use Rattle.asl_directives.specs.Branches.{is_read, asks, at_else, at_end_if}
use Rattle.asl_directives.specs.Words.{trimmed, blanks_before, word_of, behind_word}
use Rattle.asl_directives.specs.Kinds.{is_conditional, kind_of}
use Rattle.asl_fragments.specs.Fragments.{ends_in_comment, without_comments}
use Rattle.asl_preprocess.specs.Rows.{Row, Directive, Ordinary}
use Rattle.asl_preprocess.specs.State.{State, Pass, Outcome, stopped, message_at, at, total_size, with_lines, with_history}
use Rattle.asl_preprocess.specs.Lines.{RowEffect, Goes, Asks, goes, with_line, text_left, asked_by_line, word_place, asks_for, of_asked, of_line}
use Rattle.asl_preprocess.specs.Directives as d
use Rattle.asl_preprocess.specs.Preprocess.{of_row}
use Rattle.asl_preprocess.specs.Sound.{IsSound, IsGoodLine, IsGoodNote}

abbrev pub FineEffect : ℕ → State → RowEffect → Type 0
FineEffect file state (Goes pass) = IsSound pass.state × (pass.state.files ≡ state.files)
FineEffect file state (Asks asked place pass) = (place.file ≡ file) × IsSound pass.state × (pass.state.files ≡ state.files)

abbrev pub Fine : ℕ → State → Outcome RowEffect → Type 0
Fine file state (Ok effect) = FineEffect file state effect
Fine file state (Err stop) = (stop.0.place.file ≡ file) × (stop.1 ≡ state.files)

All_one : {X : Type 0} (P : X → Type 0) (x : X) → P x → All P (x ∷ [])
All_one {X} P x h = λ i e lt. at_place i e lt
  where
    at_place : (i : ℕ) (e : X) → i < length (x ∷ []) → P (get_or (x ∷ []) i e)
    at_place zero e lt = h
    at_place (suc i) e lt = absurd (omega arith)

-- a line of lines that fit is no longer than they may be
last_fits : (lines : List Line) (line : Line) → nat_le (total_size (lines ++ line ∷ [])) (most_bytes + 1) ≡ true → length line.text ≤ most_bytes
last_fits lines line h =
    let a : total_size (lines ++ line ∷ []) ≤ most_bytes + 1 = leb-true (total_size (lines ++ line ∷ [])) (most_bytes + 1) h in
    let b : total_size (lines ++ line ∷ []) ≡ total_size lines + total_size (line ∷ []) = sum_by-append (λ (l : Line). length l.text + 1) lines (line ∷ []) in
    let c : total_size (line ∷ []) ≡ 0 + (length line.text + 1) = refl in
    omega (arith, a, b, c)

abbrev line_in : ℕ → ℕ → List ℕ → Line
line_in file n text = record { file = file; number = n; text = text }

module _ (file : ℕ) (pass : Pass) (sound : IsSound pass.state) (known : file < length pass.state.files) where
  -- no line and no note more
  fine_still : (branches : List Branch) → Fine file pass.state (Ok (Goes (record { state = pass.state; branches = branches })))
  fine_still branches = (sound, refl)

  fine_history : (history : History) → Fine file pass.state (goes pass (with_history pass.state history))
  fine_history history = (record { lines = sound.lines; notes = sound.notes }, refl)

  fine_note : (number : ℕ) (place : Place) (name : List ℕ) → place.file ≡ file → Fine file pass.state (d.notes pass number place name)
  fine_note number place name here = (
    record {
      lines = sound.lines;
      notes = All-append (IsGoodNote (length pass.state.files)) pass.state.notes (message_at number place name ∷ []) sound.notes
          (All_one (IsGoodNote (length pass.state.files)) (message_at number place name) (omega (arith, here)));
    },
    refl,
  )

  fine_line : (n : ℕ) (text : List ℕ) → Fine file pass.state (with_line pass (record { file = file; number = n; text = text }))
  fine_line n text = by_room (nat_le (total_size (pass.state.lines ++ line_in file n text ∷ [])) (most_bytes + 1)) refl
    where
      by_room : (b : Bool) → nat_le (total_size (pass.state.lines ++ line_in file n text ∷ [])) (most_bytes + 1) ≡ b
          → Fine file pass.state (cond b (goes pass (with_lines pass.state (pass.state.lines ++ line_in file n text ∷ []))) (stopped pass.state 6007 (at file n 1) []))
      by_room true e = (
        record {
          lines = All-append (IsGoodLine (length pass.state.files)) pass.state.lines (line_in file n text ∷ []) sound.lines
              (All_one (IsGoodLine (length pass.state.files)) (line_in file n text) (last_fits pass.state.lines (line_in file n text) e, known));
          notes = sound.notes;
        },
        refl,
      )
      by_room false e = (refl, refl)

  fine_asks_for : (place : Place) (name : Option (List ℕ)) → place.file ≡ file → Fine file pass.state (asks_for place pass name)
  fine_asks_for place None here = (here, refl)
  fine_asks_for place (Some name) here = (here, sound, refl)

  fine_asked : (enabled : Bool) (n : ℕ) (in_comment : Bool) (text : List ℕ) (asked : Option (List ℕ)) → Fine file pass.state (of_asked enabled file n in_comment text pass asked)
  fine_asked enabled n in_comment text None = fine_line n (text_left enabled pass.state.history in_comment text)
  fine_asked enabled n in_comment text (Some name) = fine_asks_for (word_place file n text) (file_name_of name) refl

  fine_of_line : (enabled : Bool) (n : ℕ) (in_comment : Bool) (text : List ℕ) → Fine file pass.state (of_line enabled file n in_comment text pass)
  fine_of_line enabled n in_comment text = by_read (is_read pass.branches)
    where
      by_read : (b : Bool) → Fine file pass.state (cond b (of_asked enabled file n in_comment text pass (asked_by_line in_comment text)) (Ok (Goes pass)))
      by_read true = fine_asked enabled n in_comment text (asked_by_line in_comment text)
      by_read false = fine_still pass.branches

  module _ (place : Place) (here : place.file ≡ file) where
    fine_defines : (o : Option (List ℕ × List ℕ)) → Fine file pass.state (d.defines place pass o)
    fine_defines None = (here, refl)
    fine_defines (Some x) = fine_history _

    fine_undefines : (o : Option (List ℕ)) → Fine file pass.state (d.undefines place pass o)
    fine_undefines None = (here, refl)
    fine_undefines (Some x) = fine_history _

    fine_balanced : (o : Option (List Branch)) → Fine file pass.state (d.balanced place pass o)
    fine_balanced None = (here, refl)
    fine_balanced (Some bs) = fine_still bs

    fine_opens_if : (o : Option Bool) → Fine file pass.state (d.opens_if place pass o)
    fine_opens_if None = (here, refl)
    fine_opens_if (Some value) = (sound, refl)

    fine_turns_if : (o : Option Bool) → Fine file pass.state (d.turns_if place pass o)
    fine_turns_if None = (here, refl)
    fine_turns_if (Some value) = (sound, refl)

    fine_opens_defined : (sign : Bool) (o : Option (List ℕ)) → Fine file pass.state (d.opens_defined sign place pass o)
    fine_opens_defined sign None = (here, refl)
    fine_opens_defined sign (Some name) = (sound, refl)

    fine_else_if : (rest : List ℕ) (o : Option Bool) → Fine file pass.state (d.else_if place rest pass o)
    fine_else_if rest None = (here, refl)
    fine_else_if rest (Some false) = (sound, refl)
    fine_else_if rest (Some true) = fine_turns_if (d.truth_of pass.state.history rest)

    fine_includes : (o : Option IncludedFile) → Fine file pass.state (d.includes place pass o)
    fine_includes None = (here, refl)
    fine_includes (Some asked) = (here, sound, refl)

    fine_notes_message : (o : Option (List ℕ)) → Fine file pass.state (d.notes_message place pass o)
    fine_notes_message None = (here, refl)
    fine_notes_message (Some text) = fine_note 2001 place text here

    fine_obeyed : (kind : DirectiveKind) (rest : List ℕ) → Fine file pass.state (d.obeyed kind place rest pass)
    fine_obeyed k.Define rest = fine_defines (definition_of rest)
    fine_obeyed k.Undefine rest = fine_undefines (name_alone rest)
    fine_obeyed k.If rest = fine_opens_if (d.truth_of pass.state.history rest)
    fine_obeyed k.IfDefined rest = fine_opens_defined true (name_alone rest)
    fine_obeyed k.IfNotDefined rest = fine_opens_defined false (name_alone rest)
    fine_obeyed k.ElseIf rest = fine_else_if rest (asks pass.branches)
    fine_obeyed k.Else rest = fine_balanced (at_else pass.branches)
    fine_obeyed k.EndIf rest = fine_balanced (at_end_if pass.branches)
    fine_obeyed k.Include rest = fine_includes (include_of rest)
    fine_obeyed k.Error rest = (here, refl)
    fine_obeyed k.Warning rest = fine_note 3004 place (trimmed rest) here
    fine_obeyed k.Pragma rest = fine_notes_message (message_of rest)

    fine_skipped : (kind : DirectiveKind) (rest : List ℕ) → Fine file pass.state (d.skipped kind place rest pass)
    fine_skipped k.Define rest = (sound, refl)
    fine_skipped k.Undefine rest = (sound, refl)
    fine_skipped k.If rest = (sound, refl)
    fine_skipped k.IfDefined rest = (sound, refl)
    fine_skipped k.IfNotDefined rest = (sound, refl)
    fine_skipped k.ElseIf rest = fine_else_if rest (asks pass.branches)
    fine_skipped k.Else rest = fine_balanced (at_else pass.branches)
    fine_skipped k.EndIf rest = fine_balanced (at_end_if pass.branches)
    fine_skipped k.Include rest = (sound, refl)
    fine_skipped k.Error rest = (sound, refl)
    fine_skipped k.Warning rest = (sound, refl)
    fine_skipped k.Pragma rest = (sound, refl)

    fine_closed : (kind : Option DirectiveKind) (rest : List ℕ) → Fine file pass.state (d.obeyed_closed kind place rest pass)
    fine_closed None rest = (here, refl)
    fine_closed (Some kind) rest = fine_obeyed kind rest

    fine_obeyed_or : (left_open : Bool) (kind : Option DirectiveKind) (rest : List ℕ) → Fine file pass.state (d.obeyed_or_open left_open kind place rest pass)
    fine_obeyed_or true kind rest = (here, refl)
    fine_obeyed_or false kind rest = fine_closed kind rest

    fine_skipped_or : (left_open : Bool) (kind : Option DirectiveKind) (rest : List ℕ) → Fine file pass.state (d.skipped_or_open left_open kind place rest pass)
    fine_skipped_or left_open None rest = (sound, refl)
    fine_skipped_or left_open (Some kind) rest = by_open (left_open && is_conditional kind)
      where
        by_open : (b : Bool) → Fine file pass.state (cond b (d.wrong place pass) (d.skipped kind place rest pass))
        by_open true = (here, refl)
        by_open false = fine_skipped kind rest

    fine_by_read : (b left_open : Bool) (kind : Option DirectiveKind) (rest : List ℕ) → Fine file pass.state (cond b (d.obeyed_or_open left_open kind place rest pass) (d.skipped_or_open left_open kind place rest pass))
    fine_by_read true left_open kind rest = fine_obeyed_or left_open kind rest
    fine_by_read false left_open kind rest = fine_skipped_or left_open kind rest

  -- what holds of each row
  pub fine_row : (enabled : Bool) (row : Row) → Fine file pass.state (of_row enabled file row pass)
  fine_row enabled (Directive n text) =
      let blank : List ℕ = without_comments false text in
      fine_by_read (at file n (blanks_before blank + 1)) refl (is_read pass.branches) (ends_in_comment false text) (kind_of (word_of (d.directive_text blank))) (behind_word (d.directive_text blank))
  fine_row enabled (Ordinary n in_comment text) = fine_of_line enabled n in_comment text
