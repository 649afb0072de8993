-- The lines that a main file comes to are short: with an LF behind each they have at most 16 MiB and one byte in all.
use Rattle.std.proofs.Common.{◌≡◌, ℕ, zero, suc, ◌+◌, ◌<◌, ◌≤◌, ◌^◌, ◌&&◌, Bool, true, false, cond, List, [], ◌∷◌, ◌++◌, length, Option, Some, None, Ok, Err, refl, sym, subst, arith}
use Rattle.std.specs.Prelude.{nat_le, nat_lt}
use Rattle.std.specs.List.{All, sum_by}
use Rattle.std.proofs.lemmas.Bool.{leb-true}
use Rattle.std.proofs.lemmas.List.Elements.{All-cons}
use Rattle.std.proofs.lemmas.List.Sums.{sum_by-cons}
use Rattle.iasl_ports.specs.Gained.{Named}
use Rattle.iasl_ports.specs.Fetched.{find_file, most_bytes}
use Rattle.iasl_messages.specs.declared.place.Place.{Place}
use Rattle.iasl_messages.specs.declared.place.Line.{Line}
use Rattle.iasl_messages.specs.declared.message.Message.{Message}
use Rattle.asl_directives.specs.declared.kind.DirectiveKind.{DirectiveKind}
use Rattle.asl_directives.specs.declared.kind.DirectiveKind.TheVariants as k
use Rattle.asl_directives.specs.declared.branches.Branch.{Branch}
use Rattle.asl_directives.specs.Forms.{IncludedFile, name_alone, definition_of, message_of, include_of, file_name_of}
use Rattle.asl_directives.specs.Branches.{is_read, asks, at_else, at_end_if, outermost}
use Rattle.asl_directives.specs.Words.{blanks_before, word_of, behind_word}
use Rattle.asl_directives.specs.Kinds.{is_conditional, kind_of}
use Rattle.asl_fragments.specs.Fragments.{ends_in_comment, without_comments}
use Rattle.asl_preprocess.specs.declared.define.Define.{Define}
use Rattle.asl_preprocess.specs.Rows.{Row, Directive, Ordinary, rows_of}
use Rattle.asl_preprocess.specs.Search.{SearchResult, Missing, Large, Whole, names_for, search}
use Rattle.asl_preprocess.specs.State.{State, Pass, Outcome, then, stopped, at, total_size, with_lines, number_of}
use Rattle.asl_preprocess.specs.Lines.{RowEffect, Goes, Asks, goes, with_line, text_left, asked_by_line, word_place, asks_for, of_asked, of_line}
use Rattle.asl_preprocess.specs.Directives as d
use Rattle.asl_preprocess.specs.Preprocess.{Setting, Reading, Preprocessed, Given, Stopped, of_row, read_found, included, in_pass, done, of_rows, closed, at_end, of_text, reading_at, of_file, most_levels, first_state, given, of_found, of_main, setting_of, too_large_main, preprocessed}
use Rattle.generated_lines.proofs.Sizes.{few_bytes}
use Rattle.iasl_tool.specs.Headline.{Request, ComeFrom, a_file, devices}

abbrev AreFew : List Line → Type 0
AreFew lines = total_size lines ≤ 2 ^ 25

abbrev SmallEffect : RowEffect → Type 0
SmallEffect (Goes pass) = AreFew pass.state.lines
SmallEffect (Asks asked place pass) = AreFew pass.state.lines

abbrev SmallRow : Outcome RowEffect → Type 0
SmallRow (Ok effect) = SmallEffect effect
SmallRow (Err stop) = Unit {0}

abbrev SmallPass : Outcome Pass → Type 0
SmallPass (Ok pass) = AreFew pass.state.lines
SmallPass (Err stop) = Unit {0}

abbrev SmallState : Outcome State → Type 0
SmallState (Ok state) = AreFew state.lines
SmallState (Err stop) = Unit {0}

-- ---- a row

module _ (pass : Pass) (few : AreFew pass.state.lines) where
  small_line : (line : Line) → SmallRow (with_line pass line)
  small_line line = by_room (nat_le (total_size (pass.state.lines ++ line ∷ [])) (most_bytes + 1)) refl
    where
      by_room : (b : Bool) → nat_le (total_size (pass.state.lines ++ line ∷ [])) (most_bytes + 1) ≡ b
          → SmallRow (cond b (goes pass (with_lines pass.state (pass.state.lines ++ line ∷ []))) (stopped pass.state 6007 (at line.file line.number 1) []))
      by_room true e = let le = leb-true (total_size (pass.state.lines ++ line ∷ [])) (most_bytes + 1) e in omega (arith, le)
      by_room false e = tt

  small_asks_for : (place : Place) (name : Option (List ℕ)) → SmallRow (asks_for place pass name)
  small_asks_for place None = tt
  small_asks_for place (Some name) = few

  small_asked : (enabled : Bool) (file n : ℕ) (in_comment : Bool) (text : List ℕ) (asked : Option (List ℕ)) → SmallRow (of_asked enabled file n in_comment text pass asked)
  small_asked enabled file n in_comment text None = small_line (record { file = file; number = n; text = text_left enabled pass.state.history in_comment text })
  small_asked enabled file n in_comment text (Some name) = small_asks_for (word_place file n text) (file_name_of name)

  small_of_line : (enabled : Bool) (file n : ℕ) (in_comment : Bool) (text : List ℕ) → SmallRow (of_line enabled file n in_comment text pass)
  small_of_line enabled file n in_comment text = by_read (is_read pass.branches)
    where
      by_read : (b : Bool) → SmallRow (cond b (of_asked enabled file n in_comment text pass (asked_by_line in_comment text)) (Ok (Goes pass)))
      by_read true = small_asked enabled file n in_comment text (asked_by_line in_comment text)
      by_read false = few

  module _ (place : Place) where
    small_defines : (o : Option (List ℕ × List ℕ)) → SmallRow (d.defines place pass o)
    small_defines None = tt
    small_defines (Some x) = few

    small_undefines : (o : Option (List ℕ)) → SmallRow (d.undefines place pass o)
    small_undefines None = tt
    small_undefines (Some x) = few

    small_balanced : (o : Option (List Branch)) → SmallRow (d.balanced place pass o)
    small_balanced None = tt
    small_balanced (Some bs) = few

    small_opens_if : (o : Option Bool) → SmallRow (d.opens_if place pass o)
    small_opens_if None = tt
    small_opens_if (Some value) = few

    small_turns_if : (o : Option Bool) → SmallRow (d.turns_if place pass o)
    small_turns_if None = tt
    small_turns_if (Some value) = few

    small_opens_defined : (sign : Bool) (o : Option (List ℕ)) → SmallRow (d.opens_defined sign place pass o)
    small_opens_defined sign None = tt
    small_opens_defined sign (Some name) = few

    small_else_if : (rest : List ℕ) (o : Option Bool) → SmallRow (d.else_if place rest pass o)
    small_else_if rest None = tt
    small_else_if rest (Some false) = few
    small_else_if rest (Some true) = small_turns_if (d.truth_of pass.state.history rest)

    small_includes : (o : Option IncludedFile) → SmallRow (d.includes place pass o)
    small_includes None = tt
    small_includes (Some asked) = few

    small_notes_message : (o : Option (List ℕ)) → SmallRow (d.notes_message place pass o)
    small_notes_message None = tt
    small_notes_message (Some text) = few

    small_obeyed : (kind : DirectiveKind) (rest : List ℕ) → SmallRow (d.obeyed kind place rest pass)
    small_obeyed k.Define rest = small_defines (definition_of rest)
    small_obeyed k.Undefine rest = small_undefines (name_alone rest)
    small_obeyed k.If rest = small_opens_if (d.truth_of pass.state.history rest)
    small_obeyed k.IfDefined rest = small_opens_defined true (name_alone rest)
    small_obeyed k.IfNotDefined rest = small_opens_defined false (name_alone rest)
    small_obeyed k.ElseIf rest = small_else_if rest (asks pass.branches)
    small_obeyed k.Else rest = small_balanced (at_else pass.branches)
    small_obeyed k.EndIf rest = small_balanced (at_end_if pass.branches)
    small_obeyed k.Include rest = small_includes (include_of rest)
    small_obeyed k.Error rest = tt
    small_obeyed k.Warning rest = few
    small_obeyed k.Pragma rest = small_notes_message (message_of rest)

    small_skipped : (kind : DirectiveKind) (rest : List ℕ) → SmallRow (d.skipped kind place rest pass)
    small_skipped k.ElseIf rest = small_else_if rest (asks pass.branches)
    small_skipped k.Else rest = small_balanced (at_else pass.branches)
    small_skipped k.EndIf rest = small_balanced (at_end_if pass.branches)
    small_skipped _ rest = few

    small_closed : (kind : Option DirectiveKind) (rest : List ℕ) → SmallRow (d.obeyed_closed kind place rest pass)
    small_closed None rest = tt
    small_closed (Some kind) rest = small_obeyed kind rest

    small_obeyed_or : (left_open : Bool) (kind : Option DirectiveKind) (rest : List ℕ) → SmallRow (d.obeyed_or_open left_open kind place rest pass)
    small_obeyed_or true kind rest = tt
    small_obeyed_or false kind rest = small_closed kind rest

    small_skipped_or : (left_open : Bool) (kind : Option DirectiveKind) (rest : List ℕ) → SmallRow (d.skipped_or_open left_open kind place rest pass)
    small_skipped_or left_open None rest = few
    small_skipped_or left_open (Some kind) rest = by_open (left_open && is_conditional kind)
      where
        by_open : (b : Bool) → SmallRow (cond b (d.wrong place pass) (d.skipped kind place rest pass))
        by_open true = tt
        by_open false = small_skipped kind rest

    small_by_read : (b left_open : Bool) (kind : Option DirectiveKind) (rest : List ℕ) → SmallRow (cond b (d.obeyed_or_open left_open kind place rest pass) (d.skipped_or_open left_open kind place rest pass))
    small_by_read true left_open kind rest = small_obeyed_or left_open kind rest
    small_by_read false left_open kind rest = small_skipped_or left_open kind rest

  small_row : (enabled : Bool) (file : ℕ) (row : Row) → SmallRow (of_row enabled file row pass)
  small_row enabled file (Directive n text) =
      let blank : List ℕ = without_comments false text in
      small_by_read (at file n (blanks_before blank + 1)) (is_read pass.branches) (ends_in_comment false text) (kind_of (word_of (d.directive_text blank))) (behind_word (d.directive_text blank))
  small_row enabled file (Ordinary n in_comment text) = small_of_line enabled file n in_comment text

-- ---- a file, and the files below it

-- how files are read keeps few lines
abbrev SmallReading : Reading → Type 0
SmallReading None = Unit {0}
SmallReading (Some read) = (state : State) (name bytes : List ℕ) → AreFew state.lines → SmallState (read state name bytes)

small_found : (read : State → List ℕ → List ℕ → Outcome State) (asked : IncludedFile) (place : Place) (state : State) (found : SearchResult) → SmallReading (Some read) → AreFew state.lines
    → SmallState (read_found read asked place state found)
small_found read asked place state Missing keeps few = tt
small_found read asked place state Large keeps few = tt
small_found read asked place state (Whole name bytes) keeps few = keeps _ name bytes few

small_included : (reading : Reading) (setting : Setting) (own : List ℕ) (asked : IncludedFile) (place : Place) (state : State) → SmallReading reading → AreFew state.lines → SmallState (included reading setting own asked place state)
small_included None setting own asked place state keeps few = tt
small_included (Some read) setting own asked place state keeps few = small_found read asked place state (search setting.told (names_for setting.directories own asked)) keeps few

small_in_pass : (pass : Pass) (outcome : Outcome State) → SmallState outcome → SmallPass (in_pass pass outcome)
small_in_pass pass (Ok state) h = h
small_in_pass pass (Err stop) h = tt

small_done : (reading : Reading) (setting : Setting) (own : List ℕ) (outcome : Outcome RowEffect) → SmallReading reading → SmallRow outcome → SmallPass (then outcome (done reading setting own))
small_done reading setting own (Ok (Goes pass)) keeps h = h
small_done reading setting own (Ok (Asks asked place pass)) keeps h = small_in_pass pass (included reading setting own asked place pass.state) (small_included reading setting own asked place pass.state keeps h)
small_done reading setting own (Err stop) keeps h = tt

small_rows : (reading : Reading) (setting : Setting) (file : ℕ) (own : List ℕ) (rows : List Row) (pass : Pass) → SmallReading reading → AreFew pass.state.lines → SmallPass (of_rows reading setting file own rows pass)
small_rows reading setting file own [] pass keeps few = few
small_rows reading setting file own (row ∷ rows) pass keeps few =
    onward (λ pass. of_rows reading setting file own rows pass) (λ pass few. small_rows reading setting file own rows pass keeps few) (then (of_row setting.enabled file row pass) (done reading setting own))
    (small_done reading setting own (of_row setting.enabled file row pass) keeps (small_row pass few setting.enabled file row))
  where
    onward : (f : Pass → Outcome Pass) → ((pass : Pass) → AreFew pass.state.lines → SmallPass (f pass)) → (outcome : Outcome Pass) → SmallPass outcome → SmallPass (then outcome f)
    onward f go (Ok pass) h = go pass h
    onward f go (Err stop) h = tt

small_closed_file : (file : ℕ) (state : State) (o : Option Branch) → AreFew state.lines → SmallState (closed file state o)
small_closed_file file state None few = few
small_closed_file file state (Some branch) few = tt

small_end : (file : ℕ) (outcome : Outcome Pass) → SmallPass outcome → SmallState (then outcome (at_end file))
small_end file (Ok pass) h = small_closed_file file pass.state (outermost pass.branches) h
small_end file (Err stop) h = tt

small_text : (reading : Reading) (setting : Setting) (state : State) (name bytes : List ℕ) → SmallReading reading → AreFew state.lines → SmallState (of_text reading setting state name bytes)
small_text reading setting state name bytes keeps few =
    let file = number_of name state.files in
    small_end file (of_rows reading setting file name (rows_of setting.enabled bytes) (record { state = state; branches = [] }))
    (small_rows reading setting file name (rows_of setting.enabled bytes) (record { state = state; branches = [] }) keeps few)

small_reading : (setting : Setting) (levels : ℕ) → SmallReading (reading_at setting levels)
small_reading setting zero = tt
small_reading setting (suc levels) = λ state name bytes few. small_text (reading_at setting levels) setting state name bytes (small_reading setting levels) few

small_file : (setting : Setting) (levels : ℕ) (state : State) (name bytes : List ℕ) → AreFew state.lines → SmallState (of_file setting levels state name bytes)
small_file setting levels state name bytes few = small_text (reading_at setting levels) setting state name bytes (small_reading setting levels) few

-- ---- what a main file comes to

abbrev SmallAll : Preprocessed → Type 0
SmallAll (Given files lines notes) = AreFew lines
SmallAll _ = Unit {0}

small_given : (outcome : Outcome State) → SmallState outcome → SmallAll (given outcome)
small_given (Ok state) h = h
small_given (Err stop) h = tt

small_main : (setting : Setting) (name : List ℕ) (defines : List Define) (bytes : List ℕ) → SmallAll (of_main setting name defines bytes)
small_main setting name defines bytes =
    by_size (nat_lt most_bytes (length bytes)) (given (of_file setting most_levels (first_state name defines) name bytes))
    (small_given (of_file setting most_levels (first_state name defines) name bytes) (small_file setting most_levels (first_state name defines) name bytes (omega arith)))
  where
    by_size : (b : Bool) (it : Preprocessed) → SmallAll it → SmallAll (cond b (Stopped too_large_main (name ∷ [])) it)
    by_size true it h = tt
    by_size false it h = h

small_found_main : (setting : Setting) (name : List ℕ) (defines : List Define) (o : Option (List ℕ)) → SmallAll (of_found setting name defines o)
small_found_main setting name defines None = tt
small_found_main setting name defines (Some bytes) = small_main setting name defines bytes

each_short : (lines : List Line) → AreFew lines → All (λ line. length line.text < 2 ^ 32) lines
each_short [] h = λ i e lt. absurd (omega (arith, lt))
each_short (l ∷ ls) h =
    let c : total_size (l ∷ ls) ≡ (length l.text + 1) + total_size ls = sum_by-cons (λ (line : Line). length line.text + 1) l ls in
    All-cons (λ (line : Line). length line.text < 2 ^ 32) l ls (omega (arith, h, c)) (each_short ls (omega (arith, h, c)))

-- the lines that a main file comes to have at most 2^25 bytes in all, with an LF behind each, and each has fewer than 2^32
pub given_sizes : (told : List Named) (file : List ℕ) (directories : List (List ℕ)) (definitions : List Define) (enabled : Bool) (files : List (List ℕ)) (lines : List Line) (notes : List Message)
    → preprocessed told file directories definitions enabled ≡ Given files lines notes → (sum_by (λ line. length line.text + 1) lines ≤ 2 ^ 25) × All (λ line. length line.text < 2 ^ 32) lines
given_sizes told file directories definitions enabled files lines notes e =
    let few : AreFew lines = subst SmallAll e (small_found_main (setting_of told directories enabled) file definitions (find_file told file)) in
    (few, each_short lines few)

-- the same of lines that words name
pub come_sizes : (words : List (List ℕ)) (told : List Named) (request : Request) (files : List (List ℕ)) (lines : List Line) (notes : List Message) → ComeFrom words told request files lines notes
    → (sum_by (λ line. length line.text + 1) lines ≤ 2 ^ 25) × All (λ line. length line.text < 2 ^ 32) lines
come_sizes words told request files lines notes (a_file line file_is compiles lines_are) = given_sizes told request.file request.asked.directories request.asked.definitions request.asked.enabled files lines notes lines_are
come_sizes words told request files lines notes (devices count task request_is files_are lines_are notes_are) =
    let few : AreFew lines = subst AreFew (sym lines_are) (few_bytes count task.1) in
    (few, each_short lines few)
