-- A file is read as its tree of rows says.
use Rattle.std.proofs.Common.{◌≡◌, ℕ, ◌+◌, Bool, true, false, cond, List, [], ◌∷◌, ◌++◌, Option, Some, None, Ok, Err, refl, sym, ap, ◌∙◌, inl, inr, ◌⊎◌, append_assoc}
use Rattle.std.specs.Prelude.{◌&&◌, ◌||◌, not, nat_le}
use Rattle.std.specs.Option.{option_map}
use Rattle.iasl_messages.specs.declared.place.Place.{Place}
use Rattle.asl_fragments.specs.Fragments.{ends_in_comment}
use Rattle.asl_macros.specs.History.{History}
use Rattle.asl_conditions.specs.Condition.{is_known}
use Rattle.asl_directives.specs.declared.branches.Branch.{Branch}
use Rattle.asl_directives.specs.declared.kind.DirectiveKind.{DirectiveKind}
use Rattle.asl_directives.specs.declared.kind.DirectiveKind.TheVariants as k
use Rattle.asl_directives.specs.Forms.{IncludedFile, name_alone, definition_of, message_of, include_of, file_name_of}
use Rattle.asl_directives.specs.Kinds.{is_conditional}
use Rattle.asl_directives.specs.Branches.{is_read, asks, at_else_if}
use Rattle.iasl_ports.specs.Fetched.{most_bytes}
use Rattle.iasl_messages.specs.declared.place.Line.{Line}
use Rattle.asl_preprocess.specs.Rows.{Row, Directive, Ordinary, rows_of}
use Rattle.asl_preprocess.specs.State.{State, Pass, Outcome, then, at, stopped, number_of, total_size, with_lines}
use Rattle.asl_preprocess.specs.Lines.{RowEffect, Goes, Asks, goes, text_left, asked_by_line, word_place, asks_for, of_asked}
use Rattle.asl_preprocess.specs.Directives.{wrong, defines, undefines, includes, notes_message, obeyed, skipped, obeyed_or_open, skipped_or_open, else_if, turns_if, truth_of, balanced, opens_if, opens_defined}
use Rattle.asl_preprocess.specs.Preprocess.{Reading, Setting, of_row, done, of_rows, at_end, of_text, included}
use Rattle.source_laws.specs.Conditionals.{RowTree, BranchList, no_rows, row, conditional, no_branches, branch, listed, listed_branches, kind_in, operand_in, place_in, Is, stands_in_conditional, IsOther, IsNone, AreWhole, AreBranches, AreFurther, condition_by, condition, fault_by, told, chosen, read, read_first, known, alone}

-- ---- what is known, with branches around it

abbrev pub inside : State → List Branch → Pass
inside state branches = record { state = state; branches = branches }

abbrev pub around : List Branch → Outcome State → Outcome Pass
around branches (Ok state) = Ok (inside state branches)
around branches (Err stop) = Err stop

abbrev moved : List Branch → Outcome RowEffect → Outcome RowEffect
moved branches (Ok (Goes pass)) = Ok (Goes (inside pass.state branches))
moved branches (Ok (Asks asked place pass)) = Ok (Asks asked place (inside pass.state branches))
moved branches (Err stop) = Err stop

-- ---- a line

line_goes : (t : Bool) (state : State) (line : Line) (bs : List Branch)
    → cond t (goes (inside state bs) (with_lines state (state.lines ++ line ∷ []))) (stopped state 6007 (at line.file line.number 1) [])
    ≡ moved bs (cond t (goes (inside state []) (with_lines state (state.lines ++ line ∷ []))) (stopped state 6007 (at line.file line.number 1) []))
line_goes true state line bs = refl
line_goes false state line bs = refl

asked_goes : (place : Place) (state : State) (bs : List Branch) (o : Option (List ℕ)) → asks_for place (inside state bs) o ≡ moved bs (asks_for place (inside state []) o)
asked_goes place state bs None = refl
asked_goes place state bs (Some name) = refl

line_alone : (enabled : Bool) (file n : ℕ) (in_comment : Bool) (text : List ℕ) (state : State) (bs : List Branch) (o : Option (List ℕ))
    → of_asked enabled file n in_comment text (inside state bs) o ≡ moved bs (of_asked enabled file n in_comment text (inside state []) o)
line_alone enabled file n in_comment text state bs (Some name) = asked_goes (word_place file n text) state bs (file_name_of name)
line_alone enabled file n in_comment text state bs None =
    let line : Line = record { file = file; number = n; text = text_left enabled state.history in_comment text } in
    line_goes (nat_le (total_size (state.lines ++ line ∷ [])) (most_bytes + 1)) state line bs

-- ---- a directive of another kind

defined : (place : Place) (state : State) (bs : List Branch) (d : Option (List ℕ × List ℕ)) → defines place (inside state bs) d ≡ moved bs (defines place (inside state []) d)
defined place state bs None = refl
defined place state bs (Some d) = refl

undefined : (place : Place) (state : State) (bs : List Branch) (d : Option (List ℕ)) → undefines place (inside state bs) d ≡ moved bs (undefines place (inside state []) d)
undefined place state bs None = refl
undefined place state bs (Some d) = refl

included_alone : (place : Place) (state : State) (bs : List Branch) (d : Option IncludedFile) → includes place (inside state bs) d ≡ moved bs (includes place (inside state []) d)
included_alone place state bs None = refl
included_alone place state bs (Some d) = refl

noted : (place : Place) (state : State) (bs : List Branch) (d : Option (List ℕ)) → notes_message place (inside state bs) d ≡ moved bs (notes_message place (inside state []) d)
noted place state bs None = refl
noted place state bs (Some d) = refl

obeyed_alone : (kind : DirectiveKind) (place : Place) (rest : List ℕ) (state : State) (bs : List Branch) → is_conditional kind ≡ false → obeyed kind place rest (inside state bs) ≡ moved bs (obeyed kind place rest (inside state []))
obeyed_alone k.Define place rest state bs h = defined place state bs (definition_of rest)
obeyed_alone k.Undefine place rest state bs h = undefined place state bs (name_alone rest)
obeyed_alone k.If place rest state bs h = absurd cc
obeyed_alone k.IfDefined place rest state bs h = absurd cc
obeyed_alone k.IfNotDefined place rest state bs h = absurd cc
obeyed_alone k.ElseIf place rest state bs h = absurd cc
obeyed_alone k.Else place rest state bs h = absurd cc
obeyed_alone k.EndIf place rest state bs h = absurd cc
obeyed_alone k.Include place rest state bs h = included_alone place state bs (include_of rest)
obeyed_alone k.Error place rest state bs h = refl
obeyed_alone k.Warning place rest state bs h = refl
obeyed_alone k.Pragma place rest state bs h = noted place state bs (message_of rest)

directive_alone : (left_open : Bool) (kind : Option DirectiveKind) (place : Place) (rest : List ℕ) (state : State) (bs : List Branch) → stands_in_conditional kind ≡ false
    → obeyed_or_open left_open kind place rest (inside state bs) ≡ moved bs (obeyed_or_open left_open kind place rest (inside state []))
directive_alone true kind place rest state bs h = refl
directive_alone false None place rest state bs h = refl
directive_alone false (Some kind) place rest state bs h = obeyed_alone kind place rest state bs h

skipped_alone : (kind : DirectiveKind) (place : Place) (rest : List ℕ) (pass : Pass) → is_conditional kind ≡ false → skipped kind place rest pass ≡ Ok (Goes pass)
skipped_alone k.If place rest pass h = absurd cc
skipped_alone k.IfDefined place rest pass h = absurd cc
skipped_alone k.IfNotDefined place rest pass h = absurd cc
skipped_alone k.ElseIf place rest pass h = absurd cc
skipped_alone k.Else place rest pass h = absurd cc
skipped_alone k.EndIf place rest pass h = absurd cc
skipped_alone _ place rest pass h = refl

closed_alone : (left_open : Bool) (kind : DirectiveKind) (place : Place) (rest : List ℕ) (pass : Pass) → is_conditional kind ≡ false → skipped_or_open left_open (Some kind) place rest pass ≡ Ok (Goes pass)
closed_alone left_open kind place rest pass h = ap (λ t. cond (left_open && t) (wrong place pass) (skipped kind place rest pass)) h ∙ by left_open
  where
    by : (t : Bool) → cond (t && false) (wrong place pass) (skipped kind place rest pass) ≡ Ok (Goes pass)
    by true = skipped_alone kind place rest pass h
    by false = skipped_alone kind place rest pass h

skipped_other : (left_open : Bool) (kind : Option DirectiveKind) (place : Place) (rest : List ℕ) (pass : Pass) → stands_in_conditional kind ≡ false → skipped_or_open left_open kind place rest pass ≡ Ok (Goes pass)
skipped_other left_open None place rest pass h = refl
skipped_other left_open (Some kind) place rest pass h = closed_alone left_open kind place rest pass h

-- ---- rows

then_then : {X Y Z : Type 0} (x : Outcome X) (f : X → Outcome Y) (g : Y → Outcome Z) → then (then x f) g ≡ then x (λ v. then (f v) g)
then_then (Ok v) f g = refl
then_then (Err stop) f g = refl

-- a directive of a conditional, that is read or not
abbrev pub turned : Bool → DirectiveKind → Place → List ℕ → Pass → Outcome RowEffect
turned t kind place rest pass = cond t (obeyed_or_open false (Some kind) place rest pass) (skipped_or_open false (Some kind) place rest pass)

-- ---- branches

-- that of an `#else`
abbrev pub last_branch : Branch → Branch
last_branch b = record { line = b.line; column = b.column; taken = true; now = not b.taken; last = true }

-- an `#if` of any kind
abbrev pub Opens : Row → Type 0
Opens d = Is k.If d ⊎ (Is k.IfDefined d ⊎ Is k.IfNotDefined d)

-- its branch where it is not read, and where its condition has this value
abbrev pub unread_branch : Place → List Branch → Branch
unread_branch place bs = record { line = place.line; column = place.column; taken = not (is_read bs) || false; now = is_read bs && false; last = false }

abbrev pub first_branch : Place → List Branch → Bool → Branch
first_branch place bs value = record { line = place.line; column = place.column; taken = not (is_read bs) || value; now = is_read bs && value; last = false }

-- that of an `#elif`
abbrev pub further_branch : Branch → Bool → Branch
further_branch b value = record { line = b.line; column = b.column; taken = b.taken || value; now = not b.taken && value; last = b.last }

-- by the condition of a branch: what its value gives, or its fault
abbrev pub valued : Option Bool → (Bool → Outcome Pass) → Outcome Pass → Outcome Pass
valued (Some value) f fault = f value
valued None f fault = fault

module _ (reading : Reading) (setting : Setting) (file : ℕ) (own : List ℕ) where
  abbrev does : Row → State → Outcome State
  does = alone reading setting file own

  abbrev pub step : Row → Pass → Outcome Pass
  step r pass = then (of_row setting.enabled file r pass) (done reading setting own)

  abbrev pub run : List Row → Pass → Outcome Pass
  run = of_rows reading setting file own

  done_moved : (bs : List Branch) (x : Outcome RowEffect) → then (moved bs x) (done reading setting own) ≡ around bs (known (then x (done reading setting own)))
  done_moved bs (Ok (Goes pass)) = refl
  done_moved bs (Ok (Asks asked place pass)) = by (included reading setting own asked place pass.state)
    where
      by : (o : Outcome State) → elim o as (λ z. Outcome Pass) [ Ok state ↦ Ok (inside state bs) | Err stop ↦ Err stop ] ≡ around bs (known (elim o as (λ z. Outcome Pass) [ Ok state ↦ Ok (inside state pass.branches) | Err stop ↦ Err stop ]))
      by (Ok state) = refl
      by (Err stop) = refl
  done_moved bs (Err stop) = refl

  pub row_read : (r : Row) (state : State) (bs : List Branch) → IsOther r → is_read bs ≡ true → step r (inside state bs) ≡ around bs (does r state)
  row_read (Directive n text) state bs other is =
      ap (λ t. then (cond t (obeyed_or_open (ends_in_comment false text) (kind_in text) (place_in file n text) (operand_in text) (inside state bs)) (skipped_or_open (ends_in_comment false text) (kind_in text) (place_in file n text) (operand_in text) (inside state bs))) (done reading setting own)) is
      ∙ ap (λ o. then o (done reading setting own)) (directive_alone (ends_in_comment false text) (kind_in text) (place_in file n text) (operand_in text) state bs other)
      ∙ done_moved bs (obeyed_or_open (ends_in_comment false text) (kind_in text) (place_in file n text) (operand_in text) (inside state []))
  row_read (Ordinary n in_comment text) state bs other is =
      ap (λ t. then (cond t (of_asked setting.enabled file n in_comment text (inside state bs) (asked_by_line in_comment text)) (Ok (Goes (inside state bs)))) (done reading setting own)) is
      ∙ ap (λ o. then o (done reading setting own)) (line_alone setting.enabled file n in_comment text state bs (asked_by_line in_comment text))
      ∙ done_moved bs (of_asked setting.enabled file n in_comment text (inside state []) (asked_by_line in_comment text))

  pub row_unread : (r : Row) (pass : Pass) → IsOther r → is_read pass.branches ≡ false → step r pass ≡ Ok pass
  row_unread (Directive n text) pass other is =
      ap (λ t. then (cond t (obeyed_or_open (ends_in_comment false text) (kind_in text) (place_in file n text) (operand_in text) pass) (skipped_or_open (ends_in_comment false text) (kind_in text) (place_in file n text) (operand_in text) pass)) (done reading setting own)) is
      ∙ ap (λ o. then o (done reading setting own)) (skipped_other (ends_in_comment false text) (kind_in text) (place_in file n text) (operand_in text) pass other)
  row_unread (Ordinary n in_comment text) pass other is =
      ap (λ t. then (cond t (of_asked setting.enabled file n in_comment text pass (asked_by_line in_comment text)) (Ok (Goes pass))) (done reading setting own)) is

  -- rows behind rows
  run_on : (xs ys : List Row) (pass : Pass) → run (xs ++ ys) pass ≡ then (run xs pass) (run ys)
  run_on [] ys pass = refl
  run_on (x ∷ xs) ys pass = by (step x pass) (λ later. run_on xs ys later)
    where
      by : (o : Outcome Pass) → ((later : Pass) → run (xs ++ ys) later ≡ then (run xs later) (run ys)) → then o (run (xs ++ ys)) ≡ then (then o (run xs)) (run ys)
      by (Ok later) below = below later
      by (Err stop) below = refl

  -- ---- directives of conditionals

  -- where one of this kind stands, with what it does
  pub directive_is : (kind : DirectiveKind) (n : ℕ) (text : List ℕ) (pass : Pass) (t : Bool) → Is kind (Directive n text) → is_read pass.branches ≡ t
      → step (Directive n text) pass ≡ then (turned t kind (place_in file n text) (operand_in text) pass) (done reading setting own)
  directive_is kind n text pass t is r =
      ap (λ u. then (cond u (obeyed_or_open (ends_in_comment false text) (kind_in text) (place_in file n text) (operand_in text) pass) (skipped_or_open (ends_in_comment false text) (kind_in text) (place_in file n text) (operand_in text) pass)) (done reading setting own)) r
      ∙ ap (λ c. then (cond t (obeyed_or_open c (kind_in text) (place_in file n text) (operand_in text) pass) (skipped_or_open c (kind_in text) (place_in file n text) (operand_in text) pass)) (done reading setting own)) is.1
      ∙ ap (λ o. then (cond t (obeyed_or_open false o (place_in file n text) (operand_in text) pass) (skipped_or_open false o (place_in file n text) (operand_in text) pass)) (done reading setting own)) is.0

  pub end_closes : (end : Row) (state : State) (b : Branch) (bs : List Branch) → Is k.EndIf end → step end (inside state (b ∷ bs)) ≡ Ok (inside state bs)
  end_closes (Directive n text) state b bs is = directive_is k.EndIf n text (inside state (b ∷ bs)) (is_read (b ∷ bs)) is refl ∙ by (is_read (b ∷ bs))
    where
      by : (t : Bool) → then (turned t k.EndIf (place_in file n text) (operand_in text) (inside state (b ∷ bs))) (done reading setting own) ≡ Ok (inside state bs)
      by true = refl
      by false = refl
  end_closes (Ordinary n in_comment text) state b bs is = absurd is

  -- rows of a branch, those of the further ones, and the end
  branch_behind : (xs ys : List Row) (end : Row) (pass : Pass) → run ((xs ++ ys) ++ end ∷ []) pass ≡ then (run xs pass) (run (ys ++ end ∷ []))
  branch_behind xs ys end pass = ap (λ rows. run rows pass) (append_assoc xs ys (end ∷ [])) ∙ run_on xs (ys ++ end ∷ []) pass

  conditional_behind : (xs : List Row) (end : Row) (ys : List Row) (pass : Pass) → run (xs ++ end ∷ ys) pass ≡ then (run (xs ++ end ∷ []) pass) (run ys)
  conditional_behind xs end ys pass = ap (λ rows. run rows pass) (sym (append_assoc xs (end ∷ []) ys)) ∙ run_on (xs ++ end ∷ []) ys pass

  none_listed : (others : BranchList) → IsNone others → listed_branches others ≡ []
  none_listed no_branches h = refl
  none_listed (branch d rows others) h = absurd h

  only_end : (others : BranchList) (end : Row) (state : State) (b : Branch) (bs : List Branch) → IsNone others → Is k.EndIf end → run (listed_branches others ++ end ∷ []) (inside state (b ∷ bs)) ≡ Ok (inside state bs)
  only_end others end state b bs none is =
      ap (λ rows. run (rows ++ end ∷ []) (inside state (b ∷ bs))) (none_listed others none) ∙ ap (λ o. then o (run [])) (end_closes end state b bs is)

  -- an `#elif` of which a branch was taken already
  pub elif_passes : (d : Row) (state : State) (b : Branch) (bs : List Branch) → Is k.ElseIf d → b.taken ≡ true → b.last ≡ false → step d (inside state (b ∷ bs)) ≡ Ok (inside state (at_else_if false (b ∷ bs)))
  elif_passes (Directive n text) state b bs is taken last = directive_is k.ElseIf n text (inside state (b ∷ bs)) (is_read (b ∷ bs)) is refl ∙ by (is_read (b ∷ bs))
    where
      here : Pass
      here = inside state (b ∷ bs)

      asked : then (else_if (place_in file n text) (operand_in text) (inside state (b ∷ bs)) (asks (b ∷ bs))) (done reading setting own) ≡ Ok (inside state (at_else_if false (b ∷ bs)))
      asked =
          ap (λ l. then (else_if (place_in file n text) (operand_in text) (inside state (b ∷ bs)) (cond l None (Some (not b.taken)))) (done reading setting own)) last
          ∙ ap (λ t. then (else_if (place_in file n text) (operand_in text) (inside state (b ∷ bs)) (Some (not t))) (done reading setting own)) taken

      by : (t : Bool) → then (turned t k.ElseIf (place_in file n text) (operand_in text) (inside state (b ∷ bs))) (done reading setting own) ≡ Ok (inside state (at_else_if false (b ∷ bs)))
      by true = asked
      by false = asked
  elif_passes (Ordinary n in_comment text) state b bs is taken last = absurd is

  -- an `#else`
  pub else_turns : (d : Row) (state : State) (b : Branch) (bs : List Branch) → Is k.Else d → b.last ≡ false → step d (inside state (b ∷ bs)) ≡ Ok (inside state (last_branch b ∷ bs))
  else_turns (Directive n text) state b bs is last = directive_is k.Else n text (inside state (b ∷ bs)) (is_read (b ∷ bs)) is refl ∙ by (is_read (b ∷ bs))
    where
      turns_last : then (obeyed k.Else (place_in file n text) (operand_in text) (inside state (b ∷ bs))) (done reading setting own) ≡ Ok (inside state (last_branch b ∷ bs))
      turns_last = ap (λ l. then (balanced (place_in file n text) (inside state (b ∷ bs)) (cond l None (Some (last_branch b ∷ bs)))) (done reading setting own)) last

      by : (t : Bool) → then (turned t k.Else (place_in file n text) (operand_in text) (inside state (b ∷ bs))) (done reading setting own) ≡ Ok (inside state (last_branch b ∷ bs))
      by true = turns_last
      by false = turns_last
  else_turns (Ordinary n in_comment text) state b bs is last = absurd is

  -- an `#if` of any kind that is not read
  pub if_unread : (d : Row) (state : State) (bs : List Branch) → Opens d → is_read bs ≡ false → (place : Place) × (step d (inside state bs) ≡ Ok (inside state (unread_branch place bs ∷ bs)))
  if_unread (Directive n text) state bs (inl is) r = (place_in file n text, directive_is k.If n text (inside state bs) false is r)
  if_unread (Directive n text) state bs (inr (inl is)) r = (place_in file n text, directive_is k.IfDefined n text (inside state bs) false is r)
  if_unread (Directive n text) state bs (inr (inr is)) r = (place_in file n text, directive_is k.IfNotDefined n text (inside state bs) false is r)
  if_unread (Ordinary n in_comment text) state bs (inl is) r = absurd is
  if_unread (Ordinary n in_comment text) state bs (inr (inl is)) r = absurd is
  if_unread (Ordinary n in_comment text) state bs (inr (inr is)) r = absurd is

  -- a branch that is not read, and what stands behind it
  unread_then : (xs ys : List Row) (end : Row) (pass later : Pass) → run xs pass ≡ Ok pass → run (ys ++ end ∷ []) pass ≡ Ok later → run ((xs ++ ys) ++ end ∷ []) pass ≡ Ok later
  unread_then xs ys end pass later e f = branch_behind xs ys end pass ∙ ap (λ o. then o (run (ys ++ end ∷ []))) e ∙ f

  mutual
    pub rows_unread : (rows : RowTree) (pass : Pass) → AreWhole rows → is_read pass.branches ≡ false → run (listed rows) pass ≡ Ok pass
    rows_unread no_rows pass whole is = refl
    rows_unread (row first behind) pass whole is =
        ap (λ o. then o (run (listed behind))) (row_unread first pass whole.0 is) ∙ rows_unread behind pass whole.1 is
    rows_unread (conditional branches end behind) pass whole is =
        conditional_behind (listed_branches branches) end (listed behind) pass
        ∙ ap (λ o. then o (run (listed behind))) (conditional_unread branches end pass.state pass.branches whole.0 whole.1 is)
        ∙ rows_unread behind pass whole.2 is

    conditional_unread : (branches : BranchList) (end : Row) (state : State) (bs : List Branch) → AreBranches branches → Is k.EndIf end → is_read bs ≡ false
        → run (listed_branches branches ++ end ∷ []) (inside state bs) ≡ Ok (inside state bs)
    conditional_unread no_branches end state bs whole closes is = absurd whole
    conditional_unread (branch d rows others) end state bs whole closes is =
        let first = if_unread d state bs whole.0 is in
        let b : Branch = unread_branch first.0 bs in
        ap (λ o. then o (run ((listed rows ++ listed_branches others) ++ end ∷ []))) first.1
        ∙ unread_then (listed rows) (listed_branches others) end (inside state (b ∷ bs)) (inside state bs)
        (rows_unread rows (inside state (b ∷ bs)) whole.1 (ap (λ t. (t && false) && t) is))
        (passed others end state b bs whole.2 closes (ap (λ t. not t || false) is) refl)

    -- the branches behind one that was taken
    passed : (others : BranchList) (end : Row) (state : State) (b : Branch) (bs : List Branch) → AreFurther others → Is k.EndIf end → b.taken ≡ true → b.last ≡ false
        → run (listed_branches others ++ end ∷ []) (inside state (b ∷ bs)) ≡ Ok (inside state bs)
    passed no_branches end state b bs whole closes taken last = ap (λ o. then o (run [])) (end_closes end state b bs closes)
    passed (branch d rows others) end state b bs (inl whole) closes taken last =
        let c : Branch = record { line = b.line; column = b.column; taken = b.taken || false; now = not b.taken && false; last = b.last } in
        ap (λ o. then o (run ((listed rows ++ listed_branches others) ++ end ∷ []))) (elif_passes d state b bs whole.0 taken last)
        ∙ unread_then (listed rows) (listed_branches others) end (inside state (c ∷ bs)) (inside state bs)
        (rows_unread rows (inside state (c ∷ bs)) whole.1 (ap (λ t. (not t && false) && is_read bs) taken))
        (passed others end state c bs whole.2 closes (ap (λ t. t || false) taken) last)
    passed (branch d rows others) end state b bs (inr whole) closes taken last =
        ap (λ o. then o (run ((listed rows ++ listed_branches others) ++ end ∷ []))) (else_turns d state b bs whole.0 last)
        ∙ unread_then (listed rows) (listed_branches others) end (inside state (last_branch b ∷ bs)) (inside state bs)
        (rows_unread rows (inside state (last_branch b ∷ bs)) whole.1 (ap (λ t. not t && is_read bs) taken))
        (only_end others end state (last_branch b) bs whole.2 closes)

  -- ---- what is read

  then_around : (bs : List Branch) (x : Outcome State) (f : Pass → Outcome Pass) (g : State → Outcome State) → ((s : State) → f (inside s bs) ≡ around bs (g s)) → then (around bs x) f ≡ around bs (then x g)
  then_around bs (Ok state) f g h = h state
  then_around bs (Err stop) f g h = refl

  -- what an `#if` of any kind that is read does
  abbrev OpensBy : Row → State → List Branch → Place → Type 0
  OpensBy d state bs place = step d (inside state bs) ≡ valued (condition state.history d) (λ value. Ok (inside state (first_branch place bs value ∷ bs))) (around bs (told file d state))

  if_by : (n : ℕ) (text : List ℕ) (state : State) (bs : List Branch) → is_read bs ≡ true → Is k.If (Directive n text) → OpensBy (Directive n text) state bs (place_in file n text)
  if_by n text state bs r is =
      directive_is k.If n text (inside state bs) true is r ∙ by (truth_of state.history (operand_in text))
      ∙ sym (ap (λ kind. valued (condition_by kind state.history (operand_in text)) (λ value. Ok (inside state (first_branch (place_in file n text) bs value ∷ bs))) (around bs (stopped state (fault_by kind) (place_in file n text) []))) is.0)
    where
      by : (o : Option Bool) → then (opens_if (place_in file n text) (inside state bs) o) (done reading setting own)
          ≡ valued o (λ value. Ok (inside state (first_branch (place_in file n text) bs value ∷ bs))) (around bs (stopped state 6006 (place_in file n text) []))
      by (Some value) = refl
      by None = refl

  if_defined_by : (n : ℕ) (text : List ℕ) (state : State) (bs : List Branch) → is_read bs ≡ true → Is k.IfDefined (Directive n text) → OpensBy (Directive n text) state bs (place_in file n text)
  if_defined_by n text state bs r is =
      directive_is k.IfDefined n text (inside state bs) true is r ∙ by (name_alone (operand_in text))
      ∙ sym (ap (λ kind. valued (condition_by kind state.history (operand_in text)) (λ value. Ok (inside state (first_branch (place_in file n text) bs value ∷ bs))) (around bs (stopped state (fault_by kind) (place_in file n text) []))) is.0)
    where
      by : (o : Option (List ℕ)) → then (opens_defined true (place_in file n text) (inside state bs) o) (done reading setting own)
          ≡ valued (option_map (λ name. is_known state.history name) o) (λ value. Ok (inside state (first_branch (place_in file n text) bs value ∷ bs))) (around bs (stopped state 6003 (place_in file n text) []))
      by (Some name) = refl
      by None = refl

  if_not_defined_by : (n : ℕ) (text : List ℕ) (state : State) (bs : List Branch) → is_read bs ≡ true → Is k.IfNotDefined (Directive n text) → OpensBy (Directive n text) state bs (place_in file n text)
  if_not_defined_by n text state bs r is =
      directive_is k.IfNotDefined n text (inside state bs) true is r ∙ by (name_alone (operand_in text))
      ∙ sym (ap (λ kind. valued (condition_by kind state.history (operand_in text)) (λ value. Ok (inside state (first_branch (place_in file n text) bs value ∷ bs))) (around bs (stopped state (fault_by kind) (place_in file n text) []))) is.0)
    where
      by : (o : Option (List ℕ)) → then (opens_defined false (place_in file n text) (inside state bs) o) (done reading setting own)
          ≡ valued (option_map (λ name. not (is_known state.history name)) o) (λ value. Ok (inside state (first_branch (place_in file n text) bs value ∷ bs))) (around bs (stopped state 6003 (place_in file n text) []))
      by (Some name) = refl
      by None = refl

  pub if_opens : (d : Row) (state : State) (bs : List Branch) → Opens d → is_read bs ≡ true → (place : Place) × OpensBy d state bs place
  if_opens (Directive n text) state bs (inl is) r = (place_in file n text, if_by n text state bs r is)
  if_opens (Directive n text) state bs (inr (inl is)) r = (place_in file n text, if_defined_by n text state bs r is)
  if_opens (Directive n text) state bs (inr (inr is)) r = (place_in file n text, if_not_defined_by n text state bs r is)
  if_opens (Ordinary n in_comment text) state bs (inl is) r = absurd is
  if_opens (Ordinary n in_comment text) state bs (inr (inl is)) r = absurd is
  if_opens (Ordinary n in_comment text) state bs (inr (inr is)) r = absurd is

  -- what an `#elif` does where no branch was taken
  pub elif_turns : (d : Row) (state : State) (b : Branch) (bs : List Branch) → Is k.ElseIf d → b.taken ≡ false → b.last ≡ false
      → step d (inside state (b ∷ bs)) ≡ valued (condition state.history d) (λ value. Ok (inside state (further_branch b value ∷ bs))) (around bs (told file d state))
  elif_turns (Directive n text) state b bs is taken last =
      directive_is k.ElseIf n text (inside state (b ∷ bs)) (is_read (b ∷ bs)) is refl ∙ by (is_read (b ∷ bs))
      ∙ sym (ap (λ kind. valued (condition_by kind state.history (operand_in text)) (λ value. Ok (inside state (further_branch b value ∷ bs))) (around bs (stopped state (fault_by kind) (place_in file n text) []))) is.0)
    where
      turns_by : (o : Option Bool) → then (turns_if (place_in file n text) (inside state (b ∷ bs)) o) (done reading setting own)
          ≡ valued o (λ value. Ok (inside state (further_branch b value ∷ bs))) (around bs (stopped state 6006 (place_in file n text) []))
      turns_by (Some value) = refl
      turns_by None = refl

      asked : then (else_if (place_in file n text) (operand_in text) (inside state (b ∷ bs)) (asks (b ∷ bs))) (done reading setting own)
          ≡ valued (truth_of state.history (operand_in text)) (λ value. Ok (inside state (further_branch b value ∷ bs))) (around bs (stopped state 6006 (place_in file n text) []))
      asked =
          ap (λ l. then (else_if (place_in file n text) (operand_in text) (inside state (b ∷ bs)) (cond l None (Some (not b.taken)))) (done reading setting own)) last
          ∙ ap (λ t. then (else_if (place_in file n text) (operand_in text) (inside state (b ∷ bs)) (Some (not t))) (done reading setting own)) taken
          ∙ turns_by (truth_of state.history (operand_in text))

      by : (t : Bool) → then (turned t k.ElseIf (place_in file n text) (operand_in text) (inside state (b ∷ bs))) (done reading setting own)
          ≡ valued (truth_of state.history (operand_in text)) (λ value. Ok (inside state (further_branch b value ∷ bs))) (around bs (stopped state 6006 (place_in file n text) []))
      by true = asked
      by false = asked
  elif_turns (Ordinary n in_comment text) state b bs is taken last = absurd is

  else_holds : (d : Row) (history : History) → Is k.Else d → condition history d ≡ Some true
  else_holds (Directive n text) history is = ap (λ kind. condition_by kind history (operand_in text)) is.0
  else_holds (Ordinary n in_comment text) history is = absurd is

  -- a branch that is read, and what stands behind it
  taken_then : (xs ys : List Row) (end : Row) (bs : List Branch) (b : Branch) (state : State) (x : Outcome State) → run xs (inside state (b ∷ bs)) ≡ around (b ∷ bs) x
      → ((later : State) → run (ys ++ end ∷ []) (inside later (b ∷ bs)) ≡ Ok (inside later bs)) → run ((xs ++ ys) ++ end ∷ []) (inside state (b ∷ bs)) ≡ around bs x
  taken_then xs ys end bs b state x e h = branch_behind xs ys end (inside state (b ∷ bs)) ∙ ap (λ o. then o (run (ys ++ end ∷ []))) e ∙ by x
    where
      by : (x : Outcome State) → then (around (b ∷ bs) x) (run (ys ++ end ∷ [])) ≡ around bs x
      by (Ok later) = h later
      by (Err stop) = refl

  -- a branch that is not read, and what the others come to
  waits_then : (xs ys : List Row) (end : Row) (pass : Pass) (x : Outcome Pass) → run xs pass ≡ Ok pass → run (ys ++ end ∷ []) pass ≡ x → run ((xs ++ ys) ++ end ∷ []) pass ≡ x
  waits_then xs ys end pass x e f = branch_behind xs ys end pass ∙ ap (λ o. then o (run (ys ++ end ∷ []))) e ∙ f

  -- by the value of a condition
  by_value : (o : Option Bool) (rest : List Row) (bs : List Branch) (f : Bool → Outcome Pass) (x y fault : Outcome State) → ((value : Bool) → o ≡ Some value → then (f value) (run rest) ≡ around bs (chosen (Some value) x y fault))
      → then (around bs fault) (run rest) ≡ around bs fault → then (valued o f (around bs fault)) (run rest) ≡ around bs (chosen o x y fault)
  by_value (Some true) rest bs f x y fault h g = h true refl
  by_value (Some false) rest bs f x y fault h g = h false refl
  by_value None rest bs f x y fault h g = g

  told_stops : (d : Row) (state : State) (kind : DirectiveKind) → Is kind d → (rest : List Row) (bs : List Branch) → then (around bs (told file d state)) (run rest) ≡ around bs (told file d state)
  told_stops (Directive n text) state kind is rest bs = refl
  told_stops (Ordinary n in_comment text) state kind is rest bs = absurd is

  open_told : (d : Row) (state : State) → Opens d → (rest : List Row) (bs : List Branch) → then (around bs (told file d state)) (run rest) ≡ around bs (told file d state)
  open_told d state (inl is) rest bs = told_stops d state k.If is rest bs
  open_told d state (inr (inl is)) rest bs = told_stops d state k.IfDefined is rest bs
  open_told d state (inr (inr is)) rest bs = told_stops d state k.IfNotDefined is rest bs

  mutual
    rows_read : (rows : RowTree) (state : State) (bs : List Branch) → AreWhole rows → is_read bs ≡ true → run (listed rows) (inside state bs) ≡ around bs (read does file rows state)
    rows_read no_rows state bs whole is = refl
    rows_read (row first behind) state bs whole is =
        ap (λ o. then o (run (listed behind))) (row_read first state bs whole.0 is)
        ∙ then_around bs (does first state) (run (listed behind)) (read does file behind) (λ later. rows_read behind later bs whole.1 is)
    rows_read (conditional branches end behind) state bs whole is =
        conditional_behind (listed_branches branches) end (listed behind) (inside state bs)
        ∙ ap (λ o. then o (run (listed behind))) (conditional_read branches end state bs whole.0 whole.1 is)
        ∙ then_around bs (read_first does file branches state) (run (listed behind)) (read does file behind) (λ later. rows_read behind later bs whole.2 is)

    conditional_read : (branches : BranchList) (end : Row) (state : State) (bs : List Branch) → AreBranches branches → Is k.EndIf end → is_read bs ≡ true
        → run (listed_branches branches ++ end ∷ []) (inside state bs) ≡ around bs (read_first does file branches state)
    conditional_read no_branches end state bs whole closes is = absurd whole
    conditional_read (branch d rows others) end state bs whole closes is =
        let first = if_opens d state bs whole.0 is in
        let rest : List Row = (listed rows ++ listed_branches others) ++ end ∷ [] in
        ap (λ o. then o (run rest)) first.1
        ∙ by_value (condition state.history d) rest bs (λ value. Ok (inside state (first_branch first.0 bs value ∷ bs))) (read does file rows state) (read_first does file others state) (told file d state)
        (elim [
          | true ↦ λ e. taken_then (listed rows) (listed_branches others) end bs (first_branch first.0 bs true) state (read does file rows state)
              (rows_read rows state (first_branch first.0 bs true ∷ bs) whole.1 (ap (λ t. (t && true) && t) is))
              (λ later. passed others end later (first_branch first.0 bs true) bs whole.2 closes (ap (λ t. not t || true) is) refl)
          | false ↦ λ e. waits_then (listed rows) (listed_branches others) end (inside state (first_branch first.0 bs false ∷ bs)) (around bs (read_first does file others state))
              (rows_unread rows (inside state (first_branch first.0 bs false ∷ bs)) whole.1 (ap (λ t. (t && false) && t) is))
              (waiting others end state (first_branch first.0 bs false) bs whole.2 closes is (ap (λ t. not t || false) is) refl)
        ])
        (open_told d state whole.0 rest bs)

    -- the branches behind those that were not taken
    waiting : (others : BranchList) (end : Row) (state : State) (b : Branch) (bs : List Branch) → AreFurther others → Is k.EndIf end → is_read bs ≡ true → b.taken ≡ false → b.last ≡ false
        → run (listed_branches others ++ end ∷ []) (inside state (b ∷ bs)) ≡ around bs (read_first does file others state)
    waiting no_branches end state b bs whole closes is taken last = ap (λ o. then o (run [])) (end_closes end state b bs closes)
    waiting (branch d rows others) end state b bs (inl whole) closes is taken last =
        let rest : List Row = (listed rows ++ listed_branches others) ++ end ∷ [] in
        ap (λ o. then o (run rest)) (elif_turns d state b bs whole.0 taken last)
        ∙ by_value (condition state.history d) rest bs (λ value. Ok (inside state (further_branch b value ∷ bs))) (read does file rows state) (read_first does file others state) (told file d state)
        (elim [
          | true ↦ λ e. taken_then (listed rows) (listed_branches others) end bs (further_branch b true) state (read does file rows state)
              (rows_read rows state (further_branch b true ∷ bs) whole.1 (ap (λ t. (not t && true) && is_read bs) taken ∙ is))
              (λ later. passed others end later (further_branch b true) bs whole.2 closes (ap (λ t. t || true) taken) last)
          | false ↦ λ e. waits_then (listed rows) (listed_branches others) end (inside state (further_branch b false ∷ bs)) (around bs (read_first does file others state))
              (rows_unread rows (inside state (further_branch b false ∷ bs)) whole.1 (ap (λ t. (not t && false) && is_read bs) taken))
              (waiting others end state (further_branch b false) bs whole.2 closes is (ap (λ t. t || false) taken) last)
        ])
        (told_stops d state k.ElseIf whole.0 rest bs)
    waiting (branch d rows others) end state b bs (inr whole) closes is taken last =
        ap (λ o. then o (run ((listed rows ++ listed_branches others) ++ end ∷ []))) (else_turns d state b bs whole.0 last)
        ∙ taken_then (listed rows) (listed_branches others) end bs (last_branch b) state (read does file rows state)
        (rows_read rows state (last_branch b ∷ bs) whole.1 (ap (λ t. not t && is_read bs) taken ∙ is))
        (λ later. only_end others end later (last_branch b) bs whole.2 closes)
        ∙ sym (ap (λ o. around bs (chosen o (read does file rows state) (read_first does file others state) (told file d state))) (else_holds d state.history whole.0))

-- ---- whole files

pub read_as_tree : (reading : Reading) (setting : Setting) (state : State) (name bytes : List ℕ) (rows : RowTree) → rows_of setting.enabled bytes ≡ listed rows → AreWhole rows
    → of_text reading setting state name bytes ≡ read (alone reading setting (number_of name state.files) name) (number_of name state.files) rows state
read_as_tree reading setting state name bytes rows e whole =
    let file : ℕ = number_of name state.files in
    ap (λ r. then (of_rows reading setting file name r (inside state [])) (at_end file)) e
    ∙ ap (λ o. then o (at_end file)) (rows_read reading setting file name rows state [] whole refl)
    ∙ by (read (alone reading setting file name) file rows state)
  where
    by : (x : Outcome State) → then (around [] x) (at_end (number_of name state.files)) ≡ x
    by (Ok later) = refl
    by (Err stop) = refl

pub nothing_behind : (does : Row → State → Outcome State) (file : ℕ) (state : State) (d : Row) (rows : RowTree) (others : BranchList) → condition state.history d ≡ Some true
    → read_first does file (branch d rows others) state ≡ read does file rows state
nothing_behind does file state d rows others e = ap (λ o. chosen o (read does file rows state) (read_first does file others state) (told file d state)) e
