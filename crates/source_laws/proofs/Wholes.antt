-- The rows of a file that is read to its end are a tree.
use Rattle.std.proofs.Common.{◌≡◌, ℕ, Bool, true, false, cond, List, [], ◌∷◌, ◌++◌, Option, Some, None, Ok, Err, reverse, refl, sym, ap, subst, ◌∙◌, inl, inr, append_assoc}
use Rattle.std.specs.Prelude.{not, slice_get}
use Rattle.std.proofs.lemmas.List.{reverse-append}
use Rattle.iasl_messages.specs.declared.place.Place.{Place}
use Rattle.asl_fragments.specs.Fragments.{ends_in_comment}
use Rattle.asl_directives.specs.declared.branches.Branch.{Branch}
use Rattle.asl_directives.specs.declared.kind.DirectiveKind.{DirectiveKind}
use Rattle.asl_directives.specs.declared.kind.DirectiveKind.TheVariants as k
use Rattle.asl_directives.specs.Kinds.{is_conditional}
use Rattle.asl_directives.specs.Branches.{is_read, asks, at_else, outermost}
use Rattle.asl_preprocess.specs.Rows.{Row, Directive, Ordinary, rows_of}
use Rattle.asl_preprocess.specs.State.{State, Pass, Outcome, then, number_of}
use Rattle.asl_preprocess.specs.Directives.{wrong, skipped, obeyed_or_open, skipped_or_open, else_if, balanced}
use Rattle.asl_preprocess.specs.Preprocess.{Reading, Setting, done, of_rows, closed, at_end, of_text}
use Rattle.source_laws.specs.Conditionals.{RowTree, BranchList, no_rows, row, conditional, no_branches, branch, listed, listed_branches, kind_in, operand_in, place_in, Is, stands_in_conditional, IsOther, IsNone, AreWhole, AreFurther, condition, told, alone}
use Rattle.source_laws.proofs.Conditionals.{inside, around, turned, step, run, row_read, row_unread, directive_is, end_closes, elif_passes, elif_turns, else_turns, if_unread, if_opens, valued, unread_branch, first_branch, further_branch, last_branch, Opens}

-- These rows end each of the branches that are open, and whole rows stand before each end and at the end.
data Closes : List Branch → List Row → Type 0 where
  outside : (tree : RowTree) → AreWhole tree → Closes [] (listed tree)
  in_branch : {b : Branch} {bs : List Branch} {rest : List Row} (tree : RowTree) (others : BranchList) (end : Row) → AreWhole tree → AreFurther others → (b.last ≡ true → IsNone others) → Is k.EndIf end → Closes bs rest
      → Closes (b ∷ bs) ((listed tree ++ listed_branches others) ++ end ∷ rest)

before_row : {bs : List Branch} {rows : List Row} (r : Row) → IsOther r → Closes bs rows → Closes bs (r ∷ rows)
before_row r other (outside tree whole) = outside (row r tree) (other, whole)
before_row r other (in_branch tree others end whole further last closes below) = in_branch (row r tree) others end (other, whole) further last closes below

-- a conditional before rows
before_conditional : {bs : List Branch} {rows : List Row} (d : Row) (inner : RowTree) (more : BranchList) (close : Row) → Opens d → AreWhole inner → AreFurther more → Is k.EndIf close → Closes bs rows
    → Closes bs (d ∷ (listed inner ++ listed_branches more) ++ close ∷ rows)
before_conditional d inner more close opens within behind end (outside tree whole) = outside (conditional (branch d inner more) close tree) ((opens, within, behind), end, whole)
before_conditional {bs} d inner more close opens within behind end (in_branch {rest = rest} tree others final whole further last closes below) =
    let xs : List Row = d ∷ listed inner ++ listed_branches more in
    subst (Closes bs)
    (ap (λ l. l ++ final ∷ rest) (append_assoc xs (close ∷ listed tree) (listed_branches others)) ∙ append_assoc xs (close ∷ listed tree ++ listed_branches others) (final ∷ rest))
    (in_branch (conditional (branch d inner more) close tree) others final ((opens, within, behind), end, whole) further last closes below)

-- an `#if` behind which a branch is open that ends
opened_ends : {b : Branch} {bs : List Branch} {rows : List Row} (d : Row) → Opens d → Closes (b ∷ bs) rows → Closes bs (d ∷ rows)
opened_ends d opens (in_branch tree others end whole further last closes below) = before_conditional d tree others end opens whole further closes below

elif_ends : {b c : Branch} {bs : List Branch} {rows : List Row} (d : Row) → Is k.ElseIf d → (b.last ≡ false) → Closes (c ∷ bs) rows → Closes (b ∷ bs) (d ∷ rows)
elif_ends d is no_last (in_branch tree others end whole further last closes below) =
    in_branch no_rows (branch d tree others) end tt (inl (is, whole, further)) (λ e. absurd cc) closes below

else_ends : {b c : Branch} {bs : List Branch} {rows : List Row} (d : Row) → Is k.Else d → (b.last ≡ false) → c.last ≡ true → Closes (c ∷ bs) rows → Closes (b ∷ bs) (d ∷ rows)
else_ends d is no_last is_last (in_branch tree others end whole further last closes below) =
    in_branch no_rows (branch d tree others) end tt (inr (is, whole, last is_last)) (λ e. absurd cc) closes below

end_ends : {b : Branch} {bs : List Branch} {rows : List Row} (d : Row) → Is k.EndIf d → Closes bs rows → Closes (b ∷ bs) (d ∷ rows)
end_ends d is below = in_branch no_rows no_branches d tt tt (λ e. tt) is below

-- what was gone on with
record Went (o : Outcome Pass) (f : Pass → Outcome Pass) (later : Pass) : Type 0 where
  next : Pass
  is : o ≡ Ok next
  on : f next ≡ Ok later

went : (o : Outcome Pass) (f : Pass → Outcome Pass) (later : Pass) → then o f ≡ Ok later → Went o f later
went (Ok next) f later e = record { next = next; is = refl; on = e }
went (Err stop) f later e = absurd cc

some_first : (xs : List Branch) (b : Branch) → slice_get (xs ++ b ∷ []) 0 ≡ None → ⊥
some_first [] b e = cc
some_first (x ∷ xs) b e = cc

none_open : (bs : List Branch) → outermost bs ≡ None → bs ≡ []
none_open [] e = refl
none_open (b ∷ bs) e = absurd (some_first (reverse bs) b (ap (λ l. slice_get l 0) (sym (reverse-append (b ∷ []) bs)) ∙ e))

module _ (reading : Reading) (setting : Setting) (file : ℕ) (own : List ℕ) where
  -- what a row does that comes to something
  abbrev Does : Row → State → List Branch → Pass → Type 0
  Does r state bs next = step reading setting file own r (inside state bs) ≡ Ok next

  around_ok : (bs : List Branch) (x : Outcome State) (next : Pass) → around bs x ≡ Ok next → next.branches ≡ bs
  around_ok bs (Ok state) next e = let same : inside state bs ≡ next = cc in sym (ap (λ (p : Pass). p.branches) same)
  around_ok bs (Err stop) next e = absurd cc

  other_keeps : (r : Row) (state : State) (bs : List Branch) (next : Pass) → IsOther r → Does r state bs next → next.branches ≡ bs
  other_keeps r state bs next other e = by (is_read bs) refl
    where
      by : (t : Bool) → is_read bs ≡ t → next.branches ≡ bs
      by true is = around_ok bs (alone reading setting file own r state) next (sym (row_read reading setting file own r state bs other is) ∙ e)
      by false is = let same : Ok (inside state bs) ≡ Ok next = sym (row_unread reading setting file own r (inside state bs) other is) ∙ e in let here : inside state bs ≡ next = cc in sym (ap (λ (p : Pass). p.branches) here)

  -- a directive of a conditional that leaves a comment open is refused
  open_refused : (kind : DirectiveKind) (n : ℕ) (text : List ℕ) (pass next : Pass) → kind_in text ≡ Some kind → is_conditional kind ≡ true → ends_in_comment false text ≡ true → step reading setting file own (Directive n text) pass ≡ Ok next → ⊥
  open_refused kind n text pass next is among left e =
      let place : Place = place_in file n text in
      let rest : List ℕ = operand_in text in
      let refused : step reading setting file own (Directive n text) pass ≡ Err _ =
      ap (λ c. then (cond (is_read pass.branches) (obeyed_or_open c (kind_in text) place rest pass) (skipped_or_open c (kind_in text) place rest pass)) (done reading setting own)) left
      ∙ ap (λ o. then (cond (is_read pass.branches) (wrong place pass) (skipped_or_open true o place rest pass)) (done reading setting own)) is
      ∙ ap (λ t. then (cond (is_read pass.branches) (wrong place pass) (cond t (wrong place pass) (skipped kind place rest pass))) (done reading setting own)) among
      ∙ by (is_read pass.branches) in
      let both = sym refused ∙ e in
      cc
    where
      by : (t : Bool) → then (cond t (wrong (place_in file n text) pass) (wrong (place_in file n text) pass)) (done reading setting own) ≡ Err (record { number = 6003; place = place_in file n text; name = [] }, pass.state.files)
      by true = refl
      by false = refl

  closed_is : (kind : DirectiveKind) (n : ℕ) (text : List ℕ) (pass next : Pass) → kind_in text ≡ Some kind → is_conditional kind ≡ true → step reading setting file own (Directive n text) pass ≡ Ok next → Is kind (Directive n text)
  closed_is kind n text pass next is among e = (is, by (ends_in_comment false text) refl)
    where
      by : (t : Bool) → ends_in_comment false text ≡ t → ends_in_comment false text ≡ false
      by true left = absurd (open_refused kind n text pass next is among left e)
      by false left = left

  record Opened (state : State) (bs : List Branch) (next : Pass) : Type 0 where
    innermost : Branch
    no_last : innermost.last ≡ false
    is : next ≡ inside state (innermost ∷ bs)

  ok_is : (pass next : Pass) (o : Outcome Pass) → o ≡ Ok pass → o ≡ Ok next → next ≡ pass
  ok_is pass next o e f = let both : Ok next ≡ Ok pass = sym f ∙ e in cc

  record Valued (state : State) (bs : List Branch) (f : Bool → Branch) (next : Pass) : Type 0 where
    value : Bool
    is : next ≡ inside state (f value ∷ bs)

  value_goes : (o : Option Bool) (state : State) (bs : List Branch) (f : Bool → Branch) (x : Outcome Pass) (next : Pass) → (x ≡ Ok next → ⊥)
      → valued o (λ value. Ok (inside state (f value ∷ bs))) x ≡ Ok next → Valued state bs f next
  value_goes (Some value) state bs f x next h e = record { value = value; is = ok_is (inside state (f value ∷ bs)) next (Ok (inside state (f value ∷ bs))) refl e }
  value_goes None state bs f x next h e = absurd (h e)

  told_stops : (kind : DirectiveKind) (d : Row) (state : State) (bs : List Branch) (next : Pass) → Is kind d → around bs (told file d state) ≡ Ok next → ⊥
  told_stops kind (Directive n text) state bs next is e = cc
  told_stops kind (Ordinary n in_comment text) state bs next is e = is

  open_told : (d : Row) (state : State) (bs : List Branch) (next : Pass) → Opens d → around bs (told file d state) ≡ Ok next → ⊥
  open_told d state bs next (inl is) e = told_stops k.If d state bs next is e
  open_told d state bs next (inr (inl is)) e = told_stops k.IfDefined d state bs next is e
  open_told d state bs next (inr (inr is)) e = told_stops k.IfNotDefined d state bs next is e

  if_goes : (d : Row) (state : State) (bs : List Branch) (next : Pass) → Opens d → Does d state bs next → Opened state bs next
  if_goes d state bs next opens e = by (is_read bs) refl
    where
      by : (t : Bool) → is_read bs ≡ t → Opened state bs next
      by false r =
          let first = if_unread reading setting file own d state bs opens r in
          record { innermost = unread_branch first.0 bs; no_last = refl; is = ok_is (inside state (unread_branch first.0 bs ∷ bs)) next (step reading setting file own d (inside state bs)) first.1 e }
      by true r =
          let first = if_opens reading setting file own d state bs opens r in
          let v = value_goes (condition state.history d) state bs (first_branch first.0 bs) (around bs (told file d state)) next (open_told d state bs next opens) (sym first.1 ∙ e) in
          record { innermost = first_branch first.0 bs v.value; no_last = refl; is = v.is }

  elif_goes : (d : Row) (state : State) (b : Branch) (bs : List Branch) (next : Pass) → Is k.ElseIf d → b.last ≡ false → Does d state (b ∷ bs) next → Opened state bs next
  elif_goes d state b bs next is last e = by b.taken refl
    where
      by : (t : Bool) → b.taken ≡ t → Opened state bs next
      by true taken =
          record { innermost = further_branch b false; no_last = last; is = ok_is (inside state (further_branch b false ∷ bs)) next (step reading setting file own d (inside state (b ∷ bs))) (elif_passes reading setting file own d state b bs is taken last) e }
      by false taken =
          let v = value_goes (condition state.history d) state bs (further_branch b) (around bs (told file d state)) next (told_stops k.ElseIf d state bs next is) (sym (elif_turns reading setting file own d state b bs is taken last) ∙ e) in
          record { innermost = further_branch b v.value; no_last = last; is = v.is }

  -- an `#elif`, `#else` or `#endif` that stands where it may not
  unbalanced : (kind : DirectiveKind) (n : ℕ) (text : List ℕ) (pass next : Pass) → ((t : Bool) → then (turned t kind (place_in file n text) (operand_in text) pass) (done reading setting own) ≡ Ok next → ⊥)
      → Is kind (Directive n text) → step reading setting file own (Directive n text) pass ≡ Ok next → ⊥
  unbalanced kind n text pass next h is e = h (is_read pass.branches) (sym (directive_is reading setting file own kind n text pass (is_read pass.branches) is refl) ∙ e)

  elif_outside : (n : ℕ) (text : List ℕ) (state : State) (next : Pass) → Is k.ElseIf (Directive n text) → Does (Directive n text) state [] next → ⊥
  elif_outside n text state next is e = unbalanced k.ElseIf n text (inside state []) next (elim [ true ↦ λ h. cc | false ↦ λ h. cc ]) is e

  else_outside : (n : ℕ) (text : List ℕ) (state : State) (next : Pass) → Is k.Else (Directive n text) → Does (Directive n text) state [] next → ⊥
  else_outside n text state next is e = unbalanced k.Else n text (inside state []) next (elim [ true ↦ λ h. cc | false ↦ λ h. cc ]) is e

  end_outside : (n : ℕ) (text : List ℕ) (state : State) (next : Pass) → Is k.EndIf (Directive n text) → Does (Directive n text) state [] next → ⊥
  end_outside n text state next is e = unbalanced k.EndIf n text (inside state []) next (elim [ true ↦ λ h. cc | false ↦ λ h. cc ]) is e

  elif_behind_last : (n : ℕ) (text : List ℕ) (state : State) (b : Branch) (bs : List Branch) (next : Pass) → b.last ≡ true → Is k.ElseIf (Directive n text) → Does (Directive n text) state (b ∷ bs) next → ⊥
  elif_behind_last n text state b bs next last is e = unbalanced k.ElseIf n text (inside state (b ∷ bs)) next (elim [ true ↦ refused | false ↦ refused ]) is e
    where
      refused : then (else_if (place_in file n text) (operand_in text) (inside state (b ∷ bs)) (asks (b ∷ bs))) (done reading setting own) ≡ Ok next → ⊥
      refused h =
          let stops = sym (ap (λ l. then (else_if (place_in file n text) (operand_in text) (inside state (b ∷ bs)) (cond l None (Some (not b.taken)))) (done reading setting own)) last) ∙ h in
          cc

  else_behind_last : (n : ℕ) (text : List ℕ) (state : State) (b : Branch) (bs : List Branch) (next : Pass) → b.last ≡ true → Is k.Else (Directive n text) → Does (Directive n text) state (b ∷ bs) next → ⊥
  else_behind_last n text state b bs next last is e = unbalanced k.Else n text (inside state (b ∷ bs)) next (elim [ true ↦ refused | false ↦ refused ]) is e
    where
      refused : then (balanced (place_in file n text) (inside state (b ∷ bs)) (at_else (b ∷ bs))) (done reading setting own) ≡ Ok next → ⊥
      refused h =
          let stops = sym (ap (λ l. then (balanced (place_in file n text) (inside state (b ∷ bs)) (cond l None (Some (last_branch b ∷ bs)))) (done reading setting own)) last) ∙ h in
          cc

  -- ---- rows behind a row

  abbrev Behind : List Row → Pass → Type 0
  Behind rows later = (state : State) (bs : List Branch) → run reading setting file own rows (inside state bs) ≡ Ok later → Closes bs rows

  behind_other : (r : Row) (rows : List Row) (state : State) (bs : List Branch) (next later : Pass) → Behind rows later → Does r state bs next → run reading setting file own rows next ≡ Ok later → IsOther r → Closes bs (r ∷ rows)
  behind_other r rows state bs next later ih e f other =
      before_row r other (subst (λ b. Closes b rows) (other_keeps r state bs next other e) (ih next.state next.branches f))

  behind_open : (d : Row) (rows : List Row) (state : State) (bs : List Branch) (next later : Pass) → Behind rows later → Does d state bs next → run reading setting file own rows next ≡ Ok later → Opens d → Closes bs (d ∷ rows)
  behind_open d rows state bs next later ih e f opens =
      let o = if_goes d state bs next opens e in
      opened_ends d opens (ih state (o.innermost ∷ bs) (ap (run reading setting file own rows) (sym o.is) ∙ f))

  behind_elif : (n : ℕ) (text : List ℕ) (rows : List Row) (state : State) (bs : List Branch) (next later : Pass) → Behind rows later → Does (Directive n text) state bs next → run reading setting file own rows next ≡ Ok later
      → Is k.ElseIf (Directive n text) → Closes bs (Directive n text ∷ rows)
  behind_elif n text rows state [] next later ih e f is = absurd (elif_outside n text state next is e)
  behind_elif n text rows state (b ∷ bs) next later ih e f is = by b.last refl
    where
      by : (t : Bool) → b.last ≡ t → Closes (b ∷ bs) (Directive n text ∷ rows)
      by true last = absurd (elif_behind_last n text state b bs next last is e)
      by false last =
          let o = elif_goes (Directive n text) state b bs next is last e in
          elif_ends (Directive n text) is last (ih state (o.innermost ∷ bs) (ap (run reading setting file own rows) (sym o.is) ∙ f))

  behind_else : (n : ℕ) (text : List ℕ) (rows : List Row) (state : State) (bs : List Branch) (next later : Pass) → Behind rows later → Does (Directive n text) state bs next → run reading setting file own rows next ≡ Ok later
      → Is k.Else (Directive n text) → Closes bs (Directive n text ∷ rows)
  behind_else n text rows state [] next later ih e f is = absurd (else_outside n text state next is e)
  behind_else n text rows state (b ∷ bs) next later ih e f is = by b.last refl
    where
      c : Branch
      c = last_branch b

      by : (t : Bool) → b.last ≡ t → Closes (b ∷ bs) (Directive n text ∷ rows)
      by true last = absurd (else_behind_last n text state b bs next last is e)
      by false last =
          let here = ok_is (inside state (last_branch b ∷ bs)) next (step reading setting file own (Directive n text) (inside state (b ∷ bs))) (else_turns reading setting file own (Directive n text) state b bs is last) e in
          else_ends {c = last_branch b} (Directive n text) is last refl (ih state (last_branch b ∷ bs) (ap (run reading setting file own rows) (sym here) ∙ f))

  behind_end : (n : ℕ) (text : List ℕ) (rows : List Row) (state : State) (bs : List Branch) (next later : Pass) → Behind rows later → Does (Directive n text) state bs next → run reading setting file own rows next ≡ Ok later
      → Is k.EndIf (Directive n text) → Closes bs (Directive n text ∷ rows)
  behind_end n text rows state [] next later ih e f is = absurd (end_outside n text state next is e)
  behind_end n text rows state (b ∷ bs) next later ih e f is =
      let here = ok_is (inside state bs) next (step reading setting file own (Directive n text) (inside state (b ∷ bs))) (end_closes reading setting file own (Directive n text) state b bs is) e in
      end_ends (Directive n text) is (ih state bs (ap (run reading setting file own rows) (sym here) ∙ f))

  behind_kind : (kind : DirectiveKind) (n : ℕ) (text : List ℕ) (rows : List Row) (state : State) (bs : List Branch) (next later : Pass) → Behind rows later → Does (Directive n text) state bs next → run reading setting file own rows next ≡ Ok later
      → kind_in text ≡ Some kind → is_conditional kind ≡ true → Is kind (Directive n text) → Closes bs (Directive n text ∷ rows)
  behind_kind k.If n text rows state bs next later ih e f is among here = behind_open (Directive n text) rows state bs next later ih e f (inl here)
  behind_kind k.IfDefined n text rows state bs next later ih e f is among here = behind_open (Directive n text) rows state bs next later ih e f (inr (inl here))
  behind_kind k.IfNotDefined n text rows state bs next later ih e f is among here = behind_open (Directive n text) rows state bs next later ih e f (inr (inr here))
  behind_kind k.ElseIf n text rows state bs next later ih e f is among here = behind_elif n text rows state bs next later ih e f here
  behind_kind k.Else n text rows state bs next later ih e f is among here = behind_else n text rows state bs next later ih e f here
  behind_kind k.EndIf n text rows state bs next later ih e f is among here = behind_end n text rows state bs next later ih e f here
  behind_kind _ n text rows state bs next later ih e f is among here = absurd cc

  behind_directive : (o : Option DirectiveKind) (t : Bool) (n : ℕ) (text : List ℕ) (rows : List Row) (state : State) (bs : List Branch) (next later : Pass) → Behind rows later → Does (Directive n text) state bs next → run reading setting file own rows next ≡ Ok later
      → kind_in text ≡ o → stands_in_conditional o ≡ t → Closes bs (Directive n text ∷ rows)
  behind_directive o false n text rows state bs next later ih e f is among = behind_other (Directive n text) rows state bs next later ih e f (ap stands_in_conditional is ∙ among)
  behind_directive None true n text rows state bs next later ih e f is among = absurd cc
  behind_directive (Some kind) true n text rows state bs next later ih e f is among =
      behind_kind kind n text rows state bs next later ih e f is among (closed_is kind n text (inside state bs) next is among e)

  behind_row : (r : Row) (rows : List Row) (state : State) (bs : List Branch) (next later : Pass) → Behind rows later → Does r state bs next → run reading setting file own rows next ≡ Ok later → Closes bs (r ∷ rows)
  behind_row (Directive n text) rows state bs next later ih e f = behind_directive (kind_in text) (stands_in_conditional (kind_in text)) n text rows state bs next later ih e f refl refl
  behind_row (Ordinary n in_comment text) rows state bs next later ih e f = behind_other (Ordinary n in_comment text) rows state bs next later ih e f tt

  closing : (rows : List Row) (state : State) (bs : List Branch) (later : Pass) → later.branches ≡ [] → run reading setting file own rows (inside state bs) ≡ Ok later → Closes bs rows
  closing [] state bs later none e =
      let here : later ≡ inside state bs = ok_is (inside state bs) later (Ok (inside state bs)) refl e in
      let empty : bs ≡ [] = sym (ap (λ (p : Pass). p.branches) here) ∙ none in
      subst (λ b. Closes b []) (sym empty) (outside no_rows tt)
  closing (r ∷ rows) state bs later none e =
      let w = went (step reading setting file own r (inside state bs)) (run reading setting file own rows) later e in
      behind_row r rows state bs w.next later (λ s b h. closing rows s b later none h) w.is w.on

-- ---- whole files

closed_at : (file : ℕ) (state later : State) (o : Option Branch) → closed file state o ≡ Ok later → o ≡ None
closed_at file state later None e = refl
closed_at file state later (Some b) e = absurd cc

record Tree (rows : List Row) : Type 0 where
  tree : RowTree
  whole : AreWhole tree
  is : rows ≡ listed tree

tree_by : {bs : List Branch} {rows : List Row} → Closes bs rows → bs ≡ [] → Tree rows
tree_by (outside tree whole) e = record { tree = tree; whole = whole; is = refl }
tree_by (in_branch a b c d e f g h) none = absurd cc

record Ended (o : Outcome Pass) (file : ℕ) : Type 0 where
  last : Pass
  is : o ≡ Ok last
  none : last.branches ≡ []

ended : (o : Outcome Pass) (file : ℕ) (later : State) → then o (at_end file) ≡ Ok later → Ended o file
ended (Ok last) file later e = record { last = last; is = refl; none = none_open last.branches (closed_at file last.state later (outermost last.branches) e) }
ended (Err stop) file later e = absurd cc

pub files_whole : (reading : Reading) (setting : Setting) (state later : State) (name bytes : List ℕ) → of_text reading setting state name bytes ≡ Ok later
    → (rows : RowTree) × AreWhole rows × (rows_of setting.enabled bytes ≡ listed rows)
files_whole reading setting state later name bytes e =
    let file : ℕ = number_of name state.files in
    let end = ended (of_rows reading setting file name (rows_of setting.enabled bytes) (inside state [])) file later e in
    let t = tree_by (closing reading setting file name (rows_of setting.enabled bytes) state [] end.last end.none end.is) refl in
    (t.tree, t.whole, t.is)
