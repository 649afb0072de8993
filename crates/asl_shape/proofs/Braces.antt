-- Lists in braces.
use Rattle.std.proofs.Common.{◌≡◌, ℕ, ◌+◌, ◌<◌, length, get_or, drop, ◌≤◌, List, [], ◌∷◌, refl, ap, ◌∙◌, Option, Some, None, Bool, true}
use Rattle.std.proofs.Common.{false, ◌&&◌, ◌||◌, if◌then◌else◌}
use Rattle.std.proofs.lemmas.List.{drop_all}
use Rattle.iasl_messages.specs.declared.place.Place.{Place}
use Rattle.asl_syntax.specs.declared.raw.Infix.{Infix}
use Rattle.asl_syntax.specs.declared.raw.Raw.{Raw}
use Rattle.asl_syntax.specs.declared.raw.Raw.TheVariants as raw
use Rattle.asl_words.specs.declared.operator.Slot.TheVariants as slot
use Rattle.asl_words.specs.declared.operator.StringForm.TheVariants as form
use Rattle.asl_syntax.specs.Written.{writtens}
use Rattle.asl_shape.specs.Shapes.{is_separator, is_comma, run_after, is_text, is_none, default_after}
use Rattle.word_meanings.specs.Meanings.{meaning_of, run_behind, is_default}
use Rattle.asl_terms.specs.AtRaw.{is_some}
use Rattle.asl_shape.specs.AtRaw.{is_separator_at, is_comma_at, run_after_at, is_listed_at, byte_slot_at, is_list_end_at, is_text_at, due_at}
use Rattle.asl_shape.specs.AtRaw.{default_after_at}
use Rattle.acpi_state.specs.Outcomes.{choose}
use Rattle.asl_shape.proofs.ItemLaws.{is_none_short, is_none_long}
use Rattle.asl_terms.proofs.Bracketed.{given_some, from_item}
use Rattle.asl_syntax.specs.Views.{written_number, written_text, written_item, written_apply, written_list, written_comma, written_semicolon, written_empty}

pub separator_number : (place : Place) (n : ℕ) → is_separator_at (raw.Number place n) ≡ false
unfolding is_separator_at
separator_number place n = ap is_separator (written_number place n)

pub separator_text : (place : Place) (bytes : List ℕ) → is_separator_at (raw.Text place bytes) ≡ false
unfolding is_separator_at
separator_text place bytes = ap is_separator (written_text place bytes)

pub separator_item : (place : Place) (word : List ℕ) (args body : Option (List Raw)) → is_separator_at (raw.Item place word args body) ≡ false
unfolding is_separator_at
separator_item place word args body = ap is_separator (written_item place word args body)

pub separator_apply : (place : Place) (op : Infix) (args : List Raw) → is_separator_at (raw.Apply place op args) ≡ false
unfolding is_separator_at
separator_apply place op args = ap is_separator (written_apply place op args)

pub separator_list : (place : Place) (items : List Raw) → is_separator_at (raw.List place items) ≡ false
unfolding is_separator_at
separator_list place items = ap is_separator (written_list place items)

pub separator_comma : is_separator_at (raw.Comma) ≡ true
unfolding is_separator_at
separator_comma = ap is_separator (written_comma)

pub separator_semicolon : is_separator_at (raw.Semicolon) ≡ true
unfolding is_separator_at
separator_semicolon = ap is_separator (written_semicolon)

pub separator_empty : is_separator_at (raw.Empty) ≡ false
unfolding is_separator_at
separator_empty = ap is_separator (written_empty)

pub comma_number : (place : Place) (n : ℕ) → is_comma_at (raw.Number place n) ≡ false
unfolding is_comma_at
comma_number place n = ap is_comma (written_number place n)

pub comma_text : (place : Place) (bytes : List ℕ) → is_comma_at (raw.Text place bytes) ≡ false
unfolding is_comma_at
comma_text place bytes = ap is_comma (written_text place bytes)

pub comma_item : (place : Place) (word : List ℕ) (args body : Option (List Raw)) → is_comma_at (raw.Item place word args body) ≡ false
unfolding is_comma_at
comma_item place word args body = ap is_comma (written_item place word args body)

pub comma_apply : (place : Place) (op : Infix) (args : List Raw) → is_comma_at (raw.Apply place op args) ≡ false
unfolding is_comma_at
comma_apply place op args = ap is_comma (written_apply place op args)

pub comma_list : (place : Place) (items : List Raw) → is_comma_at (raw.List place items) ≡ false
unfolding is_comma_at
comma_list place items = ap is_comma (written_list place items)

pub comma_comma : is_comma_at (raw.Comma) ≡ true
unfolding is_comma_at
comma_comma = ap is_comma (written_comma)

pub comma_semicolon : is_comma_at (raw.Semicolon) ≡ false
unfolding is_comma_at
comma_semicolon = ap is_comma (written_semicolon)

pub comma_empty : is_comma_at (raw.Empty) ≡ false
unfolding is_comma_at
comma_empty = ap is_comma (written_empty)

pub run_number : (run : Option ℕ) (place : Place) (n : ℕ) → run_after_at run (raw.Number place n) ≡ None
unfolding run_after_at
run_number run place n = ap (run_after run) (written_number place n)

pub run_text : (run : Option ℕ) (place : Place) (bytes : List ℕ) → run_after_at run (raw.Text place bytes) ≡ None
unfolding run_after_at
run_text run place bytes = ap (run_after run) (written_text place bytes)

pub run_item : (run : Option ℕ) (place : Place) (word : List ℕ) (args body : Option (List Raw)) → run_after_at run (raw.Item place word args body) ≡ run_behind run (meaning_of word (is_some body))
unfolding run_after_at
run_item run place word args body = ap (run_after run) (written_item place word args body) ∙ ap (λ b. run_behind run (meaning_of word b)) (given_some body)

pub run_apply : (run : Option ℕ) (place : Place) (op : Infix) (args : List Raw) → run_after_at run (raw.Apply place op args) ≡ None
unfolding run_after_at
run_apply run place op args = ap (run_after run) (written_apply place op args)

pub run_list : (run : Option ℕ) (place : Place) (items : List Raw) → run_after_at run (raw.List place items) ≡ None
unfolding run_after_at
run_list run place items = ap (run_after run) (written_list place items)

pub run_comma : (run : Option ℕ) → run_after_at run (raw.Comma) ≡ run
unfolding run_after_at
run_comma run = ap (run_after run) (written_comma)

pub run_semicolon : (run : Option ℕ) → run_after_at run (raw.Semicolon) ≡ run
unfolding run_after_at
run_semicolon run = ap (run_after run) (written_semicolon)

pub run_empty : (run : Option ℕ) → run_after_at run (raw.Empty) ≡ None
unfolding run_after_at
run_empty run = ap (run_after run) (written_empty)

pub ruleset run_rules = (run_number, run_text, run_item, run_apply, run_list, run_comma, run_semicolon, run_empty)

pub default_number : (before : Bool) (place : Place) (n : ℕ) → default_after_at before (raw.Number place n) ≡ before
unfolding default_after_at
default_number before place n = ap (default_after before) (written_number place n)

pub default_text : (before : Bool) (place : Place) (bytes : List ℕ) → default_after_at before (raw.Text place bytes) ≡ before
unfolding default_after_at
default_text before place bytes = ap (default_after before) (written_text place bytes)

pub default_item : (before : Bool) (place : Place) (word : List ℕ) (args body : Option (List Raw)) → default_after_at before (raw.Item place word args body) ≡ (before || is_default (meaning_of word (is_some body)))
unfolding default_after_at
default_item before place word args body = ap (default_after before) (written_item place word args body) ∙ ap (λ b. before || is_default (meaning_of word b)) (given_some body)

pub default_apply : (before : Bool) (place : Place) (op : Infix) (args : List Raw) → default_after_at before (raw.Apply place op args) ≡ before
unfolding default_after_at
default_apply before place op args = ap (default_after before) (written_apply place op args)

pub default_list : (before : Bool) (place : Place) (items : List Raw) → default_after_at before (raw.List place items) ≡ before
unfolding default_after_at
default_list before place items = ap (default_after before) (written_list place items)

pub default_comma : (before : Bool) → default_after_at before (raw.Comma) ≡ before
unfolding default_after_at
default_comma before = ap (default_after before) (written_comma)

pub default_semicolon : (before : Bool) → default_after_at before (raw.Semicolon) ≡ before
unfolding default_after_at
default_semicolon before = ap (default_after before) (written_semicolon)

pub default_empty : (before : Bool) → default_after_at before (raw.Empty) ≡ before
unfolding default_after_at
default_empty before = ap (default_after before) (written_empty)

pub ruleset default_rules = (default_number, default_text, default_item, default_apply, default_list, default_comma, default_semicolon, default_empty)

pub listed_end : (due : Bool) → is_listed_at due [] ≡ true
unfolding is_listed_at writtens
listed_end due = refl

pub due_is : (due : Bool) (r : Raw) → due_at due r ≡ (if is_separator_at r then (if is_comma_at r then (if due then None else Some true) else None) else (if due then Some false else None))
unfolding due_at is_separator_at is_comma_at
due_is due r = refl

pub ruleset due_rules = (due_is)

pub listed_more : (due : Bool) (r : Raw) (rs : List Raw) → is_listed_at due (r ∷ rs) ≡ choose (due_at due r) false (λ next. is_listed_at next rs)
unfolding is_listed_at writtens due_at
listed_more due r rs = refl

pub text_number : (place : Place) (n : ℕ) → is_text_at (raw.Number place n) ≡ false
unfolding is_text_at
text_number place n = ap is_text (written_number place n)

pub text_text : (place : Place) (bytes : List ℕ) → is_text_at (raw.Text place bytes) ≡ true
unfolding is_text_at
text_text place bytes = ap is_text (written_text place bytes)

pub text_item : (place : Place) (word : List ℕ) (args body : Option (List Raw)) → is_text_at (raw.Item place word args body) ≡ false
unfolding is_text_at
text_item place word args body = ap is_text (written_item place word args body)

pub text_apply : (place : Place) (op : Infix) (args : List Raw) → is_text_at (raw.Apply place op args) ≡ false
unfolding is_text_at
text_apply place op args = ap is_text (written_apply place op args)

pub text_list : (place : Place) (items : List Raw) → is_text_at (raw.List place items) ≡ false
unfolding is_text_at
text_list place items = ap is_text (written_list place items)

pub text_comma : is_text_at (raw.Comma) ≡ false
unfolding is_text_at
text_comma = ap is_text (written_comma)

pub text_semicolon : is_text_at (raw.Semicolon) ≡ false
unfolding is_text_at
text_semicolon = ap is_text (written_semicolon)

pub text_empty : is_text_at (raw.Empty) ≡ false
unfolding is_text_at
text_empty = ap is_text (written_empty)

pub bytes_none : byte_slot_at [] ≡ slot.Constant 0 255
unfolding byte_slot_at writtens
bytes_none = refl

pub bytes_more : (r : Raw) (rs : List Raw) → byte_slot_at (r ∷ rs) ≡ (if is_list_end_at rs && is_text_at r then slot.String form.Any else slot.Constant 0 255)
unfolding byte_slot_at writtens is_list_end_at is_text_at
bytes_more r rs = refl

pub ruleset byte_rules = (bytes_none, bytes_more)

pub end_none : is_list_end_at [] ≡ true
unfolding is_list_end_at writtens
end_none = refl

pub end_more : (r : Raw) (rs : List Raw) → is_list_end_at (r ∷ rs) ≡ (is_none (writtens rs) && is_comma_at r)
unfolding is_list_end_at writtens is_comma_at
end_more r rs = refl

pub ruleset end_rules = (end_none, end_more, is_none_short, is_none_long)

pub listed_step : (due : Bool) (raws : List Raw) (i : ℕ) (d : Raw) → i < length raws → is_listed_at due (drop i raws) ≡ choose (due_at due (get_or raws i d)) false (λ next. is_listed_at next (drop (i + 1) raws))
listed_step due raws i d lt = ap (is_listed_at due) (from_item raws i d lt) ∙ listed_more due (get_or raws i d) (drop (i + 1) raws)

pub listed_over : (due : Bool) (raws : List Raw) (i : ℕ) → length raws ≤ i → is_listed_at due (drop i raws) ≡ true
listed_over due raws i le = ap (is_listed_at due) (drop_all i raws le) ∙ listed_end due

pub listed_stop : (due : Bool) (raws : List Raw) (i : ℕ) (d : Raw) → i < length raws → due_at due (get_or raws i d) ≡ None → is_listed_at due (drop i raws) ≡ false
listed_stop due raws i d lt e = listed_step due raws i d lt ∙ ap (λ o. choose o false (λ next. is_listed_at next (drop (i + 1) raws))) e

pub listed_go : (due next : Bool) (raws : List Raw) (i : ℕ) (d : Raw) → i < length raws → due_at due (get_or raws i d) ≡ Some next → is_listed_at due (drop i raws) ≡ is_listed_at next (drop (i + 1) raws)
listed_go due next raws i d lt e = listed_step due raws i d lt ∙ ap (λ o. choose o false (λ next. is_listed_at next (drop (i + 1) raws))) e

pub ruleset listed_steps = (listed_end, listed_stop, listed_go, listed_over)
