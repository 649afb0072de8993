-- The list of a field, member by member.
use Rattle.std.proofs.Common.{◌≡◌, ℕ, ◌+◌, ◌<◌, ◌≤◌, length, get_or, drop, arith, List, [], ◌∷◌, refl, ap, sym, ◌∙◌, Option, Some, None}
use Rattle.std.proofs.Common.{false}
use Rattle.std.specs.Prelude.{if◌then◌else◌}
use Rattle.std.proofs.lemmas.List.{drop_all}
use Rattle.acpi_state.specs.Outcomes.{choose}
use Rattle.iasl_messages.specs.declared.place.Place.{Place}
use Rattle.asl_syntax.specs.declared.raw.Infix.{Infix}
use Rattle.asl_syntax.specs.declared.raw.Raw.{Raw}
use Rattle.asl_syntax.specs.declared.raw.Raw.TheVariants as raw
use Rattle.word_meanings.specs.declared.meaning.Meaning.TheVariants as is
use Rattle.word_meanings.specs.Meanings.{meaning_of, is_whole, is_connection}
use Rattle.asl_shape.specs.declared.fields.Due.{Due}
use Rattle.asl_syntax.specs.Written.{written, writtens}
use Rattle.term_plans.specs.Places.{nowhere}
use Rattle.asl_terms.specs.Terms.{place_of}
use Rattle.asl_shape.specs.Shapes.{meaning_in, next_due, may_stop, first_place, inner_place}
use Rattle.asl_terms.specs.AtRaw.{is_some, inside_at, place_at}
use Rattle.asl_shape.specs.AtRaw.{is_comma_at, is_separator_at, meaning_at, first_place_at, inner_place_at, element_place_at, goes_on_at}
use Rattle.asl_shape.specs.AtRaw.{due_behind_at, is_field_list_at}
use Rattle.asl_syntax.specs.Views.{written_number, written_text, written_item, written_apply, written_list, written_comma, written_semicolon, written_empty}
use Rattle.term_plans.proofs.Lists.{join_nothing}
use Rattle.asl_terms.proofs.Bracketed.{given_some, from_item, inside_written}

-- ---- what a member is

pub meaning_number : (place : Place) (n : ℕ) → meaning_at (raw.Number place n) ≡ is.Unknown
unfolding meaning_at
meaning_number place n = ap meaning_in (written_number place n)

pub meaning_text : (place : Place) (bytes : List ℕ) → meaning_at (raw.Text place bytes) ≡ is.Unknown
unfolding meaning_at
meaning_text place bytes = ap meaning_in (written_text place bytes)

pub meaning_item : (place : Place) (word : List ℕ) (args body : Option (List Raw)) → meaning_at (raw.Item place word args body) ≡ meaning_of word (is_some body)
unfolding meaning_at
meaning_item place word args body = ap meaning_in (written_item place word args body) ∙ ap (meaning_of word) (given_some body)

pub meaning_apply : (place : Place) (op : Infix) (args : List Raw) → meaning_at (raw.Apply place op args) ≡ is.Unknown
unfolding meaning_at
meaning_apply place op args = ap meaning_in (written_apply place op args)

pub meaning_list : (place : Place) (items : List Raw) → meaning_at (raw.List place items) ≡ is.Unknown
unfolding meaning_at
meaning_list place items = ap meaning_in (written_list place items)

pub meaning_comma : meaning_at (raw.Comma) ≡ is.Unknown
unfolding meaning_at
meaning_comma = ap meaning_in (written_comma)

pub meaning_semicolon : meaning_at (raw.Semicolon) ≡ is.Unknown
unfolding meaning_at
meaning_semicolon = ap meaning_in (written_semicolon)

pub meaning_empty : meaning_at (raw.Empty) ≡ is.Unknown
unfolding meaning_at
meaning_empty = ap meaning_in (written_empty)

pub ruleset meaning_rules = (meaning_number, meaning_text, meaning_item, meaning_apply, meaning_list, meaning_comma, meaning_semicolon, meaning_empty)

-- ---- what may come behind it

pub goes_on_is : (due : Due) (r : Raw) → goes_on_at due r ≡ next_due due (is_comma_at r) (is_separator_at r) (is_whole (meaning_at r))
unfolding goes_on_at is_comma_at is_separator_at meaning_at
goes_on_is due r = refl

pub due_behind_is : (due : Due) (r : Raw) → due_behind_at due r ≡ choose (goes_on_at due r) Due.Comma (λ next. next)
unfolding due_behind_at goes_on_at
due_behind_is due r = refl

pub ruleset next_rules = (goes_on_is, due_behind_is)

pub list_end : (due : Due) → is_field_list_at due [] ≡ may_stop due
unfolding is_field_list_at writtens
list_end due = refl

pub list_more : (due : Due) (r : Raw) (rs : List Raw) → is_field_list_at due (r ∷ rs) ≡ choose (goes_on_at due r) false (λ next. is_field_list_at next rs)
unfolding is_field_list_at writtens goes_on_at
list_more due r rs = refl

pub list_step : (due : Due) (raws : List Raw) (i : ℕ) (d : Raw) → i < length raws → is_field_list_at due (drop i raws) ≡ choose (goes_on_at due (get_or raws i d)) false (λ next. is_field_list_at next (drop (i + 1) raws))
list_step due raws i d lt = ap (is_field_list_at due) (from_item raws i d lt) ∙ list_more due (get_or raws i d) (drop (i + 1) raws)

pub list_over : (due : Due) (raws : List Raw) (i : ℕ) → length raws ≤ i → is_field_list_at due (drop i raws) ≡ may_stop due
list_over due raws i le = ap (is_field_list_at due) (drop_all i raws le) ∙ list_end due

pub list_stop : (due : Due) (raws : List Raw) (i : ℕ) (d : Raw) → i < length raws → goes_on_at due (get_or raws i d) ≡ None → is_field_list_at due (drop i raws) ≡ false
list_stop due raws i d lt e = list_step due raws i d lt ∙ ap (λ o. choose o false (λ next. is_field_list_at next (drop (i + 1) raws))) e

pub list_go : (due next : Due) (raws : List Raw) (i : ℕ) (d : Raw) → i < length raws → goes_on_at due (get_or raws i d) ≡ Some next → is_field_list_at due (drop i raws) ≡ is_field_list_at next (drop (i + 1) raws)
list_go due next raws i d lt e = list_step due raws i d lt ∙ ap (λ o. choose o false (λ next. is_field_list_at next (drop (i + 1) raws))) e

pub ruleset list_steps = (list_end, list_stop, list_go, list_over)

-- ---- terms

pub ruleset whole_rules = (join_nothing)

-- ---- where an element stands

pub first_place_none : (place : Place) (args : List Raw) → length args ≤ 0 → first_place_at place args ≡ place
unfolding first_place_at writtens
first_place_none place [] le = refl
first_place_none place (r ∷ rs) le = absurd (omega (arith, le))

pub first_place_some : (place : Place) (args : List Raw) (d : Raw) → 0 < length args → d ≡ get_or args 0 d → first_place_at place args ≡ place_at place d
unfolding first_place_at writtens place_at
first_place_some place [] d lt e = absurd (omega (arith, lt))
first_place_some place (r ∷ rs) d lt e = ap (λ r. place_of place (written r)) (sym e)

pub inner_item : (place p : Place) (word : List ℕ) (args body : Option (List Raw)) → inner_place_at place (raw.Item p word args body) ≡ first_place_at place (inside_at args)
unfolding inner_place_at first_place_at
inner_item place p word args body = ap (inner_place place) (written_item p word args body) ∙ ap (first_place place) (inside_written args)

pub inner_number : (place p : Place) (n : ℕ) → inner_place_at place (raw.Number p n) ≡ place
unfolding inner_place_at
inner_number place p n = ap (inner_place place) (written_number p n)

pub inner_text : (place p : Place) (bytes : List ℕ) → inner_place_at place (raw.Text p bytes) ≡ place
unfolding inner_place_at
inner_text place p bytes = ap (inner_place place) (written_text p bytes)

pub inner_apply : (place p : Place) (op : Infix) (args : List Raw) → inner_place_at place (raw.Apply p op args) ≡ place
unfolding inner_place_at
inner_apply place p op args = ap (inner_place place) (written_apply p op args)

pub inner_list : (place p : Place) (items : List Raw) → inner_place_at place (raw.List p items) ≡ place
unfolding inner_place_at
inner_list place p items = ap (inner_place place) (written_list p items)

pub inner_comma : (place : Place) → inner_place_at place (raw.Comma) ≡ place
unfolding inner_place_at
inner_comma place = ap (inner_place place) (written_comma)

pub inner_semicolon : (place : Place) → inner_place_at place (raw.Semicolon) ≡ place
unfolding inner_place_at
inner_semicolon place = ap (inner_place place) (written_semicolon)

pub inner_empty : (place : Place) → inner_place_at place (raw.Empty) ≡ place
unfolding inner_place_at
inner_empty place = ap (inner_place place) (written_empty)

pub element_place_is : (r : Raw) → element_place_at r ≡ (if is_connection (meaning_at r) then inner_place_at (place_at nowhere r) r else place_at nowhere r)
unfolding element_place_at inner_place_at place_at meaning_at
element_place_is r = refl

pub ruleset place_rules = (first_place_none, first_place_some, inner_item, inner_number, inner_text, inner_apply, inner_list, inner_comma, inner_semicolon, inner_empty, element_place_is)
