-- Lists of words for object types.
use Rattle.std.proofs.Common.{◌≡◌, ℕ, ◌+◌, ◌<◌, ◌≤◌, length, get_or, drop, List, ap, ◌∙◌, sym, Option, Some, None, true, false, ◌&&◌, nat_le, if◌then◌else◌}
use Rattle.std.proofs.lemmas.List.{drop_all}
use Rattle.iasl_messages.specs.declared.place.Place.{Place}
use Rattle.asl_syntax.specs.declared.raw.Infix.{Infix}
use Rattle.asl_syntax.specs.declared.raw.Raw.{Raw}
use Rattle.asl_syntax.specs.declared.raw.Raw.TheVariants as raw
use Rattle.asl_words.specs.declared.operator.Slot.{Slot}
use Rattle.acpi_state.specs.Outcomes.{choose}
use Rattle.asl_syntax.specs.Written.{writtens, written_in}
use Rattle.word_meanings.specs.Meanings.{unfit}
use Rattle.term_plans.specs.Plans.{an_integer}
use Rattle.asl_terms.specs.Terms.{is_type, is_bare_type, is_given, is_type_or_list, types_shape, most_types, refused, fine}
use Rattle.asl_terms.specs.AtRaw.{is_type_at, are_types_at, is_type_or_list_at, are_all_types_at, types_at, listed_at, is_some}
use Rattle.asl_terms.proofs.Terms.{nothing_more}
use Rattle.asl_terms.proofs.Bracketed.{from_item, given_some, counted}
use Rattle.asl_syntax.specs.Views.{written_number, written_text, written_item, written_apply, written_list, written_comma, written_semicolon, written_empty}

pub type_number : (place : Place) (n : ℕ) → is_type_at (raw.Number place n) ≡ false
unfolding is_type_at
type_number place n = ap is_type (written_number place n)

pub type_text : (place : Place) (bytes : List ℕ) → is_type_at (raw.Text place bytes) ≡ false
unfolding is_type_at
type_text place bytes = ap is_type (written_text place bytes)

pub type_word : (place : Place) (word : List ℕ) (args body : Option (List Raw)) → is_type_at (raw.Item place word args body) ≡ is_bare_type word (is_some args) (is_some body)
unfolding is_type_at
type_word place word args body =
    ap is_type (written_item place word args body) ∙ ap (λ b. is_bare_type word b (is_given (written_in body))) (given_some args) ∙ ap (is_bare_type word (is_some args)) (given_some body)

pub type_apply : (place : Place) (op : Infix) (args : List Raw) → is_type_at (raw.Apply place op args) ≡ false
unfolding is_type_at
type_apply place op args = ap is_type (written_apply place op args)

pub type_list : (place : Place) (items : List Raw) → is_type_at (raw.List place items) ≡ false
unfolding is_type_at
type_list place items = ap is_type (written_list place items)

pub type_comma : is_type_at raw.Comma ≡ false
unfolding is_type_at
type_comma = ap is_type written_comma

pub type_semicolon : is_type_at raw.Semicolon ≡ false
unfolding is_type_at
type_semicolon = ap is_type written_semicolon

pub type_empty : is_type_at raw.Empty ≡ false
unfolding is_type_at
type_empty = ap is_type written_empty

pub ruleset type_rules = (type_word)

-- ---- lists of them

pub types_end : (raws : List Raw) (i : ℕ) → length raws ≤ i → are_types_at (drop i raws) ≡ true
unfolding are_types_at writtens
types_end raws i le = ap are_types_at (drop_all i raws le)

types_step : (raws : List Raw) (i : ℕ) (d : Raw) → i < length raws → are_types_at (drop i raws) ≡ (is_type_at (get_or raws i d) && are_types_at (drop (i + 1) raws))
unfolding are_types_at writtens is_type_at
types_step raws i d lt = ap are_types_at (from_item raws i d lt)

pub types_go : (raws : List Raw) (i : ℕ) (d : Raw) → i < length raws → is_type_at (get_or raws i d) ≡ true → are_types_at (drop i raws) ≡ are_types_at (drop (i + 1) raws)
types_go raws i d lt e = types_step raws i d lt ∙ ap (λ b. b && are_types_at (drop (i + 1) raws)) e

pub types_stop : (raws : List Raw) (i : ℕ) (d : Raw) → i < length raws → is_type_at (get_or raws i d) ≡ false → are_types_at (drop i raws) ≡ false
types_stop raws i d lt e = types_step raws i d lt ∙ ap (λ b. b && are_types_at (drop (i + 1) raws)) e

pub ruleset types_steps = (types_end, types_go, types_stop)

pub all_end : (raws : List Raw) (i : ℕ) → length raws ≤ i → are_all_types_at (drop i raws) ≡ true
unfolding are_all_types_at writtens
all_end raws i le = ap are_all_types_at (drop_all i raws le)

all_step : (raws : List Raw) (i : ℕ) (d : Raw) → i < length raws → are_all_types_at (drop i raws) ≡ (is_type_or_list_at (get_or raws i d) && are_all_types_at (drop (i + 1) raws))
unfolding are_all_types_at writtens is_type_or_list_at
all_step raws i d lt = ap are_all_types_at (from_item raws i d lt)

pub all_go : (raws : List Raw) (i : ℕ) (d : Raw) → i < length raws → is_type_or_list_at (get_or raws i d) ≡ true → are_all_types_at (drop i raws) ≡ are_all_types_at (drop (i + 1) raws)
all_go raws i d lt e = all_step raws i d lt ∙ ap (λ b. b && are_all_types_at (drop (i + 1) raws)) e

pub all_stop : (raws : List Raw) (i : ℕ) (d : Raw) → i < length raws → is_type_or_list_at (get_or raws i d) ≡ false → are_all_types_at (drop i raws) ≡ false
all_stop raws i d lt e = all_step raws i d lt ∙ ap (λ b. b && are_all_types_at (drop (i + 1) raws)) e

pub ruleset all_steps = (all_end, all_go, all_stop)

-- ---- a word or a list

pub list_is : (place : Place) (items : List Raw) → is_type_or_list_at (raw.List place items) ≡ are_types_at items
unfolding is_type_or_list_at are_types_at
list_is place items = ap is_type_or_list (written_list place items)

pub item_is : (place : Place) (word : List ℕ) (args body : Option (List Raw)) → is_type_or_list_at (raw.Item place word args body) ≡ is_type_at (raw.Item place word args body)
unfolding is_type_or_list_at is_type_at
item_is place word args body = ap is_type_or_list (written_item place word args body) ∙ ap is_type (sym (written_item place word args body))

pub no_number : (place : Place) (n : ℕ) → is_type_or_list_at (raw.Number place n) ≡ false
unfolding is_type_or_list_at
no_number place n = ap is_type_or_list (written_number place n)

pub no_text : (place : Place) (bytes : List ℕ) → is_type_or_list_at (raw.Text place bytes) ≡ false
unfolding is_type_or_list_at
no_text place bytes = ap is_type_or_list (written_text place bytes)

pub no_apply : (place : Place) (op : Infix) (args : List Raw) → is_type_or_list_at (raw.Apply place op args) ≡ false
unfolding is_type_or_list_at
no_apply place op args = ap is_type_or_list (written_apply place op args)

pub no_comma : is_type_or_list_at raw.Comma ≡ false
unfolding is_type_or_list_at
no_comma = ap is_type_or_list written_comma

pub no_semicolon : is_type_or_list_at raw.Semicolon ≡ false
unfolding is_type_or_list_at
no_semicolon = ap is_type_or_list written_semicolon

pub no_empty : is_type_or_list_at raw.Empty ≡ false
unfolding is_type_or_list_at
no_empty = ap is_type_or_list written_empty

pub ruleset list_rules = (list_is, item_is)

pub types_are : (most : ℕ) (place : Place) (raws : List Raw) → types_at most place raws ≡ (if are_all_types_at raws then (if nat_le (length raws) most then fine (an_integer (length raws)) else refused 6024 place) else refused 6022 place)
unfolding types_at are_all_types_at
types_are most place raws = ap (λ n. if are_all_types_at raws then (if nat_le n most then fine (an_integer n) else refused 6024 place) else refused 6022 place) (counted raws)

pub ruleset counted_rules = (types_are, nothing_more)

pub listed_types : (s : Slot) (most : ℕ) (place : Place) (raws : List Raw) → most_types s ≡ Some most → listed_at s place raws ≡ types_at most place raws
unfolding listed_at types_at
listed_types s most place raws e = ap (λ o. choose o (refused (unfit s) place) (λ most. types_shape most place (writtens raws))) e

pub listed_nothing : (s : Slot) (place : Place) (raws : List Raw) → most_types s ≡ None → listed_at s place raws ≡ refused (unfit s) place
unfolding listed_at
listed_nothing s place raws e = ap (λ o. choose o (refused (unfit s) place) (λ most. types_shape most place (writtens raws))) e

pub ruleset listed_rules = (listed_types, listed_nothing, nothing_more)
