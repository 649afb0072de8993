-- The places of nodes.
use Rattle.std.proofs.Common.{◌≡◌, ℕ, List, Option, ap}
use Rattle.iasl_messages.specs.declared.place.Place.{Place}
use Rattle.asl_syntax.specs.declared.raw.Infix.{Infix}
use Rattle.asl_syntax.specs.declared.raw.Raw.{Raw}
use Rattle.asl_syntax.specs.declared.raw.Raw.TheVariants as raw
use Rattle.asl_terms.specs.Terms.{place_of}
use Rattle.asl_terms.specs.AtRaw.{place_at}
use Rattle.asl_syntax.specs.Views.{written_number, written_text, written_item, written_apply, written_list, written_comma, written_semicolon, written_empty}

pub place_number : (other place : Place) (n : ℕ) → place_at other (raw.Number place n) ≡ place
unfolding place_at
place_number other place n = ap (place_of other) (written_number place n)

pub place_text : (other place : Place) (bytes : List ℕ) → place_at other (raw.Text place bytes) ≡ place
unfolding place_at
place_text other place bytes = ap (place_of other) (written_text place bytes)

pub place_item : (other place : Place) (word : List ℕ) (args body : Option (List Raw)) → place_at other (raw.Item place word args body) ≡ place
unfolding place_at
place_item other place word args body = ap (place_of other) (written_item place word args body)

pub place_apply : (other place : Place) (op : Infix) (args : List Raw) → place_at other (raw.Apply place op args) ≡ place
unfolding place_at
place_apply other place op args = ap (place_of other) (written_apply place op args)

pub place_list : (other place : Place) (items : List Raw) → place_at other (raw.List place items) ≡ place
unfolding place_at
place_list other place items = ap (place_of other) (written_list place items)

pub place_comma : (other : Place) → place_at other raw.Comma ≡ other
unfolding place_at
place_comma other = ap (place_of other) written_comma

pub place_semicolon : (other : Place) → place_at other raw.Semicolon ≡ other
unfolding place_at
place_semicolon other = ap (place_of other) written_semicolon

pub place_empty : (other : Place) → place_at other raw.Empty ≡ other
unfolding place_at
place_empty other = ap (place_of other) written_empty

pub ruleset place_rules = (place_number, place_text, place_item, place_apply, place_list, place_comma, place_semicolon, place_empty)
