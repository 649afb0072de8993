-- The same of the tree of the syntax itself.
use Rattle.std.specs.Prelude.{ℕ, Bool, true, false, List, [], Option, Some, None}
use Rattle.iasl_messages.specs.declared.place.Place.{Place}
use Rattle.asl_syntax.specs.declared.raw.Raw.{Raw}
use Rattle.term_plans.specs.Plans.{Plan, omitted, Plans, no_plans, plan}
use Rattle.asl_words.specs.declared.operator.Slot.{Slot}
use Rattle.asl_syntax.specs.Written.{written, writtens}
use Rattle.asl_terms.specs.Terms.{Shaped, place_of, listed_shape, types_shape, is_type, are_types, is_type_or_list, are_all_types}

abbrev pub inside_at : Option (List Raw) → List Raw
inside_at None = []
inside_at (Some raws) = raws

unfoldable pub place_at : Place → Raw → Place
place_at place raw = place_of place (written raw)

abbrev pub is_some : Option (List Raw) → Bool
is_some None = false
is_some (Some raws) = true

abbrev pub left_at : Place → Plans
left_at place = plan place omitted no_plans

-- a list as an argument
unfoldable pub listed_at : Slot → Place → List Raw → Shaped Plan
listed_at s place raws = listed_shape s place (writtens raws)

unfoldable pub types_at : ℕ → Place → List Raw → Shaped Plan
types_at most place raws = types_shape most place (writtens raws)

unfoldable pub is_type_at : Raw → Bool
is_type_at raw = is_type (written raw)

unfoldable pub are_types_at : List Raw → Bool
are_types_at raws = are_types (writtens raws)

unfoldable pub is_type_or_list_at : Raw → Bool
is_type_or_list_at raw = is_type_or_list (written raw)

unfoldable pub are_all_types_at : List Raw → Bool
are_all_types_at raws = are_all_types (writtens raws)
