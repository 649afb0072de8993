-- The errors of the kinds of arguments, and of the lengths of lists, stand where the plans stand.
use Rattle.std.proofs.Common.{ℕ, suc, ◌+◌, ◌<◌, Bool, true, false, List, [], ◌∷◌, ◌++◌, Option, Some, None}
use Rattle.std.specs.List.{All}
use Rattle.iasl_messages.specs.declared.place.Place.{Place}
use Rattle.iasl_messages.specs.declared.message.Message.{Message}
use Rattle.acpi_values.specs.declared.width.Width.{Width}
use Rattle.asl_tree.specs.Tree.{Trees}
use Rattle.asl_tree.specs.declared.term.Op.{Op}
use Rattle.asl_syntax.specs.Within.{IsIn}
use Rattle.term_plans.specs.Plans.{Plan, a_call, a_form, Plans, no_plans, plan, plan_at, constant_of}
use Rattle.term_plans.specs.Places.{AreTold}
use Rattle.asl_numbers.specs.Numbers.{inside, nodes}
use Rattle.name_entries.specs.declared.kind.ObjectType.{ObjectType as Named}
use Rattle.type_checks.specs.Kinds.{is_place, wanted_of, kinds_of}
use Rattle.type_checks.specs.Names.{named}
use Rattle.type_checks.specs.Sizes.{is_below, list_length, told, size_errors, term_errors, long_lists}
use Rattle.type_checks.specs.Types.{fits, unless, argument_errors, errors_inside, errors_of, wrong_types}
use Rattle.descriptor_shapes.specs.Places.{PlanWithin, PlansWithin}
use Rattle.program_shapes.proofs.ListPlaces.{as_all}

module _ (files : ℕ) where
  both : (xs ys : List Message) → AreTold files xs → AreTold files ys → AreTold files (xs ++ ys)
  both [] ys h k = k
  both (x ∷ xs) ys h k = (h.0, both xs ys h.1 k)

  unless_within : (fit : Bool) (place : Place) → IsIn files place → AreTold files (unless fit place)
  unless_within true place h = tt
  unless_within false place h = (h, tt)

  told_within : (wrong : Bool) (place : Place) → IsIn files place → AreTold files (told wrong place)
  told_within true place h = (h, tt)
  told_within false place h = tt

  module _ (names : ℕ → Named) where
    mutual
      inside_within : (node : ℕ) (p : Plan) → PlanWithin files p → AreTold files (errors_inside names node p)
      inside_within node (a_call name args) h = arguments_within None 0 node args h
      inside_within node (a_form op args body) h =
          both (errors_of names (Some op) 0 node args) (errors_of names None 0 (node + nodes args) body) (arguments_within (Some op) 0 node args h.0) (arguments_within None 0 (node + nodes args) body h.1)
      inside_within node _ h = tt

      arguments_within : (asker : Option Op) (at node : ℕ) (ps : Plans) → PlansWithin files ps → AreTold files (errors_of names asker at node ps)
      arguments_within asker at node no_plans h = tt
      arguments_within asker at node (plan place p ps) h =
          both (argument_errors names (wanted_of asker at) node place p) (errors_inside names (suc node) p ++ errors_of names asker (suc at) (suc (node + inside p)) ps)
          (unless_within (fits (wanted_of asker at) (kinds_of names (is_place (wanted_of asker at)) node p)) place h.0)
          (both (errors_inside names (suc node) p) (errors_of names asker (suc at) (suc (node + inside p)) ps) (inside_within (suc node) p h.1) (arguments_within asker (suc at) (suc (node + inside p)) ps h.2))

  module _ (width : Width) where
    mutual
      term_within : (place : Place) (p : Plan) → IsIn files place → PlanWithin files p → AreTold files (term_errors width place p)
      term_within place (a_call name args) h k = lists_within args k
      term_within place (a_form op args body) h k =
          both (size_errors width place op args body) (long_lists width args ++ long_lists width body)
          (told_within (is_below (constant_of width (plan_at args 0)) (list_length op body)) place h)
          (both (long_lists width args) (long_lists width body) (lists_within args k.0) (lists_within body k.1))
      term_within place _ h k = tt

      lists_within : (ps : Plans) → PlansWithin files ps → AreTold files (long_lists width ps)
      lists_within no_plans h = tt
      lists_within (plan place p ps) h = both (term_errors width place p) (long_lists width ps) (term_within place p h.0 h.1) (lists_within ps h.2)

pub types_within : (files : ℕ) (program : Trees) (ps : Plans) → PlansWithin files ps → All (λ (m : Message). m.place.file < files) (wrong_types program ps)
types_within files program ps h = as_all files (wrong_types program ps) (arguments_within files (named program) None 0 0 ps h)

pub sizes_within : (files : ℕ) (width : Width) (ps : Plans) → PlansWithin files ps → All (λ (m : Message). m.place.file < files) (long_lists width ps)
sizes_within files width ps h = as_all files (long_lists width ps) (lists_within files width ps h)
