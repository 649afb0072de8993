-- What is told of too many copies stands in the files in which a block and its plans stand.
use Rattle.std.proofs.Common.{ℕ, ◌+◌, ◌<◌, Bool, true, false, [], ◌∷◌, Option, Some, None}
use Rattle.std.specs.Prelude.{nat_lt, if◌then◌else◌}
use Rattle.std.specs.List.{All}
use Rattle.iasl_messages.specs.declared.place.Place.{Place}
use Rattle.asl_syntax.specs.Within.{IsIn}
use Rattle.term_plans.specs.Places.{AreTold}
use Rattle.term_plans.specs.Plans.{Plan, a_call, a_form, Plans, no_plans, plan}
use Rattle.asl_numbers.specs.Numbers.{nodes}
use Rattle.asl_tree.specs.Tree.{Trees}
use Rattle.core_nodes.specs.Nodes.{nodes_in}
use Rattle.copy_checks.specs.Copies.{is_for, earlier, for_at, first_for, at_for, many_copies, too_many_copies}
use Rattle.descriptor_shapes.specs.Places.{PlanWithin, PlansWithin}
use Rattle.program_shapes.proofs.ListPlaces.{as_all}

module _ (files : ℕ) where
  abbrev IsInFile : Option Place → Type 0
  IsInFile None = Unit {0}
  IsInFile (Some place) = IsIn files place

  earlier_within : (first second : Option Place) → IsInFile first → IsInFile second → IsInFile (earlier first second)
  earlier_within None second h k = k
  earlier_within (Some place) second h k = h

  by_op : (c : Bool) (place : Place) (inner : Option Place) → IsIn files place → IsInFile inner → IsInFile (if c then Some place else inner)
  by_op true place inner h k = h
  by_op false place inner h k = k

  mutual
    for_within : (place : Place) (p : Plan) → IsIn files place → PlanWithin files p → IsInFile (for_at place p)
    for_within place (a_call name args) h k = first_within args k
    for_within place (a_form op args body) h k =
        by_op (is_for op) place (earlier (first_for args) (first_for body)) h (earlier_within (first_for args) (first_for body) (first_within args k.0) (first_within body k.1))
    for_within place p h k = tt

    first_within : (ps : Plans) → PlansWithin files ps → IsInFile (first_for ps)
    first_within no_plans h = tt
    first_within (plan place p ps) h = earlier_within (for_at place p) (first_for ps) (for_within place p h.0 h.1) (first_within ps h.2)

  at_within : (found : Option Place) (block : Place) → IsInFile found → IsIn files block → IsIn files (at_for found block)
  at_within None block h k = k
  at_within (Some place) block h k = h

  by_count : (c : Bool) (place : Place) → IsIn files place → AreTold files (if c then [] else many_copies place ∷ [])
  by_count true place h = tt
  by_count false place h = (h, tt)

pub copies_within : (files : ℕ) (block : Place) (ps : Plans) (core : Trees) → block.file < files → PlansWithin files ps → All (λ m. m.place.file < files) (too_many_copies block ps core)
copies_within files block ps core h k =
    as_all files (too_many_copies block ps core)
    (by_count files (nat_lt (nodes ps + nodes_in core) 4294967296) (at_for (first_for ps) block) (at_within files (first_for ps) block (first_within files ps k) h))
