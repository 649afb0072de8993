-- The errors of a program's statements stand in the files in which its plans stand.
use Rattle.std.proofs.Common.{ℕ, ◌<◌, Bool, true, false, List, [], ◌∷◌, ◌++◌, arith}
use Rattle.std.specs.Prelude.{nat_le}
use Rattle.std.specs.List.{All}
use Rattle.std.proofs.lemmas.List.Elements.{All-cons}
use Rattle.iasl_messages.specs.declared.place.Place.{Place}
use Rattle.iasl_messages.specs.declared.message.Message.{Message}
use Rattle.term_plans.specs.Plans.{Plan, an_arg, a_call, a_form, Plans, no_plans, plan}
use Rattle.asl_syntax.specs.Within.{IsIn}
use Rattle.term_plans.specs.Places.{AreTold}
use Rattle.statement_checks.specs.declared.check.Around.{Around}
use Rattle.statement_checks.specs.Statements.{around_body, misses_loop, told, term_errors, statement_errors, outside, errors_of_statements}
use Rattle.descriptor_shapes.specs.Places.{PlanWithin, PlansWithin}

module _ (files : ℕ) where
  both : (xs ys : List Message) → AreTold files xs → AreTold files ys → AreTold files (xs ++ ys)
  both [] ys h k = k
  both (x ∷ xs) ys h k = (h.0, both xs ys h.1 k)

  told_within : (wrong : Bool) (number : ℕ) (place : Place) → IsIn files place → AreTold files (told wrong number place)
  told_within true number place h = (h, tt)
  told_within false number place h = tt

  mutual
    term_within : (around : Around) (place : Place) (p : Plan) → IsIn files place → PlanWithin files p → AreTold files (term_errors around place p)
    term_within around place (an_arg index) h k = told_within (nat_le around.arguments index) 6055 place h
    term_within around place (a_call name args) h k = all_within around args k
    term_within around place (a_form op args body) h k =
        both (told (misses_loop op around) 6052 place) (statement_errors around args ++ statement_errors (around_body op args around) body) (told_within (misses_loop op around) 6052 place h)
        (both (statement_errors around args) (statement_errors (around_body op args around) body) (all_within around args k.0) (all_within (around_body op args around) body k.1))
    term_within around place _ h k = tt

    all_within : (around : Around) (ps : Plans) → PlansWithin files ps → AreTold files (statement_errors around ps)
    all_within around no_plans h = tt
    all_within around (plan place p ps) h = both (term_errors around place p) (statement_errors around ps) (term_within around place p h.0 h.1) (all_within around ps h.2)

  as_all : (ms : List Message) → AreTold files ms → All (λ m. m.place.file < files) ms
  as_all [] h = λ i m lt. absurd (omega (arith, lt))
  as_all (m ∷ ms) h = All-cons (λ m. m.place.file < files) m ms h.0 (as_all ms h.1)

pub statement_errors_within : (files : ℕ) (ps : Plans) → PlansWithin files ps → All (λ m. m.place.file < files) (errors_of_statements ps)
statement_errors_within files ps h = as_all files (errors_of_statements ps) (all_within files outside ps h)
