-- Worked places of Fors, computed from the definitions alone.
use Rattle.std.proofs.Common.{◌≡◌, ℕ, false, [], ◌∷◌, refl}
use Rattle.iasl_messages.specs.declared.place.Place.{Place}
use Rattle.asl_tree.specs.declared.term.Control.TheVariants as Control
use Rattle.asl_tree.specs.declared.term.Op.{Op}
use Rattle.term_plans.specs.Plans.{Plan, an_integer, a_local, omitted, a_form, Plans, no_plans, plan}
use Rattle.asl_prints.specs.Plans.{formed_plans}
use Rattle.source_pieces.specs.Places.{is_left, core_places_in, core_places}

abbrev on : ℕ → Place
on line = record { file = 0; line = line; column = 0 }

abbrev one : ℕ → Plan → Plans
one line p = plan (on line) p no_plans

abbrev next : ℕ → Plans
next line = one line (a_form (Op.Control Control.Continue) no_plans no_plans)

-- a For on line 1, its start and its step on lines 2 and 4
abbrev for_over : Plans → Plans
for_over body = one 1 (a_form (Op.Control Control.For) (plan (on 2) (a_local 0) (plan (on 3) (an_integer 1) (plan (on 4) (a_local 1) no_plans))) body)

-- a Continue in an If: the start, the While, the If, the step before the Continue and that at the end
abbrev counting : Plans
counting = for_over (one 5 (a_form (Op.Control Control.If) (one 6 (an_integer 1)) (next 7)))

counting_places : core_places counting ≡ on 2 ∷ on 1 ∷ on 5 ∷ on 4 ∷ on 7 ∷ on 4 ∷ []
unfolding core_places core_places_in is_left
counting_places = refl

counting_formed : core_places_in false [] (formed_plans counting) ≡ core_places counting
unfolding core_places core_places_in is_left formed_plans
counting_formed = refl

-- a Continue in a Switch: the step, and then a Store and a Break for the Continue
abbrev crossing : Plans
crossing = for_over (one 5 (a_form (Op.Control Control.Switch) (one 6 (a_local 2)) (one 7 (a_form (Op.Control Control.Case) (one 8 (an_integer 0)) (next 9)))))

crossing_places : core_places crossing ≡ on 2 ∷ on 1 ∷ on 5 ∷ on 5 ∷ on 5 ∷ on 7 ∷ on 4 ∷ on 9 ∷ on 9 ∷ on 5 ∷ on 5 ∷ on 5 ∷ on 5 ∷ on 4 ∷ []
unfolding core_places core_places_in is_left
crossing_places = refl

crossing_formed : core_places_in false [] (formed_plans crossing) ≡ core_places crossing
unfolding core_places core_places_in is_left formed_plans
crossing_formed = refl

-- a For without a start and a step, around another whose step is not before the outer one's Continue
abbrev nesting : Plans
nesting = one 10 (a_form (Op.Control Control.For) (plan (on 11) omitted (plan (on 12) (an_integer 1) (plan (on 13) omitted no_plans))) (plan (on 14) (a_form (Op.Control Control.Continue) no_plans no_plans) (for_over (next 15))))

nesting_places : core_places nesting ≡ on 10 ∷ on 14 ∷ on 2 ∷ on 1 ∷ on 4 ∷ on 15 ∷ on 4 ∷ []
unfolding core_places core_places_in is_left
nesting_places = refl
