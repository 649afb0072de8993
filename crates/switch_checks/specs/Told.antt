-- A message where something is wrong.
use Rattle.std.specs.Prelude.{ℕ, Bool, true, false, List, [], ◌∷◌}
use Rattle.iasl_messages.specs.declared.place.Place.{Place}
use Rattle.iasl_messages.specs.declared.message.Message.{Message}
use Rattle.term_plans.specs.Places.{fault_at}

abbrev pub told : Bool → ℕ → Place → List Message
told true number place = fault_at number place ∷ []
told false number place = []
