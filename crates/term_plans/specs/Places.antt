-- Where the messages of a program stand.
use Rattle.std.specs.Prelude.{ℕ, ◌<◌, List, [], ◌∷◌}
use Rattle.iasl_messages.specs.declared.place.Place.{Place}
use Rattle.iasl_messages.specs.declared.message.Message.{Message}

abbrev pub fault_at : ℕ → Place → Message
fault_at number place = record { number = number; place = place; name = [] }

abbrev pub nowhere : Place
nowhere = record { file = 0; line = 0; column = 0 }

-- in one of so many files
abbrev pub IsIn : ℕ → Place → Type 0
IsIn files place = place.file < files

-- each message stands in one of so many files
abbrev pub AreTold : ℕ → List Message → Type 0
AreTold files [] = Unit {0}
AreTold files (m ∷ ms) = IsIn files m.place × AreTold files ms
