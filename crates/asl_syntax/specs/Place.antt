-- Where a message on tokens stands.
use Rattle.std.specs.Prelude.{ℕ, ◌-◌, List, length, slice_get}
use Rattle.std.specs.Option.{option_map_or}
use Rattle.iasl_messages.specs.declared.place.Place.{Place}
use Rattle.asl_lexer.specs.declared.token.Token.{Token}

-- the place behind a token, in its line
abbrev pub place_behind : Token → Place
place_behind token = record { file = token.place.file; line = token.place.line; column = token.end }

-- the first character of the main file
abbrev pub first_place : Place
first_place = record { file = 0; line = 1; column = 1 }

-- the place of the token of this number, or behind the last where there is none, or the first character
abbrev pub place_at : List Token → ℕ → Place
place_at tokens number = option_map_or (λ token. token.place) (slice_get tokens number)
    (option_map_or place_behind (slice_get tokens (length tokens - 1)) first_place)
