-- The messages on tokens that are no source.
use Rattle.std.specs.Prelude.{ℕ, List, []}
use Rattle.iasl_messages.specs.declared.message.Message.{Message}
use Rattle.asl_lexer.specs.declared.token.Token.{Token}
use Rattle.asl_syntax.specs.Place.{place_at}

-- a message of this number at the token of that number
abbrev pub at_token : ℕ → List Token → ℕ → Message
at_token number tokens token = record { number = number; place = place_at tokens token; name = [] }

-- the tokens are no source from this one on: 6015
abbrev pub not_source : List Token → ℕ → Message
not_source tokens token = at_token 6015 tokens token

-- the source nests too deep at this token: 6016
abbrev pub too_deep : List Token → ℕ → Message
too_deep tokens token = at_token 6016 tokens token
