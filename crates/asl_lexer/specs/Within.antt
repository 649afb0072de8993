-- Tokens and messages in files that there are.
use Rattle.std.specs.Prelude.{ℕ, ◌<◌, List, Result, Ok, Err}
use Rattle.std.specs.List.{All}
use Rattle.iasl_messages.specs.declared.message.Stage.{Stage}
use Rattle.iasl_messages.specs.declared.message.Stage.TheVariants.{Refused, Memory}
use Rattle.asl_lexer.specs.declared.token.Token.{Token}

-- each token, or each message of a refusal, stands in one of that many files
abbrev pub IsWithin : ℕ → Result (List Token) Stage → Type 0
IsWithin files (Ok tokens) = All (λ token. token.place.file < files) tokens
IsWithin files (Err (Refused messages)) = All (λ message. message.place.file < files) messages
IsWithin files (Err Memory) = Unit {0}
