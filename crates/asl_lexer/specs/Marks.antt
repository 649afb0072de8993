-- The bytes of lines, each with its place, and the tokens of lines.
use Rattle.std.specs.Prelude.{◌≡◌, ℕ, ◌+◌, List, [], ◌∷◌, ◌++◌, Result, Ok, Err, MatchResult}
use Rattle.iasl_messages.specs.declared.place.Line.{Line}
use Rattle.iasl_messages.specs.declared.message.Message.{Message}
use Rattle.iasl_messages.specs.declared.message.Stage.{Stage}
use Rattle.iasl_messages.specs.declared.message.Stage.TheVariants.{Refused, Memory}
use Rattle.asl_lexer.specs.declared.token.Token.{Token}
use Rattle.asl_lexer.specs.declared.mode.Fault.{Fault}
use Rattle.asl_lexer.specs.declared.mode.LexerStop.{LexerStop}
use Rattle.asl_lexer.specs.declared.mode.Mode.{Mode}
use Rattle.asl_lexer.specs.declared.mode.Mode.TheVariants as m
use Rattle.asl_lexer.specs.Scan.{MarkedByte, scan, Fails}

abbrev pub mark_at : ℕ → ℕ → ℕ → ℕ → MarkedByte
mark_at file line column b = record { place = record { file = file; line = line; column = column }; byte = b }

-- the bytes of a line from a column on
unfoldable pub marks_from : ℕ → ℕ → ℕ → List ℕ → List MarkedByte
marks_from file line column [] = []
marks_from file line column (b ∷ bs) = mark_at file line column b ∷ marks_from file line (column + 1) bs

-- the bytes of a line
abbrev pub line_marks : Line → List MarkedByte
line_marks l = marks_from l.file l.number 1 l.text

-- the end of the line before, which stands in column 0; no message has that place
abbrev pub break_mark : Line → MarkedByte
break_mark l = mark_at l.file l.number 0 10

-- further lines, each behind a line's end
unfoldable pub following : List Line → List MarkedByte
following [] = []
following (l ∷ ls) = break_mark l ∷ line_marks l ++ following ls

-- the lines joined by the ends of lines
unfoldable pub joined : List Line → List MarkedByte
joined [] = []
joined (l ∷ ls) = line_marks l ++ following ls

-- the tokens of the lines, or the first fault
unfoldable pub tokens_of : List Line → Result (List Token) Fault
tokens_of lines = scan (joined lines) m.Between []

-- the message of a fault, which has no name
abbrev pub message_of : Fault → Message
message_of fault = record { number = fault.number; place = fault.place; name = [] }

-- what the code ensures of some marks: it comes to a mode before the rest
abbrev pub Leads : Result Mode LexerStop → List Token → List MarkedByte → Result (List Token) Fault → Type 0
Leads (Ok mode) new rest y = y ≡ scan rest mode new
Leads (Err x) new rest y = Fails x y

-- an answer tells the tokens, or refuses with the one message of the fault; want of memory tells nothing
abbrev pub Answers : Result (List Token) Stage → Result (List Token) Fault → Type 0
Answers (Ok tokens) y = y ≡ Ok tokens
Answers (Err (Refused messages)) y = MatchResult y (λ _. ⊥) (λ fault. messages ≡ message_of fault ∷ [])
Answers (Err Memory) y = Unit {0}
