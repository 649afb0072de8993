-- The preprocessor and the lexer see the same strings and comments.
use Rattle.std.proofs.Common.{◌≡◌, ℕ, Bool, List, [], ◌∷◌, ◌++◌, Result, sym, ap, ◌∙◌, append-nil}
use Rattle.std.specs.Prelude.{All, ◌≢◌}
use Rattle.iasl_messages.specs.declared.place.Line.{Line}
use Rattle.asl_lexer.specs.declared.class.Class.TheVariants as c
use Rattle.asl_lexer.specs.declared.mode.Fault.{Fault}
use Rattle.asl_lexer.specs.Scan.{MarkedByte}
use Rattle.asl_lexer.specs.Marks.{joined}
use Rattle.asl_lexer.specs.Cut.{Each, Stops, class, in_line, Content, Breaks, Inside}
use Rattle.source_laws.specs.Parts.{Part, Parts}
use Rattle.source_laws.specs.Sights.{Sight, InString, InComment, each, sights_of, sights_in}
use Rattle.source_laws.proofs.Walks.{between, walk}
use Rattle.source_laws.proofs.Lexed.{bytes, lexed, open_comment, open_string}
use Rattle.source_laws.proofs.Lines.{lines_walk}

seen : (lines : List Line) (parts : List Part) (rest : List MarkedByte) → All (λ l. All (λ b. b ≢ 10) l.text) lines → Parts (joined lines) parts rest → sights_of lines ≡ sights_in parts ++ walk between (bytes rest)
seen lines parts rest no_end cut = sym (lines_walk lines no_end) ∙ lexed cut

pub same_front : (lines : List Line) (parts : List Part) (rest : List MarkedByte) → All (λ l. All (λ b. b ≢ 10) l.text) lines → Parts (joined lines) parts rest → (more : List Sight) × (sights_of lines ≡ sights_in parts ++ more)
same_front lines parts rest no_end cut = (walk between (bytes rest), seen lines parts rest no_end cut)

pub same_whole : (lines : List Line) (parts : List Part) → All (λ l. All (λ b. b ≢ 10) l.text) lines → Parts (joined lines) parts [] → sights_of lines ≡ sights_in parts
same_whole lines parts no_end cut = seen lines parts [] no_end cut ∙ append-nil (sights_in parts)

pub same_comment : (lines : List Line) (parts : List Part) (a b : MarkedByte) (star : Bool) (inner : List MarkedByte) → All (λ l. All (λ b. b ≢ 10) l.text) lines → Parts (joined lines) parts (a ∷ b ∷ inner) → class a ≡ c.Slash → class b ≡ c.Star → Inside star inner []
    → sights_of lines ≡ sights_in parts ++ each InComment (a ∷ b ∷ inner)
same_comment lines parts a b star inner no_end cut sa sb inside = seen lines parts (a ∷ b ∷ inner) no_end cut ∙ ap (λ l. sights_in parts ++ l) (open_comment a b star inner sa sb inside)

pub same_string : (lines : List Line) (parts : List Part) (q : MarkedByte) (string : Result (List ℕ) Fault) (inner rest : List MarkedByte) → All (λ l. All (λ b. b ≢ 10) l.text) lines → Parts (joined lines) parts (q ∷ inner) → class q ≡ c.Quote
    → Content string inner rest → Breaks rest
    → (w behind : List MarkedByte) × (q ∷ inner ≡ w ++ behind) × Each in_line w × Stops in_line behind × ((more : List Sight) × (sights_of lines ≡ sights_in parts ++ (each InString w ++ more)))
same_string lines parts q string inner rest no_end cut opens content breaks =
    let s = open_string q opens content breaks in
    (s.front, s.behind, s.is, s.line, s.ends, (walk between (bytes s.behind), seen lines parts (q ∷ inner) no_end cut ∙ ap (λ l. sights_in parts ++ l) s.walks))
