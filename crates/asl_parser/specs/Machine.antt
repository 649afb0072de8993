-- One step for each token.
use Rattle.std.specs.Prelude.{ℕ, Bool, true, false, nat_le, if◌then◌else◌, List, [], ◌∷◌, Option, Some, None, Result, Ok, Err}
use Rattle.std.specs.Prelude.{◌≡◌}
use Rattle.asl_syntax.specs.declared.sign.Sign.{Sign}
use Rattle.asl_syntax.specs.declared.sign.Sign.TheVariants as s
use Rattle.asl_syntax.specs.declared.sign.Strength.{Strength}
use Rattle.asl_syntax.specs.declared.mark.Spot.{Spot}
use Rattle.asl_syntax.specs.declared.mark.Lexeme.{Lexeme}
use Rattle.asl_syntax.specs.declared.mark.Lexeme.TheVariants as l
use Rattle.asl_syntax.specs.declared.mark.Mark.{Mark}
use Rattle.asl_syntax.specs.declared.raw.Raw.TheVariants as raw
use Rattle.asl_syntax.specs.declared.raw.Infix.{Infix}
use Rattle.asl_syntax.specs.declared.raw.Infix.TheVariants as op
use Rattle.asl_syntax.specs.declared.subtree.Subtree.{Subtree}
use Rattle.asl_syntax.specs.declared.subtree.Subtrees.{Subtrees}
use Rattle.asl_syntax.specs.declared.frame.Frame.{Frame}
use Rattle.asl_syntax.specs.declared.frame.Frame.TheVariants as f
use Rattle.asl_parser.specs.declared.state.ParserState.{ParserState}
use Rattle.asl_parser.specs.declared.state.ParserState.TheVariants as st
use Rattle.asl_parser.specs.declared.state.Refusal.{Refusal}
use Rattle.asl_parser.specs.declared.state.Refusal.TheVariants as r
use Rattle.asl_syntax.specs.Signs.{strength}
use Rattle.asl_syntax.specs.Frames.{room, depth, start}
use Rattle.asl_syntax.specs.Grow.{limit, leaf, no_subtrees, joined, applied, posted, listing, item}

abbrev pub Config : Type 0
Config = ParserState × List Frame

abbrev pub allow : Bool → Config → Option Config
allow true c = Some c
allow false c = None

-- an expression begins
abbrev pub begin_sign : Spot → Sign → List Frame → Option Config
begin_sign p s.LeftParen fs = allow (nat_le 1 (room fs)) (st.Operand, f.Bracket ∷ fs)
begin_sign p (s.Prefix o) fs = allow (nat_le 2 (room fs)) (st.Operand, f.Pending 2 2 p o no_subtrees ∷ fs)
begin_sign p _ fs = None

abbrev pub begin_by : Spot → Lexeme → List Frame → Option Config
begin_by p (l.Word path w) fs = Some (st.Word p w, fs)
begin_by p (l.Number n) fs = allow (nat_le 1 (room fs)) (st.Whole (leaf p.token (raw.Number p.place n)), fs)
begin_by p (l.Text t) fs = allow (nat_le 1 (room fs)) (st.Whole (leaf p.token (raw.Text p.place t)), fs)
begin_by p (l.Sign x) fs = begin_sign p x fs
begin_by p l.Other fs = None

unfoldable pub begin : Spot → Lexeme → List Frame → Option Config
begin p x fs = begin_by p x fs

-- applies the operators that bind at least as tightly
unfoldable pub settle : ℕ → Subtree → List Frame → Subtree × List Frame
settle pull e [] = (e, [])
settle pull e (f.Pending level most p o xs ∷ fs) =
    if nat_le level pull then settle pull (applied p o xs e) fs else (e, f.Pending level most p o xs ∷ fs)
settle pull e (frame ∷ fs) = (e, frame ∷ fs)

-- an operator between two operands comes
abbrev pub operator : Spot → Infix → Strength → Subtree × List Frame → Option Config
operator p i o r = allow (nat_le o.level (room r.1)) (st.Operand, f.Pending o.level o.room p i (joined no_subtrees r.0) ∷ r.1)

-- a comma or semicolon of a body
abbrev pub separated : Subtree → List Frame → Option Config
separated e (f.Body q w args done ∷ fs) = Some (st.Sequence, f.Body q w args (joined done e) ∷ fs)
separated e _ = None

-- the end of a body
abbrev pub close_body : List Frame → Option Config
close_body (f.Body q w args done ∷ fs) = Some (st.Whole (item q w args (Some done)), fs)
close_body _ = None

-- where an expression of a body or an item of the source may begin
abbrev pub sequence_sign : Spot → Sign → List Frame → Option Config
sequence_sign p s.RightBrace fs = close_body fs
sequence_sign p s.Comma fs = separated (leaf p.token raw.Comma) fs
sequence_sign p s.Semicolon fs = separated (leaf p.token raw.Semicolon) fs
sequence_sign p x fs = begin_sign p x fs

abbrev pub sequence_by : Spot → Lexeme → List Frame → Option Config
sequence_by p (l.Sign x) fs = sequence_sign p x fs
sequence_by p x fs = begin_by p x fs

unfoldable pub sequence : Spot → Lexeme → List Frame → Option Config
sequence p x fs = sequence_by p x fs

-- after a member of arguments or of a list
abbrev pub args_listed : Subtree → Lexeme → Spot → List ℕ → Subtrees → List Frame → Option Config
args_listed e (l.Sign s.Comma) p w done fs = Some (st.Argument, f.Args p w (joined done e) ∷ fs)
args_listed e (l.Sign s.RightParen) p w done fs = Some (st.Called p w (joined done e), fs)
args_listed e _ p w done fs = None

abbrev pub list_listed : Subtree → Lexeme → Spot → Subtrees → List Frame → Option Config
list_listed e (l.Sign s.Comma) p done fs = Some (st.Element, f.List p (joined done e) ∷ fs)
list_listed e (l.Sign s.RightBrace) p done fs = Some (st.Listed (listing p (joined done e)), fs)
list_listed e _ p done fs = None

abbrev pub listed_by : Subtree → Lexeme → List Frame → Option Config
listed_by e x (f.Args p w done ∷ fs) = args_listed e x p w done fs
listed_by e x (f.List p done ∷ fs) = list_listed e x p done fs
listed_by e x _ = None

unfoldable pub listed : Subtree → Lexeme → List Frame → Option Config
listed e x fs = listed_by e x fs

abbrev pub close_bracket : Subtree → Lexeme → List Frame → Option Config
close_bracket e (l.Sign s.RightParen) fs = Some (st.Whole e, fs)
close_bracket e _ fs = None

abbrev pub close_index : Spot → Subtree → Subtree → Lexeme → List Frame → Option Config
close_index p a e (l.Sign s.RightBracket) fs = Some (st.Whole (applied p op.Index (joined no_subtrees a) e), fs)
close_index p a e _ fs = None

-- after an expression to which no operator is applied any more
abbrev pub enclosed_by : Spot → Lexeme → Subtree → List Frame → Option Config
enclosed_by q x e (f.Unit done ∷ fs) = sequence q x (f.Unit (joined done e) ∷ fs)
enclosed_by q x e (f.Body p w args done ∷ fs) = sequence q x (f.Body p w args (joined done e) ∷ fs)
enclosed_by q x e (f.Args p w done ∷ fs) = listed e x (f.Args p w done ∷ fs)
enclosed_by q x e (f.Bracket ∷ fs) = close_bracket e x fs
enclosed_by q x e (f.Index p a ∷ fs) = close_index p a e x fs
enclosed_by q x e _ = None

abbrev pub enclosed : Spot → Lexeme → Subtree × List Frame → Option Config
enclosed q x r = enclosed_by q x r.0 r.1

-- after an expression: an operator, or what ends it
abbrev pub after_by : Spot → Infix → Option Strength → Subtree → List Frame → Option Config
after_by q i (Some o) e fs = operator q i o (settle o.pull e fs)
after_by q i None e fs = enclosed q (l.Sign (s.Binary i)) (settle 13 e fs)

abbrev pub after_lexeme : Spot → Lexeme → Subtree → List Frame → Option Config
after_lexeme q (l.Sign s.LeftParen) e fs = None
after_lexeme q (l.Sign s.LeftBracket) e fs = allow (nat_le 1 (room fs)) (st.Operand, f.Index q e ∷ fs)
after_lexeme q (l.Sign (s.Postfix o)) e fs = allow (nat_le 1 (room fs)) (st.Whole (posted q o e), fs)
after_lexeme q (l.Sign (s.Binary i)) e fs = after_by q i (strength i) e fs
after_lexeme q x e fs = enclosed q x (settle 13 e fs)

unfoldable pub after : Spot → Lexeme → Subtree → List Frame → Option Config
after q x e fs = after_lexeme q x e fs

abbrev pub word_by : Spot → Lexeme → Spot → List ℕ → List Frame → Option Config
word_by q (l.Sign s.LeftParen) p w fs = Some (st.FirstArgument, f.Args p w no_subtrees ∷ fs)
word_by q (l.Sign s.LeftBrace) p w fs = Some (st.Sequence, f.Body p w None no_subtrees ∷ fs)
word_by q x p w fs = after q x (item p w None None) fs

unfoldable pub word : Spot → Lexeme → Spot → List ℕ → List Frame → Option Config
word q x p w fs = word_by q x p w fs

abbrev pub called_by : Spot → Lexeme → Spot → List ℕ → Subtrees → List Frame → Option Config
called_by q (l.Sign s.LeftBrace) p w args fs = Some (st.Sequence, f.Body p w (Some args) no_subtrees ∷ fs)
called_by q x p w args fs = after q x (item p w (Some args) None) fs

unfoldable pub called : Spot → Lexeme → Spot → List ℕ → Subtrees → List Frame → Option Config
called q x p w args fs = called_by q x p w args fs

-- an argument begins, or is left out
abbrev pub argument_by : Spot → Lexeme → List Frame → Option Config
argument_by q (l.Sign s.RightParen) (f.Args p w done ∷ fs) = Some (st.Called p w (joined done (leaf q.token raw.Empty)), fs)
argument_by q (l.Sign s.Comma) (f.Args p w done ∷ fs) = Some (st.Argument, f.Args p w (joined done (leaf q.token raw.Empty)) ∷ fs)
argument_by q (l.Sign s.LeftBrace) fs = Some (st.FirstElement, f.List q no_subtrees ∷ fs)
argument_by q x fs = begin_by q x fs

unfoldable pub argument : Spot → Lexeme → List Frame → Option Config
argument q x fs = argument_by q x fs

abbrev pub first_argument_by : Spot → Lexeme → List Frame → Option Config
first_argument_by q (l.Sign s.RightParen) (f.Args p w done ∷ fs) = Some (st.Called p w done, fs)
first_argument_by q x fs = argument q x fs

unfoldable pub first_argument : Spot → Lexeme → List Frame → Option Config
first_argument q x fs = first_argument_by q x fs

abbrev pub element_by : Spot → Lexeme → List Frame → Option Config
element_by q (l.Word false w) fs = Some (st.Listed (item q w None None), fs)
element_by q (l.Sign s.LeftBrace) fs = Some (st.FirstElement, f.List q no_subtrees ∷ fs)
element_by q _ fs = None

unfoldable pub element : Spot → Lexeme → List Frame → Option Config
element q x fs = element_by q x fs

abbrev pub first_element_by : Spot → Lexeme → List Frame → Option Config
first_element_by q (l.Sign s.RightBrace) (f.List p done ∷ fs) = Some (st.Listed (listing p done), fs)
first_element_by q x fs = element q x fs

unfoldable pub first_element : Spot → Lexeme → List Frame → Option Config
first_element q x fs = first_element_by q x fs

-- what one token does
abbrev pub step_by : Spot → Lexeme → ParserState → List Frame → Option Config
step_by q x st.Operand fs = begin q x fs
step_by q x st.FirstArgument fs = first_argument q x fs
step_by q x st.Argument fs = argument q x fs
step_by q x st.FirstElement fs = first_element q x fs
step_by q x st.Element fs = element q x fs
step_by q x st.Sequence fs = sequence q x fs
step_by q x (st.Word p w) fs = word q x p w fs
step_by q x (st.Called p w args) fs = called q x p w args fs
step_by q x (st.Whole e) fs = after q x e fs
step_by q x (st.Listed e) fs = listed e x fs

abbrev pub step : Mark → ParserState → List Frame → Option Config
step t a fs = step_by t.spot t.lexeme a fs

-- ---- whole runs

-- the items of the source, or what is left where the reading stops, or behind the token at which too much is open
pub data Answer : Type 0 where
  source : Subtrees → Answer
  stop : List Mark → Answer
  deep : List Mark → Answer

-- where the source ends
abbrev pub close_source : Subtree → List Frame → Answer
close_source e (f.Unit done ∷ []) = source (joined done e)
close_source e _ = stop []

unfoldable pub finish_whole : Subtree → List Frame → Answer
finish_whole e fs = close_source (settle 13 e fs).0 (settle 13 e fs).1

abbrev pub finish : ParserState → List Frame → Answer
finish st.Sequence (f.Unit done ∷ []) = source done
finish (st.Word p w) fs = finish_whole (item p w None None) fs
finish (st.Called p w args) fs = finish_whole (item p w (Some args) None) fs
finish (st.Whole e) fs = finish_whole e fs
finish _ _ = stop []

-- The test says how much may be open.
unfoldable pub walk : (ℕ → Bool) → List Mark → ParserState → List Frame → Answer
walk ok [] s fs = if ok (depth fs) then finish s fs else deep []
walk ok (t ∷ ts) s fs = if ok (depth fs) then elim (step t s fs) [ None ↦ stop (t ∷ ts) | Some c ↦ walk ok ts c.0 c.1 ] else deep (t ∷ ts)

abbrev pub unlimited : ℕ → Bool
unlimited d = true

abbrev pub run : List Mark → ParserState → List Frame → Answer
run ts s fs = walk unlimited ts s fs

abbrev pub within : ℕ → ℕ → Bool
within most d = nat_le d most

-- what reading a source answers
unfoldable pub reading : List Mark → Answer
reading ts = walk (within limit) ts st.Sequence start

abbrev pub Finishes : Result Subtrees Refusal → Answer → Type 0
Finishes (Ok items) answer = answer ≡ source items
Finishes (Err r.Memory) answer = Unit {0}
Finishes (Err r.Refused) answer = answer ≡ stop []
