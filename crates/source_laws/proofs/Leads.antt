-- The machine over the tokens of a phrase, step by step. This is the walk of the parser's own proofs (`complete`), which tells what the whole run
-- answers, told of the steps themselves.
use Rattle.std.proofs.Common.{◌≡◌, ℕ, ◌≤◌, Bool, true, false, List, [], ◌∷◌, Option, Some, None, refl, ◌∙◌, inl, inr, arith}
use Rattle.asl_syntax.specs.declared.sign.Sign.{Sign}
use Rattle.asl_syntax.specs.declared.sign.Sign.TheVariants as s
use Rattle.asl_syntax.specs.declared.sign.Strength.{Strength}
use Rattle.asl_syntax.specs.declared.mark.Spot.{Spot}
use Rattle.asl_syntax.specs.declared.mark.Lexeme.{Lexeme}
use Rattle.asl_syntax.specs.declared.mark.Lexeme.TheVariants as l
use Rattle.asl_syntax.specs.declared.mark.Mark.{Mark}
use Rattle.asl_syntax.specs.declared.raw.Infix.{Infix}
use Rattle.asl_syntax.specs.declared.raw.Infix.TheVariants as op
use Rattle.asl_syntax.specs.declared.subtree.Subtree.{Subtree}
use Rattle.asl_syntax.specs.declared.subtree.Subtrees.{Subtrees}
use Rattle.asl_syntax.specs.declared.frame.Frame.{Frame}
use Rattle.asl_syntax.specs.declared.frame.Frame.TheVariants as f
use Rattle.asl_parser.specs.declared.state.ParserState.{ParserState}
use Rattle.asl_parser.specs.declared.state.ParserState.TheVariants as st
use Rattle.asl_syntax.specs.Signs.{strength}
use Rattle.asl_syntax.specs.Trees.{Tree, Trees, TreeGroup, none, more, absent}
use Rattle.asl_syntax.specs.Trees as t
use Rattle.asl_syntax.specs.Grow.{no_subtrees, joined, applied, item, grown, grown_all, grown_in}
use Rattle.asl_syntax.specs.Frames.{depth, start, room}
use Rattle.asl_parser.specs.Machine.{Config, Answer, source, stop, deep, walk, unlimited, within, allow, settle, begin, begin_by, begin_sign, operator, sequence, sequence_by, sequence_sign, listed, listed_by, enclosed, enclosed_by}
use Rattle.asl_parser.specs.Machine.{after, after_by, after_lexeme, word_by, called_by, argument, argument_by, first_argument, first_argument_by, element, element_by, first_element, first_element_by, step, run, finish, finish_whole, close_source}
use Rattle.asl_parser.specs.Machine as m
use Rattle.asl_parser.specs.Grammar.{at, sign, word, Phrase, expression, arguments, body, given, before, brace_list, members, member, sequence as row_of, all, is_paren, opens_paren, MayFollow, Reads, IsSource}
use Rattle.asl_parser.specs.Grammar as g
use Rattle.asl_parser.proofs.Ends.{Ends, EndsBy, Ends-less, pull_of, after_more}
use Rattle.asl_parser.proofs.Complete.{Binds, Proper, is_strength, begins, Starts, allowed, Holder, of_source, of_body, holds, named, ended, EndsMember, expects, wants, ends_all, infix_ends, infix_step, member_ends}

-- ---- steps

-- a place in a run: the tokens that are left, and the machine before them
pub record Here : Type 0 where
  pub left : List Mark
  pub state : ParserState
  pub fs : List Frame

abbrev pub go : List Mark → ParserState → List Frame → Here
go ts a fs = record { left = ts; state = a; fs = fs }

-- from the tokens and the machine before them the steps lead to these tokens and this machine
pub data Comes (rest : List Mark) (b : ParserState) (gs : List Frame) : List Mark → ParserState → List Frame → Type 0 where
  here : Comes rest b gs rest b gs
  on : {t : Mark} {ts : List Mark} {a : ParserState} {fs : List Frame} (c : Config) → step t a fs ≡ Some c → Comes rest b gs ts c.0 c.1 → Comes rest b gs (t ∷ ts) a fs

-- two machines that take the next token alike; at the end they have as much open
abbrev pub Alike : List Mark → ParserState → List Frame → ParserState → List Frame → Type 0
Alike [] a fs b gs = depth fs ≡ depth gs
Alike (t ∷ ts) a fs b gs = step t a fs ≡ step t b gs

pub record Reached (rest : List Mark) (b : ParserState) (gs : List Frame) (ts : List Mark) (a : ParserState) (fs : List Frame) : Type 0 where
  pub state : ParserState
  pub frames : List Frame
  pub comes : Comes rest state frames ts a fs
  pub alike : Alike rest state frames b gs

-- the one machine comes to tokens before which it is like the other
abbrev pub Same : Here → Here → Type 0
Same x y = Reached y.left y.state y.fs x.left x.state x.fs

alike_itself : (ts : List Mark) (a : ParserState) (fs : List Frame) → Alike ts a fs a fs
alike_itself [] a fs = refl
alike_itself (t ∷ ts) a fs = refl

alike_on : (ts : List Mark) (a b c : ParserState) (fs gs hs : List Frame) → Alike ts a fs b gs → Alike ts b gs c hs → Alike ts a fs c hs
alike_on [] a b c fs gs hs p q = p ∙ q
alike_on (t ∷ ts) a b c fs gs hs p q = p ∙ q

pub itself : {x : Here} → Same x x
itself {x} = record { state = x.state; frames = x.fs; comes = here; alike = alike_itself x.left x.state x.fs }

-- a machine that is like one from which steps lead on
followed : {rest mid : List Mark} {b c : ParserState} {gs hs : List Frame} → Comes rest c hs mid b gs → (a : ParserState) (fs : List Frame) → Alike mid a fs b gs → Reached rest c hs mid a fs
followed here a fs alike = record { state = a; frames = fs; comes = here; alike = alike }
followed {rest = rest} {c = c} {hs = hs} (on d e later) a fs alike = record { state = c; frames = hs; comes = on d (alike ∙ e) later; alike = alike_itself rest c hs }

joined_steps : {rest mid : List Mark} {b c : ParserState} {gs hs : List Frame} {ts : List Mark} {a : ParserState} {fs : List Frame} → Comes mid b gs ts a fs → Comes rest c hs mid b gs → Comes rest c hs ts a fs
joined_steps here q = q
joined_steps (on d e p) q = on d e (joined_steps p q)

infixr 9 ◌▸◌
pub ◌▸◌ : {x y z : Here} → Same x y → Same y z → Same x z
◌▸◌ {x} {y} {z} p q =
    let r = followed q.comes p.state p.frames p.alike in
    record { state = r.state; frames = r.frames; comes = joined_steps p.comes r.comes; alike = alike_on z.left r.state q.state z.state r.frames q.frames z.fs r.alike q.alike }

pub stepped : (t : Mark) (ts : List Mark) (a b : ParserState) (fs gs : List Frame) → step t a fs ≡ Some (b, gs) → Same (go (t ∷ ts) a fs) (go ts b gs)
stepped t ts a b fs gs e = record { state = b; frames = gs; comes = on (b, gs) e here; alike = alike_itself ts b gs }

same_step : (t : Mark) (ts : List Mark) (a b : ParserState) (fs gs : List Frame) → step t a fs ≡ step t b gs → Same (go (t ∷ ts) a fs) (go (t ∷ ts) b gs)
same_step t ts a b fs gs e = record { state = a; frames = fs; comes = here; alike = e }

same_end : (a b : ParserState) (fs gs : List Frame) → depth fs ≡ depth gs → Same (go [] a fs) (go [] b gs)
same_end a b fs gs e = record { state = a; frames = fs; comes = here; alike = e }

-- such tokens may stand behind an expression of this level; at the end of all, no operator waits in it
abbrev pub Closes : ℕ → List Mark → Type 0
Closes n [] = n ≤ 1
Closes n (t ∷ ts) = Ends n (t ∷ ts)

pub Closes-less : (a b : ℕ) (ts : List Mark) → a ≤ b → Closes b ts → Closes a ts
Closes-less a b [] h e = omega arith
Closes-less a b (t ∷ ts) h e = Ends-less a b (t ∷ ts) h e

abbrev pub Follows : Option Tree → List Mark → Type 0
Follows None ts = Unit {0}
Follows (Some e) ts = Closes 13 ts

run_more : (ts : List Mark) (level most : ℕ) (p : Spot) (o : Infix) (xs : Subtrees) (e : Subtree) (fs : List Frame) → 2 ≤ level → level ≤ 13 → Closes level ts
    → Same (go ts (st.Whole e) (f.Pending level most p o xs ∷ fs)) (go ts (st.Whole (applied p o xs e)) fs)
run_more [] level most p o xs e fs low high h = absurd (omega arith)
run_more (t ∷ ts) level most p o xs e fs low high h = same_step t ts (st.Whole e) (st.Whole (applied p o xs e)) (f.Pending level most p o xs ∷ fs) fs (after_more t level most p o xs e fs low high h)

sequence_begins : (p : Spot) (x : Lexeme) (fs : List Frame) → begins x ≡ true → sequence_by p x fs ≡ begin_by p x fs
sequence_begins p (l.Word path w) fs h = refl
sequence_begins p (l.Number n) fs h = refl
sequence_begins p (l.Text w) fs h = refl
sequence_begins p (l.Sign s.LeftParen) fs h = refl
sequence_begins p (l.Sign (s.Prefix o)) fs h = refl
sequence_begins p _ fs h = absurd cc

argument_begins : (p : Spot) (x : Lexeme) (fs : List Frame) → begins x ≡ true → argument_by p x fs ≡ begin_by p x fs
argument_begins p (l.Word path w) fs h = refl
argument_begins p (l.Number n) fs h = refl
argument_begins p (l.Text w) fs h = refl
argument_begins p (l.Sign s.LeftParen) fs h = refl
argument_begins p (l.Sign (s.Prefix o)) fs h = refl
argument_begins p _ fs h = absurd cc

first_argument_begins : (p : Spot) (x : Lexeme) (fs : List Frame) → begins x ≡ true → first_argument_by p x fs ≡ argument p x fs
first_argument_begins p (l.Word path w) fs h = refl
first_argument_begins p (l.Number n) fs h = refl
first_argument_begins p (l.Text w) fs h = refl
first_argument_begins p (l.Sign s.LeftParen) fs h = refl
first_argument_begins p (l.Sign (s.Prefix o)) fs h = refl
first_argument_begins p _ fs h = absurd cc

room_below : (level most : ℕ) → Binds level most → most ≤ level
room_below level most (inl b) = omega arith
room_below level most (inr b) = omega (arith, b.0)

word_done : (q : Spot) (x : Lexeme) (p : Spot) (w : List ℕ) (fs : List Frame) → EndsBy 0 (pull_of x) → word_by q x p w fs ≡ after q x (item p w None None) fs
word_done q (l.Sign s.LeftParen) p w fs h = absurd h
word_done q (l.Sign s.LeftBrace) p w fs h = absurd h
word_done q (l.Sign x) p w fs h = refl
word_done q (l.Word path v) p w fs h = refl
word_done q (l.Number n) p w fs h = refl
word_done q (l.Text v) p w fs h = refl
word_done q l.Other p w fs h = refl

called_done : (q : Spot) (x : Lexeme) (p : Spot) (w : List ℕ) (args : Subtrees) (fs : List Frame) → EndsBy 0 (pull_of x) → called_by q x p w args fs ≡ after q x (item p w (Some args) None) fs
called_done q (l.Sign s.LeftBrace) p w args fs h = absurd h
called_done q (l.Sign x) p w args fs h = refl
called_done q (l.Word path v) p w args fs h = refl
called_done q (l.Number n) p w args fs h = refl
called_done q (l.Text v) p w args fs h = refl
called_done q l.Other p w args fs h = refl

follows : (x : Sign) (p : Spot) (last : Option Tree) (rest : List Mark) → Closes 13 (sign p x ∷ rest) → Follows last (sign p x ∷ rest)
follows x p None rest h = tt
follows x p (Some e) rest h = h

-- what begins an expression, but for a parenthesis, ends the one before it
next_after : (n : ℕ) (h : Holder n) (q : Spot) (x : Lexeme) (e : Subtree) (done : Subtrees) (fs : List Frame) → begins x ≡ true → is_paren x ≡ false
    → EndsBy 13 (pull_of x) × (after_lexeme q x e (holds h done ∷ fs) ≡ sequence q x (holds h (joined done e) ∷ fs))
unfolding settle
next_after n h q (l.Sign s.LeftParen) e done fs b c = absurd cc
next_after n of_source q (l.Sign (s.Prefix o)) e done fs b c = (omega arith, refl)
next_after n (of_body p w args) q (l.Sign (s.Prefix o)) e done fs b c = (omega arith, refl)
next_after n h q (l.Sign _) e done fs b c = absurd cc
next_after n of_source q (l.Word path v) e done fs b c = (omega arith, refl)
next_after n (of_body p w args) q (l.Word path v) e done fs b c = (omega arith, refl)
next_after n of_source q (l.Number v) e done fs b c = (omega arith, refl)
next_after n (of_body p w args) q (l.Number v) e done fs b c = (omega arith, refl)
next_after n of_source q (l.Text v) e done fs b c = (omega arith, refl)
next_after n (of_body p w args) q (l.Text v) e done fs b c = (omega arith, refl)
next_after n h q l.Other e done fs b c = absurd cc

pub holder_facts : (n : ℕ) (h : Holder n) (done : Subtrees) (fs : List Frame) → (n ≤ 13) × (n ≤ room (holds h done ∷ fs)) × Proper (holds h done ∷ fs)
holder_facts n of_source done fs = (omega arith, omega arith, tt)
holder_facts n (of_body p w args) done fs = (omega arith, omega arith, tt)

sequence_starts : (ts : List Mark) (fs : List Frame) → Starts ts → Same (go ts st.Sequence fs) (go ts st.Operand fs)
unfolding sequence begin
sequence_starts [] fs h = absurd h
sequence_starts (t ∷ ts) fs h = same_step t ts st.Sequence st.Operand fs fs (sequence_begins t.spot t.lexeme fs h)

pub argument_starts : (ts : List Mark) (fs : List Frame) → Starts ts → Same (go ts st.Argument fs) (go ts st.Operand fs)
unfolding argument begin
argument_starts [] fs h = absurd h
argument_starts (t ∷ ts) fs h = same_step t ts st.Argument st.Operand fs fs (argument_begins t.spot t.lexeme fs h)

pub first_argument_starts : (ts : List Mark) (fs : List Frame) → Starts ts → Same (go ts st.FirstArgument fs) (go ts st.Operand fs)
unfolding first_argument
first_argument_starts [] fs h = absurd h
first_argument_starts (t ∷ ts) fs h = same_step t ts st.FirstArgument st.Argument fs fs (first_argument_begins t.spot t.lexeme fs h) ▸ argument_starts (t ∷ ts) fs h

abbrev pub goes_on : List Mark → Frame → List Frame → Option Tree → Here
goes_on ts frame fs None = go ts st.Sequence (frame ∷ fs)
goes_on ts frame fs (Some e) = go ts (st.Whole (grown e)) (frame ∷ fs)

abbrev pub Claim : Phrase → List Mark → List Mark → Type 0
Claim (expression n e) ts rest = Starts ts × ((fs : List Frame) → n ≤ room fs → Proper fs → Closes n rest → Same (go ts st.Operand fs) (go rest (st.Whole (grown e)) fs))
Claim (arguments args) ts rest = (p : Spot) (w : List ℕ) (fs : List Frame) → Same (go ts (st.Word p w) fs) (go rest (named p w args) fs)
Claim (body inner) ts rest = (p : Spot) (w : List ℕ) (args : TreeGroup) (fs : List Frame) → Same (go ts (named p w args) fs) (go rest (ended p w args inner) fs)
Claim (given xs) ts rest = (p : Spot) (w : List ℕ) (fs : List Frame) → Same (go ts st.FirstArgument (f.Args p w no_subtrees ∷ fs)) (go rest (st.Called p w (grown_all xs)) fs)
Claim (before xs) ts rest = (p : Spot) (w : List ℕ) (fs : List Frame) → Same (go ts st.FirstArgument (f.Args p w no_subtrees ∷ fs)) (go rest (wants xs) (f.Args p w (grown_all xs) ∷ fs))
Claim (g.argument x) ts rest = (p : Spot) (w : List ℕ) (done : Subtrees) (fs : List Frame) → EndsMember rest
    → Same (go ts st.Argument (f.Args p w done ∷ fs)) (go rest (st.Listed (grown x)) (f.Args p w done ∷ fs)) × Same (go ts st.FirstArgument (f.Args p w done ∷ fs)) (go rest (st.Listed (grown x)) (f.Args p w done ∷ fs))
Claim (brace_list x) ts rest = (fs : List Frame) → Same (go ts st.Argument fs) (go rest (st.Listed (grown x)) fs) × Same (go ts st.FirstArgument fs) (go rest (st.Listed (grown x)) fs)
    × Same (go ts st.Element fs) (go rest (st.Listed (grown x)) fs) × Same (go ts st.FirstElement fs) (go rest (st.Listed (grown x)) fs)
Claim (members xs) ts rest = (p : Spot) (fs : List Frame) → Same (go ts st.FirstElement (f.List p no_subtrees ∷ fs)) (go rest (expects xs) (f.List p (grown_all xs) ∷ fs))
Claim (member x) ts rest = (fs : List Frame) → Same (go ts st.Element fs) (go rest (st.Listed (grown x)) fs) × Same (go ts st.FirstElement fs) (go rest (st.Listed (grown x)) fs)
Claim (row_of n done last) ts rest = (h : Holder n) (fs : List Frame) → Follows last rest → Same (go ts st.Sequence (holds h no_subtrees ∷ fs)) (goes_on rest (holds h (grown_all done)) fs last)

-- ---- expressions

number_claim : (p : Spot) (n : ℕ) (rest : List Mark) → Claim (expression 1 (t.a_number p n)) (at p (l.Number n) ∷ rest) rest
unfolding begin
number_claim p n rest = (refl, λ fs fits proper ends. stepped (at p (l.Number n)) rest st.Operand (st.Whole (grown (t.a_number p n))) fs fs (allowed 1 fs (st.Whole (grown (t.a_number p n)), fs) fits))

text_claim : (p : Spot) (w : List ℕ) (rest : List Mark) → Claim (expression 1 (t.a_text p w)) (at p (l.Text w) ∷ rest) rest
unfolding begin
text_claim p w rest = (refl, λ fs fits proper ends. stepped (at p (l.Text w)) rest st.Operand (st.Whole (grown (t.a_text p w))) fs fs (allowed 1 fs (st.Whole (grown (t.a_text p w)), fs) fits))

bracket_claim : (p q : Spot) (e : Tree) (ts rest : List Mark) → Claim (expression 13 e) ts (sign q s.RightParen ∷ rest) → Claim (expression 1 e) (sign p s.LeftParen ∷ ts) rest
unfolding begin after settle
bracket_claim p q e ts rest c = (
  refl,
  λ fs fits proper ends.
      let opened : Same (go (sign p s.LeftParen ∷ ts) st.Operand fs) (go ts st.Operand (f.Bracket ∷ fs)) = stepped (sign p s.LeftParen) ts st.Operand st.Operand fs (f.Bracket ∷ fs) (allowed 1 fs (st.Operand, f.Bracket ∷ fs) fits) in
      opened ▸ c.1 (f.Bracket ∷ fs) (omega arith) tt (ends_all q rest).0 ▸ stepped (sign q s.RightParen) rest (st.Whole (grown e)) (st.Whole (grown e)) (f.Bracket ∷ fs) fs refl,
)

index_claim : (p q : Spot) (a e : Tree) (ts mid rest : List Mark) → Claim (expression 1 a) ts (sign p s.LeftBracket ∷ mid) → Claim (expression 13 e) mid (sign q s.RightBracket ∷ rest)
    → Claim (expression 1 (t.a_pair p op.Index a e)) ts rest
unfolding after settle
index_claim p q a e ts mid rest c d = (
  c.0,
  λ fs fits proper ends.
      let opened : Same (go (sign p s.LeftBracket ∷ mid) (st.Whole (grown a)) fs) (go mid st.Operand (f.Index p (grown a) ∷ fs)) =
      stepped (sign p s.LeftBracket) mid (st.Whole (grown a)) st.Operand fs (f.Index p (grown a) ∷ fs) (allowed 1 fs (st.Operand, f.Index p (grown a) ∷ fs) fits) in
      c.1 fs fits proper (omega arith) ▸ opened ▸ d.1 (f.Index p (grown a) ∷ fs) (omega arith) tt (ends_all q rest).1
      ▸ stepped (sign q s.RightBracket) rest (st.Whole (grown e)) (st.Whole (grown (t.a_pair p op.Index a e))) (f.Index p (grown a) ∷ fs) fs refl,
)

postfix_claim : (p : Spot) (o : Infix) (a : Tree) (ts rest : List Mark) → Claim (expression 1 a) ts (sign p (s.Postfix o) ∷ rest) → Claim (expression 1 (t.a_postfix p o a)) ts rest
unfolding after
postfix_claim p o a ts rest c = (
  c.0,
  λ fs fits proper ends.
      let done : Same (go (sign p (s.Postfix o) ∷ rest) (st.Whole (grown a)) fs) (go rest (st.Whole (grown (t.a_postfix p o a))) fs) =
      stepped (sign p (s.Postfix o)) rest (st.Whole (grown a)) (st.Whole (grown (t.a_postfix p o a))) fs fs (allowed 1 fs (st.Whole (grown (t.a_postfix p o a)), fs) fits) in
      c.1 fs fits proper (omega arith) ▸ done,
)

prefix_claim : (p : Spot) (o : Infix) (a : Tree) (ts rest : List Mark) → Claim (expression 2 a) ts rest → Claim (expression 2 (t.a_prefix p o a)) (sign p (s.Prefix o) ∷ ts) rest
unfolding begin
prefix_claim p o a ts rest c = (
  refl,
  λ fs fits proper ends.
      let opened : Same (go (sign p (s.Prefix o) ∷ ts) st.Operand fs) (go ts st.Operand (f.Pending 2 2 p o no_subtrees ∷ fs)) =
      stepped (sign p (s.Prefix o)) ts st.Operand st.Operand fs (f.Pending 2 2 p o no_subtrees ∷ fs) (allowed 2 fs (st.Operand, f.Pending 2 2 p o no_subtrees ∷ fs) fits) in
      opened ▸ c.1 (f.Pending 2 2 p o no_subtrees ∷ fs) (omega arith) (inr (refl, inl refl)) ends ▸ run_more rest 2 2 p o no_subtrees (grown a) fs (omega arith) (omega arith) ends,
)

infix_claim : (p : Spot) (i : Infix) (o : Strength) (a e : Tree) (ts mid rest : List Mark) → strength i ≡ Some o → Claim (expression o.pull a) ts (sign p (s.Binary i) ∷ mid) → Claim (expression o.room e) mid rest
    → Claim (expression o.level (t.a_pair p i a e)) ts rest
infix_claim p i o a e ts mid rest is c d = (
  c.0,
  λ fs fits proper ends.
      let so = is_strength i o is in
      let left = joined no_subtrees (grown a) in
      let shifted : Same (go (sign p (s.Binary i) ∷ mid) (st.Whole (grown a)) fs) (go mid st.Operand (f.Pending o.level o.room p i left ∷ fs)) =
      stepped (sign p (s.Binary i)) mid (st.Whole (grown a)) st.Operand fs (f.Pending o.level o.room p i left ∷ fs) (infix_step p i o (grown a) fs is fits proper) in
      c.1 fs (omega (arith, so.pull_high)) proper (infix_ends i o is) ▸ shifted
      ▸ d.1 (f.Pending o.level o.room p i left ∷ fs) (omega arith) so.binds (Closes-less o.room o.level rest (room_below o.level o.room so.binds) ends)
      ▸ run_more rest o.level o.room p i left (grown e) fs (omega (arith, so.low)) so.high ends,
)

tighter_claim : (m n : ℕ) (e : Tree) (ts rest : List Mark) → m ≤ n → Claim (expression m e) ts rest → Claim (expression n e) ts rest
tighter_claim m n e ts rest h c = (c.0, λ fs fits proper ends. c.1 fs (omega arith) proper (Closes-less m n rest h ends))

-- ---- items

pub item_done : (p : Spot) (w : List ℕ) (args inner : TreeGroup) (rest : List Mark) (fs : List Frame) → Closes 0 rest → Same (go rest (ended p w args inner) fs) (go rest (st.Whole (grown (t.an_item p w args inner))) fs)
unfolding m.word m.called
item_done p w args (t.given xs) rest fs h = itself
item_done p w absent absent [] fs h = same_end (st.Word p w) (st.Whole (item p w None None)) fs fs refl
item_done p w (t.given xs) absent [] fs h = same_end (st.Called p w (grown_all xs)) (st.Whole (item p w (Some (grown_all xs)) None)) fs fs refl
item_done p w absent absent (t ∷ ts) fs h = same_step t ts (st.Word p w) (st.Whole (item p w None None)) fs fs (word_done t.spot t.lexeme p w fs h)
item_done p w (t.given xs) absent (t ∷ ts) fs h =
    same_step t ts (st.Called p w (grown_all xs)) (st.Whole (item p w (Some (grown_all xs)) None)) fs fs (called_done t.spot t.lexeme p w (grown_all xs) fs h)

item_claim : (p : Spot) (path : Bool) (w : List ℕ) (args inner : TreeGroup) (ts mid rest : List Mark) → Claim (arguments args) ts mid → Claim (body inner) mid rest
    → Claim (expression 0 (t.an_item p w args inner)) (word p path w ∷ ts) rest
unfolding begin
item_claim p path w args inner ts mid rest c d = (refl, λ fs fits proper ends. stepped (word p path w) ts st.Operand (st.Word p w) fs fs refl ▸ c p w fs ▸ d p w args fs ▸ item_done p w args inner rest fs ends)

-- ---- arguments

some_arguments_claim : (p : Spot) (xs : Trees) (ts rest : List Mark) → Claim (given xs) ts rest → Claim (arguments (t.given xs)) (sign p s.LeftParen ∷ ts) rest
unfolding m.word
some_arguments_claim p xs ts rest c q w fs = stepped (sign p s.LeftParen) ts (st.Word q w) st.FirstArgument fs (f.Args q w no_subtrees ∷ fs) refl ▸ c q w fs

none_given_claim : (p : Spot) (rest : List Mark) → Claim (given none) (sign p s.RightParen ∷ rest) rest
unfolding first_argument
none_given_claim p rest q w fs = stepped (sign p s.RightParen) rest st.FirstArgument (st.Called q w no_subtrees) (f.Args q w no_subtrees ∷ fs) fs refl

one_argument : (q : Spot) (w : List ℕ) (xs : Trees) (x : Tree) (mid rest : List Mark) (fs : List Frame) → Claim (g.argument x) mid rest → EndsMember rest
    → Same (go mid (wants xs) (f.Args q w (grown_all xs) ∷ fs)) (go rest (st.Listed (grown x)) (f.Args q w (grown_all xs) ∷ fs))
one_argument q w none x mid rest fs d ends = (d q w no_subtrees fs ends).1
one_argument q w (more xs y) x mid rest fs d ends = (d q w (grown_all (more xs y)) fs ends).0

last_given_claim : (p : Spot) (xs : Trees) (x : Tree) (ts mid rest : List Mark) → Claim (before xs) ts mid → Claim (g.argument x) mid (sign p s.RightParen ∷ rest) → Claim (given (more xs x)) ts rest
unfolding listed
last_given_claim p xs x ts mid rest c d q w fs =
    c q w fs ▸ one_argument q w xs x mid (sign p s.RightParen ∷ rest) fs d refl
    ▸ stepped (sign p s.RightParen) rest (st.Listed (grown x)) (st.Called q w (grown_all (more xs x))) (f.Args q w (grown_all xs) ∷ fs) fs refl

last_left_out_claim : (p : Spot) (xs : Trees) (x : Tree) (ts rest : List Mark) → Claim (before (more xs x)) ts (sign p s.RightParen ∷ rest) → Claim (given (more (more xs x) (t.an_empty p))) ts rest
unfolding argument
last_left_out_claim p xs x ts rest c q w fs =
    c q w fs ▸ stepped (sign p s.RightParen) rest st.Argument (st.Called q w (grown_all (more (more xs x) (t.an_empty p)))) (f.Args q w (grown_all (more xs x)) ∷ fs) fs refl

one_before_claim : (p : Spot) (xs : Trees) (x : Tree) (ts mid rest : List Mark) → Claim (before xs) ts mid → Claim (g.argument x) mid (sign p s.Comma ∷ rest) → Claim (before (more xs x)) ts rest
unfolding listed
one_before_claim p xs x ts mid rest c d q w fs =
    c q w fs ▸ one_argument q w xs x mid (sign p s.Comma ∷ rest) fs d refl
    ▸ stepped (sign p s.Comma) rest (st.Listed (grown x)) st.Argument (f.Args q w (grown_all xs) ∷ fs) (f.Args q w (grown_all (more xs x)) ∷ fs) refl

comma_after : (p q : Spot) (w : List ℕ) (xs : Trees) (rest : List Mark) (fs : List Frame) → Same (go (sign p s.Comma ∷ rest) (wants xs) (f.Args q w (grown_all xs) ∷ fs)) (go rest st.Argument (f.Args q w (grown_all (more xs (t.an_empty p))) ∷ fs))
unfolding argument first_argument
comma_after p q w none rest fs = stepped (sign p s.Comma) rest st.FirstArgument st.Argument (f.Args q w no_subtrees ∷ fs) (f.Args q w (grown_all (more none (t.an_empty p))) ∷ fs) refl
comma_after p q w (more xs x) rest fs = stepped (sign p s.Comma) rest st.Argument st.Argument (f.Args q w (grown_all (more xs x)) ∷ fs) (f.Args q w (grown_all (more (more xs x) (t.an_empty p))) ∷ fs) refl

one_left_out_claim : (p : Spot) (xs : Trees) (ts rest : List Mark) → Claim (before xs) ts (sign p s.Comma ∷ rest) → Claim (before (more xs (t.an_empty p))) ts rest
one_left_out_claim p xs ts rest c q w fs = c q w fs ▸ comma_after p q w xs rest fs

argument_claim : (e : Tree) (ts rest : List Mark) → Claim (expression 13 e) ts rest → Claim (g.argument e) ts rest
unfolding after
argument_claim e ts [] c p w done fs h = absurd h
argument_claim e ts (t ∷ rest) c p w done fs h =
    let m = member_ends t.spot t.lexeme (grown e) p w done fs h in
    let read : Same (go ts st.Operand (f.Args p w done ∷ fs)) (go (t ∷ rest) (st.Listed (grown e)) (f.Args p w done ∷ fs)) =
    c.1 (f.Args p w done ∷ fs) (omega arith) tt m.0 ▸ same_step t rest (st.Whole (grown e)) (st.Listed (grown e)) (f.Args p w done ∷ fs) (f.Args p w done ∷ fs) m.1 in
    (argument_starts ts (f.Args p w done ∷ fs) c.0 ▸ read, first_argument_starts ts (f.Args p w done ∷ fs) c.0 ▸ read)

-- ---- lists

one_member : (p : Spot) (xs : Trees) (ys : Subtrees) (x : Tree) (mid rest : List Mark) (fs : List Frame) → Claim (member x) mid rest → Same (go mid (expects xs) (f.List p ys ∷ fs)) (go rest (st.Listed (grown x)) (f.List p ys ∷ fs))
one_member p none ys x mid rest fs d = (d (f.List p ys ∷ fs)).1
one_member p (more xs y) ys x mid rest fs d = (d (f.List p ys ∷ fs)).0

members_then : (p : Spot) (xs : Trees) (x : Tree) (ts mid rest : List Mark) (fs : List Frame) → Claim (members xs) ts mid → Claim (member x) mid rest
    → Same (go ts st.FirstElement (f.List p no_subtrees ∷ fs)) (go rest (st.Listed (grown x)) (f.List p (grown_all xs) ∷ fs))
members_then p xs x ts mid rest fs c d = c p fs ▸ one_member p xs (grown_all xs) x mid rest fs d

pub list_opens : (p : Spot) (ts : List Mark) (fs : List Frame) (y : Here) → Same (go ts st.FirstElement (f.List p no_subtrees ∷ fs)) y
    → Same (go (sign p s.LeftBrace ∷ ts) st.Argument fs) y × Same (go (sign p s.LeftBrace ∷ ts) st.FirstArgument fs) y × Same (go (sign p s.LeftBrace ∷ ts) st.Element fs) y × Same (go (sign p s.LeftBrace ∷ ts) st.FirstElement fs) y
unfolding argument first_argument element first_element
list_opens p ts fs y e = (
  stepped (sign p s.LeftBrace) ts st.Argument st.FirstElement fs (f.List p no_subtrees ∷ fs) refl ▸ e,
  stepped (sign p s.LeftBrace) ts st.FirstArgument st.FirstElement fs (f.List p no_subtrees ∷ fs) refl ▸ e,
  stepped (sign p s.LeftBrace) ts st.Element st.FirstElement fs (f.List p no_subtrees ∷ fs) refl ▸ e,
  stepped (sign p s.LeftBrace) ts st.FirstElement st.FirstElement fs (f.List p no_subtrees ∷ fs) refl ▸ e,
)

empty_list_claim : (p q : Spot) (rest : List Mark) → Claim (brace_list (t.a_list p none)) (sign p s.LeftBrace ∷ sign q s.RightBrace ∷ rest) rest
unfolding first_element
empty_list_claim p q rest fs =
    let e = stepped (sign q s.RightBrace) rest st.FirstElement (st.Listed (grown (t.a_list p none))) (f.List p no_subtrees ∷ fs) fs refl in
    list_opens p (sign q s.RightBrace ∷ rest) fs (go rest (st.Listed (grown (t.a_list p none))) fs) e

list_claim : (p q : Spot) (xs : Trees) (x : Tree) (ts mid rest : List Mark) → Claim (members xs) ts mid → Claim (member x) mid (sign q s.RightBrace ∷ rest)
    → Claim (brace_list (t.a_list p (more xs x))) (sign p s.LeftBrace ∷ ts) rest
unfolding listed
list_claim p q xs x ts mid rest c d fs =
    let e = members_then p xs x ts mid (sign q s.RightBrace ∷ rest) fs c d ▸ stepped (sign q s.RightBrace) rest (st.Listed (grown x)) (st.Listed (grown (t.a_list p (more xs x)))) (f.List p (grown_all xs) ∷ fs) fs refl in
    list_opens p ts fs (go rest (st.Listed (grown (t.a_list p (more xs x)))) fs) e

more_members_claim : (p : Spot) (xs : Trees) (x : Tree) (ts mid rest : List Mark) → Claim (members xs) ts mid → Claim (member x) mid (sign p s.Comma ∷ rest) → Claim (members (more xs x)) ts rest
unfolding listed
more_members_claim p xs x ts mid rest c d q fs =
    members_then q xs x ts mid (sign p s.Comma ∷ rest) fs c d ▸ stepped (sign p s.Comma) rest (st.Listed (grown x)) st.Element (f.List q (grown_all xs) ∷ fs) (f.List q (grown_all (more xs x)) ∷ fs) refl

word_member_claim : (p : Spot) (w : List ℕ) (rest : List Mark) → Claim (member (t.an_item p w absent absent)) (word p false w ∷ rest) rest
unfolding element first_element
word_member_claim p w rest fs = (stepped (word p false w) rest st.Element (st.Listed (item p w None None)) fs fs refl, stepped (word p false w) rest st.FirstElement (st.Listed (item p w None None)) fs fs refl)

-- ---- bodies

pub body_opens : (p q : Spot) (w : List ℕ) (args : TreeGroup) (ts : List Mark) (fs : List Frame) → Same (go (sign p s.LeftBrace ∷ ts) (named q w args) fs) (go ts st.Sequence (f.Body q w (grown_in args) no_subtrees ∷ fs))
unfolding m.word m.called
body_opens p q w absent ts fs = stepped (sign p s.LeftBrace) ts (st.Word q w) st.Sequence fs (f.Body q w None no_subtrees ∷ fs) refl
body_opens p q w (t.given xs) ts fs = stepped (sign p s.LeftBrace) ts (st.Called q w (grown_all xs)) st.Sequence fs (f.Body q w (Some (grown_all xs)) no_subtrees ∷ fs) refl

body_closes : (p q : Spot) (w : List ℕ) (args : TreeGroup) (done : Trees) (last : Option Tree) (rest : List Mark) (fs : List Frame)
    → Same (goes_on (sign p s.RightBrace ∷ rest) (f.Body q w (grown_in args) (grown_all done)) fs last) (go rest (st.Whole (grown (t.an_item q w args (t.given (all done last))))) fs)
unfolding sequence after settle
body_closes p q w args done None rest fs = stepped (sign p s.RightBrace) rest st.Sequence (st.Whole (grown (t.an_item q w args (t.given done)))) (f.Body q w (grown_in args) (grown_all done) ∷ fs) fs refl
body_closes p q w args done (Some e) rest fs =
    stepped (sign p s.RightBrace) rest (st.Whole (grown e)) (st.Whole (grown (t.an_item q w args (t.given (more done e))))) (f.Body q w (grown_in args) (grown_all done) ∷ fs) fs refl

body_claim : (p q : Spot) (done : Trees) (last : Option Tree) (ts rest : List Mark) → Claim (row_of 13 done last) ts (sign q s.RightBrace ∷ rest)
    → Claim (body (t.given (all done last))) (sign p s.LeftBrace ∷ ts) rest
body_claim p q done last ts rest c at' w args fs =
    body_opens p at' w args ts fs ▸ c (of_body at' w (grown_in args)) fs (follows s.RightBrace q last rest (ends_all q rest).2) ▸ body_closes q at' w args done last rest fs

comma_claim : (p : Spot) (done : Trees) (last : Option Tree) (ts rest : List Mark) → Claim (row_of 13 done last) ts (sign p s.Comma ∷ rest) → Claim (row_of 13 (more (all done last) (t.a_comma p)) None) ts rest
unfolding sequence after settle
comma_claim p done None ts rest c (of_body q w args) fs h =
    c (of_body q w args) fs tt ▸ stepped (sign p s.Comma) rest st.Sequence st.Sequence (f.Body q w args (grown_all done) ∷ fs) (f.Body q w args (grown_all (more done (t.a_comma p))) ∷ fs) refl
comma_claim p done (Some e) ts rest c (of_body q w args) fs h =
    c (of_body q w args) fs (ends_all p rest).3 ▸ stepped (sign p s.Comma) rest (st.Whole (grown e)) st.Sequence (f.Body q w args (grown_all done) ∷ fs) (f.Body q w args (grown_all (more (more done e) (t.a_comma p))) ∷ fs) refl

semicolon_claim : (p : Spot) (done : Trees) (last : Option Tree) (ts rest : List Mark) → Claim (row_of 13 done last) ts (sign p s.Semicolon ∷ rest) → Claim (row_of 13 (more (all done last) (t.a_semicolon p)) None) ts rest
unfolding sequence after settle
semicolon_claim p done None ts rest c (of_body q w args) fs h =
    c (of_body q w args) fs tt ▸ stepped (sign p s.Semicolon) rest st.Sequence st.Sequence (f.Body q w args (grown_all done) ∷ fs) (f.Body q w args (grown_all (more done (t.a_semicolon p))) ∷ fs) refl
semicolon_claim p done (Some e) ts rest c (of_body q w args) fs h =
    c (of_body q w args) fs (ends_all p rest).4 ▸ stepped (sign p s.Semicolon) rest (st.Whole (grown e)) st.Sequence (f.Body q w args (grown_all done) ∷ fs) (f.Body q w args (grown_all (more (more done e) (t.a_semicolon p))) ∷ fs) refl

pub go_on : (n : ℕ) (h : Holder n) (done : Trees) (last : Option Tree) (ts : List Mark) (fs : List Frame) → Starts ts → MayFollow last ts
    → Follows last ts × Same (goes_on ts (holds h (grown_all done)) fs last) (go ts st.Operand (holds h (grown_all (all done last)) ∷ fs))
unfolding after
go_on n h row None ts fs b c = (tt, sequence_starts ts (holds h (grown_all row) ∷ fs) b)
go_on n h row (Some e) [] fs b c = absurd b
go_on n h done (Some e) (t ∷ ts) fs b c =
    let k = next_after n h t.spot t.lexeme (grown e) (grown_all done) fs b c in (
      k.0,
      same_step t ts (st.Whole (grown e)) st.Sequence (holds h (grown_all done) ∷ fs) (holds h (grown_all (more done e)) ∷ fs) k.1
          ▸ sequence_starts (t ∷ ts) (holds h (grown_all (more done e)) ∷ fs) b,
    )

one_more_claim : (n : ℕ) (done : Trees) (last : Option Tree) (e : Tree) (ts mid rest : List Mark) → Claim (row_of n done last) ts mid → MayFollow last mid → Claim (expression n e) mid rest
    → Claim (row_of n (all done last) (Some e)) ts rest
one_more_claim n done last e ts mid rest c may d h fs ends =
    let k = go_on n h done last mid fs d.0 may in
    let facts = holder_facts n h (grown_all (all done last)) fs in
    c h fs k.0 ▸ k.1 ▸ d.1 (holds h (grown_all (all done last)) ∷ fs) facts.1 facts.2 (Closes-less n 13 rest facts.0 ends)

-- ---- each phrase

pub complete : {p : Phrase} {ts rest : List Mark} → Reads p ts rest → Claim p ts rest
complete (g.a_number {p = p} {n = n} {rest = rest}) = number_claim p n rest
complete (g.a_text {p = p} {w = w} {rest = rest}) = text_claim p w rest
complete (g.an_item {p = p} {path = path} {w = w} {args = args} {inner = inner} {ms = ts} {mid = mid} {rest = rest} a b) = item_claim p path w args inner ts mid rest (complete a) (complete b)
complete (g.in_brackets {p = p} {q = q} {e = e} {ms = ts} {rest = rest} a) = bracket_claim p q e ts rest (complete a)
complete (g.an_index {p = p} {q = q} {a = x} {e = e} {ms = ts} {mid = mid} {rest = rest} a b) = index_claim p q x e ts mid rest (complete a) (complete b)
complete (g.a_postfix {p = p} {o = o} {a = x} {ms = ts} {rest = rest} a) = postfix_claim p o x ts rest (complete a)
complete (g.a_prefix {p = p} {o = o} {a = x} {ms = ts} {rest = rest} a) = prefix_claim p o x ts rest (complete a)
complete (g.an_infix {p = p} {i = i} {o = o} {a = y} {e = e} {ms = ts} {mid = mid} {rest = rest} is a b) = infix_claim p i o y e ts mid rest is (complete a) (complete b)
complete (g.tighter {m = m} {n = n} {e = e} {ms = ts} {rest = rest} h a) = tighter_claim m n e ts rest h (complete a)
complete g.no_arguments = λ p w fs. itself
complete (g.some_arguments {p = p} {xs = xs} {ms = ts} {rest = rest} a) = some_arguments_claim p xs ts rest (complete a)
complete (g.none_given {p = p} {rest = rest}) = none_given_claim p rest
complete (g.last_given {p = p} {xs = xs} {x = x} {ms = ts} {mid = mid} {rest = rest} a b) = last_given_claim p xs x ts mid rest (complete a) (complete b)
complete (g.last_left_out {p = p} {xs = xs} {x = x} {ms = ts} {rest = rest} a) = last_left_out_claim p xs x ts rest (complete a)
complete g.none_before = λ p w fs. itself
complete (g.one_before {p = p} {xs = xs} {x = x} {ms = ts} {mid = mid} {rest = rest} a b) = one_before_claim p xs x ts mid rest (complete a) (complete b)
complete (g.one_left_out {p = p} {xs = xs} {ms = ts} {rest = rest} a) = one_left_out_claim p xs ts rest (complete a)
complete (g.an_argument {e = e} {ms = ts} {rest = rest} a) = argument_claim e ts rest (complete a)
complete (g.a_list_argument a) = λ p w done fs h. ((complete a (f.Args p w done ∷ fs)).0, (complete a (f.Args p w done ∷ fs)).1)
complete (g.empty_list {p = p} {q = q} {rest = rest}) = empty_list_claim p q rest
complete (g.a_list {p = p} {q = q} {xs = xs} {x = x} {ms = ts} {mid = mid} {rest = rest} a b) = list_claim p q xs x ts mid rest (complete a) (complete b)
complete g.no_members = λ p fs. itself
complete (g.more_members {p = p} {xs = xs} {x = x} {ms = ts} {mid = mid} {rest = rest} a b) = more_members_claim p xs x ts mid rest (complete a) (complete b)
complete (g.a_word {p = p} {w = w} {rest = rest}) = word_member_claim p w rest
complete (g.an_inner_list a) = λ fs. ((complete a fs).2, (complete a fs).3)
complete g.no_body = λ p w args fs. itself
complete (g.a_body {p = p} {q = q} {done = done} {last = last} {ms = ts} {rest = rest} a) = body_claim p q done last ts rest (complete a)
complete g.an_empty_row = λ h fs _. itself
complete (g.a_comma {p = p} {done = done} {last = last} {ms = ts} {rest = rest} a) = comma_claim p done last ts rest (complete a)
complete (g.a_semicolon {p = p} {done = done} {last = last} {ms = ts} {rest = rest} a) = semicolon_claim p done last ts rest (complete a)
complete (g.one_more {n = n} {done = done} {last = last} {e = e} {ms = ts} {mid = mid} {rest = rest} a may b) = one_more_claim n done last e ts mid rest (complete a) may (complete b)
