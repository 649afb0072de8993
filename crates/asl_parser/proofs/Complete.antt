-- What is spelled so is read.
use Rattle.std.proofs.Common.{◌≡◌, ℕ, suc, ◌≤◌, ◌<◌, Bool, true, false, cond, List, [], ◌∷◌, Option, Some, None, refl, sym, ap, subst, ◌∙◌, ◌⊎◌, inl, inr, arith}
use Rattle.std.proofs.lemmas.Bool.{le-leb, lt-leb}
use Rattle.std.specs.Prelude.{nat_le}
use Rattle.asl_syntax.specs.declared.sign.Sign.{Sign}
use Rattle.asl_syntax.specs.declared.sign.Sign.TheVariants as s
use Rattle.asl_syntax.specs.declared.sign.Strength.{Strength}
use Rattle.asl_syntax.specs.declared.mark.Spot.{Spot}
use Rattle.asl_syntax.specs.declared.mark.Lexeme.{Lexeme}
use Rattle.asl_syntax.specs.declared.mark.Lexeme.TheVariants as l
use Rattle.asl_syntax.specs.declared.mark.Mark.{Mark}
use Rattle.asl_syntax.specs.declared.raw.Infix.{Infix}
use Rattle.asl_syntax.specs.declared.raw.Infix.TheVariants as op
use Rattle.asl_syntax.specs.declared.subtree.Subtree.{Subtree}
use Rattle.asl_syntax.specs.declared.subtree.Subtrees.{Subtrees}
use Rattle.asl_syntax.specs.declared.frame.Frame.{Frame}
use Rattle.asl_syntax.specs.declared.frame.Frame.TheVariants as f
use Rattle.asl_parser.specs.declared.state.ParserState.{ParserState}
use Rattle.asl_parser.specs.declared.state.ParserState.TheVariants as st
use Rattle.asl_syntax.specs.Signs.{strength}
use Rattle.asl_syntax.specs.Trees.{Tree, Trees, TreeGroup, none, more, absent}
use Rattle.asl_syntax.specs.Trees as t
use Rattle.asl_syntax.specs.Grow.{no_subtrees, joined, applied, item, grown, grown_all, grown_in}
use Rattle.asl_syntax.specs.Frames.{depth, start, room}
use Rattle.asl_parser.specs.Machine.{Config, Answer, source, stop, deep, walk, unlimited, within, allow, settle, begin, begin_by, begin_sign, operator, sequence, sequence_by, sequence_sign, listed, listed_by, enclosed, enclosed_by}
use Rattle.asl_parser.specs.Machine.{after, after_by, after_lexeme, word_by, called_by, argument, argument_by, first_argument, first_argument_by, element, element_by, first_element, first_element_by, step, run, finish, finish_whole, close_source}
use Rattle.asl_parser.specs.Machine as m
use Rattle.asl_parser.specs.Grammar.{at, sign, word, Phrase, expression, arguments, body, given, before, brace_list, members, member, sequence as row_of, all, is_paren, opens_paren, MayFollow, Reads, IsSource}
use Rattle.asl_parser.specs.Grammar as g
use Rattle.asl_parser.proofs.Ends.{Ends, EndsBy, Ends-less, pull_of, finish_more, after_more, then_run}

-- ---- frames and operators

abbrev pub Binds : ℕ → ℕ → Type 0
Binds level most = (level ≡ suc most) ⊎ ((level ≡ most) × ((level ≡ 2) ⊎ (level ≡ 13)))

-- the operator that waits at the top is one of the grammar
abbrev pub Proper : List Frame → Type 0
Proper (f.Pending level most p o xs ∷ fs) = Binds level most
Proper _ = Unit {0}

pub record IsStrength (o : Strength) : Type 0 where
  pub low : 3 ≤ o.level
  pub high : o.level ≤ 13
  pub pull_low : 1 ≤ o.pull
  pub pull_high : o.pull ≤ o.level
  pub binds : Binds o.level o.room
  pub pulls : ((o.pull ≡ o.level) × (o.level < 13)) ⊎ (o.level ≡ suc o.pull)

abbrev strong : ℕ → ℕ → ℕ → Strength
strong pull level most = record { pull = pull; level = level; room = most }

a_left : (level : ℕ) (o : Strength) → 2 ≤ level → level < 12 → Some (strong (suc level) (suc level) level) ≡ Some o → IsStrength o
a_left level o low high e =
    let e' : strong (suc level) (suc level) level ≡ o = cc in
    subst IsStrength e' (record { low = omega arith; high = omega arith; pull_low = omega arith; pull_high = omega arith; binds = inl refl; pulls = inl (refl, omega arith) })

an_assign : (o : Strength) → Some (strong 12 13 13) ≡ Some o → IsStrength o
an_assign o e =
    let e' : strong 12 13 13 ≡ o = cc in
    subst IsStrength e' (record { low = omega arith; high = omega arith; pull_low = omega arith; pull_high = omega arith; binds = inr (refl, inr refl); pulls = inr refl })

pub is_strength : (i : Infix) (o : Strength) → strength i ≡ Some o → IsStrength o
unfolding strength
is_strength op.Multiply o e = a_left 2 o (omega arith) (omega arith) e
is_strength op.Divide o e = a_left 2 o (omega arith) (omega arith) e
is_strength op.Modulo o e = a_left 2 o (omega arith) (omega arith) e
is_strength op.Add o e = a_left 3 o (omega arith) (omega arith) e
is_strength op.Subtract o e = a_left 3 o (omega arith) (omega arith) e
is_strength op.ShiftLeft o e = a_left 4 o (omega arith) (omega arith) e
is_strength op.ShiftRight o e = a_left 4 o (omega arith) (omega arith) e
is_strength op.Less o e = a_left 5 o (omega arith) (omega arith) e
is_strength op.Greater o e = a_left 5 o (omega arith) (omega arith) e
is_strength op.LessEqual o e = a_left 5 o (omega arith) (omega arith) e
is_strength op.GreaterEqual o e = a_left 5 o (omega arith) (omega arith) e
is_strength op.Equal o e = a_left 6 o (omega arith) (omega arith) e
is_strength op.NotEqual o e = a_left 6 o (omega arith) (omega arith) e
is_strength op.And o e = a_left 7 o (omega arith) (omega arith) e
is_strength op.Xor o e = a_left 8 o (omega arith) (omega arith) e
is_strength op.Or o e = a_left 9 o (omega arith) (omega arith) e
is_strength op.LogicalAnd o e = a_left 10 o (omega arith) (omega arith) e
is_strength op.LogicalOr o e = a_left 11 o (omega arith) (omega arith) e
is_strength op.Assign o e = an_assign o e
is_strength op.AddAssign o e = an_assign o e
is_strength op.SubtractAssign o e = an_assign o e
is_strength op.MultiplyAssign o e = an_assign o e
is_strength op.DivideAssign o e = an_assign o e
is_strength op.ModuloAssign o e = an_assign o e
is_strength op.ShiftLeftAssign o e = an_assign o e
is_strength op.ShiftRightAssign o e = an_assign o e
is_strength op.AndAssign o e = an_assign o e
is_strength op.OrAssign o e = an_assign o e
is_strength op.XorAssign o e = an_assign o e
is_strength op.Index o e = absurd cc
is_strength op.Increment o e = absurd cc
is_strength op.Decrement o e = absurd cc
is_strength op.LogicalNot o e = absurd cc
is_strength op.Not o e = absurd cc

-- an operator of this level leaves the one that waits at the top
waits : (o : Strength) (level most : ℕ) → IsStrength o → o.level ≤ most → Binds level most → o.pull < level
waits o level most so fits (inl b) = omega (arith, so.pull_high)
waits o level most so fits (inr (b, inl two)) = absurd (omega (arith, so.low))
waits o level most so fits (inr (b, inr six)) = elim so.pulls [ inl p ↦ omega (arith, p.0, p.1) | inr p ↦ omega (arith, p, so.high) ]

pub settle_same : (o : Strength) (e : Subtree) (fs : List Frame) → IsStrength o → o.level ≤ room fs → Proper fs → settle o.pull e fs ≡ (e, fs)
unfolding settle
settle_same o e [] so fits proper = refl
settle_same o e (f.Pending level most p i xs ∷ fs) so fits proper = rw (lt-leb level o.pull (waits o level most so fits proper)) refl
settle_same o e (f.Unit done ∷ fs) so fits proper = refl
settle_same o e (_ ∷ fs) so fits proper = refl

-- ---- two runs that answer alike, or the first of which meets too much that is open

pub record IsDeep (a : Answer) : Type 0 where
  pub rest : List Mark
  pub is : a ≡ deep rest

pub data Same (x y : Answer) : Type 0 where
  same : x ≡ y → Same x y
  cut : IsDeep x → Same x y

infixr 9 ◌▸◌
pub ◌▸◌ : {x y z : Answer} → Same x y → Same y z → Same x z
(same p) ▸ (same q) = same (p ∙ q)
(same p) ▸ (cut d) = cut (record { rest = d.rest; is = p ∙ d.is })
(cut d) ▸ q = cut d

-- ---- how expressions begin

abbrev pub begins : Lexeme → Bool
begins (l.Word path w) = true
begins (l.Number n) = true
begins (l.Text w) = true
begins (l.Sign s.LeftParen) = true
begins (l.Sign (s.Prefix o)) = true
begins _ = false

abbrev pub Starts : List Mark → Type 0
Starts [] = ⊥
Starts (t ∷ ts) = begins t.lexeme ≡ true

pub allowed : (n : ℕ) (fs : List Frame) (c : Config) → n ≤ room fs → allow (nat_le n (room fs)) c ≡ Some c
allowed n fs c h = rw (le-leb n (room fs) h) refl

sequence_begins : (p : Spot) (x : Lexeme) (fs : List Frame) → begins x ≡ true → sequence_by p x fs ≡ begin_by p x fs
sequence_begins p (l.Word path w) fs h = refl
sequence_begins p (l.Number n) fs h = refl
sequence_begins p (l.Text w) fs h = refl
sequence_begins p (l.Sign s.LeftParen) fs h = refl
sequence_begins p (l.Sign (s.Prefix o)) fs h = refl
sequence_begins p _ fs h = absurd cc

argument_begins : (p : Spot) (x : Lexeme) (fs : List Frame) → begins x ≡ true → argument_by p x fs ≡ begin_by p x fs
argument_begins p (l.Word path w) fs h = refl
argument_begins p (l.Number n) fs h = refl
argument_begins p (l.Text w) fs h = refl
argument_begins p (l.Sign s.LeftParen) fs h = refl
argument_begins p (l.Sign (s.Prefix o)) fs h = refl
argument_begins p _ fs h = absurd cc

first_argument_begins : (p : Spot) (x : Lexeme) (fs : List Frame) → begins x ≡ true → first_argument_by p x fs ≡ argument p x fs
first_argument_begins p (l.Word path w) fs h = refl
first_argument_begins p (l.Number n) fs h = refl
first_argument_begins p (l.Text w) fs h = refl
first_argument_begins p (l.Sign s.LeftParen) fs h = refl
first_argument_begins p (l.Sign (s.Prefix o)) fs h = refl
first_argument_begins p _ fs h = absurd cc

-- ---- the words of the claims

pub data Holder : ℕ → Type 0 where
  of_source : Holder 0
  of_body : Spot → List ℕ → Option Subtrees → Holder 13

abbrev pub holds : {n : ℕ} → Holder n → Subtrees → Frame
holds of_source done = f.Unit done
holds (of_body p w args) done = f.Body p w args done

abbrev pub named : Spot → List ℕ → TreeGroup → ParserState
named p w absent = st.Word p w
named p w (t.given args) = st.Called p w (grown_all args)

abbrev pub ended : Spot → List ℕ → TreeGroup → TreeGroup → ParserState
ended p w args absent = named p w args
ended p w args (t.given xs) = st.Whole (grown (t.an_item p w args (t.given xs)))

abbrev pub ends_member : Lexeme → Bool
ends_member (l.Sign s.Comma) = true
ends_member (l.Sign s.RightParen) = true
ends_member _ = false

abbrev pub EndsMember : List Mark → Type 0
EndsMember [] = ⊥
EndsMember (t ∷ ts) = ends_member t.lexeme ≡ true

abbrev pub Follows : Option Tree → List Mark → Type 0
Follows None ts = Unit {0}
Follows (Some e) ts = Ends 13 ts

abbrev pub expects : Trees → ParserState
expects none = st.FirstElement
expects (more xs x) = st.Element

abbrev pub wants : Trees → ParserState
wants none = st.FirstArgument
wants (more xs x) = st.Argument

pub ends_all : (p : Spot) (rest : List Mark) → Ends 13 (sign p s.RightParen ∷ rest) × Ends 13 (sign p s.RightBracket ∷ rest) × Ends 13 (sign p s.RightBrace ∷ rest) × Ends 13 (sign p s.Comma ∷ rest) × Ends 13 (sign p s.Semicolon ∷ rest)
ends_all p rest = (omega arith, omega arith, omega arith, omega arith, omega arith)

pub infix_ends : (i : Infix) (o : Strength) → strength i ≡ Some o → EndsBy o.pull (pull_of (l.Sign (s.Binary i)))
infix_ends i o e = rw e (omega arith)

infix_after : (q : Spot) (i : Infix) (o : Strength) (a : Subtree) (fs : List Frame) → strength i ≡ Some o → after_lexeme q (l.Sign (s.Binary i)) a fs ≡ operator q i o (settle o.pull a fs)
infix_after q i o a fs e = rw e refl

pub infix_step : (p : Spot) (i : Infix) (o : Strength) (a : Subtree) (fs : List Frame) → strength i ≡ Some o → o.level ≤ room fs → Proper fs
    → after p (l.Sign (s.Binary i)) a fs ≡ Some (st.Operand, f.Pending o.level o.room p i (joined no_subtrees a) ∷ fs)
unfolding after
infix_step p i o a fs e fits proper =
    infix_after p i o a fs e ∙ rw (settle_same o a fs (is_strength i o e) fits proper, le-leb o.level (room fs) fits) refl

room_below : (level most : ℕ) → Binds level most → most ≤ level
room_below level most (inl b) = omega arith
room_below level most (inr b) = omega (arith, b.0)

word_done : (q : Spot) (x : Lexeme) (p : Spot) (w : List ℕ) (fs : List Frame) → EndsBy 0 (pull_of x) → word_by q x p w fs ≡ after q x (item p w None None) fs
word_done q (l.Sign s.LeftParen) p w fs h = absurd h
word_done q (l.Sign s.LeftBrace) p w fs h = absurd h
word_done q (l.Sign x) p w fs h = refl
word_done q (l.Word path v) p w fs h = refl
word_done q (l.Number n) p w fs h = refl
word_done q (l.Text v) p w fs h = refl
word_done q l.Other p w fs h = refl

called_done : (q : Spot) (x : Lexeme) (p : Spot) (w : List ℕ) (args : Subtrees) (fs : List Frame) → EndsBy 0 (pull_of x) → called_by q x p w args fs ≡ after q x (item p w (Some args) None) fs
called_done q (l.Sign s.LeftBrace) p w args fs h = absurd h
called_done q (l.Sign x) p w args fs h = refl
called_done q (l.Word path v) p w args fs h = refl
called_done q (l.Number n) p w args fs h = refl
called_done q (l.Text v) p w args fs h = refl
called_done q l.Other p w args fs h = refl

pub member_ends : (q : Spot) (x : Lexeme) (e : Subtree) (p : Spot) (w : List ℕ) (done : Subtrees) (fs : List Frame) → ends_member x ≡ true
    → EndsBy 13 (pull_of x) × (after_lexeme q x e (f.Args p w done ∷ fs) ≡ listed e x (f.Args p w done ∷ fs))
unfolding settle
member_ends q (l.Sign s.Comma) e p w done fs h = (omega arith, refl)
member_ends q (l.Sign s.RightParen) e p w done fs h = (omega arith, refl)
member_ends q _ e p w done fs h = absurd cc

follows : (x : Sign) (p : Spot) (last : Option Tree) (rest : List Mark) → Ends 13 (sign p x ∷ rest) → Follows last (sign p x ∷ rest)
follows x p None rest h = tt
follows x p (Some e) rest h = h

-- what begins an expression, but for a parenthesis, ends the one before it
next_after : (n : ℕ) (h : Holder n) (q : Spot) (x : Lexeme) (e : Subtree) (done : Subtrees) (fs : List Frame) → begins x ≡ true → is_paren x ≡ false
    → EndsBy 13 (pull_of x) × (after_lexeme q x e (holds h done ∷ fs) ≡ sequence q x (holds h (joined done e) ∷ fs))
unfolding settle
next_after n h q (l.Sign s.LeftParen) e done fs b c = absurd cc
next_after n of_source q (l.Sign (s.Prefix o)) e done fs b c = (omega arith, refl)
next_after n (of_body p w args) q (l.Sign (s.Prefix o)) e done fs b c = (omega arith, refl)
next_after n h q (l.Sign _) e done fs b c = absurd cc
next_after n of_source q (l.Word path v) e done fs b c = (omega arith, refl)
next_after n (of_body p w args) q (l.Word path v) e done fs b c = (omega arith, refl)
next_after n of_source q (l.Number v) e done fs b c = (omega arith, refl)
next_after n (of_body p w args) q (l.Number v) e done fs b c = (omega arith, refl)
next_after n of_source q (l.Text v) e done fs b c = (omega arith, refl)
next_after n (of_body p w args) q (l.Text v) e done fs b c = (omega arith, refl)
next_after n h q l.Other e done fs b c = absurd cc

holder_facts : (n : ℕ) (h : Holder n) (done : Subtrees) (fs : List Frame) → (n ≤ 13) × (n ≤ room (holds h done ∷ fs)) × Proper (holds h done ∷ fs)
holder_facts n of_source done fs = (omega arith, omega arith, tt)
holder_facts n (of_body p w args) done fs = (omega arith, omega arith, tt)

follows_end : (last : Option Tree) → Follows last []
follows_end None = tt
follows_end (Some e) = tt

holds_depth : (n : ℕ) (h : Holder n) (done others : Subtrees) (fs : List Frame) → depth (holds h others ∷ fs) ≤ depth (holds h done ∷ fs)
holds_depth n of_source done others fs = omega arith
holds_depth n (of_body p w args) done others fs = omega arith

-- The test allows less where it allows more.
module _ (ok : ℕ → Bool) (mono : (m n : ℕ) → m ≤ n → ok n ≡ true → ok m ≡ true) where
  abbrev pub go : List Mark → ParserState → List Frame → Answer
  go ts a fs = walk ok ts a fs

  unfoldable pub then_go : Mark → List Mark → Option Config → Answer
  then_go t ts c = elim c [ None ↦ stop (t ∷ ts) | Some d ↦ walk ok ts d.0 d.1 ]

  unfoldable guarded : Bool → Answer → List Mark → Answer
  guarded b x ts = cond b x (deep ts)

  -- the second stack has no more open than the first
  guarded_same : (b c : Bool) (x y : Answer) (ts us : List Mark) → (b ≡ true → c ≡ true) → x ≡ y → Same (guarded b x ts) (guarded c y us)
  unfolding guarded
  guarded_same true true x y ts us h e = same e
  guarded_same true false x y ts us h e = absurd (let k : false ≡ true = h refl in cc)
  guarded_same false c x y ts us h e = cut (record { rest = ts; is = refl })

  guarded_go : (b : Bool) (x y : Answer) (ts : List Mark) → x ≡ y → Same (guarded b x ts) y
  unfolding guarded
  guarded_go true x y ts e = same e
  guarded_go false x y ts e = cut (record { rest = ts; is = refl })

  same_step : (t : Mark) (ts : List Mark) (a b : ParserState) (fs gs : List Frame) → depth gs ≤ depth fs → step t a fs ≡ step t b gs → Same (go (t ∷ ts) a fs) (go (t ∷ ts) b gs)
  unfolding walk then_go guarded
  same_step t ts a b fs gs less e = guarded_same (ok (depth fs)) (ok (depth gs)) (then_go t ts (step t a fs)) (then_go t ts (step t b gs)) (t ∷ ts) (t ∷ ts) (mono (depth gs) (depth fs) less) (ap (then_go t ts) e)

  same_end : (a b : ParserState) (fs gs : List Frame) → depth gs ≤ depth fs → finish a fs ≡ finish b gs → Same (go [] a fs) (go [] b gs)
  unfolding walk guarded
  same_end a b fs gs less e = guarded_same (ok (depth fs)) (ok (depth gs)) (finish a fs) (finish b gs) [] [] (mono (depth gs) (depth fs) less) e

  pub stepped : (t : Mark) (ts : List Mark) (a b : ParserState) (fs gs : List Frame) → step t a fs ≡ Some (b, gs) → Same (go (t ∷ ts) a fs) (go ts b gs)
  unfolding walk then_go guarded
  stepped t ts a b fs gs e = guarded_go (ok (depth fs)) (then_go t ts (step t a fs)) (walk ok ts b gs) (t ∷ ts) (ap (then_go t ts) e)

  run_more : (ts : List Mark) (level most : ℕ) (p : Spot) (o : Infix) (xs : Subtrees) (e : Subtree) (fs : List Frame) → 2 ≤ level → level ≤ 13 → Ends level ts
      → Same (go ts (st.Whole e) (f.Pending level most p o xs ∷ fs)) (go ts (st.Whole (applied p o xs e)) fs)
  run_more [] level most p o xs e fs low high h = same_end (st.Whole e) (st.Whole (applied p o xs e)) (f.Pending level most p o xs ∷ fs) fs (omega arith) (finish_more level most p o xs e fs high)
  run_more (t ∷ ts) level most p o xs e fs low high h = same_step t ts (st.Whole e) (st.Whole (applied p o xs e)) (f.Pending level most p o xs ∷ fs) fs (omega arith) (after_more t level most p o xs e fs low high h)

  sequence_starts : (ts : List Mark) (fs : List Frame) → Starts ts → Same (go ts st.Sequence fs) (go ts st.Operand fs)
  unfolding sequence begin
  sequence_starts [] fs h = absurd h
  sequence_starts (t ∷ ts) fs h = same_step t ts st.Sequence st.Operand fs fs (omega arith) (sequence_begins t.spot t.lexeme fs h)

  pub argument_starts : (ts : List Mark) (fs : List Frame) → Starts ts → Same (go ts st.Argument fs) (go ts st.Operand fs)
  unfolding argument begin
  argument_starts [] fs h = absurd h
  argument_starts (t ∷ ts) fs h = same_step t ts st.Argument st.Operand fs fs (omega arith) (argument_begins t.spot t.lexeme fs h)

  pub first_argument_starts : (ts : List Mark) (fs : List Frame) → Starts ts → Same (go ts st.FirstArgument fs) (go ts st.Operand fs)
  unfolding first_argument
  first_argument_starts [] fs h = absurd h
  first_argument_starts (t ∷ ts) fs h = same_step t ts st.FirstArgument st.Argument fs fs (omega arith) (first_argument_begins t.spot t.lexeme fs h) ▸ argument_starts (t ∷ ts) fs h

  abbrev pub goes_on : List Mark → Frame → List Frame → Option Tree → Answer
  goes_on ts frame fs None = go ts st.Sequence (frame ∷ fs)
  goes_on ts frame fs (Some e) = go ts (st.Whole (grown e)) (frame ∷ fs)

  abbrev pub Claim : Phrase → List Mark → List Mark → Type 0
  Claim (expression n e) ts rest = Starts ts × ((fs : List Frame) → n ≤ room fs → Proper fs → Ends n rest → Same (go ts st.Operand fs) (go rest (st.Whole (grown e)) fs))
  Claim (arguments args) ts rest = (p : Spot) (w : List ℕ) (fs : List Frame) → Same (go ts (st.Word p w) fs) (go rest (named p w args) fs)
  Claim (body inner) ts rest = (p : Spot) (w : List ℕ) (args : TreeGroup) (fs : List Frame) → Same (go ts (named p w args) fs) (go rest (ended p w args inner) fs)
  Claim (given xs) ts rest = (p : Spot) (w : List ℕ) (fs : List Frame) → Same (go ts st.FirstArgument (f.Args p w no_subtrees ∷ fs)) (go rest (st.Called p w (grown_all xs)) fs)
  Claim (before xs) ts rest = (p : Spot) (w : List ℕ) (fs : List Frame) → Same (go ts st.FirstArgument (f.Args p w no_subtrees ∷ fs)) (go rest (wants xs) (f.Args p w (grown_all xs) ∷ fs))
  Claim (g.argument x) ts rest = (p : Spot) (w : List ℕ) (done : Subtrees) (fs : List Frame) → EndsMember rest
      → Same (go ts st.Argument (f.Args p w done ∷ fs)) (go rest (st.Listed (grown x)) (f.Args p w done ∷ fs)) × Same (go ts st.FirstArgument (f.Args p w done ∷ fs)) (go rest (st.Listed (grown x)) (f.Args p w done ∷ fs))
  Claim (brace_list x) ts rest = (fs : List Frame) → Same (go ts st.Argument fs) (go rest (st.Listed (grown x)) fs) × Same (go ts st.FirstArgument fs) (go rest (st.Listed (grown x)) fs)
      × Same (go ts st.Element fs) (go rest (st.Listed (grown x)) fs) × Same (go ts st.FirstElement fs) (go rest (st.Listed (grown x)) fs)
  Claim (members xs) ts rest = (p : Spot) (fs : List Frame) → Same (go ts st.FirstElement (f.List p no_subtrees ∷ fs)) (go rest (expects xs) (f.List p (grown_all xs) ∷ fs))
  Claim (member x) ts rest = (fs : List Frame) → Same (go ts st.Element fs) (go rest (st.Listed (grown x)) fs) × Same (go ts st.FirstElement fs) (go rest (st.Listed (grown x)) fs)
  Claim (row_of n done last) ts rest = (h : Holder n) (fs : List Frame) → Follows last rest → Same (go ts st.Sequence (holds h no_subtrees ∷ fs)) (goes_on rest (holds h (grown_all done)) fs last)

  -- ---- expressions

  number_claim : (p : Spot) (n : ℕ) (rest : List Mark) → Claim (expression 1 (t.a_number p n)) (at p (l.Number n) ∷ rest) rest
  unfolding begin
  number_claim p n rest = (refl, λ fs fits proper ends. stepped (at p (l.Number n)) rest st.Operand (st.Whole (grown (t.a_number p n))) fs fs (allowed 1 fs (st.Whole (grown (t.a_number p n)), fs) fits))

  text_claim : (p : Spot) (w : List ℕ) (rest : List Mark) → Claim (expression 1 (t.a_text p w)) (at p (l.Text w) ∷ rest) rest
  unfolding begin
  text_claim p w rest = (refl, λ fs fits proper ends. stepped (at p (l.Text w)) rest st.Operand (st.Whole (grown (t.a_text p w))) fs fs (allowed 1 fs (st.Whole (grown (t.a_text p w)), fs) fits))

  bracket_claim : (p q : Spot) (e : Tree) (ts rest : List Mark) → Claim (expression 13 e) ts (sign q s.RightParen ∷ rest) → Claim (expression 1 e) (sign p s.LeftParen ∷ ts) rest
  unfolding begin after settle
  bracket_claim p q e ts rest c = (
    refl,
    λ fs fits proper ends.
        let opened : Same (go (sign p s.LeftParen ∷ ts) st.Operand fs) (go ts st.Operand (f.Bracket ∷ fs)) = stepped (sign p s.LeftParen) ts st.Operand st.Operand fs (f.Bracket ∷ fs) (allowed 1 fs (st.Operand, f.Bracket ∷ fs) fits) in
        opened ▸ c.1 (f.Bracket ∷ fs) (omega arith) tt (ends_all q rest).0 ▸ stepped (sign q s.RightParen) rest (st.Whole (grown e)) (st.Whole (grown e)) (f.Bracket ∷ fs) fs refl,
  )

  index_claim : (p q : Spot) (a e : Tree) (ts mid rest : List Mark) → Claim (expression 1 a) ts (sign p s.LeftBracket ∷ mid) → Claim (expression 13 e) mid (sign q s.RightBracket ∷ rest)
      → Claim (expression 1 (t.a_pair p op.Index a e)) ts rest
  unfolding after settle
  index_claim p q a e ts mid rest c d = (
    c.0,
    λ fs fits proper ends.
        let opened : Same (go (sign p s.LeftBracket ∷ mid) (st.Whole (grown a)) fs) (go mid st.Operand (f.Index p (grown a) ∷ fs)) =
        stepped (sign p s.LeftBracket) mid (st.Whole (grown a)) st.Operand fs (f.Index p (grown a) ∷ fs) (allowed 1 fs (st.Operand, f.Index p (grown a) ∷ fs) fits) in
        c.1 fs fits proper (omega arith) ▸ opened ▸ d.1 (f.Index p (grown a) ∷ fs) (omega arith) tt (ends_all q rest).1
        ▸ stepped (sign q s.RightBracket) rest (st.Whole (grown e)) (st.Whole (grown (t.a_pair p op.Index a e))) (f.Index p (grown a) ∷ fs) fs refl,
  )

  postfix_claim : (p : Spot) (o : Infix) (a : Tree) (ts rest : List Mark) → Claim (expression 1 a) ts (sign p (s.Postfix o) ∷ rest) → Claim (expression 1 (t.a_postfix p o a)) ts rest
  unfolding after
  postfix_claim p o a ts rest c = (
    c.0,
    λ fs fits proper ends.
        let done : Same (go (sign p (s.Postfix o) ∷ rest) (st.Whole (grown a)) fs) (go rest (st.Whole (grown (t.a_postfix p o a))) fs) =
        stepped (sign p (s.Postfix o)) rest (st.Whole (grown a)) (st.Whole (grown (t.a_postfix p o a))) fs fs (allowed 1 fs (st.Whole (grown (t.a_postfix p o a)), fs) fits) in
        c.1 fs fits proper (omega arith) ▸ done,
  )

  prefix_claim : (p : Spot) (o : Infix) (a : Tree) (ts rest : List Mark) → Claim (expression 2 a) ts rest → Claim (expression 2 (t.a_prefix p o a)) (sign p (s.Prefix o) ∷ ts) rest
  unfolding begin
  prefix_claim p o a ts rest c = (
    refl,
    λ fs fits proper ends.
        let opened : Same (go (sign p (s.Prefix o) ∷ ts) st.Operand fs) (go ts st.Operand (f.Pending 2 2 p o no_subtrees ∷ fs)) =
        stepped (sign p (s.Prefix o)) ts st.Operand st.Operand fs (f.Pending 2 2 p o no_subtrees ∷ fs) (allowed 2 fs (st.Operand, f.Pending 2 2 p o no_subtrees ∷ fs) fits) in
        opened ▸ c.1 (f.Pending 2 2 p o no_subtrees ∷ fs) (omega arith) (inr (refl, inl refl)) ends ▸ run_more rest 2 2 p o no_subtrees (grown a) fs (omega arith) (omega arith) ends,
  )

  infix_claim : (p : Spot) (i : Infix) (o : Strength) (a e : Tree) (ts mid rest : List Mark) → strength i ≡ Some o → Claim (expression o.pull a) ts (sign p (s.Binary i) ∷ mid) → Claim (expression o.room e) mid rest
      → Claim (expression o.level (t.a_pair p i a e)) ts rest
  infix_claim p i o a e ts mid rest is c d = (
    c.0,
    λ fs fits proper ends.
        let so = is_strength i o is in
        let left = joined no_subtrees (grown a) in
        let shifted : Same (go (sign p (s.Binary i) ∷ mid) (st.Whole (grown a)) fs) (go mid st.Operand (f.Pending o.level o.room p i left ∷ fs)) =
        stepped (sign p (s.Binary i)) mid (st.Whole (grown a)) st.Operand fs (f.Pending o.level o.room p i left ∷ fs) (infix_step p i o (grown a) fs is fits proper) in
        c.1 fs (omega (arith, so.pull_high)) proper (infix_ends i o is) ▸ shifted
        ▸ d.1 (f.Pending o.level o.room p i left ∷ fs) (omega arith) so.binds (Ends-less o.room o.level rest (room_below o.level o.room so.binds) ends)
        ▸ run_more rest o.level o.room p i left (grown e) fs (omega (arith, so.low)) so.high ends,
  )

  tighter_claim : (m n : ℕ) (e : Tree) (ts rest : List Mark) → m ≤ n → Claim (expression m e) ts rest → Claim (expression n e) ts rest
  tighter_claim m n e ts rest h c = (c.0, λ fs fits proper ends. c.1 fs (omega arith) proper (Ends-less m n rest h ends))

  -- ---- items

  pub item_done : (p : Spot) (w : List ℕ) (args inner : TreeGroup) (rest : List Mark) (fs : List Frame) → Ends 0 rest → Same (go rest (ended p w args inner) fs) (go rest (st.Whole (grown (t.an_item p w args inner))) fs)
  unfolding m.word m.called
  item_done p w args (t.given xs) rest fs h = same refl
  item_done p w absent absent [] fs h = same_end (st.Word p w) (st.Whole (item p w None None)) fs fs (omega arith) refl
  item_done p w (t.given xs) absent [] fs h = same_end (st.Called p w (grown_all xs)) (st.Whole (item p w (Some (grown_all xs)) None)) fs fs (omega arith) refl
  item_done p w absent absent (t ∷ ts) fs h = same_step t ts (st.Word p w) (st.Whole (item p w None None)) fs fs (omega arith) (word_done t.spot t.lexeme p w fs h)
  item_done p w (t.given xs) absent (t ∷ ts) fs h =
      same_step t ts (st.Called p w (grown_all xs)) (st.Whole (item p w (Some (grown_all xs)) None)) fs fs (omega arith) (called_done t.spot t.lexeme p w (grown_all xs) fs h)

  item_claim : (p : Spot) (path : Bool) (w : List ℕ) (args inner : TreeGroup) (ts mid rest : List Mark) → Claim (arguments args) ts mid → Claim (body inner) mid rest
      → Claim (expression 0 (t.an_item p w args inner)) (word p path w ∷ ts) rest
  unfolding begin
  item_claim p path w args inner ts mid rest c d = (refl, λ fs fits proper ends. stepped (word p path w) ts st.Operand (st.Word p w) fs fs refl ▸ c p w fs ▸ d p w args fs ▸ item_done p w args inner rest fs ends)

  -- ---- arguments

  some_arguments_claim : (p : Spot) (xs : Trees) (ts rest : List Mark) → Claim (given xs) ts rest → Claim (arguments (t.given xs)) (sign p s.LeftParen ∷ ts) rest
  unfolding m.word
  some_arguments_claim p xs ts rest c q w fs = stepped (sign p s.LeftParen) ts (st.Word q w) st.FirstArgument fs (f.Args q w no_subtrees ∷ fs) refl ▸ c q w fs

  none_given_claim : (p : Spot) (rest : List Mark) → Claim (given none) (sign p s.RightParen ∷ rest) rest
  unfolding first_argument
  none_given_claim p rest q w fs = stepped (sign p s.RightParen) rest st.FirstArgument (st.Called q w no_subtrees) (f.Args q w no_subtrees ∷ fs) fs refl

  one_argument : (q : Spot) (w : List ℕ) (xs : Trees) (x : Tree) (mid rest : List Mark) (fs : List Frame) → Claim (g.argument x) mid rest → EndsMember rest
      → Same (go mid (wants xs) (f.Args q w (grown_all xs) ∷ fs)) (go rest (st.Listed (grown x)) (f.Args q w (grown_all xs) ∷ fs))
  one_argument q w none x mid rest fs d ends = (d q w no_subtrees fs ends).1
  one_argument q w (more xs y) x mid rest fs d ends = (d q w (grown_all (more xs y)) fs ends).0

  last_given_claim : (p : Spot) (xs : Trees) (x : Tree) (ts mid rest : List Mark) → Claim (before xs) ts mid → Claim (g.argument x) mid (sign p s.RightParen ∷ rest) → Claim (given (more xs x)) ts rest
  unfolding listed
  last_given_claim p xs x ts mid rest c d q w fs =
      c q w fs ▸ one_argument q w xs x mid (sign p s.RightParen ∷ rest) fs d refl
      ▸ stepped (sign p s.RightParen) rest (st.Listed (grown x)) (st.Called q w (grown_all (more xs x))) (f.Args q w (grown_all xs) ∷ fs) fs refl

  last_left_out_claim : (p : Spot) (xs : Trees) (x : Tree) (ts rest : List Mark) → Claim (before (more xs x)) ts (sign p s.RightParen ∷ rest) → Claim (given (more (more xs x) (t.an_empty p))) ts rest
  unfolding argument
  last_left_out_claim p xs x ts rest c q w fs =
      c q w fs ▸ stepped (sign p s.RightParen) rest st.Argument (st.Called q w (grown_all (more (more xs x) (t.an_empty p)))) (f.Args q w (grown_all (more xs x)) ∷ fs) fs refl

  one_before_claim : (p : Spot) (xs : Trees) (x : Tree) (ts mid rest : List Mark) → Claim (before xs) ts mid → Claim (g.argument x) mid (sign p s.Comma ∷ rest) → Claim (before (more xs x)) ts rest
  unfolding listed
  one_before_claim p xs x ts mid rest c d q w fs =
      c q w fs ▸ one_argument q w xs x mid (sign p s.Comma ∷ rest) fs d refl
      ▸ stepped (sign p s.Comma) rest (st.Listed (grown x)) st.Argument (f.Args q w (grown_all xs) ∷ fs) (f.Args q w (grown_all (more xs x)) ∷ fs) refl

  comma_after : (p q : Spot) (w : List ℕ) (xs : Trees) (rest : List Mark) (fs : List Frame) → Same (go (sign p s.Comma ∷ rest) (wants xs) (f.Args q w (grown_all xs) ∷ fs)) (go rest st.Argument (f.Args q w (grown_all (more xs (t.an_empty p))) ∷ fs))
  unfolding argument first_argument
  comma_after p q w none rest fs = stepped (sign p s.Comma) rest st.FirstArgument st.Argument (f.Args q w no_subtrees ∷ fs) (f.Args q w (grown_all (more none (t.an_empty p))) ∷ fs) refl
  comma_after p q w (more xs x) rest fs = stepped (sign p s.Comma) rest st.Argument st.Argument (f.Args q w (grown_all (more xs x)) ∷ fs) (f.Args q w (grown_all (more (more xs x) (t.an_empty p))) ∷ fs) refl

  one_left_out_claim : (p : Spot) (xs : Trees) (ts rest : List Mark) → Claim (before xs) ts (sign p s.Comma ∷ rest) → Claim (before (more xs (t.an_empty p))) ts rest
  one_left_out_claim p xs ts rest c q w fs = c q w fs ▸ comma_after p q w xs rest fs

  argument_claim : (e : Tree) (ts rest : List Mark) → Claim (expression 13 e) ts rest → Claim (g.argument e) ts rest
  unfolding after
  argument_claim e ts [] c p w done fs h = absurd h
  argument_claim e ts (t ∷ rest) c p w done fs h =
      let m = member_ends t.spot t.lexeme (grown e) p w done fs h in
      let read : Same (go ts st.Operand (f.Args p w done ∷ fs)) (go (t ∷ rest) (st.Listed (grown e)) (f.Args p w done ∷ fs)) =
      c.1 (f.Args p w done ∷ fs) (omega arith) tt m.0 ▸ same_step t rest (st.Whole (grown e)) (st.Listed (grown e)) (f.Args p w done ∷ fs) (f.Args p w done ∷ fs) (omega arith) m.1 in
      (argument_starts ts (f.Args p w done ∷ fs) c.0 ▸ read, first_argument_starts ts (f.Args p w done ∷ fs) c.0 ▸ read)

  -- ---- lists

  one_member : (p : Spot) (xs : Trees) (ys : Subtrees) (x : Tree) (mid rest : List Mark) (fs : List Frame) → Claim (member x) mid rest → Same (go mid (expects xs) (f.List p ys ∷ fs)) (go rest (st.Listed (grown x)) (f.List p ys ∷ fs))
  one_member p none ys x mid rest fs d = (d (f.List p ys ∷ fs)).1
  one_member p (more xs y) ys x mid rest fs d = (d (f.List p ys ∷ fs)).0

  members_then : (p : Spot) (xs : Trees) (x : Tree) (ts mid rest : List Mark) (fs : List Frame) → Claim (members xs) ts mid → Claim (member x) mid rest
      → Same (go ts st.FirstElement (f.List p no_subtrees ∷ fs)) (go rest (st.Listed (grown x)) (f.List p (grown_all xs) ∷ fs))
  members_then p xs x ts mid rest fs c d = c p fs ▸ one_member p xs (grown_all xs) x mid rest fs d

  pub list_opens : (p : Spot) (ts : List Mark) (fs : List Frame) (y : Answer) → Same (go ts st.FirstElement (f.List p no_subtrees ∷ fs)) y
      → Same (go (sign p s.LeftBrace ∷ ts) st.Argument fs) y × Same (go (sign p s.LeftBrace ∷ ts) st.FirstArgument fs) y × Same (go (sign p s.LeftBrace ∷ ts) st.Element fs) y × Same (go (sign p s.LeftBrace ∷ ts) st.FirstElement fs) y
  unfolding argument first_argument element first_element
  list_opens p ts fs y e = (
    stepped (sign p s.LeftBrace) ts st.Argument st.FirstElement fs (f.List p no_subtrees ∷ fs) refl ▸ e,
    stepped (sign p s.LeftBrace) ts st.FirstArgument st.FirstElement fs (f.List p no_subtrees ∷ fs) refl ▸ e,
    stepped (sign p s.LeftBrace) ts st.Element st.FirstElement fs (f.List p no_subtrees ∷ fs) refl ▸ e,
    stepped (sign p s.LeftBrace) ts st.FirstElement st.FirstElement fs (f.List p no_subtrees ∷ fs) refl ▸ e,
  )

  empty_list_claim : (p q : Spot) (rest : List Mark) → Claim (brace_list (t.a_list p none)) (sign p s.LeftBrace ∷ sign q s.RightBrace ∷ rest) rest
  unfolding first_element
  empty_list_claim p q rest fs =
      let e = stepped (sign q s.RightBrace) rest st.FirstElement (st.Listed (grown (t.a_list p none))) (f.List p no_subtrees ∷ fs) fs refl in
      list_opens p (sign q s.RightBrace ∷ rest) fs (go rest (st.Listed (grown (t.a_list p none))) fs) e

  list_claim : (p q : Spot) (xs : Trees) (x : Tree) (ts mid rest : List Mark) → Claim (members xs) ts mid → Claim (member x) mid (sign q s.RightBrace ∷ rest)
      → Claim (brace_list (t.a_list p (more xs x))) (sign p s.LeftBrace ∷ ts) rest
  unfolding listed
  list_claim p q xs x ts mid rest c d fs =
      let e = members_then p xs x ts mid (sign q s.RightBrace ∷ rest) fs c d ▸ stepped (sign q s.RightBrace) rest (st.Listed (grown x)) (st.Listed (grown (t.a_list p (more xs x)))) (f.List p (grown_all xs) ∷ fs) fs refl in
      list_opens p ts fs (go rest (st.Listed (grown (t.a_list p (more xs x)))) fs) e

  more_members_claim : (p : Spot) (xs : Trees) (x : Tree) (ts mid rest : List Mark) → Claim (members xs) ts mid → Claim (member x) mid (sign p s.Comma ∷ rest) → Claim (members (more xs x)) ts rest
  unfolding listed
  more_members_claim p xs x ts mid rest c d q fs =
      members_then q xs x ts mid (sign p s.Comma ∷ rest) fs c d ▸ stepped (sign p s.Comma) rest (st.Listed (grown x)) st.Element (f.List q (grown_all xs) ∷ fs) (f.List q (grown_all (more xs x)) ∷ fs) refl

  word_member_claim : (p : Spot) (w : List ℕ) (rest : List Mark) → Claim (member (t.an_item p w absent absent)) (word p false w ∷ rest) rest
  unfolding element first_element
  word_member_claim p w rest fs = (stepped (word p false w) rest st.Element (st.Listed (item p w None None)) fs fs refl, stepped (word p false w) rest st.FirstElement (st.Listed (item p w None None)) fs fs refl)

  -- ---- bodies

  pub body_opens : (p q : Spot) (w : List ℕ) (args : TreeGroup) (ts : List Mark) (fs : List Frame) → Same (go (sign p s.LeftBrace ∷ ts) (named q w args) fs) (go ts st.Sequence (f.Body q w (grown_in args) no_subtrees ∷ fs))
  unfolding m.word m.called
  body_opens p q w absent ts fs = stepped (sign p s.LeftBrace) ts (st.Word q w) st.Sequence fs (f.Body q w None no_subtrees ∷ fs) refl
  body_opens p q w (t.given xs) ts fs = stepped (sign p s.LeftBrace) ts (st.Called q w (grown_all xs)) st.Sequence fs (f.Body q w (Some (grown_all xs)) no_subtrees ∷ fs) refl

  body_closes : (p q : Spot) (w : List ℕ) (args : TreeGroup) (done : Trees) (last : Option Tree) (rest : List Mark) (fs : List Frame)
      → Same (goes_on (sign p s.RightBrace ∷ rest) (f.Body q w (grown_in args) (grown_all done)) fs last) (go rest (st.Whole (grown (t.an_item q w args (t.given (all done last))))) fs)
  unfolding sequence after settle
  body_closes p q w args done None rest fs = stepped (sign p s.RightBrace) rest st.Sequence (st.Whole (grown (t.an_item q w args (t.given done)))) (f.Body q w (grown_in args) (grown_all done) ∷ fs) fs refl
  body_closes p q w args done (Some e) rest fs =
      stepped (sign p s.RightBrace) rest (st.Whole (grown e)) (st.Whole (grown (t.an_item q w args (t.given (more done e))))) (f.Body q w (grown_in args) (grown_all done) ∷ fs) fs refl

  body_claim : (p q : Spot) (done : Trees) (last : Option Tree) (ts rest : List Mark) → Claim (row_of 13 done last) ts (sign q s.RightBrace ∷ rest)
      → Claim (body (t.given (all done last))) (sign p s.LeftBrace ∷ ts) rest
  body_claim p q done last ts rest c at' w args fs =
      body_opens p at' w args ts fs ▸ c (of_body at' w (grown_in args)) fs (follows s.RightBrace q last rest (ends_all q rest).2) ▸ body_closes q at' w args done last rest fs

  comma_claim : (p : Spot) (done : Trees) (last : Option Tree) (ts rest : List Mark) → Claim (row_of 13 done last) ts (sign p s.Comma ∷ rest) → Claim (row_of 13 (more (all done last) (t.a_comma p)) None) ts rest
  unfolding sequence after settle
  comma_claim p done None ts rest c (of_body q w args) fs h =
      c (of_body q w args) fs tt ▸ stepped (sign p s.Comma) rest st.Sequence st.Sequence (f.Body q w args (grown_all done) ∷ fs) (f.Body q w args (grown_all (more done (t.a_comma p))) ∷ fs) refl
  comma_claim p done (Some e) ts rest c (of_body q w args) fs h =
      c (of_body q w args) fs (ends_all p rest).3 ▸ stepped (sign p s.Comma) rest (st.Whole (grown e)) st.Sequence (f.Body q w args (grown_all done) ∷ fs) (f.Body q w args (grown_all (more (more done e) (t.a_comma p))) ∷ fs) refl

  semicolon_claim : (p : Spot) (done : Trees) (last : Option Tree) (ts rest : List Mark) → Claim (row_of 13 done last) ts (sign p s.Semicolon ∷ rest) → Claim (row_of 13 (more (all done last) (t.a_semicolon p)) None) ts rest
  unfolding sequence after settle
  semicolon_claim p done None ts rest c (of_body q w args) fs h =
      c (of_body q w args) fs tt ▸ stepped (sign p s.Semicolon) rest st.Sequence st.Sequence (f.Body q w args (grown_all done) ∷ fs) (f.Body q w args (grown_all (more done (t.a_semicolon p))) ∷ fs) refl
  semicolon_claim p done (Some e) ts rest c (of_body q w args) fs h =
      c (of_body q w args) fs (ends_all p rest).4 ▸ stepped (sign p s.Semicolon) rest (st.Whole (grown e)) st.Sequence (f.Body q w args (grown_all done) ∷ fs) (f.Body q w args (grown_all (more (more done e) (t.a_semicolon p))) ∷ fs) refl

  pub go_on : (n : ℕ) (h : Holder n) (done : Trees) (last : Option Tree) (ts : List Mark) (fs : List Frame) → Starts ts → MayFollow last ts
      → Follows last ts × Same (goes_on ts (holds h (grown_all done)) fs last) (go ts st.Operand (holds h (grown_all (all done last)) ∷ fs))
  unfolding after
  go_on n h row None ts fs b c = (tt, sequence_starts ts (holds h (grown_all row) ∷ fs) b)
  go_on n h row (Some e) [] fs b c = absurd b
  go_on n h done (Some e) (t ∷ ts) fs b c =
      let k = next_after n h t.spot t.lexeme (grown e) (grown_all done) fs b c in (
        k.0,
        same_step t ts (st.Whole (grown e)) st.Sequence (holds h (grown_all done) ∷ fs) (holds h (grown_all (more done e)) ∷ fs) (holds_depth n h (grown_all done) (grown_all (more done e)) fs) k.1
            ▸ sequence_starts (t ∷ ts) (holds h (grown_all (more done e)) ∷ fs) b,
      )

  one_more_claim : (n : ℕ) (done : Trees) (last : Option Tree) (e : Tree) (ts mid rest : List Mark) → Claim (row_of n done last) ts mid → MayFollow last mid → Claim (expression n e) mid rest
      → Claim (row_of n (all done last) (Some e)) ts rest
  one_more_claim n done last e ts mid rest c may d h fs ends =
      let k = go_on n h done last mid fs d.0 may in
      let facts = holder_facts n h (grown_all (all done last)) fs in
      c h fs k.0 ▸ k.1 ▸ d.1 (holds h (grown_all (all done last)) ∷ fs) facts.1 facts.2 (Ends-less n 13 rest facts.0 ends)

  -- ---- each phrase

  pub complete : {p : Phrase} {ts rest : List Mark} → Reads p ts rest → Claim p ts rest
  complete (g.a_number {p = p} {n = n} {rest = rest}) = number_claim p n rest
  complete (g.a_text {p = p} {w = w} {rest = rest}) = text_claim p w rest
  complete (g.an_item {p = p} {path = path} {w = w} {args = args} {inner = inner} {ms = ts} {mid = mid} {rest = rest} a b) = item_claim p path w args inner ts mid rest (complete a) (complete b)
  complete (g.in_brackets {p = p} {q = q} {e = e} {ms = ts} {rest = rest} a) = bracket_claim p q e ts rest (complete a)
  complete (g.an_index {p = p} {q = q} {a = x} {e = e} {ms = ts} {mid = mid} {rest = rest} a b) = index_claim p q x e ts mid rest (complete a) (complete b)
  complete (g.a_postfix {p = p} {o = o} {a = x} {ms = ts} {rest = rest} a) = postfix_claim p o x ts rest (complete a)
  complete (g.a_prefix {p = p} {o = o} {a = x} {ms = ts} {rest = rest} a) = prefix_claim p o x ts rest (complete a)
  complete (g.an_infix {p = p} {i = i} {o = o} {a = y} {e = e} {ms = ts} {mid = mid} {rest = rest} is a b) = infix_claim p i o y e ts mid rest is (complete a) (complete b)
  complete (g.tighter {m = m} {n = n} {e = e} {ms = ts} {rest = rest} h a) = tighter_claim m n e ts rest h (complete a)
  complete g.no_arguments = λ p w fs. same refl
  complete (g.some_arguments {p = p} {xs = xs} {ms = ts} {rest = rest} a) = some_arguments_claim p xs ts rest (complete a)
  complete (g.none_given {p = p} {rest = rest}) = none_given_claim p rest
  complete (g.last_given {p = p} {xs = xs} {x = x} {ms = ts} {mid = mid} {rest = rest} a b) = last_given_claim p xs x ts mid rest (complete a) (complete b)
  complete (g.last_left_out {p = p} {xs = xs} {x = x} {ms = ts} {rest = rest} a) = last_left_out_claim p xs x ts rest (complete a)
  complete g.none_before = λ p w fs. same refl
  complete (g.one_before {p = p} {xs = xs} {x = x} {ms = ts} {mid = mid} {rest = rest} a b) = one_before_claim p xs x ts mid rest (complete a) (complete b)
  complete (g.one_left_out {p = p} {xs = xs} {ms = ts} {rest = rest} a) = one_left_out_claim p xs ts rest (complete a)
  complete (g.an_argument {e = e} {ms = ts} {rest = rest} a) = argument_claim e ts rest (complete a)
  complete (g.a_list_argument a) = λ p w done fs h. ((complete a (f.Args p w done ∷ fs)).0, (complete a (f.Args p w done ∷ fs)).1)
  complete (g.empty_list {p = p} {q = q} {rest = rest}) = empty_list_claim p q rest
  complete (g.a_list {p = p} {q = q} {xs = xs} {x = x} {ms = ts} {mid = mid} {rest = rest} a b) = list_claim p q xs x ts mid rest (complete a) (complete b)
  complete g.no_members = λ p fs. same refl
  complete (g.more_members {p = p} {xs = xs} {x = x} {ms = ts} {mid = mid} {rest = rest} a b) = more_members_claim p xs x ts mid rest (complete a) (complete b)
  complete (g.a_word {p = p} {w = w} {rest = rest}) = word_member_claim p w rest
  complete (g.an_inner_list a) = λ fs. ((complete a fs).2, (complete a fs).3)
  complete g.no_body = λ p w args fs. same refl
  complete (g.a_body {p = p} {q = q} {done = done} {last = last} {ms = ts} {rest = rest} a) = body_claim p q done last ts rest (complete a)
  complete g.an_empty_row = λ h fs _. same refl
  complete (g.a_comma {p = p} {done = done} {last = last} {ms = ts} {rest = rest} a) = comma_claim p done last ts rest (complete a)
  complete (g.a_semicolon {p = p} {done = done} {last = last} {ms = ts} {rest = rest} a) = semicolon_claim p done last ts rest (complete a)
  complete (g.one_more {n = n} {done = done} {last = last} {e = e} {ms = ts} {mid = mid} {rest = rest} a may b) = one_more_claim n done last e ts mid rest (complete a) may (complete b)

  -- ---- the whole source

  ends_source : (done : Trees) (last : Option Tree) → Same (goes_on [] (f.Unit (grown_all done)) [] last) (source (grown_all (all done last)))
  unfolding walk finish_whole settle guarded
  ends_source done None = guarded_go (ok 0) (source (grown_all done)) (source (grown_all done)) [] refl
  ends_source done (Some e) = guarded_go (ok 0) (source (grown_all (more done e))) (source (grown_all (more done e))) [] refl

  pub spelled_goes : (trees : Trees) (ts : List Mark) → IsSource trees ts → Same (go ts st.Sequence start) (source (grown_all trees))
  spelled_goes trees ts h = complete h.row of_source [] (follows_end h.last) ▸ ends_source h.done h.last ▸ same (ap (λ (xs : Trees). source (grown_all xs)) (sym h.are))

-- ---- with nothing too deep

never_by : (t : Mark) (ts : List Mark) (c : Option Config) (rest : List Mark) → then_run t ts c ≡ deep rest → ((a : ParserState) (fs : List Frame) → run ts a fs ≡ deep rest → ⊥) → ⊥
unfolding then_run
never_by t ts None rest e others = cc
never_by t ts (Some c) rest e others = others c.0 c.1 e

abbrev pub NotDeep : Answer → Type 0
NotDeep (deep rest) = ⊥
NotDeep _ = Unit {0}

close_never : (e : Subtree) (fs : List Frame) → NotDeep (close_source e fs)
close_never e (f.Unit done ∷ []) = tt
close_never e _ = tt

pub finish_never : (a : ParserState) (fs : List Frame) → NotDeep (finish a fs)
unfolding finish_whole
finish_never st.Sequence (f.Unit done ∷ []) = tt
finish_never (st.Word p w) fs = close_never (settle 13 (item p w None None) fs).0 (settle 13 (item p w None None) fs).1
finish_never (st.Called p w args) fs = close_never (settle 13 (item p w (Some args) None) fs).0 (settle 13 (item p w (Some args) None) fs).1
finish_never (st.Whole e) fs = close_never (settle 13 e fs).0 (settle 13 e fs).1
finish_never _ _ = tt

never : (ts : List Mark) (a : ParserState) (fs : List Frame) (rest : List Mark) → run ts a fs ≡ deep rest → ⊥
unfolding walk then_run
never [] a fs rest e = subst NotDeep e (finish_never a fs)
never (t ∷ ts) a fs rest e = never_by t ts (step t a fs) rest e (λ b gs h. never ts b gs rest h)

any_mono : (m n : ℕ) → m ≤ n → unlimited n ≡ true → unlimited m ≡ true
any_mono m n h e = refl

run_same : (ts : List Mark) (a : ParserState) (fs : List Frame) (y : Answer) → Same (run ts a fs) y → run ts a fs ≡ y
run_same ts a fs y (same e) = e
run_same ts a fs y (cut d) = absurd (never ts a fs d.rest d.is)

pub run_item_done : (p : Spot) (w : List ℕ) (args inner : TreeGroup) (rest : List Mark) (fs : List Frame) → Ends 0 rest → run rest (ended p w args inner) fs ≡ run rest (st.Whole (grown (t.an_item p w args inner))) fs
run_item_done p w args inner rest fs h = run_same rest (ended p w args inner) fs (run rest (st.Whole (grown (t.an_item p w args inner))) fs) (item_done unlimited any_mono p w args inner rest fs h)

pub spelled_is_read : (trees : Trees) (ts : List Mark) → IsSource trees ts → run ts st.Sequence start ≡ source (grown_all trees)
spelled_is_read trees ts h = run_same ts st.Sequence start (source (grown_all trees)) (spelled_goes unlimited any_mono trees ts h)
