-- What is read is spelled so.
use Rattle.std.proofs.Common.{◌≡◌, ℕ, suc, ◌-◌, ◌≤◌, Bool, true, false, List, [], ◌∷◌, Option, Some, None, refl, subst, arith}
use Rattle.std.proofs.lemmas.Bool.{leb-true}
use Rattle.std.specs.Prelude.{nat_le}
use Rattle.asl_syntax.specs.declared.sign.Sign.{Sign}
use Rattle.asl_syntax.specs.declared.sign.Sign.TheVariants as s
use Rattle.asl_syntax.specs.declared.sign.Strength.{Strength}
use Rattle.asl_syntax.specs.declared.mark.Spot.{Spot}
use Rattle.asl_syntax.specs.declared.mark.Lexeme.{Lexeme}
use Rattle.asl_syntax.specs.declared.mark.Lexeme.TheVariants as l
use Rattle.asl_syntax.specs.declared.mark.Mark.{Mark}
use Rattle.asl_syntax.specs.declared.raw.Infix.{Infix}
use Rattle.asl_syntax.specs.declared.raw.Infix.TheVariants as op
use Rattle.asl_syntax.specs.declared.subtree.Subtree.{Subtree}
use Rattle.asl_syntax.specs.declared.subtree.Subtrees.{Subtrees}
use Rattle.asl_syntax.specs.declared.frame.Frame.{Frame}
use Rattle.asl_syntax.specs.declared.frame.Frame.TheVariants as f
use Rattle.asl_parser.specs.declared.state.ParserState.{ParserState}
use Rattle.asl_parser.specs.declared.state.ParserState.TheVariants as st
use Rattle.asl_syntax.specs.Signs.{strength}
use Rattle.asl_syntax.specs.Trees.{Tree, Trees, TreeGroup, none, more, absent}
use Rattle.asl_syntax.specs.Trees as t
use Rattle.asl_syntax.specs.Grow.{no_subtrees, joined, applied, item, grown, grown_all}
use Rattle.asl_syntax.specs.Frames.{depth, start, room}
use Rattle.asl_parser.specs.Machine.{Config, Answer, source, stop, deep, walk, unlimited, within, allow, settle, begin, begin_by, begin_sign, operator, sequence, sequence_by, sequence_sign, listed, listed_by, enclosed, enclosed_by}
use Rattle.asl_parser.specs.Machine.{after, after_by, after_lexeme, word_by, called_by, argument, argument_by, first_argument, first_argument_by, element, element_by, first_element, first_element_by, step, run, finish, finish_whole, close_source}
use Rattle.asl_parser.specs.Machine as m
use Rattle.asl_parser.specs.Grammar.{at, sign, word, Phrase, expression, arguments, body, given, before, brace_list, members, member, sequence as row_of, all, is_paren, opens_paren, MayFollow, Reads, IsSource}
use Rattle.asl_parser.specs.Grammar as g
use Rattle.asl_parser.specs.Front.{LeavesOpen, TakesList, TakesExpression, Suits, TakesElement, TakesArgument, FirstArgument, FirstElement, NextArgument, Ready, ReadySubtree, ReadyMember, Named, CalledWord, IsFrontIn}
use Rattle.asl_parser.specs.Front as h
use Rattle.asl_parser.proofs.Ends.{then_run}
use Rattle.asl_parser.proofs.Complete.{is_strength}

abbrev pub Keeps : Option Config → List Mark → List Mark → Type 0
Keeps None ts rest = Unit {0}
Keeps (Some c) ts rest = IsFrontIn c.0 c.1 ts rest

keeps_by : (b : Bool) (c : Config) (ts rest : List Mark) → (b ≡ true → IsFrontIn c.0 c.1 ts rest) → Keeps (allow b c) ts rest
keeps_by true c ts rest h = h refl
keeps_by false c ts rest h = tt

keeps_allowed : (n : ℕ) (fs : List Frame) (c : Config) (ts rest : List Mark) → (n ≤ room fs → IsFrontIn c.0 c.1 ts rest) → Keeps (allow (nat_le n (room fs)) c) ts rest
keeps_allowed n fs c ts rest h = keeps_by (nat_le n (room fs)) c ts rest (λ e. h (leb-true n (room fs) e))

ready_subtree : (n : ℕ) (e : Tree) (fs : List Frame) (ts rest : List Mark) → Ready n e fs ts rest → ReadySubtree n (grown e) fs ts rest
ready_subtree n e fs ts rest ready = record { tree = e; is = refl; ready = ready }

-- ---- an expression begins

begin_sign_keeps : (p : Spot) (x : Sign) (fs : List Frame) (ts rest : List Mark) → LeavesOpen fs ts (sign p x ∷ rest) → Keeps (begin_sign p x fs) ts rest
begin_sign_keeps p s.LeftParen fs ts rest leaves = keeps_allowed 1 fs (st.Operand, f.Bracket ∷ fs) ts rest (λ low. (h.in_bracket low leaves, tt))
begin_sign_keeps p (s.Prefix o) fs ts rest leaves = keeps_allowed 2 fs (st.Operand, f.Pending 2 2 p o no_subtrees ∷ fs) ts rest (λ low. (h.in_prefix low leaves, tt))
begin_sign_keeps p _ fs ts rest leaves = tt

begin_keeps : (p : Spot) (x : Lexeme) (fs : List Frame) (ts rest : List Mark) → LeavesOpen fs ts (at p x ∷ rest) → TakesExpression fs → Keeps (begin_by p x fs) ts rest
begin_keeps p (l.Word path w) fs ts rest leaves takes = record { path = path; leaves = leaves; takes = takes }
begin_keeps p (l.Number n) fs ts rest leaves takes = keeps_allowed 1 fs (st.Whole (grown (t.a_number p n)), fs) ts rest (λ low.
    ready_subtree 1 (t.a_number p n) fs ts rest (record { mid = at p (l.Number n) ∷ rest; level = 1; leaves = leaves; reads = g.a_number; low = omega arith; fits = low; takes = takes }))
begin_keeps p (l.Text w) fs ts rest leaves takes = keeps_allowed 1 fs (st.Whole (grown (t.a_text p w)), fs) ts rest (λ low.
    ready_subtree 1 (t.a_text p w) fs ts rest (record { mid = at p (l.Text w) ∷ rest; level = 1; leaves = leaves; reads = g.a_text; low = omega arith; fits = low; takes = takes }))
begin_keeps p (l.Sign x) fs ts rest leaves takes = begin_sign_keeps p x fs ts rest leaves
begin_keeps p l.Other fs ts rest leaves takes = tt

-- ---- what stands in a row

row_keeps : (p : Spot) (x : Lexeme) (fs : List Frame) (ts rest : List Mark) → LeavesOpen fs ts (at p x ∷ rest) → TakesExpression fs → Keeps (sequence_by p x fs) ts rest
row_keeps p (l.Sign s.RightBrace) (f.Body q w args done ∷ fs) ts rest (h.in_body {path = path} {args = group} {done = front} {last = last} {mid = mid} inner leaves asked row may) takes =
    ready_subtree 1 (t.an_item q w group (t.given (all front last))) fs ts rest
    (record { mid = word q path w ∷ mid; level = 0; leaves = leaves; reads = g.an_item asked (g.a_body row); low = omega arith; fits = omega arith; takes = inner })
row_keeps p (l.Sign s.Comma) (f.Body q w args done ∷ fs) ts rest (h.in_body inner leaves asked row may) takes = (h.in_body inner leaves asked (g.a_comma row) tt, tt)
row_keeps p (l.Sign s.Semicolon) (f.Body q w args done ∷ fs) ts rest (h.in_body inner leaves asked row may) takes = (h.in_body inner leaves asked (g.a_semicolon row) tt, tt)
row_keeps p (l.Sign x) fs ts rest leaves takes = begin_sign_keeps p x fs ts rest leaves
row_keeps p (l.Word path w) fs ts rest leaves takes = begin_keeps p (l.Word path w) fs ts rest leaves takes
row_keeps p (l.Number n) fs ts rest leaves takes = begin_keeps p (l.Number n) fs ts rest leaves takes
row_keeps p (l.Text w) fs ts rest leaves takes = begin_keeps p (l.Text w) fs ts rest leaves takes
row_keeps p l.Other fs ts rest leaves takes = tt

sequence_keeps : (p : Spot) (x : Lexeme) (fs : List Frame) (ts rest : List Mark) → LeavesOpen fs ts (at p x ∷ rest) → TakesExpression fs → Keeps (sequence p x fs) ts rest
unfolding sequence
sequence_keeps p x fs ts rest leaves takes = row_keeps p x fs ts rest leaves takes

-- ---- what stands in arguments and lists

args_keeps : (p q : Spot) (x : Lexeme) (w : List ℕ) (done : Subtrees) (fs : List Frame) (e : Tree) (ts mid rest : List Mark) → LeavesOpen (f.Args q w done ∷ fs) ts mid → Reads (g.argument e) mid (at p x ∷ rest)
    → Keeps (m.args_listed (grown e) x q w done fs) ts rest
args_keeps p q (l.Sign s.Comma) w done fs e ts mid rest (h.in_arguments inner leaves front) reads = h.next_argument inner leaves (g.one_before front reads)
args_keeps p q (l.Sign s.RightParen) w done fs e ts mid rest (h.in_arguments {q = r} {path = path} {done = trees} {mid = begun} inner leaves front) reads =
    record { trees = more trees e; are = refl; path = path; mid = sign r s.LeftParen ∷ begun; leaves = leaves; reads = g.some_arguments (g.last_given front reads); takes = inner }
args_keeps p q _ w done fs e ts mid rest leaves reads = tt

list_suits : (e : Tree) (fs : List Frame) (ts mid rest : List Mark) → TakesList fs → LeavesOpen fs ts mid → Reads (brace_list e) mid rest → ReadyMember (grown e) fs ts rest
list_suits e (f.Args q w done ∷ fs) ts mid rest takes leaves reads = record { tree = e; is = refl; mid = mid; leaves = leaves; suits = g.a_list_argument reads }
list_suits e (f.List q done ∷ fs) ts mid rest takes leaves reads = record { tree = e; is = refl; mid = mid; leaves = leaves; suits = g.an_inner_list reads }
list_suits e _ ts mid rest takes leaves reads = absurd takes

list_keeps : (p q : Spot) (x : Lexeme) (done : Subtrees) (fs : List Frame) (e : Tree) (ts mid rest : List Mark) → LeavesOpen (f.List q done ∷ fs) ts mid → Reads (member e) mid (at p x ∷ rest)
    → Keeps (m.list_listed (grown e) x q done fs) ts rest
list_keeps p q (l.Sign s.Comma) done fs e ts mid rest (h.in_list takes leaves others) reads = (h.in_list takes leaves (g.more_members others reads), tt)
list_keeps p q (l.Sign s.RightBrace) done fs e ts mid rest (h.in_list {done = trees} {mid = begun} takes leaves others) reads =
    list_suits (t.a_list q (more trees e)) fs ts (sign q s.LeftBrace ∷ begun) rest takes leaves (g.a_list others reads)
list_keeps p q _ done fs e ts mid rest leaves reads = tt

listed_by_keeps : (p : Spot) (x : Lexeme) (e : Tree) (fs : List Frame) (ts mid rest : List Mark) → LeavesOpen fs ts mid → Suits fs e mid (at p x ∷ rest) → Keeps (listed_by (grown e) x fs) ts rest
listed_by_keeps p x e (f.Args q w done ∷ fs) ts mid rest leaves suits = args_keeps p q x w done fs e ts mid rest leaves suits
listed_by_keeps p x e (f.List q done ∷ fs) ts mid rest leaves suits = list_keeps p q x done fs e ts mid rest leaves suits
listed_by_keeps p x e _ ts mid rest leaves suits = absurd suits

listed_keeps : (p : Spot) (x : Lexeme) (e : Tree) (fs : List Frame) (ts mid rest : List Mark) → LeavesOpen fs ts mid → Suits fs e mid (at p x ∷ rest) → Keeps (listed (grown e) x fs) ts rest
unfolding listed
listed_keeps p x e fs ts mid rest leaves suits = listed_by_keeps p x e fs ts mid rest leaves suits

element_keeps : (p : Spot) (x : Lexeme) (fs : List Frame) (ts rest : List Mark) → LeavesOpen fs ts (at p x ∷ rest) → TakesElement fs → Keeps (element_by p x fs) ts rest
element_keeps p (l.Word false w) (f.List q done ∷ fs) ts rest leaves takes =
    record { tree = t.an_item p w absent absent; is = refl; mid = word p false w ∷ rest; leaves = leaves; suits = g.a_word }
element_keeps p (l.Word true w) (f.List q done ∷ fs) ts rest leaves takes = tt
element_keeps p (l.Sign s.LeftBrace) (f.List q done ∷ fs) ts rest leaves takes = h.first_element tt leaves
element_keeps p (l.Sign _) (f.List q done ∷ fs) ts rest leaves takes = tt
element_keeps p (l.Number n) (f.List q done ∷ fs) ts rest leaves takes = tt
element_keeps p (l.Text w) (f.List q done ∷ fs) ts rest leaves takes = tt
element_keeps p l.Other (f.List q done ∷ fs) ts rest leaves takes = tt
element_keeps p x _ ts rest leaves takes = absurd takes

first_element_keeps : (p : Spot) (x : Lexeme) (fs : List Frame) (ts rest : List Mark) → FirstElement fs ts (at p x ∷ rest) → Keeps (first_element_by p x fs) ts rest
unfolding element
first_element_keeps p (l.Sign s.RightBrace) fs ts rest (h.first_element {p = q} {fs = outer} takes leaves) =
    list_suits (t.a_list q none) outer ts (sign q s.LeftBrace ∷ sign p s.RightBrace ∷ rest) rest takes leaves g.empty_list
first_element_keeps p (l.Sign s.LeftBrace) fs ts rest (h.first_element takes leaves) = h.first_element tt (h.in_list takes leaves g.no_members)
first_element_keeps p (l.Sign _) fs ts rest (h.first_element takes leaves) = tt
first_element_keeps p (l.Word false w) fs ts rest (h.first_element takes leaves) =
    record { tree = t.an_item p w absent absent; is = refl; mid = word p false w ∷ rest; leaves = h.in_list takes leaves g.no_members; suits = g.a_word }
first_element_keeps p (l.Word true w) fs ts rest (h.first_element takes leaves) = tt
first_element_keeps p (l.Number n) fs ts rest (h.first_element takes leaves) = tt
first_element_keeps p (l.Text w) fs ts rest (h.first_element takes leaves) = tt
first_element_keeps p l.Other fs ts rest (h.first_element takes leaves) = tt

argument_keeps : (p : Spot) (x : Lexeme) (fs : List Frame) (ts rest : List Mark) → NextArgument fs ts (at p x ∷ rest) → Keeps (argument_by p x fs) ts rest
argument_keeps p (l.Sign s.RightParen) fs ts rest (h.next_argument {q = r} {path = path} {done = trees} {x = y} {mid = begun} inner leaves front) =
    record { trees = more (more trees y) (t.an_empty p); are = refl; path = path; mid = sign r s.LeftParen ∷ begun; leaves = leaves; reads = g.some_arguments (g.last_left_out front); takes = inner }
argument_keeps p (l.Sign s.Comma) fs ts rest (h.next_argument inner leaves front) = h.next_argument inner leaves (g.one_left_out front)
argument_keeps p (l.Sign s.LeftBrace) fs ts rest (h.next_argument inner leaves front) = h.first_element tt (h.in_arguments inner leaves front)
argument_keeps p (l.Sign x) fs ts rest (h.next_argument inner leaves front) = begin_sign_keeps p x _ ts rest (h.in_arguments inner leaves front)
argument_keeps p (l.Word path v) fs ts rest (h.next_argument inner leaves front) = begin_keeps p (l.Word path v) _ ts rest (h.in_arguments inner leaves front) tt
argument_keeps p (l.Number n) fs ts rest (h.next_argument inner leaves front) = begin_keeps p (l.Number n) _ ts rest (h.in_arguments inner leaves front) tt
argument_keeps p (l.Text v) fs ts rest (h.next_argument inner leaves front) = begin_keeps p (l.Text v) _ ts rest (h.in_arguments inner leaves front) tt
argument_keeps p l.Other fs ts rest (h.next_argument inner leaves front) = tt

first_argument_keeps : (p : Spot) (x : Lexeme) (fs : List Frame) (ts rest : List Mark) → FirstArgument fs ts (at p x ∷ rest) → Keeps (first_argument_by p x fs) ts rest
unfolding argument
first_argument_keeps p (l.Sign s.RightParen) fs ts rest (h.first_argument {q = r} {path = path} inner leaves) =
    record { trees = none; are = refl; path = path; mid = sign r s.LeftParen ∷ sign p s.RightParen ∷ rest; leaves = leaves; reads = g.some_arguments g.none_given; takes = inner }
first_argument_keeps p (l.Sign s.Comma) fs ts rest (h.first_argument inner leaves) = h.next_argument {done = none} inner leaves (g.one_left_out g.none_before)
first_argument_keeps p (l.Sign s.LeftBrace) fs ts rest (h.first_argument inner leaves) = h.first_element tt (h.in_arguments inner leaves g.none_before)
first_argument_keeps p (l.Sign x) fs ts rest (h.first_argument inner leaves) = begin_sign_keeps p x _ ts rest (h.in_arguments inner leaves g.none_before)
first_argument_keeps p (l.Word path v) fs ts rest (h.first_argument inner leaves) = begin_keeps p (l.Word path v) _ ts rest (h.in_arguments inner leaves g.none_before) tt
first_argument_keeps p (l.Number n) fs ts rest (h.first_argument inner leaves) = begin_keeps p (l.Number n) _ ts rest (h.in_arguments inner leaves g.none_before) tt
first_argument_keeps p (l.Text v) fs ts rest (h.first_argument inner leaves) = begin_keeps p (l.Text v) _ ts rest (h.in_arguments inner leaves g.none_before) tt
first_argument_keeps p l.Other fs ts rest (h.first_argument inner leaves) = tt

-- ---- operators are applied

settle_by : (b : Bool) (k level most : ℕ) (p : Spot) (i : Infix) (xs : Subtrees) (e : Subtree) (fs : List Frame) (ts rest : List Mark)
    → (nat_le level k ≡ true → ReadySubtree k (settle k (applied p i xs e) fs).0 (settle k (applied p i xs e) fs).1 ts rest)
    → ReadySubtree k e (f.Pending level most p i xs ∷ fs) ts rest → nat_le level k ≡ b
    → ReadySubtree k (settle k e (f.Pending level most p i xs ∷ fs)).0 (settle k e (f.Pending level most p i xs ∷ fs)).1 ts rest
unfolding settle
settle_by true k level most p i xs e fs ts rest others ready is = rw is (others is)
settle_by false k level most p i xs e fs ts rest others ready is = rw is ready

pub room_takes : (n : ℕ) (fs : List Frame) → suc n ≤ room fs → TakesExpression fs
room_takes n (f.List p done ∷ fs) h = absurd (omega arith)
room_takes n (f.Unit done ∷ fs) h = tt
room_takes n [] h = tt
room_takes n (_ ∷ fs) h = tt

settle_keeps : {fs : List Frame} {ts mid : List Mark} → LeavesOpen fs ts mid → (k n : ℕ) (e : Tree) (rest : List Mark) → Reads (expression n e) mid rest → n ≤ k → n ≤ room fs → TakesExpression fs
    → ReadySubtree k (settle k (grown e) fs).0 (settle k (grown e) fs).1 ts rest
unfolding settle
settle_keeps (h.in_prefix {p = p} {o = o} {fs = fs} {ms = ts} {rest = mid} low leaves) k n e rest reads small fits takes =
    settle_by (nat_le 2 k) k 2 2 p o no_subtrees (grown e) fs ts rest
    (λ is. settle_keeps leaves k 2 (t.a_prefix p o e) rest (g.a_prefix (g.tighter fits reads)) (leb-true 2 k is) low (room_takes 1 fs low))
    (ready_subtree k e (f.Pending 2 2 p o no_subtrees ∷ fs) ts rest (record { mid = mid; level = n; leaves = h.in_prefix low leaves; reads = reads; low = small; fits = fits; takes = tt })) refl
settle_keeps (h.in_infix {p = p} {i = i} {o = o} {a = a} {fs = fs} {ms = ts} {mid = begun} {rest = mid} is low leaves left) k n e rest reads small fits takes =
    let some : suc (o.level - 1) ≤ room fs = omega (arith, (is_strength i o is).low) in
    let xs = joined no_subtrees (grown a) in
    settle_by (nat_le o.level k) k o.level o.room p i xs (grown e) fs ts rest
    (λ others. settle_keeps leaves k o.level (t.a_pair p i a e) rest (g.an_infix is left (g.tighter fits reads)) (leb-true o.level k others) low (room_takes (o.level - 1) fs some))
    (ready_subtree k e (f.Pending o.level o.room p i xs ∷ fs) ts rest (record { mid = mid; level = n; leaves = h.in_infix is low leaves left; reads = reads; low = small; fits = fits; takes = tt })) refl
settle_keeps (h.in_source {ms = ts} {rest = mid} row may) k n e rest reads small fits takes = ready_subtree k e _ ts rest (record { mid = mid; level = n; leaves = h.in_source row may; reads = reads; low = small; fits = fits; takes = takes })
settle_keeps (h.in_arguments {ms = ts} {rest = mid} a b c) k n e rest reads small fits takes = ready_subtree k e _ ts rest (record { mid = mid; level = n; leaves = h.in_arguments a b c; reads = reads; low = small; fits = fits; takes = takes })
settle_keeps (h.in_body {ms = ts} {rest = mid} a b c d i) k n e rest reads small fits takes = ready_subtree k e _ ts rest (record { mid = mid; level = n; leaves = h.in_body a b c d i; reads = reads; low = small; fits = fits; takes = takes })
settle_keeps (h.in_bracket {ms = ts} {rest = mid} a b) k n e rest reads small fits takes = ready_subtree k e _ ts rest (record { mid = mid; level = n; leaves = h.in_bracket a b; reads = reads; low = small; fits = fits; takes = takes })
settle_keeps (h.in_index {ms = ts} {rest = mid} a b c) k n e rest reads small fits takes = ready_subtree k e _ ts rest (record { mid = mid; level = n; leaves = h.in_index a b c; reads = reads; low = small; fits = fits; takes = takes })
settle_keeps (h.in_list {ms = ts} {rest = mid} a b c) k n e rest reads small fits takes = ready_subtree k e _ ts rest (record { mid = mid; level = n; leaves = h.in_list a b c; reads = reads; low = small; fits = fits; takes = takes })

-- ---- after an expression

bracket_keeps : (p : Spot) (x : Lexeme) (q : Spot) (n : ℕ) (e : Tree) (fs : List Frame) (ts mid rest : List Mark) → 1 ≤ room fs → LeavesOpen fs ts (sign q s.LeftParen ∷ mid) → Reads (expression n e) mid (at p x ∷ rest) → n ≤ 13
    → Keeps (m.close_bracket (grown e) x fs) ts rest
bracket_keeps p (l.Sign s.RightParen) q n e fs ts mid rest low leaves reads small =
    ready_subtree 1 e fs ts rest (record { mid = sign q s.LeftParen ∷ mid; level = 1; leaves = leaves; reads = g.in_brackets (g.tighter small reads); low = omega arith; fits = low; takes = room_takes 0 fs low })
bracket_keeps p _ q n e fs ts mid rest low leaves reads small = tt

index_keeps : (p : Spot) (x : Lexeme) (q : Spot) (n : ℕ) (a e : Tree) (fs : List Frame) (ts mid inner rest : List Mark) → 1 ≤ room fs → LeavesOpen fs ts mid → Reads (expression 1 a) mid (sign q s.LeftBracket ∷ inner)
    → Reads (expression n e) inner (at p x ∷ rest) → n ≤ 13 → Keeps (m.close_index q (grown a) (grown e) x fs) ts rest
index_keeps p (l.Sign s.RightBracket) q n a e fs ts mid inner rest low leaves left reads small =
    ready_subtree 1 (t.a_pair q op.Index a e) fs ts rest (record { mid = mid; level = 1; leaves = leaves; reads = g.an_index left (g.tighter small reads); low = omega arith; fits = low; takes = room_takes 0 fs low })
index_keeps p _ q n a e fs ts mid inner rest low leaves left reads small = tt

enclosed_keeps : {fs : List Frame} {ts mid : List Mark} → LeavesOpen fs ts mid → (p : Spot) (x : Lexeme) (n : ℕ) (e : Tree) (rest : List Mark) → is_paren x ≡ false → Reads (expression n e) mid (at p x ∷ rest) → n ≤ 13 → n ≤ room fs
    → Keeps (enclosed_by p x (grown e) fs) ts rest
enclosed_keeps (h.in_source {ms = ts} row may) p x n e rest free reads small fits =
    sequence_keeps p x _ ts rest (h.in_source (g.one_more row may (g.tighter fits reads)) free) tt
enclosed_keeps (h.in_body {ms = ts} inner leaves asked row may) p x n e rest free reads small fits =
    sequence_keeps p x _ ts rest (h.in_body inner leaves asked (g.one_more row may (g.tighter small reads)) free) tt
enclosed_keeps (h.in_arguments {p = q} {w = w} {done = done} {fs = fs} {ms = ts} {rest = mid} inner leaves front) p x n e rest free reads small fits =
    listed_keeps p x e (f.Args q w (grown_all done) ∷ fs) ts mid rest (h.in_arguments inner leaves front) (g.an_argument (g.tighter small reads))
enclosed_keeps (h.in_bracket {q = q} {fs = fs} {ms = ts} {rest = mid} low leaves) p x n e rest free reads small fits =
    bracket_keeps p x q n e fs ts mid rest low leaves reads small
enclosed_keeps (h.in_index {p = q} {a = a} {fs = fs} {ms = ts} {mid = mid} {rest = inner} low leaves left) p x n e rest free reads small fits =
    index_keeps p x q n a e fs ts mid inner rest low leaves left reads small
enclosed_keeps (h.in_prefix low leaves) p x n e rest free reads small fits = tt
enclosed_keeps (h.in_infix is low leaves left) p x n e rest free reads small fits = tt
enclosed_keeps (h.in_list takes leaves others) p x n e rest free reads small fits = tt

pull_low : (i : Infix) (o : Strength) → strength i ≡ Some o → 1 ≤ o.pull
pull_low i o is = omega (arith, (is_strength i o is).low, (is_strength i o is).pull_high, (is_strength i o is).pull_low)

operator_keeps : (p : Spot) (i : Infix) (o : Strength) (e : Tree) (fs : List Frame) (ts rest : List Mark) → strength i ≡ Some o → Ready 1 e fs ts (sign p (s.Binary i) ∷ rest) → 1 ≤ o.pull
    → Keeps (operator p i o (settle o.pull (grown e) fs)) ts rest
operator_keeps p i o e fs ts rest is ready low =
    let r = settle_keeps ready.leaves o.pull ready.level e (sign p (s.Binary i) ∷ rest) ready.reads (omega (arith, ready.low)) ready.fits ready.takes in
    let k = settle o.pull (grown e) fs in
    keeps_allowed o.level k.1 (st.Operand, f.Pending o.level o.room p i (joined no_subtrees k.0) ∷ k.1) ts rest
    (λ fits. (subst (λ (b : Subtree). LeavesOpen (f.Pending o.level o.room p i (joined no_subtrees b) ∷ k.1) ts rest) r.is (h.in_infix is fits r.ready.leaves (g.tighter r.ready.low r.ready.reads)), tt))

enclosed_settled : (p : Spot) (x : Lexeme) (e : Tree) (fs : List Frame) (ts rest : List Mark) → is_paren x ≡ false → Ready 1 e fs ts (at p x ∷ rest) → Keeps (enclosed p x (settle 13 (grown e) fs)) ts rest
enclosed_settled p x e fs ts rest free ready =
    let r = settle_keeps ready.leaves 13 ready.level e (at p x ∷ rest) ready.reads (omega (arith, ready.low)) ready.fits ready.takes in
    subst (λ (b : Subtree). Keeps (enclosed_by p x b (settle 13 (grown e) fs).1) ts rest) r.is
    (enclosed_keeps r.ready.leaves p x r.ready.level r.tree rest free r.ready.reads r.ready.low r.ready.fits)

after_by_keeps : (p : Spot) (i : Infix) (o : Option Strength) (e : Tree) (fs : List Frame) (ts rest : List Mark) → strength i ≡ o → Ready 1 e fs ts (sign p (s.Binary i) ∷ rest)
    → Keeps (after_by p i o (grown e) fs) ts rest
after_by_keeps p i None e fs ts rest is ready = enclosed_settled p (l.Sign (s.Binary i)) e fs ts rest refl ready
after_by_keeps p i (Some o) e fs ts rest is ready = operator_keeps p i o e fs ts rest is ready (pull_low i o is)

after_keeps : (p : Spot) (x : Lexeme) (e : Tree) (fs : List Frame) (ts rest : List Mark) → Ready 1 e fs ts (at p x ∷ rest) → Keeps (after_lexeme p x (grown e) fs) ts rest
after_keeps p (l.Sign s.LeftParen) e fs ts rest ready = tt
after_keeps p (l.Sign s.LeftBracket) e fs ts rest ready =
    keeps_allowed 1 fs (st.Operand, f.Index p (grown e) ∷ fs) ts rest (λ low. (h.in_index low ready.leaves (g.tighter ready.low ready.reads), tt))
after_keeps p (l.Sign (s.Postfix o)) e fs ts rest ready =
    keeps_allowed 1 fs (st.Whole (grown (t.a_postfix p o e)), fs) ts rest (λ low.
    ready_subtree 1 (t.a_postfix p o e) fs ts rest (record { mid = ready.mid; level = 1; leaves = ready.leaves; reads = g.a_postfix (g.tighter ready.low ready.reads); low = omega arith; fits = low; takes = ready.takes }))
after_keeps p (l.Sign (s.Binary i)) e fs ts rest ready = after_by_keeps p i (strength i) e fs ts rest refl ready
after_keeps p (l.Sign x) e fs ts rest ready = enclosed_settled p (l.Sign x) e fs ts rest refl ready
after_keeps p (l.Word path w) e fs ts rest ready = enclosed_settled p (l.Word path w) e fs ts rest refl ready
after_keeps p (l.Number n) e fs ts rest ready = enclosed_settled p (l.Number n) e fs ts rest refl ready
after_keeps p (l.Text w) e fs ts rest ready = enclosed_settled p (l.Text w) e fs ts rest refl ready
after_keeps p l.Other e fs ts rest ready = enclosed_settled p l.Other e fs ts rest refl ready

-- ---- after a word

bare : (p : Spot) (w : List ℕ) (fs : List Frame) (ts rest : List Mark) → Named p w fs ts rest → Ready 1 (t.an_item p w absent absent) fs ts rest
bare p w fs ts rest named =
    record { mid = word p named.path w ∷ rest; level = 0; leaves = named.leaves; reads = g.an_item g.no_arguments g.no_body; low = omega arith; fits = omega arith; takes = named.takes }

with_args : (p : Spot) (w : List ℕ) (args : Subtrees) (fs : List Frame) (ts rest : List Mark) (asked : CalledWord p w args fs ts rest) → Ready 1 (t.an_item p w (t.given asked.trees) absent) fs ts rest
with_args p w args fs ts rest asked =
    record { mid = word p asked.path w ∷ asked.mid; level = 0; leaves = asked.leaves; reads = g.an_item asked.reads g.no_body; low = omega arith; fits = omega arith; takes = asked.takes }

word_after : (p : Spot) (x : Lexeme) (q : Spot) (w : List ℕ) (fs : List Frame) (ts rest : List Mark) → Named q w fs ts (at p x ∷ rest) → Keeps (after p x (item q w None None) fs) ts rest
unfolding after
word_after p x q w fs ts rest named = after_keeps p x (t.an_item q w absent absent) fs ts rest (bare q w fs ts (at p x ∷ rest) named)

word_keeps : (p : Spot) (x : Lexeme) (q : Spot) (w : List ℕ) (fs : List Frame) (ts rest : List Mark) → Named q w fs ts (at p x ∷ rest) → Keeps (word_by p x q w fs) ts rest
word_keeps p (l.Sign s.LeftParen) q w fs ts rest named = h.first_argument named.takes named.leaves
word_keeps p (l.Sign s.LeftBrace) q w fs ts rest named = (h.in_body {args = absent} {done = none} {last = None} named.takes named.leaves g.no_arguments g.an_empty_row tt, tt)
word_keeps p (l.Sign x) q w fs ts rest named = word_after p (l.Sign x) q w fs ts rest named
word_keeps p (l.Word path v) q w fs ts rest named = word_after p (l.Word path v) q w fs ts rest named
word_keeps p (l.Number n) q w fs ts rest named = word_after p (l.Number n) q w fs ts rest named
word_keeps p (l.Text v) q w fs ts rest named = word_after p (l.Text v) q w fs ts rest named
word_keeps p l.Other q w fs ts rest named = word_after p l.Other q w fs ts rest named

called_after : (p : Spot) (x : Lexeme) (q : Spot) (w : List ℕ) (args : Subtrees) (fs : List Frame) (ts rest : List Mark) → CalledWord q w args fs ts (at p x ∷ rest) → Keeps (after p x (item q w (Some args) None) fs) ts rest
unfolding after
called_after p x q w args fs ts rest asked =
    subst (λ (b : Subtrees). Keeps (after_lexeme p x (item q w (Some b) None) fs) ts rest) asked.are
    (after_keeps p x (t.an_item q w (t.given asked.trees) absent) fs ts rest (with_args q w args fs ts (at p x ∷ rest) asked))

called_keeps : (p : Spot) (x : Lexeme) (q : Spot) (w : List ℕ) (args : Subtrees) (fs : List Frame) (ts rest : List Mark) → CalledWord q w args fs ts (at p x ∷ rest) → Keeps (called_by p x q w args fs) ts rest
called_keeps p (l.Sign s.LeftBrace) q w args fs ts rest asked = (
  subst (λ (b : Subtrees). LeavesOpen (f.Body q w (Some b) no_subtrees ∷ fs) ts rest) asked.are
      (h.in_body {args = t.given asked.trees} {done = none} {last = None} asked.takes asked.leaves asked.reads g.an_empty_row tt),
  tt,
)
called_keeps p (l.Sign x) q w args fs ts rest asked = called_after p (l.Sign x) q w args fs ts rest asked
called_keeps p (l.Word path v) q w args fs ts rest asked = called_after p (l.Word path v) q w args fs ts rest asked
called_keeps p (l.Number n) q w args fs ts rest asked = called_after p (l.Number n) q w args fs ts rest asked
called_keeps p (l.Text v) q w args fs ts rest asked = called_after p (l.Text v) q w args fs ts rest asked
called_keeps p l.Other q w args fs ts rest asked = called_after p l.Other q w args fs ts rest asked

-- ---- each step, and a whole run

pub step_keeps : (t : Mark) (a : ParserState) (fs : List Frame) (ts rest : List Mark) → IsFrontIn a fs ts (t ∷ rest) → Keeps (step t a fs) ts rest
unfolding begin argument first_argument element first_element m.word m.called after
step_keeps t st.Operand fs ts rest held = begin_keeps t.spot t.lexeme fs ts rest held.0 held.1
step_keeps t st.FirstArgument fs ts rest held = first_argument_keeps t.spot t.lexeme fs ts rest held
step_keeps t st.Argument fs ts rest held = argument_keeps t.spot t.lexeme fs ts rest held
step_keeps t st.FirstElement fs ts rest held = first_element_keeps t.spot t.lexeme fs ts rest held
step_keeps t st.Element fs ts rest held = element_keeps t.spot t.lexeme fs ts rest held.0 held.1
step_keeps t st.Sequence fs ts rest held = sequence_keeps t.spot t.lexeme fs ts rest held.0 held.1
step_keeps t (st.Word p w) fs ts rest held = word_keeps t.spot t.lexeme p w fs ts rest held
step_keeps t (st.Called p w args) fs ts rest held = called_keeps t.spot t.lexeme p w args fs ts rest held
step_keeps t (st.Whole b) fs ts rest held = subst (λ (x : Subtree). Keeps (after_lexeme t.spot t.lexeme x fs) ts rest) held.is (after_keeps t.spot t.lexeme held.tree fs ts rest held.ready)
step_keeps t (st.Listed b) fs ts rest held = subst (λ (x : Subtree). Keeps (listed x t.lexeme fs) ts rest) held.is (listed_keeps t.spot t.lexeme held.tree fs ts held.mid rest held.leaves held.suits)

-- trees that grow so, and that the tokens spell
pub record Told (b : Subtrees) (ts : List Mark) : Type 0 where
  pub trees : Trees
  pub are : grown_all trees ≡ b
  pub source : IsSource trees ts

abbrev pub Tells : Answer → List Mark → Type 0
Tells (source b) ts = Told b ts
Tells (stop rest) ts = Unit {0}
Tells (deep rest) ts = Unit {0}

close_tells : {fs : List Frame} {ts mid : List Mark} → LeavesOpen fs ts mid → (n : ℕ) (e : Tree) → Reads (expression n e) mid [] → n ≤ room fs → Tells (close_source (grown e) fs) ts
close_tells (h.in_source {done = done} {last = last} row may) n e reads fits =
    record { trees = more (all done last) e; are = refl; source = record { done = all done last; last = Some e; row = g.one_more row may (g.tighter fits reads); are = refl } }
close_tells (h.in_arguments a b c) n e reads fits = tt
close_tells (h.in_body a b c d i) n e reads fits = tt
close_tells (h.in_bracket a b) n e reads fits = tt
close_tells (h.in_index a b c) n e reads fits = tt
close_tells (h.in_prefix a b) n e reads fits = tt
close_tells (h.in_infix a b c d) n e reads fits = tt
close_tells (h.in_list a b c) n e reads fits = tt

whole_tells : (e : Tree) (fs : List Frame) (ts : List Mark) → Ready 1 e fs ts [] → Tells (finish_whole (grown e) fs) ts
unfolding finish_whole
whole_tells e fs ts ready =
    let r = settle_keeps ready.leaves 13 ready.level e [] ready.reads (omega (arith, ready.low)) ready.fits ready.takes in
    subst (λ (b : Subtree). Tells (close_source b (settle 13 (grown e) fs).1) ts) r.is (close_tells r.ready.leaves r.ready.level r.tree r.ready.reads r.ready.fits)

finish_tells : (a : ParserState) (fs : List Frame) (ts : List Mark) → IsFrontIn a fs ts [] → Tells (finish a fs) ts
finish_tells st.Sequence (f.Unit done ∷ []) ts (h.in_source {done = front} {last = last} row may, takes) =
    record { trees = all front last; are = refl; source = record { done = front; last = last; row = row; are = refl } }
finish_tells st.Sequence _ ts held = tt
finish_tells (st.Word p w) fs ts held = whole_tells (t.an_item p w absent absent) fs ts (bare p w fs ts [] held)
finish_tells (st.Called p w args) fs ts held =
    subst (λ (b : Subtrees). Tells (finish_whole (item p w (Some b) None) fs) ts) held.are (whole_tells (t.an_item p w (t.given held.trees) absent) fs ts (with_args p w args fs ts [] held))
finish_tells (st.Whole b) fs ts held = subst (λ (x : Subtree). Tells (finish_whole x fs) ts) held.is (whole_tells held.tree fs ts held.ready)
finish_tells _ fs ts held = tt

run_by : (rest : List Mark) (t : Mark) (c : Option Config) (ts : List Mark) → Keeps c ts rest → ((a : ParserState) (fs : List Frame) → IsFrontIn a fs ts rest → Tells (run rest a fs) ts) → Tells (then_run t rest c) ts
unfolding then_run
run_by rest t None ts keeps others = tt
run_by rest t (Some c) ts keeps others = others c.0 c.1 keeps

pub run_tells : (rest : List Mark) (a : ParserState) (fs : List Frame) (ts : List Mark) → IsFrontIn a fs ts rest → Tells (run rest a fs) ts
unfolding walk then_run
run_tells [] a fs ts held = finish_tells a fs ts held
run_tells (t ∷ rest) a fs ts held = run_by rest t (step t a fs) ts (step_keeps t a fs ts rest held) (λ b gs others. run_tells rest b gs ts others)

pub start_held : (ts : List Mark) → IsFrontIn st.Sequence start ts ts
start_held ts = (h.in_source {done = none} {last = None} g.an_empty_row tt, tt)

pub read_is_spelled : (b : Subtrees) (ts : List Mark) → run ts st.Sequence start ≡ source b → Told b ts
read_is_spelled b ts e = subst (λ (a : Answer). Tells a ts) e (run_tells ts st.Sequence start ts (start_held ts))
