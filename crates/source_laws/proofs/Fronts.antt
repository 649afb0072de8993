-- How much is open by the productions, and by the frames that are held.
use Rattle.std.proofs.Common.{◌≡◌, ℕ, suc, ◌+◌, ◌-◌, ◌≤◌, ◌<◌, Bool, false, List, [], ◌∷◌, Option, Some, None, refl, sym, ap, subst, arith}
use Rattle.std.specs.Prelude.{nat_eq, if◌then◌else◌}
use Rattle.asl_syntax.specs.declared.sign.Sign.TheVariants as s
use Rattle.asl_syntax.specs.declared.sign.Strength.{Strength}
use Rattle.asl_syntax.specs.declared.mark.Spot.{Spot}
use Rattle.asl_syntax.specs.declared.mark.Mark.{Mark}
use Rattle.asl_syntax.specs.declared.raw.Infix.{Infix}
use Rattle.asl_syntax.specs.declared.raw.Infix.TheVariants as op
use Rattle.asl_syntax.specs.declared.subtree.Subtrees.{Subtrees}
use Rattle.asl_syntax.specs.declared.frame.Frame.{Frame}
use Rattle.asl_syntax.specs.declared.frame.Frame.TheVariants as f
use Rattle.asl_parser.specs.declared.state.ParserState.{ParserState}
use Rattle.asl_parser.specs.declared.state.ParserState.TheVariants as st
use Rattle.asl_syntax.specs.Signs.{strength}
use Rattle.asl_syntax.specs.Trees.{Tree, Trees, TreeGroup, none, more, absent}
use Rattle.asl_syntax.specs.Trees as t
use Rattle.asl_syntax.specs.Grow.{no_subtrees, joined, grown, grown_all, grown_in}
use Rattle.asl_syntax.specs.Frames.{depth, room}
use Rattle.asl_parser.specs.Machine.{unlimited}
use Rattle.asl_syntax.specs.declared.mark.Lexeme.TheVariants as l
use Rattle.asl_parser.specs.Grammar.{at, sign, word, all, MayFollow, Reads}
use Rattle.asl_parser.specs.Grammar as g
use Rattle.asl_parser.specs.Front.{LeavesOpen, TakesList, TakesExpression, Suits, TakesElement, FirstArgument, FirstElement, NextArgument, IsFrontIn}
use Rattle.asl_parser.specs.Front as h
use Rattle.asl_parser.specs.Depth.{IsDeeper}
use Rattle.asl_parser.proofs.Complete.{complete, Starts, is_strength}
use Rattle.asl_parser.proofs.Sound.{room_takes}
use Rattle.source_laws.specs.Opens.{Production, expression, behind_word, arguments, argument, brace_list, member, row, count, Opens}
use Rattle.source_laws.specs.Opens as o

-- ---- what the productions leave open is held

pub record Found (ms : List Mark) (much : ℕ) : Type 0 where
  pub state : ParserState
  pub fs : List Frame
  pub held : IsFrontIn state fs ms []
  pub is : depth fs ≡ much

found_as : (ms : List Mark) (n m : ℕ) → n ≡ m → Found ms n → Found ms m
found_as ms n m e x = subst (Found ms) e x

whole_list : (fs : List Frame) (e : Tree) (mid : List Mark) → TakesList fs → Reads (g.brace_list e) mid [] → Suits fs e mid []
whole_list (f.Args p w done ∷ fs) e mid takes reads = g.a_list_argument reads
whole_list (f.List p done ∷ fs) e mid takes reads = g.an_inner_list reads
whole_list _ e mid takes reads = absurd takes

-- an operator that waits for its right operand
abbrev strong : ℕ → ℕ → ℕ → Strength
strong pull level most = record { pull = pull; level = level; room = most }

abbrev pub weight_of : Strength → ℕ
weight_of x = if nat_eq x.level x.room then 1 else 0

weighs : (x y : Strength) → Some x ≡ Some y → weight_of y ≡ weight_of x
weighs x y e = let same : x ≡ y = cc in ap weight_of (sym same)

pub count_is : (i : Infix) (x : Strength) → strength i ≡ Some x → weight_of x ≡ count i
unfolding strength
count_is op.Multiply x e = weighs (strong 3 3 2) x e
count_is op.Divide x e = weighs (strong 3 3 2) x e
count_is op.Modulo x e = weighs (strong 3 3 2) x e
count_is op.Add x e = weighs (strong 4 4 3) x e
count_is op.Subtract x e = weighs (strong 4 4 3) x e
count_is op.ShiftLeft x e = weighs (strong 5 5 4) x e
count_is op.ShiftRight x e = weighs (strong 5 5 4) x e
count_is op.Less x e = weighs (strong 6 6 5) x e
count_is op.Greater x e = weighs (strong 6 6 5) x e
count_is op.LessEqual x e = weighs (strong 6 6 5) x e
count_is op.GreaterEqual x e = weighs (strong 6 6 5) x e
count_is op.Equal x e = weighs (strong 7 7 6) x e
count_is op.NotEqual x e = weighs (strong 7 7 6) x e
count_is op.And x e = weighs (strong 8 8 7) x e
count_is op.Xor x e = weighs (strong 9 9 8) x e
count_is op.Or x e = weighs (strong 10 10 9) x e
count_is op.LogicalAnd x e = weighs (strong 11 11 10) x e
count_is op.LogicalOr x e = weighs (strong 12 12 11) x e
count_is op.Assign x e = weighs (strong 12 13 13) x e
count_is op.AddAssign x e = weighs (strong 12 13 13) x e
count_is op.SubtractAssign x e = weighs (strong 12 13 13) x e
count_is op.MultiplyAssign x e = weighs (strong 12 13 13) x e
count_is op.DivideAssign x e = weighs (strong 12 13 13) x e
count_is op.ModuloAssign x e = weighs (strong 12 13 13) x e
count_is op.ShiftLeftAssign x e = weighs (strong 12 13 13) x e
count_is op.ShiftRightAssign x e = weighs (strong 12 13 13) x e
count_is op.AndAssign x e = weighs (strong 12 13 13) x e
count_is op.OrAssign x e = weighs (strong 12 13 13) x e
count_is op.XorAssign x e = weighs (strong 12 13 13) x e
count_is op.Index x e = absurd cc
count_is op.Increment x e = absurd cc
count_is op.Decrement x e = absurd cc
count_is op.LogicalNot x e = absurd cc
count_is op.Not x e = absurd cc

abbrev Claim : Production → List Mark → ℕ → Type 0
Claim (expression n) rest d = (fs : List Frame) (ms : List Mark) → LeavesOpen fs ms rest → n ≤ room fs → TakesExpression fs → Found ms (d + depth fs)
Claim behind_word rest d = (p : Spot) (path : Bool) (w : List ℕ) (fs : List Frame) (ms : List Mark) → LeavesOpen fs ms (word p path w ∷ rest) → TakesExpression fs → Found ms (d + depth fs)
Claim arguments rest d = (p q : Spot) (path : Bool) (w : List ℕ) (fs : List Frame) (ms : List Mark) → LeavesOpen fs ms (word p path w ∷ sign q s.LeftParen ∷ rest) → TakesExpression fs → Found ms (d + (1 + depth fs))
Claim argument rest d = (p : Spot) (w : List ℕ) (done : Subtrees) (fs : List Frame) (ms : List Mark) → LeavesOpen (f.Args p w done ∷ fs) ms rest → Found ms (d + (1 + depth fs))
Claim brace_list rest d = (fs : List Frame) (ms : List Mark) → LeavesOpen fs ms rest → TakesList fs → Found ms (d + depth fs)
Claim member rest d = (p : Spot) (done : Subtrees) (fs : List Frame) (ms : List Mark) → LeavesOpen (f.List p done ∷ fs) ms rest → Found ms (d + (1 + depth fs))
Claim (row n) rest d = (frame : Subtrees → Frame) (fs : List Frame) (ms : List Mark) (much : ℕ) → ((done : Subtrees) → n ≤ room (frame done ∷ fs)) → ((done : Subtrees) → TakesExpression (frame done ∷ fs))
    → ((done : Subtrees) → depth (frame done ∷ fs) ≡ much)
    → ((done : Trees) (last : Option Tree) (mid : List Mark) → Reads (g.sequence n done last) rest mid → MayFollow last mid → LeavesOpen (frame (grown_all (all done last)) ∷ fs) ms mid) → Found ms (d + much)

found : {production : Production} {rest : List Mark} {d : ℕ} → Opens production rest d → Claim production rest d
found o.no_expression = λ fs ms leaves low takes. record { state = st.Operand; fs = fs; held = (leaves, takes); is = omega arith }
found (o.an_expression {m = m} {e = e} {ms = rest} small less reads) = λ fs ms leaves low takes. record {
  state = st.Whole (grown e);
  fs = fs;
  held = record { tree = e; is = refl; ready = record { mid = rest; level = m; leaves = leaves; reads = reads; low = small; fits = omega arith; takes = takes } };
  is = omega arith;
}
found (o.in_item {p = p} {path = path} {w = w} inner) = λ fs ms leaves low takes. found inner p path w fs ms leaves takes
found (o.in_brackets {d = d} small inner) = λ fs ms leaves low takes.
    found_as ms (d + (1 + depth fs)) (suc d + depth fs) (omega arith) (found inner (f.Bracket ∷ fs) ms (h.in_bracket (omega arith) leaves) (omega arith) tt)
found (o.in_index {d = d} {p = p} {a = a} small reads inner) = λ fs ms leaves low takes.
    found_as ms (d + (1 + depth fs)) (suc d + depth fs) (omega arith) (found inner (f.Index p (grown a) ∷ fs) ms (h.in_index (omega arith) leaves reads) (omega arith) tt)
found (o.in_prefix {d = d} {p = p} {o = x} small inner) = λ fs ms leaves low takes.
    found_as ms (d + (1 + depth fs)) (suc d + depth fs) (omega arith) (found inner (f.Pending 2 2 p x no_subtrees ∷ fs) ms (h.in_prefix (omega arith) leaves) (omega arith) tt)
found (o.in_infix {d = d} {p = p} {i = i} {o = x} {a = a} is small reads inner) = λ fs ms leaves low takes.
    (let same : weight_of x ≡ count i = count_is i x is in
    found_as ms (d + (weight_of x + depth fs)) (count i + d + depth fs) (omega arith) (found inner (f.Pending x.level x.room p i (joined no_subtrees (grown a)) ∷ fs) ms (h.in_infix is (omega arith) leaves reads) (omega arith) tt))
found (o.in_arguments {d = d} {p = q} inner) = λ p path w fs ms leaves takes. found_as ms (d + (1 + depth fs)) (suc d + depth fs) (omega arith) (found inner p q path w fs ms leaves takes)
found (o.in_body {d = d} {args = args} reads inner) = λ p path w fs ms leaves takes.
    found_as ms (d + (1 + depth fs)) (suc d + depth fs) (omega arith)
    (found inner (λ done. f.Body p w (grown_in args) done) fs ms (1 + depth fs) (λ done. omega arith) (λ done. tt) (λ done. refl) (λ done last mid row_reads may. h.in_body takes leaves reads row_reads may))
found (o.next_argument {xs = xs} reads inner) = λ p q path w fs ms leaves takes. found inner p w (grown_all xs) fs ms (h.in_arguments takes leaves reads)
found (o.an_argument {d = d} inner) = λ p w done fs ms leaves. found inner (f.Args p w done ∷ fs) ms leaves (omega arith) tt
found (o.a_list_argument {d = d} inner) = λ p w done fs ms leaves. found inner (f.Args p w done ∷ fs) ms leaves tt
found (o.a_list {e = e} {ms = rest} reads) = λ fs ms leaves takes. record {
  state = st.Listed (grown e);
  fs = fs;
  held = record { tree = e; is = refl; mid = rest; leaves = leaves; suits = whole_list fs e rest takes reads };
  is = omega arith;
}
found (o.in_list {d = d} {p = p} {xs = xs} reads inner) = λ fs ms leaves takes. found_as ms (d + (1 + depth fs)) (suc d + depth fs) (omega arith) (found inner p (grown_all xs) fs ms (h.in_list takes leaves reads))
found o.no_member = λ p done fs ms leaves. record { state = st.Element; fs = f.List p done ∷ fs; held = (leaves, tt); is = omega arith }
found (o.a_word {p = q} {w = w}) = λ p done fs ms leaves. record {
  state = st.Listed (grown (t.an_item q w absent absent));
  fs = f.List p done ∷ fs;
  held = record { tree = t.an_item q w absent absent; is = refl; mid = word q false w ∷ []; leaves = leaves; suits = g.a_word };
  is = omega arith;
}
found (o.an_inner_list inner) = λ p done fs ms leaves. found inner (f.List p done ∷ fs) ms leaves tt
found (o.no_next {done = done} reads) = λ frame fs ms much low takes much_is leaving. record {
  state = st.Sequence;
  fs = frame (grown_all done) ∷ fs;
  held = (leaving done None [] reads tt, takes (grown_all done));
  is = omega (arith, much_is (grown_all done));
}
found (o.next_expression {d = d} {done = done} {last = last} {m = m} {rest = rest} reads may inner) = λ frame fs ms much low takes much_is leaving.
    (let here : Subtrees = grown_all (all done last) in
    found_as ms (d + depth (frame here ∷ fs)) (d + much) (ap (λ n. d + n) (much_is here)) (found inner (frame here ∷ fs) ms (leaving done last (m ∷ rest) reads may) (low here) (takes here)))

-- ---- what is held leaves as much open, or more

pub record Filled (ms : List Mark) (much : ℕ) : Type 0 where
  pub depth_is : ℕ
  pub least : much ≤ depth_is
  pub opens : Opens (row 0) ms depth_is

filled_as : (ms : List Mark) (n m : ℕ) → m ≤ n → Filled ms n → Filled ms m
filled_as ms n m e x = record { depth_is = x.depth_is; least = omega (arith, x.least); opens = x.opens }

starts_some : {n : ℕ} {e : Tree} {ms rest : List Mark} → Reads (g.expression n e) ms rest → ms ≡ [] → ⊥
starts_some reads is = subst Starts is (complete unlimited (λ m n less e. refl) reads).0

pub no_depth : {n d : ℕ} {rest : List Mark} → Opens (expression n) rest d → rest ≡ [] → d ≡ 0
no_depth o.no_expression is = refl
no_depth (o.an_expression a b c) is = refl
no_depth (o.in_item a) is = absurd cc
no_depth (o.in_brackets a b) is = absurd cc
no_depth (o.in_index a reads b) is = absurd (starts_some reads is)
no_depth (o.in_prefix a b) is = absurd cc
no_depth (o.in_infix a b reads c) is = absurd (starts_some reads is)

looser : {m d : ℕ} {ms : List Mark} → Opens (expression m) ms d → (n : ℕ) → m ≤ n → Opens (expression n) ms d
looser o.no_expression n less = o.no_expression
looser (o.an_expression small low reads) n less = o.an_expression small (omega arith) reads
looser (o.in_item inner) n less = o.in_item inner
looser (o.in_brackets low inner) n less = o.in_brackets (omega arith) inner
looser (o.in_index low reads inner) n less = o.in_index (omega arith) reads inner
looser (o.in_prefix low inner) n less = o.in_prefix (omega arith) inner
looser (o.in_infix is low reads inner) n less = o.in_infix is (omega arith) reads inner

record Ended (n : ℕ) (ms : List Mark) : Type 0 where
  much : ℕ
  opens : Opens (expression n) ms much

-- a whole expression is a front of one
ended : {n : ℕ} {e : Tree} {ms rest : List Mark} → Reads (g.expression n e) ms rest → rest ≡ [] → Ended n ms
ended (g.a_number {p = p} {n = n} {rest = rest}) is = record { much = 0; opens = o.an_expression (omega arith) (omega arith) (subst (λ r. Reads (g.expression 1 (t.a_number p n)) (at p (l.Number n) ∷ rest) r) is g.a_number) }
ended (g.a_text {p = p} {w = w} {rest = rest}) is = record { much = 0; opens = o.an_expression (omega arith) (omega arith) (subst (λ r. Reads (g.expression 1 (t.a_text p w)) (at p (l.Text w) ∷ rest) r) is g.a_text) }
ended (g.an_item {p = p} {path = path} {w = w} {args = args} {inner = inner} {ms = ms} a b) is =
    record { much = 0; opens = o.an_expression (omega arith) (omega arith) (subst (λ r. Reads (g.expression 0 (t.an_item p w args inner)) (word p path w ∷ ms) r) is (g.an_item a b)) }
ended (g.in_brackets {p = p} {e = e} {ms = ms} a) is = record { much = 0; opens = o.an_expression (omega arith) (omega arith) (subst (λ r. Reads (g.expression 1 e) (sign p s.LeftParen ∷ ms) r) is (g.in_brackets a)) }
ended (g.an_index {p = p} {a = a} {e = e} {ms = ms} x y) is = record { much = 0; opens = o.an_expression (omega arith) (omega arith) (subst (λ r. Reads (g.expression 1 (t.a_pair p op.Index a e)) ms r) is (g.an_index x y)) }
ended (g.a_postfix {p = p} {o = x} {a = a} {ms = ms} y) is = record { much = 0; opens = o.an_expression (omega arith) (omega arith) (subst (λ r. Reads (g.expression 1 (t.a_postfix p x a)) ms r) is (g.a_postfix y)) }
ended (g.a_prefix a) is = let k = ended a is in record { much = suc k.much; opens = o.in_prefix (omega arith) k.opens }
ended (g.an_infix {i = i} e a b) is = let k = ended b is in record { much = count i + k.much; opens = o.in_infix e (omega arith) a k.opens }
ended (g.tighter {n = n} less a) is = let k = ended a is in record { much = k.much; opens = looser k.opens n less }

record RowOpens (n least : ℕ) (ms : List Mark) : Type 0 where
  much : ℕ
  enough : least ≤ much
  opens : Opens (row n) ms much

next_opens : (n least d : ℕ) (done : Trees) (last : Option Tree) (ms mid : List Mark) → Reads (g.sequence n done last) ms mid → MayFollow last mid → Opens (expression n) mid d → (mid ≡ [] → ⊥) → least ≤ d → RowOpens n least ms
next_opens n least d trees last ms [] reads may opens some less = absurd (some refl)
next_opens n least d trees last ms (m ∷ rest) reads may opens some less = record { much = d; enough = less; opens = o.next_expression reads may opens }

whole_row : {n : ℕ} {done : Trees} {last : Option Tree} {ms rest : List Mark} → Reads (g.sequence n done last) ms rest → rest ≡ [] → (e : Tree) → last ≡ Some e → RowOpens n 0 ms
whole_row g.an_empty_row is e some = absurd cc
whole_row (g.a_comma a) is e some = absurd cc
whole_row (g.a_semicolon a) is e some = absurd cc
whole_row (g.one_more {n = n} {done = done} {last = last} {ms = ms} {mid = mid} a may b) is e some =
    let k = ended b is in
    next_opens n 0 k.much done last ms mid a may k.opens (starts_some b) (omega arith)

row_opens : (n d : ℕ) (done : Trees) (last : Option Tree) (ms rest : List Mark) → Reads (g.sequence n done last) ms rest → MayFollow last rest → Opens (expression n) rest d → RowOpens n d ms
row_opens n d trees last ms (m ∷ rest) reads may opens = record { much = d; enough = omega arith; opens = o.next_expression reads may opens }
row_opens n d trees None ms [] reads may opens = record { much = 0; enough = omega (arith, no_depth opens refl); opens = o.no_next reads }
row_opens n d trees (Some e) ms [] reads may opens = let k = whole_row reads refl e refl in record { much = k.much; enough = omega (arith, no_depth opens refl); opens = k.opens }

-- what fills the place that is open
abbrev Fits : List Frame → List Mark → ℕ → Type 0
Fits (f.Unit done ∷ fs) rest d = Opens (expression 0) rest d
Fits (f.Body p w args done ∷ fs) rest d = Opens (expression 13) rest d
Fits (f.Args p w done ∷ fs) rest d = Opens argument rest d
Fits (f.List p done ∷ fs) rest d = Opens member rest d
Fits (f.Bracket ∷ fs) rest d = Opens (expression 13) rest d
Fits (f.Index p a ∷ fs) rest d = Opens (expression 13) rest d
Fits (f.Pending level most p i xs ∷ fs) rest d = Opens (expression most) rest d
Fits [] rest d = Unit {0}

expression_fits : (fs : List Frame) (rest : List Mark) (d : ℕ) → TakesExpression fs → Opens (expression (room fs)) rest d → Fits fs rest d
expression_fits (f.Unit done ∷ fs) rest d takes opens = opens
expression_fits (f.Body p w args done ∷ fs) rest d takes opens = opens
expression_fits (f.Args p w done ∷ fs) rest d takes opens = o.an_argument opens
expression_fits (f.List p done ∷ fs) rest d takes opens = absurd takes
expression_fits (f.Bracket ∷ fs) rest d takes opens = opens
expression_fits (f.Index p a ∷ fs) rest d takes opens = opens
expression_fits (f.Pending level most p i xs ∷ fs) rest d takes opens = opens
expression_fits [] rest d takes opens = tt

list_fits : (fs : List Frame) (rest : List Mark) (d : ℕ) → TakesList fs → Opens brace_list rest d → Fits fs rest d
list_fits (f.Args p w done ∷ fs) rest d takes opens = o.a_list_argument opens
list_fits (f.List p done ∷ fs) rest d takes opens = o.an_inner_list opens
list_fits _ rest d takes opens = absurd takes

fill : {fs : List Frame} {ms rest : List Mark} → LeavesOpen fs ms rest → (d : ℕ) → Fits fs rest d → Filled ms (d + depth fs)
fill (h.in_source {done = done} {last = last} {ms = ms} {rest = rest} reads may) d fits =
    let k = row_opens 0 d done last ms rest reads may fits in
    record { depth_is = k.much; least = omega (arith, k.enough); opens = k.opens }
fill (h.in_arguments {p = p} {q = q} {path = path} {w = w} {fs = fs} {ms = ms} {mid = mid} takes leaves front) d fits =
    filled_as ms (suc d + depth fs) (d + (1 + depth fs)) (omega arith) (fill leaves (suc d) (expression_fits fs (word p path w ∷ sign q s.LeftParen ∷ mid) (suc d) takes (o.in_item (o.in_arguments (o.next_argument front fits)))))
fill (h.in_body {p = p} {path = path} {w = w} {done = done} {last = last} {fs = fs} {ms = ms} {mid = mid} {rest = rest} takes leaves asked reads may) d fits =
    let k = row_opens 13 d done last _ rest reads may fits in
    filled_as ms (suc k.much + depth fs) (d + (1 + depth fs)) (omega (arith, k.enough)) (fill leaves (suc k.much) (expression_fits fs (word p path w ∷ mid) (suc k.much) takes (o.in_item (o.in_body asked k.opens))))
fill (h.in_bracket {q = q} {fs = fs} {ms = ms} {rest = rest} low leaves) d fits =
    filled_as ms (suc d + depth fs) (d + (1 + depth fs)) (omega arith) (fill leaves (suc d) (expression_fits fs (sign q s.LeftParen ∷ rest) (suc d) (room_takes 0 fs low) (o.in_brackets low fits)))
fill (h.in_index {fs = fs} {ms = ms} {mid = mid} low leaves left) d fits =
    filled_as ms (suc d + depth fs) (d + (1 + depth fs)) (omega arith) (fill leaves (suc d) (expression_fits fs mid (suc d) (room_takes 0 fs low) (o.in_index low left fits)))
fill (h.in_prefix {p = p} {o = x} {fs = fs} {ms = ms} {rest = rest} low leaves) d fits =
    filled_as ms (suc d + depth fs) (d + (1 + depth fs)) (omega arith) (fill leaves (suc d) (expression_fits fs (sign p (s.Prefix x) ∷ rest) (suc d) (room_takes 1 fs low) (o.in_prefix low fits)))
fill (h.in_infix {i = i} {o = x} {fs = fs} {ms = ms} {mid = mid} is low leaves left) d fits =
    let so = is_strength i x is in
    let some : suc (x.level - 1) ≤ room fs = omega (arith, so.low) in
    let same : weight_of x ≡ count i = count_is i x is in
    filled_as ms (count i + d + depth fs) (d + (weight_of x + depth fs)) (omega arith) (fill leaves (count i + d) (expression_fits fs mid (count i + d) (room_takes (x.level - 1) fs some) (o.in_infix is low left fits)))
fill (h.in_list {p = p} {fs = fs} {ms = ms} {mid = mid} takes leaves others) d fits =
    filled_as ms (suc d + depth fs) (d + (1 + depth fs)) (omega arith) (fill leaves (suc d) (list_fits fs (sign p s.LeftBrace ∷ mid) (suc d) takes (o.in_list others fits)))

-- what is held
abbrev Told : List Frame → List Mark → Type 0
Told fs ms = Filled ms (depth fs)

simply : (fs : List Frame) (ms rest : List Mark) → LeavesOpen fs ms rest → (d : ℕ) → Fits fs rest d → Told fs ms
simply fs ms rest leaves d fits = filled_as ms (d + depth fs) (depth fs) (omega arith) (fill leaves d fits)

first_argument_filled : {fs : List Frame} {ms rest : List Mark} → FirstArgument fs ms rest → rest ≡ [] → Told fs ms
first_argument_filled (h.first_argument {p = p} {w = w} {fs = fs} {ms = ms} {rest = rest} inner leaves) is =
    simply (f.Args p w no_subtrees ∷ fs) ms rest (h.in_arguments inner leaves g.none_before) 0 (subst (λ r. Opens argument r 0) (sym is) (o.an_argument o.no_expression))

next_argument_filled : {fs : List Frame} {ms rest : List Mark} → NextArgument fs ms rest → rest ≡ [] → Told fs ms
next_argument_filled (h.next_argument {p = p} {w = w} {done = done} {x = x} {fs = fs} {ms = ms} {rest = rest} inner leaves front) is =
    simply (f.Args p w (grown_all (more done x)) ∷ fs) ms rest (h.in_arguments inner leaves front) 0 (subst (λ r. Opens argument r 0) (sym is) (o.an_argument o.no_expression))

first_element_filled : {fs : List Frame} {ms rest : List Mark} → FirstElement fs ms rest → rest ≡ [] → Told fs ms
first_element_filled (h.first_element {p = p} {fs = fs} {ms = ms} {rest = rest} takes leaves) is =
    simply (f.List p no_subtrees ∷ fs) ms rest (h.in_list takes leaves g.no_members) 0 (subst (λ r. Opens member r 0) (sym is) o.no_member)

element_fits : (fs : List Frame) → TakesElement fs → Fits fs [] 0
element_fits (f.List p done ∷ fs) takes = o.no_member
element_fits _ takes = absurd takes

record Suited (fs : List Frame) (mid : List Mark) : Type 0 where
  much : ℕ
  fits : Fits fs mid much

argument_suited : {e : Tree} {mid rest : List Mark} → Reads (g.argument e) mid rest → rest ≡ [] → (much : ℕ) × Opens argument mid much
argument_suited (g.an_argument reads) is = let k = ended reads is in (k.much, o.an_argument k.opens)
argument_suited (g.a_list_argument {e = e} {ms = ms} reads) is = (0, o.a_list_argument (o.a_list (subst (λ r. Reads (g.brace_list e) ms r) is reads)))

member_suited : {e : Tree} {mid rest : List Mark} → Reads (g.member e) mid rest → rest ≡ [] → (much : ℕ) × Opens member mid much
member_suited (g.a_word {p = p} {w = w}) is = (0, subst (λ r. Opens member (word p false w ∷ r) 0) (sym is) o.a_word)
member_suited (g.an_inner_list {e = e} {ms = ms} reads) is = (0, o.an_inner_list (o.a_list (subst (λ r. Reads (g.brace_list e) ms r) is reads)))

suited : (fs : List Frame) (e : Tree) (mid : List Mark) → Suits fs e mid [] → Suited fs mid
suited (f.Args p w done ∷ fs) e mid suits = let k = argument_suited suits refl in record { much = k.0; fits = k.1 }
suited (f.List p done ∷ fs) e mid suits = let k = member_suited suits refl in record { much = k.0; fits = k.1 }
suited _ e mid suits = absurd suits

pub held_filled : (a : ParserState) (fs : List Frame) (ms : List Mark) → IsFrontIn a fs ms [] → Told fs ms
held_filled st.Operand fs ms held = simply fs ms [] held.0 0 (expression_fits fs [] 0 held.1 o.no_expression)
held_filled st.FirstArgument fs ms held = first_argument_filled held refl
held_filled st.Argument fs ms held = next_argument_filled held refl
held_filled st.FirstElement fs ms held = first_element_filled held refl
held_filled st.Element fs ms held = simply fs ms [] held.0 0 (element_fits fs held.1)
held_filled st.Sequence fs ms held = simply fs ms [] held.0 0 (expression_fits fs [] 0 held.1 o.no_expression)
held_filled (st.Word p w) fs ms held =
    simply fs ms (word p held.path w ∷ []) held.leaves 0 (expression_fits fs (word p held.path w ∷ []) 0 held.takes (o.an_expression {m = 0} (omega arith) (omega arith) (g.an_item g.no_arguments g.no_body)))
held_filled (st.Called p w args) fs ms held =
    simply fs ms (word p held.path w ∷ held.mid) held.leaves 0 (expression_fits fs (word p held.path w ∷ held.mid) 0 held.takes (o.an_expression {m = 0} (omega arith) (omega arith) (g.an_item held.reads g.no_body)))
held_filled (st.Whole b) fs ms held =
    simply fs ms held.ready.mid held.ready.leaves 0 (expression_fits fs held.ready.mid 0 held.ready.takes (o.an_expression {m = held.ready.level} held.ready.low held.ready.fits held.ready.reads))
held_filled (st.Listed b) fs ms held =
    let k = suited fs held.tree held.mid held.suits in
    simply fs ms held.mid held.leaves k.much k.fits

-- ---- the laws

pub deeper_opens : (limit : ℕ) (ms : List Mark) → IsDeeper limit ms → (d : ℕ) × (limit < d) × Opens (row 0) ms d
deeper_opens limit ms deeper = let k = held_filled deeper.state deeper.fs ms deeper.front in (k.depth_is, omega (arith, k.least, deeper.above), k.opens)

pub opens_found : (ms : List Mark) (d : ℕ) → Opens (row 0) ms d → Found ms d
opens_found ms d opens = found_as ms (d + 0) d (omega arith) (found opens (λ done. f.Unit done) [] ms 0 (λ done. omega arith) (λ done. tt) (λ done. refl) (λ done last mid reads may. h.in_source reads may))

pub opens_deeper : (limit : ℕ) (ms : List Mark) (d : ℕ) → limit < d → Opens (row 0) ms d → IsDeeper limit ms
opens_deeper limit ms d above opens = let k = opens_found ms d opens in record { state = k.state; fs = k.fs; front = k.held; above = omega (arith, k.is) }
