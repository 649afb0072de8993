-- Each front of a source has exactly one depth.
use Rattle.std.proofs.Common.{◌≡◌, ℕ, suc, ◌+◌, ◌≤◌, Bool, false, List, [], ◌∷◌, ◌++◌, Option, Some, None, refl, sym, ap, subst, ◌∙◌, inl, inr, ◌⊎◌, arith, take, append-nil}
use Rattle.std.proofs.lemmas.Bool.{cases_lt}
use Rattle.asl_syntax.specs.declared.sign.Sign.TheVariants as s
use Rattle.asl_syntax.specs.declared.mark.Spot.{Spot}
use Rattle.asl_syntax.specs.declared.mark.Mark.{Mark}
use Rattle.asl_syntax.specs.declared.raw.Infix.{Infix}
use Rattle.asl_syntax.specs.declared.subtree.Subtrees.{Subtrees}
use Rattle.asl_syntax.specs.declared.frame.Frame.{Frame}
use Rattle.asl_syntax.specs.declared.frame.Frame.TheVariants as f
use Rattle.asl_parser.specs.declared.state.ParserState.{ParserState}
use Rattle.asl_parser.specs.declared.state.ParserState.TheVariants as st
use Rattle.asl_syntax.specs.Trees.{Tree, Trees, TreeGroup, none, more}
use Rattle.asl_syntax.specs.Grow.{no_subtrees, joined, item, grown, grown_all, grown_in}
use Rattle.asl_syntax.specs.Frames.{depth, start, room}
use Rattle.asl_parser.specs.Machine.{Config, Answer, source, stop, walk, begin, after, element, first_element, step, run}
use Rattle.asl_parser.specs.Machine as m
use Rattle.asl_parser.specs.Grammar.{sign, word, all, MayFollow, Reads, IsSource}
use Rattle.asl_parser.specs.Grammar as g
use Rattle.asl_parser.specs.Front.{IsFrontIn, IsFront}
use Rattle.asl_parser.specs.Depth.{IsShallow, OpensTooMuch}
use Rattle.asl_parser.proofs.Ends.{then_run}
use Rattle.asl_parser.proofs.Complete.{Proper, is_strength, Starts, allowed, Holder, of_source, of_body, holds, expects, wants, infix_ends, infix_step, spelled_is_read}
use Rattle.asl_parser.proofs.Sound.{start_held}
use Rattle.asl_parser.proofs.Stops.{reach, reach_held, reached_is_front}
use Rattle.source_laws.specs.Opens.{Production, expression, behind_word, arguments, argument, brace_list, member, row, count, Opens, OpensInSource, IsFirstTooDeep}
use Rattle.source_laws.specs.Opens as o
use Rattle.source_laws.proofs.Fronts.{weight_of, count_is, no_depth, held_filled, deeper_opens, opens_deeper}
use Rattle.source_laws.proofs.Leads.{go, Comes, here, on, Same, itself, ◌▸◌, stepped, complete, argument_starts, first_argument_starts, list_opens, body_opens, go_on, holder_facts}

-- ---- over a front the machine comes to as much as is open

record Ends (ts : List Mark) (a : ParserState) (fs : List Frame) (much : ℕ) : Type 0 where
  state : ParserState
  frames : List Frame
  comes : Comes [] state frames ts a fs
  is : depth frames ≡ much

-- first to another machine, or to one that takes the next token as it does
leads : (ts mid : List Mark) (a b : ParserState) (fs gs : List Frame) (n much : ℕ) → Same (go ts a fs) (go mid b gs) → Ends mid b gs n → n ≡ much → Ends ts a fs much
leads ts mid a b fs gs n much p e is =
    let rest : Same (go mid b gs) (go [] e.state e.frames) = record { state = e.state; frames = e.frames; comes = e.comes; alike = refl } in
    let whole : Same (go ts a fs) (go [] e.state e.frames) = p ▸ rest in
    record { state = whole.state; frames = whole.frames; comes = whole.comes; is = whole.alike ∙ e.is ∙ is }

-- the end
at_end : (ts : List Mark) (a b : ParserState) (fs gs : List Frame) (much : ℕ) → Same (go ts a fs) (go [] b gs) → depth gs ≡ much → Ends ts a fs much
at_end ts a b fs gs much p is = record { state = p.state; frames = p.frames; comes = p.comes; is = p.alike ∙ is }

begins_so : {n d : ℕ} {rest : List Mark} → Opens (expression n) rest d → (rest ≡ []) ⊎ Starts rest
begins_so o.no_expression = inl refl
begins_so (o.an_expression a b reads) = inr (complete reads).0
begins_so (o.in_item a) = inr refl
begins_so (o.in_brackets a b) = inr refl
begins_so (o.in_index a reads b) = inr (complete reads).0
begins_so (o.in_prefix a b) = inr refl
begins_so (o.in_infix a b reads c) = inr (complete reads).0

holds_same : (n : ℕ) (h : Holder n) (done others : Subtrees) (fs : List Frame) → depth (holds h done ∷ fs) ≡ depth (holds h others ∷ fs)
holds_same n of_source done others fs = refl
holds_same n (of_body p w args) done others fs = refl

abbrev Claim : Production → List Mark → ℕ → Type 0
Claim (expression n) rest d = (fs : List Frame) → n ≤ room fs → Proper fs → Ends rest st.Operand fs (d + depth fs)
Claim behind_word rest d = (p : Spot) (w : List ℕ) (fs : List Frame) → Ends rest (st.Word p w) fs (d + depth fs)
Claim arguments rest d = (p : Spot) (w : List ℕ) (fs : List Frame) → Ends rest st.FirstArgument (f.Args p w no_subtrees ∷ fs) (d + (1 + depth fs))
Claim argument rest d = (p : Spot) (w : List ℕ) (xs : Trees) (fs : List Frame) → Ends rest (wants xs) (f.Args p w (grown_all xs) ∷ fs) (d + (1 + depth fs))
Claim brace_list rest d = (fs : List Frame) → Ends rest st.Argument fs (d + depth fs) × Ends rest st.FirstArgument fs (d + depth fs) × Ends rest st.Element fs (d + depth fs) × Ends rest st.FirstElement fs (d + depth fs)
Claim member rest d = (p : Spot) (xs : Trees) (fs : List Frame) → Ends rest (expects xs) (f.List p (grown_all xs) ∷ fs) (d + (1 + depth fs))
Claim (row n) rest d = (h : Holder n) (fs : List Frame) → Ends rest st.Sequence (holds h no_subtrees ∷ fs) (d + depth (holds h no_subtrees ∷ fs))

item_claim : (p : Spot) (path : Bool) (w : List ℕ) (ms : List Mark) (d : ℕ) → Claim behind_word ms d → (n : ℕ) → Claim (expression n) (word p path w ∷ ms) d
unfolding begin
item_claim p path w ms d inner n fs low proper =
    leads (word p path w ∷ ms) ms st.Operand (st.Word p w) fs fs (d + depth fs) (d + depth fs) (stepped (word p path w) ms st.Operand (st.Word p w) fs fs refl) (inner p w fs) refl

bracket_claim : (n d : ℕ) (p : Spot) (ms : List Mark) → 1 ≤ n → Claim (expression 13) ms d → Claim (expression n) (sign p s.LeftParen ∷ ms) (suc d)
unfolding begin
bracket_claim n d p ms small inner fs low proper =
    leads (sign p s.LeftParen ∷ ms) ms st.Operand st.Operand fs (f.Bracket ∷ fs) (d + (1 + depth fs)) (suc d + depth fs)
    (stepped (sign p s.LeftParen) ms st.Operand st.Operand fs (f.Bracket ∷ fs) (allowed 1 fs (st.Operand, f.Bracket ∷ fs) (omega arith))) (inner (f.Bracket ∷ fs) (omega arith) tt) (omega arith)

index_claim : (n d : ℕ) (p : Spot) (a : Tree) (ms mid : List Mark) → 1 ≤ n → Reads (g.expression 1 a) ms (sign p s.LeftBracket ∷ mid) → Claim (expression 13) mid d → Claim (expression n) ms (suc d)
unfolding after
index_claim n d p a ms mid small reads inner fs low proper =
    let fits : 1 ≤ room fs = omega arith in
    leads ms mid st.Operand st.Operand fs (f.Index p (grown a) ∷ fs) (d + (1 + depth fs)) (suc d + depth fs)
    ((complete reads).1 fs fits proper (omega arith) ▸ stepped (sign p s.LeftBracket) mid (st.Whole (grown a)) st.Operand fs (f.Index p (grown a) ∷ fs) (allowed 1 fs (st.Operand, f.Index p (grown a) ∷ fs) fits))
    (inner (f.Index p (grown a) ∷ fs) (omega arith) tt) (omega arith)

prefix_claim : (n d : ℕ) (p : Spot) (x : Infix) (ms : List Mark) → 2 ≤ n → Claim (expression 2) ms d → Claim (expression n) (sign p (s.Prefix x) ∷ ms) (suc d)
unfolding begin
prefix_claim n d p x ms small inner fs low proper =
    let now : List Frame = f.Pending 2 2 p x no_subtrees ∷ fs in
    leads (sign p (s.Prefix x) ∷ ms) ms st.Operand st.Operand fs now (d + (1 + depth fs)) (suc d + depth fs)
    (stepped (sign p (s.Prefix x)) ms st.Operand st.Operand fs now (allowed 2 fs (st.Operand, now) (omega arith))) (inner now (omega arith) (inr (refl, inl refl))) (omega arith)

arguments_claim : (q : Spot) (ms : List Mark) (d : ℕ) → Claim arguments ms d → Claim behind_word (sign q s.LeftParen ∷ ms) (suc d)
unfolding m.word
arguments_claim q ms d inner p w fs =
    leads (sign q s.LeftParen ∷ ms) ms (st.Word p w) st.FirstArgument fs (f.Args p w no_subtrees ∷ fs) (d + (1 + depth fs)) (suc d + depth fs)
    (stepped (sign q s.LeftParen) ms (st.Word p w) st.FirstArgument fs (f.Args p w no_subtrees ∷ fs) refl) (inner p w fs) (omega arith)

body_claim : (q : Spot) (args : TreeGroup) (ms mid : List Mark) (d : ℕ) → Reads (g.arguments args) ms (sign q s.LeftBrace ∷ mid) → Claim (row 13) mid d → Claim behind_word ms (suc d)
body_claim q args ms mid d reads inner p w fs =
    let now : List Frame = f.Body p w (grown_in args) no_subtrees ∷ fs in
    leads ms mid (st.Word p w) st.Sequence fs now (d + (1 + depth fs)) (suc d + depth fs) (complete reads p w fs ▸ body_opens q p w args mid fs) (inner (of_body p w (grown_in args)) fs) (omega arith)

argument_claim : (rest : List Mark) (d : ℕ) → (rest ≡ []) ⊎ Starts rest → (rest ≡ [] → d ≡ 0) → Claim (expression 13) rest d → Claim argument rest d
argument_claim rest d (inl is) zero inner p w xs fs =
    let nothing : d ≡ 0 = zero is in
    subst (λ r. Ends r (wants xs) (f.Args p w (grown_all xs) ∷ fs) (d + (1 + depth fs))) (sym is) (at_end [] (wants xs) (wants xs) (f.Args p w (grown_all xs) ∷ fs) (f.Args p w (grown_all xs) ∷ fs) (d + (1 + depth fs)) itself (omega arith))
argument_claim rest d (inr starts) zero inner p w xs fs =
    let now : List Frame = f.Args p w (grown_all xs) ∷ fs in
    leads rest rest (wants xs) st.Operand now now (d + (1 + depth fs)) (d + (1 + depth fs)) (by xs) (inner now (omega arith) tt) refl
  where
    by : (ys : Trees) → Same (go rest (wants ys) (f.Args p w (grown_all xs) ∷ fs)) (go rest st.Operand (f.Args p w (grown_all xs) ∷ fs))
    by none = first_argument_starts rest (f.Args p w (grown_all xs) ∷ fs) starts
    by (more ys y) = argument_starts rest (f.Args p w (grown_all xs) ∷ fs) starts

list_argument_claim : (rest : List Mark) (d : ℕ) → Claim brace_list rest d → Claim argument rest d
list_argument_claim rest d inner p w none fs = (inner (f.Args p w (grown_all none) ∷ fs)).1
list_argument_claim rest d inner p w (more xs x) fs = (inner (f.Args p w (grown_all (more xs x)) ∷ fs)).0

list_claim : (q : Spot) (xs : Trees) (ms mid : List Mark) (d : ℕ) → Reads (g.members xs) ms mid → Claim member mid d → Claim brace_list (sign q s.LeftBrace ∷ ms) (suc d)
list_claim q xs ms mid d reads inner fs =
    let now : List Frame = f.List q (grown_all xs) ∷ fs in
    let opens = list_opens q ms fs (go mid (expects xs) now) (complete reads q fs) in
    let end : Ends mid (expects xs) now (d + (1 + depth fs)) = inner q xs fs in (
      leads (sign q s.LeftBrace ∷ ms) mid st.Argument (expects xs) fs now (d + (1 + depth fs)) (suc d + depth fs) opens.0 end (omega arith),
      leads (sign q s.LeftBrace ∷ ms) mid st.FirstArgument (expects xs) fs now (d + (1 + depth fs)) (suc d + depth fs) opens.1 end (omega arith),
      leads (sign q s.LeftBrace ∷ ms) mid st.Element (expects xs) fs now (d + (1 + depth fs)) (suc d + depth fs) opens.2 end (omega arith),
      leads (sign q s.LeftBrace ∷ ms) mid st.FirstElement (expects xs) fs now (d + (1 + depth fs)) (suc d + depth fs) opens.3 end (omega arith),
    )

word_claim : (q : Spot) (v : List ℕ) → Claim member (word q false v ∷ []) 0
unfolding element first_element
word_claim q v p none fs =
    at_end (word q false v ∷ []) st.FirstElement (st.Listed (item q v None None)) (f.List p (grown_all none) ∷ fs) (f.List p (grown_all none) ∷ fs) (0 + (1 + depth fs))
    (stepped (word q false v) [] st.FirstElement (st.Listed (item q v None None)) (f.List p (grown_all none) ∷ fs) (f.List p (grown_all none) ∷ fs) refl) (omega arith)
word_claim q v p (more xs x) fs =
    at_end (word q false v ∷ []) st.Element (st.Listed (item q v None None)) (f.List p (grown_all (more xs x)) ∷ fs) (f.List p (grown_all (more xs x)) ∷ fs) (0 + (1 + depth fs))
    (stepped (word q false v) [] st.Element (st.Listed (item q v None None)) (f.List p (grown_all (more xs x)) ∷ fs) (f.List p (grown_all (more xs x)) ∷ fs) refl) (omega arith)

inner_list_claim : (rest : List Mark) (d : ℕ) → Claim brace_list rest d → Claim member rest d
inner_list_claim rest d inner p none fs = (inner (f.List p (grown_all none) ∷ fs)).3
inner_list_claim rest d inner p (more xs x) fs = (inner (f.List p (grown_all (more xs x)) ∷ fs)).2

next_claim : (n d : ℕ) (done : Trees) (last : Option Tree) (ms mid : List Mark) → Reads (g.sequence n done last) ms mid → MayFollow last mid → Starts mid → Claim (expression n) mid d → Claim (row n) ms d
next_claim n d done last ms mid reads may starts inner h fs =
    let k = go_on n h done last mid fs starts may in
    let now : List Frame = holds h (grown_all (all done last)) ∷ fs in
    let facts = holder_facts n h (grown_all (all done last)) fs in
    leads ms mid st.Sequence st.Operand (holds h no_subtrees ∷ fs) now (d + depth now) (d + depth (holds h no_subtrees ∷ fs)) (complete reads h fs k.0 ▸ k.1) (inner now facts.1 facts.2)
    (ap (λ x. d + x) (holds_same n h (grown_all (all done last)) no_subtrees fs))

starts_next : {n d : ℕ} {t : Mark} {ts : List Mark} → Opens (expression n) (t ∷ ts) d → Starts (t ∷ ts)
starts_next {t = t} {ts = ts} opens = by (begins_so opens)
  where
    by : ((t ∷ ts) ≡ []) ⊎ Starts (t ∷ ts) → Starts (t ∷ ts)
    by (inl e) = absurd cc
    by (inr starts) = starts

claims : {production : Production} {rest : List Mark} {d : ℕ} → Opens production rest d → Claim production rest d
claims o.no_expression = λ fs low proper. at_end [] st.Operand st.Operand fs fs (0 + depth fs) itself (omega arith)
claims (o.an_expression {e = e} {ms = ms} small less reads) = λ fs low proper. at_end ms st.Operand (st.Whole (grown e)) fs fs (0 + depth fs) ((complete reads).1 fs (omega arith) proper small) (omega arith)
claims (o.in_item {n = n} {d = d} {p = p} {path = path} {w = w} {ms = ms} inner) = item_claim p path w ms d (claims inner) n
claims (o.in_brackets {n = n} {d = d} {p = p} {ms = ms} small inner) = bracket_claim n d p ms small (claims inner)
claims (o.in_index {n = n} {d = d} {p = p} {a = a} {ms = ms} {mid = mid} small reads inner) = index_claim n d p a ms mid small reads (claims inner)
claims (o.in_prefix {n = n} {d = d} {p = p} {o = x} {ms = ms} small inner) = prefix_claim n d p x ms small (claims inner)
claims (o.in_infix {d = d} {p = p} {i = i} {o = x} {a = a} {ms = ms} {mid = mid} is small reads inner) = λ fs low proper.
    (let so = is_strength i x is in
    let same : weight_of x ≡ count i = count_is i x is in
    let fits : x.level ≤ room fs = omega arith in
    let now : List Frame = f.Pending x.level x.room p i (joined no_subtrees (grown a)) ∷ fs in
    leads ms mid st.Operand st.Operand fs now (d + (weight_of x + depth fs)) (count i + d + depth fs)
    ((complete reads).1 fs (omega (arith, so.pull_high)) proper (infix_ends i x is) ▸ stepped (sign p (s.Binary i)) mid (st.Whole (grown a)) st.Operand fs now (infix_step p i x (grown a) fs is fits proper))
    (claims inner now (omega arith) so.binds) (omega arith))
claims (o.in_arguments {d = d} {p = q} {ms = ms} inner) = arguments_claim q ms d (claims inner)
claims (o.in_body {d = d} {p = q} {args = args} {ms = ms} {mid = mid} reads inner) = body_claim q args ms mid d reads (claims inner)
claims (o.next_argument {d = d} {xs = xs} {ms = ms} {mid = mid} reads inner) = λ p w fs.
    leads ms mid st.FirstArgument (wants xs) (f.Args p w no_subtrees ∷ fs) (f.Args p w (grown_all xs) ∷ fs) (d + (1 + depth fs)) (d + (1 + depth fs)) (complete reads p w fs) (claims inner p w xs fs) refl
claims (o.an_argument {d = d} {ms = ms} inner) = argument_claim ms d (begins_so inner) (no_depth inner) (claims inner)
claims (o.a_list_argument {d = d} {ms = ms} inner) = list_argument_claim ms d (claims inner)
claims (o.a_list {e = e} {ms = ms} reads) = λ fs. (
  at_end ms st.Argument (st.Listed (grown e)) fs fs (0 + depth fs) (complete reads fs).0 (omega arith),
  at_end ms st.FirstArgument (st.Listed (grown e)) fs fs (0 + depth fs) (complete reads fs).1 (omega arith),
  at_end ms st.Element (st.Listed (grown e)) fs fs (0 + depth fs) (complete reads fs).2 (omega arith),
  at_end ms st.FirstElement (st.Listed (grown e)) fs fs (0 + depth fs) (complete reads fs).3 (omega arith),
)
claims (o.in_list {d = d} {p = q} {xs = xs} {ms = ms} {mid = mid} reads inner) = list_claim q xs ms mid d reads (claims inner)
claims o.no_member = λ p xs fs. at_end [] (expects xs) (expects xs) (f.List p (grown_all xs) ∷ fs) (f.List p (grown_all xs) ∷ fs) (0 + (1 + depth fs)) itself (omega arith)
claims (o.a_word {p = q} {w = v}) = word_claim q v
claims (o.an_inner_list {d = d} {ms = ms} inner) = inner_list_claim ms d (claims inner)
claims (o.no_next {n = n} {done = done} {ms = ms} reads) = λ h fs.
    at_end ms st.Sequence st.Sequence (holds h no_subtrees ∷ fs) (holds h (grown_all done) ∷ fs) (0 + depth (holds h no_subtrees ∷ fs)) (complete reads h fs tt) (omega (arith, holds_same n h (grown_all done) no_subtrees fs))
claims (o.next_expression {n = n} {d = d} {done = done} {last = last} {m = m} {ms = ms} {rest = rest} reads may inner) = next_claim n d done last ms (m ∷ rest) reads may (starts_next inner) (claims inner)

-- ---- one depth

same_end : {b c : ParserState} {gs hs : List Frame} {ts : List Mark} {a : ParserState} {fs : List Frame} → Comes [] b gs ts a fs → Comes [] c hs ts a fs → gs ≡ hs
same_end here here = refl
same_end {c = c} {hs = hs} (on {ts = ts} d e p) (on x k q) =
    let both : Some x ≡ Some d = sym k ∙ e in
    let same : x ≡ d = cc in
    same_end p (subst (λ (z : Config). Comes [] c hs ts z.0 z.1) same q)

ends_source : (ms : List Mark) (d : ℕ) → OpensInSource ms d → Ends ms st.Sequence start d
ends_source ms d opens =
    let e : Ends ms st.Sequence start (d + depth start) = claims opens of_source [] in
    record { state = e.state; frames = e.frames; comes = e.comes; is = e.is ∙ plus_none d }
  where
    plus_none : (n : ℕ) → n + depth start ≡ n
    plus_none n = omega arith

pub one_depth : (ms : List Mark) (d e : ℕ) → OpensInSource ms d → OpensInSource ms e → d ≡ e
one_depth ms d e p q =
    let x = ends_source ms d p in
    let y = ends_source ms e q in
    sym x.is ∙ ap depth (same_end x.comes y.comes) ∙ y.is

-- ---- a front has a depth

comes_reach : {b : ParserState} {gs : List Frame} {ts : List Mark} {a : ParserState} {fs : List Frame} → Comes [] b gs ts a fs → reach ts a fs ≡ Some (b, gs)
unfolding reach
comes_reach here = refl
comes_reach {b = b} {gs = gs} (on {t = t} {ts = ts} {a = a} {fs = fs} d e p) =
    ap (λ (m : Option Config). elim m as (λ z. Option Config) [ None ↦ None | Some c ↦ reach ts c.0 c.1 ]) e ∙ comes_reach p

pub opens_front : (ms : List Mark) (d : ℕ) → OpensInSource ms d → IsFront ms
opens_front ms d opens = let x = ends_source ms d opens in reached_is_front ms [] (x.state, x.frames) (comes_reach x.comes)

record Reaches (front : List Mark) (a : ParserState) (fs : List Frame) : Type 0 where
  at : Config
  is : reach front a fs ≡ Some at

read_on : (t : Mark) (front behind : List Mark) (a : ParserState) (fs : List Frame) (items : Subtrees) (o : Option Config) → step t a fs ≡ o → then_run t (front ++ behind) o ≡ source items
    → ((b : ParserState) (gs : List Frame) → run (front ++ behind) b gs ≡ source items → Reaches front b gs) → Reaches (t ∷ front) a fs
unfolding then_run reach
read_on t front behind a fs items None is e below = absurd cc
read_on t front behind a fs items (Some c) is e below =
    let k = below c.0 c.1 e in
    record { at = k.at; is = ap (λ (m : Option Config). elim m as (λ z. Option Config) [ None ↦ None | Some x ↦ reach front x.0 x.1 ]) is ∙ k.is }

read_reaches : (front behind : List Mark) (a : ParserState) (fs : List Frame) (items : Subtrees) → run (front ++ behind) a fs ≡ source items → Reaches front a fs
unfolding walk then_run reach
read_reaches [] behind a fs items e = record { at = (a, fs); is = refl }
read_reaches (t ∷ front) behind a fs items e = read_on t front behind a fs items (step t a fs) refl e (λ b gs h. read_reaches front behind b gs items h)

pub front_opens : (ms : List Mark) → IsFront ms → (d : ℕ) × OpensInSource ms d
front_opens ms front =
    let r = read_reaches ms front.behind st.Sequence start (grown_all front.trees) (spelled_is_read front.trees (ms ++ front.behind) front.source) in
    let begun : IsFrontIn st.Sequence start ms (ms ++ []) = subst (λ us. IsFrontIn st.Sequence start ms us) (sym (append-nil ms)) (start_held ms) in
    let k = held_filled r.at.0 r.at.1 ms (reach_held ms [] st.Sequence start ms r.at begun r.is) in
    (k.depth_is, k.opens)

-- ---- too deep

pub first_too_deep : (limit : ℕ) (ms : List Mark) (k : ℕ) → OpensTooMuch limit ms k → IsFirstTooDeep limit ms k
first_too_deep limit ms k x =
    let deep = deeper_opens limit (take (suc k) ms) x.deeper in
    record {
      within = x.within;
      depth = deep.0;
      opens = deep.2;
      above = deep.1;
      first = λ j d less opens. elim (cases_lt limit d) [ inl above ↦ absurd (x.first j less (opens_deeper limit (take j ms) d above opens)) | inr low ↦ low ];
    }

pub too_much_open : (limit : ℕ) (ms : List Mark) (k : ℕ) → IsFirstTooDeep limit ms k → OpensTooMuch limit ms k
too_much_open limit ms k x = record {
  within = x.within;
  front = opens_front (take (suc k) ms) x.depth x.opens;
  deeper = opens_deeper limit (take (suc k) ms) x.depth x.above x.opens;
  first = λ j less deeper. (let d = deeper_opens limit (take j ms) deeper in let low = x.first j d.0 less d.2 in omega (arith, d.1, low));
}

-- no front has more open than the limit
pub shallow_opens : (limit : ℕ) (ms : List Mark) → IsShallow limit ms → (j d : ℕ) → OpensInSource (take j ms) d → d ≤ limit
shallow_opens limit ms shallow j d opens = elim (cases_lt limit d) [ inl above ↦ absurd (shallow j (opens_deeper limit (take j ms) d above opens)) | inr low ↦ low ]

pub opens_shallow : (limit : ℕ) (ms : List Mark) → ((j d : ℕ) → OpensInSource (take j ms) d → d ≤ limit) → IsShallow limit ms
opens_shallow limit ms low j deeper = let d = deeper_opens limit (take j ms) deeper in let less = low j d.0 d.2 in omega (arith, d.1, less)
