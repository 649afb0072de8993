-- Where the reading stops, the longest front ends.
use Rattle.std.proofs.Common.{◌≡◌, ℕ, suc, ◌+◌, ◌-◌, ◌≤◌, ◌<◌, false, List, [], ◌∷◌, ◌++◌, Option, Some, None, refl, sym, ap, subst, ◌∙◌, arith}
use Rattle.asl_syntax.specs.declared.sign.Sign.{Sign}
use Rattle.asl_syntax.specs.declared.sign.Sign.TheVariants as s
use Rattle.asl_syntax.specs.declared.mark.Spot.{Spot}
use Rattle.asl_syntax.specs.declared.mark.Mark.{Mark}
use Rattle.asl_syntax.specs.declared.raw.Infix.{Infix}
use Rattle.asl_syntax.specs.declared.raw.Infix.TheVariants as op
use Rattle.asl_syntax.specs.declared.subtree.Subtree.{Subtree}
use Rattle.asl_syntax.specs.declared.subtree.Subtrees.{Subtrees}
use Rattle.asl_syntax.specs.declared.frame.Frame.{Frame}
use Rattle.asl_syntax.specs.declared.frame.Frame.TheVariants as f
use Rattle.asl_parser.specs.declared.state.ParserState.{ParserState}
use Rattle.asl_parser.specs.declared.state.ParserState.TheVariants as st
use Rattle.asl_syntax.specs.Trees.{Tree, Trees, TreeGroup, none, more, absent}
use Rattle.asl_syntax.specs.Trees as t
use Rattle.asl_syntax.specs.Grow.{no_subtrees, joined, applied, item, grown, grown_all, grown_in}
use Rattle.asl_syntax.specs.Frames.{start, room}
use Rattle.asl_parser.specs.Machine.{Config, Answer, source, stop, deep, walk, within, settle, begin, sequence, listed, after, argument, first_argument, element, first_element, step, run, finish, finish_whole, close_source}
use Rattle.asl_parser.specs.Grammar.{at, sign, word, Phrase, expression, arguments, body, given, before, brace_list, members, member, sequence as row_of, all, is_paren, opens_paren, MayFollow, Reads, IsSource}
use Rattle.asl_parser.specs.Grammar as g
use Rattle.std.proofs.Common.{length, take, drop, append_assoc}
use Rattle.std.proofs.lemmas.List.{take_at, length-append, length-drop}
use Rattle.std.proofs.Math.Seq.{take-append-add}
use Rattle.asl_parser.specs.Front.{LeavesOpen, TakesList, TakesExpression, Suits, TakesElement, FirstArgument, FirstElement, NextArgument, Ready, ReadySubtree, ReadyMember, Named, CalledWord, IsFrontIn, IsFront, IsLongestFront}
use Rattle.asl_parser.specs.Front as h
use Rattle.asl_parser.proofs.Ends.{Ends, Ends-less, then_run, run_more}
use Rattle.asl_parser.proofs.Complete.{is_strength, run_item_done, spelled_is_read}
use Rattle.asl_parser.proofs.Sound.{room_takes, Keeps, step_keeps, start_held, read_is_spelled}

-- ---- what is open can be closed

-- where tokens that close what is open stand
nowhere : Spot
nowhere = record { token = 0; place = record { file = 0; line = 0; column = 0 } }

record Closing (a : ParserState) (fs : List Frame) : Type 0 where
  behind : List Mark
  items : Subtrees
  is : run behind a fs ≡ source items
  ends : Ends 13 behind

-- one more token before the rest
closed_by : (x : Sign) (a b : ParserState) (fs gs : List Frame) → step (sign nowhere x) a fs ≡ Some (b, gs) → ((ts : List Mark) → Ends 13 (sign nowhere x ∷ ts)) → Closing b gs → Closing a fs
unfolding walk then_run
closed_by x a b fs gs e ends c = record { behind = sign nowhere x ∷ c.behind; items = c.items; is = ap (then_run (sign nowhere x) c.behind) e ∙ c.is; ends = ends c.behind }

called_closing : (p : Spot) (w : List ℕ) (args : Trees) (fs : List Frame) → Closing (st.Whole (grown (t.an_item p w (t.given args) absent))) fs → Closing (st.Called p w (grown_all args)) fs
called_closing p w args fs c = record { behind = c.behind; items = c.items; is = run_item_done p w (t.given args) absent c.behind fs (Ends-less 0 13 c.behind (omega arith) c.ends) ∙ c.is; ends = c.ends }

word_closing : (p : Spot) (w : List ℕ) (fs : List Frame) → Closing (st.Whole (grown (t.an_item p w absent absent))) fs → Closing (st.Word p w) fs
word_closing p w fs c = record { behind = c.behind; items = c.items; is = run_item_done p w absent absent c.behind fs (Ends-less 0 13 c.behind (omega arith) c.ends) ∙ c.is; ends = c.ends }

applied_closing : (level most : ℕ) (p : Spot) (o : Infix) (xs : Subtrees) (e : Subtree) (fs : List Frame) → 2 ≤ level → level ≤ 13 → Closing (st.Whole (applied p o xs e)) fs
    → Closing (st.Whole e) (f.Pending level most p o xs ∷ fs)
applied_closing level most p o xs e fs low high c = record { behind = c.behind; items = c.items; is = run_more c.behind level most p o xs e fs low high (Ends-less level 13 c.behind high c.ends) ∙ c.is; ends = c.ends }

whole_closes : {fs : List Frame} {ts mid : List Mark} → LeavesOpen fs ts mid → TakesExpression fs → (e : Tree) → Closing (st.Whole (grown e)) fs
unfolding walk after settle finish_whole sequence listed
whole_closes (h.in_source {done = done} {last = last} row may) takes e = record { behind = []; items = grown_all (more (all done last) e); is = refl; ends = tt }
whole_closes (h.in_arguments {p = p} {w = w} {done = done} {fs = fs} inner leaves front) takes e =
    closed_by s.RightParen (st.Whole (grown e)) (st.Called p w (grown_all (more done e))) (f.Args p w (grown_all done) ∷ fs) fs refl (λ ts. omega arith)
    (called_closing p w (more done e) fs (whole_closes leaves inner (t.an_item p w (t.given (more done e)) absent)))
whole_closes (h.in_body {p = p} {w = w} {args = args} {done = done} {last = last} {fs = fs} inner leaves asked row may) takes e =
    closed_by s.RightBrace (st.Whole (grown e)) (st.Whole (grown (t.an_item p w args (t.given (more (all done last) e))))) (f.Body p w (grown_in args) (grown_all (all done last)) ∷ fs) fs refl (λ ts. omega arith)
    (whole_closes leaves inner (t.an_item p w args (t.given (more (all done last) e))))
whole_closes (h.in_bracket {fs = fs} low leaves) takes e =
    closed_by s.RightParen (st.Whole (grown e)) (st.Whole (grown e)) (f.Bracket ∷ fs) fs refl (λ ts. omega arith) (whole_closes leaves (room_takes 0 fs low) e)
whole_closes (h.in_index {p = p} {a = a} {fs = fs} low leaves left) takes e =
    closed_by s.RightBracket (st.Whole (grown e)) (st.Whole (grown (t.a_pair p op.Index a e))) (f.Index p (grown a) ∷ fs) fs refl (λ ts. omega arith) (whole_closes leaves (room_takes 0 fs low) (t.a_pair p op.Index a e))
whole_closes (h.in_prefix {p = p} {o = o} {fs = fs} low leaves) takes e =
    applied_closing 2 2 p o no_subtrees (grown e) fs (omega arith) (omega arith) (whole_closes leaves (room_takes 1 fs low) (t.a_prefix p o e))
whole_closes (h.in_infix {p = p} {i = i} {o = o} {a = a} {fs = fs} is low leaves left) takes e =
    let so = is_strength i o is in
    let some : suc (o.level - 1) ≤ room fs = omega (arith, so.low) in
    applied_closing o.level o.room p i (joined no_subtrees (grown a)) (grown e) fs (omega (arith, so.low)) so.high (whole_closes leaves (room_takes (o.level - 1) fs some) (t.a_pair p i a e))
whole_closes (h.in_list takes-list leaves others) takes e = absurd takes

listed_closes : {fs : List Frame} {ts mid : List Mark} → LeavesOpen fs ts mid → TakesList fs → (e : Tree) → Closing (st.Listed (grown e)) fs
unfolding listed
listed_closes (h.in_arguments {p = p} {w = w} {done = done} {fs = fs} inner leaves front) takes e =
    closed_by s.RightParen (st.Listed (grown e)) (st.Called p w (grown_all (more done e))) (f.Args p w (grown_all done) ∷ fs) fs refl (λ ts. omega arith)
    (called_closing p w (more done e) fs (whole_closes leaves inner (t.an_item p w (t.given (more done e)) absent)))
listed_closes (h.in_list {p = p} {done = done} {fs = fs} takes-list leaves others) takes e =
    closed_by s.RightBrace (st.Listed (grown e)) (st.Listed (grown (t.a_list p (more done e)))) (f.List p (grown_all done) ∷ fs) fs refl (λ ts. omega arith) (listed_closes leaves takes-list (t.a_list p (more done e)))
listed_closes (h.in_source row may) takes e = absurd takes
listed_closes (h.in_body a b c d i) takes e = absurd takes
listed_closes (h.in_bracket a b) takes e = absurd takes
listed_closes (h.in_index a b c) takes e = absurd takes
listed_closes (h.in_prefix a b) takes e = absurd takes
listed_closes (h.in_infix a b c d) takes e = absurd takes

-- some tokens after which the machine accepts
record Accepted (a : ParserState) (fs : List Frame) : Type 0 where
  behind : List Mark
  items : Subtrees
  is : run behind a fs ≡ source items

accepted : (a : ParserState) (fs : List Frame) → Closing a fs → Accepted a fs
accepted a fs c = record { behind = c.behind; items = c.items; is = c.is }

with_word : (a : ParserState) (fs : List Frame) → step (word nowhere false []) a fs ≡ Some (st.Word nowhere [], fs) → Closing (st.Whole (grown (t.an_item nowhere [] absent absent))) fs → Accepted a fs
unfolding walk then_run
with_word a fs e c =
    let d = word_closing nowhere [] fs c in
    record { behind = word nowhere false [] ∷ d.behind; items = d.items; is = ap (then_run (word nowhere false []) d.behind) e ∙ d.is }

with_step : (t : Mark) (a b : ParserState) (fs gs : List Frame) → step t a fs ≡ Some (b, gs) → Closing b gs → Accepted a fs
unfolding walk then_run
with_step t a b fs gs e c = record { behind = t ∷ c.behind; items = c.items; is = ap (then_run t c.behind) e ∙ c.is }

suits_takes : (fs : List Frame) (e : Tree) (ts rest : List Mark) → Suits fs e ts rest → TakesList fs
suits_takes (f.Args p w done ∷ fs) e ts rest h = tt
suits_takes (f.List p done ∷ fs) e ts rest h = tt
suits_takes _ e ts rest h = absurd h

first_element_accepts : {fs : List Frame} {ts rest : List Mark} → FirstElement fs ts rest → Accepted st.FirstElement fs
unfolding first_element
first_element_accepts (h.first_element {p = p} {fs = fs} takes leaves) =
    with_step (sign nowhere s.RightBrace) st.FirstElement (st.Listed (grown (t.a_list p none))) (f.List p no_subtrees ∷ fs) fs refl (listed_closes leaves takes (t.a_list p none))

first_argument_accepts : {fs : List Frame} {ts rest : List Mark} → FirstArgument fs ts rest → Accepted st.FirstArgument fs
unfolding first_argument argument begin
first_argument_accepts (h.first_argument {p = p} {w = w} {fs = fs} inner leaves) =
    with_word st.FirstArgument (f.Args p w no_subtrees ∷ fs) refl (whole_closes (h.in_arguments inner leaves g.none_before) tt (t.an_item nowhere [] absent absent))

argument_accepts : {fs : List Frame} {ts rest : List Mark} → NextArgument fs ts rest → Accepted st.Argument fs
unfolding argument begin
argument_accepts (h.next_argument {p = p} {w = w} {done = done} {x = x} {fs = fs} inner leaves front) =
    with_word st.Argument (f.Args p w (grown_all (more done x)) ∷ fs) refl (whole_closes (h.in_arguments inner leaves front) tt (t.an_item nowhere [] absent absent))

element_accepts : (fs : List Frame) (ts rest : List Mark) → LeavesOpen fs ts rest → TakesElement fs → Accepted st.Element fs
unfolding element
element_accepts (f.List p done ∷ fs) ts rest leaves takes =
    with_step (word nowhere false []) st.Element (st.Listed (grown (t.an_item nowhere [] absent absent))) (f.List p done ∷ fs) (f.List p done ∷ fs) refl (listed_closes leaves tt (t.an_item nowhere [] absent absent))
element_accepts _ ts rest leaves takes = absurd takes

called_accepts : (p : Spot) (w : List ℕ) (args : Subtrees) (fs : List Frame) (ts rest : List Mark) → CalledWord p w args fs ts rest → Accepted (st.Called p w args) fs
called_accepts p w args fs ts rest asked =
    subst (λ (b : Subtrees). Accepted (st.Called p w b) fs) asked.are
    (accepted (st.Called p w (grown_all asked.trees)) fs (called_closing p w asked.trees fs (whole_closes asked.leaves asked.takes (t.an_item p w (t.given asked.trees) absent))))

accepts : (a : ParserState) (fs : List Frame) (ts rest : List Mark) → IsFrontIn a fs ts rest → Accepted a fs
unfolding begin sequence
accepts st.Operand fs ts rest held = with_word st.Operand fs refl (whole_closes held.0 held.1 (t.an_item nowhere [] absent absent))
accepts st.Sequence fs ts rest held = with_word st.Sequence fs refl (whole_closes held.0 held.1 (t.an_item nowhere [] absent absent))
accepts st.FirstArgument fs ts rest held = first_argument_accepts held
accepts st.Argument fs ts rest held = argument_accepts held
accepts st.FirstElement fs ts rest held = first_element_accepts held
accepts st.Element fs ts rest held = element_accepts fs ts rest held.0 held.1
accepts (st.Word p w) fs ts rest held = accepted (st.Word p w) fs (word_closing p w fs (whole_closes held.leaves held.takes (t.an_item p w absent absent)))
accepts (st.Called p w args) fs ts rest held = called_accepts p w args fs ts rest held
accepts (st.Whole b) fs ts rest held = subst (λ (x : Subtree). Accepted (st.Whole x) fs) held.is (accepted (st.Whole (grown held.tree)) fs (whole_closes held.ready.leaves held.ready.takes held.tree))
accepts (st.Listed b) fs ts rest held =
    subst (λ (x : Subtree). Accepted (st.Listed x) fs) held.is (accepted (st.Listed (grown held.tree)) fs (listed_closes held.leaves (suits_takes fs held.tree held.mid rest held.suits) held.tree))

-- ---- where a run stops

-- the configuration behind these tokens
unfoldable pub reach : List Mark → ParserState → List Frame → Option Config
reach [] a fs = Some (a, fs)
reach (t ∷ ts) a fs = elim (step t a fs) [ None ↦ None | Some c ↦ reach ts c.0 c.1 ]

then_reach : List Mark → Option Config → Option Config
then_reach ts c = elim c [ None ↦ None | Some d ↦ reach ts d.0 d.1 ]

run_on : (t : Mark) (front behind : List Mark) (m : Option Config) (c : Config) → then_reach front m ≡ Some c
    → ((a : ParserState) (fs : List Frame) → reach front a fs ≡ Some c → run (front ++ behind) a fs ≡ run behind c.0 c.1) → then_run t (front ++ behind) m ≡ run behind c.0 c.1
unfolding then_reach then_run
run_on t front behind None c e ih = absurd cc
run_on t front behind (Some d) c e ih = ih d.0 d.1 e

pub reach_run : (front behind : List Mark) (a : ParserState) (fs : List Frame) (c : Config) → reach front a fs ≡ Some c → run (front ++ behind) a fs ≡ run behind c.0 c.1
unfolding reach walk then_reach then_run
reach_run [] behind a fs c e = let e' : c ≡ (a, fs) = cc in ap (λ (d : Config). run behind d.0 d.1) (sym e')
reach_run (t ∷ front) behind a fs c e = run_on t front behind (step t a fs) c e (λ b gs h. reach_run front behind b gs c h)

held_on : (front rest : List Mark) (m : Option Config) (ts : List Mark) (c : Config) → Keeps m ts (front ++ rest) → then_reach front m ≡ Some c
    → ((a : ParserState) (fs : List Frame) → IsFrontIn a fs ts (front ++ rest) → reach front a fs ≡ Some c → IsFrontIn c.0 c.1 ts rest) → IsFrontIn c.0 c.1 ts rest
unfolding then_reach
held_on front rest None ts c keeps e ih = absurd cc
held_on front rest (Some d) ts c keeps e ih = ih d.0 d.1 keeps e

pub reach_held : (front rest : List Mark) (a : ParserState) (fs : List Frame) (ts : List Mark) (c : Config) → IsFrontIn a fs ts (front ++ rest) → reach front a fs ≡ Some c → IsFrontIn c.0 c.1 ts rest
unfolding reach then_reach
reach_held [] rest a fs ts c held e = let e' : (a, fs) ≡ c = cc in subst (λ (d : Config). IsFrontIn d.0 d.1 ts rest) e' held
reach_held (t ∷ front) rest a fs ts c held e = held_on front rest (step t a fs) ts c (step_keeps t a fs ts (front ++ rest) held) e (λ b gs others h. reach_held front rest b gs ts c others h)

abbrev pub Refused : Config → List Mark → Type 0
Refused c [] = Unit {0}
Refused c (t ∷ ts) = step t c.0 c.1 ≡ None

pub record Stopped (ts : List Mark) (a : ParserState) (fs : List Frame) (rest : List Mark) : Type 0 where
  pub front : List Mark
  pub at : Config
  pub parts : ts ≡ front ++ rest
  pub reached : reach front a fs ≡ Some at
  pub refused : Refused at rest

abbrev StopsEmpty : Answer → Type 0
StopsEmpty (source items) = Unit {0}
StopsEmpty (stop rest) = rest ≡ []
StopsEmpty (deep rest) = Unit {0}

close_stops : (e : Subtree) (fs : List Frame) → StopsEmpty (close_source e fs)
close_stops e (f.Unit done ∷ []) = tt
close_stops e _ = refl

finish_stops : (a : ParserState) (fs : List Frame) → StopsEmpty (finish a fs)
unfolding finish_whole
finish_stops st.Sequence (f.Unit done ∷ []) = tt
finish_stops (st.Word p w) fs = close_stops (settle 13 (item p w None None) fs).0 (settle 13 (item p w None None) fs).1
finish_stops (st.Called p w args) fs = close_stops (settle 13 (item p w (Some args) None) fs).0 (settle 13 (item p w (Some args) None) fs).1
finish_stops (st.Whole e) fs = close_stops (settle 13 e fs).0 (settle 13 e fs).1
finish_stops _ _ = refl

stops_by : (t : Mark) (ts : List Mark) (a : ParserState) (fs : List Frame) (m : Option Config) (rest : List Mark) → step t a fs ≡ m → then_run t ts m ≡ stop rest
    → ((b : ParserState) (gs : List Frame) → run ts b gs ≡ stop rest → Stopped ts b gs rest) → Stopped (t ∷ ts) a fs rest
unfolding then_run reach then_reach
stops_by t ts a fs None rest is e ih =
    let same : t ∷ ts ≡ rest = cc in
    subst (λ (r : List Mark). Stopped (t ∷ ts) a fs r) same (record { front = []; at = (a, fs); parts = refl; reached = refl; refused = is })
stops_by t ts a fs (Some c) rest is e ih =
    let k = ih c.0 c.1 e in
    record { front = t ∷ k.front; at = k.at; parts = ap (λ (r : List Mark). t ∷ r) k.parts; reached = ap (then_reach k.front) is ∙ k.reached; refused = k.refused }

pub stops : (ts : List Mark) (a : ParserState) (fs : List Frame) (rest : List Mark) → run ts a fs ≡ stop rest → Stopped ts a fs rest
unfolding walk then_run reach
stops [] a fs rest e =
    let empty : rest ≡ [] = subst StopsEmpty e (finish_stops a fs) in
    subst (λ (r : List Mark). Stopped [] a fs r) (sym empty) (record { front = []; at = (a, fs); parts = refl; reached = refl; refused = tt })
stops (t ∷ ts) a fs rest e = stops_by t ts a fs (step t a fs) rest refl e (λ b gs h. stops ts b gs rest h)

-- ---- the longest front

abbrev started : List Mark → Answer
started ts = run ts st.Sequence start

pub reached_is_front : (front rest : List Mark) (c : Config) → reach front st.Sequence start ≡ Some c → IsFront front
reached_is_front front rest c e =
    let held = reach_held front rest st.Sequence start (front ++ rest) c (start_held (front ++ rest)) e in
    let a = accepts c.0 c.1 (front ++ rest) rest held in
    let told = read_is_spelled a.items (front ++ a.behind) (reach_run front a.behind st.Sequence start c e ∙ a.is) in
    record { behind = a.behind; trees = told.trees; source = told.source }

no_longer : (front : List Mark) (t : Mark) (behind : List Mark) (c : Config) (trees : Trees) → reach front st.Sequence start ≡ Some c → step t c.0 c.1 ≡ None → IsSource trees (front ++ t ∷ behind) → ⊥
unfolding walk then_run
no_longer front t behind c trees e refused spelled =
    let read = spelled_is_read trees (front ++ t ∷ behind) spelled in
    let stopped : started (front ++ t ∷ behind) ≡ stop (t ∷ behind) = reach_run front (t ∷ behind) st.Sequence start c e ∙ ap (then_run t behind) refused in
    let both : source (grown_all trees) ≡ stop (t ∷ behind) = sym read ∙ stopped in cc

take_beyond : (front : List Mark) (t : Mark) (rest : List Mark) (n : ℕ) → length front < n → take n (front ++ t ∷ rest) ≡ front ++ t ∷ take (n - suc (length front)) rest
take_beyond front t rest n h =
    let e : n ≡ length front + suc (n - suc (length front)) = omega arith in
    ap (λ (k : ℕ). take k (front ++ t ∷ rest)) e ∙ take-append-add front (t ∷ rest) (suc (n - suc (length front)))

none_longer : (front rest : List Mark) (c : Config) → reach front st.Sequence start ≡ Some c → Refused c rest → (n : ℕ) → length front < n → n ≤ length (front ++ rest) → IsFront (take n (front ++ rest)) → ⊥
none_longer front [] c e refused n h within is = omega (arith, length-append front [])
none_longer front (t ∷ rest) c e refused n h within is =
    let beyond = take_beyond front t rest n h in
    let others = take (n - suc (length front)) rest in
    let spelled : IsSource is.trees (front ++ t ∷ (others ++ is.behind)) = subst (λ (ts : List Mark). IsSource is.trees ts) (ap (λ (ts : List Mark). ts ++ is.behind) beyond ∙ append_assoc front (t ∷ others) is.behind) is.source in
    no_longer front t (others ++ is.behind) c is.trees e refused spelled

pub is_longest_front : (ts : List Mark) (k : ℕ) → k ≤ length ts → started ts ≡ stop (drop k ts) → IsLongestFront ts k
is_longest_front ts k within e =
    let s = stops ts st.Sequence start (drop k ts) e in
    let len : length s.front ≡ k = omega (arith, ap length s.parts, length-append s.front (drop k ts), length-drop k ts) in
    let front-is : take k ts ≡ s.front = ap (take k) s.parts ∙ take_at s.front (drop k ts) k len in
    let beyond : (n : ℕ) → k < n → n ≤ length ts → IsFront (take n ts) → ⊥ = λ n h w is.
    none_longer s.front (drop k ts) s.at s.reached s.refused n (omega (arith, len)) (omega (arith, ap length s.parts)) (subst (λ (us : List Mark). IsFront (take n us)) s.parts is) in
    let no_tree : (trees : Trees) → IsSource trees ts → ⊥ = λ trees spelled. (let both : source (grown_all trees) ≡ stop (drop k ts) = sym (spelled_is_read trees ts spelled) ∙ e in cc) in
    record { within = within; front = rw front-is (reached_is_front s.front (drop k ts) s.at s.reached); longest = beyond; no_source = no_tree }
