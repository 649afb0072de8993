-- The first token at which too much is open.
use Rattle.std.proofs.Common.{◌≡◌, ℕ, suc, ◌-◌, ◌≤◌, ◌<◌, Bool, true, false, cond, List, [], ◌∷◌, ◌++◌, Option, Some, None, refl, sym, ap, subst, ◌∙◌, inl, inr, arith}
use Rattle.std.proofs.lemmas.Bool.{le-leb, leb-true, lt-leb}
use Rattle.asl_syntax.specs.declared.sign.Sign.TheVariants as s
use Rattle.asl_syntax.specs.declared.mark.Spot.{Spot}
use Rattle.asl_syntax.specs.declared.mark.Mark.{Mark}
use Rattle.asl_syntax.specs.declared.raw.Infix.{Infix}
use Rattle.asl_syntax.specs.declared.subtree.Subtree.{Subtree}
use Rattle.asl_syntax.specs.declared.subtree.Subtrees.{Subtrees}
use Rattle.asl_syntax.specs.declared.frame.Frame.{Frame}
use Rattle.asl_syntax.specs.declared.frame.Frame.TheVariants as f
use Rattle.asl_parser.specs.declared.state.ParserState.{ParserState}
use Rattle.asl_parser.specs.declared.state.ParserState.TheVariants as st
use Rattle.asl_syntax.specs.Trees.{Tree, Trees, none, more}
use Rattle.asl_syntax.specs.Grow.{no_subtrees, joined, grown, grown_all, grown_in}
use Rattle.asl_syntax.specs.Frames.{depth, start, room}
use Rattle.asl_parser.specs.Machine.{Config, Answer, source, stop, deep, walk, unlimited, within, allow, settle, begin, begin_by, begin_sign, operator, sequence, sequence_by, sequence_sign, listed, listed_by, enclosed, enclosed_by}
use Rattle.asl_parser.specs.Machine.{after, after_by, after_lexeme, word_by, called_by, argument, argument_by, first_argument, first_argument_by, element, element_by, first_element, first_element_by, step, run, finish, finish_whole, close_source}
use Rattle.asl_parser.specs.Machine as m
use Rattle.asl_parser.specs.Grammar.{at, sign, word, Phrase, expression, arguments, body, given, before, brace_list, members, member, sequence as row_of, all, is_paren, opens_paren, MayFollow, Reads, IsSource}
use Rattle.asl_parser.specs.Grammar as g
use Rattle.std.proofs.Common.{length, take, drop, zero}
use Rattle.std.proofs.lemmas.List.{take_at, length-append, length-drop, append-nil, take-append-le}
use Rattle.std.proofs.lemmas.Bool.{leb-false}
use Rattle.asl_parser.specs.Front.{LeavesOpen, TakesList, TakesExpression, Suits, FirstArgument, FirstElement, NextArgument, IsFrontIn, IsFront}
use Rattle.asl_parser.specs.Front as h
use Rattle.asl_parser.specs.Depth.{IsDeeper, OpensTooMuch, IsShallow}
use Rattle.asl_parser.proofs.Ends.{Ends}
use Rattle.asl_parser.proofs.Complete.{Same, same, cut, ◌▸◌, go, goes_on, stepped, allowed, then_go, complete, go_on, argument_starts, first_argument_starts, list_opens, body_opens, Starts, Follows, Proper, of_source, of_body, Holder, holds, expects, wants, is_strength, infix_step, infix_ends, NotDeep, finish_never}
use Rattle.asl_parser.proofs.Sound.{start_held, room_takes}
use Rattle.asl_parser.proofs.Stops.{reach, reach_held, reached_is_front}

proper : {fs : List Frame} {ts rest : List Mark} → LeavesOpen fs ts rest → Proper fs
proper (h.in_prefix low leaves) = inr (refl, inl refl)
proper (h.in_infix {i = i} {o = o} is low leaves left) = (is_strength i o is).binds
proper (h.in_source row may) = tt
proper (h.in_arguments a b c) = tt
proper (h.in_body a b c d i) = tt
proper (h.in_bracket a b) = tt
proper (h.in_index a b c) = tt
proper (h.in_list a b c) = tt

abbrev Begins : List Mark → Type 0
Begins [] = Unit {0}
Begins (t ∷ ts) = Starts (t ∷ ts)

-- the end, or the beginning of an expression, where expressions stand in a row
abbrev Comes : List Frame → List Mark → Type 0
Comes (f.Unit done ∷ fs) rest = Begins rest
Comes (f.Body p w args done ∷ fs) rest = Begins rest
Comes _ rest = Unit {0}

starts_begin : (rest : List Mark) → Starts rest → Begins rest
starts_begin [] h = tt
starts_begin (t ∷ ts) h = h

starts_comes : (fs : List Frame) (rest : List Mark) → Starts rest → Comes fs rest
starts_comes (f.Unit done ∷ fs) rest h = starts_begin rest h
starts_comes (f.Body p w args done ∷ fs) rest h = starts_begin rest h
starts_comes [] rest h = tt
starts_comes (_ ∷ fs) rest h = tt

list_comes : (fs : List Frame) (rest : List Mark) → TakesList fs → Comes fs rest
list_comes (f.Args p w done ∷ fs) rest h = tt
list_comes (f.List p done ∷ fs) rest h = tt
list_comes _ rest h = absurd h

word_begins : (p : Spot) (path : Bool) (w : List ℕ) (fs : List Frame) → step (word p path w) st.Operand fs ≡ Some (st.Word p w, fs)
unfolding begin
word_begins p path w fs = refl

word_opens : (q p : Spot) (w : List ℕ) (fs : List Frame) → step (sign q s.LeftParen) (st.Word p w) fs ≡ Some (st.FirstArgument, f.Args p w no_subtrees ∷ fs)
unfolding m.word
word_opens q p w fs = refl

bracket_opens : (q : Spot) (fs : List Frame) → 1 ≤ room fs → step (sign q s.LeftParen) st.Operand fs ≡ Some (st.Operand, f.Bracket ∷ fs)
unfolding begin
bracket_opens q fs h = allowed 1 fs (st.Operand, f.Bracket ∷ fs) h

prefix_opens : (q : Spot) (o : Infix) (fs : List Frame) → 2 ≤ room fs → step (sign q (s.Prefix o)) st.Operand fs ≡ Some (st.Operand, f.Pending 2 2 q o no_subtrees ∷ fs)
unfolding begin
prefix_opens q o fs h = allowed 2 fs (st.Operand, f.Pending 2 2 q o no_subtrees ∷ fs) h

index_opens : (p : Spot) (a : Subtree) (fs : List Frame) → 1 ≤ room fs → step (sign p s.LeftBracket) (st.Whole a) fs ≡ Some (st.Operand, f.Index p a ∷ fs)
unfolding after
index_opens p a fs h = allowed 1 fs (st.Operand, f.Index p a ∷ fs) h

list_ends : (p : Spot) (ts : List Mark) → Ends 1 (sign p s.LeftBracket ∷ ts)
list_ends p ts = omega arith

module _ (ok : ℕ → Bool) (mono : (m n : ℕ) → m ≤ n → ok n ≡ true → ok m ≡ true) where
  -- the machine comes to the frames that are open, or meets too many before
  record Entered (fs : List Frame) (ts rest : List Mark) : Type 0 where
    state : ParserState
    stack : List Frame
    comes : Same (go ok mono ts st.Sequence start) (go ok mono rest state stack)
    depth-is : depth stack ≡ depth fs
    begins : TakesExpression fs → Starts rest → Same (go ok mono rest state stack) (go ok mono rest st.Operand fs)
    lists : TakesList fs → (p : Spot) (mid : List Mark) → rest ≡ sign p s.LeftBrace ∷ mid → Same (go ok mono rest state stack) (go ok mono mid st.FirstElement (f.List p no_subtrees ∷ fs))

  row_entered : (n : ℕ) (holder : Holder n) (row : Trees) (last : Option Tree) (fs : List Frame) (ts rest : List Mark) → MayFollow last rest
      → Same (go ok mono ts st.Sequence start) (goes_on ok mono rest (holds holder (grown_all row)) fs last) → (TakesList (holds holder (grown_all (all row last)) ∷ fs) → ⊥)
      → depth (holds holder (grown_all row) ∷ fs) ≡ depth (holds holder (grown_all (all row last)) ∷ fs) → Entered (holds holder (grown_all (all row last)) ∷ fs) ts rest
  row_entered n holder row None fs ts rest may comes no_list same-depth = record {
    state = st.Sequence;
    stack = holds holder (grown_all row) ∷ fs;
    comes = comes;
    depth-is = same-depth;
    begins = λ takes starts. (go_on ok mono n holder row None rest fs starts may).1;
    lists = λ takes. absurd (no_list takes);
  }
  row_entered n holder row (Some e) fs ts rest may comes no_list same-depth = record {
    state = st.Whole (grown e);
    stack = holds holder (grown_all row) ∷ fs;
    comes = comes;
    depth-is = same-depth;
    begins = λ takes starts. (go_on ok mono n holder row (Some e) rest fs starts may).1;
    lists = λ takes. absurd (no_list takes);
  }

  follow_row : (n : ℕ) (holder : Holder n) (last : Option Tree) (rest : List Mark) → MayFollow last rest → Begins rest → Follows last rest
  follow_row n holder None rest may b = tt
  follow_row n holder (Some e) [] may b = tt
  follow_row n holder (Some e) (t ∷ ts) may b = (go_on ok mono n holder none (Some e) (t ∷ ts) [] b may).0

  simply : (fs : List Frame) (ts rest : List Mark) → Same (go ok mono ts st.Sequence start) (go ok mono rest st.Operand fs) → (TakesList fs → ⊥) → Entered fs ts rest
  simply fs ts rest comes no_list = record { state = st.Operand; stack = fs; comes = comes; depth-is = refl; begins = λ takes starts. same refl; lists = λ takes. absurd (no_list takes) }

  list_entered : (p : Spot) (xs : Trees) (fs : List Frame) (ts rest : List Mark) → Same (go ok mono ts st.Sequence start) (go ok mono rest (expects xs) (f.List p (grown_all xs) ∷ fs)) → Entered (f.List p (grown_all xs) ∷ fs) ts rest
  list_entered p none fs ts rest comes =
      let here = f.List p no_subtrees ∷ fs in
      record {
        state = st.FirstElement;
        stack = here;
        comes = comes;
        depth-is = refl;
        begins = λ takes. absurd takes;
        lists = λ takes r inside is. same (ap (λ (us : List Mark). go ok mono us st.FirstElement here) is) ▸ (list_opens ok mono r inside here (go ok mono inside st.FirstElement (f.List r no_subtrees ∷ here)) (same refl)).3;
      }
  list_entered p (more xs x) fs ts rest comes =
      let here = f.List p (grown_all (more xs x)) ∷ fs in
      record {
        state = st.Element;
        stack = here;
        comes = comes;
        depth-is = refl;
        begins = λ takes. absurd takes;
        lists = λ takes r inside is. same (ap (λ (us : List Mark). go ok mono us st.Element here) is) ▸ (list_opens ok mono r inside here (go ok mono inside st.FirstElement (f.List r no_subtrees ∷ here)) (same refl)).2;
      }

  args_entered : (p : Spot) (w : List ℕ) (xs : Trees) (fs : List Frame) (ts rest : List Mark) → Same (go ok mono ts st.Sequence start) (go ok mono rest (wants xs) (f.Args p w (grown_all xs) ∷ fs)) → Entered (f.Args p w (grown_all xs) ∷ fs) ts rest
  args_entered p w none fs ts rest comes =
      let here = f.Args p w no_subtrees ∷ fs in
      record {
        state = st.FirstArgument;
        stack = here;
        comes = comes;
        depth-is = refl;
        begins = λ takes starts. first_argument_starts ok mono rest here starts;
        lists = λ takes r inside is. same (ap (λ (us : List Mark). go ok mono us st.FirstArgument here) is) ▸ (list_opens ok mono r inside here (go ok mono inside st.FirstElement (f.List r no_subtrees ∷ here)) (same refl)).1;
      }
  args_entered p w (more xs x) fs ts rest comes =
      let here = f.Args p w (grown_all (more xs x)) ∷ fs in
      record {
        state = st.Argument;
        stack = here;
        comes = comes;
        depth-is = refl;
        begins = λ takes starts. argument_starts ok mono rest here starts;
        lists = λ takes r inside is. same (ap (λ (us : List Mark). go ok mono us st.Argument here) is) ▸ (list_opens ok mono r inside here (go ok mono inside st.FirstElement (f.List r no_subtrees ∷ here)) (same refl)).0;
      }

  entered : {fs : List Frame} {ts rest : List Mark} → LeavesOpen fs ts rest → Comes fs rest → Entered fs ts rest
  entered (h.in_source {done = row} {last = last} {ms = ts} {rest = rest} reads may) comes =
      row_entered 0 of_source row last [] ts rest may (complete ok mono reads of_source [] (follow_row 0 of_source last rest may comes)) (λ b. b) refl
  entered (h.in_body {p = p} {q = q} {path = path} {w = w} {args = args} {done = row} {last = last} {fs = fs} {ms = ts} {mid = mid} {then = then} {rest = rest} inner leaves asked reads may) comes =
      let k = entered leaves (starts_comes fs (word p path w ∷ mid) refl) in
      row_entered 13 (of_body p w (grown_in args)) row last fs ts rest may
      (k.comes ▸ k.begins inner refl ▸ stepped ok mono (word p path w) mid st.Operand (st.Word p w) fs fs (word_begins p path w fs) ▸ complete ok mono asked p w fs ▸ body_opens ok mono q p w args then fs
      ▸ complete ok mono reads (of_body p w (grown_in args)) fs (follow_row 13 (of_body p w (grown_in args)) last rest may comes))
      (λ b. b) refl
  entered (h.in_arguments {p = p} {q = q} {path = path} {w = w} {done = xs} {fs = fs} {ms = ts} {mid = mid} {rest = rest} inner leaves front) comes =
      let k = entered leaves (starts_comes fs (word p path w ∷ sign q s.LeftParen ∷ mid) refl) in
      args_entered p w xs fs ts rest
      (k.comes ▸ k.begins inner refl ▸ stepped ok mono (word p path w) (sign q s.LeftParen ∷ mid) st.Operand (st.Word p w) fs fs (word_begins p path w fs)
      ▸ stepped ok mono (sign q s.LeftParen) mid (st.Word p w) st.FirstArgument fs (f.Args p w no_subtrees ∷ fs) (word_opens q p w fs) ▸ complete ok mono front p w fs)
  entered (h.in_bracket {q = q} {fs = fs} {ms = ts} {rest = rest} low leaves) comes =
      let k = entered leaves (starts_comes fs (sign q s.LeftParen ∷ rest) refl) in
      simply (f.Bracket ∷ fs) ts rest (k.comes ▸ k.begins (room_takes 0 fs low) refl ▸ stepped ok mono (sign q s.LeftParen) rest st.Operand st.Operand fs (f.Bracket ∷ fs) (bracket_opens q fs low)) (λ b. b)
  entered (h.in_index {p = p} {a = a} {fs = fs} {ms = ts} {mid = mid} {rest = rest} low leaves left) comes =
      let c = complete ok mono left in
      let k = entered leaves (starts_comes fs mid c.0) in
      simply (f.Index p (grown a) ∷ fs) ts rest (k.comes ▸ k.begins (room_takes 0 fs low) c.0 ▸ c.1 fs low (proper leaves) (list_ends p rest)
      ▸ stepped ok mono (sign p s.LeftBracket) rest (st.Whole (grown a)) st.Operand fs (f.Index p (grown a) ∷ fs) (index_opens p (grown a) fs low)) (λ b. b)
  entered (h.in_prefix {p = p} {o = o} {fs = fs} {ms = ts} {rest = rest} low leaves) comes =
      let k = entered leaves (starts_comes fs (sign p (s.Prefix o) ∷ rest) refl) in
      let here = f.Pending 2 2 p o no_subtrees ∷ fs in
      simply here ts rest (k.comes ▸ k.begins (room_takes 1 fs low) refl ▸ stepped ok mono (sign p (s.Prefix o)) rest st.Operand st.Operand fs here (prefix_opens p o fs low)) (λ b. b)
  entered (h.in_infix {p = p} {i = i} {o = o} {a = a} {fs = fs} {ms = ts} {mid = mid} {rest = rest} is low leaves left) comes =
      let so = is_strength i o is in
      let some : suc (o.level - 1) ≤ room fs = omega (arith, so.low) in
      let here = f.Pending o.level o.room p i (joined no_subtrees (grown a)) ∷ fs in
      let c = complete ok mono left in
      let k = entered leaves (starts_comes fs mid c.0) in
      simply here ts rest (k.comes ▸ k.begins (room_takes (o.level - 1) fs some) c.0 ▸ c.1 fs (omega (arith, so.pull_high)) (proper leaves) (infix_ends i o is)
      ▸ stepped ok mono (sign p (s.Binary i)) rest (st.Whole (grown a)) st.Operand fs here (infix_step p i o (grown a) fs is low (proper leaves))) (λ b. b)
  entered (h.in_list {p = p} {done = xs} {fs = fs} {ms = ts} {mid = mid} {rest = rest} takes leaves others) comes =
      let k = entered leaves (list_comes fs (sign p s.LeftBrace ∷ mid) takes) in
      list_entered p xs fs ts rest (k.comes ▸ k.lists takes p mid refl ▸ complete ok mono others p fs)

  -- ---- a front with too much open is not walked

  comes_nil : (fs : List Frame) → Comes fs []
  comes_nil (f.Unit done ∷ fs) = tt
  comes_nil (f.Body p w args done ∷ fs) = tt
  comes_nil [] = tt
  comes_nil (_ ∷ fs) = tt

  suits_comes : (fs : List Frame) (e : Tree) (mid rest : List Mark) → Suits fs e mid rest → Comes fs mid
  suits_comes (f.Args p w done ∷ fs) e mid rest h = tt
  suits_comes (f.List p done ∷ fs) e mid rest h = tt
  suits_comes _ e mid rest h = absurd h

  record Within (fs : List Frame) (ts : List Mark) : Type 0 where
    mid : List Mark
    leaves : LeavesOpen fs ts mid
    comes : Comes fs mid

  first_argument_within : {fs : List Frame} {ts rest : List Mark} → FirstArgument fs ts rest → Within fs ts
  first_argument_within (h.first_argument {rest = rest} inner leaves) = record { mid = rest; leaves = h.in_arguments inner leaves g.none_before; comes = tt }

  argument_within : {fs : List Frame} {ts rest : List Mark} → NextArgument fs ts rest → Within fs ts
  argument_within (h.next_argument {rest = rest} inner leaves front) = record { mid = rest; leaves = h.in_arguments inner leaves front; comes = tt }

  first_element_within : {fs : List Frame} {ts rest : List Mark} → FirstElement fs ts rest → Within fs ts
  first_element_within (h.first_element {rest = rest} takes leaves) = record { mid = rest; leaves = h.in_list takes leaves g.no_members; comes = tt }

  held_within : (a : ParserState) (fs : List Frame) (ts : List Mark) → IsFrontIn a fs ts [] → Within fs ts
  held_within st.Operand fs ts held = record { mid = []; leaves = held.0; comes = comes_nil fs }
  held_within st.FirstArgument fs ts held = first_argument_within held
  held_within st.Argument fs ts held = argument_within held
  held_within st.FirstElement fs ts held = first_element_within held
  held_within st.Element fs ts held = record { mid = []; leaves = held.0; comes = comes_nil fs }
  held_within st.Sequence fs ts held = record { mid = []; leaves = held.0; comes = comes_nil fs }
  held_within (st.Word p w) fs ts held = record { mid = word p held.path w ∷ []; leaves = held.leaves; comes = starts_comes fs (word p held.path w ∷ []) refl }
  held_within (st.Called p w args) fs ts held = record { mid = word p held.path w ∷ held.mid; leaves = held.leaves; comes = starts_comes fs (word p held.path w ∷ held.mid) refl }
  held_within (st.Whole b) fs ts held = record { mid = held.ready.mid; leaves = held.ready.leaves; comes = starts_comes fs held.ready.mid (complete ok mono held.ready.reads).0 }
  held_within (st.Listed b) fs ts held = record { mid = held.mid; leaves = held.leaves; comes = suits_comes fs held.tree held.mid [] held.suits }

  walk_bad : (ts : List Mark) (a : ParserState) (fs : List Frame) → ok (depth fs) ≡ false → walk ok ts a fs ≡ deep ts
  unfolding walk
  walk_bad [] a fs e = rw e refl
  walk_bad (t ∷ ts) a fs e = rw e refl

  same_deep : (x y : Answer) (us : List Mark) → Same x y → y ≡ deep us → NotDeep x → ⊥
  same_deep x y us (same p) e n = subst NotDeep (p ∙ e) n
  same_deep x y us (cut d) e n = subst NotDeep d.is n

  deeper_is_deep : (a : ParserState) (fs : List Frame) (ts : List Mark) → IsFrontIn a fs ts [] → ok (depth fs) ≡ false → NotDeep (walk ok ts st.Sequence start) → ⊥
  deeper_is_deep a fs ts held bad n =
      let w = held_within a fs ts held in
      let k = entered w.leaves w.comes in
      same_deep (walk ok ts st.Sequence start) (walk ok w.mid k.state k.stack) w.mid k.comes (walk_bad w.mid k.state k.stack (ap ok k.depth-is ∙ bad)) n

  -- ---- where a walk meets too much

  pub record Sunk (ts : List Mark) (a : ParserState) (fs : List Frame) (rest : List Mark) : Type 0 where
    pub front : List Mark
    pub at : Config
    pub parts : ts ≡ front ++ rest
    pub reached : reach front a fs ≡ Some at
    pub bad : ok (depth at.1) ≡ false
    pub before : (j : ℕ) → j < length front → NotDeep (walk ok (take j front) a fs)

  walk_good : (t : Mark) (ts : List Mark) (a : ParserState) (fs : List Frame) → ok (depth fs) ≡ true → walk ok (t ∷ ts) a fs ≡ then_go ok mono t ts (step t a fs)
  unfolding walk then_go
  walk_good t ts a fs e = rw e refl

  walk_end : (a : ParserState) (fs : List Frame) → ok (depth fs) ≡ true → walk ok [] a fs ≡ finish a fs
  unfolding walk
  walk_end a fs e = rw e refl

  reach_step : (t : Mark) (ts : List Mark) (a : ParserState) (fs : List Frame) (c d : Config) → step t a fs ≡ Some c → reach ts c.0 c.1 ≡ Some d → reach (t ∷ ts) a fs ≡ Some d
  unfolding reach
  reach_step t ts a fs c d e r = ap (λ (m : Option Config). elim m [ None ↦ None | Some x ↦ reach ts x.0 x.1 ]) e ∙ r

  before_on : (t : Mark) (front : List Mark) (a : ParserState) (fs : List Frame) (c : Config) → ok (depth fs) ≡ true → step t a fs ≡ Some c → ((j : ℕ) → j < length front → NotDeep (walk ok (take j front) c.0 c.1))
      → (j : ℕ) → j < length (t ∷ front) → NotDeep (walk ok (take j (t ∷ front)) a fs)
  unfolding then_go
  before_on t front a fs c good is ih zero h = subst NotDeep (sym (walk_end a fs good)) (finish_never a fs)
  before_on t front a fs c good is ih (suc j) h =
      let e : walk ok (t ∷ take j front) a fs ≡ walk ok (take j front) c.0 c.1 = walk_good t (take j front) a fs good ∙ ap (then_go ok mono t (take j front)) is in
      subst NotDeep (sym e) (ih j (omega arith))

  sunk_here : (ts : List Mark) (a : ParserState) (fs : List Frame) (rest : List Mark) → ok (depth fs) ≡ false → walk ok ts a fs ≡ deep rest → Sunk ts a fs rest
  unfolding reach
  sunk_here ts a fs rest bad e =
      let both : deep ts ≡ deep rest = sym (walk_bad ts a fs bad) ∙ e in
      let same-rest : ts ≡ rest = cc in
      subst (λ (r : List Mark). Sunk ts a fs r) same-rest (record { front = []; at = (a, fs); parts = refl; reached = refl; bad = bad; before = λ j h. absurd (omega arith) })

  sunk_on : (t : Mark) (ts : List Mark) (a : ParserState) (fs : List Frame) (m : Option Config) (rest : List Mark) → ok (depth fs) ≡ true → step t a fs ≡ m → then_go ok mono t ts m ≡ deep rest
      → ((b : ParserState) (gs : List Frame) → walk ok ts b gs ≡ deep rest → Sunk ts b gs rest) → Sunk (t ∷ ts) a fs rest
  unfolding then_go
  sunk_on t ts a fs None rest good is e ih = absurd cc
  sunk_on t ts a fs (Some c) rest good is e ih =
      let k = ih c.0 c.1 e in
      record { front = t ∷ k.front; at = k.at; parts = ap (λ (r : List Mark). t ∷ r) k.parts; reached = reach_step t k.front a fs c k.at is k.reached; bad = k.bad; before = before_on t k.front a fs c good is k.before }

  sunk_by : (b : Bool) (t : Mark) (ts : List Mark) (a : ParserState) (fs : List Frame) (rest : List Mark) → ok (depth fs) ≡ b → walk ok (t ∷ ts) a fs ≡ deep rest
      → ((b : ParserState) (gs : List Frame) → walk ok ts b gs ≡ deep rest → Sunk ts b gs rest) → Sunk (t ∷ ts) a fs rest
  sunk_by false t ts a fs rest is e ih = sunk_here (t ∷ ts) a fs rest is e
  sunk_by true t ts a fs rest is e ih = sunk_on t ts a fs (step t a fs) rest is refl (sym (walk_good t ts a fs is) ∙ e) ih

  sunk_end : (b : Bool) (a : ParserState) (fs : List Frame) (rest : List Mark) → ok (depth fs) ≡ b → walk ok [] a fs ≡ deep rest → Sunk [] a fs rest
  sunk_end false a fs rest is e = sunk_here [] a fs rest is e
  sunk_end true a fs rest is e = absurd (subst NotDeep (sym (walk_end a fs is) ∙ e) (finish_never a fs))

  pub sinks : (ts : List Mark) (a : ParserState) (fs : List Frame) (rest : List Mark) → walk ok ts a fs ≡ deep rest → Sunk ts a fs rest
  sinks [] a fs rest e = sunk_end (ok (depth fs)) a fs rest refl e
  sinks (t ∷ ts) a fs rest e = sunk_by (ok (depth fs)) t ts a fs rest refl e (λ b gs h. sinks ts b gs rest h)

  -- ---- what is not too deep has no front that is

  end_by : (b : Bool) (a : ParserState) (fs : List Frame) (ts : List Mark) → ok (depth fs) ≡ b → NotDeep (walk ok ts a fs) → NotDeep (walk ok [] a fs)
  end_by true a fs ts is n = subst NotDeep (sym (walk_end a fs is)) (finish_never a fs)
  end_by false a fs ts is n = absurd (subst NotDeep (walk_bad ts a fs is) n)

  step_by : (t : Mark) (us ts : List Mark) (m : Option Config) → NotDeep (then_go ok mono t ts m) → ((a : ParserState) (fs : List Frame) → NotDeep (walk ok ts a fs) → NotDeep (walk ok us a fs)) → NotDeep (then_go ok mono t us m)
  unfolding then_go
  step_by t us ts None n h = tt
  step_by t us ts (Some c) n h = h c.0 c.1 n

  prefix_by : (b : Bool) (t : Mark) (us ts : List Mark) (a : ParserState) (fs : List Frame) → ok (depth fs) ≡ b → NotDeep (walk ok (t ∷ ts) a fs)
      → ((b : ParserState) (gs : List Frame) → NotDeep (walk ok ts b gs) → NotDeep (walk ok us b gs)) → NotDeep (walk ok (t ∷ us) a fs)
  prefix_by true t us ts a fs is n h = subst NotDeep (sym (walk_good t us a fs is)) (step_by t us ts (step t a fs) (subst NotDeep (walk_good t ts a fs is) n) h)
  prefix_by false t us ts a fs is n h = absurd (subst NotDeep (walk_bad (t ∷ ts) a fs is) n)

  prefix : (ts : List Mark) (j : ℕ) (a : ParserState) (fs : List Frame) → NotDeep (walk ok ts a fs) → NotDeep (walk ok (take j ts) a fs)
  prefix ts zero a fs n = end_by (ok (depth fs)) a fs ts refl n
  prefix [] (suc j) a fs n = n
  prefix (t ∷ ts) (suc j) a fs n = prefix_by (ok (depth fs)) t (take j ts) ts a fs refl n (λ b gs h. prefix ts j b gs h)

-- ---- the theorem

within_mono : (limit m n : ℕ) → m ≤ n → within limit n ≡ true → within limit m ≡ true
within_mono limit m n h e = le-leb m limit (omega (arith, leb-true n limit e))

pub is_shallow : (limit : ℕ) (ts : List Mark) → NotDeep (walk (within limit) ts st.Sequence start) → IsShallow limit ts
is_shallow limit ts n j d = deeper_is_deep (within limit) (within_mono limit) d.state d.fs (take j ts) d.front (lt-leb (depth d.fs) limit d.above) (prefix (within limit) (within_mono limit) ts j st.Sequence start n)

pub is_too_deep : (limit : ℕ) (ts : List Mark) (k : ℕ) → k < length ts → walk (within limit) ts st.Sequence start ≡ deep (drop (suc k) ts) → OpensTooMuch limit ts k
is_too_deep limit ts k below e =
    let s = sinks (within limit) (within_mono limit) ts st.Sequence start (drop (suc k) ts) e in
    let len : length s.front ≡ suc k = omega (arith, ap length s.parts, length-append s.front (drop (suc k) ts), length-drop (suc k) ts) in
    let front-is : take (suc k) ts ≡ s.front = ap (take (suc k)) s.parts ∙ take_at s.front (drop (suc k) ts) (suc k) len in
    let begun : IsFrontIn st.Sequence start s.front (s.front ++ []) = subst (λ (us : List Mark). IsFrontIn st.Sequence start s.front us) (sym (append-nil s.front)) (start_held s.front) in
    let held = reach_held s.front [] st.Sequence start s.front s.at begun s.reached in
    let deeper : IsDeeper limit s.front = record { state = s.at.0; fs = s.at.1; front = held; above = leb-false (depth s.at.1) limit s.bad } in
    record {
      within = below;
      front = rw front-is (reached_is_front s.front (drop (suc k) ts) s.at s.reached);
      deeper = subst (IsDeeper limit) (sym front-is) deeper;
      first = λ j h d.
          (let front-j : take j ts ≡ take j s.front = ap (take j) s.parts ∙ take-append-le j s.front (drop (suc k) ts) (omega (arith, len)) in
          let early : IsDeeper limit (take j s.front) = subst (IsDeeper limit) front-j d in
          deeper_is_deep (within limit) (within_mono limit) early.state early.fs (take j s.front) early.front (lt-leb (depth early.fs) limit early.above) (s.before j (omega (arith, len))));
    }

-- ---- the limited walk and the other

abbrev pub Agrees : Answer → Answer → Type 0
Agrees (source items) y = y ≡ source items
Agrees (stop rest) y = y ≡ stop rest
Agrees (deep rest) y = Unit {0}

agrees_by : (b : Bool) (x y : Answer) (ts : List Mark) → Agrees x y → Agrees (cond b x (deep ts)) y
agrees_by true x y ts h = h
agrees_by false x y ts h = tt

agrees_itself : (x : Answer) → Agrees x x
agrees_itself (source items) = refl
agrees_itself (stop rest) = refl
agrees_itself (deep rest) = tt

agrees_on : (ok : ℕ → Bool) (t : Mark) (ts : List Mark) (m : Option Config) → ((a : ParserState) (fs : List Frame) → Agrees (walk ok ts a fs) (run ts a fs))
    → Agrees (elim m [ None ↦ stop (t ∷ ts) | Some c ↦ walk ok ts c.0 c.1 ]) (elim m [ None ↦ stop (t ∷ ts) | Some c ↦ run ts c.0 c.1 ])
agrees_on ok t ts None h = refl
agrees_on ok t ts (Some c) h = h c.0 c.1

pub agrees : (ok : ℕ → Bool) (ts : List Mark) (a : ParserState) (fs : List Frame) → Agrees (walk ok ts a fs) (run ts a fs)
unfolding walk
agrees ok [] a fs = agrees_by (ok (depth fs)) (finish a fs) (finish a fs) [] (agrees_itself (finish a fs))
agrees ok (t ∷ ts) a fs = agrees_by (ok (depth fs)) _ _ (t ∷ ts) (agrees_on ok t ts (step t a fs) (λ b gs. agrees ok ts b gs))

pub limited_source : (limit : ℕ) (ts : List Mark) (items : Subtrees) → walk (within limit) ts st.Sequence start ≡ source items → run ts st.Sequence start ≡ source items
limited_source limit ts items e = subst (λ (x : Answer). Agrees x (run ts st.Sequence start)) e (agrees (within limit) ts st.Sequence start)

pub limited_stop : (limit : ℕ) (ts rest : List Mark) → walk (within limit) ts st.Sequence start ≡ stop rest → run ts st.Sequence start ≡ stop rest
limited_stop limit ts rest e = subst (λ (x : Answer). Agrees x (run ts st.Sequence start)) e (agrees (within limit) ts st.Sequence start)
