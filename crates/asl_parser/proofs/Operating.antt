-- An operator between two operands that is read with its last operand.
use Rattle.std.proofs.Common.{◌≡◌, ℕ, suc, ◌+◌, ◌<◌, ◌≤◌, length, drop, get_or, Bool, true, false, nat_le, List, [], ◌∷◌, Option, Some, None, Ok, refl, sym, ap, ◌∙◌, subst, inl, inr, arith}
use Rattle.std.specs.Prelude.{nat_eq, if◌then◌else◌}
use Rattle.std.proofs.lemmas.Bool.{le-leb, lt-leb}
use Rattle.asl_lexer.specs.declared.token.Token.{Token}
use Rattle.asl_syntax.specs.declared.mark.Spot.{Spot}
use Rattle.asl_syntax.specs.declared.mark.Lexeme.{Lexeme}
use Rattle.asl_syntax.specs.declared.mark.Lexeme.TheVariants as l
use Rattle.asl_syntax.specs.declared.mark.Look.{Look}
use Rattle.asl_syntax.specs.declared.mark.Look.TheVariants as look
use Rattle.asl_syntax.specs.declared.mark.Mark.{Mark}
use Rattle.asl_syntax.specs.declared.raw.Infix.{Infix}
use Rattle.asl_syntax.specs.declared.raw.Raw.TheVariants as raw
use Rattle.asl_syntax.specs.declared.sign.Sign.TheVariants as s
use Rattle.asl_syntax.specs.declared.sign.Strength.{Strength}
use Rattle.asl_syntax.specs.declared.subtree.Subtree.{Subtree}
use Rattle.asl_syntax.specs.declared.subtree.Subtrees.{Subtrees}
use Rattle.asl_syntax.specs.declared.frame.Frame.{Frame}
use Rattle.asl_syntax.specs.declared.frame.Frame.TheVariants as f
use Rattle.asl_parser.specs.declared.state.ParserState.{ParserState}
use Rattle.asl_parser.specs.declared.state.ParserState.TheVariants as st
use Rattle.asl_parser.specs.declared.stage.Stage.{Stage}
use Rattle.asl_parser.specs.declared.stage.Stage.TheVariants as g
use Rattle.asl_syntax.specs.Grow.{limit, no_subtrees, leaf, item, joined, applied, apply_raw, node_over, leading}
use Rattle.asl_syntax.specs.Frames.{depth, room}
use Rattle.asl_parser.specs.Machine.{Config, walk, within, step, step_by, begin, word, word_by, after, after_by, after_lexeme, enclosed, operator, allow, settle}
use Rattle.asl_syntax.specs.Looks.{lexeme_of}
use Rattle.asl_syntax.specs.Marks.{mark, marks, lexeme}
use Rattle.asl_syntax.specs.Opens.{IsOne, tree_of}
use Rattle.asl_parser.specs.Operating.{pulls, applies, AppliesNode, PassesBefore, MayOperate, IsOperator}
use Rattle.asl_parser.specs.Pairs.{plain_by, plain, HoldsNode}
use Rattle.asl_parser.specs.Reading.{Advances, Comes}
use Rattle.asl_syntax.specs.Signs.{strength}
use Rattle.asl_parser.specs.Stages.{Holds, state_of}
use Rattle.asl_parser.proofs.Complete.{Binds, IsStrength, is_strength}
use Rattle.asl_parser.proofs.Next.{settled_low}
use Rattle.asl_parser.proofs.Settled.{over, operator_opens}
use Rattle.asl_parser.proofs.Skipped.{behind, walk_once}
use Rattle.asl_parser.proofs.Walks.{length-marks, at_place, walk_on}

-- ---- the operator

sign_steps : (t : Mark) (e : Subtree) (fs : List Frame) (i : Infix) (o : Strength) → t.lexeme ≡ l.Sign (s.Binary i) → strength i ≡ Some o → step t (st.Whole e) fs ≡ operator t.spot i o (settle o.pull e fs)
unfolding after
sign_steps t e fs i o sign strong = ap (λ (x : Lexeme). step_by t.spot x (st.Whole e) fs) sign ∙ ap (λ (m : Option Strength). after_by t.spot i m e fs) strong

-- ---- its last operand

operand_begins : (p q : Spot) (x : Lexeme) (e : Subtree) (level most : ℕ) (i : Infix) (xs : Subtrees) (fs : List Frame) → plain_by p x ≡ Some e → 1 ≤ most
    → step_by p x st.Operand (f.Pending level most q i xs ∷ fs) ≡ Some (behind p x, f.Pending level most q i xs ∷ fs)
unfolding begin
operand_begins p q (l.Word path w) e level most i xs fs is high = refl
operand_begins p q (l.Number n) e level most i xs fs is high = rw (le-leb 1 most high) refl
operand_begins p q (l.Text t) e level most i xs fs is high = rw (le-leb 1 most high) refl
operand_begins p q (l.Sign x) e level most i xs fs is high = absurd cc
operand_begins p q l.Other e level most i xs fs is high = absurd cc

-- ---- what stands next

settle_once : (pull level most : ℕ) (q : Spot) (i : Infix) (xs : Subtrees) (e : Subtree) (fs : List Frame) → nat_le level pull ≡ true → settle pull e (f.Pending level most q i xs ∷ fs) ≡ settle pull (applied q i xs e) fs
unfolding settle
settle_once pull level most q i xs e fs h = rw h refl

pulled : (m : Option Strength) (q r : Spot) (j i : Infix) (level most : ℕ) (xs : Subtrees) (e : Subtree) (fs : List Frame) → pulls level m ≡ true → after_by q j m e (f.Pending level most r i xs ∷ fs) ≡ after_by q j m (applied r i xs e) fs
pulled None q r j i level most xs e fs h = absurd cc
pulled (Some o) q r j i level most xs e fs h = ap (operator q j o) (settle_once o.pull level most r i xs e fs h)

-- behind an expression to which the operator is applied
applied_next : (q r : Spot) (y : Lexeme) (i : Infix) (level most : ℕ) (xs : Subtrees) (e : Subtree) (fs : List Frame) → applies level y ≡ true → level ≤ 13 → after_lexeme q y e (f.Pending level most r i xs ∷ fs) ≡ after_lexeme q y (applied r i xs e) fs
applied_next q r (l.Word path w) i level most xs e fs h low = ap (enclosed q (l.Word path w)) (settle_once 13 level most r i xs e fs (le-leb level 13 low))
applied_next q r (l.Number n) i level most xs e fs h low = absurd cc
applied_next q r (l.Text t) i level most xs e fs h low = absurd cc
applied_next q r l.Other i level most xs e fs h low = absurd cc
applied_next q r (l.Sign s.RightParen) i level most xs e fs h low = ap (enclosed q (l.Sign s.RightParen)) (settle_once 13 level most r i xs e fs (le-leb level 13 low))
applied_next q r (l.Sign s.RightBrace) i level most xs e fs h low = ap (enclosed q (l.Sign s.RightBrace)) (settle_once 13 level most r i xs e fs (le-leb level 13 low))
applied_next q r (l.Sign s.Comma) i level most xs e fs h low = ap (enclosed q (l.Sign s.Comma)) (settle_once 13 level most r i xs e fs (le-leb level 13 low))
applied_next q r (l.Sign (s.Binary j)) i level most xs e fs h low = pulled (strength j) q r j i level most xs e fs h
applied_next q r (l.Sign s.LeftParen) i level most xs e fs h low = absurd cc
applied_next q r (l.Sign s.LeftBrace) i level most xs e fs h low = absurd cc
applied_next q r (l.Sign s.LeftBracket) i level most xs e fs h low = absurd cc
applied_next q r (l.Sign s.RightBracket) i level most xs e fs h low = absurd cc
applied_next q r (l.Sign s.Semicolon) i level most xs e fs h low = absurd cc
applied_next q r (l.Sign (s.Postfix j)) i level most xs e fs h low = absurd cc
applied_next q r (l.Sign (s.Prefix j)) i level most xs e fs h low = absurd cc

-- a word or path has neither arguments nor a body there
word_next : (q p : Spot) (y : Lexeme) (w : List ℕ) (level : ℕ) (fs : List Frame) → applies level y ≡ true → word_by q y p w fs ≡ after_lexeme q y (item p w None None) fs
unfolding after
word_next q p (l.Word path v) w level fs h = refl
word_next q p (l.Number n) w level fs h = absurd cc
word_next q p (l.Text t) w level fs h = absurd cc
word_next q p l.Other w level fs h = absurd cc
word_next q p (l.Sign s.RightParen) w level fs h = refl
word_next q p (l.Sign s.RightBrace) w level fs h = refl
word_next q p (l.Sign s.Comma) w level fs h = refl
word_next q p (l.Sign (s.Binary j)) w level fs h = refl
word_next q p (l.Sign s.LeftParen) w level fs h = absurd cc
word_next q p (l.Sign s.LeftBrace) w level fs h = absurd cc
word_next q p (l.Sign s.LeftBracket) w level fs h = absurd cc
word_next q p (l.Sign s.RightBracket) w level fs h = absurd cc
word_next q p (l.Sign s.Semicolon) w level fs h = absurd cc
word_next q p (l.Sign (s.Postfix j)) w level fs h = absurd cc
word_next q p (l.Sign (s.Prefix j)) w level fs h = absurd cc

pub operand_next : (q p : Spot) (y x : Lexeme) (e : Subtree) (level : ℕ) (fs : List Frame) → plain_by p x ≡ Some e → applies level y ≡ true → step_by q y (behind p x) fs ≡ after_lexeme q y e fs
unfolding after word
operand_next q p y (l.Word path w) e level fs is h = let same : item p w None None ≡ e = cc in word_next q p y w level fs h ∙ ap (λ (b : Subtree). after_lexeme q y b fs) same
operand_next q p y (l.Number n) e level fs is h = let same : leaf p.token (raw.Number p.place n) ≡ e = cc in ap (λ (b : Subtree). after_lexeme q y b fs) same
operand_next q p y (l.Text t) e level fs is h = let same : leaf p.token (raw.Text p.place t) ≡ e = cc in ap (λ (b : Subtree). after_lexeme q y b fs) same
operand_next q p y (l.Sign x) e level fs is h = absurd cc
operand_next q p y l.Other e level fs is h = absurd cc

whole_next : (q : Spot) (y : Lexeme) (e : Subtree) (fs : List Frame) → step_by q y (st.Whole e) fs ≡ after_lexeme q y e fs
unfolding after
whole_next q y e fs = refl

next_same : (v : Mark) (p r : Spot) (x : Lexeme) (e : Subtree) (i : Infix) (level most : ℕ) (xs : Subtrees) (fs : List Frame) → plain_by p x ≡ Some e → applies level v.lexeme ≡ true → level ≤ 13
    → step v (behind p x) (f.Pending level most r i xs ∷ fs) ≡ step v (st.Whole (applied r i xs e)) fs
next_same v p r x e i level most xs fs is h low =
    operand_next v.spot p v.lexeme x e level (f.Pending level most r i xs ∷ fs) is h ∙ applied_next v.spot r v.lexeme i level most xs e fs h low ∙ sym (whole_next v.spot v.lexeme (applied r i xs e) fs)

pub walk_same : (v : Mark) (rest : List Mark) (a b : ParserState) (fs gs : List Frame) → depth fs ≤ limit → depth gs ≤ limit → step v a fs ≡ step v b gs → walk (within limit) (v ∷ rest) a fs ≡ walk (within limit) (v ∷ rest) b gs
walk_same v rest a b fs gs low_a low_b same = walk_on limit v rest a fs (step v b gs) low_a same ∙ sym (walk_on limit v rest b gs (step v b gs) low_b refl)

-- ---- all three

room_high : (o : Strength) → IsStrength o → 1 ≤ o.room
room_high o is = most_high is.binds where
  most_high : Binds o.level o.room → 1 ≤ o.room
  most_high (inl same) = omega (arith, is.low, same)
  most_high (inr same) = omega (arith, is.low, same.0)

pending_depth : (level most : ℕ) (q : Spot) (i : Infix) (xs : Subtrees) (fs : List Frame) → depth (f.Pending level most q i xs ∷ fs) ≤ suc (depth fs)
pending_depth level most q i xs fs = flag (nat_eq level most) where
  flag : (b : Bool) → (if b then 1 else 0) + depth fs ≤ suc (depth fs)
  flag true = omega arith
  flag false = omega arith

pub operated : (t u v : Mark) (m : Option Subtree) (i : Infix) (o : Strength) (old mid new : Subtrees × List Frame) → depth old.1 < limit → t.lexeme ≡ l.Sign (s.Binary i) → strength i ≡ Some o → applies o.level v.lexeme ≡ true → IsOne mid.0
    → (tree_of mid.0, mid.1) ≡ settle o.pull (tree_of old.0) old.1 → o.level ≤ room mid.1 → plain u ≡ m → AppliesNode m t.spot i mid new → MayOperate (Ok true) t u v old new
operated t u v None i o old mid new low sign strong h one settled may is made = absurd made
operated t u v (Some e) i o old mid new low sign strong h one settled may is made =
    let so = is_strength i o strong in
    let here : List Frame = f.Pending o.level o.room t.spot i mid.0 ∷ mid.1 in
    let mid_low : depth mid.1 ≤ depth old.1 = omega (arith, settled_low o.pull (tree_of old.0) old.1, ap (λ (x : Subtree × List Frame). depth x.1) settled) in
    let here_low : depth here ≤ limit = omega (arith, pending_depth o.level o.room t.spot i mid.0 mid.1, mid_low, low) in
    let opens : step t (st.Whole (tree_of old.0)) old.1 ≡ Some (st.Operand, here)
    = sign_steps t (tree_of old.0) old.1 i o sign strong ∙ operator_opens t.spot i o mid (no_subtrees, here) (settle o.pull (tree_of old.0) old.1) settled one may refl in
    let begins : step u st.Operand here ≡ Some (behind u.spot u.lexeme, here) = operand_begins u.spot t.spot u.lexeme e o.level o.room i mid.0 mid.1 is (room_high o so) in
    let ends : step v (behind u.spot u.lexeme) here ≡ step v (st.Whole (applied t.spot i mid.0 e)) mid.1 = next_same v u.spot t.spot u.lexeme e i o.level o.room mid.0 mid.1 is h so.high in (
      made.0,
      (
        omega (arith, mid_low, low, ap depth made.2),
        λ rest. walk_once (within limit) t (u ∷ v ∷ rest) (st.Whole (tree_of old.0)) st.Operand old.1 here (le-leb (depth old.1) limit (omega (arith, low))) opens
            ∙ walk_once (within limit) u (v ∷ rest) st.Operand (behind u.spot u.lexeme) here here (le-leb (depth here) limit here_low) begins
            ∙ walk_same v rest (behind u.spot u.lexeme) (st.Whole (applied t.spot i mid.0 e)) here mid.1 here_low (omega (arith, mid_low, low)) ends
            ∙ ap (λ (x : Subtree). walk (within limit) (v ∷ rest) (st.Whole x) mid.1) (sym made.1)
            ∙ ap (λ (fs : List Frame). walk (within limit) (v ∷ rest) (st.Whole (tree_of new.0)) fs) (sym made.2),
      ),
    )

pub refused : (t : Mark) (i : Infix) (o : Strength) (old mid : Subtrees × List Frame) → t.lexeme ≡ l.Sign (s.Binary i) → strength i ≡ Some o → (tree_of mid.0, mid.1) ≡ settle o.pull (tree_of old.0) old.1 → room mid.1 < o.level → step t (st.Whole (tree_of old.0)) old.1 ≡ None
refused t i o old mid sign strong settled short =
    sign_steps t (tree_of old.0) old.1 i o sign strong ∙ ap (operator t.spot i o) (sym settled)
    ∙ ap (λ (b : Bool). allow b (st.Operand, f.Pending o.level o.room t.spot i (joined no_subtrees (tree_of mid.0)) ∷ mid.1)) (lt-leb o.level (room mid.1) short)

-- ---- an operator over what is held

pub applies_node : (b : Bool) (m : Option Subtree) (p : Spot) (i : Infix) (first : ℕ) (old mid new : Subtrees × List Frame) → b ≡ true → HoldsNode b m old mid → first ≡ leading p.token old.0.levels → tree_of new.0 ≡ node_over first (apply_raw p i mid.0.raws) mid.0.levels → IsOne new.0 → new.1 ≡ mid.1
    → AppliesNode m p i old new
applies_node false m p i first old mid new is holds first_is tree one frames = absurd cc
applies_node true None p i first old mid new is holds first_is tree one frames = absurd holds
applies_node true (Some e) p i first old mid new is holds first_is tree one frames = (
  one,
  over p i old.0 e (tree_of new.0) first mid.0 first_is (ap (λ (v : Subtrees × List Frame). v.0) holds) tree,
  frames ∙ ap (λ (v : Subtrees × List Frame). v.1) holds,
)

-- ---- as tokens

pub place_next : (ts : List Token) (i j : ℕ) (t : Token) → i < length ts → t ≡ get_or ts i t → j ≡ suc i → drop i (marks 0 ts) ≡ mark i t ∷ drop j (marks 0 ts)
place_next ts i j t h at next = at_place ts i t h at ∙ ap (λ (n : ℕ). mark i t ∷ drop n (marks 0 ts)) (sym next)

pub operated_on : (ts : List Token) (i : ℕ) (t u v : Token) (before now : Config) → i + 2 < length ts → t ≡ get_or ts i t → u ≡ get_or ts (i + 1) u → v ≡ get_or ts (i + 2) v → PassesBefore (mark i t ∷ mark (i + 1) u ∷ []) (mark (i + 2) v) before now → Advances (marks 0 ts) i (i + 2) before now
operated_on ts i t u v before now h at next last over =
    let third = at_place ts (i + 2) v (omega (arith, h)) last in
    let e : drop i (marks 0 ts) ≡ mark i t ∷ mark (i + 1) u ∷ mark (i + 2) v ∷ drop (suc (i + 2)) (marks 0 ts)
    = place_next ts i (i + 1) t (omega (arith, h)) at (omega arith) ∙ ap (λ (ms : List Mark). mark i t ∷ ms) (place_next ts (i + 1) (i + 2) u (omega (arith, h)) next (omega arith) ∙ ap (λ (ms : List Mark). mark (i + 1) u ∷ ms) third) in (
      omega arith,
      omega (arith, length-marks 0 ts, h),
      over.0,
      ap (λ (ms : List Mark). walk (within limit) ms before.0 before.1) e ∙ over.1 (drop (suc (i + 2)) (marks 0 ts))
          ∙ ap (λ (ms : List Mark). walk (within limit) ms now.0 now.1) (sym third),
    )

-- ---- what was read

pub operated_so : (b : Bool) (t u v : Mark) (old new : Subtrees × List Frame) → b ≡ true → MayOperate (Ok b) t u v old new → MayOperate (Ok true) t u v old new
operated_so true t u v old new is holds = holds
operated_so false t u v old new is holds = absurd cc

pub unoperated : (b : Bool) (t u v : Mark) (old new : Subtrees × List Frame) → b ≡ false → MayOperate (Ok b) t u v old new → new ≡ old
unoperated true t u v old new is holds = absurd cc
unoperated false t u v old new is holds = holds

pub one_held : (stage : Stage) (hand : Subtrees) → stage ≡ g.Whole → Holds stage hand → IsOne hand
one_held stage hand is holds = subst (λ (s : Stage). Holds s hand) is holds

-- ---- behind a word or path that is held

word_as_held : (x : Look) (u : Token) (q p : Spot) (w : List ℕ) (fs : List Frame) → IsOperator x → step_by q (lexeme_of x u) (st.Word p w) fs ≡ step_by q (lexeme_of x u) (st.Whole (item p w None None)) fs
unfolding word
word_as_held look.Word u q p w fs is = absurd is
word_as_held look.Path u q p w fs is = absurd is
word_as_held look.Number u q p w fs is = absurd is
word_as_held look.Text u q p w fs is = absurd is
word_as_held look.Other u q p w fs is = absurd is
word_as_held (look.Sign s.LeftParen) u q p w fs is = absurd is
word_as_held (look.Sign s.RightParen) u q p w fs is = absurd is
word_as_held (look.Sign s.LeftBrace) u q p w fs is = absurd is
word_as_held (look.Sign s.RightBrace) u q p w fs is = absurd is
word_as_held (look.Sign s.LeftBracket) u q p w fs is = absurd is
word_as_held (look.Sign s.RightBracket) u q p w fs is = absurd is
word_as_held (look.Sign s.Comma) u q p w fs is = absurd is
word_as_held (look.Sign s.Semicolon) u q p w fs is = absurd is
word_as_held (look.Sign (s.Binary i)) u q p w fs is = refl
word_as_held (look.Sign (s.Postfix i)) u q p w fs is = absurd is
word_as_held (look.Sign (s.Prefix i)) u q p w fs is = absurd is

pub word_held : (ts : List Token) (i : ℕ) (x : Look) (u : Token) (p : Spot) (w : List ℕ) (stage : Stage) (old new : Subtrees × List Frame) → i < length ts → u ≡ get_or ts i u → IsOperator x → lexeme_of x u ≡ lexeme u → depth old.1 ≤ limit → stage ≡ g.Whole → tree_of new.0 ≡ item p w None None → new.1 ≡ old.1
    → Comes (marks 0 ts) i i (st.Word p w, old.1) (state_of stage new.0, new.1)
word_held ts i x u p w stage old new h at is looks low whole tree frames =
    let q = (mark i u).spot in let fs = old.1 in let e = item p w None None in let rest = drop (suc i) (marks 0 ts) in
    let steps : step (mark i u) (st.Word p w) fs ≡ step (mark i u) (st.Whole e) fs
    = ap (λ (y : Lexeme). step_by q y (st.Word p w) fs) (sym looks) ∙ word_as_held x u q p w fs is ∙ ap (λ (y : Lexeme). step_by q y (st.Whole e) fs) looks in
    let here = at_place ts i u h at in
    let over : walk (within limit) (drop i (marks 0 ts)) (st.Word p w) fs ≡ walk (within limit) (drop i (marks 0 ts)) (st.Whole e) fs
    = ap (λ (ms : List Mark). walk (within limit) ms (st.Word p w) fs) here ∙ walk_same (mark i u) rest (st.Word p w) (st.Whole e) fs fs low low steps ∙ ap (λ (ms : List Mark). walk (within limit) ms (st.Whole e) fs) (sym here) in
    let base : Comes (marks 0 ts) i i (st.Word p w, fs) (st.Whole e, fs) = (omega arith, omega (arith, length-marks 0 ts, h), low, over) in
    let same : (state_of stage new.0, new.1) ≡ (st.Whole e, fs)
    = ap (λ (z : Stage). (state_of z new.0, new.1)) whole ∙ ap (λ (t : Subtree). (st.Whole t, new.1)) tree ∙ ap (λ (gs : List Frame). (st.Whole e, gs)) frames in
    subst (λ (c : Config). Comes (marks 0 ts) i i (st.Word p w, fs) c) (sym same) base
