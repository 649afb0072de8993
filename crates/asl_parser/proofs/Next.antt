-- A word or path behind an expression.
use Rattle.std.proofs.Common.{◌≡◌, ℕ, ◌≤◌, Bool, true, false, nat_le, List, [], ◌∷◌, Option, Some, None, Result, Ok, Err, refl, sym, ap, ◌∙◌, arith}
use Rattle.std.specs.Prelude.{if◌then◌else◌}
use Rattle.asl_lexer.specs.declared.token.TokenKind.{TokenKind}
use Rattle.asl_lexer.specs.declared.token.TokenKind.TheVariants as t
use Rattle.asl_syntax.specs.declared.mark.Spot.{Spot}
use Rattle.asl_syntax.specs.declared.mark.Lexeme.TheVariants as l
use Rattle.asl_syntax.specs.declared.subtree.Subtree.{Subtree}
use Rattle.asl_syntax.specs.declared.subtree.Subtrees.{Subtrees}
use Rattle.asl_syntax.specs.declared.frame.Frame.{Frame}
use Rattle.asl_syntax.specs.declared.frame.Frame.TheVariants as f
use Rattle.asl_parser.specs.declared.state.ParserState.{ParserState}
use Rattle.asl_parser.specs.declared.state.ParserState.TheVariants as st
use Rattle.asl_parser.specs.declared.state.Refusal.{Refusal}
use Rattle.asl_parser.specs.declared.state.Refusal.TheVariants as r
use Rattle.asl_syntax.specs.declared.open.FrameKind.{FrameKind}
use Rattle.asl_syntax.specs.declared.open.FrameKind.TheVariants as k
use Rattle.asl_parser.specs.declared.stage.Stage.{Stage}
use Rattle.asl_parser.specs.declared.stage.Stage.TheVariants as g
use Rattle.asl_syntax.specs.Grow.{no_subtrees, applied, item}
use Rattle.asl_syntax.specs.Frames.{depth}
use Rattle.asl_parser.specs.Machine.{Config, settle, enclosed_by, after, called, sequence, listed, step_by}
use Rattle.asl_syntax.specs.Marks.{is_word, lexeme_by}
use Rattle.asl_syntax.specs.Opens.{kind_of, added, tree_of}
use Rattle.asl_parser.specs.Stages.{BeginsNext, state_of, ends}

-- ---- how much is open

either : (b : Bool) (v w : Subtree × List Frame) (n : ℕ) → depth v.1 ≤ n → depth w.1 ≤ n → depth (if b then v else w).1 ≤ n
either true v w n h k = h
either false v w n h k = k

pub settled_low : (pull : ℕ) (e : Subtree) (fs : List Frame) → depth (settle pull e fs).1 ≤ depth fs
unfolding settle
settled_low pull e [] = omega arith
settled_low pull e (f.Unit done ∷ fs) = omega arith
settled_low pull e (f.Args p w done ∷ fs) = omega arith
settled_low pull e (f.Body p w args done ∷ fs) = omega arith
settled_low pull e (f.Bracket ∷ fs) = omega arith
settled_low pull e (f.Index p left ∷ fs) = omega arith
settled_low pull e (f.List p done ∷ fs) = omega arith
settled_low pull e (f.Pending level most p o xs ∷ fs) =
    either (nat_le level pull) (settle pull (applied p o xs e) fs) (e, f.Pending level most p o xs ∷ fs) (depth (f.Pending level most p o xs ∷ fs)) (omega (arith, settled_low pull (applied p o xs e) fs)) (omega arith)

added_low : (e : Subtree) (fs : List Frame) → depth (added e fs) ≡ depth fs
added_low e [] = refl
added_low e (f.Unit done ∷ fs) = refl
added_low e (f.Args p w done ∷ fs) = refl
added_low e (f.Body p w args done ∷ fs) = refl
added_low e (f.Bracket ∷ fs) = refl
added_low e (f.Index p left ∷ fs) = refl
added_low e (f.Pending level most p o xs ∷ fs) = refl
added_low e (f.List p done ∷ fs) = refl

-- ---- where words may follow one another

abbrev pub follows : FrameKind → Bool
follows k.Unit = true
follows (k.Body p w args) = true
follows _ = false

word_follows : (p : Spot) (path : Bool) (word : List ℕ) (e : Subtree) (fs : List Frame) → follows (kind_of fs) ≡ true → enclosed_by p (l.Word path word) e fs ≡ Some (st.Word p word, added e fs)
unfolding sequence
word_follows p path word e [] h = absurd cc
word_follows p path word e (f.Unit done ∷ fs) h = refl
word_follows p path word e (f.Args q w done ∷ fs) h = absurd cc
word_follows p path word e (f.Body q w args done ∷ fs) h = refl
word_follows p path word e (f.Bracket ∷ fs) h = absurd cc
word_follows p path word e (f.Index q left ∷ fs) h = absurd cc
word_follows p path word e (f.Pending level most q o xs ∷ fs) h = absurd cc
word_follows p path word e (f.List q done ∷ fs) h = absurd cc

word_refused : (p : Spot) (path : Bool) (word : List ℕ) (e : Subtree) (fs : List Frame) → follows (kind_of fs) ≡ false → enclosed_by p (l.Word path word) e fs ≡ None
unfolding listed
word_refused p path word e [] h = refl
word_refused p path word e (f.Unit done ∷ fs) h = absurd cc
word_refused p path word e (f.Args q w done ∷ fs) h = refl
word_refused p path word e (f.Body q w args done ∷ fs) h = absurd cc
word_refused p path word e (f.Bracket ∷ fs) h = refl
word_refused p path word e (f.Index q left ∷ fs) h = refl
word_refused p path word e (f.Pending level most q o xs ∷ fs) h = refl
word_refused p path word e (f.List q done ∷ fs) h = refl

behind_whole : (p : Spot) (path : Bool) (word : List ℕ) (e : Subtree) (fs : List Frame) → step_by p (l.Word path word) (st.Whole e) fs ≡ enclosed_by p (l.Word path word) (settle 13 e fs).0 (settle 13 e fs).1
unfolding after
behind_whole p path word e fs = refl

pub next_begins : (e : Subtree) (fs : List Frame) (v w : Subtrees × List Frame) (kind : FrameKind) → (tree_of v.0, v.1) ≡ settle 13 e fs → kind ≡ kind_of v.1 → follows kind ≡ true → w ≡ (no_subtrees, added (tree_of v.0) v.1) → BeginsNext (Ok tt) (st.Whole e, fs) w
next_begins e fs v w kind settled kind_is so new = (
  ap (λ (u : Subtrees × List Frame). u.0) new,
  omega (arith, ap (λ (u : Subtrees × List Frame). depth u.1) new, added_low (tree_of v.0) v.1, ap (λ (u : Subtree × List Frame). depth u.1) settled, settled_low 13 e fs),
  λ p path word. behind_whole p path word e fs ∙ ap (λ (u : Subtree × List Frame). enclosed_by p (l.Word path word) u.0 u.1) (sym settled)
      ∙ word_follows p path word (tree_of v.0) v.1 (ap follows (sym kind_is) ∙ so) ∙ ap (λ (u : Subtrees × List Frame). Some (st.Word p word, u.1)) (sym new),
)

pub next_refused : (e : Subtree) (fs : List Frame) (v w : Subtrees × List Frame) (kind : FrameKind) → (tree_of v.0, v.1) ≡ settle 13 e fs → kind ≡ kind_of v.1 → follows kind ≡ false → BeginsNext (Err r.Refused) (st.Whole e, fs) w
next_refused e fs v w kind settled kind_is not =
    λ p path word. behind_whole p path word e fs ∙ ap (λ (u : Subtree × List Frame). enclosed_by p (l.Word path word) u.0 u.1) (sym settled) ∙ word_refused p path word (tree_of v.0) v.1 (ap follows (sym kind_is) ∙ not)

pub not_follows : (kind : FrameKind) → (kind ≡ k.Unit → ⊥) → ((p : Spot) (word : List ℕ) (args : Option Subtrees) → kind ≡ k.Body p word args → ⊥) → follows kind ≡ false
not_follows k.Nothing unit body = refl
not_follows k.Unit unit body = absurd (unit refl)
not_follows (k.Args p w) unit body = refl
not_follows (k.Body p w args) unit body = absurd (body p w args refl)
not_follows k.Bracket unit body = refl
not_follows (k.Index p) unit body = refl
not_follows (k.Pending level most p o) unit body = refl
not_follows (k.List p) unit body = refl

-- ---- a word or path with arguments, and with no body

called_whole : (p q : Spot) (path : Bool) (word name : List ℕ) (args : Subtrees) (fs : List Frame) → step_by p (l.Word path word) (st.Called q name args) fs ≡ step_by p (l.Word path word) (st.Whole (item q name (Some args) None)) fs
unfolding called
called_whole p q path word name args fs = refl

pub next_called : (made : Result (Unit {0}) Refusal) (q : Spot) (name : List ℕ) (args : Subtrees) (e : Subtree) (fs gs : List Frame) (w : Subtrees × List Frame) → e ≡ item q name (Some args) None → gs ≡ fs → BeginsNext made (st.Whole e, gs) w → BeginsNext made (st.Called q name args, fs) w
next_called (Ok u) q name args e fs gs w tree same next = (
  next.0,
  omega (arith, next.1, ap depth same),
  λ p path word. called_whole p q path word name args fs ∙ ap (λ (t : Subtree). step_by p (l.Word path word) (st.Whole t) fs) (sym tree)
      ∙ ap (λ (hs : List Frame). step_by p (l.Word path word) (st.Whole e) hs) (sym same) ∙ next.2 p path word,
)
next_called (Err r.Memory) q name args e fs gs w tree same next = tt
next_called (Err r.Refused) q name args e fs gs w tree same next =
    λ p path word. called_whole p q path word name args fs ∙ ap (λ (t : Subtree). step_by p (l.Word path word) (st.Whole t) fs) (sym tree)
    ∙ ap (λ (hs : List Frame). step_by p (l.Word path word) (st.Whole e) hs) (sym same) ∙ next p path word

pub next_whole : (made : Result (Unit {0}) Refusal) (s : Stage) (v w : Subtrees × List Frame) → ends s ≡ true → ((p : Spot) (word : List ℕ) → s ≡ g.Called p word → ⊥) → BeginsNext made (st.Whole (tree_of v.0), v.1) w → BeginsNext made (state_of s v.0, v.1) w
next_whole made g.Whole v w h not next = next
next_whole made (g.Called p word) v w h not next = absurd (not p word refl)
next_whole made g.Operand v w h not next = absurd cc
next_whole made g.FirstArgument v w h not next = absurd cc
next_whole made g.Argument v w h not next = absurd cc
next_whole made g.FirstElement v w h not next = absurd cc
next_whole made g.Element v w h not next = absurd cc
next_whole made g.Sequence v w h not next = absurd cc
next_whole made (g.Word p word) v w h not next = absurd cc
next_whole made g.Listed v w h not next = absurd cc

-- ---- as tokens

pub word_steps : (kind : TokenKind) (n : ℕ) (text : List ℕ) (p : Spot) (a : ParserState) (fs : List Frame) (move : Option Config) → is_word kind ≡ true → ((path : Bool) → step_by p (l.Word path text) a fs ≡ move) → step_by p (lexeme_by kind n text) a fs ≡ move
word_steps t.Word n text p a fs move is steps = steps false
word_steps t.Path n text p a fs move is steps = steps true
word_steps t.Number n text p a fs move is steps = absurd cc
word_steps t.Text n text p a fs move is steps = absurd cc
word_steps t.Symbol n text p a fs move is steps = absurd cc
