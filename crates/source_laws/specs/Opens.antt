-- How much is open at the end of a front: each production of the grammar, cut short where its next part is to come.
use Rattle.std.specs.Prelude.{◌≡◌, ℕ, suc, ◌+◌, ◌≤◌, ◌<◌, Bool, false, List, [], ◌∷◌, length, take, Option, Some, None}
use Rattle.asl_syntax.specs.declared.sign.Sign.TheVariants as s
use Rattle.asl_syntax.specs.declared.sign.Strength.{Strength}
use Rattle.asl_syntax.specs.declared.mark.Spot.{Spot}
use Rattle.asl_syntax.specs.declared.mark.Mark.{Mark}
use Rattle.asl_syntax.specs.declared.raw.Infix.{Infix}
use Rattle.asl_syntax.specs.declared.raw.Infix.TheVariants as op
use Rattle.asl_syntax.specs.Signs.{strength}
use Rattle.asl_syntax.specs.Trees.{Tree, Trees, TreeGroup}
use Rattle.asl_parser.specs.Grammar.{sign, word, MayFollow, Reads}
use Rattle.asl_parser.specs.Grammar as g

-- what tokens may be a front of
pub data Production : Type 0 where
  -- an expression of at most this level
  expression : ℕ → Production
  -- what stands behind the word of an item; the arguments in its parentheses; one of them
  behind_word : Production
  arguments : Production
  argument : Production
  -- a list, and one of its members
  brace_list : Production
  member : Production
  -- expressions in a row, none above the level
  row : ℕ → Production

-- An operator between its operands counts where it is an assignment: its right operand reaches as far as one may, while
-- operators that group to the left stand one behind another.
abbrev pub count : Infix → ℕ
count op.Assign = 1
count op.AddAssign = 1
count op.SubtractAssign = 1
count op.MultiplyAssign = 1
count op.DivideAssign = 1
count op.ModuloAssign = 1
count op.ShiftLeftAssign = 1
count op.ShiftRightAssign = 1
count op.AndAssign = 1
count op.OrAssign = 1
count op.XorAssign = 1
count _ = 0

-- The tokens are a front of the production, and at their end so much is open: the brackets inside which the last token
-- lies, and the prefix operators and assignments in whose right operand it lies.
pub data Opens : Production → List Mark → ℕ → Type 0 where
  no_expression : {n : ℕ} → Opens (expression n) [] 0
  -- a number, a string, an item, or what ends in a bracket or a postfix operator
  an_expression : {m n : ℕ} {e : Tree} {ms : List Mark} → m ≤ 1 → m ≤ n → Reads (g.expression m e) ms [] → Opens (expression n) ms 0
  in_item : {n d : ℕ} {p : Spot} {path : Bool} {w : List ℕ} {ms : List Mark} → Opens behind_word ms d →
      Opens (expression n) (word p path w ∷ ms) d
  in_brackets : {n d : ℕ} {p : Spot} {ms : List Mark} → 1 ≤ n → Opens (expression 13) ms d → Opens (expression n) (sign p s.LeftParen ∷ ms)
      (suc d)
  in_index : {n d : ℕ} {p : Spot} {a : Tree} {ms mid : List Mark} → 1 ≤ n → Reads (g.expression 1 a) ms (sign p s.LeftBracket ∷ mid) →
      Opens (expression 13) mid d → Opens (expression n) ms (suc d)
  in_prefix : {n d : ℕ} {p : Spot} {o : Infix} {ms : List Mark} → 2 ≤ n → Opens (expression 2) ms d →
      Opens (expression n) (sign p (s.Prefix o) ∷ ms) (suc d)
  in_infix : {n d : ℕ} {p : Spot} {i : Infix} {o : Strength} {a : Tree} {ms mid : List Mark} → strength i ≡ Some o → o.level ≤ n →
      Reads (g.expression o.pull a) ms (sign p (s.Binary i) ∷ mid)
      → Opens (expression o.room) mid d → Opens (expression n) ms (count i + d)
  in_arguments : {d : ℕ} {p : Spot} {ms : List Mark} → Opens arguments ms d → Opens behind_word (sign p s.LeftParen ∷ ms) (suc d)
  in_body : {d : ℕ} {p : Spot} {args : TreeGroup} {ms mid : List Mark} → Reads (g.arguments args) ms (sign p s.LeftBrace ∷ mid) →
      Opens (row 13) mid d → Opens behind_word ms (suc d)
  -- behind some arguments, each with its comma
  next_argument : {d : ℕ} {xs : Trees} {ms mid : List Mark} → Reads (g.before xs) ms mid → Opens argument mid d → Opens arguments ms d
  an_argument : {d : ℕ} {ms : List Mark} → Opens (expression 13) ms d → Opens argument ms d
  a_list_argument : {d : ℕ} {ms : List Mark} → Opens brace_list ms d → Opens argument ms d
  a_list : {e : Tree} {ms : List Mark} → Reads (g.brace_list e) ms [] → Opens brace_list ms 0
  -- behind some members, each with its comma
  in_list : {d : ℕ} {p : Spot} {xs : Trees} {ms mid : List Mark} → Reads (g.members xs) ms mid → Opens member mid d →
      Opens brace_list (sign p s.LeftBrace ∷ ms) (suc d)
  no_member : Opens member [] 0
  a_word : {p : Spot} {w : List ℕ} → Opens member (word p false w ∷ []) 0
  an_inner_list : {d : ℕ} {ms : List Mark} → Opens brace_list ms d → Opens member ms d
  -- behind a comma or a semicolon of a row, or where it begins
  no_next : {n : ℕ} {done : Trees} {ms : List Mark} → Reads (g.sequence n done None) ms [] → Opens (row n) ms 0
  next_expression : {n d : ℕ} {done : Trees} {last : Option Tree} {m : Mark} {ms rest : List Mark} →
      Reads (g.sequence n done last) ms (m ∷ rest) → MayFollow last (m ∷ rest) → Opens (expression n) (m ∷ rest) d
      → Opens (row n) ms d

-- The tokens are a front of a source, at whose end so much is open.
abbrev pub OpensInSource : List Mark → ℕ → Type 0
OpensInSource ms d = Opens (row 0) ms d

-- The token k is the first one at whose end more than the limit is open.
pub record IsFirstTooDeep (limit : ℕ) (ms : List Mark) (k : ℕ) : Type 0 where
  pub within : k < length ms
  pub depth : ℕ
  pub opens : OpensInSource (take (suc k) ms) depth
  pub above : limit < depth
  pub first : (j d : ℕ) → j ≤ k → OpensInSource (take j ms) d → d ≤ limit
