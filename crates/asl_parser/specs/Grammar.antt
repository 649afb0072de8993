-- What a list of tokens spells: one rule for each production.
use Rattle.std.specs.Prelude.{◌≡◌, ℕ, ◌≤◌, Bool, true, false, List, [], ◌∷◌, Option, Some, None}
use Rattle.asl_lexer.specs.declared.token.Token.{Token}
use Rattle.asl_syntax.specs.declared.sign.Sign.{Sign}
use Rattle.asl_syntax.specs.declared.sign.Sign.TheVariants as s
use Rattle.asl_syntax.specs.declared.sign.Strength.{Strength}
use Rattle.asl_syntax.specs.declared.mark.Spot.{Spot}
use Rattle.asl_syntax.specs.declared.mark.Lexeme.{Lexeme}
use Rattle.asl_syntax.specs.declared.mark.Lexeme.TheVariants as l
use Rattle.asl_syntax.specs.declared.mark.Mark.{Mark}
use Rattle.asl_syntax.specs.declared.raw.Infix.{Infix}
use Rattle.asl_syntax.specs.declared.raw.Infix.TheVariants as op
use Rattle.asl_syntax.specs.declared.raw.Raw.{Raw}
use Rattle.asl_syntax.specs.Signs.{strength}
use Rattle.asl_syntax.specs.Marks.{marks}
use Rattle.asl_syntax.specs.Trees as t
use Rattle.asl_syntax.specs.Trees.{Tree, Trees, TreeGroup, none, more, absent, raws_of}

abbrev pub at : Spot → Lexeme → Mark
at p x = record { spot = p; lexeme = x }

abbrev pub sign : Spot → Sign → Mark
sign p x = at p (l.Sign x)

-- a word, or a path
abbrev pub word : Spot → Bool → List ℕ → Mark
word p path w = at p (l.Word path w)

-- what has a production
pub data Phrase : Type 0 where
  -- an expression of at most this level
  expression : ℕ → Tree → Phrase
  -- an item's arguments in parentheses, and its body in braces, where there are any
  arguments : TreeGroup → Phrase
  body : TreeGroup → Phrase
  -- the arguments up to the closing parenthesis, and some arguments, each with the comma behind it
  given : Trees → Phrase
  before : Trees → Phrase
  argument : Tree → Phrase
  -- a list, some of its members with the comma behind each, and one
  brace_list : Tree → Phrase
  members : Trees → Phrase
  member : Tree → Phrase
  -- expressions in a row, none above the level, and the last one if nothing stands behind it
  sequence : ℕ → Trees → Option Tree → Phrase

-- a row with its last expression
abbrev pub all : Trees → Option Tree → Trees
all done None = done
all done (Some e) = more done e

abbrev pub is_paren : Lexeme → Bool
is_paren (l.Sign s.LeftParen) = true
is_paren _ = false

abbrev pub opens_paren : List Mark → Bool
opens_paren [] = false
opens_paren (m ∷ ms) = is_paren m.lexeme

-- an expression that begins with a parenthesis does not stand directly behind another one
abbrev pub MayFollow : Option Tree → List Mark → Type 0
MayFollow None ms = Unit {0}
MayFollow (Some e) ms = opens_paren ms ≡ false

-- The tokens of the first list spell the phrase, up to those of the second.
pub data Reads : Phrase → List Mark → List Mark → Type 0 where
  a_number : {p : Spot} {n : ℕ} {rest : List Mark} → Reads (expression 1 (t.a_number p n)) (at p (l.Number n) ∷ rest) rest
  a_text : {p : Spot} {w : List ℕ} {rest : List Mark} → Reads (expression 1 (t.a_text p w)) (at p (l.Text w) ∷ rest) rest
  an_item : {p : Spot} {path : Bool} {w : List ℕ} {args inner : TreeGroup} {ms mid rest : List Mark}
      → Reads (arguments args) ms mid → Reads (body inner) mid rest → Reads (expression 0 (t.an_item p w args inner)) (word p path w ∷ ms)
      rest
  in_brackets : {p q : Spot} {e : Tree} {ms rest : List Mark} → Reads (expression 13 e) ms (sign q s.RightParen ∷ rest) →
      Reads (expression 1 e) (sign p s.LeftParen ∷ ms) rest
  an_index : {p q : Spot} {a e : Tree} {ms mid rest : List Mark} → Reads (expression 1 a) ms (sign p s.LeftBracket ∷ mid) →
      Reads (expression 13 e) mid (sign q s.RightBracket ∷ rest)
      → Reads (expression 1 (t.a_pair p op.Index a e)) ms rest
  a_postfix : {p : Spot} {o : Infix} {a : Tree} {ms rest : List Mark} → Reads (expression 1 a) ms (sign p (s.Postfix o) ∷ rest) →
      Reads (expression 1 (t.a_postfix p o a)) ms rest
  a_prefix : {p : Spot} {o : Infix} {a : Tree} {ms rest : List Mark} → Reads (expression 2 a) ms rest →
      Reads (expression 2 (t.a_prefix p o a)) (sign p (s.Prefix o) ∷ ms) rest
  -- each level of the operators that group to the left, and assignment
  an_infix : {p : Spot} {i : Infix} {o : Strength} {a e : Tree} {ms mid rest : List Mark} → strength i ≡ Some o
      → Reads (expression o.pull a) ms (sign p (s.Binary i) ∷ mid) → Reads (expression o.room e) mid rest →
      Reads (expression o.level (t.a_pair p i a e)) ms rest
  tighter : {m n : ℕ} {e : Tree} {ms rest : List Mark} → m ≤ n → Reads (expression m e) ms rest → Reads (expression n e) ms rest
  no_arguments : {ms : List Mark} → Reads (arguments absent) ms ms
  some_arguments : {p : Spot} {xs : Trees} {ms rest : List Mark} → Reads (given xs) ms rest →
      Reads (arguments (t.given xs)) (sign p s.LeftParen ∷ ms) rest
  -- nothing between the parentheses
  none_given : {p : Spot} {rest : List Mark} → Reads (given none) (sign p s.RightParen ∷ rest) rest
  last_given : {p : Spot} {xs : Trees} {x : Tree} {ms mid rest : List Mark} → Reads (before xs) ms mid →
      Reads (argument x) mid (sign p s.RightParen ∷ rest)
      → Reads (given (more xs x)) ms rest
  -- nothing behind the last comma
  last_left_out : {p : Spot} {xs : Trees} {x : Tree} {ms rest : List Mark} → Reads (before (more xs x)) ms (sign p s.RightParen ∷ rest)
      → Reads (given (more (more xs x) (t.an_empty p))) ms rest
  none_before : {ms : List Mark} → Reads (before none) ms ms
  one_before : {p : Spot} {xs : Trees} {x : Tree} {ms mid rest : List Mark} → Reads (before xs) ms mid →
      Reads (argument x) mid (sign p s.Comma ∷ rest) → Reads (before (more xs x)) ms rest
  one_left_out : {p : Spot} {xs : Trees} {ms rest : List Mark} → Reads (before xs) ms (sign p s.Comma ∷ rest) →
      Reads (before (more xs (t.an_empty p))) ms rest
  an_argument : {e : Tree} {ms rest : List Mark} → Reads (expression 13 e) ms rest → Reads (argument e) ms rest
  a_list_argument : {e : Tree} {ms rest : List Mark} → Reads (brace_list e) ms rest → Reads (argument e) ms rest
  empty_list : {p q : Spot} {rest : List Mark} → Reads (brace_list (t.a_list p none)) (sign p s.LeftBrace ∷ sign q s.RightBrace ∷ rest) rest
  a_list : {p q : Spot} {xs : Trees} {x : Tree} {ms mid rest : List Mark} → Reads (members xs) ms mid →
      Reads (member x) mid (sign q s.RightBrace ∷ rest)
      → Reads (brace_list (t.a_list p (more xs x))) (sign p s.LeftBrace ∷ ms) rest
  no_members : {ms : List Mark} → Reads (members none) ms ms
  more_members : {p : Spot} {xs : Trees} {x : Tree} {ms mid rest : List Mark} → Reads (members xs) ms mid →
      Reads (member x) mid (sign p s.Comma ∷ rest) → Reads (members (more xs x)) ms rest
  -- a word, and no path
  a_word : {p : Spot} {w : List ℕ} {rest : List Mark} → Reads (member (t.an_item p w absent absent)) (word p false w ∷ rest) rest
  an_inner_list : {e : Tree} {ms rest : List Mark} → Reads (brace_list e) ms rest → Reads (member e) ms rest
  no_body : {ms : List Mark} → Reads (body absent) ms ms
  a_body : {p q : Spot} {done : Trees} {last : Option Tree} {ms rest : List Mark} →
      Reads (sequence 13 done last) ms (sign q s.RightBrace ∷ rest)
      → Reads (body (t.given (all done last))) (sign p s.LeftBrace ∷ ms) rest
  an_empty_row : {n : ℕ} {ms : List Mark} → Reads (sequence n none None) ms ms
  a_comma : {p : Spot} {done : Trees} {last : Option Tree} {ms rest : List Mark} → Reads (sequence 13 done last) ms (sign p s.Comma ∷ rest)
      → Reads (sequence 13 (more (all done last) (t.a_comma p)) None) ms rest
  a_semicolon : {p : Spot} {done : Trees} {last : Option Tree} {ms rest : List Mark} →
      Reads (sequence 13 done last) ms (sign p s.Semicolon ∷ rest)
      → Reads (sequence 13 (more (all done last) (t.a_semicolon p)) None) ms rest
  one_more : {n : ℕ} {done : Trees} {last : Option Tree} {e : Tree} {ms mid rest : List Mark} → Reads (sequence n done last) ms mid →
      MayFollow last mid → Reads (expression n e) mid rest
      → Reads (sequence n (all done last) (Some e)) ms rest

-- The trees are a source that the tokens spell: a row of items.
pub record IsSource (trees : Trees) (ms : List Mark) : Type 0 where
  pub done : Trees
  pub last : Option Tree
  pub row : Reads (sequence 0 done last) ms []
  pub are : trees ≡ all done last

-- The items are a source that the tokens spell.
pub record Spells (items : List Raw) (tokens : List Token) : Type 0 where
  pub trees : Trees
  pub source : IsSource trees (marks 0 tokens)
  pub are : items ≡ raws_of trees
