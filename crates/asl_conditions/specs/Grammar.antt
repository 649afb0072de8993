-- What a condition's tokens spell, and what that is worth.
use Rattle.std.specs.Prelude.{◌≡◌, ℕ, suc, ◌≤◌, Bool, false, List, [], ◌∷◌, ◌++◌, length, Some}
use Rattle.iasl_ports.specs.Fetched.{most_bytes}
use Rattle.asl_macros.specs.declared.context.Within.TheVariants.{InCondition}
use Rattle.asl_macros.specs.History.{History}
use Rattle.asl_macros.specs.Replacement.{replaced}
use Rattle.asl_conditions.specs.declared.operators.ConditionPrefix.{ConditionPrefix}
use Rattle.asl_conditions.specs.declared.operators.ConditionInfix.{ConditionInfix}
use Rattle.asl_conditions.specs.declared.operators.Operand.{Operand}
use Rattle.asl_conditions.specs.declared.tokens.ConditionToken.{ConditionToken}
use Rattle.asl_conditions.specs.declared.tokens.ConditionToken.TheVariants as t
use Rattle.asl_conditions.specs.Operators.{truth, apply_prefix, operand}
use Rattle.asl_conditions.specs.Worth.{IsWorth}
use Rattle.asl_conditions.specs.Tokens.{tokens_of}
use Rattle.asl_conditions.specs.Condition.{is_known}

-- what has a rule
pub data ConditionPhrase : Type 0 where
  -- an operand of this value
  part : ℕ → ConditionPhrase
  -- operands, each with the operator behind it
  front : List Operand → ConditionPhrase
  -- these, and a last operand
  row : List Operand → ℕ → ConditionPhrase

-- The tokens of the first list spell the phrase, up to those of the second. At most so many parentheses and
-- prefix operators are open in it at once.
pub data SpellsPhrase : ℕ → ConditionPhrase → List ConditionToken → List ConditionToken → Type 0 where
  a_number : {open_most n : ℕ} {rest : List ConditionToken} → SpellsPhrase open_most (part n) (t.Number n ∷ rest) rest
  -- a name that stands after replacement is 0
  a_name : {open_most : ℕ} {b : Bool} {rest : List ConditionToken} → SpellsPhrase open_most (part 0) (t.Name b ∷ rest) rest
  -- `defined X`, where X may be the word `defined` too
  a_defined : {open_most : ℕ} {b c : Bool} {rest : List ConditionToken} → SpellsPhrase open_most (part (truth b))
      (t.Defined c ∷ t.Name b ∷ rest) rest
  a_defined_word : {open_most : ℕ} {b c : Bool} {rest : List ConditionToken} → SpellsPhrase open_most (part (truth b))
      (t.Defined c ∷ t.Defined b ∷ rest) rest
  -- `defined (X)`
  in_parentheses : {open_most : ℕ} {b c : Bool} {rest : List ConditionToken} → SpellsPhrase (suc open_most) (part (truth b))
      (t.Defined c ∷ t.Open ∷ t.Name b ∷ t.Close ∷ rest) rest
  word_in_parentheses : {open_most : ℕ} {b c : Bool} {rest : List ConditionToken} → SpellsPhrase (suc open_most) (part (truth b))
      (t.Defined c ∷ t.Open ∷ t.Defined b ∷ t.Close ∷ rest) rest
  a_prefix : {open_most x : ℕ} {o : ConditionPrefix} {ms rest : List ConditionToken} → SpellsPhrase open_most (part x) ms rest →
      SpellsPhrase (suc open_most) (part (apply_prefix o x)) (t.Prefix o ∷ ms) rest
  -- a row in parentheses
  a_group : {open_most x last : ℕ} {xs : List Operand} {ms rest : List ConditionToken} → SpellsPhrase open_most (row xs last) ms
      (t.Close ∷ rest) → IsWorth 10 xs last x
      → SpellsPhrase (suc open_most) (part x) (t.Open ∷ ms) rest
  no_operand : {open_most : ℕ} {ms : List ConditionToken} → SpellsPhrase open_most (front []) ms ms
  one_more : {open_most x : ℕ} {o : ConditionInfix} {xs : List Operand} {ms mid rest : List ConditionToken} →
      SpellsPhrase open_most (front xs) ms mid → SpellsPhrase open_most (part x) mid (t.Infix o ∷ rest)
      → SpellsPhrase open_most (front (xs ++ operand x o ∷ [])) ms rest
  a_row : {open_most x : ℕ} {xs : List Operand} {ms mid rest : List ConditionToken} → SpellsPhrase open_most (front xs) ms mid →
      SpellsPhrase open_most (part x) mid rest → SpellsPhrase open_most (row xs x) ms rest

-- The tokens are an expression of this value, in which at most 128 parentheses and prefix operators are open at once.
pub record IsValue (tokens : List ConditionToken) (value : ℕ) : Type 0 where
  pub operands : List Operand
  pub last : ℕ
  pub spells : SpellsPhrase 128 (row operands last) tokens []
  pub worth : IsWorth 10 operands last value

-- The text is a condition of this value: once its names are replaced it is not too long, and its tokens are an
-- expression of the value.
pub record IsCondition (history : History) (text : List ℕ) (value : ℕ) : Type 0 where
  pub short : length (replaced InCondition history false text) ≤ most_bytes
  pub tokens : List ConditionToken
  pub cut : tokens_of (is_known history) (replaced InCondition history false text) ≡ Some tokens
  pub is : IsValue tokens value
