-- The tokens of a condition.
use Rattle.std.specs.Prelude.{ℕ, zero, suc, ◌-◌, ◌==◌, Bool, if◌then◌else◌, List, [], ◌∷◌, take, codes, Option, Some, None}
use Rattle.std.specs.Option.{option_map}
use Rattle.std.specs.Str.{bytes_eq}
use Rattle.asl_fragments.specs.Bytes.{is_blank}
use Rattle.asl_fragments.specs.declared.fragment.Fragment.{Fragment}
use Rattle.asl_fragments.specs.declared.fragment.FragmentKind.{FragmentKind}
use Rattle.asl_fragments.specs.declared.fragment.FragmentKind.TheVariants as k
use Rattle.asl_fragments.specs.Fragments.{fragment_of}
use Rattle.asl_conditions.specs.declared.operators.ConditionPrefix.TheVariants.{Not, Complement}
use Rattle.asl_conditions.specs.declared.operators.ConditionInfix.{ConditionInfix}
use Rattle.asl_conditions.specs.declared.operators.ConditionInfix.TheVariants as op
use Rattle.asl_conditions.specs.declared.tokens.ConditionToken.{ConditionToken}
use Rattle.asl_conditions.specs.declared.tokens.ConditionToken.TheVariants as t
use Rattle.asl_conditions.specs.declared.tokens.ConditionLexeme.{ConditionLexeme}
use Rattle.asl_conditions.specs.declared.tokens.ConditionLexeme.TheVariants.{Blank, Whole, Bad}
use Rattle.asl_conditions.specs.declared.tokens.ConditionCut.{ConditionCut}
use Rattle.asl_conditions.specs.Numbers.{number_of}

abbrev pub infix_of : ConditionInfix → ConditionLexeme
infix_of operator = Whole (t.Infix operator)

-- what a byte outside identifiers, numbers, strings and comments is, alone
unfoldable pub one_byte : ℕ → ConditionLexeme
one_byte b =
    if is_blank b then Blank else (
    if b == 40 then Whole t.Open else (
    if b == 41 then Whole t.Close else (
    if b == 33 then Whole (t.Prefix Not) else (
    if b == 126 then Whole (t.Prefix Complement) else (
    if b == 42 then infix_of op.Multiply else (
    if b == 47 then infix_of op.Divide else (
    if b == 37 then infix_of op.Remainder else (
    if b == 43 then infix_of op.Add else (
    if b == 45 then infix_of op.Subtract else (
    if b == 60 then infix_of op.Less else (
    if b == 62 then infix_of op.Greater else (
    if b == 38 then infix_of op.BitAnd else (
    if b == 94 then infix_of op.BitXor else (
    if b == 124 then infix_of op.BitOr else Bad))))))))))))))

-- the operators of two bytes
unfoldable pub two_bytes : ℕ → ℕ → Option ConditionInfix
two_bytes b c =
    if b == 60 then (if c == 60 then Some op.ShiftLeft else (if c == 61 then Some op.AtMost else None)) else (
    if b == 62 then (if c == 62 then Some op.ShiftRight else (if c == 61 then Some op.AtLeast else None)) else (
    if b == 61 then (if c == 61 then Some op.Equal else None) else (
    if b == 33 then (if c == 61 then Some op.Unequal else None) else (
    if b == 38 then (if c == 38 then Some op.Both else None) else (
    if b == 124 then (if c == 124 then Some op.Either else None) else None)))))

abbrev pub made : ConditionLexeme → ℕ → ConditionCut
made lexeme length = record { lexeme = lexeme; length = length }

abbrev pub sign_by : Option ConditionInfix → ℕ → ConditionCut
sign_by (Some operator) b = made (infix_of operator) 2
sign_by None b = made (one_byte b) 1

-- the sign that a byte begins: the longest
abbrev pub sign_of : ℕ → List ℕ → ConditionCut
sign_of b [] = made (one_byte b) 1
sign_of b (c ∷ bs) = sign_by (two_bytes b c) b

abbrev pub number_by : Option ℕ → ConditionLexeme
number_by (Some n) = Whole (t.Number n)
number_by None = Bad

-- a word: `defined` or a name, with whether it is a name that is defined
abbrev pub word_of : (List ℕ → Bool) → List ℕ → ConditionLexeme
word_of is_known text = if bytes_eq text (codes "defined") then Whole (t.Defined (is_known text)) else Whole (t.Name (is_known text))

abbrev pub cut_by : FragmentKind → (List ℕ → Bool) → Fragment → ℕ → List ℕ → ConditionCut
cut_by k.Identifier is_known fragment b bs = made (word_of is_known (take fragment.length (b ∷ bs))) fragment.length
cut_by k.Number is_known fragment b bs = made (number_by (number_of (take fragment.length (b ∷ bs)))) fragment.length
cut_by k.Quoted is_known fragment b bs = made Bad fragment.length
cut_by k.Comment is_known fragment b bs = made Blank fragment.length
cut_by k.Other is_known fragment b bs = sign_of b bs

-- what stands at the front of a text. The first argument says which names are defined.
unfoldable pub cut_of : (List ℕ → Bool) → ℕ → List ℕ → ConditionCut
cut_of is_known b bs = cut_by (fragment_of b bs).kind is_known (fragment_of b bs) b bs

abbrev pub before : ConditionLexeme → Option (List ConditionToken) → Option (List ConditionToken)
before Blank tokens = tokens
before (Whole token) tokens = option_map (λ more. token ∷ more) tokens
before Bad tokens = None

-- the tokens of what stands behind so many bytes
unfoldable pub tokens_behind : (List ℕ → Bool) → ℕ → List ℕ → Option (List ConditionToken)
tokens_behind is_known passed [] = Some []
tokens_behind is_known zero (b ∷ bs) = before (cut_of is_known b bs).lexeme (tokens_behind is_known ((cut_of is_known b bs).length - 1) bs)
tokens_behind is_known (suc passed) (b ∷ bs) = tokens_behind is_known passed bs

-- the tokens of a text, one behind another, blanks aside; none where something is no token
abbrev pub tokens_of : (List ℕ → Bool) → List ℕ → Option (List ConditionToken)
tokens_of is_known text = tokens_behind is_known 0 text

-- what stands at the front of a text that is not empty
abbrev pub cut_at : (List ℕ → Bool) → List ℕ → ConditionCut
cut_at is_known [] = made Bad 0
cut_at is_known (b ∷ bs) = cut_of is_known b bs
