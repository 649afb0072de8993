-- Tokens as the grammar reads them: numbered, and symbols told apart.
use Rattle.std.specs.Prelude.{ℕ, suc, List, [], ◌∷◌, Option, Some, None, Bool, true, false}
use Rattle.asl_lexer.specs.declared.token.TokenKind.{TokenKind}
use Rattle.asl_lexer.specs.declared.token.TokenKind.TheVariants as k
use Rattle.asl_lexer.specs.declared.token.Token.{Token}
use Rattle.asl_syntax.specs.declared.sign.Sign.{Sign}
use Rattle.asl_syntax.specs.declared.mark.Lexeme.{Lexeme}
use Rattle.asl_syntax.specs.declared.mark.Lexeme.TheVariants as l
use Rattle.asl_syntax.specs.declared.mark.Mark.{Mark}
use Rattle.asl_syntax.specs.Signs.{sign_of}

abbrev pub symbol : Option Sign → Lexeme
symbol None = l.Other
symbol (Some x) = l.Sign x

abbrev pub lexeme_by : TokenKind → ℕ → List ℕ → Lexeme
lexeme_by k.Word n text = l.Word false text
lexeme_by k.Path n text = l.Word true text
lexeme_by k.Number n text = l.Number n
lexeme_by k.Text n text = l.Text text
lexeme_by k.Symbol n text = symbol (sign_of text)

abbrev pub lexeme : Token → Lexeme
lexeme t = lexeme_by t.kind t.number t.text

abbrev pub mark : ℕ → Token → Mark
mark n t = record { spot = record { token = n; place = t.place }; lexeme = lexeme t }

-- a word or path
abbrev pub is_word : TokenKind → Bool
is_word k.Word = true
is_word k.Path = true
is_word _ = false

-- an expression by itself: all but symbols
abbrev pub is_plain : TokenKind → Bool
is_plain k.Symbol = false
is_plain _ = true

-- the tokens, the first of which has this number
abbrev pub marks : ℕ → List Token → List Mark
marks n [] = []
marks n (t ∷ ts) = mark n t ∷ marks (suc n) ts
