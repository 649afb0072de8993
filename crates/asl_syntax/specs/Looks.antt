-- What a token is to the grammar, by how it looks.
use Rattle.std.specs.Prelude.{true, false}
use Rattle.asl_lexer.specs.declared.token.Token.{Token}
use Rattle.asl_syntax.specs.declared.mark.Lexeme.{Lexeme}
use Rattle.asl_syntax.specs.declared.mark.Lexeme.TheVariants as l
use Rattle.asl_syntax.specs.declared.mark.Look.{Look}
use Rattle.asl_syntax.specs.declared.mark.Look.TheVariants as look

abbrev pub lexeme_of : Look → Token → Lexeme
lexeme_of look.Word t = l.Word false t.text
lexeme_of look.Path t = l.Word true t.text
lexeme_of look.Number t = l.Number t.number
lexeme_of look.Text t = l.Text t.text
lexeme_of (look.Sign x) t = l.Sign x
lexeme_of look.Other t = l.Other
