-- What holds of each token.
use Rattle.std.specs.Prelude.{◌≡◌, ◌^◌, ◌<◌, true}
use Rattle.std.specs.List.{All}
use Rattle.asl_lexer.specs.declared.token.Token.{Token}
use Rattle.asl_lexer.specs.declared.token.TokenKind.TheVariants as k
use Rattle.asl_lexer.specs.Scan.{is_plain}

-- a number fits 64 bits, and a string holds bytes from 1 to 127
pub record IsFine (token : Token) : Type 0 where
  pub fits : token.number < 2 ^ 64
  pub plain : token.kind ≡ k.Text → All (λ b. is_plain b ≡ true) token.text
