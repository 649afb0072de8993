-- The table is held against the definition at each of the 256 bytes, by computing.
use Rattle.std.proofs.Common.{◌≡◌, ℕ, ◌<◌, map, get_or, refl, ap, ◌∙◌, arith}
use Rattle.std.specs.List.{range_with_len}
use Rattle.std.specs.Char.{digit_value}
use Rattle.std.proofs.lemmas.List.FromFn.{get_or-map-range_with_len}
use Rattle.asl_lexer.specs.declared.class.TheConstants.{VALUES}
use Rattle.asl_lexer.proofs.class.value_of.Goals as goal

table_is : VALUES ≡ map digit_value (range_with_len 0 256)
table_is = refl

read : (b : ℕ) → b < 256 → get_or VALUES b 0 ≡ digit_value b
read b h = ap (λ t. get_or t b 0) table_is ∙ get_or-map-range_with_len digit_value 0 256 b b 0 h (omega arith)

pub returns : goal.returns
returns c = c.from.ensures ∙ read c.args.byte (omega arith)
