-- The table is held against the definition at each of the 256 bytes, by computing.
use Rattle.std.proofs.Common.{◌≡◌, ℕ, ◌<◌, map, get_or, refl, ap, ◌∙◌, arith}
use Rattle.std.specs.List.{range_with_len}
use Rattle.std.proofs.lemmas.List.FromFn.{get_or-map-range_with_len}
use Rattle.asl_lexer.specs.declared.class.Class.TheVariants.{Blank}
use Rattle.asl_lexer.specs.declared.class.TheConstants.{CLASSES}
use Rattle.asl_lexer.specs.Class.{class_of as class_by}
use Rattle.asl_lexer.proofs.class.class_of.Goals as goal

table_is : CLASSES ≡ map class_by (range_with_len 0 256)
unfolding class_by
table_is = refl

read : (b : ℕ) → b < 256 → get_or CLASSES b Blank ≡ class_by b
read b h = ap (λ t. get_or t b Blank) table_is ∙ get_or-map-range_with_len class_by 0 256 b b Blank h (omega arith)

pub returns : goal.returns
returns c = read c.args.byte (omega arith)
