-- The table is held against the definition at each of the 256 bytes, by computing.
use Rattle.std.proofs.Common.{◌≡◌, ℕ, ◌<◌, Bool, map, get_or, nat_eq, refl, sym, ap, ◌∙◌, arith}
use Rattle.std.specs.List.{range_with_len}
use Rattle.std.proofs.lemmas.List.FromFn.{get_or-map-range_with_len}
use Rattle.asl_lexer.specs.declared.run.TheConstants.{FRONTS}
use Rattle.asl_lexer.specs.Runs.{is_alone}
use Rattle.asl_lexer.proofs.run.is_alone.Goals as goal

abbrev has_dot : ℕ → Bool
has_dot b = nat_eq (get_or FRONTS b 0) 46

table_is : map has_dot (range_with_len 0 256) ≡ map is_alone (range_with_len 0 256)
table_is = refl

read : (b : ℕ) → b < 256 → has_dot b ≡ is_alone b
read b h =
    sym (get_or-map-range_with_len has_dot 0 256 b b (has_dot 0) h (omega arith)) ∙ ap (λ t. get_or t b (has_dot 0)) table_is
    ∙ get_or-map-range_with_len is_alone 0 256 b b (has_dot 0) h (omega arith)

pub returns : goal.returns
returns c = read c.args.byte (omega arith)
