use Rattle.std.proofs.Common.{◌≡◌, length}
use Rattle.std.specs.Prelude.{is_some}
use Rattle.std.specs.Option.{option_and_then}
use Rattle.asl_macros.specs.Table.{text_at}
use Rattle.asl_conditions.specs.Tokens.{tokens_of}
use Rattle.asl_conditions.specs.Reading.{run}
use Rattle.asl_conditions.specs.Condition.{text_value}
use Rattle.asl_conditions.proofs.value.value_of.Given as goal

abbrev pub invariant-loop-rest : goal.invariant-loop-rest
invariant-loop-rest l =
    option_and_then (run l.reader) (tokens_of (λ name. is_some (text_at l.macros name)) l.rest) ≡ text_value (λ name. is_some (text_at l.macros name)) l.text

abbrev pub decreases-loop-rest : goal.decreases-loop-rest
decreases-loop-rest l = length l.rest
