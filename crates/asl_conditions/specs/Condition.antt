-- The value of a condition.
use Rattle.std.specs.Prelude.{ℕ, if◌then◌else◌, nat_lt, is_some, Bool, false, List, length, Option, None}
use Rattle.std.specs.Option.{option_and_then}
use Rattle.iasl_ports.specs.Fetched.{most_bytes}
use Rattle.asl_macros.specs.declared.context.Within.TheVariants.{InCondition}
use Rattle.asl_macros.specs.History.{History, text_in}
use Rattle.asl_macros.specs.Replacement.{replaced}
use Rattle.asl_conditions.specs.Tokens.{tokens_of}
use Rattle.asl_conditions.specs.Reading.{value_of}

-- whether a name is defined
abbrev pub is_known : History → List ℕ → Bool
is_known history name = is_some (text_in history name)

-- the value of a text, the names of which are replaced already
abbrev pub text_value : (List ℕ → Bool) → List ℕ → Option ℕ
text_value known text = option_and_then value_of (tokens_of known text)

-- The value of the condition of an `#if` or `#elif`. None: it is too long once its names are replaced, is no
-- expression, has too much open at once, or divides by 0.
unfoldable pub condition_of : History → List ℕ → Option ℕ
condition_of history text =
    if nat_lt most_bytes (length (replaced InCondition history false text)) then None else
    text_value (is_known history) (replaced InCondition history false text)
