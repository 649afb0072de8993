-- What the value of a condition tells.
use Rattle.std.proofs.Common.{◌≡◌, ℕ, ◌≤◌, Bool, true, false, List, length, Option, Some, None, Result, Ok, Err, refl, ap, subst, ◌∙◌}
use Rattle.std.proofs.lemmas.Bool.{le-ltb, ltb-false}
use Rattle.std.specs.Prelude.{nat_lt, if◌then◌else◌, IfOk}
use Rattle.std.specs.Option.{option_and_then}
use Rattle.iasl_ports.specs.Fetched.{most_bytes}
use Rattle.asl_macros.specs.declared.context.Within.TheVariants.{InCondition}
use Rattle.asl_macros.specs.History.{History}
use Rattle.asl_macros.specs.Replacement.{replaced}
use Rattle.asl_conditions.specs.declared.tokens.ConditionToken.{ConditionToken}
use Rattle.asl_conditions.specs.declared.reader.ConditionStop.{ConditionStop}
use Rattle.asl_conditions.specs.Tokens.{tokens_of}
use Rattle.asl_conditions.specs.Reading.{value_of, Gives}
use Rattle.asl_conditions.specs.Condition.{is_known, text_value, condition_of}
use Rattle.asl_conditions.specs.Grammar.{IsCondition}
use Rattle.asl_conditions.proofs.Grammars.{value_is_read, read_is_value}

told_by : (history : History) (text : List ℕ) (value : ℕ) (tokens : Option (List ConditionToken)) → length (replaced InCondition history false text) ≤ most_bytes → tokens_of (is_known history) (replaced InCondition history false text) ≡ tokens
    → option_and_then value_of tokens ≡ Some value → IsCondition history text value
told_by history text value None h e f = absurd cc
told_by history text value (Some tokens) h e f = record { short = h; tokens = tokens; cut = e; is = read_is_value tokens value f }

short_by : (b : Bool) (history : History) (text : List ℕ) (value : ℕ) → nat_lt most_bytes (length (replaced InCondition history false text)) ≡ b
    → (if b then None else text_value (is_known history) (replaced InCondition history false text)) ≡ Some value → IsCondition history text value
short_by true history text value e f = absurd cc
short_by false history text value e f =
    told_by history text value (tokens_of (is_known history) (replaced InCondition history false text)) (ltb-false most_bytes (length (replaced InCondition history false text)) e) refl f

-- the definition's value is one
value_is : (history : History) (text : List ℕ) (value : ℕ) → condition_of history text ≡ Some value → IsCondition history text value
unfolding condition_of
value_is history text value e = short_by (nat_lt most_bytes (length (replaced InCondition history false text))) history text value refl e

-- and a value is the definition's
value_told : (history : History) (text : List ℕ) (value : ℕ) → IsCondition history text value → condition_of history text ≡ Some value
unfolding condition_of
value_told history text value is =
    ap (λ b. if b then None else text_value (is_known history) (replaced InCondition history false text)) (le-ltb most_bytes (length (replaced InCondition history false text)) is.short)
    ∙ ap (option_and_then value_of) is.cut ∙ value_is_read is.tokens value is.is

pub is_condition : (history : History) (text : List ℕ) (r : Result ℕ ConditionStop) → Gives r (condition_of history text) → IfOk r (λ value. IsCondition history text value)
is_condition history text (Ok value) h = value_is history text value h
is_condition history text (Err e) h = tt

pub is_only : (history : History) (text : List ℕ) (value : ℕ) (r : Result ℕ ConditionStop) → Gives r (condition_of history text) → IsCondition history text value → Gives r (Some value)
is_only history text value r h is = subst (Gives r) (value_told history text value is) h
