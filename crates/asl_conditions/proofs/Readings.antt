-- Tokens read one after another.
use Rattle.std.proofs.Common.{◌≡◌, ℕ, zero, suc, ◌-◌, ◌<◌, ◌≤◌, Bool, false, List, [], ◌∷◌, length, drop, Option, Some, None, refl, sym, ap, subst, ◌∙◌, arith}
use Rattle.std.specs.Prelude.{if◌then◌else◌, is_some}
use Rattle.std.specs.Option.{option_and_then}
use Rattle.std.proofs.lemmas.Bool.{lt-ltb, le-ltb}
use Rattle.iasl_ports.specs.Fetched.{most_bytes}
use Rattle.asl_macros.specs.declared.context.Within.TheVariants.{InCondition}
use Rattle.asl_macros.specs.declared.table.Macros.{Macros}
use Rattle.asl_macros.specs.History.{History}
use Rattle.asl_macros.specs.Table.{Tells, text_at}
use Rattle.asl_macros.specs.Replacement.{replaced}
use Rattle.asl_conditions.specs.Condition.{is_known, text_value, condition_of}
use Rattle.asl_conditions.specs.declared.tokens.ConditionToken.{ConditionToken}
use Rattle.asl_conditions.specs.declared.tokens.ConditionCut.{ConditionCut}
use Rattle.asl_conditions.specs.declared.tokens.ConditionLexeme.{ConditionLexeme}
use Rattle.asl_conditions.specs.declared.tokens.ConditionLexeme.TheVariants.{Blank, Whole, Bad}
use Rattle.asl_conditions.specs.declared.reader.ConditionReader.{ConditionReader}
use Rattle.asl_conditions.specs.declared.reader.ConditionStop.{ConditionStop}
use Rattle.asl_conditions.specs.declared.reader.ConditionStop.TheVariants as stop
use Rattle.asl_conditions.specs.Tokens.{cut_at, before, tokens_behind, tokens_of}
use Rattle.asl_conditions.specs.Reading.{read, run, Fails}

behind_is : (is_known : List ℕ → Bool) (n : ℕ) (text : List ℕ) → tokens_behind is_known n text ≡ tokens_of is_known (drop n text)
unfolding tokens_behind
behind_is is_known zero text = refl
behind_is is_known (suc n) [] = refl
behind_is is_known (suc n) (b ∷ bs) = behind_is is_known n bs

drop_of : (n : ℕ) (b : ℕ) (bs : List ℕ) → 0 < n → drop (n - 1) bs ≡ drop n (b ∷ bs)
drop_of zero b bs h = absurd (omega arith)
drop_of (suc n) b bs h = ap (λ m. drop m bs) (omega arith)

-- what stands at the front, before the tokens of what stands behind it
pub tokens_step : (is_known : List ℕ → Bool) (text rest : List ℕ) (cut : ConditionCut) → cut ≡ cut_at is_known text → 0 < length text → 0 < cut.length → rest ≡ drop cut.length text
    → tokens_of is_known text ≡ before cut.lexeme (tokens_of is_known rest)
unfolding tokens_behind
tokens_step is_known [] rest cut is h f e = absurd (omega arith)
tokens_step is_known (b ∷ bs) rest cut is h f e =
    ap (λ (c : ConditionCut). before c.lexeme (tokens_behind is_known (c.length - 1) bs)) (sym is)
    ∙ ap (before cut.lexeme) (behind_is is_known (cut.length - 1) bs ∙ ap (tokens_of is_known) (drop_of cut.length b bs f ∙ sym e))

pub no_tokens : (is_known : List ℕ → Bool) (text : List ℕ) → length text ≡ 0 → tokens_of is_known text ≡ Some []
unfolding tokens_behind
no_tokens is_known [] h = refl
no_tokens is_known (b ∷ bs) h = absurd (omega arith)

-- a token is read before the others
pub read_goes : (r next : ConditionReader) (lexeme : ConditionLexeme) (tokens : Option (List ConditionToken)) → read r lexeme ≡ Some next → option_and_then (run next) tokens ≡ option_and_then (run r) (before lexeme tokens)
unfolding run
read_goes r next Blank None e = refl
read_goes r next Blank (Some ts) e = let same : r ≡ next = cc in ap (λ q. run q ts) (sym same)
read_goes r next (Whole token) None e = refl
read_goes r next (Whole token) (Some ts) e = sym (ap (option_and_then (λ q. run q ts)) e)
read_goes r next Bad tokens e = absurd cc

-- and where it cannot be read there is no value
pub read_fails : (r : ConditionReader) (lexeme : ConditionLexeme) (tokens : Option (List ConditionToken)) → read r lexeme ≡ None → option_and_then (run r) (before lexeme tokens) ≡ None
unfolding run
read_fails r Blank tokens e = absurd cc
read_fails r (Whole token) None e = refl
read_fails r (Whole token) (Some ts) e = ap (option_and_then (λ q. run q ts)) e
read_fails r Bad tokens e = refl

-- why there is no value is why there is none of the whole
pub fails_along : {A B : Type 0} (s : ConditionStop) (x : Option A) (y : Option B) → (x ≡ None → y ≡ None) → Fails s x → Fails s y
fails_along stop.Bad x y f e = f e
fails_along stop.Memory x y f e = tt

-- ---- the whole

pub condition_short : (macros : Macros) (history : History) (text front : List ℕ) → Tells macros history → front ≡ replaced InCondition history false text → length front ≤ most_bytes
    → text_value (λ name. is_some (text_at macros name)) front ≡ condition_of history text
unfolding condition_of
condition_short macros history text front tells e h =
    let fits : length (replaced InCondition history false text) ≤ most_bytes = subst (λ t. length t ≤ most_bytes) e h in
    ap (λ (known : List ℕ → Bool). text_value known front) (λ i name. is_some (tells.text name i)) ∙ ap (text_value (is_known history)) e
    ∙ sym (ap (λ b. if b then None else text_value (is_known history) (replaced InCondition history false text)) (le-ltb most_bytes (length (replaced InCondition history false text)) fits))

pub condition_long : (history : History) (text : List ℕ) → most_bytes < length (replaced InCondition history false text) → condition_of history text ≡ None
unfolding condition_of
condition_long history text h = ap (λ b. if b then None else text_value (is_known history) (replaced InCondition history false text)) (lt-ltb most_bytes (length (replaced InCondition history false text)) h)
