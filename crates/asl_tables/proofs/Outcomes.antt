-- What the parser answers, and what a main file then comes to.
use Rattle.std.proofs.Common.{◌≡◌, ℕ, suc, ◌-◌, ◌<◌, ◌≤◌, ◌⊎◌, inl, inr, List, [], ◌∷◌, length, drop, Result, Ok, Err, refl, sym, ap, ◌∙◌, subst, arith}
use Rattle.iasl_messages.specs.declared.place.Line.{Line}
use Rattle.asl_lexer.specs.declared.token.Token.{Token}
use Rattle.asl_lexer.specs.declared.mode.Fault.{Fault}
use Rattle.asl_lexer.specs.Marks.{tokens_of, Answers}
use Rattle.iasl_messages.specs.declared.message.Message.{Message}
use Rattle.iasl_messages.specs.declared.message.Stage.{Stage}
use Rattle.iasl_messages.specs.declared.message.Stage.TheVariants.{Refused as Refused', Memory as Memory'}
use Rattle.asl_syntax.specs.declared.raw.Raw.{Raw}
use Rattle.asl_syntax.specs.Marks.{marks}
use Rattle.asl_parser.specs.Parse.{outcome, read, stopped, sunk, tall}
use Rattle.std.proofs.lemmas.List.{length-drop}
use Rattle.std.specs.Prelude.{IfOk, IfErr}
use Rattle.block_outcomes.specs.declared.outcome.Compiled.{Compiled}
use Rattle.block_outcomes.specs.declared.outcome.Compiled.TheVariants.{Refused}
use Rattle.asl_tables.specs.Syntax.{not_source, too_deep}
use Rattle.asl_tables.specs.declared.compile.Style.{Style}
use Rattle.asl_tables.specs.Compiled.{all_noted, outcomes_in, of_items, of_outcome, of_tokens, of_lines}
use Rattle.asl_tables.specs.declared.compile.ReadBlock.{ReadBlock}
use Rattle.asl_tables.specs.Reads.{AreReadOf, items_in, IsSourceOf, IsRefusalOf, UnlessMemory}
use Rattle.asl_shape.specs.Forms.{source_errors}
use Rattle.asl_shape.specs.AtRaw.{Refuses}
use Rattle.program_shapes.specs.Kept.{AreKeptAlone}
use Rattle.block_outcomes.specs.Joined.{unless_refused, joined}

length-marks : (n : ℕ) (tokens : List Token) → length (marks n tokens) ≡ length tokens
length-marks n [] = refl
length-marks n (t ∷ ts) = ap suc (length-marks (suc n) ts)

left : (k : ℕ) (tokens : List Token) → length (drop k (marks 0 tokens)) ≡ length tokens - k
left k tokens = length-drop k (marks 0 tokens) ∙ ap (λ n. n - k) (length-marks 0 tokens)

pub read_is : (style : Style) (lines : List Line) (tokens : List Token) (items : List Raw) → outcome tokens ≡ read items → of_items style lines items ≡ of_outcome style lines tokens (outcome tokens)
read_is style lines tokens items e = sym (ap (of_outcome style lines tokens) e)

pub stop_is : (style : Style) (lines : List Line) (tokens : List Token) (k : ℕ) → (k ≤ length tokens) × (outcome tokens ≡ stopped (drop k (marks 0 tokens))) → Refused (not_source tokens k ∷ []) ≡ of_outcome style lines tokens (outcome tokens)
stop_is style lines tokens k h =
    let l = left k tokens in
    let e : k ≡ length tokens - length (drop k (marks 0 tokens)) = omega (arith, h.0, l) in
    ap (λ n. Refused (not_source tokens n ∷ [])) e ∙ sym (ap (of_outcome style lines tokens) h.1)

pub deep_is : (style : Style) (lines : List Line) (tokens : List Token) (k : ℕ) → ((k < length tokens) × (outcome tokens ≡ sunk (drop (suc k) (marks 0 tokens)))) ⊎ (outcome tokens ≡ tall k) → Refused (too_deep tokens k ∷ []) ≡ of_outcome style lines tokens (outcome tokens)
deep_is style lines tokens k (inl h) =
    let l = left (suc k) tokens in
    let e : k ≡ length tokens - suc (length (drop (suc k) (marks 0 tokens))) = omega (arith, h.0, l) in
    ap (λ n. Refused (too_deep tokens n ∷ [])) e ∙ sym (ap (of_outcome style lines tokens) h.1)
deep_is style lines tokens k (inr e) = sym (ap (of_outcome style lines tokens) e)

by_fault : (style : Style) (lines : List Line) (messages : List Message) (r : Result (List Token) Fault) → Answers (Err (Refused' messages)) r → Refused messages ≡ of_tokens style lines r
by_fault style lines messages (Ok tokens) m = absurd m
by_fault style lines messages (Err fault) m = ap Refused m

-- the first fault of the tokens
pub fault_is : (style : Style) (lines : List Line) (stage : Stage) (messages : List Message) → Answers (Err stage) (tokens_of lines) → stage ≡ Refused' messages → Refused messages ≡ of_lines style lines
fault_is style lines stage messages m e = by_fault style lines messages (tokens_of lines) (subst (λ (s : Stage). Answers (Err s) (tokens_of lines)) e m)

-- ---- what is read of tokens

pub read_source : {V : Type 0} (r : Result V Stage) (its : V → List ReadBlock) (tokens : List Token) (items : List Raw) → outcome tokens ≡ read items → AreKeptAlone items → IfOk r (λ v. source_errors items ≡ []) → IfOk r (λ v. AreReadOf items (its v)) → IfOk r (λ v. IsSourceOf tokens (items_in (outcome tokens)) (its v))
read_source (Ok v) its tokens items tree kept right reads = subst (λ xs. IsSourceOf tokens xs (its v)) (sym (ap items_in tree)) (record { tree = tree; kept = kept; no_errors = right; blocks = reads })
read_source (Err stage) its tokens items tree kept right reads = tt

refused_by : (errors messages : List Message) (it : Compiled) → messages ≡ errors → (errors ≡ [] → ⊥) → Refused messages ≡ unless_refused errors it
refused_by [] messages it e some = absurd (some refl)
refused_by (m ∷ ms) messages it e some = ap Refused e

pub form_refused : (stage : Stage) (tokens : List Token) (items : List Raw) → outcome tokens ≡ read items → Refuses stage (source_errors items) → IsRefusalOf tokens stage
form_refused (Refused' messages) tokens items tree h = λ style lines. refused_by (source_errors items) messages (joined (all_noted items) (outcomes_in style lines items)) h.0 h.1 ∙ read_is style lines tokens items tree
form_refused Memory' tokens items tree h = tt

pub unit_refused : {V : Type 0} (r : Result V Stage) (tokens : List Token) (items : List Raw) → outcome tokens ≡ read items → IfErr r (λ stage. Refuses stage (source_errors items)) → IfErr r (IsRefusalOf tokens)
unit_refused (Ok v) tokens items tree h = tt
unit_refused (Err stage) tokens items tree h = form_refused stage tokens items tree h

pub message_refused : (stage : Stage) (message : Message) (tokens : List Token) → Refuses stage (message ∷ []) → ((style : Style) (lines : List Line) → Refused (message ∷ []) ≡ of_outcome style lines tokens (outcome tokens)) → IsRefusalOf tokens stage
message_refused (Refused' messages) message tokens h comes = λ style lines. ap Refused h.0 ∙ comes style lines
message_refused Memory' message tokens h comes = tt

pub unless_memory : {V : Type 0} (r : Result V Stage) (fact : Type 0) → fact → UnlessMemory r fact
unless_memory (Ok v) fact h = h
unless_memory (Err (Refused' messages)) fact h = h
unless_memory (Err Memory') fact h = tt

-- a refusal that has messages
pub refusal_is : (stage : Stage) (messages : List Message) (tokens : List Token) (style : Style) (lines : List Line) → stage ≡ Refused' messages → IsRefusalOf tokens stage → Refused messages ≡ of_outcome style lines tokens (outcome tokens)
refusal_is stage messages tokens style lines e h = subst (IsRefusalOf tokens) e h style lines

pub refusal_known : {V : Type 0} (r : Result V Stage) (stage : Stage) (messages : List Message) (fact : Type 0) → r ≡ Err stage → stage ≡ Refused' messages → UnlessMemory r fact → fact
refusal_known r stage messages fact is e h = subst (λ x. UnlessMemory x fact) (is ∙ ap Err e) h
