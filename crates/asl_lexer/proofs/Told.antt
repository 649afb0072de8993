-- What an answer tells.
use Rattle.std.proofs.Common.{◌≡◌, List, [], ◌∷◌, Result, Ok, Err, refl, subst}
use Rattle.std.specs.Prelude.{IfOk, IfErr, MatchResult}
use Rattle.iasl_messages.specs.declared.place.Line.{Line}
use Rattle.iasl_messages.specs.declared.message.Message.{Message}
use Rattle.iasl_messages.specs.declared.message.Stage.{Stage}
use Rattle.iasl_messages.specs.declared.message.Stage.TheVariants.{Refused, Memory}
use Rattle.asl_lexer.specs.declared.token.Token.{Token}
use Rattle.asl_lexer.specs.declared.mode.Fault.{Fault}
use Rattle.asl_lexer.specs.Marks.{joined, tokens_of, message_of, Answers}
use Rattle.asl_lexer.specs.Cut.{IsCut, HasFault, Explains}
use Rattle.asl_lexer.proofs.Sound.{Tells, all_tells}
use Rattle.asl_lexer.proofs.Complete.{cut_is_scanned, fault_is_scanned}

lines_tell : (lines : List Line) → Tells (joined lines) (tokens_of lines)
unfolding tokens_of
lines_tell lines = all_tells (joined lines)

-- the definition's tokens are a cut
pub tokens_are_cut : (lines : List Line) (tokens : List Token) → tokens_of lines ≡ Ok tokens → IsCut lines tokens
tokens_are_cut lines tokens e = subst (Tells (joined lines)) e (lines_tell lines)

-- and its fault is one
pub fault_is : (lines : List Line) (x : Fault) → tokens_of lines ≡ Err x → HasFault lines x
fault_is lines x e = subst (Tells (joined lines)) e (lines_tell lines)

-- a cut is the definition's tokens
pub cut_is_tokens : (lines : List Line) (tokens : List Token) → IsCut lines tokens → tokens_of lines ≡ Ok tokens
unfolding tokens_of
cut_is_tokens lines tokens cut = cut_is_scanned (joined lines) tokens cut

-- a fault is the definition's
pub fault_is_told : (lines : List Line) (x : Fault) → HasFault lines x → tokens_of lines ≡ Err x
unfolding tokens_of
fault_is_told lines x h = fault_is_scanned (joined lines) x h

pub is_cut : (lines : List Line) (r : Result (List Token) Stage) → Answers r (tokens_of lines) → IfOk r (λ tokens. IsCut lines tokens)
is_cut lines (Ok tokens) h = tokens_are_cut lines tokens h
is_cut lines (Err x) h = tt

pub is_only : (lines : List Line) (r : Result (List Token) Stage) → Answers r (tokens_of lines) → (others : List Token) → IsCut lines others → Answers r (Ok others)
is_only lines r h others cut = subst (Answers r) (cut_is_tokens lines others cut) h

explains : (lines : List Line) (messages : List Message) (y : Result (List Token) Fault) → tokens_of lines ≡ y → MatchResult y (λ _. ⊥) (λ fault. messages ≡ message_of fault ∷ []) → Explains (Refused messages) lines
explains lines messages (Ok tokens) e h = absurd h
explains lines messages (Err x) e h = (x, h, fault_is lines x e)

pub is_fault : (lines : List Line) (r : Result (List Token) Stage) → Answers r (tokens_of lines) → IfErr r (λ stage. Explains stage lines)
is_fault lines (Ok tokens) h = tt
is_fault lines (Err (Refused messages)) h = explains lines messages (tokens_of lines) refl h
is_fault lines (Err Memory) h = tt

pub is_that_fault : (lines : List Line) (r : Result (List Token) Stage) → Answers r (tokens_of lines) → (x : Fault) → HasFault lines x → Answers r (Err x)
is_that_fault lines r h x has = subst (Answers r) (fault_is_told lines x has) h
