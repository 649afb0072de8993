-- What a walk reaches, and what the call answers.
use Rattle.std.proofs.Common.{◌≡◌, List, Result, Ok, Err, sym, ap, ◌∙◌, inl, inr, arith}
use Rattle.asl_lexer.specs.declared.token.Token.{Token}
use Rattle.asl_syntax.specs.declared.raw.RawUnit.{RawUnit}
use Rattle.asl_syntax.specs.declared.subtree.Subtrees.{Subtrees}
use Rattle.asl_parser.specs.declared.reader.Syntax.{Syntax}
use Rattle.asl_parser.specs.declared.reader.Syntax.TheVariants as e
use Rattle.asl_syntax.specs.Marks.{marks}
use Rattle.asl_parser.specs.Machine.{source, reading}
use Rattle.asl_parser.specs.Parse.{EndsIn, HasOutcome, Gives, tall, grown_to, outcome_by, outcome}
use Rattle.asl_parser.proofs.Walks.{length-marks}

pub answers_fault : (tokens : List Token) (x : Syntax) → EndsIn (Err x) (marks 0 tokens) (reading (marks 0 tokens)) → HasOutcome (Err x) tokens (outcome tokens)
unfolding outcome
answers_fault tokens (e.Stop k) a = (omega (arith, a.0, length-marks 0 tokens), ap outcome_by a.1)
answers_fault tokens (e.TooDeep k) a = inl (omega (arith, a.0, length-marks 0 tokens), ap outcome_by a.1)
answers_fault tokens e.Memory a = tt

gives_by : (tokens : List Token) (trees : Subtrees) (r : Result RawUnit Syntax) → outcome tokens ≡ grown_to trees trees.raws → Gives r trees → HasOutcome r tokens (outcome tokens)
gives_by tokens trees (Ok unit) is gives = is ∙ ap (grown_to trees) gives
gives_by tokens trees (Err (e.Stop k)) is gives = absurd gives
gives_by tokens trees (Err (e.TooDeep k)) is gives = inr (is ∙ ap (grown_to trees) gives.0 ∙ ap tall (sym gives.1))
gives_by tokens trees (Err e.Memory) is gives = absurd gives

pub answers_trees : (tokens : List Token) (trees : Subtrees) (r : Result RawUnit Syntax) → reading (marks 0 tokens) ≡ source trees → Gives r trees → HasOutcome r tokens (outcome tokens)
unfolding outcome
answers_trees tokens trees r is gives = gives_by tokens trees r (ap outcome_by is) gives
