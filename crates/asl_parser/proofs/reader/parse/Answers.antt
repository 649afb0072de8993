use Rattle.std.proofs.Common.{◌≡◌, ℕ, ◌<◌, List, Result, Ok, Err, subst}
use Rattle.std.specs.Prelude.{IfOk}
use Rattle.std.specs.List.{All}
use Rattle.asl_lexer.specs.declared.token.Token.{Token}
use Rattle.asl_syntax.specs.declared.raw.RawUnit.{RawUnit}
use Rattle.asl_parser.specs.declared.reader.Syntax.{Syntax}
use Rattle.asl_parser.specs.Parse.{HasOutcome, outcome}
use Rattle.asl_syntax.specs.Within.{AreWithin}
use Rattle.asl_syntax.specs.Written.{writtens}
use Rattle.asl_parser.specs.Grammar.{Spells}
use Rattle.asl_parser.proofs.Homes.{spelled_within}
use Rattle.asl_parser.proofs.Told.{is_spelled, is_one, is_not_deep, is_fault}
use Rattle.asl_parser.proofs.reader.parse.Goals as goal

answers_at : (r : Result RawUnit Syntax) (us ts : List Token) → us ≡ ts → HasOutcome r us (outcome us) → HasOutcome r ts (outcome ts)
answers_at r us ts e a = subst (λ (vs : List Token). HasOutcome r vs (outcome vs)) e a

pub returns-clause-spelled : goal.returns-clause-spelled
returns-clause-spelled c = is_spelled c.args.tokens.now c.whole.result (answers_at c.whole.result c.as_slice.result.now c.args.tokens.now c.as_slice.ensures c.whole.ensures)

pub returns-clause-one : goal.returns-clause-one
returns-clause-one c = is_one c.args.tokens.now c.whole.result (answers_at c.whole.result c.as_slice.result.now c.args.tokens.now c.as_slice.ensures c.whole.ensures)

pub returns-clause-not_deep : goal.returns-clause-not_deep
returns-clause-not_deep c = is_not_deep c.args.tokens.now c.whole.result (answers_at c.whole.result c.as_slice.result.now c.args.tokens.now c.as_slice.ensures c.whole.ensures)

pub returns-clause-fails : goal.returns-clause-fails
returns-clause-fails c = is_fault c.args.tokens.now c.whole.result (answers_at c.whole.result c.as_slice.result.now c.args.tokens.now c.as_slice.ensures c.whole.ensures)

is_within : (tokens : List Token) (files : ℕ) (r : Result RawUnit Syntax) → All (λ token. token.place.file < files) tokens → IfOk r (λ unit. Spells unit.items tokens) → IfOk r (λ unit. AreWithin files (writtens unit.items))
is_within tokens files (Ok unit) h spelled = spelled_within files unit.items tokens spelled h
is_within tokens files (Err e) h spelled = tt

pub returns-clause-within : goal.returns-clause-within
returns-clause-within c = λ files h. is_within c.args.tokens.now files c.whole.result h (returns-clause-spelled c)
