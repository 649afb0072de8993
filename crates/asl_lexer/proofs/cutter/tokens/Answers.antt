use Rattle.std.proofs.Common.{subst}
use Rattle.asl_lexer.specs.Marks.{tokens_of, Answers}
use Rattle.asl_lexer.proofs.FineTokens.{is_fine}
use Rattle.asl_lexer.proofs.Told.{is_cut, is_only, is_fault, is_that_fault}
use Rattle.asl_lexer.proofs.Within.{stands_within}
use Rattle.asl_lexer.proofs.cutter.tokens.Goals as goal

pub returns-clause-found : goal.returns-clause-found
returns-clause-found c = is_cut c.args.lines.now.list c.answer.result (subst (λ ls. Answers c.answer.result (tokens_of ls)) c.as_slice.ensures c.answer.ensures)

pub returns-clause-only : goal.returns-clause-only
returns-clause-only c = is_only c.args.lines.now.list c.answer.result (subst (λ ls. Answers c.answer.result (tokens_of ls)) c.as_slice.ensures c.answer.ensures)

pub returns-clause-fault : goal.returns-clause-fault
returns-clause-fault c = is_fault c.args.lines.now.list c.answer.result (subst (λ ls. Answers c.answer.result (tokens_of ls)) c.as_slice.ensures c.answer.ensures)

pub returns-clause-first : goal.returns-clause-first
returns-clause-first c = is_that_fault c.args.lines.now.list c.answer.result (subst (λ ls. Answers c.answer.result (tokens_of ls)) c.as_slice.ensures c.answer.ensures)

pub returns-clause-fine : goal.returns-clause-fine
returns-clause-fine c = is_fine c.args.lines.now.list c.answer.result (is_cut c.args.lines.now.list c.answer.result (subst (λ ls. Answers c.answer.result (tokens_of ls)) c.as_slice.ensures c.answer.ensures))

pub returns-clause-within : goal.returns-clause-within
returns-clause-within c = λ files h. stands_within files c.args.lines.now.list c.answer.result (subst (λ ls. Answers c.answer.result (tokens_of ls)) c.as_slice.ensures c.answer.ensures) h
