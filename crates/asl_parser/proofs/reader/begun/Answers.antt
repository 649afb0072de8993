use Rattle.std.proofs.Common.{sym, ap, ◌∙◌}
use Rattle.asl_syntax.specs.declared.mark.Look.{Look}
use Rattle.asl_syntax.specs.Looks.{lexeme_of}
use Rattle.asl_syntax.specs.Marks.{marks}
use Rattle.asl_parser.specs.Stages.{state_of}
use Rattle.asl_parser.proofs.Bracketed.{bracket_read, may_begin}
use Rattle.asl_parser.proofs.Onward.{holds_none}
use Rattle.asl_parser.proofs.reader.begun.Goals as goal

pub bracket-requires-clause-none : goal.bracket-requires-clause-none
bracket-requires-clause-none c = holds_none c.args.stage.now c.args.stack.now.0 c.requires.begins c.requires.holds

pub bracket-requires-clause-paren : goal.bracket-requires-clause-paren
bracket-requires-clause-paren c = sym c.requires.look ∙ ap (λ (look : Look). lexeme_of look c.args.token.now) (c.opens_bracket.ensures.paren c.if-not-opens_bracket.false)

pub returns-in-Ok-true-clause-advances : goal.returns-in-Ok-true-clause-advances
returns-in-Ok-true-clause-advances c =
    let a = c.args in let read = bracket_read c.in-Ok-true.field-0 (marks 0 a.tokens.now) a.at a.stack.now c.bracket.new.stack c.in-Ok-true.field-0-test c.in-Ok-true.ensures in
    rw c.set_whole.ensures (read.1 (state_of a.stage.now a.stack.now.0) (may_begin a.stage.now a.stack.now.0 c.requires.begins))
