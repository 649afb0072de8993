use Rattle.std.proofs.Common.{length, subst, Err}
use Rattle.asl_lexer.proofs.Told.{cut_is_tokens}
use Rattle.program_shapes.proofs.Lexed.{lexed_short}
use Rattle.asl_lexer.specs.Within.{IsWithin}
use Rattle.iasl_messages.specs.declared.message.Stage.{Stage}
use Rattle.asl_tables.proofs.compile.compile.Goals as goal

pub returns-in-Ok-2-clause-within : goal.returns-in-Ok-2-clause-within
returns-in-Ok-2-clause-within c =
    let files = length c.args.lines.now.files in
    c.compile_lines.ensures.within files c.requires.main (c.in-Ok.ensures.within files c.requires.files)

pub returns-in_ok-refusal-in-Err-clause-within : goal.returns-in_ok-refusal-in-Err-clause-within
returns-in_ok-refusal-in-Err-clause-within c =
    let files = length c.args.lines.now.files in
    subst (λ (stage : Stage). IsWithin files (Err stage)) c.in_ok-refusal-in-Err.ensures.refused (c.in-Err.ensures.within files c.requires.files)

pub compile_lines-requires-clause-short : goal.compile_lines-requires-clause-short
compile_lines-requires-clause-short c = lexed_short c.args.lines.now.list c.in-Ok.tokens (cut_is_tokens c.args.lines.now.list c.in-Ok.tokens c.in-Ok.ensures.found) c.requires.short
