use Rattle.std.proofs.Common.{length, Err, subst}
use Rattle.iasl_messages.specs.declared.message.Stage.{Stage}
use Rattle.data_tables.specs.Promise.{TellsWithin}
use Rattle.iasl_tool.proofs.source.compile_table.Goals as goal

pub returns-in_ok-refusal-in-Err-clause-within : goal.returns-in_ok-refusal-in-Err-clause-within
returns-in_ok-refusal-in-Err-clause-within c =
    let files = length c.args.lines.now.files in
    subst (λ (stage : Stage). TellsWithin files (Err stage)) c.in_ok-refusal-in-Err.ensures.refused c.in-Err.ensures.within
