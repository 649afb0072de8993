use Rattle.std.proofs.Common.{◌≡◌, ◌++◌, drop}
use Rattle.iasl_messages.specs.Console.{messages_text}
use Rattle.iasl_messages.proofs.console.render.Given as goal

abbrev pub invariant-loop-message : goal.invariant-loop-message
invariant-loop-message l = l.out.items ++ messages_text l.files l.brief (drop l.message-index l.list) ≡ messages_text l.files l.brief l.list
