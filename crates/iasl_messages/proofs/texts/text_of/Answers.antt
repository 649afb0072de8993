use Rattle.std.proofs.Common.{rules, tests}
use Rattle.iasl_messages.specs.Texts.{text_of}
use Rattle.iasl_messages.proofs.texts.text_of.Goals as goal

pub returns-in_default : goal.returns-in_default
unfolding text_of
returns-in_default c = search (tests, rules)
