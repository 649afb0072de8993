use Rattle.std.proofs.Common.{sym, ◌∙◌}
use Rattle.asl_preprocess.proofs.Plain.{none_asked, not_asked}
use Rattle.asl_preprocess.proofs.lines.may_ask.Goals.{then-text-via-then-text, then-text-via-else-text+then-not-may_include}
use Rattle.asl_preprocess.proofs.lines.may_ask.Goals as goal

pub returns-then-text-clause-no : goal.returns-then-text-clause-no
returns-then-text-clause-no c = λ no. not_asked c.args.in_comment c.args.text.now.whole.now (elim c.then-text.branch [
  | then-text-via-then-text w ↦ c.args.text.now.asks_nothing w.if-text.true
  | then-text-via-else-text+then-not-may_include w ↦ none_asked c.args.text.now.whole.now (sym w.may_include.ensures ∙ w.if-not-may_include.true)
])
