use Rattle.std.proofs.Common.{ap, sym, ◌∙◌, arith}
use Rattle.data_text.specs.Labels.{ending_of}
use Rattle.data_text.proofs.Ends.{at_blank, at_backslash, at_other, at_end}
use Rattle.data_text.proofs.labels.before_backslash.Goals as goal
use Rattle.data_text.proofs.labels.before_backslash.Goals.{in_default, in-len1-up+else-last-eq92+then-not-is_blank}

pub returns-then-last-eq92 : goal.returns-then-last-eq92
returns-then-last-eq92 c =
    ap (ending_of c.args.text.now) (sym (sym c.loop-rest.invariant ∙ at_backslash c.loop-rest.rest.now c.in-len1-up.len_at_least c.if-last-eq92.true))

pub loop-rest-preserved : goal.loop-rest-preserved
loop-rest-preserved c =
    at_blank c.loop-rest.rest.now c.in-len1-up.len_at_least c.if-last-eq92.false (sym c.is_blank.ensures ∙ c.if-not-is_blank.false) ∙ c.loop-rest.invariant

pub returns : goal.returns
returns c =
    elim c.if-rest-lt1.branch [
      | in_default w ↦ ap (ending_of c.args.text.now) (sym (sym c.loop-rest.invariant ∙ at_end c.loop-rest.rest.now (omega arith)))
      | in-len1-up+else-last-eq92+then-not-is_blank w ↦ ap (ending_of c.args.text.now) (sym (sym c.loop-rest.invariant ∙ at_other c.loop-rest.rest.now w.in-len1-up.len_at_least w.if-last-eq92.false (sym w.is_blank.ensures ∙ w.if-not-is_blank.true)))
    ]
