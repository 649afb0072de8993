use Rattle.std.proofs.Common.{None, get_or, ap, ◌∙◌, arith}
use Rattle.name_entries.proofs.Noting.{put_there, none_behind}
use Rattle.name_entries.proofs.uses.put.Goals as goal

pub loop-uses-preserved : goal.loop-uses-preserved
loop-uses-preserved c n = ap (λ xs. get_or xs n None) c.in_ok-push.ensures.items ∙ none_behind c.loop-uses.uses.items n ∙ c.loop-uses.invariant n

pub returns : goal.returns
returns c n = put_there c.args.uses.now.items c.loop-uses.uses.items c.args.node n c.args.target (omega (arith, c.loop-uses-test.false, c.len.ensures)) c.loop-uses.invariant
