use Rattle.std.proofs.Common.{false, get_or, ap, ◌∙◌, arith}
use Rattle.name_entries.proofs.Flagging.{flag_set, unflagged_behind}
use Rattle.name_entries.proofs.descriptors.flag.Goals as goal

pub loop-flags-preserved : goal.loop-flags-preserved
loop-flags-preserved c n = ap (λ xs. get_or xs n false) c.in_ok-push.ensures.items ∙ unflagged_behind c.loop-flags.flags.items n ∙ c.loop-flags.invariant n

pub returns : goal.returns
returns c = flag_set c.args.flags.now.items c.loop-flags.flags.items c.args.node (omega (arith, c.loop-flags-test.false, c.len.ensures)) c.loop-flags.invariant
