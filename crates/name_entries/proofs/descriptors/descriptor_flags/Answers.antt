use Rattle.std.proofs.Common.{[], sym, subst}
use Rattle.name_entries.specs.Descriptors.{AreFlagged}
use Rattle.name_entries.proofs.Flagging.{none_flagged}
use Rattle.name_entries.proofs.descriptors.descriptor_flags.Goals as goal

pub returns : goal.returns
returns c = c.in_ok-flag_among.ensures [] (subst (λ flags. AreFlagged flags []) (sym c.new-flags.ensures.items) none_flagged)
