use Rattle.std.proofs.Common.{[], sym, ◌∙◌}
use Rattle.name_entries.proofs.Flagging.{flags_same, flags_as, flagged_two, unflagged_two, unflagged_few, unflagged_many}
use Rattle.name_entries.proofs.descriptors.flag_declared.Goals as goal

pub returns-in_ok-flag-in-len2 : goal.returns-in_ok-flag-in-len2
returns-in_ok-flag-in-len2 c =
    flags_as c.args.flags.now.items c.flag.new.flags.items _ _
    (flagged_two c.args.args.now c.name-item.result c.value-item.result c.in-len2.len_at_least c.in-len2.len_below c.name-item.is c.value-item.is (sym c.names_bytes.ensures ∙ c.if-names_bytes.true))
    c.in_ok-flag-in-len2.ensures

pub returns-else-names_bytes : goal.returns-else-names_bytes
returns-else-names_bytes c =
    flags_as c.args.flags.now.items c.args.flags.now.items [] _
    (unflagged_two c.args.args.now c.name-item.result c.value-item.result c.in-len2.len_at_least c.in-len2.len_below c.name-item.is c.value-item.is (sym c.names_bytes.ensures ∙ c.if-names_bytes.false))
    (flags_same c.args.flags.now.items)

pub returns-in_default : goal.returns-in_default
returns-in_default c = flags_as c.args.flags.now.items c.args.flags.now.items [] _ (unflagged_few c.args.args.now c.in_default.len_below) (flags_same c.args.flags.now.items)

pub returns-in_default-2 : goal.returns-in_default-2
returns-in_default-2 c = flags_as c.args.flags.now.items c.args.flags.now.items [] _ (unflagged_many c.args.args.now c.in_default.len_at_least) (flags_same c.args.flags.now.items)
