use Rattle.std.proofs.Common.{sym, ap, ◌∙◌, option_copied}
use Rattle.data_text.specs.Labels.{label_key}
use Rattle.data_tables.proofs.Keys.{whole_behind, whole_not}
use Rattle.data_tables.proofs.label.is_label.Goals as goal

pub returns-in-Some : goal.returns-in-Some
returns-in-Some c =
    c.is_nothing.ensures ∙ sym (whole_behind c.args.key.now (label_key c.args.label.now) c.in-Some.rest.now (sym c.behind_label.ensures ∙ ap option_copied c.in-Some.is))

pub returns-in-None : goal.returns-in-None
returns-in-None c = sym (whole_not c.args.key.now (label_key c.args.label.now) (sym c.behind_label.ensures ∙ ap option_copied c.in-None.is))
