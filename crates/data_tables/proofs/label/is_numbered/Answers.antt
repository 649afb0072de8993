use Rattle.std.proofs.Common.{sym, ap, ◌∙◌, decimal, option_copied}
use Rattle.data_text.specs.Labels.{label_key}
use Rattle.data_tables.proofs.Keys.{same_behind, not_behind}
use Rattle.data_tables.proofs.label.is_numbered.Goals as goal

pub returns-in-Some : goal.returns-in-Some
returns-in-Some c =
    c.is_number.ensures ∙ sym (same_behind c.args.key.now (label_key c.args.label.now) c.in-Some.rest.now (decimal c.args.number) (sym c.behind_label.ensures ∙ ap option_copied c.in-Some.is))

pub returns-in-None : goal.returns-in-None
returns-in-None c = sym (not_behind c.args.key.now (label_key c.args.label.now) (decimal c.args.number) (sym c.behind_label.ensures ∙ ap option_copied c.in-None.is))
