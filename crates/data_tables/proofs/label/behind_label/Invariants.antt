use Rattle.std.proofs.Common.{◌≡◌, drop}
use Rattle.data_text.specs.Labels.{label_key}
use Rattle.data_tables.specs.Labels.{behind_key}
use Rattle.data_tables.proofs.label.behind_label.Given as goal

abbrev pub invariant-loop-byte : goal.invariant-loop-byte
invariant-loop-byte l = behind_key l.rest (label_key (drop l.byte-index l.label)) ≡ behind_key l.key (label_key l.label)
