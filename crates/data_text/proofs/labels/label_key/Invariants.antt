use Rattle.std.proofs.Common.{◌≡◌, ◌++◌, drop}
use Rattle.data_text.specs.Labels.{label_key}
use Rattle.data_text.proofs.labels.label_key.Given as goal

abbrev pub invariant-loop-byte : goal.invariant-loop-byte
invariant-loop-byte l = l.key.items ++ label_key (drop l.byte-index l.label) ≡ label_key l.label
