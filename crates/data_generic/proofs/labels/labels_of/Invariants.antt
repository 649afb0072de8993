use Rattle.std.proofs.Common.{◌≡◌, ℕ, List, drop, Some}
use Rattle.data_generic.specs.Labels.{label_from}
use Rattle.data_generic.specs.LabelTable.{told_with}
use Rattle.data_generic.proofs.labels.labels_of.Given as goal

abbrev pub invariant-loop-index : goal.invariant-loop-index
invariant-loop-index l = (key : List ℕ) → told_with l.labels key l.index l.offset (drop l.index l.lines) ≡ label_from key 0 (Some 36) l.lines
