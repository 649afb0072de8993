use Rattle.std.proofs.Common.{◌≡◌, drop}
use Rattle.data_generic.specs.LabelTable.{label_for}
use Rattle.data_generic.specs.Steps.{told_with}
use Rattle.data_generic.proofs.walk.DataWalker.take_all.Given as goal

abbrev pub invariant-loop-index : goal.invariant-loop-index
invariant-loop-index l = told_with l.fn.self (label_for l.labels) 0 l.lines ≡ told_with l.self (label_for l.labels) l.index (drop l.index l.lines)
