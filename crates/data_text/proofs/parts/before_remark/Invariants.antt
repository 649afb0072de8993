use Rattle.std.proofs.Common.{◌≡◌, ◌++◌, false, take, drop}
use Rattle.data_text.specs.Parts.{before_remark}
use Rattle.data_text.proofs.parts.before_remark.Given as goal

abbrev pub invariant-loop-index : goal.invariant-loop-index
invariant-loop-index l = before_remark false l.text ≡ take l.index l.text ++ before_remark l.quoted (drop l.index l.text)
