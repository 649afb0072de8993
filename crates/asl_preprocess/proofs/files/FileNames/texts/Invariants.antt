use Rattle.std.proofs.Common.{◌≡◌, take, map}
use Rattle.asl_preprocess.proofs.files.FileNames.texts.Given as goal

abbrev pub invariant-loop-name : goal.invariant-loop-name
invariant-loop-name l = l.texts ≡ map (λ name. name.items) (take l.name-index l.name-items)
