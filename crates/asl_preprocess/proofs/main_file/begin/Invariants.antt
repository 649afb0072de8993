use Rattle.std.proofs.Common.{take}
use Rattle.asl_preprocess.specs.Preprocess as spec
use Rattle.asl_preprocess.specs.State.{blank}
use Rattle.asl_preprocess.specs.Told.{Shows}
use Rattle.asl_preprocess.proofs.main_file.begin.Given as goal

abbrev pub invariant-loop-define : goal.invariant-loop-define
invariant-loop-define l = Shows l.fn.work blank → Shows l.work (spec.first_state l.name (take l.define-index l.define-items))
