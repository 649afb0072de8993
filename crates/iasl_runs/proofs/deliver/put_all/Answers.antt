use Rattle.std.proofs.Common.{rules, refl, arith}
use Rattle.iasl_runs.proofs.PutSoFar.{puts_next, has_put_all, stops_torn}
use Rattle.iasl_runs.proofs.deliver.put_all.Goals as goal

pub returns-in-Err-Failed-clause-some : goal.returns-in-Err-Failed-clause-some
returns-in-Err-Failed-clause-some g c =
    stops_torn c.args.files.now c.loop-file.file-index c.file-item.result refl (omega arith) c.file-item.is c.loop-file.invariant.gained (search rules)

pub loop-file-preserved : goal.loop-file-preserved
loop-file-preserved g c = record {
  gained = puts_next c.args.files.now c.loop-file.file-index c.file-item.result (omega arith) c.file-item.is c.loop-file.invariant.gained c.in-Ok.ensures.all;
  faults = search rules;
}

pub returns-clause-all : goal.returns-clause-all
returns-clause-all g c = has_put_all c.args.files.now c.loop-file.file-index (omega arith) c.loop-file.invariant.gained
