use Rattle.asl_preprocess.proofs.Cuts.{place_of_lf}
use Rattle.asl_preprocess.proofs.rows.plain_end.Goals as goal

pub returns-then-text-place-eq10-clause-lf : goal.returns-then-text-place-eq10-clause-lf
returns-then-text-place-eq10-clause-lf c = place_of_lf c.args.text.now c.in_ok-place.place c.in_ok-place.ensures c.if-text-place-eq10.true
