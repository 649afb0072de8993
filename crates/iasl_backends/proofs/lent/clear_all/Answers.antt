use Rattle.std.proofs.Common.{rules, arith}
use Rattle.iasl_backends.proofs.EachLaws.{each_start, each_next, each_done}
use Rattle.iasl_backends.proofs.lent.clear_all.Goals as goal

pub loop-i-init : goal.loop-i-init
loop-i-init g c = record { so_far = each_start _ _ }

pub loop-i-preserved : goal.loop-i-preserved
loop-i-preserved g c = record {
  so_far = each_next c.index_mut.result.now c.clear_one.new.backend c.loop-i.invariant.so_far (omega (arith, c.loop-i.invariant.so_far.same_len)) c.index_mut.ensures.value
      (c.clear_one.ensures.kind, c.clear_one.ensures.pieces, c.clear_one.ensures.open);
}

pub returns : goal.returns
returns g c = each_done c.loop-i.invariant.so_far (omega arith)
