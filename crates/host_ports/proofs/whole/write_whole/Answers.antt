use Rattle.std.proofs.Common.{◌+◌, ◌-◌, arith}
use Rattle.host_ports.proofs.Parts.{appends_more}
use Rattle.host_ports.proofs.whole.write_whole.Goals as goal

pub loop-done-preserved : goal.loop-done-preserved
loop-done-preserved g c =
    let contents = g.W.Write.contents in
    record {
      within = omega (arith, c.loop-done.invariant.within, c.min.ensures);
      written = appends_more (contents c.args.writer.now) (contents c.loop-done.writer) (contents c.write_once.new.writer) c.args.bytes.now c.loop-done.done c.min.result (c.loop-done.done + c.min.result - c.loop-done.done) (omega arith) c.loop-done.invariant.written c.in_ok-write_once.ensures;
    }
