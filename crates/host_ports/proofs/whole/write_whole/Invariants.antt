use Rattle.std.proofs.Common.{length, ◌-◌, ◌≤◌, take}
use Rattle.std.specs.Io.KnownBytes.{Appends}
use Rattle.host_ports.proofs.whole.write_whole.Given as goal

-- the first so many bytes are written
abbrev pub invariant-loop-done : goal.invariant-loop-done
invariant-loop-done g l =
    let contents = g.W.Write.contents in
    record {
      within : l.done ≤ length l.bytes;
      written : Appends (contents l.fn.writer) (contents l.writer) (take l.done l.bytes);
    }

abbrev pub decreases-loop-done : goal.decreases-loop-done
decreases-loop-done g l = length l.bytes - l.done
