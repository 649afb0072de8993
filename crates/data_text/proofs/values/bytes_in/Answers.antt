use Rattle.data_text.proofs.Pairs.{ended_at, goes_on}
use Rattle.data_text.proofs.values.bytes_in.Goals as goal

pub returns-in-None : goal.returns-in-None
returns-in-None c =
    ended_at c.loop-byte.pair c.args.value.now c.loop-byte.bytes.items c.loop-byte.byte-index c.loop-byte-test.true (rw c.in-None.is at c.in_ok-next.ensures) c.loop-byte.invariant

pub loop-byte-preserved : goal.loop-byte-preserved
loop-byte-preserved c =
    goes_on c.loop-byte.pair c.in-Some.next c.args.value.now c.loop-byte.bytes.items c.take_byte.new.bytes.items c.loop-byte.byte-index c.loop-byte-test.true (rw c.in-Some.is at c.in_ok-next.ensures) c.loop-byte.invariant
