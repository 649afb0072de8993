use Rattle.std.proofs.Common.{◌≡◌, suc, ◌-◌, arith}
use Rattle.switch_checks.proofs.Bytes.{enough_less, enough_here}
use Rattle.switch_checks.proofs.value.trimmed_count.Goals as goal

pub loop-count-preserved : goal.loop-count-preserved
loop-count-preserved c =
    let before : c.loop-count.count ≡ suc (c.loop-count.count - 1) = omega (arith, c.loop-count-test.true) in
    enough_less c.args.bytes.now c.loop-count.count (c.loop-count.count - 1) _ before c.if-bytes-count-eq0.true c.loop-count.invariant

pub returns-else-bytes-count-eq0-clause-trimmed : goal.returns-else-bytes-count-eq0-clause-trimmed
returns-else-bytes-count-eq0-clause-trimmed c =
    let before : c.loop-count.count ≡ suc (c.loop-count.count - 1) = omega (arith, c.loop-count-test.true) in
    enough_here c.args.bytes.now c.loop-count.count (c.loop-count.count - 1) _ before c.if-bytes-count-eq0.false c.loop-count.invariant
