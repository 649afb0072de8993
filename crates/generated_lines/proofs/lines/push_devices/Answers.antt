use Rattle.std.proofs.Common.{◌+◌, [], ◌∷◌, ◌++◌, ap, ◌∙◌, arith}
use Rattle.generated_lines.specs.Generated.{line_at, devices_from}
use Rattle.generated_lines.proofs.Steps.{one_more}
use Rattle.generated_lines.proofs.lines.push_devices.Goals as goal

pub loop-number-preserved : goal.loop-number-preserved
loop-number-preserved c =
    let line = c.in_ok-push_line.ensures ∙ ap (λ text. c.loop-number.list ++ line_at (c.loop-number.number + 3) text ∷ []) c.in_ok-device.ensures in
    one_more c.loop-number.list c.push_line.new.list (c.args.list.now ++ devices_from 0 c.args.count) c.loop-number.number c.args.count (omega arith) c.loop-number.invariant line
