use Rattle.std.proofs.Common.{◌≡◌, rules, arith}
use Rattle.std.proofs.lemmas.Grind.{common_steps}
use Rattle.generated_lines.specs.Generated.{generated_lines}
use Rattle.generated_lines.proofs.Sizes.{each_small}
use Rattle.generated_lines.proofs.lines.device_lines.Goals as goal

pub returns-clause-small : goal.returns-clause-small
returns-clause-small c =
    let lines : c.push_line-3.new.list ≡ generated_lines c.args.count = first_of (search rules, grind (arith, common_steps)) in
    each_small c.push_line-3.new.list c.args.count lines
