use Rattle.std.proofs.Common.{ap}
use Rattle.std.specs.Option.{option_map}
use Rattle.asl_macros.proofs.table.Macros.may_begin.Goals as goal

pub returns : goal.returns
returns c = λ no behind. ap (option_map (λ text. text.items)) (c.args.self.now.marked c.args.byte behind no)
