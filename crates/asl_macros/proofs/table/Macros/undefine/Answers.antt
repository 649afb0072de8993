use Rattle.asl_macros.proofs.TableLaws.{tells_undefined}
use Rattle.asl_macros.proofs.Marking.{marked_less}
use Rattle.asl_macros.proofs.table.Macros.undefine.Goals as goal

pub invariant_of-self : goal.invariant_of-self
invariant_of-self c = record { marked = marked_less c.args.self.now.firsts c.args.self.now.table c.swap_remove.new.self c.args.name.now c.args.self.now.marked c.swap_remove.ensures.updates }

pub returns : goal.returns
returns c = λ history tells. tells_undefined c.args.self.now _ history c.args.name.now c.swap_remove.ensures.updates tells
