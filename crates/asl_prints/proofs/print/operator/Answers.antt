use Rattle.asl_prints.proofs.PlanWrites.{operator_made}
use Rattle.std.proofs.Common.{refl}
use Rattle.acpi_values.specs.declared.operator.Plain.{Plain}
use Rattle.asl_tree.specs.declared.term.Op.{Op}
use Rattle.asl_tree.specs.declared.term.Term as D
use Rattle.asl_prints.proofs.PrintNumbers.{operator_numbers}
use Rattle.asl_prints.proofs.print.operator.Goals as goal

pub returns-clause-plan : goal.returns-clause-plan
returns-clause-plan c = operator_made c.args.id c.args.place c.args.op c.args.args c.new.result c.new.ensures.items

pub returns-clause-numbers : goal.returns-clause-numbers
returns-clause-numbers c =
    operator_numbers (record { id = c.args.id; place = c.args.place; term = D.Form (Op.Plain (Plain.Data c.args.op)) c.args.args c.new.result }) (Op.Plain (Plain.Data c.args.op)) c.args.args c.new.result refl c.new.ensures.items
