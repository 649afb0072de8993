use Rattle.asl_prints.proofs.PlanWrites.{text_made}
use Rattle.std.proofs.Common.{[], ◌∷◌, ap, ◌∙◌}
use Rattle.asl_tree.specs.declared.term.Term as D
use Rattle.asl_prints.proofs.PrintNumbers.{leaf_numbers, text_leaf}
use Rattle.asl_prints.proofs.print.text_node.Goals as goal

pub returns-clause-plan : goal.returns-clause-plan
returns-clause-plan c = text_made c.next_up.result c.args.place c.args.text

pub returns-clause-numbers : goal.returns-clause-numbers
returns-clause-numbers c = leaf_numbers (record { id = c.next_up.result; place = c.args.place; term = D.Text c.args.text }) (text_leaf c.args.text) ∙ ap (λ n. n ∷ []) c.next_up.ensures.id
