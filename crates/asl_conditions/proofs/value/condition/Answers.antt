use Rattle.asl_conditions.proofs.Told.{is_condition, is_only}
use Rattle.asl_conditions.proofs.value.condition.Goals as goal

pub returns-clause-found : goal.returns-clause-found
returns-clause-found c = λ history tells. is_condition history c.args.text.now c.replaced_value.result (c.replaced_value.ensures history tells)

pub returns-clause-only : goal.returns-clause-only
returns-clause-only c = λ history value tells is. is_only history c.args.text.now value c.replaced_value.result (c.replaced_value.ensures history tells) is
