use Rattle.form_shapes.proofs.Rows.{counting_formed, counting_near, counting_names, counting_types, counting_has_locals}
use Rattle.form_shapes.proofs.laws.fors_are_formed.Goals as goal

pub returns-clause-formed : goal.returns-clause-formed
returns-clause-formed c = counting_formed

pub returns-clause-near : goal.returns-clause-near
returns-clause-near c = counting_near

pub returns-clause-names : goal.returns-clause-names
returns-clause-names c = counting_names

pub returns-clause-types : goal.returns-clause-types
returns-clause-types c = counting_types

pub returns-clause-enough : goal.returns-clause-enough
returns-clause-enough c = counting_has_locals
