use Rattle.source_laws.proofs.Fronts.{deeper_opens, opens_deeper}
use Rattle.source_laws.proofs.Depths.{first_too_deep, too_much_open, shallow_opens, opens_shallow}
use Rattle.source_laws.proofs.laws.too_deep_by_the_productions.Goals as goal

pub returns-clause-deeper : goal.returns-clause-deeper
returns-clause-deeper c = deeper_opens

pub returns-clause-opens : goal.returns-clause-opens
returns-clause-opens c = opens_deeper

pub returns-clause-first : goal.returns-clause-first
returns-clause-first c = first_too_deep

pub returns-clause-found : goal.returns-clause-found
returns-clause-found c = too_much_open

pub returns-clause-shallow : goal.returns-clause-shallow
returns-clause-shallow c = shallow_opens

pub returns-clause-low : goal.returns-clause-low
returns-clause-low c = opens_shallow
