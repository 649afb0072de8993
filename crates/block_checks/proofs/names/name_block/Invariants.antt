use Rattle.term_plans.specs.Plans.{plans_of}
use Rattle.block_checks.proofs.names.name_block.Given as goal

abbrev pub ghost-named_terms : goal.ghost-named_terms
ghost-named_terms a = plans_of a.terms.items
