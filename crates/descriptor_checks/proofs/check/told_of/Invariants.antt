use Rattle.name_kinds.specs.Seen.{seen}
use Rattle.descriptor_checks.specs.Resolved.{checked_terms, mentions_of}
use Rattle.descriptor_checks.proofs.check.told_of.Given as goal

abbrev pub ghost-below_errors : goal.ghost-below_errors
ghost-below_errors g a = seen (mentions_of (checked_terms g.ps))

abbrev pub ghost-name_faults : goal.ghost-name_faults
ghost-name_faults g a = seen (mentions_of (checked_terms g.ps))

abbrev pub ghost-kind_faults : goal.ghost-kind_faults
ghost-kind_faults g a = seen (mentions_of (checked_terms g.ps))
