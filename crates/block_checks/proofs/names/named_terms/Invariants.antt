use Rattle.block_checks.proofs.names.named_terms.Given as goal

abbrev pub ghost-ask_described : goal.ghost-ask_described
ghost-ask_described g a = g.ps
