use Rattle.region_checks.proofs.check.region_end.Given as goal

abbrev pub ghost-denoted : goal.ghost-denoted
ghost-denoted g a = g.whole

abbrev pub ghost-end : goal.ghost-end
ghost-end g a = g.whole
