use Rattle.region_checks.proofs.check.site_errors.Given as goal

abbrev pub ghost-size_of : goal.ghost-size_of
ghost-size_of g a = g.whole

abbrev pub ghost-region_end : goal.ghost-region_end
ghost-region_end g a = g.whole
