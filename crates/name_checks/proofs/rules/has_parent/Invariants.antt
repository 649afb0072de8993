use Rattle.name_checks.proofs.rules.has_parent.Given as goal

abbrev pub ghost-is_named_at : goal.ghost-is_named_at
ghost-is_named_at g a = g.whole
