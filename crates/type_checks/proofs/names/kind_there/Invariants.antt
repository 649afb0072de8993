use Rattle.type_checks.proofs.names.kind_there.Given as goal

abbrev pub ghost-is_named_at : goal.ghost-is_named_at
ghost-is_named_at g a = g.whole

abbrev pub ghost-end : goal.ghost-end
ghost-end g a = g.whole
