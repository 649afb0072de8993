use Rattle.asl_formats.proofs.for_loop.loop_form.Goals as goal

pub returns-clause-trees : goal.returns-clause-trees
returns-clause-trees c = c.in_ok-made.ensures.trees
