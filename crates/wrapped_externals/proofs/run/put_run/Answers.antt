use Rattle.std.proofs.Common.{ap, refl, sym, ◌∙◌}
use Rattle.std.specs.Prelude.{slice_get}
use Rattle.wrapped_externals.proofs.Runs.{later, first_none, first_some, kept_trees, kept_placed, no_trees_put, no_places_put, if_trees, if_placed}
use Rattle.wrapped_externals.proofs.run.put_run.Goals as goal

pub returns-then-kept-clause-trees : goal.returns-then-kept-clause-trees
returns-then-kept-clause-trees c = kept_trees c.args.made.now.items c.append.new.self.items c.args.run.items c.args.kept c.if-kept.true c.in_ok-append.ensures.items

pub returns-then-kept-clause-places : goal.returns-then-kept-clause-places
returns-then-kept-clause-places c = kept_placed c.args.made.now.items c.append.new.self.items c.args.run.items c.args.kept c.if-kept.true c.in_ok-append.ensures.items

pub returns-in-None-clause-trees : goal.returns-in-None-clause-trees
returns-in-None-clause-trees c =
    no_trees_put c.args.made.now.items c.args.run.items c.args.kept (first_none c.args.run.items (sym (ap (λ ns. slice_get ns 0) c.deref.ensures.value) ∙ sym c.in-None.ensures.value))

pub returns-in-None-clause-places : goal.returns-in-None-clause-places
returns-in-None-clause-places c =
    no_places_put c.args.made.now.items c.args.run.items c.args.kept (first_none c.args.run.items (sym (ap (λ ns. slice_get ns 0) c.deref.ensures.value) ∙ sym c.in-None.ensures.value))

pub returns-clause-trees : goal.returns-clause-trees
returns-clause-trees c =
    if_trees c.args.made.now.items c.push.new.self.items c.args.run.items (later c.args.run.items) c.in-Some.node.now _ c.args.kept c.if-kept.false
    (first_some c.args.run.items c.in-Some.node.now (sym (ap (λ ns. slice_get ns 0) c.deref.ensures.value) ∙ sym c.in-Some.ensures.value)) c.in_ok-term.ensures.tree c.in_ok-push.ensures.items

pub returns-clause-places : goal.returns-clause-places
returns-clause-places c =
    if_placed c.args.made.now.items c.push.new.self.items c.args.run.items (later c.args.run.items) c.in-Some.node.now _ c.args.kept c.if-kept.false
    (first_some c.args.run.items c.in-Some.node.now (sym (ap (λ ns. slice_get ns 0) c.deref.ensures.value) ∙ sym c.in-Some.ensures.value)) refl c.in_ok-term.ensures.places c.in_ok-push.ensures.items
