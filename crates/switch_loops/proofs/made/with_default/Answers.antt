use Rattle.std.proofs.Common.{ap, arith, sym, ◌∙◌}
use Rattle.std.proofs.lemmas.Bool.Decides.{nat_tests}
use Rattle.asl_tree.specs.View.{trees_of}
use Rattle.term_places.specs.Places.{places_of}
use Rattle.switch_loops.specs.Links.{behind, otherwise_trees, otherwise_places}
use Rattle.switch_loops.specs.Places.{chain_places}
use Rattle.switch_loops.proofs.PutTurns.{else_tree, no_default, no_default_places, lone_default, lone_default_places, last_default, last_default_places}
use Rattle.switch_loops.proofs.made.with_default.Goals as goal

pub returns-then-is_empty-clause-trees : goal.returns-then-is_empty-clause-trees
returns-then-is_empty-clause-trees c =
    let none = c.is_empty.ensures in let e = c.if-is_empty.true in
    lone_default c.args.tests.items (trees_of c.in-Some.field-0.terms.items) (grind (arith, nat_tests, none, e)) ∙ ap (λ o. behind (trees_of c.args.tests.items) (otherwise_trees o)) (sym c.in-Some.is)

pub returns-then-is_empty-clause-places : goal.returns-then-is_empty-clause-places
returns-then-is_empty-clause-places c =
    let none = c.is_empty.ensures in let e = c.if-is_empty.true in
    lone_default_places c.args.tests.items c.in-Some.field-0.origin.place (places_of c.in-Some.field-0.terms.items) (grind (arith, nat_tests, none, e)) ∙ ap (λ o. chain_places (places_of c.args.tests.items) (otherwise_places o)) (sym c.in-Some.is)

pub returns-in_ok-push-in-Some-clause-trees : goal.returns-in_ok-push-in-Some-clause-trees
returns-in_ok-push-in-Some-clause-trees c =
    let some = c.is_empty.ensures in let e = c.if-is_empty.false in
    last_default c.args.tests.items c.push.new.self.items c.control.result (trees_of c.in-Some.field-0.terms.items) (λ n. grind (arith, nat_tests, some, e, n)) c.in_ok-push-in-Some.ensures.items
    (c.control.ensures.tree ∙ else_tree (record { id = c.in-Some.field-0.origin.id; place = c.in-Some.field-0.origin.place }) c.new.result.items c.in-Some.field-0.terms.items c.new.ensures.items)
    ∙ ap (λ o. behind (trees_of c.args.tests.items) (otherwise_trees o)) (sym c.in-Some.is)

pub returns-in_ok-push-in-Some-clause-places : goal.returns-in_ok-push-in-Some-clause-places
returns-in_ok-push-in-Some-clause-places c =
    let some = c.is_empty.ensures in let e = c.if-is_empty.false in
    last_default_places c.args.tests.items c.push.new.self.items c.control.result c.in-Some.field-0.origin.place (places_of c.in-Some.field-0.terms.items) (λ n. grind (arith, nat_tests, some, e, n)) c.in_ok-push-in-Some.ensures.items c.control.ensures.places
    ∙ ap (λ o. chain_places (places_of c.args.tests.items) (otherwise_places o)) (sym c.in-Some.is)

pub returns-in-None-clause-trees : goal.returns-in-None-clause-trees
returns-in-None-clause-trees c = no_default (trees_of c.args.tests.items) ∙ ap (λ o. behind (trees_of c.args.tests.items) (otherwise_trees o)) (sym c.in-None.is)

pub returns-in-None-clause-places : goal.returns-in-None-clause-places
returns-in-None-clause-places c = no_default_places (places_of c.args.tests.items) ∙ ap (λ o. chain_places (places_of c.args.tests.items) (otherwise_places o)) (sym c.in-None.is)
