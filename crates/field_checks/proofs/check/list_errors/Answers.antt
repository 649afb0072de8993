use Rattle.std.proofs.Common.{◌≡◌, ℕ, List, [], ◌++◌, refl, sym, ap, ◌∙◌, append-nil}
use Rattle.iasl_messages.specs.declared.message.Message.{Message}
use Rattle.iasl_messages.specs.declared.place.Place.{Place}
use Rattle.term_plans.specs.Plans.{plans_of}
use Rattle.term_plans.specs.Places.{fault_at}
use Rattle.field_checks.specs.Lists.{list_errors}
use Rattle.field_checks.proofs.Walk.{next_item, no_item_here, fault_here, list_end, told_here}
use Rattle.field_checks.proofs.check.list_errors.Goals as goal

pub loop-node-preserved : goal.loop-node-preserved
loop-node-preserved c = record {
  same = c.loop-node.invariant.same;
  list = next_item c.args.body.now c.loop-node.node-index c.loop-node.at c.in-Ok.next c.node-item.result _ c.loop-node-test.true c.node-item.is c.in-Some.ensures c.in-Ok.ensures.fine c.in-Ok.ensures.next ∙ c.loop-node.invariant.list;
}

pub returns : goal.returns
returns c =
    c.loop-node.invariant.same ∙ sym (append-nil c.args.out.now)
    ∙ ap (λ ms. c.args.out.now ++ ms) (sym (list_end c.args.body.now c.loop-node.node-index c.loop-node.at c.loop-node-test.false) ∙ c.loop-node.invariant.list)

pub returns-in_default : goal.returns-in_default
returns-in_default c =
    c.loop-node.invariant.same ∙ sym (append-nil c.args.out.now)
    ∙ ap (λ ms. c.args.out.now ++ ms) (sym (no_item_here c.args.body.now c.loop-node.node-index c.loop-node.at c.node-item.result c.loop-node-test.true c.node-item.is c.in_default.ensures) ∙ c.loop-node.invariant.list)

named : (message : Message) (number : ℕ) (place : Place) (name : List ℕ) → message ≡ record { number = number; place = place; name = name } → name ≡ [] → message ≡ fault_at number place
named message number place name e is = e ∙ ap (λ (n : List ℕ). record { number = number; place = place; name = n }) is

pub returns-in-Err : goal.returns-in-Err
returns-in-Err c =
    told_here c.args.out.now c.loop-node.out c.push.new.self (list_errors 0 (plans_of c.args.body.now)) _ (fault_at c.in-Err.number c.node-item.result.place) c.loop-node.invariant.same c.in_ok-push-in-Err.ensures.ok
    (named _ c.in-Err.number c.node-item.result.place c.new.result refl c.new.ensures)
    (sym (fault_here c.args.body.now c.loop-node.node-index c.loop-node.at c.in-Err.number c.node-item.result _ c.loop-node-test.true c.node-item.is c.in-Some.ensures c.in-Err.ensures.fault) ∙ c.loop-node.invariant.list)
