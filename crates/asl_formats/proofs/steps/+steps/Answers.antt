use Rattle.std.proofs.Common.{◌≡◌, refl, sym, ◌∙◌, arith}
use Rattle.asl_tree.specs.View.{trees_of}
use Rattle.term_plans.specs.Plans.{plans_of}
use Rattle.asl_prints.specs.Numbers.{numbers_of}
use Rattle.asl_prints.proofs.Nodes.{node_smaller, form_smaller}
use Rattle.asl_formats.proofs.PlanSteps.{plans_stepped_none, plans_stepped_next, form_plan_stepped, other_plan_stepped}
use Rattle.asl_formats.proofs.Shown.{stepped_begun, stepped_next, stepped_last, form_shown, other_shown, same_shown, same_shown_term}
use Rattle.asl_formats.proofs.StepNumbers.{nodes_begun, nodes_next, nodes_last, node_advances, form_advances, other_advances, inside_advances, outside_advances}
use Rattle.asl_formats.proofs.steps.+steps.Goals as goal

pub with_steps-with_step-requires : goal.with_steps-with_step-requires
with_steps-with_step-requires t c = omega (arith, c.decreases, node_smaller c.args.nodes.now c.loop-node.node-index c.node-item.result c.loop-node-test.true c.node-item.is)

pub stepped_term-stepped_braces-requires : goal.stepped_term-stepped_braces-requires
stepped_term-stepped_braces-requires t c = omega (arith, c.decreases, form_smaller c.args.term.now c.in-Form.op c.in-Form.args c.in-Form.body c.in-Form.args.items c.deref-in-Form.result.now c.in-Form.is refl c.deref-in-Form.ensures.value)

-- ---- terms one after another

pub with_steps-loop-node-init : goal.with_steps-loop-node-init
with_steps-loop-node-init t c = record {
  trees = λ may. stepped_begun c.args.copies.now.keep (trees_of c.args.steps.now) c.args.nodes.now c.new-made.result.items c.new-made.ensures.items;
  plans = plans_stepped_none (plans_of c.args.steps.now) c.args.nodes.now c.new-made.result.items c.new-made.ensures.items;
  numbers = λ k. nodes_begun (numbers_of c.args.steps.now) c.args.copies.now c.args.nodes.now c.new-made.result.items c.new-made.ensures.items;
  keep = refl;
}

pub with_steps-loop-node-preserved : goal.with_steps-loop-node-preserved
with_steps-loop-node-preserved t c =
    let start = c.args.copies.now.keep in
    let first : c.loop-node.copies.keep ≡ start = c.loop-node.invariant.keep in
    let second : c.before-in-loop-node.new.copies.keep ≡ start = c.in_ok-made.ensures.keep ∙ first in
    record {
      trees = λ may.
          stepped_next start (trees_of c.args.steps.now) c.args.nodes.now c.loop-node.made.items c.in_ok-made.made.items c.push.new.self.items c.loop-node.node-index c.node-item.result c.in_ok-with_step.field-0 c.loop-node-test.true c.node-item.is (c.loop-node.invariant.trees may)
          (same_shown c.loop-node.copies.keep start (plans_of c.args.steps.now) (trees_of c.in_ok-made.made.items) _ first may c.in_ok-made.ensures.trees)
          (same_shown_term c.before-in-loop-node.new.copies.keep start (plans_of c.args.steps.now) _ _ second may c.in_ok-with_step.ensures.tree) c.in_ok-push.ensures.items;
      plans = plans_stepped_next (plans_of c.args.steps.now) c.args.nodes.now c.loop-node.made.items c.in_ok-made.made.items c.push.new.self.items c.loop-node.node-index c.node-item.result c.in_ok-with_step.field-0 c.loop-node-test.true c.node-item.is c.loop-node.invariant.plans
          c.in_ok-made.ensures.plans c.in_ok-with_step.ensures.plan c.in_ok-push.ensures.items;
      numbers = λ k.
          nodes_next (numbers_of c.args.steps.now) c.args.copies.now c.loop-node.copies c.before-in-loop-node.new.copies c.with_step.new.copies c.args.nodes.now c.loop-node.made.items c.in_ok-made.made.items c.push.new.self.items c.loop-node.node-index c.node-item.result c.in_ok-with_step.field-0
          c.loop-node-test.true c.node-item.is (c.loop-node.invariant.numbers k) (c.in_ok-made.ensures.numbers (first ∙ k)) (c.in_ok-with_step.ensures.numbers (second ∙ k)) c.in_ok-push.ensures.items;
      keep = c.in_ok-with_step.ensures.keep ∙ second;
    }

pub with_steps-returns-clause-trees : goal.with_steps-returns-clause-trees
with_steps-returns-clause-trees t c may = stepped_last c.args.copies.now.keep (trees_of c.args.steps.now) c.args.nodes.now c.loop-node.made.items c.loop-node.node-index (λ lt. omega (arith, lt, c.loop-node-test.false)) (c.loop-node.invariant.trees may)

pub with_steps-returns-clause-numbers : goal.with_steps-returns-clause-numbers
with_steps-returns-clause-numbers t c k = nodes_last (numbers_of c.args.steps.now) c.args.copies.now c.loop-node.copies c.args.nodes.now c.loop-node.made.items c.loop-node.node-index (λ lt. omega (arith, lt, c.loop-node-test.false)) (c.loop-node.invariant.numbers k)

-- ---- a node and a term

pub with_step-returns-clause-tree : goal.with_step-returns-clause-tree
with_step-returns-clause-tree t c may = c.in_ok-term.ensures.tree may (record { id = c.args.node.now.id; place = c.args.node.now.place })

pub with_step-returns-clause-numbers : goal.with_step-returns-clause-numbers
with_step-returns-clause-numbers t c k =
    node_advances (numbers_of c.args.steps.now) c.args.copies.now c.stepped_term.new.copies c.args.node.now (record { id = c.args.node.now.id; place = c.args.node.now.place; term = c.in_ok-term.term }) refl (c.in_ok-term.ensures.numbers k)

pub stepped_term-returns-in_ok-body-in-Form-clause-tree : goal.stepped_term-returns-in_ok-body-in-Form-clause-tree
stepped_term-returns-in_ok-body-in-Form-clause-tree t c may at =
    form_shown c.args.copies.now.keep (trees_of c.args.steps.now) at c.args.term.now c.in-Form.op c.in-Form.args c.in-Form.body c.in_ok-args-in-Form.args c.in_ok-body-in-Form.body c.deref.result.now c.deref-in-Form.result.now c.in-Form.is c.deref.ensures.value c.deref-in-Form.ensures.value
    c.in_ok-args-in-Form.ensures.trees (c.in_ok-body-in-Form.ensures.inside may) c.in_ok-body-in-Form.ensures.outside

pub stepped_term-returns-in_ok-body-in-Form-clause-plan : goal.stepped_term-returns-in_ok-body-in-Form-clause-plan
stepped_term-returns-in_ok-body-in-Form-clause-plan t c =
    form_plan_stepped (plans_of c.args.steps.now) c.args.term.now c.in-Form.op c.in-Form.args c.in-Form.body c.in_ok-args-in-Form.args c.in_ok-body-in-Form.body c.deref.result.now c.deref-in-Form.result.now c.in-Form.is c.deref.ensures.value c.deref-in-Form.ensures.value
    c.in_ok-args-in-Form.ensures.plans c.in_ok-body-in-Form.ensures.plans

pub stepped_term-returns-in_ok-body-in-Form-clause-numbers : goal.stepped_term-returns-in_ok-body-in-Form-clause-numbers
stepped_term-returns-in_ok-body-in-Form-clause-numbers t c k =
    form_advances (numbers_of c.args.steps.now) c.args.copies.now c.stepped_braces.new.copies c.args.term.now c.in-Form.op c.in-Form.args c.in-Form.body c.in_ok-args-in-Form.args c.in_ok-body-in-Form.body c.deref.result.now c.deref-in-Form.result.now c.in-Form.is c.deref.ensures.value c.deref-in-Form.ensures.value
    c.in_ok-args-in-Form.ensures.numbers (c.in_ok-body-in-Form.ensures.numbers k)

pub stepped_term-returns-in_ok-copy-in_default-clause-tree : goal.stepped_term-returns-in_ok-copy-in_default-clause-tree
stepped_term-returns-in_ok-copy-in_default-clause-tree t c may at = other_shown c.args.copies.now.keep (trees_of c.args.steps.now) at c.args.term.now c.in_ok-copy-in_default.copy c.in_default.not-Form (c.in_ok-copy-in_default.ensures.tree at)

pub stepped_term-returns-in_ok-copy-in_default-clause-plan : goal.stepped_term-returns-in_ok-copy-in_default-clause-plan
stepped_term-returns-in_ok-copy-in_default-clause-plan t c =
    other_plan_stepped (plans_of c.args.steps.now) c.args.term.now c.in_ok-copy-in_default.copy c.in_default.not-Form c.in_ok-copy-in_default.ensures.plan

pub stepped_term-returns-in_ok-copy-in_default-clause-numbers : goal.stepped_term-returns-in_ok-copy-in_default-clause-numbers
stepped_term-returns-in_ok-copy-in_default-clause-numbers t c k =
    other_advances (numbers_of c.args.steps.now) c.args.copies.now c.args.term.now c.in_ok-copy-in_default.copy c.in_default.not-Form c.in_ok-copy-in_default.ensures.numbers

-- ---- what stands in braces

pub stepped_braces-returns-then-goes_in-clause-numbers : goal.stepped_braces-returns-then-goes_in-clause-numbers
stepped_braces-returns-then-goes_in-clause-numbers t c k =
    inside_advances (numbers_of c.args.steps.now) c.args.copies.now c.with_steps.new.copies c.args.op c.args.body.now c.in_ok-made.made.items (sym c.goes_in.ensures ∙ c.if-goes_in.true) (c.in_ok-made.ensures.numbers k)

pub stepped_braces-returns-clause-numbers : goal.stepped_braces-returns-clause-numbers
stepped_braces-returns-clause-numbers t c k =
    outside_advances (numbers_of c.args.steps.now) c.args.copies.now c.args.op c.args.body.now c.in_ok-made-2.made.items (sym c.goes_in.ensures ∙ c.if-goes_in.false) c.in_ok-made-2.ensures.numbers
