use Rattle.std.proofs.Common.{refl, ap, ◌∙◌, arith}
use Rattle.asl_tree.specs.View.{trees_of}
use Rattle.term_plans.specs.Plans.{plans_of}
use Rattle.asl_formats.specs.Pass.{spread_all}
use Rattle.asl_formats.specs.PlanPass as P
use Rattle.asl_prints.proofs.Nodes.{call_smaller, form_smaller}
use Rattle.asl_formats.proofs.Programs.{all_spread, call_formed, each_begun, each_done, each_next, form_formed, other_formed, popped_size}
use Rattle.asl_formats.proofs.PlanPrograms as L
use Rattle.asl_formats.proofs.program.+forms.Goals as goal

pub form_all-returns-clause-trees : goal.form_all-returns-clause-trees
form_all-returns-clause-trees t c = c.in_ok-made.ensures.trees ∙ ap spread_all c.in_ok-each.ensures.trees ∙ all_spread (trees_of c.args.terms.items)

pub form_all-returns-clause-plans : goal.form_all-returns-clause-plans
form_all-returns-clause-plans t c = c.in_ok-made.ensures.plans ∙ ap P.spread_all c.in_ok-each.ensures.plans ∙ L.all_spread (plans_of c.args.terms.items)

-- ---- terms each by itself

pub form_each-loop-node-init : goal.form_each-loop-node-init
form_each-loop-node-init t c = record {
  trees = each_begun c.args.nodes.items c.new-made.result.items c.new-made.ensures.items;
  plans = L.each_begun c.args.nodes.items c.new-made.result.items c.new-made.ensures.items;
  size = omega arith;
}

pub form_each-form_node-requires : goal.form_each-form_node-requires
form_each-form_node-requires t c =
    let size = popped_size c.loop-node.left.items c.pop.new.self.items c.in-Some.node c.in-Some.ensures.items in omega (arith, c.decreases, c.loop-node.invariant.size, size)

pub form_each-loop-node-preserved : goal.form_each-loop-node-preserved
form_each-loop-node-preserved t c =
    let size = popped_size c.loop-node.left.items c.pop.new.self.items c.in-Some.node c.in-Some.ensures.items in record {
      trees = each_next c.loop-node.left.items c.pop.new.self.items c.loop-node.made.items c.push.new.self.items c.in-Some.node c.in_ok-form_node.field-0 _ c.in-Some.ensures.items c.in_ok-push.ensures.items c.in_ok-form_node.ensures.tree c.loop-node.invariant.trees;
      plans = L.each_next c.loop-node.left.items c.pop.new.self.items c.loop-node.made.items c.push.new.self.items c.in-Some.node c.in_ok-form_node.field-0 _ c.in-Some.ensures.items c.in_ok-push.ensures.items c.in_ok-form_node.ensures.plan c.loop-node.invariant.plans;
      size = omega (arith, c.loop-node.invariant.size, size);
    }

pub form_each-returns-clause-trees : goal.form_each-returns-clause-trees
form_each-returns-clause-trees t c =
    ap trees_of c.reverse.ensures.items ∙ each_done c.loop-node.left.items c.loop-node.made.items _ (omega (arith, c.in_default.ensures.cases.0)) c.loop-node.invariant.trees

pub form_each-returns-clause-plans : goal.form_each-returns-clause-plans
form_each-returns-clause-plans t c =
    ap plans_of c.reverse.ensures.items ∙ L.each_done c.loop-node.left.items c.loop-node.made.items _ (omega (arith, c.in_default.ensures.cases.0)) c.loop-node.invariant.plans

-- ---- a term

pub form_term-form_each-requires : goal.form_term-form_each-requires
form_term-form_each-requires t c = omega (arith, c.decreases, call_smaller c.args.term c.in-Call.path c.in-Call.args c.in-Call.args.items c.in-Call.is refl)

pub form_term-form_each-requires-in-Form : goal.form_term-form_each-requires-in-Form
form_term-form_each-requires-in-Form t c = omega (arith, c.decreases, form_smaller c.args.term c.in-Form.op c.in-Form.args c.in-Form.body c.in-Form.args.items c.in-Form.body.items c.in-Form.is refl refl)

pub form_term-form_body-requires : goal.form_term-form_body-requires
form_term-form_body-requires t c = omega (arith, c.decreases, form_smaller c.args.term c.in-Form.op c.in-Form.args c.in-Form.body c.in-Form.args.items c.in-Form.body.items c.in-Form.is refl refl)

pub form_term-returns-in_ok-args-in-Call-clause-tree : goal.form_term-returns-in_ok-args-in-Call-clause-tree
form_term-returns-in_ok-args-in-Call-clause-tree t c at = call_formed at c.args.term c.in-Call.path c.in-Call.args _ c.in-Call.is c.in_ok-args-in-Call.ensures.trees

pub form_term-returns-in_ok-args-in-Call-clause-plan : goal.form_term-returns-in_ok-args-in-Call-clause-plan
form_term-returns-in_ok-args-in-Call-clause-plan t c = L.call_formed c.args.term c.in-Call.path c.in-Call.args _ c.in-Call.is c.in_ok-args-in-Call.ensures.plans

pub form_term-returns-in_ok-body-in-Form-clause-tree : goal.form_term-returns-in_ok-body-in-Form-clause-tree
form_term-returns-in_ok-body-in-Form-clause-tree t c at = form_formed at c.args.term c.in-Form.op c.in-Form.args c.in-Form.body _ _ c.in-Form.is c.in_ok-args-in-Form.ensures.trees c.in_ok-body-in-Form.ensures.trees

pub form_term-returns-in_ok-body-in-Form-clause-plan : goal.form_term-returns-in_ok-body-in-Form-clause-plan
form_term-returns-in_ok-body-in-Form-clause-plan t c = L.form_formed c.args.term c.in-Form.op c.in-Form.args c.in-Form.body _ _ c.in-Form.is c.in_ok-args-in-Form.ensures.plans c.in_ok-body-in-Form.ensures.plans

pub form_term-returns-in_default-clause-tree : goal.form_term-returns-in_default-clause-tree
form_term-returns-in_default-clause-tree t c at = other_formed at c.args.term c.in_default.not-Call c.in_default.not-Form

pub form_term-returns-in_default-clause-plan : goal.form_term-returns-in_default-clause-plan
form_term-returns-in_default-clause-plan t c = L.other_formed c.args.term c.in_default.not-Call c.in_default.not-Form
