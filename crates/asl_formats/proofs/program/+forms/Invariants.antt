use Rattle.std.proofs.Common.{◌≡◌, ◌≤◌, ◌+◌, ◌*◌, length}
use Rattle.asl_tree.specs.View.{trees_of}
use Rattle.term_plans.specs.Plans.{join, plans_of}
use Rattle.asl_prints.specs.Forms.{followed, formed_args}
use Rattle.asl_prints.specs.Nodes.{nodes_size, term_size}
use Rattle.asl_formats.specs.Pass.{backwards}
use Rattle.asl_prints.specs.Plans as P
use Rattle.asl_formats.specs.PlanPass.{backward_plans}
use Rattle.asl_formats.proofs.program.+forms.Given as goal

abbrev pub invariant-form_each-loop-node : goal.invariant-form_each-loop-node
invariant-form_each-loop-node l = record {
  trees : followed (formed_args (trees_of l.left.items)) (backwards l.made.items) ≡ formed_args (trees_of l.fn.nodes.items);
  plans : join (P.formed_args (plans_of l.left.items)) (backward_plans l.made.items) ≡ P.formed_args (plans_of l.fn.nodes.items);
  size : nodes_size l.left.items ≤ nodes_size l.fn.nodes.items;
}

abbrev pub decreases-form_each-loop-node : goal.decreases-form_each-loop-node
decreases-form_each-loop-node l = length l.left.items

abbrev pub decreases-form_all : goal.decreases-form_all
decreases-form_all l = 16 * (nodes_size l.terms.items) + 2

abbrev pub decreases-form_each : goal.decreases-form_each
decreases-form_each l = 16 * (nodes_size l.nodes.items) + 1

abbrev pub decreases-form_node : goal.decreases-form_node
decreases-form_node l = 16 * (term_size l.node.term) + 15

abbrev pub decreases-form_term : goal.decreases-form_term
decreases-form_term l = 16 * (term_size l.term) + 14

abbrev pub decreases-form_body : goal.decreases-form_body
decreases-form_body l = 16 * (nodes_size l.body.items) + 3
