use Rattle.std.proofs.Common.{sym, ap, ◌∙◌, drop, ◌≡◌, ◌+◌, ◌%◌, [], ◌∷◌, arith}
use Rattle.asl_tree.specs.View.{trees_of}
use Rattle.term_plans.specs.Plans.{plans_of}
use Rattle.asl_prints.specs.Nodes.{node_tree}
use Rattle.asl_prints.specs.PlanParts.{placed}
use Rattle.asl_prints.specs.Texts.{all_texts}
use Rattle.asl_prints.proofs.Writes.{value_made}
use Rattle.asl_prints.proofs.PlanWrites as L
use Rattle.asl_prints.specs.Numbers.{number_behind}
use Rattle.asl_prints.specs.PrintNumbers.{joins}
use Rattle.asl_prints.proofs.PrintNumbers.{value_has, down_to}
use Rattle.asl_prints.proofs.print.value.Goals as goal

pub returns-in-len1-up-clause-tree : goal.returns-in-len1-up-clause-tree
returns-in-len1-up-clause-tree c =
    value_made (node_tree c.in_ok-node-in-len1-up.node) (node_tree c.text_node-front.result) c.args.format.now c.first-item.result c.in_ok-first-in-len1-up.first c.as_slice.result.now c.other_texts-behind.result.now (trees_of c.args.args.now)
    (c.as_slice.ensures.value ∙ c.in_ok-texts.ensures ∙ ap all_texts c.as_bytes.ensures) c.in-len1-up.len_at_least c.first-item.is (c.in_ok-first-in-len1-up.ensures ∙ c.as_bytes-in-len1-up.ensures)
    (c.other_texts-behind.ensures ∙ ap (drop 1) (c.as_slice-in-len1-up.ensures.value ∙ sym c.as_slice.ensures.value)) c.text_node-front.ensures.tree c.in_ok-node-in-len1-up.ensures.tree

pub returns-in-len1-up-clause-plan : goal.returns-in-len1-up-clause-plan
returns-in-len1-up-clause-plan c =
    L.value_made c.args.place (placed c.in_ok-node-in-len1-up.node) c.text_node-front.result c.args.format.now c.first-item.result c.in_ok-first-in-len1-up.first c.as_slice.result.now c.other_texts-behind.result.now (plans_of c.args.args.now)
    (c.as_slice.ensures.value ∙ c.in_ok-texts.ensures ∙ ap all_texts c.as_bytes.ensures) c.in-len1-up.len_at_least c.first-item.is (c.in_ok-first-in-len1-up.ensures ∙ c.as_bytes-in-len1-up.ensures)
    (c.other_texts-behind.ensures ∙ ap (drop 1) (c.as_slice-in-len1-up.ensures.value ∙ sym c.as_slice.ensures.value)) c.text_node-front.ensures.plan c.in_ok-node-in-len1-up.ensures.plan

pub returns-in-len1-up-clause-numbers : goal.returns-in-len1-up-clause-numbers
returns-in-len1-up-clause-numbers c =
    let old = c.text_node-front.new.numbers in
    let start : (c.args.id + c.count-count.result) % 4294967296 ≡ number_behind old.down = omega (arith, c.text_node-front.ensures.down, c.ranges.id.fits) in
    let down = down_to c.args.id c.count-count.result (joins c.other_texts-behind.result.now c.args.args.now) old.down c.joined.new.numbers.down c.ranges.id.fits c.count-count.ensures (sym start) c.in_ok-node-in-len1-up.ensures.down in
    value_has c.args.id old c.joined.new.numbers c.text_node-front.result c.in_ok-node-in-len1-up.node c.args.format.now c.first-item.result c.as_slice.result.now c.other_texts-behind.result.now c.args.args.now
    (c.as_slice.ensures.value ∙ c.in_ok-texts.ensures ∙ ap all_texts c.as_bytes.ensures) c.in-len1-up.len_at_least c.first-item.is (c.other_texts-behind.ensures ∙ ap (drop 1) (c.as_slice-in-len1-up.ensures.value ∙ sym c.as_slice.ensures.value))
    (c.text_node-front.ensures.numbers ∙ ap (λ n. n ∷ []) start) (c.text_node-front.ensures.up ∙ ap number_behind start) down c.in_ok-node-in-len1-up.ensures.numbers
