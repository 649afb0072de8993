use Rattle.std.proofs.Common.{◌++◌, [], ◌∷◌, None, append_assoc, refl, ap, ◌∙◌}
use Rattle.term_plans.specs.Plans.{plan_of}
use Rattle.descriptor_fields.specs.Nodes.{entries_inside, entries_among}
use Rattle.descriptor_fields.proofs.Walks.{next_in, last_in}
use Rattle.descriptor_fields.proofs.nodes.+named.Goals as goal

pub add_among-loop-node-preserved : goal.add_among-loop-node-preserved
add_among-loop-node-preserved t c =
    let terms = c.args.terms in
    let own = c.loop-node.own in
    let inner = entries_inside terms (plan_of c.node-item.result.term) in
    next_in (entries_among terms own) (entries_among terms None) (λ p. own ∷ entries_inside terms p) (λ place p ps. refl) c.loop-node.named.items c.add_inside.new.named.items _ c.args.nodes.now c.loop-node.node-index c.node-item.result c.loop-node-test.true c.node-item.is
    (c.in_ok-add_inside.ensures ∙ ap (λ xs. xs ++ inner) c.in_ok-push.ensures.items ∙ append_assoc c.loop-node.named.items (own ∷ []) inner) c.loop-node.invariant

pub add_among-returns : goal.add_among-returns
add_among-returns t c = last_in (entries_among c.args.terms c.loop-node.own) c.loop-node.named.items _ c.args.nodes.now c.loop-node.node-index refl c.loop-node-test.false c.loop-node.invariant
