use Rattle.std.proofs.Common.{refl, arith}
use Rattle.asl_numbers.proofs.Trees.{form_inside}
use Rattle.descriptor_fields.specs.Declaring.{stripped, kept}
use Rattle.descriptor_fields.proofs.Walks.{popped_count, reversed_count, begin_each, next_each, end_each}
use Rattle.descriptor_fields.proofs.strip.+strip.Goals as goal

pub stripped-loop-node-init : goal.stripped-loop-node-init
stripped-loop-node-init t c = record {
  plans = begin_each stripped kept refl (λ place p ps. refl) c.args.nodes.items c.reverse.new.self.items c.new-out.result.items c.reverse.ensures.items c.new-out.ensures.items;
  size = omega (arith, reversed_count c.args.nodes.items c.reverse.new.self.items c.reverse.ensures.items);
}

pub stripped-add_term-requires : goal.stripped-add_term-requires
stripped-add_term-requires t c =
    let size = popped_count c.loop-node.left.items c.pop.new.self.items c.in-Some.node c.in-Some.ensures.items in omega (arith, c.decreases, c.loop-node.invariant.size, size)

pub stripped-loop-node-preserved : goal.stripped-loop-node-preserved
stripped-loop-node-preserved t c =
    let size = popped_count c.loop-node.left.items c.pop.new.self.items c.in-Some.node c.in-Some.ensures.items in record {
      plans = next_each stripped kept refl (λ place p ps. refl) c.loop-node.left.items c.pop.new.self.items c.loop-node.out.items c.add_term.new.out.items c.in-Some.node _ c.in-Some.ensures.items c.in_ok-add_term.ensures c.loop-node.invariant.plans;
      size = omega (arith, c.loop-node.invariant.size, size);
    }

pub stripped-returns : goal.stripped-returns
stripped-returns t c = end_each stripped kept refl (λ place p ps. refl) c.loop-node.left.items c.loop-node.out.items _ (omega (arith, c.in_default.ensures.cases.0)) c.loop-node.invariant.plans

pub close-stripped-requires : goal.close-stripped-requires
close-stripped-requires t c = omega (arith, c.decreases, form_inside c.args.term c.in-Form.op c.in-Form.args c.in-Form.body c.in-Form.is)
