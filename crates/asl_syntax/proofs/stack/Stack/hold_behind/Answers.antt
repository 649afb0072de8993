use Rattle.std.proofs.Common.{◌∷◌, List, reverse, ap, ◌∙◌, refl}
use Rattle.asl_syntax.specs.declared.subtree.Subtrees.{Subtrees}
use Rattle.asl_syntax.specs.declared.open.FrameGroup.{FrameGroup}
use Rattle.asl_syntax.specs.declared.frame.Frame.{Frame}
use Rattle.asl_syntax.specs.Grow.{leaf, joined}
use Rattle.asl_syntax.proofs.Stacks.{held_behind}
use Rattle.asl_syntax.proofs.stack.Stack.hold_behind.Goals as goal

pub returns : goal.returns
returns c =
    let i = c.self.inside in
    let g : FrameGroup = record { start = i.hand.start; kept = i.hand.kept; levels = c.join_one.new.self } in
    held_behind i.nodes.items c.push.new.nodes.items i.hand g (i.innermost ∷ reverse i.outer.items) c.args.first c.args.raw c.self.invariant.held c.in_ok-push.ensures.items refl refl c.join_one.ensures
    ∙ ap (λ (v : Subtrees × List Frame). (joined v.0 (leaf c.args.first c.args.raw), v.1)) c.self.view_is
