use Rattle.std.proofs.Common.{◌≡◌, ◌∷◌, List, reverse, take, ap, sym, subst, ◌∙◌}
use Rattle.std.specs.Prelude.{◌&&◌}
use Rattle.asl_syntax.specs.declared.subtree.Subtrees.{Subtrees}
use Rattle.asl_syntax.specs.declared.open.FrameGroup.{FrameGroup}
use Rattle.asl_syntax.specs.declared.frame.Frame.{Frame}
use Rattle.asl_syntax.specs.Grow.{joined, merged}
use Rattle.asl_syntax.specs.Opens.{IsOne, tree_of, done_of, around, has_trees, weight, frames_of, trees_of}
use Rattle.asl_syntax.proofs.Stacks.{kind_is, weighs_as, stack_left, frames_left, joined_left}
use Rattle.asl_syntax.proofs.stack.Stack.end_with.Goals as goal

pub invariant_of-self : goal.invariant_of-self
invariant_of-self c =
    let i = c.self.inside in let q = c.take_off-kind.result in let os = reverse i.outer.items in let taken = c.take_off-kind.ensures.taken in
    let g : FrameGroup = record { start = c.replace-last.new.dest.start; kept = c.replace-last.new.dest.kept; levels = c.join.new.self } in
    let has = ap has_trees (kind_is i.nodes.items i.hand i.innermost os c.args.self.now c.self.view_is) ∙ c.requires.trees in
    rw c.weight.ensures (stack_left i.nodes.items i.hand g i.innermost q os (c.take_off-kind.new.innermost ∷ reverse c.take_off-kind.new.outer.items) i.depth (weight q.kind) c.self.invariant taken (ap (λ (x : FrameGroup). x.start) c.replace-last.ensures.after) c.take_off-kind.ensures.rest (weighs_as i.innermost q os taken has))

pub invariant_of-self-2 : goal.invariant_of-self-2
invariant_of-self-2 c =
    let i = c.self.inside in let q = c.take_off-kind.result in let os = reverse i.outer.items in let taken = c.take_off-kind.ensures.taken in
    let g : FrameGroup = record { start = c.replace-last.new.dest.start; kept = c.replace-last.new.dest.kept; levels = c.join.new.self } in
    let has = ap has_trees (kind_is i.nodes.items i.hand i.innermost os c.args.self.now c.self.view_is) ∙ c.requires.trees in
    rw c.weight.ensures (stack_left i.nodes.items i.hand g i.innermost q os (c.take_off-kind.new.innermost ∷ reverse c.take_off-kind.new.outer.items) i.depth (weight q.kind) c.self.invariant taken (ap (λ (x : FrameGroup). x.start) c.replace-last.ensures.after) c.take_off-kind.ensures.rest (weighs_as i.innermost q os taken has))

pub returns-clause-stack : goal.returns-clause-stack
returns-clause-stack c =
    let i = c.self.inside in let q = c.take_off-kind.result in let os = reverse i.outer.items in let taken = c.take_off-kind.ensures.taken in
    let g : FrameGroup = record { start = c.replace-last.new.dest.start; kept = c.replace-last.new.dest.kept; levels = c.join.new.self } in
    let news = c.take_off-kind.new.innermost ∷ reverse c.take_off-kind.new.outer.items in
    let has = ap has_trees (kind_is i.nodes.items i.hand i.innermost os c.args.self.now c.self.view_is) ∙ c.requires.trees in
    let one = subst (λ (v : Subtrees × List Frame). IsOne v.0) (sym c.self.view_is) c.requires.one in
    let start = ap (λ (x : FrameGroup). x.start) c.replace-last.ensures.after in
    let kept_is : g.kept ≡ (q.group.kept && i.hand.kept) = ap (λ (x : FrameGroup). x.kept) c.replace-last.ensures.after ∙ c.both.ensures in
    let levels_is : g.levels ≡ merged q.group.levels i.hand.levels = c.in_ok-join.ensures ∙ ap (λ (x : FrameGroup). merged x.levels c.replace-last.result.levels) c.replace-last.ensures.after ∙ ap (λ (x : FrameGroup). merged q.group.levels x.levels) c.replace-last.ensures.value in
    ap (λ (t : Subtrees). (t, frames_of news (take g.start i.nodes.items))) (joined_left i.nodes.items i.hand g i.innermost q os i.depth c.self.invariant taken has one start kept_is levels_is)
    ∙ ap (λ (fs : List Frame). (joined (done_of (frames_of (i.innermost ∷ os) (take i.hand.start i.nodes.items))) (tree_of (trees_of i.hand i.nodes.items)), fs)) (frames_left i.nodes.items i.hand g i.innermost q os news i.depth c.self.invariant taken start c.take_off-kind.ensures.rest has)
    ∙ ap (λ (v : Subtrees × List Frame). (joined (done_of v.1) (tree_of v.0), around v.1)) c.self.view_is
