use Rattle.std.proofs.Common.{◌∷◌, List, reverse, ap, sym, subst, ◌∙◌, refl}
use Rattle.asl_syntax.specs.declared.subtree.Subtrees.{Subtrees}
use Rattle.asl_syntax.specs.declared.open.FrameGroup.{FrameGroup}
use Rattle.asl_syntax.specs.declared.frame.Frame.{Frame}
use Rattle.asl_syntax.specs.Grow.{no_subtrees}
use Rattle.asl_syntax.specs.Opens.{IsOne, tree_of, added, lists}
use Rattle.asl_syntax.proofs.Stacks.{kind_is, frames_added, nothing_held}
use Rattle.asl_syntax.proofs.stack.Stack.add.Goals as goal

pub returns : goal.returns
returns c =
    let i = c.self.inside in let os = reverse i.outer.items in let g : FrameGroup = record { start = i.innermost.group.start; kept = c.both-group.result; levels = c.join.new.self } in
    let lists_is = ap lists (kind_is i.nodes.items i.hand i.innermost os c.args.self.now c.self.view_is) ∙ c.requires.lists in
    let one = subst (λ (v : Subtrees × List Frame). IsOne v.0) (sym c.self.view_is) c.requires.one in
    let kept_is = rw c.replace-kept.ensures.value at c.both-group.ensures in
    let levels_is = rw c.replace-kept.ensures.value at c.in_ok-join.ensures in
    nothing_held i.nodes.items c.replace-kept.new.dest (record { kind = i.innermost.kind; group = g } ∷ os) (ap (λ (x : FrameGroup). x.start) c.replace-kept.ensures.after ∙ c.new.ensures.start ∙ c.count-start.ensures) (ap (λ (x : FrameGroup). x.kept) c.replace-kept.ensures.after ∙ c.new.ensures.kept) (ap (λ (x : FrameGroup). x.levels) c.replace-kept.ensures.after ∙ c.new.ensures.levels)
    ∙ ap (λ (fs : List Frame). (no_subtrees, fs)) (frames_added i.nodes.items i.hand g i.innermost os i.depth c.self.invariant lists_is one refl kept_is levels_is)
    ∙ ap (λ (v : Subtrees × List Frame). (no_subtrees, added (tree_of v.0) v.1)) c.self.view_is
