use Rattle.std.proofs.Common.{◌∷◌, List, reverse, ap, ◌∙◌, refl}
use Rattle.asl_syntax.specs.declared.subtree.Subtrees.{Subtrees}
use Rattle.asl_syntax.specs.declared.open.FrameGroup.{FrameGroup}
use Rattle.asl_syntax.specs.declared.frame.Frame.{Frame}
use Rattle.asl_syntax.specs.Grow.{leaf, no_subtrees}
use Rattle.asl_syntax.specs.Opens.{added, lists}
use Rattle.asl_syntax.proofs.Stacks.{kind_is, frames_appended, kept_true, nothing_held}
use Rattle.asl_syntax.proofs.stack.Stack.append.Goals as goal

pub returns : goal.returns
returns c =
    let i = c.self.inside in let os = reverse i.outer.items in let nodes = c.push.new.nodes.items in
    let g : FrameGroup = record { start = i.innermost.group.start; kept = i.innermost.group.kept; levels = c.join_one.new.self } in
    let hand : FrameGroup = record { start = c.count-self-inside.result; kept = i.hand.kept; levels = i.hand.levels } in
    let lists_is = ap lists (kind_is i.nodes.items i.hand i.innermost os c.args.self.now c.self.view_is) ∙ c.requires.lists in
    let none = ap (λ (v : Subtrees × List Frame). v.0) c.self.view_is ∙ c.requires.none in
    let kept_is = kept_true i.hand.kept _ (ap (λ (t : Subtrees). t.raws) none) in
    nothing_held nodes hand (record { kind = i.innermost.kind; group = g } ∷ os) c.count-self-inside.ensures kept_is (ap (λ (t : Subtrees). t.levels) none)
    ∙ ap (λ (fs : List Frame). (no_subtrees, fs)) (frames_appended i.nodes.items nodes i.hand g i.innermost os i.depth c.args.first c.args.raw c.self.invariant lists_is none c.in_ok-push.ensures.items refl refl c.join_one.ensures)
    ∙ ap (λ (v : Subtrees × List Frame). (no_subtrees, added (leaf c.args.first c.args.raw) v.1)) c.self.view_is
