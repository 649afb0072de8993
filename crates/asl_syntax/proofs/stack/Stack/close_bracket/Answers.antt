use Rattle.std.proofs.Common.{◌∷◌, List, reverse, ap, ◌∙◌, refl}
use Rattle.asl_syntax.specs.declared.subtree.Subtrees.{Subtrees}
use Rattle.asl_syntax.specs.declared.frame.Frame.{Frame}
use Rattle.asl_syntax.specs.Opens.{around, trees_of}
use Rattle.asl_syntax.proofs.Stacks.{kind_is, weighs_one, stack_left, frames_unbracketed, bracket_start}
use Rattle.asl_syntax.proofs.stack.Stack.close_bracket.Goals as goal

pub invariant_of-self : goal.invariant_of-self
invariant_of-self c =
    let i = c.self.inside in let os = reverse i.outer.items in
    let bracket = kind_is i.nodes.items i.hand i.innermost os c.args.self.now c.self.view_is ∙ c.requires in
    stack_left i.nodes.items i.hand i.hand i.innermost i.innermost os (c.take_off.new.innermost ∷ reverse c.take_off.new.outer.items) i.depth 1 c.self.invariant refl (bracket_start i.nodes.items i.hand i.innermost os i.depth c.self.invariant bracket) c.take_off.ensures.rest (weighs_one i.innermost os bracket)

pub returns : goal.returns
returns c =
    let i = c.self.inside in let os = reverse i.outer.items in
    let bracket = kind_is i.nodes.items i.hand i.innermost os c.args.self.now c.self.view_is ∙ c.requires in
    let start = bracket_start i.nodes.items i.hand i.innermost os i.depth c.self.invariant bracket in
    ap (λ (fs : List Frame). (trees_of i.hand i.nodes.items, fs)) (frames_unbracketed i.nodes.items i.hand i.innermost os (c.take_off.new.innermost ∷ reverse c.take_off.new.outer.items) i.depth c.self.invariant start c.take_off.ensures.rest bracket)
    ∙ ap (λ (v : Subtrees × List Frame). (v.0, around v.1)) c.self.view_is
