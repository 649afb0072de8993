use Rattle.std.proofs.Common.{◌≡◌, ◌∷◌, List, reverse, true, take, ap, ◌∙◌, refl}
use Rattle.asl_syntax.specs.declared.subtree.Subtrees.{Subtrees}
use Rattle.asl_syntax.specs.declared.frame.Frame.{Frame}
use Rattle.asl_syntax.specs.Opens.{done_of, around, has_trees, weight, frames_of}
use Rattle.asl_syntax.proofs.Stacks.{kind_is, weighs_as, stack_left, frames_left, done_left}
use Rattle.asl_syntax.proofs.stack.Stack.end.Goals as goal

has : (c : goal.After-drop-self-inside) → has_trees c.self.inside.innermost.kind ≡ true
has c = ap has_trees (kind_is c.self.inside.nodes.items c.self.inside.hand c.self.inside.innermost (reverse c.self.inside.outer.items) c.args.self.now c.self.view_is) ∙ c.requires.trees

pub invariant_of-self : goal.invariant_of-self
invariant_of-self c =
    let i = c.self.inside in let q = c.take_off-kind.result in let os = reverse i.outer.items in
    rw c.weight.ensures (stack_left i.nodes.items i.hand q.group i.innermost q os (c.take_off-kind.new.innermost ∷ reverse c.take_off-kind.new.outer.items) i.depth (weight q.kind) c.self.invariant c.take_off-kind.ensures.taken refl c.take_off-kind.ensures.rest (weighs_as i.innermost q os c.take_off-kind.ensures.taken (has c)))

pub returns-clause-stack : goal.returns-clause-stack
returns-clause-stack c =
    let i = c.self.inside in let q = c.take_off-kind.result in let os = reverse i.outer.items in
    let news = c.take_off-kind.new.innermost ∷ reverse c.take_off-kind.new.outer.items in
    let around_is = frames_left i.nodes.items i.hand q.group i.innermost q os news i.depth c.self.invariant c.take_off-kind.ensures.taken refl c.take_off-kind.ensures.rest (has c) in
    let none = ap (λ (v : Subtrees × List Frame). v.0) c.self.view_is ∙ c.requires.none in
    let done_is = done_left i.nodes.items i.hand i.innermost q os i.depth c.self.invariant c.take_off-kind.ensures.taken (has c) none in
    ap (λ (t : Subtrees). (t, frames_of news (take q.group.start i.nodes.items))) done_is
    ∙ ap (λ (fs : List Frame). (done_of (frames_of (i.innermost ∷ os) (take i.hand.start i.nodes.items)), fs)) around_is
    ∙ ap (λ (v : Subtrees × List Frame). (done_of v.1, around v.1)) c.self.view_is
