use Rattle.std.proofs.Common.{List, ap, ◌∙◌, Option, Some, None}
use Rattle.asl_syntax.specs.declared.raw.Raw.{Raw}
use Rattle.asl_syntax.specs.declared.subtree.Subtrees.{Subtrees}
use Rattle.asl_syntax.specs.declared.frame.Frame.{Frame}
use Rattle.asl_syntax.specs.Grow.{item_raw, some_raws}
use Rattle.asl_syntax.proofs.Stacks.{called_item}
use Rattle.asl_syntax.proofs.stack.Stack.call.Goals as goal

pub returns-clause-tree : goal.returns-clause-tree
returns-clause-tree c =
    let raw = c.item_raw.ensures ∙ ap (λ (x : Option (Option (List Raw))). item_raw c.args.spot c.args.word x (Some None)) c.given.ensures
    ∙ ap (λ (x : Option (List Raw)). item_raw c.args.spot c.args.word (some_raws x) (Some None)) c.in_ok-args.ensures.raws in
    c.in_ok-put.ensures.tree ∙ called_item c.args.spot c.args.word c.args.self.now.0 c.item_raw.result c.take_raws.new.self.0.levels raw (ap (λ (v : Subtrees × List Frame). v.0.levels) c.in_ok-args.ensures.rest)
