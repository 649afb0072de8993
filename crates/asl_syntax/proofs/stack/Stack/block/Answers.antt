use Rattle.std.proofs.Common.{List, ap, ◌∙◌, Option}
use Rattle.asl_syntax.specs.declared.raw.Raw.{Raw}
use Rattle.asl_syntax.specs.declared.subtree.Subtrees.{Subtrees}
use Rattle.asl_syntax.specs.declared.frame.Frame.{Frame}
use Rattle.asl_syntax.specs.Grow.{item_raw, some_raws, raws_given, levels_given, merged}
use Rattle.asl_syntax.proofs.Stacks.{block_item}
use Rattle.asl_syntax.proofs.stack.Stack.block.Goals as goal

pub returns-clause-tree : goal.returns-clause-tree
returns-clause-tree c =
    let raw = c.item_raw.ensures ∙ ap (λ (x : Option (Option (List Raw))). item_raw c.args.spot c.args.word x c.given.result) c.in_ok-args.ensures.raws
    ∙ ap (λ (x : Option (Option (List Raw))). item_raw c.args.spot c.args.word (raws_given c.args.args) x) (c.given.ensures ∙ ap some_raws c.in_ok-body.ensures.raws) in
    c.in_ok-put.ensures.tree
    ∙ block_item c.args.spot c.args.word c.args.args c.args.self.now.0 c.item_raw.result c.go_behind.new.self.0.levels raw
    (c.in_ok-args.ensures.levels ∙ ap (λ (v : Subtrees × List Frame). merged (levels_given c.args.args) v.0.levels) c.in_ok-body.ensures.rest)
