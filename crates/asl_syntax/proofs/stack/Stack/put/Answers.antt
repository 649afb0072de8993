use Rattle.std.proofs.Common.{List, ap, ◌++◌, ◌∙◌}
use Rattle.std.specs.Prelude.{nat_le}
use Rattle.std.specs.Option.{option_to_list}
use Rattle.asl_syntax.specs.declared.raw.Raw.{Raw}
use Rattle.asl_syntax.specs.declared.subtree.Subtrees.{Subtrees}
use Rattle.asl_syntax.specs.declared.frame.Frame.{Frame}
use Rattle.asl_syntax.specs.Grow.{cut, limit, node_over}
use Rattle.asl_syntax.proofs.Stacks.{put_raw, put_tree}
use Rattle.asl_syntax.proofs.stack.Stack.put.Goals as goal

pub returns-clause-tree : goal.returns-clause-tree
returns-clause-tree c =
    let i = c.self.inside in let node = cut (nat_le c.len-low.result limit) c.args.raw in
    let nodes = c.in_ok-self-inside.ensures.nodes ∙ ap (λ (us : List Raw). us ++ option_to_list node) c.truncate.ensures.items in
    let raw = put_raw i.hand.start i.nodes.items c.keep.new.nodes.items c.in_ok-self-inside.field-0 node c.self.invariant.held c.in_ok-self-inside.ensures.kept nodes in
    put_tree c.args.first c.args.raw _ c.len-low.result i.hand.levels c.cover.new.self c.len-low.ensures raw c.in_ok-cover.ensures
    ∙ ap (λ (v : Subtrees × List Frame). node_over c.args.first c.args.raw v.0.levels) c.self.view_is
