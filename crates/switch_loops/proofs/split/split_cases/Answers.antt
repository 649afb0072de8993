use Rattle.std.proofs.Common.{refl, sym, ap, ◌∙◌}
use Rattle.std.specs.Prelude.{not}
use Rattle.std.specs.List.{filter}
use Rattle.switch_loops.specs.Kinds.{default_node}
use Rattle.switch_loops.specs.Links.{first_default}
use Rattle.switch_loops.proofs.Splits.{split_none, split_default, split_case, earlier}
use Rattle.switch_loops.proofs.split.split_cases.Goals as goal

pub loop-node-init : goal.loop-node-init
loop-node-init c = let h = split_none c.args.nodes.items c.new-cases.result.items _ c.new-cases.ensures.items refl in record { cases = h.0; default = h.1 }

pub loop-node-preserved-then-is_default : goal.loop-node-preserved-then-is_default
loop-node-preserved-then-is_default c =
    let h = split_default c.loop-node.left.items c.pop.new.self.items c.loop-node.cases.items (filter (λ node. not (default_node node)) c.args.nodes.items) c.in-Some.node c.loop-node.default (first_default c.args.nodes.items) c.in-Some.ensures.items (sym c.is_default.ensures ∙ c.if-is_default.true) c.loop-node.invariant.cases c.loop-node.invariant.default in
    record { cases = h.0; default = ap (earlier c.pop.new.self.items) c.earlier-default.ensures ∙ h.1 }

pub loop-node-preserved : goal.loop-node-preserved
loop-node-preserved c =
    let h =
    split_case c.loop-node.left.items c.pop.new.self.items c.loop-node.cases.items c.push.new.self.items (filter (λ node. not (default_node node)) c.args.nodes.items) c.in-Some.node c.loop-node.default (first_default c.args.nodes.items) c.in-Some.ensures.items (sym c.is_default.ensures ∙ c.if-is_default.false) c.in_ok-push.ensures.items c.loop-node.invariant.cases c.loop-node.invariant.default in
    record { cases = h.0; default = h.1 }
