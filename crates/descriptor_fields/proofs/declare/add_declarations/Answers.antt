use Rattle.std.proofs.Common.{ap, ◌∙◌, arith}
use Rattle.term_plans.specs.Plans.{plans_of, join}
use Rattle.descriptor_fields.specs.Declaring.{alone}
use Rattle.descriptor_fields.proofs.Walks.{begin_declared, next_declared, last_declared}
use Rattle.descriptor_fields.proofs.declare.add_declarations.Goals as goal

pub loop-named-init : goal.loop-named-init
loop-named-init c = begin_declared (plans_of c.args.nodes.now.items) c.args.names.items c.reverse.new.self.items c.reverse.ensures.items

pub loop-named-preserved : goal.loop-named-preserved
loop-named-preserved c =
    next_declared (plans_of c.loop-named.nodes.items) (plans_of c.push.new.nodes.items) _ c.loop-named.left.items c.pop.new.self.items c.in-Some.named c.in-Some.ensures.items
    (c.in_ok-push.ensures ∙ ap (λ p. join (plans_of c.loop-named.nodes.items) (alone c.in-Some.named.place p)) c.in_ok-declaration.ensures) c.loop-named.invariant

pub returns : goal.returns
returns c = last_declared (plans_of c.loop-named.nodes.items) _ c.loop-named.left.items (omega (arith, c.in_default.ensures.cases.0)) c.loop-named.invariant
