use Rattle.std.proofs.Common.{ap, ◌∙◌, ◌++◌, ◌∷◌, []}
use Rattle.resource_macros.specs.declared.node.Term as R
use Rattle.asl_shape.specs.Descriptors.{node}
use Rattle.asl_shape.proofs.Descriptors.{next_members, last_member}
use Rattle.asl_shape.proofs.resources.member_nodes.Goals as goal

pub loop-member-preserved : goal.loop-member-preserved
loop-member-preserved c = next_members c.loop-member.nodes.items c.push.new.self.items _ c.args.body.now c.loop-member.member-index c.member-item.result c.loop-member-test.true c.member-item.is (c.in_ok-push.ensures.items ∙ ap (λ n. c.loop-member.nodes.items ++ node c.member-item.result.place (R.Integer n) ∷ []) c.number_in.ensures) c.loop-member.invariant

pub returns : goal.returns
returns c = last_member c.loop-member.nodes.items _ c.args.body.now c.loop-member.member-index c.loop-member-test.false c.loop-member.invariant
