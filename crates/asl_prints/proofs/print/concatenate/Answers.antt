use Rattle.std.proofs.Common.{refl, [], ◌∷◌, ◌++◌, ap, ◌∙◌}
use Rattle.asl_prints.specs.Nodes.{node_tree}
use Rattle.asl_prints.specs.PlanParts.{placed}
use Rattle.asl_prints.proofs.Writes.{concatenate_pushed}
use Rattle.asl_prints.proofs.PlanWrites as L
use Rattle.asl_prints.specs.Numbers.{numbers_of}
use Rattle.asl_prints.proofs.PrintNumbers.{concatenate_has, pushed_three}
use Rattle.asl_prints.proofs.print.concatenate.Goals as goal

pub returns-clause-tree : goal.returns-clause-tree
returns-clause-tree c h k =
    concatenate_pushed (node_tree c.operator.result) c.args.first c.args.second _ c.in_ok-args.args.items c.push.new.self.items c.push-2.new.self.items c.push-3.new.self.items c.operator.ensures.tree c.in_ok-args.ensures.items c.in_ok-push.ensures.items c.in_ok-push-2.ensures.items c.in_ok-push-3.ensures.items refl h k

pub returns-clause-plan : goal.returns-clause-plan
returns-clause-plan c h =
    L.concatenate_pushed c.args.place (placed c.operator.result) c.args.first c.args.second _ c.in_ok-args.args.items c.push.new.self.items c.push-2.new.self.items c.push-3.new.self.items c.operator.ensures.plan c.in_ok-args.ensures.items c.in_ok-push.ensures.items c.in_ok-push-2.ensures.items c.in_ok-push-3.ensures.items refl refl h

pub returns-clause-numbers : goal.returns-clause-numbers
returns-clause-numbers c front behind =
    concatenate_has c.args.numbers.now.down c.args.numbers.now.up c.next_down-id.new.numbers c.args.first c.args.second c.operator.result (numbers_of c.push-3.new.self.items) front behind
    (c.next_down-id.ensures.down ∙ c.next_up.ensures.down) (c.next_down-id.ensures.up ∙ c.next_up.ensures.up)
    (c.operator.ensures.numbers ∙ ap (λ n. n ∷ numbers_of c.push-3.new.self.items) (c.next_down-id.ensures.id ∙ c.next_up.ensures.down))
    (pushed_three c.args.first c.args.second _ c.in_ok-args.args.items c.push.new.self.items c.push-2.new.self.items c.push-3.new.self.items c.in_ok-args.ensures.items c.in_ok-push.ensures.items c.in_ok-push-2.ensures.items c.in_ok-push-3.ensures.items refl
    ∙ ap (λ n. numbers_of (c.args.first ∷ []) ++ (numbers_of (c.args.second ∷ []) ++ n ∷ [])) c.next_up.ensures.id)
