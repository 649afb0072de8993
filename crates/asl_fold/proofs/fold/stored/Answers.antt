use Rattle.std.proofs.Common.{◌∙◌, ap, refl, arith, ◌∷◌, [], ◌++◌}
use Rattle.asl_tree.specs.declared.term.Node.{Node}
use Rattle.asl_tree.specs.declared.term.Term as D
use Rattle.asl_fold.proofs.Stored.{stored_some, stored_none}
use Rattle.asl_fold.proofs.fold.stored.Goals as goal

pub returns-in_ok-push-in-Some-clause-tree : goal.returns-in_ok-push-in-Some-clause-tree
returns-in_ok-push-in-Some-clause-tree c at =
    let number : Node = record { id = c.args.id; place = c.args.place; term = D.Integer c.args.number } in
    let alone = c.in_ok-push.ensures.items ∙ ap (λ nodes. nodes ++ number ∷ []) c.in_ok-all.ensures.items in
    stored_some at c.args.args.now.items c.pop.new.self.items c.push-in-Some.new.self.items c.in-Some.target number c.args.number _ c.in-Some.ensures.items
    (c.in_ok-push-in-Some.ensures.items ∙ ap (λ nodes. nodes ++ c.in-Some.target ∷ []) alone) refl (c.store.ensures.tree at)

pub returns-in-None-clause-tree : goal.returns-in-None-clause-tree
returns-in-None-clause-tree c at =
    let number : Node = record { id = c.args.id; place = c.args.place; term = D.Integer c.args.number } in
    let alone = c.in_ok-push.ensures.items ∙ ap (λ nodes. nodes ++ number ∷ []) c.in_ok-all.ensures.items in
    stored_none at c.args.args.now.items c.push.new.self.items number c.args.number _ (omega (arith, c.in-None.ensures.cases.0)) alone refl (c.store-in-None.ensures.tree at)
