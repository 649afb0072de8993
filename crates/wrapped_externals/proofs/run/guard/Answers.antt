use Rattle.std.proofs.Common.{◌∙◌, ◌++◌, ◌∷◌, [], ap, refl}
use Rattle.asl_tree.specs.declared.term.Op.TheVariants as O
use Rattle.asl_tree.specs.declared.term.Control.TheVariants as Control
use Rattle.asl_tree.specs.declared.term.Literal.TheVariants as Literal
use Rattle.asl_tree.specs.declared.term.Node.{Node}
use Rattle.asl_tree.specs.declared.term.Term as D
use Rattle.term_places.proofs.Places.{form_places}
use Rattle.wrapped_externals.proofs.Runs.{guard_tree}
use Rattle.wrapped_externals.proofs.run.guard.Goals as goal

pub returns-clause-tree : goal.returns-clause-tree
returns-clause-tree c at =
    let zero : Node = record { id = c.args.id; place = c.args.place; term = D.Form (O.Literal Literal.Zero) c.new.result c.new-2.result } in
    guard_tree at zero c.new.result c.new-2.result c.push.new.self c.args.body c.new.ensures.items c.new-2.ensures.items refl (c.in_ok-push.ensures.items ∙ ap (λ nodes. nodes ++ zero ∷ []) c.in_ok-args.ensures.items)

pub returns-clause-places : goal.returns-clause-places
returns-clause-places c = form_places (O.Control Control.If) c.push.new.self c.args.body
