use Rattle.std.proofs.Common.{refl, ap, ◌∙◌, arith}
use Rattle.asl_tree.specs.View.{trees_of}
use Rattle.name_spelling.proofs.Turns.{put_there, put_last}
use Rattle.name_spelling.proofs.spell.put_number.Goals as goal

pub returns-then-place-len : goal.returns-then-place-len
returns-then-place-len c = put_there c.args.nodes.now.items c.args.place c.args.number _ (omega (arith, c.if-place-len.true, c.len.ensures)) refl

pub returns-in_ok-push : goal.returns-in_ok-push
returns-in_ok-push c =
    ap trees_of c.in_ok-push.ensures.items
    ∙ put_last c.args.nodes.now.items c.args.place c.args.number _ (omega (arith, c.if-place-len.false, c.len.ensures)) refl
