use Rattle.std.proofs.Common.{◌≡◌, length, arith}
use Rattle.asl_tree.specs.View.{trees_of}
use Rattle.asl_fold.proofs.Sights.{fate_bare, fate_misfit}
use Rattle.asl_fold.proofs.fate.fate_in.Goals as goal

pub returns-then-is_empty : goal.returns-then-is_empty
returns-then-is_empty c =
    let empty : length c.args.body.now ≡ 0 = grind (arith, c.is_empty.ensures, c.if-is_empty.true) in
    fate_bare c.args.width c.args.statement c.args.op c.in-Number.number c.args.args.now c.args.body.now c.fate_of.result c.in-Number.is empty c.fate_of.ensures

pub returns-else-is_empty : goal.returns-else-is_empty
returns-else-is_empty c = fate_misfit c.args.width c.args.statement c.args.op (trees_of c.args.args.now) c.args.body.now (λ e. grind (arith, e, c.is_empty.ensures, c.if-is_empty.false))
